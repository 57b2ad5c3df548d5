-- Nodes that are made of others.
use Rattle.std.proofs.Common.{◌≡◌, ℕ, ◌<◌, List, length, refl, ap, ◌∙◌}
use Rattle.fourvec.specs.declared.Bit.{Bit}
use Rattle.fourvec.specs.Bits.{cond_of}
use Rattle.driver_resolve.specs.Drivers.{bitwise}
use Rattle.fourvec.proofs.Order.{both}
use Rattle.svex_shape.specs.declared.shape.Un.{Un}
use Rattle.svex_shape.specs.declared.shape.Bin.{Bin}
use Rattle.svex_shape.specs.declared.shape.Shape.{Shape}
use Rattle.svex_shape.specs.declared.shape.Shape.TheVariants.{Const, Unary, Binary, Cond}
use Rattle.svex_shape.specs.Shapes.{ChildrenBelow, width_of, width_at, unary_width, binary_width}
use Rattle.svex_shape.specs.Values.{value_of, value_at, each_variable_of, each_variable, unary_value, binary_value}
use Rattle.svex_arena.specs.Arenas.{IsArena, Interned, Extends}
use Rattle.svex_arena.proofs.Numbering.{map_children}
use Rattle.svex_arena.proofs.Steps.{value_follows, width_follows, variables_follow, value_reads, width_reads, variables_read, value-extends, width-extends, variables-extends}
use Rattle.sv_lower.specs.Nodes.{IsMade, IsConstant, FromOne, FromTwo, FromThree}

pub made : (old : List Shape) (s : Shape) (new : List Shape) (n : ℕ) → IsArena new → Extends old new → ChildrenBelow (length old) s → Interned old s new n → IsMade old s new n
made old s new n i e c h = record {
  within = h.0;
  width = width_follows new n i h.0 ∙ ap (width_of (width_at new)) h.1 ∙ width_reads (width_at new) (width_at old) s (map_children (λ j. j < length old) (λ j. width_at new j ≡ width_at old j) (λ j l. width-extends old new j e l) s c);
  value = λ r. value_follows r new n i h.0 ∙ ap (value_of r (value_at r new)) h.1 ∙ value_reads r (value_at r new) (value_at r old) s (map_children (λ j. j < length old) (λ j. value_at r new j ≡ value_at r old j) (λ j l. value-extends r old new j e l) s c);
  variables = λ p. variables_follow p new n i h.0 ∙ ap (each_variable_of p (each_variable p new)) h.1 ∙ variables_read p (each_variable p new) (each_variable p old) s (map_children (λ j. j < length old) (λ j. each_variable p new j ≡ each_variable p old j) (λ j l. variables-extends p old new j e l) s c);
}

pub from_unary : (old new : List Shape) (op : Un) (a n : ℕ) → IsMade old (Unary op a) new n → FromOne old new (unary_value op) a (unary_width op (width_at old a)) n
unfolding width_of value_of each_variable_of
from_unary old new op a n h = record { within = h.within; width = h.width; value = λ bits. h.value _; mentions = λ p m. h.variables p ∙ m }

pub from_binary : (old new : List Shape) (op : Bin) (a b n : ℕ) → IsMade old (Binary op a b) new n → FromTwo old new (binary_value op) a b (binary_width op (width_at old a) (width_at old b)) n
unfolding width_of value_of each_variable_of
from_binary old new op a b n h = record { within = h.within; width = h.width; value = λ bits. h.value _; mentions = λ p m k. h.variables p ∙ both _ _ m k }

pub constant_made : (old new : List Shape) (v : List Bit) (n : ℕ) → IsMade old (Const v) new n → IsConstant new v n
unfolding width_of value_of each_variable_of
constant_made old new v n h = record { within = h.within; width = h.width; value = λ bits. h.value _; mentions = λ p. h.variables p }

-- a node is what it is
pub itself : (old : List Shape) (a : ℕ) → a < length old → FromOne old old (λ x. x) a (width_at old a) a
itself old a l = record { within = l; width = refl; value = λ bits. refl; mentions = λ p m. m }

-- one operator after another
pub one_then : (old mid new : List Shape) (f g : List Bit → List Bit) (a w b v n : ℕ) → FromOne old mid f a w b → FromOne mid new g b v n → FromOne old new (λ x. g (f x)) a v n
one_then old mid new f g a w b v n h k = record {
  within = k.within;
  width = k.width;
  value = λ bits. k.value bits ∙ ap g (h.value bits);
  mentions = λ p m. k.mentions p (h.mentions p m);
}

pub two_then : (old mid new : List Shape) (f : List Bit → List Bit → List Bit) (g : List Bit → List Bit) (a b w m v n : ℕ) → FromTwo old mid f a b w m → FromOne mid new g m v n → FromTwo old new (λ x y. g (f x y)) a b v n
two_then old mid new f g a b w m v n h k = record {
  within = k.within;
  width = k.width;
  value = λ bits. k.value bits ∙ ap g (h.value bits);
  mentions = λ p i j. k.mentions p (h.mentions p i j);
}

pub two_swapped : (old new : List Shape) (f : List Bit → List Bit → List Bit) (a b w n : ℕ) → FromTwo old new f b a w n → FromTwo old new (λ x y. f y x) a b w n
two_swapped old new f a b w n h = record { within = h.within; width = h.width; value = h.value; mentions = λ p i j. h.mentions p j i }

-- an operator on one operand, and then one on the result and another operand
pub first_then : (old mid new : List Shape) (f : List Bit → List Bit) (g : List Bit → List Bit → List Bit) (a b w m v n : ℕ) → Extends old mid → b < length old → FromOne old mid f a w m → FromTwo mid new g m b v n →
    FromTwo old new (λ x y. g (f x) y) a b v n
first_then old mid new f g a b w m v n e l h k = record {
  within = k.within;
  width = k.width;
  value = λ bits. k.value bits ∙ ap (λ x. g x (value_at (bitwise bits) mid b)) (h.value bits) ∙ ap (g (f (value_at (bitwise bits) old a))) (value-extends (bitwise bits) old mid b e l);
  mentions = λ p i j. k.mentions p (h.mentions p i) (variables-extends p old mid b e l ∙ j);
}

-- an operator on each of two operands, and then one on the results
pub both_then : (old one two new : List Shape) (f g : List Bit → List Bit) (h : List Bit → List Bit → List Bit) (a b w v x y u n : ℕ) → Extends old one → Extends one two → b < length old →
    FromOne old one f a w x → FromOne one two g b v y → FromTwo two new h x y u n → FromTwo old new (λ s t. h (f s) (g t)) a b u n
both_then old one two new f g h a b w v x y u n e d l p q r = record {
  within = r.within;
  width = r.width;
  value = λ bits.
      r.value bits ∙ ap (λ s. h s (value_at (bitwise bits) two y)) (value-extends (bitwise bits) one two x d p.within ∙ p.value bits)
      ∙ ap (h (f (value_at (bitwise bits) old a))) (q.value bits ∙ ap g (value-extends (bitwise bits) old one b e l));
  mentions = λ t i j. r.mentions t (variables-extends t one two x d p.within ∙ p.mentions t i) (q.mentions t (variables-extends t old one b e l ∙ j));
}

pub from_choice : (old mid new : List Shape) (f : List Bit → List Bit) (c a b w m n : ℕ) → Extends old mid → a < length old → b < length old → FromOne old mid f c w m → IsMade mid (Cond m a b) new n →
    FromThree old new (λ x y z. cond_of (f x) y z) c a b (width_at old a) n
unfolding width_of value_of each_variable_of
from_choice old mid new f c a b w m n e l k h i = record {
  within = i.within;
  width = i.width ∙ width-extends old mid a e l;
  value = λ bits.
      i.value (bitwise bits) ∙ ap (λ x. cond_of x (value_at (bitwise bits) mid a) (value_at (bitwise bits) mid b)) (h.value bits)
      ∙ ap (λ x. cond_of (f (value_at (bitwise bits) old c)) x (value_at (bitwise bits) mid b)) (value-extends (bitwise bits) old mid a e l)
      ∙ ap (cond_of (f (value_at (bitwise bits) old c)) (value_at (bitwise bits) old a)) (value-extends (bitwise bits) old mid b e k);
  mentions = λ p x y z. i.variables p ∙ both _ _ (h.mentions p x) (both _ _ (variables-extends p old mid a e l ∙ y) (variables-extends p old mid b e k ∙ z));
}
