-- Values have the length of their context, and rise with what names read.
use Rattle.std.proofs.Common.{◌≡◌, ℕ, zero, suc, ◌-◌, ◌≤◌, max, Bool, true, false, ◌&&◌, List, ◌++◌, length, replicate, refl, sym, ◌∙◌, arith, IsTrue, ℤ, pos, negsuc, cond}
use Rattle.std.proofs.lemmas.List.{length-replicate, length-append}
use Rattle.fourvec.specs.declared.Bit.{Bit}
use Rattle.fourvec.specs.declared.Bit.TheVariants.{Unknown, Zero}
use Rattle.fourvec.specs.Bits.{bit_below, is_known, all_x, vector, red_or_of, truth_of, red_and_of, red_xor_of, number, top, each, each_pair, not_bit, and_bit, or_bit, xor_bit, not_of, and_of, or_of, xor_of, neg_of, add_of, sub_of, mul_of, div_of, rem_of, sdiv_of, srem_of, shl_of, shr_of, sar_of, lt_of, slt_of, eq_of}
use Rattle.fourvec.specs.Laws.{Below, Monotone, MonotonePair}
use Rattle.fourvec.proofs.Order as order
use Rattle.fourvec.proofs.Monotone as laws
use Rattle.fourvec.proofs.Widths as widths
use Rattle.sv_outside.specs.declared.refusal.Place.{Place}
use Rattle.sv_meaning.specs.Faults.{Faults}
use Rattle.sv_meaning.specs.Layouts.{Read, Origin}
use Rattle.sv_meaning.specs.Meanings.{Meaning, own, standing, needs, with_faults, from, no_meaning, joined, context_one, context_two, shift, comparison, reduction, logical, chosen, extend, power, to_power, constant_of, number_of, nowhere}
use Rattle.sv_meaning.specs.Values.{unary_meaning, binary_meaning, quotient, remainder, moved_down, less}
use Rattle.sv_tree.specs.declared.exprs.UnaryOp.{UnaryOp}
use Rattle.sv_tree.specs.declared.exprs.UnaryOp.TheVariants as one
use Rattle.sv_tree.specs.declared.exprs.BinaryOp.{BinaryOp}
use Rattle.sv_tree.specs.declared.exprs.BinaryOp.TheVariants as two

abbrev pub Rises : Read → Read → Type 0
Rises r t = (o : Origin) (n k : ℕ) → IsTrue (bit_below (r o n k) (t o n k))

pub record Good (m : Meaning) : Type 0 where
  pub long : (read : Read) (w : ℕ) (s : Bool) → m.size ≤ w → length (m.value read w s) ≡ w
  pub rises : (r t : Read) → Rises r t → (w : ℕ) (s : Bool) → m.size ≤ w → Below (m.value r w s) (m.value t w s)

pub own_long : (m : Meaning) → Good m → (read : Read) → length (own m read) ≡ m.size
own_long m g read = g.long read m.size m.sign (omega arith)

pub own_rises : (m : Meaning) → Good m → (r t : Read) → Rises r t → Below (own m r) (own m t)
own_rises m g r t h = g.rises r t h m.size m.sign (omega arith)

pub length-widened : (a : List Bit) (w : ℕ) (x : Bit) → length a ≤ w → length (a ++ replicate (w - length a) x) ≡ w
length-widened a w x h = rw (length-append, length-replicate) (omega arith)

pub length-extend : (s : Bool) (w : ℕ) (a : List Bit) → length a ≤ w → length (extend s w a) ≡ w
length-extend true w a h = length-widened a w _ h
length-extend false w a h = length-widened a w _ h

pub extend-rises : (s : Bool) (w : ℕ) (a c : List Bit) → Below a c → Below (extend s w a) (extend s w c)
extend-rises true w a c h = laws.sext_monotone w a c h
extend-rises false w a c h = laws.zext_monotone w a c h

pub good-standing : (n : ℕ) (s : Bool) (f : Read → List Bit) (m : Meaning) → ((r : Read) → length (f r) ≡ n)
    → ((r t : Read) → Rises r t → Below (f r) (f t)) → Good (standing n s f m)
good-standing n s f m long rises = record {
  long = λ read w sign h. length-extend sign w (f read) (let e = long read in omega (arith, e));
  rises = λ r t h w sign k. extend-rises sign w (f r) (f t) (rises r t h);
}

pub good-needs : (more : Bool → Faults) (m : Meaning) → Good m → Good (needs more m)
good-needs more m g = record { long = g.long; rises = g.rises }

pub good-faults : (all : Bool → Faults) (m : Meaning) → Good m → Good (with_faults all m)
good-faults all m g = record { long = g.long; rises = g.rises }

pub good-from : (p : Place) (m : Meaning) → Good m → Good (from p m)
good-from p m g = record { long = g.long; rises = g.rises }

pub good-none : (all : Bool → Faults) (p : Place) → Good (no_meaning all p)
good-none all p = record { long = λ read w s h. length-replicate w Unknown; rises = λ r t h w s k. order.below-refl (all_x w) }

pub good-context_one : (f : List Bit → List Bit) (a : Meaning) → ((x : List Bit) → length (f x) ≡ length x) → Monotone f → Good a → Good (context_one f a)
good-context_one f a long rises g = record {
  long = λ read w s h. long (a.value read w s) ∙ g.long read w s h;
  rises = λ r t h w s k. rises (a.value r w s) (a.value t w s) (g.rises r t h w s k);
}

pub good-context_two : (f : Bool → List Bit → List Bit → List Bit) (a b : Meaning)
    → ((s : Bool) (x y : List Bit) → length x ≡ length y → length (f s x y) ≡ length x) → ((s : Bool) → MonotonePair (f s)) → Good a → Good b → Good (context_two f a b)
good-context_two f a b long rises g h = record {
  long = λ read w s k.
      let p = g.long read w s (omega arith) in let q = h.long read w s (omega arith) in
      long s (a.value read w s) (b.value read w s) (p ∙ sym q) ∙ p;
  rises = λ r t i w s k.
      rises s (a.value r w s) (b.value r w s) (a.value t w s) (b.value t w s) (g.rises r t i w s (omega arith)) (h.rises r t i w s (omega arith));
}

pub good-shift : (f : Bool → List Bit → List Bit → List Bit) (a b : Meaning)
    → ((s : Bool) (x y : List Bit) → length (f s x y) ≡ length x) → ((s : Bool) → MonotonePair (f s)) → Good a → Good b → Good (shift f a b)
good-shift f a b long rises g h = record {
  long = λ read w s k. long s (a.value read w s) (own b read) ∙ g.long read w s k;
  rises = λ r t i w s k. rises s (a.value r w s) (own b r) (a.value t w s) (own b t) (g.rises r t i w s k) (own_rises b h r t i);
}

pub good-comparison : (f : Bool → List Bit → List Bit → List Bit) (a b : Meaning)
    → ((s : Bool) (x y : List Bit) → length (f s x y) ≡ 1) → ((s : Bool) → MonotonePair (f s)) → Good a → Good b → Good (comparison f a b)
good-comparison f a b long rises g h =
    let w = max a.size b.size in let s = a.sign && b.sign in
    good-standing 1 false (λ read. f s (a.value read w s) (b.value read w s)) (joined a b)
    (λ r. long s (a.value r w s) (b.value r w s))
    (λ r t i. rises s (a.value r w s) (b.value r w s) (a.value t w s) (b.value t w s)
    (g.rises r t i w s (omega arith)) (h.rises r t i w s (omega arith)))

pub good-reduction : (f : List Bit → List Bit) (a : Meaning) → ((x : List Bit) → length (f x) ≡ 1) → Monotone f → Good a → Good (reduction f a)
good-reduction f a long rises g = good-standing 1 false (λ read. f (own a read)) a (λ r. long (own a r)) (λ r t i. rises (own a r) (own a t) (own_rises a g r t i))

pub good-logical : (f : List Bit → List Bit → List Bit) (a b : Meaning) → ((x y : List Bit) → length (f (truth_of x) (truth_of y)) ≡ 1) → MonotonePair f → Good a → Good b → Good (logical f a b)
good-logical f a b long rises g h =
    good-standing 1 false (λ read. f (truth_of (own a read)) (truth_of (own b read))) (joined a b) (λ r. long (own a r) (own b r))
    (λ r t i. rises (truth_of (own a r)) (truth_of (own b r)) (truth_of (own a t)) (truth_of (own b t))
    (laws.truth_monotone (own a r) (own a t) (own_rises a g r t i)) (laws.truth_monotone (own b r) (own b t) (own_rises b h r t i)))

pub good-chosen : (c a b : Meaning) → Good c → Good a → Good b → Good (chosen c a b)
good-chosen c a b e g h = record {
  long = λ read w s k.
      let p = g.long read w s (omega arith) in let q = h.long read w s (omega arith) in
      widths.length-cond_of (truth_of (own c read)) (a.value read w s) (b.value read w s) (p ∙ sym q) ∙ p;
  rises = λ r t i w s k.
      let p = g.long r w s (omega arith) in let q = h.long r w s (omega arith) in
      laws.cond_monotone (truth_of (own c r)) (a.value r w s) (b.value r w s) (truth_of (own c t)) (a.value t w s) (b.value t w s) (p ∙ sym q)
      (laws.truth_monotone (own c r) (own c t) (own_rises c e r t i)) (g.rises r t i w s (omega arith)) (h.rises r t i w s (omega arith));
}

-- ---- each operator

pub length-strict : (k : Bool) (w n : ℕ) → length (cond k (vector w n) (all_x w)) ≡ w
length-strict k w n = widths.length_either k w n

pub length-neg : (a : List Bit) → length (neg_of a) ≡ length a
unfolding neg_of
length-neg a = widths.length_either (is_known a) (length a) _

pub length-quotient : (s : Bool) (a b : List Bit) → length (quotient s a b) ≡ length a
unfolding sdiv_of div_of
length-quotient true a b = widths.length_signed _ (length a) _
length-quotient false a b = widths.length_either _ (length a) _

pub length-remainder : (s : Bool) (a b : List Bit) → length (remainder s a b) ≡ length a
unfolding srem_of rem_of
length-remainder true a b = widths.length_signed _ (length a) _
length-remainder false a b = widths.length_either _ (length a) _

length-moved : (k : Bool) (a move : List Bit) → length move ≡ length a → length (cond k move (all_x (length a))) ≡ length a
length-moved true a move h = h
length-moved false a move h = length-replicate (length a) Unknown

pub length-moved_down : (s : Bool) (a b : List Bit) → length (moved_down s a b) ≡ length a
unfolding sar_of shr_of
length-moved_down true a b = length-moved (is_known b) a _ (widths.length-moved_down (top a) (number b) a)
length-moved_down false a b = length-moved (is_known b) a _ (widths.length-moved_down Zero (number b) a)

pub length-less : (s : Bool) (a b : List Bit) → length (less s a b) ≡ 1
unfolding slt_of lt_of
length-less true a b = refl
length-less false a b = refl

pub length-eq : (a b : List Bit) → length (eq_of a b) ≡ 1
unfolding eq_of
length-eq a b = refl

pub quotient-rises : (s : Bool) → MonotonePair (quotient s)
quotient-rises true = laws.sdiv_monotone
quotient-rises false = laws.div_monotone

pub remainder-rises : (s : Bool) → MonotonePair (remainder s)
remainder-rises true = laws.srem_monotone
remainder-rises false = laws.rem_monotone

pub moved_down-rises : (s : Bool) → MonotonePair (moved_down s)
moved_down-rises true = laws.sar_monotone
moved_down-rises false = laws.shr_monotone

pub less-rises : (s : Bool) → MonotonePair (less s)
less-rises true = laws.slt_monotone
less-rises false = laws.lt_monotone

negated : (f : List Bit → List Bit → List Bit) → MonotonePair f → MonotonePair (λ x y. not_of (f x y))
negated f h a b c d p q = laws.not_monotone (f a b) (f c d) (h a b c d p q)

negated_one : (f : List Bit → List Bit) → Monotone f → Monotone (λ x. not_of (f x))
negated_one f h a c p = laws.not_monotone (f a) (f c) (h a c p)

one_long : (f : List Bit → List Bit → List Bit) (x y : List Bit) → length (f x y) ≡ 1 → length (not_of (f x y)) ≡ 1
one_long f x y e = widths.length-each not_bit (f x y) ∙ e

pairs_long : (f : Bit → Bit → Bit) (x y : List Bit) → length x ≡ length y → length (each not_bit (each_pair f x y)) ≡ length x
pairs_long f x y e = widths.length-each not_bit (each_pair f x y) ∙ widths.length-each_pair f x y e

pub good-unary : (op : UnaryOp) (a : Meaning) → Good a → Good (unary_meaning op a)
good-unary one.Plus a g = good-context_one (λ x. x) a (λ x. refl) (λ x y h. h) g
good-unary one.Minus a g = good-context_one neg_of a length-neg laws.neg_monotone g
good-unary one.Not a g = good-context_one not_of a (widths.length-each not_bit) laws.not_monotone g
good-unary one.LogicNot a g = good-reduction (λ x. not_of (truth_of x)) a (λ x. widths.length-each not_bit (truth_of x) ∙ widths.length-truth_of x) (negated_one truth_of laws.truth_monotone) g
good-unary one.And a g = good-reduction red_and_of a (λ x. refl) laws.red_and_monotone g
good-unary one.Nand a g = good-reduction (λ x. not_of (red_and_of x)) a (λ x. widths.length-each not_bit (red_and_of x)) (negated_one (red_and_of) laws.red_and_monotone) g
good-unary one.Or a g = good-reduction red_or_of a (λ x. refl) laws.red_or_monotone g
good-unary one.Nor a g = good-reduction (λ x. not_of (red_or_of x)) a (λ x. widths.length-each not_bit (red_or_of x)) (negated_one (red_or_of) laws.red_or_monotone) g
good-unary one.Xor a g = good-reduction red_xor_of a (λ x. refl) laws.red_xor_monotone g
good-unary one.TildeXor a g = good-reduction (λ x. not_of (red_xor_of x)) a (λ x. widths.length-each not_bit (red_xor_of x)) (negated_one (red_xor_of) laws.red_xor_monotone) g
good-unary one.XorTilde a g = good-reduction (λ x. not_of (red_xor_of x)) a (λ x. widths.length-each not_bit (red_xor_of x)) (negated_one (red_xor_of) laws.red_xor_monotone) g

length-power : (k : Bool) (w : ℕ) (a : List Bit) (z : ℤ) → length (to_power w a z) ≡ w
length-power k w a (pos zero) = widths.length_either true w 1
length-power k w a (pos (suc n)) = widths.length_either (is_known a) w _
length-power k w a (negsuc n) = length-replicate w Unknown

length-choice : (k : Bool) (w : ℕ) (a : List Bit) → length a ≡ w → length (cond k a (all_x w)) ≡ w
length-choice true w a h = h
length-choice false w a h = length-replicate w Unknown

pub good-power : (p : Place) (a b : Meaning) → Good (power p a b)
good-power p a b = record {
  long = λ read w s h. length-choice (is_known (constant_of b)) w _ (length-power true w (a.value nowhere w s) (number_of b));
  rises = λ r t h w s k. order.below-refl _;
}

pub good-binary : (p : Place) (op : BinaryOp) (a b : Meaning) → Good a → Good b → Good (binary_meaning p op a b)
unfolding each truth_of
good-binary p two.Power a b g h = good-power p a b
good-binary p two.Mul a b g h = good-context_two (λ s. mul_of) a b (λ s x y e. widths.length-mul_of x y) (λ s. laws.mul_monotone) g h
good-binary p two.Div a b g h = good-context_two quotient a b (λ s x y e. length-quotient s x y) quotient-rises g h
good-binary p two.Rem a b g h = good-context_two remainder a b (λ s x y e. length-remainder s x y) remainder-rises g h
good-binary p two.Add a b g h = good-context_two (λ s. add_of) a b (λ s x y e. widths.length-add_of x y) (λ s. laws.add_monotone) g h
good-binary p two.Sub a b g h = good-context_two (λ s. sub_of) a b (λ s x y e. widths.length-sub_of x y) (λ s. laws.sub_monotone) g h
good-binary p two.Shl a b g h = good-shift (λ s. shl_of) a b (λ s. widths.length-shl_of) (λ s. laws.shl_monotone) g h
good-binary p two.Shr a b g h = good-shift (λ s. shr_of) a b (λ s. length-moved_down false) (λ s. laws.shr_monotone) g h
good-binary p two.Sal a b g h = good-shift (λ s. shl_of) a b (λ s. widths.length-shl_of) (λ s. laws.shl_monotone) g h
good-binary p two.Sar a b g h = good-shift moved_down a b length-moved_down moved_down-rises g h
good-binary p two.Lt a b g h = good-comparison less a b length-less less-rises g h
good-binary p two.Le a b g h = good-comparison (λ s x y. not_of (less s y x)) a b (λ s x y. one_long (less s) y x (length-less s y x))
    (λ s x y z v p q. laws.not_monotone (less s y x) (less s v z) (less-rises s y x v z q p)) g h
good-binary p two.Gt a b g h = good-comparison (λ s x y. less s y x) a b (λ s x y. length-less s y x) (λ s x y z v p q. less-rises s y x v z q p) g h
good-binary p two.Ge a b g h = good-comparison (λ s x y. not_of (less s x y)) a b (λ s x y. one_long (less s) x y (length-less s x y))
    (λ s. negated (less s) (less-rises s)) g h
good-binary p two.Eq a b g h = good-comparison (λ s. eq_of) a b (λ s. length-eq) (λ s. laws.eq_monotone) g h
good-binary p two.Ne a b g h = good-comparison (λ s x y. not_of (eq_of x y)) a b (λ s x y. one_long eq_of x y (length-eq x y))
    (λ s x y z v p q. laws.not_monotone (eq_of x y) (eq_of z v) (laws.eq_monotone x y z v p q)) g h
good-binary p two.And a b g h = good-context_two (λ s. and_of) a b (λ s. widths.length-each_pair and_bit) (λ s. laws.and_monotone) g h
good-binary p two.Xor a b g h = good-context_two (λ s. xor_of) a b (λ s. widths.length-each_pair xor_bit) (λ s. laws.xor_monotone) g h
good-binary p two.TildeXor a b g h = good-context_two (λ s x y. not_of (xor_of x y)) a b (λ s. pairs_long xor_bit) (λ s. negated (xor_of) laws.xor_monotone) g h
good-binary p two.XorTilde a b g h = good-context_two (λ s x y. not_of (xor_of x y)) a b (λ s. pairs_long xor_bit) (λ s. negated (xor_of) laws.xor_monotone) g h
good-binary p two.Or a b g h = good-context_two (λ s. or_of) a b (λ s. widths.length-each_pair or_bit) (λ s. laws.or_monotone) g h
good-binary p two.LogicAnd a b g h = good-logical and_of a b (λ x y. widths.length-each_pair and_bit (truth_of x) (truth_of y) refl) laws.and_monotone g h
good-binary p two.LogicOr a b g h = good-logical or_of a b (λ x y. widths.length-each_pair or_bit (truth_of x) (truth_of y) refl) laws.or_monotone g h
good-binary p two.Implies a b g h = good-logical (λ x y. or_of (not_of x) y) a b (λ x y. widths.length-each_pair or_bit (not_of (truth_of x)) (truth_of y) (widths.length-each not_bit (truth_of x)))
    (λ x y z v p q. laws.or_monotone (not_of x) y (not_of z) v (laws.not_monotone x z p) q) g h
good-binary p two.Equivalent a b g h = good-logical (λ x y. not_of (xor_of x y)) a b (λ x y. pairs_long xor_bit (truth_of x) (truth_of y) refl) (negated (xor_of) laws.xor_monotone) g h
