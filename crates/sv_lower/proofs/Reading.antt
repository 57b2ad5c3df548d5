-- What names read.
use Rattle.std.proofs.Common.{◌≡◌, ℕ, zero, suc, ◌+◌, ◌<◌, Bool, List, ◌∷◌, length, get_or, map, Option, Some, None, refl, sym, ap, ◌∙◌, subst, arith}
use Rattle.std.specs.Prelude.{ℤ, pos}
use Rattle.std.specs.List.{range_with_len}
use Rattle.fourvec.specs.declared.Bit.{Bit}
use Rattle.fourvec.specs.declared.Bit.TheVariants.{Unknown}
use Rattle.fourvec.specs.Spots.{window}
use Rattle.svex_shape.specs.declared.shape.VarName.{VarName}
use Rattle.svex_shape.specs.declared.shape.VarName.TheVariants.{Chosen, Sampled}
use Rattle.svex_shape.specs.declared.shape.Shape.{Shape}
use Rattle.svex_shape.specs.declared.shape.Shape.TheVariants.{Var}
use Rattle.svex_shape.specs.Shapes.{width_of}
use Rattle.svex_arena.specs.Substs.{given_or}
use Rattle.svex_shape.specs.Values.{value_of, each_variable, each_variable_of}
use Rattle.svex_arena.specs.Arenas.{Extends}
use Rattle.svex_arena.proofs.Steps.{value-extends, variables-extends}
use Rattle.driver_resolve.specs.Drivers.{bitwise}
use Rattle.sv_meaning.specs.Layouts.{Origin, of_wires, of_choice, of_samples}
use Rattle.sv_meaning.specs.Meanings.{bits_from}
use Rattle.sv_typed.specs.declared.tree.Root.{Root}
use Rattle.sv_typed.specs.declared.tree.Root.TheVariants.{Number, Signal}
use Rattle.sv_typed.specs.declared.tree.Origin.{Origin as Whose}
use Rattle.sv_typed.specs.declared.tree.Origin.TheVariants as origin
use Rattle.sv_lower.specs.declared.look.Look.{Look}
use Rattle.sv_lower.specs.Nodes.{bits_at_node, IsMade, IsConstant, FromOne}
use Rattle.sv_lower.specs.Lowering.{node_of, wire_variable, IsIn, look_read, look_test, LowersRoot}

-- ---- bits one after another

map_bits : (f : ℕ → Bit) (k w : ℕ) → map f (range_with_len k w) ≡ bits_from f k w
unfolding bits_from
map_bits f k zero = refl
map_bits f k (suc w) = let next : k + 1 ≡ suc k = omega arith in ap (λ n. f k ∷ map f (range_with_len n w)) next ∙ ap (λ xs. f k ∷ xs) (map_bits f (suc k) w)

same_bits : (f g : ℕ → Bit) (k w : ℕ) → ((i : ℕ) → f i ≡ g i) → bits_from f k w ≡ bits_from g k w
unfolding bits_from
same_bits f g k zero h = refl
same_bits f g k (suc w) h = ap (λ b. b ∷ bits_from f (suc k) w) (h k) ∙ ap (λ xs. g k ∷ xs) (same_bits f g (suc k) w h)

window_bits : (v : List Bit) (k w : ℕ) → window v (pos k) w ≡ bits_from (λ i. get_or v i Unknown) k w
unfolding bits_from window
window_bits v k zero = refl
window_bits v k (suc w) = let next : k + 1 ≡ suc k = omega arith in ap (λ n. get_or v k Unknown ∷ window v (pos n) w) next ∙ ap (λ xs. get_or v k Unknown ∷ xs) (window_bits v (suc k) w)

-- ---- a wire

read_variable : (look : Look) (shapes : List Shape) (bits : VarName → ℕ → Bit) (n k : ℕ) → node_of look n ≡ None → bits (wire_variable look n) k ≡ look_read look shapes bits of_wires n k
unfolding look_read
read_variable look shapes bits n k e = sym (ap (given_or (λ node. get_or (bits_at_node bits shapes node) k Unknown) (bits (wire_variable look n) k)) e)

read_node : (look : Look) (shapes : List Shape) (bits : VarName → ℕ → Bit) (n m k : ℕ) → node_of look n ≡ Some m → get_or (bits_at_node bits shapes m) k Unknown ≡ look_read look shapes bits of_wires n k
unfolding look_read
read_node look shapes bits n m k e = sym (ap (given_or (λ node. get_or (bits_at_node bits shapes node) k Unknown) (bits (wire_variable look n) k)) e)

variable_read : (look : Look) (old new : List Shape) (number w n : ℕ) → node_of look number ≡ None → IsMade old (Var (wire_variable look number) w) new n → LowersRoot look old new (Signal origin.Wires number w) n
unfolding width_of value_of each_variable_of look_test
variable_read look old new number w n e h = record {
  within = h.within;
  width = h.width;
  value = λ bits.
      h.value (bitwise bits) ∙ map_bits (bits (wire_variable look number)) 0 w
      ∙ same_bits (bits (wire_variable look number)) (look_read look old bits of_wires number) 0 w (λ k. read_variable look old bits number k e);
  mentions = λ p m. h.variables p ∙ sym (ap (given_or (each_variable p old) (p (wire_variable look number) w)) e) ∙ m;
}

pub wire_reads_variable : (look : Look) (old new : List Shape) (number w n : ℕ) (x : VarName) → node_of look number ≡ None → x ≡ wire_variable look number → IsMade old (Var x w) new n → LowersRoot look old new (Signal origin.Wires number w) n
wire_reads_variable look old new number w n x e f h =
    let P : VarName → Type 0 = λ y. IsMade old (Var y w) new n in variable_read look old new number w n e (subst P f h)

pub wire_reads_node : (look : Look) (old new : List Shape) (number w k n : ℕ) (z : ℤ) → node_of look number ≡ Some k → z ≡ pos 0 → FromOne old new (λ v. window v z w) k w n → LowersRoot look old new (Signal origin.Wires number w) n
unfolding look_test
wire_reads_node look old new number w k n z e d h = record {
  within = h.within;
  width = h.width;
  value = λ bits.
      h.value bits ∙ ap (λ y. window (bits_at_node bits old k) y w) d ∙ window_bits (bits_at_node bits old k) 0 w
      ∙ same_bits (λ i. get_or (bits_at_node bits old k) i Unknown) (look_read look old bits of_wires number) 0 w (λ i. read_node look old bits number k i e);
  mentions = λ p m. h.mentions p (sym (ap (given_or (each_variable p old) (p (wire_variable look number) w)) e) ∙ m);
}

-- a node under a number is there
pub node_is_there : (look : Look) (shapes : List Shape) (number k : ℕ) → IsIn look shapes → node_of look number ≡ Some k → k < length shapes
node_is_there look shapes number k h e = h.there number k e

-- ---- constants, variables and samples of tables

pub root_constant : (look : Look) (old new : List Shape) (v : List Bit) (n : ℕ) → IsConstant new v n → LowersRoot look old new (Number v) n
root_constant look old new v n h = record { within = h.within; width = h.width; value = h.value; mentions = λ p m. h.mentions p }

choice_read : (look : Look) (old new : List Shape) (number w n : ℕ) → IsMade old (Var (Chosen number) w) new n → LowersRoot look old new (Signal origin.Choice number w) n
unfolding width_of value_of each_variable_of look_read look_test
choice_read look old new number w n h = record {
  within = h.within;
  width = h.width;
  value = λ bits. h.value (bitwise bits) ∙ map_bits (bits (Chosen number)) 0 w;
  mentions = λ p m. h.variables p ∙ m;
}

sample_read : (look : Look) (old new : List Shape) (number w n : ℕ) → IsMade old (Var (Sampled number) w) new n → LowersRoot look old new (Signal origin.Samples number w) n
unfolding width_of value_of each_variable_of look_read look_test
sample_read look old new number w n h = record {
  within = h.within;
  width = h.width;
  value = λ bits. h.value (bitwise bits) ∙ map_bits (bits (Sampled number)) 0 w;
  mentions = λ p m. h.variables p ∙ m;
}

root_as : (look : Look) (old new : List Shape) (root r : Root) (n : ℕ) → root ≡ r → LowersRoot look old new r n → LowersRoot look old new root n
root_as look old new root r n e h = let P : Root → Type 0 = λ x. LowersRoot look old new x n in subst P (sym e) h

pub root_choice : (look : Look) (old new : List Shape) (root : Root) (o : Whose) (number w n : ℕ) → root ≡ Signal o number w → o ≡ origin.Choice → IsMade old (Var (Chosen number) w) new n → LowersRoot look old new root n
root_choice look old new root o number w n e d h =
    root_as look old new root (Signal origin.Choice number w) n (e ∙ ap (λ x. Signal x number w) d) (choice_read look old new number w n h)

pub root_sample : (look : Look) (old new : List Shape) (root : Root) (o : Whose) (number w n : ℕ) → root ≡ Signal o number w → o ≡ origin.Samples → IsMade old (Var (Sampled number) w) new n → LowersRoot look old new root n
root_sample look old new root o number w n e d h =
    root_as look old new root (Signal origin.Samples number w) n (e ∙ ap (λ x. Signal x number w) d) (sample_read look old new number w n h)

-- ---- as the arena grows

given_same : {A : Type 0} (f g : ℕ → A) (a : A) (o : Option ℕ) → ((k : ℕ) → o ≡ Some k → f k ≡ g k) → given_or f a o ≡ given_or g a o
given_same f g a None h = refl
given_same f g a (Some k) h = h k refl

read_kept_at : (look : Look) (old mid : List Shape) (bits : VarName → ℕ → Bit) → IsIn look old → Extends old mid → (o : Origin) (n k : ℕ) → look_read look mid bits o n k ≡ look_read look old bits o n k
unfolding look_read
read_kept_at look old mid bits i e of_wires n k =
    given_same _ _ (bits (wire_variable look n) k) (node_of look n) (λ m s. ap (λ v. get_or v k Unknown) (value-extends (bitwise bits) old mid m e (i.there n m s)))
read_kept_at look old mid bits i e of_choice n k = refl
read_kept_at look old mid bits i e of_samples n k = refl

pub read_kept : (look : Look) (old mid : List Shape) (bits : VarName → ℕ → Bit) → IsIn look old → Extends old mid → look_read look mid bits ≡ look_read look old bits
read_kept look old mid bits i e = λ x o n k. read_kept_at look old mid bits i e o n k x

test_kept_at : (look : Look) (old mid : List Shape) (p : VarName → ℕ → Bool) → IsIn look old → Extends old mid → (o : Origin) (n w : ℕ) → look_test look mid p o n w ≡ look_test look old p o n w
unfolding look_test
test_kept_at look old mid p i e of_wires n w = given_same _ _ (p (wire_variable look n) w) (node_of look n) (λ m s. variables-extends p old mid m e (i.there n m s))
test_kept_at look old mid p i e of_choice n w = refl
test_kept_at look old mid p i e of_samples n w = refl

pub test_kept : (look : Look) (old mid : List Shape) (p : VarName → ℕ → Bool) → IsIn look old → Extends old mid → look_test look mid p ≡ look_test look old p
test_kept look old mid p i e = λ x o n w. test_kept_at look old mid p i e o n w x

pub in_later : (look : Look) (old mid : List Shape) → IsIn look old → Extends old mid → IsIn look mid
in_later look old mid i e = record { there = λ n k s. let a = i.there n k s in let b = e.longer in omega arith }
