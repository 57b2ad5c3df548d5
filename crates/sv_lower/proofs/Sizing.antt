-- Nodes at other widths.
use Rattle.std.proofs.Common.{◌≡◌, ℕ, ◌<◌, ◌≤◌, Bool, true, false, List, length, take, refl, sym, ◌∙◌, arith}
use Rattle.std.proofs.lemmas.List.{take_all, take-append-le}
use Rattle.std.proofs.lemmas.List.FromFn.{length-map-range_with_len}
use Rattle.fourvec.specs.declared.Bit.{Bit}
use Rattle.fourvec.proofs.Moves.{extend_none}
use Rattle.svex_shape.specs.declared.shape.VarName.{VarName}
use Rattle.svex_shape.specs.declared.shape.Shape.{Shape}
use Rattle.svex_shape.specs.declared.shape.Shape.TheVariants.{Slice, Zext, Sext}
use Rattle.svex_shape.specs.Shapes.{width_of, width_at}
use Rattle.svex_shape.specs.Values.{HasWidths, value_of, each_variable_of}
use Rattle.svex_arena.specs.Arenas.{IsArena}
use Rattle.svex_arena.proofs.Widths.{length-value_at}
use Rattle.driver_resolve.specs.Drivers.{bitwise}
use Rattle.sv_meaning.specs.Meanings.{extend, fitted}
use Rattle.sv_meaning.proofs.Good.{length-extend}
use Rattle.sv_lower.specs.Nodes.{bits_at_node, IsMade, FromOne}

-- ---- the widths of values

bitwise_has_widths : (bits : VarName → ℕ → Bit) → HasWidths (bitwise bits)
bitwise_has_widths bits name w = length-map-range_with_len (bits name) 0 w

pub length-node : (bits : VarName → ℕ → Bit) (shapes : List Shape) (k : ℕ) → IsArena shapes → k < length shapes → length (bits_at_node bits shapes k) ≡ width_at shapes k
length-node bits shapes k i l = length-value_at (bitwise bits) shapes k (bitwise_has_widths bits) i l

-- ---- one node for another

-- a node has what an operator gives of vectors of its width
pub as_it_is : (old : List Shape) (f : List Bit → List Bit) (a : ℕ) → IsArena old → a < length old → ((v : List Bit) → length v ≡ width_at old a → v ≡ f v) → FromOne old old f a (width_at old a) a
as_it_is old f a i l h = record { within = l; width = refl; value = λ bits. h (bits_at_node bits old a) (length-node bits old a i l); mentions = λ p m. m }

-- a node made of one node's bits
pub of_one : (old new : List Shape) (f g : List Bit → List Bit) (a w n : ℕ) → IsArena old → a < length old → ((v : List Bit) → length v ≡ width_at old a → g v ≡ f v) → FromOne old new g a w n → FromOne old new f a w n
of_one old new f g a w n i l h k = record {
  within = k.within;
  width = k.width;
  value = λ bits. k.value bits ∙ h (bits_at_node bits old a) (length-node bits old a i l);
  mentions = k.mentions;
}

-- ---- extensions

extend_self : (s : Bool) (w : ℕ) (v : List Bit) → length v ≡ w → v ≡ extend s w v
extend_self true w v e = sym (extend_none v w _ (sym e))
extend_self false w v e = sym (extend_none v w _ (sym e))

pub extended_not : (old : List Shape) (a w u : ℕ) (s : Bool) → IsArena old → a < length old → u ≡ width_at old a → u ≡ w → FromOne old old (extend s w) a w a
extended_not old a w u s i l d h = let e : width_at old a ≡ w = sym d ∙ h in record {
  within = l;
  width = e;
  value = λ bits. extend_self s w (bits_at_node bits old a) (length-node bits old a i l ∙ e);
  mentions = λ p m. m;
}

pub extended_signed : (old new : List Shape) (a w n : ℕ) (s : Bool) → s ≡ true → IsMade old (Sext a w) new n → FromOne old new (extend s w) a w n
unfolding width_of value_of each_variable_of
extended_signed old new a w n true e h = record { within = h.within; width = h.width; value = λ bits. h.value _; mentions = λ p m. h.variables p ∙ m }
extended_signed old new a w n false e h = cc

pub extended_unsigned : (old new : List Shape) (a w n : ℕ) (s : Bool) → s ≡ false → IsMade old (Zext a w) new n → FromOne old new (extend s w) a w n
unfolding width_of value_of each_variable_of
extended_unsigned old new a w n false e h = record { within = h.within; width = h.width; value = λ bits. h.value _; mentions = λ p m. h.variables p ∙ m }
extended_unsigned old new a w n true e h = cc

pub ruleset extended_laws = (extended_not, extended_signed, extended_unsigned)

-- ---- cuts

cut_is : (s : Bool) (w : ℕ) (v : List Bit) → w < length v → take w v ≡ fitted s w v
cut_is true w v h = sym (take-append-le w v _ (omega arith))
cut_is false w v h = sym (take-append-le w v _ (omega arith))

kept_is : (s : Bool) (w : ℕ) (v : List Bit) → length v ≤ w → extend s w v ≡ fitted s w v
kept_is s w v h = sym (take_all w (extend s w v) (let e = length-extend s w v h in omega arith))

pub fitted_cut : (old new : List Shape) (a w u n : ℕ) (s : Bool) → IsArena old → a < length old → u ≡ width_at old a → w < u → IsMade old (Slice a 0 w) new n → FromOne old new (fitted s w) a w n
unfolding width_of value_of each_variable_of
fitted_cut old new a w u n s i l d lt h = record {
  within = h.within;
  width = h.width;
  value = λ bits. h.value _ ∙ cut_is s w (bits_at_node bits old a) (let e = length-node bits old a i l in omega arith);
  mentions = λ p m. h.variables p ∙ m;
}

pub fitted_kept : (old new : List Shape) (a w u n : ℕ) (s : Bool) → IsArena old → a < length old → u ≡ width_at old a → u ≤ w → FromOne old new (extend s w) a w n → FromOne old new (fitted s w) a w n
fitted_kept old new a w u n s i l d le h = of_one old new (fitted s w) (extend s w) a w n i l (λ v e. kept_is s w v (omega arith)) h

pub ruleset fitted_laws = (fitted_cut, fitted_kept)
