-- Parts at places that indices give.
use Rattle.std.proofs.Common.{◌≡◌, ℕ, ◌^◌, ◌<◌, Bool, true, false, cond, List, length, sym, ap, ◌∙◌, arith}
use Rattle.std.specs.Prelude.{ℤ}
use Rattle.std.proofs.lemmas.List.{length-replicate}
use Rattle.fourvec.specs.declared.Bit.{Bit}
use Rattle.fourvec.specs.declared.Bit.TheVariants.{Unknown}
use Rattle.fourvec.specs.declared.Spot.{Spot}
use Rattle.fourvec.specs.Bits.{is_known, low_plane, all_x}
use Rattle.fourvec.specs.Spots.{place_of, window, dyn_slice_of}
use Rattle.fourvec.proofs.Basic.{low_plane-lt}
use Rattle.svex_shape.specs.declared.shape.Shape.{Shape}
use Rattle.svex_shape.specs.declared.shape.Shape.TheVariants.{DynSlice}
use Rattle.svex_shape.specs.Shapes.{width_of}
use Rattle.svex_shape.specs.Values.{value_of, each_variable_of}
use Rattle.svex_arena.specs.Arenas.{IsArena, Extends}
use Rattle.svex_arena.proofs.Steps.{value-extends, variables-extends}
use Rattle.fourvec.proofs.Order.{both}
use Rattle.driver_resolve.specs.Drivers.{bitwise}
use Rattle.sv_lower.specs.Nodes.{bits_at_node, IsMade, IsConstant, FromOne, FromTwo}
use Rattle.sv_lower.proofs.Pieces.{from_constant}

pub from_index : (old new : List Shape) (of at : ℕ) (spot : Spot) (n : ℕ) → IsMade old (DynSlice of at spot) new n → FromTwo old new (λ v i. dyn_slice_of v i spot) of at spot.width n
unfolding width_of value_of each_variable_of
from_index old new of at spot n h = record { within = h.within; width = h.width; value = λ bits. h.value _; mentions = λ p m k. h.variables p ∙ both _ _ m k }

unknown_part : (index v : List Bit) (spot : Spot) → is_known index ≡ false → all_x spot.width ≡ dyn_slice_of v index spot
unfolding dyn_slice_of
unknown_part index v spot e = sym (ap (λ k. cond k (window v (place_of spot index) spot.width) (all_x spot.width)) e)

known_part : (index v : List Bit) (spot : Spot) (place : ℤ) → is_known index ≡ true → place ≡ place_of spot index → window v place spot.width ≡ dyn_slice_of v index spot
unfolding dyn_slice_of
known_part index v spot place e p = ap (λ z. window v z spot.width) p ∙ sym (ap (λ k. cond k (window v (place_of spot index) spot.width) (all_x spot.width)) e)

pub part_unknown : (old new : List Shape) (of : ℕ) (index : List Bit) (spot : Spot) (k : Bool) (n : ℕ) → IsArena old → of < length old → k ≡ is_known index → k ≡ false → IsConstant new (all_x spot.width) n → FromOne old new (λ v. dyn_slice_of v index spot) of spot.width n
part_unknown old new of index spot k n i l e f h = from_constant old new (λ v. dyn_slice_of v index spot) (all_x spot.width) of spot.width n i l (length-replicate spot.width Unknown) (λ v s. unknown_part index v spot (sym e ∙ f)) h

pub part_known : (old new : List Shape) (of : ℕ) (index : List Bit) (spot : Spot) (k : Bool) (z : ℤ) (n : ℕ) → k ≡ is_known index → k ≡ true → place_of spot index ≡ z → FromOne old new (λ v. window v z spot.width) of spot.width n → FromOne old new (λ v. dyn_slice_of v index spot) of spot.width n
part_known old new of index spot k z n e f p h = record {
  within = h.within;
  width = h.width;
  value = λ bits. h.value bits ∙ known_part index (bits_at_node bits old of) spot z (sym e ∙ f) (sym p);
  mentions = h.mentions;
}

pub part_far : (old mid new : List Shape) (of at : ℕ) (index : List Bit) (spot : Spot) (n : ℕ) → Extends old mid → of < length old → IsConstant mid index at → FromTwo mid new (λ v i. dyn_slice_of v i spot) of at spot.width n → FromOne old new (λ v. dyn_slice_of v index spot) of spot.width n
part_far old mid new of at index spot n e l k h = record {
  within = h.within;
  width = h.width;
  value = λ bits. h.value bits ∙ ap (λ i. dyn_slice_of (bits_at_node bits mid of) i spot) (k.value bits) ∙ ap (λ v. dyn_slice_of v index spot) (value-extends (bitwise bits) old mid of e l);
  mentions = λ p m. h.mentions p (variables-extends p old mid of e l ∙ m) (k.mentions p);
}

pub number_below : (a : List Bit) (n : ℕ) → n ≡ low_plane a → n < 2 ^ length a
number_below a n e = let h = low_plane-lt a in omega arith
