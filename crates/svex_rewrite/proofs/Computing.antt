-- The laws of computed parts.
use Rattle.std.proofs.Common.{◌≡◌, ℕ, zero, suc, ◌+◌, ◌-◌, ◌*◌, ◌^◌, ◌≤◌, Bool, true, false, ◌&&◌, cond, List, [], ◌∷◌, length, take, replicate, get_or, refl, sym, ap, ◌∙◌, arith}
use Rattle.std.specs.Prelude.{ℤ, pos, negsuc, neg_ℤ, ◌+ℤ◌, ◌*ℤ◌, ◌≤ℤ◌, ◌<ℤ◌, unsigned_abs}
use Rattle.std.proofs.lemmas.Int.{ints}
use Rattle.std.proofs.lemmas.List.{drop_more}
use Rattle.fourvec.specs.declared.Bit.{Bit}
use Rattle.fourvec.specs.declared.Bit.TheVariants.{Zero, One, Unknown, Floating}
use Rattle.fourvec.specs.declared.Spot.{Spot}
use Rattle.fourvec.specs.Bits.{number, is_known, is_negative, low_plane, slice_of}
use Rattle.fourvec.specs.Spots.{index_of, place_of, window, dyn_slice_of, dyn_put_of}
use Rattle.fourvec.proofs.Widths.{length-dyn_slice_of, length-dyn_put_of}
use Rattle.fourvec.proofs.Tables.{left_of}
use Rattle.svex_shape.specs.declared.shape.Shape.{Shape}
use Rattle.svex_shape.specs.declared.shape.Shape.TheVariants.{Const, Slice, DynSlice, DynPut}
use Rattle.svex_shape.specs.Shapes.{width_of, width_at}
use Rattle.svex_shape.specs.Values.{Vector, value_of, value_at, each_variable_of}
use Rattle.svex_arena.proofs.Widths.{length-value_at}
use Rattle.svex_rewrite.specs.Meaning.{IsOver, Becomes, HasShape, place_from}
use Rattle.svex_rewrite.proofs.Becoming.{becomes_as, becomes_const, const_value, const_width}

-- ---- the place of a known index

pub low_is_number : (a : List Bit) → is_known a ≡ true → low_plane a ≡ number a
unfolding low_plane number is_known
low_is_number [] e = refl
low_is_number (Zero ∷ more) e = ap (λ n. 0 + 2 * n) (low_is_number more e)
low_is_number (One ∷ more) e = ap (λ n. 1 + 2 * n) (low_is_number more e)
low_is_number (Unknown ∷ more) e = cc
low_is_number (Floating ∷ more) e = cc

pub index_unsigned : (spot : Spot) (at : List Bit) → (spot.signed && is_negative at) ≡ false → index_of spot at ≡ pos (number at)
index_unsigned spot at e = by_sign spot.signed (is_negative at) e
  where
    by_sign : (p q : Bool) → (p && q) ≡ false → cond p (cond q (negsuc (2 ^ length at - 1 - number at)) (pos (number at))) (pos (number at)) ≡ pos (number at)
    by_sign true true h = cc
    by_sign true false h = refl
    by_sign false q h = refl

pub place_is : (spot : Spot) (at : List Bit) (n far : ℕ) → index_of spot at ≡ pos n → far ≡ n * spot.each → place_of spot at ≡ place_from spot far
unfolding place_of
place_is spot at n far e f =
    ap (λ z. cond spot.negate (neg_ℤ z) z *ℤ pos spot.each +ℤ spot.add) e ∙ ap (λ z. z +ℤ spot.add) (turned spot.negate n spot.each) ∙ ap (λ k. cond spot.negate (neg_ℤ (pos k)) (pos k) +ℤ spot.add) (sym f)
  where
    turned : (b : Bool) (k each : ℕ) → cond b (neg_ℤ (pos k)) (pos k) *ℤ pos each ≡ cond b (neg_ℤ (pos (k * each))) (pos (k * each))
    turned false k each = refl
    turned true zero each = let none : 0 * each ≡ 0 = omega arith in rw none refl
    turned true (suc k) each = refl

pub place_above : (spot : Spot) (far : ℕ) → spot.negate ≡ false → pos 0 ≤ℤ spot.add → place_from spot far ≡ pos (far + unsigned_abs spot.add)
place_above spot far n h = rw n (above spot.add h)
  where
    above : (z : ℤ) → pos 0 ≤ℤ z → pos far +ℤ z ≡ pos (far + unsigned_abs z)
    above z l = omega (arith, ints)

pub place_below : (spot : Spot) (far : ℕ) → spot.negate ≡ false → spot.add <ℤ pos 0 → unsigned_abs spot.add ≤ far → place_from spot far ≡ pos (far - unsigned_abs spot.add)
place_below spot far n h m = rw n (below spot.add h m)
  where
    below : (z : ℤ) → z <ℤ pos 0 → unsigned_abs z ≤ far → pos far +ℤ z ≡ pos (far - unsigned_abs z)
    below z l k = omega (arith, ints)

pub place_turned : (spot : Spot) (far : ℕ) → spot.negate ≡ true → pos 0 ≤ℤ spot.add → far ≤ unsigned_abs spot.add → place_from spot far ≡ pos (unsigned_abs spot.add - far)
place_turned spot far n h m = rw n (back spot.add h m)
  where
    back : (z : ℤ) → pos 0 ≤ℤ z → far ≤ unsigned_abs z → neg_ℤ (pos far) +ℤ z ≡ pos (unsigned_abs z - far)
    back z l k = omega (arith, ints)

pub ruleset places = (place_above, place_below, place_turned)

pub dyn_slice_folds_at : (shapes : List Shape) (a at : ℕ) (spot : Spot) (v n y : Vector) → IsOver shapes (DynSlice a at spot) → HasShape shapes a (Const v) → HasShape shapes at (Const n) → y ≡ dyn_slice_of v n spot → Becomes shapes (DynSlice a at spot) (Const y)
unfolding value_of width_of
dyn_slice_folds_at shapes a at spot v n y o e d q =
    becomes_const shapes (DynSlice a at spot) y o.arena (ap length q ∙ length-dyn_slice_of v n spot)
    (λ r h. q ∙ ap (λ x. dyn_slice_of x n spot) (sym (const_value r shapes a v o.arena o.children.0 e)) ∙ ap (λ x. dyn_slice_of (value_at r shapes a) x spot) (sym (const_value r shapes at n o.arena o.children.1 d)))

-- ---- a part within a vector

window_within : (a : List Bit) (lo width : ℕ) → lo + width ≤ length a → slice_of a lo width ≡ window a (pos lo) width
unfolding window
window_within a lo zero h = refl
window_within a lo (suc width) h =
    ap (take (suc width)) (drop_more a lo Unknown (omega arith)) ∙ ap (λ xs. get_or a lo Unknown ∷ xs) (window_within a (lo + 1) width (omega arith))

known_part : (a at : List Bit) (spot : Spot) (lo : ℕ) → is_known at ≡ true → place_of spot at ≡ pos lo → lo + spot.width ≤ length a → slice_of a lo spot.width ≡ dyn_slice_of a at spot
unfolding dyn_slice_of
known_part a at spot lo k p h =
    window_within a lo spot.width h ∙ ap (λ z. window a z spot.width) (sym p) ∙ ap (λ b. cond b (window a (place_of spot at) spot.width) (replicate spot.width Unknown)) (sym k)

pub dyn_slice_is_over : (shapes : List Shape) (a at : ℕ) (spot : Spot) (lo : ℕ) → IsOver shapes (DynSlice a at spot) → lo + spot.width ≤ width_at shapes a → IsOver shapes (Slice a lo spot.width)
dyn_slice_is_over shapes a at spot lo o w = record { arena = o.arena; children = o.children.0; fits = (o.fits.0, w) }

pub dyn_slice_is : (shapes : List Shape) (a at : ℕ) (spot : Spot) (v : Vector) (lo : ℕ) (t : Shape) → IsOver shapes (DynSlice a at spot) → HasShape shapes at (Const v) → is_known v ≡ true → place_of spot v ≡ pos lo → lo + spot.width ≤ width_at shapes a → Becomes shapes (Slice a lo spot.width) t → Becomes shapes (DynSlice a at spot) t
unfolding value_of width_of each_variable_of
dyn_slice_is shapes a at spot v lo t o e k p w to =
    becomes_as shapes (DynSlice a at spot) (Slice a lo spot.width) t to refl
    (λ r h. known_part (value_at r shapes a) v spot lo k p (omega (arith, length-value_at r shapes a h o.arena o.children.0)) ∙ ap (λ x. dyn_slice_of (value_at r shapes a) x spot) (sym (const_value r shapes at v o.arena o.children.1 e)))
    (λ p m. left_of _ _ m)

pub dyn_put_folds_at : (shapes : List Shape) (a at : ℕ) (spot : Spot) (put : ℕ) (v n u y : Vector) → IsOver shapes (DynPut a at spot put) → HasShape shapes a (Const v) → HasShape shapes at (Const n) → HasShape shapes put (Const u) → y ≡ dyn_put_of v n spot u → Becomes shapes (DynPut a at spot put) (Const y)
unfolding value_of width_of
dyn_put_folds_at shapes a at spot put v n u y o e d f q =
    becomes_const shapes (DynPut a at spot put) y o.arena (ap length q ∙ length-dyn_put_of v n spot u ∙ sym (const_width shapes a v o.arena o.children.0 e))
    (λ r h. q ∙ ap (λ x. dyn_put_of x n spot u) (sym (const_value r shapes a v o.arena o.children.0 e)) ∙ ap (λ x. dyn_put_of (value_at r shapes a) x spot u) (sym (const_value r shapes at n o.arena o.children.1 d)) ∙ ap (dyn_put_of (value_at r shapes a) (value_at r shapes at) spot) (sym (const_value r shapes put u o.arena o.children.2 f)))

pub ruleset dyn_put_folds = (dyn_put_folds_at, const_width)

pub ruleset dyn_slice_laws = (dyn_slice_folds_at, dyn_slice_is, dyn_slice_is_over)
