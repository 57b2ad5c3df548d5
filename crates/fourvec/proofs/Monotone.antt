-- Each operator gives more where its vectors have more.
use Rattle.std.proofs.Common.{ℕ, List, ◌∷◌, ◌&&◌, [], length, refl, ap}
use Rattle.fourvec.specs.Bits.{add_of, and_bit, and_of, both_known, concat_of, cond_of, div_of, eq_of, is_divisor, is_known, keep_bit, lt_of, merge_bit, moved_down, moved_up, mul_of, neg_of, not_bit, not_of, or_bit, or_of, pick_of, red_and_of, red_or_of, red_xor_of, rem_of, res_bit, res_of, sar_of, sdiv_of, sext_of, shl_of, shr_of, slice_of, slt_of, srem_of, sub_of, top, truth_of, unfloat_bit, unfloat_of, xor_bit, xor_of, zext_of}
use Rattle.fourvec.specs.declared.Bit.TheVariants.{Zero, One}
use Rattle.fourvec.proofs.Order.{each_monotone, each_pair_monotone, over_monotone, strict_monotone, strict_pair_monotone, x_otherwise, x_otherwise_too, move_monotone, moved_up_monotone, moved_down_below, top_below, widened, below-append, below-take, below-drop, choice_monotone, eq_rises}
use Rattle.std.specs.Prelude.{ℤ, pos, negsuc, neg_ℤ, ◌+ℤ◌}
use Rattle.std.proofs.Common.{◌≡◌, zero, suc, Bool, true, false, cond, sym, subst, get_or, ◌⊎◌, inl, inr, ◌∙◌}
use Rattle.std.proofs.lemmas.Bool.{cases_Bool}
use Rattle.fourvec.specs.declared.Bit.{Bit}
use Rattle.fourvec.specs.declared.Bit.TheVariants.{Unknown, Floating}
use Rattle.fourvec.specs.declared.Spot.{Spot}
use Rattle.fourvec.specs.Bits.{bit_below, all_pairs, each, same_bit}
use Rattle.fourvec.specs.Spots.{bit_from, window, place_of, dyn_slice_of, bit_or_else, overlaid, all_are, kept_bit, dyn_put_of}
use Rattle.fourvec.proofs.Order.{below-get_or-at, both, known_same, x_below}
use Rattle.fourvec.proofs.Reduce.{truth_is_red_or}
use Rattle.fourvec.proofs.Tables.{left_of, right_of, same_bit-true}
use Rattle.fourvec.proofs.Widths.{length_either, length_signed, length-moved_up, length-moved_down, length-dyn_slice_of}
use Rattle.fourvec.specs.Laws.{Below, Monotone, MonotonePair, MonotoneChoice, MonotonePut}

pub unfloat_monotone : Monotone unfloat_of
unfloat_monotone = each_monotone unfloat_bit refl

pub not_monotone : Monotone not_of
not_monotone = each_monotone not_bit refl

pub and_monotone : MonotonePair and_of
and_monotone = each_pair_monotone and_bit refl

pub or_monotone : MonotonePair or_of
or_monotone = each_pair_monotone or_bit refl

pub xor_monotone : MonotonePair xor_of
xor_monotone = each_pair_monotone xor_bit refl

pub res_monotone : MonotonePair res_of
res_monotone = each_pair_monotone res_bit refl

pub red_and_monotone : Monotone red_and_of
red_and_monotone = over_monotone and_bit One refl

pub red_or_monotone : Monotone red_or_of
red_or_monotone = over_monotone or_bit Zero refl

pub truth_monotone : Monotone truth_of
unfolding truth_of
truth_monotone a c h =
    subst (λ x. Below x (truth_of c)) (sym (truth_is_red_or a)) (subst (λ y. Below (red_or_of a) y) (sym (truth_is_red_or c)) (red_or_monotone a c h))

pub red_xor_monotone : Monotone red_xor_of
red_xor_monotone = over_monotone xor_bit Zero refl

pub neg_monotone : Monotone neg_of
unfolding neg_of
neg_monotone = strict_monotone neg_of (λ w. w) (λ a. length_either (is_known a) (length a) _) (λ a k. x_otherwise _ _ _ k)

pub add_monotone : MonotonePair add_of
unfolding add_of
add_monotone = strict_pair_monotone add_of (λ w. w) (λ a b. length_either (both_known a b) (length a) _) (λ a b k. x_otherwise _ _ _ k)

pub sub_monotone : MonotonePair sub_of
unfolding sub_of
sub_monotone = strict_pair_monotone sub_of (λ w. w) (λ a b. length_either (both_known a b) (length a) _) (λ a b k. x_otherwise _ _ _ k)

pub mul_monotone : MonotonePair mul_of
unfolding mul_of
mul_monotone = strict_pair_monotone mul_of (λ w. w) (λ a b. length_either (both_known a b) (length a) _) (λ a b k. x_otherwise _ _ _ k)

pub div_monotone : MonotonePair div_of
unfolding div_of
div_monotone = strict_pair_monotone div_of (λ w. w) (λ a b. length_either (both_known a b && is_divisor b) (length a) _) (λ a b k. x_otherwise_too _ _ _ _ k)

pub rem_monotone : MonotonePair rem_of
unfolding rem_of
rem_monotone = strict_pair_monotone rem_of (λ w. w) (λ a b. length_either (both_known a b && is_divisor b) (length a) _) (λ a b k. x_otherwise_too _ _ _ _ k)

pub lt_monotone : MonotonePair lt_of
unfolding lt_of
lt_monotone = strict_pair_monotone lt_of (λ _. 1) (λ a b. refl) (λ a b k. ap (λ x. x ∷ []) (x_otherwise _ _ _ k))

pub slt_monotone : MonotonePair slt_of
unfolding slt_of
slt_monotone = strict_pair_monotone slt_of (λ _. 1) (λ a b. refl) (λ a b k. ap (λ x. x ∷ []) (x_otherwise _ _ _ k))

pub shl_monotone : MonotonePair shl_of
unfolding shl_of
shl_monotone = move_monotone moved_up length-moved_up moved_up_monotone

pub shr_monotone : MonotonePair shr_of
unfolding shr_of
shr_monotone = move_monotone (moved_down Zero) (length-moved_down Zero) (λ n a d h. moved_down_below n Zero Zero a d refl h)

pub sar_monotone : MonotonePair sar_of
unfolding sar_of
sar_monotone = move_monotone (λ n a. moved_down (top a) n a) (λ n a. length-moved_down (top a) n a) (λ n a d h. moved_down_below n (top a) (top d) a d (top_below a d h) h)

pub concat_monotone : MonotonePair concat_of
concat_monotone = λ a b x y h g. below-append b a y x g h

pub eq_monotone : MonotonePair eq_of
eq_monotone = eq_rises

pub cond_monotone : MonotoneChoice cond_of
unfolding cond_of
cond_monotone = choice_monotone merge_bit refl refl

pub pick_monotone : MonotoneChoice pick_of
unfolding pick_of
pick_monotone = choice_monotone keep_bit refl refl

pub slice_monotone : (lo width : ℕ) → Monotone (λ a. slice_of a lo width)
slice_monotone = λ lo width a d h. below-take width _ _ (below-drop lo a d h)

pub zext_monotone : (width : ℕ) → Monotone (λ a. zext_of a width)
zext_monotone = λ width a d h. widened Zero Zero width a d refl h

pub sext_monotone : (width : ℕ) → Monotone (λ a. sext_of a width)
sext_monotone = λ width a d h. widened (top a) (top d) width a d (top_below a d h) h

pub sdiv_monotone : MonotonePair sdiv_of
unfolding sdiv_of
sdiv_monotone =
    strict_pair_monotone sdiv_of (λ w. w) (λ a b. length_signed (both_known a b && is_divisor b) (length a) _) (λ a b k. x_otherwise_too _ _ _ _ k)

pub srem_monotone : MonotonePair srem_of
unfolding srem_of
srem_monotone =
    strict_pair_monotone srem_of (λ w. w) (λ a b. length_signed (both_known a b && is_divisor b) (length a) _) (λ a b k. x_otherwise_too _ _ _ _ k)

-- ---- places that are computed

bit_from_below : (a c : List Bit) (z : ℤ) → Below a c → bit_below (bit_from a z) (bit_from c z) ≡ true
bit_from_below a c (pos k) h = below-get_or-at k a c Unknown Unknown h refl
bit_from_below a c (negsuc k) h = refl

pub window_monotone : (width : ℕ) (a c : List Bit) → Below a c → (z : ℤ) → Below (window a z width) (window c z width)
unfolding window all_pairs
window_monotone zero a c h z = refl
window_monotone (suc width) a c h z = both _ _ (bit_from_below a c z h) (window_monotone width a c h (z +ℤ pos 1))

pub dyn_slice_monotone : (spot : Spot) → MonotonePair (λ a at. dyn_slice_of a at spot)
unfolding dyn_slice_of
dyn_slice_monotone spot a t c v h g =
    elim (cases_Bool (is_known t)) [
      | inl k ↦ subst (λ y. Below (dyn_slice_of a t spot) (dyn_slice_of c y spot)) (known_same t v k g) (known k)
      | inr k ↦ subst (λ x. Below x (dyn_slice_of c v spot)) (sym (x_otherwise _ _ _ k)) (x_below spot.width _ (sym (length-dyn_slice_of c v spot)))
    ]
  where
    known : is_known t ≡ true → Below (dyn_slice_of a t spot) (dyn_slice_of c t spot)
    known k = rw k (window_monotone spot.width a c h (place_of spot t))

laid_below : (p q : List Bit) (z : ℤ) (x y : Bit) → Below p q → bit_below x y ≡ true → bit_below (bit_or_else p z x) (bit_or_else q z y) ≡ true
laid_below p q (pos k) x y h g = below-get_or-at k p q x y h g
laid_below p q (negsuc k) x y h g = g

pub overlaid_monotone : (a c p q : List Bit) → Below a c → Below p q → (z : ℤ) → Below (overlaid a z p) (overlaid c z q)
unfolding overlaid all_pairs
overlaid_monotone [] [] p q h g z = refl
overlaid_monotone [] (c ∷ others) p q h g z = cc
overlaid_monotone (a ∷ more) [] p q h g z = cc
overlaid_monotone (a ∷ more) (c ∷ others) p q h g z =
    both _ _ (laid_below p q (neg_ℤ z) a c g (left_of _ _ h)) (overlaid_monotone more others p q (right_of _ _ h) g (z +ℤ negsuc 0))

-- a bit other than X is below itself alone
known_stays : (b d : Bit) → same_bit b Unknown ≡ false → bit_below b d ≡ true → same_bit b d ≡ true
known_stays Zero d n h = zero_stays d h
  where
    zero_stays : (e : Bit) → bit_below Zero e ≡ true → same_bit Zero e ≡ true
    zero_stays Zero h = refl
    zero_stays One h = h
    zero_stays Unknown h = h
    zero_stays Floating h = h
known_stays One d n h = one_stays d h
  where
    one_stays : (e : Bit) → bit_below One e ≡ true → same_bit One e ≡ true
    one_stays Zero h = h
    one_stays One h = refl
    one_stays Unknown h = h
    one_stays Floating h = h
known_stays Floating d n h = z_stays d h
  where
    z_stays : (e : Bit) → bit_below Floating e ≡ true → same_bit Floating e ≡ true
    z_stays Zero h = h
    z_stays One h = h
    z_stays Unknown h = h
    z_stays Floating h = refl
known_stays Unknown d n h = cc

-- a bit other than X that all bits equal is equal to all bits above those
all_are_above : (x : Bit) (p q : List Bit) → same_bit x Unknown ≡ false → all_are x p ≡ true → Below p q → all_are x q ≡ true
unfolding all_are all_pairs
all_are_above x [] [] n h g = refl
all_are_above x [] (d ∷ others) n h g = cc
all_are_above x (b ∷ more) [] n h g = cc
all_are_above x (b ∷ more) (d ∷ others) n h g =
    both _ _ (stays x b d n (left_of _ _ h) (left_of _ _ g)) (all_are_above x more others n (right_of _ _ h) (right_of _ _ g))
  where
    stays : (y c e : Bit) → same_bit y Unknown ≡ false → same_bit y c ≡ true → bit_below c e ≡ true → same_bit y e ≡ true
    stays y c e m i j = let here : y ≡ c = same_bit-true y c i in ap (λ z. same_bit z e) here ∙ known_stays c e (subst (λ z. same_bit z Unknown ≡ false) here m) j

below_each : (x : Bit) (p q : List Bit) (k : ℕ) (y : Bit) → all_are x p ≡ true → Below p q → bit_below x y ≡ true → bit_below x (get_or q k y) ≡ true
unfolding all_are all_pairs
below_each x [] [] k y e h g = g
below_each x [] (d ∷ others) k y e h g = cc
below_each x (b ∷ more) [] k y e h g = cc
below_each x (b ∷ more) (d ∷ others) zero y e h g = let here : x ≡ b = same_bit-true x b (left_of _ _ e) in subst (λ z. bit_below z d ≡ true) (sym here) (left_of _ _ h)
below_each x (b ∷ more) (d ∷ others) (suc k) y e h g = below_each x more others k y (right_of _ _ e) (right_of _ _ h) g

pub kept_below_put : (p q : List Bit) (x y : Bit) (z : ℤ) → Below p q → bit_below x y ≡ true → bit_below (kept_bit p x) (bit_or_else q z y) ≡ true
unfolding kept_bit
kept_below_put p q x y z h g = by_test (all_are x p) refl z
  where
    by_test : (t : Bool) → t ≡ all_are x p → (w : ℤ) → bit_below (cond t x Unknown) (bit_or_else q w y) ≡ true
    by_test false e w = refl
    by_test true e (negsuc k) = g
    by_test true e (pos k) = below_each x p q k y (sym e) h g

pub kept_below_kept : (p q : List Bit) (x y : Bit) → Below p q → bit_below x y ≡ true → bit_below (kept_bit p x) (kept_bit q y) ≡ true
unfolding kept_bit
kept_below_kept p q x y h g = by_test (all_are x p) refl (cases_Bool (same_bit x Unknown))
  where
    by_test : (t : Bool) → t ≡ all_are x p → ((same_bit x Unknown ≡ true) ⊎ (same_bit x Unknown ≡ false)) → bit_below (cond t x Unknown) (cond (all_are y q) y Unknown) ≡ true
    by_test false e c = refl
    by_test true e (inl is_x) = subst (λ b. bit_below b (cond (all_are y q) y Unknown) ≡ true) (sym (same_bit-true x Unknown is_x)) refl
    by_test true e (inr known) =
        let here : x ≡ y = same_bit-true x y (known_stays x y known g) in
        let all : all_are y q ≡ true = subst (λ b. all_are b q ≡ true) here (all_are_above x p q known (sym e) h) in
        rw all g

pub kept_below_overlaid : (p q a c : List Bit) (z : ℤ) → Below p q → Below a c → Below (each (kept_bit p) a) (overlaid c z q)
unfolding each overlaid all_pairs
kept_below_overlaid p q [] [] z h g = refl
kept_below_overlaid p q [] (c ∷ others) z h g = cc
kept_below_overlaid p q (a ∷ more) [] z h g = cc
kept_below_overlaid p q (a ∷ more) (c ∷ others) z h g =
    both _ _ (kept_below_put p q a c (neg_ℤ z) h (left_of _ _ g)) (kept_below_overlaid p q more others (z +ℤ negsuc 0) h (right_of _ _ g))

pub kept_below_each : (p q a c : List Bit) → Below p q → Below a c → Below (each (kept_bit p) a) (each (kept_bit q) c)
unfolding each all_pairs
kept_below_each p q [] [] h g = refl
kept_below_each p q [] (c ∷ others) h g = cc
kept_below_each p q (a ∷ more) [] h g = cc
kept_below_each p q (a ∷ more) (c ∷ others) h g =
    both _ _ (kept_below_kept p q a c h (left_of _ _ g)) (kept_below_each p q more others h (right_of _ _ g))

pub dyn_put_monotone : (spot : Spot) → MonotonePut (λ a t put. dyn_put_of a t spot put)
unfolding dyn_put_of
dyn_put_monotone spot a t p c v q h g f =
    elim (cases_Bool (is_known t)) [
      | inl k ↦ subst (λ y. Below (dyn_put_of a t spot p) (dyn_put_of c y spot q)) (known_same t v k g) (known k)
      | inr k ↦ subst (λ x. Below x (dyn_put_of c v spot q)) (sym (x_otherwise _ _ _ k)) (either (is_known v))
    ]
  where
    known : is_known t ≡ true → Below (dyn_put_of a t spot p) (dyn_put_of c t spot q)
    known k = rw k (overlaid_monotone a c p q h f (place_of spot t))

    either : (k : Bool) → Below (each (kept_bit p) a) (cond k (overlaid c (place_of spot v) q) (each (kept_bit q) c))
    either true = kept_below_overlaid p q a c (place_of spot v) f h
    either false = kept_below_each p q a c f h
