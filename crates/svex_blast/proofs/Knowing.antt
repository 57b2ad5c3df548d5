-- Known bits come of known bits, and rails that are the same literals show known bits.
use Rattle.std.proofs.Common.{◌≡◌, ℕ, zero, suc, ◌+◌, ◌-◌, ◌*◌, ◌^◌, ◌≤◌, ◌<◌, Bool, true, false, not, ◌&&◌, cond, eqb, ltb, leb, List, [], ◌∷◌, ◌++◌, length, get_or, take, drop, map, replicate, refl, sym, ap, subst, ◌∙◌, arith}
use Rattle.std.specs.Prelude.{ℤ, pos, negsuc, neg_ℤ, ◌+ℤ◌, int_lt, unsigned_abs}
use Rattle.std.specs.Bool.{beq}
use Rattle.std.specs.List.{All}
use Rattle.std.proofs.lemmas.Bool.{eqb-true, eq-eqb, leb-true}
use Rattle.std.proofs.lemmas.Nat.{mul-le}
use Rattle.std.proofs.lemmas.Int.{ints}
use Rattle.std.proofs.lemmas.List.{length-map}
use Rattle.std.proofs.lemmas.List.Elements.{All-nil, All-cons}
use Rattle.aig.specs.declared.gate.Gate.{Gate}
use Rattle.aig.specs.declared.gate.Lit.{Lit}
use Rattle.aig.specs.Graph.{holds}
use Rattle.fourvec.specs.declared.Bit.{Bit}
use Rattle.fourvec.specs.declared.Bit.TheVariants.{Zero, One, Unknown, Floating}
use Rattle.fourvec.specs.Bits.{number, signed, is_negative, bit_of, truth_bit, is_known_bit, is_known, each, each_pair, over, not_bit, unfloat_bit, and_bit, or_bit, xor_bit, merge_bit, keep_bit, top, first, choose, all_x, some_clash, neg_of, eq_of, lt_of, slt_of, add_of, sub_of, mul_of, shl_of, shr_of, sar_of, cond_of, pick_of}
use Rattle.fourvec.specs.declared.Spot.{Spot}
use Rattle.fourvec.specs.Spots.{reached, place_of, window, dyn_slice_of, bit_or_else, overlaid, dyn_put_of}
use Rattle.fourvec.proofs.Places.{place_parts}
use Rattle.fourvec.proofs.Basic.{is_known-vector, number-lt}
use Rattle.fourvec.proofs.Reduce.{truth_is_red_or}
use Rattle.svex_shape.specs.declared.shape.VarName.{VarName}
use Rattle.svex_shape.specs.declared.shape.VarName.TheVariants.{Now, Prev, Stim, Chosen, Sampled}
use Rattle.svex_shape.specs.declared.shape.Un.{Un}
use Rattle.svex_shape.specs.declared.shape.Un.TheVariants as un
use Rattle.svex_shape.specs.declared.shape.Bin.{Bin}
use Rattle.svex_shape.specs.declared.shape.Bin.TheVariants as bin
use Rattle.svex_shape.specs.declared.shape.Shape.{Shape}
use Rattle.svex_shape.specs.declared.shape.Shape.TheVariants.{Const, Var, Unary, Binary, Cond, Pick, Slice, Zext, Sext, DynSlice, DynPut}
use Rattle.svex_shape.specs.Shapes.{OnChildren, FitsWidths}
use Rattle.svex_shape.specs.Values.{Reading, unary_value, binary_value, value_of, fitted}
use Rattle.pair_words.specs.declared.pairs.Pair.{Pair}
use Rattle.pair_words.specs.Rails.{bit_at, bits, IsWired, IsVector}
use Rattle.svex_blast.specs.Reads.{reading_at, word_in}
use Rattle.svex_blast.specs.Knowns.{keeps_known, lies_inside, always_inside, known_of, is_declared, is_twin, are_twins, twin_of}

both : (s t : Bool) → s ≡ true → t ≡ true → (s && t) ≡ true
both true t e f = f
both false t e f = e

split : (s t : Bool) → (s && t) ≡ true → (s ≡ true) × (t ≡ true)
split true t e = (refl, e)
split false t e = (e, (let z : false ≡ true = e in cc))

-- ---- lists of known bits

k_cons : (x : Bit) (a : List Bit) → is_known_bit x ≡ true → is_known a ≡ true → is_known (x ∷ a) ≡ true
unfolding is_known
k_cons x a h k = both (is_known_bit x) (is_known a) h k

k_parts : (x : Bit) (a : List Bit) → is_known (x ∷ a) ≡ true → (is_known_bit x ≡ true) × (is_known a ≡ true)
unfolding is_known
k_parts x a h = split (is_known_bit x) (is_known a) h

k_nil : is_known [] ≡ true
unfolding is_known
k_nil = refl

k_append : (a b : List Bit) → is_known a ≡ true → is_known b ≡ true → is_known (a ++ b) ≡ true
k_append [] b h k = k
k_append (x ∷ a) b h k = let t = k_parts x a h in k_cons x (a ++ b) t.0 (k_append a b t.1 k)

k_take : (n : ℕ) (a : List Bit) → is_known a ≡ true → is_known (take n a) ≡ true
k_take zero a h = k_nil
k_take (suc n) [] h = k_nil
k_take (suc n) (x ∷ a) h = let t = k_parts x a h in k_cons x (take n a) t.0 (k_take n a t.1)

k_drop : (n : ℕ) (a : List Bit) → is_known a ≡ true → is_known (drop n a) ≡ true
k_drop zero a h = h
k_drop (suc n) [] h = k_nil
k_drop (suc n) (x ∷ a) h = k_drop n a (k_parts x a h).1

k_replicate : (n : ℕ) (x : Bit) → is_known_bit x ≡ true → is_known (replicate n x) ≡ true
k_replicate zero x h = k_nil
k_replicate (suc n) x h = k_cons x (replicate n x) h (k_replicate n x h)

k_at : (a : List Bit) (i : ℕ) (d : Bit) → is_known a ≡ true → is_known_bit d ≡ true → is_known_bit (get_or a i d) ≡ true
k_at [] i d h k = k
k_at (x ∷ a) zero d h k = (k_parts x a h).0
k_at (x ∷ a) (suc i) d h k = k_at a i d (k_parts x a h).1 k

k_each : (f : Bit → Bit) → ((x : Bit) → is_known_bit x ≡ true → is_known_bit (f x) ≡ true) → (a : List Bit) → is_known a ≡ true → is_known (each f a) ≡ true
unfolding each
k_each f keeps [] h = k_nil
k_each f keeps (x ∷ a) h = let t = k_parts x a h in k_cons (f x) (each f a) (keeps x t.0) (k_each f keeps a t.1)

abbrev Keeps : (Bit → Bit → Bit) → Type 0
Keeps f = (x y : Bit) → is_known_bit x ≡ true → is_known_bit y ≡ true → is_known_bit (f x y) ≡ true

k_pair : (f : Bit → Bit → Bit) → Keeps f → (a b : List Bit) → is_known a ≡ true → is_known b ≡ true → is_known (each_pair f a b) ≡ true
unfolding each_pair
k_pair f keeps [] b h k = k_nil
k_pair f keeps (x ∷ a) [] h k = k_nil
k_pair f keeps (x ∷ a) (y ∷ b) h k = let s = k_parts x a h in let t = k_parts y b k in k_cons (f x y) (each_pair f a b) (keeps x y s.0 t.0) (k_pair f keeps a b s.1 t.1)

k_over : (f : Bit → Bit → Bit) → Keeps f → (d : Bit) → is_known_bit d ≡ true → (a : List Bit) → is_known a ≡ true → is_known_bit (over f d a) ≡ true
unfolding over
k_over f keeps d e [] h = e
k_over f keeps d e (x ∷ a) h = let t = k_parts x a h in keeps x (over f d a) t.0 (k_over f keeps d e a t.1)

k_one : (x : Bit) → is_known_bit x ≡ true → is_known (x ∷ []) ≡ true
k_one x h = k_cons x [] h k_nil

-- ---- bits

k_and : Keeps and_bit
k_and Zero y h k = refl
k_and One Zero h k = refl
k_and One One h k = refl
k_and One Unknown h k = k
k_and One Floating h k = k
k_and Unknown y h k = (let z : false ≡ true = h in cc)
k_and Floating y h k = (let z : false ≡ true = h in cc)

k_or : Keeps or_bit
k_or One y h k = refl
k_or Zero Zero h k = refl
k_or Zero One h k = refl
k_or Zero Unknown h k = k
k_or Zero Floating h k = k
k_or Unknown y h k = (let z : false ≡ true = h in cc)
k_or Floating y h k = (let z : false ≡ true = h in cc)

k_xor : Keeps xor_bit
k_xor Zero Zero h k = refl
k_xor Zero One h k = refl
k_xor One Zero h k = refl
k_xor One One h k = refl
k_xor Zero Unknown h k = k
k_xor Zero Floating h k = k
k_xor One Unknown h k = k
k_xor One Floating h k = k
k_xor Unknown y h k = (let z : false ≡ true = h in cc)
k_xor Floating y h k = (let z : false ≡ true = h in cc)

k_not : (x : Bit) → is_known_bit x ≡ true → is_known_bit (not_bit x) ≡ true
k_not Zero h = refl
k_not One h = refl
k_not Unknown h = h
k_not Floating h = h

k_unfloat : (x : Bit) → is_known_bit x ≡ true → is_known_bit (unfloat_bit x) ≡ true
k_unfloat Zero h = refl
k_unfloat One h = refl
k_unfloat Unknown h = h
k_unfloat Floating h = h

k_truth : (b : Bool) → is_known_bit (truth_bit b) ≡ true
k_truth true = refl
k_truth false = refl

-- ---- operators

k_if : (c : Bool) (a b : List Bit) → c ≡ true → is_known a ≡ true → is_known (cond c a b) ≡ true
k_if true a b e h = h
k_if false a b e h = (let z : false ≡ true = e in cc)

k_if_bit : (c : Bool) (a b : Bit) → c ≡ true → is_known_bit a ≡ true → is_known_bit (cond c a b) ≡ true
k_if_bit true a b e h = h
k_if_bit false a b e h = (let z : false ≡ true = e in cc)

k_equal : (s t : Bool) → t ≡ true → is_known_bit (cond s Zero (cond t One Unknown)) ≡ true
k_equal true t e = refl
k_equal false true e = refl
k_equal false false e = (let z : false ≡ true = e in cc)

k_unary : (op : Un) (a : List Bit) → is_known a ≡ true → is_known (unary_value op a) ≡ true
unfolding neg_of
k_unary un.Unfloat a h = k_each unfloat_bit k_unfloat a h
k_unary un.Not a h = k_each not_bit k_not a h
k_unary un.Neg a h = k_if (is_known a) _ (all_x (length a)) h (is_known-vector (length a) _)
k_unary un.RedAnd a h = k_one _ (k_over and_bit k_and One refl a h)
k_unary un.RedOr a h = k_one _ (k_over or_bit k_or Zero refl a h)
k_unary un.RedXor a h = k_one _ (k_over xor_bit k_xor Zero refl a h)
k_unary un.Truth a h = subst (λ (t : List Bit). is_known t ≡ true) (sym (truth_is_red_or a)) (k_one _ (k_over or_bit k_or Zero refl a h))

k_moved_up : (n : ℕ) (a : List Bit) → is_known a ≡ true → is_known (take (length a) (replicate n Zero ++ a)) ≡ true
k_moved_up n a h = k_take (length a) (replicate n Zero ++ a) (k_append (replicate n Zero) a (k_replicate n Zero refl) h)

k_moved_down : (fill : Bit) (n : ℕ) (a : List Bit) → is_known_bit fill ≡ true → is_known a ≡ true → is_known (take (length a) (drop n a ++ replicate (length a) fill)) ≡ true
k_moved_down fill n a f h = k_take (length a) (drop n a ++ replicate (length a) fill) (k_append (drop n a) (replicate (length a) fill) (k_drop n a h) (k_replicate (length a) fill f))

k_top : (a : List Bit) → is_known a ≡ true → is_known_bit (top a) ≡ true
k_top a h = k_at a (length a - 1) Zero h refl

k_none : (t : Bool) → false ≡ true → t ≡ true
k_none t e = (let z : false ≡ true = e in cc)

k_binary : (op : Bin) (a b : List Bit) → keeps_known op ≡ true → is_known a ≡ true → is_known b ≡ true → is_known (binary_value op a b) ≡ true
unfolding eq_of lt_of slt_of add_of sub_of mul_of shl_of shr_of sar_of
k_binary bin.And a b e h k = k_pair and_bit k_and a b h k
k_binary bin.Or a b e h k = k_pair or_bit k_or a b h k
k_binary bin.Xor a b e h k = k_pair xor_bit k_xor a b h k
k_binary bin.Eq a b e h k = k_one _ (k_equal (some_clash a b) (is_known a && is_known b) (both (is_known a) (is_known b) h k))
k_binary bin.Lt a b e h k = k_one _ (k_if_bit (is_known a && is_known b) _ Unknown (both (is_known a) (is_known b) h k) (k_truth _))
k_binary bin.Slt a b e h k = k_one _ (k_if_bit (is_known a && is_known b) _ Unknown (both (is_known a) (is_known b) h k) (k_truth _))
k_binary bin.Add a b e h k = k_if (is_known a && is_known b) _ (all_x (length a)) (both (is_known a) (is_known b) h k) (is_known-vector (length a) _)
k_binary bin.Sub a b e h k = k_if (is_known a && is_known b) _ (all_x (length a)) (both (is_known a) (is_known b) h k) (is_known-vector (length a) _)
k_binary bin.Mul a b e h k = k_if (is_known a && is_known b) _ (all_x (length a)) (both (is_known a) (is_known b) h k) (is_known-vector (length a) _)
k_binary bin.Div a b e h k = k_none _ e
k_binary bin.Rem a b e h k = k_none _ e
k_binary bin.Sdiv a b e h k = k_none _ e
k_binary bin.Srem a b e h k = k_none _ e
k_binary bin.Res a b e h k = k_none _ e
k_binary bin.Shl a b e h k = k_if (is_known b) _ (all_x (length a)) k (k_moved_up _ a h)
k_binary bin.Shr a b e h k = k_if (is_known b) _ (all_x (length a)) k (k_moved_down Zero _ a refl h)
k_binary bin.Sar a b e h k = k_if (is_known b) _ (all_x (length a)) k (k_moved_down (top a) _ a (k_top a h) h)
k_binary bin.Concat a b e h k = k_append b a k h

k_choose : (f : Bit → Bit → Bit) (c : Bit) (a b : List Bit) → is_known_bit c ≡ true → is_known a ≡ true → is_known b ≡ true → is_known (choose f c a b) ≡ true
k_choose f One a b e h k = h
k_choose f Zero a b e h k = k
k_choose f Unknown a b e h k = k_none _ e
k_choose f Floating a b e h k = k_none _ e

k_first : (c : List Bit) → 0 < length c → is_known c ≡ true → is_known_bit (first c) ≡ true
k_first [] some h = absurd (omega arith)
k_first (x ∷ c) some h = (k_parts x c h).0

k_laid : (put : List Bit) (z : ℤ) (x : Bit) → is_known put ≡ true → is_known_bit x ≡ true → is_known_bit (bit_or_else put z x) ≡ true
k_laid put (pos n) x h k = k_at put n x h k
k_laid put (negsuc n) x h k = k

k_overlaid : (a : List Bit) (z : ℤ) (put : List Bit) → is_known a ≡ true → is_known put ≡ true → is_known (overlaid a z put) ≡ true
unfolding overlaid
k_overlaid [] z put h k = k_nil
k_overlaid (x ∷ a) z put h k =
    let t = k_parts x a h in
    k_cons (bit_or_else put (neg_ℤ z) x) (overlaid a (z +ℤ negsuc 0) put) (k_laid put (neg_ℤ z) x k t.0) (k_overlaid a (z +ℤ negsuc 0) put t.1 k)

-- ---- parts at a place

k_in : (a : List Bit) (i : ℕ) → i < length a → is_known a ≡ true → is_known_bit (get_or a i Unknown) ≡ true
k_in [] i lt h = absurd (omega arith)
k_in (x ∷ a) zero lt h = (k_parts x a h).0
k_in (x ∷ a) (suc i) lt h = k_in a i (omega arith) (k_parts x a h).1

k_window : (a : List Bit) (n width : ℕ) → n + width ≤ length a → is_known a ≡ true → is_known (window a (pos n) width) ≡ true
unfolding window
k_window a n zero le h = k_nil
k_window a n (suc width) le h =
    k_cons (get_or a n Unknown) (window a (pos n +ℤ pos 1) width) (k_in a n (omega arith) h)
    (subst (λ z. is_known (window a z width) ≡ true) (let e : pos (n + 1) ≡ pos n +ℤ pos 1 = omega (arith, ints) in e) (k_window a (n + 1) width (omega arith) h))

inside_by : (negate : Bool) (count from most width wide : ℕ) → count ≤ most → lies_inside negate most from width wide ≡ true →
    (n : ℕ) × (reached (not (beq false negate)) count +ℤ reached false from ≡ pos n) × (n + width ≤ wide)
inside_by false count from most width wide le h = (count + from, refl, (let k = leb-true (most + from + width) wide h in omega (arith, k, le)))
inside_by true count from most width wide le h =
    let t = split (leb most from) (leb (from + width) wide) h in
    let low = leb-true most from t.0 in
    let high = leb-true (from + width) wide t.1 in
    (from - count, (let e : neg_ℤ (pos count) +ℤ pos from ≡ pos (from - count) = omega (arith, ints, low, le) in e), omega (arith, high))

not_false : (b : Bool) → not b ≡ true → b ≡ false
not_false false e = refl
not_false true e = sym e

place_inside : (spot : Spot) (at : List Bit) (wide : ℕ) → always_inside wide (length at) spot ≡ true → (n : ℕ) × (place_of spot at ≡ pos n) × (n + spot.width ≤ wide)
unfolding always_inside
place_inside spot at wide h =
    let bits : ℕ = length at in
    let most : ℕ = (2 ^ bits - 1) * spot.each in
    let t = split (not spot.signed) _ h in
    let u = split (ltb bits 9) _ t.1 in
    let s = split (not (int_lt spot.add (pos 0))) (lies_inside spot.negate most (unsigned_abs spot.add) spot.width wide) u.1 in
    let es : spot.signed ≡ false = not_false spot.signed t.0 in
    let en : int_lt spot.add (pos 0) ≡ false = not_false (int_lt spot.add (pos 0)) s.0 in
    let below = number-lt at in
    let few : number at * spot.each ≤ most = mul-le (number at) spot.each (2 ^ bits - 1) spot.each (omega (arith, below)) (omega arith) in
    let p = inside_by spot.negate (number at * spot.each) (unsigned_abs spot.add) most spot.width wide few s.1 in
    (p.0, place_parts spot at ∙ (λ i. reached (not (beq (es i && is_negative at) spot.negate)) (cond (es i) (unsigned_abs (signed at)) (number at) * spot.each) +ℤ reached (en i) (unsigned_abs spot.add)) ∙ p.1, p.2)

-- ---- shapes

-- a shape over known children has known bits
pub known_value : (has : VarName → ℕ → Bool) (reading : Reading) (f : ℕ → List Bit) (w : ℕ → ℕ) (s : Shape) → ((k : ℕ) → length (f k) ≡ w k) → FitsWidths w s →
    ((name : VarName) (width : ℕ) → 0 < width → has name width ≡ true → is_known (reading name width) ≡ true) → known_of has w (λ k. is_known (f k)) s ≡ true → is_known (value_of reading f s) ≡ true
unfolding known_of value_of cond_of pick_of dyn_put_of dyn_slice_of
known_value has reading f w (Const v) long fits reads h = h
known_value has reading f w (Var name width) long fits reads h = reads name width fits.0 h
known_value has reading f w (Unary op a) long fits reads h = k_unary op (f a) h
known_value has reading f w (Binary op a b) long fits reads h =
    let t = split (keeps_known op) (is_known (f a) && is_known (f b)) h in let u = split (is_known (f a)) (is_known (f b)) t.1 in k_binary op (f a) (f b) t.0 u.0 u.1
known_value has reading f w (Cond c a b) long fits reads h =
    let t = split (is_known (f c)) (is_known (f a) && is_known (f b)) h in let u = split (is_known (f a)) (is_known (f b)) t.1 in
    k_choose merge_bit (first (f c)) (f a) (f b) (k_first (f c) (omega (arith, long c, fits.0)) t.0) u.0 u.1
known_value has reading f w (Pick c a b) long fits reads h =
    let t = split (is_known (f c)) (is_known (f a) && is_known (f b)) h in let u = split (is_known (f a)) (is_known (f b)) t.1 in
    k_choose keep_bit (first (f c)) (f a) (f b) (k_first (f c) (omega (arith, long c, fits.0)) t.0) u.0 u.1
known_value has reading f w (Slice a lo width) long fits reads h = k_take width (drop lo (f a)) (k_drop lo (f a) h)
known_value has reading f w (Zext a width) long fits reads h = k_append (f a) (replicate (width - length (f a)) Zero) h (k_replicate (width - length (f a)) Zero refl)
known_value has reading f w (Sext a width) long fits reads h = k_append (f a) (replicate (width - length (f a)) (top (f a))) h (k_replicate (width - length (f a)) (top (f a)) (k_top (f a) h))
known_value has reading f w (DynSlice a at spot) long fits reads h =
    let t = split (always_inside (w a) (w at) spot) (is_known (f a) && is_known (f at)) h in let u = split (is_known (f a)) (is_known (f at)) t.1 in
    let p = place_inside spot (f at) (w a) (subst (λ n. always_inside (w a) n spot ≡ true) (sym (long at)) t.0) in
    k_if (is_known (f at)) (window (f a) (place_of spot (f at)) spot.width) _ u.1
    (subst (λ z. is_known (window (f a) z spot.width) ≡ true) (sym p.1) (k_window (f a) p.0 spot.width (omega (arith, p.2, long a)) u.0))
known_value has reading f w (DynPut a at spot put) long fits reads h =
    let t = split (is_known (f a)) (is_known (f at) && is_known (f put)) h in let u = split (is_known (f at)) (is_known (f put)) t.1 in
    k_if (is_known (f at)) (overlaid (f a) _ (f put)) _ u.0 (k_overlaid (f a) _ (f put) t.0 u.1)

pub known_rises : (has : VarName → ℕ → Bool) (w : ℕ → ℕ) (f g : ℕ → Bool) (s : Shape) → OnChildren (λ k. f k ≡ true → g k ≡ true) s → known_of has w f s ≡ true → known_of has w g s ≡ true
unfolding known_of
known_rises has w f g (Const v) r h = h
known_rises has w f g (Var name width) r h = h
known_rises has w f g (Unary op a) r h = r h
known_rises has w f g (Binary op a b) r h =
    let t = split (keeps_known op) (f a && f b) h in let u = split (f a) (f b) t.1 in both (keeps_known op) (g a && g b) t.0 (both (g a) (g b) (r.0 u.0) (r.1 u.1))
known_rises has w f g (Cond c a b) r h = let t = split (f c) (f a && f b) h in let u = split (f a) (f b) t.1 in both (g c) (g a && g b) (r.0 t.0) (both (g a) (g b) (r.1 u.0) (r.2 u.1))
known_rises has w f g (Pick c a b) r h = let t = split (f c) (f a && f b) h in let u = split (f a) (f b) t.1 in both (g c) (g a && g b) (r.0 t.0) (both (g a) (g b) (r.1 u.0) (r.2 u.1))
known_rises has w f g (Slice a lo width) r h = r h
known_rises has w f g (Zext a width) r h = r h
known_rises has w f g (Sext a width) r h = r h
known_rises has w f g (DynSlice a at spot) r h =
    let t = split (always_inside (w a) (w at) spot) (f a && f at) h in let u = split (f a) (f at) t.1 in both (always_inside (w a) (w at) spot) (g a && g at) t.0 (both (g a) (g at) (r.0 u.0) (r.1 u.1))
known_rises has w f g (DynPut a at spot put) r h = let t = split (f a) (f at && f put) h in let u = split (f at) (f put) t.1 in both (g a) (g at && g put) (r.0 t.0) (both (g at) (g put) (r.1 u.0) (r.2 u.1))

-- the widths of the children alone count
pub known_widths : (has : VarName → ℕ → Bool) (w u : ℕ → ℕ) (f : ℕ → Bool) (s : Shape) → OnChildren (λ k. w k ≡ u k) s → known_of has w f s ≡ known_of has u f s
unfolding known_of
known_widths has w u f (Const v) e = refl
known_widths has w u f (Var name width) e = refl
known_widths has w u f (Unary op a) e = refl
known_widths has w u f (Binary op a b) e = refl
known_widths has w u f (Cond c a b) e = refl
known_widths has w u f (Pick c a b) e = refl
known_widths has w u f (Slice a lo width) e = refl
known_widths has w u f (Zext a width) e = refl
known_widths has w u f (Sext a width) e = refl
known_widths has w u f (DynSlice a at spot) e = λ i. always_inside (e.0 i) (e.1 i) spot && (f a && f at)
known_widths has w u f (DynPut a at spot put) e = refl

pub on_children : (P : ℕ → Type 0) (s : Shape) → ((k : ℕ) → P k) → OnChildren P s
on_children P (Const v) h = tt
on_children P (Var name width) h = tt
on_children P (Unary op a) h = h a
on_children P (Binary op a b) h = (h a, h b)
on_children P (Cond c a b) h = (h c, h a, h b)
on_children P (Pick c a b) h = (h c, h a, h b)
on_children P (Slice a lo width) h = h a
on_children P (Zext a width) h = h a
on_children P (Sext a width) h = h a
on_children P (DynSlice a at spot) h = (h a, h at)
on_children P (DynPut a at spot put) h = (h a, h at, h put)

-- ---- the same literals on both rails

same_bits : (m n x y : Bool) → beq m n ≡ true → y ≡ x → is_known_bit (bit_of (cond m (not x) x) (cond n (not y) y)) ≡ true
same_bits true true true y e f = subst (λ t. is_known_bit (bit_of false (not t)) ≡ true) (sym f) refl
same_bits true true false y e f = subst (λ t. is_known_bit (bit_of true (not t)) ≡ true) (sym f) refl
same_bits false false true y e f = subst (λ t. is_known_bit (bit_of true t) ≡ true) (sym f) refl
same_bits false false false y e f = subst (λ t. is_known_bit (bit_of false t) ≡ true) (sym f) refl
same_bits true false x y e f = k_none _ e
same_bits false true x y e f = k_none _ e

twin_bit : (v : ℕ → Bool) (p : Pair) → is_twin p ≡ true → is_known_bit (bit_at v p) ≡ true
twin_bit v p h =
    let t = split (eqb p.up.node p.low.node) (beq p.up.negated p.low.negated) h in
    same_bits p.up.negated p.low.negated (v p.up.node) (v p.low.node) t.1 (sym (ap v (eqb-true p.up.node p.low.node t.0)))

pub known_twins : (v : ℕ → Bool) (word : List Pair) → are_twins word ≡ true → is_known (bits v word) ≡ true
known_twins v [] h = k_nil
known_twins v (p ∷ word) h = let t = split (is_twin p) (are_twins word) h in k_cons (bit_at v p) (bits v word) (twin_bit v p t.0) (known_twins v word t.1)

known_pair : (x y : Bool) → is_known_bit (bit_of x y) ≡ true → bit_of x x ≡ bit_of x y
known_pair true true h = refl
known_pair false false h = refl
known_pair true false h = k_none_bit h
  where
    k_none_bit : false ≡ true → bit_of true true ≡ bit_of true false
    k_none_bit e = cc
known_pair false true h = k_none_bit h
  where
    k_none_bit : false ≡ true → bit_of false false ≡ bit_of false true
    k_none_bit e = cc

-- the upper rail for both shows the same bits where these are known
pub twinned_bits : (v : ℕ → Bool) (word : List Pair) → is_known (bits v word) ≡ true → bits v (map twin_of word) ≡ bits v word
twinned_bits v [] h = refl
twinned_bits v (p ∷ word) h =
    let t = k_parts (bit_at v p) (bits v word) h in
    λ i. known_pair (holds v p.up) (holds v p.low) t.0 i ∷ twinned_bits v word t.1 i

same_sign : (b : Bool) → beq b b ≡ true
same_sign true = refl
same_sign false = refl

pub twinned_twins : (word : List Pair) → are_twins (map twin_of word) ≡ true
twinned_twins [] = refl
twinned_twins (p ∷ word) = both (is_twin (twin_of p)) (are_twins (map twin_of word)) (both (eqb p.up.node p.up.node) (beq p.up.negated p.up.negated) (eq-eqb p.up.node p.up.node refl) (same_sign p.up.negated)) (twinned_twins word)

same_signs : (m n : Bool) → beq m n ≡ true → m ≡ n
same_signs true true e = refl
same_signs false false e = refl
same_signs true false e = sym e
same_signs false true e = e

same_lit : (a b : Lit) → a.node ≡ b.node → a.negated ≡ b.negated → a ≡ b
same_lit a b e f = λ i. record { node = e i; negated = f i }

pub rails_twins : (word : List Pair) → are_twins word ≡ true → map (λ p. p.up) word ≡ map (λ p. p.low) word
rails_twins [] h = refl
rails_twins (p ∷ word) h =
    let t = split (is_twin p) (are_twins word) h in
    let u = split (eqb p.up.node p.low.node) (beq p.up.negated p.low.negated) t.0 in
    let e : p.up ≡ p.low = same_lit p.up p.low (eqb-true p.up.node p.low.node u.0) (same_signs p.up.negated p.low.negated u.1) in
    λ i. e i ∷ rails_twins word t.1 i

-- ---- variables of the table

wide_at : (v : ℕ → Bool) (vars : List (List Pair)) (k : ℕ) → length (get_or (map (bits v) vars) k []) ≡ get_or (map (λ w. length w) vars) k 0
wide_at v [] k = refl
wide_at v (a ∷ vars) zero = length-map a (bit_at v)
wide_at v (a ∷ vars) (suc k) = wide_at v vars k

twins_at : (v : ℕ → Bool) (vars : List (List Pair)) (k : ℕ) → All (λ w. are_twins w ≡ true) vars → is_known (get_or (map (bits v) vars) k []) ≡ true
twins_at v [] k h = k_nil
twins_at v (a ∷ vars) zero h = known_twins v a (h 0 a (omega arith))
twins_at v (a ∷ vars) (suc k) h = twins_at v vars k (λ n d lt. h (suc n) d (omega arith))

pub declared_known : (v : ℕ → Bool) (vars : List (List Pair)) → All (λ w. are_twins w ≡ true) vars → (name : VarName) (width : ℕ) → 0 < width → is_declared (map (λ w. length w) vars) name width ≡ true →
    is_known (reading_at v vars name width) ≡ true
unfolding fitted
declared_known v vars twins (Chosen k) width some h =
    let x : List Bit = get_or (map (bits v) vars) k [] in
    k_if (eqb (length x) width) x (all_x width) (ap (λ n. eqb n width) (wide_at v vars k) ∙ h) (twins_at v vars k twins)
declared_known v vars twins (Now k) width some h = k_none _ h
declared_known v vars twins (Prev k) width some h = k_none _ h
declared_known v vars twins (Stim k) width some h = k_none _ h
declared_known v vars twins (Sampled k) width some h = k_none _ h

pub twins_push : (word : List Pair) (l : Lit) → are_twins word ≡ true → are_twins (word ++ record { up = l; low = l } ∷ []) ≡ true
twins_push [] l h = both (is_twin (record { up = l; low = l })) true (both (eqb l.node l.node) (beq l.negated l.negated) (eq-eqb l.node l.node refl) (same_sign l.negated)) refl
twins_push (p ∷ word) l h = let t = split (is_twin p) (are_twins word) h in both (is_twin p) (are_twins (word ++ record { up = l; low = l } ∷ [])) t.0 (twins_push word l t.1)

-- ---- the vector that is kept

twins_in : (gates : List Gate) (word : List Pair) → All (IsWired gates) word → All (IsWired gates) (map twin_of word)
twins_in gates [] h = All-nil (IsWired gates)
twins_in gates (p ∷ word) h =
    let w : IsWired gates p = h 0 p (omega arith) in
    All-cons (IsWired gates) (twin_of p) (map twin_of word) (record { up = w.up; low = w.up }) (twins_in gates word (λ n d lt. h (suc n) d (omega arith)))

pub settled_in : (gates : List Gate) (n : ℕ) (known : Bool) (word : List Pair) → IsVector gates n word → IsVector gates n (cond known (map twin_of word) word)
settled_in gates n true word h = record { long = length-map word twin_of ∙ h.long; inside = twins_in gates word h.inside }
settled_in gates n false word h = h

pub settled_bits : (v : ℕ → Bool) (known : Bool) (word : List Pair) → (known ≡ true → is_known (bits v word) ≡ true) → bits v (cond known (map twin_of word) word) ≡ bits v word
settled_bits v true word h = twinned_bits v word (h refl)
settled_bits v false word h = refl

pub settled_twins : (known : Bool) (word : List Pair) → known ≡ true → are_twins (cond known (map twin_of word) word) ≡ true
settled_twins true word e = twinned_twins word
settled_twins false word e = k_none _ e

-- the value of a shape over vectors that are the same on both rails
pub known_shape : (v : ℕ → Bool) (vars done : List (List Pair)) (s : Shape) → All (λ w. are_twins w ≡ true) vars → FitsWidths (λ k. length (word_in done k)) s →
    known_of (is_declared (map (λ w. length w) vars)) (λ k. length (word_in done k)) (λ k. are_twins (word_in done k)) s ≡ true → is_known (value_of (reading_at v vars) (λ k. bits v (word_in done k)) s) ≡ true
known_shape v vars done s twins fits h =
    let has : VarName → ℕ → Bool = is_declared (map (λ w. length w) vars) in
    known_value has (reading_at v vars) (λ k. bits v (word_in done k)) (λ k. length (word_in done k)) s (λ k. length-map (word_in done k) (bit_at v)) fits (declared_known v vars twins)
    (known_rises has (λ k. length (word_in done k)) (λ k. are_twins (word_in done k)) (λ k. is_known (bits v (word_in done k))) s (on_children _ s (λ k. known_twins v (word_in done k))) h)
