-- How parts lie over vectors that they are put into.
use Rattle.std.proofs.Common.{◌≡◌, ℕ, zero, suc, ◌+◌, ◌-◌, ◌<◌, ◌≤◌, min, Bool, true, false, List, [], ◌∷◌, ◌++◌, length, take, drop, get_or, refl, sym, ap, ◌∙◌, ◌⊎◌, inl, inr, arith, length-append, length-drop, length-take, get_or-drop, get_or-take}
use Rattle.std.specs.Prelude.{ℤ, pos, negsuc, neg_ℤ, ◌+ℤ◌}
use Rattle.std.proofs.lemmas.Int.{ints}
use Rattle.std.proofs.lemmas.Bool.{cases_lt}
use Rattle.std.proofs.lemmas.List.{get_or_past, get_or_default, get_or_append_left, get_or-append_right, same_lists}
use Rattle.fourvec.specs.declared.Bit.{Bit}
use Rattle.fourvec.specs.Bits.{slice_of}
use Rattle.fourvec.specs.Spots.{reached, bit_or_else, overlaid}
use Rattle.fourvec.proofs.Widths.{length-overlaid}
use Rattle.sv_blocks.specs.Parts.{IsLay}

-- ---- three lists one after the other

at_front : (a b c : List Bit) (k : ℕ) (d : Bit) → k < length a → get_or (a ++ b ++ c) k d ≡ get_or a k d
at_front a b c k d h = let l : k < length (a ++ b) = omega (arith, length-append a b) in get_or_append_left (a ++ b) c d k l ∙ get_or_append_left a b d k h

at_middle : (a b c : List Bit) (n k : ℕ) (d : Bit) → length a ≡ n → n ≤ k → k < n + length b → get_or (a ++ b ++ c) k d ≡ get_or b (k - n) d
at_middle a b c n k d e l h = let m : k < length (a ++ b) = omega (arith, length-append a b) in get_or_append_left (a ++ b) c d k m ∙ get_or-append_right a b n k d e l

at_end : (a b c : List Bit) (n k : ℕ) (d : Bit) → length a + length b ≡ n → n ≤ k → get_or (a ++ b ++ c) k d ≡ get_or c (k - n) d
at_end a b c n k d e l = let m : length (a ++ b) ≡ n = omega (arith, length-append a b) in get_or-append_right (a ++ b) c n k d m l

-- ---- one bit of a vector with a part put into it

overlaid_at : (put v : List Bit) (z : ℤ) (k : ℕ) (d : Bit) → k < length v → get_or (overlaid v z put) k d ≡ bit_or_else put (neg_ℤ z +ℤ pos k) (get_or v k d)
unfolding overlaid
overlaid_at put [] z k d h = absurd (omega arith)
overlaid_at put (a ∷ more) z zero d h = let e : neg_ℤ z ≡ neg_ℤ z +ℤ pos 0 = omega (arith, ints) in ap (λ y. bit_or_else put y a) e
overlaid_at put (a ∷ more) z (suc k) d h =
    let e : neg_ℤ (z +ℤ negsuc 0) +ℤ pos k ≡ neg_ℤ z +ℤ pos (suc k) = omega (arith, ints) in
    overlaid_at put more (z +ℤ negsuc 0) k d (omega arith) ∙ ap (λ y. bit_or_else put y (get_or more k d)) e

before : (put v : List Bit) (far k : ℕ) (d : Bit) → k < length v → k < far → get_or (overlaid v (pos far) put) k d ≡ get_or v k d
before put v far k d h l =
    let e : neg_ℤ (pos far) +ℤ pos k ≡ negsuc (far - suc k) = omega (arith, ints) in
    overlaid_at put v (pos far) k d h ∙ ap (λ y. bit_or_else put y (get_or v k d)) e

behind : (put v : List Bit) (far k : ℕ) (d : Bit) → k < length v → far ≤ k → get_or (overlaid v (pos far) put) k d ≡ get_or put (k - far) (get_or v k d)
behind put v far k d h l =
    let e : neg_ℤ (pos far) +ℤ pos k ≡ pos (k - far) = omega (arith, ints) in
    overlaid_at put v (pos far) k d h ∙ ap (λ y. bit_or_else put y (get_or v k d)) e

cut_off : (put v : List Bit) (far k : ℕ) (d : Bit) → k < length v → get_or (overlaid v (neg_ℤ (pos far)) put) k d ≡ get_or put (far + k) (get_or v k d)
cut_off put v far k d h =
    let e : neg_ℤ (neg_ℤ (pos far)) +ℤ pos k ≡ pos (far + k) = omega (arith, ints) in
    overlaid_at put v (neg_ℤ (pos far)) k d h ∙ ap (λ y. bit_or_else put y (get_or v k d)) e

-- ---- lays

front_is : (v : List Bit) (lo : ℕ) → lo ≤ length v → length (take lo v) ≡ lo
front_is v lo h = omega (arith, length-take lo v)

slice_is : (put : List Bit) (below inside : ℕ) → below + inside ≤ length put → length (slice_of put below inside) ≡ inside
slice_is put below inside h = omega (arith, length-take inside (drop below put), length-drop below put)

whole_is : (v put : List Bit) (lo below inside : ℕ) → lo + inside ≤ length v → below + inside ≤ length put → length (take lo v ++ slice_of put below inside ++ drop (lo + inside) v) ≡ length v
whole_is v put lo below inside h g =
    omega (arith, length-append (take lo v ++ slice_of put below inside) (drop (lo + inside) v), length-append (take lo v) (slice_of put below inside), front_is v lo (omega arith), slice_is put below inside g, length-drop (lo + inside) v)

slice_at : (put : List Bit) (below inside i : ℕ) (d e : Bit) → i < inside → below + i < length put → get_or put (below + i) e ≡ get_or (slice_of put below inside) i d
slice_at put below inside i d e h l = get_or_default put (below + i) e d l ∙ sym (get_or-take inside (drop below put) i d h ∙ get_or-drop below put i d)

rest_at : (v : List Bit) (m k : ℕ) (d : Bit) → m ≤ k → get_or v k d ≡ get_or (drop m v) (k - m) d
rest_at v m k d l = let e : k ≡ m + (k - m) = omega arith in ap (λ i. get_or v i d) e ∙ sym (get_or-drop m v (k - m) d)

up : (v put : List Bit) (far width lo inside : ℕ) → length put ≡ width → lo ≡ min far (length v) → inside ≡ min width (length v - lo)
    → overlaid v (pos far) put ≡ take lo v ++ slice_of put 0 inside ++ drop (lo + inside) v
up v put far width lo inside e f g =
    same_lists _ _ (length-overlaid v (pos far) put ∙ sym (whole_is v put lo 0 inside (omega arith) (omega arith)))
    (λ k d h. let l : k < length v = omega (arith, length-overlaid v (pos far) put) in at_place k d l (cases_lt k lo) (cases_lt k (lo + inside)))
  where
    at_place : (k : ℕ) (d : Bit) → k < length v → ((k < lo) ⊎ (lo ≤ k)) → ((k < lo + inside) ⊎ (lo + inside ≤ k))
        → get_or (overlaid v (pos far) put) k d ≡ get_or (take lo v ++ slice_of put 0 inside ++ drop (lo + inside) v) k d
    at_place k d l (inl a) b =
        let n : k < length (take lo v) = omega (arith, front_is v lo (omega arith)) in
        before put v far k d l (omega arith) ∙ sym (at_front (take lo v) (slice_of put 0 inside) (drop (lo + inside) v) k d n ∙ get_or-take lo v k d a)
    at_place k d l (inr a) (inl b) =
        let same : lo ≡ far = omega arith in
        let i : k - far ≡ 0 + (k - lo) = omega arith in
        let m : k < lo + length (slice_of put 0 inside) = omega (arith, slice_is put 0 inside (omega arith)) in
        behind put v far k d l (omega arith) ∙ ap (λ j. get_or put j (get_or v k d)) i ∙ slice_at put 0 inside (k - lo) d (get_or v k d) (omega arith) (omega arith)
        ∙ sym (at_middle (take lo v) (slice_of put 0 inside) (drop (lo + inside) v) lo k d (front_is v lo (omega arith)) a m)
    at_place k d l (inr a) (inr b) =
        let past : length put ≤ k - far = omega arith in
        let n : length (take lo v) + length (slice_of put 0 inside) ≡ lo + inside = omega (arith, front_is v lo (omega arith), slice_is put 0 inside (omega arith)) in
        behind put v far k d l (omega arith) ∙ get_or_past put (k - far) (get_or v k d) past ∙ rest_at v (lo + inside) k d b
        ∙ sym (at_end (take lo v) (slice_of put 0 inside) (drop (lo + inside) v) (lo + inside) k d n b)

down : (v put : List Bit) (far width below inside : ℕ) → length put ≡ width → below ≡ min far width → inside ≡ min (width - below) (length v)
    → overlaid v (neg_ℤ (pos far)) put ≡ take 0 v ++ slice_of put below inside ++ drop (0 + inside) v
down v put far width below inside e f g =
    same_lists _ _ (length-overlaid v (neg_ℤ (pos far)) put ∙ sym (whole_is v put 0 below inside (omega arith) (omega arith)))
    (λ k d h. let l : k < length v = omega (arith, length-overlaid v (neg_ℤ (pos far)) put) in at_place k d l (cases_lt k inside))
  where
    at_place : (k : ℕ) (d : Bit) → k < length v → ((k < inside) ⊎ (inside ≤ k))
        → get_or (overlaid v (neg_ℤ (pos far)) put) k d ≡ get_or (take 0 v ++ slice_of put below inside ++ drop (0 + inside) v) k d
    at_place k d l (inl a) =
        let i : far + k ≡ below + (k - 0) = omega arith in
        let m : k < 0 + length (slice_of put below inside) = omega (arith, slice_is put below inside (omega arith)) in
        cut_off put v far k d l ∙ ap (λ j. get_or put j (get_or v k d)) i ∙ slice_at put below inside (k - 0) d (get_or v k d) (omega arith) (omega arith)
        ∙ sym (at_middle (take 0 v) (slice_of put below inside) (drop (0 + inside) v) 0 k d refl (omega arith) m)
    at_place k d l (inr a) =
        let past : length put ≤ far + k = omega arith in
        let n : length (take 0 v) + length (slice_of put below inside) ≡ 0 + inside = omega (arith, slice_is put below inside (omega arith)) in
        cut_off put v far k d l ∙ get_or_past put (far + k) (get_or v k d) past ∙ rest_at v (0 + inside) k d (omega arith)
        ∙ sym (at_end (take 0 v) (slice_of put below inside) (drop (0 + inside) v) (0 + inside) k d n (omega arith))

pub lay_up : (size : ℕ) (b : Bool) (width far lo inside : ℕ) → b ≡ false → lo ≡ min far size → inside ≡ min width (size - lo) → IsLay size (reached b far) width 0 lo inside
lay_up size false width far lo inside p l i = record {
  from = omega arith;
  within = omega arith;
  gives = λ v put e f. up v put far width lo inside f (omega arith) (omega arith);
}
lay_up size true width far lo inside p l i = cc

pub lay_down : (size : ℕ) (b : Bool) (width far below inside : ℕ) → b ≡ true → below ≡ min far width → inside ≡ min (width - below) size → IsLay size (reached b far) width below 0 inside
lay_down size true width far below inside p l i = record {
  from = omega arith;
  within = omega arith;
  gives = λ v put e f. down v put far width below inside f (omega arith) (omega arith);
}
lay_down size false width far below inside p l i = cc

pub ruleset lays = (lay_up, lay_down)
