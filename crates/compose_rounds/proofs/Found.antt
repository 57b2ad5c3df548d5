-- The bit that is found among values of segments.
use Rattle.std.proofs.Common.{◌≡◌, ℕ, zero, suc, ◌+◌, ◌-◌, ◌<◌, ◌≤◌, Bool, true, false, cond, List, [], ◌∷◌, length, get_or, map, replicate, refl, sym, ap, ◌∙◌, inl, inr, ◌⊎◌, arith}
use Rattle.std.proofs.lemmas.Bool.{eqb-true, eq-eqb, leb-true, le-leb, ltb-true, lt-ltb}
use Rattle.std.proofs.lemmas.List.{ext_get_or, get_or-map, length-map}
use Rattle.fourvec.specs.declared.Bit.TheVariants.{Unknown}
use Rattle.fourvec.specs.Bits.{bit_below, all_pairs}
use Rattle.fourvec.specs.Laws.{Below}
use Rattle.fourvec.proofs.Tables.{left_of, right_of}
use Rattle.fourvec.proofs.Order.{both}
use Rattle.lhs_alias.specs.declared.segs.Seg.{Seg}
use Rattle.lhs_alias.specs.declared.segs.WireBit.{WireBit}
use Rattle.lhs_alias.specs.Segs.{bit, seg_bits}
use Rattle.lhs_alias.proofs.SegBits.{get_or-seg_bits, length-seg_bits}
use Rattle.svex_shape.specs.Values.{Vector}
use Rattle.settling.specs.Settling.{Link, first_bit, value_at as value_in}
use Rattle.net_equations.specs.Equations.{has_bit, seg_at}
use Rattle.compose_rounds.specs.Rounds.{found, store_of}

-- ---- bits of segments

pub record IsIn (s : Seg) (b : WireBit) : Type 0 where
  pub wire : s.wire ≡ b.wire
  pub low : s.lo ≤ b.at
  pub high : b.at < s.lo + s.width

pub in-seg : (s : Seg) (b : WireBit) → has_bit s b ≡ true → IsIn s b
in-seg s b h = record {
  wire = eqb-true _ _ (left_of _ _ h);
  low = leb-true _ _ (left_of _ _ (right_of _ _ h));
  high = ltb-true _ _ (right_of _ _ (right_of _ _ h));
}

pub has-seg : (s : Seg) (b : WireBit) → IsIn s b → has_bit s b ≡ true
has-seg s b h = both _ _ (eq-eqb _ _ h.wire) (both _ _ (le-leb _ _ h.low) (lt-ltb _ _ h.high))

-- ---- what is found

pub found-at : (segs : List Seg) (v : ℕ → Vector) (b : WireBit) (i : ℕ) → i < length segs → has_bit (seg_at segs i) b ≡ true
    → ((j : ℕ) → j < length segs → has_bit (seg_at segs j) b ≡ true → j ≡ i)
    → found segs v b ≡ get_or (v i) (b.at - (seg_at segs i).lo) Unknown
unfolding found
found-at [] v b i lt h only = absurd (omega (arith, lt))
found-at (s ∷ more) v b zero lt h only = ap (λ t. cond t (get_or (v 0) (b.at - s.lo) Unknown) (found more (λ i. v (suc i)) b)) h
found-at (s ∷ more) v b (suc i) lt h only =
    pick (has_bit s b) refl (found-at more (λ i. v (suc i)) b i (omega (arith, lt)) h (λ j l k. omega (arith, only (suc j) (omega (arith, l)) k)))
  where
    pick : (t : Bool) → has_bit s b ≡ t → found more (λ i. v (suc i)) b ≡ get_or (v (suc i)) (b.at - (seg_at more i).lo) Unknown
        → cond t (get_or (v 0) (b.at - s.lo) Unknown) (found more (λ i. v (suc i)) b) ≡ get_or (v (suc i)) (b.at - (seg_at more i).lo) Unknown
    pick true e r = absurd (omega (arith, only zero (omega (arith, lt)) e))
    pick false e r = r

-- it stands in a segment, or is X whatever the values
pub found-or : (segs : List Seg) (b : WireBit) → ((v : ℕ → Vector) → found segs v b ≡ Unknown) ⊎ ((i : ℕ) × ((i < length segs) × (has_bit (seg_at segs i) b ≡ true)))
unfolding found
found-or [] b = inl (λ v. refl)
found-or (s ∷ more) b = pick (has_bit s b) refl (found-or more b)
  where
    pick : (t : Bool) → has_bit s b ≡ t → ((v : ℕ → Vector) → found more v b ≡ Unknown) ⊎ ((i : ℕ) × ((i < length more) × (has_bit (seg_at more i) b ≡ true)))
        → ((v : ℕ → Vector) → cond t (get_or (v 0) (b.at - s.lo) Unknown) (found more (λ i. v (suc i)) b) ≡ Unknown) ⊎ ((i : ℕ) × ((i < length (s ∷ more)) × (has_bit (seg_at (s ∷ more) i) b ≡ true)))
    pick true e r = inr (0, (omega arith, e))
    pick false e (inl none) = inl (λ v. none (λ i. v (suc i)))
    pick false e (inr r) = inr (suc r.0, (omega (arith, r.1.0), r.1.1))

pub found-none : (segs : List Seg) (v : ℕ → Vector) (b : WireBit) → ((i : ℕ) → i < length segs → has_bit (seg_at segs i) b ≡ true → ⊥) → found segs v b ≡ Unknown
found-none segs v b none = elim (found-or segs b) [
  | inl h ↦ h v
  | inr r ↦ absurd (none r.0 r.1.0 r.1.1)
]

pub found-alike : (segs : List Seg) (v w : ℕ → Vector) (b : WireBit) → ((i : ℕ) → i < length segs → has_bit (seg_at segs i) b ≡ true → v i ≡ w i) → found segs v b ≡ found segs w b
unfolding found
found-alike [] v w b h = refl
found-alike (s ∷ more) v w b h = pick (has_bit s b) refl (found-alike more (λ i. v (suc i)) (λ i. w (suc i)) b (λ i lt k. h (suc i) (omega (arith, lt)) k))
  where
    pick : (t : Bool) → has_bit s b ≡ t → found more (λ i. v (suc i)) b ≡ found more (λ i. w (suc i)) b → cond t (get_or (v 0) (b.at - s.lo) Unknown) (found more (λ i. v (suc i)) b) ≡ cond t (get_or (w 0) (b.at - s.lo) Unknown) (found more (λ i. w (suc i)) b)
    pick true e r = ap (λ x. get_or x (b.at - s.lo) Unknown) (h 0 (omega arith) e)
    pick false e r = r

pub get-below : (a c : Vector) (k : ℕ) → Below a c → bit_below (get_or a k Unknown) (get_or c k Unknown) ≡ true
unfolding all_pairs
get-below [] [] k h = refl
get-below [] (y ∷ c) k h = refl
get-below (x ∷ a) [] k h = cc
get-below (x ∷ a) (y ∷ c) zero h = left_of _ _ h
get-below (x ∷ a) (y ∷ c) (suc k) h = get-below a c k (right_of _ _ h)

pub found-rises : (segs : List Seg) (v w : ℕ → Vector) (b : WireBit) → ((i : ℕ) → i < length segs → Below (v i) (w i)) → bit_below (found segs v b) (found segs w b) ≡ true
unfolding found
found-rises [] v w b h = refl
found-rises (s ∷ more) v w b h = pick (has_bit s b) (found-rises more (λ i. v (suc i)) (λ i. w (suc i)) b (λ i lt. h (suc i) (omega (arith, lt))))
  where
    pick : (t : Bool) → bit_below (found more (λ i. v (suc i)) b) (found more (λ i. w (suc i)) b) ≡ true
        → bit_below (cond t (get_or (v 0) (b.at - s.lo) Unknown) (found more (λ i. v (suc i)) b)) (cond t (get_or (w 0) (b.at - s.lo) Unknown) (found more (λ i. w (suc i)) b)) ≡ true
    pick true r = get-below (v 0) (w 0) (b.at - s.lo) (h 0 (omega arith))
    pick false r = r

pub get-unknown : (n k : ℕ) → get_or (replicate n Unknown) k Unknown ≡ Unknown
get-unknown zero k = refl
get-unknown (suc n) zero = refl
get-unknown (suc n) (suc k) = get-unknown n k

pub found-unknown : (segs : List Seg) (v : ℕ → Vector) (b : WireBit) → ((i : ℕ) → i < length segs → v i ≡ replicate (seg_at segs i).width Unknown) → found segs v b ≡ Unknown
unfolding found
found-unknown [] v b h = refl
found-unknown (s ∷ more) v b h = pick (has_bit s b) (found-unknown more (λ i. v (suc i)) b (λ i lt. h (suc i) (omega (arith, lt))))
  where
    pick : (t : Bool) → found more (λ i. v (suc i)) b ≡ Unknown → cond t (get_or (v 0) (b.at - s.lo) Unknown) (found more (λ i. v (suc i)) b) ≡ Unknown
    pick true r = ap (λ x. get_or x (b.at - s.lo) Unknown) (h 0 (omega arith)) ∙ get-unknown s.width (b.at - s.lo)
    pick false r = r

-- ---- segments in the valuation

-- a segment of first bits has its value
pub own-value : (links : List Link) (segs : List Seg) (v : ℕ → Vector) (i : ℕ) → i < length segs → length (v i) ≡ (seg_at segs i).width
    → ((b : WireBit) → has_bit (seg_at segs i) b ≡ true → first_bit links b ≡ b)
    → ((j : ℕ) (b : WireBit) → j < length segs → has_bit (seg_at segs j) b ≡ true → has_bit (seg_at segs i) b ≡ true → j ≡ i)
    → map (value_in (store_of links segs v)) (seg_bits (seg_at segs i)) ≡ v i
unfolding store_of
own-value links segs v i lt wide firsts only =
    let s = seg_at segs i in
    let f = value_in (store_of links segs v) in
    let long : length (map f (seg_bits s)) ≡ s.width = length-map (seg_bits s) f ∙ length-seg_bits s in
    ext_get_or Unknown (map f (seg_bits s)) (v i) (long ∙ sym wide)
    (λ k l.
    let within : k < s.width = omega (arith, l, long) in
    let b = bit s.wire (s.lo + k) in
    let has : has_bit s b ≡ true = has-seg s b (record { wire = refl; low = omega arith; high = omega (arith, within) }) in
    let there : k < length (seg_bits s) = omega (arith, within, length-seg_bits s) in
    get_or-map f (seg_bits s) k (bit 0 0) Unknown there
    ∙ ap f (get_or-seg_bits s k (bit 0 0) within)
    ∙ ap (found segs v) (firsts b has)
    ∙ found-at segs v b i lt has (λ j m h. only j b m h has)
    ∙ ap (λ n. get_or (v i) n Unknown) (omega arith))
