-- First bits of wires.
use Rattle.std.proofs.Common.{◌+◌, ◌≡◌, ◌<◌, ◌≤◌, ⊎_elim, ℕ, arith, List, [], ◌∷◌, ◌++◌, length, map, get_or, refl, sym, ap, ◌∙◌, subst}
use Rattle.std.specs.List.{All}
use Rattle.std.proofs.lemmas.Bool.{cases_lt}
use Rattle.std.proofs.lemmas.List.{get_or_append_left, get_or_push, length_push}
use Rattle.std.proofs.lemmas.List.Elements.{All-head, All-tail}
use Rattle.compose_rounds.proofs.Systems.{first-as}
use Rattle.driver_resolve.specs.Drivers.{widths_of, wire_bits}
use Rattle.flat_net.specs.declared.flat.Flat.{Flat}
use Rattle.flat_net.specs.Flats.{links_of}
use Rattle.lhs_alias.specs.Joined.{Kept, Stands, first_of}
use Rattle.lhs_alias.specs.Lies.{IsBitOf, LieIn, LiesIn}
use Rattle.lhs_alias.specs.Segs.{lhs_bits, seg_bits}
use Rattle.lhs_alias.specs.declared.segs.Seg.{Seg}
use Rattle.lhs_alias.specs.declared.segs.WireBit.{WireBit}
use Rattle.lhs_alias.proofs.Lying.{lhs_bits-lie}
use Rattle.settling.specs.Settling.{Link, first_bit}
use Rattle.phase_fsm.specs.Firsts.{HaveFirsts}

-- all bits of a wire
abbrev pub whole-of : ℕ → ℕ → Seg
whole-of wire width = record { wire = wire; lo = 0; width = width }

-- they are bits of the wire
pub whole-lies : (widths : List ℕ) (wire width : ℕ) → wire < length widths → get_or widths wire 0 ≡ width → 1 ≤ width → width ≤ 128 → LieIn widths (whole-of wire width ∷ [])
whole-lies widths wire width there is some most = λ k d lt.
    let zero_k : k ≡ 0 = omega (arith, lt) in
    subst (λ i. LiesIn widths (get_or (whole-of wire width ∷ []) i d)) (sym zero_k)
    (record { whole = record { some = some; ends = omega (arith, most) }; wire = there; ends = omega (arith, is) })

-- the first bits that are kept are those of the classes
map-firsts : (kept : Kept) (links : List Link) → Stands kept links → (bits : List WireBit) → All (IsBitOf kept.widths) bits → map (first_of kept) bits ≡ map (first_bit links) bits
map-firsts kept links s [] h = refl
map-firsts kept links s (b ∷ bits) h =
    let one = first-as kept links s b (All-head (IsBitOf kept.widths) b bits h) in
    let more = map-firsts kept links s bits (All-tail (IsBitOf kept.widths) b bits h) in
    λ i. one i ∷ more i

pub canon-firsts : (kept : Kept) (whole firsts : List Seg) (wire width : ℕ) → whole ≡ whole-of wire width ∷ [] → LieIn kept.widths whole → lhs_bits firsts ≡ map (first_of kept) (lhs_bits whole)
    → (links : List Link) → Stands kept links → lhs_bits firsts ≡ map (first_bit links) (wire_bits wire width)
unfolding seg_bits
canon-firsts kept whole firsts wire width is lie e links s =
    e ∙ map-firsts kept links s (lhs_bits whole) (lhs_bits-lie kept.widths whole lie) ∙ ap (λ (w : List Seg). map (first_bit links) (lhs_bits w)) is

-- ---- wire by wire

each-more : (P : ℕ → List Seg → Type 0) (firsts : List (List Seg)) (own : List Seg) (count : ℕ) → length firsts ≡ count → ((n : ℕ) → n < count → P n (get_or firsts n [])) → P count own
    → (n : ℕ) → n < count + 1 → P n (get_or (firsts ++ own ∷ []) n [])
each-more P firsts own count long h one n l = ⊎_elim
    (λ before. subst (P n) (sym (get_or_append_left firsts (own ∷ []) [] n (omega (arith, before, long)))) (h n before))
    (λ behind.
    let here : n ≡ count = omega (arith, l, behind) in
    subst (P n) (sym (get_or_push firsts own [] n (long ∙ sym here))) (subst (λ k. P k own) (sym here) one))
    (cases_lt n count)

pub firsts-none : (flat : Flat) → HaveFirsts flat [] 0
firsts-none flat = record {
  as_many = refl;
  bits = λ n l. absurd (omega (arith, l));
  lie = λ n l. absurd (omega (arith, l));
}

pub firsts-more : (flat : Flat) (firsts : List (List Seg)) (own : List Seg) (count : ℕ) → HaveFirsts flat firsts count
    → lhs_bits own ≡ map (first_bit (links_of flat.joins)) (wire_bits count (get_or (widths_of flat.wires) count 0)) → LieIn (widths_of flat.wires) own → HaveFirsts flat (firsts ++ own ∷ []) (count + 1)
firsts-more flat firsts own count h bits lie = record {
  as_many = (let many = h.as_many in omega (arith, length_push firsts own, many));
  bits = each-more (λ n segs. lhs_bits segs ≡ map (first_bit (links_of flat.joins)) (wire_bits n (get_or (widths_of flat.wires) n 0))) firsts own count h.as_many h.bits bits;
  lie = each-more (λ n segs. LieIn (widths_of flat.wires) segs) firsts own count h.as_many h.lie lie;
}
