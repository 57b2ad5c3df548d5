-- The nets of a flat design: one list of them, and no bit in two.
use Rattle.std.proofs.Common.{◌≡◌, ◌≢◌, ℕ, ◌+◌, ◌<◌, ◌&&◌, List, length, get_or, map, refl, sym, ap, ◌∙◌, subst, inl, inr, arith}
use Rattle.std.specs.Prelude.{AllPairs, IsTrue, slice_index}
use Rattle.std.proofs.lemmas.Bool.{cases_lt}
use Rattle.std.proofs.lemmas.List.{ext_get_or, get_or-map, length-map}
use Rattle.std.proofs.lemmas.List.Kept.{AllPairs-filter}
use Rattle.lhs_alias.specs.declared.segs.Seg.{Seg}
use Rattle.lhs_alias.specs.declared.segs.WireBit.{WireBit}
use Rattle.lhs_alias.specs.Segs.{bit}
use Rattle.lhs_alias.specs.Lies.{LiesIn, IsBitOf}
use Rattle.lhs_alias.specs.Joined.{all_bits, place_of}
use Rattle.settling.specs.Settling.{same_bit}
use Rattle.driver_resolve.specs.Drivers.{widths_of}
use Rattle.flat_net.specs.declared.flat.Flat.{Flat}
use Rattle.event_nets.specs.Nets.{is_net_bit, run_of, nets_of}
use Rattle.net_equations.specs.Equations.{has_bit, seg_at}
use Rattle.net_resolve.specs.Resolving.{lowest_bit, IsNet}
use Rattle.net_resolve.proofs.Running.{place-at, has-parts, has-from}
use Rattle.phase_fsm.specs.Sets.{AreNets}
use Rattle.phase_fsm.proofs.Members.{seg-there}

-- a bit of a segment that lies in the wires
pub bit-inside : (widths : List ℕ) (seg : Seg) (b : WireBit) → LiesIn widths seg → IsTrue (has_bit seg b) → IsBitOf widths b
bit-inside widths seg b lies h =
    let parts = has-parts seg b h in
    record {
      wire = subst (λ n. n < length widths) parts.0 lies.wire;
      place = subst (λ n. b.at < slice_index widths n) parts.0 (let high = parts.1.1 in let ends = lies.ends in omega (arith, high, ends));
    }

-- ---- one list of nets

-- of two nets that begin alike neither is longer
no-longer : (flat : Flat) (over : List ℕ) (s t : Seg) → IsNet flat over s → IsNet flat over t → LiesIn (widths_of flat.wires) t → lowest_bit s ≡ lowest_bit t → s.width < t.width → ⊥
no-longer flat over s t x y lies same lt =
    let b = bit t.wire (t.lo + s.width) in
    let ends = lies.ends in
    let inside : IsBitOf (widths_of flat.wires) b = record { wire = lies.wire; place = omega (arith, ends, lt) } in
    let in_net = (y b inside).0 (has-from t b refl (omega arith) (omega (arith, lt))) in
    let parts = has-parts s b ((x b inside).1 (in_net.0, in_net.1 ∙ sym same)) in
    let high = parts.1.1 in
    let low : s.lo ≡ t.lo = ap (λ (c : WireBit). c.at) same in
    omega (arith, high, low)

net-same : (flat : Flat) (over : List ℕ) (s t : Seg) → IsNet flat over s → IsNet flat over t → LiesIn (widths_of flat.wires) s → LiesIn (widths_of flat.wires) t → lowest_bit s ≡ lowest_bit t → s ≡ t
net-same flat over s t x y in_s in_t same =
    let wire : s.wire ≡ t.wire = ap (λ (c : WireBit). c.wire) same in
    let lo : s.lo ≡ t.lo = ap (λ (c : WireBit). c.at) same in
    let width : s.width ≡ t.width = elim (cases_lt s.width t.width) [
      | inl less ↦ absurd (no-longer flat over s t x y in_t same less)
      | inr most ↦ elim (cases_lt t.width s.width) [
        | inl more ↦ absurd (no-longer flat over t s y x in_s (sym same) more)
        | inr least ↦ omega (arith, most, least)
      ]
    ] in
    λ p. record { wire = wire p; lo = lo p; width = width p }

pub nets-same : (flat : Flat) (over : List ℕ) (a b : List Seg) → AreNets flat over a → AreNets flat over b → a ≡ b
nets-same flat over a b x y =
    let none : Seg = record { wire = 0; lo = 0; width = 0 } in
    let named : map lowest_bit a ≡ map lowest_bit b = x.named ∙ sym y.named in
    let long : length a ≡ length b = sym (length-map a lowest_bit) ∙ ap (λ l. length l) named ∙ length-map b lowest_bit in
    ext_get_or none a b long
    (λ i lt.
    let there : i < length b = omega (arith, lt, long) in
    net-same flat over (get_or a i none) (get_or b i none) (x.whole i none lt) (y.whole i none there) (x.inside i none lt) (y.inside i none there)
    (sym (get_or-map lowest_bit a i none (bit 0 0) lt) ∙ ap (λ l. get_or l i (bit 0 0)) named ∙ get_or-map lowest_bit b i none (bit 0 0) there))

-- ---- no bit in two

bits-apart : (widths : List ℕ) → AllPairs ◌≢◌ (all_bits widths)
bits-apart widths = λ i j d lt below same.
    let here = place-at widths i d (omega (arith, lt, below)) in
    let there = place-at widths j d below in
    let is = ap (λ b. place_of widths b) same in
    omega (arith, here, there, is, lt)

names-apart : (flat : Flat) (over : List ℕ) → AllPairs ◌≢◌ (nets_of flat over)
names-apart flat over =
    AllPairs-filter ◌≢◌ (λ b. is_net_bit flat over b && same_bit (run_of flat over b) b) (all_bits (widths_of flat.wires)) (bits-apart (widths_of flat.wires))

pub nets-apart : (flat : Flat) (over : List ℕ) (segs : List Seg) → AreNets flat over segs → (i j : ℕ) (b : WireBit) → IsTrue (has_bit (seg_at segs i) b) → IsTrue (has_bit (seg_at segs j) b) → i ≡ j
nets-apart flat over segs nets i j b x y =
    let none : Seg = record { wire = 0; lo = 0; width = 0 } in
    let names = nets_of flat over in
    let il = seg-there segs i b x in
    let jl = seg-there segs j b y in
    let inside = bit-inside (widths_of flat.wires) (seg_at segs i) b (nets.inside i none il) x in
    let same : lowest_bit (seg_at segs i) ≡ lowest_bit (seg_at segs j) = sym ((nets.whole i none il b inside).0 x).1 ∙ ((nets.whole j none jl b inside).0 y).1 in
    let name : (k : ℕ) → k < length segs → get_or names k (bit 0 0) ≡ lowest_bit (seg_at segs k) =
    λ k lt. ap (λ l. get_or l k (bit 0 0)) (sym nets.named) ∙ get_or-map lowest_bit segs k none (bit 0 0) lt in
    let alike : get_or names i (bit 0 0) ≡ get_or names j (bit 0 0) = name i il ∙ same ∙ sym (name j jl) in
    let long : length names ≡ length segs = ap (λ l. length l) (sym nets.named) ∙ length-map segs lowest_bit in
    elim (cases_lt i j) [
      | inl less ↦ absurd (names-apart flat over i j (bit 0 0) less (omega (arith, jl, long)) alike)
      | inr most ↦ elim (cases_lt j i) [
        | inl more ↦ absurd (names-apart flat over j i (bit 0 0) more (omega (arith, il, long)) (sym alike))
        | inr least ↦ omega (arith, most, least)
      ]
    ]
