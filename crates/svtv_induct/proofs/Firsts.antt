-- The first bits of the classes of joined bits, and valuations in which joined bits are equal.
use Rattle.std.proofs.Common.{◌≡◌, ℕ, ◌<◌, List, length, map, get_or, refl, sym, ap, ◌∙◌, subst, arith}
use Rattle.std.specs.Prelude.{slice_index}
use Rattle.std.specs.List.{All, range_with_len}
use Rattle.std.proofs.lemmas.List.Elements.{All-contains}
use Rattle.std.proofs.lemmas.Simd.{map-map}
use Rattle.driver_resolve.specs.Drivers.{widths_of, wire_bits}
use Rattle.event_nets.proofs.Homes.{IsInside, linked-inside, links-inside}
use Rattle.flat_net.specs.declared.flat.Flat.{Flat}
use Rattle.flat_net.specs.Flats as f
use Rattle.lhs_alias.specs.Lies.{IsBitOf}
use Rattle.lhs_alias.specs.Pairs.{Linked, itself, up, down}
use Rattle.lhs_alias.specs.Segs.{bit, lhs_bits}
use Rattle.lhs_alias.specs.declared.segs.WireBit.{WireBit}
use Rattle.settling.specs.Settling.{Store, Link, Even, first_bit, value_at as value_in}
use Rattle.sv_meaning.specs.Designs.{Design, links_of}
use Rattle.sv_outside.specs.declared.text.Signal.{Signal}
use Rattle.svtv_least.specs.Passed.{IsElaborated}
use Rattle.svtv_unroll.specs.Unrolled.{vector_of}
use Rattle.svtv_induct.specs.Halves.{IsOf, firsts_at}
use Rattle.svtv_induct.specs.States.{bits_in, joined_state}
use Rattle.svtv_induct.specs.declared.half.Half.{Half}

-- the segments of a half are the first bits of the design's classes
pub firsts_are : (d : Design) (flat : Flat) (h : Half) → IsElaborated d flat → IsOf flat h → (n : ℕ) → n < length h.fsm.flat.wires
    → lhs_bits (firsts_at h n) ≡ map (first_bit (links_of d.works)) (wire_bits n (get_or (widths_of h.fsm.flat.wires) n 0))
firsts_are d flat h e o n l =
    let same : widths_of flat.wires ≡ widths_of h.fsm.flat.wires = ap widths_of o.wires in
    o.firsts n (omega (arith, l, ap (λ (ws : List Signal). length ws) o.wires))
    ∙ ap (λ (ls : List Link). map (first_bit ls) (wire_bits n (get_or (widths_of flat.wires) n 0))) e.links
    ∙ ap (λ (ws : List ℕ). map (first_bit (links_of d.works)) (wire_bits n (get_or ws n 0))) same

pub bits_of_wire : (first : WireBit → WireBit) (s : Store) (n w : ℕ) → bits_in s (map first (wire_bits n w)) ≡ vector_of (joined_state first s n) w
bits_of_wire first s n w = ap (map (value_in s)) (map-map first (bit n) (range_with_len 0 w)) ∙ map-map (value_in s) (λ k. first (bit n k)) (range_with_len 0 w)

-- joined bits are bits of the wires
pub inside_wires : (d : Design) (flat : Flat) (h : Half) → IsElaborated d flat → IsOf flat h → All (IsInside (widths_of h.fsm.flat.wires)) (links_of d.works)
inside_wires d flat h e o =
    subst (λ (ls : List Link). All (IsInside (widths_of h.fsm.flat.wires)) ls) e.links
    (subst (λ (ws : List Signal). All (IsInside (widths_of ws)) (f.links_of flat.joins)) o.wires (links-inside (widths_of flat.wires) flat.joins e.sound.joins))

-- two bits that a chain of links joins
both_same : (links : List Link) (widths : List ℕ) (s t : Store) → All (IsInside widths) links → ((n k : ℕ) → n < length widths → k < slice_index widths n → s n k ≡ t n k) → Even links t
    → (b c : WireBit) → IsBitOf widths b → Linked links b c → value_in s b ≡ value_in s c
both_same links widths s t h same even b c i l =
    let j = linked-inside widths links h b c l i in
    same b.wire b.at i.wire i.place ∙ even b c l ∙ sym (same c.wire c.at j.wire j.place)

-- where links lie in the wires, it is enough that joined bits are equal there
pub even_within : (links : List Link) (widths : List ℕ) (s t : Store) → All (IsInside widths) links → ((n k : ℕ) → n < length widths → k < slice_index widths n → s n k ≡ t n k) → Even links t → Even links s
even_within links widths s t h same even b c itself = refl
even_within links widths s t h same even b c (up m l) = both_same links widths s t h same even b c (All-contains (IsInside widths) links (b, _) h m).child (up m l)
even_within links widths s t h same even b c (down m l) = both_same links widths s t h same even b c (All-contains (IsInside widths) links (_, b) h m).parent (down m l)
