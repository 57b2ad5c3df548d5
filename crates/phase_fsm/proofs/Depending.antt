-- The groups of the equations of nets are groups of the nets: an equation's value mentions exactly what drivers of its net do.
use Rattle.std.proofs.Common.{◌≡◌, ◌↔◌, ℕ, ◌<◌, List, length, get_or, map, Option, sym, ◌∙◌, subst, arith}
use Rattle.std.specs.Prelude.{All, IsTrue, slice_index}
use Rattle.std.proofs.lemmas.Simd.{map-map}
use Rattle.std.proofs.lemmas.List.{get_or-map, length-map}
use Rattle.std.proofs.lemmas.List.Elements.{All-map, All-weaker}
use Rattle.lhs_alias.specs.declared.segs.Seg.{Seg}
use Rattle.lhs_alias.specs.declared.segs.WireBit.{WireBit}
use Rattle.lhs_alias.specs.Segs.{bit}
use Rattle.lhs_alias.specs.Lies.{LiesIn, IsBitOf}
use Rattle.lhs_alias.specs.Joined.{Kept, Stands, first_of}
use Rattle.settling.specs.Settling.{first_bit}
use Rattle.svex_shape.specs.declared.shape.Shape.{Shape}
use Rattle.driver_resolve.specs.declared.driver.NetEq.{NetEq}
use Rattle.driver_resolve.specs.declared.driver.Resolved.{Resolved}
use Rattle.driver_resolve.specs.Drivers.{widths_of}
use Rattle.flat_net.specs.declared.flat.Flat.{Flat}
use Rattle.flat_net.specs.Flats.{links_of}
use Rattle.event_nets.specs.Nets.{nets_of}
use Rattle.net_equations.specs.Equations.{has_bit, seg_at, IsEq, IsResolved}
use Rattle.net_equations.specs.Groups.{Mentions, Depends, AreInOrder, IsOrder, first_wide}
use Rattle.net_resolve.specs.Resolving.{lowest_bit, IsNet, IsReadFor}
use Rattle.compose_rounds.proofs.Systems.{first-as}
use Rattle.phase_fsm.specs.Sets.{NetDepends, HasGroups}
use Rattle.phase_fsm.proofs.Members.{seg-there}
use Rattle.phase_fsm.proofs.Orders.{order-alike}

abbrev no_eq : NetEq
no_eq = record { seg = record { wire = 0; lo = 0; width = 0 }; value = 0 }

module _ (flat : Flat) (over : List ℕ) (kept : Kept) (shapes : List Shape) (set : Resolved) (widths : kept.widths ≡ widths_of flat.wires) (stands : Stands kept (links_of flat.joins))
    (mentions : All (λ e. (wire : ℕ) → Mentions shapes e.value wire ↔ IsReadFor flat over e.seg wire) set.eqs) where
  abbrev segs : List Seg
  segs = map (λ (e : NetEq). e.seg) set.eqs

  reads : (i wire : ℕ) → i < length set.eqs → Mentions shapes (slice_index (map (λ (e : NetEq). e.value) set.eqs) i) wire ↔ IsReadFor flat over (seg_at segs i) wire
  reads i wire lt =
      let seg : seg_at segs i ≡ (get_or set.eqs i no_eq).seg = get_or-map (λ (e : NetEq). e.seg) set.eqs i no_eq (record { wire = 0; lo = 0; width = 0 }) lt in
      let value : slice_index (map (λ (e : NetEq). e.value) set.eqs) i ≡ (get_or set.eqs i no_eq).value = get_or-map (λ (e : NetEq). e.value) set.eqs i no_eq 0 lt in
      subst (λ s. Mentions shapes (slice_index (map (λ (e : NetEq). e.value) set.eqs) i) wire ↔ IsReadFor flat over s wire) (sym seg)
      (subst (λ n. Mentions shapes n wire ↔ IsReadFor flat over (get_or set.eqs i no_eq).seg wire) (sym value) (mentions i no_eq lt wire))

  first-is : (b : WireBit) → IsBitOf kept.widths b → first_of kept b ≡ first_bit (links_of flat.joins) b
  first-is b inside = first-as kept (links_of flat.joins) stands b inside

  as-net : (i j : ℕ) → i < length set.eqs → Depends kept shapes set.eqs i j → (j < length set.eqs) × NetDepends flat over segs i j
  as-net i j lt d =
      let there = seg-there segs j (first_of kept (bit d.wire d.place)) d.joined in (
        omega (arith, there, length-map set.eqs (λ (e : NetEq). e.seg)),
        record {
          wire = d.wire;
          reads = (reads i d.wire lt).0 d.mentions;
          place = d.place;
          inside = subst (λ l. IsBitOf l (bit d.wire d.place)) widths d.inside;
          joined = subst (λ b. IsTrue (has_bit (seg_at segs j) b)) (first-is (bit d.wire d.place) d.inside) d.joined;
        },
      )

  as-equation : (i j : ℕ) → i < length set.eqs → NetDepends flat over segs i j → Depends kept shapes set.eqs i j
  as-equation i j lt d =
      let inside : IsBitOf kept.widths (bit d.wire d.place) = subst (λ l. IsBitOf l (bit d.wire d.place)) (sym widths) d.inside in
      record {
        wire = d.wire;
        mentions = (reads i d.wire lt).1 d.reads;
        place = d.place;
        inside = inside;
        joined = subst (λ b. IsTrue (has_bit (seg_at segs j) b)) (sym (first-is (bit d.wire d.place) inside)) d.joined;
      }

  -- what equations of all nets have for groups the design has
  pub groups-are : IsResolved kept shapes set → map (λ e. lowest_bit e.seg) set.eqs ≡ nets_of flat over → All (λ e. IsNet flat over e.seg) set.eqs
      → (groups : List (List ℕ)) → IsOrder kept shapes set.eqs groups → (wide : Option ℕ) → first_wide segs groups ≡ wide → HasGroups flat over wide
  groups-are resolved named whole groups order wide first = record {
    segs = segs;
    nets = record {
      named = map-map lowest_bit (λ (e : NetEq). e.seg) set.eqs ∙ named;
      inside = All-map (LiesIn (widths_of flat.wires)) (λ (e : NetEq). e.seg) set.eqs
          (All-weaker (IsEq kept.widths shapes) (λ (e : NetEq). LiesIn (widths_of flat.wires) e.seg) (λ e is. subst (λ l. LiesIn l e.seg) widths is.lies) set.eqs resolved.eqs);
      whole = All-map (IsNet flat over) (λ (e : NetEq). e.seg) set.eqs whole;
    };
    groups = groups;
    order = subst (λ n. AreInOrder (NetDepends flat over segs) n groups) (sym (length-map set.eqs (λ (e : NetEq). e.seg)))
        (order-alike (Depends kept shapes set.eqs) (NetDepends flat over segs) (length set.eqs) as-net as-equation groups order);
    first = first;
  }
