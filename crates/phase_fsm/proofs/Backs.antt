-- What is found of a design over a larger arena holds of the design itself.
use Rattle.std.proofs.Common.{◌∙◌, ◌≡◌, ◌↔◌, ◌<◌, ℕ, List, length, Option, ap}
use Rattle.std.specs.Prelude.{Contains}
use Rattle.std.proofs.lemmas.List.Elements.{All-contains}
use Rattle.svex_shape.specs.declared.shape.Shape.{Shape}
use Rattle.svex_arena.specs.Arenas.{IsArena, Extends}
use Rattle.lhs_alias.specs.declared.segs.Seg.{Seg}
use Rattle.lhs_alias.specs.Segs.{bit}
use Rattle.settling.specs.Settling.{first_bit}
use Rattle.driver_resolve.specs.Drivers.{widths_of, IsDriver}
use Rattle.driver_resolve.specs.declared.driver.Driver.{Driver}
use Rattle.flat_net.specs.declared.flat.Flat.{Flat}
use Rattle.flat_net.specs.declared.flat.Join.{Join}
use Rattle.sv_outside.specs.declared.text.Signal.{Signal}
use Rattle.event_nets.specs.Nets.{is_net_bit}
use Rattle.flat_net.specs.Flats.{IsFlat, links_of}
use Rattle.net_equations.specs.Equations.{seg_at}
use Rattle.net_resolve.specs.Resolving.{IsReadFor}
use Rattle.net_resolve.proofs.Mentioning.{mentions-older, mentions-newer}
use Rattle.phase_fsm.specs.Machines.{IsWireNode, AreWireNodes}
use Rattle.phase_fsm.specs.Sets.{NetDepends, HasGroups}
use Rattle.phase_fsm.proofs.Growing.{over_nodes, least-stays}
use Rattle.phase_fsm.proofs.Members.{seg-there}
use Rattle.phase_fsm.proofs.Orders.{order-alike}

own : List Shape → List Signal → List Driver → List Join → Flat
own shapes wires drivers joins = record { arena = shapes; wires = wires; drivers = drivers; joins = joins }

-- a design is another one over other nodes
pub same-parts : (f g : Flat) → f.wires ≡ g.wires → f.drivers ≡ g.drivers → f.joins ≡ g.joins → f ≡ over_nodes g f.arena
unfolding own
same-parts f g a b c =
    ap (λ w. own f.arena w f.drivers f.joins) a ∙ (ap (λ d. own f.arena g.wires d f.joins) b ∙ ap (λ j. own f.arena g.wires g.drivers j) c)

wire-back : (flat : Flat) (own : List Shape) → Extends flat.arena own → IsFlat flat → (over : List ℕ) (new : List Shape) (wire width node : ℕ)
    → IsWireNode (over_nodes flat own) over new wire width node → IsWireNode flat over new wire width node
wire-back flat own e ok over new wire width node h = record {
  outer = h.outer;
  wide = h.wide;
  values = λ stim previous now present least. h.values stim previous now present (least-stays flat own e ok over stim previous now least);
}

pub wires-back : (flat : Flat) (own : List Shape) → Extends flat.arena own → IsFlat flat → (over : List ℕ) (new : List Shape) (nodes : List ℕ)
    → AreWireNodes (over_nodes flat own) over new nodes → AreWireNodes flat over new nodes
wires-back flat own e ok over new nodes h = record {
  as_many = h.as_many;
  each = λ n l. wire-back flat own e ok over new n _ _ (h.each n l);
}

-- what a net reads stays
read-back : (flat : Flat) (own : List Shape) → IsArena flat.arena → Extends flat.arena own → IsFlat flat → (over : List ℕ) (seg : Seg) (wire : ℕ)
    → IsReadFor (over_nodes flat own) over seg wire ↔ IsReadFor flat over seg wire
read-back flat own i e ok over seg wire = (
  λ h. record {
    driver = h.driver;
    stands = h.stands;
    mentions = mentions-older flat.arena own h.driver.value wire i e (there h.driver h.stands) h.mentions;
    target = h.target;
    drives = h.drives;
    joined = h.joined;
    kept = h.kept;
  },
  λ h. record {
    driver = h.driver;
    stands = h.stands;
    mentions = mentions-newer flat.arena own h.driver.value wire i e (there h.driver h.stands) h.mentions;
    target = h.target;
    drives = h.drives;
    joined = h.joined;
    kept = h.kept;
  },
)
  where
    there : (d : Driver) → Contains flat.drivers d → d.value < length flat.arena
    there d c = (All-contains (IsDriver (widths_of flat.wires) flat.arena) flat.drivers d ok.drivers c).there

pub groups-back : (flat : Flat) (own : List Shape) → IsArena flat.arena → Extends flat.arena own → IsFlat flat → (over : List ℕ) (wide : Option ℕ)
    → HasGroups (over_nodes flat own) over wide → HasGroups flat over wide
unfolding is_net_bit
groups-back flat own i e ok over wide h = record {
  segs = h.segs;
  nets = record { named = h.nets.named; inside = h.nets.inside; whole = h.nets.whole };
  groups = h.groups;
  order = order-alike (NetDepends (over_nodes flat own) over h.segs) (NetDepends flat over h.segs) (length h.segs)
      (λ a b lt d. (
        seg-there h.segs b (first_bit (links_of flat.joins) (bit d.wire d.place)) d.joined,
        record { wire = d.wire; reads = (read-back flat own i e ok over (seg_at h.segs a) d.wire).0 d.reads; place = d.place; inside = d.inside; joined = d.joined },
      ))
      (λ a b lt d. record { wire = d.wire; reads = (read-back flat own i e ok over (seg_at h.segs a) d.wire).1 d.reads; place = d.place; inside = d.inside; joined = d.joined })
      h.groups h.order;
  first = h.first;
}
