-- A flat design means the same where its graph has grown.
use Rattle.std.proofs.Common.{◌≡◌, ℕ, ◌<◌, List, [], ◌∷◌, ◌++◌, length, refl, ap, ◌∙◌}
use Rattle.std.specs.List.{All, zip}
use Rattle.std.proofs.lemmas.List.Elements.{All-head, All-tail, All-weaker}
use Rattle.sv_outside.specs.declared.text.Signal.{Signal}
use Rattle.lhs_alias.specs.Segs.{lhs_bits}
use Rattle.settling.specs.Overriding.{overridden}
use Rattle.svex_shape.specs.declared.shape.Shape.{Shape}
use Rattle.svex_shape.specs.Values.{value_at}
use Rattle.svex_arena.specs.Arenas.{Extends, IsArena}
use Rattle.svex_arena.proofs.Steps.{value-extends, variables-extends}
use Rattle.driver_resolve.specs.declared.driver.Driver.{Driver}
use Rattle.driver_resolve.specs.Drivers.{Phase, reading, widths_of, drivers_give, stimuli_from, overriding_from, IsDriver}
use Rattle.flat_net.specs.declared.flat.Flat.{Flat}
use Rattle.flat_net.specs.Flats.{links_of, given}
use Rattle.phase_fsm.proofs.Growing.{over_nodes, flat-stays, settles-stays, settles-stays-back}
use Rattle.sv_meaning.specs.Designs.{Design, Work, names_now, outside}
use Rattle.design_loops.specs.Passed.{AllStem, IsElaborated, Stem, more, names_only, none}
use Rattle.design_loops.proofs.Passed.{left_all, right_all}

-- ---- drivers

-- the driver's value is there
abbrev IsThere : List Shape → Driver → Type 0
IsThere shapes d = d.value < length shapes

drivers-give : (old new : List Shape) → Extends old new → (all : List Driver) → All (IsThere old) all → (p : Phase) → drivers_give new all p ≡ drivers_give old all p
unfolding drivers_give
drivers-give old new e [] h p = refl
drivers-give old new e (d ∷ all) h p =
    ap (λ v. zip (lhs_bits d.target) v ++ drivers_give new all p) (value-extends (reading p) old new d.value e (All-head (IsThere old) d all h))
    ∙ ap (λ rest. zip (lhs_bits d.target) (value_at (reading p) old d.value) ++ rest) (drivers-give old new e all (All-tail (IsThere old) d all h) p)

stem-stays : (wires : List Signal) (old new : List Shape) → Extends old new → (w : Work) (all : List Driver) → All (IsThere old) all → Stem wires old w all → Stem wires new w all
stem-stays wires old new e w all h s = record {
  gives = λ p. drivers-give old new e all h p ∙ s.gives p;
  names = λ k d l. variables-extends (names_only (names_now wires w)) old new _ e (h k d l) ∙ s.names k d l;
}

stems-stay : (wires : List Signal) (old new : List Shape) → Extends old new → (works : List Work) (all : List Driver) → All (IsThere old) all → AllStem wires old works all → AllStem wires new works all
stems-stay wires old new e _ _ h none = none
stems-stay wires old new e _ _ h (more {before} {w} {drivers} {own} first s) =
    more (stems-stay wires old new e before drivers (left_all (IsThere old) drivers own h) first) (stem-stays wires old new e w own (right_all (IsThere old) drivers own h) s)

-- ---- designs

given-stays : (flat : Flat) (new : List Shape) → Extends flat.arena new → All (IsThere flat.arena) flat.drivers → (over : List ℕ) (p : Phase) → given (over_nodes flat new) over p ≡ given flat over p
given-stays flat new e h over p =
    ap (λ all. overridden (links_of flat.joins) (overriding_from 0 flat.wires over p.stim) (all ++ stimuli_from 0 flat.wires p.stim)) (drivers-give flat.arena new e flat.drivers h p)

pub designs_grow : (d : Design) (flat : Flat) (shapes : List Shape) → IsElaborated d flat → Extends flat.arena shapes → IsArena shapes → IsElaborated d (record flat { arena = shapes })
designs_grow d flat shapes h e arena =
    let there : All (IsThere flat.arena) flat.drivers = All-weaker (IsDriver (widths_of flat.wires) flat.arena) (IsThere flat.arena) (λ x is. is.there) flat.drivers h.sound.drivers in
    record {
      clear = h.clear;
      sound = flat-stays flat shapes e h.sound;
      wires = h.wires;
      stem = stems-stay d.wires flat.arena shapes e d.works flat.drivers there h.stem;
      links = h.links;
      given = λ stim o prev now. given-stays flat shapes e there o.wires (record { stim = outside stim o; previous = prev; present = now }) ∙ h.given stim o prev now;
      settles = λ stim o prev now. (
        λ s. settles-stays-back flat shapes e h.sound o.wires (outside stim o) prev now ((h.settles stim o prev now).0 s),
        λ s. (h.settles stim o prev now).1 (settles-stays flat shapes e h.sound o.wires (outside stim o) prev now s),
      );
    }
