-- What stays where the arena grows.
use Rattle.std.proofs.Common.{◌≡◌, ℕ, ◌<◌, List, [], ◌∷◌, ◌++◌, length, get_or, refl, sym, ap, ◌∙◌, subst, arith}
use Rattle.std.specs.Prelude.{All, ◌↔◌}
use Rattle.std.specs.List.{zip}
use Rattle.std.proofs.lemmas.List.Elements.{All-head, All-tail, All-weaker}
use Rattle.sv_outside.specs.declared.text.Signal.{Signal}
use Rattle.lhs_alias.specs.Segs.{lhs_bits}
use Rattle.lhs_alias.specs.Pairs.{HaveOwnChildren}
use Rattle.lhs_alias.specs.Joined.{Kept}
use Rattle.settling.specs.Settling.{Store, Link, Contribution, SettlesBy}
use Rattle.settling.specs.Overriding.{overridden}
use Rattle.svex_shape.specs.declared.shape.Shape.{Shape}
use Rattle.svex_shape.specs.Values.{value_at}
use Rattle.svex_arena.specs.Arenas.{Extends}
use Rattle.svex_arena.proofs.Steps.{value-extends, width-extends, variables-extends}
use Rattle.driver_resolve.specs.declared.driver.Driver.{Driver}
use Rattle.driver_resolve.specs.declared.driver.NetEq.{NetEq}
use Rattle.driver_resolve.specs.declared.driver.Resolved.{Resolved}
use Rattle.driver_resolve.specs.Drivers.{Phase, reading, widths_of, is_of_wires, drivers_give, stimuli_from, overriding_from, IsDriver}
use Rattle.flat_net.specs.declared.flat.Flat.{Flat}
use Rattle.flat_net.specs.declared.flat.Join.{Join}
use Rattle.flat_net.specs.Flats.{IsSignal, IsJoin, IsFlat, links_of, given, Settles}
use Rattle.net_equations.specs.Equations.{phase_of, Solves, is_of_phase, IsEq, IsResolved}
use Rattle.net_resolve.specs.Resolving.{IsGrown}

-- ---- the flat design

pub flat_stays : (old now : Flat) → IsGrown old now → IsFlat old → IsFlat now
flat_stays old now g ok =
    let widths = ap (λ (l : List Signal). widths_of l) g.wires in
    record {
      wires = subst (λ l. All IsSignal l) (sym g.wires) ok.wires;
      drivers = subst (λ l. All (IsDriver (widths_of now.wires) now.arena) l) (sym g.drivers)
          (subst (λ ws. All (IsDriver ws now.arena) old.drivers) (sym widths)
          (All-weaker (IsDriver (widths_of old.wires) old.arena) (IsDriver (widths_of old.wires) now.arena)
          (λ x is.
          let there = is.there in
          let longer = g.arena.longer in
          record {
            lies = is.lies;
            there = omega (arith, there, longer);
            wide = width-extends old.arena now.arena x.value g.arena is.there ∙ is.wide;
            mentions = variables-extends (is_of_wires (widths_of old.wires)) old.arena now.arena x.value g.arena is.there ∙ is.mentions;
          })
          old.drivers ok.drivers));
      joins = subst (λ l. All (IsJoin (widths_of now.wires)) l) (sym g.joins) (subst (λ ws. All (IsJoin ws) old.joins) (sym widths) ok.joins);
      own_children = subst (λ l. HaveOwnChildren (links_of l)) (sym g.joins) ok.own_children;
    }

drivers-stay : (widths : List ℕ) (old new : List Shape) (p : Phase) (drivers : List Driver) → Extends old new → All (IsDriver widths old) drivers → drivers_give new drivers p ≡ drivers_give old drivers p
unfolding drivers_give
drivers-stay widths old new p [] e h = refl
drivers-stay widths old new p (d ∷ more) e h =
    ap (λ v. zip (lhs_bits d.target) v ++ drivers_give new more p) (value-extends (reading p) old new d.value e (All-head (IsDriver widths old) d more h).there)
    ∙ ap (λ l. zip (lhs_bits d.target) (value_at (reading p) old d.value) ++ l) (drivers-stay widths old new p more e (All-tail (IsDriver widths old) d more h))

given-stays : (old now : Flat) → IsGrown old now → IsFlat old → (over : List ℕ) (p : Phase) → given now over p ≡ given old over p
given-stays old now g ok over p =
    ap (λ (l : List Join). overridden (links_of l) (overriding_from 0 now.wires over p.stim) (drivers_give now.arena now.drivers p ++ stimuli_from 0 now.wires p.stim)) g.joins
    ∙ ap (λ (l : List Signal). overridden (links_of old.joins) (overriding_from 0 l over p.stim) (drivers_give now.arena now.drivers p ++ stimuli_from 0 l p.stim)) g.wires
    ∙ ap (λ (l : List Contribution). overridden (links_of old.joins) (overriding_from 0 old.wires over p.stim) (l ++ stimuli_from 0 old.wires p.stim))
    (ap (λ (l : List Driver). drivers_give now.arena l p) g.drivers ∙ drivers-stay (widths_of old.wires) old.arena now.arena p old.drivers g.arena ok.drivers)

pub settles_stay : (old now : Flat) → IsGrown old now → IsFlat old → (over : List ℕ) (stim previous present : Store) → Settles now over stim previous present ↔ Settles old over stim previous present
settles_stay old now g ok over stim previous present =
    let p = phase_of stim previous present in
    let same : SettlesBy (links_of now.joins) (given now over p) present ≡ SettlesBy (links_of old.joins) (given old over p) present =
    ap (λ (l : List Join). SettlesBy (links_of l) (given now over p) present) g.joins ∙ ap (λ (all : List Contribution). SettlesBy (links_of old.joins) all present) (given-stays old now g ok over p) in
    (λ s. subst (λ (t : Type 0). t) same s, λ s. subst (λ (t : Type 0). t) (sym same) s)

-- ---- equations

pub resolved_stays : (kept : Kept) (old new : List Shape) (set : Resolved) → Extends old new → IsResolved kept old set → IsResolved kept new set
resolved_stays kept old new set e h = record {
  eqs = All-weaker (IsEq kept.widths old) (IsEq kept.widths new)
      (λ x is.
      let there = is.there in
      let longer = e.longer in
      record {
        lies = is.lies;
        there = omega (arith, there, longer);
        wide = width-extends old new x.value e is.there ∙ is.wide;
        mentions = variables-extends (is_of_phase kept.widths) old new x.value e is.there ∙ is.mentions;
      })
      set.eqs h.eqs;
  free = h.free;
  firsts = h.firsts;
  apart = h.apart;
  covers = h.covers;
}

pub solves_stay : (links : List Link) (old new : List Shape) (eqs : List NetEq) (p : Phase) → Extends old new → All (λ e. e.value < length old) eqs → Solves links new eqs p ↔ Solves links old eqs p
solves_stay links old new eqs p e h = (
  λ s. record { even = s.even; hold = λ i d lt. s.hold i d lt ∙ value-extends (reading p) old new (get_or eqs i d).value e (h i d lt) },
  λ s. record { even = s.even; hold = λ i d lt. s.hold i d lt ∙ sym (value-extends (reading p) old new (get_or eqs i d).value e (h i d lt)) },
)
