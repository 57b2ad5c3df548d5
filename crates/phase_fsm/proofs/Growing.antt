-- A flat design says the same over an arena that has grown.
use Rattle.std.proofs.Common.{◌∙◌, ◌≡◌, ℕ, arith, List, [], ◌∷◌, ◌++◌, All, IsTrue, refl, sym, subst, ap}
use Rattle.std.specs.List.{zip}
use Rattle.std.proofs.lemmas.List.Elements.{All-weaker, All-head, All-tail}
use Rattle.lhs_alias.specs.Segs.{lhs_bits}
use Rattle.settling.specs.Settling.{Store, Link, SettlesBy}
use Rattle.settling.specs.Least.{Giving, IsLeast}
use Rattle.settling.specs.Overriding.{overridden}
use Rattle.svex_shape.specs.declared.shape.Shape.{Shape}
use Rattle.svex_shape.specs.Values.{value_at}
use Rattle.svex_arena.specs.Arenas.{Extends}
use Rattle.svex_arena.proofs.Steps.{value-extends, width-extends, variables-extends}
use Rattle.driver_resolve.specs.declared.driver.Driver.{Driver}
use Rattle.driver_resolve.specs.Drivers.{Phase, reading, drivers_give, stimuli_from, overriding_from, widths_of, is_of_wires, IsDriver}
use Rattle.flat_net.specs.declared.flat.Flat.{Flat}
use Rattle.flat_net.specs.Flats.{IsFlat, links_of, given, given_in, Settles, IsLeastSettling}
use Rattle.compose_rounds.specs.States.{is_outer}
use Rattle.phase_fsm.specs.Machines.{IsWireNode, AreWireNodes}

-- the design over other nodes
abbrev pub over_nodes : Flat → List Shape → Flat
over_nodes flat shapes = record { arena = shapes; wires = flat.wires; drivers = flat.drivers; joins = flat.joins }

-- ---- drivers

driver-stays : (widths : List ℕ) (old new : List Shape) → Extends old new → (d : Driver) → IsDriver widths old d → IsDriver widths new d
driver-stays widths old new e d h = record {
  lies = h.lies;
  there = omega (arith, h.there, e.longer);
  wide = width-extends old new d.value e h.there ∙ h.wide;
  mentions = subst IsTrue (sym (variables-extends (is_of_wires widths) old new d.value e h.there)) h.mentions;
}

drivers-stay : (widths : List ℕ) (old new : List Shape) → Extends old new → (all : List Driver) → All (IsDriver widths old) all → All (IsDriver widths new) all
drivers-stay widths old new e all h = All-weaker (IsDriver widths old) (IsDriver widths new) (driver-stays widths old new e) all h

drivers-give : (widths : List ℕ) (old new : List Shape) → Extends old new → (all : List Driver) → All (IsDriver widths old) all → (p : Phase)
    → drivers_give new all p ≡ drivers_give old all p
unfolding drivers_give
drivers-give widths old new e [] h p = refl
drivers-give widths old new e (d ∷ all) h p =
    ap (λ v. zip (lhs_bits d.target) v ++ drivers_give new all p) (value-extends (reading p) old new d.value e (All-head (IsDriver widths old) d all h).there)
    ∙ ap (λ more. zip (lhs_bits d.target) (value_at (reading p) old d.value) ++ more) (drivers-give widths old new e all (All-tail (IsDriver widths old) d all h) p)

-- ---- designs

pub flat-stays : (flat : Flat) (new : List Shape) → Extends flat.arena new → IsFlat flat → IsFlat (over_nodes flat new)
flat-stays flat new e h = record {
  wires = h.wires;
  drivers = drivers-stay (widths_of flat.wires) flat.arena new e flat.drivers h.drivers;
  joins = h.joins;
  own_children = h.own_children;
}

given-stays : (flat : Flat) (new : List Shape) → Extends flat.arena new → IsFlat flat → (over : List ℕ) (p : Phase)
    → given (over_nodes flat new) over p ≡ given flat over p
given-stays flat new e h over p =
    ap (λ all. overridden (links_of flat.joins) (overriding_from 0 flat.wires over p.stim) (all ++ stimuli_from 0 flat.wires p.stim))
    (drivers-give (widths_of flat.wires) flat.arena new e flat.drivers h.drivers p)

least-alike : (links : List Link) (gives more : Giving) → ((s : Store) → gives s ≡ more s) → (now : Store) → IsLeast links gives now → IsLeast links more now
least-alike links gives more h now l = record {
  settles = subst (λ all. SettlesBy links all now) (h now) l.settles;
  least = λ t s. l.least t (subst (λ all. SettlesBy links all t) (sym (h t)) s);
}

pub settles-stays : (flat : Flat) (new : List Shape) → Extends flat.arena new → IsFlat flat → (over : List ℕ) (stim prev now : Store)
    → Settles (over_nodes flat new) over stim prev now → Settles flat over stim prev now
settles-stays flat new e h over stim prev now s = subst (λ all. SettlesBy (links_of flat.joins) all now) (given-stays flat new e h over _) s

pub settles-stays-back : (flat : Flat) (new : List Shape) → Extends flat.arena new → IsFlat flat → (over : List ℕ) (stim prev now : Store)
    → Settles flat over stim prev now → Settles (over_nodes flat new) over stim prev now
settles-stays-back flat new e h over stim prev now s = subst (λ all. SettlesBy (links_of flat.joins) all now) (sym (given-stays flat new e h over _)) s

pub least-stays : (flat : Flat) (new : List Shape) → Extends flat.arena new → IsFlat flat → (over : List ℕ) (stim prev now : Store)
    → IsLeastSettling flat over stim prev now → IsLeastSettling (over_nodes flat new) over stim prev now
least-stays flat new e h over stim prev now l =
    least-alike (links_of flat.joins) (given_in flat over stim prev) (given_in (over_nodes flat new) over stim prev)
    (λ s. sym (given-stays flat new e h over (record { stim = stim; previous = prev; present = s }))) now l

-- ---- nodes of wires

wire-stays : (flat : Flat) (over : List ℕ) (old new : List Shape) (wire width node : ℕ) → Extends old new
    → IsWireNode flat over old wire width node → IsWireNode flat over new wire width node
wire-stays flat over old new wire width node e h = record {
  outer = record {
    there = omega (arith, h.outer.there, e.longer);
    mentions = subst IsTrue (sym (variables-extends (is_outer (widths_of flat.wires)) old new node e h.outer.there)) h.outer.mentions;
  };
  wide = width-extends old new node e h.outer.there ∙ h.wide;
  values = λ stim previous now present least. value-extends _ old new node e h.outer.there ∙ h.values stim previous now present least;
}

pub wires-stay : (flat : Flat) (over : List ℕ) (old new : List Shape) (nodes : List ℕ) → Extends old new
    → AreWireNodes flat over old nodes → AreWireNodes flat over new nodes
wires-stay flat over old new nodes e h = record {
  as_many = h.as_many;
  each = λ n l. wire-stays flat over old new n _ _ e (h.each n l);
}
