-- Nodes of wires that have what the least solution of equations has, have what the least settling has.
use Rattle.std.proofs.Common.{◌∙◌, ◌≡◌, ◌↔◌, ◌<◌, ℕ, arith, List, length, map, subst, ap, slice_index, Result, Ok, Err}
use Rattle.std.proofs.lemmas.Grind.{common_steps}
use Rattle.lhs_alias.specs.Joined.{Kept, Stands}
use Rattle.settling.specs.Settling.{Store, value_at as value_in}
use Rattle.svex_shape.specs.declared.shape.Shape.{Shape}
use Rattle.driver_resolve.specs.declared.driver.NetEq.{NetEq}
use Rattle.driver_resolve.specs.Drivers.{wire_bits, widths_of}
use Rattle.flat_net.specs.declared.flat.Flat.{Flat}
use Rattle.flat_net.specs.Flats.{links_of, Settles, IsLeastSettling}
use Rattle.net_equations.specs.Equations.{phase_of, Solves, IsLeastSolution}
use Rattle.compose_rounds.specs.States.{IsOuter}
use Rattle.svex_compose.specs.Composed.{AreWireNodes as AreComposed}
use Rattle.phase_fsm.specs.Machines.{IsWireNode, AreWireNodes}

-- the equations say which valuations settle
abbrev pub Tell : Flat → List ℕ → List Shape → List NetEq → Type 0
Tell flat over shapes eqs = (stim previous now : Store) → Settles flat over stim previous now ↔ Solves (links_of flat.joins) shapes eqs (phase_of stim previous now)

pub least-solution : (flat : Flat) (over : List ℕ) (shapes : List Shape) (eqs : List NetEq) → Tell flat over shapes eqs → (stim previous now : Store)
    → IsLeastSettling flat over stim previous now → IsLeastSolution (links_of flat.joins) shapes eqs stim previous now
least-solution flat over shapes eqs tell stim previous now l = record {
  solves = (tell stim previous now).0 l.settles;
  least = λ t s. l.least t ((tell stim previous t).1 s);
}

wire-node : (flat : Flat) (over : List ℕ) (kept : Kept) → Stands kept (links_of flat.joins) → kept.widths ≡ widths_of flat.wires
    → (old new : List Shape) (eqs : List NetEq) → Tell flat over old eqs → (nodes : List ℕ) → AreComposed kept old new eqs nodes
    → (n : ℕ) → n < length nodes → IsWireNode flat over new n (slice_index (widths_of flat.wires) n) (slice_index nodes n)
wire-node flat over kept stands is old new eqs tell nodes wires n l = record {
  outer = subst (λ widths. IsOuter widths new (slice_index nodes n)) is (wires.at n l).outer;
  wide = (wires.at n l).wide ∙ ap (λ widths. slice_index widths n) is;
  values = λ stim previous now present least.
      (wires.at n l).value (links_of flat.joins) stands stim previous now present (least-solution flat over old eqs tell stim previous now least)
      ∙ ap (λ widths. map (value_in now) (wire_bits n (slice_index widths n))) is;
}

pub wires-are : (flat : Flat) (over : List ℕ) (kept : Kept) → Stands kept (links_of flat.joins) → kept.widths ≡ widths_of flat.wires
    → (old new : List Shape) (eqs : List NetEq) → Tell flat over old eqs → (nodes : List ℕ) → AreComposed kept old new eqs nodes → AreWireNodes flat over new nodes
wires-are flat over kept stands is old new eqs tell nodes wires =
    let as_many : length nodes ≡ length flat.wires = wires.size ∙ (ap length is ∙ grind (arith, common_steps)) in
    record {
      as_many = as_many;
      each = λ n l. wire-node flat over kept stands is old new eqs tell nodes wires n (omega (arith, as_many, l));
    }

err_or : {A E : Type 0} → E → Result A E → E
err_or e (Ok x) = e
err_or e (Err y) = y

-- two errors that are one
pub same-error : {A E : Type 0} → (x y : E) → ◌≡◌ {A = Result A E} (Err x) (Err y) → x ≡ y
unfolding err_or
same-error x y h = ap (err_or x) h
