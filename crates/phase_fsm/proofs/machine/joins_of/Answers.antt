use Rattle.std.proofs.Common.{ℕ, ◌≤◌, List, sym, subst}
use Rattle.std.specs.Prelude.{All}
use Rattle.event_nets.proofs.Making.{wires-narrow}
use Rattle.phase_fsm.proofs.machine.joins_of.Goals as goal

-- src/machine.rt:51:5
pub join_all-requires-clause-widths : goal.join_all-requires-clause-widths
join_all-requires-clause-widths c =
    let P : List ℕ → Type 0 = All (λ width. (1 ≤ width) × (width ≤ 128)) in
    subst P (sym c.requires.widths) (wires-narrow c.args.flat.now.wires c.requires.flat.wires)
