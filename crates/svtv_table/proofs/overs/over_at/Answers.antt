use Rattle.std.proofs.lemmas.Result.{IfOk-from_err}
use Rattle.std.proofs.Common.{◌∙◌, ap, eqb}
use Rattle.std.proofs.lemmas.List.Filters.{dedup_is}
use Rattle.svtv_table.specs.Overs.{set_wires}
use Rattle.svtv_table.proofs.Ordered.{ascends, exactly}
use Rattle.svtv_table.proofs.overs.over_at.Goals as goal

pub returns-clause-ascending : goal.returns-clause-ascending
returns-clause-ascending c =
    let sorted = c.sort_unstable.new.self.items in
    ascends sorted c.from_vec.result c.sort_unstable.ensures.sorted (c.from_vec.ensures ∙ dedup_is eqb sorted c.dedup.new.self.items c.dedup.ensures.filtered)

pub returns-clause-wires : goal.returns-clause-wires
returns-clause-wires c =
    let sorted = c.sort_unstable.new.self.items in
    exactly c.args.bound.now.overs c.args.phase c.in_ok-wires.wires.items sorted c.from_vec.result (c.in_ok-wires.ensures ∙ ap (λ rows. set_wires rows c.args.phase) c.as_slice.ensures)
    c.sort_unstable.ensures.permutation (c.from_vec.ensures ∙ dedup_is eqb sorted c.dedup.new.self.items c.dedup.ensures.filtered)

pub returns-in_err-wires-clause-ascending : goal.returns-in_err-wires-clause-ascending
returns-in_err-wires-clause-ascending c = IfOk-from_err _ _ c.from_residual.ensures.0

pub returns-in_err-wires-clause-wires : goal.returns-in_err-wires-clause-wires
returns-in_err-wires-clause-wires c = IfOk-from_err _ _ c.from_residual.ensures.0
