use Rattle.std.proofs.lemmas.Result.{IfOk-from_err}
use Rattle.std.proofs.Common.{rules}
use Rattle.sv_lower.proofs.Indices.{part_unknown, part_known, part_far}
use Rattle.sv_lower.proofs.places.part_at_constant.Goals as goal

pub returns-then-not-is_bool-clause-ok : goal.returns-then-not-is_bool-clause-ok
returns-then-not-is_bool-clause-ok c = part_unknown _ _ _ _ _ _ _ c.len.ensures.arena c.requires.of c.is_bool.ensures (search rules) c.in_ok-node.ensures.ok

pub returns-in_ok-node-in-Some-clause-ok : goal.returns-in_ok-node-in-Some-clause-ok
returns-in_ok-node-in-Some-clause-ok c =
    part_known _ _ _ _ _ _ _ _ c.is_bool.ensures (search rules) (search rules) c.in_ok-node-in-Some.ensures.ok

pub returns-in_ok-node-in-None-clause-ok : goal.returns-in_ok-node-in-None-clause-ok
returns-in_ok-node-in-None-clause-ok c = part_far _ _ _ _ _ _ _ _ c.constant.ensures.stays c.requires.of c.in_ok-at-in-None.ensures.ok c.in_ok-node-in-None.ensures.ok

pub returns-in_err-at-in-None-clause-ok : goal.returns-in_err-at-in-None-clause-ok
returns-in_err-at-in-None-clause-ok c = IfOk-from_err _ _ c.from_residual-in_err-at-in-None.ensures.0

pub returns-in_err-node-clause-ok : goal.returns-in_err-node-clause-ok
returns-in_err-node-clause-ok c = IfOk-from_err _ _ c.from_residual.ensures.0

pub returns-in_err-node-in-None-clause-ok : goal.returns-in_err-node-in-None-clause-ok
returns-in_err-node-in-None-clause-ok c = IfOk-from_err _ _ c.from_residual-in_err-node-in-None.ensures.0

pub returns-in_err-node-in-Some-clause-ok : goal.returns-in_err-node-in-Some-clause-ok
returns-in_err-node-in-Some-clause-ok c = IfOk-from_err _ _ c.from_residual-in_err-node-in-Some.ensures.0
