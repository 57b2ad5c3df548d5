use Rattle.std.proofs.lemmas.Result.{IfOk-from_err}
use Rattle.sv_typing.proofs.picks.moving.Goals as goal

pub in_bits-requires-clause-each : goal.in_bits-requires-clause-each
in_bits-requires-clause-each c = c.width-each.ensures.most

pub offset-requires-clause-row : goal.offset-requires-clause-row
offset-requires-clause-row c = c.requires.row

pub width-each-requires : goal.width-each-requires
width-each-requires c = c.requires.row.each

pub returns-in_err-new : goal.returns-in_err-new
returns-in_err-new c = IfOk-from_err _ _ c.from_residual.ensures.0
