use Rattle.std.proofs.lemmas.Result.{IfOk-from_err}
use Rattle.std.proofs.Common.{refl}
use Rattle.sv_walk.proofs.Opening.{file_begun}
use Rattle.sv_walk.proofs.walker.Walker.begin_file.Goals as goal

pub returns : goal.returns
returns c =
    file_begun c.args.self.now c.push.new.self (record { path = c.in_ok-new.field-0; «module» = 0; parent = 0; around = c.in_ok-outermost.field-0; nets = c.new-2.result; consts = c.new-3.result }) c.bare.result
    c.requires c.in_ok-push.ensures c.in_ok-new.ensures refl refl c.in_ok-outermost.ensures c.new-2.ensures c.new-3.ensures c.bare.ensures

pub returns-in_err-new : goal.returns-in_err-new
returns-in_err-new c = IfOk-from_err _ _ c.from_residual.ensures.0

pub returns-in_err-outermost : goal.returns-in_err-outermost
returns-in_err-outermost c = IfOk-from_err _ _ c.from_residual-in_err-outermost.ensures.0

pub returns-in_err-push : goal.returns-in_err-push
returns-in_err-push c = IfOk-from_err _ _ c.from_residual-in_err-push.ensures.0
