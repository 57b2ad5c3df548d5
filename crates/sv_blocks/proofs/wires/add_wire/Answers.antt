use Rattle.std.proofs.lemmas.Result.{IfOk-from_err}
use Rattle.std.proofs.Common.{◌∙◌, ap, Some}
use Rattle.std.specs.Prelude.{is_some}
use Rattle.sv_blocks.proofs.Wiring.{places_more, there_kept}
use Rattle.sv_blocks.proofs.wires.add_wire.Goals as goal

pub returns-clause-are : goal.returns-clause-are
returns-clause-are c = λ named d h.
    places_more named c.args.all.now (record { places = c.put.new.self; wires = c.push.new.self; widths = c.push-2.new.self }) c.args.wire d
    (c.in_ok-put.ensures.here ∙ ap Some (c.len-place.ensures ∙ c.args.all.now.wires.ok.0)) c.in_ok-put.ensures.others c.in_ok-push.ensures.items c.in_ok-push-2.ensures.items h

pub returns-clause-there : goal.returns-clause-there
returns-clause-there c = ap is_some c.in_ok-put.ensures.here

pub returns-clause-kept : goal.returns-clause-kept
returns-clause-kept c = λ x h. there_kept c.args.all.now.places c.put.new.self c.args.wire x c.len-place.result c.in_ok-put.ensures.here c.in_ok-put.ensures.others h

pub returns-in_err-put-clause-there : goal.returns-in_err-put-clause-there
returns-in_err-put-clause-there c = IfOk-from_err _ _ c.from_residual-in_err-put.ensures.0

pub returns-in_err-push-2-clause-there : goal.returns-in_err-push-2-clause-there
returns-in_err-push-2-clause-there c = IfOk-from_err _ _ c.from_residual-in_err-push-2.ensures.0

pub returns-in_err-push-clause-there : goal.returns-in_err-push-clause-there
returns-in_err-push-clause-there c = IfOk-from_err _ _ c.from_residual.ensures.0
