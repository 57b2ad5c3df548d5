use Rattle.std.proofs.lemmas.Result.{IfOk-from_err}
use Rattle.std.proofs.Common.{◌∙◌}
use Rattle.sv_blocks.proofs.Wiring.{one_wire_more}
use Rattle.sv_blocks.proofs.wires.no_marks.Goals as goal

pub wires-init : goal.wires-init
wires-init c = c.new-marks.ensures

pub wires-preserved : goal.wires-preserved
wires-preserved c = one_wire_more c.wires.marks c.from_vec.result _ c.wires._wire c.wires.invariant (c.from_vec.ensures ∙ c.in_ok-more.ensures.items_if_clones_equal (λ y e. e)) c.in_ok-append.ensures.ok

pub returns-in_err-append : goal.returns-in_err-append
returns-in_err-append c = IfOk-from_err _ _ c.from_residual-in_err-append.ensures.0

pub returns-in_err-more : goal.returns-in_err-more
returns-in_err-more c = IfOk-from_err _ _ c.from_residual.ensures.0
