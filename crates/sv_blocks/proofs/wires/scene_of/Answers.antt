use Rattle.std.proofs.lemmas.Result.{IfOk-from_err}
use Rattle.std.proofs.Common.{◌∙◌, refl}
use Rattle.std.proofs.lemmas.List.{get_or_default}
use Rattle.sv_blocks.proofs.Wiring.{begun, places_none, there_none, there_more, there_all}
use Rattle.sv_blocks.proofs.wires.scene_of.Goals as goal

pub found-init : goal.found-init
found-init c = record { are = λ named d. places_none named _ c.new.ensures c.new-2.ensures.items c.new-3.ensures.items; there = there_none _ c.args.found.now }

pub found-preserved : goal.found-preserved
found-preserved c =
    let i = c.found.invariant in
    record {
      are = λ named d. c.in_ok-add_wire.ensures.are named (d c.found.wire-index _ c.found-test.true) (i.are named d);
      there = there_more _ _ c.args.found.now c.found.wire-index _ c.found-test.true (get_or_default c.args.found.now c.found.wire-index _ _ c.found-test.true) c.in_ok-add_wire.ensures.kept i.there c.in_ok-add_wire.ensures.there;
    }

pub returns-clause-begun : goal.returns-clause-begun
returns-clause-begun c = λ named d.
    begun named c.args.manner c.found.all _ _ _ _ _ (c.found.invariant.are named d) refl c.from_vec.ensures c.from_vec-2.ensures c.in_ok-marks.ensures (c.len.ensures ∙ c.found.all.wires.ok.0)

pub returns-clause-there : goal.returns-clause-there
returns-clause-there c = there_all _ _ c.args.found.now c.found.wire-index c.found-test.false refl c.found.invariant.there

pub returns-in_err-add_wire-clause-there : goal.returns-in_err-add_wire-clause-there
returns-in_err-add_wire-clause-there c = IfOk-from_err _ _ c.from_residual.ensures.0

pub returns-in_err-marks-clause-there : goal.returns-in_err-marks-clause-there
returns-in_err-marks-clause-there c = IfOk-from_err _ _ c.from_residual-in_err-marks.ensures.0
