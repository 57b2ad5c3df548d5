use Rattle.std.proofs.lemmas.Result.{IfOk-from_err}
use Rattle.std.proofs.Common.{arith}
use Rattle.sv_names.specs.Names.{names_are}
use Rattle.sv_actions.specs.Texts.{root_signals}
use Rattle.sv_blocks.specs.Declaring.{wires_are}
use Rattle.sv_actions.proofs.Rooting.{ok_tail, root_name, root_concat, each_begin, each_more, each_end}
use Rattle.sv_blocks.proofs.wires.+lvalue.Goals as goal

pub target_wires-returns-in-Name-clause-is : goal.target_wires-returns-in-Name-clause-is
target_wires-returns-in-Name-clause-is t c =
    ok_tail c.name_wire.result (wires_are c.name_wire.new.wires.items) (wires_are c.args.wires.now.items) _ _ (root_name (names_are c.args.names.now) c.args.target.now c.in-Name.word _ _ c.in-Name.is c.bytes.ensures) c.name_wire.ensures.is

pub target_wires-returns-in-Concat-clause-is : goal.target_wires-returns-in-Concat-clause-is
target_wires-returns-in-Concat-clause-is t c =
    ok_tail c.all_target_wires.result (wires_are c.all_target_wires.new.wires.items) (wires_are c.args.wires.now.items) _ _ (root_concat (names_are c.args.names.now) c.args.target.now _ _ _ c.in-Concat.is c.as_slice.ensures) c.all_target_wires.ensures.is

pub all_target_wires-parts-init : goal.all_target_wires-parts-init
all_target_wires-parts-init t c = record { is = each_begin (root_signals (names_are c.args.names.now)) c.args.parts.now (wires_are c.args.wires.now.items); bits = c.requires }

pub all_target_wires-parts-preserved : goal.all_target_wires-parts-preserved
all_target_wires-parts-preserved t c = record {
  is = each_more (root_signals (names_are c.args.names.now)) c.args.parts.now _ _ (wires_are c.args.wires.now.items) _ _ c.parts-test.true c.part-item.is c.parts.invariant.is c.in_ok-target_wires.ensures.is;
  bits = c.in_ok-target_wires.ensures.bits;
}

pub all_target_wires-returns-clause-is : goal.all_target_wires-returns-clause-is
all_target_wires-returns-clause-is t c = each_end (root_signals (names_are c.args.names.now)) c.args.parts.now _ (wires_are c.args.wires.now.items) _ (omega arith) c.parts.invariant.is

pub all_target_wires-returns-in_err-target_wires-clause-is : goal.all_target_wires-returns-in_err-target_wires-clause-is
all_target_wires-returns-in_err-target_wires-clause-is t c = IfOk-from_err _ _ c.from_residual.ensures.0
