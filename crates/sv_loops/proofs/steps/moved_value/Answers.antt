use Rattle.std.proofs.Common.{true, []}
use Rattle.sv_tree.specs.declared.word.Word.{Word}
use Rattle.sv_meaning.specs.Values.{mean}
use Rattle.sv_names.specs.Names.{constants_are}
use Rattle.sv_typing.proofs.Arms.{sound_of_judged}
use Rattle.sv_loops.specs.Steps.{moved_by}
use Rattle.sv_loops.proofs.steps.moved_value.Goals as goal

pub low_bits-requires : goal.low_bits-requires
low_bits-requires c =
    let word : Word = record { text = []; place = c.start.result } in
    let m = mean (constants_are c.args.names.now) c.args.expr.now in
    sound_of_judged (moved_by c.args.op word c.args.bits.now m) ((moved_by c.args.op word c.args.bits.now m).faults true) c.moved.result (c.moved.ensures m word c.typed.ensures)

pub returns-clause-is : goal.returns-clause-is
returns-clause-is c = λ word.
    let m = mean (constants_are c.args.names.now) c.args.expr.now in
    c.low_bits.ensures.is (moved_by c.args.op word c.args.bits.now m) (c.start.ensures (constants_are c.args.names.now)) (c.moved.ensures m word c.typed.ensures)
