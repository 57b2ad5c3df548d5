use Rattle.std.proofs.lemmas.Result.{IfOk-from_err, IfOk-weaker}
use Rattle.sv_names.proofs.Sound.{sound_some, sound_most}
use Rattle.sv_walk.proofs.DeclaringWires.{wire_put}
use Rattle.sv_walk.proofs.declare.put_wire.Goals as goal

pub push-requires : goal.push-requires
push-requires c = (sound_some c.args.layout.now c.requires, sound_most c.args.layout.now c.requires)

pub returns : goal.returns
returns c =
    IfOk-weaker c.push.result _ _ (λ u h. λ w o t l b n.
    wire_put (record w { levels = c.args.levels.now; wires = c.args.wires.now }) o c.args.level c.add_net.new.self c.push.new.self t c.args.input c.args.layout.now c.in_ok-layout_of_wire.layout_of_wire c.args.word.now.text c.in_ok-name.name c.in_ok-path.path c.bytes.result.now c.len.result
    c.requires c.in_ok-name.ensures c.bytes.ensures c.in_ok-layout_of_wire.ensures c.len.ensures c.in_ok-path.ensures c.in_ok-add_net.ensures h l b n) c.push.ensures

pub returns-in_err-path : goal.returns-in_err-path
returns-in_err-path c = IfOk-from_err _ _ c.from_residual.ensures.0

pub returns-in_err-name : goal.returns-in_err-name
returns-in_err-name c = IfOk-from_err _ _ c.from_residual-in_err-name.ensures.0

pub returns-in_err-layout_of_wire : goal.returns-in_err-layout_of_wire
returns-in_err-layout_of_wire c = IfOk-from_err _ _ c.from_residual-in_err-layout_of_wire.ensures.0

pub returns-in_err-add_net : goal.returns-in_err-add_net
returns-in_err-add_net c = IfOk-from_err _ _ c.from_residual-in_err-add_net.ensures.0
