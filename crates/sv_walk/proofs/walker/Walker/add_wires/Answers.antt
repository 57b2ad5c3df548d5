use Rattle.std.proofs.Common.{false, arith}
use Rattle.sv_names.specs.Kinds.{layout_is}
use Rattle.sv_hierarchy.specs.Scopes as m
use Rattle.sv_walk.specs.Walks.{state_of}
use Rattle.sv_walk.proofs.Declaring.{handed, turn_walked, turn_refused, turns_end}
use Rattle.sv_walk.proofs.walker.Walker.add_wires.Goals as goal

pub words-preserved : goal.words-preserved
words-preserved c =
    turn_walked (m.add_wire false (layout_is c.args.layout.now)) c.args.words.now c.words.word-index c.word-item.result (m.walk_all (m.add_wire false (layout_is c.args.layout.now)) c.args.words.now (state_of c.args.self.now c.args.current.now)) c.words.self c.add_wire.new.self c.words.current c.add_wire.new.current tt
    c.words-test.true c.word-item.is c.words.invariant c.in_ok-add_wire.ensures

pub returns-in_err-add_wire : goal.returns-in_err-add_wire
returns-in_err-add_wire c =
    handed (m.walk_all (m.add_wire false (layout_is c.args.layout.now)) c.args.words.now (state_of c.args.self.now c.args.current.now)) c.add_wire.new.self c.add_wire.new.self c.add_wire.new.current c.add_wire.new.current c.from_residual.result c.in_err-add_wire.field-0.0 c.from_residual.ensures.1
    (turn_refused (m.add_wire false (layout_is c.args.layout.now)) c.args.words.now c.words.word-index c.word-item.result (m.walk_all (m.add_wire false (layout_is c.args.layout.now)) c.args.words.now (state_of c.args.self.now c.args.current.now)) c.words.self c.add_wire.new.self c.words.current c.add_wire.new.current c.in_err-add_wire.field-0.0
    c.words-test.true c.word-item.is c.words.invariant c.in_err-add_wire.ensures)

pub returns : goal.returns
returns c = turns_end (m.add_wire false (layout_is c.args.layout.now)) c.args.words.now c.words.word-index (m.walk_all (m.add_wire false (layout_is c.args.layout.now)) c.args.words.now (state_of c.args.self.now c.args.current.now)) c.words.self c.words.current tt (omega (arith, c.words-test.false)) c.words.invariant
