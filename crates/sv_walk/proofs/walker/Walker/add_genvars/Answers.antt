use Rattle.std.proofs.Common.{arith}
use Rattle.sv_hierarchy.specs.Scopes as m
use Rattle.sv_walk.specs.Walks.{state_of}
use Rattle.sv_walk.proofs.Declaring.{handed, turn_walked, turn_refused, turns_end}
use Rattle.sv_walk.proofs.walker.Walker.add_genvars.Goals as goal

pub words-preserved : goal.words-preserved
words-preserved c =
    turn_walked m.add_genvar c.args.words.now c.words.word-index c.word-item.result (m.walk_all m.add_genvar c.args.words.now (state_of c.args.self.now c.args.current.now)) c.words.self c.add_constant.new.self c.words.current c.add_constant.new.current tt
    c.words-test.true c.word-item.is c.words.invariant c.in_ok-add_constant.ensures

pub returns-in_err-add_constant : goal.returns-in_err-add_constant
returns-in_err-add_constant c =
    handed (m.walk_all m.add_genvar c.args.words.now (state_of c.args.self.now c.args.current.now)) c.add_constant.new.self c.add_constant.new.self c.add_constant.new.current c.add_constant.new.current c.from_residual.result c.in_err-add_constant.field-0.0 c.from_residual.ensures.1
    (turn_refused m.add_genvar c.args.words.now c.words.word-index c.word-item.result (m.walk_all m.add_genvar c.args.words.now (state_of c.args.self.now c.args.current.now)) c.words.self c.add_constant.new.self c.words.current c.add_constant.new.current c.in_err-add_constant.field-0.0
    c.words-test.true c.word-item.is c.words.invariant c.in_err-add_constant.ensures)

pub returns : goal.returns
returns c = turns_end m.add_genvar c.args.words.now c.words.word-index (m.walk_all m.add_genvar c.args.words.now (state_of c.args.self.now c.args.current.now)) c.words.self c.words.current tt (omega (arith, c.words-test.false)) c.words.invariant
