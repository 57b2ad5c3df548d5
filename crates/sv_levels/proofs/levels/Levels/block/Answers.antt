use Rattle.std.proofs.lemmas.Result.{IfOk-from_err}
use Rattle.std.proofs.Common.{ap}
use Rattle.sv_names.specs.Kinds.{entries_are}
use Rattle.sv_levels.proofs.levels.Levels.block.Goals as goal

pub returns : goal.returns
returns c = λ i. record {
  path = c.in_ok-path.ensures i;
  module_number = c.module-number.ensures i;
  parent = c.args.level;
  around = c.in_ok-around.ensures i;
  nets = entries_are c.args.nets;
  consts = ap entries_are c.new.ensures i;
}

pub returns-in_err-around : goal.returns-in_err-around
returns-in_err-around c = IfOk-from_err _ _ c.from_residual-in_err-around.ensures.0

pub returns-in_err-path : goal.returns-in_err-path
returns-in_err-path c = IfOk-from_err _ _ c.from_residual.ensures.0
