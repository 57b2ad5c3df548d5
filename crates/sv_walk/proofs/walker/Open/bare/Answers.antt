use Rattle.std.proofs.lemmas.Result.{IfOk-from_err}
use Rattle.std.proofs.Common.{◌∙◌, ap, map}
use Rattle.sv_levels.specs.Tasks.{given_is}
use Rattle.sv_walk.proofs.walker.Open.bare.Goals as goal

pub returns : goal.returns
returns c = record {
  level_is = c.new.ensures.level;
  constructs = c.new.ensures.constructs;
  overridden = c.new.ensures.overridden ∙ ap (map given_is) c.in_ok-overridden.ensures;
  taken = c.new.ensures.taken;
}

pub returns-in_err-overridden : goal.returns-in_err-overridden
returns-in_err-overridden c = IfOk-from_err _ _ c.from_residual.ensures.0
