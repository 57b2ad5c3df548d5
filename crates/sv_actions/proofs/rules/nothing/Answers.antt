use Rattle.std.proofs.Common.{refl, subst, sym, All}
use Rattle.std.proofs.lemmas.List.Elements.{All-nil}
use Rattle.sv_actions.specs.Doing.{Aims}
use Rattle.sv_actions.proofs.Acting.{acted_idle}
use Rattle.sv_actions.proofs.rules.nothing.Goals as goal

pub returns-clause-is : goal.returns-clause-is
returns-clause-is c = acted_idle c.args.made _ c.new.ensures refl

pub returns-clause-aims : goal.returns-clause-aims
returns-clause-aims c = λ named. subst (All (Aims named)) (sym c.new.ensures) (All-nil (Aims named))
