use Rattle.std.proofs.Common.{refl, subst, sym, All}
use Rattle.std.proofs.lemmas.List.Elements.{All-nil}
use Rattle.sv_actions.specs.Listing.{ArmAims}
use Rattle.sv_actions.proofs.Casing.{arms_none}
use Rattle.sv_actions.proofs.arms.no_arms.Goals as goal

pub returns-clause-is : goal.returns-clause-is
returns-clause-is c = arms_none c.args.made _ c.new.ensures refl refl refl

pub returns-clause-aim : goal.returns-clause-aim
returns-clause-aim c = λ named. subst (All (ArmAims named)) (sym c.new.ensures) (All-nil (ArmAims named))
