use Rattle.std.proofs.Common.{refl}
use Rattle.sv_write.specs.Writing.{label}
use Rattle.sv_write.proofs.Adding.{◌▷◌, made, nothing_added}
use Rattle.sv_write.proofs.stmts.label.Goals as goal

pub returns-in-Some : goal.returns-in-Some
returns-in-Some c = made label c.in-Some.is (λ l. refl) (c.mark.ensures ▷ c.name.ensures)

pub returns-in-None : goal.returns-in-None
returns-in-None c = made label c.in-None.is (λ l. refl) nothing_added
