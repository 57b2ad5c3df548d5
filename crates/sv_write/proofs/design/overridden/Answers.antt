use Rattle.std.proofs.Common.{refl}
use Rattle.sv_write.specs.Design.{write_override}
use Rattle.sv_write.specs.Writing.{maybe}
use Rattle.sv_write.proofs.Adding.{◌▷◌, made, nothing_added}
use Rattle.sv_write.proofs.design.overridden.Goals as goal

pub returns-in-Some : goal.returns-in-Some
unfolding write_override
returns-in-Some c = made (maybe write_override) c.in-Some.is (λ l. refl) (c.mark.ensures ▷ c.mark-in-Some.ensures ▷ c.maybe.ensures ▷ c.mark-in-Some-2.ensures)

pub returns-in-None : goal.returns-in-None
unfolding write_override
returns-in-None c = made (maybe write_override) c.in-None.is (λ l. refl) nothing_added
