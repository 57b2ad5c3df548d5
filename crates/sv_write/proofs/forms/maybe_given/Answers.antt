use Rattle.std.proofs.Common.{refl}
use Rattle.sv_write.specs.Forms.{write_given}
use Rattle.sv_write.specs.Writing.{maybe}
use Rattle.sv_write.proofs.Adding.{made, nothing_added}
use Rattle.sv_write.proofs.forms.maybe_given.Goals as goal

pub returns-in-Some : goal.returns-in-Some
returns-in-Some c = made (maybe write_given) c.in-Some.is (λ l. refl) c.given.ensures

pub returns-in-None : goal.returns-in-None
returns-in-None c = made (maybe write_given) c.in-None.is (λ l. refl) nothing_added
