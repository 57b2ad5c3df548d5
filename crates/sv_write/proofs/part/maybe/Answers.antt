use Rattle.std.proofs.Common.{refl}
use Rattle.sv_write.specs.Writing.{maybe}
use Rattle.sv_write.proofs.Adding.{made, nothing_added}
use Rattle.sv_write.proofs.part.maybe.Goals as goal

pub returns-in-Some : goal.returns-in-Some
returns-in-Some g c = made (maybe g.T.Part.text) c.in-Some.is (λ l. refl) c.put.ensures

pub returns-in-None : goal.returns-in-None
returns-in-None g c = made (maybe g.T.Part.text) c.in-None.is (λ l. refl) nothing_added
