use Rattle.std.proofs.Common.{refl}
use Rattle.sv_write.specs.Writing.{maybe}
use Rattle.sv_write.specs.Modules.{write_ports}
use Rattle.sv_write.proofs.Adding.{made, nothing_added, under}
use Rattle.sv_write.proofs.modules.maybe_header.Goals as goal

pub returns-in-Some : goal.returns-in-Some
returns-in-Some c = made (maybe write_ports) c.in-Some.is (λ l. refl) (under write_ports c.as_slice.ensures c.header.ensures)

pub returns-in-None : goal.returns-in-None
returns-in-None c = made (maybe write_ports) c.in-None.is (λ l. refl) nothing_added
