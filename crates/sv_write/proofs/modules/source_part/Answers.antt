use Rattle.std.proofs.Common.{refl}
use Rattle.sv_write.specs.Modules.{write_part}
use Rattle.sv_write.proofs.Adding.{made}
use Rattle.sv_write.proofs.modules.source_part.Goals as goal

pub returns-in-Module : goal.returns-in-Module
unfolding write_part
returns-in-Module c = made write_part c.in-Module.is (λ l. refl) c.module.ensures

pub returns-in-Typedef : goal.returns-in-Typedef
unfolding write_part
returns-in-Typedef c = made write_part c.in-Typedef.is (λ l. refl) c.typedef.ensures

pub returns-in-Param : goal.returns-in-Param
unfolding write_part
returns-in-Param c = made write_part c.in-Param.is (λ l. refl) c.param.ensures
