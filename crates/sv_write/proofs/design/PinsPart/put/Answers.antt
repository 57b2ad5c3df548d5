use Rattle.std.proofs.Common.{refl}
use Rattle.sv_write.specs.Design.{write_named, write_pins}
use Rattle.sv_write.specs.Exprs.{write_expr}
use Rattle.sv_write.specs.Writing.{commas}
use Rattle.sv_write.proofs.Adding.{made, under}
use Rattle.sv_write.proofs.design.PinsPart.put.Goals as goal

pub returns-in-Named : goal.returns-in-Named
unfolding write_pins
returns-in-Named c = made write_pins c.in-Named.is (λ l. refl) (under (commas write_named) c.as_slice.ensures c.commas.ensures)

pub returns-in-Ordered : goal.returns-in-Ordered
unfolding write_pins
returns-in-Ordered c = made write_pins c.in-Ordered.is (λ l. refl) (under (commas write_expr) c.as_slice-in-Ordered.ensures c.exprs.ensures)
