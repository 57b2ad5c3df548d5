use Rattle.std.proofs.Common.{refl}
use Rattle.sv_write.specs.Design.{write_pin}
use Rattle.sv_write.proofs.Adding.{◌▷◌, made, nothing_added}
use Rattle.sv_write.proofs.design.pin.Goals as goal

pub returns-in-Same : goal.returns-in-Same
unfolding write_pin
returns-in-Same c = made write_pin c.in-Same.is (λ l. refl) nothing_added

pub returns-in-Open : goal.returns-in-Open
unfolding write_pin
returns-in-Open c = made write_pin c.in-Open.is (λ l. refl) (c.mark.ensures ▷ c.mark-in-Open.ensures)

pub returns-in-Given : goal.returns-in-Given
unfolding write_pin
returns-in-Given c = made write_pin c.in-Given.is (λ l. refl) c.in_parens.ensures
