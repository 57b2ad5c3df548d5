use Rattle.std.proofs.Common.{refl}
use Rattle.sv_write.specs.Stmts.{default_label, write_colon_if}
use Rattle.sv_write.proofs.Adding.{◌▷◌, made}
use Rattle.sv_write.proofs.stmts.default_label.Goals as goal

pub returns-then-colon : goal.returns-then-colon
unfolding write_colon_if
returns-then-colon c = made default_label c.if-colon.true (λ l. refl) (c.key.ensures ▷ c.mark.ensures)

pub returns-else-colon : goal.returns-else-colon
unfolding write_colon_if
returns-else-colon c = made default_label c.if-colon.false (λ l. refl) c.key.ensures
