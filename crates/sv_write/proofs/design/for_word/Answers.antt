use Rattle.std.proofs.Common.{refl}
use Rattle.sv_write.specs.Design.{for_word, write_genvar_if}
use Rattle.sv_write.proofs.Adding.{◌▷◌, made}
use Rattle.sv_write.proofs.design.for_word.Goals as goal

pub returns-then-header : goal.returns-then-header
unfolding write_genvar_if
returns-then-header c = made for_word c.if-header.true (λ l. refl) (c.key.ensures ▷ c.mark.ensures ▷ c.key-then-header.ensures)

pub returns-else-header : goal.returns-else-header
unfolding write_genvar_if
returns-else-header c = made for_word c.if-header.false (λ l. refl) (c.key.ensures ▷ c.mark.ensures)
