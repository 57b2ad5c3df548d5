use Rattle.std.proofs.Common.{refl}
use Rattle.sv_write.specs.Forms.{write_param_type}
use Rattle.sv_write.proofs.Adding.{◌▷◌, made}
use Rattle.sv_write.proofs.forms.ParamTypePart.put.Goals as goal

pub returns-in-Whole : goal.returns-in-Whole
unfolding write_param_type
returns-in-Whole c = made write_param_type c.in-Whole.is (λ l. refl) (c.whole_word.ensures ▷ c.maybe.ensures)

pub returns-in-Bits : goal.returns-in-Bits
unfolding write_param_type
returns-in-Bits c = made write_param_type c.in-Bits.is (λ l. refl) (c.maybe-in-Bits.ensures ▷ c.maybe-in-Bits-2.ensures ▷ c.maybe-in-Bits-3.ensures)
