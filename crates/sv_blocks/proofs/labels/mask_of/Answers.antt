use Rattle.std.proofs.Common.{ap, ◌∙◌}
use Rattle.fourvec.specs.Bits.{each}
use Rattle.sv_meaning.specs.Deeds.{mask_bit}
use Rattle.sv_blocks.proofs.Masking.{mask_some, mask_long}
use Rattle.sv_blocks.proofs.labels.mask_of.Goals as goal

pub returns-then-case-clause-equal : goal.returns-then-case-clause-equal
returns-then-case-clause-equal c = λ a b. mask_some c.args.label.now _ _ _ _ _ a b c.in-Literal.is c.if-case.true (c.mask.ensures ∙ ap (each mask_bit) c.value.ensures.is)

pub returns-then-case-clause-wide : goal.returns-then-case-clause-wide
returns-then-case-clause-wide c = mask_long _ _ _ c.mask.ensures c.value.ensures.width
