use Rattle.std.proofs.Common.{◌∙◌}
use Rattle.sv_blocks.proofs.Masking.{masked_by}
use Rattle.sv_blocks.proofs.labels.mask.Goals as goal

pub returns : goal.returns
returns c = c.new.ensures ∙ masked_by _ _ _ _ _ c.up.ensures c.low.ensures c.width-width.ensures.is c.ones.ensures c.width-width.ensures.most
