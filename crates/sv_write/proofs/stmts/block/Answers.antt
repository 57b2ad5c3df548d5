use Rattle.sv_write.specs.Stmts.{write_block}
use Rattle.sv_write.proofs.Adding.{◌▷◌}
use Rattle.sv_write.proofs.stmts.block.Goals as goal

pub returns : goal.returns
unfolding write_block
returns c = c.block_kind.ensures ▷ c.statement.ensures
