use Rattle.std.proofs.Common.{refl}
use Rattle.sv_write.specs.Stmts.{write_edge_key}
use Rattle.sv_write.proofs.Adding.{made}
use Rattle.sv_write.proofs.stmts.edge_word.Goals as goal

pub returns-in-Pos : goal.returns-in-Pos
unfolding write_edge_key
returns-in-Pos c = made write_edge_key c.in-Pos.is (λ l. refl) c.key.ensures

pub returns-in-Neg : goal.returns-in-Neg
unfolding write_edge_key
returns-in-Neg c = made write_edge_key c.in-Neg.is (λ l. refl) c.key-in-Neg.ensures
