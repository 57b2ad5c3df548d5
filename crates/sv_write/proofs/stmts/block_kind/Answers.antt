use Rattle.std.proofs.Common.{refl}
use Rattle.sv_write.specs.Stmts.{write_kind}
use Rattle.sv_write.proofs.Adding.{◌▷◌, made}
use Rattle.sv_write.proofs.stmts.block_kind.Goals as goal

pub returns-in-Comb : goal.returns-in-Comb
unfolding write_kind
returns-in-Comb c = made write_kind c.in-Comb.is (λ l. refl) c.key.ensures

pub returns-in-Latch : goal.returns-in-Latch
unfolding write_kind
returns-in-Latch c = made write_kind c.in-Latch.is (λ l. refl) c.key-in-Latch.ensures

pub returns-in-Ff : goal.returns-in-Ff
unfolding write_kind
returns-in-Ff c = made write_kind c.in-Ff.is (λ l. refl) (c.key-in-Ff.ensures ▷ c.events.ensures)

pub returns-in-Always : goal.returns-in-Always
unfolding write_kind
returns-in-Always c = made write_kind c.in-Always.is (λ l. refl) (c.key-in-Always.ensures ▷ c.events-in-Always.ensures)

pub returns-in-Star : goal.returns-in-Star
unfolding write_kind
returns-in-Star c = made write_kind c.in-Star.is (λ l. refl) (c.key-in-Star.ensures ▷ c.mark.ensures ▷ c.mark-in-Star.ensures)

pub returns-in-StarParen : goal.returns-in-StarParen
unfolding write_kind
returns-in-StarParen c = made write_kind c.in-StarParen.is (λ l. refl) (c.key-in-StarParen.ensures ▷ c.mark-in-StarParen.ensures ▷ c.mark-in-StarParen-2.ensures ▷ c.mark-in-StarParen-3.ensures ▷ c.mark-in-StarParen-4.ensures)
