use Rattle.std.proofs.Common.{[], get_or, sym, subst, ℕ}
use Rattle.std.specs.Prelude.{Option, IfSome, Contains}
use Rattle.node_memo.specs.Memos.{rows_in}
use Rattle.node_memo.proofs.Rows.{gains-none}
use Rattle.event_sim.proofs.links.put_wire.Goals as goal

pub returns-in-None-clause-gains : goal.returns-in-None-clause-gains
returns-in-None-clause-gains c = gains-none (rows_in c.args.wires.now) c.args.wire

pub returns-in-None-clause-has : goal.returns-in-None-clause-has
returns-in-None-clause-has c =
    subst (λ (o : Option ℕ). IfSome o (λ k. Contains (get_or (rows_in c.args.wires.now) k []) c.args.wire)) (sym c.in-None.is) tt
