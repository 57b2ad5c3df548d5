use Rattle.std.proofs.lemmas.Result.{IfOk-from_err}
use Rattle.std.proofs.Common.{refl, sym, ap, ◌∙◌, subst}
use Rattle.sv_stores.specs.declared.scene.Manner.TheVariants.{Clocked}
use Rattle.sv_stores.specs.Scenes.{sees_nodes, AreNodes}
use Rattle.sv_stores.proofs.Stores.{nodes_kept}
use Rattle.sv_blocks.proofs.Ending.{ends_left, ends_clocked}
use Rattle.sv_blocks.proofs.ends.ended.Goals as goal

pub merged-requires-clause-a : goal.merged-requires-clause-a
merged-requires-clause-a c = subst (λ xs. AreNodes c.args.scene.now c.trigger.new.arena xs) (sym c.as_slice-in-Clocked.ensures) (nodes_kept _ _ _ _ c.requires.nodes c.in_ok-event-in-Clocked.ensures.stays)

pub merged-requires-clause-b : goal.merged-requires-clause-b
merged-requires-clause-b c = nodes_kept _ _ _ _ c.requires.start c.in_ok-event-in-Clocked.ensures.stays

pub returns-in-Comb-clause-ok : goal.returns-in-Comb-clause-ok
returns-in-Comb-clause-ok c = ends_left _ _ _ _ (ap sees_nodes c.in-Comb.is) c.requires.nodes

pub returns-in-Latch-clause-ok : goal.returns-in-Latch-clause-ok
returns-in-Latch-clause-ok c = ends_left _ _ _ _ (ap sees_nodes c.in-Latch.is) c.requires.nodes

pub returns-in-HeldLatch-clause-ok : goal.returns-in-HeldLatch-clause-ok
returns-in-HeldLatch-clause-ok c = ends_left _ _ _ _ (ap sees_nodes c.in-HeldLatch.is) c.requires.nodes

pub returns-in_ok-ends-in-Clocked-clause-ok : goal.returns-in_ok-ends-in-Clocked-clause-ok
returns-in_ok-ends-in-Clocked-clause-ok c =
    ends_clocked _ _ _ _ c.as_slice.result.now c.args.start.now _ c.args.nodes _ _ _ (c.in-Clocked.is ∙ sym (ap Clocked c.as_slice.ensures)) c.requires.scene c.requires.start c.requires.nodes c.in_ok-event-in-Clocked.ensures.stays c.as_slice-in-Clocked.ensures refl
    c.in_ok-event-in-Clocked.ensures.ok c.in_ok-ends-in-Clocked.ensures.ok

pub returns-in_err-ends-in-Clocked-clause-ok : goal.returns-in_err-ends-in-Clocked-clause-ok
returns-in_err-ends-in-Clocked-clause-ok c = IfOk-from_err _ _ c.from_residual-in_err-ends-in-Clocked.ensures.0

pub returns-in_err-event-in-Clocked-clause-ok : goal.returns-in_err-event-in-Clocked-clause-ok
returns-in_err-event-in-Clocked-clause-ok c = IfOk-from_err _ _ c.from_residual.ensures.0
