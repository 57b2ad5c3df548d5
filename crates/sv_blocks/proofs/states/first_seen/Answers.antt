use Rattle.std.proofs.Common.{refl, sym, ap, subst}
use Rattle.sv_lower.proofs.Lowered.{if_ok}
use Rattle.sv_stores.specs.Scenes.{sees_nodes, SeenBy}
use Rattle.sv_stores.proofs.Stores.{first_seen_as}
use Rattle.sv_blocks.proofs.states.first_seen.Goals as goal

pub returns-in-Comb-clause-ok : goal.returns-in-Comb-clause-ok
returns-in-Comb-clause-ok c =
    if_ok _ _ _ c.all_shown.ensures.ok (λ seen h. first_seen_as c.args.scene.now.manner c.args.scene.now _ _ c.args.nodes.now _ seen (ap sees_nodes c.in-Comb.is) c.requires.nodes c.all_shown.ensures.stays refl h)

pub returns-in-Latch-clause-ok : goal.returns-in-Latch-clause-ok
returns-in-Latch-clause-ok c =
    if_ok _ _ _ c.all_shown-in-Latch.ensures.ok (λ seen h. first_seen_as c.args.scene.now.manner c.args.scene.now _ _ c.args.nodes.now _ seen (ap sees_nodes c.in-Latch.is) c.requires.nodes c.all_shown-in-Latch.ensures.stays refl h)

pub returns-in-HeldLatch-clause-ok : goal.returns-in-HeldLatch-clause-ok
returns-in-HeldLatch-clause-ok c =
    if_ok _ _ _ c.all_shown-in-HeldLatch.ensures.ok (λ seen h. first_seen_as c.args.scene.now.manner c.args.scene.now _ _ c.args.nodes.now _ seen (ap sees_nodes c.in-HeldLatch.is) c.requires.nodes c.all_shown-in-HeldLatch.ensures.stays refl h)

pub returns-in-Clocked-clause-ok : goal.returns-in-Clocked-clause-ok
returns-in-Clocked-clause-ok c = subst (λ m. SeenBy m c.args.scene.now c.args.arena.now c.args.nodes.now c.new.result) (sym c.in-Clocked.is) tt
