use Rattle.std.proofs.lemmas.Result.{IfOk-from_err}
use Rattle.std.proofs.Common.{◌≡◌, ◌+◌, length, subst, sym, arith}
use Rattle.svex_arena.proofs.Keeping.{extends_on}
use Rattle.sv_stores.proofs.Starting.{StartsSome, starts_more, starts_all}
use Rattle.sv_stores.proofs.start.start_nodes.Goals as goal

pub places-preserved : goal.places-preserved
places-preserved c =
    let i = c.places.invariant in
    record {
      stays = extends_on _ _ _ i.stays c.in_ok-node.ensures.stays;
      made = subst (λ xs. StartsSome c.args.scene.now c.start_node.new.arena xs (c.places.at + 1)) (sym c.in_ok-push.ensures.ok) (starts_more _ _ _ _ _ _ c.in_ok-node.ensures.stays i.made c.in_ok-node.ensures.ok);
    }

pub returns-clause-ok : goal.returns-clause-ok
returns-clause-ok c =
    let all : c.places.at ≡ length c.args.scene.now.wires = let t = c.places-test.false in let e = c.places.auto.at-end in omega arith in
    starts_all _ _ _ _ c.requires all c.places.invariant.made

pub returns-in_err-node-clause-ok : goal.returns-in_err-node-clause-ok
returns-in_err-node-clause-ok c = IfOk-from_err _ _ c.from_residual.ensures.0

pub returns-in_err-push-clause-ok : goal.returns-in_err-push-clause-ok
returns-in_err-push-clause-ok c = IfOk-from_err _ _ c.from_residual-in_err-push.ensures.0
