use Rattle.std.proofs.Common.{◌≡◌, ◌<◌, ◌+◌, ◌-◌, length, arith}
use Rattle.svex_arena.proofs.Keeping.{extends_on}
use Rattle.sv_lower.proofs.Lowered.{if_ok}
use Rattle.sv_stores.proofs.Starting.{triggers_empty, edges_last, edges_next}
use Rattle.sv_stores.proofs.start.trigger.Goals as goal

pub returns-then-at-eq0-clause-ok : goal.returns-then-at-eq0-clause-ok
returns-then-at-eq0-clause-ok c =
    let none : length c.args.edges.now ≡ 0 = let t = c.if-at-eq0.true in omega arith in
    if_ok _ _ _ c.constant.ensures.ok (λ n h. triggers_empty _ c.args.edges.now _ n none c.new.ensures h)

pub edges-init : goal.edges-init
edges-init c =
    let l : length c.args.edges.now - 1 < length c.args.edges.now = let t = c.if-at-eq0.false in omega arith in
    record {
      stays = c.in_ok-node.ensures.stays;
      within = omega arith;
      told = edges_last _ c.args.edges.now (length c.args.edges.now - 1) _ _ l (omega arith) c.in_ok-node.ensures.ok;
    }

pub edges-preserved : goal.edges-preserved
edges-preserved c =
    let i = c.edges.invariant in
    let l : c.edges.at - 1 < length c.args.edges.now = let a = c.edges-test.true in let b = i.within in omega arith in
    let next : c.edges.at ≡ c.edges.at - 1 + 1 = let a = c.edges-test.true in omega arith in
    record {
      stays = extends_on _ _ _ i.stays c.in_ok-node-2.ensures.stays;
      within = omega arith;
      told = edges_next _ c.args.edges.now (c.edges.at - 1) c.edges.at _ _ l next (c.in_ok-node-2.ensures.ok _ i.told);
    }
