use Rattle.std.proofs.lemmas.Result.{IfOk-from_err}
use Rattle.std.proofs.Common.{◌<◌, ◌+◌, ◌≡◌, length, subst, sym, ◌∙◌, arith}
use Rattle.std.proofs.lemmas.List.{get_or_read}
use Rattle.svex_arena.proofs.Keeping.{extends_on}
use Rattle.svex_arena.proofs.Steps.{width-extends}
use Rattle.sv_stores.proofs.Stores.{node_width}
use Rattle.sv_blocks.proofs.Merging.{Chooses, chooses_more, merges_all}
use Rattle.sv_blocks.proofs.choices.merged.Goals as goal

pub chosen-requires-clause-one : goal.chosen-requires-clause-one
chosen-requires-clause-one c = width-extends _ _ _ c.nodes.invariant.stays c.requires.truth ∙ c.requires.one

pub chosen-requires-clause-same : goal.chosen-requires-clause-same
chosen-requires-clause-same c =
    let l : c.nodes.at < length c.args.b.now = let a = c.requires.a.long in let b = c.requires.b.long in let t = c.nodes-test.true in omega arith in
    node_width _ _ _ _ _ _ c.requires.a c.nodes.invariant.stays c.nodes-test.true c.index-a-at.is ∙ sym (node_width _ _ _ _ _ _ c.requires.b c.nodes.invariant.stays l c.index-b-at.is)

pub nodes-preserved : goal.nodes-preserved
nodes-preserved c =
    let i = c.nodes.invariant in
    let l : c.nodes.at < length c.args.b.now = let a = c.requires.a.long in let b = c.requires.b.long in let t = c.nodes-test.true in omega arith in
    record {
      stays = extends_on _ _ _ i.stays c.in_ok-node.ensures.stays;
      made =
          subst (λ xs. Chooses c.args.arena.now c.chosen.new.arena c.args.truth c.args.a.now c.args.b.now xs (c.nodes.at + 1)) (sym c.in_ok-push.ensures.ok)
          (chooses_more _ _ _ _ _ _ _ _ _ _ _ _ c.requires.a c.requires.b c.requires.truth c.nodes-test.true (get_or_read _ _ _ c.nodes-test.true c.index-a-at.is 0) (get_or_read _ _ _ l c.index-b-at.is 0)
          i.stays c.in_ok-node.ensures.stays i.made c.in_ok-node.ensures.ok);
    }

pub returns-clause-ok : goal.returns-clause-ok
returns-clause-ok c =
    let all : c.nodes.at ≡ length c.args.a.now = let t = c.nodes-test.false in let e = c.nodes.auto.at-end in omega arith in
    merges_all _ _ _ _ _ _ _ _ c.requires.scene c.len-2.ensures.arena c.requires.a c.requires.b all c.nodes.invariant.made

pub returns-in_err-node-clause-stays : goal.returns-in_err-node-clause-stays
returns-in_err-node-clause-stays c = extends_on _ _ _ c.nodes.invariant.stays c.in_err-node.ensures.stays

pub returns-in_err-node-clause-ok : goal.returns-in_err-node-clause-ok
returns-in_err-node-clause-ok c = IfOk-from_err _ _ c.from_residual.ensures.0

pub returns-in_err-push-clause-stays : goal.returns-in_err-push-clause-stays
returns-in_err-push-clause-stays c = extends_on _ _ _ c.nodes.invariant.stays c.in_ok-node.ensures.stays

pub returns-in_err-push-clause-ok : goal.returns-in_err-push-clause-ok
returns-in_err-push-clause-ok c = IfOk-from_err _ _ c.from_residual-in_err-push.ensures.0

pub returns-clause-stays : goal.returns-clause-stays
returns-clause-stays c = c.nodes.invariant.stays
