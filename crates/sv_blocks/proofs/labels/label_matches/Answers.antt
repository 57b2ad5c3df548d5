use Rattle.std.proofs.lemmas.Result.{IfOk-from_err}
use Rattle.std.proofs.Common.{◌≡◌, ◌+◌, ◌-◌, ◌<◌, length, refl, arith}
use Rattle.svex_arena.proofs.Keeping.{extends_on}
use Rattle.sv_lower.proofs.Lowered.{element}
use Rattle.sv_blocks.specs.Fitting.{LabelSits}
use Rattle.sv_stores.proofs.Stores.{state_kept}
use Rattle.sv_blocks.proofs.Labeling.{labels_none, labels_more, ones_fit, yields_kept}
use Rattle.sv_blocks.proofs.labels.label_matches.Goals as goal

pub labels-init : goal.labels-init
labels-init c = record {
  stays = c.in_ok-node.ensures.stays;
  within = omega arith;
  made = labels_none c.args.scene.now _ _ _ c.args.case.now c.args.labels.now _ _ _ refl c.new.ensures c.in_ok-node.ensures.ok;
}

pub label_equals-requires-clause-state : goal.label_equals-requires-clause-state
label_equals-requires-clause-state c = state_kept _ _ _ _ c.labels.invariant.stays c.requires.state

pub label_equals-requires-clause-value : goal.label_equals-requires-clause-value
label_equals-requires-clause-value c = yields_kept _ _ _ _ _ _ _ _ c.requires.scene c.requires.state.nodes c.labels.invariant.stays c.requires.value

pub binary-requires-clause-fits : goal.binary-requires-clause-fits
binary-requires-clause-fits c = ones_fit _ _ _ _ c.in_ok-here.ensures.stays c.labels.invariant.made.within c.in_ok-here.ensures.ok.width c.labels.invariant.made.width

pub labels-preserved : goal.labels-preserved
labels-preserved c =
    let i = c.labels.invariant in
    let l : c.labels.at - 1 < length c.args.labels.now = let a = c.labels-test.true in let b = i.within in omega arith in
    let next : c.labels.at ≡ c.labels.at - 1 + 1 = let a = c.labels-test.true in omega arith in
    record {
      stays = extends_on _ _ _ (extends_on _ _ _ i.stays c.in_ok-here.ensures.stays) c.in_ok-node-2.ensures.stays;
      within = omega arith;
      made =
          labels_more c.args.scene.now _ _ _ _ _ c.args.case.now c.args.labels.now (c.labels.at - 1) c.labels.at c.index-labels-at.result _ _ _ _ c.requires.scene c.requires.state.nodes i.stays c.in_ok-here.ensures.stays l next c.index-labels-at.is c.in_ok-here.ensures.ok.width
          i.made c.in_ok-here.ensures.ok c.in_ok-node-2.ensures.ok;
    }

pub label_equals-requires-clause-sits : goal.label_equals-requires-clause-sits
label_equals-requires-clause-sits c =
    let l : c.labels.at - 1 < length c.args.labels.now = let a = c.labels-test.true in let b = c.labels.invariant.within in omega arith in
    element (LabelSits c.args.scene.now) c.args.labels.now (c.labels.at - 1) c.index-labels-at.result c.requires.sits l c.index-labels-at.is

pub returns-in_err-node-clause-stays : goal.returns-in_err-node-clause-stays
returns-in_err-node-clause-stays c = c.in_err-node.ensures.stays

pub returns-in_err-node-clause-ok : goal.returns-in_err-node-clause-ok
returns-in_err-node-clause-ok c = IfOk-from_err _ _ c.from_residual.ensures.0

pub returns-in_err-here-clause-stays : goal.returns-in_err-here-clause-stays
returns-in_err-here-clause-stays c = extends_on _ _ _ c.labels.invariant.stays c.in_err-here.ensures.stays

pub returns-in_err-here-clause-ok : goal.returns-in_err-here-clause-ok
returns-in_err-here-clause-ok c = IfOk-from_err _ _ c.from_residual-in_err-here.ensures.0

pub returns-in_err-node-2-clause-stays : goal.returns-in_err-node-2-clause-stays
returns-in_err-node-2-clause-stays c = extends_on _ _ _ (extends_on _ _ _ c.labels.invariant.stays c.in_ok-here.ensures.stays) c.in_err-node-2.ensures.stays

pub returns-in_err-node-2-clause-ok : goal.returns-in_err-node-2-clause-ok
returns-in_err-node-2-clause-ok c = IfOk-from_err _ _ c.from_residual-in_err-node-2.ensures.0

pub returns-clause-stays : goal.returns-clause-stays
returns-clause-stays c = c.labels.invariant.stays
