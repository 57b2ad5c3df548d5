use Rattle.std.proofs.lemmas.Result.{IfOk-from_err}
use Rattle.svex_arena.proofs.Keeping.{extends_self, extends_on}
use Rattle.std.proofs.Common.{refl}
use Rattle.sv_blocks.proofs.Labeling.{label_yields, same_width, mask_width}
use Rattle.sv_blocks.proofs.labels.label_equals.Goals as goal

pub equal-requires-clause-same : goal.equal-requires-clause-same
equal-requires-clause-same c = same_width _ _ _ _ _ _ _ _ _ _ _ _ c.in_ok-other.ensures.stays c.requires.value c.in_ok-other.ensures.ok

pub equal-requires-clause-mask : goal.equal-requires-clause-mask
equal-requires-clause-mask c = mask_width _ _ _ _ _ _ _ _ _ _ c.in_ok-other.ensures.stays c.requires.value c.mask_of.ensures.wide

pub returns-clause-ok : goal.returns-clause-ok
returns-clause-ok c =
    label_yields _ _ _ _ _ _ c.args.case.now c.args.case.now.value c.args.label.now _ _ _ _ c.requires.scene c.requires.state.nodes (extends_self _) c.in_ok-other.ensures.stays refl c.mask_of.ensures.equal c.requires.value c.in_ok-other.ensures.ok c.in_ok-node.ensures.ok

pub returns-in_err-other-clause-stays : goal.returns-in_err-other-clause-stays
returns-in_err-other-clause-stays c = c.in_err-other.ensures.stays

pub returns-in_err-other-clause-ok : goal.returns-in_err-other-clause-ok
returns-in_err-other-clause-ok c = IfOk-from_err _ _ c.from_residual.ensures.0

pub returns-in_err-node-clause-stays : goal.returns-in_err-node-clause-stays
returns-in_err-node-clause-stays c = extends_on _ _ _ c.in_ok-other.ensures.stays c.in_err-node.ensures.stays

pub returns-in_err-node-clause-ok : goal.returns-in_err-node-clause-ok
returns-in_err-node-clause-ok c = IfOk-from_err _ _ c.from_residual-in_err-node.ensures.0

pub returns-clause-stays : goal.returns-clause-stays
returns-clause-stays c = extends_on _ _ _ c.in_ok-other.ensures.stays c.in_ok-node.ensures.stays
