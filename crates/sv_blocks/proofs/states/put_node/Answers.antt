use Rattle.std.proofs.lemmas.Result.{on_ok_weaker, IfOk-from_err}
use Rattle.std.proofs.Common.{length, get_or, ap, ◌∙◌, arith, rules}
use Rattle.sv_blocks.proofs.Overlaying.{over_kept}
use Rattle.sv_blocks.proofs.states.put_node.Goals as goal

pub bounds-as_slice-at : goal.bounds-as_slice-at
bounds-as_slice-at c = let l = c.requires.at in let same = ap length c.as_slice.ensures in omega arith

pub offset_bounds-as_slice-at : goal.offset_bounds-as_slice-at
offset_bounds-as_slice-at c = let l = c.requires.at in let same = ap length c.as_slice.ensures in search rules

pub returns-clause-kept : goal.returns-clause-kept
returns-clause-kept c =
    on_ok_weaker c.set_node.result
    (λ put. over_kept _ _ _ _ _ _ _ c.requires.at (c.index-as_slice-at.is ∙ ap (λ xs. get_or xs c.args.at c.index-as_slice-at.result) c.as_slice.ensures) put c.in_ok-keep.ensures.here c.in_ok-keep.ensures.others)
    c.set_node.ensures.nodes

pub returns-in_err-keep-clause-nodes : goal.returns-in_err-keep-clause-nodes
returns-in_err-keep-clause-nodes c = IfOk-from_err _ _ c.from_residual.ensures.0

pub returns-in_err-keep-clause-state : goal.returns-in_err-keep-clause-state
returns-in_err-keep-clause-state c = IfOk-from_err _ _ c.from_residual.ensures.0

pub returns-in_err-keep-clause-kept : goal.returns-in_err-keep-clause-kept
returns-in_err-keep-clause-kept c = IfOk-from_err _ _ c.from_residual.ensures.0
