use Rattle.std.proofs.lemmas.Result.{IfOk-from_err}
use Rattle.std.proofs.Common.{sym, ap, ◌∙◌, get_or}
use Rattle.svex_arena.proofs.Steps.{width-extends}
use Rattle.sv_stores.specs.Scenes.{are_marked}
use Rattle.sv_blocks.proofs.Siding.{shows_whole, shows_mixed_by, variable_width}
use Rattle.sv_blocks.proofs.shown.shown.Goals as goal

pub returns-then-are_marked-clause-ok : goal.returns-then-are_marked-clause-ok
returns-then-are_marked-clause-ok c =
    shows_whole _ _ _ _ _ _ c.requires.node c.requires.width (ap (λ xs. get_or xs c.args.at 0) c.as_slice.ensures)
    (c.are_marked.ensures ∙ ap (λ ms. are_marked ms c.args.at (get_or c.as_slice.result.now c.args.at 0)) c.as_slice-marks.ensures) c.if-are_marked.true

pub mixed-requires-clause-stored_width : goal.mixed-requires-clause-stored_width
mixed-requires-clause-stored_width c =
    width-extends _ _ _ c.in_ok-now.ensures.stays c.requires.node ∙ c.requires.width ∙ sym (ap (λ xs. get_or xs c.args.at 0) c.as_slice.ensures)

pub mixed-requires-clause-now_width : goal.mixed-requires-clause-now_width
mixed-requires-clause-now_width c = variable_width _ _ _ _ _ c.in_ok-now.ensures.ok

pub returns-clause-ok : goal.returns-clause-ok
returns-clause-ok c =
    shows_mixed_by _ _ _ _ _ _ _ _ _ _ _ _ c.as_slice-marks.ensures c.as_slice-2.ensures c.requires.node c.requires.width (ap (λ xs. get_or xs c.args.at 0) c.as_slice.ensures)
    c.are_marked.ensures c.if-are_marked.false c.in_ok-now.ensures.stays c.in_ok-node.ensures.stays c.in_ok-now.ensures.ok c.in_ok-node.ensures.ok

pub returns-in_err-node-clause-ok : goal.returns-in_err-node-clause-ok
returns-in_err-node-clause-ok c = IfOk-from_err _ _ c.from_residual-in_err-node.ensures.0

pub returns-in_err-now-clause-ok : goal.returns-in_err-now-clause-ok
returns-in_err-now-clause-ok c = IfOk-from_err _ _ c.from_residual.ensures.0
