use Rattle.std.proofs.lemmas.Result.{IfOk-from_err}
use Rattle.pair_words.proofs.shifts.move_by.Goals as goal

pub returns-in_err-extend_from_slice-in-Up : goal.returns-in_err-extend_from_slice-in-Up
returns-in_err-extend_from_slice-in-Up c = IfOk-from_err _ _ c.from_residual-in_err-extend_from_slice-in-Up.ensures.0

pub returns-in_err-resize-in-Down : goal.returns-in_err-resize-in-Down
returns-in_err-resize-in-Down c = IfOk-from_err _ _ c.from_residual-in_err-resize-in-Down.ensures.0

pub returns-in_err-resize-in-Up : goal.returns-in_err-resize-in-Up
returns-in_err-resize-in-Up c = IfOk-from_err _ _ c.from_residual.ensures.0

pub returns-in_err-word-in-Down : goal.returns-in_err-word-in-Down
returns-in_err-word-in-Down c = IfOk-from_err _ _ c.from_residual-in_err-word-in-Down.ensures.0
