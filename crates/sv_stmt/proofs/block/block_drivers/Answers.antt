use Rattle.std.proofs.Common.{List, ◌++◌, All, sym, ◌∙◌, subst}
use Rattle.std.proofs.lemmas.Result.{err_from_is_err_and, IfOk-from_err}
use Rattle.sv_typing.specs.Judging.{IsCause}
use Rattle.sv_names.specs.Names.{names_are}
use Rattle.sv_meaning.specs.Layouts.{Scope}
use Rattle.sv_meaning.specs.Deeds.{deed}
use Rattle.sv_meaning.specs.Blocks.{event_faults, marks, block_mark, manner}
use Rattle.sv_actions.specs.declared.action.Action.{Action}
use Rattle.sv_actions.specs.Doing.{Aims, names_all}
use Rattle.sv_actions.specs.Texts.{target_signals}
use Rattle.sv_stmt.specs.Blocks.{AreDeclared, OneWidth, Contributes}
use Rattle.sv_stmt.proofs.Judging.{cause_mark, mark_cause, block_sound, block_mentions}
use Rattle.sv_stmt.proofs.Naming.{deed_declared}
use Rattle.sv_stmt.proofs.block.block_drivers.Goals as goal

pub returns-in_err-judge_marks-clause-cause : goal.returns-in_err-judge_marks-clause-cause
returns-in_err-judge_marks-clause-cause c =
    let at = names_are c.args.names.now in
    let b = c.args.block.now in
    let p = err_from_is_err_and c.from_residual-in_err-judge_marks.result c.from_residual-in_err-judge_marks.ensures.1 in
    let e = c.in_err-judge_marks.field-0.0 in
    let m : IsCause (marks (block_mark b) b.body) e = mark_cause c.mark_of.result (block_mark b) b.body e (c.mark_of.ensures ∙ c.in_ok-manner.ensures.mark) c.in_err-judge_marks.ensures.cause in
    rw (p.1, p.2) (cause_mark (event_faults at b.kind) (marks (block_mark b) b.body) ((deed b.body at).faults ++ (deed b.body at).overrun c.args.made) e m)

pub returns-clause-sound : goal.returns-clause-sound
returns-clause-sound c = λ widths w.
    let b = c.args.block.now in
    let same = c.in_ok-actions.ensures.names in
    let g = subst (λ (s : Scope). Contributes s (target_signals s b.body) c.in_ok-manner.manner c.as_slice.result.now c.drivers_in.new.arena c.in_ok-all.all) same c.in_ok-all.ensures.ok in
    let h = subst (λ (z : List Action). Contributes (names_are c.args.names.now) (target_signals (names_are c.args.names.now) b.body) c.in_ok-manner.manner z c.drivers_in.new.arena c.in_ok-all.all) c.as_slice.ensures g in
    block_sound (names_are c.args.names.now) c.in_ok-manner.manner _ b c.drivers_in.new.arena c.in_ok-all.all c.in_ok-manner.ensures.manner.named_are c.in_ok-actions.ensures.is.does h widths w

pub returns-clause-mentions : goal.returns-clause-mentions
returns-clause-mentions c = λ wires p w r.
    let b = c.args.block.now in
    let same = c.in_ok-actions.ensures.names in
    let g = subst (λ (s : Scope). Contributes s (target_signals s b.body) c.in_ok-manner.manner c.as_slice.result.now c.drivers_in.new.arena c.in_ok-all.all) same c.in_ok-all.ensures.ok in
    let h = subst (λ (z : List Action). Contributes (names_are c.args.names.now) (target_signals (names_are c.args.names.now) b.body) c.in_ok-manner.manner z c.drivers_in.new.arena c.in_ok-all.all) c.as_slice.ensures g in
    block_mentions (names_are c.args.names.now) c.in_ok-manner.manner _ b (manner (names_are c.args.names.now) b) c.drivers_in.new.arena c.in_ok-all.all c.in_ok-manner.ensures.manner.is c.in_ok-manner.ensures.manner.named_are c.in_ok-actions.ensures.is.does h wires p w r

pub drivers_in-requires-clause-aims : goal.drivers_in-requires-clause-aims
drivers_in-requires-clause-aims c =
    let b = c.args.block.now in
    let same = c.in_ok-actions.ensures.names in
    let h = subst (λ (s : Scope). All (Aims (target_signals s b.body)) c.in_ok-actions.field-0.actions) (sym same) (c.in_ok-actions.ensures.aims (target_signals (names_are c.args.names.now) b.body) (λ s i. i)) in
    subst (λ (z : List Action). All (Aims (target_signals (names_are c.typed_body.new.names) b.body)) z) (sym c.as_slice.ensures) h

pub drivers_in-requires-clause-names : goal.drivers_in-requires-clause-names
drivers_in-requires-clause-names c =
    let at = names_are c.args.names.now in
    let b = c.args.block.now in
    let same = c.in_ok-actions.ensures.names in
    subst (λ (z : List Action). AreDeclared (names_are c.typed_body.new.names) (names_all z)) (sym c.as_slice.ensures)
    (subst (λ (s : Scope). AreDeclared s (names_all c.in_ok-actions.field-0.actions)) (sym same) (λ s i. deed_declared at b.body s (c.in_ok-actions.ensures.is.does.names s i)))

pub drivers_in-requires-clause-widths : goal.drivers_in-requires-clause-widths
drivers_in-requires-clause-widths c = subst OneWidth (sym (c.in_ok-actions.ensures.names)) c.requires

pub returns-in_err-actions-clause-clear : goal.returns-in_err-actions-clause-clear
returns-in_err-actions-clause-clear c = IfOk-from_err _ _ c.from_residual-in_err-actions.ensures.0

pub returns-in_err-actions-clause-gives : goal.returns-in_err-actions-clause-gives
returns-in_err-actions-clause-gives c = IfOk-from_err _ _ c.from_residual-in_err-actions.ensures.0

pub returns-in_err-actions-clause-mentions : goal.returns-in_err-actions-clause-mentions
returns-in_err-actions-clause-mentions c = IfOk-from_err _ _ c.from_residual-in_err-actions.ensures.0

pub returns-in_err-actions-clause-sound : goal.returns-in_err-actions-clause-sound
returns-in_err-actions-clause-sound c = IfOk-from_err _ _ c.from_residual-in_err-actions.ensures.0

pub returns-in_err-actions-clause-turns : goal.returns-in_err-actions-clause-turns
returns-in_err-actions-clause-turns c = IfOk-from_err _ _ c.from_residual-in_err-actions.ensures.0

pub returns-in_err-all-clause-clear : goal.returns-in_err-all-clause-clear
returns-in_err-all-clause-clear c = IfOk-from_err _ _ c.from_residual-in_err-all.ensures.0

pub returns-in_err-all-clause-gives : goal.returns-in_err-all-clause-gives
returns-in_err-all-clause-gives c = IfOk-from_err _ _ c.from_residual-in_err-all.ensures.0

pub returns-in_err-all-clause-mentions : goal.returns-in_err-all-clause-mentions
returns-in_err-all-clause-mentions c = IfOk-from_err _ _ c.from_residual-in_err-all.ensures.0

pub returns-in_err-all-clause-sound : goal.returns-in_err-all-clause-sound
returns-in_err-all-clause-sound c = IfOk-from_err _ _ c.from_residual-in_err-all.ensures.0

pub returns-in_err-all-clause-turns : goal.returns-in_err-all-clause-turns
returns-in_err-all-clause-turns c = IfOk-from_err _ _ c.from_residual-in_err-all.ensures.0

pub returns-in_err-manner-clause-clear : goal.returns-in_err-manner-clause-clear
returns-in_err-manner-clause-clear c = IfOk-from_err _ _ c.from_residual.ensures.0

pub returns-in_err-manner-clause-gives : goal.returns-in_err-manner-clause-gives
returns-in_err-manner-clause-gives c = IfOk-from_err _ _ c.from_residual.ensures.0

pub returns-in_err-manner-clause-mentions : goal.returns-in_err-manner-clause-mentions
returns-in_err-manner-clause-mentions c = IfOk-from_err _ _ c.from_residual.ensures.0

pub returns-in_err-manner-clause-sound : goal.returns-in_err-manner-clause-sound
returns-in_err-manner-clause-sound c = IfOk-from_err _ _ c.from_residual.ensures.0

pub returns-in_err-manner-clause-turns : goal.returns-in_err-manner-clause-turns
returns-in_err-manner-clause-turns c = IfOk-from_err _ _ c.from_residual.ensures.0

pub returns-in_err-judge_marks-clause-clear : goal.returns-in_err-judge_marks-clause-clear
returns-in_err-judge_marks-clause-clear c = IfOk-from_err _ _ c.from_residual-in_err-judge_marks.ensures.0

pub returns-in_err-judge_marks-clause-gives : goal.returns-in_err-judge_marks-clause-gives
returns-in_err-judge_marks-clause-gives c = IfOk-from_err _ _ c.from_residual-in_err-judge_marks.ensures.0

pub returns-in_err-judge_marks-clause-mentions : goal.returns-in_err-judge_marks-clause-mentions
returns-in_err-judge_marks-clause-mentions c = IfOk-from_err _ _ c.from_residual-in_err-judge_marks.ensures.0

pub returns-in_err-judge_marks-clause-sound : goal.returns-in_err-judge_marks-clause-sound
returns-in_err-judge_marks-clause-sound c = IfOk-from_err _ _ c.from_residual-in_err-judge_marks.ensures.0

pub returns-in_err-judge_marks-clause-turns : goal.returns-in_err-judge_marks-clause-turns
returns-in_err-judge_marks-clause-turns c = IfOk-from_err _ _ c.from_residual-in_err-judge_marks.ensures.0
