use Rattle.std.proofs.Common.{◌≡◌, ◌⊎◌, refl, subst, sym, ◌∙◌}
use Rattle.svtv.specs.Outcomes.{status_of, text_of, message_of}
use Rattle.svtv.specs.Legal.{IsDone, IsLooped}
use Rattle.svtv.specs.declared.status.Status.{Status}
use Rattle.svtv.specs.declared.status.Status.TheVariants.{Done, Memory}
use Rattle.svtv.proofs.Runs.{have_runs}
use Rattle.sv_outside.proofs.Counts.{rose}
use Rattle.sv_outside.specs.Outside.{with_text}
use Rattle.svtv.specs.Answers.{checked_status}
use Rattle.svtv_report.specs.Texts.{change_lines, checked_text}
use Rattle.svtv.proofs.Checks.{checked_ends, prints}
use Rattle.svtv.proofs.Complete.{ends, left}
use Rattle.svtv.proofs.Said.{unsaid, whole}
use Rattle.svtv.proofs.Showing.{shown_ends}
use Rattle.svtv.proofs.top.svtv.Goals as goal

pub returns-then-prints_text-clause-complete : goal.returns-then-prints_text-clause-complete
returns-then-prints_text-clause-complete g c command is legal no_file no_out no_err = absurd (no_out (rose _ _ c.in-Err.ensures.failed))

pub returns-clause-complete : goal.returns-clause-complete
returns-clause-complete g c command is legal no_file no_out no_err = absurd (no_err (rose _ _ c.in-Err-put_all.ensures.failed))

pub returns-in-Ok-clause-complete : goal.returns-in-Ok-clause-complete
returns-in-Ok-clause-complete g c command is legal no_file no_out no_err =
    let outcome = c.answer-outcome.result in
    subst (λ (s : Status). IsDone command s ⊎ (s ≡ Memory) ⊎ IsLooped (g.F.Files.contents c.args.files.now) command s) (sym c.status.ensures)
    (ends (g.F.Files.contents c.args.files.now) _ (status_of outcome) (text_of outcome) (message_of outcome) command is legal c.answer-outcome.ensures.answers (λ e. no_file (left _ outcome c.answer-outcome.ensures.fault e)))

pub returns-in-Ok-put_all-clause-complete : goal.returns-in-Ok-put_all-clause-complete
returns-in-Ok-put_all-clause-complete g c command is legal no_file no_out no_err =
    let outcome = c.answer-outcome.result in
    subst (λ (s : Status). IsDone command s ⊎ (s ≡ Memory) ⊎ IsLooped (g.F.Files.contents c.args.files.now) command s) (sym c.status-in-Ok-put_all.ensures)
    (ends (g.F.Files.contents c.args.files.now) _ (status_of outcome) (text_of outcome) (message_of outcome) command is legal c.answer-outcome.ensures.answers (λ e. no_file (left _ outcome c.answer-outcome.ensures.fault e)))

pub returns-in-Ok-clause-runs : goal.returns-in-Ok-clause-runs
returns-in-Ok-clause-runs g c = have_runs

pub returns-then-prints_text-clause-runs : goal.returns-then-prints_text-clause-runs
returns-then-prints_text-clause-runs g c = have_runs

pub returns-in-Ok-put_all-clause-runs : goal.returns-in-Ok-put_all-clause-runs
returns-in-Ok-put_all-clause-runs g c = have_runs

pub returns-clause-runs : goal.returns-clause-runs
returns-clause-runs g c = have_runs

pub returns-then-prints_text-clause-checks : goal.returns-then-prints_text-clause-checks
returns-then-prints_text-clause-checks g c file f log bad is legal judged no_file no_out no_err = absurd (no_out (rose _ _ c.in-Err.ensures.failed))

pub returns-clause-checks : goal.returns-clause-checks
returns-clause-checks g c file f log bad is legal judged no_file no_out no_err = absurd (no_err (rose _ _ c.in-Err-put_all.ensures.failed))

pub returns-in-Ok-clause-checks : goal.returns-in-Ok-clause-checks
returns-in-Ok-clause-checks g c file f log bad is legal judged no_file no_out no_err =
    let outcome = c.answer-outcome.result in
    let says = checked_ends (g.F.Files.contents c.args.files.now) _ (status_of outcome) (text_of outcome) (message_of outcome) file f log bad is legal judged c.answer-outcome.ensures.answers (λ e. no_file (left _ outcome c.answer-outcome.ensures.fault e)) in
    whole with_text _ _ c.status.result (status_of outcome) (checked_status bad) (checked_text bad) (text_of outcome) c.text.result.now c.status.ensures c.in-Ok.ensures.whole c.text.ensures says

pub returns-in-Ok-put_all-clause-checks : goal.returns-in-Ok-put_all-clause-checks
returns-in-Ok-put_all-clause-checks g c file f log bad is legal judged no_file no_out no_err =
    let outcome = c.answer-outcome.result in
    let says = checked_ends (g.F.Files.contents c.args.files.now) _ (status_of outcome) (text_of outcome) (message_of outcome) file f log bad is legal judged c.answer-outcome.ensures.answers (λ e. no_file (left _ outcome c.answer-outcome.ensures.fault e)) in
    unsaid c.status-in-Ok-put_all.result (status_of outcome) (checked_status bad) (checked_text bad) (text_of outcome) c.status-in-Ok-put_all.ensures (prints bad) (sym c.prints_text.ensures ∙ c.if-prints_text.false) says

pub returns-then-prints_text-clause-shows : goal.returns-then-prints_text-clause-shows
returns-then-prints_text-clause-shows g c file path vars changes list is legal no_file no_out no_err = absurd (no_out (rose _ _ c.in-Err.ensures.failed))

pub returns-clause-shows : goal.returns-clause-shows
returns-clause-shows g c file path vars changes list is legal no_file no_out no_err = absurd (no_err (rose _ _ c.in-Err-put_all.ensures.failed))

pub returns-in-Ok-clause-shows : goal.returns-in-Ok-clause-shows
returns-in-Ok-clause-shows g c file path vars changes list is legal no_file no_out no_err =
    let outcome = c.answer-outcome.result in
    let says = shown_ends (g.F.Files.contents c.args.files.now) file path vars changes list legal _ (status_of outcome) (text_of outcome) (message_of outcome) is c.answer-outcome.ensures.answers
    (λ e. no_file (left _ outcome c.answer-outcome.ensures.fault e)) in
    whole with_text _ _ c.status.result (status_of outcome) Done (change_lines list) (text_of outcome) c.text.result.now c.status.ensures c.in-Ok.ensures.whole c.text.ensures says

pub returns-in-Ok-put_all-clause-shows : goal.returns-in-Ok-put_all-clause-shows
returns-in-Ok-put_all-clause-shows g c file path vars changes list is legal no_file no_out no_err =
    let outcome = c.answer-outcome.result in
    let says = shown_ends (g.F.Files.contents c.args.files.now) file path vars changes list legal _ (status_of outcome) (text_of outcome) (message_of outcome) is c.answer-outcome.ensures.answers
    (λ e. no_file (left _ outcome c.answer-outcome.ensures.fault e)) in
    unsaid c.status-in-Ok-put_all.result (status_of outcome) Done (change_lines list) (text_of outcome) c.status-in-Ok-put_all.ensures refl (sym c.prints_text.ensures ∙ c.if-prints_text.false) says
