use Rattle.std.proofs.Common.{subst, ◌∙◌}
use Rattle.sv_preproc.specs.Laws.{Possible}
use Rattle.sv_preproc.specs.Reached.{Stops}
use Rattle.sv_preproc.specs.Seen.{seen, texts, HasCause}
use Rattle.sv_preproc.proofs.Errors.{handed_on, counts_on}
use Rattle.sv_preproc.proofs.Main.{first_state, main_unentered, main_stopped}
use Rattle.sv_preproc.proofs.Items.{told_as}
use Rattle.sv_preproc.proofs.whole.read_main.Goals as goal

pub returns-in_err-file-clause-caused : goal.returns-in_err-file-clause-caused
returns-in_err-file-clause-caused g c =
    let first = first_state (texts c.new.result) c.new-2.result.items c.new.ensures c.new-2.ensures.items in
    handed_on c.from_residual.result c.in_err-file.field-0.0 _ c.from_residual.ensures.1
    (main_unentered (Possible (g.F.Files.contents c.args.files.now)) _ c.args.main.now c.start_of.result c.in_err-file.field-0.0 first c.start_of.ensures c.in_err-file.ensures.caused)

pub returns-in_err-read_all-clause-caused : goal.returns-in_err-read_all-clause-caused
returns-in_err-read_all-clause-caused g c =
    let started = g.F.Files.contents c.args.files.now in
    let first = first_state (texts c.new.result) c.new-2.result.items c.new.ensures c.new-2.ensures.items in
    let same = told_as (g.F.Files.contents c.enter.new.files) started c.in_ok-file.ensures.unchanged in
    let cause = subst (λ l. HasCause (Stops (Possible started) 16 (seen c.enter.new.known) l c.in_ok-file.file.end c.args.main.now) c.in_err-read_all.field-0.0) c.deref.ensures.value
    (subst (λ i. HasCause (Stops (Possible i) 16 (seen c.enter.new.known) c.deref.result.now c.in_ok-file.file.end c.args.main.now) c.in_err-read_all.field-0.0) same c.in_err-read_all.ensures.caused) in
    handed_on c.from_residual-in_err-read_all.result c.in_err-read_all.field-0.0 _ c.from_residual-in_err-read_all.ensures.1
    (main_stopped (Possible started) _ (seen c.enter.new.known) c.args.main.now c.in_ok-file.file.lines.items c.in_ok-file.file.end c.in_err-read_all.field-0.0 first c.in_ok-file.ensures.enters cause)

pub returns-in_err-file-clause-counts : goal.returns-in_err-file-clause-counts
returns-in_err-file-clause-counts g c = handed_on c.from_residual.result c.in_err-file.field-0.0 _ c.from_residual.ensures.1 c.in_err-file.ensures.counts

pub returns-in_err-read_all-clause-counts : goal.returns-in_err-read_all-clause-counts
returns-in_err-read_all-clause-counts g c =
    handed_on c.from_residual-in_err-read_all.result c.in_err-read_all.field-0.0 _ c.from_residual-in_err-read_all.ensures.1
    (counts_on c.in_err-read_all.field-0.0 _ _ _ c.in_ok-file.ensures.kept c.in_err-read_all.ensures.counts)

pub returns-clause-kept : goal.returns-clause-kept
returns-clause-kept g c = c.in_ok-read_all.ensures.kept ∙ c.in_ok-file.ensures.kept
