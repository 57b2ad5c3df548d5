use Rattle.std.proofs.lemmas.Result.{IfOk-from_err, IfOk-weaker, IfErr-weaker, on_ok_weaker}
use Rattle.std.proofs.Common.{◌≤◌, length, subst, sym}
use Rattle.sv_token.specs.Cut.{most_bytes}
use Rattle.sv_preproc.specs.Laws.{Possible}
use Rattle.sv_preproc.specs.Seen.{seen, NotCut, HasCause}
use Rattle.sv_preproc.proofs.Entering.{entered_from, not_entered}
use Rattle.sv_preproc.proofs.Errors.{handed_on, cut_counts}
use Rattle.sv_preproc.proofs.reading.enter.Goals as goal

pub returns-in_err-text-clause-enters : goal.returns-in_err-text-clause-enters
returns-in_err-text-clause-enters g c = IfOk-from_err _ _ c.from_residual.ensures.0

pub returns-in_err-text-clause-within : goal.returns-in_err-text-clause-within
returns-in_err-text-clause-within g c = IfOk-from_err _ _ c.from_residual.ensures.0

pub returns-in_err-text-clause-kept : goal.returns-in_err-text-clause-kept
returns-in_err-text-clause-kept g c = IfOk-from_err _ _ c.from_residual.ensures.0

pub returns-in_err-text-clause-caused : goal.returns-in_err-text-clause-caused
returns-in_err-text-clause-caused g c = handed_on c.from_residual.result c.in_err-text.field-0.0 _ c.from_residual.ensures.1 c.in_err-text.ensures.caused

pub returns-in_err-text-clause-counts : goal.returns-in_err-text-clause-counts
returns-in_err-text-clause-counts g c = handed_on c.from_residual.result c.in_err-text.field-0.0 _ c.from_residual.ensures.1 c.in_err-text.ensures.counts

pub returns-in_err-text-clause-unchanged : goal.returns-in_err-text-clause-unchanged
returns-in_err-text-clause-unchanged g c = c.in_err-text.ensures.unchanged

pub returns-in_err-text-clause-counts_up : goal.returns-in_err-text-clause-counts_up
returns-in_err-text-clause-counts_up g c = c.in_err-text.ensures.counts_up

pub take_in-requires : goal.take_in-requires
take_in-requires g c = (c.requires, subst (λ i. length i ≤ most_bytes) (sym c.deref.ensures.value) c.in_ok-text.ensures.short)

pub returns-clause-enters : goal.returns-clause-enters
returns-clause-enters g c =
    IfOk-weaker c.take_in.result _ _ (λ v h. entered_from (Possible (g.F.Files.contents c.args.files.now)) (seen c.args.known.now) (seen c.take_in.new.known) c.args.name.now c.in_ok-text.text.items c.deref.result.now v.lines.items v.end
    c.in_ok-text.ensures.read c.in_ok-text.ensures.short c.deref.ensures.value h) c.take_in.ensures.taken

pub returns-clause-within : goal.returns-clause-within
returns-clause-within g c = c.take_in.ensures.within

pub returns-clause-caused : goal.returns-clause-caused
returns-clause-caused g c =
    IfErr-weaker c.take_in.result _ _ (λ e h. not_entered (Possible (g.F.Files.contents c.args.files.now)) (seen c.args.known.now) c.args.name.now c.in_ok-text.text.items c.args.at c.args.asked.now c.in_ok-text.ensures.read c.in_ok-text.ensures.short e
    (subst (λ i. HasCause (NotCut (seen c.args.known.now) c.args.name.now i) e) c.deref.ensures.value h)) c.take_in.ensures.caused

pub returns-clause-kept : goal.returns-clause-kept
returns-clause-kept g c = on_ok_weaker c.take_in.result (λ w. c.in_ok-text.ensures.kept) c.take_in.ensures.within

pub returns-clause-counts : goal.returns-clause-counts
returns-clause-counts g c =
    IfErr-weaker c.take_in.result _ _ (λ e h. cut_counts (seen c.args.known.now) c.args.name.now c.deref.result.now e _ _ h c.in_ok-text.ensures.kept) c.take_in.ensures.caused

pub returns-clause-unchanged : goal.returns-clause-unchanged
returns-clause-unchanged g c = c.in_ok-text.ensures.unchanged

pub returns-clause-counts_up : goal.returns-clause-counts_up
returns-clause-counts_up g c = c.in_ok-text.ensures.counts_up
