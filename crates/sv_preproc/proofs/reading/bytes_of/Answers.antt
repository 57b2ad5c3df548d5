use Rattle.std.proofs.lemmas.Result.{IfOk-from_err}
use Rattle.std.proofs.Common.{◌≡◌, ◌∙◌, ap, Err, length, arith, refl, subst}
use Rattle.std.proofs.lemmas.Grind.{common_steps}
use Rattle.sv_outside.proofs.Counts.{read_kept}
use Rattle.sv_token.specs.Cut.{start}
use Rattle.sv_preproc.specs.Seen.{seen, IsNotRead}
use Rattle.sv_preproc.specs.declared.error.PreErr.TheVariants.{Memory}
use Rattle.sv_preproc.proofs.Entering.{not_answered}
use Rattle.sv_preproc.proofs.Errors.{handed_on, not_down, read_counts}
use Rattle.sv_preproc.proofs.reading.bytes_of.Goals as goal

pub returns-in_err-file-clause-read : goal.returns-in_err-file-clause-read
returns-in_err-file-clause-read g c = IfOk-from_err _ _ c.from_residual.ensures.0

pub returns-in_err-file-clause-short : goal.returns-in_err-file-clause-short
returns-in_err-file-clause-short g c = IfOk-from_err _ _ c.from_residual.ensures.0

pub returns-in_err-file-clause-caused : goal.returns-in_err-file-clause-caused
returns-in_err-file-clause-caused g c = handed_on c.from_residual.result Memory _ c.from_residual.ensures.1 tt

pub returns-in_err-file-clause-kept : goal.returns-in_err-file-clause-kept
returns-in_err-file-clause-kept g c = IfOk-from_err _ _ c.from_residual.ensures.0

pub returns-in_err-file-clause-counts : goal.returns-in_err-file-clause-counts
returns-in_err-file-clause-counts g c = handed_on c.from_residual.result Memory _ c.from_residual.ensures.1 refl

pub returns-in_err-file-clause-unchanged : goal.returns-in_err-file-clause-unchanged
returns-in_err-file-clause-unchanged g c = λ other. refl

pub returns-in-Ok-clause-kept : goal.returns-in-Ok-clause-kept
returns-in-Ok-clause-kept g c = read_kept _ _ _ _ c.in-Ok.is c.read.ensures.counted

pub returns-in-Ok-clause-unchanged : goal.returns-in-Ok-clause-unchanged
returns-in-Ok-clause-unchanged g c = c.read.ensures.unchanged

pub returns-in_err-file-clause-counts_up : goal.returns-in_err-file-clause-counts_up
returns-in_err-file-clause-counts_up g c = not_down _ _ refl

pub returns-in-Ok-clause-counts_up : goal.returns-in-Ok-clause-counts_up
returns-in-Ok-clause-counts_up g c = c.read.ensures.counts_up

pub returns-in-Err-clause-caused : goal.returns-in-Err-clause-caused
returns-in-Err-clause-caused g c =
    let place : c.start_of.result ≡ start (length c.args.known.now.files.items) = grind (arith, common_steps) in
    not_answered (g.F.Files.contents c.args.files.now) (seen c.args.known.now) c.args.name.now c.args.at c.args.asked.now c.in-Err.why c.start_of.result c.not_read.result
    (subst (λ i. IsNotRead c.in-Err.why c.args.at i c.start_of.result c.args.name.now c.not_read.result) c.in_ok-file.ensures c.not_read.ensures)
    (λ k. c.read.ensures.long (c.in-Err.is ∙ ap Err k)) place

pub returns-in-Err-clause-counts : goal.returns-in-Err-clause-counts
returns-in-Err-clause-counts g c =
    read_counts c.read.result c.in-Err.why c.args.at c.in_ok-file.file c.start_of.result c.args.name.now c.not_read.result _ _ c.in-Err.is c.not_read.ensures c.read.ensures.counted

pub returns-in-Err-clause-unchanged : goal.returns-in-Err-clause-unchanged
returns-in-Err-clause-unchanged g c = c.read.ensures.unchanged

pub returns-in-Err-clause-counts_up : goal.returns-in-Err-clause-counts_up
returns-in-Err-clause-counts_up g c = c.read.ensures.counts_up
