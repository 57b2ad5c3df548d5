use Rattle.std.proofs.lemmas.Result.{IfOk-from_err}
use Rattle.std.proofs.Common.{◌≡◌, ◌≤◌, ◌∙◌, ap, arith, refl}
use Rattle.sv_preproc.specs.Laws.{Possible}
use Rattle.sv_preproc.specs.Roles.{between_quotes}
use Rattle.sv_preproc.specs.Seen.{seen}
use Rattle.sv_preproc.specs.declared.error.PreErr.TheVariants.{Memory}
use Rattle.sv_preproc.proofs.Entering.{not_included, too_deep}
use Rattle.sv_preproc.proofs.Errors.{handed_on, named_counts, not_down}
use Rattle.sv_preproc.specs.declared.error.ItemErr.TheVariants.{Refused}
use Rattle.sv_preproc.proofs.reading.include.Goals as goal

pub returns-then-room-eq0-clause-caused : goal.returns-then-room-eq0-clause-caused
returns-then-room-eq0-clause-caused g c =
    too_deep (Possible (g.F.Files.contents c.args.files.now)) c.args.room (seen c.args.known.now) (between_quotes c.args.path.now.text) c.args.directive.now.place c.args.asked.now c.refusal.result
    c.if-room-eq0.true c.refusal.ensures

pub returns-then-room-eq0-clause-counts : goal.returns-then-room-eq0-clause-counts
returns-then-room-eq0-clause-counts g c = named_counts (Refused 3) c.args.directive.now.place c.args.asked.now c.refusal.result _ _ c.refusal.ensures refl

pub returns-in_err-file-clause-caused : goal.returns-in_err-file-clause-caused
returns-in_err-file-clause-caused g c =
    let C = Possible (g.F.Files.contents c.args.files.now) in
    let name : c.in_ok-name.name ≡ between_quotes c.args.path.now.text = c.in_ok-name.ensures ∙ c.between_quotes.ensures ∙ ap between_quotes c.bytes.ensures in
    let room : 1 ≤ c.args.room = omega (arith, c.if-room-eq0.false) in
    handed_on c.from_residual-in_err-file.result c.in_err-file.field-0.0 _ c.from_residual-in_err-file.ensures.1
    (not_included C c.args.room (seen c.args.known.now) c.in_ok-name.name (between_quotes c.args.path.now.text) c.args.directive.now.place c.args.asked.now c.in_err-file.field-0.0 room name c.in_err-file.ensures.caused)

pub returns-in_err-file-clause-counts : goal.returns-in_err-file-clause-counts
returns-in_err-file-clause-counts g c = handed_on c.from_residual-in_err-file.result c.in_err-file.field-0.0 _ c.from_residual-in_err-file.ensures.1 c.in_err-file.ensures.counts

pub returns-clause-named : goal.returns-clause-named
returns-clause-named g c = c.in_ok-name.ensures ∙ c.between_quotes.ensures ∙ ap between_quotes c.bytes.ensures

pub returns-then-room-eq0-clause-unchanged : goal.returns-then-room-eq0-clause-unchanged
returns-then-room-eq0-clause-unchanged g c = λ other. refl

pub returns-in_err-name-clause-allowed : goal.returns-in_err-name-clause-allowed
returns-in_err-name-clause-allowed g c = IfOk-from_err _ _ c.from_residual.ensures.0

pub returns-in_err-file-clause-allowed : goal.returns-in_err-file-clause-allowed
returns-in_err-file-clause-allowed g c = IfOk-from_err _ _ c.from_residual-in_err-file.ensures.0

pub returns-in_err-name-clause-named : goal.returns-in_err-name-clause-named
returns-in_err-name-clause-named g c = IfOk-from_err _ _ c.from_residual.ensures.0

pub returns-in_err-file-clause-named : goal.returns-in_err-file-clause-named
returns-in_err-file-clause-named g c = IfOk-from_err _ _ c.from_residual-in_err-file.ensures.0

pub returns-in_err-name-clause-enters : goal.returns-in_err-name-clause-enters
returns-in_err-name-clause-enters g c = IfOk-from_err _ _ c.from_residual.ensures.0

pub returns-in_err-file-clause-enters : goal.returns-in_err-file-clause-enters
returns-in_err-file-clause-enters g c = IfOk-from_err _ _ c.from_residual-in_err-file.ensures.0

pub returns-in_err-name-clause-within : goal.returns-in_err-name-clause-within
returns-in_err-name-clause-within g c = IfOk-from_err _ _ c.from_residual.ensures.0

pub returns-in_err-file-clause-within : goal.returns-in_err-file-clause-within
returns-in_err-file-clause-within g c = IfOk-from_err _ _ c.from_residual-in_err-file.ensures.0

pub returns-in_err-name-clause-kept : goal.returns-in_err-name-clause-kept
returns-in_err-name-clause-kept g c = IfOk-from_err _ _ c.from_residual.ensures.0

pub returns-in_err-file-clause-kept : goal.returns-in_err-file-clause-kept
returns-in_err-file-clause-kept g c = IfOk-from_err _ _ c.from_residual-in_err-file.ensures.0

pub returns-in_err-name-clause-caused : goal.returns-in_err-name-clause-caused
returns-in_err-name-clause-caused g c = handed_on c.from_residual.result Memory _ c.from_residual.ensures.1 tt

pub returns-in_err-name-clause-counts : goal.returns-in_err-name-clause-counts
returns-in_err-name-clause-counts g c = handed_on c.from_residual.result Memory _ c.from_residual.ensures.1 refl

pub returns-in_err-name-clause-unchanged : goal.returns-in_err-name-clause-unchanged
returns-in_err-name-clause-unchanged g c = λ other. refl

pub returns-in_err-file-clause-unchanged : goal.returns-in_err-file-clause-unchanged
returns-in_err-file-clause-unchanged g c = c.in_err-file.ensures.unchanged

pub enter-requires : goal.enter-requires
enter-requires g c = c.requires

pub returns-clause-enters : goal.returns-clause-enters
returns-clause-enters g c = c.in_ok-file.ensures.enters

pub returns-clause-within : goal.returns-clause-within
returns-clause-within g c = c.in_ok-file.ensures.within

pub returns-clause-kept : goal.returns-clause-kept
returns-clause-kept g c = c.in_ok-file.ensures.kept

pub returns-clause-unchanged : goal.returns-clause-unchanged
returns-clause-unchanged g c = c.in_ok-file.ensures.unchanged

pub returns-then-room-eq0-clause-counts_up : goal.returns-then-room-eq0-clause-counts_up
returns-then-room-eq0-clause-counts_up g c = not_down _ _ refl

pub returns-in_err-name-clause-counts_up : goal.returns-in_err-name-clause-counts_up
returns-in_err-name-clause-counts_up g c = not_down _ _ refl

pub returns-in_err-file-clause-counts_up : goal.returns-in_err-file-clause-counts_up
returns-in_err-file-clause-counts_up g c = c.in_err-file.ensures.counts_up

pub returns-clause-counts_up : goal.returns-clause-counts_up
returns-clause-counts_up g c = c.in_ok-file.ensures.counts_up
