use Rattle.std.proofs.Common.{◌⊎◌, Err, ap, subst, sym}
use Rattle.sv_outside.specs.declared.refusal.Refusal.{Refusal}
use Rattle.sv_preproc.specs.Laws.{Possible}
use Rattle.svtv_files.specs.Refusals.{IsBadDump, IsSignalUnknown, TooLong}
use Rattle.svtv_commands.proofs.Shown.{wave_causes}
use Rattle.svtv_commands.proofs.Tables.{error_stops}
use Rattle.svtv_commands.proofs.waving.wave.Goals as goal

pub returns-clause-stop : goal.returns-clause-stop
returns-clause-stop g c =
    let told = g.F.Files.contents c.args.files.now in
    let file = c.args.file.now in
    let path = c.args.path.now in
    let has = subst (λ b. Possible told file b) (sym c.deref.ensures.value) c.in-Ok.ensures.stands in
    error_stops file (λ (r : Refusal). TooLong told file r ⊎ (IsBadDump told file r ⊎ IsSignalUnknown told file path r)) c.in-Err-shown.error c.refused.result
    (wave_causes told file path c.in-Err-shown.error (λ r q. c.in-Err-shown.ensures.refused told file has r (ap Err q))) c.refused.ensures

pub returns-in-Ok-shown-clause-shows : goal.returns-in-Ok-shown-clause-shows
returns-in-Ok-shown-clause-shows g c =
    let told = g.F.Files.contents c.args.files.now in
    let file = c.args.file.now in
    c.in-Ok-shown.ensures.shows told file (subst (λ b. Possible told file b) (sym c.deref.ensures.value) c.in-Ok.ensures.stands)
