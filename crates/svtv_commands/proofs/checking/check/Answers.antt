use Rattle.std.proofs.Common.{◌⊎◌, Err, ap, subst, sym}
use Rattle.sv_outside.specs.declared.refusal.Refusal.{Refusal}
use Rattle.sv_preproc.specs.Laws.{Possible}
use Rattle.svtv_files.specs.Refusals.{IsBadCert, TooLong}
use Rattle.svtv_commands.proofs.Checked.{bad_cert, is_checked, names_below}
use Rattle.svtv_commands.proofs.Tables.{error_stops}
use Rattle.svtv_commands.proofs.checking.check.Goals as goal

pub returns-in-Err-read_cert-clause-stop : goal.returns-in-Err-read_cert-clause-stop
returns-in-Err-read_cert-clause-stop g c =
    let told = g.F.Files.contents c.args.files.now in
    let file = c.args.file.now in
    let error = c.in-Err-read_cert.error in
    error_stops file (λ (r : Refusal). TooLong told file r ⊎ IsBadCert told file r) error c.refused.result
    (bad_cert told file c.deref.result.now error (subst (λ b. Possible told file b) (sym c.deref.ensures.value) c.in-Ok.ensures.stands) (λ r q. c.in-Err-read_cert.ensures.refused r (ap Err q))
    (λ r q. c.in-Err-read_cert.ensures.cause r (ap Err q))) c.refused.ensures

pub judged-requires : goal.judged-requires
judged-requires g c = names_below c.in-Ok-read_cert.pair.0 c.in-Ok-read_cert.pair.1 c.in-Ok-read_cert.ensures.below c.in-Ok-read_cert.ensures.steps

pub returns-in-Ok-judged-clause-checks : goal.returns-in-Ok-judged-clause-checks
returns-in-Ok-judged-clause-checks g c =
    let told = g.F.Files.contents c.args.files.now in
    let file = c.args.file.now in
    is_checked told file c.deref.result.now c.in-Ok-read_cert.pair.0 c.in-Ok-read_cert.pair.1 c.in-Ok-judged.pair.0 c.in-Ok-judged.pair.1.items
    (subst (λ b. Possible told file b) (sym c.deref.ensures.value) c.in-Ok.ensures.stands) c.in-Ok-read_cert.ensures.stands c.in-Ok-judged.ensures.judged c.in-Ok-judged.ensures.text
