use Rattle.std.proofs.Common.{◌≡◌, Err, ap, inl, inr}
use Rattle.std.proofs.lemmas.Result.{IfOk-weaker}
use Rattle.sv_outside.specs.declared.refusal.TextErr.TheVariants.{No}
use Rattle.svtv_commands.specs.Done.{Shows}
use Rattle.svtv_commands.proofs.Shown.{HasLines, bad_dump, shows, signal_unknown}
use Rattle.svtv_commands.proofs.waving.shown.Goals as goal

pub returns-in-Ok-clause-shows : goal.returns-in-Ok-clause-shows
returns-in-Ok-clause-shows c told file has =
    let waves = c.in-Ok.waves in
    let path = c.args.path.now in
    IfOk-weaker c.lines_of.result (λ lines. HasLines waves.vars waves.changes path lines.items) (λ lines. Shows told file path lines.items)
    (λ lines h. shows told file c.args.text.now path lines.items waves.vars waves.changes has c.in-Ok.ensures.stands c.in-Ok.ensures.only h) c.lines_of.ensures.told

pub returns-in-Ok-clause-refused : goal.returns-in-Ok-clause-refused
returns-in-Ok-clause-refused c told file has r e =
    let waves = c.in-Ok.waves in
    let h = c.lines_of.ensures.refused r e in
    inr (signal_unknown told file c.args.text.now c.args.path.now waves.vars waves.changes r has c.in-Ok.ensures.stands c.in-Ok.ensures.only h.0 h.1)

pub returns-in-Err-clause-refused : goal.returns-in-Err-clause-refused
returns-in-Err-clause-refused c told file has r e =
    let same : c.in-Err.error ≡ No r = cc in
    let h = c.in-Err.ensures.refused r (ap (λ x. Err x) same) in
    inl (bad_dump told file c.args.text.now r has (c.in-Err.ensures.taken r (ap (λ x. Err x) same)) h.0 h.1)
