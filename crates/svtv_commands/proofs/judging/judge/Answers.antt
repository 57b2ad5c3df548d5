use Rattle.std.proofs.Common.{refl}
use Rattle.std.specs.Option.{option_copied}
use Rattle.svtv_commands.proofs.Counting.{wide_counts}
use Rattle.svtv_commands.proofs.Growing.{none_left}
use Rattle.svtv_commands.proofs.Posings.{all_wide, bound_fits, goals_there, judged, posed_stops, wide_turn}
use Rattle.svtv_commands.proofs.judging.judge.Goals as goal

pub decided-requires-clause-elaborated : goal.decided-requires-clause-elaborated
decided-requires-clause-elaborated g c = (c.in-Ok.ensures.posed.design, c.in-Ok.ensures.posed.elaborated)

pub decided-requires-clause-bound : goal.decided-requires-clause-bound
decided-requires-clause-bound g c = bound_fits (g.F.Files.contents c.args.files.now) c.args.design.now c.args.table.now c.args.goals.now (option_copied c.args.top) c.in-Ok.posed c.in-Ok.ensures.posed

pub decided-requires-clause-widths : goal.decided-requires-clause-widths
decided-requires-clause-widths g c = all_wide (g.F.Files.contents c.args.files.now) c.args.design.now c.args.table.now c.args.goals.now (option_copied c.args.top) c.in-Ok.posed c.in-Ok.ensures.posed c.in-Ok.posed.bound.vars refl

pub decided-requires-clause-there : goal.decided-requires-clause-there
decided-requires-clause-there g c =
    goals_there (g.F.Files.contents c.args.files.now) c.args.design.now c.args.table.now c.args.goals.now (option_copied c.args.top) c.in-Ok.posed c.in-Ok.ensures.posed c.as_slice.result.now c.as_slice.ensures

pub returns-in-Err-clause-stop : goal.returns-in-Err-clause-stop
returns-in-Err-clause-stop g c = posed_stops (g.F.Files.contents c.args.files.now) c.args.design.now c.args.table.now c.args.goals.now (option_copied c.args.top) c.in-Err.stop c.in-Err.ensures.stop

pub returns-in-Ok-decided-clause-judges : goal.returns-in-Ok-decided-clause-judges
returns-in-Ok-decided-clause-judges g c =
    judged (g.F.Files.contents c.args.files.now) c.args.design.now c.args.table.now c.args.goals.now (option_copied c.args.top) c.in-Ok.posed c.in-Ok.ensures.posed c.as_slice.result.now c.args.budget c.in-Ok-decided.decisions
    c.as_slice.ensures c.in-Ok-decided.ensures.names c.in-Ok-decided.ensures.right

pub returns-in-Ok-decided-clause-long : goal.returns-in-Ok-decided-clause-long
returns-in-Ok-decided-clause-long g c = record { verdicts = c.in-Ok-decided.ensures.verdicts; shown = c.in-Ok-decided.ensures.shown }

pub returns-in-Err-decided-clause-stop : goal.returns-in-Err-decided-clause-stop
returns-in-Err-decided-clause-stop g c =
    let p = c.in-Ok.ensures.posed in
    wide_turn (g.F.Files.contents c.args.files.now) c.args.design.now c.args.table.now c.args.goals.now (option_copied c.args.top) c.in-Ok.posed p c.in-Err-decided.stop (c.in-Err-decided.ensures.stop p.design p.elaborated)

pub returns-in-Err-decided-clause-rose : goal.returns-in-Err-decided-clause-rose
returns-in-Err-decided-clause-rose g c =
    let p = c.in-Ok.ensures.posed in none_left c.args.design.now p.design _ c.in-Err-decided.stop (c.in-Err-decided.ensures.stop p.design p.elaborated)

pub returns-in-Err-decided-clause-counts : goal.returns-in-Err-decided-clause-counts
returns-in-Err-decided-clause-counts g c =
    let p = c.in-Ok.ensures.posed in
    wide_counts c.args.design.now p.design c.in-Err-decided.stop _ _ (c.in-Err-decided.ensures.stop p.design p.elaborated) c.in-Ok.ensures.kept
