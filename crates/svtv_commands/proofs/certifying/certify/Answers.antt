use Rattle.std.proofs.Common.{refl}
use Rattle.std.specs.Option.{option_copied}
use Rattle.sv_outside.specs.declared.refusal.TextErr.TheVariants.{No}
use Rattle.svtv_files.specs.Refusals.{at_first}
use Rattle.svtv_report.specs.Seen.{verdict_is}
use Rattle.svtv_commands.proofs.Counting.{of_left, wide_counts}
use Rattle.svtv_commands.proofs.Growing.{none_left}
use Rattle.svtv_commands.proofs.Posings.{all_wide, bound_fits}
use Rattle.svtv_commands.proofs.Certified.{below, certified, name_is_line, own_there, posed_stops, unknown_turn, wide_turn}
use Rattle.svtv_commands.proofs.certifying.certify.Goals as goal

pub returns-in-Err-clause-stop : goal.returns-in-Err-clause-stop
returns-in-Err-clause-stop g c = posed_stops (g.F.Files.contents c.args.files.now) c.args.design.now c.args.table.now c.args.goals.now c.args.goal.now (option_copied c.args.top) c.in-Err.stop c.in-Err.ensures.stop

pub returns-in_default-clause-stop : goal.returns-in_default-clause-stop
returns-in_default-clause-stop g c =
    unknown_turn (g.F.Files.contents c.args.files.now) c.args.design.now c.args.table.now c.args.goals.now (option_copied c.args.top) c.in-Ok.posed c.in-Ok.ensures.posed c.args.goal.now c.as_slice.result.now c.goal_unknown.result c.as_slice.ensures c.in_default.ensures.none c.goal_unknown.ensures

pub returns-in_default-clause-rose : goal.returns-in_default-clause-rose
returns-in_default-clause-rose g c =
    of_left c.args.goals.now (No (record { number = 41; place = at_first; count = 0 })) _ c.goal_unknown.result c.goal_unknown.ensures

pub decided-requires-clause-elaborated : goal.decided-requires-clause-elaborated
decided-requires-clause-elaborated g c =
    (c.in-Ok.ensures.posed.design, c.in-Ok.ensures.posed.elaborated)

pub decided-requires-clause-bound : goal.decided-requires-clause-bound
decided-requires-clause-bound g c =
    bound_fits (g.F.Files.contents c.args.files.now) c.args.design.now c.args.table.now c.args.goals.now (option_copied c.args.top) c.in-Ok.posed c.in-Ok.ensures.posed

pub decided-requires-clause-widths : goal.decided-requires-clause-widths
decided-requires-clause-widths g c =
    all_wide (g.F.Files.contents c.args.files.now) c.args.design.now c.args.table.now c.args.goals.now (option_copied c.args.top) c.in-Ok.posed c.in-Ok.ensures.posed c.in-Ok.posed.bound.vars refl

pub decided-requires-clause-there : goal.decided-requires-clause-there
decided-requires-clause-there g c =
    own_there (g.F.Files.contents c.args.files.now) c.args.design.now c.args.table.now c.args.goals.now (option_copied c.args.top) c.in-Ok.posed c.in-Ok.ensures.posed c.as_slice.result.now c.in-Some.own.now c.as_slice.ensures c.in-Some.ensures.some.0

pub returns-in-Err-decided-clause-stop : goal.returns-in-Err-decided-clause-stop
returns-in-Err-decided-clause-stop g c =
    let p = c.in-Ok.ensures.posed in
    wide_turn (g.F.Files.contents c.args.files.now) c.args.design.now c.args.table.now c.args.goals.now (option_copied c.args.top) c.in-Ok.posed c.in-Ok.ensures.posed c.args.goal.now c.as_slice.result.now c.in-Some.own.now
    c.in-Err-decided.stop c.as_slice.ensures c.in-Some.ensures.some.0 c.in-Some.ensures.some.1 (c.in-Err-decided.ensures.stop p.design p.elaborated)

pub returns-in-Err-decided-clause-rose : goal.returns-in-Err-decided-clause-rose
returns-in-Err-decided-clause-rose g c =
    let p = c.in-Ok.ensures.posed in none_left c.args.design.now p.design _ c.in-Err-decided.stop (c.in-Err-decided.ensures.stop p.design p.elaborated)

pub returns-in-Err-decided-clause-counts : goal.returns-in-Err-decided-clause-counts
returns-in-Err-decided-clause-counts g c =
    let p = c.in-Ok.ensures.posed in
    wide_counts c.args.design.now p.design c.in-Err-decided.stop _ _ (c.in-Err-decided.ensures.stop p.design p.elaborated) c.in-Ok.ensures.kept

pub text_of-requires-clause-name : goal.text_of-requires-clause-name
text_of-requires-clause-name g c =
    name_is_line (g.F.Files.contents c.args.files.now) c.args.design.now c.args.table.now c.args.goals.now (option_copied c.args.top) c.in-Ok.posed c.in-Ok.ensures.posed c.args.goal.now c.as_slice.result.now c.in-Some.own.now c.as_slice.ensures c.in-Some.ensures.some.0 c.in-Some.ensures.some.1

pub text_of-requires-clause-below : goal.text_of-requires-clause-below
text_of-requires-clause-below g c =
    below (g.F.Files.contents c.args.files.now) c.args.design.now c.args.table.now c.args.goals.now (option_copied c.args.top) c.in-Ok.posed c.in-Ok.ensures.posed c.args.goal.now c.as_slice.result.now c.in-Some.own.now
    (verdict_is c.in-Ok-decided.certified.decided.verdict) c.in-Ok-decided.certified.cert c.as_slice.ensures c.in-Some.ensures.some.0 c.in-Some.ensures.some.1 c.in-Ok-decided.ensures.cert

pub returns-in-Ok-text_of-clause-cert : goal.returns-in-Ok-text_of-clause-cert
returns-in-Ok-text_of-clause-cert g c =
    certified (g.F.Files.contents c.args.files.now) c.args.design.now c.args.table.now c.args.goals.now (option_copied c.args.top) c.in-Ok.posed c.in-Ok.ensures.posed c.args.goal.now c.as_slice.result.now c.in-Some.own.now c.args.budget
    (verdict_is c.in-Ok-decided.certified.decided.verdict) c.in-Ok-decided.certified.decided.shown c.in-Ok-decided.certified.cert _ _ c.as_slice.ensures c.in-Some.ensures.some.0 c.in-Some.ensures.some.1
    c.in-Ok-decided.ensures.right c.in-Ok-decided.ensures.cert c.in-Ok-text_of.ensures
