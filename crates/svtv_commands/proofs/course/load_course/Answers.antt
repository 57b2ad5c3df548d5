use Rattle.std.proofs.Common.{Some, subst}
use Rattle.std.specs.Option.{option_copied}
use Rattle.sv_outside.specs.declared.refusal.TextErr.TheVariants.{No}
use Rattle.svtv_files.specs.Refusals.{at_first}
use Rattle.svtv_commands.proofs.Counting.{of_counts}
use Rattle.svtv_commands.proofs.Courses.{reset_turn, unlike_turn}
use Rattle.svtv_commands.specs.Courses.{IsUnlike}
use Rattle.svtv_commands.specs.declared.course.Side.{Side}
use Rattle.svtv_commands.proofs.course.load_course.Goals as goal

pub returns-in-Some-Reset-clause-stop : goal.returns-in-Some-Reset-clause-stop
returns-in-Some-Reset-clause-stop g c =
    let x = c.in-Ok.course in
    reset_turn (g.F.Files.contents c.args.files.now) c.args.design.now c.args.reset.now c.args.period.now (option_copied c.args.top) x c.in-Ok.ensures.tables c.sample_unlike.result
    (subst (λ (s : Side). IsUnlike x.reset.bound x.period.bound (Some s)) c.in-Some-Reset.field-0-is c.in-Some-Reset.ensures) c.sample_unlike.ensures

pub returns-in-Some-Reset-clause-counts : goal.returns-in-Some-Reset-clause-counts
returns-in-Some-Reset-clause-counts g c =
    of_counts c.args.reset.now (No (record { number = 46; place = at_first; count = 0 })) c.sample_unlike.result _ _ c.sample_unlike.ensures c.in-Ok.ensures.kept

pub returns-clause-stop : goal.returns-clause-stop
returns-clause-stop g c =
    let x = c.in-Ok.course in
    unlike_turn (g.F.Files.contents c.args.files.now) c.args.design.now c.args.reset.now c.args.period.now (option_copied c.args.top) x c.in-Ok.ensures.tables c.sample_unlike-in-Some-Period.result
    (subst (λ (s : Side). IsUnlike x.reset.bound x.period.bound (Some s)) c.in-Some-Period.field-0-is c.in-Some-Period.ensures) c.sample_unlike-in-Some-Period.ensures

pub returns-clause-counts : goal.returns-clause-counts
returns-clause-counts g c =
    of_counts c.args.period.now (No (record { number = 46; place = at_first; count = 0 })) c.sample_unlike-in-Some-Period.result _ _ c.sample_unlike-in-Some-Period.ensures c.in-Ok.ensures.kept
