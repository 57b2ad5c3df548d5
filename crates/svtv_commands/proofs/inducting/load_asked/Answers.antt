use Rattle.std.proofs.Common.{[], refl}
use Rattle.std.specs.Option.{option_copied}
use Rattle.svtv_texts.proofs.Passed.{designs_grow}
use Rattle.svtv_commands.proofs.Inductions.{are_asked, goals_in, goals_turn, samples_all_wide}
use Rattle.svtv_commands.proofs.Turns.{same_told}
use Rattle.svtv_commands.proofs.inducting.load_asked.Goals as goal

pub load_goals-requires-clause-samples : goal.load_goals-requires-clause-samples
load_goals-requires-clause-samples g c =
    samples_all_wide (g.F.Files.contents c.args.files.now) c.args.design.now c.args.reset.now c.args.period.now c.args.invariants.now (option_copied c.args.top) c.in-Ok.course c.in-Ok.ensures.tables c.in-Ok.ensures.alike
    c.as_slice.result.now c.as_slice.ensures

pub returns-in-Err-load_goals-clause-stop : goal.returns-in-Err-load_goals-clause-stop
returns-in-Err-load_goals-clause-stop g c =
    let told = g.F.Files.contents c.args.files.now in
    let new = g.F.Files.contents c.load_course.new.files in
    goals_turn told c.args.design.now c.args.reset.now c.args.period.now c.args.invariants.now (option_copied c.args.top) c.in-Ok.course c.in-Ok.ensures.tables c.in-Ok.ensures.alike
    new [] c.as_slice.result.now c.in-Err-load_goals.stop (same_told new told c.in-Ok.ensures.unchanged) refl c.as_slice.ensures c.in-Err-load_goals.ensures.stop

pub returns-clause-asked : goal.returns-clause-asked
returns-clause-asked g c =
    let told = g.F.Files.contents c.args.files.now in
    let new = g.F.Files.contents c.load_course.new.files in
    let x = c.in-Ok.course in
    let t = c.in-Ok.ensures.tables in
    let shapes = c.load_goals.new.arena in
    are_asked told c.args.design.now c.args.reset.now c.args.period.now c.args.invariants.now (option_copied c.args.top) x t c.in-Ok.ensures.alike
    (record x.flat { arena = shapes }) c.in-Ok-load_goals.goals (designs_grow t.design x.flat shapes t.elaborated c.load_goals.ensures.stays c.len.ensures.arena)
    (goals_in told c.args.design.now c.args.reset.now c.args.period.now c.args.invariants.now (option_copied c.args.top) x t c.in-Ok.ensures.alike new [] c.as_slice.result.now shapes c.in-Ok-load_goals.goals
    (same_told new told c.in-Ok.ensures.unchanged) refl c.as_slice.ensures c.in-Ok-load_goals.ensures.goals)
