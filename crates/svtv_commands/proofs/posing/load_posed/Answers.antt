use Rattle.std.specs.Option.{option_copied}
use Rattle.svtv_commands.proofs.Turns.{goals_in, goals_turn, same_told, samples_all_wide, vars_wide}
use Rattle.svtv_texts.proofs.Passed.{designs_grow}
use Rattle.svtv_commands.proofs.posing.load_posed.Goals as goal

pub load_goals-requires-clause-vars : goal.load_goals-requires-clause-vars
load_goals-requires-clause-vars g c =
    vars_wide (g.F.Files.contents c.args.files.now) c.args.design.now c.args.table.now (option_copied c.args.top) c.in-Ok.setup c.in-Ok.ensures.stands c.as_slice.result.now c.as_slice.ensures

pub load_goals-requires-clause-samples : goal.load_goals-requires-clause-samples
load_goals-requires-clause-samples g c =
    samples_all_wide (g.F.Files.contents c.args.files.now) c.args.design.now c.args.table.now (option_copied c.args.top) c.in-Ok.setup c.in-Ok.ensures.stands c.as_slice-2.result.now c.as_slice-2.ensures

pub returns-in-Err-load_goals-clause-stop : goal.returns-in-Err-load_goals-clause-stop
returns-in-Err-load_goals-clause-stop g c =
    let told = g.F.Files.contents c.args.files.now in
    let new = g.F.Files.contents c.load_setup.new.files in
    goals_turn told c.args.design.now c.args.table.now (option_copied c.args.top) c.in-Ok.setup c.in-Ok.ensures.stands new c.args.goals.now c.as_slice.result.now c.as_slice-2.result.now
    c.in-Err-load_goals.stop (same_told new told c.in-Ok.ensures.unchanged) c.as_slice.ensures c.as_slice-2.ensures c.in-Err-load_goals.ensures.stop

pub returns-clause-posed : goal.returns-clause-posed
returns-clause-posed g c =
    let told = g.F.Files.contents c.args.files.now in
    let new = g.F.Files.contents c.load_setup.new.files in
    let s = c.in-Ok.ensures.stands in
    record {
      design = s.design;
      setup = s.setup;
      elaborated = designs_grow s.design c.in-Ok.setup.flat c.load_goals.new.arena s.elaborated c.load_goals.ensures.stays c.len.ensures.arena;
      bound = s.bound;
      goals = goals_in told c.args.design.now c.args.table.now (option_copied c.args.top) c.in-Ok.setup s new c.args.goals.now c.as_slice.result.now c.as_slice-2.result.now c.load_goals.new.arena c.in-Ok-load_goals.goals
          (same_told new told c.in-Ok.ensures.unchanged) c.as_slice.ensures c.as_slice-2.ensures c.in-Ok-load_goals.ensures.goals;
    }
