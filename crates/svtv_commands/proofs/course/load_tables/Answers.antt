use Rattle.std.specs.Option.{option_copied}
use Rattle.svtv_commands.proofs.Courses.{period_turn}
use Rattle.svtv_commands.proofs.Turns.{same_told}
use Rattle.svtv_commands.proofs.course.load_tables.Goals as goal

pub returns-in-Err-load_table-clause-stop : goal.returns-in-Err-load_table-clause-stop
returns-in-Err-load_table-clause-stop g c =
    let told = g.F.Files.contents c.args.files.now in
    let new = g.F.Files.contents c.load_setup.new.files in
    period_turn told c.args.design.now c.args.reset.now c.args.period.now (option_copied c.args.top) c.in-Ok.setup c.in-Ok.ensures.stands new c.as_slice.result.now c.in-Err-load_table.stop
    (same_told new told c.in-Ok.ensures.unchanged) c.as_slice.ensures c.in-Err-load_table.ensures.stop
