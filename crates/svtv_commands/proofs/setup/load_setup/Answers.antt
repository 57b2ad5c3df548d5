use Rattle.std.specs.Option.{option_copied}
use Rattle.svtv_commands.proofs.Turns.{same_told, table_turn}
use Rattle.svtv_commands.proofs.setup.load_setup.Goals as goal

pub returns-in-Err-load_table-clause-stop : goal.returns-in-Err-load_table-clause-stop
returns-in-Err-load_table-clause-stop g c =
    let told = g.F.Files.contents c.args.files.now in
    let new = g.F.Files.contents c.load_design.new.files in
    let d = c.in-Ok.ensures.design in
    table_turn told new c.args.design.now c.args.table.now (option_copied c.args.top) d.0 c.in-Ok.flat c.as_slice.result.now c.in-Err-load_table.stop (same_told new told c.in-Ok.ensures.unchanged) c.as_slice.ensures d.1 d.2 c.in-Err-load_table.ensures.stop
