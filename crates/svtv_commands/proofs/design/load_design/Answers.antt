use Rattle.std.specs.Option.{option_copied}
use Rattle.svtv_commands.proofs.Designs.{elaborate_lies, elaborate_stops, parse_lies, parse_stops}
use Rattle.svtv_commands.proofs.design.load_design.Goals as goal

pub in_file-requires : goal.in_file-requires
in_file-requires g c = parse_lies (g.F.Files.contents c.args.files.now) c.args.name.now c.in-Ok.tokens c.in-Err-parse.error c.in-Ok.ensures.text c.in-Err-parse.ensures

pub in_file-requires-in-Err-elaborate : goal.in_file-requires-in-Err-elaborate
in_file-requires-in-Err-elaborate g c =
    elaborate_lies (g.F.Files.contents c.args.files.now) c.args.name.now (option_copied c.args.top) c.in-Ok.tokens c.in-Ok-parse.tree c.in-Err-elaborate.error
    c.in-Ok.ensures.text c.in-Ok-parse.ensures.0 c.in-Err-elaborate.ensures.is

pub returns-in-Err-parse-clause-stop : goal.returns-in-Err-parse-clause-stop
returns-in-Err-parse-clause-stop g c =
    parse_stops (g.F.Files.contents c.args.files.now) c.args.name.now (option_copied c.args.top) c.in-Ok.tokens c.in-Err-parse.error c.in_file.result c.in-Ok.ensures.text c.in-Err-parse.ensures c.in_file.ensures

pub returns-clause-stop : goal.returns-clause-stop
returns-clause-stop g c =
    elaborate_stops (g.F.Files.contents c.args.files.now) c.args.name.now (option_copied c.args.top) c.in-Ok.tokens c.in-Ok-parse.tree c.in-Err-elaborate.error c.in_file-in-Err-elaborate.result
    c.in-Ok.ensures.text c.in-Ok-parse.ensures.0 c.in-Err-elaborate.ensures.is c.in_file-in-Err-elaborate.ensures
