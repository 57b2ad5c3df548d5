use Rattle.std.specs.Option.{option_copied}
use Rattle.svtv_commands.proofs.Turns.{fits, is_simulated, same_told, values_turn, values_wide, vars_distinct, vars_wide, wires_have_parts}
use Rattle.svtv_commands.proofs.simulation.simulate.Goals as goal

pub load_values-requires-clause-widths : goal.load_values-requires-clause-widths
load_values-requires-clause-widths g c =
    vars_wide (g.F.Files.contents c.args.files.now) c.args.design.now c.args.table.now (option_copied c.args.top) c.in-Ok.setup c.in-Ok.ensures.stands c.as_slice.result.now c.as_slice.ensures

pub load_values-requires-clause-distinct : goal.load_values-requires-clause-distinct
load_values-requires-clause-distinct g c =
    vars_distinct (g.F.Files.contents c.args.files.now) c.args.design.now c.args.table.now (option_copied c.args.top) c.in-Ok.setup c.in-Ok.ensures.stands c.as_slice.result.now c.as_slice.ensures

pub returns-in-Err-load_values-clause-stop : goal.returns-in-Err-load_values-clause-stop
returns-in-Err-load_values-clause-stop g c =
    let told = g.F.Files.contents c.args.files.now in
    let new = g.F.Files.contents c.load_setup.new.files in
    values_turn told c.args.design.now c.args.table.now (option_copied c.args.top) c.in-Ok.setup c.in-Ok.ensures.stands new c.args.values.now c.as_slice.result.now c.in-Err-load_values.stop
    (same_told new told c.in-Ok.ensures.unchanged) c.as_slice.ensures c.in-Err-load_values.ensures.stop

pub returns-in-Ok-printed-clause-simulates : goal.returns-in-Ok-printed-clause-simulates
returns-in-Ok-printed-clause-simulates g c =
    let told = g.F.Files.contents c.args.files.now in
    let new = g.F.Files.contents c.load_setup.new.files in
    is_simulated told c.args.design.now c.args.table.now (option_copied c.args.top) c.in-Ok.setup c.in-Ok.ensures.stands new c.args.values.now c.as_slice.result.now c.in-Ok-load_values.choice.items c.deref.result.now
    c.args.vcd c.in-Ok-printed.text.items (same_told new told c.in-Ok.ensures.unchanged) c.as_slice.ensures c.deref.ensures.value c.in-Ok-load_values.ensures.values
    c.in-Ok-printed.ensures.samples c.in-Ok-printed.ensures.dump c.in-Ok-printed.ensures.stands

pub printed-requires-clause-bound : goal.printed-requires-clause-bound
printed-requires-clause-bound g c = fits (g.F.Files.contents c.args.files.now) c.args.design.now c.args.table.now (option_copied c.args.top) c.in-Ok.setup c.in-Ok.ensures.stands

pub printed-requires-clause-parts : goal.printed-requires-clause-parts
printed-requires-clause-parts g c = wires_have_parts (g.F.Files.contents c.args.files.now) c.args.design.now c.args.table.now (option_copied c.args.top) c.in-Ok.setup c.in-Ok.ensures.stands

pub printed-requires-clause-choice : goal.printed-requires-clause-choice
printed-requires-clause-choice g c =
    values_wide (g.F.Files.contents c.args.files.now) c.args.design.now c.args.table.now (option_copied c.args.top) c.in-Ok.setup c.in-Ok.ensures.stands (g.F.Files.contents c.load_setup.new.files) c.args.values.now
    c.as_slice.result.now c.in-Ok-load_values.choice.items c.deref.result.now c.as_slice.ensures c.deref.ensures.value c.in-Ok-load_values.ensures.values
