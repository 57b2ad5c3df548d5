use Rattle.std.proofs.Common.{subst, sym}
use Rattle.sv_preproc.specs.Laws.{Possible}
use Rattle.svtv_files.specs.Refusals.{RefusesTable}
use Rattle.svtv_commands.proofs.Tables.{bind_causes, error_stops}
use Rattle.svtv_commands.proofs.table.load_table.Goals as goal

pub returns-clause-stop : goal.returns-clause-stop
returns-clause-stop g c =
    let told = g.F.Files.contents c.args.files.now in
    let t = c.in-Ok-read_table.ensures.table in
    error_stops c.args.name.now (RefusesTable told c.args.name.now c.args.wires.now) c.in-Err-bind.error c.refused-in-Err-bind.result
    (bind_causes told c.args.name.now c.args.wires.now c.in-Ok-read_table.table c.in-Err-bind.error
    (record { text = c.deref.result.now; stands = subst (λ b. Possible told c.args.name.now b) (sym c.deref.ensures.value) c.in-Ok.ensures.stands; records = t.0; cut = t.1; clear = t.2; is = t.3 }) c.in-Err-bind.ensures.err)
    c.refused-in-Err-bind.ensures
