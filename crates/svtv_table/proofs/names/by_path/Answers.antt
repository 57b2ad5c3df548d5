use Rattle.std.proofs.Common.{List, map, take, subst}
use Rattle.std.proofs.lemmas.List.{take_all}
use Rattle.std.proofs.lemmas.Result.{IfOk-from_err}
use Rattle.sv_outside.specs.declared.text.Signal.{Signal}
use Rattle.svtv_table.specs.Indexing.{Indexes}
use Rattle.svtv_table.specs.Names.{path_of}
use Rattle.svtv_table.proofs.Fronts.{front_long, front_next}
use Rattle.svtv_table.proofs.names.by_path.Goals as goal

pub loop-at-init : goal.loop-at-init
loop-at-init c = c.new-index.ensures

pub loop-at-preserved : goal.loop-at-preserved
loop-at-preserved c =
    let all = c.args.wires.now in
    let at = c.loop-at.at in
    subst (Indexes c.note.new.self) (front_next path_of all at c.index-wires-at.result c.bytes.result.now c.loop-at-test.true c.index-wires-at.is c.bytes.ensures)
    (c.in_ok-note.ensures (map path_of (take at all)) c.loop-at.invariant (front_long path_of all at c.loop-at-test.true))

pub returns-in_err-note : goal.returns-in_err-note
returns-in_err-note c = IfOk-from_err _ _ c.from_residual.ensures.0

pub returns : goal.returns
returns c = subst (λ (xs : List Signal). Indexes c.loop-at.index (map path_of xs)) (take_all c.loop-at.at c.args.wires.now c.loop-at-test.false) c.loop-at.invariant
