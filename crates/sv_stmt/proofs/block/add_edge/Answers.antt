use Rattle.std.proofs.Common.{List, [], ◌∷◌, ◌++◌, sym, subst}
use Rattle.std.proofs.lemmas.Result.{err_from_is_err_and}
use Rattle.sv_names.specs.Names.{names_are}
use Rattle.sv_meaning.specs.declared.events.WireEdge.{WireEdge}
use Rattle.sv_stmt.specs.Blocks.{AreEdgesOf}
use Rattle.sv_stmt.proofs.Judging.{edges_more, event_cause}
use Rattle.sv_stmt.proofs.block.add_edge.Goals as goal

pub returns : goal.returns
returns c = λ all h.
    let at = names_are c.args.names.now in
    let e = c.args.event.now in
    subst (λ (xs : List WireEdge). AreEdgesOf at (all ++ e ∷ []) xs) (sym c.in_ok-push.ensures.ok) (edges_more at all e c.args.edges.now c.in_ok-edge.edge h c.in_ok-edge.ensures)

pub returns-in_err-edge : goal.returns-in_err-edge
returns-in_err-edge c = λ all h.
    let p = err_from_is_err_and c.from_residual.result c.from_residual.ensures.1 in
    rw (p.1, p.2) (event_cause (names_are c.args.names.now) all c.args.event.now c.in_err-edge.field-0.0 c.in_err-edge.ensures)
