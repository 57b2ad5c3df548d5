use Rattle.std.proofs.Common.{◌<◌, ◌≤◌, List, [], ◌∷◌, length, take, get_or, sym, ap, ◌∙◌, subst, arith}
use Rattle.std.proofs.lemmas.List.{take_all}
use Rattle.std.proofs.lemmas.Result.{err_from_is_err_and}
use Rattle.sv_tree.specs.declared.stmts.Event.{Event}
use Rattle.sv_tree.specs.declared.stmts.NextEvent.{NextEvent}
use Rattle.sv_names.specs.Names.{names_are}
use Rattle.sv_meaning.specs.declared.events.WireEdge.{WireEdge}
use Rattle.sv_stmt.specs.Blocks.{AreEdgesOf}
use Rattle.sv_stmt.proofs.Judging.{nexts, no_edges, event_next, later_cause, next_cause}
use Rattle.sv_stmt.proofs.block.edges_of.Goals as goal

pub more-init : goal.more-init
more-init c = c.in_ok-add_edge.ensures [] (subst (λ (xs : List WireEdge). AreEdgesOf (names_are c.args.names.now) [] xs) (sym c.new-edges.ensures) (no_edges (names_are c.args.names.now)))

pub more-preserved : goal.more-preserved
more-preserved c =
    let at = names_are c.args.names.now in
    let first = c.args.events.now.first in
    let more = c.args.events.now.more in
    let i = c.more.next-index in
    let read = c.as_slice-next-items.ensures in
    let inside : i < length more = subst (λ (xs : List NextEvent). i < length xs) read c.more-test.true in
    subst (λ (all : List Event). AreEdgesOf at all c.add_edge-in-more.new.edges) (event_next first more i c.next-item.result inside (c.next-item.is ∙ ap (λ xs. get_or xs i c.next-item.result) read))
    (c.in_ok-add_edge-2.ensures (first ∷ nexts (take c.more.next-index more)) c.more.invariant)

pub returns : goal.returns
returns c =
    let first = c.args.events.now.first in
    let all : length c.args.events.now.more ≤ c.more.next-index = let read = ap (λ (xs : List NextEvent). length xs) c.as_slice-next-items.ensures in let done = c.more-test.false in omega arith in
    subst (λ (xs : List NextEvent). AreEdgesOf (names_are c.args.names.now) (first ∷ nexts xs) c.more.edges) (take_all c.more.next-index c.args.events.now.more all) c.more.invariant

pub returns-in_err-add_edge : goal.returns-in_err-add_edge
returns-in_err-add_edge c =
    let p = err_from_is_err_and c.from_residual.result c.from_residual.ensures.1 in
    let at = names_are c.args.names.now in
    let first = c.args.events.now.first in
    rw (p.1, p.2)
    (later_cause at (first ∷ []) (nexts c.args.events.now.more) c.in_err-add_edge.field-0.0
    (c.in_err-add_edge.ensures [] (subst (λ (xs : List WireEdge). AreEdgesOf at [] xs) (sym c.new-edges.ensures) (no_edges at))))

pub returns-in_err-add_edge-2 : goal.returns-in_err-add_edge-2
returns-in_err-add_edge-2 c =
    let p = err_from_is_err_and c.from_residual-in_err-add_edge-2.result c.from_residual-in_err-add_edge-2.ensures.1 in
    let at = names_are c.args.names.now in
    let first = c.args.events.now.first in
    let more = c.args.events.now.more in
    let i = c.more.next-index in
    let read = c.as_slice-next-items.ensures in
    let inside : i < length more = subst (λ (xs : List NextEvent). i < length xs) read c.more-test.true in
    rw (p.1, p.2)
    (next_cause at first more i c.next-item.result c.in_err-add_edge-2.field-0.0 inside (c.next-item.is ∙ ap (λ xs. get_or xs i c.next-item.result) read)
    (c.in_err-add_edge-2.ensures (first ∷ nexts (take c.more.next-index more)) c.more.invariant))
