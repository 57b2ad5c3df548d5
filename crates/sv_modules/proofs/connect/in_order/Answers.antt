use Rattle.std.proofs.Common.{◌∙◌, ◌+◌, map, drop, sym, ap, subst, refl, Err, arith, Bor}
use Rattle.std.proofs.lemmas.List.{length-map}
use Rattle.sv_tree.specs.declared.word.Word.{Word}
use Rattle.sv_meaning.specs.Params.{in_order}
use Rattle.sv_loops.specs.Answers.{Gives}
use Rattle.sv_modules.specs.Naming.{texts_of}
use Rattle.sv_modules.specs.Connections.{connection_is}
use Rattle.sv_modules.proofs.Turns.{get_map}
use Rattle.sv_outside.specs.declared.refusal.TextErr.TheVariants.{No}
use Rattle.sv_modules.proofs.Pinned.{behind, order_next, order_unknown, order_end, listed_err, listed_ok, given_next}
use Rattle.sv_modules.proofs.connect.in_order.Goals as goal

pub returns-then-at-names : goal.returns-then-at-names
returns-then-at-names c = λ at.
    let e = length-map c.args.names.now (λ (w : Bor Word). w.now.text) in
    listed_err (in_order at (texts_of c.args.names.now) c.args.exprs.now) (No c.refusal.result)
    (subst (λ x. Gives (in_order at (texts_of c.args.names.now) c.args.exprs.now) (Err (No x))) (sym c.refusal.ensures)
    (order_unknown at (in_order at (texts_of c.args.names.now) c.args.exprs.now) (texts_of c.args.names.now) c.args.exprs.now c.exprs.at c.index-exprs-at.result c.start.result (map connection_is c.exprs.list.items) (omega (arith, e, c.if-at-names.true)) c.exprs-test.true c.index-exprs-at.is (c.start.ensures at) (c.exprs.invariant at)))

pub exprs-preserved : goal.exprs-preserved
exprs-preserved c = λ at.
    let e = length-map c.args.names.now (λ (w : Bor Word). w.now.text) in
    order_next at (in_order at (texts_of c.args.names.now) c.args.exprs.now) (texts_of c.args.names.now) c.args.exprs.now c.exprs.at c.index-names-at.result.now.text c.index-exprs-at.result (map connection_is c.exprs.list.items) (omega (arith, e, c.if-at-names.false))
    (ap (λ (w : Bor Word). w.now.text) c.index-names-at.is ∙ sym (get_map (λ (w : Bor Word). w.now.text) c.args.names.now c.exprs.at c.index-names-at.result))
    c.exprs-test.true c.index-exprs-at.is (c.exprs.invariant at)
    ∙ ap (λ all. behind all (in_order at (drop (c.exprs.at + 1) (texts_of c.args.names.now)) (drop (c.exprs.at + 1) c.args.exprs.now)))
    (sym (given_next c.exprs.list.items c.push.new.self.items _ c.index-names-at.result.now.text c.index-exprs-at.result c.in_ok-push.ensures.items refl))

pub returns : goal.returns
returns c = λ at. listed_ok (in_order at (texts_of c.args.names.now) c.args.exprs.now) c.exprs.list (order_end at (in_order at (texts_of c.args.names.now) c.args.exprs.now) (texts_of c.args.names.now) c.args.exprs.now c.exprs.at (map connection_is c.exprs.list.items) (omega (arith, c.exprs-test.false)) (c.exprs.invariant at))
