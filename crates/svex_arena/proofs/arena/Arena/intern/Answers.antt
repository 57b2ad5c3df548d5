use Rattle.std.proofs.Common.{List, length, sym, ◌∙◌, subst}
use Rattle.std.proofs.lemmas.Result.{IfOk-from_err}
use Rattle.svex_shape.specs.declared.shape.Shape.{Shape}
use Rattle.svex_shape.specs.Shapes.{ChildrenBelow, FitsWidths, width_at}
use Rattle.svex_arena.specs.Arenas.{Interned, Extends}
use Rattle.svex_arena.proofs.Keeping.{extends_self, interned_extends, on_err}
use Rattle.svex_arena.proofs.arena.Arena.intern.Goals as goal

pub intern_in-requires-clause-children : goal.intern_in-requires-clause-children
intern_in-requires-clause-children c = subst (λ (xs : List Shape). ChildrenBelow (length xs) c.args.shape) (sym c.self.view_is) c.requires.children

pub intern_in-requires-clause-fits : goal.intern_in-requires-clause-fits
intern_in-requires-clause-fits c = subst (λ (xs : List Shape). FitsWidths (width_at xs) c.args.shape) (sym c.self.view_is) c.requires.fits

pub intern_in-requires-clause-kept : goal.intern_in-requires-clause-kept
intern_in-requires-clause-kept c = c.self.invariant

pub invariant_of-self : goal.invariant_of-self
invariant_of-self c = c.intern_in.ensures.kept

pub invariant_of-self-2 : goal.invariant_of-self-2
invariant_of-self-2 c = c.intern_in.ensures.kept

pub returns-clause-is : goal.returns-clause-is
returns-clause-is c =
    let new = c.intern_in.new.shapes.items in
    let s = c.args.shape in
    subst (λ (xs : List Shape). Interned xs s new c.new.result) c.self.view_is
    (subst (λ n. Interned c.self.inside.shapes.items s new n) (sym c.new.ensures) c.in_ok-node.ensures.is)

pub returns-clause-err : goal.returns-clause-err
returns-clause-err c = tt

pub returns-clause-extends : goal.returns-clause-extends
returns-clause-extends c =
    let new = c.intern_in.new.shapes.items in
    subst (λ (xs : List Shape). Extends xs new) c.self.view_is (interned_extends c.self.inside.shapes.items c.args.shape new c.in_ok-node.node c.in_ok-node.ensures.is)

pub returns-clause-arena : goal.returns-clause-arena
returns-clause-arena c = c.intern_in.ensures.kept.arena

pub returns-in_err-node-clause-is : goal.returns-in_err-node-clause-is
returns-in_err-node-clause-is c = IfOk-from_err _ _ c.from_residual.ensures.0

pub returns-in_err-node-clause-err : goal.returns-in_err-node-clause-err
returns-in_err-node-clause-err c = on_err _ _ (c.in_err-node.ensures.err ∙ c.self.view_is)

pub returns-in_err-node-clause-extends : goal.returns-in_err-node-clause-extends
returns-in_err-node-clause-extends c =
    subst (λ (xs : List Shape). Extends c.args.self.now xs) (sym (c.in_err-node.ensures.err ∙ c.self.view_is)) (extends_self c.args.self.now)

pub returns-in_err-node-clause-arena : goal.returns-in_err-node-clause-arena
returns-in_err-node-clause-arena c = c.intern_in.ensures.kept.arena
