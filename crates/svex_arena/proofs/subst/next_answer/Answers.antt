use Rattle.std.proofs.Common.{◌≡◌, ℕ, length, ap, ◌∙◌, get_or, true, false, sym, subst, arith}
use Rattle.std.proofs.lemmas.Grind.{common_steps}
use Rattle.svex_shape.specs.declared.shape.Shape.{Shape}
use Rattle.svex_shape.specs.Shapes.{ChildrenBelow, FitsWidths, width_at, shape_at}
use Rattle.svex_arena.specs.Arenas.{Interned}
use Rattle.svex_arena.proofs.Keeping.{extends_self, if_ok}
use Rattle.svex_arena.proofs.Substituting.{next_unmarked, next_replaced, next_interned, next_children, next_fits}
use Rattle.svex_arena.proofs.subst.next_answer.Goals as goal

pub returns-then-not-marks-at-clause-more : goal.returns-then-not-marks-at-clause-more
returns-then-not-marks-at-clause-more c =
    let marks = c.args.marks.now in
    let done = c.args.done.now in
    let off : get_or marks (length done) false ≡ false = grind (arith, common_steps) in
    next_unmarked c.args.len c.args.by.now c.args.arena.now marks done c.new.result c.requires.so_far c.requires.here off

pub intern-requires-clause-fits : goal.intern-requires-clause-fits
intern-requires-clause-fits c =
    let marks = c.args.marks.now in
    let done = c.args.done.now in
    let s = c.shape-shape.result in
    let on : get_or marks (length done) false ≡ true = grind (arith, common_steps) in
    let is : s ≡ shape_at c.args.arena.now (length done) = c.shape-shape.ensures.is ∙ ap (λ (k : ℕ). shape_at c.args.arena.now k) c.new-2.ensures in
    subst (FitsWidths (width_at c.args.arena.now)) (sym c.rename.ensures) (next_fits c.args.len c.args.by.now c.args.arena.now marks done s c.requires.so_far c.requires.here on is)

pub intern-requires-clause-children : goal.intern-requires-clause-children
intern-requires-clause-children c =
    let marks = c.args.marks.now in
    let done = c.args.done.now in
    let s = c.shape-shape.result in
    let on : get_or marks (length done) false ≡ true = grind (arith, common_steps) in
    let is : s ≡ shape_at c.args.arena.now (length done) = c.shape-shape.ensures.is ∙ ap (λ (k : ℕ). shape_at c.args.arena.now k) c.new-2.ensures in
    subst (λ (t : Shape). ChildrenBelow (length c.args.arena.now) t) (sym c.rename.ensures) (next_children c.args.len c.args.by.now c.args.arena.now marks done s c.requires.so_far c.requires.here on is)

pub returns-in-None-clause-more : goal.returns-in-None-clause-more
returns-in-None-clause-more c =
    let now = c.args.arena.now in
    let next = c.intern.new.self in
    let done = c.args.done.now in
    let s = c.shape-shape.result in
    let is : s ≡ shape_at now (length done) = c.shape-shape.ensures.is ∙ ap (λ (k : ℕ). shape_at now k) c.new-2.ensures in
    if_ok _ _ _ c.intern.ensures.is (λ n h.
    next_interned c.args.len c.args.by.now now next c.args.marks.now done s c.replacement.result n c.requires.so_far c.requires.here is c.replacement.ensures c.in-None.is c.intern.ensures.arena c.intern.ensures.extends
    (subst (λ (t : Shape). Interned now t next n) c.rename.ensures h))

pub returns-in-None-clause-extends : goal.returns-in-None-clause-extends
returns-in-None-clause-extends c = c.intern.ensures.extends

pub returns-in-Some-clause-more : goal.returns-in-Some-clause-more
returns-in-Some-clause-more c =
    let now = c.args.arena.now in
    let done = c.args.done.now in
    let s = c.shape-shape.result in
    let is : s ≡ shape_at now (length done) = c.shape-shape.ensures.is ∙ ap (λ (k : ℕ). shape_at now k) c.new-2.ensures in
    next_replaced c.args.len c.args.by.now now c.args.marks.now done s c.replacement.result c.in-Some.node c.requires.so_far c.requires.here is c.replacement.ensures c.in-Some.is

pub returns-in-Some-clause-extends : goal.returns-in-Some-clause-extends
returns-in-Some-clause-extends c = extends_self c.args.arena.now

pub returns-then-not-marks-at-clause-extends : goal.returns-then-not-marks-at-clause-extends
returns-then-not-marks-at-clause-extends c = extends_self c.args.arena.now
