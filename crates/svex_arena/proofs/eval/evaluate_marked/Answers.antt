use Rattle.std.proofs.Common.{◌≡◌, [], sym, ap, ◌∙◌, subst, rules, arith}
use Rattle.std.proofs.lemmas.List.{get_or_read}
use Rattle.svex_shape.specs.declared.shape.Shape.TheVariants.{Const}
use Rattle.svex_shape.specs.Shapes.{FitsWidths, shape_at}
use Rattle.svex_shape.specs.Values.{read, value_of}
use Rattle.svex_arena.specs.Evaluated.{value_in, width_in}
use Rattle.svex_arena.specs.Marks.{IsMarked}
use Rattle.svex_shape.proofs.Readings.{read_has_widths}
use Rattle.svex_arena.proofs.Evaluating.{next_fits, next_is, evaluated_marked}
use Rattle.svex_arena.proofs.eval.evaluate_marked.Goals as goal

pub shape_value-value-requires-clause-fits : goal.shape_value-value-requires-clause-fits
shape_value-value-requires-clause-fits c =
    let shapes = c.args.shapes.now in
    let done = c.args.done.now in
    let n = c.args.node in
    let e : c.index-shapes-node.result ≡ shape_at shapes n = get_or_read shapes n _ (omega arith) c.index-shapes-node.is (Const []) in
    let on : IsMarked c.args.marks.now n = search rules in
    subst (λ s. FitsWidths (width_in done) s) (sym e) (next_fits (read c.args.env.now) shapes c.args.marks.now done n (read_has_widths c.args.env.now) c.requires.arena c.requires.within c.requires.closed c.requires.here c.requires.so_far on)

pub returns-then-marks-node : goal.returns-then-marks-node
returns-then-marks-node c =
    let shapes = c.args.shapes.now in
    let done = c.args.done.now in
    let n = c.args.node in
    let e : c.index-shapes-node.result ≡ shape_at shapes n = get_or_read shapes n _ (omega arith) c.index-shapes-node.is (Const []) in
    let on : IsMarked c.args.marks.now n = search rules in
    evaluated_marked (read c.args.env.now) shapes c.args.marks.now done n c.shape_value-value.result c.requires.so_far (omega arith) (c.shape_value-value.ensures ∙ ap (value_of (read c.args.env.now) (value_in done)) e ∙ next_is (read c.args.env.now) shapes c.args.marks.now done n c.requires.arena c.requires.within c.requires.closed c.requires.here c.requires.so_far on)
