use Rattle.std.proofs.lemmas.Result.{IfOk-from_err}
use Rattle.std.proofs.Common.{◌≡◌, true, ℕ, List, length, map, ap, sym, subst, ◌∙◌, arith}
use Rattle.aig.proofs.Growth.{Obeys-older}
use Rattle.svex_shape.specs.declared.shape.Shape.{Shape}
use Rattle.svex_shape.specs.Shapes.{OnChildren, ChildrenBelow, FitsWidths, shape_at, width_at, width_of}
use Rattle.svex_shape.specs.Values.{value_of}
use Rattle.pair_words.specs.Rails.{bits}
use Rattle.svex_blast.specs.Sizes.{gates_of}
use Rattle.pair_words.specs.declared.pairs.Pair.{Pair}
use Rattle.svex_blast.specs.Knowns.{known_of, is_declared, are_twins}
use Rattle.svex_blast.specs.Reads.{reading_at, word_in, IsReady}
use Rattle.pair_words.proofs.Growing.{Grew_at, vector_at}
use Rattle.svex_blast.proofs.Walking.{next_ready, next_fits, next_gates, next_width, next_value, next_shared, wide_children}
use Rattle.svex_blast.proofs.Knowing.{known_widths}
use Rattle.svex_blast.proofs.walk.marked_vector.Goals as goal

pub known_vector-requires-clause-children : goal.known_vector-requires-clause-children
known_vector-requires-clause-children c =
    let shapes = c.args.arena.now in
    let marks = c.args.marks.now in
    let vars = c.args.vars.now in
    let done = c.args.done.now in
    let n : ℕ = length done in
    let e = c.shape_of-shape.ensures.is in
    let arena = c.shape_of-shape.ensures.arena in
    subst (λ (s : Shape). ChildrenBelow n s) (sym e) (arena.children n (omega (arith, c.requires.here, c.requires.marks)))

pub known_vector-requires-clause-ready : goal.known_vector-requires-clause-ready
known_vector-requires-clause-ready c =
    let shapes = c.args.arena.now in
    let marks = c.args.marks.now in
    let vars = c.args.vars.now in
    let done = c.args.done.now in
    let n : ℕ = length done in
    let e = c.shape_of-shape.ensures.is in
    let arena = c.shape_of-shape.ensures.arena in
    subst (λ (s : Shape). OnChildren (IsReady c.args.aig.now done) s) (sym e) (next_ready shapes marks vars c.args.aig.now done arena c.requires.marks c.requires.closed c.requires.here c.requires.marked c.requires.so_far)

pub known_vector-requires-clause-fits : goal.known_vector-requires-clause-fits
known_vector-requires-clause-fits c =
    let shapes = c.args.arena.now in
    let marks = c.args.marks.now in
    let vars = c.args.vars.now in
    let done = c.args.done.now in
    let n : ℕ = length done in
    let e = c.shape_of-shape.ensures.is in
    let arena = c.shape_of-shape.ensures.arena in
    subst (λ (s : Shape). FitsWidths (λ k. length (word_in done k)) s) (sym e) (next_fits shapes marks vars c.args.aig.now done arena c.requires.marks c.requires.closed c.requires.here c.requires.marked c.requires.so_far)

pub returns-clause-grew : goal.returns-clause-grew
returns-clause-grew c =
    let shapes = c.args.arena.now in
    let marks = c.args.marks.now in
    let vars = c.args.vars.now in
    let done = c.args.done.now in
    let n : ℕ = length done in
    let e = c.shape_of-shape.ensures.is in
    let arena = c.shape_of-shape.ensures.arena in
    Grew_at _ _ _ _ (ap (λ (s : Shape). gates_of (λ k. length (word_in done k)) s) e ∙ next_gates shapes marks vars c.args.aig.now done arena c.requires.marks c.requires.closed c.requires.here c.requires.marked c.requires.so_far) c.in_ok-word.ensures.grew

pub returns-in_err-word-clause-grew : goal.returns-in_err-word-clause-grew
returns-in_err-word-clause-grew c =
    let shapes = c.args.arena.now in
    let marks = c.args.marks.now in
    let vars = c.args.vars.now in
    let done = c.args.done.now in
    let n : ℕ = length done in
    let e = c.shape_of-shape.ensures.is in
    let arena = c.shape_of-shape.ensures.arena in
    Grew_at _ _ _ _ (ap (λ (s : Shape). gates_of (λ k. length (word_in done k)) s) e ∙ next_gates shapes marks vars c.args.aig.now done arena c.requires.marks c.requires.closed c.requires.here c.requires.marked c.requires.so_far) c.in_err-word.ensures.grew

pub returns-clause-word : goal.returns-clause-word
returns-clause-word c =
    let shapes = c.args.arena.now in
    let marks = c.args.marks.now in
    let vars = c.args.vars.now in
    let done = c.args.done.now in
    let n : ℕ = length done in
    let e = c.shape_of-shape.ensures.is in
    let arena = c.shape_of-shape.ensures.arena in
    vector_at _ _ _ c.in_ok-word.word.items (ap (λ (s : Shape). width_of (λ k. length (word_in done k)) s) e ∙ next_width shapes marks vars c.args.aig.now done arena c.requires.marks c.requires.closed c.requires.here c.requires.marked c.requires.so_far) c.in_ok-word.ensures.word

pub returns-clause-value : goal.returns-clause-value
returns-clause-value c = λ v o.
    let shapes = c.args.arena.now in
    let marks = c.args.marks.now in
    let vars = c.args.vars.now in
    let done = c.args.done.now in
    let n : ℕ = length done in
    let e = c.shape_of-shape.ensures.is in
    let arena = c.shape_of-shape.ensures.arena in
    c.in_ok-word.ensures.value v o ∙ ap (λ (s : Shape). value_of (reading_at v vars) (λ k. bits v (word_in done k)) s) e ∙
    next_value shapes marks vars c.args.aig.now done v arena c.requires.marks c.requires.closed c.requires.here c.requires.marked c.requires.so_far (Obeys-older v _ _ c.in_ok-word.ensures.grew.grows o)

pub returns-clause-shared : goal.returns-clause-shared
returns-clause-shared c = λ known.
    let shapes = c.args.arena.now in
    let marks = c.args.marks.now in
    let vars = c.args.vars.now in
    let done = c.args.done.now in
    let e = c.shape_of-shape.ensures.is in
    let arena = c.shape_of-shape.ensures.arena in
    let widths : List ℕ = map (λ (w : List Pair). length w) vars in
    let next = next_shared widths shapes marks done arena c.requires.marks c.requires.closed c.requires.here c.requires.marked c.requires.shared_so_far known in
    let same = known_widths (is_declared widths) (λ k. length (word_in done k)) (width_at shapes) (λ k. are_twins (word_in done k)) (shape_at shapes (length done))
    (wide_children shapes marks vars c.args.aig.now done arena c.requires.marks c.requires.closed c.requires.here c.requires.marked c.requires.so_far) in
    c.in_ok-word.ensures.shared (subst (λ (s : Shape). known_of (is_declared widths) (λ k. length (word_in done k)) (λ k. are_twins (word_in done k)) s ≡ true) (sym e) (same ∙ next))

pub returns-in_err-word-clause-shared : goal.returns-in_err-word-clause-shared
returns-in_err-word-clause-shared c = IfOk-from_err _ _ c.from_residual.ensures.0

pub returns-in_err-word-clause-value : goal.returns-in_err-word-clause-value
returns-in_err-word-clause-value c = IfOk-from_err _ _ c.from_residual.ensures.0

pub returns-in_err-word-clause-word : goal.returns-in_err-word-clause-word
returns-in_err-word-clause-word c = IfOk-from_err _ _ c.from_residual.ensures.0
