use Rattle.std.proofs.lemmas.Result.{IfOk-from_err}
use Rattle.std.proofs.Common.{◌≡◌, ℕ, false, ◌+◌, ◌≤◌, cond, List, length, map, get_or, refl, ap, ◌∙◌, arith}
use Rattle.aig_words.proofs.Grown.{Grew-refl, Grew-then}
use Rattle.svex_shape.specs.Shapes.{shape_at, width_at}
use Rattle.pair_words.specs.declared.pairs.Pair.{Pair}
use Rattle.svex_blast.specs.Sizes.{gates_of, gates_to}
use Rattle.std.proofs.lemmas.List.{length_push}
use Rattle.pair_words.proofs.Growing.{wired-later, Grew_at}
use Rattle.svex_blast.proofs.Walking.{vectors_none, vectors_more, shared_none, shared_more, gates_none, gates_more, gates_rise}
use Rattle.svex_blast.proofs.walk.all_vectors.Goals as goal

pub loop-node-init : goal.loop-node-init
loop-node-init c =
    rw c.new-done.ensures.items (record {
      grew = rw (gates_none c.args.arena.now c.args.marks.now) (Grew-refl 0 c.args.aig.now);
      long = refl;
      vectors = vectors_none c.args.arena.now c.args.marks.now c.args.vars.now c.args.aig.now;
      shared = shared_none (map (λ (w : List Pair). length w) c.args.vars.now) c.args.arena.now c.args.marks.now;
    })

pub loop-node-preserved : goal.loop-node-preserved
loop-node-preserved c =
    let shapes = c.args.arena.now in
    let marks = c.args.marks.now in
    let n : ℕ = c.loop-node.node in
    let done = c.loop-node.done.items in
    let m : ℕ = length c.deref.result.now in
    let same : m ≡ length done = ap (λ (t : List (List Pair)). length t) c.deref.ensures.value in
    let e : m ≡ n = same ∙ c.loop-node.invariant.long in
    let grew = Grew_at _ (cond (get_or marks n false) (gates_of (width_at shapes) (shape_at shapes n)) 0) _ _ (ap (λ k. cond (get_or marks k false) (gates_of (width_at shapes) (shape_at shapes k)) 0) e) c.in_ok-word.ensures.grew in
    rw (c.in_ok-push.ensures.items, c.from_vec.ensures) (record {
      grew = rw (gates_more shapes marks n) (Grew-then (gates_to shapes marks n) _ _ c.args.aig.now c.loop-node.aig _ (omega arith) c.loop-node.invariant.grew grew);
      long = length_push done c.in_ok-word.word.items ∙ ap (λ k. k + 1) c.loop-node.invariant.long;
      vectors = vectors_more shapes marks c.args.vars.now c.loop-node.aig c.next_vector.new.aig done m c.in_ok-word.word.items same grew.grows c.loop-node.invariant.vectors c.in_ok-word.ensures.word c.in_ok-word.ensures.value;
      shared = shared_more (map (λ (w : List Pair). length w) c.args.vars.now) shapes marks done m c.in_ok-word.word.items same c.loop-node.invariant.shared c.in_ok-word.ensures.shared;
    })

pub next_vector-requires-clause-vars_in : goal.next_vector-requires-clause-vars_in
next_vector-requires-clause-vars_in c = λ k d lt. wired-later c.args.aig.now c.loop-node.aig _ c.loop-node.invariant.grew.grows (c.requires.vars_in k d lt)

pub returns-in_err-word-clause-grew : goal.returns-in_err-word-clause-grew
returns-in_err-word-clause-grew c =
    let shapes = c.args.arena.now in
    let marks = c.args.marks.now in
    let n : ℕ = c.loop-node.node in
    let e : length c.deref.result.now ≡ n = ap (λ (t : List (List Pair)). length t) c.deref.ensures.value ∙ c.loop-node.invariant.long in
    let rise : gates_to shapes marks (n + 1) ≤ gates_to shapes marks (length marks) = gates_rise shapes marks (n + 1) (length marks) (omega arith) in
    let more = gates_more shapes marks n in
    let step = Grew_at _ (cond (get_or marks n false) (gates_of (width_at shapes) (shape_at shapes n)) 0) _ _ (ap (λ k. cond (get_or marks k false) (gates_of (width_at shapes) (shape_at shapes k)) 0) e) c.in_err-word.ensures.grew in
    Grew-then (gates_to shapes marks n) (cond (get_or marks n false) (gates_of (width_at shapes) (shape_at shapes n)) 0) (gates_to shapes marks (length marks)) c.args.aig.now c.loop-node.aig _ (omega (arith, rise, more)) c.loop-node.invariant.grew step

pub returns-in_err-push-clause-grew : goal.returns-in_err-push-clause-grew
returns-in_err-push-clause-grew c =
    let shapes = c.args.arena.now in
    let marks = c.args.marks.now in
    let n : ℕ = c.loop-node.node in
    let e : length c.deref.result.now ≡ n = ap (λ (t : List (List Pair)). length t) c.deref.ensures.value ∙ c.loop-node.invariant.long in
    let rise : gates_to shapes marks (n + 1) ≤ gates_to shapes marks (length marks) = gates_rise shapes marks (n + 1) (length marks) (omega arith) in
    let more = gates_more shapes marks n in
    let step = Grew_at _ (cond (get_or marks n false) (gates_of (width_at shapes) (shape_at shapes n)) 0) _ _ (ap (λ k. cond (get_or marks k false) (gates_of (width_at shapes) (shape_at shapes k)) 0) e) c.in_ok-word.ensures.grew in
    Grew-then (gates_to shapes marks n) (cond (get_or marks n false) (gates_of (width_at shapes) (shape_at shapes n)) 0) (gates_to shapes marks (length marks)) c.args.aig.now c.loop-node.aig _ (omega (arith, rise, more)) c.loop-node.invariant.grew step

pub returns-in_err-push-clause-long : goal.returns-in_err-push-clause-long
returns-in_err-push-clause-long c = IfOk-from_err _ _ c.from_residual-in_err-push.ensures.0

pub returns-in_err-push-clause-shared : goal.returns-in_err-push-clause-shared
returns-in_err-push-clause-shared c = IfOk-from_err _ _ c.from_residual-in_err-push.ensures.0

pub returns-in_err-push-clause-vectors : goal.returns-in_err-push-clause-vectors
returns-in_err-push-clause-vectors c = IfOk-from_err _ _ c.from_residual-in_err-push.ensures.0

pub returns-in_err-word-clause-long : goal.returns-in_err-word-clause-long
returns-in_err-word-clause-long c = IfOk-from_err _ _ c.from_residual.ensures.0

pub returns-in_err-word-clause-shared : goal.returns-in_err-word-clause-shared
returns-in_err-word-clause-shared c = IfOk-from_err _ _ c.from_residual.ensures.0

pub returns-in_err-word-clause-vectors : goal.returns-in_err-word-clause-vectors
returns-in_err-word-clause-vectors c = IfOk-from_err _ _ c.from_residual.ensures.0
