use Rattle.std.proofs.lemmas.Result.{IfOk-from_err}
use Rattle.std.proofs.Common.{◌≡◌, ◌*◌, List, length, cond, ap, ◌∙◌}
use Rattle.aig.specs.Graph.{holds}
use Rattle.aig_words.proofs.Grown.{Grew-refl, if_ok}
use Rattle.fourvec.specs.declared.Bit.{Bit}
use Rattle.pair_words.specs.declared.pairs.Pair.{Pair}
use Rattle.pair_words.specs.Rails.{bits}
use Rattle.pair_words.specs.Ways.{moved}
use Rattle.pair_words.proofs.Growing.{vector_at, wired_at, Grew_at}
use Rattle.pair_words.proofs.Moving.{moved_in, moved_is, length-moved}
use Rattle.pair_words.proofs.shifts.moved_where.Goals as goal

pub pick_vector-requires-clause-same : goal.pick_vector-requires-clause-same
pick_vector-requires-clause-same c =
    let a = c.args.a.now in
    let same : c.deref.result.now ≡ moved c.args.way c.args.k a = c.deref.ensures.value ∙ c.in_ok-moved.ensures in
    let long : length c.deref.result.now ≡ length a = ap (λ (t : List Pair). length t) same ∙ length-moved c.args.way c.args.k a c.requires.far in
    long

pub pick_vector-requires-clause-c_in : goal.pick_vector-requires-clause-c_in
pick_vector-requires-clause-c_in c = c.requires.c_in

pub pick_vector-requires-clause-a_in : goal.pick_vector-requires-clause-a_in
pick_vector-requires-clause-a_in c =
    let a = c.args.a.now in
    let same : c.deref.result.now ≡ moved c.args.way c.args.k a = c.deref.ensures.value ∙ c.in_ok-moved.ensures in
    wired_at c.args.aig.now (moved c.args.way c.args.k a) c.deref.result.now same (moved_in c.args.aig.now c.args.way c.args.k a c.requires.node c.requires.way_in c.requires.a_in)

pub pick_vector-requires-clause-b_in : goal.pick_vector-requires-clause-b_in
pick_vector-requires-clause-b_in c = c.requires.a_in

pub returns-in_err-moved-clause-grew : goal.returns-in_err-moved-clause-grew
returns-in_err-moved-clause-grew c = Grew-refl _ c.args.aig.now

pub returns-clause-grew : goal.returns-clause-grew
returns-clause-grew c =
    let a = c.args.a.now in
    let same : c.deref.result.now ≡ moved c.args.way c.args.k a = c.deref.ensures.value ∙ c.in_ok-moved.ensures in
    let long : length c.deref.result.now ≡ length a = ap (λ (t : List Pair). length t) same ∙ length-moved c.args.way c.args.k a c.requires.far in
    Grew_at (6 * length c.deref.result.now) (6 * length a) c.args.aig.now _ (ap (λ n. 6 * n) long) c.pick_vector.ensures.grew

pub returns-clause-word : goal.returns-clause-word
returns-clause-word c =
    let a = c.args.a.now in
    let same : c.deref.result.now ≡ moved c.args.way c.args.k a = c.deref.ensures.value ∙ c.in_ok-moved.ensures in
    let long : length c.deref.result.now ≡ length a = ap (λ (t : List Pair). length t) same ∙ length-moved c.args.way c.args.k a c.requires.far in
    if_ok c.pick_vector.result _ _ c.pick_vector.ensures.word (λ r h. vector_at _ _ (length a) r.items long h)

pub returns-clause-value : goal.returns-clause-value
returns-clause-value c =
    let a = c.args.a.now in
    let same : c.deref.result.now ≡ moved c.args.way c.args.k a = c.deref.ensures.value ∙ c.in_ok-moved.ensures in
    if_ok c.pick_vector.result _ _ c.pick_vector.ensures.value (λ r h v o.
    h v o ∙ ap (λ (t : List Pair). cond (holds v c.args.c) (bits v t) (bits v a)) same ∙
    ap (λ (t : List Bit). cond (holds v c.args.c) t (bits v a)) (moved_is v c.args.way c.args.k a o.bottom c.requires.far))

pub returns-in_err-moved-clause-value : goal.returns-in_err-moved-clause-value
returns-in_err-moved-clause-value c = IfOk-from_err _ _ c.from_residual.ensures.0

pub returns-in_err-moved-clause-word : goal.returns-in_err-moved-clause-word
returns-in_err-moved-clause-word c = IfOk-from_err _ _ c.from_residual.ensures.0
