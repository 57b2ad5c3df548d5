use Rattle.std.proofs.lemmas.Result.{IfOk-from_err}
use Rattle.std.proofs.Common.{◌≡◌, ◌*◌, List, length, map, cond, ap, ◌∙◌}
use Rattle.std.proofs.lemmas.List.{length-map}
use Rattle.aig.specs.Graph.{holds}
use Rattle.aig_words.proofs.Grown.{Grew-refl, if_ok}
use Rattle.fourvec.specs.Bits.{all_x}
use Rattle.pair_words.specs.declared.pairs.Pair.{Pair}
use Rattle.pair_words.specs.Rails.{bits}
use Rattle.pair_words.specs.Truths.{known_pair}
use Rattle.pair_words.proofs.Growing.{vector_at, wired_at, Grew_at}
use Rattle.pair_words.proofs.Truths.{pairs_are, pairs_in}
use Rattle.pair_words.proofs.numbers.guarded.Goals as goal

pub vector_or_x-requires-clause-c_in : goal.vector_or_x-requires-clause-c_in
vector_or_x-requires-clause-c_in c = c.requires.c_in

pub vector_or_x-requires-clause-a_in : goal.vector_or_x-requires-clause-a_in
vector_or_x-requires-clause-a_in c =
    let same : c.deref.result.now ≡ map known_pair c.args.word.now = c.deref.ensures.value ∙ c.in_ok-vector.ensures in
    wired_at c.args.aig.now (map known_pair c.args.word.now) c.deref.result.now same (pairs_in c.args.aig.now c.args.word.now c.requires.word_in)

pub returns-in_err-vector-clause-grew : goal.returns-in_err-vector-clause-grew
returns-in_err-vector-clause-grew c = Grew-refl _ c.args.aig.now

pub returns-clause-grew : goal.returns-clause-grew
returns-clause-grew c =
    let same : c.deref.result.now ≡ map known_pair c.args.word.now = c.deref.ensures.value ∙ c.in_ok-vector.ensures in
    let long : length c.deref.result.now ≡ length c.args.word.now = ap (λ (t : List Pair). length t) same ∙ length-map c.args.word.now known_pair in
    Grew_at (2 * length c.deref.result.now) (2 * length c.args.word.now) c.args.aig.now _ (ap (λ n. 2 * n) long) c.vector_or_x.ensures.grew

pub returns-clause-word : goal.returns-clause-word
returns-clause-word c =
    let same : c.deref.result.now ≡ map known_pair c.args.word.now = c.deref.ensures.value ∙ c.in_ok-vector.ensures in
    let long : length c.deref.result.now ≡ length c.args.word.now = ap (λ (t : List Pair). length t) same ∙ length-map c.args.word.now known_pair in
    if_ok c.vector_or_x.result _ _ c.vector_or_x.ensures.word (λ r h. vector_at _ _ (length c.args.word.now) r.items long h)

pub returns-clause-value : goal.returns-clause-value
returns-clause-value c =
    let same : c.deref.result.now ≡ map known_pair c.args.word.now = c.deref.ensures.value ∙ c.in_ok-vector.ensures in
    let long : length c.deref.result.now ≡ length c.args.word.now = ap (λ (t : List Pair). length t) same ∙ length-map c.args.word.now known_pair in
    if_ok c.vector_or_x.result _ _ c.vector_or_x.ensures.value (λ r h v o.
    h v o ∙ ap (λ (t : List Pair). cond (holds v c.args.c) (bits v t) (all_x (length t))) same ∙
    (λ i. cond (holds v c.args.c) (pairs_are v c.args.word.now i) (all_x (length-map c.args.word.now known_pair i))))

pub returns-in_err-vector-clause-value : goal.returns-in_err-vector-clause-value
returns-in_err-vector-clause-value c = IfOk-from_err _ _ c.from_residual.ensures.0

pub returns-in_err-vector-clause-word : goal.returns-in_err-vector-clause-word
returns-in_err-vector-clause-word c = IfOk-from_err _ _ c.from_residual.ensures.0
