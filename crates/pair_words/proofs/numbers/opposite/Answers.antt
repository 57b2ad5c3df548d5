use Rattle.std.proofs.lemmas.Result.{IfOk-from_err}
use Rattle.std.proofs.Common.{◌≡◌, ℕ, ◌+◌, ◌-◌, ◌*◌, ◌%◌, ◌^◌, ◌<◌, List, length, replicate, false, sym, ap, subst, ◌∙◌, arith}
use Rattle.std.proofs.lemmas.List.{length-replicate}
use Rattle.aig.specs.declared.gate.Lit.{Lit}
use Rattle.aig.specs.Graph.{constant_lit}
use Rattle.aig_words.specs.Words.{number}
use Rattle.aig_words.proofs.Numbers.{number-zeros}
use Rattle.aig_words.proofs.Grown.{Grew-refl, zeros_in, some_node, if_ok}
use Rattle.pair_words.proofs.Growing.{Grew_at, word_at, literals_at}
use Rattle.pair_words.proofs.numbers.opposite.Goals as goal

pub sub-requires-clause-some : goal.sub-requires-clause-some
sub-requires-clause-some c =
    let a = c.args.a.now in
    let zeros : c.deref.result.now ≡ replicate (length a) (constant_lit false) = c.deref.ensures.value ∙ c.in_ok-none.ensures in
    let long : length c.deref.result.now ≡ length a = ap (λ (xs : List Lit). length xs) zeros ∙ length-replicate (length a) (constant_lit false) in
    subst (λ n. 0 < n) (sym long) c.requires.some

pub sub-requires-clause-same : goal.sub-requires-clause-same
sub-requires-clause-same c =
    let a = c.args.a.now in
    let zeros : c.deref.result.now ≡ replicate (length a) (constant_lit false) = c.deref.ensures.value ∙ c.in_ok-none.ensures in
    let long : length c.deref.result.now ≡ length a = ap (λ (xs : List Lit). length xs) zeros ∙ length-replicate (length a) (constant_lit false) in
    long

pub sub-requires-clause-a_in : goal.sub-requires-clause-a_in
sub-requires-clause-a_in c =
    let a = c.args.a.now in
    let zeros : c.deref.result.now ≡ replicate (length a) (constant_lit false) = c.deref.ensures.value ∙ c.in_ok-none.ensures in
    let long : length c.deref.result.now ≡ length a = ap (λ (xs : List Lit). length xs) zeros ∙ length-replicate (length a) (constant_lit false) in
    literals_at c.args.aig.now _ c.deref.result.now zeros (zeros_in c.args.aig.now (length a) (some_node c.args.aig.now a c.requires.some c.requires.a_in))

pub sub-requires-clause-b_in : goal.sub-requires-clause-b_in
sub-requires-clause-b_in c = c.requires.a_in

pub returns-in_err-none-clause-grew : goal.returns-in_err-none-clause-grew
returns-in_err-none-clause-grew c = Grew-refl _ c.args.aig.now

pub returns-clause-grew : goal.returns-clause-grew
returns-clause-grew c =
    let a = c.args.a.now in
    let zeros : c.deref.result.now ≡ replicate (length a) (constant_lit false) = c.deref.ensures.value ∙ c.in_ok-none.ensures in
    let long : length c.deref.result.now ≡ length a = ap (λ (xs : List Lit). length xs) zeros ∙ length-replicate (length a) (constant_lit false) in
    Grew_at (7 * length c.deref.result.now) (7 * length a) c.args.aig.now c.sub.new.aig (ap (λ n. 7 * n) long) c.sub.ensures.grew

pub returns-clause-word : goal.returns-clause-word
returns-clause-word c =
    let a = c.args.a.now in
    let zeros : c.deref.result.now ≡ replicate (length a) (constant_lit false) = c.deref.ensures.value ∙ c.in_ok-none.ensures in
    let long : length c.deref.result.now ≡ length a = ap (λ (xs : List Lit). length xs) zeros ∙ length-replicate (length a) (constant_lit false) in
    if_ok c.sub.result _ _ c.sub.ensures.word (λ r h. word_at c.sub.new.aig _ (length a) r.items long h)

pub returns-clause-value : goal.returns-clause-value
returns-clause-value c =
    let a = c.args.a.now in
    let zeros : c.deref.result.now ≡ replicate (length a) (constant_lit false) = c.deref.ensures.value ∙ c.in_ok-none.ensures in
    let long : length c.deref.result.now ≡ length a = ap (λ (xs : List Lit). length xs) zeros ∙ length-replicate (length a) (constant_lit false) in
    if_ok c.sub.result _ _ c.sub.ensures.value (λ r h v o.
    let none : number v c.deref.result.now ≡ 0 = ap (λ (xs : List Lit). number v xs) zeros ∙ number-zeros v (length a) o.bottom in
    h.obeyed v o ∙ (λ i. (none i + (2 ^ long i - number v a)) % 2 ^ long i) ∙
    ap (λ n. n % 2 ^ length a) (let less : ℕ = 2 ^ length a - number v a in let same : 0 + less ≡ less = omega arith in same))

pub returns-in_err-none-clause-value : goal.returns-in_err-none-clause-value
returns-in_err-none-clause-value c = IfOk-from_err _ _ c.from_residual.ensures.0

pub returns-in_err-none-clause-word : goal.returns-in_err-none-clause-word
returns-in_err-none-clause-word c = IfOk-from_err _ _ c.from_residual.ensures.0
