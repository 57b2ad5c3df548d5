use Rattle.std.proofs.lemmas.Result.{IfOk-from_err}
use Rattle.std.proofs.Common.{◌≡◌, ℕ, ◌+◌, ◌*◌, ◌<◌, false, List, length, sym, ap, subst, ◌∙◌, arith}
use Rattle.aig.specs.declared.gate.Lit.{Lit}
use Rattle.aig.specs.Graph.{constant_lit}
use Rattle.aig.proofs.Growth.{Obeys-older, Grows-trans}
use Rattle.aig_words.specs.Words.{Grew, number}
use Rattle.aig_words.proofs.Grown.{Grew-then, Grew-wider, Grew-both, All-later, if_ok}
use Rattle.pair_words.proofs.Growing.{word_at, literals_at, top_in}
use Rattle.pair_words.proofs.Truths.{negative_is, divisor_is, srem_by}
use Rattle.pair_words.proofs.numbers.signed_rest.Goals as goal

pub magnitude-requires-clause-some : goal.magnitude-requires-clause-some
magnitude-requires-clause-some c = c.requires.some

pub magnitude-requires-clause-a_in : goal.magnitude-requires-clause-a_in
magnitude-requires-clause-a_in c = c.requires.a_in

pub magnitude-requires-2-clause-some : goal.magnitude-requires-2-clause-some
magnitude-requires-2-clause-some c = subst (λ m. 0 < m) c.requires.same c.requires.some

pub magnitude-requires-2-clause-a_in : goal.magnitude-requires-2-clause-a_in
magnitude-requires-2-clause-a_in c = All-later c.args.aig.now c.magnitude.new.aig c.args.b.now c.in_ok-first.ensures.grew.grows c.requires.b_in

pub rest_by_sign-requires-clause-some : goal.rest_by_sign-requires-clause-some
rest_by_sign-requires-clause-some c =
    let n : ℕ = length c.args.a.now in
    let same : n ≡ length c.args.b.now = c.requires.same in
    let first : length c.deref.result.now ≡ n = ap (λ (xs : List Lit). length xs) c.deref.ensures.value ∙ c.in_ok-first.ensures.word.long in
    subst (λ m. 0 < m) (sym first) c.requires.some

pub rest_by_sign-requires-clause-same : goal.rest_by_sign-requires-clause-same
rest_by_sign-requires-clause-same c =
    let n : ℕ = length c.args.a.now in
    let same : n ≡ length c.args.b.now = c.requires.same in
    let first : length c.deref.result.now ≡ n = ap (λ (xs : List Lit). length xs) c.deref.ensures.value ∙ c.in_ok-first.ensures.word.long in
    let second : length c.deref-2.result.now ≡ length c.args.b.now = ap (λ (xs : List Lit). length xs) c.deref-2.ensures.value ∙ c.in_ok-second.ensures.word.long in
    first ∙ same ∙ sym second

pub rest_by_sign-requires-clause-first_in : goal.rest_by_sign-requires-clause-first_in
rest_by_sign-requires-clause-first_in c = All-later c.magnitude.new.aig c.magnitude-2.new.aig c.deref.result.now c.in_ok-second.ensures.grew.grows (literals_at c.magnitude.new.aig c.in_ok-first.first.items c.deref.result.now c.deref.ensures.value c.in_ok-first.ensures.word.inside)

pub rest_by_sign-requires-clause-second_in : goal.rest_by_sign-requires-clause-second_in
rest_by_sign-requires-clause-second_in c = literals_at c.magnitude-2.new.aig c.in_ok-second.second.items c.deref-2.result.now c.deref-2.ensures.value c.in_ok-second.ensures.word.inside

pub rest_by_sign-requires-clause-sign_in : goal.rest_by_sign-requires-clause-sign_in
rest_by_sign-requires-clause-sign_in c = top_in c.magnitude-2.new.aig c.args.a.now _ c.requires.some (All-later c.args.aig.now c.magnitude-2.new.aig c.args.a.now (Grows-trans c.args.aig.now c.magnitude.new.aig c.magnitude-2.new.aig c.in_ok-first.ensures.grew.grows c.in_ok-second.ensures.grew.grows) c.requires.a_in)

pub returns-in_err-first-clause-grew : goal.returns-in_err-first-clause-grew
returns-in_err-first-clause-grew c = let n : ℕ = length c.args.a.now in Grew-wider (10 * n) (11 * n * n + 40 * n) c.args.aig.now c.magnitude.new.aig (omega arith) c.in_err-first.ensures.grew

pub returns-in_err-second-clause-grew : goal.returns-in_err-second-clause-grew
returns-in_err-second-clause-grew c =
    let n : ℕ = length c.args.a.now in
    let same : n ≡ length c.args.b.now = c.requires.same in
    Grew-then (10 * n) (10 * length c.args.b.now) (11 * n * n + 40 * n) c.args.aig.now c.magnitude.new.aig c.magnitude-2.new.aig (omega (arith, same)) c.in_ok-first.ensures.grew c.in_err-second.ensures.grew

pub returns-clause-grew : goal.returns-clause-grew
returns-clause-grew c =
    let n : ℕ = length c.args.a.now in
    let same : n ≡ length c.args.b.now = c.requires.same in
    let first : length c.deref.result.now ≡ n = ap (λ (xs : List Lit). length xs) c.deref.ensures.value ∙ c.in_ok-first.ensures.word.long in
    let some : 0 < n = c.requires.some in
    let last : Grew (11 * n * n + 10 * n) c.magnitude-2.new.aig c.rest_by_sign.new.aig = subst (λ (m : ℕ). Grew (11 * m * m + 10 * m) c.magnitude-2.new.aig c.rest_by_sign.new.aig) first c.rest_by_sign.ensures.grew in
    Grew-then (10 * n + 10 * length c.args.b.now) (11 * n * n + 10 * n) (11 * n * n + 40 * n) c.args.aig.now c.magnitude-2.new.aig c.rest_by_sign.new.aig (omega (arith, same, some)) (Grew-both (10 * n) (10 * length c.args.b.now) c.args.aig.now c.magnitude.new.aig c.magnitude-2.new.aig c.in_ok-first.ensures.grew c.in_ok-second.ensures.grew) last

pub returns-clause-word : goal.returns-clause-word
returns-clause-word c =
    let n : ℕ = length c.args.a.now in
    let same : n ≡ length c.args.b.now = c.requires.same in
    let first : length c.deref.result.now ≡ n = ap (λ (xs : List Lit). length xs) c.deref.ensures.value ∙ c.in_ok-first.ensures.word.long in
    if_ok c.rest_by_sign.result _ _ c.rest_by_sign.ensures.word (λ r h. word_at _ _ n r.items first h)

pub returns-clause-value : goal.returns-clause-value
returns-clause-value c =
    let n : ℕ = length c.args.a.now in
    let same : n ≡ length c.args.b.now = c.requires.same in
    let first : length c.deref.result.now ≡ n = ap (λ (xs : List Lit). length xs) c.deref.ensures.value ∙ c.in_ok-first.ensures.word.long in
    if_ok c.rest_by_sign.result _ _ c.rest_by_sign.ensures.value (λ r h v o some.
    let a = c.args.a.now in
    let b = c.args.b.now in
    let o2 = Obeys-older v _ _ c.rest_by_sign.ensures.grew.grows o in
    let o1 = Obeys-older v _ _ c.in_ok-second.ensures.grew.grows o2 in
    let far = ap (λ (xs : List Lit). number v xs) c.deref.ensures.value ∙ c.in_ok-first.ensures.value v o1 in
    let by = ap (λ (xs : List Lit). number v xs) c.deref-2.ensures.value ∙ c.in_ok-second.ensures.value v o2 in
    let more : 0 < number v c.deref-2.result.now = subst (λ m. 0 < m) (sym by) (divisor_is v b some) in
    srem_by v a b r.items _ _ _ _ first (negative_is v a (constant_lit false) c.requires.some) some far by (h v o more))

pub returns-in_err-first-clause-value : goal.returns-in_err-first-clause-value
returns-in_err-first-clause-value c = IfOk-from_err _ _ c.from_residual.ensures.0

pub returns-in_err-first-clause-word : goal.returns-in_err-first-clause-word
returns-in_err-first-clause-word c = IfOk-from_err _ _ c.from_residual.ensures.0

pub returns-in_err-second-clause-value : goal.returns-in_err-second-clause-value
returns-in_err-second-clause-value c = IfOk-from_err _ _ c.from_residual-in_err-second.ensures.0

pub returns-in_err-second-clause-word : goal.returns-in_err-second-clause-word
returns-in_err-second-clause-word c = IfOk-from_err _ _ c.from_residual-in_err-second.ensures.0
