use Rattle.std.proofs.lemmas.Result.{IfOk-from_err}
use Rattle.std.proofs.Common.{◌≡◌, ℕ, ◌+◌, ◌*◌, ◌<◌, cond, List, length, sym, ap, subst, ◌∙◌, arith}
use Rattle.aig.specs.declared.gate.Lit.{Lit}
use Rattle.aig.specs.Graph.{holds}
use Rattle.aig.proofs.Growth.{Obeys-older}
use Rattle.aig_words.specs.Words.{number}
use Rattle.aig_words.proofs.Grown.{Grew-then, Grew-wider, IsIn-later, if_ok}
use Rattle.fourvec.specs.declared.Bit.{Bit}
use Rattle.fourvec.specs.Bits.{neg_of}
use Rattle.pair_words.proofs.Growing.{word_at, literals_at}
use Rattle.pair_words.proofs.Truths.{truths-of}
use Rattle.pair_words.proofs.numbers.rest_by_sign.Goals as goal

pub rem-requires-clause-some : goal.rem-requires-clause-some
rem-requires-clause-some c = c.requires.some

pub rem-requires-clause-same : goal.rem-requires-clause-same
rem-requires-clause-same c = c.requires.same

pub rem-requires-clause-a_in : goal.rem-requires-clause-a_in
rem-requires-clause-a_in c = c.requires.first_in

pub rem-requires-clause-b_in : goal.rem-requires-clause-b_in
rem-requires-clause-b_in c = c.requires.second_in

pub turned-requires-clause-some : goal.turned-requires-clause-some
turned-requires-clause-some c =
    let a = c.args.first.now in
    let n : ℕ = length a in
    let long : length c.deref.result.now ≡ n = ap (λ (xs : List Lit). length xs) c.deref.ensures.value ∙ c.in_ok-plain.ensures.word.long in
    subst (λ m. 0 < m) (sym long) c.requires.some

pub returns-in_err-plain-clause-grew : goal.returns-in_err-plain-clause-grew
returns-in_err-plain-clause-grew c = let n : ℕ = length c.args.first.now in Grew-wider (11 * n * n) (11 * n * n + 10 * n) c.args.aig.now c.rem.new.aig (omega arith) c.in_err-plain.ensures.grew

pub returns-clause-grew : goal.returns-clause-grew
returns-clause-grew c =
    let a = c.args.first.now in
    let n : ℕ = length a in
    let long : length c.deref.result.now ≡ n = ap (λ (xs : List Lit). length xs) c.deref.ensures.value ∙ c.in_ok-plain.ensures.word.long in
    Grew-then (11 * n * n) (10 * length c.deref.result.now) (11 * n * n + 10 * n) c.args.aig.now c.rem.new.aig c.turned.new.aig (omega (arith, long)) c.in_ok-plain.ensures.grew c.turned.ensures.grew

pub returns-clause-word : goal.returns-clause-word
returns-clause-word c =
    let a = c.args.first.now in
    let n : ℕ = length a in
    let long : length c.deref.result.now ≡ n = ap (λ (xs : List Lit). length xs) c.deref.ensures.value ∙ c.in_ok-plain.ensures.word.long in
    if_ok c.turned.result _ _ c.turned.ensures.word (λ r h. word_at _ _ n r.items long h)

pub turned-requires-clause-c_in : goal.turned-requires-clause-c_in
turned-requires-clause-c_in c = IsIn-later c.args.aig.now c.rem.new.aig c.args.sign c.in_ok-plain.ensures.grew.grows c.requires.sign_in

pub turned-requires-clause-a_in : goal.turned-requires-clause-a_in
turned-requires-clause-a_in c = literals_at c.rem.new.aig c.in_ok-plain.plain.items c.deref.result.now c.deref.ensures.value c.in_ok-plain.ensures.word.inside

pub returns-clause-value : goal.returns-clause-value
returns-clause-value c =
    let a = c.args.first.now in
    let n : ℕ = length a in
    let long : length c.deref.result.now ≡ n = ap (λ (xs : List Lit). length xs) c.deref.ensures.value ∙ c.in_ok-plain.ensures.word.long in
    if_ok c.turned.result _ _ c.turned.ensures.value (λ r h v o some.
    let d = c.deref.result.now in
    let o2 = Obeys-older v _ _ c.turned.ensures.grew.grows o in
    let o1 = o2 in
    let plain = truths-of v d n _ long (ap (λ (xs : List Lit). number v xs) c.deref.ensures.value ∙ c.in_ok-plain.ensures.value.obeyed v o1 some) in
    h v o ∙ ap (λ (xs : List Bit). cond (holds v c.args.sign) (neg_of xs) xs) plain)

pub returns-in_err-plain-clause-value : goal.returns-in_err-plain-clause-value
returns-in_err-plain-clause-value c = IfOk-from_err _ _ c.from_residual.ensures.0

pub returns-in_err-plain-clause-word : goal.returns-in_err-plain-clause-word
returns-in_err-plain-clause-word c = IfOk-from_err _ _ c.from_residual.ensures.0
