use Rattle.std.proofs.lemmas.Result.{IfOk-from_err}
use Rattle.std.proofs.Common.{◌≡◌, ℕ, ◌+◌, ◌*◌, ◌<◌, List, length, ap, sym, subst, ◌∙◌, arith}
use Rattle.aig_words.proofs.Grown.{Grew-then}
use Rattle.aig.proofs.Growth.{Obeys-older}
use Rattle.fourvec.specs.declared.Bit.{Bit}
use Rattle.fourvec.specs.declared.Bit.TheVariants.{Zero}
use Rattle.fourvec.specs.Bits.{over, or_bit}
use Rattle.pair_words.specs.declared.pairs.Pair.{Pair}
use Rattle.pair_words.specs.Rails.{bit_at, bits, IsWired}
use Rattle.pair_words.proofs.Moving.{constant_is, constant_wired}
use Rattle.std.proofs.lemmas.List.{length-map}
use Rattle.svex_blast.proofs.Noding.{eq_by}
use Rattle.svex_blast.proofs.operators.equal.Goals as goal

pub over_all-requires-clause-start_in : goal.over_all-requires-clause-start_in
over_all-requires-clause-start_in c =
    let aig = c.on_both.new.aig in
    let some : 0 < length aig = omega (arith, c.requires.node, c.in_ok-apart.ensures.grew.grows.longer) in
    subst (IsWired aig) (sym c.constant.ensures) (constant_wired aig Zero some)

pub returns-clause-value : goal.returns-clause-value
returns-clause-value c = λ v o.
    let a = c.args.a.now in
    let b = c.args.b.now in
    let o2 = Obeys-older v _ _ c.in_ok-none.ensures.grew.grows o in
    let o1 = Obeys-older v _ _ c.in_ok-some.ensures.grew.grows o2 in
    ap (λ (t : List Pair). bits v t) c.in_ok-word.ensures ∙
    eq_by (bits v a) (bits v b) (bits v c.deref.result.now) (bit_at v c.in_ok-some.some) (bit_at v c.in_ok-none.none)
    (length-map a (bit_at v) ∙ c.requires.same ∙ sym (length-map b (bit_at v)))
    (ap (λ (t : List Pair). bits v t) c.deref.ensures.value ∙ c.in_ok-apart.ensures.value v o1)
    (c.in_ok-some.ensures.value v o2 ∙ ap (λ (t : Bit). over or_bit t (bits v c.deref.result.now)) (ap (λ (p : Pair). bit_at v p) c.constant.ensures ∙ constant_is v Zero o.bottom))
    (c.in_ok-none.ensures.value v o)

pub returns-in_err-some-clause-grew : goal.returns-in_err-some-clause-grew
returns-in_err-some-clause-grew c =
    let w : ℕ = length c.args.a.now in
    let e : length c.deref.result.now ≡ w = ap (λ (t : List Pair). length t) c.deref.ensures.value ∙ c.in_ok-apart.ensures.word.long in
    Grew-then (10 * w) (6 * length c.deref.result.now) (16 * w + 2) _ _ _ (omega (arith, e)) c.in_ok-apart.ensures.grew c.in_err-some.ensures.grew

pub returns-in_err-none-clause-grew : goal.returns-in_err-none-clause-grew
returns-in_err-none-clause-grew c =
    let w : ℕ = length c.args.a.now in
    let e : length c.deref.result.now ≡ w = ap (λ (t : List Pair). length t) c.deref.ensures.value ∙ c.in_ok-apart.ensures.word.long in
    Grew-then (10 * w) (6 * length c.deref.result.now + 2) (16 * w + 2) _ _ _ (omega (arith, e)) c.in_ok-apart.ensures.grew
    (Grew-then (6 * length c.deref.result.now) 2 (6 * length c.deref.result.now + 2) _ _ _ (omega arith) c.in_ok-some.ensures.grew c.in_err-none.ensures.grew)

pub returns-in_err-word-clause-grew : goal.returns-in_err-word-clause-grew
returns-in_err-word-clause-grew c =
    let w : ℕ = length c.args.a.now in
    let e : length c.deref.result.now ≡ w = ap (λ (t : List Pair). length t) c.deref.ensures.value ∙ c.in_ok-apart.ensures.word.long in
    Grew-then (10 * w) (6 * length c.deref.result.now + 2) (16 * w + 2) _ _ _ (omega (arith, e)) c.in_ok-apart.ensures.grew
    (Grew-then (6 * length c.deref.result.now) 2 (6 * length c.deref.result.now + 2) _ _ _ (omega arith) c.in_ok-some.ensures.grew c.in_ok-none.ensures.grew)

pub returns-clause-grew : goal.returns-clause-grew
returns-clause-grew c =
    let w : ℕ = length c.args.a.now in
    let e : length c.deref.result.now ≡ w = ap (λ (t : List Pair). length t) c.deref.ensures.value ∙ c.in_ok-apart.ensures.word.long in
    Grew-then (10 * w) (6 * length c.deref.result.now + 2) (16 * w + 2) _ _ _ (omega (arith, e)) c.in_ok-apart.ensures.grew
    (Grew-then (6 * length c.deref.result.now) 2 (6 * length c.deref.result.now + 2) _ _ _ (omega arith) c.in_ok-some.ensures.grew c.in_ok-none.ensures.grew)

pub returns-in_err-apart-clause-value : goal.returns-in_err-apart-clause-value
returns-in_err-apart-clause-value c = IfOk-from_err _ _ c.from_residual.ensures.0

pub returns-in_err-apart-clause-word : goal.returns-in_err-apart-clause-word
returns-in_err-apart-clause-word c = IfOk-from_err _ _ c.from_residual.ensures.0

pub returns-in_err-none-clause-value : goal.returns-in_err-none-clause-value
returns-in_err-none-clause-value c = IfOk-from_err _ _ c.from_residual-in_err-none.ensures.0

pub returns-in_err-none-clause-word : goal.returns-in_err-none-clause-word
returns-in_err-none-clause-word c = IfOk-from_err _ _ c.from_residual-in_err-none.ensures.0

pub returns-in_err-some-clause-value : goal.returns-in_err-some-clause-value
returns-in_err-some-clause-value c = IfOk-from_err _ _ c.from_residual-in_err-some.ensures.0

pub returns-in_err-some-clause-word : goal.returns-in_err-some-clause-word
returns-in_err-some-clause-word c = IfOk-from_err _ _ c.from_residual-in_err-some.ensures.0

pub returns-in_err-word-clause-value : goal.returns-in_err-word-clause-value
returns-in_err-word-clause-value c = IfOk-from_err _ _ c.from_residual-in_err-word.ensures.0

pub returns-in_err-word-clause-word : goal.returns-in_err-word-clause-word
returns-in_err-word-clause-word c = IfOk-from_err _ _ c.from_residual-in_err-word.ensures.0
