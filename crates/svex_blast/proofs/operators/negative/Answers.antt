use Rattle.std.proofs.lemmas.Result.{IfOk-from_err}
use Rattle.std.proofs.Common.{◌≡◌, ◌*◌, List, ℕ, length, replicate, ap, sym, ◌∙◌, arith}
use Rattle.std.proofs.lemmas.List.{length-map, length-replicate}
use Rattle.std.proofs.lemmas.List.Elements.{All-replicate}
use Rattle.aig_words.proofs.Grown.{Grew-wider}
use Rattle.svex_blast.proofs.Fitting.{numbers_fit}
use Rattle.fourvec.specs.declared.Bit.{Bit}
use Rattle.fourvec.specs.declared.Bit.TheVariants.{Zero}
use Rattle.fourvec.specs.Bits.{sub_of}
use Rattle.pair_words.specs.declared.pairs.Pair.{Pair}
use Rattle.pair_words.specs.Rails.{bit_at, bits, IsWired}
use Rattle.pair_words.specs.Ways.{constant_pair}
use Rattle.pair_words.proofs.Moving.{constant_is, constant_wired, replicate_is}
use Rattle.svex_blast.proofs.Noding.{neg_by_sub}
use Rattle.svex_blast.proofs.operators.negative.Goals as goal

pub on_numbers-requires-clause-a_in : goal.on_numbers-requires-clause-a_in
on_numbers-requires-clause-a_in c =
    let aig = c.args.aig.now in
    rw (c.deref.ensures.value, c.in_ok-none.ensures) (All-replicate (IsWired aig) (length c.args.a.now) (constant_pair Zero) (constant_wired aig Zero c.requires.node))

pub returns-clause-value : goal.returns-clause-value
returns-clause-value c = λ v o.
    let a = c.args.a.now in
    let none : c.deref.result.now ≡ replicate (length a) (constant_pair Zero) = c.deref.ensures.value ∙ c.in_ok-none.ensures in
    let zeros : bits v c.deref.result.now ≡ replicate (length (bits v a)) Zero =
    ap (λ (t : List Pair). bits v t) none ∙ replicate_is v (length a) (constant_pair Zero) ∙ ap (λ (t : Bit). replicate (length a) t) (constant_is v Zero o.bottom) ∙
    ap (λ n. replicate n Zero) (sym (length-map a (bit_at v))) in
    c.in_ok-word.ensures.value v o ∙ ap (λ (t : List Bit). sub_of t (bits v a)) zeros ∙ neg_by_sub (bits v a)

pub returns-clause-grew : goal.returns-clause-grew
returns-clause-grew c =
    let w : ℕ = length c.args.a.now in
    let e : length c.deref.result.now ≡ w = ap (λ (t : List Pair). length t) (c.deref.ensures.value ∙ c.in_ok-none.ensures) ∙ length-replicate w (constant_pair Zero) in
    Grew-wider _ (256 * w * w) _ _ (numbers_fit (length c.deref.result.now) w (omega (arith, e, c.requires.some)) (omega (arith, e))) c.in_ok-word.ensures.grew

pub returns-in_err-word-clause-grew : goal.returns-in_err-word-clause-grew
returns-in_err-word-clause-grew c =
    let w : ℕ = length c.args.a.now in
    let e : length c.deref.result.now ≡ w = ap (λ (t : List Pair). length t) (c.deref.ensures.value ∙ c.in_ok-none.ensures) ∙ length-replicate w (constant_pair Zero) in
    Grew-wider _ (256 * w * w) _ _ (numbers_fit (length c.deref.result.now) w (omega (arith, e, c.requires.some)) (omega (arith, e))) c.in_err-word.ensures.grew

pub returns-in_err-none-clause-value : goal.returns-in_err-none-clause-value
returns-in_err-none-clause-value c = IfOk-from_err _ _ c.from_residual.ensures.0

pub returns-in_err-none-clause-word : goal.returns-in_err-none-clause-word
returns-in_err-none-clause-word c = IfOk-from_err _ _ c.from_residual.ensures.0

pub returns-in_err-word-clause-value : goal.returns-in_err-word-clause-value
returns-in_err-word-clause-value c = IfOk-from_err _ _ c.from_residual-in_err-word.ensures.0

pub returns-in_err-word-clause-word : goal.returns-in_err-word-clause-word
returns-in_err-word-clause-word c = IfOk-from_err _ _ c.from_residual-in_err-word.ensures.0
