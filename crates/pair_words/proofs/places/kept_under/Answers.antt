use Rattle.std.proofs.lemmas.Result.{IfOk-from_err}
use Rattle.std.proofs.Common.{◌≡◌, ℕ, ◌+◌, ◌*◌, ◌≤◌, List, length, get_or, replicate, sym, ap, ◌∙◌, arith}
use Rattle.std.proofs.lemmas.List.{take_all, length-map}
use Rattle.std.proofs.lemmas.Nat.{mul-le}
use Rattle.aig.proofs.Growth.{Obeys-older}
use Rattle.aig_words.proofs.Grown.{Grew-refl, Grew-then, Grew-wider}
use Rattle.fourvec.specs.declared.Bit.{Bit}
use Rattle.fourvec.specs.declared.Bit.TheVariants.{Zero}
use Rattle.fourvec.specs.Bits.{each, keep_bit}
use Rattle.fourvec.specs.Spots.{kept_bit}
use Rattle.pair_words.specs.declared.pairs.Pair.{Pair}
use Rattle.pair_words.specs.Rails.{bit_at, bits}
use Rattle.pair_words.specs.Ways.{constant_pair}
use Rattle.pair_words.proofs.Growing.{vector_at, wired_at, wired-later, one_place}
use Rattle.pair_words.proofs.Lists.{each_by}
use Rattle.pair_words.proofs.Laying.{kept_start, kept_more}
use Rattle.pair_words.proofs.places.kept_under.Goals as goal

pub loop-j-init : goal.loop-j-init
loop-j-init c =
    let a = c.args.a.now in
    let same : c.in_ok-word.word.items ≡ a = c.in_ok-word.ensures.items in
    record {
      grew = Grew-wider 0 (11 * length a * 0) _ _ (omega arith) (Grew-refl 0 c.args.aig.now);
      word = record { long = ap (λ (t : List Pair). length t) same; inside = wired_at c.args.aig.now a c.in_ok-word.word.items same c.requires.a_in };
      value = λ v o. ap (λ (t : List Pair). bits v t) same ∙ kept_start (bits v a);
    }

pub each_place-requires-clause-same : goal.each_place-requires-clause-same
each_place-requires-clause-same c = ap (λ (t : List Pair). length t) (c.deref.ensures.value ∙ sym c.deref-in-loop-j.ensures.value)

pub each_place-requires-clause-step_in : goal.each_place-requires-clause-step_in
each_place-requires-clause-step_in c = wired-later c.args.aig.now c.loop-j.aig c.args.put.now c.loop-j.invariant.grew.grows c.requires.put_in c.loop-j.j _ c.loop-j-test.true

pub each_place-requires-clause-a_in : goal.each_place-requires-clause-a_in
each_place-requires-clause-a_in c = wired_at c.loop-j.aig c.loop-j.word.items c.deref.result.now c.deref.ensures.value c.loop-j.invariant.word.inside

pub each_place-requires-clause-b_in : goal.each_place-requires-clause-b_in
each_place-requires-clause-b_in c = wired_at c.loop-j.aig c.loop-j.word.items c.deref-in-loop-j.result.now c.deref-in-loop-j.ensures.value c.loop-j.invariant.word.inside

pub loop-j-preserved : goal.loop-j-preserved
loop-j-preserved c =
    let a = c.args.a.now in
    let l : ℕ = length a in
    let j : ℕ = c.loop-j.j in
    let wide : length c.deref.result.now ≡ l = ap (λ (t : List Pair). length t) c.deref.ensures.value ∙ c.loop-j.invariant.word.long in
    let put = c.args.put.now in
    let grew = c.in_ok-word-2.ensures.grew in
    let p : Pair = get_or put j (constant_pair Zero) in
    let more : 11 * l * j + 11 * l ≤ 11 * l * (j + 1) = one_place (11 * l) j (j + 1) (omega arith) in
    record {
      grew = Grew-then (11 * l * j) (9 * length c.deref.result.now) (11 * l * (j + 1)) c.args.aig.now c.loop-j.aig _ (omega (arith, more, wide)) c.loop-j.invariant.grew grew;
      word = vector_at _ _ l c.in_ok-word-2.word.items wide c.in_ok-word-2.ensures.word;
      value = λ v o.
          let xs : List Bit = bits v c.deref.result.now in
          let zs : List Bit = bits v c.deref-in-loop-j.result.now in
          let e : xs ≡ zs = ap (λ (t : List Pair). bits v t) (c.deref.ensures.value ∙ sym c.deref-in-loop-j.ensures.value) in
          let long : length xs ≡ l = length-map c.deref.result.now (bit_at v) ∙ wide in
          kept_more v a put j (constant_pair Zero) xs (replicate (length xs) (bit_at v p)) (bits v c.in_ok-word-2.word.items) c.loop-j-test.true
          (ap (λ (t : List Pair). bits v t) c.deref.ensures.value ∙ c.loop-j.invariant.value v (Obeys-older v _ _ grew.grows o))
          (ap (λ n. replicate n (bit_at v p)) long) (c.in_ok-word-2.ensures.value v o ∙ each_by keep_bit (bit_at v p) xs zs (ap (λ (t : List Bit). length t) e));
    }

pub returns-clause-word : goal.returns-clause-word
returns-clause-word c = c.loop-j.invariant.word

pub returns-clause-value : goal.returns-clause-value
returns-clause-value c = λ v o.
    c.loop-j.invariant.value v o ∙ ap (λ (xs : List Pair). each (kept_bit (bits v xs)) (bits v c.args.a.now)) (take_all c.loop-j.j c.args.put.now (omega arith))

pub returns-in_err-word-clause-grew : goal.returns-in_err-word-clause-grew
returns-in_err-word-clause-grew c = Grew-refl _ c.args.aig.now

pub returns-in_err-word-2-clause-grew : goal.returns-in_err-word-2-clause-grew
returns-in_err-word-2-clause-grew c =
    let a = c.args.a.now in
    let l : ℕ = length a in
    let j : ℕ = c.loop-j.j in
    let wide : length c.deref.result.now ≡ l = ap (λ (t : List Pair). length t) c.deref.ensures.value ∙ c.loop-j.invariant.word.long in
    let n : ℕ = length c.args.put.now in
    let rest : 11 * l * j + 11 * l ≤ 11 * l * n = one_place (11 * l) j n c.loop-j-test.true in
    Grew-then (11 * l * j) (9 * length c.deref.result.now) (11 * l * n) c.args.aig.now c.loop-j.aig _ (omega (arith, rest, wide)) c.loop-j.invariant.grew c.in_err-word-2.ensures.grew

pub returns-clause-grew : goal.returns-clause-grew
returns-clause-grew c =
    let l : ℕ = length c.args.a.now in
    Grew-wider (11 * l * c.loop-j.j) (11 * l * length c.args.put.now) _ _ (mul-le (11 * l) c.loop-j.j (11 * l) (length c.args.put.now) (omega arith) (omega arith)) c.loop-j.invariant.grew

pub returns-in_err-word-clause-value : goal.returns-in_err-word-clause-value
returns-in_err-word-clause-value c = IfOk-from_err _ _ c.from_residual.ensures.0

pub returns-in_err-word-clause-word : goal.returns-in_err-word-clause-word
returns-in_err-word-clause-word c = IfOk-from_err _ _ c.from_residual.ensures.0

pub returns-in_err-word-2-clause-value : goal.returns-in_err-word-2-clause-value
returns-in_err-word-2-clause-value c = IfOk-from_err _ _ c.from_residual-in_err-word-2.ensures.0

pub returns-in_err-word-2-clause-word : goal.returns-in_err-word-2-clause-word
returns-in_err-word-2-clause-word c = IfOk-from_err _ _ c.from_residual-in_err-word-2.ensures.0
