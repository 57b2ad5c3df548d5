use Rattle.std.proofs.Common.{◌≡◌, ℕ, ◌+◌, ◌*◌, ◌^◌, ◌≤◌, min, List, length, ap, subst, sym, ◌∙◌, arith}
use Rattle.std.proofs.lemmas.Nat.{mul-le}
use Rattle.std.proofs.lemmas.Result.{IfOk-weaker, IfOk-from_err}
use Rattle.std.proofs.lemmas.List.{length-map}
use Rattle.aig.specs.declared.gate.Lit.{Lit}
use Rattle.aig.proofs.Growth.{Obeys-older}
use Rattle.aig_words.specs.Words.{number}
use Rattle.aig_words.proofs.Grown.{Grew-then, Grew-wider}
use Rattle.pair_words.specs.Rails.{bit_at, bits}
use Rattle.pair_words.specs.Ways.{moved_bits}
use Rattle.pair_words.proofs.Moving.{moved_same}
use Rattle.pair_words.proofs.shifts.moved_far.Goals as goal

pub returns-clause-value : goal.returns-clause-value
returns-clause-value c = IfOk-weaker c.shifted-2.result _ _ (λ r h v o.
    let a = c.args.a.now in
    let b = c.args.b.now in
    let wide : length (bits v a) ≡ length a = length-map a (bit_at v) in
    let near : length (bits v a) ≤ 2 ^ c.stages-near.result = subst (λ n. n ≤ 2 ^ c.stages-near.result) (sym wide) c.stages-near.ensures in
    let same : min (number v c.in_ok-by.by.items) (length (bits v a)) ≡ min (number v b) (length (bits v a)) =
    c.in_ok-by.ensures.value v (Obeys-older v _ _ c.shifted-2.ensures.grew.grows o) (length (bits v a)) near in
    h v o ∙ ap (λ (xs : List Lit). moved_bits v c.args.way (number v xs) (bits v a)) c.deref.ensures.value ∙
    moved_same v c.args.way (bits v a) (number v c.in_ok-by.by.items) (number v b) same) c.shifted-2.ensures.value

pub returns-clause-grew : goal.returns-clause-grew
returns-clause-grew c =
    let m : ℕ = length c.args.a.now in
    let n : ℕ = length c.args.b.now in
    let k : ℕ = length c.deref.result.now in
    let e : k ≡ c.stages-near.result + 1 = ap (λ (xs : List Lit). length xs) c.deref.ensures.value ∙ c.in_ok-by.ensures.word.long in
    let le : 6 * m * k ≤ 6 * m * n = mul-le (6 * m) k (6 * m) n (omega arith) (omega (arith, e, c.if-b-near.false)) in
    Grew-then (4 * n) (6 * m * k) (6 * m * n + 4 * n) c.args.aig.now _ _ (omega (arith, le)) c.in_ok-by.ensures.grew c.shifted-2.ensures.grew

pub returns-in_err-by-clause-grew : goal.returns-in_err-by-clause-grew
returns-in_err-by-clause-grew c =
    let m : ℕ = length c.args.a.now in
    let n : ℕ = length c.args.b.now in
    Grew-wider (4 * n) (6 * m * n + 4 * n) _ _ (omega arith) c.in_err-by.ensures.grew

pub returns-in_err-by-clause-value : goal.returns-in_err-by-clause-value
returns-in_err-by-clause-value c = IfOk-from_err _ _ c.from_residual.ensures.0

pub returns-in_err-by-clause-word : goal.returns-in_err-by-clause-word
returns-in_err-by-clause-word c = IfOk-from_err _ _ c.from_residual.ensures.0

pub shifted-requires-clause-some : goal.shifted-requires-clause-some
shifted-requires-clause-some c = c.requires.some

pub shifted-requires-clause-way_in : goal.shifted-requires-clause-way_in
shifted-requires-clause-way_in c = c.requires.way_in

pub shifted-requires-clause-a_in : goal.shifted-requires-clause-a_in
shifted-requires-clause-a_in c = c.requires.a_in

pub shifted-requires-clause-b_in : goal.shifted-requires-clause-b_in
shifted-requires-clause-b_in c = c.requires.b_in

pub capped-requires-clause-b_in : goal.capped-requires-clause-b_in
capped-requires-clause-b_in c = c.requires.b_in

pub shifted-requires-2-clause-some : goal.shifted-requires-2-clause-some
shifted-requires-2-clause-some c = c.requires.some

pub returns-then-b-near-clause-word : goal.returns-then-b-near-clause-word
returns-then-b-near-clause-word c = c.shifted.ensures.word

pub returns-then-b-near-clause-value : goal.returns-then-b-near-clause-value
returns-then-b-near-clause-value c = c.shifted.ensures.value

pub returns-clause-word : goal.returns-clause-word
returns-clause-word c = c.shifted-2.ensures.word
