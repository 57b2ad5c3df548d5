use Rattle.std.proofs.lemmas.Result.{IfOk-from_err}
use Rattle.std.proofs.Common.{◌≡◌, ℕ, ◌+◌, ◌*◌, ◌^◌, ◌<◌, ◌≤◌, min, Bool, false, cond, List, length, get_or, sym, ap, ◌∙◌, arith}
use Rattle.std.proofs.lemmas.Nat.{mul-le}
use Rattle.std.proofs.lemmas.List.{take_all, length-map}
use Rattle.aig.specs.declared.gate.Lit.{Lit}
use Rattle.aig.specs.Graph.{holds, constant_lit}
use Rattle.aig.proofs.Growth.{Obeys-older}
use Rattle.aig_words.specs.Words.{number}
use Rattle.aig_words.proofs.Grown.{Grew-refl, Grew-then, Grew-wider, All-later}
use Rattle.aig_words.proofs.Numbers.{number-nil}
use Rattle.fourvec.specs.declared.Bit.TheVariants.{Zero}
use Rattle.pair_words.specs.declared.pairs.Pair.{Pair}
use Rattle.pair_words.specs.Rails.{bit_at, bits}
use Rattle.pair_words.specs.Ways.{constant_pair, moved_bits}
use Rattle.pair_words.proofs.Growing.{some_gate, vector_at, wired_at, one_place}
use Rattle.pair_words.proofs.Moving.{moved_none, fills-later, shift_more, doubled_is}
use Rattle.pair_words.proofs.shifts.shifted.Goals as goal

pub loop-j-init : goal.loop-j-init
loop-j-init c =
    let a = c.args.a.now in
    let same : c.in_ok-word.word.items ≡ a = c.in_ok-word.ensures.items in
    record {
      grew = Grew-wider 0 (6 * length a * 0) _ _ (omega arith) (Grew-refl 0 c.args.aig.now);
      word = record { long = ap (λ (t : List Pair). length t) same; inside = wired_at c.args.aig.now a c.in_ok-word.word.items same c.requires.a_in };
      far = (let some : 0 < length a = c.requires.some in omega arith);
      value = λ v o. ap (λ (t : List Pair). bits v t) same ∙ sym (ap (λ n. moved_bits v c.args.way n (bits v a)) (number-nil v) ∙ moved_none v c.args.way (bits v a));
    }

pub loop-j-preserved : goal.loop-j-preserved
loop-j-preserved c =
    let l : ℕ = length c.args.a.now in
    let j : ℕ = c.loop-j.j in
    let wide : length c.deref.result.now ≡ l = ap (λ (t : List Pair). length t) c.deref.ensures.value ∙ c.loop-j.invariant.word.long in
    let a = c.args.a.now in
    let b = c.args.b.now in
    let k : ℕ = c.loop-j.k in
    let word = c.loop-j.word.items in
    let far : k ≡ min (2 ^ j) l = c.loop-j.invariant.far in
    let grew = c.in_ok-word-2.ensures.grew in
    let more : 6 * l * j + 6 * l ≤ 6 * l * (j + 1) = one_place (6 * l) j (j + 1) (omega arith) in
    record {
      grew = Grew-then (6 * l * j) (6 * length c.deref.result.now) (6 * l * (j + 1)) c.args.aig.now c.loop-j.aig _ (omega (arith, more, wide)) c.loop-j.invariant.grew grew;
      word = vector_at _ _ l c.in_ok-word-2.word.items wide c.in_ok-word-2.ensures.word;
      far = c.doubled-k.ensures ∙ doubled_is j l k far;
      value = λ v o.
          let x : Bool = holds v (get_or b j (constant_lit false)) in
          let wa : length (bits v a) ≡ l = length-map a (bit_at v) in
          shift_more v c.args.way b (constant_lit false) (bits v a) word (bits v c.in_ok-word-2.word.items) j k c.loop-j-test.true (c.loop-j.invariant.word.long ∙ sym wa) (far ∙ ap (λ n. min (2 ^ j) n) (sym wa))
          (c.loop-j.invariant.value v (Obeys-older v _ _ grew.grows o))
          (c.in_ok-word-2.ensures.value v o ∙ ap (λ (t : List Pair). cond x (moved_bits v c.args.way k (bits v t)) (bits v t)) c.deref.ensures.value);
    }

pub moved_where-requires-clause-far : goal.moved_where-requires-clause-far
moved_where-requires-clause-far c =
    let l : ℕ = length c.args.a.now in
    let j : ℕ = c.loop-j.j in
    let wide : length c.deref.result.now ≡ l = ap (λ (t : List Pair). length t) c.deref.ensures.value ∙ c.loop-j.invariant.word.long in
    let far : c.loop-j.k ≡ min (2 ^ j) l = c.loop-j.invariant.far in
    omega (arith, far, wide)

pub moved_where-requires-clause-node : goal.moved_where-requires-clause-node
moved_where-requires-clause-node c =
    let longer = c.loop-j.invariant.grew.grows.longer in
    let some : 0 < length c.args.aig.now = some_gate c.args.aig.now c.args.a.now (constant_pair Zero) c.requires.some c.requires.a_in in
    omega (arith, some, longer)

pub moved_where-requires-clause-way_in : goal.moved_where-requires-clause-way_in
moved_where-requires-clause-way_in c = fills-later c.args.aig.now c.loop-j.aig c.args.way c.loop-j.invariant.grew.grows c.requires.way_in

pub moved_where-requires-clause-a_in : goal.moved_where-requires-clause-a_in
moved_where-requires-clause-a_in c = wired_at c.loop-j.aig c.loop-j.word.items c.deref.result.now c.deref.ensures.value c.loop-j.invariant.word.inside

pub moved_where-requires-clause-c_in : goal.moved_where-requires-clause-c_in
moved_where-requires-clause-c_in c = All-later c.args.aig.now c.loop-j.aig c.args.b.now c.loop-j.invariant.grew.grows c.requires.b_in c.loop-j.j _ c.loop-j-test.true

pub returns-clause-word : goal.returns-clause-word
returns-clause-word c = c.loop-j.invariant.word

pub returns-clause-value : goal.returns-clause-value
returns-clause-value c = λ v o.
    c.loop-j.invariant.value v o ∙ ap (λ (xs : List Lit). moved_bits v c.args.way (number v xs) (bits v c.args.a.now)) (take_all c.loop-j.j c.args.b.now (omega arith))

pub returns-in_err-word-clause-grew : goal.returns-in_err-word-clause-grew
returns-in_err-word-clause-grew c = Grew-refl _ c.args.aig.now

pub returns-in_err-word-2-clause-grew : goal.returns-in_err-word-2-clause-grew
returns-in_err-word-2-clause-grew c =
    let l : ℕ = length c.args.a.now in
    let j : ℕ = c.loop-j.j in
    let wide : length c.deref.result.now ≡ l = ap (λ (t : List Pair). length t) c.deref.ensures.value ∙ c.loop-j.invariant.word.long in
    let n : ℕ = length c.args.b.now in
    let rest : 6 * l * j + 6 * l ≤ 6 * l * n = one_place (6 * l) j n c.loop-j-test.true in
    Grew-then (6 * l * j) (6 * length c.deref.result.now) (6 * l * n) c.args.aig.now c.loop-j.aig _ (omega (arith, rest, wide)) c.loop-j.invariant.grew c.in_err-word-2.ensures.grew

pub returns-clause-grew : goal.returns-clause-grew
returns-clause-grew c =
    let l : ℕ = length c.args.a.now in
    Grew-wider (6 * l * c.loop-j.j) (6 * l * length c.args.b.now) _ _ (mul-le (6 * l) c.loop-j.j (6 * l) (length c.args.b.now) (omega arith) (omega arith)) c.loop-j.invariant.grew

pub returns-in_err-word-clause-value : goal.returns-in_err-word-clause-value
returns-in_err-word-clause-value c = IfOk-from_err _ _ c.from_residual.ensures.0

pub returns-in_err-word-clause-word : goal.returns-in_err-word-clause-word
returns-in_err-word-clause-word c = IfOk-from_err _ _ c.from_residual.ensures.0

pub returns-in_err-word-2-clause-value : goal.returns-in_err-word-2-clause-value
returns-in_err-word-2-clause-value c = IfOk-from_err _ _ c.from_residual-in_err-word-2.ensures.0

pub returns-in_err-word-2-clause-word : goal.returns-in_err-word-2-clause-word
returns-in_err-word-2-clause-word c = IfOk-from_err _ _ c.from_residual-in_err-word-2.ensures.0
