use Rattle.std.proofs.Common.{◌≡◌, ℕ, ◌+◌, ◌*◌, ◌%◌, ◌^◌, ◌<◌, Bool, false, List, length, get_or, take, cond, ap, sym, refl, ◌∙◌, arith}
use Rattle.std.proofs.Math.Nat.{zero-mod}
use Rattle.std.proofs.lemmas.List.{take_all, length-replicate}
use Rattle.std.proofs.lemmas.Result.{IfOk-from_err}
use Rattle.aig.specs.declared.gate.Lit.{Lit}
use Rattle.aig.specs.Graph.{holds, constant_lit}
use Rattle.aig.proofs.Growth.{Obeys-older}
use Rattle.aig.proofs.Values.{always_from}
use Rattle.aig_words.specs.Words.{number}
use Rattle.aig_words.proofs.Grown.{Grew-refl, Grew-then, Grew-wider, IsIn-later, All-later, IsWord-zeros, zeros_in, some_node}
use Rattle.aig_words.proofs.Numbers.{number-nil, number-zeros, number-more}
use Rattle.aig_words.proofs.Steps.{mul_step, turns_fit}
use Rattle.aig_words.proofs.products.product_of.Goals as goal

pub loop-i-init : goal.loop-i-init
loop-i-init c =
    let a = c.args.a.now in
    let node = some_node c.args.aig.now a c.requires.some c.requires.a_in in
    rw c.in_ok-total.ensures (record {
      grew = Grew-refl _ c.args.aig.now;
      word = IsWord-zeros c.args.aig.now (length a) node;
      graph = λ some. absurd (omega arith);
      value = λ v o. number-zeros v (length a) o.bottom ∙ sym (ap (λ n. (number v a * n) % 2 ^ length a) (number-nil v) ∙ (let e : number v a * 0 ≡ 0 = omega arith in ap (λ n. n % 2 ^ length a) e) ∙ zero-mod (2 ^ length a));
    })

pub loop-i-preserved : goal.loop-i-preserved
loop-i-preserved c =
    let a = c.args.a.now in
    let b = c.args.b.now in
    let i = c.loop-i.i in
    record {
      grew = Grew-then (10 * length a * i) (10 * length a) (10 * length a * (i + 1)) c.args.aig.now c.loop-i.aig _ (omega arith) c.loop-i.invariant.grew c.in_ok-total-2.ensures.grew;
      word = c.in_ok-total-2.ensures.word;
      graph = λ some. c.in_ok-total-2.ensures.value.graph;
      value = λ v o.
          let o1 = Obeys-older v _ _ c.in_ok-total-2.ensures.grew.grows o in
          let x : Bool = holds v (get_or b i (constant_lit false)) in
          let row : ℕ = cond x ((number v a * 2 ^ i) % 2 ^ length a) 0 in
          let e : number v c.in_ok-total-2.total.items ≡ (number v c.loop-i.total.items + row) % 2 ^ length a =
          c.in_ok-total-2.ensures.value.obeyed v o ∙
          ap (λ (xs : List Lit). (number v xs + cond x ((number v a * 2 ^ i) % 2 ^ length a) (number v c.deref-in-loop-i.result.now)) % 2 ^ length a) c.deref.ensures.value ∙
          ap (λ n. (number v c.loop-i.total.items + cond x ((number v a * 2 ^ i) % 2 ^ length a) n) % 2 ^ length a)
          (ap (λ (xs : List Lit). number v xs) (c.deref-in-loop-i.ensures.value ∙ c.in_ok-none.ensures) ∙ number-zeros v (length a) o.bottom) in
          rw (number-more v b i (constant_lit false) (omega (arith, c.loop-i-test.true, c.requires.same)))
          (mul_step (2 ^ length a) (number v c.loop-i.total.items) (number v c.in_ok-total-2.total.items) row (number v a) (number v (take i b)) (2 ^ i) x e (c.loop-i.invariant.value v o1) refl);
    }

pub returns-clause-value : goal.returns-clause-value
returns-clause-value c =
    let a = c.args.a.now in
    let b = c.args.b.now in
    let i = c.loop-i.i in
    always_from _ _ (c.loop-i.invariant.graph (omega (arith, c.requires.some))) (λ v o.
    c.loop-i.invariant.value v o ∙ ap (λ (xs : List Lit). (number v a * number v xs) % 2 ^ length a) (take_all i b (omega (arith, c.requires.same))))

pub returns-clause-grew : goal.returns-clause-grew
returns-clause-grew c =
    let l = length c.args.a.now in
    let i = c.loop-i.i in
    let end : i ≡ l = omega arith in
    Grew-wider (10 * l * i) (10 * l * l) c.args.aig.now c.loop-i.aig (omega (arith, ap (λ n. 10 * l * n) end)) c.loop-i.invariant.grew

pub returns-clause-word : goal.returns-clause-word
returns-clause-word c = c.loop-i.invariant.word

-- ---- where memory ends

pub returns-in_err-none-clause-grew : goal.returns-in_err-none-clause-grew
returns-in_err-none-clause-grew c = Grew-refl _ c.args.aig.now

pub returns-in_err-total-clause-grew : goal.returns-in_err-total-clause-grew
returns-in_err-total-clause-grew c = Grew-refl _ c.args.aig.now

pub returns-in_err-total-2-clause-grew : goal.returns-in_err-total-2-clause-grew
returns-in_err-total-2-clause-grew c =
    let l = length c.args.a.now in
    let i = c.loop-i.i in
    Grew-then (10 * l * i) (10 * l) (10 * l * l) c.args.aig.now c.loop-i.aig _ (turns_fit 10 l i c.loop-i-test.true) c.loop-i.invariant.grew c.in_err-total-2.ensures.grew

pub returns-in_err-none-clause-word : goal.returns-in_err-none-clause-word
returns-in_err-none-clause-word c = IfOk-from_err _ _ c.from_residual.ensures.0

pub returns-in_err-none-clause-value : goal.returns-in_err-none-clause-value
returns-in_err-none-clause-value c = IfOk-from_err _ _ c.from_residual.ensures.0

pub returns-in_err-total-clause-word : goal.returns-in_err-total-clause-word
returns-in_err-total-clause-word c = IfOk-from_err _ _ c.from_residual-in_err-total.ensures.0

pub returns-in_err-total-clause-value : goal.returns-in_err-total-clause-value
returns-in_err-total-clause-value c = IfOk-from_err _ _ c.from_residual-in_err-total.ensures.0

pub returns-in_err-total-2-clause-word : goal.returns-in_err-total-2-clause-word
returns-in_err-total-2-clause-word c = IfOk-from_err _ _ c.from_residual-in_err-total-2.ensures.0

pub returns-in_err-total-2-clause-value : goal.returns-in_err-total-2-clause-value
returns-in_err-total-2-clause-value c = IfOk-from_err _ _ c.from_residual-in_err-total-2.ensures.0

-- ---- what the call asks for

pub add_row-requires-clause-some : goal.add_row-requires-clause-some
add_row-requires-clause-some c = c.requires.some

pub add_row-requires-clause-within : goal.add_row-requires-clause-within
add_row-requires-clause-within c = omega (arith, c.loop-i-test.true)

pub add_row-requires-clause-as_total : goal.add_row-requires-clause-as_total
add_row-requires-clause-as_total c = ap (λ (xs : List Lit). length xs) c.deref.ensures.value ∙ c.loop-i.invariant.word.long

pub add_row-requires-clause-as_none : goal.add_row-requires-clause-as_none
add_row-requires-clause-as_none c = sym (ap (λ (xs : List Lit). length xs) (c.deref-in-loop-i.ensures.value ∙ c.in_ok-none.ensures) ∙ length-replicate (length c.args.a.now) (constant_lit false))

pub add_row-requires-clause-total_in : goal.add_row-requires-clause-total_in
add_row-requires-clause-total_in c = rw c.deref.ensures.value c.loop-i.invariant.word.inside

pub add_row-requires-clause-bit_in : goal.add_row-requires-clause-bit_in
add_row-requires-clause-bit_in c = IsIn-later c.args.aig.now c.loop-i.aig (get_or c.args.b.now c.loop-i.i (constant_lit false)) c.loop-i.invariant.grew.grows (c.requires.b_in c.loop-i.i (constant_lit false) (omega (arith, c.loop-i-test.true, c.requires.same)))

pub add_row-requires-clause-a_in : goal.add_row-requires-clause-a_in
add_row-requires-clause-a_in c = All-later c.args.aig.now c.loop-i.aig c.args.a.now c.loop-i.invariant.grew.grows c.requires.a_in

pub add_row-requires-clause-none_in : goal.add_row-requires-clause-none_in
add_row-requires-clause-none_in c =
    let node : 0 < length c.args.aig.now = some_node c.args.aig.now c.args.a.now c.requires.some c.requires.a_in in
    rw (c.deref-in-loop-i.ensures.value, c.in_ok-none.ensures) (zeros_in c.loop-i.aig (length c.args.a.now) (omega (arith, c.loop-i.invariant.grew.grows.longer)))
