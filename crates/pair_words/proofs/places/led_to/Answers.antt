use Rattle.std.proofs.lemmas.Result.{IfOk-from_err}
use Rattle.std.proofs.Common.{◌≡◌, ℕ, ◌+◌, ◌*◌, ◌≤◌, Bool, cond, List, [], length, get_or, map, ap, ◌∙◌, arith, sym}
use Rattle.aig.specs.Graph.{holds}
use Rattle.aig.proofs.Growth.{Obeys-older, Grows-trans}
use Rattle.aig_words.specs.Words.{number}
use Rattle.aig_words.proofs.Grown.{Grew-refl, Grew-then, Grew-wider, IsIn-later, All-later}
use Rattle.pair_words.specs.declared.pairs.Pair.{Pair}
use Rattle.pair_words.specs.Rails.{bits}
use Rattle.pair_words.specs.Starts.{picked, begin_at}
use Rattle.pair_words.proofs.Growing.{vector_at, wired_at, wired-later}
use Rattle.pair_words.proofs.Starting.{led_start, led_more}
use Rattle.std.proofs.lemmas.List.{take_all}
use Rattle.std.proofs.lemmas.Nat.{mul-le}
use Rattle.pair_words.proofs.places.led_to.Goals as goal

pub loop-t-preserved : goal.loop-t-preserved
loop-t-preserved c =
    let t : ℕ = c.loop-t.t in
    let parts = c.args.parts.now in
    let none = c.args.none.now in
    let m : ℕ = 2 * length c.args.far.now + 3 in
    let n : ℕ = length none in
    let grew = c.in_ok-word-2.ensures.grew in
    let part : c.nth.result.now ≡ get_or parts t [] = c.nth.ensures in
    let fits = c.requires.parts_in t [] c.loop-t-test.true in
    let wide : length c.nth.result.now ≡ n = ap (λ (xs : List Pair). length xs) part ∙ fits.long in
    let two = Grew-then m (6 * length c.nth.result.now) (m + 6 * n) c.loop-t.aig _ _ (omega (arith, wide)) c.in_ok-there.ensures.grew grew in
    let more : (m + 6 * n) * t + (m + 6 * n) ≤ (m + 6 * n) * (t + 1) = grind arith in
    record {
      grew = Grew-then ((m + 6 * n) * t) (m + 6 * n) ((m + 6 * n) * (t + 1)) c.args.aig.now c.loop-t.aig _ more c.loop-t.invariant.grew two;
      word = vector_at _ _ n c.in_ok-word-2.word.items wide c.in_ok-word-2.ensures.word;
      value = λ v o.
          let o1 = Obeys-older v _ _ grew.grows o in
          let z = begin_at (holds v c.args.back) (number v c.args.far.now) c.args.each c.args.start.back c.args.start.far in
          let w : Bool = holds v c.in_ok-there.there in
          led_more v parts t z w (bits v none) (bits v c.loop-t.word.items) (bits v c.in_ok-word-2.word.items) c.loop-t-test.true (c.in_ok-there.ensures.value v o1)
          (c.loop-t.invariant.value v (Obeys-older v _ _ c.in_ok-there.ensures.grew.grows o1))
          (c.in_ok-word-2.ensures.value v o ∙ ap (λ (xs : List Pair). cond w (bits v xs) (bits v c.deref.result.now)) part ∙ ap (λ (xs : List Pair). cond w (bits v (get_or parts t [])) (bits v xs)) c.deref.ensures.value);
    }

pub returns-clause-value : goal.returns-clause-value
returns-clause-value c = λ v o.
    c.loop-t.invariant.value v o ∙ ap (λ (xs : List (List Pair)). picked (map (λ (w : List Pair). bits v w) xs) (begin_at (holds v c.args.back) (number v c.args.far.now) c.args.each c.args.start.back c.args.start.far) (bits v c.args.none.now)) (take_all c.loop-t.t c.args.parts.now (omega arith))

pub loop-t-init : goal.loop-t-init
loop-t-init c =
    let none = c.args.none.now in
    let same : c.in_ok-word.word.items ≡ none = c.in_ok-word.ensures.items in
    let m : ℕ = 2 * length c.args.far.now + 3 + 6 * length none in
    record {
      grew = Grew-wider 0 (m * 0) _ _ (omega arith) (Grew-refl 0 c.args.aig.now);
      word = record { long = ap (λ (t : List Pair). length t) same; inside = rw same c.requires.none_in };
      value = λ v o. ap (λ (t : List Pair). bits v t) same ∙ led_start v (begin_at (holds v c.args.back) (number v c.args.far.now) c.args.each c.args.start.back c.args.start.far) (bits v none);
    }

pub returns-in_err-there-clause-value : goal.returns-in_err-there-clause-value
returns-in_err-there-clause-value c = IfOk-from_err _ _ c.from_residual-in_err-there.ensures.0

pub returns-in_err-there-clause-word : goal.returns-in_err-there-clause-word
returns-in_err-there-clause-word c = IfOk-from_err _ _ c.from_residual-in_err-there.ensures.0

pub returns-in_err-word-2-clause-value : goal.returns-in_err-word-2-clause-value
returns-in_err-word-2-clause-value c = IfOk-from_err _ _ c.from_residual-in_err-word-2.ensures.0

pub returns-in_err-word-2-clause-word : goal.returns-in_err-word-2-clause-word
returns-in_err-word-2-clause-word c = IfOk-from_err _ _ c.from_residual-in_err-word-2.ensures.0

pub returns-in_err-word-clause-value : goal.returns-in_err-word-clause-value
returns-in_err-word-clause-value c = IfOk-from_err _ _ c.from_residual.ensures.0

pub returns-in_err-word-clause-word : goal.returns-in_err-word-clause-word
returns-in_err-word-clause-word c = IfOk-from_err _ _ c.from_residual.ensures.0

pub returns-in_err-word-clause-grew : goal.returns-in_err-word-clause-grew
returns-in_err-word-clause-grew c = Grew-refl _ c.args.aig.now

pub returns-in_err-there-clause-grew : goal.returns-in_err-there-clause-grew
returns-in_err-there-clause-grew c =
    let t : ℕ = c.loop-t.t in
    let count : ℕ = length c.args.parts.now in
    let m : ℕ = 2 * length c.args.far.now + 3 in
    let n : ℕ = length c.args.none.now in
    let more : (m + 6 * n) * t + m ≤ (m + 6 * n) * (t + 1) = grind arith in
    let rest : (m + 6 * n) * (t + 1) ≤ (m + 6 * n) * count = mul-le (m + 6 * n) (t + 1) (m + 6 * n) count (omega arith) (omega (arith, c.loop-t-test.true)) in
    Grew-then ((m + 6 * n) * t) m ((m + 6 * n) * count) c.args.aig.now c.loop-t.aig _ (omega (arith, more, rest)) c.loop-t.invariant.grew c.in_err-there.ensures.grew

pub returns-in_err-word-2-clause-grew : goal.returns-in_err-word-2-clause-grew
returns-in_err-word-2-clause-grew c =
    let t : ℕ = c.loop-t.t in
    let count : ℕ = length c.args.parts.now in
    let m : ℕ = 2 * length c.args.far.now + 3 in
    let n : ℕ = length c.args.none.now in
    let part : c.nth.result.now ≡ get_or c.args.parts.now t [] = c.nth.ensures in
    let wide : length c.nth.result.now ≡ n = ap (λ (xs : List Pair). length xs) part ∙ (c.requires.parts_in t [] c.loop-t-test.true).long in
    let two = Grew-then m (6 * length c.nth.result.now) (m + 6 * n) c.loop-t.aig _ _ (omega (arith, wide)) c.in_ok-there.ensures.grew c.in_err-word-2.ensures.grew in
    let more : (m + 6 * n) * t + (m + 6 * n) ≤ (m + 6 * n) * (t + 1) = grind arith in
    let rest : (m + 6 * n) * (t + 1) ≤ (m + 6 * n) * count = mul-le (m + 6 * n) (t + 1) (m + 6 * n) count (omega arith) (omega (arith, c.loop-t-test.true)) in
    Grew-then ((m + 6 * n) * t) (m + 6 * n) ((m + 6 * n) * count) c.args.aig.now c.loop-t.aig _ (omega (arith, more, rest)) c.loop-t.invariant.grew two

pub returns-clause-grew : goal.returns-clause-grew
returns-clause-grew c =
    let t : ℕ = c.loop-t.t in
    let count : ℕ = length c.args.parts.now in
    let m : ℕ = 2 * length c.args.far.now + 3 in
    let n : ℕ = length c.args.none.now in
    Grew-wider ((m + 6 * n) * t) ((m + 6 * n) * count) _ _ (mul-le (m + 6 * n) t (m + 6 * n) count (omega arith) (omega arith)) c.loop-t.invariant.grew

pub leads-requires-clause-node : goal.leads-requires-clause-node
leads-requires-clause-node c = let longer = c.loop-t.invariant.grew.grows.longer in omega (arith, c.requires.node, longer)

pub leads-requires-clause-near : goal.leads-requires-clause-near
leads-requires-clause-near c = c.requires.near

pub leads-requires-clause-back_in : goal.leads-requires-clause-back_in
leads-requires-clause-back_in c = IsIn-later c.args.aig.now c.loop-t.aig c.args.back c.loop-t.invariant.grew.grows c.requires.back_in

pub leads-requires-clause-far_in : goal.leads-requires-clause-far_in
leads-requires-clause-far_in c = All-later c.args.aig.now c.loop-t.aig c.args.far.now c.loop-t.invariant.grew.grows c.requires.far_in

pub pick_vector-requires-clause-same : goal.pick_vector-requires-clause-same
pick_vector-requires-clause-same c =
    let part = ap (λ (xs : List Pair). length xs) c.nth.ensures ∙ (c.requires.parts_in c.loop-t.t [] c.loop-t-test.true).long in
    part ∙ sym (ap (λ (xs : List Pair). length xs) c.deref.ensures.value ∙ c.loop-t.invariant.word.long)

pub pick_vector-requires-clause-c_in : goal.pick_vector-requires-clause-c_in
pick_vector-requires-clause-c_in c = c.in_ok-there.ensures.within

pub pick_vector-requires-clause-a_in : goal.pick_vector-requires-clause-a_in
pick_vector-requires-clause-a_in c =
    let grows = Grows-trans c.args.aig.now c.loop-t.aig c.leads.new.aig c.loop-t.invariant.grew.grows c.in_ok-there.ensures.grew.grows in
    let part = (c.requires.parts_in c.loop-t.t [] c.loop-t-test.true).inside in
    wired_at c.leads.new.aig (get_or c.args.parts.now c.loop-t.t []) c.nth.result.now c.nth.ensures (wired-later c.args.aig.now c.leads.new.aig _ grows part)

pub pick_vector-requires-clause-b_in : goal.pick_vector-requires-clause-b_in
pick_vector-requires-clause-b_in c = wired_at c.leads.new.aig c.loop-t.word.items c.deref.result.now c.deref.ensures.value (wired-later c.loop-t.aig c.leads.new.aig c.loop-t.word.items c.in_ok-there.ensures.grew.grows c.loop-t.invariant.word.inside)

pub returns-clause-word : goal.returns-clause-word
returns-clause-word c = c.loop-t.invariant.word
