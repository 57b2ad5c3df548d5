use Rattle.std.proofs.lemmas.Result.{IfOk-from_err}
use Rattle.std.proofs.Common.{◌≡◌, ◌+◌, ◌*◌, ℕ, length, subst, arith, ◌-◌, ◌<◌}
use Rattle.aig.proofs.Growth.{Obeys-older}
use Rattle.aig_words.proofs.Grown.{Grew-refl, Grew-then, Grew-wider}
use Rattle.aig_words.specs.Words.{Grew}
use Rattle.pair_words.specs.Rails.{bit_at, two_value, two_nodes}
use Rattle.pair_words.proofs.Lists.{over_start, over_more, over_end}
use Rattle.pair_words.proofs.Growing.{wired-later, one_place}
use Rattle.pair_words.proofs.vectors.over_in_turn.Goals as goal

pub loop-i-init : goal.loop-i-init
loop-i-init c = record {
  grew = Grew-wider 0 (two_nodes c.args.op * 0) _ _ (omega arith) (Grew-refl 0 c.args.aig.now);
  within = c.requires.start_in;
  value = λ v o. over_start v (two_value c.args.op) (bit_at v c.args.start) c.args.a.now;
}

pub loop-i-preserved : goal.loop-i-preserved
loop-i-preserved c =
    let i = c.loop-i.i in
    let m : ℕ = two_nodes c.args.op in
    let grew = c.in_ok-last.ensures.grew in
    record {
      grew = Grew-then (m * i) m (m * (i + 1)) c.args.aig.now c.loop-i.aig _ (grind arith) c.loop-i.invariant.grew grew;
      within = c.in_ok-last.ensures.within;
      value = λ v o. over_more v (two_value c.args.op) (bit_at v c.args.start) c.args.a.now i _ c.loop-i.last _ c.loop-i-test.true
          (c.loop-i.invariant.value v (Obeys-older v _ _ grew.grows o)) (c.in_ok-last.ensures.value v o);
    }

pub returns-clause-grew : goal.returns-clause-grew
returns-clause-grew c =
    let e : c.loop-i.i ≡ length c.args.a.now = omega arith in
    subst (λ (n : ℕ). Grew (two_nodes c.args.op * n) c.args.aig.now c.loop-i.aig) e c.loop-i.invariant.grew

pub returns-clause-value : goal.returns-clause-value
returns-clause-value c = λ v o. over_end v (two_value c.args.op) (bit_at v c.args.start) c.args.a.now c.loop-i.i _ (omega arith) (c.loop-i.invariant.value v o)

pub returns-in_err-last-clause-value : goal.returns-in_err-last-clause-value
returns-in_err-last-clause-value c = IfOk-from_err _ _ c.from_residual.ensures.0

pub returns-in_err-last-clause-within : goal.returns-in_err-last-clause-within
returns-in_err-last-clause-within c = IfOk-from_err _ _ c.from_residual.ensures.0

pub two_bits-requires-clause-a_in : goal.two_bits-requires-clause-a_in
two_bits-requires-clause-a_in c =
    let at : length c.args.a.now - 1 - c.loop-i.i < length c.args.a.now = (let lt = c.loop-i-test.true in omega (arith, lt)) in
    wired-later c.args.aig.now c.loop-i.aig c.args.a.now c.loop-i.invariant.grew.grows c.requires.a_in (length c.args.a.now - 1 - c.loop-i.i) _ at

pub two_bits-requires-clause-b_in : goal.two_bits-requires-clause-b_in
two_bits-requires-clause-b_in c = c.loop-i.invariant.within

pub returns-clause-within : goal.returns-clause-within
returns-clause-within c = c.loop-i.invariant.within

pub returns-in_err-last-clause-grew : goal.returns-in_err-last-clause-grew
returns-in_err-last-clause-grew c =
    let m : ℕ = two_nodes c.args.op in
    let n : ℕ = length c.args.a.now in
    Grew-then (m * c.loop-i.i) m (m * n) c.args.aig.now c.loop-i.aig _ (one_place m c.loop-i.i n c.loop-i-test.true) c.loop-i.invariant.grew c.in_err-last.ensures.grew
