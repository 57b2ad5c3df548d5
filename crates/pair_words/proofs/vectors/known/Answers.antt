use Rattle.std.proofs.lemmas.Result.{IfOk-from_err}
use Rattle.std.proofs.Common.{◌≡◌, ◌+◌, ◌*◌, ap, arith, ◌-◌, ◌<◌, length}
use Rattle.aig.specs.declared.gate.Lit.{Lit}
use Rattle.aig.specs.Graph.{holds}
use Rattle.aig.proofs.Growth.{Obeys-older}
use Rattle.aig_words.proofs.Grown.{Grew-refl, Grew-then, Grew-wider}
use Rattle.aig_words.proofs.Numbers.{holds-one}
use Rattle.pair_words.proofs.Lists.{known_start, known_more, known_end}
use Rattle.pair_words.proofs.Growing.{wired-later}
use Rattle.pair_words.proofs.vectors.known.Goals as goal

pub loop-i-init : goal.loop-i-init
loop-i-init c = record {
  grew = Grew-refl 0 c.args.aig.now;
  within = (let e : c.constant-last.result.node ≡ 0 = ap (λ (l : Lit). l.node) c.constant-last.ensures in omega (arith, c.requires.node));
  value = λ v o. known_start v c.args.a.now (holds v c.constant-last.result) (holds-one v c.constant-last.result c.constant-last.ensures o.bottom);
}

pub loop-i-preserved : goal.loop-i-preserved
loop-i-preserved c =
    let i = c.loop-i.i in
    let grew = c.in_ok-last.ensures.grew in
    record {
      grew = Grew-then (4 * i) 4 (4 * (i + 1)) c.args.aig.now c.loop-i.aig _ (omega arith) c.loop-i.invariant.grew grew;
      within = c.in_ok-last.ensures.within;
      value = λ v o. known_more v c.args.a.now i _ (holds v c.loop-i.last) _ c.loop-i-test.true
          (c.loop-i.invariant.value v (Obeys-older v _ _ grew.grows o)) (c.in_ok-last.ensures.value v o);
    }

pub returns-clause-value : goal.returns-clause-value
returns-clause-value c = λ v o. known_end v c.args.a.now c.loop-i.i _ (omega arith) (c.loop-i.invariant.value v o)

pub returns-in_err-last-clause-value : goal.returns-in_err-last-clause-value
returns-in_err-last-clause-value c = IfOk-from_err _ _ c.from_residual.ensures.0

pub returns-in_err-last-clause-within : goal.returns-in_err-last-clause-within
returns-in_err-last-clause-within c = IfOk-from_err _ _ c.from_residual.ensures.0

pub known_bit-requires-clause-a_in : goal.known_bit-requires-clause-a_in
known_bit-requires-clause-a_in c =
    let at : length c.args.a.now - 1 - c.loop-i.i < length c.args.a.now = (let lt = c.loop-i-test.true in omega (arith, lt)) in
    wired-later c.args.aig.now c.loop-i.aig c.args.a.now c.loop-i.invariant.grew.grows c.requires.a_in (length c.args.a.now - 1 - c.loop-i.i) _ at

pub known_bit-requires-clause-last_in : goal.known_bit-requires-clause-last_in
known_bit-requires-clause-last_in c = c.loop-i.invariant.within

pub returns-clause-within : goal.returns-clause-within
returns-clause-within c = c.loop-i.invariant.within

pub returns-clause-grew : goal.returns-clause-grew
returns-clause-grew c = Grew-wider (4 * c.loop-i.i) (4 * length c.args.a.now) c.args.aig.now c.loop-i.aig (omega arith) c.loop-i.invariant.grew

pub returns-in_err-last-clause-grew : goal.returns-in_err-last-clause-grew
returns-in_err-last-clause-grew c = Grew-then (4 * c.loop-i.i) 4 (4 * length c.args.a.now) c.args.aig.now c.loop-i.aig _ (let lt = c.loop-i-test.true in omega (arith, lt)) c.loop-i.invariant.grew c.in_err-last.ensures.grew
