use Rattle.std.proofs.lemmas.Result.{IfOk-from_err}
use Rattle.std.proofs.Common.{◌≡◌, ◌+◌, ◌%◌, false, eqb, get_or, ap, ◌∙◌, arith, length}
use Rattle.aig.specs.declared.gate.Lit.{Lit}
use Rattle.aig.specs.Graph.{holds, constant_lit}
use Rattle.aig.proofs.Growth.{Obeys-older}
use Rattle.aig_words.proofs.Numbers.{holds-zero, holds-one}
use Rattle.aig_words.proofs.Grown.{Grew-refl, Grew-then, Grew-wider}
use Rattle.pair_words.proofs.Starting.{flipped_is, number_start, number_more, rest_start, rest_more, number_past}
use Rattle.aig_words.specs.Words.{Grew}
use Rattle.pair_words.proofs.indexes.is_number.Goals as goal

pub loop-i-init : goal.loop-i-init
loop-i-init c = record {
  grew = Grew-refl 0 c.args.aig.now;
  within = (let e : c.constant-last.result.node ≡ 0 = ap (λ (l : Lit). l.node) c.constant-last.ensures in omega (arith, c.requires.node));
  rest = rest_start c.args.k;
  value = λ v o. number_start v c.args.k (holds v c.constant-last.result) (holds-one v c.constant-last.result c.constant-last.ensures o.bottom);
}

pub loop-i-preserved : goal.loop-i-preserved
loop-i-preserved c =
    let i = c.loop-i.i in
    let s1 : Grew 1 _ _ = record { grows = c.in_ok-last.ensures.grows; nodes = c.in_ok-last.ensures.nodes; flat = c.in_ok-last.ensures.flat } in
    record {
      grew = Grew-then i 1 (i + 1) c.args.aig.now c.loop-i.aig _ (omega arith) c.loop-i.invariant.grew s1;
      within = c.in_ok-last.ensures.within;
      rest = rest_more c.args.k i c.loop-i.rest c.loop-i.invariant.rest;
      value = λ v o. number_more v c.args.word.now i (constant_lit false) c.args.k c.loop-i.rest (holds v c.loop-i.last) (holds v c.flipped.result) _ c.loop-i-test.true c.loop-i.invariant.rest
          (c.loop-i.invariant.value v (Obeys-older v _ _ c.in_ok-last.ensures.grows o))
          (flipped_is v (get_or c.args.word.now i (constant_lit false)) c.flipped.result (eqb (c.loop-i.rest % 2) 0) c.flipped.ensures) (c.in_ok-last.ensures.value.obeyed v o);
    }

pub returns-else-rest-eq0-clause-value : goal.returns-else-rest-eq0-clause-value
returns-else-rest-eq0-clause-value c = λ v o.
    holds-zero v c.constant.result c.constant.ensures o.bottom ∙
    number_past v c.args.word.now c.loop-i.i c.args.k c.loop-i.rest (omega arith) c.loop-i.invariant.rest c.if-rest-eq0.false

pub returns-in_err-last-clause-value : goal.returns-in_err-last-clause-value
returns-in_err-last-clause-value c = IfOk-from_err _ _ c.from_residual.ensures.0

pub returns-in_err-last-clause-within : goal.returns-in_err-last-clause-within
returns-in_err-last-clause-within c = IfOk-from_err _ _ c.from_residual.ensures.0

pub and-requires-clause-a_in : goal.and-requires-clause-a_in
and-requires-clause-a_in c = c.loop-i.invariant.within

pub returns-then-rest-eq0-clause-within : goal.returns-then-rest-eq0-clause-within
returns-then-rest-eq0-clause-within c = c.loop-i.invariant.within

pub returns-in_err-last-clause-grew : goal.returns-in_err-last-clause-grew
returns-in_err-last-clause-grew c =
    let s1 : Grew 1 _ _ = record { grows = c.in_err-last.ensures.grows; nodes = c.in_err-last.ensures.nodes; flat = c.in_err-last.ensures.flat } in
    Grew-then c.loop-i.i 1 (length c.args.word.now) c.args.aig.now c.loop-i.aig _ (let lt = c.loop-i-test.true in omega (arith, lt)) c.loop-i.invariant.grew s1

pub returns-then-rest-eq0-clause-grew : goal.returns-then-rest-eq0-clause-grew
returns-then-rest-eq0-clause-grew c = Grew-wider c.loop-i.i (length c.args.word.now) c.args.aig.now c.loop-i.aig (omega arith) c.loop-i.invariant.grew

pub returns-else-rest-eq0-clause-grew : goal.returns-else-rest-eq0-clause-grew
returns-else-rest-eq0-clause-grew c = Grew-wider c.loop-i.i (length c.args.word.now) c.args.aig.now c.loop-i.aig (omega arith) c.loop-i.invariant.grew
