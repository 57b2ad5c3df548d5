use Rattle.std.proofs.lemmas.Result.{IfOk-from_err}
use Rattle.aig.specs.Graph.{holds}
use Rattle.aig.proofs.Growth.{Obeys-older}
use Rattle.aig_words.proofs.Grown.{Grew-both, Grew-more, IsIn-later}
use Rattle.pair_words.proofs.Growing.{up_later, low_later}
use Rattle.pair_words.proofs.Tables.{xor_by}
use Rattle.pair_words.proofs.pairs.differ.Goals as goal

pub without-requires-clause-a_in : goal.without-requires-clause-a_in
without-requires-clause-a_in c = c.in_ok-first.ensures.first_in.up

pub without-requires-clause-b_in : goal.without-requires-clause-b_in
without-requires-clause-b_in c = c.in_ok-first.ensures.second_in.up

pub without-requires-clause-other_a_in : goal.without-requires-clause-other_a_in
without-requires-clause-other_a_in c = c.in_ok-first.ensures.first_in.low

pub without-requires-clause-other_b_in : goal.without-requires-clause-other_b_in
without-requires-clause-other_b_in c = c.in_ok-first.ensures.second_in.low

pub without-requires-2-clause-a_in : goal.without-requires-2-clause-a_in
without-requires-2-clause-a_in c = low_later c.unfloat_both.new.aig c.without.new.aig _ c.in_ok-up.ensures.grew.grows c.in_ok-first.ensures.first_in

pub without-requires-2-clause-b_in : goal.without-requires-2-clause-b_in
without-requires-2-clause-b_in c = low_later c.unfloat_both.new.aig c.without.new.aig _ c.in_ok-up.ensures.grew.grows c.in_ok-first.ensures.second_in

pub without-requires-2-clause-other_a_in : goal.without-requires-2-clause-other_a_in
without-requires-2-clause-other_a_in c = up_later c.unfloat_both.new.aig c.without.new.aig _ c.in_ok-up.ensures.grew.grows c.in_ok-first.ensures.first_in

pub without-requires-2-clause-other_b_in : goal.without-requires-2-clause-other_b_in
without-requires-2-clause-other_b_in c = up_later c.unfloat_both.new.aig c.without.new.aig _ c.in_ok-up.ensures.grew.grows c.in_ok-first.ensures.second_in

pub returns-clause-grew : goal.returns-clause-grew
returns-clause-grew c = Grew-both 7 3 c.args.aig.now c.without.new.aig c.without-2.new.aig (Grew-both 4 3 c.args.aig.now c.unfloat_both.new.aig c.without.new.aig c.in_ok-first.ensures.grew c.in_ok-up.ensures.grew) c.in_ok-low.ensures.grew

pub returns-in_err-first-clause-grew : goal.returns-in_err-first-clause-grew
returns-in_err-first-clause-grew c = Grew-more 4 6 c.args.aig.now c.unfloat_both.new.aig c.in_err-first.ensures.grew

pub returns-in_err-up-clause-grew : goal.returns-in_err-up-clause-grew
returns-in_err-up-clause-grew c = Grew-more 7 3 c.args.aig.now c.without.new.aig (Grew-both 4 3 c.args.aig.now c.unfloat_both.new.aig c.without.new.aig c.in_ok-first.ensures.grew c.in_err-up.ensures.grew)

pub returns-in_err-low-clause-grew : goal.returns-in_err-low-clause-grew
returns-in_err-low-clause-grew c = Grew-both 7 3 c.args.aig.now c.without.new.aig c.without-2.new.aig (Grew-both 4 3 c.args.aig.now c.unfloat_both.new.aig c.without.new.aig c.in_ok-first.ensures.grew c.in_ok-up.ensures.grew) c.in_err-low.ensures.grew

pub returns-clause-within : goal.returns-clause-within
returns-clause-within c = record {
  up = IsIn-later c.without.new.aig c.without-2.new.aig c.in_ok-up.up c.in_ok-low.ensures.grew.grows c.in_ok-up.ensures.within;
  low = c.in_ok-low.ensures.within;
}

pub returns-clause-value : goal.returns-clause-value
returns-clause-value c = λ v o.
    let o2 = Obeys-older v _ _ c.in_ok-low.ensures.grew.grows o in
    let o1 = Obeys-older v _ _ c.in_ok-up.ensures.grew.grows o2 in
    let first = c.in_ok-first.ensures.first v o1 in
    let second = c.in_ok-first.ensures.second v o1 in
    xor_by (holds v c.args.a.up) (holds v c.args.a.low) (holds v c.args.b.up) (holds v c.args.b.low) _ _ _ _ _ _ first.0 first.1 second.0 second.1 (c.in_ok-up.ensures.value v o2) (c.in_ok-low.ensures.value v o)

pub returns-in_err-first-clause-value : goal.returns-in_err-first-clause-value
returns-in_err-first-clause-value c = IfOk-from_err _ _ c.from_residual.ensures.0

pub returns-in_err-first-clause-within : goal.returns-in_err-first-clause-within
returns-in_err-first-clause-within c = IfOk-from_err _ _ c.from_residual.ensures.0

pub returns-in_err-up-clause-value : goal.returns-in_err-up-clause-value
returns-in_err-up-clause-value c = IfOk-from_err _ _ c.from_residual-in_err-up.ensures.0

pub returns-in_err-up-clause-within : goal.returns-in_err-up-clause-within
returns-in_err-up-clause-within c = IfOk-from_err _ _ c.from_residual-in_err-up.ensures.0

pub returns-in_err-low-clause-value : goal.returns-in_err-low-clause-value
returns-in_err-low-clause-value c = IfOk-from_err _ _ c.from_residual-in_err-low.ensures.0

pub returns-in_err-low-clause-within : goal.returns-in_err-low-clause-within
returns-in_err-low-clause-within c = IfOk-from_err _ _ c.from_residual-in_err-low.ensures.0
