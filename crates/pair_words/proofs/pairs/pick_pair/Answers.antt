use Rattle.std.proofs.lemmas.Result.{IfOk-from_err}
use Rattle.aig.specs.Graph.{holds}
use Rattle.aig.proofs.Growth.{Obeys-older}
use Rattle.aig_words.proofs.Grown.{Grew-both, Grew-more, IsIn-later}
use Rattle.pair_words.proofs.Picking.{pick_by}
use Rattle.pair_words.proofs.pairs.pick_pair.Goals as goal

pub pick-requires-clause-c_in : goal.pick-requires-clause-c_in
pick-requires-clause-c_in c = c.requires.c_in

pub pick-requires-clause-a_in : goal.pick-requires-clause-a_in
pick-requires-clause-a_in c = c.requires.a_in.up

pub pick-requires-clause-b_in : goal.pick-requires-clause-b_in
pick-requires-clause-b_in c = c.requires.b_in.up

pub pick-requires-2-clause-c_in : goal.pick-requires-2-clause-c_in
pick-requires-2-clause-c_in c = IsIn-later c.args.aig.now c.pick.new.aig c.args.c c.in_ok-up.ensures.grew.grows c.requires.c_in

pub pick-requires-2-clause-a_in : goal.pick-requires-2-clause-a_in
pick-requires-2-clause-a_in c = IsIn-later c.args.aig.now c.pick.new.aig c.args.a.low c.in_ok-up.ensures.grew.grows c.requires.a_in.low

pub pick-requires-2-clause-b_in : goal.pick-requires-2-clause-b_in
pick-requires-2-clause-b_in c = IsIn-later c.args.aig.now c.pick.new.aig c.args.b.low c.in_ok-up.ensures.grew.grows c.requires.b_in.low

pub returns-clause-grew : goal.returns-clause-grew
returns-clause-grew c = Grew-both 3 3 c.args.aig.now c.pick.new.aig c.pick-2.new.aig c.in_ok-up.ensures.grew c.in_ok-low.ensures.grew

pub returns-in_err-up-clause-grew : goal.returns-in_err-up-clause-grew
returns-in_err-up-clause-grew c = Grew-more 3 3 c.args.aig.now c.pick.new.aig c.in_err-up.ensures.grew

pub returns-in_err-low-clause-grew : goal.returns-in_err-low-clause-grew
returns-in_err-low-clause-grew c = Grew-both 3 3 c.args.aig.now c.pick.new.aig c.pick-2.new.aig c.in_ok-up.ensures.grew c.in_err-low.ensures.grew

pub returns-clause-within : goal.returns-clause-within
returns-clause-within c = record {
  up = IsIn-later c.pick.new.aig c.pick-2.new.aig c.in_ok-up.up c.in_ok-low.ensures.grew.grows c.in_ok-up.ensures.within;
  low = c.in_ok-low.ensures.within;
}

pub returns-clause-value : goal.returns-clause-value
returns-clause-value c = λ v o.
    pick_by (holds v c.args.c) (holds v c.args.a.up) (holds v c.args.a.low) (holds v c.args.b.up) (holds v c.args.b.low) _ _
    (c.in_ok-up.ensures.value.obeyed v (Obeys-older v _ _ c.in_ok-low.ensures.grew.grows o)) (c.in_ok-low.ensures.value.obeyed v o)

pub returns-in_err-up-clause-value : goal.returns-in_err-up-clause-value
returns-in_err-up-clause-value c = IfOk-from_err _ _ c.from_residual.ensures.0

pub returns-in_err-up-clause-within : goal.returns-in_err-up-clause-within
returns-in_err-up-clause-within c = IfOk-from_err _ _ c.from_residual.ensures.0

pub returns-in_err-low-clause-value : goal.returns-in_err-low-clause-value
returns-in_err-low-clause-value c = IfOk-from_err _ _ c.from_residual-in_err-low.ensures.0

pub returns-in_err-low-clause-within : goal.returns-in_err-low-clause-within
returns-in_err-low-clause-within c = IfOk-from_err _ _ c.from_residual-in_err-low.ensures.0
