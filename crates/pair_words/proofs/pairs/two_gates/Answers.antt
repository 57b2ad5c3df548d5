use Rattle.std.proofs.lemmas.Result.{IfOk-from_err}
use Rattle.aig.proofs.Growth.{Obeys-older}
use Rattle.aig_words.proofs.Grown.{Grew-both, Grew-more, IsIn-later}
use Rattle.pair_words.proofs.pairs.two_gates.Goals as goal

pub and-requires-clause-a_in : goal.and-requires-clause-a_in
and-requires-clause-a_in c = c.requires.w_in

pub and-requires-clause-b_in : goal.and-requires-clause-b_in
and-requires-clause-b_in c = c.requires.x_in

pub and-requires-2-clause-a_in : goal.and-requires-2-clause-a_in
and-requires-2-clause-a_in c = IsIn-later c.args.aig.now c.and.new.self c.args.y c.in_ok-up.ensures.grows c.requires.y_in

pub and-requires-2-clause-b_in : goal.and-requires-2-clause-b_in
and-requires-2-clause-b_in c = IsIn-later c.args.aig.now c.and.new.self c.args.z c.in_ok-up.ensures.grows c.requires.z_in

pub returns-clause-grew : goal.returns-clause-grew
returns-clause-grew c = Grew-both 1 1 c.args.aig.now c.and.new.self c.and-2.new.self (record { grows = c.in_ok-up.ensures.grows; nodes = c.in_ok-up.ensures.nodes; flat = c.in_ok-up.ensures.flat }) (record { grows = c.in_ok-low.ensures.grows; nodes = c.in_ok-low.ensures.nodes; flat = c.in_ok-low.ensures.flat })

pub returns-in_err-up-clause-grew : goal.returns-in_err-up-clause-grew
returns-in_err-up-clause-grew c = Grew-more 1 1 c.args.aig.now c.and.new.self (record { grows = c.in_err-up.ensures.grows; nodes = c.in_err-up.ensures.nodes; flat = c.in_err-up.ensures.flat })

pub returns-in_err-low-clause-grew : goal.returns-in_err-low-clause-grew
returns-in_err-low-clause-grew c = Grew-both 1 1 c.args.aig.now c.and.new.self c.and-2.new.self (record { grows = c.in_ok-up.ensures.grows; nodes = c.in_ok-up.ensures.nodes; flat = c.in_ok-up.ensures.flat }) (record { grows = c.in_err-low.ensures.grows; nodes = c.in_err-low.ensures.nodes; flat = c.in_err-low.ensures.flat })

pub returns-clause-within : goal.returns-clause-within
returns-clause-within c = record {
  up = IsIn-later c.and.new.self c.and-2.new.self c.in_ok-up.up c.in_ok-low.ensures.grows c.in_ok-up.ensures.within;
  low = c.in_ok-low.ensures.within;
}

pub returns-clause-value : goal.returns-clause-value
returns-clause-value c = λ v o. (c.in_ok-up.ensures.value.obeyed v (Obeys-older v _ _ c.in_ok-low.ensures.grows o), c.in_ok-low.ensures.value.obeyed v o)

pub returns-in_err-up-clause-value : goal.returns-in_err-up-clause-value
returns-in_err-up-clause-value c = IfOk-from_err _ _ c.from_residual.ensures.0

pub returns-in_err-up-clause-within : goal.returns-in_err-up-clause-within
returns-in_err-up-clause-within c = IfOk-from_err _ _ c.from_residual.ensures.0

pub returns-in_err-low-clause-value : goal.returns-in_err-low-clause-value
returns-in_err-low-clause-value c = IfOk-from_err _ _ c.from_residual-in_err-low.ensures.0

pub returns-in_err-low-clause-within : goal.returns-in_err-low-clause-within
returns-in_err-low-clause-within c = IfOk-from_err _ _ c.from_residual-in_err-low.ensures.0
