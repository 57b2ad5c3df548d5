use Rattle.std.proofs.lemmas.Result.{IfOk-from_err}
use Rattle.std.proofs.Common.{◌≡◌, Bool, not, ◌&&◌, ◌||◌}
use Rattle.aig.specs.Graph.{holds}
use Rattle.aig.proofs.Growth.{Obeys-older}
use Rattle.aig_words.proofs.Tables.{holds-negation}
use Rattle.aig_words.proofs.Grown.{Grew-both, Grew-more, negation_in, if_ok}
use Rattle.pair_words.proofs.pairs.without.Goals as goal

by : (a b x y nx ny f s r : Bool) → ny ≡ not y → nx ≡ not x → f ≡ (a && ny) → s ≡ (b && nx) → r ≡ (f || s) → r ≡ ((a && not y) || (b && not x))
by a b x y nx ny f s r e1 e2 e3 e4 e5 = cc

pub two_gates-requires-clause-w_in : goal.two_gates-requires-clause-w_in
two_gates-requires-clause-w_in c = c.requires.a_in

pub two_gates-requires-clause-x_in : goal.two_gates-requires-clause-x_in
two_gates-requires-clause-x_in c = negation_in c.args.aig.now c.args.other_b _ c.not.ensures c.requires.other_b_in

pub two_gates-requires-clause-y_in : goal.two_gates-requires-clause-y_in
two_gates-requires-clause-y_in c = c.requires.b_in

pub two_gates-requires-clause-z_in : goal.two_gates-requires-clause-z_in
two_gates-requires-clause-z_in c = negation_in c.args.aig.now c.args.other_a _ c.not-2.ensures c.requires.other_a_in

pub or-requires-clause-a_in : goal.or-requires-clause-a_in
or-requires-clause-a_in c = c.in_ok-alone.ensures.within.up

pub or-requires-clause-b_in : goal.or-requires-clause-b_in
or-requires-clause-b_in c = c.in_ok-alone.ensures.within.low

pub returns-clause-grew : goal.returns-clause-grew
returns-clause-grew c = Grew-both 2 1 c.args.aig.now c.two_gates.new.aig c.or.new.aig c.in_ok-alone.ensures.grew c.or.ensures.grew

pub returns-in_err-alone-clause-grew : goal.returns-in_err-alone-clause-grew
returns-in_err-alone-clause-grew c = Grew-more 2 1 c.args.aig.now c.two_gates.new.aig c.in_err-alone.ensures.grew

pub returns-clause-within : goal.returns-clause-within
returns-clause-within c = c.or.ensures.within

pub returns-clause-value : goal.returns-clause-value
returns-clause-value c = if_ok c.or.result _ _ c.or.ensures.value (λ r h v o.
    let gates = c.in_ok-alone.ensures.value v (Obeys-older v _ _ c.or.ensures.grew.grows o) in
    by (holds v c.args.a) (holds v c.args.b) (holds v c.args.other_a) (holds v c.args.other_b) _ _ _ _ _
    (holds-negation v c.args.other_b _ c.not.ensures) (holds-negation v c.args.other_a _ c.not-2.ensures) gates.0 gates.1 (h.obeyed v o))

pub returns-in_err-alone-clause-value : goal.returns-in_err-alone-clause-value
returns-in_err-alone-clause-value c = IfOk-from_err _ _ c.from_residual.ensures.0

pub returns-in_err-alone-clause-within : goal.returns-in_err-alone-clause-within
returns-in_err-alone-clause-within c = IfOk-from_err _ _ c.from_residual.ensures.0
