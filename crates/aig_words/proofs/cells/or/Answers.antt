use Rattle.std.proofs.lemmas.Result.{IfOk-from_err}
use Rattle.aig.specs.Graph.{holds}
use Rattle.aig.proofs.Values.{always_from}
use Rattle.aig_words.proofs.Grown.{negation_in}
use Rattle.aig_words.proofs.Tables.{holds-negation, or_by}
use Rattle.aig_words.proofs.cells.or.Goals as goal

pub and-requires-clause-a_in : goal.and-requires-clause-a_in
and-requires-clause-a_in c = negation_in c.args.aig.now c.args.a _ c.not.ensures c.requires.a_in

pub and-requires-clause-b_in : goal.and-requires-clause-b_in
and-requires-clause-b_in c = negation_in c.args.aig.now c.args.b _ c.not-2.ensures c.requires.b_in

pub returns-clause-grew : goal.returns-clause-grew
returns-clause-grew c = record { grows = c.in_ok-neither.ensures.grows; nodes = c.in_ok-neither.ensures.nodes; flat = c.in_ok-neither.ensures.flat }

pub returns-in_err-neither-clause-grew : goal.returns-in_err-neither-clause-grew
returns-in_err-neither-clause-grew c = record { grows = c.in_err-neither.ensures.grows; nodes = c.in_err-neither.ensures.nodes; flat = c.in_err-neither.ensures.flat }

pub returns-clause-within : goal.returns-clause-within
returns-clause-within c = negation_in c.and.new.self c.in_ok-neither.neither _ c.not-3.ensures c.in_ok-neither.ensures.within

pub returns-clause-value : goal.returns-clause-value
returns-clause-value c = always_from _ _ c.in_ok-neither.ensures.value.graph (λ v o.
    or_by (holds v c.args.a) (holds v c.args.b) _ _ _ _ (holds-negation v c.args.a _ c.not.ensures) (holds-negation v c.args.b _ c.not-2.ensures)
    (c.in_ok-neither.ensures.value.obeyed v o) (holds-negation v c.in_ok-neither.neither _ c.not-3.ensures))

pub returns-in_err-neither-clause-value : goal.returns-in_err-neither-clause-value
returns-in_err-neither-clause-value c = IfOk-from_err _ _ c.from_residual.ensures.0

pub returns-in_err-neither-clause-within : goal.returns-in_err-neither-clause-within
returns-in_err-neither-clause-within c = IfOk-from_err _ _ c.from_residual.ensures.0
