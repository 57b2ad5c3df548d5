use Rattle.aig.specs.Graph.{holds}
use Rattle.aig_words.proofs.Grown.{if_ok}
use Rattle.pair_words.proofs.Tables.{res_by}
use Rattle.pair_words.proofs.pairs.resolved.Goals as goal

pub or_and-requires-clause-w_in : goal.or_and-requires-clause-w_in
or_and-requires-clause-w_in c = c.requires.a_in.up

pub or_and-requires-clause-x_in : goal.or_and-requires-clause-x_in
or_and-requires-clause-x_in c = c.requires.b_in.up

pub or_and-requires-clause-y_in : goal.or_and-requires-clause-y_in
or_and-requires-clause-y_in c = c.requires.a_in.low

pub or_and-requires-clause-z_in : goal.or_and-requires-clause-z_in
or_and-requires-clause-z_in c = c.requires.b_in.low

pub returns-clause-grew : goal.returns-clause-grew
returns-clause-grew c = c.or_and.ensures.grew

pub returns-clause-within : goal.returns-clause-within
returns-clause-within c = c.or_and.ensures.within

pub returns-clause-value : goal.returns-clause-value
returns-clause-value c = if_ok c.or_and.result _ _ c.or_and.ensures.value (λ r h v o. let both = h v o in res_by (holds v c.args.a.up) (holds v c.args.a.low) (holds v c.args.b.up) (holds v c.args.b.low) _ _ both.0 both.1)
