use Rattle.aig.specs.Graph.{holds}
use Rattle.aig_words.proofs.Grown.{if_ok}
use Rattle.pair_words.proofs.Tables.{unfloat_by}
use Rattle.pair_words.proofs.pairs.plain.Goals as goal

pub unfloat-requires : goal.unfloat-requires
unfloat-requires c = record { a_in = c.requires.a_in }

pub returns-clause-grew : goal.returns-clause-grew
returns-clause-grew c = c.unfloat.ensures.grew

pub returns-clause-within : goal.returns-clause-within
returns-clause-within c = c.unfloat.ensures.within

pub returns-clause-value : goal.returns-clause-value
returns-clause-value c = if_ok c.unfloat.result _ _ c.unfloat.ensures.value (λ r h v o. let both = h v o in unfloat_by (holds v c.args.a.up) (holds v c.args.a.low) _ _ both.0 both.1)
