use Rattle.std.proofs.lemmas.Result.{IfOk-from_err}
use Rattle.aig.specs.Graph.{holds}
use Rattle.aig_words.proofs.Tables.{holds-negation}
use Rattle.aig_words.proofs.Grown.{negation_in}
use Rattle.pair_words.proofs.Tables.{not_by}
use Rattle.pair_words.proofs.pairs.inverse.Goals as goal

pub unfloat-requires : goal.unfloat-requires
unfloat-requires c = record { a_in = c.requires.a_in }

pub returns-clause-grew : goal.returns-clause-grew
returns-clause-grew c = c.in_ok-plain.ensures.grew

pub returns-in_err-plain-clause-grew : goal.returns-in_err-plain-clause-grew
returns-in_err-plain-clause-grew c = c.in_err-plain.ensures.grew

pub returns-clause-within : goal.returns-clause-within
returns-clause-within c = record {
  up = negation_in c.unfloat.new.aig c.in_ok-plain.plain.low _ c.not.ensures c.in_ok-plain.ensures.within.low;
  low = negation_in c.unfloat.new.aig c.in_ok-plain.plain.up _ c.not-2.ensures c.in_ok-plain.ensures.within.up;
}

pub returns-clause-value : goal.returns-clause-value
returns-clause-value c = λ v o.
    let both = c.in_ok-plain.ensures.value v o in
    not_by (holds v c.args.a.up) (holds v c.args.a.low) (holds v c.in_ok-plain.plain.up) (holds v c.in_ok-plain.plain.low) _ _ both.0 both.1
    (holds-negation v c.in_ok-plain.plain.low _ c.not.ensures) (holds-negation v c.in_ok-plain.plain.up _ c.not-2.ensures)

pub returns-in_err-plain-clause-value : goal.returns-in_err-plain-clause-value
returns-in_err-plain-clause-value c = IfOk-from_err _ _ c.from_residual.ensures.0

pub returns-in_err-plain-clause-within : goal.returns-in_err-plain-clause-within
returns-in_err-plain-clause-within c = IfOk-from_err _ _ c.from_residual.ensures.0
