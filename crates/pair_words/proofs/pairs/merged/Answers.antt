use Rattle.std.proofs.lemmas.Result.{IfOk-from_err}
use Rattle.aig.specs.Graph.{holds}
use Rattle.aig.proofs.Growth.{Obeys-older}
use Rattle.aig_words.proofs.Grown.{Grew-both, Grew-more, if_ok}
use Rattle.pair_words.proofs.Tables.{merge_by}
use Rattle.pair_words.proofs.pairs.merged.Goals as goal

pub kept-requires-clause-a_in : goal.kept-requires-clause-a_in
kept-requires-clause-a_in c = c.requires.a_in

pub kept-requires-clause-b_in : goal.kept-requires-clause-b_in
kept-requires-clause-b_in c = c.requires.b_in

pub unfloat-requires : goal.unfloat-requires
unfloat-requires c = record { a_in = c.in_ok-same.ensures.within }

pub returns-clause-grew : goal.returns-clause-grew
returns-clause-grew c = Grew-both 9 2 c.args.aig.now c.kept.new.aig c.unfloat.new.aig c.in_ok-same.ensures.grew c.unfloat.ensures.grew

pub returns-in_err-same-clause-grew : goal.returns-in_err-same-clause-grew
returns-in_err-same-clause-grew c = Grew-more 9 2 c.args.aig.now c.kept.new.aig c.in_err-same.ensures.grew

pub returns-clause-within : goal.returns-clause-within
returns-clause-within c = c.unfloat.ensures.within

pub returns-clause-value : goal.returns-clause-value
returns-clause-value c = if_ok c.unfloat.result _ _ c.unfloat.ensures.value (λ r h v o.
    let both = h v o in
    merge_by (holds v c.args.a.up) (holds v c.args.a.low) (holds v c.args.b.up) (holds v c.args.b.low) (holds v c.in_ok-same.same.up) (holds v c.in_ok-same.same.low) _ _
    (c.in_ok-same.ensures.value v (Obeys-older v _ _ c.unfloat.ensures.grew.grows o)) both.0 both.1)

pub returns-in_err-same-clause-value : goal.returns-in_err-same-clause-value
returns-in_err-same-clause-value c = IfOk-from_err _ _ c.from_residual.ensures.0

pub returns-in_err-same-clause-within : goal.returns-in_err-same-clause-within
returns-in_err-same-clause-within c = IfOk-from_err _ _ c.from_residual.ensures.0
