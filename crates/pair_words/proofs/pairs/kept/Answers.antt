use Rattle.std.proofs.lemmas.Result.{IfOk-from_err}
use Rattle.aig.specs.Graph.{holds}
use Rattle.aig.proofs.Growth.{Obeys-older}
use Rattle.aig_words.proofs.Tables.{holds-negation}
use Rattle.std.proofs.Common.{refl}
use Rattle.aig_words.proofs.Grown.{Grew-both, Grew-more, IsIn-later, negation_in, if_ok}
use Rattle.pair_words.proofs.Tables.{keep_by}
use Rattle.pair_words.proofs.pairs.kept.Goals as goal

pub apart-requires-clause-a_in : goal.apart-requires-clause-a_in
apart-requires-clause-a_in c = c.requires.a_in

pub apart-requires-clause-b_in : goal.apart-requires-clause-b_in
apart-requires-clause-b_in c = c.requires.b_in

pub or_and-requires-clause-w_in : goal.or_and-requires-clause-w_in
or_and-requires-clause-w_in c = IsIn-later c.args.aig.now c.apart.new.aig c.args.a.up c.in_ok-other.ensures.grew.grows c.requires.a_in.up

pub or_and-requires-clause-x_in : goal.or_and-requires-clause-x_in
or_and-requires-clause-x_in c = c.in_ok-other.ensures.within

pub or_and-requires-clause-y_in : goal.or_and-requires-clause-y_in
or_and-requires-clause-y_in c = IsIn-later c.args.aig.now c.apart.new.aig c.args.a.low c.in_ok-other.ensures.grew.grows c.requires.a_in.low

pub or_and-requires-clause-z_in : goal.or_and-requires-clause-z_in
or_and-requires-clause-z_in c = negation_in c.apart.new.aig c.in_ok-other.other _ c.not.ensures c.in_ok-other.ensures.within

pub returns-clause-grew : goal.returns-clause-grew
returns-clause-grew c = Grew-both 7 2 c.args.aig.now c.apart.new.aig c.or_and.new.aig c.in_ok-other.ensures.grew c.or_and.ensures.grew

pub returns-in_err-other-clause-grew : goal.returns-in_err-other-clause-grew
returns-in_err-other-clause-grew c = Grew-more 7 2 c.args.aig.now c.apart.new.aig c.in_err-other.ensures.grew

pub returns-clause-within : goal.returns-clause-within
returns-clause-within c = c.or_and.ensures.within

pub returns-clause-value : goal.returns-clause-value
returns-clause-value c = if_ok c.or_and.result _ _ c.or_and.ensures.value (λ r h v o.
    let both = h v o in
    let o1 = Obeys-older v _ _ c.or_and.ensures.grew.grows o in
    keep_by (holds v c.args.a.up) (holds v c.args.a.low) (holds v c.args.b.up) (holds v c.args.b.low) _ _ _ _ _ _ refl refl (c.in_ok-other.ensures.value v o1) (holds-negation v c.in_ok-other.other _ c.not.ensures) both.0 both.1)

pub returns-in_err-other-clause-value : goal.returns-in_err-other-clause-value
returns-in_err-other-clause-value c = IfOk-from_err _ _ c.from_residual.ensures.0

pub returns-in_err-other-clause-within : goal.returns-in_err-other-clause-within
returns-in_err-other-clause-within c = IfOk-from_err _ _ c.from_residual.ensures.0
