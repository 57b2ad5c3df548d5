use Rattle.std.proofs.lemmas.Result.{IfOk-from_err}
use Rattle.aig.specs.Graph.{holds}
use Rattle.aig.proofs.Growth.{Obeys-older}
use Rattle.aig_words.proofs.Tables.{holds-negation}
use Rattle.aig_words.proofs.Grown.{Grew-both, Grew-more, negation_in, IsIn-later, if_ok}
use Rattle.pair_words.proofs.Tables.{known_by}
use Rattle.pair_words.proofs.vectors.known_bit.Goals as goal

pub xor-requires-clause-a_in : goal.xor-requires-clause-a_in
xor-requires-clause-a_in c = c.requires.a_in.up

pub xor-requires-clause-b_in : goal.xor-requires-clause-b_in
xor-requires-clause-b_in c = c.requires.a_in.low

pub and-requires-clause-a_in : goal.and-requires-clause-a_in
and-requires-clause-a_in c = negation_in c.xor.new.aig c.in_ok-apart.apart _ c.not.ensures c.in_ok-apart.ensures.within

pub and-requires-clause-b_in : goal.and-requires-clause-b_in
and-requires-clause-b_in c = IsIn-later c.args.aig.now c.xor.new.aig c.args.last c.in_ok-apart.ensures.grew.grows c.requires.last_in

pub returns-clause-grew : goal.returns-clause-grew
returns-clause-grew c = Grew-both 3 1 c.args.aig.now c.xor.new.aig c.and.new.self c.in_ok-apart.ensures.grew (record { grows = c.and.ensures.grows; nodes = c.and.ensures.nodes; flat = c.and.ensures.flat })

pub returns-in_err-apart-clause-grew : goal.returns-in_err-apart-clause-grew
returns-in_err-apart-clause-grew c = Grew-more 3 1 c.args.aig.now c.xor.new.aig c.in_err-apart.ensures.grew

pub returns-clause-within : goal.returns-clause-within
returns-clause-within c = c.and.ensures.within

pub returns-clause-value : goal.returns-clause-value
returns-clause-value c = if_ok c.and.result _ _ c.and.ensures.value (λ r h v o.
    known_by (holds v c.args.a.up) (holds v c.args.a.low) (holds v c.in_ok-apart.apart) _ (holds v c.args.last) _
    (c.in_ok-apart.ensures.value.obeyed v (Obeys-older v _ _ c.and.ensures.grows o)) (holds-negation v c.in_ok-apart.apart _ c.not.ensures) (h.obeyed v o))

pub returns-in_err-apart-clause-value : goal.returns-in_err-apart-clause-value
returns-in_err-apart-clause-value c = IfOk-from_err _ _ c.from_residual.ensures.0

pub returns-in_err-apart-clause-within : goal.returns-in_err-apart-clause-within
returns-in_err-apart-clause-within c = IfOk-from_err _ _ c.from_residual.ensures.0
