use Rattle.std.proofs.lemmas.Result.{IfOk-from_err}
use Rattle.std.proofs.Common.{Bool, not, ◌&&◌, ap, ◌∙◌}
use Rattle.aig.specs.Graph.{holds}
use Rattle.aig.proofs.Growth.{Obeys-older}
use Rattle.aig.proofs.Values.{always_from}
use Rattle.aig_words.proofs.Grown.{Grew-both, Grew-more, IsIn-later, negation_in}
use Rattle.aig_words.proofs.Tables.{holds-negation}
use Rattle.aig_words.proofs.cells.same_more.Goals as goal

pub xor-requires-clause-a_in : goal.xor-requires-clause-a_in
xor-requires-clause-a_in c = c.requires.a_in

pub xor-requires-clause-b_in : goal.xor-requires-clause-b_in
xor-requires-clause-b_in c = c.requires.b_in

pub and-requires-clause-a_in : goal.and-requires-clause-a_in
and-requires-clause-a_in c = IsIn-later c.args.aig.now c.xor.new.aig c.args.last c.in_ok-apart.ensures.grew.grows c.requires.last_in

pub and-requires-clause-b_in : goal.and-requires-clause-b_in
and-requires-clause-b_in c = negation_in c.xor.new.aig c.in_ok-apart.apart _ c.not.ensures c.in_ok-apart.ensures.within

pub returns-clause-within : goal.returns-clause-within
returns-clause-within c = c.in_ok-more.ensures.within

pub returns-clause-value : goal.returns-clause-value
returns-clause-value c = always_from _ _ c.in_ok-more.ensures.value.graph (λ v o. c.in_ok-more.ensures.value.obeyed v o ∙
    ap (λ (t : Bool). holds v c.args.last && t) (holds-negation v c.in_ok-apart.apart _ c.not.ensures ∙
    ap (λ (t : Bool). not t) (c.in_ok-apart.ensures.value.obeyed v (Obeys-older v _ _ c.in_ok-more.ensures.grows o))))

pub returns-clause-grew : goal.returns-clause-grew
returns-clause-grew c = Grew-both 3 1 c.args.aig.now c.xor.new.aig c.and.new.self c.in_ok-apart.ensures.grew
    (record { grows = c.in_ok-more.ensures.grows; nodes = c.in_ok-more.ensures.nodes; flat = c.in_ok-more.ensures.flat })

pub returns-in_err-apart-clause-grew : goal.returns-in_err-apart-clause-grew
returns-in_err-apart-clause-grew c = Grew-more 3 1 c.args.aig.now c.xor.new.aig c.in_err-apart.ensures.grew

pub returns-in_err-more-clause-grew : goal.returns-in_err-more-clause-grew
returns-in_err-more-clause-grew c = Grew-both 3 1 c.args.aig.now c.xor.new.aig c.and.new.self c.in_ok-apart.ensures.grew
    (record { grows = c.in_err-more.ensures.grows; nodes = c.in_err-more.ensures.nodes; flat = c.in_err-more.ensures.flat })

pub returns-in_err-apart-clause-value : goal.returns-in_err-apart-clause-value
returns-in_err-apart-clause-value c = IfOk-from_err _ _ c.from_residual.ensures.0

pub returns-in_err-apart-clause-within : goal.returns-in_err-apart-clause-within
returns-in_err-apart-clause-within c = IfOk-from_err _ _ c.from_residual.ensures.0

pub returns-in_err-more-clause-value : goal.returns-in_err-more-clause-value
returns-in_err-more-clause-value c = IfOk-from_err _ _ c.from_residual-in_err-more.ensures.0

pub returns-in_err-more-clause-within : goal.returns-in_err-more-clause-within
returns-in_err-more-clause-within c = IfOk-from_err _ _ c.from_residual-in_err-more.ensures.0
