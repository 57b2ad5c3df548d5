use Rattle.std.proofs.lemmas.Result.{IfOk-from_err}
use Rattle.std.proofs.Common.{◌||◌, ap, ◌∙◌}
use Rattle.aig.specs.Graph.{holds}
use Rattle.aig.proofs.Growth.{Obeys-older}
use Rattle.aig_words.specs.Words.{differ}
use Rattle.aig_words.proofs.Grown.{Grew-both, Grew-more, IsIn-later, if_ok}
use Rattle.pair_words.proofs.pairs.apart.Goals as goal

pub xor-requires-clause-a_in : goal.xor-requires-clause-a_in
xor-requires-clause-a_in c = c.requires.a_in.up

pub xor-requires-clause-b_in : goal.xor-requires-clause-b_in
xor-requires-clause-b_in c = c.requires.b_in.up

pub xor-requires-2-clause-a_in : goal.xor-requires-2-clause-a_in
xor-requires-2-clause-a_in c = IsIn-later c.args.aig.now c.xor.new.aig c.args.a.low c.in_ok-first.ensures.grew.grows c.requires.a_in.low

pub xor-requires-2-clause-b_in : goal.xor-requires-2-clause-b_in
xor-requires-2-clause-b_in c = IsIn-later c.args.aig.now c.xor.new.aig c.args.b.low c.in_ok-first.ensures.grew.grows c.requires.b_in.low

pub or-requires-clause-a_in : goal.or-requires-clause-a_in
or-requires-clause-a_in c = IsIn-later c.xor.new.aig c.xor-2.new.aig c.in_ok-first.first c.in_ok-second.ensures.grew.grows c.in_ok-first.ensures.within

pub or-requires-clause-b_in : goal.or-requires-clause-b_in
or-requires-clause-b_in c = c.in_ok-second.ensures.within

pub returns-clause-grew : goal.returns-clause-grew
returns-clause-grew c = Grew-both 6 1 c.args.aig.now c.xor-2.new.aig c.or.new.aig (Grew-both 3 3 c.args.aig.now c.xor.new.aig c.xor-2.new.aig c.in_ok-first.ensures.grew c.in_ok-second.ensures.grew) c.or.ensures.grew

pub returns-in_err-first-clause-grew : goal.returns-in_err-first-clause-grew
returns-in_err-first-clause-grew c = Grew-more 3 4 c.args.aig.now c.xor.new.aig c.in_err-first.ensures.grew

pub returns-in_err-second-clause-grew : goal.returns-in_err-second-clause-grew
returns-in_err-second-clause-grew c = Grew-more 6 1 c.args.aig.now c.xor-2.new.aig (Grew-both 3 3 c.args.aig.now c.xor.new.aig c.xor-2.new.aig c.in_ok-first.ensures.grew c.in_err-second.ensures.grew)

pub returns-clause-within : goal.returns-clause-within
returns-clause-within c = c.or.ensures.within

pub returns-clause-value : goal.returns-clause-value
returns-clause-value c = if_ok c.or.result _ _ c.or.ensures.value (λ r h v o.
    let o2 = Obeys-older v _ _ c.or.ensures.grew.grows o in
    let o1 = Obeys-older v _ _ c.in_ok-second.ensures.grew.grows o2 in
    h.obeyed v o ∙ ap (λ t. t || holds v c.in_ok-second.second) (c.in_ok-first.ensures.value.obeyed v o1) ∙
    ap (λ t. differ (holds v c.args.a.up) (holds v c.args.b.up) || t) (c.in_ok-second.ensures.value.obeyed v o2))

pub returns-in_err-first-clause-value : goal.returns-in_err-first-clause-value
returns-in_err-first-clause-value c = IfOk-from_err _ _ c.from_residual.ensures.0

pub returns-in_err-first-clause-within : goal.returns-in_err-first-clause-within
returns-in_err-first-clause-within c = IfOk-from_err _ _ c.from_residual.ensures.0

pub returns-in_err-second-clause-value : goal.returns-in_err-second-clause-value
returns-in_err-second-clause-value c = IfOk-from_err _ _ c.from_residual-in_err-second.ensures.0

pub returns-in_err-second-clause-within : goal.returns-in_err-second-clause-within
returns-in_err-second-clause-within c = IfOk-from_err _ _ c.from_residual-in_err-second.ensures.0
