use Rattle.std.proofs.lemmas.Result.{IfOk-from_err}
use Rattle.aig.proofs.Growth.{Obeys-older}
use Rattle.aig_words.proofs.Grown.{Grew-both, Grew-more}
use Rattle.pair_words.proofs.Growing.{IsWired-later}
use Rattle.pair_words.proofs.pairs.unfloat_both.Goals as goal

pub unfloat-requires : goal.unfloat-requires
unfloat-requires c = record { a_in = c.requires.a_in }

pub unfloat-requires-2 : goal.unfloat-requires-2
unfloat-requires-2 c = record { a_in = IsWired-later c.args.aig.now c.unfloat.new.aig c.args.b c.in_ok-first.ensures.grew.grows c.requires.b_in }

pub returns-clause-grew : goal.returns-clause-grew
returns-clause-grew c = Grew-both 2 2 c.args.aig.now c.unfloat.new.aig c.unfloat-2.new.aig c.in_ok-first.ensures.grew c.in_ok-second.ensures.grew

pub returns-in_err-first-clause-grew : goal.returns-in_err-first-clause-grew
returns-in_err-first-clause-grew c = Grew-more 2 2 c.args.aig.now c.unfloat.new.aig c.in_err-first.ensures.grew

pub returns-in_err-second-clause-grew : goal.returns-in_err-second-clause-grew
returns-in_err-second-clause-grew c = Grew-both 2 2 c.args.aig.now c.unfloat.new.aig c.unfloat-2.new.aig c.in_ok-first.ensures.grew c.in_err-second.ensures.grew

pub returns-clause-first_in : goal.returns-clause-first_in
returns-clause-first_in c = IsWired-later c.unfloat.new.aig c.unfloat-2.new.aig c.in_ok-first.first c.in_ok-second.ensures.grew.grows c.in_ok-first.ensures.within

pub returns-clause-second_in : goal.returns-clause-second_in
returns-clause-second_in c = c.in_ok-second.ensures.within

pub returns-clause-first : goal.returns-clause-first
returns-clause-first c = λ v o. c.in_ok-first.ensures.value v (Obeys-older v _ _ c.in_ok-second.ensures.grew.grows o)

pub returns-clause-second : goal.returns-clause-second
returns-clause-second c = λ v o. c.in_ok-second.ensures.value v o

pub returns-in_err-first-clause-first_in : goal.returns-in_err-first-clause-first_in
returns-in_err-first-clause-first_in c = IfOk-from_err _ _ c.from_residual.ensures.0

pub returns-in_err-first-clause-second_in : goal.returns-in_err-first-clause-second_in
returns-in_err-first-clause-second_in c = IfOk-from_err _ _ c.from_residual.ensures.0

pub returns-in_err-first-clause-first : goal.returns-in_err-first-clause-first
returns-in_err-first-clause-first c = IfOk-from_err _ _ c.from_residual.ensures.0

pub returns-in_err-first-clause-second : goal.returns-in_err-first-clause-second
returns-in_err-first-clause-second c = IfOk-from_err _ _ c.from_residual.ensures.0

pub returns-in_err-second-clause-first_in : goal.returns-in_err-second-clause-first_in
returns-in_err-second-clause-first_in c = IfOk-from_err _ _ c.from_residual-in_err-second.ensures.0

pub returns-in_err-second-clause-second_in : goal.returns-in_err-second-clause-second_in
returns-in_err-second-clause-second_in c = IfOk-from_err _ _ c.from_residual-in_err-second.ensures.0

pub returns-in_err-second-clause-first : goal.returns-in_err-second-clause-first
returns-in_err-second-clause-first c = IfOk-from_err _ _ c.from_residual-in_err-second.ensures.0

pub returns-in_err-second-clause-second : goal.returns-in_err-second-clause-second
returns-in_err-second-clause-second c = IfOk-from_err _ _ c.from_residual-in_err-second.ensures.0
