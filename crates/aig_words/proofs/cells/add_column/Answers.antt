use Rattle.std.proofs.lemmas.Result.{IfOk-from_err}
use Rattle.aig.specs.Graph.{holds}
use Rattle.aig.proofs.Growth.{Obeys-older}
use Rattle.aig.proofs.Values.{always_from}
use Rattle.aig_words.proofs.Tables.{column_by}
use Rattle.aig_words.proofs.Grown.{Grew-both, Grew-more, IsIn-later}
use Rattle.aig_words.proofs.cells.add_column.Goals as goal

pub add_pair-requires-clause-a_in : goal.add_pair-requires-clause-a_in
add_pair-requires-clause-a_in c = c.requires.a_in

pub add_pair-requires-clause-b_in : goal.add_pair-requires-clause-b_in
add_pair-requires-clause-b_in c = c.requires.b_in

pub add_pair-requires-2-clause-a_in : goal.add_pair-requires-2-clause-a_in
add_pair-requires-2-clause-a_in c = c.in_ok-first.ensures.sum_in

pub add_pair-requires-2-clause-b_in : goal.add_pair-requires-2-clause-b_in
add_pair-requires-2-clause-b_in c = IsIn-later c.args.aig.now c.add_pair.new.aig c.args.c c.in_ok-first.ensures.grew.grows c.requires.c_in

pub or-requires-clause-a_in : goal.or-requires-clause-a_in
or-requires-clause-a_in c = IsIn-later c.add_pair.new.aig c.add_pair-2.new.aig c.in_ok-first.first.carry c.in_ok-second.ensures.grew.grows c.in_ok-first.ensures.carry_in

pub or-requires-clause-b_in : goal.or-requires-clause-b_in
or-requires-clause-b_in c = c.in_ok-second.ensures.carry_in

pub returns-clause-carry_in : goal.returns-clause-carry_in
returns-clause-carry_in c = c.in_ok-carry.ensures.within

pub returns-clause-sum_in : goal.returns-clause-sum_in
returns-clause-sum_in c = IsIn-later c.add_pair-2.new.aig c.or.new.aig c.in_ok-second.second.sum c.in_ok-carry.ensures.grew.grows c.in_ok-second.ensures.sum_in

pub returns-clause-grew : goal.returns-clause-grew
returns-clause-grew c = Grew-both 6 1 c.args.aig.now c.add_pair-2.new.aig c.or.new.aig (Grew-both 3 3 c.args.aig.now c.add_pair.new.aig c.add_pair-2.new.aig c.in_ok-first.ensures.grew c.in_ok-second.ensures.grew) c.in_ok-carry.ensures.grew

pub returns-in_err-first-clause-grew : goal.returns-in_err-first-clause-grew
returns-in_err-first-clause-grew c = Grew-more 3 4 c.args.aig.now c.add_pair.new.aig c.in_err-first.ensures.grew

pub returns-in_err-second-clause-grew : goal.returns-in_err-second-clause-grew
returns-in_err-second-clause-grew c = Grew-more 6 1 c.args.aig.now c.add_pair-2.new.aig (Grew-both 3 3 c.args.aig.now c.add_pair.new.aig c.add_pair-2.new.aig c.in_ok-first.ensures.grew c.in_err-second.ensures.grew)

pub returns-in_err-carry-clause-grew : goal.returns-in_err-carry-clause-grew
returns-in_err-carry-clause-grew c = Grew-both 6 1 c.args.aig.now c.add_pair-2.new.aig c.or.new.aig (Grew-both 3 3 c.args.aig.now c.add_pair.new.aig c.add_pair-2.new.aig c.in_ok-first.ensures.grew c.in_ok-second.ensures.grew) c.in_err-carry.ensures.grew

pub returns-clause-value : goal.returns-clause-value
returns-clause-value c = always_from _ _ c.in_ok-carry.ensures.value.graph (λ v o.
    let o2 = Obeys-older v _ _ c.in_ok-carry.ensures.grew.grows o in
    let o1 = Obeys-older v _ _ c.in_ok-second.ensures.grew.grows o2 in
    column_by (holds v c.args.a) (holds v c.args.b) (holds v c.args.c) _ _ _ _ _
    (c.in_ok-first.ensures.carry.obeyed v o1) (c.in_ok-first.ensures.sum.obeyed v o1)
    (c.in_ok-second.ensures.carry.obeyed v o2) (c.in_ok-second.ensures.sum.obeyed v o2) (c.in_ok-carry.ensures.value.obeyed v o))

pub returns-in_err-carry-clause-carry_in : goal.returns-in_err-carry-clause-carry_in
returns-in_err-carry-clause-carry_in c = IfOk-from_err _ _ c.from_residual-in_err-carry.ensures.0

pub returns-in_err-carry-clause-sum_in : goal.returns-in_err-carry-clause-sum_in
returns-in_err-carry-clause-sum_in c = IfOk-from_err _ _ c.from_residual-in_err-carry.ensures.0

pub returns-in_err-carry-clause-value : goal.returns-in_err-carry-clause-value
returns-in_err-carry-clause-value c = IfOk-from_err _ _ c.from_residual-in_err-carry.ensures.0

pub returns-in_err-first-clause-carry_in : goal.returns-in_err-first-clause-carry_in
returns-in_err-first-clause-carry_in c = IfOk-from_err _ _ c.from_residual.ensures.0

pub returns-in_err-first-clause-sum_in : goal.returns-in_err-first-clause-sum_in
returns-in_err-first-clause-sum_in c = IfOk-from_err _ _ c.from_residual.ensures.0

pub returns-in_err-first-clause-value : goal.returns-in_err-first-clause-value
returns-in_err-first-clause-value c = IfOk-from_err _ _ c.from_residual.ensures.0

pub returns-in_err-second-clause-carry_in : goal.returns-in_err-second-clause-carry_in
returns-in_err-second-clause-carry_in c = IfOk-from_err _ _ c.from_residual-in_err-second.ensures.0

pub returns-in_err-second-clause-sum_in : goal.returns-in_err-second-clause-sum_in
returns-in_err-second-clause-sum_in c = IfOk-from_err _ _ c.from_residual-in_err-second.ensures.0

pub returns-in_err-second-clause-value : goal.returns-in_err-second-clause-value
returns-in_err-second-clause-value c = IfOk-from_err _ _ c.from_residual-in_err-second.ensures.0
