use Rattle.std.proofs.lemmas.Result.{IfOk-from_err}
use Rattle.aig.specs.Graph.{holds}
use Rattle.aig.proofs.Growth.{Obeys-older}
use Rattle.aig.proofs.Values.{always_from}
use Rattle.aig_words.proofs.Tables.{holds-negation, pick_by}
use Rattle.aig_words.proofs.Grown.{Grew-both, Grew-more, IsIn-later, negation_in}
use Rattle.aig_words.proofs.cells.pick.Goals as goal

pub and-requires-clause-a_in : goal.and-requires-clause-a_in
and-requires-clause-a_in c = c.requires.c_in

pub and-requires-clause-b_in : goal.and-requires-clause-b_in
and-requires-clause-b_in c = c.requires.a_in

pub and-requires-2-clause-a_in : goal.and-requires-2-clause-a_in
and-requires-2-clause-a_in c = negation_in c.and.new.self c.args.c _ c.not.ensures (IsIn-later c.args.aig.now c.and.new.self c.args.c c.in_ok-first.ensures.grows c.requires.c_in)

pub and-requires-2-clause-b_in : goal.and-requires-2-clause-b_in
and-requires-2-clause-b_in c = IsIn-later c.args.aig.now c.and.new.self c.args.b c.in_ok-first.ensures.grows c.requires.b_in

pub or-requires-clause-a_in : goal.or-requires-clause-a_in
or-requires-clause-a_in c = IsIn-later c.and.new.self c.and-2.new.self c.in_ok-first.first c.in_ok-second.ensures.grows c.in_ok-first.ensures.within

pub or-requires-clause-b_in : goal.or-requires-clause-b_in
or-requires-clause-b_in c = c.in_ok-second.ensures.within

pub returns-clause-within : goal.returns-clause-within
returns-clause-within c = c.in_ok-either.ensures.within

pub returns-clause-grew : goal.returns-clause-grew
returns-clause-grew c = Grew-both 2 1 c.args.aig.now c.and-2.new.self c.or.new.aig (Grew-both 1 1 c.args.aig.now c.and.new.self c.and-2.new.self
    (record { grows = c.in_ok-first.ensures.grows; nodes = c.in_ok-first.ensures.nodes; flat = c.in_ok-first.ensures.flat })
    (record { grows = c.in_ok-second.ensures.grows; nodes = c.in_ok-second.ensures.nodes; flat = c.in_ok-second.ensures.flat })) c.in_ok-either.ensures.grew

pub returns-in_err-first-clause-grew : goal.returns-in_err-first-clause-grew
returns-in_err-first-clause-grew c = Grew-more 1 2 c.args.aig.now c.and.new.self (record { grows = c.in_err-first.ensures.grows; nodes = c.in_err-first.ensures.nodes; flat = c.in_err-first.ensures.flat })

pub returns-in_err-second-clause-grew : goal.returns-in_err-second-clause-grew
returns-in_err-second-clause-grew c = Grew-more 2 1 c.args.aig.now c.and-2.new.self (Grew-both 1 1 c.args.aig.now c.and.new.self c.and-2.new.self
    (record { grows = c.in_ok-first.ensures.grows; nodes = c.in_ok-first.ensures.nodes; flat = c.in_ok-first.ensures.flat })
    (record { grows = c.in_err-second.ensures.grows; nodes = c.in_err-second.ensures.nodes; flat = c.in_err-second.ensures.flat }))

pub returns-in_err-either-clause-grew : goal.returns-in_err-either-clause-grew
returns-in_err-either-clause-grew c = Grew-both 2 1 c.args.aig.now c.and-2.new.self c.or.new.aig (Grew-both 1 1 c.args.aig.now c.and.new.self c.and-2.new.self
    (record { grows = c.in_ok-first.ensures.grows; nodes = c.in_ok-first.ensures.nodes; flat = c.in_ok-first.ensures.flat })
    (record { grows = c.in_ok-second.ensures.grows; nodes = c.in_ok-second.ensures.nodes; flat = c.in_ok-second.ensures.flat })) c.in_err-either.ensures.grew

pub returns-clause-value : goal.returns-clause-value
returns-clause-value c = always_from _ _ c.in_ok-either.ensures.value.graph (λ v o.
    let o2 = Obeys-older v _ _ c.in_ok-either.ensures.grew.grows o in
    let o1 = Obeys-older v _ _ c.in_ok-second.ensures.grows o2 in
    pick_by (holds v c.args.c) (holds v c.args.a) (holds v c.args.b) _ _ _ _ (holds-negation v c.args.c _ c.not.ensures)
    (c.in_ok-first.ensures.value.obeyed v o1) (c.in_ok-second.ensures.value.obeyed v o2) (c.in_ok-either.ensures.value.obeyed v o))

pub returns-in_err-either-clause-value : goal.returns-in_err-either-clause-value
returns-in_err-either-clause-value c = IfOk-from_err _ _ c.from_residual-in_err-either.ensures.0

pub returns-in_err-either-clause-within : goal.returns-in_err-either-clause-within
returns-in_err-either-clause-within c = IfOk-from_err _ _ c.from_residual-in_err-either.ensures.0

pub returns-in_err-first-clause-value : goal.returns-in_err-first-clause-value
returns-in_err-first-clause-value c = IfOk-from_err _ _ c.from_residual.ensures.0

pub returns-in_err-first-clause-within : goal.returns-in_err-first-clause-within
returns-in_err-first-clause-within c = IfOk-from_err _ _ c.from_residual.ensures.0

pub returns-in_err-second-clause-value : goal.returns-in_err-second-clause-value
returns-in_err-second-clause-value c = IfOk-from_err _ _ c.from_residual-in_err-second.ensures.0

pub returns-in_err-second-clause-within : goal.returns-in_err-second-clause-within
returns-in_err-second-clause-within c = IfOk-from_err _ _ c.from_residual-in_err-second.ensures.0
