use Rattle.std.proofs.Common.{◌≡◌, Bool, ℕ, false, take, subst, get_or}
use Rattle.std.proofs.lemmas.List.{take_all, take_more}
use Rattle.std.proofs.lemmas.List.Elements.{All-map, All-push}
use Rattle.cnf.specs.Clauses.{ClauseHolds}
use Rattle.sat_core.proofs.answers.all_clauses_hold.Goals as goal

pub returns : goal.returns
returns c =
    let v : ℕ → Bool = λ k. get_or c.args.values.now k false in
    λ t. All-map (ClauseHolds v) (λ v. v.items) c.args.clauses.now
    (let all : take c.loop-clause.clause-index c.args.clauses.now ≡ c.args.clauses.now = take_all _ _ c.loop-clause-test.false in rw all at c.loop-clause.invariant)

pub loop-clause-preserved : goal.loop-clause-preserved
loop-clause-preserved c =
    let w : ℕ → Bool = λ k. get_or c.args.values.now k false in
    let v = c.clause-item.result in
    let here : ClauseHolds w v.items = subst (ClauseHolds w) c.as_slice.ensures.value (c.clause_holds.ensures (c.if-not-clause_holds.false)) in
    rw (take_more c.args.clauses.now c.loop-clause.clause-index v c.loop-clause-test.true)
    (All-push (λ v. ClauseHolds w v.items) (take c.loop-clause.clause-index c.args.clauses.now) (get_or c.args.clauses.now c.loop-clause.clause-index v) c.loop-clause.invariant
    (rw (← c.clause-item.is) here))
