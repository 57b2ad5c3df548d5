use Rattle.std.proofs.Common.{◌≡◌, ◌<◌, take, subst, get_or}
use Rattle.std.specs.List.{All}
use Rattle.std.proofs.lemmas.List.{take_all, take_more}
use Rattle.std.proofs.lemmas.List.Elements.{All-map, All-push}
use Rattle.clause_rows.proofs.solving.all_in_range.Goals as goal

pub returns : goal.returns
returns c = λ t. All-map (All (λ d. d.var < c.args.vars)) (λ v. v.items) c.args.clauses.now
    (let all : take c.loop-clause.clause-index c.args.clauses.now ≡ c.args.clauses.now = take_all _ _ c.loop-clause-test.false in rw all at c.loop-clause.invariant)

pub loop-clause-preserved : goal.loop-clause-preserved
loop-clause-preserved c =
    let v = c.clause-item.result in
    let here : All (λ d. d.var < c.args.vars) v.items = subst (All (λ d. d.var < c.args.vars)) c.as_slice.ensures.value (c.is_below.ensures (c.if-not-is_below.false)) in
    rw (take_more c.args.clauses.now c.loop-clause.clause-index v c.loop-clause-test.true)
    (All-push (λ v. All (λ d. d.var < c.args.vars) v.items) (take c.loop-clause.clause-index c.args.clauses.now) (get_or c.args.clauses.now c.loop-clause.clause-index v) c.loop-clause.invariant
    (rw (← c.clause-item.is) here))
