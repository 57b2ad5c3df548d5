use Rattle.std.proofs.Common.{List, take, drop, ◌+◌, subst}
use Rattle.std.proofs.lemmas.List.{take_all}
use Rattle.cnf.specs.declared.Dim.{Dim}
use Rattle.cnf.specs.Clauses.{valuation}
use Rattle.cnf.specs.State.{Looked}
use Rattle.cnf.proofs.Walks.{looked_more, looked_over}
use Rattle.cnf.proofs.walk.state_of.Goals as goal

pub loop-d-preserved : goal.loop-d-preserved
loop-d-preserved c = looked_more (valuation c.args.values.now) c.args.clause.now c.loop-d.d-index _ c.loop-d-test.true (c.if-not-look.ensures.on _ c.loop-d.invariant)

pub returns-then-not-look : goal.returns-then-not-look
returns-then-not-look c = looked_over (valuation c.args.values.now) c.args.clause.now c.loop-d.d-index c.loop-d-test.true (c.if-not-look.ensures.over _ (drop (c.loop-d.d-index + 1) c.args.clause.now) c.loop-d.invariant)

pub returns : goal.returns
returns c = c.looked.ensures (valuation c.args.values.now) c.args.clause.now
    (subst (λ (xs : List Dim). Looked (valuation c.args.values.now) xs c.loop-d.found) (take_all _ _ c.loop-d-test.false) c.loop-d.invariant)
