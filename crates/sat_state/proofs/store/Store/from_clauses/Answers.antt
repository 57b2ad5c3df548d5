use Rattle.std.proofs.lemmas.Result.{IfOk-from_err}
use Rattle.sat_state.proofs.Stores.{narrow_at}
use Rattle.sat_state.proofs.store.Store.from_clauses.Goals as goal

pub push-requires : goal.push-requires
push-requires c = narrow_at c.args.clauses.now c.loop-clause.clause-index c.clause-item.result c.as_slice.result.now c.loop-clause-test.true c.clause-item.is c.as_slice.ensures.value c.requires

pub returns-in_err-push : goal.returns-in_err-push
returns-in_err-push c = IfOk-from_err _ _ c.from_residual-in_err-push.ensures.0
