use Rattle.std.proofs.lemmas.Result.{IfOk-from_err}
use Rattle.sat_search.proofs.learn.watch_pair.Goals as goal

pub returns-in_err-push : goal.returns-in_err-push
returns-in_err-push c =
    let e = c.from_residual.ensures.0 in
    record {
      pairs = IfOk-from_err _ _ e;
      lists = IfOk-from_err _ _ e;
    }

pub returns-in_err-add_to : goal.returns-in_err-add_to
returns-in_err-add_to c =
    let e = c.from_residual-in_err-add_to.ensures.0 in
    record {
      pairs = IfOk-from_err _ _ e;
      lists = IfOk-from_err _ _ e;
    }

pub returns-in_err-add_to-2 : goal.returns-in_err-add_to-2
returns-in_err-add_to-2 c =
    let e = c.from_residual-in_err-add_to-2.ensures.0 in
    record {
      pairs = IfOk-from_err _ _ e;
      lists = IfOk-from_err _ _ e;
    }
