use Rattle.std.proofs.Common.{◌≡◌, ℕ, ◌<◌, ◌+◌, ◌*◌, ◌∷◌, ◌++◌, [], ◌∙◌, length, List, sym, subst, ap, arith, length-append}
use Rattle.std.proofs.lemmas.Result.{IfOk-from_err}
use Rattle.sat_state.specs.declared.watch.Pair.{Pair}
use Rattle.sat_state.specs.declared.watch.Watch.{Watch}
use Rattle.sat_state.specs.Watch.{first_pair, rows, with_pair}
use Rattle.sat_search.proofs.Learned.{pair_room, stored_last}
use Rattle.sat_search.proofs.learn.add_clause.Goals as goal

pub clause-requires : goal.clause-requires
clause-requires c =
    let long = ap length c.in_ok-push.ensures.added ∙ length-append c.args.store.now _ in
    omega (arith, long, c.len-number.ensures)

pub first_two-pair-requires : goal.first_two-pair-requires
first_two-pair-requires c =
    let read : c.clause.result.now ≡ c.args.clause.now = stored_last c.args.store.now c.push.new.self c.args.clause.now c.clause.result.now c.len-number.result c.in_ok-push.ensures.added c.len-number.ensures c.clause.ensures in
    let long = ap length read in
    omega (arith, long, c.requires.some)

pub watch_pair-requires : goal.watch_pair-requires
watch_pair-requires c =
    let room = pair_room (length c.args.lists.now) c.args.clause.now c.requires.some c.requires.room in
    let read : c.clause.result.now ≡ c.args.clause.now = stored_last c.args.store.now c.push.new.self c.args.clause.now c.clause.result.now c.len-number.result c.in_ok-push.ensures.added c.len-number.ensures c.clause.ensures in
    let is : c.first_two-pair.result ≡ first_pair c.args.clause.now = c.first_two-pair.ensures ∙ ap first_pair read in
    record {
      first = subst (λ (p : Pair). 2 * p.a.var + 1 < length c.args.lists.now) (sym is) room.0;
      second = subst (λ (p : Pair). 2 * p.b.var + 1 < length c.args.lists.now) (sym is) room.1;
    }

pub returns : goal.returns
returns c =
    let p = c.first_two-pair.result in
    let number = c.len-number.result in
    let read : c.clause.result.now ≡ c.args.clause.now = stored_last c.args.store.now c.push.new.self c.args.clause.now c.clause.result.now c.len-number.result c.in_ok-push.ensures.added c.len-number.ensures c.clause.ensures in
    let is : p ≡ first_pair c.args.clause.now = c.first_two-pair.ensures ∙ ap first_pair read in
    record {
      number = c.len-number.ensures;
      store = c.in_ok-push.ensures.added;
      pairs = c.in_ok-watch_pair.ensures.pairs ∙ ap (λ (q : Pair). c.args.pairs.now.items ++ q ∷ []) is;
      lists = c.in_ok-watch_pair.ensures.lists ∙ ap (λ (q : Pair). with_pair (rows c.args.lists.now) q number) is
          ∙ ap (λ (k : ℕ). with_pair (rows c.args.lists.now) (first_pair c.args.clause.now) k) c.len-number.ensures;
    }

pub returns-in_err-push : goal.returns-in_err-push
returns-in_err-push c =
    let e = c.from_residual.ensures.0 in
    record {
      number = IfOk-from_err _ _ e;
      store = IfOk-from_err _ _ e;
      pairs = IfOk-from_err _ _ e;
      lists = IfOk-from_err _ _ e;
    }

pub returns-in_err-watch_pair : goal.returns-in_err-watch_pair
returns-in_err-watch_pair c =
    let e = c.from_residual-in_err-watch_pair.ensures.0 in
    record {
      number = IfOk-from_err _ _ e;
      store = IfOk-from_err _ _ e;
      pairs = IfOk-from_err _ _ e;
      lists = IfOk-from_err _ _ e;
    }
