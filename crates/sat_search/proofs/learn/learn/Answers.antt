use Rattle.std.proofs.Common.{◌<◌, List, length, sym, subst, arith}
use Rattle.std.proofs.lemmas.Result.{IfOk-from_err}
use Rattle.cnf.specs.declared.Dim.{Dim}
use Rattle.cnf.specs.Clauses.{all_open}
use Rattle.refute_check.specs.Count.{free_count}
use Rattle.sat_state.specs.Lists.{TrailLists}
use Rattle.sat_search.specs.Lesson.{IsReady}
use Rattle.sat_state.specs.Watch.{rows}
use Rattle.sat_search.proofs.learn.learn.Goals as goal

pub returns-in_err-left : goal.returns-in_err-left
returns-in_err-left c =
    let e = c.from_residual.ensures.0 in
    record {
      refuted = IfOk-from_err _ _ e;
      store = IfOk-from_err _ _ e;
      learned = IfOk-from_err _ _ e;
      less = IfOk-from_err _ _ e;
      ready = IfOk-from_err _ _ e;
      half = IfOk-from_err _ _ e;
    }

pub returns-in_err-after_conflict : goal.returns-in_err-after_conflict
returns-in_err-after_conflict c =
    let e = c.from_residual-in_err-after_conflict.ensures.0 in
    record {
      refuted = IfOk-from_err _ _ e;
      store = IfOk-from_err _ _ e;
      learned = IfOk-from_err _ _ e;
      less = IfOk-from_err _ _ e;
      ready = IfOk-from_err _ _ e;
      half = IfOk-from_err _ _ e;
    }

pub returns-in_err-from : goal.returns-in_err-from
returns-in_err-from c =
    let e = c.from_residual-in_err-from.ensures.0 in
    record {
      refuted = IfOk-from_err _ _ e;
      store = IfOk-from_err _ _ e;
      learned = IfOk-from_err _ _ e;
      less = IfOk-from_err _ _ e;
      ready = IfOk-from_err _ _ e;
      half = IfOk-from_err _ _ e;
    }

pub teach-requires : goal.teach-requires
teach-requires c = record { width = c.requires.ready.below; sound = c.requires.ready.sound; seen = c.requires.seen; known = c.requires.known; conflict = c.requires.conflict }

pub take_up-requires-clause-ready : goal.take_up-requires-clause-ready
take_up-requires-clause-ready c =
    subst (λ (t : TrailLists). IsReady (length t.values) c.args.store.now c.args.pairs.now.items (rows c.args.lists.now) t) (sym c.after_conflict.ensures) c.requires.ready

pub returns-then-left-eq0-clause-learned : goal.returns-then-left-eq0-clause-learned
returns-then-left-eq0-clause-learned c = tt

pub returns-then-left-eq0-clause-store : goal.returns-then-left-eq0-clause-store
returns-then-left-eq0-clause-store c = tt

pub returns-then-left-eq0-clause-less : goal.returns-then-left-eq0-clause-less
returns-then-left-eq0-clause-less c = tt

pub returns-then-left-eq0-clause-ready : goal.returns-then-left-eq0-clause-ready
returns-then-left-eq0-clause-ready c = tt

pub returns-then-left-eq0-clause-half : goal.returns-then-left-eq0-clause-half
returns-then-left-eq0-clause-half c = tt

pub returns : goal.returns
returns c =
    let taught = c.in_ok-left.ensures.taught (omega (arith, c.if-left-eq0.false)) in
    let made = c.in_ok-from.ensures in
    let vars = length c.args.trail.now.values in
    record {
      refuted = tt;
      store = made.store;
      learned = taught.new;
      less = subst (λ (db : List (List Dim)). free_count vars db all_open < free_count vars c.args.store.now all_open) (sym made.store) taught.less;
      ready = subst (λ (t : TrailLists). IsReady (length t.values) c.take_up.new.store c.take_up.new.pairs.items (rows c.take_up.new.lists) c.take_up.new.trail) c.after_conflict.ensures made.ready;
      half = made.half;
    }
