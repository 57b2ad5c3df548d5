use Rattle.std.proofs.lemmas.Result.{IfOk-from_err}
use Rattle.std.proofs.Common.{◌+◌, ◌∙◌, sym, ap, subst}
use Rattle.idx_list.specs.Order.{Order}
use Rattle.sat_state.specs.Queue.{IsListed}
use Rattle.sat_state.proofs.Queues.{no_more, pushed}
use Rattle.sat_state.proofs.queue.first_list.Goals as goal

pub push_back-requires-clause-absent : goal.push_back-requires-clause-absent
push_back-requires-clause-absent c = no_more c.loop-var.var c.loop-var.list.items c.args.stamps.now c.loop-var.invariant.listed

pub loop-var-preserved : goal.loop-var-preserved
loop-var-preserved c = record {
  room = ap (λ (o : Order). o.room) c.push_back.ensures ∙ c.loop-var.invariant.room;
  listed = subst (λ (o : Order). IsListed (c.loop-var.var + 1) o.items c.args.stamps.now) (sym c.push_back.ensures)
      (pushed c.args.vars c.loop-var.var c.loop-var.list.items c.args.stamps.now c.loop-var.invariant.listed c.loop-var-test.true c.requires);
}

pub returns-in_err-list : goal.returns-in_err-list
returns-in_err-list c = IfOk-from_err _ _ c.from_residual.ensures.0
