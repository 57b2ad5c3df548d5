use Rattle.std.proofs.Common.{◌+◌, ◌∙◌, length, ap, arith, ◌≡◌, List, ℕ}
use Rattle.std.proofs.lemmas.Result.{IfOk-from_err}
use Rattle.std.proofs.lemmas.List.{length_push}
use Rattle.sat_state.proofs.Queues.{stamped_more, stamped_all}
use Rattle.sat_state.proofs.queue.first_stamps.Goals as goal

pub returns-in_err-stamps : goal.returns-in_err-stamps
returns-in_err-stamps c =
    let e = c.from_residual.ensures.0 in
    record {
      count = IfOk-from_err _ _ e;
      stamps = IfOk-from_err _ _ e;
    }

pub returns-in_err-push : goal.returns-in_err-push
returns-in_err-push c =
    let e = c.from_residual-in_err-push.ensures.0 in
    record {
      count = IfOk-from_err _ _ e;
      stamps = IfOk-from_err _ _ e;
    }

pub loop-var-preserved : goal.loop-var-preserved
loop-var-preserved c =
    let pushed = c.in_ok-push.ensures.items in
    record {
      count = ap length pushed ∙ length_push _ _ ∙ ap (λ n. n + 1) c.loop-var.invariant.count;
      stamps = rw pushed (stamped_more _ c.args.vars c.loop-var.var _ c.loop-var.invariant.count (omega arith) c.loop-var.invariant.stamps);
    }

pub loop-var-init : goal.loop-var-init
loop-var-init c = record { count = ap (λ (l : List ℕ). length l) c.in_ok-stamps.ensures.items; stamps = λ v h. absurd (omega arith) }

pub overflow_sub-vars : goal.overflow_sub-vars
overflow_sub-vars c = c.loop-var.auto.var-end

pub returns-clause-count : goal.returns-clause-count
returns-clause-count c = let end : c.loop-var.var ≡ c.args.vars = omega arith in c.loop-var.invariant.count ∙ end

pub returns-clause-stamps : goal.returns-clause-stamps
returns-clause-stamps c =
    stamped_all c.loop-var.stamps.items c.args.vars (let end : c.loop-var.var ≡ c.args.vars = omega arith in c.loop-var.invariant.count ∙ end)
    (λ v h. c.loop-var.invariant.stamps v (omega (arith, h, c.loop-var-test.false)))
