use Rattle.std.proofs.lemmas.Result.{IfOk-from_err}
use Rattle.std.proofs.Common.{◌≡◌, List, Option, get_or, sym, subst}
use Rattle.lhs_alias.specs.declared.segs.WireBit.{WireBit}
use Rattle.sv_targets.specs.Slots.{Runs}
use Rattle.sv_targets.proofs.Spreading.{runs_bit, runs_none}
use Rattle.sv_targets.proofs.parts.behind_slot.Goals as goal

pub returns-in_ok-push-in-Some-clause-runs : goal.returns-in_ok-push-in-Some-clause-runs
returns-in_ok-push-in-Some-clause-runs c = λ all lt e h.
    runs_bit all c.args.at c.args.parts c.args.run.now.items c.push.new.self.items c.in-Some.bit lt (subst (λ (z : Option WireBit). z ≡ get_or all c.args.at z) c.in-Some.is e) c.in_ok-push-in-Some.ensures.items h

pub returns-in_ok-next-in-None-clause-runs : goal.returns-in_ok-next-in-None-clause-runs
returns-in_ok-next-in-None-clause-runs c = λ all lt e h.
    runs_none all c.args.at c.in_ok-next-in-None.next c.clear.new.self.items lt (subst (λ (z : Option WireBit). z ≡ get_or all c.args.at z) c.in-None.is e) c.clear.ensures.items
    (c.in_ok-next-in-None.ensures all (subst (λ (z : List WireBit). Runs all c.args.at c.args.parts z) (sym c.deref.ensures.value) h))

pub returns-in_err-next-in-None-clause-near : goal.returns-in_err-next-in-None-clause-near
returns-in_err-next-in-None-clause-near c = IfOk-from_err _ _ c.from_residual-in_err-next-in-None.ensures.0

pub returns-in_err-push-in-Some-clause-near : goal.returns-in_err-push-in-Some-clause-near
returns-in_err-push-in-Some-clause-near c = IfOk-from_err _ _ c.from_residual.ensures.0
