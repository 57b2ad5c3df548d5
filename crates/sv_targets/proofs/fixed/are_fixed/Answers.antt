use Rattle.std.proofs.Common.{arith, sym, ◌∙◌}
use Rattle.sv_targets.proofs.Slotting.{none_fixed, fixed_more, fixed_end, not_fixed_one}
use Rattle.sv_targets.proofs.fixed.are_fixed.Goals as goal

pub targets-init : goal.targets-init
targets-init c = sym none_fixed

pub returns-then-not-is_fixed : goal.returns-then-not-is_fixed
returns-then-not-is_fixed c = not_fixed_one c.args.targets.now _ c.target-item.result c.targets-test.true c.target-item.is (sym c.is_fixed.ensures ∙ c.if-not-is_fixed.true)

pub targets-preserved : goal.targets-preserved
targets-preserved c = fixed_more c.args.targets.now _ c.target-item.result c.targets-test.true c.target-item.is (sym c.is_fixed.ensures ∙ c.if-not-is_fixed.false) c.targets.invariant

pub returns : goal.returns
returns c = fixed_end c.args.targets.now _ (omega arith) c.targets.invariant
