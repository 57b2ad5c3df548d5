use Rattle.std.proofs.Common.{◌≡◌, ◌++◌, take}
use Rattle.sv_actions.specs.Doing.{writes_all}
use Rattle.sv_blocks.specs.Running.{arms_bits}
use Rattle.sv_blocks.proofs.Falling.{size, all_size, arms_size}
use Rattle.sv_blocks.proofs.bits.+bits.Given as goal

abbrev pub invariant-all_bits-actions : goal.invariant-all_bits-actions
invariant-all_bits-actions l = l.bits.items ≡ l.fn.bits.items ++ writes_all (take l.action-index l.actions)

abbrev pub invariant-arm_bits-arms : goal.invariant-arm_bits-arms
invariant-arm_bits-arms l = l.bits.items ≡ l.fn.bits.items ++ arms_bits (take l.arm-index l.arms)

abbrev pub decreases-action_bits : goal.decreases-action_bits
decreases-action_bits l = size l.action.now

abbrev pub decreases-all_bits : goal.decreases-all_bits
decreases-all_bits l = all_size l.actions.now

abbrev pub decreases-arm_bits : goal.decreases-arm_bits
decreases-arm_bits l = arms_size l.arms.now
