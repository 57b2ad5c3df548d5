use Rattle.std.proofs.Common.{◌+◌, arith}
use Rattle.svtv_selftest.specs.Texts.{registers}
use Rattle.svtv_selftest.proofs.Turns.{each_more, none_yet}
use Rattle.svtv_selftest.proofs.texts.push_all_registers.Goals as goal

pub registers-init : goal.registers-init
registers-init c = none_yet 1 registers c.args.text.now.items

pub registers-preserved : goal.registers-preserved
registers-preserved c =
    each_more 1 c.registers.k (c.registers.k + 1) registers c.args.text.now.items c.registers.text.items c.push_registers.new.text.items (omega arith) c.registers.invariant c.in_ok-push_registers.ensures
