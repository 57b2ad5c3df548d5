use Rattle.std.proofs.Common.{◌-◌, arith}
use Rattle.vcd_print.proofs.Digits.{bit_pushed}
use Rattle.vcd_print.proofs.print.push_bits.Goals as goal

pub bits-preserved : goal.bits-preserved
bits-preserved c = record {
  inside = omega arith;
  so_far = bit_pushed c.args.text.now.items c.bits.text.items c.push.new.self.items c.args.value.now (c.bits.at - 1) c.bits.at c.bit.result c.digit.result
      (omega arith) c.bit.ensures c.digit.ensures c.bits.invariant.so_far c.in_ok-push.ensures.items;
}
