use Rattle.std.proofs.Common.{arith}
use Rattle.std.proofs.lemmas.List.{get_or_default}
use Rattle.sv_blocks.proofs.Driving.{run_first, run_more}
use Rattle.sv_blocks.proofs.drivers.run_of.Goals as goal

pub bits-init : goal.bits-init
bits-init c = record { some = omega arith; most = omega arith; within = c.requires; are = run_first c.args.bits.now _ c.requires (get_or_default c.args.bits.now 0 _ _ c.requires) }

pub bits-preserved : goal.bits-preserved
bits-preserved c =
    let i = c.bits.invariant in
    record {
      some = omega arith;
      most = let a = c.bits-test.true in omega arith;
      within = let a = c.if-count-bits.true in omega arith;
      are = run_more c.args.bits.now _ _ c.bits.count c.if-count-bits.true (get_or_default c.args.bits.now c.bits.count _ _ c.if-count-bits.true) (c.is_above.ensures.wire c.if-not-is_above.false) (c.is_above.ensures.at c.if-not-is_above.false) i.are;
    }
