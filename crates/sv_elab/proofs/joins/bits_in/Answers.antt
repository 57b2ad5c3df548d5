use Rattle.std.proofs.Common.{◌+◌, length, drop, min, arith}
use Rattle.lhs_alias.specs.Segs.{lhs_bits}
use Rattle.sv_elab.specs.Working.{parts_bits}
use Rattle.sv_elab.proofs.Joining.{count_end, count_more, part_sum}
use Rattle.sv_elab.proofs.Parting.{sum_end}
use Rattle.sv_elab.proofs.joins.bits_in.Goals as goal

pub parts-preserved : goal.parts-preserved
parts-preserved c =
    let parts = c.args.parts.now in
    let i = c.parts.part-index in
    let next = c.saturating_add-count.ensures in
    record {
      fits = grind (arith, next);
      total =
          part_sum c.parts.count (length (lhs_bits c.part-item.result.to)) (length (parts_bits (drop (i + 1) parts))) (length (parts_bits (drop i parts))) c.bits_of.result c.saturating_add-count.result (min 255 (length (parts_bits parts)))
          (count_more parts i c.part-item.result c.parts-test.true c.part-item.is) c.bits_of.ensures next c.parts.invariant.total;
    }

pub returns : goal.returns
returns c =
    let parts = c.args.parts.now in
    let i = c.parts.part-index in
    sum_end c.parts.count (length (parts_bits (drop i parts))) (min 255 (length (parts_bits parts))) c.parts.invariant.fits (count_end parts i c.parts-test.false) c.parts.invariant.total
