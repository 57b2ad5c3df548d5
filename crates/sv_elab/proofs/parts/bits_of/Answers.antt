use Rattle.std.proofs.Common.{◌+◌, length, drop, min, get_or, arith}
use Rattle.lhs_alias.specs.Segs.{lhs_bits}
use Rattle.lhs_alias.specs.declared.segs.Seg.{Seg}
use Rattle.sv_elab.proofs.Parting.{bits_more, sum_more}
use Rattle.sv_elab.proofs.parts.bits_of.Goals as goal

pub segs-preserved : goal.segs-preserved
segs-preserved c =
    let segs = c.segs-seg-items.result.now in
    let none : Seg = record { wire = 0; lo = 0; width = 0 } in
    let i = c.segs.seg-index in
    let next = c.saturating_add-count.ensures in
    record {
      fits = grind (arith, next);
      total = sum_more c.segs.count (get_or segs i none).width (length (lhs_bits (drop (i + 1) segs))) (length (lhs_bits (drop i segs))) c.saturating_add-count.result (min 255 (length (lhs_bits segs))) (bits_more segs i none c.segs-test.true) next c.segs.invariant.total;
    }
