use Rattle.std.proofs.Common.{◌≡◌, ap, ◌∙◌, arith}
use Rattle.std.proofs.lemmas.List.{take_all}
use Rattle.std.proofs.lemmas.Result.{IfOk-from_err}
use Rattle.lhs_alias.specs.Segs.{lhs_bits, AreSegs}
use Rattle.lhs_alias.proofs.Lying.{lie-same_bits}
use Rattle.lhs_alias.proofs.SegBits.{lhs_bits-grown}
use Rattle.lhs_alias.proofs.lhs.Lhs.normal.Goals as goal

pub loop-seg-preserved : goal.loop-seg-preserved
loop-seg-preserved c =
    let segs = c.segs-seg-items.result.now in
    let i = c.loop-seg.seg-index in
    record {
      bits = lhs_bits-grown segs i _ _ _ c.in_ok-put_below.ensures.bits c.loop-seg.invariant.bits (omega arith);
      segs = c.in_ok-put_below.ensures.segs;
      united = c.in_ok-put_below.ensures.united c.loop-seg.invariant.united;
    }

pub returns-clause-same : goal.returns-clause-same
returns-clause-same c =
    ap lhs_bits c.from_vec.ensures
    ∙ c.loop-seg.invariant.bits
    ∙ ap lhs_bits (take_all c.loop-seg.seg-index c.segs-seg-items.result.now (omega arith))
    ∙ ap lhs_bits c.segs-seg-items.ensures

pub returns-clause-segs : goal.returns-clause-segs
returns-clause-segs c = rw c.from_vec.ensures c.loop-seg.invariant.segs

pub returns-clause-united : goal.returns-clause-united
returns-clause-united c = rw c.from_vec.ensures c.loop-seg.invariant.united

pub returns-clause-lies : goal.returns-clause-lies
returns-clause-lies c =
    let segs : AreSegs c.from_vec.result = returns-clause-segs c in
    let same : lhs_bits c.from_vec.result ≡ lhs_bits c.args.self.now = returns-clause-same c in
    λ widths. lie-same_bits widths c.args.self.now c.from_vec.result segs same

pub returns-in_err-put_below-clause-lies : goal.returns-in_err-put_below-clause-lies
returns-in_err-put_below-clause-lies c = IfOk-from_err _ _ c.from_residual.ensures.0

pub returns-in_err-put_below-clause-same : goal.returns-in_err-put_below-clause-same
returns-in_err-put_below-clause-same c = IfOk-from_err _ _ c.from_residual.ensures.0

pub returns-in_err-put_below-clause-segs : goal.returns-in_err-put_below-clause-segs
returns-in_err-put_below-clause-segs c = IfOk-from_err _ _ c.from_residual.ensures.0

pub returns-in_err-put_below-clause-united : goal.returns-in_err-put_below-clause-united
returns-in_err-put_below-clause-united c = IfOk-from_err _ _ c.from_residual.ensures.0
