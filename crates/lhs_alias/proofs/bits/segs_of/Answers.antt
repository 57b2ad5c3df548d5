use Rattle.std.proofs.lemmas.Result.{IfOk-from_err}
use Rattle.std.proofs.Common.{◌<◌, ◌++◌, ◌∷◌, [], append_assoc, sym, ap, ◌∙◌}
use Rattle.lhs_alias.specs.Segs.{lhs_bits}
use Rattle.lhs_alias.proofs.SegBits.{seg_bits-one, All-front}
use Rattle.lhs_alias.proofs.bits.segs_of.Goals as goal

pub loop-bit-preserved : goal.loop-bit-preserved
loop-bit-preserved c =
    let is = c.in-Some.ensures.cases.0 in
    let bit = c.in-Some.bit.now in
    let lower = c.in-Some.lower.now in
    let below = lhs_bits c.loop-bit.segs.items in
    record {
      bits = ap (λ r. lower ++ r) (c.in_ok-put_below.ensures.bits ∙ ap (λ r. r ++ below) (seg_bits-one bit.wire bit.at))
          ∙ sym (append_assoc lower (bit ∷ []) below)
          ∙ ap (λ r. r ++ below) (sym is)
          ∙ c.loop-bit.invariant.bits;
      segs = c.in_ok-put_below.ensures.segs;
      united = c.in_ok-put_below.ensures.united c.loop-bit.invariant.united;
      rest = All-front (λ bit. bit.at < 128) c.loop-bit.rest.now c.in-Some.lower.now c.in-Some.bit.now is c.loop-bit.invariant.rest;
    }

pub returns-in_err-put_below-clause-bits : goal.returns-in_err-put_below-clause-bits
returns-in_err-put_below-clause-bits c = IfOk-from_err _ _ c.from_residual.ensures.0

pub returns-in_err-put_below-clause-segs : goal.returns-in_err-put_below-clause-segs
returns-in_err-put_below-clause-segs c = IfOk-from_err _ _ c.from_residual.ensures.0

pub returns-in_err-put_below-clause-united : goal.returns-in_err-put_below-clause-united
returns-in_err-put_below-clause-united c = IfOk-from_err _ _ c.from_residual.ensures.0
