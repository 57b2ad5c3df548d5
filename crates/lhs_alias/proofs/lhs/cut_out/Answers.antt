use Rattle.std.proofs.lemmas.Result.{IfOk-from_err}
use Rattle.std.proofs.Common.{◌-◌, ◌<◌, List, take, drop, sym, ap, subst, ◌∙◌, ◌++◌, arith}
use Rattle.std.specs.Prelude.{reverse}
use Rattle.lhs_alias.specs.declared.segs.Seg.{Seg}
use Rattle.std.proofs.lemmas.List.Elements.{All-push}
use Rattle.lhs_alias.specs.Segs.{IsSeg, AreSegs, lhs_bits}
use Rattle.lhs_alias.proofs.SegBits.{cut-part, cut-past, length-lowest, All-front}
use Rattle.lhs_alias.proofs.lhs.cut_out.Goals as goal

pub loop-left-preserved-in_ok-push : goal.loop-left-preserved-in_ok-push
loop-left-preserved-in_ok-push c =
    let rest = c.loop-left.rest.now in
    let low = c.in-Some.low.now in
    let higher = c.in-Some.higher.now in
    let part = c.part_of-part.result in
    let parts = c.loop-left.parts.items in
    let new = c.push.new.self.items in
    let pushed = c.in_ok-push.ensures.items in
    let within : c.loop-left.skip < low.width = omega arith in
    let is = c.in-Some.ensures.cases.0 in
    let long = length-lowest rest higher low is in
    record {
      bits = ap (λ n. lhs_bits (reverse new) ++ take (c.loop-left.left - n) (lhs_bits higher)) c.from-left.ensures
          ∙ cut-part parts new rest higher low part c.loop-left.skip c.loop-left.left _ pushed is within
          c.part_of-part.ensures.bits c.part_of-part.ensures.width c.loop-left.invariant.bits;
      room = omega (arith, c.loop-left.invariant.room, c.part_of-part.ensures.width);
      parts = let P : List Seg → Type 0 = AreSegs in
          subst P (sym pushed) (All-push IsSeg parts part c.loop-left.invariant.parts c.part_of-part.ensures.seg);
      rest = All-front IsSeg rest higher low is c.loop-left.invariant.rest;
    }

pub loop-left-preserved : goal.loop-left-preserved
loop-left-preserved c =
    let rest = c.loop-left.rest.now in
    let low = c.in-Some.low.now in
    let higher = c.in-Some.higher.now in
    let is = c.in-Some.ensures.cases.0 in
    let long = length-lowest rest higher low is in
    record {
      bits = ap (λ n. lhs_bits (reverse c.loop-left.parts.items) ++ take c.loop-left.left (drop (c.loop-left.skip - n) (lhs_bits higher))) c.from-have.ensures
          ∙ ap (λ r. lhs_bits (reverse c.loop-left.parts.items) ++ r) (cut-past rest higher low c.loop-left.skip c.loop-left.left is (omega arith))
          ∙ c.loop-left.invariant.bits;
      room = omega (arith, c.loop-left.invariant.room);
      parts = c.loop-left.invariant.parts;
      rest = All-front IsSeg rest higher low is c.loop-left.invariant.rest;
    }

pub returns-in_err-push-clause-bits : goal.returns-in_err-push-clause-bits
returns-in_err-push-clause-bits c = IfOk-from_err _ _ c.from_residual.ensures.0

pub returns-in_err-push-clause-segs : goal.returns-in_err-push-clause-segs
returns-in_err-push-clause-segs c = IfOk-from_err _ _ c.from_residual.ensures.0
