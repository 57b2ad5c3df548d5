use Rattle.std.proofs.Common.{◌+◌, ◌∷◌, sym, ap, ◌∙◌, arith}
use Rattle.lhs_alias.specs.Segs.{bit}
use Rattle.lhs_alias.proofs.SegBits.{drop-lhs_bits, drop-lowest, used-lowest, ends-lower, ends-more}
use Rattle.lhs_alias.proofs.bits.Bits.next_bit.Goals as goal

pub returns-then-self-low : goal.returns-then-self-low
returns-then-self-low c =
    let segs = c.self.inside.segs.now in
    let used = c.self.inside.used in
    let low = c.in_ok-low.low.now in
    let higher = c.in_ok-low.higher.now in
    let is = c.in_ok-low.ensures.cases.0 in
    sym c.self.view_is
    ∙ drop-lhs_bits segs higher low used is (omega arith)
    ∙ ap (λ r. bit low.wire (low.lo + used) ∷ r) (drop-lowest segs higher low used is c.if-self-low.true)

pub returns-else-self-low : goal.returns-else-self-low
returns-else-self-low c =
    let segs = c.self.inside.segs.now in
    let used = c.self.inside.used in
    let low = c.in_ok-low.low.now in
    let higher = c.in_ok-low.higher.now in
    let is = c.in_ok-low.ensures.cases.0 in
    sym c.self.view_is
    ∙ drop-lhs_bits segs higher low used is (used-lowest segs higher low used is c.self.invariant.1)

pub invariant_of-self : goal.invariant_of-self
invariant_of-self c = ends-lower c.self.inside.segs.now c.in_ok-low.higher.now c.in_ok-low.low.now c.in_ok-low.ensures.cases.0 c.self.invariant.0

pub invariant_of-self-else-self-low : goal.invariant_of-self-else-self-low
invariant_of-self-else-self-low c =
    (c.self.invariant.0, ends-more c.self.inside.segs.now c.in_ok-low.higher.now c.in_ok-low.low.now c.self.inside.used c.in_ok-low.ensures.cases.0 c.self.invariant.1 c.if-self-low.false)
