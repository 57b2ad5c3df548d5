use Rattle.std.proofs.Common.{arith}
use Rattle.lhs_alias.proofs.Falling.{fall-first, fall-more}
use Rattle.lhs_alias.proofs.lhs.all_fall.Goals as goal

pub returns-then-child-parent : goal.returns-then-child-parent
returns-then-child-parent c = (
  λ e. cc,
  λ all.
      let first = fall-first c.in-Some.child c.in-Some-next_bit.parent _ _ c.loop-child.children c.loop-child.parents c.in-Some.ensures c.in-Some-next_bit.ensures (c.loop-child.invariant.1 all) in
      absurd (omega (arith, first.0, c.if-child-parent.true)),
)

pub loop-child-preserved : goal.loop-child-preserved
loop-child-preserved c = (
  λ rest. c.loop-child.invariant.0 (fall-more c.in-Some.child c.in-Some-next_bit.parent _ _ c.loop-child.children c.loop-child.parents c.in-Some.ensures c.in-Some-next_bit.ensures (omega (arith, c.if-child-parent.false)) rest),
  λ all. (fall-first c.in-Some.child c.in-Some-next_bit.parent _ _ c.loop-child.children c.loop-child.parents c.in-Some.ensures c.in-Some-next_bit.ensures (c.loop-child.invariant.1 all)).1,
)
