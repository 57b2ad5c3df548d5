use Rattle.std.proofs.Common.{◌≡◌, ◌<◌, ◌≤◌, length, get_or, arith, refl, sym, ◌∙◌}
use Rattle.xor_forms.proofs.Sums.{starts, takes_left, takes_right, takes_none, ends_sliced}
use Rattle.xor_forms.proofs.form.apart.Goals as goal

pub loop-i-init : goal.loop-i-init
loop-i-init c = record {
  within_a = omega arith;
  within_b = omega arith;
  value = starts _ c.args.a.now c.args.b.now c.in_ok-nodes.ensures.items;
}

pub loop-i-preserved-then-a-i : goal.loop-i-preserved-then-a-i
loop-i-preserved-then-a-i c = record {
  within_a = omega (arith, c.loop-i-test.true);
  within_b = c.loop-i.invariant.within_b;
  value = rw c.in_ok-push.ensures.items (takes_left _ c.args.a.now c.args.b.now c.loop-i.i c.loop-i.j (omega (arith, c.loop-i-test.true)) c.loop-i.invariant.value);
}

pub loop-i-preserved-then-b-j : goal.loop-i-preserved-then-b-j
loop-i-preserved-then-b-j c = record {
  within_a = c.loop-i.invariant.within_a;
  within_b = omega (arith, c.if-j-b.true);
  value = rw c.in_ok-push-2.ensures.items (takes_right _ c.args.a.now c.args.b.now c.loop-i.i c.loop-i.j (omega (arith, c.if-j-b.true)) c.loop-i.invariant.value);
}

pub loop-i-preserved : goal.loop-i-preserved
loop-i-preserved c = record {
  within_a = omega (arith, c.loop-i-test.true);
  within_b = omega (arith, c.if-j-b.true);
  value = takes_none _ c.args.a.now c.args.b.now c.loop-i.i c.loop-i.j (omega (arith, c.loop-i-test.true)) (omega (arith, c.if-j-b.true))
      (let same : get_or c.args.a.now c.loop-i.i 0 ≡ get_or c.args.b.now c.loop-i.j 0 = omega (arith, c.if-a-i.false, c.if-b-j.false) in same) c.loop-i.invariant.value;
}

pub returns : goal.returns
returns c = rw (c.in_ok-extend_from_slice-2.ensures.items, c.in_ok-extend_from_slice.ensures.items) (ends_sliced c.loop-i.nodes.items c.args.a.now c.args.b.now c.loop-i.i c.loop-i.j c.loop-i.invariant.value)
