use Rattle.std.proofs.Common.{◌≡◌, ℕ, ◌+◌, ◌-◌, ◌≤◌, Bool, length, drop}
use Rattle.xor_forms.specs.Forms.{differ, sum_of}
use Rattle.xor_forms.proofs.form.apart.Given as goal

abbrev pub invariant-loop-i : goal.invariant-loop-i
invariant-loop-i l = record {
  within_a : l.i ≤ length l.a;
  within_b : l.j ≤ length l.b;
  value : (v : ℕ → Bool) → differ (sum_of v l.nodes.items) (differ (sum_of v (drop l.i l.a)) (sum_of v (drop l.j l.b))) ≡ differ (sum_of v l.a) (sum_of v l.b);
}

abbrev pub decreases-loop-i : goal.decreases-loop-i
decreases-loop-i l = (length l.a - l.i) + (length l.b - l.j)
