use Rattle.std.proofs.Common.{◌≡◌, ℕ, ◌≤◌, length}
use Rattle.flat_lines.specs.Items.{segs, put_before}
use Rattle.flat_lines.proofs.lines.more.Given as goal

abbrev pub invariant-segs : goal.invariant-segs
invariant-segs l =
    (n : ℕ) × ((length l.words.rest.now ≤ n) × (put_before l.segs.items (segs n l.words.rest.now) ≡ put_before l.initial.segs.items (segs (length l.initial.words.rest.now) l.initial.words.rest.now)))

abbrev pub decreases-segs : goal.decreases-segs
decreases-segs l = length l.words.rest.now
