use Rattle.std.proofs.Common.{◌≡◌, ℕ, ◌-◌, ◌/◌, ◌<◌, false, length, sym, subst, arith}
use Rattle.std.specs.Prelude.{slice_index}
use Rattle.hash_index.specs.declared.tree.Place.{Place}
use Rattle.hash_index.specs.Tree.{link_at, IsAhead, left}
use Rattle.hash_index.proofs.Ways.{left_child}
use Rattle.hash_index.proofs.Trees.{ahead_first, ahead_next, none_ahead}
use Rattle.hash_index.proofs.tree.find.Goals as goal
use Rattle.hash_index.proofs.tree.find.Goals.{else-hashes-number-via-then-hashes-number+else-test, else-hashes-number-via-else-hashes-number}

pub loop-at-init : goal.loop-at-init
loop-at-init g c = ahead_first (length c.args.roots.now) c.args.hashes.now (link_at c.args.low.now c.args.high.now c.args.roots.now) _ c.args.hash c.root-at.result c.root-at.ensures c.requires.linked.tree

pub loop-at-smaller : goal.loop-at-smaller
loop-at-smaller g c =
    let n : ℕ = length c.args.hashes.now in
    let at : ℕ = c.loop-at.at in
    subst (λ v. left n v < left n at) (sym (c.next-at.ensures c.args.roots.now))
    (left_child n at (link_at c.args.low.now c.args.high.now c.args.roots.now) c.loop-at.rest (at - 1) c.requires.linked.tree.rising (omega arith) c.loop-at.invariant.within)

pub loop-at-preserved : goal.loop-at-preserved
loop-at-preserved g c =
    let hashes = c.args.hashes.now in
    let links : Place → ℕ = link_at c.args.low.now c.args.high.now c.args.roots.now in
    let at : ℕ = c.loop-at.at in
    let Out = λ (j : ℕ). goal.F-post g c.args.test j false in
    let out : slice_index hashes (at - 1) ≡ c.args.hash → Out (at - 1) =
    elim c.else-hashes-number.branch [
      | else-hashes-number-via-then-hashes-number+else-test w ↦ λ e. subst (goal.F-post g c.args.test (at - 1)) w.if-test.false w.test.ensures
      | else-hashes-number-via-else-hashes-number w ↦ λ e. absurd (w.if-hashes-number.false e)
    ] in
    subst (λ v. IsAhead hashes links Out c.args.hash (c.loop-at.rest / 2) v) (sym (c.next-at.ensures c.args.roots.now))
    (ahead_next (length c.args.roots.now) hashes links Out c.args.hash c.loop-at.rest at (at - 1) (omega arith) out c.requires.linked.tree c.loop-at.invariant)

pub returns-clause-none : goal.returns-clause-none
returns-clause-none g c = none_ahead c.args.hashes.now (link_at c.args.low.now c.args.high.now c.args.roots.now) _ c.args.hash c.loop-at.rest c.loop-at.at c.loop-at-test.false c.loop-at.invariant
