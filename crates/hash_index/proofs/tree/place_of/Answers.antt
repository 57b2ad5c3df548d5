use Rattle.std.proofs.Common.{◌≡◌, ℕ, suc, ◌-◌, ◌/◌, ◌%◌, ◌<◌, length, refl, sym, ap, ◌∙◌, subst, arith}
use Rattle.std.specs.Prelude.{slice_index}
use Rattle.hash_index.specs.declared.tree.Place.{Place}
use Rattle.hash_index.specs.declared.tree.Place.TheVariants.{Root}
use Rattle.hash_index.specs.Tree.{link_at, child, IsAt, Reaches, Leads, left}
use Rattle.hash_index.proofs.Ways.{child_at, left_child, reaches_some, reaches_rest}
use Rattle.hash_index.proofs.Trees.{leads_start, leads_next, leads_end}
use Rattle.hash_index.proofs.tree.place_of.Goals as goal

pub loop-at-init : goal.loop-at-init
loop-at-init c =
    let roots = c.args.roots.now in
    let links : Place → ℕ = link_at c.args.low.now c.args.high.now roots in
    let n : ℕ = length c.args.low.now in
    let hash : ℕ = c.args.hash in
    record {
      within = c.requires.rising.within (Root c.bucket-first.result);
      stands = c.bucket-first.ensures.below;
      here = refl;
      reaches = subst (λ b. Reaches links hash (slice_index roots b) c.args.wanted) (sym c.bucket-first.ensures.is) c.requires.reaches;
      leads = subst (λ b. Leads n links hash (Root (hash % length roots)) hash (Root b)) (sym c.bucket-first.ensures.is) (leads_start n links hash (hash % length roots));
    }

pub overflow_sub-at : goal.overflow_sub-at
overflow_sub-at c =
    let some : 0 < c.loop-at.at = reaches_some _ _ _ _ c.loop-at-test.true c.loop-at.invariant.reaches in
    omega arith

pub overflow_sub-at-in-loop-at : goal.overflow_sub-at-in-loop-at
overflow_sub-at-in-loop-at c =
    let some : 0 < c.loop-at.at = reaches_some _ _ _ _ c.loop-at-test.true c.loop-at.invariant.reaches in
    omega arith

pub next-at-requires-clause-low : goal.next-at-requires-clause-low
next-at-requires-clause-low c =
    let some : 0 < c.loop-at.at = reaches_some _ _ _ _ c.loop-at-test.true c.loop-at.invariant.reaches in
    omega (arith, c.loop-at.invariant.within)

pub next-at-requires-clause-high : goal.next-at-requires-clause-high
next-at-requires-clause-high c =
    let some : 0 < c.loop-at.at = reaches_some _ _ _ _ c.loop-at-test.true c.loop-at.invariant.reaches in
    omega (arith, c.loop-at.invariant.within, c.requires.pairs)

pub loop-at-smaller : goal.loop-at-smaller
loop-at-smaller c =
    let n : ℕ = length c.args.low.now in
    let at : ℕ = c.loop-at.at in
    let some : 0 < at = reaches_some _ _ _ _ c.loop-at-test.true c.loop-at.invariant.reaches in
    subst (λ v. left n v < left n at) (sym (c.next-at.ensures c.args.roots.now))
    (left_child n at (link_at c.args.low.now c.args.high.now c.args.roots.now) c.loop-at.rest (at - 1) c.requires.rising (omega arith) c.loop-at.invariant.within)

pub loop-at-preserved : goal.loop-at-preserved
loop-at-preserved c =
    let low = c.args.low.now in
    let high = c.args.high.now in
    let roots = c.args.roots.now in
    let links : Place → ℕ = link_at low high roots in
    let n : ℕ = length low in
    let hash : ℕ = c.args.hash in
    let at : ℕ = c.loop-at.at in
    let rest : ℕ = c.loop-at.rest in
    let i = c.loop-at.invariant in
    let some : 0 < at = reaches_some links rest at c.args.wanted c.loop-at-test.true i.reaches in
    let is : at ≡ suc (at - 1) = omega arith in
    let behind : c.next-at.result ≡ links (child rest (at - 1)) = c.next-at.ensures roots in
    record {
      within = omega (arith, behind, c.requires.rising.within (child rest (at - 1)));
      stands = subst (λ p. IsAt low high roots p) (sym c.child_of-place.ensures) (child_at low high roots rest (at - 1) (omega (arith, i.within)) (omega (arith, i.within, c.requires.pairs)));
      here = ap links c.child_of-place.ensures ∙ sym behind;
      reaches = subst (λ v. Reaches links (rest / 2) v c.args.wanted) (sym behind) (reaches_rest links rest at (at - 1) c.args.wanted is c.loop-at-test.true i.reaches);
      leads = subst (λ p. Leads n links hash (Root (hash % length roots)) (rest / 2) p) (sym c.child_of-place.ensures)
          (leads_next n links hash (Root (hash % length roots)) rest c.loop-at.place at (at - 1) is i.here i.within i.leads);
    }

pub returns-clause-is : goal.returns-clause-is
returns-clause-is c =
    leads_end (length c.args.low.now) (link_at c.args.low.now c.args.high.now c.args.roots.now) c.args.hash (Root (c.args.hash % length c.args.roots.now)) c.loop-at.rest c.loop-at.place c.loop-at.at c.args.wanted
    c.loop-at.invariant.here c.loop-at-test.false c.loop-at.invariant.leads
