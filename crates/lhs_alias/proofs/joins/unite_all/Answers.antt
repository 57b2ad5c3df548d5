use Rattle.std.proofs.Common.{◌≡◌, ◌∷◌, length, sym, ap, ◌∙◌, arith}
use Rattle.std.specs.List.{zip}
use Rattle.lhs_alias.specs.Roots.{merged}
use Rattle.lhs_alias.specs.Joined.{place_in, all_merged}
use Rattle.lhs_alias.proofs.Row.{places-rest, place-next}
use Rattle.lhs_alias.proofs.Trees.{length-merged}
use Rattle.lhs_alias.proofs.joins.unite_all.Goals as goal

pub loop-child-preserved : goal.loop-child-preserved
unfolding all_merged
loop-child-preserved c =
    let starts = c.args.starts.now in
    let forest = c.loop-child.forest in
    let children = c.next_bit.new.self in
    let parents = c.next_bit-in-loop-child.new.self in
    let long : length forest ≡ length c.unite.new.self = sym (ap length c.unite.ensures ∙ length-merged forest _ _) in
    record {
      merged =
          ap (λ f. all_merged starts f (zip children parents))
          (c.unite.ensures ∙ ap (λ p. merged forest p c.place-in-loop-child.result) c.place.ensures ∙ ap (λ p. merged forest (place_in starts c.in-Some.child) p) c.place-in-loop-child.ensures)
          ∙ ap (λ s. all_merged starts forest (zip s (c.in-Some-next_bit.parent ∷ parents))) (sym c.in-Some.ensures)
          ∙ ap (λ s. all_merged starts forest (zip c.loop-child.children s)) (sym c.in-Some-next_bit.ensures)
          ∙ c.loop-child.invariant.merged;
      fits = omega (arith, c.loop-child.invariant.fits, long);
      child_places = places-rest starts _ _ c.in-Some.child children c.loop-child.children c.in-Some.ensures long c.loop-child.invariant.child_places;
      parent_places = places-rest starts _ _ c.in-Some-next_bit.parent parents c.loop-child.parents c.in-Some-next_bit.ensures long c.loop-child.invariant.parent_places;
    }

pub place-requires-clause-wire : goal.place-requires-clause-wire
place-requires-clause-wire c =
    let next = place-next c.args.starts.now _ c.in-Some.child c.next_bit.new.self c.loop-child.children c.in-Some.ensures c.loop-child.invariant.child_places in
    next.wire

pub place-requires-clause-fits : goal.place-requires-clause-fits
place-requires-clause-fits c =
    let next = place-next c.args.starts.now _ c.in-Some.child c.next_bit.new.self c.loop-child.children c.in-Some.ensures c.loop-child.invariant.child_places in
    omega (arith, next.below, c.loop-child.invariant.fits)

pub place-requires-in-loop-child-clause-wire : goal.place-requires-in-loop-child-clause-wire
place-requires-in-loop-child-clause-wire c =
    let next = place-next c.args.starts.now _ c.in-Some-next_bit.parent c.next_bit-in-loop-child.new.self c.loop-child.parents c.in-Some-next_bit.ensures c.loop-child.invariant.parent_places in
    next.wire

pub place-requires-in-loop-child-clause-fits : goal.place-requires-in-loop-child-clause-fits
place-requires-in-loop-child-clause-fits c =
    let next = place-next c.args.starts.now _ c.in-Some-next_bit.parent c.next_bit-in-loop-child.new.self c.loop-child.parents c.in-Some-next_bit.ensures c.loop-child.invariant.parent_places in
    omega (arith, next.below, c.loop-child.invariant.fits)

pub unite-requires-clause-from : goal.unite-requires-clause-from
unite-requires-clause-from c =
    let next = place-next c.args.starts.now _ c.in-Some.child c.next_bit.new.self c.loop-child.children c.in-Some.ensures c.loop-child.invariant.child_places in
    omega (arith, next.below, c.place.ensures)

pub unite-requires-clause-to : goal.unite-requires-clause-to
unite-requires-clause-to c =
    let next = place-next c.args.starts.now _ c.in-Some-next_bit.parent c.next_bit-in-loop-child.new.self c.loop-child.parents c.in-Some-next_bit.ensures c.loop-child.invariant.parent_places in
    omega (arith, next.below, c.place-in-loop-child.ensures)
