use Rattle.std.proofs.Common.{◌≤◌, List, ℕ, length, refl, sym, ◌∙◌, subst}
use Rattle.std.specs.List.{Contains}
use Rattle.cert_names.proofs.Places.{dense_below, clauses_named, steps_named, new_accepted, new_bad, new_room, new_own}
use Rattle.cert_names.proofs.numbers.compact.Goals as goal

pub returns-then-are_dense-clause-room : goal.returns-then-are_dense-clause-room
returns-then-are_dense-clause-room c = dense_below c.args.cnf c.args.log c.as_slice.result.now (c.as_slice.ensures.value ∙ c.in_ok-names.ensures) (c.if-are_dense.ensures refl)

pub renumbered-requires-clause-clauses : goal.renumbered-requires-clause-clauses
renumbered-requires-clause-clauses c =
    clauses_named c.args.cnf c.args.log c.in_ok-names.names.items c.as_slice-2.result.now c.in_ok-names.ensures (λ x h. subst (λ (l : List ℕ). Contains l x) (sym c.as_slice-2.ensures.value) (c.distinct-names.ensures.has x h))

pub renumbered-requires-clause-steps : goal.renumbered-requires-clause-steps
renumbered-requires-clause-steps c =
    steps_named c.args.cnf c.args.log c.in_ok-names.names.items c.as_slice-2.result.now c.in_ok-names.ensures (λ x h. subst (λ (l : List ℕ). Contains l x) (sym c.as_slice-2.ensures.value) (c.distinct-names.ensures.has x h))

pub returns-clause-accepted : goal.returns-clause-accepted
returns-clause-accepted c = new_accepted c.as_slice-2.result.now c.args.cnf c.args.log c.renumbered.result (rw c.as_slice-2.ensures.value c.distinct-names.ensures.rising) c.requires c.renumbered.ensures

pub returns-clause-bad : goal.returns-clause-bad
returns-clause-bad c = new_bad c.as_slice-2.result.now c.args.cnf c.args.log c.renumbered.result (rw c.as_slice-2.ensures.value c.distinct-names.ensures.rising) c.requires c.renumbered.ensures

pub returns-clause-room : goal.returns-clause-room
returns-clause-room c =
    new_room c.in_ok-names.names.items c.as_slice-2.result.now c.args.cnf c.args.log c.renumbered.result c.in_ok-names.ensures (subst (λ (l : List ℕ). length l ≤ length c.in_ok-names.names.items) (sym c.as_slice-2.ensures.value) c.distinct-names.ensures.few) c.renumbered.ensures

pub returns-clause-below : goal.returns-clause-below
returns-clause-below c = new_own c.as_slice-2.result.now c.args.cnf c.args.log c.renumbered.result c.renumbered.ensures
