use Rattle.std.proofs.Common.{◌∙◌, ◌<◌, ◌≤◌, Option, Some, ℕ, length, sym, ap, subst, arith}
use Rattle.sv_names.specs.Kinds.{Entry, names_of, what_is}
use Rattle.sv_names.proofs.Latest.{left, found_here, found_nowhere, next_place, place_below, falls}
use Rattle.sv_names.proofs.scope.last_of.Goals as goal

pub returns-then-place-before-clause-is : goal.returns-then-place-before-clause-is
returns-then-place-before-clause-is c =
    let at = c.places.invariant in
    ap (λ (x : Entry). Some (what_is x.1)) (sym c.index-entries-place.is)
    ∙ found_here c.args.entries.now c.args.name.now at.0 c.args.before c.in-Some.place c.index-entries-place.result (sym at.3 ∙ c.in-Some.is) at.1 c.requires.within c.if-place-before.true c.index-entries-place.is

pub places-smaller : goal.places-smaller
places-smaller c =
    let at = c.places.invariant in
    let next = next_place c.args.entries.now c.args.name.now at.0 c.in-Some.place c.earlier-latest.result at.2 (sym at.3 ∙ c.in-Some.is) (c.earlier-latest.ensures (names_of c.args.entries.now) c.requires.linked) in
    subst (λ (x : Option ℕ). left c.earlier-latest.result < left x) (sym c.in-Some.is) (falls (names_of c.args.entries.now) c.args.name.now c.in-Some.place c.earlier-latest.result next)

pub places-preserved : goal.places-preserved
places-preserved c =
    let at = c.places.invariant in
    let below : c.in-Some.place < at.0 = place_below (names_of c.args.entries.now) c.args.name.now at.0 c.in-Some.place (sym at.3 ∙ c.in-Some.is) in
    let within : c.in-Some.place ≤ length c.args.entries.now = omega (arith, at.2) in (
      c.in-Some.place,
      c.if-place-before.false,
      within,
      next_place c.args.entries.now c.args.name.now at.0 c.in-Some.place c.earlier-latest.result at.2 (sym at.3 ∙ c.in-Some.is) (c.earlier-latest.ensures (names_of c.args.entries.now) c.requires.linked),
    )

pub returns-clause-is : goal.returns-clause-is
returns-clause-is c =
    let at = c.places.invariant in
    found_nowhere c.args.entries.now c.args.name.now at.0 c.args.before (sym at.3 ∙ c.in_default.is) at.1 c.requires.within
