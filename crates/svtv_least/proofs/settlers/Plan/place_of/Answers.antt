use Rattle.std.proofs.Common.{◌≡◌, ◌≢◌, ◌<◌, true, false, List, length, sym, ◌∙◌, arith}
use Rattle.std.proofs.lemmas.Bool.Decides.{Decides-eqb}
use Rattle.std.proofs.lemmas.Slice.Eq.{slice_eq-Decides}
use Rattle.svtv_least.specs.declared.settlers.Settler.{Settler}
use Rattle.svtv_least.specs.Running.{over_of}
use Rattle.svtv_least.proofs.Planning.{none_more, over_at}
use Rattle.svtv_least.proofs.settlers.Plan.place_of.Goals as goal

pub returns-then-eq-clause-wires : goal.returns-then-eq-clause-wires
returns-then-eq-clause-wires c =
    over_at c.args.self.now.settlers.items c.settlers.place c.index.result.now (omega (arith, c.settlers-test.true, c.len-place-end.ensures, c.args.self.now.settlers.ok.0)) c.index.ensures
    ∙ sym c.as_slice.ensures
    ∙ (slice_eq-Decides Decides-eqb c.as_slice.result.now c.args.over.now c.eq.result c.eq.ensures).0 c.if-eq.true

pub settlers-init : goal.settlers-init
settlers-init c = λ k l. absurd (omega arith)

pub settlers-preserved : goal.settlers-preserved
settlers-preserved c =
    let settlers : List Settler = c.args.self.now.settlers.items in
    let inside : c.settlers.place < length settlers = omega (arith, c.settlers-test.true, c.len-place-end.ensures, c.args.self.now.settlers.ok.0) in
    let own : c.as_slice.result.now ≡ over_of settlers c.settlers.place = c.as_slice.ensures ∙ sym (over_at settlers c.settlers.place c.index.result.now inside c.index.ensures) in
    let other : over_of settlers c.settlers.place ≢ c.args.over.now = λ e.
    let r : c.eq.result ≡ true = (slice_eq-Decides Decides-eqb c.as_slice.result.now c.args.over.now c.eq.result c.eq.ensures).1 (own ∙ e) in
    let no : true ≡ false = sym r ∙ c.if-eq.false in
    cc in
    none_more settlers c.args.over.now c.settlers.place c.settlers.invariant other

pub returns-clause-none : goal.returns-clause-none
returns-clause-none c = λ k l. c.settlers.invariant k (omega (arith, l, c.settlers-test.false, c.len-place-end.ensures, c.args.self.now.settlers.ok.0))
