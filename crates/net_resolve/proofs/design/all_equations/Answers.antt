use Rattle.std.proofs.lemmas.Result.{IfOk-from_err}
use Rattle.std.proofs.Common.{◌≡◌, ℕ, ◌<◌, List, Vec, Global, length, map, sym, ap, ◌∙◌, subst, rules}
use Rattle.std.specs.Prelude.{All, Option, slice_index}
use Rattle.std.proofs.lemmas.List.{length-map}
use Rattle.driver_resolve.specs.declared.driver.NetEq.{NetEq}
use Rattle.driver_resolve.specs.Drivers.{widths_of}
use Rattle.event_nets.specs.declared.gift.Gift.{Gift}
use Rattle.event_nets.specs.Needs.{gift_rows}
use Rattle.event_nets.specs.Tables.{AreTables}
use Rattle.net_resolve.specs.Pieces.{AreMade}
use Rattle.net_resolve.specs.Laid.{AreEquations}
use Rattle.net_resolve.proofs.Solving.{gifts-below, nets-below, laid-rows, laid-segs, laid-given, laid-equations, if_both}
use Rattle.net_resolve.proofs.design.all_equations.Goals as goal

pub by_class-requires : goal.by_class-requires
by_class-requires c =
    let tables = c.args.tables.now in
    let len : c.len.result ≡ length tables.homes.items = search rules in
    subst (λ (n : ℕ). All (λ (g : Gift). g.to < n) c.deref.result.now) (sym len)
    (subst (λ (l : List Gift). All (λ (g : Gift). g.to < length tables.homes.items) l) (sym c.deref.ensures.value) (gifts-below c.args.flat.now c.requires.flat c.requires.tables.0 tables c.requires.tables.1))

pub run_segs-requires-clause-runs : goal.run_segs-requires-clause-runs
run_segs-requires-clause-runs c =
    let tables = c.args.tables.now in
    subst (λ (l : List ℕ). (i : ℕ) → i < length l → slice_index l i < length c.deref-2.result.now) (sym c.deref-3.ensures.value)
    (subst (λ (l : List (Option ℕ)). (i : ℕ) → i < length tables.nets.items → slice_index tables.nets.items i < length l) (sym c.deref-2.ensures.value)
    (nets-below c.args.flat.now c.requires.tables.0 tables c.requires.tables.1))

pub equations-requires-clause-runs : goal.equations-requires-clause-runs
equations-requires-clause-runs c =
    let flat = c.args.flat.now in
    let tables = c.args.tables.now in
    let over = c.requires.tables.0 in
    let t = c.requires.tables.1 in
    let vecs = c.in_ok-classes.classes.rows.items in
    let len : c.len.result ≡ length tables.homes.items = search rules in
    let long = length-map vecs (λ (v : Vec Gift Global). v.items) ∙ c.in_ok-classes.ensures.len ∙ len in
    laid-given flat c.requires.flat over tables (gift_rows vecs) (gift_rows c.deref-4.result.now) c.in_ok-segs.segs.items c.deref-6.result.now c.deref-5.result.now c.as_slice.result.now t long
    (laid-rows flat over tables (gift_rows vecs) c.len.result c.deref.result.now t len c.deref.ensures.value c.in_ok-classes.ensures.rows)
    (laid-segs flat over tables c.args.bits.now c.deref-2.result.now c.deref-3.result.now c.in_ok-segs.segs.items t c.requires.bits c.deref-2.ensures.value c.deref-3.ensures.value c.in_ok-segs.ensures)
    c.as_slice.ensures (ap (λ (l : List (Vec Gift Global)). gift_rows l) c.deref-4.ensures.value) c.deref-5.ensures.value c.deref-6.ensures.value

pub returns-clause-eqs : goal.returns-clause-eqs
returns-clause-eqs c =
    let flat = c.args.flat.now in
    let tables = c.args.tables.now in
    let new = c.equations.new.arena in
    let vecs = c.in_ok-classes.classes.rows.items in
    let len : c.len.result ≡ length tables.homes.items = search rules in
    if_both _ (λ eqs. map (λ (x : NetEq). x.seg) eqs.items ≡ c.deref-6.result.now)
    (λ eqs. AreMade (widths_of c.as_slice.result.now) flat.arena (gift_rows c.deref-4.result.now) c.deref-5.result.now c.deref-6.result.now new (map (λ (x : NetEq). x.value) eqs.items))
    (λ eqs. (over : List ℕ) → AreTables flat over tables → AreEquations flat over new eqs.items) c.equations.ensures.segs c.equations.ensures.made
    (λ eqs q m over t.
    laid-equations flat over tables (gift_rows vecs) (gift_rows c.deref-4.result.now) c.in_ok-segs.segs.items c.deref-6.result.now c.deref-5.result.now c.as_slice.result.now new eqs.items t
    (laid-rows flat over tables (gift_rows vecs) c.len.result c.deref.result.now t len c.deref.ensures.value c.in_ok-classes.ensures.rows)
    (laid-segs flat over tables c.args.bits.now c.deref-2.result.now c.deref-3.result.now c.in_ok-segs.segs.items t c.requires.bits c.deref-2.ensures.value c.deref-3.ensures.value c.in_ok-segs.ensures)
    c.as_slice.ensures (ap (λ (l : List (Vec Gift Global)). gift_rows l) c.deref-4.ensures.value) c.deref-5.ensures.value c.deref-6.ensures.value q m)

pub returns-in_err-classes-clause-eqs : goal.returns-in_err-classes-clause-eqs
returns-in_err-classes-clause-eqs c = IfOk-from_err _ _ c.from_residual.ensures.0

pub returns-in_err-segs-clause-eqs : goal.returns-in_err-segs-clause-eqs
returns-in_err-segs-clause-eqs c = IfOk-from_err _ _ c.from_residual-in_err-segs.ensures.0
