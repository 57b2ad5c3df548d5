use Rattle.std.proofs.Common.{◌^◌, ◌++◌, List, length, map, refl, sym, ap, ◌∙◌, subst, arith, length-append}
use Rattle.std.specs.Prelude.{All}
use Rattle.std.proofs.lemmas.Result.{on_ok_weaker, IfOk-from_err}
use Rattle.std.proofs.lemmas.List.{length-map}
use Rattle.std.proofs.lemmas.List.Elements.{All-weaker}
use Rattle.lhs_alias.specs.declared.segs.Seg.{Seg}
use Rattle.lhs_alias.specs.Segs.{lhs_bits}
use Rattle.lhs_alias.specs.Joined.{HasPlace, place_in, all_bits, widths_of, first_of}
use Rattle.lhs_alias.proofs.Lying.{lhs_bits-lie}
use Rattle.lhs_alias.proofs.Row.{places-of_bits}
use Rattle.event_nets.proofs.Laying.{homes-are}
use Rattle.event_nets.proofs.lay.put_homes.Goals as goal

pub put_places-requires-clause-places : goal.put_places-requires-clause-places
put_places-requires-clause-places c =
    let widths = widths_of c.args.joins.now in
    let starts = c.args.starts.now in
    let firsts = c.in_ok-firsts.firsts in
    let n = length (all_bits widths) in
    let P : List Seg → Type 0 = λ s. All (HasPlace starts (2 ^ 64)) (lhs_bits s) in
    subst P (sym c.segs.ensures)
    (All-weaker (HasPlace starts n) (HasPlace starts (2 ^ 64)) (λ b h. record { wire = h.wire; below = omega (arith, h.below, c.requires.fits) }) (lhs_bits firsts)
    (places-of_bits widths starts (lhs_bits firsts) n c.requires.starts refl (lhs_bits-lie widths firsts c.in_ok-firsts.ensures.lies)))

pub returns-clause-homes : goal.returns-clause-homes
returns-clause-homes c =
    let kept = c.args.joins.now in
    let starts = c.args.starts.now in
    let firsts = c.in_ok-firsts.firsts in
    on_ok_weaker c.put_places.result
    (λ e links s.
    e
    ∙ ap (λ l. c.args.places.now.items ++ map (place_in starts) (lhs_bits l)) c.segs.ensures
    ∙ ap (λ l. c.args.places.now.items ++ l)
    (homes-are kept links s starts c.requires.starts (lhs_bits c.args.of.now) (lhs_bits firsts) (c.in_ok-firsts.ensures.classes links s) (lhs_bits-lie kept.widths firsts c.in_ok-firsts.ensures.lies)))
    c.put_places.ensures

pub returns-clause-len : goal.returns-clause-len
returns-clause-len c =
    let starts = c.args.starts.now in
    let firsts = c.in_ok-firsts.firsts in
    on_ok_weaker c.put_places.result
    (λ e. omega (
      arith,
      ap (λ l. length l) e,
      length-append c.args.places.now.items (map (place_in starts) (lhs_bits c.segs.result.now)),
      length-map (lhs_bits c.segs.result.now) (place_in starts),
      ap (λ l. length (lhs_bits l)) c.segs.ensures,
      ap (λ l. length l) c.in_ok-firsts.ensures.firsts,
      length-map (lhs_bits c.args.of.now) (first_of c.args.joins.now),
    ))
    c.put_places.ensures

pub returns-in_err-firsts-clause-homes : goal.returns-in_err-firsts-clause-homes
returns-in_err-firsts-clause-homes c = IfOk-from_err _ _ c.from_residual.ensures.0

pub returns-in_err-firsts-clause-len : goal.returns-in_err-firsts-clause-len
returns-in_err-firsts-clause-len c = IfOk-from_err _ _ c.from_residual.ensures.0
