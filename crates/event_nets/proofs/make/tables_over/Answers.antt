use Rattle.std.proofs.lemmas.Result.{IfOk-from_err}
use Rattle.std.proofs.Common.{◌≡◌, ℕ, ◌<◌, ◌≤◌, List, length, get_or, map, sym, ap, ◌∙◌, subst, arith}
use Rattle.std.specs.Prelude.{All, Option, None, IfSome}
use Rattle.std.proofs.lemmas.List.{length-map}
use Rattle.lhs_alias.specs.Joined.{all_bits, place_of}
use Rattle.driver_resolve.specs.Drivers.{widths_of}
use Rattle.flat_net.specs.Flats.{links_of}
use Rattle.event_nets.specs.declared.gift.Gift.{Gift}
use Rattle.event_nets.specs.Nets.{low_of}
use Rattle.event_nets.specs.Tables.{home_of, homes_of, gifts_of}
use Rattle.event_nets.proofs.Making.{wires-narrow, all-below}
use Rattle.event_nets.proofs.Needed.{lows-inside}
use Rattle.event_nets.proofs.make.tables_over.Goals as goal

pub all_homes-requires-clause-widths : goal.all_homes-requires-clause-widths
all_homes-requires-clause-widths c =
    let P : List ℕ → Type 0 = All (λ width. (1 ≤ width) × (width ≤ 128)) in
    subst P (sym c.requires.widths) (wires-narrow c.args.flat.now.wires c.requires.flat.wires)

pub lows_of-requires-clause-homes : goal.lows_of-requires-clause-homes
lows_of-requires-clause-homes c =
    let links = links_of c.args.flat.now.joins in
    c.deref-3.ensures.value ∙ c.in_ok-homes.ensures links c.requires.stands ∙ ap (λ ws. map (home_of links ws) (all_bits ws)) c.requires.widths

pub lows_of-requires-clause-gifts : goal.lows_of-requires-clause-gifts
lows_of-requires-clause-gifts c =
    let flat = c.args.flat.now in
    let links = links_of flat.joins in
    let widths = widths_of flat.wires in
    let homes : c.deref-3.result.now ≡ homes_of flat = c.deref-3.ensures.value ∙ c.in_ok-homes.ensures links c.requires.stands ∙ ap (λ ws. map (home_of links ws) (all_bits ws)) c.requires.widths in
    let long : length (all_bits widths) ≡ length c.deref-3.result.now = sym (ap (λ l. length l) homes ∙ length-map (all_bits widths) (home_of links widths)) in
    subst (λ l. All (λ (g : Gift). g.to < length c.deref-3.result.now) l) (sym (c.deref-4.ensures.value ∙ c.in_ok-gifts.ensures))
    (subst (λ n. All (λ (g : Gift). g.to < n) (gifts_of flat c.args.over.now)) long (all-below flat c.requires.flat c.args.over.now))

pub gifts_of-requires-clause-places : goal.gifts_of-requires-clause-places
gifts_of-requires-clause-places c =
    let flat = c.args.flat.now in
    let links = links_of flat.joins in
    let widths = widths_of flat.wires in
    let homes : c.in_ok-homes.homes.items ≡ homes_of flat = c.in_ok-homes.ensures links c.requires.stands ∙ ap (λ ws. map (home_of links ws) (all_bits ws)) c.requires.widths in
    omega (arith, c.len.ensures, c.in_ok-homes.homes.ok.0, ap (λ l. length l) homes, length-map (all_bits widths) (home_of links widths))

pub tables_with-requires-clause-gifts : goal.tables_with-requires-clause-gifts
tables_with-requires-clause-gifts c =
    let flat = c.args.flat.now in
    let bits = all_bits (widths_of flat.wires) in
    let long : length bits ≡ length c.in_ok-lows.lows.items = sym (ap (λ l. length l) (c.in_ok-lows.ensures c.args.over.now (c.deref-4.ensures.value ∙ c.in_ok-gifts.ensures)) ∙ length-map bits (low_of (place_of (widths_of flat.wires)) flat c.args.over.now)) in
    subst (λ l. All (λ (g : Gift). g.to < length c.in_ok-lows.lows.items) l) (sym c.in_ok-gifts.ensures)
    (subst (λ n. All (λ (g : Gift). g.to < n) (gifts_of flat c.args.over.now)) long (all-below flat c.requires.flat c.args.over.now))

pub tables_with-requires-clause-lows : goal.tables_with-requires-clause-lows
tables_with-requires-clause-lows c = λ k.
    let flat = c.args.flat.now in
    let bits = all_bits (widths_of flat.wires) in
    let long : length bits ≡ length c.in_ok-lows.lows.items = sym (ap (λ l. length l) (c.in_ok-lows.ensures c.args.over.now (c.deref-4.ensures.value ∙ c.in_ok-gifts.ensures)) ∙ length-map bits (low_of (place_of (widths_of flat.wires)) flat c.args.over.now)) in
    subst (λ (n : ℕ). IfSome (get_or c.in_ok-lows.lows.items k None) (λ low. low < n)) long
    (subst (λ (l : List (Option ℕ)). IfSome (get_or l k None) (λ low. low < length bits)) (sym (c.in_ok-lows.ensures c.args.over.now (c.deref-4.ensures.value ∙ c.in_ok-gifts.ensures))) (lows-inside flat c.args.over.now k))

pub returns : goal.returns
returns c =
    let links = links_of c.args.flat.now.joins in
    c.tables_with.ensures c.args.flat.now c.args.over.now c.requires.starts (c.in_ok-homes.ensures links c.requires.stands ∙ ap (λ ws. map (home_of links ws) (all_bits ws)) c.requires.widths) (c.in_ok-lows.ensures c.args.over.now (c.deref-4.ensures.value ∙ c.in_ok-gifts.ensures)) c.in_ok-gifts.ensures

pub returns-in_err-gifts : goal.returns-in_err-gifts
returns-in_err-gifts c = IfOk-from_err _ _ c.from_residual-in_err-gifts.ensures.0

pub returns-in_err-homes : goal.returns-in_err-homes
returns-in_err-homes c = IfOk-from_err _ _ c.from_residual.ensures.0

pub returns-in_err-lows : goal.returns-in_err-lows
returns-in_err-lows c = IfOk-from_err _ _ c.from_residual-in_err-lows.ensures.0
