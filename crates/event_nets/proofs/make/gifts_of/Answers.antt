use Rattle.std.proofs.lemmas.Result.{IfOk-from_err}
use Rattle.std.proofs.Common.{◌≡◌, ◌<◌, List, sym, ap, ◌∙◌, subst}
use Rattle.std.specs.Prelude.{All, IfOk}
use Rattle.lhs_alias.specs.Joined.{widths_of as joined_widths}
use Rattle.driver_resolve.specs.Drivers.{widths_of}
use Rattle.flat_net.specs.Flats.{links_of}
use Rattle.event_nets.specs.declared.gift.Gift.{Gift}
use Rattle.event_nets.specs.Gifts.{overriding_gifts, left}
use Rattle.event_nets.specs.Tables.{home_of, own_gifts}
use Rattle.event_nets.proofs.Making.{overriding-made, own-below, overriding-below}
use Rattle.event_nets.proofs.make.gifts_of.Goals as goal

pub left-requires-clause-over : goal.left-requires-clause-over
left-requires-clause-over c =
    let flat = c.args.flat.now in
    let links = links_of flat.joins in
    let over = c.args.over.now in
    let made = overriding-made links (joined_widths c.args.joins.now) (widths_of flat.wires) c.as_slice.result.now flat.wires over c.new-overriding.result.items c.give_overridden.new.gifts.items
    c.new-overriding.ensures.items (c.in_ok-give_overridden.ensures links c.requires.stands) c.requires.joins c.as_slice.ensures in
    subst (λ l. All (λ (g : Gift). g.to < c.args.places) l) (sym made)
    (subst (λ n. All (λ (g : Gift). g.to < n) (overriding_gifts (home_of links (widths_of flat.wires)) 0 flat.wires over)) (sym c.requires.places) (overriding-below flat c.requires.flat over))

pub left-requires-clause-gifts : goal.left-requires-clause-gifts
left-requires-clause-gifts c =
    let flat = c.args.flat.now in
    subst (λ l. All (λ (g : Gift). g.to < c.args.places) l) (sym c.in_ok-own.ensures)
    (subst (λ n. All (λ (g : Gift). g.to < n) (own_gifts flat)) (sym c.requires.places) (own-below flat c.requires.flat))

pub returns : goal.returns
returns c =
    let flat = c.args.flat.now in
    let links = links_of flat.joins in
    let over = c.args.over.now in
    let made = overriding-made links (joined_widths c.args.joins.now) (widths_of flat.wires) c.as_slice.result.now flat.wires over c.new-overriding.result.items c.give_overridden.new.gifts.items
    c.new-overriding.ensures.items (c.in_ok-give_overridden.ensures links c.requires.stands) c.requires.joins c.as_slice.ensures in
    subst (λ (l : List Gift). IfOk c.left.result (λ all. all.items ≡ l)) (ap (λ l. left l c.in_ok-own.own.items) made ∙ ap (λ l. left (overriding_gifts (home_of links (widths_of flat.wires)) 0 flat.wires over) l) c.in_ok-own.ensures)
    c.left.ensures

pub returns-in_err-give_overridden : goal.returns-in_err-give_overridden
returns-in_err-give_overridden c = IfOk-from_err _ _ c.from_residual-in_err-give_overridden.ensures.0

pub returns-in_err-own : goal.returns-in_err-own
returns-in_err-own c = IfOk-from_err _ _ c.from_residual.ensures.0
