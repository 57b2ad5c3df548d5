use Rattle.std.proofs.lemmas.Result.{IfOk-from_err}
use Rattle.std.proofs.Common.{ℕ, List, sym, subst}
use Rattle.std.specs.Prelude.{All}
use Rattle.lhs_alias.specs.Joined.{widths_of as joined_widths}
use Rattle.driver_resolve.specs.declared.driver.Driver.{Driver}
use Rattle.driver_resolve.specs.Drivers.{widths_of}
use Rattle.flat_net.specs.Flats.{links_of}
use Rattle.event_nets.specs.Gifts.{HasTarget}
use Rattle.event_nets.proofs.Making.{gifts-made, targets-narrow}
use Rattle.event_nets.proofs.make.own_gifts.Goals as goal

pub give_drivers-requires-clause-drivers : goal.give_drivers-requires-clause-drivers
give_drivers-requires-clause-drivers c =
    let flat = c.args.flat.now in
    subst (λ (ws : List ℕ). All (HasTarget ws) c.as_slice.result.now) (sym c.requires.joins)
    (subst (λ (ds : List Driver). All (HasTarget (widths_of flat.wires)) ds) (sym c.as_slice.ensures) (targets-narrow flat c.len.ensures.arena c.requires.flat))

pub returns : goal.returns
returns c =
    let flat = c.args.flat.now in
    let links = links_of flat.joins in
    gifts-made links (joined_widths c.args.joins.now) (widths_of flat.wires) c.as_slice.result.now flat.drivers c.as_slice-2.result.now flat.wires
    c.new-gifts.result.items c.give_drivers.new.gifts.items c.give_inputs.new.gifts.items
    c.new-gifts.ensures.items (c.in_ok-give_drivers.ensures links c.requires.stands) (c.in_ok-give_inputs.ensures links c.requires.stands) c.requires.joins c.as_slice.ensures c.as_slice-2.ensures

pub returns-in_err-give_drivers : goal.returns-in_err-give_drivers
returns-in_err-give_drivers c = IfOk-from_err _ _ c.from_residual.ensures.0

pub returns-in_err-give_inputs : goal.returns-in_err-give_inputs
returns-in_err-give_inputs c = IfOk-from_err _ _ c.from_residual-in_err-give_inputs.ensures.0
