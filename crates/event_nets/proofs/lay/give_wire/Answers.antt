use Rattle.std.proofs.Common.{◌++◌, [], cond, length, sym, ap, ◌∙◌, arith}
use Rattle.std.proofs.lemmas.Result.{on_ok_weaker, IfOk-from_err}
use Rattle.lhs_alias.specs.Segs.{lhs_bits}
use Rattle.lhs_alias.specs.Joined.{widths_of}
use Rattle.driver_resolve.specs.Drivers.{wire_bits}
use Rattle.event_nets.specs.declared.gift.Source.TheVariants.{Stimulus}
use Rattle.event_nets.specs.Gifts.{gifts_to}
use Rattle.event_nets.specs.Tables.{home_of}
use Rattle.event_nets.proofs.Laying.{whole-bits, length-whole, whole-narrow}
use Rattle.event_nets.proofs.lay.give_wire.Goals as goal

pub give-requires-clause-narrow : goal.give-requires-clause-narrow
give-requires-clause-narrow c =
    omega (arith, ap (λ w. length (lhs_bits w)) c.in_ok-whole.ensures, length-whole c.args.wire c.args.signal.now.width, whole-narrow (widths_of c.args.joins.now) c.args.wire c.args.signal.now.width c.requires.lies)

pub returns-in_ok-whole : goal.returns-in_ok-whole
returns-in_ok-whole c =
    on_ok_weaker c.give.result
    (λ e links s.
    let home = home_of links (widths_of c.args.joins.now) in
    let old = c.args.gifts.now.items in
    let width = c.args.signal.now.width in
    e links s
    ∙ ap (λ w. old ++ gifts_to home (Stimulus c.args.wire) 0 (lhs_bits w)) c.in_ok-whole.ensures
    ∙ ap (λ l. old ++ gifts_to home (Stimulus c.args.wire) 0 l) (whole-bits c.args.wire width)
    ∙ ap (λ t. old ++ cond t (gifts_to home (Stimulus c.args.wire) 0 (wire_bits c.args.wire width)) []) (sym c.if-counts.true))
    c.give.ensures

pub returns-in_err-whole : goal.returns-in_err-whole
returns-in_err-whole c = IfOk-from_err _ _ c.from_residual.ensures.0
