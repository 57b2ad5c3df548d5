use Rattle.std.proofs.lemmas.Result.{IfOk-from_err}
use Rattle.std.proofs.Common.{◌≡◌, ℕ, List, length, sym, ap, ◌∙◌, subst, sum, arith}
use Rattle.std.specs.Prelude.{Option, IfOk}
use Rattle.std.proofs.lemmas.List.{length-map}
use Rattle.lhs_alias.specs.Joined.{all_bits}
use Rattle.lhs_alias.proofs.Row.{length-all_bits}
use Rattle.driver_resolve.specs.Drivers.{widths_of}
use Rattle.flat_net.specs.Flats.{links_of}
use Rattle.event_nets.specs.Runs.{net_test, lows_in}
use Rattle.event_nets.specs.Tables.{home_of, lows_of}
use Rattle.event_nets.proofs.FlatNets.{AreNetTables, lows-are}
use Rattle.event_nets.proofs.make.lows_of.Goals as goal

pub all_lows-requires-clause-homes : goal.all_lows-requires-clause-homes
all_lows-requires-clause-homes c =
    let flat = c.args.flat.now in
    let widths = widths_of flat.wires in
    ap (λ l. length l) c.requires.homes ∙ length-map (all_bits widths) (home_of (links_of flat.joins) widths) ∙ length-all_bits widths ∙ ap (λ ws. sum ws) (sym c.requires.widths)

pub all_lows-requires-clause-driven : goal.all_lows-requires-clause-driven
all_lows-requires-clause-driven c =
    let flat = c.args.flat.now in
    let widths = widths_of flat.wires in
    ap (λ l. length l) c.deref.ensures.value ∙ c.in_ok-driven.ensures.len
    ∙ ap (λ l. length l) c.requires.homes ∙ length-map (all_bits widths) (home_of (links_of flat.joins) widths) ∙ length-all_bits widths ∙ ap (λ ws. sum ws) (sym c.requires.widths)

pub returns : goal.returns
returns c = λ over gifts.
    let flat = c.args.flat.now in
    let widths = widths_of flat.wires in
    let long : length c.args.homes.now ≡ length (all_bits widths) = ap (λ l. length l) c.requires.homes ∙ length-map (all_bits widths) (home_of (links_of flat.joins) widths) in
    let told : AreNetTables flat over c.args.homes.now c.in_ok-driven.driven.items c.args.gifts.now = record {
      homes_are = c.requires.homes;
      gifts_are = gifts;
      driven_are = λ place lt. c.in_ok-driven.ensures.driven place (omega (arith, lt, long));
    } in
    let same : lows_in (net_test c.args.homes.now c.deref.result.now) c.args.widths.now ≡ lows_of flat over =
    ap (λ l. lows_in (net_test c.args.homes.now l) c.args.widths.now) c.deref.ensures.value
    ∙ ap (λ ws. lows_in (net_test c.args.homes.now c.in_ok-driven.driven.items) ws) c.requires.widths
    ∙ lows-are flat c.requires.flat over c.args.homes.now c.in_ok-driven.driven.items c.args.gifts.now told in
    subst (λ (l : List (Option ℕ)). IfOk c.all_lows.result (λ lows. lows.items ≡ l)) same c.all_lows.ensures

pub returns-in_err-driven : goal.returns-in_err-driven
returns-in_err-driven c = λ over gifts. IfOk-from_err _ _ c.from_residual.ensures.0
