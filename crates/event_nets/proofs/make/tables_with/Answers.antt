use Rattle.std.proofs.lemmas.Result.{IfOk-from_err}
use Rattle.std.proofs.Common.{◌≡◌, ◌<◌, length, ap, ◌∙◌, subst, sym, arith}
use Rattle.std.specs.Prelude.{All, IfSome, None, Option, List, ℕ, filter, slice_index_or}
use Rattle.std.specs.List.{range_with_len}
use Rattle.std.proofs.lemmas.List.{length-map}
use Rattle.lhs_alias.specs.Joined.{all_bits, place_of}
use Rattle.driver_resolve.specs.Drivers.{widths_of}
use Rattle.event_nets.specs.declared.gift.Gift.{Gift}
use Rattle.event_nets.specs.Needs.{given_to}
use Rattle.event_nets.specs.Nets.{low_of}
use Rattle.event_nets.specs.Runs.{begins}
use Rattle.event_nets.proofs.FlatNets.{nets-are}
use Rattle.event_nets.proofs.make.tables_with.Goals as goal

pub given_by_net-requires-clause-gifts : goal.given_by_net-requires-clause-gifts
given_by_net-requires-clause-gifts c =
    subst (λ l. All (λ (g : Gift). g.to < length c.deref-2.result.now) l) (sym c.deref-3.ensures.value)
    (subst (λ (l : List (Option ℕ)). All (λ (g : Gift). g.to < length l) c.args.gifts.items) (sym c.deref-2.ensures.value) c.requires.gifts)

pub given_by_net-requires-clause-lows : goal.given_by_net-requires-clause-lows
given_by_net-requires-clause-lows c = λ k. subst (λ (l : List (Option ℕ)). IfSome (slice_index_or l k None) (λ low. low < length l)) (sym c.deref-2.ensures.value) (c.requires.lows k)

pub returns : goal.returns
returns c = λ flat over starts homes lows gifts.
    let bits = all_bits (widths_of flat.wires) in
    let long : length c.deref-2.result.now ≡ length bits = ap (λ l. length l) (c.deref-2.ensures.value ∙ lows) ∙ length-map bits (low_of (place_of (widths_of flat.wires)) flat over) in
    let given_each : length c.in_ok-given.given.items ≡ length bits = c.in_ok-given.ensures.len ∙ long in
    record {
      starts = starts;
      homes = homes;
      gifts = gifts;
      lows = lows;
      nets = c.in_ok-nets.ensures ∙ ap (λ l. filter (begins l) (range_with_len 0 (length l))) c.deref.ensures.value ∙ nets-are flat over c.args.lows.items lows;
      given_each = given_each;
      given = λ low lt. c.in_ok-given.ensures.given low (omega (arith, lt, long))
          ∙ ap (λ l. given_to l c.deref-3.result.now low) c.deref-2.ensures.value
          ∙ ap (λ l. given_to c.args.lows.items l low) c.deref-3.ensures.value;
    }

pub returns-in_err-nets : goal.returns-in_err-nets
returns-in_err-nets c = λ flat over starts homes lows gifts. IfOk-from_err _ _ c.from_residual.ensures.0

pub returns-in_err-given : goal.returns-in_err-given
returns-in_err-given c = λ flat over starts homes lows gifts. IfOk-from_err _ _ c.from_residual-in_err-given.ensures.0
