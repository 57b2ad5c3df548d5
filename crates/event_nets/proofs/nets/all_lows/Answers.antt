use Rattle.std.proofs.lemmas.Result.{IfOk-from_err}
use Rattle.std.proofs.Common.{◌≡◌, ℕ, ◌++◌, length, get_or, map, take, ap, ◌∙◌, arith}
use Rattle.std.specs.Prelude.{Option}
use Rattle.std.specs.List.{range_with_len}
use Rattle.std.proofs.lemmas.List.{length-map, take_all}
use Rattle.lhs_alias.specs.declared.segs.WireBit.{WireBit}
use Rattle.lhs_alias.specs.Segs.{bit}
use Rattle.lhs_alias.specs.Joined.{place_of, all_bits, bits_from}
use Rattle.lhs_alias.proofs.Row.{length-all_bits}
use Rattle.event_nets.specs.Runs.{net_test, low_in}
use Rattle.event_nets.proofs.NetPlaces.{sum-part, lows-more}
use Rattle.event_nets.proofs.nets.all_lows.Goals as goal

pub loop-wire-init : goal.loop-wire-init
unfolding all_bits bits_from
loop-wire-init c = c.new-lows.ensures.items

pub loop-wire-preserved : goal.loop-wire-preserved
loop-wire-preserved c =
    let widths = c.args.widths.now in
    let i = c.loop-wire.wire in
    let net = net_test c.args.homes.now c.args.driven.now in
    let low : WireBit → Option ℕ = λ b. low_in net (place_of widths (bit b.wire 0)) b.at in
    let front = all_bits (take i widths) in
    let old = c.loop-wire.lows.items in
    let long : length old ≡ length front = ap (λ l. length l) c.loop-wire.invariant ∙ length-map front low in
    c.in_ok-put_lows.ensures
    ∙ ap (λ n. old ++ map (low_in net n) (range_with_len 0 (get_or widths i 0))) long
    ∙ ap (λ l. l ++ map (low_in net (length front)) (range_with_len 0 (get_or widths i 0))) c.loop-wire.invariant
    ∙ lows-more net widths i (omega arith)

pub put_lows-requires-clause-homes : goal.put_lows-requires-clause-homes
put_lows-requires-clause-homes c =
    let widths = c.args.widths.now in
    let i = c.loop-wire.wire in
    let low : WireBit → Option ℕ = λ b. low_in (net_test c.args.homes.now c.args.driven.now) (place_of widths (bit b.wire 0)) b.at in
    let long : length c.loop-wire.lows.items ≡ length (all_bits (take i widths)) = ap (λ l. length l) c.loop-wire.invariant ∙ length-map (all_bits (take i widths)) low in
    omega (arith, long, length-all_bits (take i widths), sum-part widths i (omega arith), c.requires.homes)

pub put_lows-requires-clause-driven : goal.put_lows-requires-clause-driven
put_lows-requires-clause-driven c =
    let widths = c.args.widths.now in
    let i = c.loop-wire.wire in
    let low : WireBit → Option ℕ = λ b. low_in (net_test c.args.homes.now c.args.driven.now) (place_of widths (bit b.wire 0)) b.at in
    let long : length c.loop-wire.lows.items ≡ length (all_bits (take i widths)) = ap (λ l. length l) c.loop-wire.invariant ∙ length-map (all_bits (take i widths)) low in
    omega (arith, long, length-all_bits (take i widths), sum-part widths i (omega arith), c.requires.driven)

pub returns-in_err-put_lows : goal.returns-in_err-put_lows
returns-in_err-put_lows c = IfOk-from_err _ _ c.from_residual.ensures.0

pub bounds-widths-wire : goal.bounds-widths-wire
bounds-widths-wire c = c.loop-wire-test.true

pub returns : goal.returns
returns c = c.loop-wire.invariant
    ∙ ap (λ ws. map (λ (b : WireBit). low_in (net_test c.args.homes.now c.args.driven.now) (place_of c.args.widths.now (bit b.wire 0)) b.at) (all_bits ws)) (take_all c.loop-wire.wire c.args.widths.now c.loop-wire-test.false)
