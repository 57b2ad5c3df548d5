use Rattle.std.proofs.Common.{◌≡◌, ◌<◌, ℕ, ◌+◌, List, [], ◌∷◌, length, map, get_or, sym, ap, ◌∙◌, subst, arith}
use Rattle.std.proofs.lemmas.List.{get_or_default, length-map}
use Rattle.driver_resolve.specs.Drivers.{widths_of, wire_bits}
use Rattle.flat_net.specs.Flats.{links_of}
use Rattle.settling.specs.Settling.{first_bit}
use Rattle.event_nets.proofs.Making.{wires-narrow}
use Rattle.lhs_alias.specs.Lies.{LieIn}
use Rattle.lhs_alias.specs.declared.segs.Seg.{Seg}
use Rattle.sv_outside.specs.declared.text.Signal.{Signal}
use Rattle.phase_fsm.specs.Firsts.{HaveFirsts}
use Rattle.phase_fsm.proofs.Standing.{firsts-more, whole-lies, whole-of}
use Rattle.phase_fsm.proofs.firsts.firsts_of.Goals as goal

pub firsts_in-requires : goal.firsts_in-requires
firsts_in-requires c =
    let wires = c.args.flat.now.wires in
    let at = c.wires.at in
    let width = c.index.result.now in
    let widths : c.in_ok-widths.widths.items ≡ widths_of wires = c.in_ok-widths.ensures ∙ ap (λ (ws : List Signal). widths_of ws) c.as_slice.ensures in
    let here : at < length c.in_ok-widths.widths.items = omega (arith, c.wires-test.true, c.len-at-end.ensures) in
    let is : get_or (widths_of wires) at 0 ≡ width = ap (λ (ws : List ℕ). get_or ws at 0) (sym widths) ∙ get_or_default c.in_ok-widths.widths.items at 0 width here ∙ sym c.index.ensures in
    let there : at < length (widths_of wires) = omega (arith, here, ap (λ (ws : List ℕ). length ws) widths) in
    let narrow = wires-narrow wires c.requires.wires at 0 there in
    record {
      whole = subst (λ (ws : List ℕ). LieIn ws (whole-of at width ∷ [])) (sym c.in_ok-joins.ensures.widths) (whole-lies (widths_of wires) at width there is (omega (arith, narrow.0, is)) (omega (arith, narrow.1, is)));
    }

pub wires-preserved : goal.wires-preserved
wires-preserved c =
    let flat = c.args.flat.now in
    let at = c.wires.at in
    let widths : c.in_ok-widths.widths.items ≡ widths_of flat.wires = c.in_ok-widths.ensures ∙ ap (λ (ws : List Signal). widths_of ws) c.as_slice.ensures in
    let width = c.index.result.now in
    let here : at < length c.in_ok-widths.widths.items = omega (arith, c.wires-test.true, c.len-at-end.ensures) in
    let is : width ≡ get_or (widths_of flat.wires) at 0 = c.index.ensures ∙ get_or_default c.in_ok-widths.widths.items at width 0 here ∙ ap (λ (ws : List ℕ). get_or ws at 0) widths in
    subst (λ (all : List (List Seg)). HaveFirsts flat all (at + 1)) (sym c.in_ok-push.ensures.ok)
    (firsts-more flat c.wires.firsts c.in_ok-own.own at c.wires.invariant
    (c.in_ok-own.ensures.bits (links_of flat.joins) c.in_ok-joins.ensures.stands ∙ ap (λ (w : ℕ). map (first_bit (links_of flat.joins)) (wire_bits at w)) is)
    (subst (λ (ws : List ℕ). LieIn ws c.in_ok-own.own) c.in_ok-joins.ensures.widths c.in_ok-own.ensures.lie))

pub returns : goal.returns
returns c =
    let flat = c.args.flat.now in
    let widths : c.in_ok-widths.widths.items ≡ widths_of flat.wires = c.in_ok-widths.ensures ∙ ap (λ (ws : List Signal). widths_of ws) c.as_slice.ensures in
    let many : length c.in_ok-widths.widths.items ≡ length flat.wires = ap (λ (ws : List ℕ). length ws) widths ∙ length-map flat.wires (λ (s : Signal). s.width) in
    let end : c.wires.at ≡ length flat.wires = omega (arith, c.wires-test.false, c.wires.auto.at-end, c.len-at-end.ensures, many) in
    subst (HaveFirsts flat c.wires.firsts) end c.wires.invariant
