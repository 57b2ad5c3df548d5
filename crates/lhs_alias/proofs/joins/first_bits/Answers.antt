use Rattle.std.proofs.lemmas.Result.{IfOk-from_err}
use Rattle.std.proofs.Common.{◌≡◌, ◌<◌, [], length, append_assoc, List, subst, arith, get_or, map, ◌++◌, ◌∷◌, refl, sym, ap, ◌∙◌}
use Rattle.std.specs.Prelude.{All, Contains}
use Rattle.std.proofs.lemmas.List.Elements.{All-push, Contains-get_or}
use Rattle.lhs_alias.specs.declared.segs.WireBit.{WireBit}
use Rattle.lhs_alias.specs.Segs.{bit}
use Rattle.lhs_alias.specs.Joined.{first_bit}
use Rattle.lhs_alias.proofs.Row.{places-rest, place-next}
use Rattle.lhs_alias.proofs.joins.first_bits.Goals as goal

pub loop-bit-preserved : goal.loop-bit-preserved
unfolding first_bit
loop-bit-preserved c =
    let starts = c.args.starts.now in
    let rest = c.next_bit.new.self in
    let found = first_bit c.args.bits.now starts c.args.forest.now in
    let firsts = c.loop-bit.firsts.items in
    let first : get_or c.args.bits.now c.first_of.result (bit 0 0) ≡ found c.in-Some.bit =
    ap (λ r. get_or c.args.bits.now r (bit 0 0)) (c.first_of.ensures.value ∙ ap (λ p. get_or c.args.forest.now p 0) c.place.ensures) in
    record {
      firsts =
          ap (λ s. s ++ map found rest) (c.in_ok-push.ensures.items ∙ ap (λ b. firsts ++ b ∷ []) first)
          ∙ append_assoc firsts (found c.in-Some.bit ∷ []) (map found rest)
          ∙ ap (λ s. firsts ++ map found s) (sym c.in-Some.ensures)
          ∙ c.loop-bit.invariant.firsts;
      known =
          let P : List WireBit → Type 0 = All (Contains c.args.bits.now) in
          subst P (sym c.in_ok-push.ensures.items)
          (All-push (Contains c.args.bits.now) firsts _ c.loop-bit.invariant.known
          (Contains-get_or c.args.bits.now c.first_of.result (bit 0 0) (omega (arith, c.first_of.ensures.within, c.requires.as_many))));
      places = places-rest starts _ _ c.in-Some.bit rest c.loop-bit.rest c.in-Some.ensures refl c.loop-bit.invariant.places;
    }

pub returns-in_err-push-clause-firsts : goal.returns-in_err-push-clause-firsts
returns-in_err-push-clause-firsts c = IfOk-from_err _ _ c.from_residual.ensures.0

pub returns-in_err-push-clause-known : goal.returns-in_err-push-clause-known
returns-in_err-push-clause-known c = IfOk-from_err _ _ c.from_residual.ensures.0

pub place-requires-clause-wire : goal.place-requires-clause-wire
place-requires-clause-wire c =
    let next = place-next c.args.starts.now _ c.in-Some.bit c.next_bit.new.self c.loop-bit.rest c.in-Some.ensures c.loop-bit.invariant.places in
    next.wire

pub place-requires-clause-fits : goal.place-requires-clause-fits
place-requires-clause-fits c =
    let next = place-next c.args.starts.now _ c.in-Some.bit c.next_bit.new.self c.loop-bit.rest c.in-Some.ensures c.loop-bit.invariant.places in
    omega (arith, next.below, c.requires.fits)

pub first_of-requires : goal.first_of-requires
first_of-requires c =
    let next = place-next c.args.starts.now _ c.in-Some.bit c.next_bit.new.self c.loop-bit.rest c.in-Some.ensures c.loop-bit.invariant.places in
    omega (arith, next.below, c.place.ensures)
