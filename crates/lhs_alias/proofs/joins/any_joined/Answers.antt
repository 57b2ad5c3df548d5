use Rattle.std.proofs.Common.{◌≡◌, false, ◌||◌, get_or, refl, sym, ap, ◌∙◌}
use Rattle.std.specs.List.{list_any}
use Rattle.lhs_alias.specs.Joined.{is_marked}
use Rattle.lhs_alias.proofs.Row.{places-rest}
use Rattle.lhs_alias.proofs.joins.any_joined.Goals as goal

pub loop-bit-preserved : goal.loop-bit-preserved
unfolding is_marked
loop-bit-preserved c =
    let starts = c.args.starts.now in
    let joined = c.args.joined.now in
    let rest = c.next_bit.new.self in
    let free : is_marked starts joined c.in-Some.bit ≡ false = ap (λ p. get_or joined p false) (sym c.place.ensures) ∙ c.if-joined-place.false in
    record {
      same = sym (ap (λ s. list_any (is_marked starts joined) s) c.in-Some.ensures ∙ ap (λ t. t || list_any (is_marked starts joined) rest) free) ∙ c.loop-bit.invariant.same;
      places = places-rest starts _ _ c.in-Some.bit rest c.loop-bit.bits c.in-Some.ensures refl c.loop-bit.invariant.places;
    }
