use Rattle.std.proofs.Common.{false, set, sym, ap, ◌∙◌}
use Rattle.std.proofs.lemmas.List.{length-set}
use Rattle.lhs_alias.specs.Joined.{marked}
use Rattle.lhs_alias.proofs.Row.{places-rest}
use Rattle.lhs_alias.proofs.joins.clear_all.Goals as goal

pub loop-bit-preserved : goal.loop-bit-preserved
unfolding marked
loop-bit-preserved c =
    let starts = c.args.starts.now in
    let joined = c.loop-bit.joined in
    let rest = c.next_bit.new.self in
    record {
      marks = ap (λ p. marked starts false (set joined p false) rest) c.place.ensures
          ∙ ap (λ s. marked starts false joined s) (sym c.in-Some.ensures)
          ∙ c.loop-bit.invariant.marks;
      places = places-rest starts _ _ c.in-Some.bit rest c.loop-bit.bits c.in-Some.ensures (sym (length-set joined c.place.result false)) c.loop-bit.invariant.places;
    }
