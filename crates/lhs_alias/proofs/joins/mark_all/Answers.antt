use Rattle.std.proofs.Common.{true, false, not, ◌&&◌, set, get_or, sym, ap, ◌∙◌}
use Rattle.std.proofs.lemmas.List.{length-set}
use Rattle.std.proofs.Math.Bool.{and_assoc}
use Rattle.lhs_alias.specs.Joined.{is_marked, marked, are_free}
use Rattle.lhs_alias.proofs.Row.{places-rest}
use Rattle.lhs_alias.proofs.joins.mark_all.Goals as goal

pub loop-bit-preserved : goal.loop-bit-preserved
unfolding is_marked marked are_free
loop-bit-preserved c =
    let starts = c.args.starts.now in
    let joined = c.loop-bit.joined in
    let rest = c.next_bit.new.self in
    record {
      marks = ap (λ p. marked starts true (set joined p true) rest) c.place-at.ensures
          ∙ ap (λ s. marked starts true joined s) (sym c.in-Some.ensures)
          ∙ c.loop-bit.invariant.marks;
      free =
          ap (λ p. (c.loop-bit.free && not (get_or joined p false)) && are_free starts (set joined p true) rest) c.place-at.ensures
          ∙ and_assoc c.loop-bit.free (not (is_marked starts joined c.in-Some.bit)) _
          ∙ ap (λ s. c.loop-bit.free && are_free starts joined s) (sym c.in-Some.ensures)
          ∙ c.loop-bit.invariant.free;
      places = places-rest starts _ _ c.in-Some.bit rest c.loop-bit.bits c.in-Some.ensures (sym (length-set joined c.place-at.result true)) c.loop-bit.invariant.places;
    }
