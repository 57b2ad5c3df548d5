use Rattle.std.proofs.Common.{false, sym, ap, ◌∙◌}
use Rattle.lhs_alias.specs.Segs.{lhs_bits}
use Rattle.lhs_alias.specs.Joined.{marked}
use Rattle.lhs_alias.proofs.Marks.{none-marked, marked-cleared}
use Rattle.lhs_alias.proofs.joins.mark_free.Goals as goal

pub returns-clause-unchanged : goal.returns-clause-unchanged
returns-clause-unchanged c =
    let starts = c.args.starts.now in
    let bits = lhs_bits c.args.segs.now in
    let none = sym c.any_joined.ensures ∙ c.if-any_joined.false in
    c.clear_all.ensures
    ∙ ap (λ s. marked starts false s bits) c.mark_all.ensures.marks
    ∙ marked-cleared starts c.args.joined.now bits (none-marked starts c.args.joined.now bits none)
