use Rattle.std.proofs.Common.{◌++◌, ◌∷◌, [], List, ap, ◌∙◌, sym, subst, All}
use Rattle.std.specs.List.{AllZip}
use Rattle.lhs_alias.specs.declared.segs.Seg.{Seg}
use Rattle.lhs_alias.specs.Segs.{lhs_bits}
use Rattle.lhs_alias.specs.Joined.{widths_of, first_of}
use Rattle.svex_arena.proofs.Keeping.{if_ok}
use Rattle.compose_rounds.specs.Sources.{all_segs, HasSource, IsSource}
use Rattle.compose_rounds.proofs.Placing.{firsts-have, pieces-are}
use Rattle.compose_rounds.proofs.segments.Segments.pieces.Goals as goal

pub put_all-requires-clause-sources : goal.put_all-requires-clause-sources
put_all-requires-clause-sources c =
    let s : Seg = record { wire = c.args.wire; lo = 0; width = c.args.width } in
    subst (λ (l : List Seg). All (HasSource (all_segs c.args.self.now)) (lhs_bits l)) (sym c.segs.ensures)
    (firsts-have (widths_of c.args.joins.now) (HasSource (all_segs c.args.self.now)) (first_of c.args.joins.now) c.args.wire c.args.width c.from_vec-whole.result c.in_ok-firsts.firsts c.requires.whole
    (c.from_vec-whole.ensures ∙ c.in_ok-push.ensures.items ∙ ap (λ l. l ++ s ∷ []) c.new-whole.ensures.items) c.in_ok-firsts.ensures.firsts c.requires.covers)

pub returns-clause-places : goal.returns-clause-places
returns-clause-places c =
    let s : Seg = record { wire = c.args.wire; lo = 0; width = c.args.width } in
    if_ok _ _ _ c.normal.ensures.same
    (λ n h. pieces-are (all_segs c.args.self.now) (first_of c.args.joins.now) c.args.wire c.args.width c.from_vec-whole.result c.in_ok-firsts.firsts c.in_ok-put_all.field-0.items n
    (c.from_vec-whole.ensures ∙ c.in_ok-push.ensures.items ∙ ap (λ l. l ++ s ∷ []) c.new-whole.ensures.items)
    c.in_ok-firsts.ensures.firsts
    (subst (λ l. AllZip (IsSource (all_segs c.args.self.now)) (lhs_bits l) (lhs_bits c.in_ok-put_all.field-0.items)) c.segs.ensures c.in_ok-put_all.ensures.places)
    (h ∙ ap lhs_bits c.from_vec-places.ensures))
