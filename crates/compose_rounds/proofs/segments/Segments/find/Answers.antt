use Rattle.std.proofs.Common.{ℕ, ◌-◌, length, ap, ◌∙◌, sym, subst}
use Rattle.std.proofs.lemmas.List.{get_or_default}
use Rattle.compose_rounds.specs.Sources.{Covering, all_segs, IsLinked}
use Rattle.compose_rounds.proofs.Linking.{at_front, front_within}
use Rattle.compose_rounds.proofs.segments.Segments.find.Goals as goal

pub chain-init : goal.chain-init
chain-init c =
    let segs = all_segs c.args.self.now in
    let newest = c.self.inside.newest.items in
    let linked : IsLinked segs newest c.self.inside.older.items (length segs) =
    subst (λ (v : Covering). IsLinked (all_segs v) newest c.self.inside.older.items (length (all_segs v))) c.self.view_is c.self.invariant in
    at_front segs newest c.self.inside.older.items c.args.bit _ linked c.requires
    (ap (λ (k : ℕ). k - 1) (c.index.ensures ∙ sym (get_or_default newest c.args.bit.wire 0 c.index.result.now (front_within segs newest c.self.inside.older.items c.args.bit linked c.requires))))
