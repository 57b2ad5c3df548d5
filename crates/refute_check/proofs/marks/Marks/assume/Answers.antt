use Rattle.std.proofs.Common.{◌≡◌, ◌<◌, length, Option, Bool, None, List, ap, ◌∙◌, arith}
use Rattle.cnf.specs.Clauses.{valuation}
use Rattle.refute_check.proofs.Trails.{tracked_room, tracked_pushed}
use Rattle.refute_check.proofs.marks.Marks.assume.Goals as goal

pub push_reserved-requires : goal.push_reserved-requires
push_reserved-requires c =
    let is_open : valuation c.self.inside.values.items c.args.d.var ≡ None = ap (λ (xs : List (Option Bool)). valuation xs c.args.d.var) c.self.view_is ∙ c.requires.open in
    let below : c.args.d.var < length c.self.inside.values.items = rw c.self.view_is c.requires.below in
    omega (arith, tracked_room _ _ _ c.args.d.var c.self.invariant below is_open, c.self.inside.trail.ok.0)

pub invariant_of-self : goal.invariant_of-self
invariant_of-self c =
    let is_open : valuation c.self.inside.values.items c.args.d.var ≡ None = ap (λ (xs : List (Option Bool)). valuation xs c.args.d.var) c.self.view_is ∙ c.requires.open in
    let below : c.args.d.var < length c.self.inside.values.items = rw c.self.view_is c.requires.below in
    tracked_pushed _ _ _ _ _ _ _ c.self.invariant (omega arith) below is_open c.push_reserved.ensures.items
