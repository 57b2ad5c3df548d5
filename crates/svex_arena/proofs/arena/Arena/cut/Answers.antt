use Rattle.std.proofs.Common.{◌≤◌, List, length, ap, arith}
use Rattle.svex_shape.specs.declared.shape.Shape.{Shape}
use Rattle.svex_arena.proofs.Cutting.{kept_less}
use Rattle.svex_arena.proofs.arena.Arena.cut.Goals as goal

pub invariant_of-self : goal.invariant_of-self
invariant_of-self c =
    let a = c.self.inside in
    let within : c.args.len ≤ length a.shapes.items = omega (arith, c.requires, ap (λ (xs : List Shape). length xs) c.self.view_is) in
    rw (c.truncate.ensures.items, c.truncate-2.ensures.items, c.truncate-3.ensures)
    (kept_less c.args.len a.shapes.items a.widths.items a.index within c.self.invariant)
