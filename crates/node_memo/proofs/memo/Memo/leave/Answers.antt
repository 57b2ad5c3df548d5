use Rattle.std.proofs.Common.{◌≡◌, ◌-◌, List, length, take, refl, sym, ap, ◌∙◌, subst, rules, true, arith}
use Rattle.std.specs.Vec.{with_item}
use Rattle.svex_shape.specs.declared.shape.Shape.{Shape}
use Rattle.svex_shape.specs.Shapes.{FitsWidths, shape_at}
use Rattle.svex_shape.specs.Values.{Vector, read, value_of, value_at}
use Rattle.svex_shape.proofs.Readings.{read_has_widths}
use Rattle.svex_arena.specs.Evaluated.{value_in, width_in}
use Rattle.node_memo.specs.declared.memo.Memo.{Memo}
use Rattle.node_memo.proofs.Downs.{last-below, node-fits, node-is, values-right, down-leaves}
use Rattle.node_memo.proofs.memo.Memo.leave.Goals as goal

pub shape_value-requires-clause-fits : goal.shape_value-requires-clause-fits
shape_value-requires-clause-fits c =
    let shapes = c.args.arena.now in
    let self = c.args.self.now in
    let env = c.args.env.now in
    let node = c.args.node in
    let down = c.requires.down in
    let lt = last-below (length shapes) self.fresh.items self.path.items node down.path c.requires.some c.requires.node in
    subst (λ (s : Shape). FitsWidths (width_in c.deref.result.now) s) (sym (c.shape-shape.ensures.is ∙ ap (λ k. shape_at shapes k) c.new.ensures))
    (subst (λ (l : List Vector). FitsWidths (width_in l) (shape_at shapes node)) (sym c.deref.ensures.value)
    (node-fits (read env) shapes self.values.items self.fresh.items node (read_has_widths env) c.len.ensures.arena lt c.requires.right.is c.requires.children))

pub returns-clause-down : goal.returns-clause-down
returns-clause-down c =
    let shapes = c.args.arena.now in
    let self = c.args.self.now in
    let node = c.args.node in
    let new : Memo = record {
      values = with_item self.values node c.shape_value.result;
      fresh = with_item self.fresh node true;
      parents = self.parents;
      path = c.pop.new.self;
      stale = self.stale;
    } in
    let path : c.pop.new.self.items ≡ take (length self.path.items - 1) self.path.items = search rules in
    down-leaves shapes self new node c.shape_value.result c.requires.down c.requires.some c.requires.node c.requires.children refl refl path c.pop.ensures.capacity

pub returns-clause-right : goal.returns-clause-right
returns-clause-right c =
    let shapes = c.args.arena.now in
    let self = c.args.self.now in
    let r = read c.args.env.now in
    let node = c.args.node in
    let down = c.requires.down in
    let lt = last-below (length shapes) self.fresh.items self.path.items node down.path c.requires.some c.requires.node in
    let is : c.shape_value.result ≡ value_at r shapes node =
    c.shape_value.ensures
    ∙ ap (λ (s : Shape). value_of r (value_in c.deref.result.now) s) (c.shape-shape.ensures.is ∙ ap (λ k. shape_at shapes k) c.new.ensures)
    ∙ ap (λ (l : List Vector). value_of r (value_in l) (shape_at shapes node)) c.deref.ensures.value
    ∙ node-is r shapes self.values.items self.fresh.items node c.len.ensures.arena lt c.requires.right.is c.requires.children in
    record { is = values-right r shapes self.values.items self.fresh.items node c.shape_value.result (omega (arith, lt, down.values)) c.requires.right.is is }
