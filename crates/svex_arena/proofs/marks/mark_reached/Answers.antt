use Rattle.std.proofs.Common.{◌≡◌, ◌-◌, length, sym, ap, ◌∙◌, subst, arith}
use Rattle.svex_arena.specs.Marks.{IsClosed, OnlyReached, Rises}
use Rattle.svex_arena.proofs.Marking.{closed_turn, rises_more, length_more, only_more}
use Rattle.svex_arena.proofs.marks.mark_reached.Goals as goal

pub nodes-preserved : goal.nodes-preserved
nodes-preserved c =
    let shapes = c.args.shapes.now in
    let first = c.mark_roots.new.marks in
    let m = c.nodes.marks in
    let e = c.mark_from.ensures in
    let kept = length_more shapes m (c.nodes.node - 1) in
    let long : length c.mark_from.new.marks ≡ length m = ap length e ∙ kept in
    record {
      within = omega arith;
      room = omega arith;
      rises = subst (λ x. Rises first x) (sym e) (rises_more shapes first m (c.nodes.node - 1) c.requires.children c.nodes.invariant.room (omega arith) c.nodes.invariant.rises);
      closed = subst (λ x. IsClosed shapes x (c.nodes.node - 1)) (sym e) (closed_turn shapes m c.nodes.node c.requires.children c.nodes.invariant.room c.nodes-test.true c.nodes.invariant.within c.nodes.invariant.closed);
      only = subst (OnlyReached shapes c.args.roots.now) (sym e) (only_more shapes c.args.roots.now m (c.nodes.node - 1) c.nodes.invariant.only);
    }
