use Rattle.std.proofs.Common.{◌≡◌, ℕ, length, Option, refl, subst, rules}
use Rattle.std.specs.Prelude.{IfSome, IfNone, slice_index}
use Rattle.svex_shape.specs.Shapes.{ChildrenBelow, FitsWidths, width_at}
use Rattle.svex_arena.specs.Arenas.{Interned}
use Rattle.svex_arena.specs.Substs.{renamed}
use Rattle.flat_read.proofs.Adding.{node_added, node_fits, names_tested, below_tested, fits_tested, put_tested, never_fits}
use Rattle.flat_read.proofs.reader.Reader.add_node.Goals as goal

pub returns-in_ok-push-in-Some-clause-judged : goal.returns-in_ok-push-in-Some-clause-judged
returns-in_ok-push-in-Some-clause-judged c shown h spot =
    let old = c.args.self.now in
    let s = c.args.shape.now in
    let long : c.len.result ≡ length old.numbers.items = search rules in
    let fits = subst (λ (o : Option ℕ). IfSome o (λ n. FitsWidths (width_at old.arena) (renamed (λ k. slice_index c.deref-2.result.now k) s))) c.in-Some.is c.in_ok-node.ensures.fits in
    let put = subst (λ (o : Option ℕ). IfSome o (λ n. Interned old.arena (renamed (λ k. slice_index c.deref-2.result.now k) s) c.put_in.new.arena n)) c.in-Some.is c.in_ok-node.ensures.some in
    node_added shown old (record old { arena = c.put_in.new.arena; numbers = c.push.new.self }) s c.in-Some.node h spot (c.is_empty.ensures.0 c.if-not-is_empty.false)
    (below_tested c.len.result (length old.numbers.items) s c.has_children.result long c.has_children.ensures c.if-not-has_children.false)
    (names_tested old.widths.items c.deref.result.now s c.names_wire.result c.deref.ensures.value c.names_wire.ensures c.if-not-names_wire.false)
    (fits_tested old.arena c.deref-2.result.now old.numbers.items s c.deref-2.ensures.value fits)
    (record {
      wires = refl;
      widths = refl;
      joins = refl;
      made = refl;
      drivers = refl;
      numbers = c.in_ok-push-in-Some.ensures.items;
      arena = c.in_ok-node.ensures.arena;
      put = put_tested old.arena c.put_in.new.arena c.deref-2.result.now old.numbers.items s c.in-Some.node c.deref-2.ensures.value put;
      grown = c.put_in.ensures.extends;
    })

pub returns-in-None-clause-judged : goal.returns-in-None-clause-judged
returns-in-None-clause-judged c shown h spot comes told =
    let old = c.args.self.now in
    let s = c.args.shape.now in
    let never = subst (λ (o : Option ℕ). IfNone o (ChildrenBelow (length old.arena) (renamed (λ k. slice_index c.deref-2.result.now k) s) → FitsWidths (width_at old.arena) (renamed (λ k. slice_index c.deref-2.result.now k) s) → ⊥)) c.in-None.is c.in_ok-node.ensures.none in
    let fits = node_fits shown old s h comes told in
    never_fits old.arena c.deref-2.result.now old.numbers.items s c.deref-2.ensures.value never fits.inside fits.fits
