-- What an arena keeps as its last nodes go.
use Rattle.std.proofs.Common.{◌≡◌, ℕ, ◌<◌, ◌≤◌, List, [], length, take, sym, ap, ◌∙◌, subst, arith}
use Rattle.std.proofs.lemmas.List.{length-take-le, get_or-take, take-map}
use Rattle.svex_shape.specs.declared.shape.Shape.{Shape}
use Rattle.svex_shape.specs.declared.shape.Shape.TheVariants.{Const}
use Rattle.svex_shape.specs.Shapes.{ChildrenBelow, FitsWidths, shape_at, width_at}
use Rattle.svex_arena.specs.Arenas.{IsArena, IsKept, Extends}
use Rattle.svex_arena.specs.Hashes.{hash_of}
use Rattle.svex_arena.proofs.Numbering.{map_children}
use Rattle.svex_arena.proofs.Steps.{width-extends, fits_same}

pub shape_taken : (shapes : List Shape) (n k : ℕ) → k < n → n ≤ length shapes → shape_at (take n shapes) k ≡ shape_at shapes k
shape_taken shapes n k l w = get_or-take n shapes k (Const []) l

pub extends_taken : (shapes : List Shape) (n : ℕ) → n ≤ length shapes → Extends (take n shapes) shapes
extends_taken shapes n w = record {
  longer = omega (arith, length-take-le n shapes w);
  same = λ k l. sym (shape_taken shapes n k (omega (arith, length-take-le n shapes w)) w);
}

-- the first nodes of an arena are an arena
pub arena_less : (small big : List Shape) → Extends small big → IsArena big → IsArena small
arena_less small big e i = record {
  children = λ k l. subst (ChildrenBelow k) (e.same k l) (i.children k (omega (arith, e.longer)));
  fits = λ k l.
      let children : ChildrenBelow k (shape_at small k) = subst (ChildrenBelow k) (e.same k l) (i.children k (omega (arith, e.longer))) in
      fits_same (width_at small) (width_at big) (shape_at small k) (map_children (λ j. j < k) (λ j. width_at small j ≡ width_at big j) (λ j m. sym (width-extends small big j e (omega arith))) (shape_at small k) children) (subst (FitsWidths (width_at big)) (e.same k l) (i.fits k (omega (arith, e.longer))));
  some = λ k l. omega (arith, width-extends small big k e l, i.some k (omega (arith, e.longer)));
  most = λ k l. omega (arith, width-extends small big k e l, i.most k (omega (arith, e.longer)));
  apart = λ j k l m same. i.apart j k (omega (arith, e.longer)) (omega (arith, e.longer)) (e.same j l ∙ same ∙ sym (e.same k m));
}

pub kept_less : (n : ℕ) (shapes : List Shape) (widths hashes : List ℕ) → n ≤ length shapes → IsKept shapes widths hashes → IsKept (take n shapes) (take n widths) (take n hashes)
kept_less n shapes widths hashes l k =
    let long : length (take n shapes) ≡ n = length-take-le n shapes l in
    let grown = extends_taken shapes n l in
    record {
      arena = arena_less (take n shapes) shapes grown k.arena;
      wide = omega (arith, length-take-le n widths (omega (arith, k.wide)), k.wide);
      sized = λ j m. get_or-take n widths j 0 (omega arith) ∙ k.sized j (omega arith) ∙ width-extends (take n shapes) shapes j grown m;
      hashed = ap (take n) k.hashed ∙ take-map hash_of n shapes;
    }
