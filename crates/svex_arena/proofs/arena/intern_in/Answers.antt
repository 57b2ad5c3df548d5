use Rattle.std.proofs.Common.{◌≡◌, ℕ, refl, inl, inr, ◌<◌, ◌++◌, ◌∷◌, [], List, length, map, sym, ap, ◌∙◌, subst, arith}
use Rattle.std.specs.Prelude.{slice_index}
use Rattle.std.proofs.lemmas.Result.{IfOk-from_err}
use Rattle.std.proofs.lemmas.List.{length_push}
use Rattle.svex_shape.specs.declared.shape.Shape.{Shape}
use Rattle.svex_shape.specs.Shapes.{ChildrenBelow, FitsWidths, width_of, width_at, shape_at}
use Rattle.svex_arena.specs.Arenas.{IsArena}
use Rattle.svex_arena.specs.Hashes.{hash_of}
use Rattle.svex_arena.specs.Looks.{HasNone}
use Rattle.svex_arena.proofs.Keeping.{kept_more, pushed_at, on_err}
use Rattle.svex_arena.proofs.arena.intern_in.Goals as goal

pub find-requires : goal.find-requires
find-requires c = record { hashed = c.requires.kept.hashed ∙ ap (λ (xs : List Shape). map hash_of xs) (sym c.deref.ensures.value) }

pub returns-in-Some-clause-kept : goal.returns-in-Some-clause-kept
returns-in-Some-clause-kept c = c.requires.kept

pub returns-in-Some-clause-is : goal.returns-in-Some-clause-is
returns-in-Some-clause-is c =
    let node = c.in-Some.node in (
      subst (λ (xs : List Shape). node < length xs) c.deref.ensures.value c.in-Some.ensures.within,
      subst (λ (xs : List Shape). shape_at xs node ≡ c.args.shape.now) c.deref.ensures.value c.in-Some.ensures.found,
      inl refl,
    )

pub returns-in-Some-clause-err : goal.returns-in-Some-clause-err
returns-in-Some-clause-err c = tt

pub width_over-width-requires : goal.width_over-width-requires
width_over-width-requires c =
    let k = c.requires.kept in
    let xs = sym c.deref-2.ensures.value in
    record {
      arena = subst IsArena xs k.arena;
      wide = ap length c.deref-3.ensures.value ∙ k.wide ∙ ap length xs;
      sized = subst (λ (s : List Shape). (i : ℕ) → i < length s → slice_index c.deref-3.result.now i ≡ width_at s i) xs
          (subst (λ (ws : List ℕ). (i : ℕ) → i < length c.args.shapes.now.items → slice_index ws i ≡ width_at c.args.shapes.now.items i) (sym c.deref-3.ensures.value) k.sized);
      children = subst (λ (s : List Shape). ChildrenBelow (length s) c.args.shape.now) xs c.requires.children;
      fits = subst (λ (s : List Shape). FitsWidths (width_at s) c.args.shape.now) xs c.requires.fits;
    }

pub returns-in_err-push_node-clause-kept : goal.returns-in_err-push_node-clause-kept
returns-in_err-push_node-clause-kept c =
    let same = c.in_err-push_node.ensures in
    rw (same.shapes_kept, same.widths_kept, same.index_kept) c.requires.kept

pub returns-in_err-push_node-clause-is : goal.returns-in_err-push_node-clause-is
returns-in_err-push_node-clause-is c = IfOk-from_err _ _ c.from_residual.ensures.0

pub returns-in_err-push_node-clause-err : goal.returns-in_err-push_node-clause-err
returns-in_err-push_node-clause-err c = on_err _ _ c.in_err-push_node.ensures.shapes_kept

pub returns-clause-kept : goal.returns-clause-kept
returns-clause-kept c =
    let shapes = c.args.shapes.now.items in
    let s = c.args.shape.now in
    let w = c.width_over-width.result in
    let more = c.in_ok-push_node.ensures in
    let is : w ≡ width_of (width_at shapes) s = subst (λ (xs : List Shape). w ≡ width_of (width_at xs) s) c.deref-2.ensures.value c.width_over-width.ensures.is in
    let none : HasNone shapes s (length shapes) = subst (λ (xs : List Shape). HasNone xs s (length xs)) c.deref.ensures.value c.in_default.ensures.none in
    rw (more.shapes, more.widths, more.index)
    (kept_more shapes c.args.widths.now.items c.args.index.now s w c.requires.kept c.requires.children c.requires.fits is c.width_over-width.ensures.some c.width_over-width.ensures.most none)

pub returns-clause-is : goal.returns-clause-is
returns-clause-is c =
    let shapes = c.args.shapes.now.items in
    let s = c.args.shape.now in
    let more = c.in_ok-push_node.ensures.shapes in
    let at : c.len-node.result ≡ length shapes = c.len-node.ensures ∙ c.args.shapes.now.ok.0 in (
      omega (arith, at, ap length more, length_push shapes s),
      ap (λ (xs : List Shape). shape_at xs c.len-node.result) more ∙ ap (λ (n : ℕ). shape_at (shapes ++ s ∷ []) n) at ∙ pushed_at shapes s,
      inr (more, at),
    )

pub returns-clause-err : goal.returns-clause-err
returns-clause-err c = tt
