-- What an arena keeps as it grows.
use Rattle.std.proofs.Common.{◌≡◌, ℕ, ◌+◌, ◌<◌, ◌≤◌, List, [], ◌∷◌, ◌++◌, length, refl, sym, ap, ◌∙◌, subst, inl, inr, arith}
use Rattle.std.specs.Prelude.{slice_index, Result, Ok, Err, IfOk, OnErr}
use Rattle.std.proofs.lemmas.Result.{IfOk-weaker}
use Rattle.std.proofs.lemmas.Bool.{cases_eq}
use Rattle.std.proofs.lemmas.List.{length-append, get_or_append_left, map_push}
use Rattle.std.proofs.Math.Seq.{get_or-append_seam}
use Rattle.svex_shape.specs.declared.shape.Shape.{Shape}
use Rattle.svex_shape.specs.declared.shape.Shape.TheVariants.{Const}
use Rattle.svex_shape.specs.Shapes.{ChildrenBelow, FitsWidths, IsWidth, shape_at, width_at, width_of}
use Rattle.svex_arena.specs.Arenas.{IsArena, IsKept, Interned, Extends}
use Rattle.svex_arena.specs.Hashes.{hash_of}
use Rattle.svex_arena.specs.Looks.{HasNone}
use Rattle.svex_arena.proofs.Numbering.{map_children}
use Rattle.svex_arena.proofs.Steps.{width-step, width_reads, width-extends, fits_same}

pub extends_self : (shapes : List Shape) → Extends shapes shapes
extends_self shapes = record { longer = omega arith; same = λ k l. refl }

pub extends_on : (a b c : List Shape) → Extends a b → Extends b c → Extends a c
extends_on a b c e f = record {
  longer = omega (arith, e.longer, f.longer);
  same = λ k l. f.same k (omega (arith, e.longer)) ∙ e.same k l;
}

length_pushed : (shapes : List Shape) (s : Shape) → length (shapes ++ s ∷ []) ≡ length shapes + 1
length_pushed shapes s = omega (arith, length-append shapes (s ∷ []))

pub extends_push : (shapes : List Shape) (s : Shape) → Extends shapes (shapes ++ s ∷ [])
extends_push shapes s = record {
  longer = omega (arith, length_pushed shapes s);
  same = λ k l. get_or_append_left shapes (s ∷ []) (Const []) k l;
}

pub interned_extends : (old : List Shape) (s : Shape) (new : List Shape) (n : ℕ) → Interned old s new n → Extends old new
interned_extends old s new n i = elim i.2 [
  | inl same ↦ subst (λ (xs : List Shape). Extends old xs) (sym same) (extends_self old)
  | inr more ↦ subst (λ (xs : List Shape). Extends old xs) (sym more.0) (extends_push old s)
]

-- ---- results

pub if_ok : {T E : Type 0} (r : Result T E) (P Q : T → Type 0) → IfOk r P → ((x : T) → P x → Q x) → IfOk r Q
if_ok r P Q h f = IfOk-weaker r P Q f h

pub on_err : {T E : Type 0} (r : Result T E) (P : Type 0) → P → OnErr r P
on_err (Ok x) P h = tt
on_err (Err y) P h = h

pub pushed_at : (shapes : List Shape) (s : Shape) → shape_at (shapes ++ s ∷ []) (length shapes) ≡ s
pushed_at shapes s = get_or-append_seam shapes s [] (Const [])

arena_none : IsArena []
arena_none = record {
  children = λ k l. absurd (omega arith);
  fits = λ k l. absurd (omega arith);
  some = λ k l. absurd (omega arith);
  most = λ k l. absurd (omega arith);
  apart = λ j k l m. absurd (omega arith);
}

pub kept_none : IsKept [] [] []
kept_none = record {
  arena = arena_none;
  wide = refl;
  sized = λ k l. absurd (omega arith);
  hashed = refl;
}

-- ---- one more node

last_width : (shapes : List Shape) (s : Shape) → ChildrenBelow (length shapes) s → width_at (shapes ++ s ∷ []) (length shapes) ≡ width_of (width_at shapes) s
last_width shapes s h =
    let all = shapes ++ s ∷ [] in
    let n = length shapes in
    let e : shape_at all n ≡ s = pushed_at shapes s in
    width-step all n (subst (ChildrenBelow n) (sym e) h) ∙ ap (width_of (width_at all)) e ∙ width_reads (width_at all) (width_at shapes) s (map_children (λ j. j < n) (λ j. width_at all j ≡ width_at shapes j) (λ j l. width-extends shapes all j (extends_push shapes s) l) s h)

pub arena_more : (shapes : List Shape) (s : Shape) → IsArena shapes → ChildrenBelow (length shapes) s → FitsWidths (width_at shapes) s → IsWidth (width_of (width_at shapes) s) → HasNone shapes s (length shapes) → IsArena (shapes ++ s ∷ [])
arena_more shapes s i h f w lacks =
    let all = shapes ++ s ∷ [] in
    let n = length shapes in
    let e : shape_at all n ≡ s = pushed_at shapes s in
    let long : length all ≡ n + 1 = length_pushed shapes s in
    let grown = extends_push shapes s in
    let keeps : (j : ℕ) → j < n → width_at all j ≡ width_at shapes j = λ j l. width-extends shapes all j grown l in
    let last = last_width shapes s h in
    record {
      children = λ k l. elim (cases_eq k n) [
        | inl is ↦ subst (λ j. ChildrenBelow j (shape_at all j)) (sym is) (subst (ChildrenBelow n) (sym e) h)
        | inr not ↦ subst (ChildrenBelow k) (sym (grown.same k (omega arith))) (i.children k (omega arith))
      ];
      fits = λ k l. elim (cases_eq k n) [
        | inl is ↦ subst (λ j. FitsWidths (width_at all) (shape_at all j)) (sym is) (subst (FitsWidths (width_at all)) (sym e) (fits_same (width_at all) (width_at shapes) s (map_children (λ j. j < n) (λ j. width_at all j ≡ width_at shapes j) keeps s h) f))
        | inr not ↦
            let below : k < n = omega arith in
            subst (FitsWidths (width_at all)) (sym (grown.same k below)) (fits_same (width_at all) (width_at shapes) (shape_at shapes k) (map_children (λ j. j < k) (λ j. width_at all j ≡ width_at shapes j) (λ j m. keeps j (omega arith)) (shape_at shapes k) (i.children k below)) (i.fits k below))
      ];
      some = λ k l. elim (cases_eq k n) [
        | inl is ↦ omega (arith, ap (width_at all) is ∙ last, w.0)
        | inr not ↦ let below : k < n = omega arith in omega (arith, keeps k below, i.some k below)
      ];
      most = λ k l. elim (cases_eq k n) [
        | inl is ↦ omega (arith, ap (width_at all) is ∙ last, w.1)
        | inr not ↦ let below : k < n = omega arith in omega (arith, keeps k below, i.most k below)
      ];
      apart = λ j k l m same. elim (cases_eq j n) [
        | inl is ↦ elim (cases_eq k n) [
          | inl too ↦ is ∙ sym too
          | inr not ↦ let below : k < n = omega arith in absurd (lacks.none k below (sym (grown.same k below) ∙ sym same ∙ ap (shape_at all) is ∙ e))
        ]
        | inr not ↦ let under : j < n = omega arith in elim (cases_eq k n) [
          | inl too ↦ absurd (lacks.none j under (sym (grown.same j under) ∙ same ∙ ap (shape_at all) too ∙ e))
          | inr neither ↦ let below : k < n = omega arith in i.apart j k under below (sym (grown.same j under) ∙ same ∙ grown.same k below)
        ]
      ];
    }

pub width_kept : (shapes : List Shape) (widths : List ℕ) (s : Shape) → ((k : ℕ) → k < length shapes → slice_index widths k ≡ width_at shapes k) → ChildrenBelow (length shapes) s → width_of (λ k. slice_index widths k) s ≡ width_of (width_at shapes) s
width_kept shapes widths s sized h = width_reads (λ k. slice_index widths k) (width_at shapes) s (map_children (λ j. j < length shapes) (λ j. slice_index widths j ≡ width_at shapes j) sized s h)

pub kept_more : (shapes : List Shape) (widths hashes : List ℕ) (s : Shape) (w : ℕ) → IsKept shapes widths hashes → ChildrenBelow (length shapes) s → FitsWidths (width_at shapes) s → w ≡ width_of (width_at shapes) s → 0 < w → w ≤ 128 → HasNone shapes s (length shapes) → IsKept (shapes ++ s ∷ []) (widths ++ w ∷ []) (hashes ++ hash_of s ∷ [])
kept_more shapes widths hashes s w kept h f e some most lacks =
    let all = shapes ++ s ∷ [] in
    let n = length shapes in
    let wide = kept.wide in
    let long = length_pushed shapes s in
    record {
      arena = arena_more shapes s kept.arena h f (omega arith, omega arith) lacks;
      wide = omega (arith, length-append widths (w ∷ []));
      sized = λ k l. elim (cases_eq k n) [
        | inl is ↦ ap (slice_index (widths ++ w ∷ [])) (is ∙ sym wide) ∙ get_or-append_seam widths w [] 0 ∙ e ∙ sym (last_width shapes s h) ∙ ap (width_at all) (sym is)
        | inr not ↦ let below : k < n = omega arith in get_or_append_left widths (w ∷ []) 0 k (omega arith) ∙ kept.sized k below ∙ sym (width-extends shapes all k (extends_push shapes s) below)
      ];
      hashed = ap (λ (hs : List ℕ). hs ++ hash_of s ∷ []) kept.hashed ∙ sym (map_push hash_of shapes s);
    }
