-- Scopes of vectors, made one by one.
use Rattle.std.proofs.Common.{◌≡◌, ℕ, zero, suc, ◌+◌, ◌<◌, ◌≤◌, min, false, true, List, [], ◌∷◌, ◌++◌, length, take, drop, get_or, map, IsTrue, ℤ, pos, ◌*◌, refl, sym, ap, ◌∙◌, subst, append_assoc, arith}
use Rattle.std.specs.Prelude.{nat_lt, ◌-◌, ◌^◌}
use Rattle.std.proofs.lemmas.List.{map-append, append-nil, take_all}
use Rattle.std.proofs.lemmas.Bool.Decides.{nat_tests}
use Rattle.fourvec.proofs.Order.{both}
use mir.Syntax.{w64}
use mir.Val.{to_z, of_z}
use Rattle.sv_names.proofs.Sound.{same_bound}
use Rattle.sv_names.specs.Kinds.{Entry, entry_is, entries_are, form_is, layout_is, FormIsSound, IsSound}
use Rattle.sv_names.specs.declared.layout.Layout.{Layout}
use Rattle.sv_names.specs.declared.layout.Form.TheVariants as f
use Rattle.sv_names.specs.declared.layout.Form.TheBlock.{shape-the_row-Layout-0, hidden-the_row-Layout-0}
use Rattle.sv_names.specs.Names.{names_are, frames_of, above_of, loops_of}
use Rattle.sv_names.specs.declared.names.Names.{Names}
use Rattle.sv_meaning.specs.Layouts as m
use Rattle.sv_meaning.specs.Layouts.{Origin, scope_of, count_between, dim, plain, scalar, signal_is, width, depth}
use Rattle.sv_meaning.specs.Meanings.{is_bound}
use Rattle.sv_modules.proofs.Turns.{drop_next, drop_none}
use Rattle.goal_text.specs.Scopes.{Vector, vectors_from}

-- ---- widths

pub count_is : (w : ℕ) → 1 ≤ w → w ≡ count_between (pos (w - 1)) (pos 0)
count_is zero h = absurd (omega arith)
count_is (suc n) h = let e : suc n - 1 ≡ n = omega arith in subst (λ k. suc n ≡ count_between (pos k) (pos 0)) (sym e) (from_zero n)
  where
    from_zero : (k : ℕ) → suc k ≡ count_between (pos k) (pos 0)
    from_zero k = let e : suc k ≡ suc (k + 0) = omega arith in e

pub plain_width : (w : ℕ) → 1 ≤ w → width (plain w false) ≡ w
plain_width w h = let c = count_is w h in let e : count_between (pos (w - 1)) (pos 0) * 1 ≡ w = omega arith in e

pub bound_is : (w : ℕ) → w ≤ 128 → IsTrue (is_bound (pos (w - 1)))
bound_is w h = let e : nat_lt (w - 1) (2 ^ 31) ≡ true = grind (arith, nat_tests) in both _ _ refl e

-- ---- layouts

dim_is : (l r : ℤ) (each : Layout) → layout_is each ≡ scalar false → form_is false (f.Dim l r each) ≡ dim false l r (scalar false)
unfolding shape-the_row-Layout-0 hidden-the_row-Layout-0 denote.Hole.Carrier.hidden
dim_is l r each e = ap (dim false l r) e

dim_sound : (w : ℕ) (l r : ℤ) (each : Layout) → layout_is each ≡ scalar false → IsSound each → IsTrue (is_bound l) → IsTrue (is_bound r) → w ≡ count_between l r → 1 ≤ w → w ≤ 128
    → FormIsSound w false 1 (f.Dim l r each)
unfolding depth shape-the_row-Layout-0 hidden-the_row-Layout-0 denote.Hole.Carrier.hidden
dim_sound w l r each e k a b c h g =
    let d : w ≡ count_between l r * 1 = omega arith in
    (((d ∙ ap (λ y. count_between l r * width y) (sym e), h, g), ap (λ y. min 1000 (suc (depth y))) (sym e)), a, b, k)

-- one range over bits, whose bounds are as code holds them
module _ (l r : ℤ) (each bit : Layout) (i : each ≡ bit) (e : layout_is bit ≡ scalar false) (a : IsTrue (is_bound l)) (b : IsTrue (is_bound r)) where
  pub range_is : form_is false (f.Dim (to_z w64 (of_z w64 l)) (to_z w64 (of_z w64 r)) each) ≡ dim false l r (scalar false)
  range_is = dim_is _ _ each (ap layout_is i ∙ e) ∙ (λ j. dim false (same_bound l a j) (same_bound r b j) (scalar false))

  pub range_sound : (w : ℕ) → IsSound bit → w ≡ count_between l r → 1 ≤ w → w ≤ 128 → FormIsSound w false 1 (f.Dim (to_z w64 (of_z w64 l)) (to_z w64 (of_z w64 r)) each)
  range_sound w k c h g =
      subst (λ (y : ℤ). FormIsSound w false 1 (f.Dim y (to_z w64 (of_z w64 r)) each)) (sym (same_bound l a))
      (subst (λ (y : ℤ). FormIsSound w false 1 (f.Dim l y each)) (sym (same_bound r b))
      (dim_sound w l r each (ap layout_is i ∙ e) (subst IsSound (sym i) k) a b c h g))

-- ---- one vector more

module _ {A : Type 0} (made : A → Vector) (o : Origin) where
  pub vectors_next : (whole : List m.Entry) (all : List A) (i : ℕ) (x : A) (scope new : List Entry) (e : Entry) → i < length all → x ≡ get_or all i x
      → entry_is e ≡ ((made x).0, signal_is o i (plain (made x).1 false)) → new ≡ scope ++ e ∷ []
      → whole ≡ entries_are scope ++ vectors_from o i (map made (drop i all)) → whole ≡ entries_are new ++ vectors_from o (i + 1) (map made (drop (i + 1) all))
  unfolding vectors_from
  vectors_next whole all i x scope new e lt is entry pushed h =
      let rest = vectors_from o (i + 1) (map made (drop (i + 1) all)) in
      h ∙ ap (λ l. entries_are scope ++ vectors_from o i (map made l)) (drop_next all i x lt is)
      ∙ ap (λ z. entries_are scope ++ z ∷ rest) (sym entry)
      ∙ sym (append_assoc (entries_are scope) (entry_is e ∷ []) rest)
      ∙ ap (λ z. z ++ rest) (sym (map-append entry_is scope (e ∷ [])) ∙ ap entries_are (sym pushed))

  pub vectors_end : (whole : List m.Entry) (all : List A) (i : ℕ) (scope : List Entry) → length all ≤ i
      → whole ≡ entries_are scope ++ vectors_from o i (map made (drop i all)) → entries_are scope ≡ whole
  unfolding vectors_from
  vectors_end whole all i scope le h = sym (h ∙ ap (λ l. entries_are scope ++ vectors_from o i (map made l)) (drop_none all i le) ∙ append-nil (entries_are scope))

-- ---- names over scopes

pub one_front : (x y t : List Entry) → x ≡ y ++ t → y ≡ [] → x ≡ t
one_front x y t h g = h ∙ ap (λ z. z ++ t) g

pub two_fronts : (x y z s t : List Entry) → x ≡ y ++ t → y ≡ z ++ s → z ≡ [] → x ≡ s ++ t
two_fronts x y z s t h g k = h ∙ ap (λ w. w ++ t) (one_front y z s g k)

entries_one : (loops front scope : List Entry) (n : ℕ) → n ≡ length scope → front ≡ take n scope → loops ≡ [] → entries_are (front ++ loops) ≡ entries_are scope
entries_one loops front scope n len e none =
    ap (λ l. entries_are (l ++ loops)) (e ∙ take_all n scope (omega arith)) ∙ ap (λ l. entries_are (scope ++ l)) none ∙ ap entries_are (append-nil scope)

pub one_scope : (names : Names) (scope : List Entry) (n : ℕ) → n ≡ length scope → frames_of names ≡ take n scope → above_of names ≡ take n scope → loops_of names ≡ [] → names_are names ≡ scope_of (entries_are scope)
one_scope names scope n len frames above loops =
    let all = entries_one (loops_of names) (frames_of names) scope n len frames loops in
    let seen = entries_one (loops_of names) (above_of names) scope n len above loops in
    λ i. record { all = all i; above = seen i }

entries_two : (loops front a b : List Entry) (n m : ℕ) → n ≡ length a → m ≡ length b → front ≡ take n a ++ take m b → loops ≡ [] → entries_are (front ++ loops) ≡ entries_are a ++ entries_are b
entries_two loops front a b n m len other e none =
    ap (λ l. entries_are (l ++ loops)) (e ∙ ap (λ l. l ++ take m b) (take_all n a (omega arith)) ∙ ap (λ l. a ++ l) (take_all m b (omega arith)))
    ∙ ap (λ l. entries_are ((a ++ b) ++ l)) none ∙ ap entries_are (append-nil (a ++ b)) ∙ map-append entry_is a b

pub two_scopes : (names : Names) (a b : List Entry) (n m : ℕ) → n ≡ length a → m ≡ length b → frames_of names ≡ take n a ++ take m b → above_of names ≡ take n a ++ take m b → loops_of names ≡ []
    → names_are names ≡ scope_of (entries_are a ++ entries_are b)
two_scopes names a b n m len other frames above loops =
    let all = entries_two (loops_of names) (frames_of names) a b n m len other frames loops in
    let seen = entries_two (loops_of names) (above_of names) a b n m len other above loops in
    λ i. record { all = all i; above = seen i }
