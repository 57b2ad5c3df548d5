-- The truths of nodes by their rails, and conjunctions of them.
use Rattle.std.proofs.Common.{◌≡◌, ℕ, suc, ◌+◌, ◌*◌, ◌<◌, ◌≤◌, Bool, true, false, not, ◌&&◌, cond, List, [], ◌∷◌, length, get_or, take, drop, refl, sym, ap, ◌∙◌, subst, arith, All, get_or-take, get_or-drop, length-take-le, length-drop, slice_index}
use Rattle.std.specs.List.{list_all}
use Rattle.aig.specs.declared.gate.Gate.{Gate}
use Rattle.aig.specs.declared.gate.Lit.{Lit}
use Rattle.aig.specs.Conjunction.{IsBoth}
use Rattle.aig.specs.Graph.{IsGraph, IsIn, KeepsValues, constant_lit, count_inputs, holds, negation, value, values}
use Rattle.aig.proofs.Growth.{Grows-refl}
use Rattle.aig.proofs.Values.{Obeys-values}
use Rattle.fourvec.specs.Bits.{bit_of, is_one, first}
use Rattle.svex_arena.specs.Arenas.{IsArena}
use Rattle.svex_blast.specs.Chosen.{Planes, AreWired, AreRails, shown, widths_of, bits_of}
use Rattle.svex_blast.specs.Reads.{only_chosen, chosen_by}
use Rattle.svex_shape.specs.declared.shape.Shape.{Shape}
use Rattle.svex_shape.specs.Shapes.{width_at}
use Rattle.svtv_table.specs.declared.bound.VarDecl.{VarDecl}
use Rattle.goal_gates.specs.Gating.{is_true, all_true, first_lit, is_top, HasFirst, GrowsBy, IsTruth, AreTold}

-- ---- literals

negation_holds : (v : ℕ → Bool) (l : Lit) → holds v (negation l) ≡ not (holds v l)
negation_holds v l = by_sign (v l.node) l.negated
  where
    by_sign : (x n : Bool) → cond (not n) (not x) x ≡ not (cond n (not x) x)
    by_sign true true = refl
    by_sign true false = refl
    by_sign false true = refl
    by_sign false false = refl

pub true_lit : (gates : List Gate) (inputs : List Bool) → IsGraph gates → value inputs gates (constant_lit true) ≡ true
true_lit gates inputs g = ap not (Obeys-values inputs gates g).bottom

pub no_truths : (gates : List Gate) (f : List Bool → Bool) (l : Lit) → IsGraph gates → l ≡ constant_lit true → ((inputs : List Bool) → f inputs ≡ true) → IsTruth gates f l
no_truths gates f l g e t = subst (IsTruth gates f) (sym e) (record {
  within = g.some;
  value = λ inputs. true_lit gates inputs g ∙ sym (t inputs);
})

pub grows_none : (gates : List Gate) → GrowsBy (2 * 0) gates gates
grows_none gates = record {
  grows = Grows-refl gates;
  kept = λ inputs l h. refl;
  nodes = omega arith;
  flat = λ h. h;
}

top_kept : (inputs : List Bool) (old new : List Gate) (rails : Planes) → HasFirst old rails → KeepsValues old new → is_top inputs new rails ≡ is_top inputs old rails
top_kept inputs old new rails h kept =
    ap (λ b. b && value inputs new (first_lit rails.low)) (kept inputs (first_lit rails.up) h.up) ∙ ap (λ b. value inputs old (first_lit rails.up) && b) (kept inputs (first_lit rails.low) h.low)

tops_kept : (inputs : List Bool) (old new : List Gate) (rails : List Planes) → All (HasFirst old) rails → KeepsValues old new → list_all (is_top inputs new) rails ≡ list_all (is_top inputs old) rails
tops_kept inputs old new [] h kept = refl
tops_kept inputs old new (r ∷ rails) h kept =
    ap (λ b. b && list_all (is_top inputs new) rails) (top_kept inputs old new r (h 0 r (omega arith)) kept)
    ∙ ap (λ b. is_top inputs old r && b) (tops_kept inputs old new rails (λ i d l. h (suc i) d (omega (arith, l))) kept)

pub broken_is : (g0 g1 g2 g3 : List Gate) (hyps claims : List Planes) (met kept other broken : Lit) → All (HasFirst g0) claims
    → IsTruth g1 (λ inputs. list_all (is_top inputs g0) hyps) met → KeepsValues g0 g1
    → IsTruth g2 (λ inputs. list_all (is_top inputs g1) claims) kept → KeepsValues g1 g2 → length g1 ≤ length g2
    → other ≡ negation kept → IsBoth g3 met other broken → KeepsValues g2 g3 → IsIn g3 broken
    → IsTruth g3 (λ inputs. list_all (is_top inputs g0) hyps && not (list_all (is_top inputs g0) claims)) broken
broken_is g0 g1 g2 g3 hyps claims met kept other broken h m k01 t k12 longer e b k23 within = record {
  within = within;
  value = λ inputs.
      let first : value inputs g3 met ≡ list_all (is_top inputs g0) hyps = k23 inputs met (omega (arith, m.within, longer)) ∙ (k12 inputs met m.within ∙ m.value inputs) in
      let second : value inputs g3 kept ≡ list_all (is_top inputs g0) claims = k23 inputs kept t.within ∙ (t.value inputs ∙ tops_kept inputs g0 g1 claims h k01) in
      let negated : value inputs g3 other ≡ not (list_all (is_top inputs g0) claims) = ap (value inputs g3) e ∙ (negation_holds (values inputs g3) kept ∙ ap not second) in
      b.at_inputs inputs ∙ (ap (λ x. x && value inputs g3 other) first ∙ ap (λ x. list_all (is_top inputs g0) hyps && x) negated);
}

-- ---- rails that show a node

bit_one : (a b : Bool) → (a && b) ≡ is_one (bit_of a b)
bit_one true true = refl
bit_one true false = refl
bit_one false true = refl
bit_one false false = refl

top_shown : (inputs : List Bool) (gates : List Gate) (up low : List Lit) → 0 < length up → 0 < length low
    → (value inputs gates (first_lit up) && value inputs gates (first_lit low)) ≡ is_one (first (shown (values inputs gates) up low))
unfolding shown
top_shown inputs gates [] low h k = absurd (omega (arith, h))
top_shown inputs gates (p ∷ up) [] h k = absurd (omega (arith, k))
top_shown inputs gates (p ∷ up) (q ∷ low) h k = bit_one (value inputs gates p) (value inputs gates q)

wired_first : (gates : List Gate) (width : ℕ) (rails : Planes) → 0 < width → AreWired gates width rails → HasFirst gates rails
wired_first gates width rails h w = record {
  some_up = omega (arith, h, w.up_long);
  some_low = omega (arith, h, w.low_long);
  up = w.up_in 0 (constant_lit false) (omega (arith, h, w.up_long));
  low = w.low_in 0 (constant_lit false) (omega (arith, h, w.low_long));
}

-- ---- the rails of roots

pub record AreRoots (vars : List VarDecl) (shapes : List Shape) (gates : List Gate) (roots : List ℕ) (rails : List Planes) : Type 0 where
  pub arena : IsArena shapes
  pub within : All (λ node. node < length shapes) roots
  pub counted : count_inputs gates ≡ bits_of (widths_of vars)
  pub long : length rails ≡ length roots
  pub wired : (i : ℕ) (d : Planes) → i < length roots → AreWired gates (width_at shapes (slice_index roots i)) (get_or rails i d)
  pub shows : (i : ℕ) (d : Planes) → i < length roots → AreRails vars shapes gates (slice_index roots i) (get_or rails i d)

root_first : (vars : List VarDecl) (shapes : List Shape) (gates : List Gate) (roots : List ℕ) (rails : List Planes) → AreRoots vars shapes gates roots rails → (i : ℕ) (d : Planes) → i < length roots → HasFirst gates (get_or rails i d)
root_first vars shapes gates roots rails a i d l = wired_first gates (width_at shapes (slice_index roots i)) (get_or rails i d) (a.arena.some (slice_index roots i) (a.within i 0 l)) (a.wired i d l)

pub front_first : (vars : List VarDecl) (shapes : List Shape) (gates : List Gate) (roots : List ℕ) (rails : List Planes) (n : ℕ) → n ≤ length roots → AreRoots vars shapes gates roots rails → All (HasFirst gates) (take n rails)
front_first vars shapes gates roots rails n le a i d l =
    let lt : i < n = omega (arith, l, length-take-le n rails (omega (arith, le, a.long))) in
    subst (HasFirst gates) (sym (get_or-take n rails i d lt)) (root_first vars shapes gates roots rails a i d (omega (arith, lt, le)))

pub back_first : (vars : List VarDecl) (shapes : List Shape) (gates : List Gate) (roots : List ℕ) (rails : List Planes) (n : ℕ) → AreRoots vars shapes gates roots rails → All (HasFirst gates) (drop n rails)
back_first vars shapes gates roots rails n a i d l =
    subst (HasFirst gates) (sym (get_or-drop n rails i d)) (root_first vars shapes gates roots rails a (n + i) d (omega (arith, l, length-drop n rails, a.long)))

pub same_all : {X Y : Type 0} (p : X → Bool) (q : Y → Bool) (xs : List X) (ys : List Y) (e : Y) → length xs ≡ length ys → ((i : ℕ) (d : X) → i < length ys → p (get_or xs i d) ≡ q (get_or ys i e)) → list_all p xs ≡ list_all q ys
same_all p q [] [] o e h = refl
same_all p q [] (y ∷ ys) o e h = absurd (omega (arith, e))
same_all p q (x ∷ xs) [] o e h = absurd (omega (arith, e))
same_all p q (x ∷ xs) (y ∷ ys) o e h =
    ap (λ b. b && list_all p xs) (h 0 x (omega arith)) ∙ ap (λ b. q y && b) (same_all p q xs ys o (omega (arith, e)) (λ i d l. h (suc i) d (omega (arith, l))))

root_true : (vars : List VarDecl) (shapes : List Shape) (gates : List Gate) (roots : List ℕ) (rails : List Planes) → AreRoots vars shapes gates roots rails → (inputs : List Bool) → length inputs ≡ count_inputs gates
    → (i : ℕ) (d : Planes) → i < length roots → is_top inputs gates (get_or rails i d) ≡ is_true (only_chosen (chosen_by (widths_of vars) inputs)) shapes (get_or roots i 0)
root_true vars shapes gates roots rails a inputs n i d l =
    let r : Planes = get_or rails i d in
    let f = root_first vars shapes gates roots rails a i d l in
    top_shown inputs gates r.up r.low f.some_up f.some_low ∙ ap (λ v. is_one (first v)) (a.shows i d l inputs n)

front_true : (vars : List VarDecl) (shapes : List Shape) (gates : List Gate) (roots : List ℕ) (rails : List Planes) (n : ℕ) → n ≤ length roots → AreRoots vars shapes gates roots rails → (inputs : List Bool) → length inputs ≡ count_inputs gates
    → list_all (is_top inputs gates) (take n rails) ≡ all_true (only_chosen (chosen_by (widths_of vars) inputs)) shapes (take n roots)
front_true vars shapes gates roots rails n le a inputs k =
    let rows = only_chosen (chosen_by (widths_of vars) inputs) in
    let roots_long = length-take-le n roots le in
    let rails_long = length-take-le n rails (omega (arith, le, a.long)) in
    same_all (is_top inputs gates) (is_true rows shapes) (take n rails) (take n roots) 0 (omega (arith, roots_long, rails_long))
    (λ i d l. let lt : i < n = omega (arith, l, roots_long) in
    ap (is_top inputs gates) (get_or-take n rails i d lt) ∙ (root_true vars shapes gates roots rails a inputs k i d (omega (arith, lt, le)) ∙ ap (is_true rows shapes) (sym (get_or-take n roots i 0 lt))))

back_true : (vars : List VarDecl) (shapes : List Shape) (gates : List Gate) (roots : List ℕ) (rails : List Planes) (n : ℕ) → AreRoots vars shapes gates roots rails → (inputs : List Bool) → length inputs ≡ count_inputs gates
    → list_all (is_top inputs gates) (drop n rails) ≡ all_true (only_chosen (chosen_by (widths_of vars) inputs)) shapes (drop n roots)
back_true vars shapes gates roots rails n a inputs k =
    let rows = only_chosen (chosen_by (widths_of vars) inputs) in
    same_all (is_top inputs gates) (is_true rows shapes) (drop n rails) (drop n roots) 0 (omega (arith, length-drop n rails, length-drop n roots, a.long))
    (λ i d l.
    ap (is_top inputs gates) (get_or-drop n rails i d) ∙ (root_true vars shapes gates roots rails a inputs k (n + i) d (omega (arith, l, length-drop n roots)) ∙ ap (is_true rows shapes) (sym (get_or-drop n roots i 0))))

pub told_by_rails : (vars : List VarDecl) (shapes : List Shape) (old new : List Gate) (roots : List ℕ) (rails : List Planes) (n most : ℕ) (met broken : Lit) → n ≤ length roots → AreRoots vars shapes old roots rails → IsGraph new → GrowsBy most old new
    → IsTruth new (λ inputs. list_all (is_top inputs old) (take n rails)) met
    → IsTruth new (λ inputs. list_all (is_top inputs old) (take n rails) && not (list_all (is_top inputs old) (drop n rails))) broken
    → AreTold vars shapes (take n roots) (drop n roots) new met broken
told_by_rails vars shapes old new roots rails n most met broken le a g grew m b = record {
  graph = g;
  inputs = grew.grows.inputs ∙ a.counted;
  met_in = m.within;
  broken_in = b.within;
  is_met = λ inputs k. m.value inputs ∙ front_true vars shapes old roots rails n le a inputs (k ∙ grew.grows.inputs);
  is_broken = λ inputs k.
      let there = k ∙ grew.grows.inputs in
      b.value inputs ∙ (ap (λ x. x && not (list_all (is_top inputs old) (drop n rails))) (front_true vars shapes old roots rails n le a inputs there)
      ∙ ap (λ x. all_true (only_chosen (chosen_by (widths_of vars) inputs)) shapes (take n roots) && not x) (back_true vars shapes old roots rails n a inputs there));
}

-- the same where the code has the rails twice
pub told_by_parts : (vars : List VarDecl) (shapes : List Shape) (old new : List Gate) (roots : List ℕ) (rails xs ys : List Planes) (n most : ℕ) (met broken : Lit) → xs ≡ rails → ys ≡ drop n rails → n ≤ length roots → AreRoots vars shapes old roots rails → IsGraph new → GrowsBy most old new
    → IsTruth new (λ inputs. list_all (is_top inputs old) (take n xs)) met
    → IsTruth new (λ inputs. list_all (is_top inputs old) (take n xs) && not (list_all (is_top inputs old) ys)) broken
    → AreTold vars shapes (take n roots) (drop n roots) new met broken
told_by_parts vars shapes old new roots rails xs ys n most met broken ex ey le a g grew m b =
    told_by_rails vars shapes old new roots rails n most met broken le a g grew
    (subst (λ zs. IsTruth new (λ inputs. list_all (is_top inputs old) (take n zs)) met) ex m)
    (subst (λ zs. IsTruth new (λ inputs. list_all (is_top inputs old) (take n rails) && not (list_all (is_top inputs old) zs)) broken) ey
    (subst (λ zs. IsTruth new (λ inputs. list_all (is_top inputs old) (take n zs) && not (list_all (is_top inputs old) ys)) broken) ex b))
