-- Tests of the signals of each form of tree.
use Rattle.std.proofs.Common.{◌≡◌, ℕ, ◌+◌, ◌<◌, ◌≤◌, Bool, true, ◌&&◌, List, [], ◌∷◌, ◌++◌, suc, length, take, get_or, Option, refl, sym, ap, ◌∙◌, arith}
use Rattle.std.specs.Prelude.{ℤ}
use Rattle.std.proofs.lemmas.List.{take_all}
use Rattle.std.proofs.Math.Seq.{take-suc}
use Rattle.fourvec.proofs.Order.{both}
use Rattle.fourvec.proofs.Tables.{left_of, right_of}
use Rattle.fourvec.specs.declared.Spot.{Spot}
use Rattle.sv_literal.specs.declared.meaning.Literal as l
use Rattle.sv_meaning.specs.Layouts.{Origin}
use Rattle.sv_typed.specs.declared.ops.Turn.{Turn}
use Rattle.sv_typed.specs.declared.ops.Reduction.{Reduction}
use Rattle.sv_typed.specs.declared.ops.Arithmetic.{Arithmetic}
use Rattle.sv_typed.specs.declared.ops.Shift.{Shift}
use Rattle.sv_typed.specs.declared.ops.Comparison.{Comparison}
use Rattle.sv_typed.specs.declared.ops.Logic.{Logic}
use Rattle.sv_typed.specs.declared.tree.Root.{Root}
use Rattle.sv_typed.specs.declared.tree.Pick.{Pick}
use Rattle.sv_typed.specs.declared.tree.PickPlace.TheVariants as place
use Rattle.sv_typed.specs.declared.tree.PickPlace.TheBlock.{shape-the_row-Typed-0, hidden-the_row-Typed-0, shape-the_row-Typed-2, hidden-the_row-Typed-2, shape-the_row-Pick-1, hidden-the_row-Pick-1}
use Rattle.sv_typed.specs.declared.tree.Typed.{Typed}
use Rattle.sv_typed.specs.declared.tree.TypedForm.TheVariants as f
use Rattle.sv_lower.specs.Lowering.{each_root, each_form, each_row, each_pick_row, each_place, each_signal, each_of, each_of_picks}

each_row_is : (q : Origin → ℕ → ℕ → Bool) (all : List Typed) → each_row q (hidden-the_row-Typed-2 all) ≡ each_of q all
unfolding each_form each_of shape-the_row-Typed-2 hidden-the_row-Typed-2 denote.Hole.Carrier.hidden
each_row_is q [] = refl
each_row_is q (a ∷ more) = ap (λ b. each_signal q a && b) (each_row_is q more)

each_pick_row_is : (q : Origin → ℕ → ℕ → Bool) (picks : List Pick) → each_pick_row q (hidden-the_row-Pick-1 picks) ≡ each_of_picks q picks
unfolding each_form each_of_picks shape-the_row-Pick-1 hidden-the_row-Pick-1 denote.Hole.Carrier.hidden
each_pick_row_is q [] = refl
each_pick_row_is q (p ∷ more) = ap (λ b. each_place q p.place && b) (each_pick_row_is q more)

pub each_literal : (q : Origin → ℕ → ℕ → Bool) (l : l.Literal) → each_form q (f.Literal l) ≡ true
unfolding each_form
each_literal q l = refl

pub each_named : (q : Origin → ℕ → ℕ → Bool) (root : Root) (picks : List Pick) → each_form q (f.Named root picks) ≡ (each_root q root && each_of_picks q picks)
unfolding each_form shape-the_row-Pick-1 hidden-the_row-Pick-1 denote.Hole.Carrier.hidden
each_named q root picks = ap (λ b. each_root q root && b) (each_pick_row_is q picks)

pub each_turned : (q : Origin → ℕ → ℕ → Bool) (op : Turn) (a : Typed) → each_form q (f.Turned op a) ≡ each_signal q a
unfolding each_form shape-the_row-Typed-0 hidden-the_row-Typed-0 denote.Hole.Carrier.hidden
each_turned q op a = refl

pub each_reduced : (q : Origin → ℕ → ℕ → Bool) (op : Reduction) (a : Typed) → each_form q (f.Reduced op a) ≡ each_signal q a
unfolding each_form shape-the_row-Typed-0 hidden-the_row-Typed-0 denote.Hole.Carrier.hidden
each_reduced q op a = refl

pub each_computed : (q : Origin → ℕ → ℕ → Bool) (op : Arithmetic) (a b : Typed) → each_form q (f.Computed op a b) ≡ (each_signal q a && each_signal q b)
unfolding each_form shape-the_row-Typed-0 hidden-the_row-Typed-0 denote.Hole.Carrier.hidden
each_computed q op a b = refl

pub each_moved : (q : Origin → ℕ → ℕ → Bool) (op : Shift) (a b : Typed) → each_form q (f.Moved op a b) ≡ (each_signal q a && each_signal q b)
unfolding each_form shape-the_row-Typed-0 hidden-the_row-Typed-0 denote.Hole.Carrier.hidden
each_moved q op a b = refl

pub each_compared : (q : Origin → ℕ → ℕ → Bool) (op : Comparison) (a b : Typed) → each_form q (f.Compared op a b) ≡ (each_signal q a && each_signal q b)
unfolding each_form shape-the_row-Typed-0 hidden-the_row-Typed-0 denote.Hole.Carrier.hidden
each_compared q op a b = refl

pub each_combined : (q : Origin → ℕ → ℕ → Bool) (op : Logic) (a b : Typed) → each_form q (f.Combined op a b) ≡ (each_signal q a && each_signal q b)
unfolding each_form shape-the_row-Typed-0 hidden-the_row-Typed-0 denote.Hole.Carrier.hidden
each_combined q op a b = refl

pub each_chosen : (q : Origin → ℕ → ℕ → Bool) (c a b : Typed) → each_form q (f.Chosen c a b) ≡ (each_signal q c && (each_signal q a && each_signal q b))
unfolding each_form shape-the_row-Typed-0 hidden-the_row-Typed-0 denote.Hole.Carrier.hidden
each_chosen q c a b = refl

pub each_power : (q : Origin → ℕ → ℕ → Bool) (a : Typed) (e : Option ℕ) → each_form q (f.Power a e) ≡ each_signal q a
unfolding each_form shape-the_row-Typed-0 hidden-the_row-Typed-0 denote.Hole.Carrier.hidden
each_power q a e = refl

pub each_concat : (q : Origin → ℕ → ℕ → Bool) (all : List Typed) → each_form q (f.Concat all) ≡ each_of q all
unfolding each_form shape-the_row-Typed-2 hidden-the_row-Typed-2 denote.Hole.Carrier.hidden
each_concat q all = each_row_is q all

pub each_repeat : (q : Origin → ℕ → ℕ → Bool) (n : ℕ) (all : List Typed) → each_form q (f.Repeat n all) ≡ each_of q all
unfolding each_form shape-the_row-Typed-2 hidden-the_row-Typed-2 denote.Hole.Carrier.hidden
each_repeat q n all = each_row_is q all

pub each_standing : (q : Origin → ℕ → ℕ → Bool) (a : Typed) → each_form q (f.Standing a) ≡ each_signal q a
unfolding each_form shape-the_row-Typed-0 hidden-the_row-Typed-0 denote.Hole.Carrier.hidden
each_standing q a = refl

pub each_fitted : (q : Origin → ℕ → ℕ → Bool) (a : Typed) → each_form q (f.Fitted a) ≡ each_signal q a
unfolding each_form shape-the_row-Typed-0 hidden-the_row-Typed-0 denote.Hole.Carrier.hidden
each_fitted q a = refl

pub each_fixed : (q : Origin → ℕ → ℕ → Bool) (i : ℤ) → each_place q (place.Fixed i) ≡ true
unfolding each_form
each_fixed q i = refl

pub each_moving : (q : Origin → ℕ → ℕ → Bool) (a : Typed) (spot : Spot) → each_place q (place.Moving a spot) ≡ each_signal q a
unfolding each_form shape-the_row-Typed-0 hidden-the_row-Typed-0 denote.Hole.Carrier.hidden
each_moving q a spot = refl

pub ruleset eaches = (each_literal, each_named, each_turned, each_reduced, each_computed, each_moved, each_compared, each_combined, each_chosen, each_power, each_concat, each_repeat, each_standing, each_fitted)

pub ruleset each_places = (each_fixed, each_moving)

-- ---- one element more

each_push : (q : Origin → ℕ → ℕ → Bool) (front : List Typed) (a : Typed) → each_of q front ≡ true → each_signal q a ≡ true → each_of q (front ++ a ∷ []) ≡ true
unfolding each_of
each_push q [] a h k = both _ _ k refl
each_push q (x ∷ front) a h k = both _ _ (left_of _ _ h) (each_push q front a (right_of _ _ h) k)

each_pick_push : (q : Origin → ℕ → ℕ → Bool) (front : List Pick) (p : Pick) → each_of_picks q front ≡ true → each_place q p.place ≡ true → each_of_picks q (front ++ p ∷ []) ≡ true
unfolding each_of_picks
each_pick_push q [] p h k = both _ _ k refl
each_pick_push q (x ∷ front) p h k = both _ _ (left_of _ _ h) (each_pick_push q front p (right_of _ _ h) k)

pub taken_more : {A : Type 0} (all : List A) (i : ℕ) (x : A) → i < length all → x ≡ get_or all i x → take (i + 1) all ≡ take i all ++ x ∷ []
taken_more all i x l e = let next : i + 1 ≡ suc i = omega arith in ap (λ n. take n all) next ∙ take-suc all i x l ∙ ap (λ y. take i all ++ y ∷ []) (sym e)

pub each_more : (q : Origin → ℕ → ℕ → Bool) (all : List Typed) (i : ℕ) (a : Typed) → i < length all → a ≡ get_or all i a → each_of q (take i all) ≡ true → each_signal q a ≡ true → each_of q (take (i + 1) all) ≡ true
each_more q all i a l e h k = ap (each_of q) (taken_more all i a l e) ∙ each_push q (take i all) a h k

pub each_end : (q : Origin → ℕ → ℕ → Bool) (all : List Typed) (i : ℕ) → length all ≤ i → each_of q (take i all) ≡ true → each_of q all ≡ true
each_end q all i l h = ap (each_of q) (sym (take_all i all l)) ∙ h

pub each_pick_more : (q : Origin → ℕ → ℕ → Bool) (all : List Pick) (i : ℕ) (p : Pick) → i < length all → p ≡ get_or all i p → each_of_picks q (take i all) ≡ true → each_place q p.place ≡ true → each_of_picks q (take (i + 1) all) ≡ true
each_pick_more q all i p l e h k = ap (each_of_picks q) (taken_more all i p l e) ∙ each_pick_push q (take i all) p h k

pub each_pick_end : (q : Origin → ℕ → ℕ → Bool) (all : List Pick) (i : ℕ) → length all ≤ i → each_of_picks q (take i all) ≡ true → each_of_picks q all ≡ true
each_pick_end q all i l h = ap (each_of_picks q) (sym (take_all i all l)) ∙ h

pub each_none : (q : Origin → ℕ → ℕ → Bool) → each_of q [] ≡ true
unfolding each_of
each_none q = refl

pub each_pick_none : (q : Origin → ℕ → ℕ → Bool) → each_of_picks q [] ≡ true
unfolding each_of_picks
each_pick_none q = refl
