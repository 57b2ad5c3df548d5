-- Targets, and lists of targets.
use Rattle.std.proofs.Common.{◌≡◌, ℕ, zero, suc, ◌+◌, ◌≤◌, ◌<◌, true, false, not, min, List, [], ◌∷◌, ◌++◌, length, take, drop, get_or, map, Some, Result, Ok, Err, refl, sym, ap, ◌∙◌, subst, arith, append_assoc}
use Rattle.std.proofs.lemmas.Bool.Decides.{nat_tests}
use Rattle.std.proofs.lemmas.List.{append-nil, take_all, at_drop_more, at_drop_all}
use Rattle.std.proofs.Math.Seq.{take-suc}
use Rattle.std.specs.List.{All, AllZip, AllByRecursion}
use Rattle.std.proofs.lemmas.List.Elements.{recursion_from_All}
use Rattle.sv_outside.specs.declared.refusal.Place.{Place}
use Rattle.sv_outside.specs.declared.refusal.TextErr.{TextErr}
use Rattle.sv_outside.specs.declared.refusal.TextErr.TheVariants.{No}
use Rattle.sv_tree.specs.declared.word.Word.{Word}
use Rattle.sv_tree.specs.declared.exprs.Select.{Select}
use Rattle.sv_tree.specs.declared.stmts.Lvalue.{Lvalue}
use Rattle.sv_tree.specs.declared.stmts.Lvalue.TheVariants as lv
use Rattle.sv_tree.specs.declared.stmts.Lvalue.TheBlock.{shape-the_row-Lvalue-0, hidden-the_row-Lvalue-0}
use Rattle.sv_meaning.specs.Faults.{Faults, or_then, bad_width}
use Rattle.sv_meaning.specs.Layouts as m
use Rattle.sv_meaning.specs.Meanings.{Meaning, Step, is_width, chain_layout, chain_faults}
use Rattle.sv_names.specs.declared.layout.Layout.{Layout}
use Rattle.sv_names.specs.declared.layout.What.{What}
use Rattle.sv_names.specs.declared.layout.What.TheVariants.{Wire}
use Rattle.sv_names.specs.Kinds.{layout_is, what_is}
use Rattle.sv_meaning.specs.Values.{step}
use Rattle.sv_meaning.specs.Targets.{Target, target_of, target_faults, targets, targets_of, widths, width_or_none, wide_target, lvalue_faults, all_lvalue_faults}
use Rattle.sv_typed.specs.declared.tree.Pick.{Pick}
use Rattle.sv_typed.specs.Typed.{PickIsSound, picked_width}
use Rattle.sv_typing.specs.declared.chain.Chain.{Chain}
use Rattle.sv_typing.specs.Judging.{IsCause}
use Rattle.sv_typing.specs.Picks.{Follows}
use Rattle.sv_typing.specs.Roots.{IsChain}
use Rattle.sv_typing.proofs.OfRules.{cause_left}
use Rattle.sv_typing.proofs.Lists.{in_second, in_fault, no_fault, both_clear, then_clear}
use Rattle.sv_targets.specs.declared.targets.TypedTarget.{TypedTarget}
use Rattle.sv_targets.specs.Targets.{StandsFor, IsTarget, JudgesTarget, AreTargets, JudgesTargets, width_of_all, all_faults, all_targets}

-- ---- targets as code makes them

pub targets_name : (index at : m.Scope) (w : Word) (all : List Select) → targets index at (lv.Name w all) ≡ target_of (m.find w.text at) (map (step index) all) ∷ []
unfolding targets
targets_name index at w all = refl

pub faults_name : (judge : Meaning → Faults) (index at : m.Scope) (w : Word) (all : List Select) → lvalue_faults judge index at (lv.Name w all) ≡ target_faults judge w.place w (m.find w.text at) (map (step index) all)
unfolding lvalue_faults
faults_name judge index at w all = refl

targets_row : (index at : m.Scope) (all : List Lvalue) → targets_of index at (hidden-the_row-Lvalue-0 all) ≡ all_targets index at all
unfolding targets all_targets shape-the_row-Lvalue-0 hidden-the_row-Lvalue-0 denote.Hole.Carrier.hidden
targets_row index at [] = refl
targets_row index at (x ∷ all) = ap (λ z. targets index at x ++ z) (targets_row index at all)

faults_row : (judge : Meaning → Faults) (index at : m.Scope) (all : List Lvalue) → all_lvalue_faults judge index at (hidden-the_row-Lvalue-0 all) ≡ all_faults judge index at all
unfolding lvalue_faults all_faults shape-the_row-Lvalue-0 hidden-the_row-Lvalue-0 denote.Hole.Carrier.hidden
faults_row judge index at [] = refl
faults_row judge index at (x ∷ all) = ap (λ z. lvalue_faults judge index at x ++ z) (faults_row judge index at all)

pub targets_concat : (index at : m.Scope) (p : Place) (all : List Lvalue) → targets index at (lv.Concat p all) ≡ all_targets index at all
unfolding targets shape-the_row-Lvalue-0 hidden-the_row-Lvalue-0 denote.Hole.Carrier.hidden
targets_concat index at p all = targets_row index at all

pub faults_concat : (judge : Meaning → Faults) (index at : m.Scope) (p : Place) (all : List Lvalue) → lvalue_faults judge index at (lv.Concat p all) ≡ or_then (all_faults judge index at all) (wide_target p (all_targets index at all))
unfolding lvalue_faults shape-the_row-Lvalue-0 hidden-the_row-Lvalue-0 denote.Hole.Carrier.hidden
faults_concat judge index at p all = ap (λ z. or_then z (wide_target p (targets_of index at (hidden-the_row-Lvalue-0 all)))) (faults_row judge index at all) ∙ ap (λ z. or_then (all_faults judge index at all) (wide_target p z)) (targets_row index at all)

pub targets_as : (judge : Meaning → Faults) (f g : Faults) (xs ys : List Target) (r : Result (List TypedTarget) TextErr) → f ≡ g → xs ≡ ys → JudgesTargets judge g ys r → JudgesTargets judge f xs r
targets_as judge f g xs ys r h k j = subst (λ z. JudgesTargets judge z xs r) (sym h) (subst (λ (z : List Target). JudgesTargets judge g z r) (sym k) j)

-- ---- one target

narrow_by : (picks : List Pick) (w : ℕ) → AllByRecursion PickIsSound picks → w ≤ 128 → picked_width picks w ≤ 128
unfolding picked_width PickIsSound
narrow_by [] w h k = k
narrow_by (p ∷ more) w h k = narrow_by more p.width h.1 h.0.0.1

narrow_picks : (picks : List Pick) (w : ℕ) → All PickIsSound picks → w ≤ 128 → picked_width picks w ≤ 128
narrow_picks picks w h k = narrow_by picks w (recursion_from_All PickIsSound picks h) k

pub chain_stands : (judge : Meaning → Faults) (x : TypedTarget) (t : Target) (c : Chain) → IsChain judge t.layout t.steps c → t.wire ≡ x.wire → x.picks ≡ c.picks → x.width ≡ c.width → m.width t.layout ≡ x.wire_width → 1 ≤ x.wire_width → x.wire_width ≤ 128 → StandsFor judge x t
chain_stands judge x t c h w p v whole some most = record {
  wire = w;
  layout = h.layout;
  follows = subst (λ q. Follows judge t.layout t.steps q h.layout) (sym p) h.follows;
  whole = whole;
  some = some;
  most = most;
  width = h.width ∙ sym v;
  narrow = let w = narrow_picks c.picks (m.width t.layout) h.follows.sound (subst (λ (n : ℕ). n ≤ 128) (sym whole) most) in subst (λ (n : ℕ). n ≤ 128) (h.follows.width ∙ h.width ∙ sym v) w;
}

pub target_ok : (judge : Meaning → Faults) (f : Faults) (t : Target) (r : Result TypedTarget TextErr) (x : TypedTarget) → r ≡ Ok x → JudgesTarget judge f t r → IsTarget judge f t x
target_ok judge f t r x e h = subst (JudgesTarget judge f t) e h

pub target_err : (judge : Meaning → Faults) (f : Faults) (t : Target) (r : Result TypedTarget TextErr) (x : TextErr) → r ≡ Err x → JudgesTarget judge f t r → IsCause f x
target_err judge f t r x e h = subst (JudgesTarget judge f t) e h

pub one_stands : (judge : Meaning → Faults) (f : Faults) (t : Target) (x : TypedTarget) (all : List TypedTarget) → all ≡ x ∷ [] → IsTarget judge f t x → AreTargets judge f (t ∷ []) all
one_stands judge f t x all e h = subst (λ (z : List TypedTarget). AreTargets judge f (t ∷ []) z) (sym e) (record { clear = h.clear; stand = (h.stands, tt) })

-- ---- braces

pub targets_ok : (judge : Meaning → Faults) (f : Faults) (ts : List Target) (r : Result (List TypedTarget) TextErr) (all : List TypedTarget) → r ≡ Ok all → JudgesTargets judge f ts r → AreTargets judge f ts all
targets_ok judge f ts r all e h = subst (JudgesTargets judge f ts) e h

pub targets_err : (judge : Meaning → Faults) (f : Faults) (ts : List Target) (r : Result (List TypedTarget) TextErr) (x : TextErr) → r ≡ Err x → JudgesTargets judge f ts r → IsCause f x
targets_err judge f ts r x e h = subst (JudgesTargets judge f ts) e h

pub widths_are : (judge : Meaning → Faults) (all : List TypedTarget) (ts : List Target) → AllZip (StandsFor judge) all ts → widths ts ≡ width_of_all all
unfolding widths width_of_all
widths_are judge [] [] h = refl
widths_are judge [] (t ∷ ts) h = absurd h
widths_are judge (x ∷ all) [] h = absurd h
widths_are judge (x ∷ all) (t ∷ ts) h = let s = h.0 in let r = widths_are judge all ts h.1 in let w : width_or_none (chain_layout t.layout t.steps) ≡ x.width = ap width_or_none s.follows.layout ∙ s.width in omega arith

width_true : (n w : ℕ) → w ≡ min 255 n → 1 ≤ w → w ≤ 128 → is_width n ≡ true
width_true n w e h k = grind (arith, nat_tests)

width_small : (n w : ℕ) → w ≡ min 255 n → w < 1 → is_width n ≡ false
width_small n w e h = grind (arith, nat_tests)

width_large : (n w : ℕ) → w ≡ min 255 n → 128 < w → is_width n ≡ false
width_large n w e h = grind (arith, nat_tests)

pub braced_ok : (judge : Meaning → Faults) (f : Faults) (ts : List Target) (all : List TypedTarget) (p : Place) (w : ℕ) → AreTargets judge f ts all → w ≡ min 255 (width_of_all all) → 1 ≤ w → w ≤ 128 → AreTargets judge (or_then f (wide_target p ts)) ts all
braced_ok judge f ts all p w h e some most = record {
  clear = then_clear f _ h.clear (no_fault _ bad_width p (ap not (ap is_width (widths_are judge all ts h.stand) ∙ width_true _ w e some most)));
  stand = h.stand;
}

braced_wide : (judge : Meaning → Faults) (f : Faults) (ts : List Target) (all : List TypedTarget) (p : Place) → AreTargets judge f ts all → is_width (width_of_all all) ≡ false → IsCause (or_then f (wide_target p ts)) (No (record { number = bad_width; place = p; count = 0 }))
braced_wide judge f ts all p h e = in_second f _ _ h.clear (in_fault _ bad_width p (ap not (ap is_width (widths_are judge all ts h.stand) ∙ e)))

pub braced_none : (judge : Meaning → Faults) (f : Faults) (ts : List Target) (all : List TypedTarget) (p : Place) (w : ℕ) → AreTargets judge f ts all → w ≡ min 255 (width_of_all all) → w < 1 → IsCause (or_then f (wide_target p ts)) (No (record { number = bad_width; place = p; count = 0 }))
braced_none judge f ts all p w h e k = braced_wide judge f ts all p h (width_small _ w e k)

pub braced_many : (judge : Meaning → Faults) (f : Faults) (ts : List Target) (all : List TypedTarget) (p : Place) (w : ℕ) → AreTargets judge f ts all → w ≡ min 255 (width_of_all all) → 128 < w → IsCause (or_then f (wide_target p ts)) (No (record { number = bad_width; place = p; count = 0 }))
braced_many judge f ts all p w h e k = braced_wide judge f ts all p h (width_large _ w e k)

-- ---- targets behind others

zip_append : (judge : Meaning → Faults) (xs : List TypedTarget) (ts : List Target) (ys : List TypedTarget) (us : List Target) → AllZip (StandsFor judge) xs ts → AllZip (StandsFor judge) ys us → AllZip (StandsFor judge) (xs ++ ys) (ts ++ us)
zip_append judge [] [] ys us h k = k
zip_append judge [] (t ∷ ts) ys us h k = absurd h
zip_append judge (x ∷ xs) [] ys us h k = absurd h
zip_append judge (x ∷ xs) (t ∷ ts) ys us h k = (h.0, zip_append judge xs ts ys us h.1 k)

pub targets_both : (judge : Meaning → Faults) (f g : Faults) (xs ys : List Target) (all more both : List TypedTarget) → both ≡ all ++ more → AreTargets judge f xs all → AreTargets judge g ys more → AreTargets judge (f ++ g) (xs ++ ys) both
targets_both judge f g xs ys all more both e h k = subst (λ (z : List TypedTarget). AreTargets judge (f ++ g) (xs ++ ys) z) (sym e) (record { clear = both_clear f g h.clear k.clear; stand = zip_append judge all xs more ys h.stand k.stand })

take_next : (xs : List Lvalue) (i j : ℕ) (x : Lvalue) → i < length xs → j ≡ suc i → x ≡ get_or xs i x → take j xs ≡ take i xs ++ x ∷ []
take_next xs i j x h k e = ap (λ (z : ℕ). take z xs) k ∙ take-suc xs i x h ∙ ap (λ (z : Lvalue). take i xs ++ z ∷ []) (sym e)

split_at : (xs : List Lvalue) (i : ℕ) (x : Lvalue) → i < length xs → x ≡ get_or xs i x → xs ≡ take i xs ++ x ∷ drop (suc i) xs
split_at [] i x h e = absurd (omega arith)
split_at (y ∷ xs) zero x h e = ap (λ (z : Lvalue). z ∷ xs) (sym e)
split_at (y ∷ xs) (suc i) x h e = ap (λ (z : List Lvalue). y ∷ z) (split_at xs i x (omega arith) e)

faults_join : (judge : Meaning → Faults) (index at : m.Scope) (a b : List Lvalue) → all_faults judge index at (a ++ b) ≡ all_faults judge index at a ++ all_faults judge index at b
unfolding all_faults
faults_join judge index at [] b = refl
faults_join judge index at (x ∷ a) b = ap (λ z. lvalue_faults judge index at x ++ z) (faults_join judge index at a b) ∙ sym (append_assoc (lvalue_faults judge index at x) (all_faults judge index at a) (all_faults judge index at b))

targets_join : (index at : m.Scope) (a b : List Lvalue) → all_targets index at (a ++ b) ≡ all_targets index at a ++ all_targets index at b
unfolding all_targets
targets_join index at [] b = refl
targets_join index at (x ∷ a) b = ap (λ z. targets index at x ++ z) (targets_join index at a b) ∙ sym (append_assoc (targets index at x) (all_targets index at a) (all_targets index at b))

faults_one : (judge : Meaning → Faults) (index at : m.Scope) (x : Lvalue) → all_faults judge index at (x ∷ []) ≡ lvalue_faults judge index at x
unfolding all_faults
faults_one judge index at x = append-nil (lvalue_faults judge index at x)

targets_one : (index at : m.Scope) (x : Lvalue) → all_targets index at (x ∷ []) ≡ targets index at x
unfolding all_targets
targets_one index at x = append-nil (targets index at x)

pub targets_begin : (judge : Meaning → Faults) (index at : m.Scope) → AreTargets judge (all_faults judge index at []) (all_targets index at []) []
unfolding all_faults all_targets
targets_begin judge index at = record { clear = refl; stand = tt }

pub targets_go : (judge : Meaning → Faults) (index at : m.Scope) (all : List Lvalue) (i j : ℕ) (x : Lvalue) (r : Result (List TypedTarget) TextErr) → i < length all → j ≡ suc i → x ≡ get_or all i x →
    JudgesTargets judge (all_faults judge index at (take i all) ++ lvalue_faults judge index at x) (all_targets index at (take i all) ++ targets index at x) r → JudgesTargets judge (all_faults judge index at (take j all)) (all_targets index at (take j all)) r
targets_go judge index at all i j x r lt ji e h =
    targets_as judge _ _ _ _ r
    (ap (all_faults judge index at) (take_next all i j x lt ji e) ∙ faults_join judge index at (take i all) (x ∷ []) ∙ ap (λ z. all_faults judge index at (take i all) ++ z) (faults_one judge index at x))
    (ap (all_targets index at) (take_next all i j x lt ji e) ∙ targets_join index at (take i all) (x ∷ []) ∙ ap (λ z. all_targets index at (take i all) ++ z) (targets_one index at x)) h

pub targets_cause : (judge : Meaning → Faults) (index at : m.Scope) (all : List Lvalue) (i : ℕ) (x : Lvalue) (e : TextErr) → i < length all → x ≡ get_or all i x → IsCause (all_faults judge index at (take i all) ++ lvalue_faults judge index at x) e → IsCause (all_faults judge index at all) e
unfolding all_faults
targets_cause judge index at all i x e lt g h =
    let s = ap (all_faults judge index at) (split_at all i x lt g) ∙ faults_join judge index at (take i all) (x ∷ drop (suc i) all) ∙ sym (append_assoc (all_faults judge index at (take i all)) (lvalue_faults judge index at x) (all_faults judge index at (drop (suc i) all))) in
    subst (λ (z : Faults). IsCause z e) (sym s) (cause_left (all_faults judge index at (take i all) ++ lvalue_faults judge index at x) (all_faults judge index at (drop (suc i) all)) e h)

pub targets_end : (judge : Meaning → Faults) (index at : m.Scope) (all : List Lvalue) (i : ℕ) (found : List TypedTarget) → length all ≤ i → AreTargets judge (all_faults judge index at (take i all)) (all_targets index at (take i all)) found → AreTargets judge (all_faults judge index at all) (all_targets index at all) found
targets_end judge index at all i found lt h = subst (λ (z : List Lvalue). AreTargets judge (all_faults judge index at z) (all_targets index at z) found) (take_all i all lt) h

-- ---- the bits of all

pub width_more : (all : List TypedTarget) (i : ℕ) (x : TypedTarget) → i < length all → x ≡ get_or all i x → width_of_all (drop i all) ≡ x.width + width_of_all (drop (i + 1) all)
unfolding width_of_all
width_more all i x h e = at_drop_more width_of_all all i x h ∙ ap (λ y. y.width + width_of_all (drop (i + 1) all)) (sym e)

pub width_end : (all : List TypedTarget) (i : ℕ) → length all ≤ i → width_of_all (drop i all) ≡ 0
unfolding width_of_all
width_end all i h = at_drop_all width_of_all all i h

pub narrow_one : (x : TypedTarget) (all now : List TypedTarget) → all ≡ [] → now ≡ all ++ x ∷ [] → x.width ≤ 128 → width_of_all now ≤ 128
unfolding width_of_all
narrow_one x all now e h k = let w : width_of_all now ≡ x.width + 0 = ap width_of_all h ∙ ap (λ (z : List TypedTarget). width_of_all (z ++ x ∷ [])) e in omega arith

-- ---- productions

pub arm_name : (judge : Meaning → Faults) (index at : m.Scope) (tree : Lvalue) (w : Word) (all given : List Select) (r : Result (List TypedTarget) TextErr) → tree ≡ lv.Name w all → given ≡ all →
    JudgesTargets judge (target_faults judge w.place w (m.find w.text at) (map (step index) given)) (target_of (m.find w.text at) (map (step index) given) ∷ []) r → JudgesTargets judge (lvalue_faults judge index at tree) (targets index at tree) r
arm_name judge index at tree w all given r e g h =
    targets_as judge _ (target_faults judge w.place w (m.find w.text at) (map (step index) given)) _ (target_of (m.find w.text at) (map (step index) given) ∷ []) r
    (ap (lvalue_faults judge index at) e ∙ faults_name judge index at w all ∙ ap (λ (z : List Select). target_faults judge w.place w (m.find w.text at) (map (step index) z)) (sym g))
    (ap (targets index at) e ∙ targets_name index at w all ∙ ap (λ (z : List Select). target_of (m.find w.text at) (map (step index) z) ∷ []) (sym g)) h

pub arm_concat : (judge : Meaning → Faults) (index at : m.Scope) (tree : Lvalue) (p : Place) (all given : List Lvalue) (r : Result (List TypedTarget) TextErr) → tree ≡ lv.Concat p all → given ≡ all →
    JudgesTargets judge (or_then (all_faults judge index at given) (wide_target p (all_targets index at given))) (all_targets index at given) r → JudgesTargets judge (lvalue_faults judge index at tree) (targets index at tree) r
arm_concat judge index at tree p all given r e g h =
    targets_as judge _ (or_then (all_faults judge index at given) (wide_target p (all_targets index at given))) _ (all_targets index at given) r
    (ap (lvalue_faults judge index at) e ∙ faults_concat judge index at p all ∙ ap (λ (z : List Lvalue). or_then (all_faults judge index at z) (wide_target p (all_targets index at z))) (sym g))
    (ap (targets index at) e ∙ targets_concat index at p all ∙ ap (all_targets index at) (sym g)) h

pub what_wire : (judge : Meaning → Faults) (p : Place) (w : Word) (what : What) (n : ℕ) (x : Layout) (steps : List Step) (r : Result TypedTarget TextErr) → what ≡ Wire n x →
    JudgesTarget judge (chain_faults judge (layout_is x) steps) (record { wire = n; layout = layout_is x; steps = steps }) r → JudgesTarget judge (target_faults judge p w (Some (what_is what)) steps) (target_of (Some (what_is what)) steps) r
what_wire judge p w what n x steps r e h = subst (λ (z : What). JudgesTarget judge (target_faults judge p w (Some (what_is z)) steps) (target_of (Some (what_is z)) steps) r) (sym e) h
