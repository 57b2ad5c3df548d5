-- A new clause leaves fewer sets of literals that contain no clause.
use Rattle.std.proofs.Common.{◌≡◌, ℕ, zero, suc, ◌<◌, ◌≤◌, ◌^◌, Bool, true, false, ◌||◌, cond, List, [], ◌∷◌, ◌++◌, Option, Some, None, sym, refl, ap, ◌∙◌, arith, ⊎_elim}
use mathlib.Core.Bool.{beq}
use mathlib.Core.Path.{fun_ext}
use Rattle.std.specs.List.{All, list_all}
use Rattle.std.proofs.lemmas.Bool.{cases_Bool, eq-eqb, ne_eqb, false≢true, cases_eq, and_parts, and_from, or_from, false_from_ne_true}
use Rattle.std.proofs.lemmas.Option.{same_Some}
use Rattle.std.proofs.lemmas.List.Elements.{All-nil, All-cons, All-head, All-tail}
use Rattle.cnf.specs.declared.Dim.{Dim}
use Rattle.refute_check.specs.Count.{is_false, some_false, with, free_count}
use Rattle.cnf.specs.Clauses.{Valuation, denied, all_open, IsFalsified, IsConflict}

beq_same : (b n : Bool) → beq b n ≡ true → b ≡ n
beq_same true true h = refl
beq_same true false h = cc
beq_same false true h = cc
beq_same false false h = refl

beq_refl : (n : Bool) → beq n n ≡ true
beq_refl true = refl
beq_refl false = refl

some_false_more : (db : List (List Dim)) (c : List Dim) (a : Valuation) → some_false db a ≡ true → some_false (db ++ c ∷ []) a ≡ true
some_false_more [] c a h = absurd (false≢true h)
some_false_more (x ∷ db) c a h =
    let P : Bool → Type 0 = λ t. (t || some_false db a) ≡ true → (t || some_false (db ++ c ∷ []) a) ≡ true in
    let at : (t : Bool) → P t = λ t. elim t as P [ true ↦ λ k. refl | false ↦ λ k. some_false_more db c a k ] in
    at (list_all (is_false a) x) h

some_false_last : (db : List (List Dim)) (c : List Dim) (a : Valuation) → list_all (is_false a) c ≡ true → some_false (db ++ c ∷ []) a ≡ true
some_false_last [] c a h = rw h refl
some_false_last (x ∷ db) c a h =
    let P : Bool → Type 0 = λ t. (t || some_false (db ++ c ∷ []) a) ≡ true in
    let at : (t : Bool) → P t = λ t. elim t as P [ true ↦ refl | false ↦ some_false_last db c a h ] in
    at (list_all (is_false a) x)

pub free_count_most : (n : ℕ) (db : List (List Dim)) (a : Valuation) → free_count n db a ≤ 3 ^ n
free_count_most zero db a =
    let P : Bool → Type 0 = λ t. cond t 0 1 ≤ 3 ^ 0 in
    let at : (t : Bool) → P t = λ t. elim t as P [ true ↦ omega arith | false ↦ omega arith ] in at (some_false db a)
free_count_most (suc n) db a = omega (arith, free_count_most n db a, free_count_most n db (with a n true), free_count_most n db (with a n false))

pub free_count_more : (n : ℕ) (db : List (List Dim)) (c : List Dim) (a : Valuation) → free_count n (db ++ c ∷ []) a ≤ free_count n db a
free_count_more zero db c a = ⊎_elim
    (λ e. rw (some_false_more db c a e) (omega arith))
    (λ e. rw e (let P : Bool → Type 0 = λ t. cond t 0 1 ≤ 1 in let at : (t : Bool) → P t = λ t. elim t as P [ true ↦ omega arith | false ↦ omega arith ] in at (some_false (db ++ c ∷ []) a)))
    (cases_Bool (some_false db a))
free_count_more (suc n) db c a = omega (arith, free_count_more n db c a, free_count_more n db c (with a n true), free_count_more n db c (with a n false))

with_low : (n : ℕ) (a : Valuation) (b : Bool) → ((v : ℕ) → v < suc n → a v ≡ None) → (v : ℕ) → v < n → with a n b v ≡ None
with_low n a b low v lt = ap (λ t. cond t (Some b) (a v)) (ne_eqb v n (λ s. omega arith)) ∙ low v (omega arith)

above_none : (n : ℕ) (c : List Dim) (a : Valuation) → a n ≡ None → ((v : ℕ) → suc n ≤ v → a v ≡ denied c v) → denied c n ≡ None → (v : ℕ) → n ≤ v → a v ≡ denied c v
above_none n c a here high e v le = ⊎_elim (λ s. rw s (here ∙ sym e)) (λ ne. high v (omega arith)) (cases_eq v n)

above_some : (n : ℕ) (c : List Dim) (a : Valuation) (b : Bool) → ((v : ℕ) → suc n ≤ v → a v ≡ denied c v) → denied c n ≡ Some b → (v : ℕ) → n ≤ v → with a n b v ≡ denied c v
above_some n c a b high e v le = ⊎_elim
    (λ s. ap (λ t. cond t (Some b) (a v)) (eq-eqb v n s) ∙ sym e ∙ ap (denied c) (sym s))
    (λ ne. ap (λ t. cond t (Some b) (a v)) (ne_eqb v n ne) ∙ high v (omega arith))
    (cases_eq v n)

-- c is false where its literals are false, and nothing else is by then
pub free_count_less : (n : ℕ) (db : List (List Dim)) (c : List Dim) (a : Valuation) → ((v : ℕ) → v < n → a v ≡ None) → ((v : ℕ) → n ≤ v → a v ≡ denied c v) →
    some_false db (denied c) ≡ false → list_all (is_false (denied c)) c ≡ true → free_count n (db ++ c ∷ []) a < free_count n db a
free_count_less zero db c a low high new own =
    let e : a ≡ denied c = fun_ext (λ v. high v (omega arith)) in
    rw (e, new, some_false_last db c (denied c) own) (omega arith)
free_count_less (suc n) db c a low high new own =
    let m = free_count_more n db c a in
    let mt = free_count_more n db c (with a n true) in
    let mf = free_count_more n db c (with a n false) in
    let P : Option Bool → Type 0 = λ o. denied c n ≡ o → free_count (suc n) (db ++ c ∷ []) a < free_count (suc n) db a in
    let at : (o : Option Bool) → P o = λ o. elim o as P [
      | None ↦ λ e. let less : free_count n (db ++ c ∷ []) a < free_count n db a = free_count_less n db c a (λ v lt. low v (omega arith)) (above_none n c a (low n (omega arith)) high e) new own in omega arith
      | Some b ↦ λ e. ⊎_elim
          (λ s. let less : free_count n (db ++ c ∷ []) (with a n true) < free_count n db (with a n true) = free_count_less n db c (with a n true) (with_low n a true low) (above_some n c a true high (e ∙ ap Some s)) new own in omega arith)
          (λ s. let less : free_count n (db ++ c ∷ []) (with a n false) < free_count n db (with a n false) = free_count_less n db c (with a n false) (with_low n a false low) (above_some n c a false high (e ∙ ap Some s)) new own in omega arith)
          (cases_Bool b)
    ] in
    at (denied c n) refl

false_here : (o : Option Bool) (n : Bool) → elim o as (λ _. Bool) [ None ↦ false | Some b ↦ beq b n ] ≡ true → o ≡ Some n
false_here None n h = absurd (false≢true h)
false_here (Some b) n h = ap Some (beq_same b n h)

here_false : (o : Option Bool) (n : Bool) → o ≡ Some n → elim o as (λ _. Bool) [ None ↦ false | Some b ↦ beq b n ] ≡ true
here_false None n h = cc
here_false (Some b) n h = let e : b ≡ n = same_Some b n h in rw e (beq_refl n)

false_test : (a : Valuation) (c : List Dim) → list_all (is_false a) c ≡ true → All (IsFalsified a) c
false_test a [] h = All-nil (IsFalsified a)
false_test a (d ∷ c) h = let both = and_parts (is_false a d) (list_all (is_false a) c) h in
    All-cons (IsFalsified a) d c (false_here (a d.var) d.negated both.0) (false_test a c both.1)

test_false : (a : Valuation) (c : List Dim) → All (IsFalsified a) c → list_all (is_false a) c ≡ true
test_false a [] h = refl
test_false a (d ∷ c) h = and_from (is_false a d) (list_all (is_false a) c) (here_false (a d.var) d.negated (All-head (IsFalsified a) d c h)) (test_false a c (All-tail (IsFalsified a) d c h))

none_false : (a : Valuation) (db : List (List Dim)) → All (λ c. IsConflict a c → ⊥) db → some_false db a ≡ false
none_false a [] h = refl
none_false a (c ∷ db) h =
    or_from (list_all (is_false a) c) (some_false db a)
    (false_from_ne_true _ (λ t. All-head (λ c. IsConflict a c → ⊥) c db h (false_test a c t)))
    (none_false a db (All-tail (λ c. IsConflict a c → ⊥) c db h))

denied_past : (vars : ℕ) (c : List Dim) → All (λ d. d.var < vars) c → (v : ℕ) → vars ≤ v → denied c v ≡ None
denied_past vars [] h v le = refl
denied_past vars (d ∷ c) h v le = let lt : d.var < vars = All-head (λ d. d.var < vars) d c h in
    ap (λ t. cond t (Some d.negated) (denied c v)) (ne_eqb v d.var (λ s. omega arith)) ∙ denied_past vars c (All-tail (λ d. d.var < vars) d c h) v le

-- a clause that contains no earlier one leaves fewer
pub new_less : (vars : ℕ) (db : List (List Dim)) (c : List Dim) → All (λ d. d.var < vars) c → All (IsFalsified (denied c)) c → All (λ k. IsConflict (denied c) k → ⊥) db →
    free_count vars (db ++ c ∷ []) all_open < free_count vars db all_open
new_less vars db c range own new =
    free_count_less vars db c all_open (λ v lt. refl) (λ v le. sym (denied_past vars c range v le)) (none_false (denied c) db new) (test_false (denied c) c own)
