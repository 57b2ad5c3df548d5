-- The wires that are overridden in a phase, sorted and each once.
use Rattle.std.proofs.Common.{◌≡◌, ℕ, List, [], ◌∷◌, Bool, true, false, cond, eqb, ◌||◌, ◌&&◌, Option, refl, sym, ◌∙◌, ap, subst, arith, IsTrue}
use Rattle.std.specs.Prelude.{Contains, ◌↔◌}
use Rattle.std.specs.List.{dedup, list_any}
use Rattle.std.specs.List.Sorted.{IsPermutation, IsSorted}
use Rattle.std.specs.Ordering.{nat_cmp}
use Rattle.std.proofs.lemmas.Bool.Decides.{nat_tests}
use Rattle.std.proofs.lemmas.List.Folds.{Any-from_list_any, list_any-append, list_any-from_Any}
use Rattle.std.proofs.lemmas.List.Kept.{AllPairs-from_increasing, Contains-dedup_nat, Contains-from_dedup}
use Rattle.std.proofs.lemmas.List.Sorted.{Contains-permutation, IsPermutation-sym}
use Rattle.std.proofs.lemmas.Map.Keys.{IsStrictlyIncreasing-dedup}
use Rattle.svtv_table.specs.Overs.{IsAscending, is_overridden_at, set_wire, set_wires, sets_in}
use Rattle.svtv_table.specs.declared.bound.Drive.{Drive}

pub ascends : (sorted kept : List ℕ) → IsSorted nat_cmp sorted → kept ≡ dedup eqb sorted → IsAscending kept
ascends sorted kept s e = subst IsAscending (sym e) (λ i j l m. AllPairs-from_increasing (dedup eqb sorted) (IsStrictlyIncreasing-dedup sorted s) i j 0 l m)

-- ---- which they are

abbrev has : ℕ → List ℕ → Bool
has n numbers = list_any (λ m. eqb m n) numbers

one_set : (m n : ℕ) (b : Bool) → has n (cond b (m ∷ []) []) ≡ (eqb m n && b)
one_set m n true = by_test (eqb m n)
  where
    by_test : (t : Bool) → (t || false) ≡ (t && true)
    by_test true = refl
    by_test false = refl
one_set m n false = by_test (eqb m n)
  where
    by_test : (t : Bool) → false ≡ (t && false)
    by_test true = refl
    by_test false = refl

all_set : (overs : List (ℕ × List (Option Drive))) (phase n : ℕ) → has n (set_wires overs phase) ≡ is_overridden_at overs phase n
all_set [] phase n = refl
all_set (row ∷ overs) phase n =
    list_any-append (λ m. eqb m n) (set_wire phase row) (set_wires overs phase)
    ∙ (ap (λ b. b || has n (set_wires overs phase)) (one_set row.0 n (sets_in row.1 phase)) ∙ ap (λ b. (eqb row.0 n && sets_in row.1 phase) || b) (all_set overs phase n))

same_number : (m n : ℕ) → eqb m n ≡ true → m ≡ n
same_number m n e = grind (arith, nat_tests, e)

contained : (numbers : List ℕ) (n : ℕ) → has n numbers ≡ true → Contains numbers n
contained numbers n h =
    let any = Any-from_list_any (λ m. eqb m n) numbers h in
    subst (Contains numbers) (same_number any.1 n any.4) (any.0, any.2, any.3)

has_it : (numbers : List ℕ) (n : ℕ) → Contains numbers n → has n numbers ≡ true
has_it numbers n h = let e : eqb n n ≡ true = grind (arith, nat_tests) in list_any-from_Any (λ m. eqb m n) numbers (h.0, n, h.1, h.2, e)

pub exactly : (overs : List (ℕ × List (Option Drive))) (phase : ℕ) (wires sorted kept : List ℕ) → wires ≡ set_wires overs phase → IsPermutation wires sorted → kept ≡ dedup eqb sorted
    → (n : ℕ) → Contains kept n ↔ IsTrue (is_overridden_at overs phase n)
exactly overs phase wires sorted kept w p e n = (
  λ h.
      let there : Contains wires n = Contains-permutation sorted wires n (IsPermutation-sym wires sorted p) (Contains-from_dedup eqb sorted n (subst (λ ns. Contains ns n) e h)) in
      sym (all_set overs phase n) ∙ has_it (set_wires overs phase) n (subst (λ ns. Contains ns n) w there),
  λ h.
      let there : Contains wires n = subst (λ ns. Contains ns n) (sym w) (contained (set_wires overs phase) n (all_set overs phase n ∙ h)) in
      subst (λ ns. Contains ns n) (sym e) (Contains-dedup_nat sorted n (Contains-permutation wires sorted n p there)),
)
