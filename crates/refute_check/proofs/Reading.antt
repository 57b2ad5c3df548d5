-- A step's row as it is read.
use Rattle.std.proofs.Common.{◌≡◌, ℕ, zero, suc, ◌<◌, ◌≤◌, ◌+◌, ◌-◌, List, [], ◌∷◌, ◌++◌, length, map, take, drop, refl, sym, ap, ◌∙◌, arith, subst, append_assoc}
use Rattle.std.specs.List.{All, Contains}
use Rattle.std.proofs.lemmas.List.{append-nil, take_all, drop_all}
use Rattle.std.proofs.lemmas.List.Elements.{All-contains, Contains-append_right}
use Rattle.refute_check.specs.declared.number.Number.{Number}
use Rattle.refute_check.specs.Groups.{value}
use Rattle.cnf.specs.declared.Dim.{Dim}
use Rattle.refute_check.specs.Entry.{Entry}
use Rattle.refute_check.specs.Packed.{literal_of, place_at, places_at, entry_from}

-- ---- readers

pub taken_none : (left : ℕ) (rest : List Number) → left ≡ 0 → map literal_of (take left rest) ≡ []
taken_none left rest e = ap (λ k. map literal_of (take k rest)) e

pub taken_end : (left : ℕ) (rest : List Number) → rest ≡ [] → map literal_of (take left rest) ≡ []
taken_end left rest e = ap (λ l. map literal_of (take left l)) e ∙ ap (λ l. map literal_of l) (take_all left [] (omega arith))

pub taken_more : (left after : ℕ) (rest later : List Number) (n : Number) → 0 < left → after ≡ left - 1 → rest ≡ n ∷ later →
    map literal_of (take left rest) ≡ literal_of n ∷ map literal_of (take after later)
taken_more left after rest later n lt e is =
    let s : left ≡ suc after = omega arith in
    ap (λ l. map literal_of (take left l)) is ∙ ap (λ k. map literal_of (take k (n ∷ later))) s

pub hints_end : (last : ℕ) (rest : List Number) → rest ≡ [] → places_at last (map literal_of rest) ≡ []
hints_end last rest e = ap (λ l. places_at last (map literal_of l)) e

pub hints_more : (last h : ℕ) (rest later : List Number) (n : Number) → rest ≡ n ∷ later → h ≡ place_at last (literal_of n) →
    places_at last (map literal_of rest) ≡ h ∷ places_at h (map literal_of later)
hints_more last h rest later n e is =
    ap (λ l. places_at last (map literal_of l)) e ∙ ap (λ (k : ℕ). k ∷ places_at k (map literal_of later)) (sym is)

-- ---- the parts of a row

pub clause_none : (row rest : List Number) → row ≡ [] → map literal_of (take 0 rest) ≡ (entry_from row).clause
unfolding entry_from
clause_none row rest e = sym (ap (λ l. (entry_from l).clause) e)

pub clause_some : (row rest : List Number) (n : Number) → row ≡ n ∷ rest → map literal_of (take (value n) rest) ≡ (entry_from row).clause
unfolding entry_from
clause_some row rest n e = sym (ap (λ l. (entry_from l).clause) e)

pub hints_none : (row rest : List Number) → row ≡ [] → rest ≡ [] → places_at 0 (map literal_of rest) ≡ (entry_from row).hints
unfolding entry_from
hints_none row rest e f = ap (λ l. places_at 0 (map literal_of l)) f ∙ sym (ap (λ l. (entry_from l).hints) e)

pub hints_some : (row rest left : List Number) (n : Number) → row ≡ n ∷ rest → left ≡ drop (value n) rest → places_at 0 (map literal_of left) ≡ (entry_from row).hints
unfolding entry_from
hints_some row rest left n e f = ap (λ l. places_at 0 (map literal_of l)) f ∙ sym (ap (λ l. (entry_from l).hints) e)

-- ---- a loop over what is left

pub shorter : {X : Type 0} (left later : List X) (x : X) → left ≡ x ∷ later → length later < length left
shorter left later x e = let l : length left ≡ suc (length later) = ap length e in omega arith

pub moved : {X : Type 0} (front left later all new : List X) (x : X) → left ≡ x ∷ later → new ≡ front ++ x ∷ [] → front ++ left ≡ all → new ++ later ≡ all
moved front left later all new x e is h = ap (λ l. l ++ later) is ∙ append_assoc front (x ∷ []) later ∙ ap (λ l. front ++ l) (sym e) ∙ h

pub moved_all : {X : Type 0} (front left all : List X) → left ≡ [] → front ++ left ≡ all → front ≡ all
moved_all front left all e h = sym (append-nil front) ∙ ap (λ l. front ++ l) (sym e) ∙ h

-- what is said of the front of a list of which so much is left
abbrev pub Walk : (List Dim → Type 0) → List Dim → List Dim → Type 0
Walk P left all = (front : List Dim) × (front ++ left ≡ all) × P front

pub walk_start : (P : List Dim → Type 0) (all : List Dim) → P [] → Walk P all all
walk_start P all h = ([], refl, h)

pub walk_more : (P Q : List Dim → Type 0) (left later all : List Dim) (d : Dim) → left ≡ d ∷ later → (w : Walk P left all) → Q (w.0 ++ d ∷ []) → Walk Q later all
walk_more P Q left later all d e w h = (w.0 ++ d ∷ [], moved w.0 left later all (w.0 ++ d ∷ []) d e refl w.1, h)

pub walk_end : (P : List Dim → Type 0) (left all : List Dim) → left ≡ [] → Walk P left all → P all
walk_end P left all e w = subst P (moved_all w.0 left all e w.1) w.2

pub walk_whole : (P : List Dim → Type 0) (left later all : List Dim) (d : Dim) → left ≡ d ∷ later → (w : Walk P left all) → w.0 ++ d ∷ later ≡ all
walk_whole P left later all d e w = ap (λ l. w.0 ++ l) (sym e) ∙ w.1

pub walk_at : (P : List Dim → Type 0) (R : Dim → Type 0) (left later all : List Dim) (d : Dim) → All R all → left ≡ d ∷ later → Walk P left all → R d
walk_at P R left later all d h e w =
    All-contains R all d h (subst (λ (l : List Dim). Contains l d) (walk_whole P left later all d e w) (Contains-append_right w.0 (d ∷ later) d (0, omega arith, refl)))
