-- A fresh log over v variables has fewer than 3 ^ v steps.
use Rattle.std.proofs.Common.{◌≡◌, ◌≢◌, ℕ, zero, suc, ◌<◌, ◌≤◌, ◌+◌, ◌^◌, Bool, true, false, cond, ◌||◌, List, [], ◌∷◌, ◌++◌, length, get_or, map, take, Some, sym, refl, ap, ◌∙◌, arith, subst, ⊎_elim, append_assoc, add-one}
use Rattle.std.specs.List.{All, Contains, list_all}
use Rattle.std.proofs.lemmas.Bool.{cases_Bool, cases_lt, eq-eqb, ne_eqb, false≢true, or_from}
use Rattle.std.proofs.lemmas.List.{take_more, map-append, append-nil, get_or_append_left}
use Rattle.std.proofs.lemmas.List.Elements.{All-weaker, All-nil, All-cons}
use Rattle.cnf.specs.declared.Dim.{Dim}
use Rattle.cnf.specs.Formula.{Formula}
use Rattle.cnf.specs.Clauses.{denied, all_open, Valuation, IsFalsified, IsConflict}
use Rattle.refute_check.specs.Entry.{Entry, no_entry}
use Rattle.refute_check.specs.Accepted.{known, entry_at}
use Rattle.refute_check.proofs.Denials.{denied_contains}
use Rattle.refute_check.specs.Fresh.{NamesOnce, Subsumes, IsNew, IsFresh}
use Rattle.refute_check.specs.Count.{is_false, some_false, free_count}
use Rattle.refute_check.proofs.Counts.{new_less, free_count_most}

-- of a clause that names each variable once, each literal is false where all are
pub own_denied : (c : List Dim) → NamesOnce c → All (IsFalsified (denied c)) c
own_denied [] h = All-nil (IsFalsified (denied []))
own_denied (x ∷ xs) h = All-cons (IsFalsified (denied (x ∷ xs))) x xs
    (ap (λ t. cond t (Some x.negated) (denied xs x.var)) (eq-eqb x.var x.var refl))
    (λ j d jl. ap (λ t. cond t (Some x.negated) (denied xs (get_or xs j d).var)) (ne_eqb _ x.var (h.0 j d jl)) ∙ own_denied xs h.1 j d jl)

-- a clause whose literals all are false where those of c are stands within c
conflict_within : (c other : List Dim) → IsConflict (denied c) other → Subsumes other c
conflict_within c other f j d jl = let x : Dim = get_or other j d in denied_contains c x.var x.negated (f j d jl)

step_less : (vars : ℕ) (db : List (List Dim)) (s : Entry) → IsNew vars db s → free_count vars (db ++ s.clause ∷ []) all_open < free_count vars db all_open
step_less vars db s new = new_less vars db s.clause new.derived.in_range (own_denied s.clause new.once)
    (All-weaker (λ c. Subsumes c s.clause → ⊥) (λ c. IsConflict (denied s.clause) c → ⊥) (λ c h f. h (conflict_within s.clause c f)) db new.fresh)

known_more : (formula : Formula) (log : List Entry) (k : ℕ) → k < length log → known formula log (k + 1) ≡ known formula log k ++ (entry_at log k).clause ∷ []
known_more formula log k lt =
    ap (λ l. formula.clauses ++ map (λ (s : Entry). s.clause) l) (take_more log k no_entry lt)
    ∙ ap (λ l. formula.clauses ++ l) (map-append (λ (s : Entry). s.clause) (take k log) (entry_at log k ∷ []))
    ∙ sym (append_assoc formula.clauses (map (λ (s : Entry). s.clause) (take k log)) ((entry_at log k).clause ∷ []))

some_false_push : (db : List (List Dim)) (c : List Dim) (a : Valuation) → some_false db a ≡ false → list_all (is_false a) c ≡ false → some_false (db ++ c ∷ []) a ≡ false
some_false_push [] c a h k = or_from (list_all (is_false a) c) false k refl
some_false_push (x ∷ db) c a h k =
    let P : Bool → Type 0 = λ t. (t || some_false db a) ≡ false → (t || some_false (db ++ c ∷ []) a) ≡ false in
    let at : (t : Bool) → P t = λ t. elim t as P [ true ↦ λ e. e | false ↦ λ e. some_false_push db c a e k ] in
    at (list_all (is_false a) x) h

-- where nothing has a value, only the empty clause is false
open_false : (c : List Dim) → c ≢ [] → list_all (is_false all_open) c ≡ false
open_false [] ne = absurd (ne refl)
open_false (d ∷ c) ne = refl

some_empty : (db : List (List Dim)) → some_false db all_open ≡ true → (k : ℕ) × (k < length db) × ((d : List Dim) → get_or db k d ≡ [])
some_empty [] h = absurd (false≢true h)
some_empty ([] ∷ db) h = (0, omega arith, λ d. refl)
some_empty ((x ∷ c) ∷ db) h = let r = some_empty db h in let lt : r.0 < length db = r.1 in (suc r.0, omega arith, r.2)

free_some : (n : ℕ) (db : List (List Dim)) (a : Valuation) → some_false db a ≡ false → 1 ≤ free_count n db a
free_some zero db a h = rw h (omega arith)
free_some (suc n) db a h = omega (arith, free_some n db a h)

-- after k steps
after : (formula : Formula) (log : List Entry) (n : ℕ) → IsFresh formula log n → some_false formula.clauses all_open ≡ false → (k : ℕ) → k ≤ n →
    (some_false (known formula log k) all_open ≡ false) × (free_count formula.vars (known formula log k) all_open + k ≤ 3 ^ formula.vars)
after formula log n fresh some zero le = (
  subst (λ (db : List (List Dim)). some_false db all_open ≡ false) (sym (append-nil formula.clauses)) some,
  omega (arith, free_count_most formula.vars (known formula log 0) all_open),
)
after formula log n fresh some (suc k) le =
    let before = after formula log n fresh some k (omega arith) in
    let lt : k < length log = let c : length log ≡ n = fresh.count in omega arith in
    let new = fresh.each k (omega arith) in
    let less = step_less formula.vars (known formula log k) (entry_at log k) new in
    let now : known formula log (suc k) ≡ known formula log k ++ (entry_at log k).clause ∷ [] = ap (known formula log) (sym (add-one k)) ∙ known_more formula log k lt in (
      subst (λ (db : List (List Dim)). some_false db all_open ≡ false) (sym now) (some_false_push (known formula log k) (entry_at log k).clause all_open before.0 (open_false (entry_at log k).clause new.some)),
      (let e : free_count formula.vars (known formula log (suc k)) all_open ≡ free_count formula.vars (known formula log k ++ (entry_at log k).clause ∷ []) all_open = ap (λ db. free_count formula.vars db all_open) now in
          omega (arith, before.1, less, e)),
    )

three : (v : ℕ) → 1 ≤ 3 ^ v
three zero = omega arith
three (suc v) = omega (arith, three v)

pub fresh_short : (formula : Formula) (log : List Entry) (n : ℕ) → IsFresh formula log n → n < 3 ^ formula.vars
fresh_short formula log n fresh = ⊎_elim
    (λ empty. ⊎_elim
    (λ lt. absurd (let e = some_empty formula.clauses empty in
    let here : get_or (known formula log 0) e.0 [] ≡ [] = get_or_append_left formula.clauses [] [] e.0 e.1 ∙ e.2 [] in
    let kl : e.0 < length (known formula log 0) = (let l : length (known formula log 0) ≡ length formula.clauses = ap length (append-nil formula.clauses) in let lt2 : e.0 < length formula.clauses = e.1 in omega arith) in
    (fresh.each 0 lt).fresh e.0 [] kl (subst (λ (c : List Dim). Subsumes c (entry_at log 0).clause) (sym here) (All-nil (Contains (entry_at log 0).clause)))))
    (λ le. let z : n ≡ 0 = omega arith in omega (arith, three formula.vars))
    (cases_lt 0 n))
    (λ some. let end = after formula log n fresh some n (omega arith) in
    let one = free_some formula.vars (known formula log n) all_open end.0 in omega (arith, end.1, one))
    (cases_Bool (some_false formula.clauses all_open))
