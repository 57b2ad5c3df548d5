-- How the search ends.
use Rattle.std.proofs.Common.{◌≡◌, ℕ, zero, suc, ◌<◌, ◌≤◌, ◌+◌, Bool, false, List, [], ◌∷◌, ◌++◌, length, get_or, map, take, Option, Some, None, sym, refl, ap, ◌∙◌, arith, subst, ⊎_elim, length-append}
use Rattle.std.specs.Prelude.{unwrap_or, IfSome, IsSomeAnd, IsTrue}
use Rattle.std.specs.List.{All}
use Rattle.std.proofs.lemmas.List.{take-append-le, get_or_append_left, length-map}
use Rattle.std.proofs.lemmas.List.Elements.{Contains-get_or}
use Rattle.std.proofs.lemmas.Bool.{cases_lt, false≢true}
use Rattle.std.proofs.Math.Seq.{get_or-append_seam}
use Rattle.cnf.specs.declared.Dim.{Dim}
use Rattle.cnf.specs.Formula.{Formula}
use Rattle.cnf.specs.Clauses.{ClauseHolds, Solves, IsConflict, AllBelow, valuation}
use Rattle.refute_check.specs.Entry.{Entry, no_entry}
use Rattle.refute_check.specs.Accepted.{IsDerived, IsAccepted, known, known_of, entry_at}
use Rattle.refute_check.proofs.Refutes.{holds_or_not}
use Rattle.sat_state.specs.Trail.{IsQuiet}
use Rattle.refute_check.specs.Fresh.{IsNew, IsFresh}

known_front : (formula : Formula) (log : List Entry) (s : Entry) (k : ℕ) → k ≤ length log → known formula (log ++ s ∷ []) k ≡ known formula log k
known_front formula log s k le = ap (λ l. formula.clauses ++ map (λ (t : Entry). t.clause) l) (take-append-le k log (s ∷ []) le)

entry_front : (log : List Entry) (s : Entry) (k : ℕ) → k < length log → entry_at (log ++ s ∷ []) k ≡ entry_at log k
entry_front log s k lt = get_or_append_left log (s ∷ []) no_entry k lt

pub entry_last : (log : List Entry) (s : Entry) → entry_at (log ++ s ∷ []) (length log) ≡ s
entry_last log s = get_or-append_seam log s [] no_entry

-- what holds of each step and of the one more holds of all
pub each_push : (P : List (List Dim) → Entry → Type 0) (formula : Formula) (log : List Entry) (s : Entry) → ((k : ℕ) → k < length log → P (known formula log k) (entry_at log k)) →
    P (known formula log (length log)) s → (k : ℕ) → k < length (log ++ s ∷ []) → P (known formula (log ++ s ∷ []) k) (entry_at (log ++ s ∷ []) k)
each_push P formula log s each last k lt =
    let len : length (log ++ s ∷ []) ≡ length log + 1 = length-append log (s ∷ []) in
    ⊎_elim
    (λ front. subst (λ (e : Entry). P (known formula (log ++ s ∷ []) k) e) (sym (entry_front log s k front))
    (subst (λ (db : List (List Dim)). P db (entry_at log k)) (sym (known_front formula log s k (omega arith))) (each k front)))
    (λ past. let here : k ≡ length log = omega arith in
    subst (λ (j : ℕ). P (known formula (log ++ s ∷ []) j) (entry_at (log ++ s ∷ []) j)) (sym here)
    (subst (λ (e : Entry). P (known formula (log ++ s ∷ []) (length log)) e) (sym (entry_last log s))
    (subst (λ (db : List (List Dim)). P db s) (sym (known_front formula log s (length log) (omega arith))) last)))
    (cases_lt k (length log))

pub fresh_push : (formula : Formula) (log : List Entry) (s : Entry) → IsFresh formula log (length log) → IsNew formula.vars (known formula log (length log)) s →
    IsFresh formula (log ++ s ∷ []) (length (log ++ s ∷ []))
fresh_push formula log s fresh new = record { count = refl; each = each_push (IsNew formula.vars) formula log s fresh.each new }

pub accepted_push : (formula : Formula) (log : List Entry) (s : Entry) → IsFresh formula log (length log) → IsDerived formula.vars (known formula log (length log)) s → s.clause ≡ [] →
    IsAccepted formula (log ++ s ∷ [])
accepted_push formula log s fresh derived empty = record {
  derived = each_push (IsDerived formula.vars) formula log s (λ k lt. (fresh.each k lt).derived) derived;
  empty = (length log, (let len : length (log ++ s ∷ []) ≡ length log + 1 = length-append log (s ∷ []) in omega arith), ap (λ (e : Entry). e.clause) (entry_last log s) ∙ empty);
}

-- the values as they are written down
pub value_written : (values : List (Option Bool)) (v : ℕ) (b : Bool) → valuation values v ≡ Some b → get_or (map (λ o. unwrap_or o false) values) v false ≡ b
value_written [] v b h = cc
value_written (o ∷ values) zero b h = ap (λ p. unwrap_or p false) h
value_written (o ∷ values) (suc v) b h = value_written values v b h

some_value : (values : List (Option Bool)) (v : ℕ) → v < length values → All (λ o. o ≡ None → ⊥) values → (b : Bool) × (valuation values v ≡ Some b)
some_value values v lt full =
    let P : Option Bool → Type 0 = λ o. valuation values v ≡ o → (b : Bool) × (valuation values v ≡ Some b) in
    let at : (o : Option Bool) → P o = λ o. elim o as P [ None ↦ λ e. absurd (full v None lt e) | Some b ↦ λ e. (b, e) ] in
    at (valuation values v) refl

-- Where nothing is open, a clause that is not false holds.
full_holds : (values : List (Option Bool)) (c : List Dim) → All (λ o. o ≡ None → ⊥) values → All (λ d. d.var < length values) c → (IsConflict (valuation values) c → ⊥) →
    ClauseHolds (λ v. get_or (map (λ o. unwrap_or o false) values) v false) c
full_holds values c full range calm =
    let w : ℕ → Bool = λ v. get_or (map (λ o. unwrap_or o false) values) v false in
    ⊎_elim (λ h. h)
    (λ fails. absurd (calm (λ j e jl.
    let d : Dim = get_or c j e in
    let has = some_value values d.var (range j e jl) full in
    has.1 ∙ ap Some (sym (value_written values d.var has.0 has.1) ∙ fails d (Contains-get_or c j e jl)))))
    (holds_or_not w c)

pub sat_end : (values : List (Option Bool)) (clauses : List (List Dim)) (log : List Entry) (found : List Bool) → IsQuiet (known_of clauses log (length log)) (valuation values) → All (λ o. o ≡ None → ⊥) values →
    AllBelow (length values) clauses → found ≡ map (λ o. unwrap_or o false) values → (length found ≡ length values) × Solves (λ v. get_or found v false) clauses
sat_end values clauses log found quiet full range is = (
  ap length is ∙ length-map values (λ (o : Option Bool). unwrap_or o false),
  subst (λ (f : List Bool). Solves (λ v. get_or f v false) clauses) (sym is)
      (λ k d lt. full_holds values (get_or clauses k d) full (range k d lt)
      (λ f. let db : List (List Dim) = known_of clauses log (length log) in
      let kl : k < length db = (let len : length db ≡ length clauses + length (map (λ (s : Entry). s.clause) (take (length log) log)) = length-append clauses (map (λ (s : Entry). s.clause) (take (length log) log)) in omega arith) in
      (quiet k d kl).0 (subst (IsConflict (valuation values)) (sym (get_or_append_left clauses (map (λ (s : Entry). s.clause) (take (length log) log)) d k lt)) f))),
)

pub spent : (budget : Option ℕ) (formula : Formula) (log : List Entry) (m l : ℕ) → IsFresh formula log (length log) → length log ≡ m + 1 → l ≡ length log → IfSome budget (λ n. m < n) → IsSomeAnd budget (λ n. n ≤ l) →
    IsSomeAnd budget (λ n. IsFresh formula log n)
spent None formula log m l fresh len same within all = all
spent (Some n) formula log m l fresh len same within all = let e : length log ≡ n = omega arith in subst (λ (k : ℕ). IsFresh formula log k) e fresh

pub within_more : (budget : Option ℕ) (m l : ℕ) → l ≡ m + 1 → IfSome budget (λ n. m < n) → (IsSomeAnd budget (λ n. n ≤ l) → IsTrue false) → IfSome budget (λ n. l < n)
within_more None m l e within no_more = within
within_more (Some n) m l e within no_more = ⊎_elim (λ lt. lt) (λ le. absurd (false≢true (no_more le))) (cases_lt l n)
