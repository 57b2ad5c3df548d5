-- Clauses and logs over variables that stand for one another: the judge takes them alike.
use Rattle.std.proofs.Common.{◌≡◌, ◌↔◌, ℕ, zero, suc, ◌<◌, ◌≤◌, ◌⊎◌, inl, inr, List, [], ◌∷◌, ◌++◌, length, map, take, refl, sym, ◌∙◌, subst, arith, ⊎_elim}
use Rattle.std.specs.List.{AllZip}
use Rattle.std.proofs.lemmas.Bool.{cases_lt}
use Rattle.std.proofs.lemmas.List.{get_or_past}
use Rattle.std.proofs.lemmas.List.Elements.{All-nil, length_all_zip, AllZip-get_or}
use Rattle.cnf.specs.declared.Dim.{Dim}
use Rattle.cnf.specs.Formula.{Formula}
use Rattle.cnf.specs.Clauses.{AreBelow, denied}
use Rattle.refute_check.specs.Entry.{Entry, no_entry}
use Rattle.refute_check.specs.Accepted.{Derives, IsDerivedAt, AllDerived, HasEmpty, IsAccepted, IsBadAt, entry_at, known}
use Rattle.cert_names.specs.Names.{NamesBelow}
use Rattle.cert_names.proofs.Pairs.{IsOneToOne, Back, flipped, Twins, zip_flip, twins_flip, denied_agree, derives, consistent}

-- steps with the same hints
abbrev pub TwinSteps : (ℕ → ℕ → Type 0) → Entry → Entry → Type 0
TwinSteps R s t = Twins R s.clause t.clause × (s.hints ≡ t.hints)

zip_append : {X : Type 0} (R : X → X → Type 0) (xs ys us vs : List X) → AllZip R xs ys → AllZip R us vs → AllZip R (xs ++ us) (ys ++ vs)
zip_append R [] [] us vs h k = k
zip_append R [] (y ∷ ys) us vs h k = absurd h
zip_append R (x ∷ xs) [] us vs h k = absurd h
zip_append R (x ∷ xs) (y ∷ ys) us vs h k = (h.0, zip_append R xs ys us vs h.1 k)

twin_clauses : (R : ℕ → ℕ → Type 0) (k : ℕ) (log more : List Entry) → AllZip (TwinSteps R) log more → AllZip (Twins R) (map (λ s. s.clause) (take k log)) (map (λ s. s.clause) (take k more))
twin_clauses R zero log more h = tt
twin_clauses R (suc k) [] [] h = tt
twin_clauses R (suc k) [] (t ∷ more) h = absurd h
twin_clauses R (suc k) (s ∷ log) [] h = absurd h
twin_clauses R (suc k) (s ∷ log) (t ∷ more) h = (h.0.0, twin_clauses R k log more h.1)

twin_entry : (R : ℕ → ℕ → Type 0) (log more : List Entry) (k : ℕ) → AllZip (TwinSteps R) log more → TwinSteps R (entry_at log k) (entry_at more k)
twin_entry R log more k h = ⊎_elim (λ within. AllZip-get_or (TwinSteps R) log more k no_entry no_entry h within) past (cases_lt k (length log))
  where
    past : length log ≤ k → TwinSteps R (entry_at log k) (entry_at more k)
    past le =
        let long = length_all_zip (TwinSteps R) log more h in
        let one : entry_at log k ≡ no_entry = get_or_past log k no_entry le in
        let two : entry_at more k ≡ no_entry = get_or_past more k no_entry (omega arith) in
        let none : TwinSteps R no_entry no_entry = (tt, refl) in
        subst (λ (x : Entry). TwinSteps R x (entry_at more k)) (sym one) (subst (λ (x : Entry). TwinSteps R no_entry x) (sym two) none)

entry_below : (f : Formula) (log : List Entry) (k : ℕ) → NamesBelow f.vars f log → AreBelow f.vars (entry_at log k).clause
entry_below f log k h = ⊎_elim (λ within. h.steps k within) past (cases_lt k (length log))
  where
    past : length log ≤ k → AreBelow f.vars (entry_at log k).clause
    past le = let one : entry_at log k ≡ no_entry = get_or_past log k no_entry le in subst (λ (x : Entry). AreBelow f.vars x.clause) (sym one) (All-nil (λ (d : Dim). d.var < f.vars))

-- clauses and a log, and others whose variables stand for theirs
pub record AreTwins (R : ℕ → ℕ → Type 0) (f : Formula) (log : List Entry) (g : Formula) (more : List Entry) : Type 0 where
  pub clauses : AllZip (Twins R) f.clauses g.clauses
  pub steps : AllZip (TwinSteps R) log more

pub are_flipped : (R : ℕ → ℕ → Type 0) (f : Formula) (log : List Entry) (g : Formula) (more : List Entry) → AreTwins R f log g more → AreTwins (Back R) g more f log
are_flipped R f log g more t = record {
  clauses = zip_flip (Twins R) (Twins (Back R)) (twins_flip R) f.clauses g.clauses t.clauses;
  steps = zip_flip (TwinSteps R) (TwinSteps (Back R)) (λ s t h. (twins_flip R s.clause t.clause h.0, sym h.1)) log more t.steps;
}

module _ (R : ℕ → ℕ → Type 0) (o : IsOneToOne R) (f : Formula) (log : List Entry) (g : Formula) (more : List Entry) (t : AreTwins R f log g more) (below : NamesBelow g.vars g more) where
  derived_too : (k : ℕ) → IsDerivedAt f log k → IsDerivedAt g more k
  derived_too k d =
      let s : Entry = entry_at log k in
      let e : Entry = entry_at more k in
      let pair = twin_entry R log more k t.steps in
      let dbs : AllZip (Twins R) (known f log k) (known g more k) = zip_append (Twins R) f.clauses g.clauses _ _ t.clauses (twin_clauses R k log more t.steps) in
      record {
        in_range = entry_below g more k below;
        consistent = consistent R o s.clause e.clause pair.0 d.consistent;
        derives = subst (λ (hs : List ℕ). Derives (known g more k) (denied e.clause) hs) pair.1
            (derives R o (known f log k) (known g more k) (denied s.clause) (denied e.clause) s.hints dbs (denied_agree R o s.clause e.clause pair.0) d.derives);
      }

  all_too : (n : ℕ) → AllDerived f log n → AllDerived g more n
  all_too n h k within = derived_too k (h k within)

  as_long : length log ≡ length more
  as_long = length_all_zip (TwinSteps R) log more t.steps

  empty_too : HasEmpty log → HasEmpty more
  empty_too h =
      let pair = twin_entry R log more h.0 t.steps in
      let same = as_long in
      (h.0, (let k = h.1 in omega arith), none (entry_at log h.0).clause (entry_at more h.0).clause pair.0 h.2)
    where
      none : (c e : List Dim) → Twins R c e → c ≡ [] → e ≡ []
      none [] [] z is = refl
      none [] (y ∷ e) z is = absurd z
      none (x ∷ c) e z is = cc

  pub accepted_too : IsAccepted f log → IsAccepted g more
  accepted_too a = record { derived = subst (λ (n : ℕ). AllDerived g more n) as_long (all_too (length log) a.derived); empty = empty_too a.empty }

-- the judge says the same of both
module _ (R : ℕ → ℕ → Type 0) (o : IsOneToOne R) (f : Formula) (log : List Entry) (g : Formula) (more : List Entry) (t : AreTwins R f log g more) (first : NamesBelow f.vars f log) (below : NamesBelow g.vars g more) where
  pub accepted_alike : IsAccepted g more ↔ IsAccepted f log
  accepted_alike = (accepted_too (Back R) (flipped R o) g more f log (are_flipped R f log g more t) first, accepted_too R o f log g more t below)

  bad_too : (k : ℕ) → IsBadAt f log k → IsBadAt g more k
  bad_too k h = (all_too R o f log g more t below k h.0, either h.1)
    where
      either : ((k < length log) × (IsDerivedAt f log k → ⊥)) ⊎ ((k ≡ length log) × (HasEmpty log → ⊥)) → ((k < length more) × (IsDerivedAt g more k → ⊥)) ⊎ ((k ≡ length more) × (HasEmpty more → ⊥))
      either (inl x) =
          let same = as_long R o f log g more t below in
          inl ((let w = x.0 in omega arith), λ d. x.1 (derived_too (Back R) (flipped R o) g more f log (are_flipped R f log g more t) first k d))
      either (inr x) = inr (x.0 ∙ as_long R o f log g more t below, λ e. x.1 (empty_too (Back R) (flipped R o) g more f log (are_flipped R f log g more t) first e))

pub bad_alike : (R : ℕ → ℕ → Type 0) (o : IsOneToOne R) (f : Formula) (log : List Entry) (g : Formula) (more : List Entry) (t : AreTwins R f log g more) (first : NamesBelow f.vars f log) (below : NamesBelow g.vars g more) → (k : ℕ) → IsBadAt g more k ↔ IsBadAt f log k
bad_alike R o f log g more t first below k = (bad_too (Back R) (flipped R o) g more f log (are_flipped R f log g more t) below first k, bad_too R o f log g more t first below k)
