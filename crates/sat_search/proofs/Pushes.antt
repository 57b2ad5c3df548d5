-- One more clause is watched.
use Rattle.std.proofs.Common.{◌≡◌, ◌≢◌, ℕ, ◌<◌, ◌+◌, ◌*◌, ◌⊎◌, inl, inr, Bool, true, false, cond, Some, None, List, [], ◌∷◌, ◌++◌, length, reverse, sym, refl, ap, ◌∙◌, arith, subst, ⊎_elim, append_assoc, length-set, length-append}
use Rattle.std.specs.List.{All, Contains}
use Rattle.std.proofs.lemmas.Bool.{eq-eqb, cases_lt, cases_Bool, false≢true}
use Rattle.std.proofs.lemmas.List.{reverse-append, get_or_append_left}
use Rattle.std.proofs.lemmas.List.Elements.{All-weaker, All-contains}
use Rattle.std.proofs.Math.Seq.{get_or-append_seam}
use Rattle.cnf.specs.declared.Dim.{Dim}
use Rattle.cnf.specs.Clauses.{denied, Valuation, IsFalsified, AreBelow}
use Rattle.refute_check.specs.Accepted.{clause_at}
use Rattle.sat_state.specs.declared.trail.Assigned.{Assigned}
use Rattle.sat_state.specs.declared.watch.Pair.{Pair}
use Rattle.sat_state.specs.declared.watch.Watch.{Watch}
use Rattle.sat_state.specs.Trail.{dims, falses, IsApart}
use Rattle.sat_search.specs.Learn.{seen_at, IsAnchored, StopsBelow}
use Rattle.sat_state.specs.Watch.{IsHalf, AllHalf, IsCalm, WasCalm, pair_at, no_pair, code, row_at, numbers, IsGood, Watches, Listed, ArePairs, AreLists, grown, with_pair}
use Rattle.sat_search.proofs.Learns.{kept, none_tail}
use Rattle.sat_search.proofs.Rows.{lists_grow, row_grows, row_has}

-- where an index of one more is
split : (n k : ℕ) → k < n + 1 → (k < n) ⊎ (k ≡ n)
split n k lt = ⊎_elim (λ l. inl l) (λ g. inr (omega arith)) (cases_lt k n)

longer : {A : Type 0} → (xs : List A) (x : A) → length (xs ++ x ∷ []) ≡ length xs + 1
longer xs x = length-append xs (x ∷ [])

clause_old : (db : List (List Dim)) (c : List Dim) (k : ℕ) → k < length db → clause_at (db ++ c ∷ []) k ≡ clause_at db k
clause_old db c k lt = get_or_append_left db (c ∷ []) [] k lt

clause_new : (db : List (List Dim)) (c : List Dim) (k : ℕ) → k ≡ length db → clause_at (db ++ c ∷ []) k ≡ c
clause_new db c k e = ap (clause_at (db ++ c ∷ [])) e ∙ get_or-append_seam db c [] []

pair_old : (pairs : List Pair) (p : Pair) (k : ℕ) → k < length pairs → pair_at (pairs ++ p ∷ []) k ≡ pair_at pairs k
pair_old pairs p k lt = get_or_append_left pairs (p ∷ []) no_pair k lt

pair_new : (pairs : List Pair) (p : Pair) (k : ℕ) → k ≡ length pairs → pair_at (pairs ++ p ∷ []) k ≡ p
pair_new pairs p k e = ap (pair_at (pairs ++ p ∷ [])) e ∙ get_or-append_seam pairs p [] no_pair

pub pairs_push : (db : List (List Dim)) (pairs : List Pair) (c : List Dim) (p : Pair) → (p.a ≢ p.b → Contains c p.a × Contains c p.b) → ArePairs db pairs → ArePairs (db ++ c ∷ []) (pairs ++ p ∷ [])
pairs_push db pairs c p has h = record {
  count = longer pairs p ∙ ap (λ n. n + 1) h.count ∙ sym (longer db c);
  inside = λ k x kl watches. ⊎_elim
      (λ old. subst (λ (cl : List Dim). Contains cl x) (sym (clause_old db c k old))
      (h.inside k x old (subst (λ (q : Pair). Watches q x) (pair_old pairs p k (let e = h.count in omega arith)) watches)))
      (λ new. let w : Watches p x = subst (λ (q : Pair). Watches q x) (pair_new pairs p k (new ∙ sym h.count)) watches in
      let both = has w.0 in
      subst (λ (cl : List Dim). Contains cl x) (sym (clause_new db c k new)) (⊎_elim (λ e. subst (Contains c) e both.0) (λ e. subst (Contains c) e both.1) w.1))
      (split (length db) k (let e = longer db c in omega arith));
}

good_more : (db : List (List Dim)) (c : List Dim) (w : Watch) → IsGood db w → IsGood (db ++ c ∷ []) w
good_more db c w h = (let e = longer db c in let l = h.0 in omega arith, subst (λ (cl : List Dim). Contains cl w.blocker) (sym (clause_old db c w.clause h.0)) h.1)

pub lists_more : (vars : ℕ) (db : List (List Dim)) (rows : List (List Watch)) (c : List Dim) → AreLists vars db rows → AreLists vars (db ++ c ∷ []) rows
lists_more vars db rows c h = record {
  count = h.count;
  good = All-weaker (All (IsGood db)) (All (IsGood (db ++ c ∷ []))) (λ row g. All-weaker (IsGood db) (IsGood (db ++ c ∷ [])) (λ w gw. good_more db c w gw) row g) rows h.good;
}

pub code_in : (rows : List (List Watch)) (vars : ℕ) (d : Dim) → length rows ≡ 2 * vars → d.var < vars → code d < length rows
code_in rows vars d e lt = let P : Bool → Type 0 = λ b. cond b (2 * d.var + 1) (2 * d.var) < length rows in
    let at : (b : Bool) → P b = λ b. elim b as P [ true ↦ omega arith | false ↦ omega arith ] in at d.negated

pub lists_push : (vars : ℕ) (db : List (List Dim)) (rows : List (List Watch)) (c : List Dim) (p : Pair) → Contains c p.a → Contains c p.b → AreBelow vars c → AreLists vars db rows →
    AreLists vars (db ++ c ∷ []) (with_pair rows p (length db))
lists_push vars db rows c p ha hb range h =
    let k : ℕ = length db in
    let kl : k < length (db ++ c ∷ []) = let e = longer db c in omega arith in
    let DB = db ++ c ∷ [] in
    let va : p.a.var < vars = All-contains (λ (x : Dim). x.var < vars) c p.a range ha in
    let vb : p.b.var < vars = All-contains (λ (x : Dim). x.var < vars) c p.b range hb in
    let wa : Watch = record { clause = k; blocker = p.b } in
    let wb : Watch = record { clause = k; blocker = p.a } in
    let ga : IsGood DB wa = (kl, subst (λ (cl : List Dim). Contains cl p.b) (sym (clause_new db c k refl)) hb) in
    let gb : IsGood DB wb = (kl, subst (λ (cl : List Dim). Contains cl p.a) (sym (clause_new db c k refl)) ha) in
    let one : AreLists vars DB (grown rows p.a wa) = lists_grow vars DB rows p.a wa (code_in rows vars p.a h.count va) ga (lists_more vars db rows c h) in
    lists_grow vars DB (grown rows p.a wa) p.b wb (code_in (grown rows p.a wa) vars p.b one.count vb) gb one

pub listed_push : (vars : ℕ) (pairs : List Pair) (rows : List (List Watch)) (p : Pair) (k : ℕ) → length rows ≡ 2 * vars → p.a.var < vars → p.b.var < vars → k ≡ length pairs → Listed pairs rows →
    Listed (pairs ++ p ∷ []) (with_pair rows p k)
listed_push vars pairs rows p k count va vb here h j x jl watches =
    let wa : Watch = record { clause = k; blocker = p.b } in
    let wb : Watch = record { clause = k; blocker = p.a } in
    let la : code p.a < length rows = code_in rows vars p.a count va in
    let count2 : length (grown rows p.a wa) ≡ 2 * vars = length-set rows (code p.a) (row_at rows p.a ++ wa ∷ []) ∙ count in
    let lb : code p.b < length (grown rows p.a wa) = code_in (grown rows p.a wa) vars p.b count2 vb in
    ⊎_elim
    (λ old. row_grows (grown rows p.a wa) x p.b wb j lb (row_grows rows x p.a wa j la (h j x old (subst (λ (q : Pair). Watches q x) (pair_old pairs p j old) watches))))
    (λ new. let w : Watches p x = subst (λ (q : Pair). Watches q x) (pair_new pairs p j new) watches in
    subst (λ (n : ℕ). Contains (numbers (row_at (with_pair rows p k) x)) n) (here ∙ sym new)
    (⊎_elim
    (λ e. subst (λ (y : Dim). Contains (numbers (row_at (with_pair rows p k) y)) k) e (row_grows (grown rows p.a wa) p.a p.b wb k lb (row_has rows p.a wa la)))
    (λ e. subst (λ (y : Dim). Contains (numbers (row_at (with_pair rows p k) y)) k) e (row_has (grown rows p.a wa) p.b wb lb))
    w.1))
    (split (length pairs) j (let e = longer pairs p in omega arith))

-- a clause without two watched literals: the lists stay
pub listed_skip : (pairs : List Pair) (rows : List (List Watch)) (p : Pair) → p.a ≡ p.b → Listed pairs rows → Listed (pairs ++ p ∷ []) rows
listed_skip pairs rows p same h j x jl watches = ⊎_elim
    (λ old. h j x old (subst (λ (q : Pair). Watches q x) (pair_old pairs p j old) watches))
    (λ new. let w : Watches p x = subst (λ (q : Pair). Watches q x) (pair_new pairs p j new) watches in absurd (w.0 same))
    (split (length pairs) j (let e = longer pairs p in omega arith))

-- ---- what was and is calm

pub half_push : (db : List (List Dim)) (pairs : List Pair) (c : List Dim) (p : Pair) (low high : Valuation) → length pairs ≡ length db → AllHalf db pairs low high → IsHalf low high c p →
    AllHalf (db ++ c ∷ []) (pairs ++ p ∷ []) low high
half_push db pairs c p low high count h new k kl = ⊎_elim
    (λ old. subst (λ (cl : List Dim). IsHalf low high cl (pair_at (pairs ++ p ∷ []) k)) (sym (clause_old db c k old))
    (subst (λ (q : Pair). IsHalf low high (clause_at db k) q) (sym (pair_old pairs p k (omega arith))) (h k old)))
    (λ here. subst (λ (cl : List Dim). IsHalf low high cl (pair_at (pairs ++ p ∷ []) k)) (sym (clause_new db c k here))
    (subst (λ (q : Pair). IsHalf low high c q) (sym (pair_new pairs p k (here ∙ sym count))) new))
    (split (length db) k (let e = longer db c in omega arith))

-- two literals of the clause that are open are free
open_free : (a : Valuation) (x : Dim) → a x.var ≡ None → IsFalsified a x → ⊥
open_free a x o f = let k : Some x.negated ≡ None = sym f ∙ o in cc

two_free : (a : Valuation) (c : List Dim) (p : Pair) → Contains c p.a → Contains c p.b → p.a.var ≢ p.b.var → a p.a.var ≡ None → a p.b.var ≡ None → IsHalf a a c p
two_free a c p ca cb ne oa ob = inr (record { has_a = ca; has_b = cb; apart = λ e. ne (ap (λ (x : Dim). x.var) e); free_a = open_free a p.a oa; free_b = open_free a p.b ob })

was_two : (db : List (List Dim)) (pairs : List Pair) (c : List Dim) (p : Pair) (es : List Assigned) → length pairs ≡ length db → Contains c p.a → Contains c p.b → p.a.var ≢ p.b.var →
    denied (dims es) p.a.var ≡ None → denied (dims es) p.b.var ≡ None → WasCalm db pairs es → WasCalm (db ++ c ∷ []) (pairs ++ p ∷ []) es
was_two db pairs c p [] count ca cb ne oa ob h = tt
was_two db pairs c p (e ∷ es) count ca cb ne oa ob h =
    let oa2 = none_tail e es p.a.var oa in
    let ob2 = none_tail e es p.b.var ob in (
      λ none. half_push db pairs c p (denied (dims es)) (denied (dims es)) count (h.0 none) (two_free (denied (dims es)) c p ca cb ne oa2 ob2),
      was_two db pairs c p es count ca cb ne oa2 ob2 h.1,
    )

none_self : (e : Assigned) (es : List Assigned) (v : ℕ) → denied (dims (e ∷ es)) v ≡ None → e.dim.var ≢ v
none_self e es v o same = let k : denied (dims (e ∷ es)) e.dim.var ≡ None = subst (λ (w : ℕ). denied (dims (e ∷ es)) w ≡ None) (sym same) o in
    let P : Bool → Type 0 = λ t. cond t (Some e.dim.negated) (denied (dims es) e.dim.var) ≡ None → ⊥ in
    let yes : P true = λ q. let n : Some e.dim.negated ≡ None = q in cc in
    subst P (sym (eq-eqb e.dim.var e.dim.var refl)) yes k

-- The new clause is calm at each decision that is left: its two watched literals are open there.
pub was_more : (vars : ℕ) (db : List (List Dim)) (pairs : List Pair) (c : List Dim) (p : Pair) (seen : List Bool) (es : List Assigned) → length pairs ≡ length db → Contains c p.a →
    denied (dims es) p.a.var ≡ None → ((y : Dim) (ys : List Dim) → kept seen es ≡ y ∷ ys → (p.b ≡ y) × Contains c y) → IsApart vars es → IsAnchored seen es → WasCalm db pairs es →
    WasCalm (db ++ c ∷ []) (pairs ++ p ∷ []) es
was_more vars db pairs c p seen [] count ca oa second apart anchored h = tt
was_more vars db pairs c p seen (e ∷ es) count ca oa second apart anchored h =
    let oa2 = none_tail e es p.a.var oa in
    ⊎_elim
    (λ s. let k : kept seen (e ∷ es) ≡ e.dim ∷ kept seen es = ap (λ t. cond t (e.dim ∷ kept seen es) (kept seen es)) s in
    let b = second e.dim (kept seen es) k in
    let ob : denied (dims es) p.b.var ≡ None = subst (λ (y : Dim). denied (dims es) y.var ≡ None) (sym b.0) apart.1 in
    let cb : Contains c p.b = subst (Contains c) (sym b.0) b.1 in
    let ne : p.a.var ≢ p.b.var = λ q. none_self e es p.a.var oa (sym (q ∙ ap (λ (y : Dim). y.var) b.0)) in (
      λ none. half_push db pairs c p (denied (dims es)) (denied (dims es)) count (h.0 none) (two_free (denied (dims es)) c p ca cb ne oa2 ob),
      was_two db pairs c p es count ca cb ne oa2 ob h.1,
    ))
    (λ u. ⊎_elim
    (λ s. absurd (false≢true (sym u ∙ s)))
    (λ more. (
      λ none. absurd (more.0 none),
      was_more vars db pairs c p seen es count ca oa2 (λ y ys k. second y ys (ap (λ t. cond t (e.dim ∷ kept seen es) (kept seen es)) u ∙ k)) apart.2 more.1 h.1,
    ))
    anchored)
    (cases_Bool (seen_at seen e.dim.var))

-- ---- below a decision it was calm

was_drop : (db : List (List Dim)) (pairs : List Pair) (xs ys : List Assigned) → WasCalm db pairs (xs ++ ys) → WasCalm db pairs ys
was_drop db pairs [] ys h = h
was_drop db pairs (x ∷ xs) ys h = was_drop db pairs xs ys h.1

pub was_below : (db : List (List Dim)) (pairs : List Pair) (whole front : List Assigned) → StopsBelow whole front → WasCalm db pairs (reverse whole) → IsCalm db pairs (denied (falses front)) × WasCalm db pairs (reverse front)
was_below db pairs whole front (e, rest, is, none) h =
    let split : reverse whole ≡ (reverse rest ++ e ∷ []) ++ reverse front = ap reverse is ∙ reverse-append front (e ∷ rest)
    ∙ ap (λ l. l ++ reverse front) (reverse-append (e ∷ []) rest) in
    let h2 : WasCalm db pairs (e ∷ reverse front) = was_drop db pairs (reverse rest) (e ∷ reverse front)
    (subst (WasCalm db pairs) (split ∙ append_assoc (reverse rest) (e ∷ []) (reverse front)) h) in
    (h2.0 none, h2.1)
