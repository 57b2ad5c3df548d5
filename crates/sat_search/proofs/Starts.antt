-- The given clauses are watched one after another.
use Rattle.std.proofs.Common.{◌≡◌, ◌≢◌, ℕ, ◌<◌, ◌≤◌, ◌+◌, ◌*◌, ◌⊎◌, inl, inr, Bool, true, false, not, Option, Some, None, List, [], ◌∷◌, ◌++◌, length, take, reverse, MatchOption, sym, refl, ap, ◌∙◌, arith, subst, ⊎_elim}
use Rattle.std.specs.List.{All, Contains}
use Rattle.std.proofs.lemmas.List.{take_more, take_all, length-take-le}
use Rattle.std.proofs.lemmas.List.Elements.{All-nil, All-head, All-contains, All-weaker}
use Rattle.std.proofs.lemmas.Option.{none-some}
use Rattle.cnf.specs.declared.Dim.{Dim}
use Rattle.cnf.specs.Clauses.{denied, Valuation, valuation, all_open, IsFalsified, IsConflict, IsUnit, AllBelow, AreBelow}
use Rattle.refute_check.specs.Accepted.{clause_at}
use Rattle.sat_state.specs.declared.trail.Assigned.{Assigned}
use Rattle.sat_state.specs.declared.watch.Pair.{Pair}
use Rattle.sat_state.specs.declared.watch.Watch.{Watch}
use Rattle.sat_state.specs.Lists.{TrailLists}
use Rattle.sat_state.specs.Trail.{falses, Tracks, IsApart, IsExplained}
use Rattle.sat_search.specs.Learn.{IsBelow}
use Rattle.sat_state.specs.Watch.{HasTrue, IsHalf, AllHalf, ArePairs, AreLists, WasCalm, IsGood, pair_at, with_pair}
use Rattle.sat_search.specs.Walk.{before}
use Rattle.sat_search.specs.Start.{IsForced, IsForcedBy, IsStarted}
use Rattle.sat_search.specs.Lesson.{IsReady, IsHalfway}
use Rattle.sat_state.proofs.Trails.{newest_push}
use Rattle.sat_search.proofs.Steps.{sound_unit}
use Rattle.sat_search.proofs.Watches.{half_grow}
use Rattle.sat_search.proofs.Pushes.{pairs_push, lists_push, lists_more, listed_push, listed_skip, half_push}

one_of : (b n : Bool) → (b ≡ n) ⊎ (b ≡ not n)
one_of true true = inl refl
one_of false false = inl refl
one_of true false = inr refl
one_of false true = inr refl

-- a clause whose literals are all the same, that is neither false nor unit, is true
pub one_true : (a : Valuation) (c : List Dim) (d : Dim) → All (λ b. b ≡ d) c → (IsConflict a c → ⊥) → ((x : Dim) → IsUnit a c x → ⊥) → HasTrue a c
one_true a [] d same calm no_unit = absurd (calm (All-nil (IsFalsified a)))
one_true a (x ∷ xs) d same calm no_unit =
    let e : x ≡ d = All-head (λ b. b ≡ d) x xs same in
    let all : All (λ b. b ≡ x) (x ∷ xs) = All-weaker (λ b. b ≡ d) (λ b. b ≡ x) (λ b h. h ∙ sym e) (x ∷ xs) same in
    let P : Option Bool → Type 0 = λ o. a x.var ≡ o → HasTrue a (x ∷ xs) in
    let found : (b : Bool) → a x.var ≡ Some b → HasTrue a (x ∷ xs) = λ b k. ⊎_elim
    (λ s. absurd (calm (All-weaker (λ y. y ≡ x) (IsFalsified a) (λ y h. subst (IsFalsified a) (sym h) (k ∙ ap Some s)) (x ∷ xs) all)))
    (λ n. (x, (0, omega arith, refl), k ∙ ap Some n))
    (one_of b x.negated) in
    let at : (o : Option Bool) → P o = λ o. elim o as P [
      | None ↦ λ k. absurd (no_unit x (record { inside = (0, omega arith, refl); opened = k; others = All-weaker (λ y. y ≡ x) (λ y. (y ≡ x) ⊎ IsFalsified a y) (λ y h. inl h) (x ∷ xs) all }))
      | Some b ↦ λ k. found b k
    ] in
    at (a x.var) refl

pub forced_push : (db : List (List Dim)) (t t2 : TrailLists) (k : ℕ) (d : Dim) (e : Assigned) → IsForcedBy db t → k < length db → IsUnit (valuation t.values) (clause_at db k) d →
    e ≡ record { dim = record { var = d.var; negated = not d.negated }; reason = Some k } → Tracks t2.values t2.entries → t2.entries ≡ t.entries ++ e ∷ [] → IsForcedBy db t2
forced_push db t t2 k d e by lt unit is tracks more = record {
  sound = sound_unit db t.values t2.values t.entries t2.entries k d e by.sound lt unit is tracks more;
  forced = subst IsForced (sym (ap reverse more ∙ newest_push t.entries e)) (λ none. absurd (none-some k (sym none ∙ ap (λ (y : Assigned). y.reason) is)), by.forced);
}

pub was_forced : (db : List (List Dim)) (pairs : List Pair) (es : List Assigned) → IsForced es → WasCalm db pairs es
was_forced db pairs [] h = tt
was_forced db pairs (e ∷ es) h = (λ none. absurd (h.0 none), was_forced db pairs es h.1)

one_more : (db : List (List Dim)) (k : ℕ) → k < length db → take (k + 1) db ≡ take k db ++ clause_at db k ∷ []
one_more db k lt = take_more db k [] lt

so_many : (db : List (List Dim)) (k : ℕ) → k ≤ length db → length (take k db) ≡ k
so_many db k le = length-take-le k db le

found_map : (found : Option ℕ) (P Q : Type 0) (R : ℕ → Type 0) → (P → Q) → MatchOption found P R → MatchOption found Q R
found_map None P Q R f h = f h
found_map (Some j) P Q R f h = h

-- two literals are watched
pub started_pair : (vars : ℕ) (db : List (List Dim)) (k : ℕ) (pairs : List Pair) (rows : List (List Watch)) (t : TrailLists) (found : Option ℕ) (p : Pair) → k < length db → AllBelow vars db →
    Contains (clause_at db k) p.a → Contains (clause_at db k) p.b → p.a ≢ p.b → IsStarted vars db k pairs rows t found → IsStarted vars db (k + 1) (pairs ++ p ∷ []) (with_pair rows p k) t found
started_pair vars db k pairs rows t found p lt range ha hb ne h =
    let c = clause_at db k in
    let D = take k db in
    let more : take (k + 1) db ≡ D ++ c ∷ [] = one_more db k lt in
    let len : length D ≡ k = so_many db k (omega arith) in
    let below : AreBelow vars c = range k [] lt in
    let va : p.a.var < vars = All-contains (λ (d : Dim). d.var < vars) c p.a below ha in
    let vb : p.b.var < vars = All-contains (λ (d : Dim). d.var < vars) c p.b below hb in
    let new : IsHalf (before t.entries 0) (valuation t.values) c p = inr (record { has_a = ha; has_b = hb; apart = ne; free_a = λ f. none-some p.a.negated f; free_b = λ f. none-some p.b.negated f }) in
    record {
      by = h.by;
      width = h.width;
      paired = subst (λ (d : List (List Dim)). ArePairs d (pairs ++ p ∷ [])) (sym more) (pairs_push D pairs c p (λ _. (ha, hb)) h.paired);
      filed = subst (λ (d : List (List Dim)). AreLists vars d (with_pair rows p k)) (sym more) (subst (λ (n : ℕ). AreLists vars (D ++ c ∷ []) (with_pair rows p n)) len (lists_push vars D rows c p ha hb below h.filed));
      listed = listed_push vars pairs rows p k h.filed.count va vb (sym len ∙ sym h.paired.count) h.listed;
      half = found_map found (AllHalf D pairs (before t.entries 0) (valuation t.values)) (AllHalf (take (k + 1) db) (pairs ++ p ∷ []) (before t.entries 0) (valuation t.values)) (λ j. (j < length db) × IsConflict (valuation t.values) (clause_at db j))
          (λ old. subst (λ (d : List (List Dim)). AllHalf d (pairs ++ p ∷ []) (before t.entries 0) (valuation t.values)) (sym more) (half_push D pairs c p (before t.entries 0) (valuation t.values) h.paired.count old new)) h.half;
    }

-- one pair that watches nothing
skip_pairs : (db : List (List Dim)) (k : ℕ) (pairs : List Pair) (p : Pair) → k < length db → p.a ≡ p.b → ArePairs (take k db) pairs → ArePairs (take (k + 1) db) (pairs ++ p ∷ [])
skip_pairs db k pairs p lt same h =
    subst (λ (d : List (List Dim)). ArePairs d (pairs ++ p ∷ [])) (sym (one_more db k lt)) (pairs_push (take k db) pairs (clause_at db k) p (λ ne. absurd (ne same)) h)

skip_lists : (vars : ℕ) (db : List (List Dim)) (k : ℕ) (rows : List (List Watch)) → k < length db → AreLists vars (take k db) rows → AreLists vars (take (k + 1) db) rows
skip_lists vars db k rows lt h = subst (λ (d : List (List Dim)). AreLists vars d rows) (sym (one_more db k lt)) (lists_more vars (take k db) rows (clause_at db k) h)

-- a clause is false anyway
pub started_keep : (vars : ℕ) (db : List (List Dim)) (k j : ℕ) (pairs : List Pair) (rows : List (List Watch)) (t : TrailLists) (p : Pair) → k < length db → p.a ≡ p.b →
    IsStarted vars db k pairs rows t (Some j) → IsStarted vars db (k + 1) (pairs ++ p ∷ []) rows t (Some j)
started_keep vars db k j pairs rows t p lt same h = record {
  by = h.by;
  width = h.width;
  paired = skip_pairs db k pairs p lt same h.paired;
  filed = skip_lists vars db k rows lt h.filed;
  listed = listed_skip pairs rows p same h.listed;
  half = h.half;
}

-- the one literal of the clause was made true, or the clause is false
pub started_force : (vars : ℕ) (db : List (List Dim)) (k : ℕ) (pairs : List Pair) (rows : List (List Watch)) (t t2 : TrailLists) (found : Option ℕ) (p : Pair) → k < length db → p.a ≡ p.b →
    IsForcedBy db t2 → length t2.values ≡ length t.values → IsBelow (valuation t.values) (valuation t2.values) →
    MatchOption found (HasTrue (valuation t2.values) (clause_at db k)) (λ j. (j ≡ k) × IsConflict (valuation t2.values) (clause_at db k)) →
    IsStarted vars db k pairs rows t None → IsStarted vars db (k + 1) (pairs ++ p ∷ []) rows t2 found
started_force vars db k pairs rows t t2 found p lt same by width grown end h =
    let D = take k db in
    let c = clause_at db k in
    let high = valuation t2.values in
    let P : Option ℕ → Type 0 = λ o. MatchOption o (HasTrue high c) (λ j. (j ≡ k) × IsConflict high c) →
    MatchOption o (AllHalf (take (k + 1) db) (pairs ++ p ∷ []) (before t2.entries 0) high) (λ j. (j < length db) × IsConflict high (clause_at db j)) in
    let at : (o : Option ℕ) → P o = λ o. elim o as P [
      | None ↦ λ has. subst (λ (d : List (List Dim)). AllHalf d (pairs ++ p ∷ []) (before t2.entries 0) high) (sym (one_more db k lt))
          (half_push D pairs c p (before t2.entries 0) high h.paired.count
          (λ j jl. half_grow (before t.entries 0) (valuation t.values) high (clause_at D j) (pair_at pairs j) grown (h.half j jl)) (inl has))
      | Some j ↦ λ f. (subst (λ (n : ℕ). n < length db) (sym f.0) lt, subst (λ (n : ℕ). IsConflict high (clause_at db n)) (sym f.0) f.1)
    ] in
    record {
      by = by;
      width = width ∙ h.width;
      paired = skip_pairs db k pairs p lt same h.paired;
      filed = skip_lists vars db k rows lt h.filed;
      listed = listed_skip pairs rows p same h.listed;
      half = at found end;
    }

-- all are watched
pub started_all : (vars : ℕ) (db : List (List Dim)) (pairs : List Pair) (rows : List (List Watch)) (t : TrailLists) (found : Option ℕ) → AllBelow vars db →
    IsStarted vars db (length db) pairs rows t found →
    IsReady vars db pairs rows t × MatchOption found (IsHalfway db pairs t 0) (λ k. (k < length db) × IsConflict (valuation t.values) (clause_at db k))
started_all vars db pairs rows t found below h =
    let whole : take (length db) db ≡ db = take_all (length db) db (omega arith) in
    let P : Option ℕ → Type 0 = λ o. MatchOption o (AllHalf (take (length db) db) pairs (before t.entries 0) (valuation t.values)) (λ j. (j < length db) × IsConflict (valuation t.values) (clause_at db j)) →
    MatchOption o (IsHalfway db pairs t 0) (λ k. (k < length db) × IsConflict (valuation t.values) (clause_at db k)) in
    let at : (o : Option ℕ) → P o = λ o. elim o as P [
      | None ↦ λ half. record { range = omega arith; half = subst (λ (d : List (List Dim)). AllHalf d pairs (before t.entries 0) (valuation t.values)) whole half }
      | Some j ↦ λ f. f
    ] in (
      record {
        below = below;
        sound = h.by.sound;
        width = h.width;
        paired = subst (λ (d : List (List Dim)). ArePairs d pairs) whole h.paired;
        filed = subst (λ (d : List (List Dim)). AreLists vars d rows) whole h.filed;
        listed = h.listed;
        was = was_forced db pairs (reverse t.entries) h.by.forced;
      },
      at found h.half,
    )

-- before the first clause
pub started_none : (db : List (List Dim)) (rows : List (List Watch)) (t : TrailLists) → valuation t.values ≡ all_open → t.entries ≡ [] → length rows ≡ 2 * length t.values → All (λ row. row ≡ []) rows →
    IsStarted (length t.values) db 0 [] rows t None
started_none db rows t open' empty count none = record {
  by = record {
    sound = record {
      tracks = record { apart = subst (λ (l : List Assigned). IsApart (length t.values) (reverse l)) (sym empty) tt; same = open' ∙ ap (λ l. denied (falses l)) (sym empty) };
      explained = subst (λ (l : List Assigned). IsExplained db (reverse l)) (sym empty) tt;
    };
    forced = subst (λ (l : List Assigned). IsForced (reverse l)) (sym empty) tt;
  };
  width = refl;
  paired = record { count = refl; inside = λ k x kl. absurd (omega (arith, kl)) };
  filed = record { count = count; good = All-weaker (λ row. row ≡ []) (All (IsGood [])) (λ row e. subst (All (IsGood [])) (sym e) (All-nil (IsGood []))) rows none };
  listed = λ k x kl. absurd (omega (arith, kl));
  half = λ k kl. absurd (omega (arith, kl));
}
