-- The step that a conflict teaches is new.
use Rattle.std.proofs.Common.{◌≡◌, ℕ, ◌<◌, ◌≤◌, ◌+◌, ◌-◌, ◌*◌, inl, not, Bool, true, cond, List, [], ◌∷◌, ◌++◌, length, get_or, map, reverse, take, drop, Option, Some, None, sym, refl, ap, ◌∙◌, arith, subst, length-append, append_assoc}
use Rattle.std.specs.List.{All, Contains, filter}
use Rattle.std.proofs.lemmas.List.{map-append, take_all, take-append-le}
use Rattle.std.proofs.lemmas.List.Elements.{All-contains, All-filter, All-push, All-weaker, Contains-append_right}
use Rattle.std.proofs.Math.Seq.{get_or-append_seam}
use Rattle.cnf.specs.declared.Dim.{Dim}
use Rattle.cnf.specs.Clauses.{negate, AreBelow, Valuation, valuation, denied, all_open, IsConflict, IsUnit}
use Rattle.refute_check.specs.Entry.{Entry, entry_of}
use Rattle.refute_check.specs.Accepted.{Derives, IsDerived, known_of, clause_at}
use Rattle.refute_check.proofs.Denials.{negate_twice}
use Rattle.sat_state.specs.declared.trail.Assigned.{Assigned}
use Rattle.sat_state.specs.Trail.{dims, falses, Tracks, Why, IsApart, IsExplained, IsSound}
use Rattle.sat_state.proofs.Trails.{explained_push, newest_push}
use Rattle.sat_search.specs.Learn.{seen_at, no_assigned, IsBelow, IsTraced, IsAnchored, StopsBelow, Suffices}
use Rattle.refute_check.specs.Fresh.{NamesOnce, Subsumes, IsNew}
use Rattle.sat_search.proofs.Learns.{kept, conflict_new, own_denied, once_consistent, once_within, apart_once, apart_range, filter_once, explained_more, unit_new}
use Rattle.refute_check.specs.Count.{free_count}
use Rattle.refute_check.proofs.Counts.{new_less}
use Rattle.sat_state.specs.Lists.{TrailLists}
use Rattle.sat_search.specs.Lesson.{IsTaught, IsReady, IsHalfway}
use Rattle.sat_state.specs.declared.watch.Pair.{Pair}
use Rattle.sat_state.specs.declared.watch.Watch.{Watch}
use Rattle.sat_state.specs.Watch.{IsHalf, AllHalf, AreLists, Listed, WasCalm, pair_at, first_pair, with_pair}
use Rattle.sat_search.specs.Walk.{before}
use Rattle.sat_search.proofs.Steps.{apart_front, explained_front, place_is, front_is}
use Rattle.sat_search.proofs.Watches.{half_grow}
use Rattle.sat_search.proofs.Rests.{below_assigned, now_assigned, was_assigned, one_longer}
use Rattle.sat_search.proofs.Shorter.{suffices_derives}
use Rattle.sat_search.proofs.Pushes.{pairs_push, lists_push, listed_push, half_push, was_more, was_below}

pub kept_once : (vars : ℕ) (seen : List Bool) (es : List Assigned) → IsApart vars es → NamesOnce (kept seen es)
kept_once vars seen es apart = filter_once (λ d. seen_at seen d.var) (dims es) (apart_once vars es apart)

pub traced_derived : (vars : ℕ) (db : List (List Dim)) (seen : List Bool) (es : List Assigned) (hints : List ℕ) → IsApart vars es → Derives db (denied (kept seen es)) (reverse hints) →
    IsDerived vars db (entry_of (kept seen es) (reverse hints))
traced_derived vars db seen es hints apart h = record {
  in_range = All-filter (λ d. seen_at seen d.var) (λ d. d.var < vars) (dims es) (apart_range vars es apart);
  consistent = once_consistent (kept seen es) (kept_once vars seen es apart);
  derives = h;
}

kept_first : (seen : List Bool) (x : Assigned) (es : List Assigned) → seen_at seen x.dim.var ≡ true → kept seen (x ∷ es) ≡ x.dim ∷ kept seen es
kept_first seen x es s = ap (λ t. cond t (x.dim ∷ kept seen es) (kept seen es)) s

pub kept_traced : (seen : List Bool) (x : Assigned) (es : List Assigned) → IsTraced seen (x ∷ es) → kept seen (x ∷ es) ≡ x.dim ∷ kept seen es
kept_traced seen x es t = kept_first seen x es t.0

-- where the literals of the new clause are false, no earlier one is false
pub traced_quiet : (vars : ℕ) (db : List (List Dim)) (seen : List Bool) (x : Assigned) (es : List Assigned) → IsApart vars (x ∷ es) → IsExplained db (x ∷ es) → IsTraced seen (x ∷ es) →
    All (λ c. IsConflict (denied (kept seen (x ∷ es))) c → ⊥) db
traced_quiet vars db seen x es apart explained traced =
    subst (λ (k : List Dim). All (λ c. IsConflict (denied k) c → ⊥) db) (sym (kept_traced seen x es traced)) (conflict_new vars db seen x es apart.1 explained traced.1)

pub traced_new : (vars : ℕ) (db : List (List Dim)) (seen : List Bool) (x : Assigned) (es : List Assigned) (hints : List ℕ) → IsApart vars (x ∷ es) → IsExplained db (x ∷ es) → IsTraced seen (x ∷ es) →
    Derives db (denied (kept seen (x ∷ es))) (reverse hints) → IsNew vars db (entry_of (kept seen (x ∷ es)) (reverse hints))
traced_new vars db seen x es hints apart explained traced h = record {
  derived = traced_derived vars db seen (x ∷ es) hints apart h;
  some = λ e. let k : x.dim ∷ kept seen es ≡ [] = sym (kept_traced seen x es traced) ∙ e in cc;
  once = kept_once vars seen (x ∷ es) apart;
  fresh = All-weaker (λ c. IsConflict (denied (kept seen (x ∷ es))) c → ⊥) (λ c. Subsumes c (kept seen (x ∷ es)) → ⊥)
      (λ c no_conflict within. no_conflict (once_within (kept seen (x ∷ es)) c (kept_once vars seen (x ∷ es) apart) within)) db
      (traced_quiet vars db seen x es apart explained traced);
}

pub traced_less : (vars : ℕ) (db : List (List Dim)) (seen : List Bool) (x : Assigned) (es : List Assigned) → IsApart vars (x ∷ es) → IsExplained db (x ∷ es) → IsTraced seen (x ∷ es) →
    free_count vars (db ++ kept seen (x ∷ es) ∷ []) all_open < free_count vars db all_open
traced_less vars db seen x es apart explained traced =
    new_less vars db (kept seen (x ∷ es)) (All-filter (λ d. seen_at seen d.var) (λ d. d.var < vars) (dims (x ∷ es)) (apart_range vars (x ∷ es) apart))
    (own_denied (kept seen (x ∷ es)) (kept_once vars seen (x ∷ es) apart)) (traced_quiet vars db seen x es apart explained traced)

-- one more step, one more clause
pub known_push : (clauses : List (List Dim)) (log : List Entry) (s : Entry) → known_of clauses (log ++ s ∷ []) (length (log ++ s ∷ [])) ≡ known_of clauses log (length log) ++ s.clause ∷ []
known_push clauses log s =
    ap (λ l. clauses ++ map (λ (t : Entry). t.clause) l) (take_all (length (log ++ s ∷ [])) (log ++ s ∷ []) (omega arith))
    ∙ ap (λ l. clauses ++ l) (map-append (λ (t : Entry). t.clause) log (s ∷ []))
    ∙ sym (append_assoc clauses (map (λ (t : Entry). t.clause) log) (s.clause ∷ []))
    ∙ ap (λ l. (clauses ++ map (λ (t : Entry). t.clause) l) ++ s.clause ∷ []) (sym (take_all (length log) log (omega arith)))

-- after the new clause has made its open literal true
pub learned_sound : (db : List (List Dim)) (s : Entry) (vars : ℕ) (seen : List Bool) (x e : Assigned) (trail2 trail3 trail4 : List Assigned) (values4 : List (Option Bool)) →
    s.clause ≡ x.dim ∷ kept seen (reverse trail2) → kept seen (reverse trail3) ≡ kept seen (reverse trail2) → denied (falses trail3) x.dim.var ≡ None → IsApart vars (reverse trail3) → IsAnchored seen (reverse trail3) →
    IsExplained db (reverse trail3) → Tracks values4 trail4 → trail4 ≡ trail3 ++ e ∷ [] → e ≡ record { dim = negate x.dim; reason = Some (length db) } → IsSound (db ++ s.clause ∷ []) values4 trail4
learned_sound db s vars seen x e trail2 trail3 trail4 values4 is same o apart anchored explained tracks more ise =
    let c : List Dim = s.clause in
    let c_is : c ≡ x.dim ∷ kept seen (reverse trail3) = is ∙ ap (λ k. x.dim ∷ k) (sym same) in
    let has : Contains c x.dim = subst (λ (k : List Dim). Contains k x.dim) (sym c_is) (0, omega arith, refl) in
    let rest : IsExplained (db ++ c ∷ []) (reverse trail3) = explained_more vars db c x.dim seen (reverse trail3) has o
    (λ y k. subst (λ (cl : List Dim). Contains cl y) (sym c_is) (Contains-append_right (x.dim ∷ []) (kept seen (reverse trail3)) y k)) apart anchored explained in
    let unit : IsUnit (denied (falses trail3)) c x.dim = subst (λ (cl : List Dim). IsUnit (denied (falses trail3)) cl x.dim) (sym c_is) (unit_new vars seen x.dim (reverse trail3) o apart) in
    let at : clause_at (db ++ c ∷ []) (length db) ≡ c = get_or-append_seam db c [] [] in
    let why : Why (db ++ c ∷ []) (denied (falses trail3)) (record { dim = negate x.dim; reason = Some (length db) }) = (
      let l : length (db ++ c ∷ []) ≡ length db + 1 = length-append db (c ∷ []) in omega arith,
      subst (λ (cl : List Dim). IsUnit (denied (falses trail3)) cl (negate (negate x.dim))) (sym at) (subst (λ (y : Dim). IsUnit (denied (falses trail3)) c y) (sym (negate_twice x.dim)) unit),
    ) in
    record {
      tracks = tracks;
      explained = subst (λ (t : List Assigned). IsExplained (db ++ c ∷ []) (reverse t)) (sym more)
          (explained_push (db ++ c ∷ []) trail3 e (subst (Why (db ++ c ∷ []) (denied (falses trail3))) (sym ise) why) rest);
    }

-- what the trail that a conflict was traced back to teaches
pub record Lesson (vars : ℕ) (db : List (List Dim)) (clause : List Dim) (hints : List ℕ) (seen : List Bool) (x : Assigned) (trail : List Assigned) : Type 0 where
  pub new : IsNew vars db (entry_of clause hints)
  pub first : clause ≡ x.dim ∷ kept seen (reverse trail)
  pub less : free_count vars (db ++ clause ∷ []) all_open < free_count vars db all_open
  pub opened : denied (falses trail) x.dim.var ≡ None

pub lesson : (db : List (List Dim)) (vars : ℕ) (old trail : List Assigned) (x : Assigned) (seen : List Bool) (hints hints2 : List ℕ) (clause : List Dim) → IsApart vars (reverse old) → IsExplained db (reverse old) →
    old ≡ trail ++ x ∷ [] → IsTraced seen (reverse old) → Derives db (denied (kept seen (reverse old))) (reverse hints) → clause ≡ filter (λ d. seen_at seen d.var) (falses old) → hints2 ≡ reverse hints →
    Lesson vars db clause hints2 seen x trail
lesson db vars old trail x seen hints hints2 clause apart0 explained0 is traced h ck hk =
    let newest : reverse old ≡ x ∷ reverse trail = ap reverse is ∙ newest_push trail x in
    let apart : IsApart vars (x ∷ reverse trail) = subst (IsApart vars) newest apart0 in
    let explained : IsExplained db (x ∷ reverse trail) = subst (IsExplained db) newest explained0 in
    let traced2 : IsTraced seen (x ∷ reverse trail) = subst (IsTraced seen) newest traced in
    let h2 : Derives db (denied (kept seen (x ∷ reverse trail))) (reverse hints) = subst (λ (t : List Assigned). Derives db (denied (kept seen t)) (reverse hints)) newest h in
    let c_is : clause ≡ kept seen (x ∷ reverse trail) = ck ∙ ap (kept seen) newest in
    record {
      new = subst (λ (cl : List Dim). IsNew vars db (entry_of cl hints2)) (sym c_is) (subst (λ (hs : List ℕ). IsNew vars db (entry_of (kept seen (x ∷ reverse trail)) hs)) (sym hk)
          (traced_new vars db seen x (reverse trail) hints apart explained traced2 h2));
      first = c_is ∙ kept_traced seen x (reverse trail) traced2;
      less = subst (λ (cl : List Dim). free_count vars (db ++ cl ∷ []) all_open < free_count vars db all_open) (sym c_is) (traced_less vars db seen x (reverse trail) apart explained traced2);
      opened = apart.1;
    }

pub taught : (db : List (List Dim)) (vars : ℕ) (entries : List Assigned) (seen : List Bool) (hints hints2 : List ℕ) (clause : List Dim) (n : ℕ) → IsApart vars (reverse entries) → IsExplained db (reverse entries) →
    0 < n → n ≤ length entries → IsTraced seen (reverse (take n entries)) → Suffices db (reverse (take n entries)) seen hints → clause ≡ filter (λ d. seen_at seen d.var) (falses (take n entries)) →
    hints2 ≡ reverse hints → IsTaught vars db entries seen n (entry_of clause hints2)
taught db vars entries seen hints hints2 clause n apart explained some range traced h ck hk =
    let k : ℕ = n - 1 in
    let here : n ≡ k + 1 = omega arith in
    let old = take n entries in
    let place : old ≡ take k entries ++ get_or entries k no_assigned ∷ [] = ap (λ m. take m entries) here ∙ place_is entries k no_assigned (omega arith) in
    let split = front_is entries n in
    let les = lesson db vars old (take k entries) (get_or entries k no_assigned) seen hints hints2 clause (apart_front vars entries old (drop n entries) split apart) (explained_front db entries old (drop n entries) split explained)
    place traced (suffices_derives db (reverse old) seen hints h) ck hk in
    record { new = les.new; first = les.first; less = les.less; traced = traced }

second_in : (x : Dim) (K : List Dim) → Contains (x ∷ K) (get_or K 0 x)
second_in x [] = (0, omega arith, refl)
second_in x (y ∷ ys) = (1, omega arith, refl)

second_head : (x : Dim) (K : List Dim) (y : Dim) (ys : List Dim) → K ≡ y ∷ ys → get_or K 0 x ≡ y
second_head x K y ys e = ap (λ l. get_or l 0 x) e

second_has : (x : Dim) (K : List Dim) (y : Dim) (ys : List Dim) → K ≡ y ∷ ys → Contains (x ∷ K) y
second_has x K y ys e = subst (λ (l : List Dim). Contains (x ∷ l) y) (sym e) (1, omega arith, refl)

-- where each literal has a list, so have the first two
pub pair_room : (n : ℕ) (clause : List Dim) → 0 < length clause → All (λ d. 2 * d.var + 1 < n) clause → (2 * (first_pair clause).a.var + 1 < n) × (2 * (first_pair clause).b.var + 1 < n)
pair_room n [] some room = absurd (omega (arith, some))
pair_room n (x ∷ []) some room = (room 0 x (omega arith), room 0 x (omega arith))
pair_room n (x ∷ y ∷ ys) some room = (room 0 x (omega arith), room 1 y (omega arith))

-- after the new clause stands among the others, is watched, and has made its first literal true
pub taken_up : (vars : ℕ) (db : List (List Dim)) (s : Entry) (pairs : List Pair) (rows rows2 : List (List Watch)) (t0 t1 t2 : TrailLists) (seen : List Bool) (n k : ℕ) (p : Pair) (e : Assigned) →
    IsReady vars db pairs rows t0 → IsTaught vars db t0.entries seen n s →
    Tracks t1.values t1.entries → length t1.values ≡ vars → IsAnchored seen (reverse t1.entries) → StopsBelow t0.entries t1.entries →
    kept seen (reverse t1.entries) ≡ kept seen (reverse (take (n - 1) t0.entries)) → valuation t1.values (get_or t0.entries (n - 1) no_assigned).dim.var ≡ None →
    k ≡ length db → p ≡ first_pair s.clause → rows2 ≡ with_pair rows p k →
    Tracks t2.values t2.entries → length t2.values ≡ length t1.values → t2.entries ≡ t1.entries ++ e ∷ [] → e ≡ record { dim = negate (get_or t0.entries (n - 1) no_assigned).dim; reason = Some k } →
    IsReady vars (db ++ s.clause ∷ []) (pairs ++ p ∷ []) rows2 t2 × IsHalfway (db ++ s.clause ∷ []) (pairs ++ p ∷ []) t2 (length t1.entries)
taken_up vars db s pairs rows rows2 t0 t1 t2 seen n k p e ready taught tracks1 width1 anchored below same open' kis pis ris tracks2 width2 more eis =
    let x : Assigned = get_or t0.entries (n - 1) no_assigned in
    let c : List Dim = s.clause in
    let K : List Dim = kept seen (reverse t1.entries) in
    let kdb : k ≡ length db = omega arith in
    let apart1 : IsApart vars (reverse t1.entries) = subst (λ (w : ℕ). IsApart w (reverse t1.entries)) width1 tracks1.apart in
    let o : denied (falses t1.entries) x.dim.var ≡ None = ap (λ (a : Valuation). a x.dim.var) (sym tracks1.same) ∙ open' in
    let explained1 = explained_front db t0.entries t1.entries (below.0 ∷ below.1) below.2 ready.sound.explained in
    let cis : c ≡ x.dim ∷ K = taught.first ∙ ap (λ l. x.dim ∷ l) (sym same) in
    let pis2 : p ≡ record { a = x.dim; b = get_or K 0 x.dim } = pis ∙ ap first_pair cis in
    let pa : p.a ≡ x.dim = ap (λ (q : Pair). q.a) pis2 in
    let pb : p.b ≡ get_or K 0 x.dim = ap (λ (q : Pair). q.b) pis2 in
    let ca : Contains c p.a = subst (λ (l : List Dim). Contains l p.a) (sym cis) (subst (λ (y : Dim). Contains (x.dim ∷ K) y) (sym pa) (0, omega arith, refl)) in
    let cb : Contains c p.b = subst (λ (l : List Dim). Contains l p.b) (sym cis) (subst (λ (y : Dim). Contains (x.dim ∷ K) y) (sym pb) (second_in x.dim K)) in
    let range : AreBelow vars c = taught.new.derived.in_range in
    let va : p.a.var < vars = All-contains (λ (d : Dim). d.var < vars) c p.a range ca in
    let vb : p.b.var < vars = All-contains (λ (d : Dim). d.var < vars) c p.b range cb in
    let ris2 : rows2 ≡ with_pair rows p (length db) = ris ∙ ap (with_pair rows p) kdb in
    let was1 = was_below db pairs t0.entries t1.entries below ready.was in
    let oa : denied (falses t1.entries) p.a.var ≡ None = ap (λ (d : Dim). denied (falses t1.entries) d.var) pa ∙ o in
    let was2 : WasCalm (db ++ c ∷ []) (pairs ++ p ∷ []) (reverse t1.entries) = was_more vars db pairs c p seen (reverse t1.entries) ready.paired.count ca oa
    (λ y ys q. (pb ∙ second_head x.dim K y ys q, subst (λ (l : List Dim). Contains l y) (sym cis) (second_has x.dim K y ys q))) apart1 anchored was1.1 in
    let high : Valuation = valuation t2.values in
    let front : take (length t1.entries) t2.entries ≡ t1.entries = ap (take (length t1.entries)) more ∙ take-append-le (length t1.entries) t1.entries (e ∷ []) (omega arith) ∙ take_all (length t1.entries) t1.entries (omega arith) in
    let low : Valuation = before t2.entries (length t1.entries) in
    let low_is : denied (falses t1.entries) ≡ low = ap (λ l. denied (falses l)) (sym front) in
    let grow : IsBelow (denied (falses t1.entries)) high = λ v b q. below_assigned t1.values t2.values t1.entries t2.entries e tracks1 tracks2 more v b (ap (λ (a : Valuation). a v) tracks1.same ∙ q) in
    let half1 : AllHalf db pairs low high = subst (λ (a : Valuation). AllHalf db pairs a high) low_is
    (λ j jl. half_grow (denied (falses t1.entries)) (denied (falses t1.entries)) high (clause_at db j) (pair_at pairs j) grow (was1.0 j jl)) in
    let set_true : high x.dim.var ≡ Some (not x.dim.negated) = subst (λ (d : Dim). high d.var ≡ Some d.negated) (ap (λ (y : Assigned). y.dim) eis) (now_assigned t2.values t1.entries t2.entries e tracks2 more) in
    let new_half : IsHalf low high c p = inl (x.dim, subst (λ (l : List Dim). Contains l x.dim) (sym cis) (0, omega arith, refl), set_true) in (
      record {
        below = All-push (AreBelow vars) db s.clause ready.below range;
        sound = learned_sound db s vars seen x e (take (n - 1) t0.entries) t1.entries t2.entries t2.values taught.first same o apart1 anchored explained1 tracks2 more
            (eis ∙ ap (λ m. let a : Assigned = record { dim = negate x.dim; reason = Some m } in a) kis);
        width = width2 ∙ width1;
        paired = pairs_push db pairs c p (λ _. (ca, cb)) ready.paired;
        filed = subst (λ (r : List (List Watch)). AreLists vars (db ++ s.clause ∷ []) r) (sym ris2)
            (lists_push vars db rows c p ca cb range ready.filed);
        listed = subst (λ (r : List (List Watch)). Listed (pairs ++ p ∷ []) r) (sym ris2) (listed_push vars pairs rows p (length db) ready.filed.count va vb (sym ready.paired.count) ready.listed);
        was = was_assigned (db ++ c ∷ []) (pairs ++ p ∷ []) t1.entries t2.entries e k more (ap (λ (y : Assigned). y.reason) eis) was2;
      },
      record {
        range = (let l = one_longer t1.entries t2.entries e more in omega arith);
        half = half_push db pairs c p low high ready.paired.count half1 new_half;
      },
    )

-- a clause that was just put behind all others, as it is read
pub stored_last : (db now : List (List Dim)) (clause read : List Dim) (k : ℕ) → now ≡ db ++ clause ∷ [] → k ≡ length db → read ≡ clause_at now k → read ≡ clause
stored_last db now clause read k is e r =
    r ∙ ap (λ (d : List (List Dim)). clause_at d k) is ∙ ap (λ (n : ℕ). clause_at (db ++ clause ∷ []) n) e ∙ get_or-append_seam db clause [] []
