-- The lists of watches, as they are taken out, put back and grow.
use Rattle.std.proofs.Common.{◌≡◌, ◌≢◌, ℕ, suc, ◌<◌, ◌≤◌, ◌+◌, ◌*◌, inl, inr, Bool, true, false, not, cond, Option, Some, List, [], ◌∷◌, ◌++◌, length, get_or, set, take, drop, reverse, sym, refl, ap, ◌∙◌, arith, subst, ⊎_elim, append_assoc, add-one, drop-cons, length-set, get_or-set_same, get_or-set_other, Vec, Global}
use Rattle.std.specs.List.{All, Contains}
use Rattle.std.proofs.lemmas.Bool.{cases_eq, eq-eqb}
use Rattle.std.proofs.lemmas.List.{take_all, take-append-le, drop_all, append-nil, length-map}
use Rattle.std.proofs.lemmas.List.{map-append, take_more_set, drop-set-lt}
use Rattle.std.proofs.lemmas.List.Elements.{All-set, All-push, All-append, All-take, All-drop, Contains-append_left, Contains-append_right, Contains-append_cases}
use Rattle.cnf.specs.declared.Dim.{Dim}
use Rattle.cnf.specs.Clauses.{negate, assume, denied, Valuation, valuation, IsFalsified}
use Rattle.refute_check.specs.Accepted.{clause_at}
use Rattle.sat_state.specs.declared.watch.Pair.{Pair}
use Rattle.sat_state.specs.declared.watch.Watch.{Watch}
use Rattle.refute_check.proofs.Denials.{dim_by}
use Rattle.sat_state.specs.declared.trail.Assigned.{Assigned}
use Rattle.sat_state.specs.Trail.{falses, Tracks, IsApart}
use Rattle.sat_search.proofs.Steps.{trail_range}
use Rattle.sat_search.specs.Learn.{IsBelow}
use Rattle.sat_search.specs.Walk.{before}
use Rattle.sat_state.specs.Watch.{IsMove, IsHalf, WasCalm, AllHalf, IsCalm, Rest, Listed, pair_at, code, rows, row_at, numbers, IsGood, Watches, ListedBut, ArePairs, AreLists}
use Rattle.sat_search.proofs.Watches.{half_next, half_grow, twice}
use Rattle.sat_state.proofs.Trails.{newest_push}
use Rattle.sat_search.proofs.Rests.{one_in, next_is, below_assigned, pair_same, pair_other}

-- ---- one list is worked off in place: its front is kept, its rest is still to be looked at

drop_first : (list : List Watch) (i : ℕ) (w : Watch) → i < length list → w ≡ get_or list i w → drop i list ≡ w ∷ drop (i + 1) list
drop_first list i w lt is = rw (add-one, drop-cons list i w) (ap (λ x. x ∷ drop (suc i) list) (sym is))

pub left_first : (list : List Watch) (i : ℕ) (w : Watch) → i < length list → w ≡ get_or list i w → numbers (drop i list) ≡ w.clause ∷ numbers (drop (i + 1) list)
left_first list i w lt is = ap numbers (drop_first list i w lt is)

pub left_set : (list : List Watch) (kept i : ℕ) (w2 : Watch) → kept ≤ i → numbers (drop (i + 1) (set list kept w2)) ≡ numbers (drop (i + 1) list)
left_set list kept i w2 le = ap numbers (drop-set-lt (i + 1) list kept w2 (omega arith))

pub own_first : (list : List Watch) (kept i : ℕ) (w : Watch) → i < length list → w ≡ get_or list i w →
    numbers (take kept list ++ drop i list) ≡ numbers (take kept list) ++ w.clause ∷ numbers (drop (i + 1) list)
own_first list kept i w lt is = map-append (λ (x : Watch). x.clause) (take kept list) (drop i list) ∙ ap (λ l. numbers (take kept list) ++ l) (left_first list i w lt is)

pub own_rest : (list : List Watch) (kept i : ℕ) → numbers (take kept list ++ drop (i + 1) list) ≡ numbers (take kept list) ++ numbers (drop (i + 1) list)
own_rest list kept i = map-append (λ (x : Watch). x.clause) (take kept list) (drop (i + 1) list)

pub own_keep : (list : List Watch) (kept i : ℕ) (w w2 : Watch) → kept ≤ i → i < length list → w ≡ get_or list i w → w2.clause ≡ w.clause →
    numbers (take (kept + 1) (set list kept w2) ++ drop (i + 1) (set list kept w2)) ≡ numbers (take kept list ++ drop i list)
own_keep list kept i w w2 le lt is same =
    map-append (λ (x : Watch). x.clause) (take (kept + 1) (set list kept w2)) (drop (i + 1) (set list kept w2))
    ∙ ap (λ l. numbers l ++ numbers (drop (i + 1) (set list kept w2))) (take_more_set list kept w2 (omega arith))
    ∙ ap (λ l. numbers (take kept list ++ w2 ∷ []) ++ l) (left_set list kept i w2 le)
    ∙ ap (λ l. l ++ numbers (drop (i + 1) list)) (map-append (λ (x : Watch). x.clause) (take kept list) (w2 ∷ []))
    ∙ append_assoc (numbers (take kept list)) (w2.clause ∷ []) (numbers (drop (i + 1) list))
    ∙ ap (λ k. numbers (take kept list) ++ k ∷ numbers (drop (i + 1) list)) same
    ∙ sym (own_first list kept i w lt is)

-- ---- a list grows

row_same : (rows : List (List Watch)) (x y : Dim) (row : List Watch) → code y < length rows → code x ≡ code y → row_at (set rows (code y) row) x ≡ row
row_same rows x y row lt e = ap (λ n. get_or (set rows (code y) row) n []) e ∙ get_or-set_same rows (code y) row [] lt

row_other : (rows : List (List Watch)) (x y : Dim) (row : List Watch) → code x ≢ code y → row_at (set rows (code y) row) x ≡ row_at rows x
row_other rows x y row ne = get_or-set_other rows (code y) (code x) row [] ne

pub row_grows : (rows : List (List Watch)) (x y : Dim) (w : Watch) (k : ℕ) → code y < length rows → Contains (numbers (row_at rows x)) k →
    Contains (numbers (row_at (set rows (code y) (row_at rows y ++ w ∷ [])) x)) k
row_grows rows x y w k lt h =
    let row = row_at rows y ++ w ∷ [] in
    ⊎_elim
    (λ e. subst (λ (r : List Watch). Contains (numbers r) k) (sym (row_same rows x y row lt e))
    (subst (λ (l : List ℕ). Contains l k) (sym (map-append (λ (v : Watch). v.clause) (row_at rows y) (w ∷ [])))
    (Contains-append_left (numbers (row_at rows y)) (w.clause ∷ []) k (subst (λ (n : ℕ). Contains (numbers (get_or rows n [])) k) e h))))
    (λ ne. subst (λ (r : List Watch). Contains (numbers r) k) (sym (row_other rows x y row ne)) h)
    (cases_eq (code x) (code y))

pub row_has : (rows : List (List Watch)) (y : Dim) (w : Watch) → code y < length rows → Contains (numbers (row_at (set rows (code y) (row_at rows y ++ w ∷ [])) y)) w.clause
row_has rows y w lt =
    subst (λ (r : List Watch). Contains (numbers r) w.clause) (sym (row_same rows y y (row_at rows y ++ w ∷ []) lt refl))
    (subst (λ (l : List ℕ). Contains l w.clause) (sym (map-append (λ (v : Watch). v.clause) (row_at rows y) (w ∷ [])))
    (Contains-append_right (numbers (row_at rows y)) (w.clause ∷ []) w.clause (0, omega arith, refl)))

pub lists_grow : (vars : ℕ) (db : List (List Dim)) (rows : List (List Watch)) (y : Dim) (w : Watch) → code y < length rows → IsGood db w → AreLists vars db rows →
    AreLists vars db (set rows (code y) (row_at rows y ++ w ∷ []))
lists_grow vars db rows y w lt good h = record {
  count = length-set rows (code y) (row_at rows y ++ w ∷ []) ∙ h.count;
  good = All-set (All (IsGood db)) rows (code y) (row_at rows y ++ w ∷ []) (All-push (IsGood db) (row_at rows y) w (h.good (code y) [] lt) good) h.good;
}

-- ---- a watch moves

not_in : (front left : List ℕ) (k0 k : ℕ) → k ≢ k0 → Contains (front ++ k0 ∷ left) k → Contains (front ++ left) k
not_in front left k0 k ne h = ⊎_elim
    (λ f. Contains-append_left front left k f)
    (λ r. ⊎_elim (λ first. absurd (ne (sym (one_in k0 k first)))) (λ later. Contains-append_right front left k later) (Contains-append_cases (k0 ∷ []) left k r))
    (Contains-append_cases front (k0 ∷ left) k h)

pub listed_move : (pairs : List Pair) (rows : List (List Watch)) (d : Dim) (a : Valuation) (c : List Dim) (q : Pair) (w : Watch) (front left : List ℕ) → w.clause < length pairs → code q.b < length rows →
    q.b ≢ d → IsMove a c (pair_at pairs w.clause) d q → ListedBut pairs rows d (front ++ w.clause ∷ left) →
    ListedBut (set pairs w.clause q) (set rows (code q.b) (row_at rows q.b ++ w ∷ [])) d (front ++ left)
listed_move pairs rows d a c q w front left lt lr away m h k x kl watches =
    let k0 : ℕ = w.clause in
    let p : Pair = pair_at pairs k0 in
    let k2 : k < length pairs = rw (length-set pairs k0 q) at kl in
    let R : List (List Watch) = set rows (code q.b) (row_at rows q.b ++ w ∷ []) in
    ⊎_elim
    (λ s. let qw : Watches q x = subst (λ (r : Pair). Watches r x) (ap (pair_at (set pairs k0 q)) s ∙ pair_same pairs k0 q lt) watches in
    ⊎_elim
    (λ isa. let two : p.a ≢ p.b = λ e. ⊎_elim (λ b. m.two (sym b.0 ∙ e ∙ b.1)) (λ b. m.two (sym b.1 ∙ sym e ∙ b.0)) m.beside in
    let old : Watches p q.a = (two, ⊎_elim (λ b. inr b.1) (λ b. inl b.0) m.beside) in
    ⊎_elim
    (λ there. inl (λ e. m.two (sym (isa ∙ e)), subst (λ (y : Dim). Contains (numbers (row_at R y)) k) isa (subst (λ (n : ℕ). Contains (numbers (row_at R q.a)) n) (sym s) (row_grows rows q.a q.b w k0 lr there.1))))
    (λ gone. absurd (m.two (sym gone.0)))
    (h k0 q.a lt old))
    (λ isb. inl (λ e. away (isb ∙ e), subst (λ (y : Dim). Contains (numbers (row_at R y)) k) isb (subst (λ (n : ℕ). Contains (numbers (row_at R q.b)) n) (sym s) (row_has rows q.b w lr))))
    qw.1)
    (λ ne. let pw : Watches (pair_at pairs k) x = subst (λ (r : Pair). Watches r x) (pair_other pairs k0 k q ne) watches in
    ⊎_elim
    (λ there. inl (there.0, row_grows rows x q.b w k lr there.1))
    (λ own. inr (own.0, not_in front left k0 k ne own.1))
    (h k x k2 pw))
    (cases_eq k k0)

-- a literal that is not false is not d
pub moved_away : (low next high : Valuation) (d x : Dim) → next ≡ assume low (negate d) → IsBelow next high → (IsFalsified high x → ⊥) → x ≢ d
moved_away low next high d x is below free e =
    free (subst (λ (y : Dim). IsFalsified high y) (sym e) (below d.var d.negated
    (ap (λ (a : Valuation). a d.var) is ∙ ap (λ t. cond t (Some (not (not d.negated))) (low d.var)) (eq-eqb d.var d.var refl) ∙ ap Some (twice d.negated))))

pub pairs_move : (db : List (List Dim)) (pairs : List Pair) (d : Dim) (a : Valuation) (q : Pair) (k0 : ℕ) → k0 < length db →
    IsMove a (clause_at db k0) (pair_at pairs k0) d q → ArePairs db pairs → ArePairs db (set pairs k0 q)
pairs_move db pairs d a q k0 lt m h =
    let lp : k0 < length pairs = let e = h.count in omega arith in
    record {
      count = length-set pairs k0 q ∙ h.count;
      inside = λ k x kl watches. ⊎_elim
          (λ s. let qw : Watches q x = subst (λ (r : Pair). Watches r x) (ap (pair_at (set pairs k0 q)) s ∙ pair_same pairs k0 q lp) watches in
          subst (λ (n : ℕ). Contains (clause_at db n) x) (sym s) (⊎_elim (λ e. subst (Contains (clause_at db k0)) e m.stays) (λ e. subst (Contains (clause_at db k0)) e m.has) qw.1))
          (λ ne. h.inside k x kl (subst (λ (r : Pair). Watches r x) (pair_other pairs k0 k q ne) watches))
          (cases_eq k k0);
    }

-- ---- a list is taken out and put back

same_code : (v w : ℕ) (a b : Bool) → cond a (2 * v + 1) (2 * v) ≡ cond b (2 * w + 1) (2 * w) → (v ≡ w) × (a ≡ b)
same_code v w true true e = (omega arith, refl)
same_code v w false false e = (omega arith, refl)
same_code v w true false e = absurd (omega arith)
same_code v w false true e = absurd (omega arith)

pub code_same : (x d : Dim) → code x ≡ code d → x ≡ d
code_same x d e = let s = same_code x.var d.var x.negated d.negated e in dim_by x d.var d.negated s.0 s.1

pub listed_take : (pairs : List Pair) (rows : List (List Watch)) (d : Dim) → Listed pairs rows → ListedBut pairs (set rows (code d) []) d (numbers (row_at rows d))
listed_take pairs rows d h k x lt watches =
    let there = h k x lt watches in
    ⊎_elim
    (λ e. inr (code_same x d e, subst (λ (n : ℕ). Contains (numbers (get_or rows n [])) k) e there))
    (λ ne. inl (λ e. ne (ap code e), subst (λ (r : List Watch). Contains (numbers r) k) (sym (row_other rows x d [] ne)) there))
    (cases_eq (code x) (code d))

pub rest_start : (db : List (List Dim)) (pairs : List Pair) (rows : List (List Watch)) (low next high : Valuation) (d : Dim) → next ≡ assume low (negate d) → Listed pairs rows → length pairs ≡ length db →
    AllHalf db pairs low high → Rest db pairs low next high (numbers (row_at rows d))
rest_start db pairs rows low next high d is listed count half k lt =
    let p : Pair = pair_at pairs k in
    let c : List Dim = clause_at db k in
    let kl : k < length pairs = omega arith in
    ⊎_elim
    (λ t. inl (inl t))
    (λ w. ⊎_elim
    (λ e. inr (inr w, listed k d kl (w.apart, inl (code_same p.a d e))))
    (λ na. ⊎_elim
    (λ e. inr (inr w, listed k d kl (w.apart, inr (code_same p.b d e))))
    (λ nb. inl (half_next low next high d c p is (λ e. na (ap code e)) (λ e. nb (ap code e)) (inr w)))
    (cases_eq (code p.b) (code d)))
    (cases_eq (code p.a) (code d)))
    (half k lt)

pub listed_put : (pairs : List Pair) (rows : List (List Watch)) (d : Dim) (row : List Watch) → code d < length rows → ListedBut pairs rows d (numbers row) → Listed pairs (set rows (code d) row)
listed_put pairs rows d row lr h k x lt watches =
    ⊎_elim
    (λ there. subst (λ (r : List Watch). Contains (numbers r) k) (sym (row_other rows x d row (λ e. there.0 (code_same x d e)))) there.1)
    (λ own. subst (λ (r : List Watch). Contains (numbers r) k) (sym (row_same rows x d row lr (ap code own.0))) own.1)
    (h k x lt watches)

pub lists_set : (vars : ℕ) (db : List (List Dim)) (rows : List (List Watch)) (d : Dim) (row : List Watch) → All (IsGood db) row → AreLists vars db rows → AreLists vars db (set rows (code d) row)
lists_set vars db rows d row good h = record {
  count = length-set rows (code d) row ∙ h.count;
  good = All-set (All (IsGood db)) rows (code d) row good h.good;
}

-- all that was assigned has been looked at
pub calm_end : (db : List (List Dim)) (pairs : List Pair) (values : List (Option Bool)) (entries : List Assigned) (at : ℕ) → length entries ≤ at → Tracks values entries →
    AllHalf db pairs (before entries at) (valuation values) → IsCalm db pairs (valuation values)
calm_end db pairs values entries at le tracks half =
    subst (λ (a : Valuation). AllHalf db pairs a (valuation values)) (ap (λ t. denied (falses t)) (take_all at entries le) ∙ sym tracks.same) half

-- ---- the literal at a place of the trail

pub dim_near : (vars at : ℕ) (entries es : List Assigned) (x : Assigned) → es ≡ entries → IsApart vars (reverse entries) → at < length entries → (get_or es at x).dim.var < vars
dim_near vars at entries es x is apart lt = subst (λ (t : List Assigned). (get_or t at x).dim.var < vars) (sym is) (trail_range vars entries apart at x lt)

pub dim_stands : (at : ℕ) (entries es : List Assigned) (x : Assigned) → es ≡ entries → at < length entries → before entries (at + 1) ≡ assume (before entries at) (negate (get_or es at x).dim)
dim_stands at entries es x is lt = subst (λ (t : List Assigned). before entries (at + 1) ≡ assume (before entries at) (negate (get_or t at x).dim)) (sym is) (next_is at entries x lt)

pub has_list : (lists : List (Vec Watch Global)) (v vars : ℕ) → length (rows lists) ≡ 2 * vars → v < vars → 2 * v + 1 < length lists
has_list lists v vars count lt = let e : length (rows lists) ≡ length lists = length-map lists (λ v. v.items) in omega arith

pub good_left : (db : List (List Dim)) (list : List Watch) (kept read : ℕ) → All (IsGood db) list → All (IsGood db) (take kept list ++ drop read list)
good_left db list kept read h = All-append (IsGood db) (take kept list) (drop read list) (All-take (IsGood db) kept list h) (All-drop (IsGood db) read list h)

-- what a vector is after its whole slice was written
pub slice_back : {A : Type 0} → (n : ℕ) (new items was : List A) → n ≡ length items → length new ≡ length was → was ≡ items → take n (new ++ drop (length new) items) ≡ new
slice_back n new items was e same is =
    let l : length new ≡ length items = same ∙ ap length is in
    ap (λ r. take n (new ++ r)) (drop_all (length new) items (omega arith)) ∙ ap (take n) (append-nil new) ∙ take_all n new (omega arith)

-- ---- a decision

pub half_decided : (db : List (List Dim)) (pairs : List Pair) (values values2 : List (Option Bool)) (trail trail2 : List Assigned) (e : Assigned) → Tracks values trail → Tracks values2 trail2 →
    trail2 ≡ trail ++ e ∷ [] → IsCalm db pairs (valuation values) → AllHalf db pairs (before trail2 (length trail)) (valuation values2)
half_decided db pairs values values2 trail trail2 e t t2 is calm k lt =
    let front : take (length trail) trail2 ≡ trail = ap (take (length trail)) is ∙ take-append-le (length trail) trail (e ∷ []) (omega arith) ∙ take_all (length trail) trail (omega arith) in
    let low : valuation values ≡ before trail2 (length trail) = t.same ∙ ap (λ es. denied (falses es)) (sym front) in
    subst (λ (a : Valuation). IsHalf a (valuation values2) (clause_at db k) (pair_at pairs k)) low
    (half_grow (valuation values) (valuation values) (valuation values2) (clause_at db k) (pair_at pairs k) (below_assigned values values2 trail trail2 e t t2 is) (calm k lt))

pub was_decided : (db : List (List Dim)) (pairs : List Pair) (values : List (Option Bool)) (trail trail2 : List Assigned) (e : Assigned) → Tracks values trail → trail2 ≡ trail ++ e ∷ [] →
    IsCalm db pairs (valuation values) → WasCalm db pairs (reverse trail) → WasCalm db pairs (reverse trail2)
was_decided db pairs values trail trail2 e t is calm was =
    subst (WasCalm db pairs) (sym (ap reverse is ∙ newest_push trail e)) (λ none. subst (IsCalm db pairs) t.same calm, was)
