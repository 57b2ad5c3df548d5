-- Steps of the solver, over lists.
use Rattle.std.proofs.Common.{◌≡◌, ℕ, ◌<◌, ◌+◌, ◌-◌, Bool, true, false, not, cond, List, [], ◌∷◌, ◌++◌, length, get_or, set, reverse, take, drop, Option, Some, None, MatchOption, sym, refl, ap, ◌∙◌, arith, subst, length-append, append_assoc, get_or-set_other}
use Rattle.std.specs.List.{All, filter}
use Rattle.std.specs.Prelude.{Result, Ok, Err, OnOk}
use Rattle.std.proofs.lemmas.List.{reverse-append, reverse-reverse, take_more, take-append-drop}
use Rattle.std.proofs.lemmas.List.Elements.{All-nil, All-cons, All-head, All-tail, All-push}
use Rattle.std.proofs.lemmas.Option.{MatchOption-at_some}
use Rattle.std.proofs.Math.Seq.{get_or-append_seam}
use Rattle.cnf.specs.declared.Dim.{Dim}
use Rattle.cnf.specs.Clauses.{negate, Valuation, denied, IsUnit, valuation}
use Rattle.refute_check.specs.Accepted.{clause_at}
use Rattle.refute_check.proofs.Denials.{dim_by}
use Rattle.sat_state.specs.declared.trail.Assigned.{Assigned}
use Rattle.sat_state.specs.Trail.{dims, falses, Tracks, IsApart, IsQuiet, Why, IsExplained, IsSound}
use Rattle.sat_search.specs.Learn.{seen_at, IsClear, Explains}
use Rattle.sat_state.proofs.Trails.{newest_push, explained_push, explained_pop}
use Rattle.sat_search.proofs.Learns.{explains_pop, explains_resolve, none_tail, kept}

not_not : (b : Bool) → not (not b) ≡ b
not_not true = refl
not_not false = refl

-- each element but the last, and the last
apart_split : (vars : ℕ) (trail : List Assigned) (e : Assigned) → IsApart vars (reverse (trail ++ e ∷ [])) → (e.dim.var < vars) × (denied (falses trail) e.dim.var ≡ None) × IsApart vars (reverse trail)
apart_split vars trail e h = subst (IsApart vars) (newest_push trail e) h

range_cons : (vars : ℕ) (es : List Assigned) → IsApart vars es → All (λ e. e.dim.var < vars) es
range_cons vars [] h = All-nil (λ (e : Assigned). e.dim.var < vars)
range_cons vars (e ∷ es) h = All-cons (λ (e : Assigned). e.dim.var < vars) e es h.0 (range_cons vars es h.2)

all_reverse : (P : Assigned → Type 0) (xs : List Assigned) → All P xs → All P (reverse xs)
all_reverse P [] h = All-nil P
all_reverse P (x ∷ xs) h = subst (All P) (sym (reverse-append (x ∷ []) xs)) (All-push P (reverse xs) x (all_reverse P xs (All-tail P x xs h)) (All-head P x xs h))

-- the variables of the trail are in range
pub trail_range : (vars : ℕ) (trail : List Assigned) → IsApart vars (reverse trail) → All (λ e. e.dim.var < vars) trail
trail_range vars trail h =
    subst (All (λ (e : Assigned). e.dim.var < vars)) (reverse-reverse trail) (all_reverse (λ e. e.dim.var < vars) (reverse trail) (range_cons vars (reverse trail) h))

pub sound_unit : (db : List (List Dim)) (values values2 : List (Option Bool)) (trail trail2 : List Assigned) (k : ℕ) (d : Dim) (e : Assigned) → IsSound db values trail → k < length db →
    IsUnit (valuation values) (clause_at db k) d → e ≡ record { dim = record { var = d.var; negated = not d.negated }; reason = Some k } → Tracks values2 trail2 → trail2 ≡ trail ++ e ∷ [] → IsSound db values2 trail2
sound_unit db values values2 trail trail2 k d e sound lt unit is tracks2 more =
    let twice : negate (record { var = d.var; negated = not d.negated }) ≡ d = sym (dim_by d d.var (not (not d.negated)) refl (sym (not_not d.negated))) in
    let same : valuation values ≡ denied (falses trail) = sound.tracks.same in
    let u : IsUnit (denied (falses trail)) (clause_at db k) (negate (record { var = d.var; negated = not d.negated })) =
    subst (λ (x : Dim). IsUnit (denied (falses trail)) (clause_at db k) x) (sym twice) (subst (λ (a : Valuation). IsUnit a (clause_at db k) d) same unit) in
    let why : Why db (denied (falses trail)) e = subst (Why db (denied (falses trail))) (sym is) (lt, u) in
    record { tracks = tracks2; explained = subst (λ (t : List Assigned). IsExplained db (reverse t)) (sym more) (explained_push db trail e why sound.explained) }

pub sound_decided : (db : List (List Dim)) (values values2 : List (Option Bool)) (trail trail2 : List Assigned) (e : Assigned) → IsSound db values trail →
    IsQuiet db (valuation values) → e.reason ≡ None → Tracks values2 trail2 → trail2 ≡ trail ++ e ∷ [] → IsSound db values2 trail2
sound_decided db values values2 trail trail2 e sound quiet none tracks2 more =
    let why : Why db (denied (falses trail)) e = subst (λ o. MatchOption o (IsQuiet db (denied (falses trail))) (λ r. (r < length db) × IsUnit (denied (falses trail)) (clause_at db r) (negate e.dim))) (sym none) (subst (IsQuiet db) sound.tracks.same quiet) in
    record { tracks = tracks2; explained = subst (λ (t : List Assigned). IsExplained db (reverse t)) (sym more) (explained_push db trail e why sound.explained) }

-- what the code read as the last entry is the one that was popped
pub newest_is : (old trail : List Assigned) (e x : Assigned) (n : ℕ) → old ≡ trail ++ x ∷ [] → n ≡ length old → e ≡ get_or old (n - 1) e → e ≡ x
newest_is old trail e x n is len at =
    let l : length (trail ++ x ∷ []) ≡ length trail + 1 = length-append trail (x ∷ []) in
    let l2 : length old ≡ length (trail ++ x ∷ []) = ap length is in
    let i : n - 1 ≡ length trail = omega arith in
    at ∙ ap (λ k. get_or old k e) i ∙ ap (λ (t : List Assigned). get_or t (length trail) e) is ∙ get_or-append_seam trail x [] e

pub sound_popped : (db : List (List Dim)) (values values2 : List (Option Bool)) (old trail : List Assigned) (x : Assigned) → IsSound db values old → old ≡ trail ++ x ∷ [] → Tracks values2 trail → IsSound db values2 trail
sound_popped db values values2 old trail x sound is tracks2 = record { tracks = tracks2; explained = (explained_pop db old trail x is sound.explained).1 }

explained_drop : (db : List (List Dim)) (xs ys : List Assigned) → IsExplained db (xs ++ ys) → IsExplained db ys
explained_drop db [] ys h = h
explained_drop db (x ∷ xs) ys h = explained_drop db xs ys h.1

pub explained_front : (db : List (List Dim)) (old trail rest : List Assigned) → old ≡ trail ++ rest → IsExplained db (reverse old) → IsExplained db (reverse trail)
explained_front db old trail rest is h = explained_drop db (reverse rest) (reverse trail) (subst (IsExplained db) (ap reverse is ∙ reverse-append trail rest) h)

-- ---- back along the trail

apart_drop : (vars : ℕ) (xs ys : List Assigned) → IsApart vars (xs ++ ys) → IsApart vars ys
apart_drop vars [] ys h = h
apart_drop vars (x ∷ xs) ys h = apart_drop vars xs ys h.2

pub apart_front : (vars : ℕ) (whole front rest : List Assigned) → whole ≡ front ++ rest → IsApart vars (reverse whole) → IsApart vars (reverse front)
apart_front vars whole front rest is h = apart_drop vars (reverse rest) (reverse front) (subst (IsApart vars) (ap reverse is ∙ reverse-append front rest) h)

pub place_is : (entries : List Assigned) (i : ℕ) (x : Assigned) → i < length entries → take (i + 1) entries ≡ take i entries ++ get_or entries i x ∷ []
place_is entries i x lt = take_more entries i x lt

pub front_is : (entries : List Assigned) (i : ℕ) → entries ≡ take i entries ++ drop i entries
front_is entries i = sym (take-append-drop i entries)

open_below : (vars : ℕ) (old trail : List Assigned) (x : Assigned) → IsApart vars (reverse old) → old ≡ trail ++ x ∷ [] → denied (falses trail) x.dim.var ≡ None
open_below vars old trail x apart is = (apart_split vars trail x (subst (λ (t : List Assigned). IsApart vars (reverse t)) is apart)).1

pub trace_pop : (db : List (List Dim)) (vars : ℕ) (old trail : List Assigned) (x : Assigned) (seen : List Bool) (hints : List ℕ) → IsApart vars (reverse old) → old ≡ trail ++ x ∷ [] →
    seen_at seen x.dim.var ≡ false → Explains db (reverse old) seen hints → Explains db (reverse trail) seen hints
trace_pop db vars old trail x seen hints apart is unseen h =
    explains_pop db x (reverse trail) seen hints (open_below vars old trail x apart is) unseen
    (subst (λ (t : List Assigned). Explains db t seen hints) (ap reverse is ∙ newest_push trail x) h)

pub trace_resolve : (db : List (List Dim)) (vars : ℕ) (old trail : List Assigned) (x : Assigned) (seen marks : List Bool) (hints : List ℕ) (r : ℕ) → IsApart vars (reverse old) → IsExplained db (reverse old) →
    old ≡ trail ++ x ∷ [] → x.reason ≡ Some r → ((v : ℕ) → seen_at seen v ≡ true → seen_at marks v ≡ true) → All (λ d. seen_at marks d.var ≡ true) (clause_at db r) →
    Explains db (reverse old) seen hints → Explains db (reverse trail) (set marks x.dim.var false) (hints ++ r ∷ [])
trace_resolve db vars old trail x seen marks hints r apart explained is why more marked h =
    let because = MatchOption-at_some (IsQuiet db (denied (falses trail))) (λ r. (r < length db) × IsUnit (denied (falses trail)) (clause_at db r) (negate x.dim)) r why (explained_pop db old trail x is explained).0 in
    explains_resolve db x (reverse trail) seen (set marks x.dim.var false) hints r (open_below vars old trail x apart is) because.0 because.1
    (λ v ne s. get_or-set_other marks x.dim.var v false false ne ∙ more v s)
    (λ j d jl ne. get_or-set_other marks x.dim.var (get_or (clause_at db r) j d).var false false ne ∙ marked j d jl)
    (subst (λ (t : List Assigned). Explains db t seen hints) (ap reverse is ∙ newest_push trail x) h)

pub reason_known : (db : List (List Dim)) (old trail : List Assigned) (x : Assigned) (r : ℕ) → IsExplained db (reverse old) → old ≡ trail ++ x ∷ [] → x.reason ≡ Some r → r < length db
reason_known db old trail x r explained is why =
    (MatchOption-at_some (IsQuiet db (denied (falses trail))) (λ r. (r < length db) × IsUnit (denied (falses trail)) (clause_at db r) (negate x.dim)) r why (explained_pop db old trail x is explained).0).0

pub clear_some : (seen : List Bool) (trail : List Assigned) → IsClear seen (reverse trail) → 0 < length trail
clear_some seen [] h = absurd h
clear_some seen (x ∷ xs) h = omega arith

pub clear_unseen : (seen : List Bool) (old trail : List Assigned) (x : Assigned) → old ≡ trail ++ x ∷ [] → IsClear seen (reverse old) → seen_at seen x.dim.var ≡ false
clear_unseen seen old trail x is h = let k : IsClear seen (x ∷ reverse trail) = subst (IsClear seen) (ap reverse is ∙ newest_push trail x) h in k.0

pub kept_popped : (seen : List Bool) (old trail : List Assigned) (x : Assigned) → old ≡ trail ++ x ∷ [] → seen_at seen x.dim.var ≡ false →
    filter (λ d. seen_at seen d.var) (falses trail) ≡ filter (λ d. seen_at seen d.var) (falses old)
kept_popped seen old trail x is unseen =
    sym (ap (λ t. filter (λ d. seen_at seen d.var) (dims t)) (ap reverse is ∙ newest_push trail x) ∙ ap (λ b. cond b (x.dim ∷ kept seen (reverse trail)) (kept seen (reverse trail))) unseen)

pub open_popped : (values values2 : List (Option Bool)) (old trail : List Assigned) (x : Assigned) → old ≡ trail ++ x ∷ [] → Tracks values old → Tracks values2 trail → (v : ℕ) → valuation values v ≡ None → valuation values2 v ≡ None
open_popped values values2 old trail x is t t2 v o =
    let k : denied (dims (x ∷ reverse trail)) v ≡ None = ap (λ es. denied (dims es) v) (sym (ap reverse is ∙ newest_push trail x)) ∙ ap (λ (a : Valuation). a v) (sym t.same) ∙ o in
    ap (λ (a : Valuation). a v) t2.same ∙ none_tail x (reverse trail) v k

pub front_popped : (start old trail : List Assigned) (x : Assigned) → old ≡ trail ++ x ∷ [] → (rest : List Assigned) × (start ≡ old ++ rest) → (rest : List Assigned) × (start ≡ trail ++ rest)
front_popped start old trail x is h = (x ∷ h.0, h.1 ∙ ap (λ t. t ++ h.0) is ∙ append_assoc trail (x ∷ []) h.0)

-- ---- results

-- what holds already holds where a call succeeds
pub on_ok : {T E : Type 0} (r : Result T E) (P : Type 0) → P → OnOk r P
on_ok (Ok x) P h = h
on_ok (Err y) P h = tt
