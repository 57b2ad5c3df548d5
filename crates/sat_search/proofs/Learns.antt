-- What a conflict teaches.
use Rattle.std.proofs.Common.{◌≡◌, ◌≢◌, ℕ, ◌<◌, ◌+◌, ◌⊎◌, inl, inr, Bool, true, false, not, nat_eq, cond, List, [], ◌∷◌, ◌++◌, length, get_or, reverse, Option, Some, None, MatchOption, sym, refl, ap, ◌∙◌, arith, subst, ⊎_elim, length-append}
use Rattle.std.specs.List.{All, Contains, filter}
use Rattle.std.proofs.lemmas.List.{reverse-append, get_or_append_left}
use Rattle.std.proofs.lemmas.Option.{MatchOption-at_none, same_Some, none-some}
use Rattle.std.proofs.lemmas.List.Elements.{All-weaker, All-contains, All-cons, All-head, All-tail, All-nil, All-push, All-filter, Contains-append_right}
use Rattle.std.proofs.lemmas.Bool.{cases_eq, eq-eqb, ne_eqb, false≢true}
use Rattle.cnf.specs.declared.Dim.{Dim}
use Rattle.cnf.specs.Clauses.{negate, Valuation, denied, assume, IsFalsified, IsConflict, IsUnit}
use Rattle.refute_check.specs.Accepted.{clause_at, Derives, IsConsistent}
use Rattle.refute_check.proofs.Derivations.{derives_unit}
use Rattle.refute_check.proofs.Denials.{denied_none, dim_by}
use Rattle.sat_state.specs.declared.trail.Assigned.{Assigned}
use Rattle.sat_state.specs.Trail.{dims, IsApart, IsQuiet, Why, IsExplained}
use Rattle.refute_check.specs.Fresh.{NamesOnce, Subsumes}
use Rattle.sat_search.specs.Learn.{seen_at, IsClear, IsAnchored, IsBelow, Explains}

-- the conflict itself
pub explains_first : (db : List (List Dim)) (es : List Assigned) (seen : List Bool) (k : ℕ) → k < length db → IsConflict (denied (dims es)) (clause_at db k) →
    All (λ d. seen_at seen d.var ≡ true) (clause_at db k) → Explains db es seen (k ∷ [])
explains_first db es seen k lt conflict marked a below same =
    (lt, λ j d jl. same _ (marked j d jl) ∙ conflict j d jl)

-- Derives wants one hint at least, so a hint before them is not the last.
pub resolved : (db : List (List Dim)) (a : Valuation) (hints : List ℕ) (r : ℕ) (d : Dim) → r < length db → IsUnit a (clause_at db r) d →
    Derives db (assume a d) (reverse hints) → Derives db a (reverse (hints ++ r ∷ []))
resolved db a hints r d lt u h =
    rw (reverse-append hints (r ∷ [])) ((derives_unit db a r (reverse hints) d lt u).0 h)

below_cons : (e : Assigned) (es : List Assigned) (a : Valuation) → denied (dims es) e.dim.var ≡ None → IsBelow a (denied (dims es)) → IsBelow a (denied (dims (e ∷ es)))
below_cons e es a open' below v t k = ⊎_elim
    (λ s. absurd (let n : denied (dims es) v ≡ None = rw s open' in let m : denied (dims es) v ≡ Some t = below v t k in cc))
    (λ ne. ap (λ b. cond b (Some e.dim.negated) (denied (dims es) v)) (ne_eqb v e.dim.var ne) ∙ below v t k)
    (cases_eq v e.dim.var)

none_below : (a b : Valuation) (v : ℕ) → IsBelow a b → b v ≡ None → a v ≡ None
none_below a b v below n =
    let P : Option Bool → Type 0 = λ o. a v ≡ o → o ≡ None in
    let at : (o : Option Bool) → P o = λ o. elim o as P [ None ↦ λ k. refl | Some t ↦ λ k. absurd (let m : b v ≡ Some t = below v t k in cc) ] in
    at (a v) refl

pub twice : (b : Bool) → not (not b) ≡ b
twice true = refl
twice false = refl

-- a newest literal that is not seen goes
pub explains_pop : (db : List (List Dim)) (e : Assigned) (es : List Assigned) (seen : List Bool) (hints : List ℕ) → denied (dims es) e.dim.var ≡ None → seen_at seen e.dim.var ≡ false →
    Explains db (e ∷ es) seen hints → Explains db es seen hints
explains_pop db e es seen hints open' unseen h a below same =
    h a (below_cons e es a open' below) (λ v s. ⊎_elim
    (λ here. absurd (false≢true (sym unseen ∙ subst (λ (w : ℕ). seen_at seen w ≡ true) here s)))
    (λ ne. same v s ∙ sym (ap (λ b. cond b (Some e.dim.negated) (denied (dims es) v)) (ne_eqb v e.dim.var ne)))
    (cases_eq v e.dim.var))

-- a newest literal that is seen goes for the others of its reason
pub explains_resolve : (db : List (List Dim)) (e : Assigned) (es : List Assigned) (old new : List Bool) (hints : List ℕ) (r : ℕ) → denied (dims es) e.dim.var ≡ None →
    r < length db → IsUnit (denied (dims es)) (clause_at db r) (negate e.dim) →
    ((v : ℕ) → v ≢ e.dim.var → seen_at old v ≡ true → seen_at new v ≡ true) →
    All (λ d. d.var ≢ e.dim.var → seen_at new d.var ≡ true) (clause_at db r) →
    Explains db (e ∷ es) old hints → Explains db es new (hints ++ r ∷ [])
explains_resolve db e es old new hints r open' lt u more marked h a below same =
    let D : Valuation = denied (dims es) in
    let here : a e.dim.var ≡ None = none_below a D e.dim.var below open' in
    let unit : IsUnit a (clause_at db r) (negate e.dim) = record {
      inside = u.inside;
      opened = here;
      others = λ j d jl. ⊎_elim (λ s. inl s)
          (λ f. inr (same _ (marked j d jl (λ s. let n : D (get_or (clause_at db r) j d).var ≡ None = rw s open' in cc)) ∙ f)) (u.others j d jl);
    } in
    resolved db a hints r (negate e.dim) lt unit
    (h (assume a (negate e.dim))
    (λ v t k. ⊎_elim
    (λ s. rw (eq-eqb v e.dim.var s) (ap Some (sym (twice e.dim.negated)) ∙ (rw (eq-eqb v e.dim.var s) at k)))
    (λ ne. rw (ne_eqb v e.dim.var ne) (below v t (rw (ne_eqb v e.dim.var ne) at k)))
    (cases_eq v e.dim.var))
    (λ v s. ⊎_elim
    (λ q. rw (eq-eqb v e.dim.var q) (ap Some (twice e.dim.negated)))
    (λ ne. rw (ne_eqb v e.dim.var ne) (same v (more v ne s)))
    (cases_eq v e.dim.var)))

pub none_tail : (e : Assigned) (es : List Assigned) (v : ℕ) → denied (dims (e ∷ es)) v ≡ None → denied (dims es) v ≡ None
none_tail e es v h =
    let P : Bool → Type 0 = λ t. cond t (Some e.dim.negated) (denied (dims es) v) ≡ None → denied (dims es) v ≡ None in
    let at : (t : Bool) → P t = λ t. elim t as P [ true ↦ λ k. absurd (let n : Some e.dim.negated ≡ None = k in cc) | false ↦ λ k. k ] in
    at (nat_eq v e.dim.var) h

none_other : (e : Assigned) (es : List Assigned) (v : ℕ) → denied (dims (e ∷ es)) v ≡ None → v ≡ e.dim.var → ⊥
none_other e es v h s = let k : cond (nat_eq v e.dim.var) (Some e.dim.negated) (denied (dims es) v) ≡ None = h in
    let m : Some e.dim.negated ≡ None = rw (eq-eqb v e.dim.var s) at k in cc

abbrev pub seen_in : List Bool → Dim → Bool
seen_in seen = λ d. seen_at seen d.var

-- the literals that are seen
abbrev pub kept : List Bool → List Assigned → List Dim
kept seen es = filter (λ d. seen_at seen d.var) (dims es)

cond_same : (t : Bool) → let n : Option Bool = None in n ≡ cond t None None
cond_same true = refl
cond_same false = refl

pub kept_some : (s : Bool) (o : Option Bool) (t : Bool) → cond s o None ≡ Some t → o ≡ Some t
kept_some true o t h = h
kept_some false o t h = cc

pub not_self : (b : Bool) → b ≡ not b → ⊥
not_self true h = cc
not_self false h = cc

filter_seen : (seen : List Bool) (x : Dim) (xs : List Dim) (v : ℕ) (F : List Dim) → seen_at seen x.var ≡ true → denied F v ≡ cond (seen_at seen v) (denied xs v) None →
    cond (nat_eq v x.var) (Some x.negated) (denied F v) ≡ cond (seen_at seen v) (cond (nat_eq v x.var) (Some x.negated) (denied xs v)) None
filter_seen seen x xs v F s ih = ⊎_elim
    (λ q. let e : nat_eq v x.var ≡ true = eq-eqb v x.var q in
    ap (λ t. cond t (Some x.negated) (denied F v)) e ∙ sym (ap (λ t. cond t (Some x.negated) None) (ap (seen_at seen) q ∙ s))
    ∙ ap (λ t. cond (seen_at seen v) (cond t (Some x.negated) (denied xs v)) None) (sym e))
    (λ ne. let e : nat_eq v x.var ≡ false = ne_eqb v x.var ne in
    ap (λ t. cond t (Some x.negated) (denied F v)) e ∙ ih ∙ ap (λ t. cond (seen_at seen v) (cond t (Some x.negated) (denied xs v)) None) (sym e))
    (cases_eq v x.var)

filter_unseen : (seen : List Bool) (x : Dim) (xs : List Dim) (v : ℕ) (F : List Dim) → seen_at seen x.var ≡ false → denied F v ≡ cond (seen_at seen v) (denied xs v) None →
    denied F v ≡ cond (seen_at seen v) (cond (nat_eq v x.var) (Some x.negated) (denied xs v)) None
filter_unseen seen x xs v F s ih = ⊎_elim
    (λ q. let n : seen_at seen v ≡ false = ap (seen_at seen) q ∙ s in
    ih ∙ ap (λ t. cond t (denied xs v) None) n ∙ sym (ap (λ t. cond t (cond (nat_eq v x.var) (Some x.negated) (denied xs v)) None) n))
    (λ ne. let e : nat_eq v x.var ≡ false = ne_eqb v x.var ne in
    ih ∙ ap (λ t. cond (seen_at seen v) (cond t (Some x.negated) (denied xs v)) None) (sym e))
    (cases_eq v x.var)

pub denied_filter : (seen : List Bool) (xs : List Dim) (v : ℕ) → denied (filter (λ d. seen_at seen d.var) xs) v ≡ cond (seen_at seen v) (denied xs v) None
denied_filter seen [] v = cond_same (seen_at seen v)
denied_filter seen (x ∷ xs) v =
    let F : List Dim = filter (λ d. seen_at seen d.var) xs in
    let ih : denied F v ≡ cond (seen_at seen v) (denied xs v) None = denied_filter seen xs v in
    let step : (t : Bool) → seen_at seen x.var ≡ t → denied (cond t (x ∷ F) F) v ≡ cond (seen_at seen v) (denied (x ∷ xs) v) None =
    λ t. elim t as (λ b. seen_at seen x.var ≡ b → denied (cond b (x ∷ F) F) v ≡ cond (seen_at seen v) (denied (x ∷ xs) v) None) [
      | true ↦ λ s. filter_seen seen x xs v F s ih
      | false ↦ λ s. filter_unseen seen x xs v F s ih
    ] in
    step (seen_at seen x.var) refl

-- The clause of the seen literals follows.
pub traced_derives : (db : List (List Dim)) (es : List Assigned) (seen : List Bool) (hints : List ℕ) → Explains db es seen hints → Derives db (denied (kept seen es)) (reverse hints)
traced_derives db es seen hints h =
    h (denied (kept seen es))
    (λ v t k. kept_some (seen_at seen v) (denied (dims es) v) t (sym (denied_filter seen (dims es) v) ∙ k))
    (λ v s. denied_filter seen (dims es) v ∙ ap (λ t. cond t (denied (dims es) v) None) s)

-- below the last decision, where no variable is seen since
clear_base : (vars : ℕ) (db : List (List Dim)) (seen : List Bool) (es : List Assigned) (v : ℕ) → IsExplained db es → IsClear seen es → denied (dims es) v ≡ None →
    (l : List Assigned) × IsQuiet db (denied (dims l)) × (denied (dims l) v ≡ None) × (kept seen es ≡ kept seen l)
clear_base vars db seen [] v ex clear o = absurd clear
clear_base vars db seen (e ∷ es) v ex clear o =
    let skip : kept seen (e ∷ es) ≡ kept seen es = ap (λ t. cond t (e.dim ∷ kept seen es) (kept seen es)) clear.0 in
    ⊎_elim
    (λ none. (es, MatchOption-at_none _ _ none ex.0, none_tail e es v o, skip))
    (λ more. let r = clear_base vars db seen es v ex.1 more (none_tail e es v o) in (r.0, r.1, r.2, skip ∙ r.3))
    clear.1

some_or_all : (a : Valuation) (d : Dim) (xs : List Dim) → All (λ x. (x ≡ d) ⊎ IsFalsified a x) xs → Contains xs d ⊎ All (IsFalsified a) xs
some_or_all a d [] h = inr (All-nil (IsFalsified a))
some_or_all a d (x ∷ xs) h =
    let P : Dim → Type 0 = λ x. (x ≡ d) ⊎ IsFalsified a x in
    ⊎_elim
    (λ s. inl (0, omega arith, s))
    (λ f. ⊎_elim (λ c. inl (Contains-append_right (x ∷ []) xs d c)) (λ rest. inr (All-cons (IsFalsified a) x xs f rest)) (some_or_all a d xs (All-tail P x xs h)))
    (All-head P x xs h)

at_literal : (seen : List Bool) (d : Dim) (l : List Assigned) (x : Dim) → denied (d ∷ kept seen l) x.var ≡ Some x.negated → (x ≡ d) ⊎ IsFalsified (denied (dims l)) x
at_literal seen d l x f = ⊎_elim
    (λ s. inl (let n : Some d.negated ≡ Some x.negated = rw (eq-eqb x.var d.var s) at f in dim_by x d.var d.negated s (sym (same_Some _ _ n))))
    (λ ne. inr (let n : denied (kept seen l) x.var ≡ Some x.negated = rw (ne_eqb x.var d.var ne) at f in
    kept_some (seen_at seen x.var) (denied (dims l) x.var) x.negated (sym (denied_filter seen (dims l) x.var) ∙ n)))
    (cases_eq x.var d.var)

-- where the literals of the new clause are false, no clause is false
quiet_new : (db : List (List Dim)) (seen : List Bool) (d : Dim) (l : List Assigned) → IsQuiet db (denied (dims l)) → denied (dims l) d.var ≡ None →
    All (λ c. IsConflict (denied (d ∷ kept seen l)) c → ⊥) db
quiet_new db seen d l quiet o k dc kl f =
    let c : List Dim = get_or db k dc in
    let a : Valuation = denied (dims l) in
    let each : All (λ x. (x ≡ d) ⊎ IsFalsified a x) c = λ j dx jl. at_literal seen d l (get_or c j dx) (f j dx jl) in
    ⊎_elim
    (λ has. (quiet k dc kl).1 d (record { inside = has; opened = o; others = each }))
    (λ all. (quiet k dc kl).0 all)
    (some_or_all a d c each)

pub conflict_new : (vars : ℕ) (db : List (List Dim)) (seen : List Bool) (e : Assigned) (es : List Assigned) → denied (dims es) e.dim.var ≡ None → IsExplained db (e ∷ es) →
    (e.reason ≡ None) ⊎ IsClear seen es → All (λ c. IsConflict (denied (e.dim ∷ kept seen es)) c → ⊥) db
conflict_new vars db seen e es o ex alone =
    ⊎_elim
    (λ none. quiet_new db seen e.dim es (MatchOption-at_none _ _ none ex.0) o)
    (λ clear. let r = clear_base vars db seen es e.dim.var ex.1 clear o in
    subst (λ (ks : List Dim). All (λ c. IsConflict (denied (e.dim ∷ ks)) c → ⊥) db) (sym r.3) (quiet_new db seen e.dim r.0 r.1 r.2))
    alone

-- of a clause that names each variable once, each literal is false where all are
pub own_denied : (c : List Dim) → NamesOnce c → All (IsFalsified (denied c)) c
own_denied [] h = All-nil (IsFalsified (denied []))
own_denied (x ∷ xs) h = All-cons (IsFalsified (denied (x ∷ xs))) x xs
    (ap (λ t. cond t (Some x.negated) (denied xs x.var)) (eq-eqb x.var x.var refl))
    (λ j d jl. ap (λ t. cond t (Some x.negated) (denied xs (get_or xs j d).var)) (ne_eqb _ x.var (h.0 j d jl)) ∙ own_denied xs h.1 j d jl)

pub once_consistent : (c : List Dim) → NamesOnce c → IsConsistent c
once_consistent c h j d jl other =
    let x : Dim = get_or c j d in
    let one : denied c x.var ≡ Some x.negated = own_denied c h j d jl in
    let two : denied c x.var ≡ Some (not x.negated) = All-contains (IsFalsified (denied c)) c (negate x) (own_denied c h) other in
    not_self x.negated (same_Some _ _ (sym one ∙ two))

pub once_within : (c other : List Dim) → NamesOnce c → Subsumes other c → IsConflict (denied c) other
once_within c other h w j d jl = All-contains (IsFalsified (denied c)) c (get_or other j d) (own_denied c h) (w j d jl)

pub apart_once : (vars : ℕ) (es : List Assigned) → IsApart vars es → NamesOnce (dims es)
apart_once vars [] h = tt
apart_once vars (e ∷ es) h = (denied_none (dims es) e.dim.var h.1, apart_once vars es h.2)

pub apart_range : (vars : ℕ) (es : List Assigned) → IsApart vars es → All (λ d. d.var < vars) (dims es)
apart_range vars [] h = All-nil (λ (d : Dim). d.var < vars)
apart_range vars (e ∷ es) h = All-cons (λ (d : Dim). d.var < vars) e.dim (dims es) h.0 (apart_range vars es h.2)

pub filter_once : (p : Dim → Bool) (xs : List Dim) → NamesOnce xs → NamesOnce (filter p xs)
filter_once p [] h = tt
filter_once p (x ∷ xs) h =
    let P : Bool → Type 0 = λ t. NamesOnce (cond t (x ∷ filter p xs) (filter p xs)) in
    let at : (t : Bool) → P t = λ t. elim t as P [ true ↦ (All-filter p (λ y. y.var ≢ x.var) xs h.0, filter_once p xs h.1) | false ↦ filter_once p xs h.1 ] in
    at (p x)

kept_head : (seen : List Bool) (e : Assigned) (es : List Assigned) → seen_at seen e.dim.var ≡ true → Contains (kept seen (e ∷ es)) e.dim
kept_head seen e es s = subst (λ t. Contains (cond t (e.dim ∷ kept seen es) (kept seen es)) e.dim) (sym s) (0, omega arith, refl)

kept_tail : (seen : List Bool) (e : Assigned) (es : List Assigned) (x : Dim) → Contains (kept seen es) x → Contains (kept seen (e ∷ es)) x
kept_tail seen e es x k =
    let P : Bool → Type 0 = λ t. Contains (cond t (e.dim ∷ kept seen es) (kept seen es)) x in
    let at : (t : Bool) → P t = λ t. elim t as P [ true ↦ Contains-append_right (e.dim ∷ []) (kept seen es) x k | false ↦ k ] in
    at (seen_at seen e.dim.var)

open_one : (a : Valuation) (c : List Dim) (d x : Dim) → IsUnit a c d → Contains c x → a x.var ≡ None → x ≡ d
open_one a c d x u cx ox = ⊎_elim (λ s. s) (λ f. absurd (none-some x.negated (sym ox ∙ f))) (All-contains (λ e. (e ≡ d) ⊎ IsFalsified a e) c x u.others cx)

-- a clause with two open literals is neither false nor unit
two_open : (a : Valuation) (c : List Dim) (x y : Dim) → Contains c x → Contains c y → a x.var ≡ None → a y.var ≡ None → x.var ≢ y.var →
    (IsConflict a c → ⊥) × ((d : Dim) → IsUnit a c d → ⊥)
two_open a c x y cx cy ox oy ne = (
  λ f. let k : a x.var ≡ Some x.negated = All-contains (IsFalsified a) c x f cx in none-some x.negated (sym ox ∙ k),
  λ d u. let one = open_one a c d x u cx ox in let two = open_one a c d y u cy oy in ne (ap (λ (e : Dim). e.var) (one ∙ sym two)),
)

-- the reason of an entry is the same among more clauses
why_reason : (db : List (List Dim)) (c : List Dim) (a : Valuation) (e : Assigned) → e.reason ≢ None → Why db a e → Why (db ++ c ∷ []) a e
why_reason db c a e some why =
    let P : Option ℕ → Type 0 = λ o. (o ≡ None → ⊥) → MatchOption o (IsQuiet db a) (λ r. (r < length db) × IsUnit a (clause_at db r) (negate e.dim)) →
    MatchOption o (IsQuiet (db ++ c ∷ []) a) (λ r. (r < length (db ++ c ∷ [])) × IsUnit a (clause_at (db ++ c ∷ []) r) (negate e.dim)) in
    let at : (o : Option ℕ) → P o = λ o. elim o as P [
      | None ↦ λ n w. absurd (n refl)
      | Some r ↦ λ n w. (
        let l : length (db ++ c ∷ []) ≡ length db + 1 = length-append db (c ∷ []) in let r0 : r < length db = w.0 in omega arith,
        rw (get_or_append_left db (c ∷ []) [] r w.0) w.1,
      )
    ] in
    at e.reason some why

-- as it is at a decision
why_quiet : (db : List (List Dim)) (c : List Dim) (a : Valuation) (e : Assigned) → (IsConflict a c → ⊥) × ((d : Dim) → IsUnit a c d → ⊥) → Why db a e → Why (db ++ c ∷ []) a e
why_quiet db c a e calm why =
    let P : Option ℕ → Type 0 = λ o. MatchOption o (IsQuiet db a) (λ r. (r < length db) × IsUnit a (clause_at db r) (negate e.dim)) →
    MatchOption o (IsQuiet (db ++ c ∷ []) a) (λ r. (r < length (db ++ c ∷ [])) × IsUnit a (clause_at (db ++ c ∷ []) r) (negate e.dim)) in
    let at : (o : Option ℕ) → P o = λ o. elim o as P [
      | None ↦ λ w. All-push (λ k. (IsConflict a k → ⊥) × ((d : Dim) → IsUnit a k d → ⊥)) db c w calm
      | Some r ↦ λ w. (
        let l : length (db ++ c ∷ []) ≡ length db + 1 = length-append db (c ∷ []) in let r0 : r < length db = w.0 in omega arith,
        rw (get_or_append_left db (c ∷ []) [] r w.0) w.1,
      )
    ] in
    at e.reason why

explained_two : (db : List (List Dim)) (c : List Dim) (x y : Dim) (es : List Assigned) → Contains c x → Contains c y → x.var ≢ y.var →
    denied (dims es) x.var ≡ None → denied (dims es) y.var ≡ None → IsExplained db es → IsExplained (db ++ c ∷ []) es
explained_two db c x y [] cx cy ne ox oy h = tt
explained_two db c x y (e ∷ es) cx cy ne ox oy h =
    let ox2 = none_tail e es x.var ox in
    let oy2 = none_tail e es y.var oy in
    (why_quiet db c (denied (dims es)) e (two_open (denied (dims es)) c x y cx cy ox2 oy2 ne) h.0, explained_two db c x y es cx cy ne ox2 oy2 h.1)

-- The trail that is left stays explained with the new clause: at each decision that is left it has two open literals.
pub explained_more : (vars : ℕ) (db : List (List Dim)) (c : List Dim) (u : Dim) (seen : List Bool) (es : List Assigned) → Contains c u → denied (dims es) u.var ≡ None →
    ((x : Dim) → Contains (kept seen es) x → Contains c x) → IsApart vars es → IsAnchored seen es → IsExplained db es → IsExplained (db ++ c ∷ []) es
explained_more vars db c u seen [] cu ou all apart anchored h = tt
explained_more vars db c u seen (e ∷ es) cu ou all apart anchored h =
    let ou2 = none_tail e es u.var ou in
    ⊎_elim
    (λ s. let ce : Contains c e.dim = all e.dim (kept_head seen e es s) in
    let ne : e.dim.var ≢ u.var = λ q. none_other e es u.var ou (sym q) in (
      why_quiet db c (denied (dims es)) e (two_open (denied (dims es)) c e.dim u ce cu apart.1 ou2 ne) h.0,
      explained_two db c e.dim u es ce cu ne apart.1 ou2 h.1,
    ))
    (λ more. (
      why_reason db c (denied (dims es)) e more.0 h.0,
      explained_more vars db c u seen es cu ou2 (λ x k. all x (kept_tail seen e es x k)) apart.2 more.1 h.1,
    ))
    anchored

-- the new clause is unit
pub unit_new : (vars : ℕ) (seen : List Bool) (d : Dim) (es : List Assigned) → denied (dims es) d.var ≡ None → IsApart vars es → IsUnit (denied (dims es)) (d ∷ kept seen es) d
unit_new vars seen d es o apart = record {
  inside = (0, omega arith, refl);
  opened = o;
  others = All-cons (λ e. (e ≡ d) ⊎ IsFalsified (denied (dims es)) e) d (kept seen es) (inl refl)
      (All-weaker (IsFalsified (denied (dims es))) (λ e. (e ≡ d) ⊎ IsFalsified (denied (dims es)) e) (λ e f. inr f) (kept seen es)
      (All-filter (λ x. seen_at seen x.var) (IsFalsified (denied (dims es))) (dims es) (own_denied (dims es) (apart_once vars es apart))));
}
