-- Literals that others imply are replaced by their reasons, from the newest down.
use Rattle.std.proofs.Common.{◌≡◌, ◌≢◌, ℕ, zero, suc, ◌<◌, ◌≤◌, ◌+◌, ◌-◌, ◌⊎◌, inl, inr, Bool, true, false, not, cond, List, [], ◌∷◌, ◌++◌, length, get_or, set, take, drop, reverse, Option, Some, None, sym, refl, ap, ◌∙◌, arith, subst, ⊎_elim, get_or-set_same, get_or-set_other}
use Rattle.std.specs.List.{All, Contains}
use Rattle.std.proofs.lemmas.Bool.{cases_eq, eq-eqb, ne_eqb}
use Rattle.std.proofs.lemmas.List.{reverse-append, get_or_append_left, take-append-drop, length-take-le, take-take, length-reverse, length-drop}
use Rattle.std.proofs.lemmas.List.Elements.{All-nil, All-contains}
use Rattle.std.proofs.lemmas.Option.{MatchOption-at_some}
use Rattle.cnf.specs.declared.Dim.{Dim}
use Rattle.cnf.specs.Clauses.{negate, Valuation, denied, assume, IsFalsified, IsUnit}
use Rattle.refute_check.specs.Accepted.{clause_at, Derives, IsDerived}
use Rattle.refute_check.specs.Entry.{entry_of}
use Rattle.sat_state.specs.declared.trail.Assigned.{Assigned}
use Rattle.sat_state.specs.Trail.{dims, IsApart, IsQuiet, IsExplained}
use Rattle.sat_search.specs.Learn.{seen_at, no_assigned, HasVariable, IsClear, IsTraced, IsBelow, Explains, ExplainsOver, Suffices}
use Rattle.sat_search.proofs.Learns.{kept, resolved, kept_some, denied_filter, twice}
use Rattle.sat_state.proofs.Trails.{newest_push}
use Rattle.sat_search.proofs.Rests.{below_front}
use Rattle.sat_search.proofs.Steps.{apart_front, explained_front, place_is, front_is, trail_range}

pub suffices_derives : (db : List (List Dim)) (es : List Assigned) (seen : List Bool) (hints : List ℕ) → Suffices db es seen hints → Derives db (denied (kept seen es)) (reverse hints)
suffices_derives db es seen hints h = h (denied (kept seen es)) (λ v. denied_filter seen (dims es) v)

unseen_at : (seen : List Bool) (v : ℕ) → v < length seen → seen_at (set seen v false) v ≡ false
unseen_at seen v lt = get_or-set_same seen v false false lt

seen_other : (seen : List Bool) (v w : ℕ) → w ≢ v → seen_at (set seen v false) w ≡ seen_at seen w
seen_other seen v w ne = get_or-set_other seen v w false false ne

apart_tail : (vars : ℕ) (xs ys : List Assigned) → IsApart vars (xs ++ ys) → IsApart vars ys
apart_tail vars [] ys h = h
apart_tail vars (x ∷ xs) ys h = apart_tail vars xs ys h.2

seen_of : (s : Bool) (o : Option Bool) (t : Bool) → cond s o None ≡ Some t → s ≡ true
seen_of true o t h = refl
seen_of false o t h = cc

open_of : (o : Option Bool) → ((t : Bool) → o ≡ Some t → ⊥) → o ≡ None
open_of None h = refl
open_of (Some t) h = absurd (h t refl)

false_of : (b : Bool) → (b ≡ true → ⊥) → b ≡ false
false_of true h = absurd (h refl)
false_of false h = refl

-- ---- a walk from the newest literal down

-- from what a trace gives
pub over_start : (db : List (List Dim)) (vars : ℕ) (newer older : List Assigned) (seen : List Bool) (hints : List ℕ) → IsApart vars (newer ++ older) →
    Explains db (newer ++ older) seen hints → ExplainsOver db (newer ++ older) older seen hints
over_start db vars newer older seen hints apart h a same few =
    h a (λ v t k. ⊎_elim (λ s. sym (same v s) ∙ k) (λ o. below_front vars newer older apart v t o) (few v t k)) same

-- where each literal was walked over
pub over_end : (db : List (List Dim)) (all : List Assigned) (seen : List Bool) (hints : List ℕ) → ExplainsOver db all [] seen hints → Suffices db all seen hints
over_end db all seen hints h a is =
    h a (λ v s. is v ∙ ap (λ b. cond b (denied (dims all) v) None) s) (λ v t k. inl (seen_of (seen_at seen v) (denied (dims all) v) t (sym (is v) ∙ k)))

-- past a literal that stays, or is not seen
pub over_skip : (db : List (List Dim)) (vars : ℕ) (all older : List Assigned) (x : Assigned) (seen : List Bool) (hints : List ℕ) → IsApart vars (x ∷ older) →
    ExplainsOver db all (x ∷ older) seen hints → ExplainsOver db all older seen hints
over_skip db vars all older x seen hints apart h a same few =
    h a same (λ v t k. ⊎_elim (λ s. inl s) (λ o. inr (below_front vars (x ∷ []) older apart v t o)) (few v t k))

at_own : (a : Valuation) (x : Dim) (v : ℕ) → v ≡ x.var → assume a (negate x) v ≡ Some x.negated
at_own a x v q = ap (λ t. cond t (Some (not (not x.negated))) (a v)) (eq-eqb v x.var q) ∙ ap Some (twice x.negated)

at_other : (a : Valuation) (x : Dim) (v : ℕ) → v ≢ x.var → assume a (negate x) v ≡ a v
at_other a x v ne = ap (λ t. cond t (Some (not (not x.negated))) (a v)) (ne_eqb v x.var ne)

-- what the literal x, which has a reason, says of the older ones
record Resolves (db : List (List Dim)) (older : List Assigned) (x : Assigned) (r : ℕ) : Type 0 where
  known : r < length db
  unit : IsUnit (denied (dims older)) (clause_at db r) (negate x.dim)
  apart : denied (dims older) x.dim.var ≡ None

reason_of : (db : List (List Dim)) (vars : ℕ) (older : List Assigned) (x : Assigned) (r : ℕ) → IsApart vars (x ∷ older) → IsExplained db (x ∷ older) → x.reason ≡ Some r → Resolves db older x r
reason_of db vars older x r apart explained why =
    let low : Valuation = denied (dims older) in
    let because = MatchOption-at_some (IsQuiet db low) (λ r. (r < length db) × IsUnit low (clause_at db r) (negate x.dim)) r why explained.0 in
    record { known = because.0; unit = because.1; apart = apart.1 }

-- another variable of the reason has a value by the older ones, which makes its literal false
older_of : (db : List (List Dim)) (older : List Assigned) (x : Assigned) (r v : ℕ) → Resolves db older x r → v ≢ x.dim.var → HasVariable (clause_at db r) v →
    (t : Bool) × (denied (dims older) v ≡ Some t)
older_of db older x r v h ne (d, inside, e) =
    let low : Valuation = denied (dims older) in
    ⊎_elim (λ s. absurd (ne (sym e ∙ ap (λ (y : Dim). y.var) s))) (λ f. (d.negated, ap low (sym e) ∙ f))
    (All-contains (λ y. (y ≡ negate x.dim) ⊎ IsFalsified low y) (clause_at db r) d h.unit.others inside)

-- what is seen behind the marking was seen, or has a value by the older ones
few_marks : (db : List (List Dim)) (older : List Assigned) (x : Assigned) (seen marks : List Bool) (r : ℕ) → Resolves db older x r → x.dim.var < length marks →
    ((v : ℕ) → seen_at marks v ≡ true → (seen_at seen v ≡ true) ⊎ HasVariable (clause_at db r) v) →
    (v : ℕ) → seen_at (set marks x.dim.var false) v ≡ true → (seen_at seen v ≡ true) ⊎ ((t : Bool) × (denied (dims older) v ≡ Some t))
few_marks db older x seen marks r h lx only v s = ⊎_elim
    (λ q. let n : seen_at (set marks x.dim.var false) v ≡ false = ap (seen_at (set marks x.dim.var false)) q ∙ unseen_at marks x.dim.var lx in absurd (let m : true ≡ false = sym s ∙ n in cc))
    (λ ne. ⊎_elim (λ k. inl k) (λ k. inr (older_of db older x r v h ne k)) (only v (sym (seen_other marks x.dim.var v ne) ∙ s)))
    (cases_eq v x.dim.var)

-- the literal x is replaced by the others of its reason
over_resolve : (db : List (List Dim)) (vars : ℕ) (newer older : List Assigned) (x : Assigned) (seen marks : List Bool) (hints : List ℕ) (r : ℕ) → IsApart vars (newer ++ x ∷ older) → Resolves db older x r →
    x.dim.var < length marks → seen_at seen x.dim.var ≡ true → ((v : ℕ) → seen_at seen v ≡ true → seen_at marks v ≡ true) → All (λ d. seen_at marks d.var ≡ true) (clause_at db r) →
    ((v : ℕ) → seen_at marks v ≡ true → (seen_at seen v ≡ true) ⊎ HasVariable (clause_at db r) v) → ExplainsOver db (newer ++ x ∷ older) (x ∷ older) seen hints →
    ExplainsOver db (newer ++ x ∷ older) older (set marks x.dim.var false) (hints ++ r ∷ [])
over_resolve db vars newer older x seen marks hints r apart why lx s0 more marked only h a same few =
    let D : Valuation = denied (dims (newer ++ x ∷ older)) in
    let low : Valuation = denied (dims older) in
    let now : List Bool = set marks x.dim.var false in
    let here : IsApart vars (x ∷ older) = apart_tail vars newer (x ∷ older) apart in
    let up : IsBelow low (denied (dims (x ∷ older))) = λ v t k. below_front vars (x ∷ []) older here v t k in
    let whole : IsBelow (denied (dims (x ∷ older))) D = λ v t k. below_front vars newer (x ∷ older) apart v t k in
    let own : D x.dim.var ≡ Some x.dim.negated = whole x.dim.var x.dim.negated (ap (λ t. cond t (Some x.dim.negated) (low x.dim.var)) (eq-eqb x.dim.var x.dim.var refl)) in
    let opened : a x.dim.var ≡ None = open_of (a x.dim.var) (λ t k. ⊎_elim
    (λ s. let n : true ≡ false = sym s ∙ unseen_at marks x.dim.var lx in cc)
    (λ o. let n : Some t ≡ None = sym o ∙ why.apart in cc) (few x.dim.var t k)) in
    let unit : IsUnit a (clause_at db r) (negate x.dim) = record {
      inside = why.unit.inside;
      opened = opened;
      others = λ j d jl. ⊎_elim (λ e. inl e)
          (λ f. let y : Dim = get_or (clause_at db r) j d in
          let ne : y.var ≢ x.dim.var = λ q. (let n : Some y.negated ≡ None = sym f ∙ ap low q ∙ why.apart in cc) in
          inr (same y.var (seen_other marks x.dim.var y.var ne ∙ marked j d jl) ∙ whole y.var y.negated (up y.var y.negated f))) (why.unit.others j d jl);
    } in
    resolved db a hints r (negate x.dim) why.known unit
    (h (assume a (negate x.dim))
    (λ v s. ⊎_elim (λ q. at_own a x.dim v q ∙ sym own ∙ ap D (sym q)) (λ ne. at_other a x.dim v ne ∙ same v (seen_other marks x.dim.var v ne ∙ more v s)) (cases_eq v x.dim.var))
    (λ v t k. ⊎_elim (λ q. inl (ap (seen_at seen) q ∙ s0))
    (λ ne. let e : a v ≡ Some t = sym (at_other a x.dim v ne) ∙ k in
    ⊎_elim (λ s. ⊎_elim (λ was. inl was) (λ o. inr (up v o.0 o.1 ∙ sym (whole v o.0 (up v o.0 o.1)) ∙ sym (same v s) ∙ e)) (few_marks db older x seen marks r why lx only v s)) (λ o. inr (up v t o)) (few v t e))
    (cases_eq v x.dim.var)))

-- ---- the newest literal stays alone

clear_kept : (vars : ℕ) (seen now : List Bool) (ys older : List Assigned) (x : Assigned) → IsApart vars (ys ++ x ∷ older) → seen_at seen x.dim.var ≡ true →
    ((v : ℕ) → seen_at now v ≡ true → (seen_at seen v ≡ true) ⊎ ((t : Bool) × (denied (dims older) v ≡ Some t))) → IsClear seen (ys ++ x ∷ older) → IsClear now (ys ++ x ∷ older)
clear_kept vars seen now [] older x apart s0 few h = absurd (let n : true ≡ false = sym s0 ∙ h.0 in cc)
clear_kept vars seen now (y ∷ ys) older x apart s0 few h = (
  false_of (seen_at now y.dim.var) (λ s. ⊎_elim (λ was. let n : true ≡ false = sym was ∙ h.0 in cc)
      (λ o. let k = below_front vars ys (x ∷ older) apart.2 y.dim.var o.0 (below_front vars (x ∷ []) older (apart_tail vars ys (x ∷ older) apart.2) y.dim.var o.0 o.1) in
      let n : Some o.0 ≡ None = sym k ∙ apart.1 in cc) (few y.dim.var s)),
  ⊎_elim (λ n. inl n) (λ c. inr (clear_kept vars seen now ys older x apart.2 s0 few c)) h.1,
)

traced_kept : (vars : ℕ) (seen marks : List Bool) (newer older : List Assigned) (x : Assigned) → 0 < length newer → IsApart vars (newer ++ x ∷ older) → seen_at seen x.dim.var ≡ true →
    ((v : ℕ) → seen_at seen v ≡ true → seen_at marks v ≡ true) →
    ((v : ℕ) → seen_at (set marks x.dim.var false) v ≡ true → (seen_at seen v ≡ true) ⊎ ((t : Bool) × (denied (dims older) v ≡ Some t))) →
    IsTraced seen (newer ++ x ∷ older) → IsTraced (set marks x.dim.var false) (newer ++ x ∷ older)
traced_kept vars seen marks [] older x some apart s0 more few h = absurd (omega arith)
traced_kept vars seen marks (y ∷ ys) older x some apart s0 more few h =
    let now : denied (dims (ys ++ x ∷ older)) x.dim.var ≡ Some x.dim.negated =
    below_front vars ys (x ∷ older) apart.2 x.dim.var x.dim.negated (ap (λ t. cond t (Some x.dim.negated) (denied (dims older) x.dim.var)) (eq-eqb x.dim.var x.dim.var refl)) in
    let ne : y.dim.var ≢ x.dim.var = λ q. (let n : denied (dims (ys ++ x ∷ older)) x.dim.var ≡ None = ap (denied (dims (ys ++ x ∷ older))) (sym q) ∙ apart.1 in let m : Some x.dim.negated ≡ None = sym now ∙ n in cc) in (
      seen_other marks x.dim.var y.dim.var ne ∙ more y.dim.var h.0,
      ⊎_elim (λ n. inl n) (λ c. inr (clear_kept vars seen (set marks x.dim.var false) ys older x apart.2 s0 few c)) h.1,
    )

-- ---- places of the trail

-- up to a place: the literal there, and the older ones
pub newest_at : (entries : List Assigned) (i : ℕ) → i < length entries → reverse (take (i + 1) entries) ≡ get_or entries i no_assigned ∷ reverse (take i entries)
newest_at entries i lt = ap reverse (place_is entries i no_assigned lt) ∙ newest_push (take i entries) (get_or entries i no_assigned)

apart_at : (vars : ℕ) (entries : List Assigned) (n : ℕ) → IsApart vars (reverse entries) → IsApart vars (reverse (take n entries))
apart_at vars entries n apart = apart_front vars entries (take n entries) (drop n entries) (front_is entries n) apart

-- the walk begins below the newest literal
pub walk_start : (db : List (List Dim)) (vars left : ℕ) (entries : List Assigned) (seen : List Bool) (hints : List ℕ) → IsApart vars (reverse entries) → left ≤ length entries →
    Explains db (reverse (take left entries)) seen hints → ExplainsOver db (reverse (take left entries)) (reverse (take (left - 1) entries)) seen hints
walk_start db vars zero entries seen hints apart range h = over_start db vars [] [] seen hints tt h
walk_start db vars (suc n) entries seen hints apart range h =
    let x : Assigned = get_or entries n no_assigned in
    let older : List Assigned = reverse (take n entries) in
    let one : suc n ≡ n + 1 = omega arith in
    let is : reverse (take (suc n) entries) ≡ x ∷ older = ap (λ (k : ℕ). reverse (take k entries)) one ∙ newest_at entries n (omega arith) in
    let behind : n ≡ suc n - 1 = omega arith in
    subst (λ (k : ℕ). ExplainsOver db (reverse (take (suc n) entries)) (reverse (take k entries)) seen hints) behind
    (subst (λ (es : List Assigned). ExplainsOver db es older seen hints) (sym is)
    (over_start db vars (x ∷ []) older seen hints (subst (IsApart vars) is (apart_at vars entries (suc n) apart)) (subst (λ (es : List Assigned). Explains db es seen hints) is h)))

pub walk_end : (db : List (List Dim)) (n : ℕ) (all entries : List Assigned) (seen : List Bool) (hints : List ℕ) → n ≤ 1 → ExplainsOver db all (reverse (take (n - 1) entries)) seen hints → Suffices db all seen hints
walk_end db n all entries seen hints le h =
    let z : n - 1 ≡ 0 = omega arith in
    over_end db all seen hints (subst (λ (k : ℕ). ExplainsOver db all (reverse (take k entries)) seen hints) z h)

-- the literal at a place stays
pub skipped : (db : List (List Dim)) (vars i : ℕ) (all entries : List Assigned) (seen : List Bool) (hints : List ℕ) → IsApart vars (reverse entries) → i < length entries →
    ExplainsOver db all (reverse (take (i + 1) entries)) seen hints → ExplainsOver db all (reverse (take i entries)) seen hints
skipped db vars i all entries seen hints apart lt h =
    let x : Assigned = get_or entries i no_assigned in
    let is : reverse (take (i + 1) entries) ≡ x ∷ reverse (take i entries) = newest_at entries i lt in
    over_skip db vars all (reverse (take i entries)) x seen hints (subst (IsApart vars) is (apart_at vars entries (i + 1) apart))
    (subst (λ (es : List Assigned). ExplainsOver db all es seen hints) is h)

-- The literal at a place is replaced: it is older than the newest, and all variables of its reason are marked, and no others.
pub dropped : (db : List (List Dim)) (vars : ℕ) (entries : List Assigned) (left i : ℕ) (seen marks : List Bool) (hints : List ℕ) (r : ℕ) → IsApart vars (reverse entries) → IsExplained db (reverse entries) →
    i + 1 < left → left ≤ length entries → length marks ≡ vars → (get_or entries i no_assigned).reason ≡ Some r → seen_at seen (get_or entries i no_assigned).dim.var ≡ true →
    ((v : ℕ) → seen_at seen v ≡ true → seen_at marks v ≡ true) → All (λ d. seen_at marks d.var ≡ true) (clause_at db r) →
    ((v : ℕ) → seen_at marks v ≡ true → (seen_at seen v ≡ true) ⊎ HasVariable (clause_at db r) v) →
    ExplainsOver db (reverse (take left entries)) (reverse (take (i + 1) entries)) seen hints → IsTraced seen (reverse (take left entries)) →
    ExplainsOver db (reverse (take left entries)) (reverse (take i entries)) (set marks (get_or entries i no_assigned).dim.var false) (hints ++ r ∷ [])
    × IsTraced (set marks (get_or entries i no_assigned).dim.var false) (reverse (take left entries))
dropped db vars entries left i seen marks hints r apart0 explained0 lt range wide why s0 more marked only enough traced =
    let whole = take left entries in
    let x : Assigned = get_or entries i no_assigned in
    let older : List Assigned = reverse (take i entries) in
    let newer : List Assigned = reverse (drop (i + 1) whole) in
    let here : reverse (take (i + 1) entries) ≡ x ∷ older = newest_at entries i (omega arith) in
    let front : take (i + 1) whole ≡ take (i + 1) entries = take-take (i + 1) left entries (omega arith) in
    let es_is : reverse whole ≡ newer ++ x ∷ older = ap reverse (front_is whole (i + 1)) ∙ reverse-append (take (i + 1) whole) (drop (i + 1) whole) ∙ ap (λ l. newer ++ reverse l) front ∙ ap (λ l. newer ++ l) here in
    let apart : IsApart vars (newer ++ x ∷ older) = subst (IsApart vars) es_is (apart_at vars entries left apart0) in
    let explained : IsExplained db (x ∷ older) = subst (IsExplained db) here (explained_front db entries (take (i + 1) entries) (drop (i + 1) entries) (front_is entries (i + 1)) explained0) in
    let because : Resolves db older x r = reason_of db vars older x r (apart_tail vars newer (x ∷ older) apart) explained why in
    let lx : x.dim.var < length marks = subst (λ (n : ℕ). x.dim.var < n) (sym wide) (trail_range vars entries apart0 i no_assigned (omega arith)) in
    let wl : length whole ≡ left = length-take-le left entries range in
    let some : 0 < length newer = (let l : length newer ≡ length (drop (i + 1) whole) = length-reverse (drop (i + 1) whole) in let m : length (drop (i + 1) whole) ≡ length whole - (i + 1) = length-drop (i + 1) whole in omega arith) in (
      subst (λ (es : List Assigned). ExplainsOver db es older (set marks x.dim.var false) (hints ++ r ∷ [])) (sym es_is)
          (over_resolve db vars newer older x seen marks hints r apart because lx s0 more marked only
          (subst (λ (es : List Assigned). ExplainsOver db es (x ∷ older) seen hints) es_is (subst (λ (es : List Assigned). ExplainsOver db (reverse whole) es seen hints) here enough))),
      subst (IsTraced (set marks x.dim.var false)) (sym es_is)
          (traced_kept vars seen marks newer older x some apart s0 more (few_marks db older x seen marks r because lx only) (subst (IsTraced seen) es_is traced)),
    )

none_seen : (b : Bool) → let n : Option Bool = None in n ≡ cond b None None
none_seen true = refl
none_seen false = refl

-- where nothing of the trail is left, the empty clause follows
pub nothing_left : (db : List (List Dim)) (vars : ℕ) (seen : List Bool) (hints hints2 : List ℕ) (clause : List Dim) → Suffices db [] seen hints → clause ≡ [] → hints2 ≡ reverse hints → IsDerived vars db (entry_of clause hints2)
nothing_left db vars seen hints hints2 clause h ck hk =
    subst (λ (c : List Dim). IsDerived vars db (entry_of c hints2)) (sym ck)
    (subst (λ (hs : List ℕ). IsDerived vars db (entry_of [] hs)) (sym hk)
    (record { in_range = All-nil (λ (d : Dim). d.var < vars); consistent = All-nil (λ (d : Dim). Contains [] (negate d) → ⊥); derives = h (denied []) (λ v. none_seen (seen_at seen v)) }))
