-- The queue of the variables.
use Rattle.std.proofs.Common.{◌≡◌, ◌≢◌, ℕ, ◌<◌, ◌≤◌, ◌+◌, ◌-◌, ◌⊎◌, inl, inr, Bool, true, false, not, cond, List, [], ◌∷◌, ◌++◌, length, set, Option, Some, None, MatchOption, sym, refl, ap, ◌∙◌, arith, subst, ⊎_elim, length-set, get_or-set_same, get_or-set_other}
use Rattle.std.specs.Prelude.{IfSome}
use Rattle.std.specs.List.{All, Contains, filter}
use Rattle.std.proofs.lemmas.Bool.{cases_eq, eq-eqb, ne_eqb, cases_lt}
use Rattle.std.proofs.lemmas.List.{get_or_append_left, get_or_default, get_or_past, get_or_push}
use Rattle.std.proofs.lemmas.List.Elements.{Contains-append_left, Contains-append_right}
use Rattle.std.proofs.lemmas.Option.{none-some}
use Rattle.idx_list.specs.Order.{without, IsLast, Follow}
use Rattle.idx_list.specs.Ring.{Has}
use Rattle.idx_list.proofs.Chains.{Has-append, Has-right, Has-from_Contains, Contains-from_Has, without-has_not}
use Rattle.cnf.specs.Clauses.{valuation}
use Rattle.sat_state.specs.Queue.{stamp_at, Falls, IsPast, IsQueue, IsListed, rank_of}

-- ---- the first stamps

pub stamped_more : (stamps : List ℕ) (vars n x : ℕ) → length stamps ≡ n → x ≡ vars - n → ((v : ℕ) → v < n → stamp_at stamps v ≡ vars - v) → (v : ℕ) → v < n + 1 → stamp_at (stamps ++ x ∷ []) v ≡ vars - v
stamped_more stamps vars n x len is before v below = ⊎_elim
    (λ e. rw e (get_or_push stamps x 0 n len ∙ is))
    (λ ne. get_or_append_left stamps (x ∷ []) 0 v (omega arith) ∙ before v (omega arith))
    (cases_eq v n)

pub stamped_all : (stamps : List ℕ) (vars : ℕ) → length stamps ≡ vars → ((v : ℕ) → v < vars → stamp_at stamps v ≡ vars - v) → (v : ℕ) → stamp_at stamps v ≡ vars - v
stamped_all stamps vars len each v = ⊎_elim (λ lt. each v lt) (λ le. get_or_past stamps v 0 (omega arith) ∙ omega arith) (cases_lt v vars)

-- ---- lists with falling stamps

has_filter : (p : ℕ → Bool) (xs : List ℕ) (y : ℕ) → Has (filter p xs) y → Has xs y
has_filter p [] y h = h
has_filter p (x ∷ xs) y h =
    let P : Bool → Type 0 = λ t. Has (cond t (x ∷ filter p xs) (filter p xs)) y → (x ≡ y) ⊎ Has xs y in
    let at : (t : Bool) → P t = λ t. elim t as P [
      | true ↦ λ k. ⊎_elim (λ s. inl s) (λ r. inr (has_filter p xs y r)) k
      | false ↦ λ k. inr (has_filter p xs y k)
    ] in
    at (p x) h

has_without : (x v : ℕ) (xs : List ℕ) → v ≢ x → Has xs v → Has (without x xs) v
has_without x v [] ne h = h
has_without x v (y ∷ ys) ne h =
    let P : Bool → Type 0 = λ t. Has (cond t (y ∷ without x ys) (without x ys)) v in
    ⊎_elim
    (λ e. subst P (sym (ap not (eq-eqb y x e))) (⊎_elim (λ s. absurd (ne (sym s ∙ e))) (λ r. has_without x v ys ne r) h))
    (λ other. subst P (sym (ap not (ne_eqb y x other))) (⊎_elim (λ s. inl s) (λ r. inr (has_without x v ys ne r)) h))
    (cases_eq y x)

falls_filter : (p : ℕ → Bool) (s xs : List ℕ) → Falls s xs → Falls s (filter p xs)
falls_filter p s [] h = tt
falls_filter p s (x ∷ xs) h =
    let P : Bool → Type 0 = λ t. Falls s (cond t (x ∷ filter p xs) (filter p xs)) in
    let at : (t : Bool) → P t = λ t. elim t as P [
      | true ↦ (λ y k. h.0 y (has_filter p xs y k), falls_filter p s xs h.1)
      | false ↦ falls_filter p s xs h.1
    ] in
    at (p x)

-- other stamps, that are the same for the numbers of the list
falls_same : (s s2 xs : List ℕ) → ((y : ℕ) → Has xs y → stamp_at s2 y ≡ stamp_at s y) → Falls s xs → Falls s2 xs
falls_same s s2 [] same h = tt
falls_same s s2 (x ∷ xs) same h = (
  λ y k. (let a : stamp_at s2 y ≡ stamp_at s y = same y (inr k) in let b : stamp_at s2 x ≡ stamp_at s x = same x (inl refl) in let l : stamp_at s y < stamp_at s x = h.0 y k in omega arith),
  falls_same s s2 xs (λ y k. same y (inr k)) h.1,
)

falls_front : (s front rest : List ℕ) (x v : ℕ) → Falls s (front ++ x ∷ rest) → Has front v → stamp_at s x < stamp_at s v
falls_front s [] rest x v h f = absurd f
falls_front s (y ∷ front) rest x v h f = ⊎_elim
    (λ e. subst (λ (w : ℕ). stamp_at s x < stamp_at s w) e (h.0 x (Has-right front (x ∷ rest) x (inl refl))))
    (λ r. falls_front s front rest x v h.1 r) f

falls_rest : (s front rest : List ℕ) (x : ℕ) → Falls s (front ++ x ∷ rest) → Falls s (x ∷ rest)
falls_rest s [] rest x h = h
falls_rest s (y ∷ front) rest x h = falls_rest s front rest x h.1

-- one more at the end
falls_push : (s xs : List ℕ) (x : ℕ) → Falls s xs → ((y : ℕ) → Has xs y → stamp_at s x < stamp_at s y) → Falls s (xs ++ x ∷ [])
falls_push s [] x h less = (λ y k. absurd k, tt)
falls_push s (z ∷ xs) x h less = (
  λ y k. ⊎_elim (λ old. h.0 y old) (λ new. ⊎_elim (λ e. subst (λ (w : ℕ). stamp_at s w < stamp_at s z) e (less z (inl refl))) (λ none. absurd none) new) (Has-append xs (x ∷ []) y k),
  falls_push s xs x h.1 (λ y k. less y (inr k)),
)

-- ---- a variable is moved to the front

pub moved : (values : List (Option Bool)) (items s : List ℕ) (clock v : ℕ) (next next2 : Option ℕ) → v < length values → IsQueue values items s clock next →
    IfSome next2 (λ n. n < length values) → IsPast values (set s v (clock + 1)) next2 → IsQueue values (v ∷ without v items) (set s v (clock + 1)) (clock + 1) next2
moved values items s clock v next next2 lt q place past =
    let s2 = set s v (clock + 1) in
    let lv : v < length s = (let e = q.count in omega arith) in
    let here : stamp_at s2 v ≡ clock + 1 = get_or-set_same s v (clock + 1) 0 lv in
    let other : (y : ℕ) → y ≢ v → stamp_at s2 y ≡ stamp_at s y = λ y ne. get_or-set_other s v y (clock + 1) 0 ne in
    let apart : (y : ℕ) → Has (without v items) y → y ≢ v = λ y k e. without-has_not v items (subst (Has (without v items)) e k) in
    record {
      count = length-set s v (clock + 1) ∙ q.count;
      whole = λ w wl. Contains-from_Has (v ∷ without v items) w (⊎_elim (λ e. inl (sym e)) (λ ne. inr (has_without v w items ne (Has-from_Contains items w (q.whole w wl)))) (cases_eq w v));
      below = λ w k. ⊎_elim (λ e. subst (λ (u : ℕ). u < length values) e lt) (λ r. q.below w (has_filter _ items w r)) k;
      falls = (
        λ y k. (let e : stamp_at s2 y ≡ stamp_at s y = other y (apart y k) in let most : stamp_at s y ≤ clock = q.latest y in omega arith),
        falls_same s s2 (without v items) (λ y k. other y (apart y k)) (falls_filter _ s items q.falls),
      );
      latest = λ w. ⊎_elim
          (λ e. (let k : stamp_at s2 w ≡ clock + 1 = ap (stamp_at s2) e ∙ here in omega arith))
          (λ ne. (let k : stamp_at s2 w ≡ stamp_at s w = other w ne in let most : stamp_at s w ≤ clock = q.latest w in omega arith))
          (cases_eq w v);
      place = place;
      past = past;
    }

-- the pointer goes to it
pub moved_open : (values : List (Option Bool)) (items s : List ℕ) (clock v : ℕ) (next : Option ℕ) → v < length values → IsQueue values items s clock next →
    IsQueue values (v ∷ without v items) (set s v (clock + 1)) (clock + 1) (Some v)
moved_open values items s clock v next lt q =
    let s2 = set s v (clock + 1) in
    let lv : v < length s = (let e = q.count in omega arith) in
    let here : stamp_at s2 v ≡ clock + 1 = get_or-set_same s v (clock + 1) 0 lv in
    moved values items s clock v next (Some v) lt q lt
    (λ w wl opened. ⊎_elim
    (λ e. (let k : stamp_at s2 w ≡ stamp_at s2 v = ap (stamp_at s2) e in omega arith))
    (λ ne. (let k : stamp_at s2 w ≡ stamp_at s w = get_or-set_other s v w (clock + 1) 0 ne in let most : stamp_at s w ≤ clock = q.latest w in omega arith))
    (cases_eq w v))

past_kept : (values : List (Option Bool)) (s : List ℕ) (clock v : ℕ) (next : Option ℕ) → v < length s → ((w : ℕ) → stamp_at s w ≤ clock) → (valuation values v ≡ None → ⊥) →
    IsPast values s next → IsPast values (set s v (clock + 1)) next
past_kept values s clock v None lt latest shut past = past
past_kept values s clock v (Some n) lt latest shut past = λ w wl opened.
    let s2 = set s v (clock + 1) in
    let ne : w ≢ v = λ e. shut (subst (λ (u : ℕ). valuation values u ≡ None) e opened) in
    let k : stamp_at s2 w ≡ stamp_at s w = get_or-set_other s v w (clock + 1) 0 ne in
    let old : stamp_at s w ≤ stamp_at s n = past w wl opened in
    let most : stamp_at s w ≤ clock = latest w in
    ⊎_elim
    (λ e. (let here : stamp_at s2 n ≡ clock + 1 = ap (stamp_at s2) e ∙ get_or-set_same s v (clock + 1) 0 lt in omega arith))
    (λ other. (let same : stamp_at s2 n ≡ stamp_at s n = get_or-set_other s v n (clock + 1) 0 other in omega arith))
    (cases_eq n v)

-- the pointer stays
pub moved_shut : (values : List (Option Bool)) (items s : List ℕ) (clock v : ℕ) (next : Option ℕ) → v < length values → (valuation values v ≡ None → ⊥) → IsQueue values items s clock next →
    IsQueue values (v ∷ without v items) (set s v (clock + 1)) (clock + 1) next
moved_shut values items s clock v next lt shut q =
    moved values items s clock v next next lt q q.place (past_kept values s clock v next (let e = q.count in omega arith) q.latest shut q.past)

-- ---- values come and go

pub queue_assigned : (values : List (Option Bool)) (items s : List ℕ) (clock v : ℕ) (next : Option ℕ) (b : Bool) → v < length values → IsQueue values items s clock next →
    IsQueue (set values v (Some b)) items s clock next
queue_assigned values items s clock v next b lt q =
    let wide : length (set values v (Some b)) ≡ length values = length-set values v (Some b) in
    record {
      count = q.count ∙ sym wide;
      whole = λ w wl. q.whole w (omega (arith, wide, wl));
      below = λ w k. subst (λ (n : ℕ). w < n) (sym wide) (q.below w k);
      falls = q.falls;
      latest = q.latest;
      place = subst (λ (m : ℕ). IfSome next (λ n. n < m)) (sym wide) q.place;
      past = λ w wl opened. ⊎_elim
          (λ e. absurd (none-some b (sym opened ∙ ap (valuation (set values v (Some b))) e ∙ get_or-set_same values v (Some b) None lt)))
          (λ ne. q.past w (omega (arith, wide, wl)) (sym (get_or-set_other values v w (Some b) None ne) ∙ opened))
          (cases_eq w v);
    }

past_reopened : (values : List (Option Bool)) (s : List ℕ) (next : Option ℕ) (r w : ℕ) → IsPast values s next → IfSome next (λ n. stamp_at s n ≤ stamp_at s r) → w < length values → valuation values w ≡ None →
    stamp_at s w ≤ stamp_at s r
past_reopened values s None r w past after wl opened = absurd (past w wl opened)
past_reopened values s (Some n) r w past after wl opened = (let k : stamp_at s w ≤ stamp_at s n = past w wl opened in omega arith)

pub queue_reopened : (values : List (Option Bool)) (items s : List ℕ) (clock v r : ℕ) (next : Option ℕ) → v < length s → (r ≡ v) ⊎ (next ≡ Some r) → stamp_at s v ≤ stamp_at s r →
    IfSome next (λ n. stamp_at s n ≤ stamp_at s r) → IsQueue values items s clock next → IsQueue (set values v None) items s clock (Some r)
queue_reopened values items s clock v r next lt which own after q =
    let none : Option Bool = None in
    let wide : length (set values v none) ≡ length values = length-set values v none in
    record {
      count = q.count ∙ sym wide;
      whole = λ w wl. q.whole w (omega (arith, wide, wl));
      below = λ w k. subst (λ (n : ℕ). w < n) (sym wide) (q.below w k);
      falls = q.falls;
      latest = q.latest;
      place = subst (λ (m : ℕ). r < m) (sym wide) (⊎_elim
          (λ e. (let c = q.count in omega arith))
          (λ e. subst (λ (o : Option ℕ). IfSome o (λ n. n < length values)) e q.place)
          which);
      past = λ w wl opened. ⊎_elim
          (λ e. (let k : stamp_at s w ≡ stamp_at s v = ap (stamp_at s) e in omega arith))
          (λ ne. past_reopened values s next r w q.past after (omega (arith, wide, wl)) (sym (get_or-set_other values v w none None ne) ∙ opened))
          (cases_eq w v);
    }

-- ---- the pointer goes on

-- an open variable stands after a pointer at which none is open
open_after : (values : List (Option Bool)) (s items front rest : List ℕ) (n w : ℕ) → items ≡ front ++ n ∷ rest → Falls s items → IsPast values s (Some n) → (valuation values n ≡ None → ⊥) → Contains items w →
    w < length values → valuation values w ≡ None → Has rest w
open_after values s items front rest n w is falls past shut has wl opened =
    let here : Has (front ++ n ∷ rest) w = subst (λ (l : List ℕ). Has l w) is (Has-from_Contains items w has) in
    let low : stamp_at s w ≤ stamp_at s n = past w wl opened in
    ⊎_elim
    (λ f. absurd (let high : stamp_at s n < stamp_at s w = falls_front s front rest n w (subst (Falls s) is falls) f in omega arith))
    (λ r. ⊎_elim (λ e. absurd (shut (subst (λ (u : ℕ). valuation values u ≡ None) (sym e) opened))) (λ k. k) r)
    (Has-append front (n ∷ rest) w here)

pub passed : (values : List (Option Bool)) (items s : List ℕ) (clock n : ℕ) (next : Option ℕ) → IsQueue values items s clock (Some n) → (valuation values n ≡ None → ⊥) →
    (next ≡ None → IsLast items n) → IfSome next (λ y. Follow items n y) → IsQueue values items s clock next × (rank_of s next < rank_of s (Some n))
passed values items s clock n None q shut last follow =
    let end = last refl in (
      record {
        count = q.count;
        whole = q.whole;
        below = q.below;
        falls = q.falls;
        latest = q.latest;
        place = tt;
        past = λ w wl opened. open_after values s items end.0 [] n w end.1 q.falls q.past shut (q.whole w wl) wl opened;
      },
      omega arith,
    )
passed values items s clock n (Some y) q shut last follow =
    let front = follow.0 in
    let rest = follow.1 in
    let is : items ≡ front ++ n ∷ y ∷ rest = follow.2 in
    let falls : Falls s (n ∷ y ∷ rest) = falls_rest s front (y ∷ rest) n (subst (Falls s) is q.falls) in
    let in_list : Has items y = subst (λ (l : List ℕ). Has l y) (sym is) (Has-right front (n ∷ y ∷ rest) y (inr (inl refl))) in (
      record {
        count = q.count;
        whole = q.whole;
        below = q.below;
        falls = q.falls;
        latest = q.latest;
        place = q.below y in_list;
        past = λ w wl opened. ⊎_elim
            (λ e. (let k : stamp_at s y ≡ stamp_at s w = ap (stamp_at s) e in omega arith))
            (λ r. (let k : stamp_at s w < stamp_at s y = falls.1.0 w r in omega arith))
            (open_after values s items front (y ∷ rest) n w is q.falls q.past shut (q.whole w wl) wl opened);
      },
      (let k : stamp_at s y < stamp_at s n = falls.0 y (inl refl) in omega arith),
    )

-- where the pointer has passed the end, each variable has a value
pub queue_full : (values : List (Option Bool)) (items s : List ℕ) (clock : ℕ) (next : Option ℕ) → next ≡ None → IsQueue values items s clock next → All (λ o. o ≡ None → ⊥) values
queue_full values items s clock next none q v d lt opened =
    let at : valuation values v ≡ None = get_or_default values v None d lt ∙ opened in
    subst (λ (o : Option ℕ). MatchOption o ⊥ (λ n. stamp_at s v ≤ stamp_at s n)) none (q.past v lt at)

-- ---- at first

pub pushed : (vars n : ℕ) (items s : List ℕ) → IsListed n items s → n < vars → ((v : ℕ) → stamp_at s v ≡ vars - v) → IsListed (n + 1) (items ++ n ∷ []) s
pushed vars n items s h lt is = record {
  whole = λ v vl. ⊎_elim
      (λ old. Contains-append_left items (n ∷ []) v (h.whole v old))
      (λ new. Contains-append_right items (n ∷ []) v (Contains-from_Has (n ∷ []) v (inl (omega (arith, vl, new)))))
      (cases_lt v n);
  below = λ v k. ⊎_elim
      (λ old. (let l : v < n = h.below v old in omega arith))
      (λ new. ⊎_elim (λ e. omega (arith, e)) (λ none. absurd none) new)
      (Has-append items (n ∷ []) v k);
  falls = falls_push s items n h.falls (λ y k. (let l : y < n = h.below y k in let a : stamp_at s y ≡ vars - y = is y in let b : stamp_at s n ≡ vars - n = is n in omega arith));
}

pub no_more : (n : ℕ) (items s : List ℕ) → IsListed n items s → Contains items n → ⊥
no_more n items s h k = (let l : n < n = h.below n (Has-from_Contains items n k) in omega arith)

first_past : (values : List (Option Bool)) (s : List ℕ) (vars : ℕ) (next : Option ℕ) → length values ≡ vars → ((v : ℕ) → stamp_at s v ≡ vars - v) → (next ≡ None → vars ≡ 0) → IfSome next (λ n. n ≡ 0) →
    IsPast values s next
first_past values s vars None wide is none some w wl opened = (let z : vars ≡ 0 = none refl in absurd (omega arith))
first_past values s vars (Some n) wide is none some w wl opened = (let a : stamp_at s w ≡ vars - w = is w in let b : stamp_at s n ≡ vars - n = is n in let z : n ≡ 0 = some in omega arith)

first_place : (vars : ℕ) (next : Option ℕ) → (next ≡ None → vars ≡ 0) → IfSome next (λ n. (n ≡ 0) × (0 < vars)) → IfSome next (λ n. n < vars)
first_place vars None none some = tt
first_place vars (Some n) none some = omega (arith, some.0, some.1)

first_zero : (vars : ℕ) (next : Option ℕ) → IfSome next (λ n. (n ≡ 0) × (0 < vars)) → IfSome next (λ n. n ≡ 0)
first_zero vars None some = tt
first_zero vars (Some n) some = some.0

pub queue_first : (values : List (Option Bool)) (vars : ℕ) (items s : List ℕ) (next : Option ℕ) → length values ≡ vars → length s ≡ vars → IsListed vars items s → ((v : ℕ) → stamp_at s v ≡ vars - v) →
    (next ≡ None → vars ≡ 0) → IfSome next (λ n. (n ≡ 0) × (0 < vars)) → IsQueue values items s vars next
queue_first values vars items s next wide long h is none some = record {
  count = long ∙ sym wide;
  whole = λ v vl. h.whole v (omega (arith, wide, vl));
  below = λ v k. (let l : v < vars = h.below v k in omega arith);
  falls = h.falls;
  latest = λ v. (let a : stamp_at s v ≡ vars - v = is v in omega arith);
  place = subst (λ (m : ℕ). IfSome next (λ n. n < m)) (sym wide) (first_place vars next none some);
  past = first_past values s vars next wide is none (first_zero vars next some);
}
