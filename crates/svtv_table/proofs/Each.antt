-- What stands at each place of a list, one step after the other.
use Rattle.std.proofs.Common.{◌≡◌, ◌<◌, ◌≤◌, ◌+◌, ℕ, List, [], ◌∷◌, ◌++◌, length, get_or, drop, refl, ap, sym, ◌∙◌, subst, Some, append_assoc, map, Result, Ok, Err}
use Rattle.std.specs.Result.{IsErrAnd, IfErr}
use Rattle.std.proofs.lemmas.List.{drop_more, drop_all}
use Rattle.sv_outside.specs.declared.refusal.Refusal.{Refusal}
use Rattle.sv_outside.specs.declared.refusal.TextErr.{TextErr}
use Rattle.sv_outside.specs.declared.refusal.TextErr.TheVariants.{No, Memory}
use Rattle.svtv_table.specs.Faults.{at_each, Stops, first_of}

-- a first fault stays the first, whatever follows
pub first_stays : (fs gs : List Refusal) (r : Refusal) → first_of fs ≡ Some r → first_of (fs ++ gs) ≡ Some r
first_stays [] gs r h = cc
first_stays (f ∷ fs) gs r h = h

pub stops_front : (fs gs : List Refusal) (e : TextErr) → Stops fs e → Stops (fs ++ gs) e
unfolding Stops
stops_front fs gs (No r) h = first_stays fs gs r h
stops_front fs gs Memory h = h

pub stops_behind : (fs gs : List Refusal) (e : TextErr) → fs ≡ [] → Stops gs e → Stops (fs ++ gs) e
stops_behind fs gs e n h = rw n h

pub no_faults : (fs gs : List Refusal) → fs ≡ [] → gs ≡ [] → fs ++ gs ≡ []
no_faults fs gs n m = rw (n, m) refl

pub each_more : {A B : Type 0} (f : ℕ → A → List B) (xs : List A) (k : ℕ) (d : A) → k < length xs → at_each f k (drop k xs) ≡ f k (get_or xs k d) ++ at_each f (k + 1) (drop (k + 1) xs)
each_more f xs k d h = ap (at_each f k) (drop_more xs k d h)

pub each_none : {A B : Type 0} (f : ℕ → A → List B) (xs : List A) (k : ℕ) → length xs ≤ k → at_each f k (drop k xs) ≡ []
each_none f xs k h = ap (at_each f k) (drop_all k xs h)

-- no fault up to a place: those from there on are all
pub go_on : {A : Type 0} (f : ℕ → A → List Refusal) (xs : List A) (k : ℕ) (d : A) (all : List Refusal) → k < length xs → f k (get_or xs k d) ≡ []
    → at_each f k (drop k xs) ≡ all → at_each f (k + 1) (drop (k + 1) xs) ≡ all
go_on f xs k d all h n e = sym (each_more f xs k d h ∙ ap (λ fs. fs ++ at_each f (k + 1) (drop (k + 1) xs)) n) ∙ e

-- a fault at a place up to which there is none is the first of all
pub stop_at : {A : Type 0} (f : ℕ → A → List Refusal) (xs : List A) (k : ℕ) (d : A) (all : List Refusal) (e : TextErr) → k < length xs → at_each f k (drop k xs) ≡ all
    → Stops (f k (get_or xs k d)) e → Stops all e
stop_at f xs k d all e h w s = subst (λ fs. Stops fs e) (sym (each_more f xs k d h) ∙ w) (stops_front (f k (get_or xs k d)) (at_each f (k + 1) (drop (k + 1) xs)) e s)

-- a list grows by what stands at a place
pub grow : {A B : Type 0} (f : ℕ → A → List B) (xs : List A) (k : ℕ) (d : A) (so_far all : List B) → k < length xs → so_far ++ at_each f k (drop k xs) ≡ all
    → (so_far ++ f k (get_or xs k d)) ++ at_each f (k + 1) (drop (k + 1) xs) ≡ all
grow f xs k d so_far all h e = append_assoc so_far (f k (get_or xs k d)) (at_each f (k + 1) (drop (k + 1) xs)) ∙ (sym (ap (λ ys. so_far ++ ys) (each_more f xs k d h)) ∙ e)

-- a list grows by what a function gives for the element at a place
pub grow_map : {A B : Type 0} (f : A → B) (xs : List A) (k : ℕ) (d : A) (so_far new all : List B) → k < length xs → new ≡ so_far ++ f (get_or xs k d) ∷ []
    → so_far ++ map f (drop k xs) ≡ all → new ++ map f (drop (k + 1) xs) ≡ all
grow_map f xs k d so_far new all h n e =
    ap (λ ys. ys ++ map f (drop (k + 1) xs)) n ∙ (append_assoc so_far (f (get_or xs k d) ∷ []) (map f (drop (k + 1) xs)) ∙ (sym (ap (λ ys. so_far ++ map f ys) (drop_more xs k d h)) ∙ e))

-- what `?` returns is the error that came
pub handed_on : {T E : Type 0} (r : Result T E) (e : E) (P : E → Type 0) → IsErrAnd r (λ y. y ≡ e) → P e → IfErr r P
handed_on (Ok v) e P h p = tt
handed_on (Err y) e P h p = subst P (sym h) p
