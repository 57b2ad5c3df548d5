-- Walks step by step, and along lists.
use Rattle.std.proofs.Common.{◌≡◌, ℕ, ◌+◌, ◌<◌, ◌≤◌, List, length, drop, get_or, Result, Ok, Err, refl, sym, ap, ◌∙◌, subst}
use Rattle.std.specs.Result.{IsErrAnd}
use Rattle.std.proofs.lemmas.Result.{err_from_is_err_and}
use Rattle.sv_outside.specs.declared.refusal.TextErr.{TextErr}
use Rattle.sv_meaning.specs.Faults.{Judged, ◌>>=◌}
use Rattle.sv_loops.specs.Answers.{Answers}
use Rattle.sv_modules.proofs.Turns.{drop_next, drop_none}
use Rattle.sv_hierarchy.specs.Scopes.{State, Walk, walk_all}
use Rattle.sv_walk.specs.declared.walker.Walker.{Walker}
use Rattle.sv_walk.specs.declared.walker.Open.{Open}
use Rattle.sv_walk.specs.Walks.{Walks}
use Rattle.sv_walk.proofs.Declaring.{refused_as, refused_then}

-- what is judged is such a state
abbrev pub Ends : {A : Type 0} → State → Judged State → Result A TextErr → Type 0
Ends t j r = Answers (λ st u. st ≡ t) j r

pub ended : {A : Type 0} (t : State) (j : Judged State) (x : A) → Ends t j (Ok x) → j ≡ Ok t
ended t (Ok s) x h = ap Ok h
ended t (Err all) x h = absurd h

pub ends : {A : Type 0} (t : State) (j : Judged State) (x : A) → j ≡ Ok t → Ends t j (Ok x)
ends t j x e = subst (λ z. Ends t z (Ok x)) (sym e) refl

-- what is refused first is refused, where `?` hands it on
pub handed : {A B C D : Type 0} (r : A → B → Type 0) (k : C → D → Type 0) (j : Judged A) (f : A → Judged C) (x : Result B TextErr) (e : TextErr) (z : Result D TextErr) →
    x ≡ Err e → Answers r j x → IsErrAnd z (λ y. y ≡ e) → Answers k (j >>= f) z
handed r k j f x e z g h i =
    let p = err_from_is_err_and z i in
    subst (Answers k (j >>= f)) (sym p.1) (subst (λ y. Answers k (j >>= f) (Err y)) (sym p.2) (refused_then r k j f e (subst (Answers r j) g h)))

pub handed_walk : {A D : Type 0} (t u : State) (j : Judged State) (f : Walk) (x : Result A TextErr) (e : TextErr) (z : Result D TextErr) →
    x ≡ Err e → Ends t j x → IsErrAnd z (λ y. y ≡ e) → Ends u (j >>= f) z
handed_walk t u j f x e z g h i = handed (λ st v. st ≡ t) (λ st v. st ≡ u) j f x e z g h i

-- the second of two that is answered
pub then_ends : {A : Type 0} (s u : State) (j : Judged State) (f : Walk) (z : Result A TextErr) → j ≡ Ok s → Ends u (f s) z → Ends u (j >>= f) z
then_ends s u j f z e h = subst (λ y. Ends u (y >>= f) z) (sym e) h

pub same_ends : {A : Type 0} (u : State) (i j : Judged State) (z : Result A TextErr) → i ≡ j → Ends u j z → Ends u i z
same_ends u i j z e h = subst (λ y. Ends u y z) (sym e) h

pub handed_same : {D : Type 0} (u : State) (j : Judged State) (e : TextErr) (z : Result D TextErr) → Answers (λ st (x : Unit {0}). st ≡ u) j (Err e) → IsErrAnd z (λ y. y ≡ e) → Ends u j z
handed_same {D = D} u j e z h i =
    let p = err_from_is_err_and z i in
    subst (Ends u j) (sym p.1) (subst (λ y. Ends {A = D} u j (Err y)) (sym p.2) (refused_as (λ st (x : Unit {0}). st ≡ u) (λ st (x : D). st ≡ u) j e h))

pub same_walk : (f g : Walk) (w : Walker) (o : Open) (v : Walker) (p : Open) (r : Result (Unit {0}) TextErr) → f ≡ g → Walks g w o v p r → Walks f w o v p r
same_walk f g w o v p r e h = subst (λ k. Walks k w o v p r) (sym e) h

-- ---- along a list

walk_at : {A : Type 0} (f : A → Walk) (all : List A) (i : ℕ) (x : A) (j : Judged State) (s : State) → i < length all → x ≡ get_or all i x →
    j ≡ walk_all f (drop i all) s → j ≡ (f x s >>= walk_all f (drop (i + 1) all))
unfolding walk_all
walk_at f all i x j s h g e = e ∙ ap (λ l. walk_all f l s) (drop_next all i x h g)

pub walk_next : {A : Type 0} (f : A → Walk) (all : List A) (i : ℕ) (x : A) (j : Judged State) (s t : State) → i < length all → x ≡ get_or all i x →
    j ≡ walk_all f (drop i all) s → f x s ≡ Ok t → j ≡ walk_all f (drop (i + 1) all) t
walk_next f all i x j s t h g e k = walk_at f all i x j s h g e ∙ ap (λ y. y >>= walk_all f (drop (i + 1) all)) k

pub walk_refused : {A B D : Type 0} (f : A → Walk) (all : List A) (i : ℕ) (x : A) (j : Judged State) (s t u : State) (y : Result B TextErr) (e : TextErr) (z : Result D TextErr) →
    i < length all → x ≡ get_or all i x → j ≡ walk_all f (drop i all) s → y ≡ Err e → Ends t (f x s) y → IsErrAnd z (λ d. d ≡ e) → Ends u j z
walk_refused f all i x j s t u y e z h g k a b c =
    same_ends u j (f x s >>= walk_all f (drop (i + 1) all)) z (walk_at f all i x j s h g k) (handed_walk t u (f x s) (walk_all f (drop (i + 1) all)) y e z a b c)

pub walk_none : {A : Type 0} (f : A → Walk) (all : List A) (i : ℕ) (j : Judged State) (t : State) → length all ≤ i → j ≡ walk_all f (drop i all) t → j ≡ Ok t
unfolding walk_all
walk_none f all i j t h e = e ∙ ap (λ l. walk_all f l t) (drop_none all i h)
