-- Faults that stand at places of which P holds, and what is judged so: what is found has Q, or all that is told stands there. One lemma for
-- each way to put faults and judgements together.
use Rattle.std.proofs.Common.{ℕ, Bool, true, false, List, [], ◌∷◌, ◌++◌, Ok, Err}
use Rattle.std.specs.Prelude.{All}
use Rattle.std.proofs.lemmas.List.Elements.{All-nil, All-cons}
use Rattle.sv_outside.specs.declared.refusal.Place.{Place}
use Rattle.sv_meaning.specs.Faults.{Faults, fault_if, or_then, Judged, provided, faults_of, ◌>>=◌, both}
use Rattle.sv_places.specs.Within.{Each}

abbrev pub Told : (Place → Type 0) → Faults → Type 0
Told P all = Each (λ r. P r.place) all

abbrev pub JudgedIn : (Place → Type 0) → {A : Type 0} → (A → Type 0) → Judged A → Type 0
JudgedIn P Q (Ok x) = Q x
JudgedIn P Q (Err all) = Told P all

-- nothing is asked
abbrev pub Any : {A : Type 0} → A → Type 0
Any x = Unit {0}

module _ (P : Place → Type 0) where
  pub told_append : (a b : Faults) → Told P a → Told P b → Told P (a ++ b)
  told_append [] b h k = k
  told_append (f ∷ a) b h k = (h.0, told_append a b h.1 k)

  pub told_then : (a b : Faults) → Told P a → Told P b → Told P (or_then a b)
  told_then [] b h k = k
  told_then (f ∷ a) b h k = h

  pub told_if : (b : Bool) (number : ℕ) (p : Place) → P p → Told P (fault_if b number p)
  told_if true number p h = (h, tt)
  told_if false number p h = tt

  pub provided_in : {A : Type 0} (Q : A → Type 0) (all : Faults) (x : A) → Told P all → Q x → JudgedIn P Q (provided all x)
  provided_in Q [] x h k = k
  provided_in Q (f ∷ all) x h k = h

  pub bind_in : {A B : Type 0} (Q : A → Type 0) (R : B → Type 0) (j : Judged A) (f : A → Judged B)
      → JudgedIn P Q j → ((x : A) → Q x → JudgedIn P R (f x)) → JudgedIn P R (j >>= f)
  bind_in Q R (Ok x) f h k = k x h
  bind_in Q R (Err all) f h k = h

  pub told_of : {A : Type 0} (Q : A → Type 0) (j : Judged A) → JudgedIn P Q j → Told P (faults_of j)
  told_of Q (Ok x) h = tt
  told_of Q (Err all) h = h

  pub both_in : {A B : Type 0} (Q : A → Type 0) (R : B → Type 0) (a : Judged A) (b : Judged B)
      → JudgedIn P Q a → JudgedIn P R b → JudgedIn P (λ z. Q z.0 × R z.1) (both a b)
  both_in Q R (Ok x) (Ok y) h k = (h, k)
  both_in Q R (Ok x) (Err more) h k = k
  both_in Q R (Err all) other h k = told_append all (faults_of other) h (told_of R other k)

  pub weaker_in : {A : Type 0} (Q R : A → Type 0) → ((x : A) → Q x → R x) → (j : Judged A) → JudgedIn P Q j → JudgedIn P R j
  weaker_in Q R f (Ok x) h = f x h
  weaker_in Q R f (Err all) h = h

  pub both_any : {A B : Type 0} (a : Judged A) (b : Judged B) → JudgedIn P Any a → JudgedIn P Any b → JudgedIn P Any (both a b)
  both_any (Ok x) (Ok y) h k = tt
  both_any (Ok x) (Err more) h k = k
  both_any (Err all) other h k = told_append all (faults_of other) h (told_of Any other k)

  pub all_told : (all : Faults) → Told P all → All (λ r. P r.place) all
  all_told [] h = All-nil (λ r. P r.place)
  all_told (f ∷ all) h = All-cons (λ r. P r.place) f all h.0 (all_told all h.1)

-- ---- lists

pub each_append : {A : Type 0} (Q : A → Type 0) (a b : List A) → Each Q a → Each Q b → Each Q (a ++ b)
each_append Q [] b h k = k
each_append Q (x ∷ a) b h k = (h.0, each_append Q a b h.1 k)

pub each_push : {A : Type 0} (Q : A → Type 0) (a : List A) (x : A) → Each Q a → Q x → Each Q (a ++ x ∷ [])
each_push Q a x h k = each_append Q a (x ∷ []) h (k, tt)
