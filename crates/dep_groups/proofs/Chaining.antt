-- Chains of dependences, and lists with one more item or one that was changed.
use Rattle.std.proofs.Common.{◌≡◌, ◌≢◌, ◌⊎◌, ℕ, ◌<◌, List, [], ◌∷◌, ◌++◌, length, get_or, set, refl, sym, ap, ◌∙◌, inl, inr, arith}
use Rattle.std.proofs.lemmas.Bool.{cases_eq, cases_lt}
use Rattle.std.proofs.lemmas.List.{get_or-set_same, get_or-set_other, get_or_append_left, get_or_push, length_push}
use Rattle.dep_groups.specs.declared.finder.Stage.{Stage}
use Rattle.dep_groups.specs.declared.finder.Stage.TheVariants.{Unseen, Waits, Grouped}
use Rattle.dep_groups.specs.Groups.Chain.{none, more}
use Rattle.dep_groups.specs.Groups.{row, item, Chain}

-- chains are joined
pub chains : (all : List (List ℕ)) (i j k : ℕ) → Chain all i j → Chain all j k → Chain all i k
chains all i j k (none _) d = d
chains all i j k (more _ e _ lt c) d = more i e k lt (chains all (item all i e) j k c d)

pub chain-one : (all : List (List ℕ)) (i k : ℕ) → k < length (row all i) → Chain all i (item all i k)
chain-one all i k lt = more i k (item all i k) lt (none (item all i k))

-- ---- lists

pub pushed : (l : List ℕ) (x p : ℕ) → p < length (l ++ x ∷ [])
    → ((p < length l) × (get_or (l ++ x ∷ []) p 0 ≡ get_or l p 0)) ⊎ ((p ≡ length l) × (get_or (l ++ x ∷ []) p 0 ≡ x))
pushed l x p lt = elim (cases_lt p (length l)) [
  | inl old ↦ inl (old, get_or_append_left l (x ∷ []) 0 p old)
  | inr past ↦ let is : p ≡ length l = omega (arith, past, lt, length_push l x) in inr (is, get_or_push l x 0 p (sym is))
]

pub pushed-old : (l : List ℕ) (x p : ℕ) → p < length l → get_or (l ++ x ∷ []) p 0 ≡ get_or l p 0
pushed-old l x p lt = get_or_append_left l (x ∷ []) 0 p lt

pub pushed-last : (l : List ℕ) (x : ℕ) → get_or (l ++ x ∷ []) (length l) 0 ≡ x
pushed-last l x = get_or_push l x 0 (length l) refl

pub changed : (l : List Stage) (k : ℕ) (v : Stage) (j : ℕ) → k < length l
    → ((j ≡ k) × (get_or (set l k v) j Unseen ≡ v)) ⊎ ((j ≢ k) × (get_or (set l k v) j Unseen ≡ get_or l j Unseen))
changed l k v j lt = elim (cases_eq j k) [
  | inl is ↦ inl (is, ap (λ x. get_or (set l k v) x Unseen) is ∙ get_or-set_same l k v Unseen lt)
  | inr ne ↦ inr (ne, get_or-set_other l k j v Unseen ne)
]

pub changed-other : (l : List Stage) (k : ℕ) (v : Stage) (j : ℕ) → j ≢ k → get_or (set l k v) j Unseen ≡ get_or l j Unseen
changed-other l k v j ne = get_or-set_other l k j v Unseen ne

-- ---- stages

pub unseen-waits : {X : Type 0} (s : Stage) (p : ℕ) → s ≡ Unseen → s ≡ Waits p → X
unseen-waits s p e f = let x : Unseen ≡ Waits p = sym e ∙ f in cc

pub unseen-grouped : {X : Type 0} (s : Stage) (g : ℕ) → s ≡ Unseen → s ≡ Grouped g → X
unseen-grouped s g e f = let x : Unseen ≡ Grouped g = sym e ∙ f in cc

pub waits-grouped : {X : Type 0} (s : Stage) (p g : ℕ) → s ≡ Waits p → s ≡ Grouped g → X
waits-grouped s p g e f = let x : Waits p ≡ Grouped g = sym e ∙ f in cc

pub waits-same : (s : Stage) (p q : ℕ) → s ≡ Waits p → s ≡ Waits q → p ≡ q
waits-same s p q e f = let x : Waits p ≡ Waits q = sym e ∙ f in cc

pub grouped-same : (s : Stage) (p q : ℕ) → s ≡ Grouped p → s ≡ Grouped q → p ≡ q
grouped-same s p q e f = let x : Grouped p ≡ Grouped q = sym e ∙ f in cc
