-- Chains of links through distinct numbers.
use Rattle.std.proofs.Common.{◌≡◌, ◌≢◌, ℕ, ◌<◌, ◌⊎◌, not, cond, eqb, List, [], ◌∷◌, ◌++◌, get_or, refl, sym, ◌∙◌, ap, subst, inl, inr, arith}
use Rattle.std.specs.Prelude.{All, AllPairs, Contains}
use Rattle.std.proofs.lemmas.Bool.{cases_eq, cond-true, cond-false, eq-eqb, ne_eqb}
use Rattle.std.proofs.lemmas.List.Elements.{Contains-append_cases, Contains-push_cases, Contains-append_right, Contains-get_or, All-nil, All-cons}
use Rattle.std.proofs.lemmas.List.Kept.{AllPairs-cons}
use Rattle.idx_list.specs.Order.{without}
use Rattle.idx_list.specs.Ring.{Has, AreDistinct, AreBelow, Chain}

-- ---- membership

pub Has-append : (xs ys : List ℕ) (x : ℕ) → Has (xs ++ ys) x → Has xs x ⊎ Has ys x
Has-append [] ys x h = inr h
Has-append (y ∷ xs) ys x (inl is) = inl (inl is)
Has-append (y ∷ xs) ys x (inr h) = elim (Has-append xs ys x h) [ inl l ↦ inl (inr l) | inr r ↦ inr r ]

pub Has-left : (xs ys : List ℕ) (x : ℕ) → Has xs x → Has (xs ++ ys) x
Has-left [] ys x h = elim h [ ]
Has-left (y ∷ xs) ys x (inl is) = inl is
Has-left (y ∷ xs) ys x (inr h) = inr (Has-left xs ys x h)

pub Has-right : (xs ys : List ℕ) (x : ℕ) → Has ys x → Has (xs ++ ys) x
Has-right [] ys x h = h
Has-right (y ∷ xs) ys x h = inr (Has-right xs ys x h)

pub Contains-from_Has : (xs : List ℕ) (x : ℕ) → Has xs x → Contains xs x
Contains-from_Has [] x h = elim h [ ]
Contains-from_Has (y ∷ xs) x (inl is) = (0, omega arith, is)
Contains-from_Has (y ∷ xs) x (inr h) = Contains-append_right (y ∷ []) xs x (Contains-from_Has xs x h)

pub Has-from_Contains : (xs : List ℕ) (x : ℕ) → Contains xs x → Has xs x
Has-from_Contains [] x h = absurd (omega (arith, h.1))
Has-from_Contains (y ∷ xs) x h = elim (Contains-append_cases (y ∷ []) xs x h) [
  | inl first ↦ elim (Contains-push_cases [] y x first) [ inl none ↦ absurd (omega (arith, none.1)) | inr is ↦ inl is ]
  | inr later ↦ inr (Has-from_Contains xs x later)
]

pub has-or_not : (xs : List ℕ) (x : ℕ) → Has xs x ⊎ (¬ Has xs x)
has-or_not [] x = inr (λ h. h)
has-or_not (y ∷ xs) x = elim (cases_eq y x) [
  | inl is ↦ inl (inl is)
  | inr other ↦ elim (has-or_not xs x) [
    | inl h ↦ inl (inr h)
    | inr none ↦ inr (λ h. elim h [ inl is ↦ other is | inr later ↦ none later ])
  ]
]

-- the numbers on both sides of one
pub split-at : (xs : List ℕ) (x : ℕ) → Has xs x → (front : List ℕ) × (rest : List ℕ) × (xs ≡ front ++ x ∷ rest)
split-at [] x h = elim h [ ]
split-at (y ∷ xs) x (inl is) = ([], xs, ap (λ z. z ∷ xs) is)
split-at (y ∷ xs) x (inr h) = let found = split-at xs x h in (y ∷ found.0, found.1, ap (λ r. y ∷ r) found.2)

-- ---- distinct numbers

pub distinct-left : (xs ys : List ℕ) → AreDistinct (xs ++ ys) → AreDistinct xs
distinct-left [] ys d = tt
distinct-left (x ∷ xs) ys d = (λ h. d.0 (Has-left xs ys x h), distinct-left xs ys d.1)

pub distinct-apart : (xs ys : List ℕ) (x : ℕ) → AreDistinct (xs ++ ys) → Has xs x → ¬ Has ys x
distinct-apart [] ys x d h' h = elim h' [ ]
distinct-apart (y ∷ xs) ys x d (inl is) h = d.0 (Has-right xs ys y (let P : ℕ → Type 0 = Has ys in subst P (sym is) h))
distinct-apart (y ∷ xs) ys x d (inr h') h = distinct-apart xs ys x d.1 h' h

pub distinct-right : (xs ys : List ℕ) → AreDistinct (xs ++ ys) → AreDistinct ys
distinct-right [] ys d = d
distinct-right (x ∷ xs) ys d = distinct-right xs ys d.1

-- the number between is in neither part, and the parts are distinct
pub distinct-without : (xs ys : List ℕ) (x : ℕ) → AreDistinct (xs ++ x ∷ ys) → AreDistinct (xs ++ ys)
distinct-without [] ys x d = d.1
distinct-without (y ∷ xs) ys x d =
    (λ h. d.0 (elim (Has-append xs ys y h) [ inl l ↦ Has-left xs (x ∷ ys) y l | inr r ↦ Has-right xs (x ∷ ys) y (inr r) ]), distinct-without xs ys x d.1)

pub distinct-push : (xs : List ℕ) (x : ℕ) → AreDistinct xs → ¬ Has xs x → AreDistinct (xs ++ x ∷ [])
distinct-push [] x d absent = (λ h. h, tt)
distinct-push (y ∷ xs) x d absent =
    (λ h. elim (Has-append xs (x ∷ []) y h) [ inl l ↦ d.0 l | inr r ↦ elim r [ inl is ↦ absent (inl (sym is)) | inr none ↦ none ] ], distinct-push xs x d.1 (λ h. absent (inr h)))

pub AllPairs-from_distinct : (xs : List ℕ) → AreDistinct xs → AllPairs ◌≢◌ xs
AllPairs-from_distinct [] d = λ i j e lt h. absurd (omega arith)
AllPairs-from_distinct (x ∷ xs) d =
    AllPairs-cons ◌≢◌ x xs
    (λ k e h same. d.0 (let P : ℕ → Type 0 = Has xs in subst P (sym same) (Has-from_Contains xs (get_or xs k e) (Contains-get_or xs k e h))))
    (AllPairs-from_distinct xs d.1)

-- ---- numbers below a bound

pub below-append : (n : ℕ) (xs ys : List ℕ) → AreBelow n xs → AreBelow n ys → AreBelow n (xs ++ ys)
below-append n [] ys bx by = by
below-append n (x ∷ xs) ys bx by = (bx.0, below-append n xs ys bx.1 by)

pub below-left : (n : ℕ) (xs ys : List ℕ) → AreBelow n (xs ++ ys) → AreBelow n xs
below-left n [] ys b = tt
below-left n (x ∷ xs) ys b = (b.0, below-left n xs ys b.1)

pub below-right : (n : ℕ) (xs ys : List ℕ) → AreBelow n (xs ++ ys) → AreBelow n ys
below-right n [] ys b = b
below-right n (x ∷ xs) ys b = below-right n xs ys b.1

pub below-has : (n : ℕ) (xs : List ℕ) (x : ℕ) → AreBelow n xs → Has xs x → x < n
below-has n [] x b h = elim h [ ]
below-has n (y ∷ xs) x b (inl is) = omega (arith, b.0)
below-has n (y ∷ xs) x b (inr h) = below-has n xs x b.1 h

pub All-from_below : (n : ℕ) (xs : List ℕ) → AreBelow n xs → All (λ x. x < n) xs
All-from_below n [] b = All-nil (λ x. x < n)
All-from_below n (x ∷ xs) b = All-cons (λ y. y < n) x xs b.0 (All-from_below n xs b.1)

-- ---- a list without one of its numbers

pub without-absent : (x : ℕ) (xs : List ℕ) → ¬ Has xs x → without x xs ≡ xs
without-absent x [] absent = refl
without-absent x (y ∷ xs) absent =
    let rest = without x xs in
    ap (λ t. cond (not t) (y ∷ rest) rest) (ne_eqb y x (λ is. absent (inl is))) ∙ ap (λ r. y ∷ r) (without-absent x xs (λ h. absent (inr h)))

pub without-between : (x : ℕ) (xs ys : List ℕ) → ¬ Has xs x → ¬ Has ys x → without x (xs ++ x ∷ ys) ≡ xs ++ ys
without-between x [] ys ax ay =
    let rest = without x ys in
    ap (λ t. cond (not t) (x ∷ rest) rest) (eq-eqb x x refl) ∙ without-absent x ys ay
without-between x (y ∷ xs) ys ax ay =
    let rest = without x (xs ++ x ∷ ys) in
    ap (λ t. cond (not t) (y ∷ rest) rest) (ne_eqb y x (λ is. ax (inl is))) ∙ ap (λ r. y ∷ r) (without-between x xs ys (λ h. ax (inr h)) ay)

pub without-has_not : (x : ℕ) (xs : List ℕ) → ¬ Has (without x xs) x
without-has_not x [] h = h
without-has_not x (y ∷ xs) h = elim (cases_eq y x) [
  | inl is ↦ without-has_not x xs (let P : List ℕ → Type 0 = λ s. Has s x in subst P (ap (λ t. cond (not t) (y ∷ without x xs) (without x xs)) (eq-eqb y x is)) h)
  | inr other ↦ elim (let P : List ℕ → Type 0 = λ s. Has s x in subst P (ap (λ t. cond (not t) (y ∷ without x xs) (without x xs)) (ne_eqb y x other)) h) [
    | inl is ↦ other is
    | inr later ↦ without-has_not x xs later
  ]
]

-- ---- chains

pub chain-split : (f g : ℕ → ℕ) (a : ℕ) (xs : List ℕ) (y : ℕ) (ys : List ℕ) (b : ℕ) → Chain f g a (xs ++ y ∷ ys) b → Chain f g a xs y × Chain f g y ys b
chain-split f g a [] y ys b c = ((c.0, c.1), c.2)
chain-split f g a (x ∷ xs) y ys b c = let rest = chain-split f g x xs y ys b c.2 in ((c.0, c.1, rest.0), rest.1)

-- the first and the last number of a chain
pub chain-first : (f g : ℕ → ℕ) (a : ℕ) (xs : List ℕ) (b : ℕ) → Chain f g a xs b → Has xs (f a) ⊎ (f a ≡ b)
chain-first f g a [] b c = inr c.0
chain-first f g a (x ∷ xs) b c = inl (inl (sym c.0))

pub chain-last : (f g : ℕ → ℕ) (a : ℕ) (xs : List ℕ) (b : ℕ) → Chain f g a xs b → Has xs (g b) ⊎ (g b ≡ a)
chain-last f g a [] b c = inr c.1
chain-last f g a (x ∷ xs) b c = elim (chain-last f g x xs b c.2) [ inl h ↦ inl (inr h) | inr is ↦ inl (inl (sym is)) ]

-- links that are the same along a chain
pub chain-same : (f g f' g' : ℕ → ℕ) (a : ℕ) (xs : List ℕ) (b : ℕ) → ((k : ℕ) → (k ≡ a) ⊎ Has xs k → f' k ≡ f k) → ((k : ℕ) → Has xs k ⊎ (k ≡ b) → g' k ≡ g k) → Chain f g a xs b → Chain f' g' a xs b
chain-same f g f' g' a [] b next prev c = (next a (inl refl) ∙ c.0, prev b (inr refl) ∙ c.1)
chain-same f g f' g' a (x ∷ xs) b next prev c = (
  next a (inl refl) ∙ c.0,
  prev x (inl (inl refl)) ∙ c.1,
  chain-same f g f' g' x xs b (λ k h. next k (elim h [ inl is ↦ inr (inl (sym is)) | inr has ↦ inr (inr has) ])) (λ k h. prev k (elim h [ inl has ↦ inl (inr has) | inr is ↦ inr is ])) c.2,
)

-- a change at one number
pub at : (ℕ → ℕ) → ℕ → ℕ → ℕ → ℕ
at f k v j = cond (eqb j k) v (f j)

pub at-here : (f : ℕ → ℕ) (k v j : ℕ) → j ≡ k → at f k v j ≡ v
unfolding at
at-here f k v j is = cond-true (eqb j k) v (f j) (eq-eqb j k is)

pub at-other : (f : ℕ → ℕ) (k v j : ℕ) → j ≢ k → at f k v j ≡ f j
unfolding at
at-other f k v j other = cond-false (eqb j k) v (f j) (ne_eqb j k other)

pub at-same : (f g : ℕ → ℕ) (k v j : ℕ) → ((i : ℕ) → f i ≡ g i) → at f k v j ≡ at g k v j
unfolding at
at-same f g k v j same = ap (λ r. cond (eqb j k) v r) (same j)

-- past one number
pub chain-bypass : (f g : ℕ → ℕ) (a : ℕ) (xs : List ℕ) (x : ℕ) (ys : List ℕ) (b : ℕ) → AreDistinct (xs ++ ys) → ¬ Has (xs ++ ys) a → ¬ Has (xs ++ ys) b → Chain f g a xs x → Chain f g x ys b → Chain (at f (g x) (f x)) (at g (f x) (g x)) a (xs ++ ys) b
chain-bypass f g a [] x [] b d not_a not_b front rest = (
  at-here f (g x) (f x) a (sym front.1) ∙ rest.0,
  at-here g (f x) (g x) b (sym rest.0) ∙ front.1,
)
chain-bypass f g a [] x (y ∷ ys) b d not_a not_b front rest = (
  at-here f (g x) (f x) a (sym front.1) ∙ rest.0,
  at-here g (f x) (g x) y (sym rest.0) ∙ front.1,
  chain-same f g (at f (g x) (f x)) (at g (f x) (g x)) y ys b
      (λ k h. at-other f (g x) (f x) k (λ is.
      let here : k ≡ a = is ∙ front.1 in
      not_a (elim h [ inl first ↦ inl (sym first ∙ here) | inr later ↦ inr (let P : ℕ → Type 0 = Has ys in subst P here later) ])))
      (λ k h. at-other g (f x) (g x) k (λ is.
      let here : k ≡ y = is ∙ rest.0 in
      elim h [ inl later ↦ d.0 (let P : ℕ → Type 0 = Has ys in subst P here later) | inr last ↦ not_b (inl (sym here ∙ last)) ]))
      rest.2,
)
chain-bypass f g a (z ∷ zs) x ys b d not_a not_b front rest =
    let last = chain-last f g z zs x front.2 in
    let first = chain-first f g x ys b rest in (
      at-other f (g x) (f x) a (λ is. not_a (elim last [
        | inl h ↦ inr (Has-left zs ys a (let P : ℕ → Type 0 = Has zs in subst P (sym is) h))
        | inr e ↦ inl (sym e ∙ sym is)
      ])) ∙ front.0,
      at-other g (f x) (g x) z (λ is. elim first [
        | inl h ↦ d.0 (Has-right zs ys z (let P : ℕ → Type 0 = Has ys in subst P (sym is) h))
        | inr e ↦ not_b (inl (is ∙ e))
      ]) ∙ front.1,
      chain-bypass f g z zs x ys b d.1 d.0 (λ h. not_b (inr h)) front.2 rest,
    )

-- one number more at the end
pub chain-back : (f g : ℕ → ℕ) (a : ℕ) (xs : List ℕ) (b x : ℕ) → AreDistinct xs → ¬ Has xs a → ¬ Has xs b → ¬ Has xs x → x ≢ a → x ≢ b → Chain f g a xs b → Chain (at (at f (g b) x) x b) (at (at g x (g b)) b x) a (xs ++ x ∷ []) b
chain-back f g a [] b x d not_a not_b not_x other_a other_b c = (
  at-other (at f (g b) x) x b a (λ e. other_a (sym e)) ∙ at-here f (g b) x a (sym c.1),
  at-other (at g x (g b)) b x x other_b ∙ at-here g x (g b) x refl ∙ c.1,
  (
    at-here (at f (g b) x) x b x refl,
    at-here (at g x (g b)) b x b refl,
  ),
)
chain-back f g a (z ∷ zs) b x d not_a not_b not_x other_a other_b c =
    let last = chain-last f g z zs b c.2 in (
      at-other (at f (g b) x) x b a (λ e. other_a (sym e))
          ∙ at-other f (g b) x a (λ is. not_a (elim last [
            | inl h ↦ inr (let P : ℕ → Type 0 = Has zs in subst P (sym is) h)
            | inr e ↦ inl (sym e ∙ sym is)
          ]))
          ∙ c.0,
      at-other (at g x (g b)) b x z (λ e. not_b (inl e)) ∙ at-other g x (g b) z (λ e. not_x (inl e)) ∙ c.1,
      chain-back f g z zs b x d.1 d.0 (λ h. not_b (inr h)) (λ h. not_x (inr h)) (λ e. not_x (inl (sym e))) other_b c.2,
    )

chain-onward : (f g : ℕ → ℕ) (a : ℕ) (xs : List ℕ) (b x : ℕ) → AreDistinct xs → ¬ Has xs a → ¬ Has xs b → ¬ Has xs x → x ≢ a → x ≢ b → Chain f g a xs b → Chain (at (at f a x) x (f a)) (at (at g x a) (f a) x) x xs b
chain-onward f g a [] b x d not_a not_b not_x other_a other_b c =
    (at-here (at f a x) x (f a) x refl ∙ c.0, at-here (at g x a) (f a) x b (sym c.0))
chain-onward f g a (z ∷ zs) b x d not_a not_b not_x other_a other_b c = (
  at-here (at f a x) x (f a) x refl ∙ c.0,
  at-here (at g x a) (f a) x z (sym c.0),
  chain-same f g (at (at f a x) x (f a)) (at (at g x a) (f a) x) z zs b
      (λ k h.
      at-other (at f a x) x (f a) k (λ is. not_x (elim h [ inl e ↦ inl (sym e ∙ is) | inr later ↦ inr (let P : ℕ → Type 0 = Has zs in subst P is later) ]))
      ∙ at-other f a x k (λ is. not_a (elim h [ inl e ↦ inl (sym e ∙ is) | inr later ↦ inr (let P : ℕ → Type 0 = Has zs in subst P is later) ])))
      (λ k h.
      at-other (at g x a) (f a) x k (λ is.
      let here : k ≡ z = is ∙ c.0 in
      elim h [ inl later ↦ d.0 (let P : ℕ → Type 0 = Has zs in subst P here later) | inr e ↦ not_b (inl (sym here ∙ e)) ])
      ∙ at-other g x a k (λ is. elim h [ inl later ↦ not_x (inr (let P : ℕ → Type 0 = Has zs in subst P is later)) | inr e ↦ other_b (sym is ∙ e) ]))
      c.2,
)

-- one number more at the front
pub chain-front : (f g : ℕ → ℕ) (a : ℕ) (xs : List ℕ) (b x : ℕ) → AreDistinct xs → ¬ Has xs a → ¬ Has xs b → ¬ Has xs x → x ≢ a → x ≢ b → Chain f g a xs b → Chain (at (at f a x) x (f a)) (at (at g x a) (f a) x) a (x ∷ xs) b
chain-front f g a xs b x d not_a not_b not_x other_a other_b c =
    let first = chain-first f g a xs b c in (
      at-other (at f a x) x (f a) a (λ e. other_a (sym e)) ∙ at-here f a x a refl,
      at-other (at g x a) (f a) x x (λ is. elim first [
        | inl h ↦ not_x (let P : ℕ → Type 0 = Has xs in subst P (sym is) h)
        | inr e ↦ other_b (is ∙ e)
      ]) ∙ at-here g x a x refl,
      chain-onward f g a xs b x d not_a not_b not_x other_a other_b c,
    )
