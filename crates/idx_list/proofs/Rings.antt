-- Rings of links: what each call leaves.
use Rattle.std.proofs.Common.{◌≡◌, ◌≢◌, ℕ, zero, suc, ◌-◌, ◌<◌, ◌≤◌, ◌⊎◌, true, eqb, List, [], ◌∷◌, ◌++◌, length, get_or, set, refl, sym, ◌∙◌, ap, subst, inl, inr, arith, append_assoc, ◌↔◌, Some, None}
use Rattle.std.proofs.lemmas.List.{length-set, get_or-set_same, get_or-set_other}
use Rattle.std.proofs.lemmas.Bool.{cases_eq, cond-true, cond-false, eq-eqb, ne_eqb, or_cases, eqb-true, true≢false}
use Rattle.std.specs.Prelude.{Option, IsNone, IfSome, Contains}
use Rattle.std.specs.List.{list_any}
use Rattle.std.proofs.lemmas.Bool.Decides.{Decides-eqb}
use Rattle.std.proofs.lemmas.Map.Steps.{length-le_from_distinct_below}
use Rattle.std.proofs.lemmas.Map.Made.{IsDistinct-from_AllPairs}
use Rattle.idx_list.specs.declared.list.Link.{Link}
use Rattle.idx_list.specs.Order.{Order, without, IsFirst, IsLast, Follow}
use Rattle.idx_list.specs.Ring.{to_zero, next_of, prev_of, walk, end_of, items_of, Has, AreDistinct, AreBelow, Chain, IsRing, linked}
use Rattle.idx_list.proofs.Chains.{Has-from_Contains, at, at-here, at-other, at-same, chain-same, chain-bypass, chain-back, chain-front, chain-split, chain-first, chain-last, split-at, below-has, below-append, below-left, below-right, distinct-left, distinct-right, distinct-without, distinct-push, distinct-apart, without-between, AllPairs-from_distinct, Has-append, Has-left, Has-right}

-- the end is no number of the ring
pub end-absent : (links : List Link) (items : List ℕ) → IsRing links items → ¬ Has items (end_of links)
end-absent links items r h = absurd (omega (arith, below-has (end_of links) items (end_of links) r.below h))

pub length-linked : (links : List Link) (before after : ℕ) → length (linked links before after) ≡ length links
unfolding linked
length-linked links before after = length-set _ after _ ∙ length-set links before _

half : List Link → ℕ → ℕ → List Link
half links before after = set links before (record { prev = prev_of links before; next = after })

next_of-half : (links : List Link) (before after k : ℕ) → before < length links → next_of (half links before after) k ≡ at (next_of links) before after k
unfolding half next_of
next_of-half links before after k h = elim (cases_eq k before) [
  | inl is ↦ ap (λ j. (get_or (half links before after) j to_zero).next) is ∙ ap (λ (l : Link). l.next) (get_or-set_same links before _ to_zero h) ∙ sym (at-here (next_of links) before after k is)
  | inr other ↦ ap (λ (l : Link). l.next) (get_or-set_other links before k _ to_zero other) ∙ sym (at-other (next_of links) before after k other)
]

prev_of-half : (links : List Link) (before after k : ℕ) → before < length links → prev_of (half links before after) k ≡ prev_of links k
unfolding half prev_of
prev_of-half links before after k h = elim (cases_eq k before) [
  | inl is ↦ ap (λ j. (get_or (half links before after) j to_zero).prev) is ∙ ap (λ (l : Link). l.prev) (get_or-set_same links before _ to_zero h) ∙ ap (λ j. (get_or links j to_zero).prev) (sym is)
  | inr other ↦ ap (λ (l : Link). l.prev) (get_or-set_other links before k _ to_zero other)
]

pub next_of-linked : (links : List Link) (before after k : ℕ) → before < length links → after < length links → next_of (linked links before after) k ≡ at (next_of links) before after k
unfolding linked next_of half
next_of-linked links before after k hb ha =
    let first = half links before after in
    let within : after < length first = omega (arith, length-set links before (record { prev = prev_of links before; next = after })) in
    let stays : next_of (linked links before after) k ≡ next_of first k = elim (cases_eq k after) [
      | inl is ↦ ap (λ j. (get_or (linked links before after) j to_zero).next) is ∙ ap (λ (l : Link). l.next) (get_or-set_same first after _ to_zero within) ∙ ap (λ j. (get_or first j to_zero).next) (sym is)
      | inr other ↦ ap (λ (l : Link). l.next) (get_or-set_other first after k _ to_zero other)
    ] in
    stays ∙ next_of-half links before after k hb

pub prev_of-linked : (links : List Link) (before after k : ℕ) → before < length links → after < length links → prev_of (linked links before after) k ≡ at (prev_of links) after before k
unfolding linked prev_of half
prev_of-linked links before after k hb ha =
    let first = half links before after in
    let within : after < length first = omega (arith, length-set links before (record { prev = prev_of links before; next = after })) in
    elim (cases_eq k after) [
      | inl is ↦ ap (λ j. (get_or (linked links before after) j to_zero).prev) is ∙ ap (λ (l : Link). l.prev) (get_or-set_same first after _ to_zero within) ∙ sym (at-here (prev_of links) after before k is)
      | inr other ↦ ap (λ (l : Link). l.prev) (get_or-set_other first after k _ to_zero other) ∙ prev_of-half links before after k hb ∙ sym (at-other (prev_of links) after before k other)
    ]

-- ---- the walk finds the numbers of the ring

walk-chain : (n : ℕ) (links : List Link) (end a : ℕ) (xs : List ℕ) → Chain (next_of links) (prev_of links) a xs end → ¬ Has xs end → length xs ≤ n → walk n links end (next_of links a) ≡ xs
unfolding walk
walk-chain zero links end a [] c not_end short = refl
walk-chain zero links end a (x ∷ xs) c not_end short = absurd (omega arith)
walk-chain (suc n) links end a [] c not_end short = cond-true (eqb (next_of links a) end) [] (next_of links a ∷ walk n links end (next_of links (next_of links a))) (eq-eqb _ _ c.0)
walk-chain (suc n) links end a (x ∷ xs) c not_end short =
    cond-false (eqb (next_of links a) end) [] (next_of links a ∷ walk n links end (next_of links (next_of links a))) (ne_eqb _ _ (λ is. not_end (inl (sym c.0 ∙ is))))
    ∙ ap (λ y. y ∷ walk n links end (next_of links y)) c.0
    ∙ ap (λ r. x ∷ r) (walk-chain n links end x xs c.2 (λ h. not_end (inr h)) (omega arith))

has-from_any : (xs : List ℕ) (q : ℕ) → list_any (eqb q) xs ≡ true → Has xs q
has-from_any [] q is = cc
has-from_any (x ∷ xs) q is = elim (or_cases (eqb q x) (list_any (eqb q) xs) is) [
  | inl here ↦ inl (sym (eqb-true q x here))
  | inr later ↦ inr (has-from_any xs q later)
]

pub short : (n : ℕ) (xs : List ℕ) → AreDistinct xs → AreBelow n xs → length xs ≤ n
short n xs d b = length-le_from_distinct_below xs n (IsDistinct-from_AllPairs Decides-eqb xs (AllPairs-from_distinct xs d)) (λ q is. below-has n xs q b (has-from_any xs q is))

pub items-of_ring : (links : List Link) (items : List ℕ) → IsRing links items → items_of links ≡ items
unfolding items_of
items-of_ring links items r =
    walk-chain (end_of links) links (end_of links) (end_of links) items r.chain (end-absent links items r) (short (end_of links) items r.distinct r.below)

pub ring-own : (links : List Link) (items : List ℕ) → IsRing links items → IsRing links (items_of links)
ring-own links items r = let P : List ℕ → Type 0 = IsRing links in subst P (sym (items-of_ring links items r)) r

-- ---- what each call leaves

make-ring : (old links : List Link) (items : List ℕ) → length links ≡ length old → 1 ≤ length old → Chain (next_of links) (prev_of links) (end_of old) items (end_of old) → AreDistinct items → AreBelow (end_of old) items → ((x : ℕ) → x < end_of old → ¬ Has items x → next_of links x ≡ x) → IsRing links items
make-ring old links items long some chain distinct below alone =
    let end : end_of old ≡ end_of links = ap (λ n. n - 1) (sym long) in
    let C : ℕ → Type 0 = λ e. Chain (next_of links) (prev_of links) e items e in
    let B : ℕ → Type 0 = λ e. AreBelow e items in
    record {
      some = omega (arith, long);
      chain = subst C end chain;
      distinct = distinct;
      below = subst B end below;
      alone = λ x h absent. alone x (omega (arith, end)) absent;
    }

pub first-within : (links : List Link) (items : List ℕ) → IsRing links items → next_of links (end_of links) < length links
first-within links items r = elim (chain-first (next_of links) (prev_of links) (end_of links) items (end_of links) r.chain) [
  | inl h ↦ omega (arith, below-has (end_of links) items _ r.below h)
  | inr is ↦ omega (arith, r.some, is)
]

pub last-within : (links : List Link) (items : List ℕ) → IsRing links items → prev_of links (end_of links) < length links
last-within links items r = elim (chain-last (next_of links) (prev_of links) (end_of links) items (end_of links) r.chain) [
  | inl h ↦ omega (arith, below-has (end_of links) items _ r.below h)
  | inr is ↦ omega (arith, r.some, is)
]

pub ring-back : (links : List Link) (items : List ℕ) (x : ℕ) → IsRing links items → x < end_of links → ¬ Has items x → IsRing (linked (linked links (prev_of links (end_of links)) x) x (end_of links)) (items ++ x ∷ [])
ring-back links items x r below absent =
    let f = next_of links in
    let g = prev_of links in
    let end = end_of links in
    let p = g end in
    let once = linked links p x in
    let twice = linked once x end in
    let long : length once ≡ length links = length-linked links p x in
    let p_in = last-within links items r in
    let next : (k : ℕ) → next_of twice k ≡ at (at f p x) x end k = λ k.
    next_of-linked once x end k (omega (arith, long, below)) (omega (arith, long, r.some)) ∙ at-same (next_of once) (at f p x) x end k (λ i. next_of-linked links p x i p_in (omega (arith, below))) in
    let prev : (k : ℕ) → prev_of twice k ≡ at (at g x p) end x k = λ k.
    prev_of-linked once x end k (omega (arith, long, below)) (omega (arith, long, r.some)) ∙ at-same (prev_of once) (at g x p) end x k (λ i. prev_of-linked links p x i p_in (omega (arith, below))) in
    let no_end = end-absent links items r in
    let chain = chain-back f g end items end x r.distinct no_end no_end absent (λ e. omega (arith, e, below)) (λ e. omega (arith, e, below)) r.chain in
    make-ring links twice (items ++ x ∷ []) (length-linked once x end ∙ long) r.some
    (chain-same (at (at f p x) x end) (at (at g x p) end x) (next_of twice) (prev_of twice) end (items ++ x ∷ []) end (λ k _. next k) (λ k _. prev k) chain)
    (distinct-push items x r.distinct absent)
    (below-append end items (x ∷ []) r.below (below, tt))
    (λ y h lone.
    let other : y ≢ x = λ is. lone (Has-right items (x ∷ []) y (inl (sym is))) in
    let not_last : y ≢ p = λ is. elim (chain-last f g end items end r.chain) [
      | inl has ↦ lone (Has-left items (x ∷ []) y (let P : ℕ → Type 0 = Has items in subst P (sym is) has))
      | inr at_end ↦ absurd (omega (arith, is, at_end))
    ] in
    next y ∙ at-other (at f p x) x end y other ∙ at-other f p x y not_last ∙ r.alone y h (λ has. lone (Has-left items (x ∷ []) y has)))

pub ring-front : (links : List Link) (items : List ℕ) (x : ℕ) → IsRing links items → x < end_of links → ¬ Has items x → IsRing (linked (linked links (end_of links) x) x (next_of links (end_of links))) (x ∷ items)
ring-front links items x r below absent =
    let f = next_of links in
    let g = prev_of links in
    let end = end_of links in
    let q = f end in
    let once = linked links end x in
    let twice = linked once x q in
    let long : length once ≡ length links = length-linked links end x in
    let q_in = first-within links items r in
    let next : (k : ℕ) → next_of twice k ≡ at (at f end x) x q k = λ k.
    next_of-linked once x q k (omega (arith, long, below)) (omega (arith, long, q_in)) ∙ at-same (next_of once) (at f end x) x q k (λ i. next_of-linked links end x i (omega (arith, r.some)) (omega (arith, below))) in
    let prev : (k : ℕ) → prev_of twice k ≡ at (at g x end) q x k = λ k.
    prev_of-linked once x q k (omega (arith, long, below)) (omega (arith, long, q_in)) ∙ at-same (prev_of once) (at g x end) q x k (λ i. prev_of-linked links end x i (omega (arith, r.some)) (omega (arith, below))) in
    let no_end = end-absent links items r in
    let chain = chain-front f g end items end x r.distinct no_end no_end absent (λ e. omega (arith, e, below)) (λ e. omega (arith, e, below)) r.chain in
    make-ring links twice (x ∷ items) (length-linked once x q ∙ long) r.some
    (chain-same (at (at f end x) x q) (at (at g x end) q x) (next_of twice) (prev_of twice) end (x ∷ items) end (λ k _. next k) (λ k _. prev k) chain)
    (absent, r.distinct)
    (below, r.below)
    (λ y h lone.
    next y ∙ at-other (at f end x) x q y (λ is. lone (inl (sym is))) ∙ at-other f end x y (λ is. absurd (omega (arith, is, h))) ∙ r.alone y h (λ has. lone (inr has)))

-- the neighbours of a number of the ring
pub prev-at : (links : List Link) (front rest : List ℕ) (x : ℕ) → IsRing links (front ++ x ∷ rest) → Has front (prev_of links x) ⊎ (prev_of links x ≡ end_of links)
prev-at links front rest x r =
    chain-last (next_of links) (prev_of links) (end_of links) front x (chain-split (next_of links) (prev_of links) (end_of links) front x rest (end_of links) r.chain).0

pub next-at : (links : List Link) (front rest : List ℕ) (x : ℕ) → IsRing links (front ++ x ∷ rest) → Has rest (next_of links x) ⊎ (next_of links x ≡ end_of links)
next-at links front rest x r =
    chain-first (next_of links) (prev_of links) x rest (end_of links) (chain-split (next_of links) (prev_of links) (end_of links) front x rest (end_of links) r.chain).1

prev-within_at : (links : List Link) (front rest : List ℕ) (x : ℕ) → IsRing links (front ++ x ∷ rest) → prev_of links x < length links
prev-within_at links front rest x r = elim (prev-at links front rest x r) [
  | inl h ↦ omega (arith, below-has (end_of links) front (prev_of links x) (below-left (end_of links) front (x ∷ rest) r.below) h)
  | inr is ↦ omega (arith, r.some, is)
]

next-within_at : (links : List Link) (front rest : List ℕ) (x : ℕ) → IsRing links (front ++ x ∷ rest) → next_of links x < length links
next-within_at links front rest x r = elim (next-at links front rest x r) [
  | inl h ↦ omega (arith, below-has (end_of links) rest (next_of links x) (below-right (end_of links) front (x ∷ rest) r.below).1 h)
  | inr is ↦ omega (arith, r.some, is)
]

pub item-within : (links : List Link) (items : List ℕ) (x : ℕ) → IsRing links items → Has items x → x < end_of links
item-within links items x r there = below-has (end_of links) items x r.below there

pub prev-within : (links : List Link) (items : List ℕ) (x : ℕ) → IsRing links items → Has items x → prev_of links x < length links
prev-within links items x r there =
    let split = split-at items x there in
    let P : List ℕ → Type 0 = IsRing links in
    prev-within_at links split.0 split.1 x (subst P split.2 r)

pub next-within : (links : List Link) (items : List ℕ) (x : ℕ) → IsRing links items → Has items x → next_of links x < length links
next-within links items x r there =
    let split = split-at items x there in
    let P : List ℕ → Type 0 = IsRing links in
    next-within_at links split.0 split.1 x (subst P split.2 r)

ring-between : (links : List Link) (front rest : List ℕ) (x : ℕ) → IsRing links (front ++ x ∷ rest) → IsRing (linked (linked links (prev_of links x) (next_of links x)) x x) (front ++ rest)
ring-between links front rest x r =
    let f = next_of links in
    let g = prev_of links in
    let end = end_of links in
    let p = g x in
    let q = f x in
    let once = linked links p q in
    let twice = linked once x x in
    let long : length once ≡ length links = length-linked links p q in
    let all = front ++ x ∷ rest in
    let here : Has all x = Has-right front (x ∷ rest) x (inl refl) in
    let below : x < end = below-has end all x r.below here in
    let p_in = prev-within_at links front rest x r in
    let q_in = next-within_at links front rest x r in
    let next : (k : ℕ) → next_of twice k ≡ at (at f p q) x x k = λ k.
    next_of-linked once x x k (omega (arith, long, below)) (omega (arith, long, below)) ∙ at-same (next_of once) (at f p q) x x k (λ i. next_of-linked links p q i p_in q_in) in
    let prev : (k : ℕ) → prev_of twice k ≡ at (at g q p) x x k = λ k.
    prev_of-linked once x x k (omega (arith, long, below)) (omega (arith, long, below)) ∙ at-same (prev_of once) (at g q p) x x k (λ i. prev_of-linked links p q i p_in q_in) in
    let parts = chain-split f g end front x rest end r.chain in
    let kept : (y : ℕ) → Has (front ++ rest) y → Has all y = λ y h. elim (Has-append front rest y h) [
      | inl l ↦ Has-left front (x ∷ rest) y l
      | inr later ↦ Has-right front (x ∷ rest) y (inr later)
    ] in
    let no_end : ¬ Has (front ++ rest) end = λ h. end-absent links all r (kept end h) in
    let distinct = distinct-without front rest x r.distinct in
    let absent : ¬ Has (front ++ rest) x = λ h. elim (Has-append front rest x h) [
      | inl l ↦ distinct-apart front (x ∷ rest) x r.distinct l (inl refl)
      | inr later ↦ (distinct-right front (x ∷ rest) r.distinct).0 later
    ] in
    let chain = chain-bypass f g end front x rest end distinct no_end no_end parts.0 parts.1 in
    make-ring links twice (front ++ rest) (length-linked once x x ∙ long) r.some
    (chain-same (at f p q) (at g q p) (next_of twice) (prev_of twice) end (front ++ rest) end
    (λ k h. next k ∙ at-other (at f p q) x x k (λ is. elim h [ inl e ↦ absurd (omega (arith, is, e, below)) | inr has ↦ absent (let P : ℕ → Type 0 = Has (front ++ rest) in subst P is has) ]))
    (λ k h. prev k ∙ at-other (at g q p) x x k (λ is. elim h [ inl has ↦ absent (let P : ℕ → Type 0 = Has (front ++ rest) in subst P is has) | inr e ↦ absurd (omega (arith, is, e, below)) ]))
    chain)
    distinct
    (below-append end front rest (below-left end front (x ∷ rest) r.below) (below-right end front (x ∷ rest) r.below).1)
    (λ y h lone. elim (cases_eq y x) [
      | inl is ↦ next y ∙ at-here (at f p q) x x y is ∙ sym is
      | inr other ↦
          let not_last : y ≢ p = λ is. elim (prev-at links front rest x r) [
            | inl has ↦ lone (Has-left front rest y (let P : ℕ → Type 0 = Has front in subst P (sym is) has))
            | inr e ↦ absurd (omega (arith, is, e, h))
          ] in
          next y ∙ at-other (at f p q) x x y other ∙ at-other f p q y not_last
          ∙ r.alone y h (λ has. elim (Has-append front (x ∷ rest) y has) [
            | inl l ↦ lone (Has-left front rest y l)
            | inr later ↦ elim later [ inl is ↦ other (sym is) | inr last ↦ lone (Has-right front rest y last) ]
          ])
    ])

pub ring-without : (links : List Link) (items : List ℕ) (x : ℕ) → IsRing links items → Has items x → IsRing (linked (linked links (prev_of links x) (next_of links x)) x x) (without x items)
ring-without links items x r there =
    let split = split-at items x there in
    let P : List ℕ → Type 0 = IsRing links in
    let whole = subst P split.2 r in
    let out : without x items ≡ split.0 ++ split.1 =
    ap (λ s. without x s) split.2 ∙ without-between x split.0 split.1 (λ h. distinct-apart split.0 (x ∷ split.1) x whole.distinct h (inl refl)) (distinct-right split.0 (x ∷ split.1) whole.distinct).0 in
    let Q : List ℕ → Type 0 = IsRing (linked (linked links (prev_of links x) (next_of links x)) x x) in
    subst Q (sym out) (ring-between links split.0 split.1 x whole)

-- ---- what the links of a number tell

pub linked-apart : (links : List Link) (items : List ℕ) (x : ℕ) → IsRing links items → Has items x → next_of links x ≢ x
linked-apart links items x r there is =
    let split = split-at items x there in
    let P : List ℕ → Type 0 = IsRing links in
    let whole = subst P split.2 r in
    elim (next-at links split.0 split.1 x whole) [
      | inl h ↦ (distinct-right split.0 (x ∷ split.1) whole.distinct).0 (let Q : ℕ → Type 0 = Has split.1 in subst Q is h)
      | inr end ↦ absurd (omega (arith, is, end, item-within links items x r there))
    ]

none-after : (f g : ℕ → ℕ) (x end : ℕ) (rest : List ℕ) → Chain f g x rest end → f x ≡ end → ¬ Has rest end → rest ≡ []
none-after f g x end [] c is absent = refl
none-after f g x end (z ∷ zs) c is absent = absurd (absent (inl (sym c.0 ∙ is)))

some-after : (f g : ℕ → ℕ) (x y end : ℕ) (rest : List ℕ) → Chain f g x rest end → f x ≡ y → y ≢ end → (more : List ℕ) × (rest ≡ y ∷ more)
some-after f g x y end [] c is other = absurd (other (sym is ∙ c.0))
some-after f g x y end (z ∷ zs) c is other = (zs, ap (λ w. w ∷ zs) (sym c.0 ∙ is))

none-before : (f g : ℕ → ℕ) (x end : ℕ) (front : List ℕ) → Chain f g end front x → g x ≡ end → ¬ Has front end → front ≡ []
none-before f g x end [] c is absent = refl
none-before f g x end (z ∷ zs) c is absent = absurd (absent (elim (chain-last f g z zs x c.2) [
  | inl h ↦ inr (let P : ℕ → Type 0 = Has zs in subst P is h)
  | inr e ↦ inl (sym e ∙ is)
]))

some-before : (f g : ℕ → ℕ) (x y a : ℕ) (front : List ℕ) → AreDistinct front → Chain f g a front x → g x ≡ y → y ≢ a → (less : List ℕ) × (front ≡ less ++ y ∷ [])
some-before f g x y a [] d c is other = absurd (other (sym is ∙ c.1))
some-before f g x y a (z ∷ []) d c is other = ([], ap (λ w. w ∷ []) (sym c.2.1 ∙ is))
some-before f g x y a (z ∷ w ∷ ws) d c is other =
    let apart : y ≢ z = λ e. d.0 (elim (chain-last f g w ws x c.2.2) [
      | inl h ↦ inr (let P : ℕ → Type 0 = Has ws in subst P (is ∙ e) h)
      | inr first ↦ inl (sym first ∙ is ∙ e)
    ]) in
    let found = some-before f g x y z (w ∷ ws) d.1 c.2 is apart in
    (z ∷ found.0, ap (λ r. z ∷ r) found.1)

pub last-at_end : (links : List Link) (items : List ℕ) (x : ℕ) → IsRing links items → Has items x → next_of links x ≡ end_of links → IsLast items x
last-at_end links items x r there is =
    let split = split-at items x there in
    let P : List ℕ → Type 0 = IsRing links in
    let whole = subst P split.2 r in
    let parts = chain-split (next_of links) (prev_of links) (end_of links) split.0 x split.1 (end_of links) whole.chain in
    let none = none-after (next_of links) (prev_of links) x (end_of links) split.1 parts.1 is (λ h. end-absent links (split.0 ++ x ∷ split.1) whole (Has-right split.0 (x ∷ split.1) (end_of links) (inr h))) in
    (split.0, split.2 ∙ ap (λ s. split.0 ++ x ∷ s) none)

pub end-at_last : (links : List Link) (items : List ℕ) (x : ℕ) → IsRing links items → IsLast items x → next_of links x ≡ end_of links
end-at_last links items x r last =
    let P : List ℕ → Type 0 = IsRing links in
    let whole = subst P last.1 r in
    (chain-split (next_of links) (prev_of links) (end_of links) last.0 x [] (end_of links) whole.chain).1.0

pub first-at_end : (links : List Link) (items : List ℕ) (x : ℕ) → IsRing links items → Has items x → prev_of links x ≡ end_of links → IsFirst items x
first-at_end links items x r there is =
    let split = split-at items x there in
    let P : List ℕ → Type 0 = IsRing links in
    let whole = subst P split.2 r in
    let parts = chain-split (next_of links) (prev_of links) (end_of links) split.0 x split.1 (end_of links) whole.chain in
    let none = none-before (next_of links) (prev_of links) x (end_of links) split.0 parts.0 is (λ h. end-absent links (split.0 ++ x ∷ split.1) whole (Has-left split.0 (x ∷ split.1) (end_of links) h)) in
    (split.1, split.2 ∙ ap (λ s. s ++ x ∷ split.1) none)

pub end-at_first : (links : List Link) (items : List ℕ) (x : ℕ) → IsRing links items → IsFirst items x → prev_of links x ≡ end_of links
end-at_first links items x r first =
    let P : List ℕ → Type 0 = IsRing links in
    let whole = subst P first.1 r in
    whole.chain.1

pub follow-next : (links : List Link) (items : List ℕ) (x y : ℕ) → IsRing links items → Has items x → next_of links x ≡ y → y ≢ end_of links → Follow items x y
follow-next links items x y r there is other =
    let split = split-at items x there in
    let P : List ℕ → Type 0 = IsRing links in
    let whole = subst P split.2 r in
    let parts = chain-split (next_of links) (prev_of links) (end_of links) split.0 x split.1 (end_of links) whole.chain in
    let more = some-after (next_of links) (prev_of links) x y (end_of links) split.1 parts.1 is other in
    (split.0, more.0, split.2 ∙ ap (λ s. split.0 ++ x ∷ s) more.1)

pub follow-prev : (links : List Link) (items : List ℕ) (x y : ℕ) → IsRing links items → Has items x → prev_of links x ≡ y → y ≢ end_of links → Follow items y x
follow-prev links items x y r there is other =
    let split = split-at items x there in
    let P : List ℕ → Type 0 = IsRing links in
    let whole = subst P split.2 r in
    let parts = chain-split (next_of links) (prev_of links) (end_of links) split.0 x split.1 (end_of links) whole.chain in
    let less = some-before (next_of links) (prev_of links) x y (end_of links) split.0 (distinct-left split.0 (x ∷ split.1) whole.distinct) parts.0 is other in
    (less.0, split.1, split.2 ∙ ap (λ s. s ++ x ∷ split.1) less.1 ∙ append_assoc less.0 (y ∷ []) (x ∷ split.1))

-- no numbers
pub ring-none : (links : List Link) → 1 ≤ length links → ((k : ℕ) → k < length links → get_or links k to_zero ≡ record { prev = k; next = k }) → IsRing links []
unfolding next_of prev_of
ring-none links some same =
    let end = end_of links in
    record {
      some = some;
      chain = (ap (λ (l : Link). l.next) (same end (omega arith)), ap (λ (l : Link). l.prev) (same end (omega arith)));
      distinct = tt;
      below = tt;
      alone = λ x h absent. ap (λ (l : Link). l.next) (same x (omega arith));
    }

-- ---- the list that a ring stands for

abbrev pub order-of : List Link → Order
order-of links = record { room = end_of links; items = items_of links }

pub closed-ring : (now new : List Link) (items : List ℕ) → now ≡ new → IsRing new items → IsRing now (items_of now)
closed-ring now new items is r = let P : List Link → Type 0 = λ links. IsRing links (items_of links) in subst P (sym is) (ring-own new items r)

pub closed-order : (now new old : List Link) (items : List ℕ) → now ≡ new → length new ≡ length old → IsRing new items → order-of now ≡ record { room = end_of old; items = items }
closed-order now new old items is long r =
    ap (λ links. let order : Order = record { room = end_of links; items = items_of links } in order) is
    ∙ ap (λ n. let order : Order = record { room = n - 1; items = items_of new } in order) long
    ∙ ap (λ s. let order : Order = record { room = end_of old; items = s } in order) (items-of_ring new items r)

-- what the number after one tells, as an answer
after-follows : (links : List Link) (items : List ℕ) (x : ℕ) (answer : Option ℕ) → IsRing links items → Has items x → (IsNone answer ↔ (next_of links x ≡ end_of links)) → IfSome answer (λ y. next_of links x ≡ y) → IfSome answer (Follow items x)
after-follows links items x None r has none some = tt
after-follows links items x (Some y) r has none some =
    follow-next links items x y r has some (λ end. true≢false (none.1 (some ∙ end)))

before-follows : (links : List Link) (items : List ℕ) (x : ℕ) (answer : Option ℕ) → IsRing links items → Has items x → (IsNone answer ↔ (prev_of links x ≡ end_of links)) → IfSome answer (λ y. prev_of links x ≡ y) → IfSome answer (λ y. Follow items y x)
before-follows links items x None r has none some = tt
before-follows links items x (Some y) r has none some =
    follow-prev links items x y r has some (λ end. true≢false (none.1 (some ∙ end)))

pub next-answers : (links seen : List Link) (now : Order) (x : ℕ) (answer : Option ℕ) → order-of links ≡ now → seen ≡ links → IsRing links (items_of links) → Contains now.items x → (IsNone answer ↔ (next_of seen x ≡ end_of seen)) → IfSome answer (λ y. next_of seen x ≡ y) → (IsNone answer ↔ IsLast now.items x) × IfSome answer (Follow now.items x)
next-answers links seen now x answer view same r there none some =
    let items = items_of links in
    let P : Order → Type 0 = λ order. Contains order.items x in
    let has = Has-from_Contains items x (subst P (sym view) there) in
    let Q : Order → Type 0 = λ order. (IsNone answer ↔ IsLast order.items x) × IfSome answer (Follow order.items x) in
    let None_at : List Link → Type 0 = λ l. IsNone answer ↔ (next_of l x ≡ end_of l) in
    let Some_at : List Link → Type 0 = λ l. IfSome answer (λ y. next_of l x ≡ y) in
    let none' = subst None_at same none in
    subst Q view (
      (λ is. last-at_end links items x r has (none'.0 is), λ last. none'.1 (end-at_last links items x r last)),
      after-follows links items x answer r has none' (subst Some_at same some),
    )

pub prev-answers : (links seen : List Link) (now : Order) (x : ℕ) (answer : Option ℕ) → order-of links ≡ now → seen ≡ links → IsRing links (items_of links) → Contains now.items x → (IsNone answer ↔ (prev_of seen x ≡ end_of seen)) → IfSome answer (λ y. prev_of seen x ≡ y) → (IsNone answer ↔ IsFirst now.items x) × IfSome answer (λ y. Follow now.items y x)
prev-answers links seen now x answer view same r there none some =
    let items = items_of links in
    let P : Order → Type 0 = λ order. Contains order.items x in
    let has = Has-from_Contains items x (subst P (sym view) there) in
    let Q : Order → Type 0 = λ order. (IsNone answer ↔ IsFirst order.items x) × IfSome answer (λ y. Follow order.items y x) in
    let None_at : List Link → Type 0 = λ l. IsNone answer ↔ (prev_of l x ≡ end_of l) in
    let Some_at : List Link → Type 0 = λ l. IfSome answer (λ y. prev_of l x ≡ y) in
    let none' = subst None_at same none in
    subst Q view (
      (λ is. first-at_end links items x r has (none'.0 is), λ first. none'.1 (end-at_first links items x r first)),
      before-follows links items x answer r has none' (subst Some_at same some),
    )

-- the first number of the ring
pub none-first : (links : List Link) (items : List ℕ) → IsRing links items → next_of links (end_of links) ≡ end_of links → items ≡ []
none-first links items r is =
    none-after (next_of links) (prev_of links) (end_of links) (end_of links) items r.chain is (end-absent links items r)

pub first-none : (links : List Link) (items : List ℕ) → IsRing links items → items ≡ [] → next_of links (end_of links) ≡ end_of links
first-none links items r is = let P : List ℕ → Type 0 = IsRing links in (subst P is r).chain.0

pub some-first : (links : List Link) (items : List ℕ) (x : ℕ) → IsRing links items → next_of links (end_of links) ≡ x → x ≢ end_of links → items ≡ x ∷ without x items
some-first links items x r is other =
    let found = some-after (next_of links) (prev_of links) (end_of links) x (end_of links) items r.chain is other in
    let P : List ℕ → Type 0 = IsRing links in
    let whole = subst P found.1 r in
    let rest : without x items ≡ found.0 = ap (λ s. without x s) found.1 ∙ without-between x [] found.0 (λ h. h) whole.distinct.0 in
    found.1 ∙ ap (λ s. x ∷ s) (sym rest)
