-- Chains of pairs: being linked is an equivalence, and a bit has one first bit.
use Rattle.std.proofs.Common.{◌≡◌, ◌≢◌, ℕ, suc, ◌<◌, ◌≤◌, Bool, true, false, ◌&&◌, cond, eqb, List, [], ◌∷◌, ◌++◌, length, get_or, map, refl, sym, ◌∙◌, ap, inl, inr, arith, ◌⊎◌}
use Rattle.std.specs.Prelude.{All, Contains}
use Rattle.std.proofs.lemmas.Bool.{cond-true, cond-false, eqb-true, eq-eqb, and_parts, and_from, false_from_ne_true}
use Rattle.std.proofs.lemmas.List.{length-map, get_or-map, get_or_default}
use Rattle.std.proofs.lemmas.List.Elements.{All-contains, Contains-append_left, Contains-append_right, Contains-append_cases, Contains-push_cases}
use Rattle.lhs_alias.specs.declared.segs.WireBit.{WireBit}
use Rattle.lhs_alias.specs.Segs.{bit}
use Rattle.lhs_alias.specs.Pairs.{Linked, itself, up, down, IsFirst, IsChild, Falls, HaveOwnChildren}

-- ---- chains

pub linked-trans : (pairs : List (WireBit × WireBit)) {b c d : WireBit} → Linked pairs b c → Linked pairs c d → Linked pairs b d
linked-trans pairs itself r = r
linked-trans pairs (up h q) r = up h (linked-trans pairs q r)
linked-trans pairs (down h q) r = down h (linked-trans pairs q r)

pub linked-sym : (pairs : List (WireBit × WireBit)) {b c : WireBit} → Linked pairs b c → Linked pairs c b
linked-sym pairs itself = itself
linked-sym pairs (up h q) = linked-trans pairs (linked-sym pairs q) (down h itself)
linked-sym pairs (down h q) = linked-trans pairs (linked-sym pairs q) (up h itself)

-- a chain stays when pairs are added
pub linked-more : (pairs more : List (WireBit × WireBit)) {b c : WireBit} → Linked pairs b c → Linked (pairs ++ more) b c
linked-more pairs more itself = itself
linked-more pairs more {b} (up {c = c} h q) = up (Contains-append_left pairs more (b, c) h) (linked-more pairs more q)
linked-more pairs more {b} (down {c = c} h q) = down (Contains-append_left pairs more (c, b) h) (linked-more pairs more q)

-- what the two bits of each pair have in common, linked bits have
pub linked-same : {X : Type 0} (f : WireBit → X) (pairs : List (WireBit × WireBit)) → ((b c : WireBit) → Contains pairs (b, c) → f b ≡ f c) → {b d : WireBit} → Linked pairs b d → f b ≡ f d
linked-same f pairs agree itself = refl
linked-same f pairs agree {b} (up {c = c} h q) = agree b c h ∙ linked-same f pairs agree q
linked-same f pairs agree {b} (down {c = c} h q) = sym (agree c b h) ∙ linked-same f pairs agree q

-- chains stay among the bits of which a fact holds
pub linked-keeps : (P : WireBit → Type 0) (pairs : List (WireBit × WireBit)) → ((b c : WireBit) → Contains pairs (b, c) → P b × P c) → {b d : WireBit} → Linked pairs b d → P b → P d
linked-keeps P pairs both itself p = p
linked-keeps P pairs both {b} (up {c = c} h q) p = linked-keeps P pairs both q (both b c h).1
linked-keeps P pairs both {b} (down {c = c} h q) p = linked-keeps P pairs both q (both c b h).0

-- ---- one first bit

same_bit : WireBit → WireBit → Bool
same_bit b c = eqb b.wire c.wire && eqb b.at c.at

same_bit-true : (b c : WireBit) → b ≡ c → same_bit b c ≡ true
unfolding same_bit
same_bit-true b c is = and_from (eqb b.wire c.wire) (eqb b.at c.at) (eq-eqb b.wire c.wire (ap (λ x. x.wire) is)) (eq-eqb b.at c.at (ap (λ x. x.at) is))

same_bit-is : (b c : WireBit) → same_bit b c ≡ true → b ≡ c
unfolding same_bit
same_bit-is b c is =
    let parts = and_parts (eqb b.wire c.wire) (eqb b.at c.at) is in
    let wire = eqb-true b.wire c.wire parts.0 in
    let at = eqb-true b.at c.at parts.1 in
    ap (λ w. bit w b.at) wire ∙ ap (λ a. bit c.wire a) at

cond-both : (t : Bool) (x : WireBit) → cond t x x ≡ x
cond-both true x = refl
cond-both false x = refl

-- the bit where the pairs lead from a bit
first_map : List (WireBit × WireBit) → WireBit → WireBit
first_map [] b = b
first_map (pair ∷ pairs) b = cond (same_bit (first_map pairs b) (first_map pairs pair.0)) (first_map pairs pair.1) (first_map pairs b)

contains-cons : {X : Type 0} (x y : X) (xs : List X) → Contains (x ∷ xs) y → (x ≡ y) ⊎ Contains xs y
contains-cons {X} x y xs h = elim (Contains-append_cases (x ∷ []) xs y h) [
  | inl first ↦ elim (Contains-push_cases [] x y first) [
    | inl none ↦ absurd (omega (arith, none.1))
    | inr is ↦ inl is
  ]
  | inr later ↦ inr later
]

-- the child of a pair stands among the children
pub child-stands : (pairs : List (WireBit × WireBit)) (b c : WireBit) → Contains pairs (b, c) → Contains (map (λ pair. pair.0) pairs) b
child-stands pairs b c h =
    let children = map (λ (pair : WireBit × WireBit). pair.0) pairs in
    (h.0, omega (arith, h.1, length-map pairs (λ (pair : WireBit × WireBit). pair.0)), get_or-map (λ (pair : WireBit × WireBit). pair.0) pairs h.0 (b, c) b h.1 ∙ ap (λ (pair : WireBit × WireBit). pair.0) h.2)

-- and what stands there is the child of a pair
pub stands-child : (pairs : List (WireBit × WireBit)) (b : WireBit) (k : ℕ) → k < length pairs → get_or (map (λ (pair : WireBit × WireBit). pair.0) pairs) k b ≡ b → IsChild pairs b
stands-child pairs b k h is =
    let pair = get_or pairs k (b, b) in
    let child : pair.0 ≡ b = sym (get_or-map (λ (q : WireBit × WireBit). q.0) pairs k (b, b) b h) ∙ is in
    (pair.1, (k, h, get_or_default pairs k (b, pair.1) (b, b) h ∙ ap (λ (x : WireBit). let q : WireBit × WireBit = (x, pair.1) in q) child))

own-tail : (pair : WireBit × WireBit) (pairs : List (WireBit × WireBit)) → HaveOwnChildren (pair ∷ pairs) → HaveOwnChildren pairs
own-tail pair pairs own i j d lt h = own (suc i) (suc j) d (omega arith) (omega arith)

own-head : (pair : WireBit × WireBit) (pairs : List (WireBit × WireBit)) → HaveOwnChildren (pair ∷ pairs) → ¬ IsChild pairs pair.0
own-head pair pairs own child =
    let stands = child-stands pairs pair.0 child.0 child.1 in
    own 0 (suc stands.0) pair.0 (omega arith) (omega (arith, stands.1)) (sym stands.2)

first_map-pair : (pairs : List (WireBit × WireBit)) (b c : WireBit) → Contains pairs (b, c) → first_map pairs b ≡ first_map pairs c
unfolding first_map
first_map-pair [] b c h = absurd (omega (arith, h.1))
first_map-pair (pair ∷ pairs) b c h =
    let rest = first_map pairs in
    let whole = first_map (pair ∷ pairs) in
    let step : WireBit → WireBit = λ x. cond (same_bit x (rest pair.0)) (rest pair.1) x in
    elim (contains-cons pair (b, c) pairs h) [
      | inl is ↦
          let child : whole pair.0 ≡ rest pair.1 = cond-true (same_bit (rest pair.0) (rest pair.0)) (rest pair.1) (rest pair.0) (same_bit-true (rest pair.0) (rest pair.0) refl) in
          let parent : whole pair.1 ≡ rest pair.1 = cond-both (same_bit (rest pair.1) (rest pair.0)) (rest pair.1) in
          ap (λ x. whole x) (sym (ap (λ (p : WireBit × WireBit). p.0) is)) ∙ child ∙ sym parent ∙ ap (λ x. whole x) (ap (λ (p : WireBit × WireBit). p.1) is)
      | inr later ↦ ap step (first_map-pair pairs b c later)
    ]

first_map-alone : (pairs : List (WireBit × WireBit)) → HaveOwnChildren pairs → (b : WireBit) → ¬ IsChild pairs b → first_map pairs b ≡ b
unfolding first_map
first_map-alone [] own b alone = refl
first_map-alone (pair ∷ pairs) own b alone =
    let rest = first_map pairs in
    let later : rest b ≡ b = first_map-alone pairs (own-tail pair pairs own) b (λ child. alone (child.0, Contains-append_right (pair ∷ []) pairs (b, child.0) child.1)) in
    let head : rest pair.0 ≡ pair.0 = first_map-alone pairs (own-tail pair pairs own) pair.0 (own-head pair pairs own) in
    let apart : b ≢ pair.0 = λ e. alone (pair.1, (0, omega arith, ap (λ x. (x, pair.1)) (sym e))) in
    let other : same_bit (rest b) (rest pair.0) ≡ false = false_from_ne_true _ (λ t. apart (sym later ∙ same_bit-is (rest b) (rest pair.0) t ∙ head)) in
    cond-false (same_bit (rest b) (rest pair.0)) (rest pair.1) (rest b) other ∙ later

first-by_map : (pairs : List (WireBit × WireBit)) → All Falls pairs → HaveOwnChildren pairs → (b first : WireBit) → IsFirst pairs b first → first ≡ first_map pairs b
first-by_map pairs falls own b first is =
    let alone : ¬ IsChild pairs first = λ child.
    let lower : first.wire ≤ child.0.wire = is.least child.0 (linked-trans pairs is.linked (up child.1 itself)) in
    let falls_there : child.0.wire < first.wire = All-contains Falls pairs (first, child.0) falls child.1 in
    omega arith in
    sym (first_map-alone pairs own first alone) ∙ sym (linked-same (first_map pairs) pairs (first_map-pair pairs) is.linked)

pub first-unique : (pairs : List (WireBit × WireBit)) → All Falls pairs → HaveOwnChildren pairs → (b first other : WireBit) → IsFirst pairs b first → IsFirst pairs b other → first ≡ other
first-unique pairs falls own b first other is is' = first-by_map pairs falls own b first is ∙ sym (first-by_map pairs falls own b other is')
