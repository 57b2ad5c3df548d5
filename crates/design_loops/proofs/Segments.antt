-- The bits of the segments of a group: each is in some member's segment, none stands twice, and they are as many as are counted for it. A
-- group that has more bits than a wire has more than one member.
use Rattle.std.proofs.Common.{◌≡◌, ◌≢◌, ◌⊎◌, ℕ, ◌+◌, ◌<◌, ◌≤◌, List, [], ◌∷◌, ◌++◌, length, refl, sym, ap, ◌∙◌, subst, inl, inr, arith, length-append}
use Rattle.std.specs.Prelude.{Contains, AllPairs, IsTrue}
use Rattle.std.proofs.lemmas.Bool.{cases_eq, eq-eqb, le-leb}
use Rattle.std.proofs.Common.{lt-ltb}
use Rattle.std.proofs.lemmas.List.Elements.{Contains-append_cases}
use Rattle.fourvec.proofs.Order.{both}
use Rattle.lhs_alias.specs.declared.segs.Seg.{Seg}
use Rattle.lhs_alias.specs.declared.segs.WireBit.{WireBit}
use Rattle.lhs_alias.specs.Segs.{bit, seg_bits}
use Rattle.lhs_alias.specs.Pairs.{AreDistinct}
use Rattle.lhs_alias.proofs.SegBits.{length-seg_bits, get_or-seg_bits}
use Rattle.net_equations.specs.Equations.{has_bit, seg_at}
use Rattle.net_equations.specs.Groups.{bits_in}
use Rattle.phase_fsm.proofs.Members.{nothing-in, cons-head, cons-tail, pairs-tail, first-apart}
use Rattle.design_loops.proofs.Lists.{apart-append}

-- ---- bits of one segment

pub has-lowest : (seg : Seg) → 1 ≤ seg.width → IsTrue (has_bit seg (bit seg.wire seg.lo))
has-lowest seg some = both _ _ (eq-eqb seg.wire seg.wire refl) (both _ _ (le-leb seg.lo seg.lo (omega arith)) (lt-ltb seg.lo (seg.lo + seg.width) (omega (arith, some))))

bit-in : (seg : Seg) (b : WireBit) → Contains (seg_bits seg) b → IsTrue (has_bit seg b)
bit-in seg b c =
    let k = c.0 in
    let lt : k < seg.width = omega (arith, c.1, length-seg_bits seg) in
    let is : bit seg.wire (seg.lo + k) ≡ b = sym (get_or-seg_bits seg k b lt) ∙ c.2 in
    let here : IsTrue (has_bit seg (bit seg.wire (seg.lo + k))) =
    both _ _ (eq-eqb seg.wire seg.wire refl) (both _ _ (le-leb seg.lo (seg.lo + k) (omega arith)) (lt-ltb (seg.lo + k) (seg.lo + seg.width) (omega (arith, lt)))) in
    subst (λ x. IsTrue (has_bit seg x)) is here

seg-distinct : (seg : Seg) → AreDistinct (seg_bits seg)
seg-distinct seg = λ i j d lt below e.
    let long = length-seg_bits seg in
    let jl : j < seg.width = omega (arith, below, long) in
    let il : i < seg.width = omega (arith, lt, jl) in
    let same : bit seg.wire (seg.lo + i) ≡ bit seg.wire (seg.lo + j) = sym (get_or-seg_bits seg i d il) ∙ e ∙ get_or-seg_bits seg j d jl in
    let at : seg.lo + i ≡ seg.lo + j = ap (λ (b : WireBit). b.at) same in
    absurd (omega (arith, at, lt))

-- ---- bits of members

pub group_bits : List Seg → List ℕ → List WireBit
group_bits segs [] = []
group_bits segs (m ∷ rest) = seg_bits (seg_at segs m) ++ group_bits segs rest

pub count-bits : (segs : List Seg) (members : List ℕ) → length (group_bits segs members) ≡ bits_in segs members
unfolding group_bits bits_in
count-bits segs [] = refl
count-bits segs (m ∷ rest) = length-append (seg_bits (seg_at segs m)) (group_bits segs rest) ∙ (let a = length-seg_bits (seg_at segs m) in let b = count-bits segs rest in omega (arith, a, b))

-- a member has the bit
pub record IsOfGroup (segs : List Seg) (members : List ℕ) (b : WireBit) : Type 0 where
  pub member : ℕ
  pub listed : Contains members member
  pub has : IsTrue (has_bit (seg_at segs member) b)

pub bit-of : (segs : List Seg) (members : List ℕ) (b : WireBit) → Contains (group_bits segs members) b → IsOfGroup segs members b
unfolding group_bits
bit-of segs [] b c = absurd (nothing-in b c)
bit-of segs (m ∷ rest) b c = pick (Contains-append_cases (seg_bits (seg_at segs m)) (group_bits segs rest) b c) (λ later. bit-of segs rest b later)
  where
    pick : Contains (seg_bits (seg_at segs m)) b ⊎ Contains (group_bits segs rest) b → (Contains (group_bits segs rest) b → IsOfGroup segs rest b) → IsOfGroup segs (m ∷ rest) b
    pick (inl here) next = record { member = m; listed = cons-head m rest m refl; has = bit-in (seg_at segs m) b here }
    pick (inr later) next = let h = next later in record { member = h.member; listed = cons-tail m rest h.member h.listed; has = h.has }

-- where no two members have a bit in common
pub group-distinct : (segs : List Seg) (members : List ℕ) → AllPairs ◌≢◌ members
    → ((i j : ℕ) (b : WireBit) → Contains members i → Contains members j → IsTrue (has_bit (seg_at segs i) b) → IsTrue (has_bit (seg_at segs j) b) → i ≡ j)
    → AreDistinct (group_bits segs members)
unfolding group_bits
group-distinct segs [] apart h = λ i j d lt below. absurd (omega (arith, below))
group-distinct segs (m ∷ rest) apart h =
    apart-append (seg_bits (seg_at segs m)) (group_bits segs rest) (seg-distinct (seg_at segs m))
    (group-distinct segs rest (pairs-tail ◌≢◌ m rest apart) (λ i j b ic jc. h i j b (cons-tail m rest i ic) (cons-tail m rest j jc)))
    (λ b here there.
    let other = bit-of segs rest b there in
    let same : m ≡ other.member = h m other.member b (cons-head m rest m refl) (cons-tail m rest other.member other.listed) (bit-in (seg_at segs m) b here) other.has in
    first-apart m rest apart (subst (Contains rest) (sym same) other.listed))

-- a group of more bits than a wire has has another member
pub other-member : (segs : List Seg) (members : List ℕ) → AllPairs ◌≢◌ members → ((m : ℕ) → Contains members m → (seg_at segs m).width ≤ 128) → 128 < bits_in segs members
    → (i : ℕ) → (j : ℕ) × (Contains members j × (j ≢ i))
unfolding bits_in
other-member segs [] apart narrow wide i = absurd (omega (arith, wide))
other-member segs (a ∷ []) apart narrow wide i = absurd (omega (arith, wide, narrow a (cons-head a [] a refl)))
other-member segs (a ∷ b ∷ rest) apart narrow wide i = elim (cases_eq a i) [
  | inl same ↦ (b, (cons-tail a (b ∷ rest) b (cons-head b rest b refl), λ e. first-apart a (b ∷ rest) apart (subst (Contains (b ∷ rest)) (e ∙ sym same) (cons-head b rest b refl))))
  | inr differ ↦ (a, (cons-head a (b ∷ rest) a refl, differ))
]
