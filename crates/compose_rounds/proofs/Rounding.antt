-- Rounds from X at every bit reach the least solution.
use Rattle.std.proofs.Common.{◌≡◌, ℕ, zero, suc, ◌+◌, ◌-◌, ◌<◌, ◌≤◌, true, List, [], ◌∷◌, length, get_or, refl, sym, ap, ◌∙◌, subst, inl, inr, ◌⊎◌, arith}
use Rattle.std.proofs.lemmas.Bool.{cases_lt, cases_eq}
use Rattle.std.proofs.lemmas.List.{get_or-map, length-replicate}
use Rattle.fourvec.specs.declared.Bit.{Bit}
use Rattle.fourvec.specs.declared.Bit.TheVariants.{Zero, One, Unknown, Floating}
use Rattle.fourvec.specs.Bits.{bit_below, all_pairs, all_x}
use Rattle.fourvec.specs.Laws.{Below}
use Rattle.fourvec.proofs.Tables.{left_of, right_of}
use Rattle.fourvec.proofs.Order.{below-refl as vector-refl, below-trans as vector-trans, x_below}
use Rattle.lhs_alias.specs.declared.segs.Seg.{Seg}
use Rattle.lhs_alias.specs.Segs.{bit, seg_bits}
use Rattle.lhs_alias.proofs.SegBits.{get_or-seg_bits, length-seg_bits}
use Rattle.svex_shape.specs.Values.{Vector}
use Rattle.settling.specs.Settling.{Store, Link, first_bit, value_at as value_in}
use Rattle.settling.specs.Least.{Under}
use Rattle.settling.proofs.Rounds.{below-refl, under-trans}
use Rattle.settling.proofs.Classes.{joined-first, first-joined}
use Rattle.net_equations.specs.Equations.{seg_at}
use Rattle.net_equations.specs.Groups.{bits_in}
use Rattle.compose_rounds.specs.Rounds.{found, store_of, Gives, Solves, IsSystem, IsReached, EachMember, AreMembers, IsCalm, IsGroupRound, DependsOn}
use Rattle.compose_rounds.proofs.Found.{in-seg, found-at, found-or, found-alike, found-rises, found-unknown, own-value}

pub store-rises : (links : List Link) (segs : List Seg) (v w : ℕ → Vector) → ((i : ℕ) → i < length segs → Below (v i) (w i)) → Under (store_of links segs v) (store_of links segs w)
unfolding store_of
store-rises links segs v w h n k = found-rises segs v w (first_bit links (bit n k)) h

pub store-alike : (links : List Link) (segs : List Seg) (v w : ℕ → Vector) → ((i : ℕ) → i < length segs → v i ≡ w i) → store_of links segs v ≡ store_of links segs w
unfolding store_of
store-alike links segs v w h j n k = found-alike segs v w (first_bit links (bit n k)) (λ i lt has. h i lt) j

-- a solution is above what it gives
solution-above : (links : List Link) (segs : List Seg) (gives : Gives) → IsSystem links segs gives → (t : Store) → Solves links segs gives t → Under (store_of links segs (gives t)) t
unfolding store_of
solution-above links segs gives sys t e n k = elim (found-or segs (first_bit links (bit n k))) [
  | inl none ↦ subst (λ x. bit_below x (t n k) ≡ true) (sym (none (gives t))) refl
  | inr r ↦
      let b = bit n k in
      let c = first_bit links b in
      let i = r.0 in
      let s = seg_at segs i in
      let is = in-seg s c r.1.1 in
      let at = c.at - s.lo in
      let here : bit s.wire (s.lo + at) ≡ c = λ j. record { wire = is.wire j; at = (let p : s.lo + at ≡ c.at = omega (arith, is.low) in p) j } in
      let within : at < s.width = omega (arith, is.low, is.high) in
      let same : found segs (gives t) c ≡ t n k =
      found-at segs (gives t) c i r.1.0 r.1.1 (λ j l h. sys.apart j i c l r.1.0 h r.1.1)
      ∙ ap (λ x. get_or x at Unknown) (sym (e.hold i r.1.0))
      ∙ get_or-map (value_in t) (seg_bits s) at (bit 0 0) Unknown (omega (arith, within, length-seg_bits s))
      ∙ ap (value_in t) (get_or-seg_bits s at (bit 0 0) within ∙ here)
      ∙ sym (e.even b c (joined-first links b)) in
      subst (λ x. bit_below x (t n k) ≡ true) (sym same) (below-refl (t n k))
]

-- ---- rounds keep what is reached

pub reached-start : (links : List Link) (segs : List Seg) (gives : Gives) → IsSystem links segs gives → (v : ℕ → Vector)
    → ((i : ℕ) → i < length segs → v i ≡ all_x (seg_at segs i).width) → IsReached links segs gives v
unfolding store_of
reached-start links segs gives sys v h = record {
  wide = λ i lt. ap length (h i lt) ∙ length-replicate (seg_at segs i).width Unknown;
  grows = λ i lt. subst (λ x. Below x (gives (store_of links segs v) i)) (sym (h i lt)) (x_below (seg_at segs i).width (gives (store_of links segs v) i) (sym (sys.wide (store_of links segs v) i lt)));
  below = λ t e n k. subst (λ x. bit_below x (t n k) ≡ true) (sym (found-unknown segs v (first_bit links (bit n k)) h)) refl;
}

-- each segment keeps its value or takes what its equation gives
unfoldable pub IsRound : List Link → List Seg → Gives → (ℕ → Vector) → (ℕ → Vector) → Type 0
IsRound links segs gives v w = (i : ℕ) → i < length segs → (w i ≡ v i) ⊎ (w i ≡ gives (store_of links segs v) i)

module _ (links : List Link) (segs : List Seg) (gives : Gives) (sys : IsSystem links segs gives) (v w : ℕ → Vector) (r : IsReached links segs gives v) where
  pub round-up : IsRound links segs gives v w → (i : ℕ) → i < length segs → Below (v i) (w i)
  unfolding IsRound
  round-up h i lt = elim (h i lt) [
    | inl e ↦ subst (Below (v i)) (sym e) (vector-refl (v i))
    | inr e ↦ subst (Below (v i)) (sym e) (r.grows i lt)
  ]

  round-within : IsRound links segs gives v w → (i : ℕ) → i < length segs → Below (w i) (gives (store_of links segs v) i)
  unfolding IsRound
  round-within h i lt = elim (h i lt) [
    | inl e ↦ subst (λ x. Below x (gives (store_of links segs v) i)) (sym e) (r.grows i lt)
    | inr e ↦ subst (λ x. Below x (gives (store_of links segs v) i)) (sym e) (vector-refl (gives (store_of links segs v) i))
  ]

  round-wide : IsRound links segs gives v w → (i : ℕ) → i < length segs → length (w i) ≡ (seg_at segs i).width
  unfolding IsRound
  round-wide h i lt = elim (h i lt) [
    | inl e ↦ ap length e ∙ r.wide i lt
    | inr e ↦ ap length e ∙ sys.wide (store_of links segs v) i lt
  ]

  pub reached-next : IsRound links segs gives v w → IsReached links segs gives w
  reached-next h =
      let up = store-rises links segs v w (round-up h) in
      record {
        wide = round-wide h;
        grows = λ i lt. vector-trans (w i) (gives (store_of links segs v) i) (gives (store_of links segs w) i) (round-within h i lt) (sys.rises (store_of links segs v) (store_of links segs w) up i lt);
        below = λ t e.
            let g = store_of links segs (gives t) in
            under-trans (store_of links segs w) g t
            (store-rises links segs w (gives t) (λ i lt. vector-trans (w i) (gives (store_of links segs v) i) (gives t i) (round-within h i lt) (sys.rises (store_of links segs v) t (r.below t e) i lt)))
            (solution-above links segs gives sys t e);
      }

  -- where each segment has what its equation gives, that is the least solution
  pub rest-solves : ((i : ℕ) → i < length segs → v i ≡ gives (store_of links segs v) i) → Solves links segs gives (store_of links segs v)
  unfolding store_of
  rest-solves h = record {
    even = λ b c l. ap (found segs v) (first-joined links b c l);
    hold = λ i lt. own-value links segs v i lt (r.wide i lt) (λ b has. sys.firsts i b lt has) (λ j b l m has. sys.apart j i b l lt m has) ∙ h i lt;
  }

-- ---- how many bits are X

abbrev pub weight : Bit → ℕ
weight Unknown = 1
weight x = 0

unfoldable pub unknowns : Vector → ℕ
unknowns [] = 0
unknowns (x ∷ more) = weight x + unknowns more

weight-falls : (x y : Bit) → bit_below x y ≡ true → weight y ≤ weight x
weight-falls Unknown Unknown h = omega arith
weight-falls Unknown Zero h = omega arith
weight-falls Unknown One h = omega arith
weight-falls Unknown Floating h = omega arith
weight-falls Zero Zero h = omega arith
weight-falls Zero One h = cc
weight-falls Zero Unknown h = cc
weight-falls Zero Floating h = cc
weight-falls One One h = omega arith
weight-falls One Zero h = cc
weight-falls One Unknown h = cc
weight-falls One Floating h = cc
weight-falls Floating Floating h = omega arith
weight-falls Floating Zero h = cc
weight-falls Floating One h = cc
weight-falls Floating Unknown h = cc

weight-same : (x y : Bit) → bit_below x y ≡ true → weight x ≡ weight y → x ≡ y
weight-same Unknown Unknown h e = refl
weight-same Unknown Zero h e = absurd (omega (arith, e))
weight-same Unknown One h e = absurd (omega (arith, e))
weight-same Unknown Floating h e = absurd (omega (arith, e))
weight-same Zero Zero h e = refl
weight-same Zero One h e = cc
weight-same Zero Unknown h e = cc
weight-same Zero Floating h e = cc
weight-same One One h e = refl
weight-same One Zero h e = cc
weight-same One Unknown h e = cc
weight-same One Floating h e = cc
weight-same Floating Floating h e = refl
weight-same Floating Zero h e = cc
weight-same Floating One h e = cc
weight-same Floating Unknown h e = cc

unknowns-fall : (a c : Vector) → Below a c → unknowns c ≤ unknowns a
unfolding unknowns all_pairs
unknowns-fall [] [] h = omega arith
unknowns-fall [] (y ∷ c) h = cc
unknowns-fall (x ∷ a) [] h = cc
unknowns-fall (x ∷ a) (y ∷ c) h =
    let p = weight-falls x y (left_of _ _ h) in let q : unknowns c ≤ unknowns a = unknowns-fall a c (right_of _ _ h) in omega (arith, p, q)

unknowns-same : (a c : Vector) → Below a c → unknowns a ≡ unknowns c → a ≡ c
unfolding unknowns all_pairs
unknowns-same [] [] h e = refl
unknowns-same [] (y ∷ c) h e = cc
unknowns-same (x ∷ a) [] h e = cc
unknowns-same (x ∷ a) (y ∷ c) h e =
    let p = weight-falls x y (left_of _ _ h) in let q : unknowns c ≤ unknowns a = unknowns-fall a c (right_of _ _ h) in
    let head : x ≡ y = weight-same x y (left_of _ _ h) (omega (arith, e, p, q)) in
    let tail : a ≡ c = unknowns-same a c (right_of _ _ h) (omega (arith, e, p, q)) in
    λ j. head j ∷ tail j

unknowns-all : (n : ℕ) → unknowns (all_x n) ≡ n
unfolding unknowns
unknowns-all zero = refl
unknowns-all (suc n) = let r = unknowns-all n in omega (arith, r)

-- of the members of a group
unfoldable pub unknown_in : List ℕ → (ℕ → Vector) → ℕ
unknown_in [] v = 0
unknown_in (i ∷ more) v = unknowns (v i) + unknown_in more v

pub each-weaker : (P Q : ℕ → Type 0) → ((i : ℕ) → P i → Q i) → (members : List ℕ) → EachMember P members → EachMember Q members
each-weaker P Q f [] h = tt
each-weaker P Q f (i ∷ more) h = (f i h.0, each-weaker P Q f more h.1)

pub each-both : (P Q R : ℕ → Type 0) → ((i : ℕ) → P i → Q i → R i) → (members : List ℕ) → EachMember P members → EachMember Q members → EachMember R members
each-both P Q R f [] h g = tt
each-both P Q R f (i ∷ more) h g = (f i h.0 g.0, each-both P Q R f more h.1 g.1)

group-falls : (members : List ℕ) (v w : ℕ → Vector) → EachMember (λ i. Below (v i) (w i)) members → unknown_in members w ≤ unknown_in members v
unfolding unknown_in
group-falls [] v w h = omega arith
group-falls (i ∷ more) v w h =
    let p = unknowns-fall (v i) (w i) h.0 in let q = group-falls more v w h.1 in omega (arith, p, q)

group-same : (members : List ℕ) (v w : ℕ → Vector) → EachMember (λ i. Below (v i) (w i)) members → unknown_in members v ≤ unknown_in members w → EachMember (λ i. v i ≡ w i) members
unfolding unknown_in
group-same [] v w h e = tt
group-same (i ∷ more) v w h e =
    let p = unknowns-fall (v i) (w i) h.0 in let q = group-falls more v w h.1 in
    (unknowns-same (v i) (w i) h.0 (omega (arith, e, p, q)), group-same more v w h.1 (omega (arith, e, p, q)))

pub member-or : (P : ℕ → Type 0) (i : ℕ) (list : List ℕ) → EachMember P list → EachMember (λ j. i ≡ j → ⊥) list ⊎ P i
member-or P i [] h = inl tt
member-or P i (j ∷ more) h = elim (cases_eq i j) [
  | inl e ↦ inr (subst P (sym e) h.0)
  | inr not ↦ elim (member-or P i more h.1) [
    | inl none ↦ inl (not, none)
    | inr p ↦ inr p
  ]
]

-- ---- a group comes to rest

-- so far each round raised a bit, or the group is calm
abbrev pub HasRisen : List Link → List Seg → Gives → List ℕ → (ℕ → Vector) → ℕ → ℕ → Type 0
HasRisen links segs gives members v rounds bits = IsCalm links segs gives members v ⊎ (unknown_in members v + rounds ≤ bits)

module _ (links : List Link) (segs : List Seg) (gives : Gives) (sys : IsSystem links segs gives) (members : List ℕ) (inside : AreMembers segs members) where
  ups : (v w : ℕ → Vector) → IsReached links segs gives v → IsGroupRound links segs gives members v w → EachMember (λ i. Below (v i) (w i)) members
  unfolding IsRound
  ups v w r h = each-weaker (λ i. i < length segs) (λ i. Below (v i) (w i)) (round-up links segs gives sys v w r h.either) members inside

  -- the values of a group that is calm stay
  same-calm : (v w : ℕ → Vector) → IsReached links segs gives v → IsGroupRound links segs gives members v w → IsCalm links segs gives members v → EachMember (λ i. w i ≡ v i) members
  same-calm v w r h calm = each-both (λ i. w i ≡ gives (store_of links segs v) i) (λ i. v i ≡ gives (store_of links segs v) i) (λ i. w i ≡ v i) (λ i a c. a ∙ sym c) members h.taken calm

  calm-stays : (v w : ℕ → Vector) → IsReached links segs gives v → IsGroupRound links segs gives members v w → IsCalm links segs gives members v → IsCalm links segs gives members w
  calm-stays v w r h calm =
      let same : (i : ℕ) → i < length segs → w i ≡ v i = λ i lt. elim (member-or (λ j. w j ≡ v j) i members (same-calm v w r h calm)) [
        | inl none ↦ h.only i lt none
        | inr e ↦ e
      ] in
      let stores = store-alike links segs w v same in
      each-both (λ i. w i ≡ v i) (λ i. v i ≡ gives (store_of links segs v) i) (λ i. w i ≡ gives (store_of links segs w) i)
      (λ i a c. a ∙ c ∙ ap (λ s. gives s i) (sym stores)) members (same-calm v w r h calm) calm

  pub risen-next : (v w : ℕ → Vector) (rounds bits : ℕ) → IsReached links segs gives v → IsGroupRound links segs gives members v w
      → HasRisen links segs gives members v rounds bits → HasRisen links segs gives members w (rounds + 1) bits
  risen-next v w rounds bits r h (inl calm) = inl (calm-stays v w r h calm)
  risen-next v w rounds bits r h (inr risen) = elim (cases_lt (unknown_in members w) (unknown_in members v)) [
    | inl less ↦ inr (omega (arith, less, risen))
    | inr not ↦
        let same = group-same members v w (ups v w r h) not in
        let calm : IsCalm links segs gives members v =
        each-both (λ i. v i ≡ w i) (λ i. w i ≡ gives (store_of links segs v) i) (λ i. v i ≡ gives (store_of links segs v) i) (λ i a c. a ∙ c) members same h.taken in
        inl (calm-stays v w r h calm)
  ]

  -- after as many rounds as the group has bits it is calm
  pub risen-end : (v : ℕ → Vector) (rounds bits : ℕ) → bits ≤ rounds → IsReached links segs gives v → HasRisen links segs gives members v rounds bits → IsCalm links segs gives members v
  risen-end v rounds bits all r (inl calm) = calm
  risen-end v rounds bits all r (inr risen) =
      group-same members v (gives (store_of links segs v))
      (each-weaker (λ i. i < length segs) (λ i. Below (v i) (gives (store_of links segs v) i)) (λ i lt. r.grows i lt) members inside)
      (omega (arith, risen, all))

unknowns-most : (a : Vector) → unknowns a ≤ length a
unfolding unknowns
unknowns-most [] = omega arith
unknowns-most (x ∷ a) = let r = unknowns-most a in let w = weight-most x in omega (arith, r, w)
  where
    weight-most : (y : Bit) → weight y ≤ 1
    weight-most Unknown = omega arith
    weight-most Zero = omega arith
    weight-most One = omega arith
    weight-most Floating = omega arith

most-unknown : (segs : List Seg) (members : List ℕ) (v : ℕ → Vector) → AreMembers segs members → ((i : ℕ) → i < length segs → length (v i) ≡ (seg_at segs i).width) → unknown_in members v ≤ bits_in segs members
unfolding unknown_in bits_in
most-unknown segs [] v h wide = omega arith
most-unknown segs (i ∷ more) v h wide =
    let r = most-unknown segs more v h.1 wide in let w = unknowns-most (v i) in omega (arith, r, w, wide i h.0)

pub risen-start : (links : List Link) (segs : List Seg) (gives : Gives) (members : List ℕ) (v : ℕ → Vector) → AreMembers segs members → IsReached links segs gives v → HasRisen links segs gives members v 0 (bits_in segs members)
risen-start links segs gives members v h r = inr (let m = most-unknown segs members v h r.wide in omega (arith, m))

-- ---- groups that are done

-- a segment of a group that is done keeps what its equation gives
pub done-stays : (links : List Link) (segs : List Seg) (gives : Gives) (P : ℕ → Type 0) (v w : ℕ → Vector) → ((j : ℕ) → j < length segs → P j → w j ≡ v j)
    → (i : ℕ) → i < length segs → P i → DependsOn links segs gives P i → v i ≡ gives (store_of links segs v) i → w i ≡ gives (store_of links segs w) i
done-stays links segs gives P v w same i lt p d e = same i lt p ∙ e ∙ sym (d.alike w v same)

-- ---- the same equations, told otherwise

pub reached-as : (links : List Link) (segs : List Seg) (gives other : Gives) → ((s : Store) (i : ℕ) → i < length segs → other s i ≡ gives s i) → (v : ℕ → Vector) → IsReached links segs gives v → IsReached links segs other v
reached-as links segs gives other same v r = record {
  wide = r.wide;
  grows = λ i lt. subst (Below (v i)) (sym (same (store_of links segs v) i lt)) (r.grows i lt);
  below = λ t e. r.below t (record { even = e.even; hold = λ i lt. e.hold i lt ∙ same t i lt });
}

pub reached-at : (links : List Link) (segs : List Seg) (gives : Gives) (v w : ℕ → Vector) → ((i : ℕ) → i < length segs → w i ≡ v i) → IsReached links segs gives v → IsReached links segs gives w
reached-at links segs gives v w same r =
    let stores = store-alike links segs w v same in
    record {
      wide = λ i lt. ap length (same i lt) ∙ r.wide i lt;
      grows = λ i lt. subst (λ x. Below x (gives (store_of links segs w) i)) (sym (same i lt)) (subst (λ s. Below (v i) (gives s i)) (sym stores) (r.grows i lt));
      below = λ t e. subst (λ s. Under s t) (sym stores) (r.below t e);
    }

-- bits that are below each other are equal
pub antisym : (x y : Bit) → bit_below x y ≡ true → bit_below y x ≡ true → x ≡ y
antisym x y h k = weight-same x y h (let p = weight-falls x y h in let q = weight-falls y x k in omega (arith, p, q))
