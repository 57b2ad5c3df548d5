-- Orders of dependence: what two of them have in common.
use Rattle.std.proofs.Common.{◌≡◌, ℕ, ◌<◌, ◌≤◌, List, length, sym, subst, inl, inr, arith}
use Rattle.std.specs.Prelude.{Contains}
use Rattle.net_equations.specs.Groups.{Reaches, AreInOrder, members_of}
use Rattle.net_equations.specs.Groups.Reaches.{one, more}

-- ---- relations that agree

module _ (On Other : ℕ → ℕ → Type 0) (count : ℕ) (there : (i j : ℕ) → i < count → On i j → (j < count) × Other i j) (back : (i j : ℕ) → i < count → Other i j → On i j) where
  chain-alike : (i j : ℕ) → i < count → Reaches On i j → Reaches Other i j
  chain-alike i j lt (one _ _ x) = one i j (there i j lt x).1
  chain-alike i k lt (more _ j _ x r) = let next = there i j lt x in more i j k next.1 (chain-alike j k next.0 r)

  pub order-alike : (groups : List (List ℕ)) → AreInOrder On count groups → AreInOrder Other count groups
  order-alike groups o = record {
    there = o.there;
    covers = o.covers;
    once = o.once;
    distinct = o.distinct;
    loops = λ g i j gl c d. elim (o.loops g i j gl c d) [ inl same ↦ inl same | inr r ↦ inr (chain-alike i j (o.there g i gl c) r) ];
    earlier = λ g h i j gl hl c d x. o.earlier g h i j gl hl c d (back i j (o.there g i gl c) x);
  }

-- ---- two orders of one relation

module _ (On : ℕ → ℕ → Type 0) (count : ℕ) (there : (i j : ℕ) → On i j → j < count) (a b : List (List ℕ)) (x : AreInOrder On count a) (y : AreInOrder On count b) where
  not-later : (i j : ℕ) → Reaches On i j → (g h : ℕ) → g < length a → h < length a → Contains (members_of a g) i → Contains (members_of a h) j → h ≤ g
  not-later i j (one _ _ d) g h gl hl ic jc = x.earlier g h i j gl hl ic jc d
  not-later i k (more _ j _ d r) g h gl hl ic kc =
      let mid = x.covers j (there i j d) in
      let first = x.earlier g mid.0 i j gl mid.1.0 ic mid.1.1 d in
      let rest = not-later j k r mid.0 h mid.1.0 hl mid.1.1 kc in
      omega (arith, first, rest)

  -- members of one group of the second are in one group of the first
  pub together : (g i j : ℕ) → g < length b → Contains (members_of b g) i → Contains (members_of b g) j → (h : ℕ) → h < length a → Contains (members_of a h) i → Contains (members_of a h) j
  together g i j gl ic jc h hl own = elim (y.loops g i j gl ic jc) [
    | inl same ↦ subst (Contains (members_of a h)) same own
    | inr r ↦ elim (y.loops g j i gl jc ic) [
      | inl same ↦ subst (Contains (members_of a h)) (sym same) own
      | inr s ↦
          let place = x.covers j (y.there g j gl jc) in
          let down = not-later i j r h place.0 hl place.1.0 own place.1.1 in
          let up = not-later j i s place.0 h place.1.0 hl place.1.1 own in
          let is : place.0 ≡ h = omega (arith, down, up) in
          subst (λ k. Contains (members_of a k) j) is place.1.1
    ]
  ]
