-- Rounds: each gives some segments what their equations give in the valuation so far.
use Rattle.std.specs.Prelude.{◌≡◌, ◌⊎◌, ◌-◌, ◌<◌, ℕ, suc, List, [], ◌∷◌, length, map, IsTrue, slice_index_or, if◌then◌else◌}
use Rattle.fourvec.specs.declared.Bit.{Bit}
use Rattle.fourvec.specs.declared.Bit.TheVariants.{Unknown}
use Rattle.fourvec.specs.Laws.{Below}
use Rattle.lhs_alias.specs.declared.segs.Seg.{Seg}
use Rattle.lhs_alias.specs.declared.segs.WireBit.{WireBit}
use Rattle.lhs_alias.specs.Segs.{bit, seg_bits}
use Rattle.settling.specs.Settling.{Store, Link, Even, first_bit, value_at as value_in}
use Rattle.settling.specs.Least.{Under}
use Rattle.svex_shape.specs.Values.{Vector}
use Rattle.net_equations.specs.Equations.{has_bit, seg_at}

-- the bit at its place in the first segment that has it, where segments have values; X where none has it
unfoldable pub found : List Seg → (ℕ → Vector) → WireBit → Bit
found [] v b = Unknown
found (s ∷ more) v b = if has_bit s b then slice_index_or (v 0) (b.at - s.lo) Unknown else found more (λ i. v (suc i)) b

-- the valuation in which segments have values, and joined bits are equal
unfoldable pub store_of : List Link → List Seg → (ℕ → Vector) → Store
store_of links segs v n k = found segs v (first_bit links (bit n k))

-- what each segment's equation gives in a valuation
abbrev pub Gives : Type 0
Gives = Store → ℕ → Vector

-- joined bits are equal, and each segment has what its equation gives
pub record Solves (links : List Link) (segs : List Seg) (gives : Gives) (t : Store) : Type 0 where
  pub even : Even links t
  pub hold : (i : ℕ) → i < length segs → map (value_in t) (seg_bits (seg_at segs i)) ≡ gives t i

-- Segments have first bits, none of which stands in two; what equations give is as wide, and rises with the valuation.
pub record IsSystem (links : List Link) (segs : List Seg) (gives : Gives) : Type 0 where
  pub firsts : (i : ℕ) (b : WireBit) → i < length segs → IsTrue (has_bit (seg_at segs i) b) → first_bit links b ≡ b
  pub apart : (i j : ℕ) (b : WireBit) → i < length segs → j < length segs → IsTrue (has_bit (seg_at segs i) b) → IsTrue (has_bit (seg_at segs j) b) → i ≡ j
  pub wide : (s : Store) (i : ℕ) → i < length segs → length (gives s i) ≡ (seg_at segs i).width
  pub rises : (s t : Store) → Under s t → (i : ℕ) → i < length segs → Below (gives s i) (gives t i)

-- Values that rounds have reached: below what the equations give in them, and below every solution.
pub record IsReached (links : List Link) (segs : List Seg) (gives : Gives) (v : ℕ → Vector) : Type 0 where
  pub wide : (i : ℕ) → i < length segs → length (v i) ≡ (seg_at segs i).width
  pub grows : (i : ℕ) → i < length segs → Below (v i) (gives (store_of links segs v) i)
  pub below : (t : Store) → Solves links segs gives t → Under (store_of links segs v) t

-- ---- groups

abbrev pub EachMember : (ℕ → Type 0) → List ℕ → Type 0
EachMember P [] = Unit {0}
EachMember P (i ∷ more) = P i × EachMember P more

abbrev pub AreMembers : List Seg → List ℕ → Type 0
AreMembers segs members = EachMember (λ i. i < length segs) members

-- each member has what its equation gives
abbrev pub IsCalm : List Link → List Seg → Gives → List ℕ → (ℕ → Vector) → Type 0
IsCalm links segs gives members v = EachMember (λ i. v i ≡ gives (store_of links segs v) i) members

-- the members take what their equations give, and all others stay
pub record IsGroupRound (links : List Link) (segs : List Seg) (gives : Gives) (members : List ℕ) (v w : ℕ → Vector) : Type 0 where
  pub taken : EachMember (λ i. w i ≡ gives (store_of links segs v) i) members
  pub either : (i : ℕ) → i < length segs → (w i ≡ v i) ⊎ (w i ≡ gives (store_of links segs v) i)
  pub only : (i : ℕ) → i < length segs → (EachMember (λ j. i ≡ j → ⊥) members → w i ≡ v i)

-- what the equation gives depends only on the values of segments that pass a test
pub record DependsOn (links : List Link) (segs : List Seg) (gives : Gives) (P : ℕ → Type 0) (i : ℕ) : Type 0 where
  pub alike : (v w : ℕ → Vector) → ((j : ℕ) → j < length segs → P j → v j ≡ w j) → gives (store_of links segs v) i ≡ gives (store_of links segs w) i
