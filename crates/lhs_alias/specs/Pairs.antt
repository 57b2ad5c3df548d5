-- Pairs of bits that are joined, each a child with its parent, and the classes that they make.
use Rattle.std.specs.Prelude.{◌≡◌, ◌≢◌, ◌<◌, ◌≤◌, List, length, map, All, AllPairs, Contains}
use Rattle.std.specs.List.{zip}
use Rattle.lhs_alias.specs.declared.segs.WireBit.{WireBit}

-- linked by a chain of pairs, in either direction: the bits that port connections make one
-- (IEEE 1800-2017, 23.3.3)
pub data Linked (pairs : List (WireBit × WireBit)) : WireBit → WireBit → Type 0 where
  itself : {b : WireBit} → Linked pairs b b
  up : {b c d : WireBit} → Contains pairs (b, c) → Linked pairs c d → Linked pairs b d
  down : {b c d : WireBit} → Contains pairs (c, b) → Linked pairs c d → Linked pairs b d

-- of the bits that b is linked to, this one has the least wire
pub record IsFirst (pairs : List (WireBit × WireBit)) (b first : WireBit) : Type 0 where
  pub linked : Linked pairs b first
  pub least : (c : WireBit) → Linked pairs b c → first.wire ≤ c.wire

-- the child of a pair
abbrev pub IsChild : List (WireBit × WireBit) → WireBit → Type 0
IsChild pairs b = (parent : WireBit) × Contains pairs (b, parent)

-- from a higher wire to a lower one
abbrev pub Falls : WireBit × WireBit → Type 0
Falls pair = pair.1.wire < pair.0.wire

-- as many bits, each from a higher wire than the other at its place
pub record FallTo (children parents : List WireBit) : Type 0 where
  pub as_many : length children ≡ length parents
  pub falls : All Falls (zip children parents)

abbrev pub AreDistinct : List WireBit → Type 0
AreDistinct bits = AllPairs ◌≢◌ bits

-- no bit is the child of two pairs
abbrev pub HaveOwnChildren : List (WireBit × WireBit) → Type 0
HaveOwnChildren pairs = AreDistinct (map (λ pair. pair.0) pairs)

-- ---- laws

abbrev pub LinkedIsReflexive : Type 0
LinkedIsReflexive = (pairs : List (WireBit × WireBit)) (b : WireBit) → Linked pairs b b

abbrev pub LinkedIsSymmetric : Type 0
LinkedIsSymmetric = (pairs : List (WireBit × WireBit)) (b c : WireBit) → Linked pairs b c → Linked pairs c b

abbrev pub LinkedIsTransitive : Type 0
LinkedIsTransitive = (pairs : List (WireBit × WireBit)) (b c d : WireBit) → Linked pairs b c → Linked pairs c d → Linked pairs b d

-- a bit has at most one first bit
abbrev pub FirstIsUnique : Type 0
FirstIsUnique = (pairs : List (WireBit × WireBit)) → All Falls pairs → HaveOwnChildren pairs →
    (b first other : WireBit) → IsFirst pairs b first → IsFirst pairs b other → first ≡ other
