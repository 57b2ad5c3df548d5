-- Wires of a design that feed each other round about (this project's limit on loops: 1,024 bits).
use Rattle.std.specs.Prelude.{◌≡◌, ◌<◌, ℕ, List, length, All, Contains}
use Rattle.lhs_alias.specs.declared.segs.WireBit.{WireBit}
use Rattle.lhs_alias.specs.Pairs.{AreDistinct}
use Rattle.settling.specs.Settling.{first_bit}
use Rattle.sv_meaning.specs.Designs.{Design, Reaches, links_of, width_at}

-- Bits of wires that all feed each other by chains. Each is the first of the bits that are joined to it, and none stands twice.
pub record IsLoop (d : Design) (bits : List WireBit) : Type 0 where
  pub inside : All (λ b. b.at < width_at d b.wire) bits
  pub first : All (λ b. first_bit (links_of d.works) b ≡ b) bits
  pub distinct : AreDistinct bits
  pub round : (a b : WireBit) → Contains bits a → Contains bits b → Reaches d a.wire b.wire

-- so many of them, over 1,024
pub record HasWideLoop (d : Design) (count : ℕ) : Type 0 where
  pub bits : List WireBit
  pub loop : IsLoop d bits
  pub as_many : length bits ≡ count
  pub wide : 1024 < count
