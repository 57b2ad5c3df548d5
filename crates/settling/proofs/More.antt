-- Lists of contributions to the same bits, with more of each.
use Rattle.std.proofs.Common.{List, [], ◌∷◌, ◌++◌, map, refl}
use Rattle.lhs_alias.specs.declared.segs.WireBit.{WireBit}
use Rattle.settling.specs.Settling.{Store, value_at, Contribution}
use Rattle.settling.specs.Least.{Under, More}

pub more-append : (a b c d : List Contribution) → More a c → More b d → More (a ++ b) (c ++ d)
more-append [] b [] d h g = g
more-append [] b (y ∷ c) d h g = absurd h
more-append (x ∷ a) b [] d h g = absurd h
more-append (x ∷ a) b (y ∷ c) d h g = (h.0, h.1, more-append a b c d h.2 g)

pub more-store : (bits : List WireBit) (s t : Store) → Under s t → More (map (λ b. (b, value_at s b)) bits) (map (λ b. (b, value_at t b)) bits)
more-store [] s t u = tt
more-store (b ∷ more) s t u = (refl, u b.wire b.at, more-store more s t u)
