-- Small settlings, worked out by hand.
use Rattle.std.proofs.Common.{◌≡◌, [], ◌∷◌, refl}
use Rattle.fourvec.specs.declared.Bit.TheVariants.{Zero, One, Unknown, Floating}
use Rattle.fourvec.specs.Bits.{over}
use Rattle.lhs_alias.specs.Segs.{bit}
use Rattle.settling.specs.Settling.{Resolves, first_bit, given_to}

-- 1 and 0 fight, Z gives way, and two drivers of one value agree
fought : Resolves Unknown (One ∷ Zero ∷ [])
unfolding over
fought = refl

given_way : Resolves Zero (Floating ∷ Zero ∷ [])
unfolding over
given_way = refl

agreed : Resolves One (One ∷ One ∷ Floating ∷ [])
unfolding over
agreed = refl

-- a port bit of wire 3 joined to wire 2, and that to wire 0: all are one class, with its first bit on wire 0
chain : first_bit ((bit 3 1, bit 2 4) ∷ (bit 2 4, bit 0 7) ∷ []) (bit 3 1) ≡ bit 0 7
unfolding first_bit
chain = refl

-- what is given to any bit of the class counts
together : given_to ((bit 3 1, bit 2 4) ∷ []) (bit 2 4) ((bit 3 1, One) ∷ (bit 5 0, Zero) ∷ (bit 2 4, Floating) ∷ []) ≡ One ∷ Floating ∷ []
unfolding first_bit
together = refl
