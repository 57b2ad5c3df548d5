-- Bits that fall to others, pair by pair.
use Rattle.std.proofs.Common.{◌≡◌, ◌<◌, List, ◌∷◌, sym, subst, arith}
use Rattle.std.specs.List.{zip}
use Rattle.std.proofs.lemmas.List.Elements.{All-head, All-tail, All-cons}
use Rattle.lhs_alias.specs.declared.segs.WireBit.{WireBit}
use Rattle.lhs_alias.specs.Pairs.{Falls, FallTo}

-- the first pair and the others
pub fall-first : (c p : WireBit) (cs ps children parents : List WireBit) → children ≡ c ∷ cs → parents ≡ p ∷ ps → FallTo children parents → (p.wire < c.wire) × FallTo cs ps
fall-first c p cs ps children parents is is' fall =
    let P : List WireBit → List WireBit → Type 0 = FallTo in
    let both : FallTo (c ∷ cs) (p ∷ ps) = subst (λ x. P x (p ∷ ps)) is (subst (λ y. P children y) is' fall) in
    (All-head Falls (c, p) (zip cs ps) both.falls, record { as_many = omega (arith, both.as_many); falls = All-tail Falls (c, p) (zip cs ps) both.falls })

pub fall-more : (c p : WireBit) (cs ps children parents : List WireBit) → children ≡ c ∷ cs → parents ≡ p ∷ ps → p.wire < c.wire → FallTo cs ps → FallTo children parents
fall-more c p cs ps children parents is is' lower fall =
    let P : List WireBit → List WireBit → Type 0 = FallTo in
    let both : FallTo (c ∷ cs) (p ∷ ps) = record { as_many = omega (arith, fall.as_many); falls = All-cons Falls (c, p) (zip cs ps) lower fall.falls } in
    subst (λ x. P x parents) (sym is) (subst (λ y. P (c ∷ cs) y) (sym is') both)
