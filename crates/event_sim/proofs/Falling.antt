-- The number of bits that are X falls where bits are raised.
use Rattle.std.proofs.Common.{◌≡◌, ◌≢◌, ℕ, suc, ◌+◌, ◌<◌, ◌≤◌, true, List, [], ◌∷◌, length, get_or, refl, sym, ap, ◌∙◌, inl, inr, arith}
use Rattle.std.proofs.lemmas.Bool.{cases_lt}
use Rattle.fourvec.specs.declared.Bit.{Bit}
use Rattle.fourvec.specs.declared.Bit.TheVariants.{Zero, One, Unknown, Floating}
use Rattle.fourvec.specs.Bits.{bit_below}
use Rattle.svex_shape.specs.Values.{Vector}
use Rattle.event_nets.specs.Tables.{store_of}

abbrev pub weight : Bit → ℕ
weight Unknown = 1
weight x = 0

unfoldable pub row_unknowns : Vector → ℕ
row_unknowns [] = 0
row_unknowns (x ∷ row) = weight x + row_unknowns row

-- how many bits are X
unfoldable pub unknowns : List Vector → ℕ
unknowns [] = 0
unknowns (row ∷ rows) = row_unknowns row + unknowns rows

pub weight-falls : (x y : Bit) → bit_below x y ≡ true → weight y ≤ weight x
weight-falls Unknown Unknown h = omega arith
weight-falls Unknown Zero h = omega arith
weight-falls Unknown One h = omega arith
weight-falls Unknown Floating h = omega arith
weight-falls Zero Zero h = omega arith
weight-falls Zero One h = cc
weight-falls Zero Unknown h = cc
weight-falls Zero Floating h = cc
weight-falls One One h = omega arith
weight-falls One Zero h = cc
weight-falls One Unknown h = cc
weight-falls One Floating h = cc
weight-falls Floating Floating h = omega arith
weight-falls Floating Zero h = cc
weight-falls Floating One h = cc
weight-falls Floating Unknown h = cc

pub weight-same : (x y : Bit) → bit_below x y ≡ true → weight x ≡ weight y → x ≡ y
weight-same Unknown Unknown h e = refl
weight-same Unknown Zero h e = absurd (omega (arith, e))
weight-same Unknown One h e = absurd (omega (arith, e))
weight-same Unknown Floating h e = absurd (omega (arith, e))
weight-same Zero Zero h e = refl
weight-same Zero One h e = cc
weight-same Zero Unknown h e = cc
weight-same Zero Floating h e = cc
weight-same One One h e = refl
weight-same One Zero h e = cc
weight-same One Unknown h e = cc
weight-same One Floating h e = cc
weight-same Floating Floating h e = refl
weight-same Floating Zero h e = cc
weight-same Floating One h e = cc
weight-same Floating Unknown h e = cc

-- ---- rows of one width

-- each bit is X or the other's
abbrev RowUnder : Vector → Vector → Type 0
RowUnder [] [] = Unit {0}
RowUnder [] (y ∷ b) = ⊥
RowUnder (x ∷ a) [] = ⊥
RowUnder (x ∷ a) (y ∷ b) = (bit_below x y ≡ true) × RowUnder a b

row-under : (a b : Vector) → length a ≡ length b → ((k : ℕ) → bit_below (get_or a k Unknown) (get_or b k Unknown) ≡ true) → RowUnder a b
row-under [] [] e h = tt
row-under [] (y ∷ b) e h = absurd (omega (arith, e))
row-under (x ∷ a) [] e h = absurd (omega (arith, e))
row-under (x ∷ a) (y ∷ b) e h = (h 0, row-under a b (omega (arith, e)) (λ k. h (suc k)))

row-falls : (a b : Vector) → RowUnder a b → row_unknowns b ≤ row_unknowns a
unfolding row_unknowns
row-falls [] [] h = omega arith
row-falls [] (y ∷ b) h = absurd h
row-falls (x ∷ a) [] h = absurd h
row-falls (x ∷ a) (y ∷ b) h = let p = weight-falls x y h.0 in let q = row-falls a b h.1 in omega (arith, p, q)

row-same : (a b : Vector) → RowUnder a b → row_unknowns a ≡ row_unknowns b → a ≡ b
unfolding row_unknowns
row-same [] [] h e = refl
row-same [] (y ∷ b) h e = absurd h
row-same (x ∷ a) [] h e = absurd h
row-same (x ∷ a) (y ∷ b) h e =
    let p = weight-falls x y h.0 in
    let q = row-falls a b h.1 in
    ap (λ z. z ∷ a) (weight-same x y h.0 (omega (arith, e, p, q))) ∙ ap (λ l. y ∷ l) (row-same a b h.1 (omega (arith, e, p, q)))

-- ---- all rows

abbrev RowsUnder : List Vector → List Vector → Type 0
RowsUnder [] [] = Unit {0}
RowsUnder [] (y ∷ b) = ⊥
RowsUnder (x ∷ a) [] = ⊥
RowsUnder (x ∷ a) (y ∷ b) = RowUnder x y × RowsUnder a b

rows-under : (a b : List Vector) → length a ≡ length b → ((n : ℕ) → length (get_or a n []) ≡ length (get_or b n []))
    → ((n k : ℕ) → bit_below (store_of a n k) (store_of b n k) ≡ true) → RowsUnder a b
rows-under [] [] e w h = tt
rows-under [] (y ∷ b) e w h = absurd (omega (arith, e))
rows-under (x ∷ a) [] e w h = absurd (omega (arith, e))
rows-under (x ∷ a) (y ∷ b) e w h = (row-under x y (w 0) (λ k. h 0 k), rows-under a b (omega (arith, e)) (λ n. w (suc n)) (λ n k. h (suc n) k))

rows-fall : (a b : List Vector) → RowsUnder a b → unknowns b ≤ unknowns a
unfolding unknowns
rows-fall [] [] h = omega arith
rows-fall [] (y ∷ b) h = absurd h
rows-fall (x ∷ a) [] h = absurd h
rows-fall (x ∷ a) (y ∷ b) h = let p = row-falls x y h.0 in let q = rows-fall a b h.1 in omega (arith, p, q)

rows-same : (a b : List Vector) → RowsUnder a b → unknowns a ≡ unknowns b → a ≡ b
unfolding unknowns
rows-same [] [] h e = refl
rows-same [] (y ∷ b) h e = absurd h
rows-same (x ∷ a) [] h e = absurd h
rows-same (x ∷ a) (y ∷ b) h e =
    let p = row-falls x y h.0 in
    let q = rows-fall a b h.1 in
    ap (λ z. z ∷ a) (row-same x y h.0 (omega (arith, e, p, q))) ∙ ap (λ l. y ∷ l) (rows-same a b h.1 (omega (arith, e, p, q)))

pub unknowns-fall : (old new : List Vector) → length old ≡ length new → ((n : ℕ) → length (get_or old n []) ≡ length (get_or new n []))
    → ((n k : ℕ) → bit_below (store_of old n k) (store_of new n k) ≡ true) → new ≢ old → unknowns new < unknowns old
unknowns-fall old new e w h differ =
    let under = rows-under old new e w h in
    let p = rows-fall old new under in
    elim (cases_lt (unknowns new) (unknowns old)) [
      | inl lt ↦ lt
      | inr le ↦ absurd (differ (sym (rows-same old new under (omega (arith, le, p)))))
    ]
