-- The number that digits say, one digit after the other.
use Rattle.std.proofs.Common.{◌≡◌, ℕ, ◌+◌, ◌-◌, ◌*◌, ◌<◌, min, [], ◌∷◌, ◌++◌, length, get_or, take, refl, ap, ◌∙◌, arith}
use Rattle.std.proofs.lemmas.List.{take_more}
use Rattle.flat_text.specs.Lines.{Text}
use Rattle.flat_words.specs.Readers.{value_after, value}

pub value_none : value [] ≡ 0
unfolding value_after
value_none = refl

value_push : (n : ℕ) (ds : Text) (d : ℕ) → value_after n (ds ++ d ∷ []) ≡ value_after n ds * 10 + (d - 48)
unfolding value_after
value_push n [] d = refl
value_push n (c ∷ ds) d = value_push (n * 10 + (c - 48)) ds d

pub value_more : (ds : Text) (i : ℕ) → i < length ds → value (take (i + 1) ds) ≡ value (take i ds) * 10 + (get_or ds i 0 - 48)
value_more ds i h = ap value (take_more ds i 0 h) ∙ value_push 0 (take i ds) (get_or ds i 0)

-- a number that is held at 64 bits
pub capped_step : (n d : ℕ) → min (min (min n 18446744073709551615 * 10) 18446744073709551615 + d) 18446744073709551615 ≡ min (n * 10 + d) 18446744073709551615
capped_step n d = omega arith
