-- Bits of digits, one after the other.
use Rattle.std.proofs.Common.{◌≡◌, ℕ, ◌+◌, ◌<◌, ◌≤◌, List, ◌∷◌, length, get_or, drop, None, Some, ap, ◌∙◌}
use Rattle.std.proofs.lemmas.List.{at_drop_more, at_drop_all}
use Rattle.fourvec.specs.declared.Bit.{Bit}
use Rattle.flat_text.specs.Lines.{Text}
use Rattle.flat_words.specs.Readers.{bit_of, bits_onto, chain}

pub bits_more : (low : List Bit) (ds : Text) (i : ℕ) (b : Bit) → i < length ds → bit_of (get_or ds i 0) ≡ Some b → bits_onto low (drop i ds) ≡ bits_onto (b ∷ low) (drop (i + 1) ds)
unfolding bits_onto
bits_more low ds i b h e = at_drop_more (bits_onto low) ds i 0 h ∙ ap (λ o. chain o (λ x. bits_onto (x ∷ low) (drop (i + 1) ds))) e

pub bits_stop : (low : List Bit) (ds : Text) (i : ℕ) → i < length ds → bit_of (get_or ds i 0) ≡ None → bits_onto low (drop i ds) ≡ None
unfolding bits_onto
bits_stop low ds i h e = at_drop_more (bits_onto low) ds i 0 h ∙ ap (λ o. chain o (λ x. bits_onto (x ∷ low) (drop (i + 1) ds))) e

pub bits_end : (low : List Bit) (ds : Text) (i : ℕ) → length ds ≤ i → bits_onto low (drop i ds) ≡ Some low
unfolding bits_onto
bits_end low ds i h = at_drop_all (bits_onto low) ds i h
