-- The digits of a vector, from the most significant on.
use Rattle.std.proofs.Common.{◌≡◌, ℕ, ◌+◌, List, [], ◌∷◌, ◌++◌, map, reverse, drop, Some, sym, ap, ◌∙◌, append_assoc}
use Rattle.std.specs.List.{slice_get}
use Rattle.std.proofs.lemmas.List.{at_drop_more, map-append}
use Rattle.std.proofs.lemmas.Grind.{reverse_onto}
use Rattle.std.proofs.lemmas.Option.{slice_get_within, get_or_from_slice_get}
use Rattle.fourvec.specs.declared.Bit.{Bit}
use Rattle.vcd_text.specs.Words.{Text}
use Rattle.vcd_print.specs.Printed.{digit}

digits_more : (b : Bit) (rest : List Bit) → map digit (reverse (b ∷ rest)) ≡ map digit (reverse rest) ++ (digit b ∷ [])
digits_more b rest = ap (map digit) (reverse_onto rest b []) ∙ map-append digit (reverse rest) (b ∷ [])

drop_at : (v : List Bit) (low : ℕ) (b : Bit) → slice_get v low ≡ Some b → drop low v ≡ b ∷ drop (low + 1) v
drop_at v low b got =
    at_drop_more (λ (l : List Bit). l) v low b (slice_get_within v low b got) ∙ ap (λ (x : Bit). x ∷ drop (low + 1) v) (get_or_from_slice_get v low b b got)

digits_at : (v : List Bit) (low at : ℕ) (b : Bit) → at ≡ low + 1 → slice_get v low ≡ Some b → map digit (reverse (drop low v)) ≡ map digit (reverse (drop at v)) ++ (digit b ∷ [])
digits_at v low at b next got =
    ap (λ (l : List Bit). map digit (reverse l)) (drop_at v low b got) ∙ digits_more b (drop (low + 1) v) ∙ ap (λ (n : ℕ). map digit (reverse (drop n v)) ++ (digit b ∷ [])) (sym next)

-- a text with one digit more
pub bit_pushed : (front text pushed : Text) (v : List Bit) (low at : ℕ) (b : Bit) (d : ℕ) → at ≡ low + 1 → slice_get v low ≡ Some b → d ≡ digit b
    → text ≡ front ++ map digit (reverse (drop at v)) → pushed ≡ text ++ (d ∷ []) → pushed ≡ front ++ map digit (reverse (drop low v))
bit_pushed front text pushed v low at b d next got is before after =
    after ∙ ap (λ (t : Text). t ++ (d ∷ [])) before ∙ append_assoc front (map digit (reverse (drop at v))) (d ∷ [])
    ∙ ap (λ (x : ℕ). front ++ (map digit (reverse (drop at v)) ++ (x ∷ []))) is
    ∙ ap (λ (t : Text). front ++ t) (sym (digits_at v low at b next got))
