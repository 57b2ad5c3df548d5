-- The reserved words by their first byte.
use Rattle.std.proofs.Common.{◌≡◌, ℕ, ◌+◌, ◌<◌, List, [], ◌∷◌, true, false, length, get_or, map, refl, sym, ap, ◌∙◌, arith, slice_index_or, Bor, ◌||◌, ◌++◌, ◌==◌}
use Rattle.std.specs.List.{list_any, list_all, filter, range_with_len, slice_split}
use Rattle.std.specs.Str.{bytes_eq}
use Rattle.std.proofs.lemmas.Bool.Decides.{nat_tests}
use Rattle.std.proofs.lemmas.List.{get_or-map, length-map}
use Rattle.std.proofs.lemmas.List.FromFn.{get_or-map-range_with_len, length-map-range_with_len}
use Rattle.std.proofs.lemmas.Map.Views.{any-filter_same}
use Rattle.sv_outside.specs.Words.{is_within, headed, begins_with, grammar_words, out_of_scope_words, reserved_words, words_from, is_reserved}

-- the parts of a text between blanks
abbrev pub parts : List ℕ → List (List ℕ)
parts = slice_split (λ b. b == 32)

-- the words that begin with that byte, and the empty part behind the last blank
abbrev pub row_from : ℕ → List (List ℕ)
row_from first = words_from first ++ [] ∷ []

-- the row of a table of all the words by their first letter
pub row : (table : List (Bor (List ℕ))) (k first : ℕ) (d : Bor (List ℕ)) → map (λ r. parts r.now) table ≡ map row_from (range_with_len 97 26) → k < 26 → 97 + k ≡ first → parts (slice_index_or table k d).now ≡ row_from first
row table k first d e h f =
    let long : length table ≡ 26 = sym (length-map table (λ r. parts r.now)) ∙ ap length e ∙ length-map-range_with_len row_from 97 26 in
    sym (get_or-map (λ r. parts r.now) table k d [] (omega arith))
    ∙ ap (λ rows. get_or rows k []) e
    ∙ get_or-map-range_with_len row_from 97 26 k first [] h f

pub none_begins : (first : ℕ) (ws : List (List ℕ)) → is_within 97 122 first ≡ false → list_all (headed (is_within 97 122) (λ _. true)) ws ≡ true → filter (begins_with first) ws ≡ []
none_begins first [] h e = refl
none_begins first ([] ∷ ws) h e = cc
none_begins first ((b ∷ bs) ∷ ws) h e = grind (arith, nat_tests, none_begins first ws h)

-- no reserved word begins with another byte
pub no_row : (first : ℕ) → is_within 97 122 first ≡ false → words_from first ≡ []
unfolding words_from reserved_words grammar_words out_of_scope_words
no_row first h = none_begins first reserved_words h refl

pub begins_alike : (text : List ℕ) (first : ℕ) (w : List ℕ) → 0 < length text → get_or text 0 0 ≡ first → bytes_eq text w ≡ true → begins_with first w ≡ true
begins_alike [] first w h f e = absurd (omega arith)
begins_alike (b ∷ bs) first [] h f e = cc
begins_alike (b ∷ bs) first (c ∷ cs) h f e = grind (arith, nat_tests)

-- the empty part at the end is no text that has a byte
pub any_row : (text : List ℕ) (ws : List (List ℕ)) → 0 < length text → list_any (bytes_eq text) (ws ++ [] ∷ []) ≡ list_any (bytes_eq text) ws
any_row [] [] h = absurd (omega arith)
any_row (b ∷ bs) [] h = refl
any_row text (w ∷ ws) h = ap (λ found. bytes_eq text w || found) (any_row text ws h)

-- a text is reserved where it is among the words of its first byte
pub among_row : (text row : List ℕ) → 0 < length text → parts row ≡ row_from (get_or text 0 0) → list_any (bytes_eq text) (parts row) ≡ is_reserved text
unfolding words_from
among_row text row h e =
    ap (list_any (bytes_eq text)) e
    ∙ any_row text (words_from (get_or text 0 0)) h
    ∙ any-filter_same (bytes_eq text) (begins_with (get_or text 0 0)) true (λ w k. begins_alike text (get_or text 0 0) w h refl k) reserved_words

pub none_reserved : (text : List ℕ) → length text < 1 → false ≡ is_reserved text
unfolding reserved_words grammar_words out_of_scope_words
none_reserved [] h = refl
none_reserved (b ∷ bs) h = absurd (omega arith)
