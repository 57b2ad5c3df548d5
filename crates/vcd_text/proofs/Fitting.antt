-- The values that changes give.
use Rattle.std.proofs.Common.{true, false, map, None, Some, Option, ◌≡◌, ◌⊎◌, inl, inr, ℕ, suc, ◌+◌, ◌-◌, ◌<◌, ◌≤◌, List, [], ◌∷◌, ◌++◌, length, get_or, take, drop, reverse, replicate, refl, sym, ap, ◌∙◌, arith, append-nil, append_assoc, length-append}
use Rattle.std.proofs.lemmas.List.{drop-map, take-map, at_drop_more, at_drop_all, reverse-append, length-reverse, length-drop, take_all, take-append-le, take-replicate, take-append-drop, get_or-append_right, nil_from_length}
use Rattle.std.specs.Prelude.{unwrap_or, filter, if◌then◌else◌}
use Rattle.std.specs.Str.{bytes_eq}
use Rattle.std.proofs.Math.Seq.{take-append-add}
use Rattle.std.proofs.lemmas.Grind.{reverse_onto}
use Rattle.fourvec.specs.declared.Bit.{Bit}
use Rattle.fourvec.specs.declared.Bit.TheVariants.{Zero, One, Unknown, Floating}
use Rattle.fourvec.specs.Bits.{top, zext_of, sext_of}
use Rattle.vcd_text.specs.declared.scan.WrittenChange.{WrittenChange}
use Rattle.vcd_text.specs.Words.{Text}
use Rattle.vcd_text.specs.Forms.{bit_of, bits_of, bits_behind, chain}
use Rattle.vcd_text.specs.Waves.{Change, fitted, filler, changes_under}
use Rattle.vcd_text.specs.Said.{bit_said, bits_said, given, onto_bits, widened}
use Rattle.vcd_text.specs.Changes.{IsWritten}

pub onto_more : (high : List Bit) (bits : Text) (i : ℕ) → i < length bits
    → onto_bits high (bits_said (drop i bits)) ≡ onto_bits (bit_said (get_or bits i 0) ∷ high) (bits_said (drop (i + 1) bits))
unfolding onto_bits
onto_more high bits i h = at_drop_more (λ t. onto_bits high (bits_said t)) bits i 0 h

pub onto_end : (high : List Bit) (bits : Text) (i : ℕ) → length bits ≤ i → onto_bits high (bits_said (drop i bits)) ≡ high
unfolding onto_bits
onto_end high bits i h = at_drop_all (λ t. onto_bits high (bits_said t)) bits i h

pub widened_zero : (value : List Bit) (b : Bit) (width : ℕ) → (b ≡ Zero) → zext_of value width ≡ widened value b width
widened_zero value b width e = sym (ap (λ x. widened value x width) e)

pub widened_top : (value : List Bit) (b : Bit) (width : ℕ) → (b ≡ Unknown) → top value ≡ b → sext_of value width ≡ widened value b width
widened_top value b width e h = ap (λ x. value ++ replicate (width - length value) x) (h ∙ e) ∙ sym (ap (λ x. widened value x width) e)

-- ---- the value of a width

pub first_behind : (xs : List Bit) → 1 ≤ length xs → xs ≡ get_or xs 0 Zero ∷ take (length xs - 1) (drop 1 xs)
first_behind [] h = absurd (omega (arith, h))
first_behind (b ∷ bs) h = ap (λ r. b ∷ r) (sym (take_all (length (b ∷ bs) - 1) bs (omega arith)))

reverse_first : (b : Bit) (bs : List Bit) → reverse (b ∷ bs) ≡ reverse bs ++ b ∷ []
reverse_first b bs = reverse_onto bs b []

onto_reverse : (high bits : List Bit) → onto_bits high bits ≡ reverse bits ++ high
unfolding onto_bits
onto_reverse high [] = refl
onto_reverse high (b ∷ bits) = onto_reverse (b ∷ high) bits ∙ sym (append_assoc (reverse bits) (b ∷ []) high) ∙ ap (λ r. r ++ high) (sym (reverse_first b bits))

-- what is made of the bits that are kept
pub kept_reversed : (kept : List Bit) → 1 ≤ length kept → onto_bits (get_or kept 0 Zero ∷ []) (take (length kept - 1) (drop 1 kept)) ≡ reverse kept
kept_reversed kept h =
    onto_reverse (get_or kept 0 Zero ∷ []) (take (length kept - 1) (drop 1 kept)) ∙ sym (reverse_first (get_or kept 0 Zero) (take (length kept - 1) (drop 1 kept))) ∙ ap reverse (sym (first_behind kept h))

top_of : (xs : List Bit) (b : Bit) → top (xs ++ b ∷ []) ≡ b
top_of xs b =
    let long : length (xs ++ b ∷ []) - 1 ≡ length xs = omega (arith, length-append xs (b ∷ [])) in
    ap (λ n. get_or (xs ++ b ∷ []) n Zero) long ∙ get_or-append_right xs (b ∷ []) (length xs) (length xs) Zero refl (omega arith) ∙ ap (λ n. get_or (b ∷ []) n Zero) (let e : length xs - length xs ≡ 0 = omega arith in e)

pub top_kept : (kept : List Bit) → 1 ≤ length kept → top (reverse kept) ≡ get_or kept 0 Zero
top_kept kept h =
    ap (λ l. top (reverse l)) (first_behind kept h) ∙ ap top (reverse_first (get_or kept 0 Zero) (take (length kept - 1) (drop 1 kept)))
    ∙ top_of (reverse (take (length kept - 1) (drop 1 kept))) (get_or kept 0 Zero)

filler_first : (b : Bit) (more : List Bit) → filler (b ∷ more) ≡ filler (b ∷ [])
filler_first Zero more = refl
filler_first One more = refl
filler_first Unknown more = refl
filler_first Floating more = refl

pub kept_long : (bits : List Bit) (k width : ℕ) → k ≡ length bits - width → length (drop k bits) ≤ width
kept_long bits k width e = omega (arith, length-drop k bits, e)

-- all bits are kept
fitted_wide : (width : ℕ) (bits : List Bit) → length bits ≤ width → fitted width bits ≡ reverse bits ++ replicate (width - length bits) (filler bits)
unfolding fitted
fitted_wide width bits h =
    let wide : width ≡ length (reverse bits) + (width - length bits) = omega (arith, length-reverse bits, h) in
    ap (λ n. take n (reverse bits ++ replicate width (filler bits))) wide ∙ take-append-add (reverse bits) (replicate width (filler bits)) (width - length bits)
    ∙ ap (λ r. reverse bits ++ r) (take-replicate (width - length bits) width (filler bits) (omega arith))

-- some are cut
fitted_cut : (width : ℕ) (front kept : List Bit) → length kept ≡ width → fitted width (front ++ kept) ≡ reverse kept
unfolding fitted
fitted_cut width front kept h =
    ap (λ r. take width (r ++ replicate width (filler (front ++ kept)))) (reverse-append front kept)
    ∙ ap (take width) (append_assoc (reverse kept) (reverse front) (replicate width (filler (front ++ kept))))
    ∙ take-append-le width (reverse kept) (reverse front ++ replicate width (filler (front ++ kept))) (omega (arith, length-reverse kept, h))
    ∙ take_all width (reverse kept) (omega (arith, length-reverse kept, h))

pub fits : (width : ℕ) (bits kept : List Bit) (k : ℕ) → k ≡ length bits - width → kept ≡ drop k bits → 1 ≤ length kept → widened (reverse kept) (get_or kept 0 Zero) width ≡ fitted width bits
fits width bits kept k e is some = by_case (le_or_more (length bits) width)
  where
    le_or_more : (a b : ℕ) → (a ≤ b) ⊎ (b < a)
    le_or_more a b = grind arith

    by_case : (length bits ≤ width) ⊎ (width < length bits) → widened (reverse kept) (get_or kept 0 Zero) width ≡ fitted width bits
    by_case (inl few) =
        let none : k ≡ 0 = omega (arith, e, few) in
        let same : kept ≡ bits = is ∙ ap (λ n. drop n bits) none in
        ap (λ n. reverse kept ++ replicate (width - n) (filler (get_or kept 0 Zero ∷ []))) (length-reverse kept)
        ∙ ap (λ b. reverse kept ++ replicate (width - length kept) b) (sym (filler_first (get_or kept 0 Zero) (take (length kept - 1) (drop 1 kept))) ∙ ap filler (sym (first_behind kept some)))
        ∙ ap (λ l. reverse l ++ replicate (width - length l) (filler l)) same ∙ sym (fitted_wide width bits few)
    by_case (inr many) =
        let long : length kept ≡ width = ap length is ∙ length-drop k bits ∙ omega (arith, e, many) in
        let nothing : width - length (reverse kept) ≡ 0 = omega (arith, length-reverse kept, long) in
        ap (λ n. reverse kept ++ replicate n (filler (get_or kept 0 Zero ∷ []))) nothing ∙ append-nil (reverse kept)
        ∙ sym (ap (fitted width) (sym (take-append-drop k bits) ∙ ap (λ d. take k bits ++ d) (sym is)) ∙ fitted_cut width (take k bits) kept long)

pub fits_empty : (width : ℕ) (bits kept : List Bit) (k : ℕ) → 0 < width → k ≡ length bits - width → kept ≡ drop k bits → length kept < 1 → (Zero ∷ []) ++ replicate (width - 1) Zero ≡ fitted width bits
fits_empty width bits kept k some e is none =
    let empty : length bits ≡ 0 = omega (arith, some, e, none, ap length is ∙ length-drop k bits) in
    let nil : bits ≡ [] = nil_from_length bits empty in
    let more : width - 0 ≡ suc (width - 1) = omega (arith, some) in
    sym (ap (fitted width) nil ∙ fitted_wide width [] (omega arith) ∙ ap (λ n. replicate n Zero) more)

-- ---- bits as they are written

-- bits are what their bytes say
said_behind : (front bits : List Bit) (t : Text) → bits_behind front t ≡ Some bits → front ++ bits_said t ≡ bits
unfolding bits_behind
said_behind front bits [] e = append-nil front ∙ (let same : front ≡ bits = cc in same)
said_behind front bits (d ∷ t) e = by_case (bit_of d) refl e (λ b h. said_behind (front ++ b ∷ []) bits t h)
  where
    by_case : (o : Option Bit) → bit_of d ≡ o → chain (bit_of d) (λ b. bits_behind (front ++ b ∷ []) t) ≡ Some bits
        → ((b : Bit) → bits_behind (front ++ b ∷ []) t ≡ Some bits → (front ++ b ∷ []) ++ bits_said t ≡ bits) → front ++ bits_said (d ∷ t) ≡ bits
    by_case None o e more = let no : None ≡ Some bits = sym (ap (λ x. chain x (λ b. bits_behind (front ++ b ∷ []) t)) o) ∙ e in cc
    by_case (Some b) o e more =
        ap (λ x. front ++ unwrap_or x Zero ∷ bits_said t) o ∙ sym (append_assoc front (b ∷ []) (bits_said t)) ∙ more b (sym (ap (λ x. chain x (λ y. bits_behind (front ++ y ∷ []) t)) o) ∙ e)

pub said_bits : (t : Text) (bits : List Bit) → bits_of t ≡ Some bits → bits_said t ≡ bits
said_bits t bits e = said_behind [] bits t e

-- those that are kept
pub kept_said : (k : ℕ) (t kept : Text) → kept ≡ drop k t → bits_said kept ≡ drop k (bits_said t)
kept_said k t kept e = ap bits_said e ∙ sym (drop-map bit_said k t)

pub first_said : (kept : Text) → bit_said (get_or kept 0 0) ≡ get_or (bits_said kept) 0 Zero
first_said [] = refl
first_said (b ∷ kept) = refl

pub rest_said : (n : ℕ) (kept : Text) → bits_said (take n (drop 1 kept)) ≡ take n (drop 1 (bits_said kept))
rest_said n kept = sym (take-map bit_said n (drop 1 kept)) ∙ ap (take n) (sym (drop-map bit_said 1 kept))

-- ---- changes under a code

-- the first of the changes is under the code
pub first_own : (code : Text) (width : ℕ) (w : WrittenChange) (c : Change) (left more : List Change) → IsWritten w c → left ≡ c ∷ more → bytes_eq code w.code.now ≡ true
    → changes_under code width left ≡ given width w ∷ changes_under code width more
first_own code width w c left more h is own =
    let same : bytes_eq code c.code ≡ true = ap (bytes_eq code) (sym h.code) ∙ own in
    ap (changes_under code width) is
    ∙ ap (λ b. map (λ x. (x.time, fitted width x.bits)) (if b then c ∷ filter (λ x. bytes_eq code x.code) more else filter (λ x. bytes_eq code x.code) more)) same
    ∙ (λ i. (sym h.time i, sym (ap (fitted width) (said_bits w.bits.now c.bits h.bits)) i) ∷ changes_under code width more)

-- or it is not
pub first_other : (code : Text) (width : ℕ) (w : WrittenChange) (c : Change) (left more : List Change) → IsWritten w c → left ≡ c ∷ more → bytes_eq code w.code.now ≡ false
    → changes_under code width left ≡ changes_under code width more
first_other code width w c left more h is other =
    let same : bytes_eq code c.code ≡ false = ap (bytes_eq code) (sym h.code) ∙ other in
    ap (changes_under code width) is
    ∙ ap (λ b. map (λ x. (x.time, fitted width x.bits)) (if b then c ∷ filter (λ x. bytes_eq code x.code) more else filter (λ x. bytes_eq code x.code) more)) same

-- ---- bits below the first of those that are kept

pub long_as : (t : Text) → length (bits_said t) ≡ length t
long_as [] = refl
long_as (b ∷ t) = ap suc (long_as t)

pub made_below : (kept : Text) (highest : Bit) (one below : List Bit) → 1 ≤ length kept → highest ≡ bit_said (get_or kept 0 0) → one ≡ highest ∷ []
    → below ≡ onto_bits one (bits_said (take (length kept - 1) (drop 1 kept))) → below ≡ reverse (bits_said kept)
made_below kept highest one below some high made is =
    is ∙ ap (λ h. onto_bits h (bits_said (take (length kept - 1) (drop 1 kept)))) (made ∙ ap (λ b. b ∷ []) (high ∙ first_said kept))
    ∙ ap (onto_bits (get_or (bits_said kept) 0 Zero ∷ [])) (rest_said (length kept - 1) kept)
    ∙ ap (λ n. onto_bits (get_or (bits_said kept) 0 Zero ∷ []) (take (n - 1) (drop 1 (bits_said kept)))) (sym (long_as kept)) ∙ kept_reversed (bits_said kept) (omega (arith, long_as kept, some))
