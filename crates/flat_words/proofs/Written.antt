-- Numbers, tests and vectors are read just as they are printed.
use Rattle.std.proofs.Common.{◌≡◌, ℕ, suc, ◌+◌, ◌-◌, ◌^◌, ◌<◌, ◌≤◌, Bool, true, false, cond, eqb, not, nat_lt, nat_le, ◌&&◌, ◌||◌, IsTrue, List, [], ◌∷◌, ◌++◌, length, map, reverse, get_or, take, drop, codes, decimal, Option, Some, None, ℤ, pos, negsuc, ◌⊎◌, inl, inr, refl, sym, ap, ◌∙◌, subst, append_assoc, arith}
use Rattle.std.specs.List.{prefix_len}
use Rattle.std.specs.Fmt.{signed_decimal}
use Rattle.std.specs.Str.{all_ascii_digits}
use Rattle.std.proofs.lemmas.Bool.{eq-eqb}
use Rattle.std.proofs.lemmas.List.{take_at, drop_at, take-append-drop}
use Rattle.std.proofs.lemmas.Fmt.{digits_decimal, digits_value-decimal, decimal-digits_value, decimal_nonempty, first_decimal, decimal_digit}
use Rattle.std.proofs.lemmas.Str.Parse.{IsNumeralModel, numerals_by_fold, tells_all_ascii_digits}
use Rattle.flat_text.specs.Lines.{Text}
use Rattle.std.proofs.lemmas.Bool.{eqb-true, ltb-true, leb-true, lt-ltb, le-leb, ne_eqb, and_parts, and_from, or_right, or_left, or_cases, not_from_false, not-true, cases_eq}
use Rattle.std.proofs.lemmas.Bool.Decides.{nat_tests}
use Rattle.std.proofs.lemmas.Int.{ints}
use Rattle.std.proofs.lemmas.List.{append-nil, reverse-reverse, length-map, length-reverse}
use Rattle.std.proofs.lemmas.Grind.{reverse_onto}
use Rattle.std.specs.Char.{is_ascii_digit}
use Rattle.fourvec.specs.declared.Bit.{Bit}
use Rattle.fourvec.specs.declared.Bit.TheVariants.{Zero, One, Unknown, Floating}
use Rattle.fourvec.specs.declared.Spot.{Spot}
use Rattle.flat_text.specs.Lines.{digit, flag as flag_text, value_text, spot_text, next as next_text}
use Rattle.flat_text.specs.FlatTexts.{is_long}
use Rattle.flat_words.specs.Fits.{FitsNumber, FitsByte, FitsLong, FitsVector, FitsParts}
use Rattle.flat_words.specs.Readers.{chain, is_digit, value_after, value, is_plain, numeral, number, byte, is_byte, made, where_, is_positive, is_negative, positive, negative, signed, flag, bit_of, bits_onto, is_wide, bits, vector, behind, before, both, next, next_byte, next_flag, next_spot, spot_of}
use Rattle.flat_words.proofs.Forms.{IsForm, same_some, chain_some, where_form, form_as, before_form, both_form, made_form, behind_takes, behind_gives}

-- ---- digits

pub own : IsNumeralModel (λ ds. all_ascii_digits ds ≡ true) (value_after 0)
unfolding value_after
own = numerals_by_fold (λ ds. all_ascii_digits ds ≡ true) tells_all_ascii_digits value_after (record { empty = λ n. refl; more = λ n c cs h. refl })

-- what does not go on with a digit
abbrev pub StopsDigits : Text → Type 0
StopsDigits rest = is_digit (get_or rest 0 0) ≡ false

all_digits : (t : Text) → all_ascii_digits (take (prefix_len is_digit t) t) ≡ true
all_digits [] = refl
all_digits (c ∷ t) = either (is_digit c) refl (all_digits t)
  where
    either : (b : Bool) → is_digit c ≡ b → all_ascii_digits (take (prefix_len is_digit t) t) ≡ true → all_ascii_digits (take (cond b (1 + prefix_len is_digit t) 0) (c ∷ t)) ≡ true
    either true e rest =
        let next : 1 + prefix_len is_digit t ≡ suc (prefix_len is_digit t) = omega arith in
        ap (λ n. all_ascii_digits (take n (c ∷ t))) next ∙ and_from (is_ascii_digit c) (all_ascii_digits (take (prefix_len is_digit t) t)) e rest
    either false e rest = refl

stops_here : (rest : Text) → StopsDigits rest → prefix_len is_digit rest ≡ 0
stops_here [] h = refl
stops_here (c ∷ rest) h = ap (λ b. cond b (1 + prefix_len is_digit rest) 0) h

front_digits : (ds rest : Text) → all_ascii_digits ds ≡ true → StopsDigits rest → prefix_len is_digit (ds ++ rest) ≡ length ds
front_digits [] rest h stops = stops_here rest stops
front_digits (c ∷ ds) rest h stops =
    let parts = and_parts (is_ascii_digit c) (all_ascii_digits ds) h in
    ap (λ b. cond b (1 + prefix_len is_digit (ds ++ rest)) 0) parts.0 ∙ ap (λ n. 1 + n) (front_digits ds rest parts.1 stops) ∙ omega arith

-- ---- numbers

plain_decimal : (n : ℕ) → n < 2 ^ 64 → is_plain (decimal n) ≡ true
plain_decimal n h =
    and_from (nat_lt 0 (length (decimal n))) (not (eqb (get_or (decimal n) 0 0) 48) || eqb (length (decimal n)) 1) (lt-ltb 0 (length (decimal n)) (decimal_nonempty n h)) (elim (cases_eq n 0) [
      | inl e ↦ or_right (not (eqb (get_or (decimal n) 0 0) 48)) (eqb (length (decimal n)) 1) (eq-eqb (length (decimal n)) 1 (ap (λ m. length (decimal m)) e ∙ ap length (decimal_digit 0 (omega arith))))
      | inr ne ↦ or_left (not (eqb (get_or (decimal n) 0 0) 48)) (eqb (length (decimal n)) 1) (not_from_false (eqb (get_or (decimal n) 0 0) 48) (ne_eqb (get_or (decimal n) 0 0) 48 (above (get_or (decimal n) 0 0) (first_decimal n (omega arith) h))))
    ])
  where
    above : (b : ℕ) → 48 < b → b ≡ 48 → ⊥
    above b l e = omega arith

pub number_form : IsForm ℕ FitsNumber StopsDigits decimal number
unfolding number numeral
number_form = record {
  takes = λ n rest fits stops.
      let long : n < 2 ^ 64 = omega arith in
      let all : all_ascii_digits (decimal n) ≡ true = digits_decimal own n long in
      let end = front_digits (decimal n) rest all stops in
      ap (λ k. numeral (take k (decimal n ++ rest)) (drop k (decimal n ++ rest))) end
      ∙ ap (λ d. numeral d (drop (length (decimal n)) (decimal n ++ rest))) (take_at (decimal n) rest (length (decimal n)) refl)
      ∙ ap (λ r. numeral (decimal n) r) (drop_at (decimal n) rest (length (decimal n)) refl)
      ∙ ap (λ b. cond {A = Option (ℕ × Text)} (b && nat_lt (value (decimal n)) (2 ^ 64 - 1)) (Some (value (decimal n), rest)) None) (plain_decimal n long)
      ∙ ap (λ m. cond {A = Option (ℕ × Text)} (nat_lt m (2 ^ 64 - 1)) (Some (m, rest)) None) (digits_value-decimal own n long)
      ∙ ap (λ b. cond {A = Option (ℕ × Text)} b (Some (n, rest)) None) (lt-ltb n (2 ^ 64 - 1) fits);
  gives = λ t n rest h. told (take (prefix_len is_digit t) t) (drop (prefix_len is_digit t) t) t n rest (all_digits t) (take-append-drop (prefix_len is_digit t) t) h;
}
  where
    told : (ds back t : Text) (n : ℕ) (rest : Text) → all_ascii_digits ds ≡ true → ds ++ back ≡ t → numeral ds back ≡ Some (n, rest) → (t ≡ decimal n ++ rest) × FitsNumber n
    told ds back t n rest all whole h = either (is_plain ds && nat_lt (value ds) (2 ^ 64 - 1)) refl h
      where
        either : (b : Bool) → (is_plain ds && nat_lt (value ds) (2 ^ 64 - 1)) ≡ b → cond {A = Option (ℕ × Text)} b (Some (value ds, back)) None ≡ Some (n, rest) → (t ≡ decimal n ++ rest) × FitsNumber n
        either false e k = cc
        either true e k =
            let parts = and_parts (is_plain ds) (nat_lt (value ds) (2 ^ 64 - 1)) e in
            let plain = and_parts (nat_lt 0 (length ds)) (not (eqb (get_or ds 0 0) 48) || eqb (length ds) 1) parts.0 in
            let some : 0 < length ds = ltb-true 0 (length ds) plain.0 in
            let less : value ds < 2 ^ 64 - 1 = ltb-true (value ds) (2 ^ 64 - 1) parts.1 in
            let is = same_some (value ds, back) (n, rest) k in
            let digits : decimal (value ds) ≡ ds = decimal-digits_value own ds all some (λ z. lone z (or_cases (not (eqb (get_or ds 0 0) 48)) (eqb (length ds) 1) plain.1)) (omega arith) in
            subst (λ (y : ℕ × Text). (t ≡ decimal y.0 ++ y.1) × FitsNumber y.0) is (sym whole ∙ ap (λ d. d ++ back) (sym digits), less)
          where
            lone : get_or ds 0 0 ≡ 48 → (not (eqb (get_or ds 0 0) 48) ≡ true) ⊎ (eqb (length ds) 1 ≡ true) → length ds ≡ 1
            lone z (inl x) = absurd (apart (eq-eqb (get_or ds 0 0) 48 z) (not-true (eqb (get_or ds 0 0) 48) x))
              where
                apart : {b : Bool} → b ≡ true → b ≡ false → ⊥
                apart e f = cc
            lone z (inr x) = eqb-true (length ds) 1 x

pub byte_form : IsForm ℕ FitsByte StopsDigits decimal byte
unfolding byte
byte_form = form_as ℕ (λ n. FitsNumber n × (is_byte n ≡ true)) FitsByte StopsDigits decimal byte (λ n h. ltb-true n 256 h.1) (λ n h. (small n h, lt-ltb n 256 h)) (where_form ℕ FitsNumber StopsDigits decimal number is_byte number_form)
  where
    small : (n : ℕ) → n < 256 → n < 2 ^ 64 - 1
    small n h = omega arith

-- ---- numbers with a sign

pub long_positive : (n : ℕ) → IsTrue (is_long (pos n)) → is_positive n ≡ true
long_positive n h = grind (arith, ints, nat_tests)

positive_long : (n : ℕ) → is_positive n ≡ true → IsTrue (is_long (pos n))
positive_long n h = grind (arith, ints, nat_tests)

pub long_negative : (m : ℕ) → IsTrue (is_long (negsuc m)) → is_negative (suc m) ≡ true
long_negative m h = grind (arith, ints, nat_tests)

negative_long : (n : ℕ) → is_negative n ≡ true → IsTrue (is_long (negsuc (n - 1)))
negative_long n h = grind (arith, ints, nat_tests)

positive_number : IsForm ℕ (λ n. FitsNumber n × (is_positive n ≡ true)) StopsDigits decimal (where_ is_positive number)
positive_number = where_form ℕ FitsNumber StopsDigits decimal number is_positive number_form

negative_number : IsForm ℕ (λ n. FitsNumber n × (is_negative n ≡ true)) StopsDigits decimal (where_ is_negative number)
negative_number = where_form ℕ FitsNumber StopsDigits decimal number is_negative number_form

-- ---- tests

one_flag : (c : ℕ) (t : Text) (b : Bool) (rest : Text) (x y : Bool) → eqb c 49 ≡ x → eqb c 48 ≡ y → cond {A = Option (Bool × Text)} x (Some (true, t)) (cond y (Some (false, t)) None) ≡ Some (b, rest) → (c ∷ t ≡ flag_text b ∷ rest) × Unit {0}
one_flag c t b rest true y e f k = (ap (λ n. n ∷ t) (eqb-true c 49 e) ∙ ap (λ (z : Bool × Text). flag_text z.0 ∷ z.1) (same_some (true, t) (b, rest) k), tt)
one_flag c t b rest false true e f k = (ap (λ n. n ∷ t) (eqb-true c 48 f) ∙ ap (λ (z : Bool × Text). flag_text z.0 ∷ z.1) (same_some (false, t) (b, rest) k), tt)
one_flag c t b rest false false e f k = cc

pub flag_form : IsForm Bool (λ b. Unit {0}) (λ t. Unit {0}) (λ b. flag_text b ∷ []) flag
unfolding flag
flag_form = record {
  takes = flag_takes;
  gives = flag_gives;
}
  where
    flag_takes : (b : Bool) (rest : Text) → Unit {0} → Unit {0} → flag (flag_text b ∷ rest) ≡ Some (b, rest)
    flag_takes true rest x y = refl
    flag_takes false rest x y = refl

    flag_gives : (t : Text) (b : Bool) (rest : Text) → flag t ≡ Some (b, rest) → (t ≡ flag_text b ∷ rest) × Unit {0}
    flag_gives [] b rest h = cc
    flag_gives (c ∷ t) b rest h = one_flag c t b rest (eqb c 49) (eqb c 48) refl refl h

-- ---- signs

first_digit : (n : ℕ) (rest : Text) → n < 2 ^ 64 → eqb (get_or (decimal n ++ rest) 0 0) 45 ≡ false
first_digit n rest h = first (decimal n) (digits_decimal own n h) (decimal_nonempty n h)
  where
    first : (ds : Text) → all_ascii_digits ds ≡ true → 0 < length ds → eqb (get_or (ds ++ rest) 0 0) 45 ≡ false
    first [] all some = absurd (omega arith)
    first (c ∷ ds) all some =
        let low : 48 ≤ c = leb-true 48 c (and_parts (nat_le 48 c) (nat_le c 57) (and_parts (is_ascii_digit c) (all_ascii_digits ds) all).0).0 in
        ne_eqb c 45 (apart c low)
      where
        apart : (c : ℕ) → 48 ≤ c → c ≡ 45 → ⊥
        apart c l e = omega arith

pub signed_form : IsForm ℤ FitsLong StopsDigits signed_decimal signed
unfolding signed positive negative made
signed_form = record {
  takes = signed_takes;
  gives = λ t i rest h. signed_gives t i rest (eqb (get_or t 0 0) 45) refl h;
}
  where
    signed_takes : (i : ℤ) (rest : Text) → FitsLong i → StopsDigits rest → signed (signed_decimal i ++ rest) ≡ Some (i, rest)
    signed_takes (pos n) rest fits stops =
        let small : n < 2 ^ 63 = ltb-true n (2 ^ 63) (long_positive n fits) in
        ap (λ b. cond b (negative (drop 1 (decimal n ++ rest))) (positive (decimal n ++ rest))) (first_digit n rest (omega arith))
        ∙ ap (λ o. chain {A = ℕ × Text} {B = ℤ × Text} o (λ x. Some (pos x.0, x.1))) (positive_number.takes n rest (omega arith, long_positive n fits) stops)
    signed_takes (negsuc m) rest fits stops =
        let most : suc m ≤ 2 ^ 63 = leb-true (suc m) (2 ^ 63) (and_parts (nat_lt 0 (suc m)) (nat_le (suc m) (2 ^ 63)) (long_negative m fits)).1 in
        ap (λ o. chain {A = ℕ × Text} {B = ℤ × Text} o (λ x. Some (negsuc (x.0 - 1), x.1))) (negative_number.takes (suc m) rest (omega arith, long_negative m fits) stops)
        ∙ ap (λ k. Some (negsuc k, rest)) (less m)
      where
        less : (m : ℕ) → suc m - 1 ≡ m
        less m = omega arith

    marked : (t : Text) → eqb (get_or t 0 0) 45 ≡ true → t ≡ 45 ∷ drop 1 t
    marked [] e = cc
    marked (c ∷ t) e = ap (λ n. n ∷ t) (eqb-true c 45 e)

    signed_gives : (t : Text) (i : ℤ) (rest : Text) (b : Bool) → eqb (get_or t 0 0) 45 ≡ b → cond {A = Option (ℤ × Text)} b (negative (drop 1 t)) (positive t) ≡ Some (i, rest) → (t ≡ signed_decimal i ++ rest) × FitsLong i
    signed_gives t i rest true e h =
        let cut = chain_some (where_ is_negative number (drop 1 t)) (λ x. Some (negsuc (x.0 - 1), x.1)) (i, rest) h in
        let inner = negative_number.gives (drop 1 t) cut.0.0 cut.0.1 cut.1.0 in
        let is = same_some (negsuc (cut.0.0 - 1), cut.0.1) (i, rest) cut.1.1 in
        let some : 0 < cut.0.0 = ltb-true 0 cut.0.0 (and_parts (nat_lt 0 cut.0.0) (nat_le cut.0.0 (2 ^ 63)) inner.1.1).0 in
        let more : suc (cut.0.0 - 1) ≡ cut.0.0 = omega arith in
        subst (λ (y : ℤ × Text). (t ≡ signed_decimal y.0 ++ y.1) × FitsLong y.0) is
        (marked t e ∙ ap (λ r. 45 ∷ r) inner.0 ∙ ap (λ n. 45 ∷ (decimal n ++ cut.0.1)) (sym more), negative_long cut.0.0 inner.1.1)
    signed_gives t i rest false e h =
        let cut = chain_some (where_ is_positive number t) (λ x. Some (pos x.0, x.1)) (i, rest) h in
        let inner = positive_number.gives t cut.0.0 cut.0.1 cut.1.0 in
        let is = same_some (pos cut.0.0, cut.0.1) (i, rest) cut.1.1 in
        subst (λ (y : ℤ × Text). (t ≡ signed_decimal y.0 ++ y.1) × FitsLong y.0) is (inner.0, positive_long cut.0.0 inner.1.1)

-- ---- vectors

bit_digit : (b : Bit) → bit_of (digit b) ≡ Some b
bit_digit Zero = refl
bit_digit One = refl
bit_digit Unknown = refl
bit_digit Floating = refl

digit_bit : (c : ℕ) (b : Bit) → bit_of c ≡ Some b → c ≡ digit b
digit_bit c b h = told (eqb c 48) (eqb c 49) (eqb c 120) (eqb c 122) refl refl refl refl h
  where
    told : (w x y z : Bool) → eqb c 48 ≡ w → eqb c 49 ≡ x → eqb c 120 ≡ y → eqb c 122 ≡ z → cond w (Some Zero) (cond x (Some One) (cond y (Some Unknown) (cond z (Some Floating) None))) ≡ Some b → c ≡ digit b
    told true x y z e f g k h = eqb-true c 48 e ∙ ap digit (same_some Zero b h)
    told false true y z e f g k h = eqb-true c 49 f ∙ ap digit (same_some One b h)
    told false false true z e f g k h = eqb-true c 120 g ∙ ap digit (same_some Unknown b h)
    told false false false true e f g k h = eqb-true c 122 k ∙ ap digit (same_some Floating b h)
    told false false false false e f g k h = cc

onto_takes : (ds low : List Bit) → bits_onto low (map digit ds) ≡ Some (reverse ds ++ low)
unfolding bits_onto
onto_takes [] low = refl
onto_takes (d ∷ ds) low = ap (λ o. chain o (λ b. bits_onto (b ∷ low) (map digit ds))) (bit_digit d) ∙ onto_takes ds (d ∷ low) ∙ ap Some (sym (append_assoc (reverse ds) (d ∷ []) low) ∙ ap (λ l. l ++ low) (sym (reverse_onto ds d [])))

onto_gives : (t : Text) (low v : List Bit) → bits_onto low t ≡ Some v → (ds : List Bit) × ((t ≡ map digit ds) × (v ≡ reverse ds ++ low))
unfolding bits_onto
onto_gives [] low v h = ([], (refl, sym (same_some low v h)))
onto_gives (c ∷ t) low v h =
    let cut = chain_some (bit_of c) (λ b. bits_onto (b ∷ low) t) v h in
    let rest = onto_gives t (cut.0 ∷ low) v cut.1.1 in
    (cut.0 ∷ rest.0, ((λ i. digit_bit c cut.0 cut.1.0 i ∷ rest.1.0 i), rest.1.1 ∙ sym (append_assoc (reverse rest.0) (cut.0 ∷ []) low) ∙ ap (λ l. l ++ low) (sym (reverse_onto rest.0 cut.0 []))))

abbrev pub AtEnd : Text → Type 0
AtEnd rest = rest ≡ []

wide_vector : (v : List Bit) → FitsVector v → is_wide (length v) (map digit (reverse v)) ≡ true
wide_vector v h =
    and_from (nat_lt 0 (length v)) (nat_le (length v) 128 && eqb (length (map digit (reverse v))) (length v)) (lt-ltb 0 (length v) h.0)
    (and_from (nat_le (length v) 128) (eqb (length (map digit (reverse v))) (length v)) (le-leb (length v) 128 h.1) (eq-eqb (length (map digit (reverse v))) (length v) (length-map (reverse v) digit ∙ length-reverse v)))

pub vector_form : IsForm (List Bit) FitsVector AtEnd value_text vector
unfolding vector bits
vector_form = record {
  takes = λ v rest fits end.
      ap (λ r. vector (value_text v ++ r)) end ∙ ap vector (append-nil (value_text v))
      ∙ ap (λ o. chain {A = ℕ × Text} {B = List Bit × Text} o (λ x. chain (behind (codes "'b") x.1) (bits x.0))) (byte_form.takes (length v) (codes "'b" ++ map digit (reverse v)) (small v fits) refl)
      ∙ ap (λ o. chain {A = Text} {B = List Bit × Text} o (bits (length v))) (behind_takes (codes "'b") (map digit (reverse v)))
      ∙ ap (λ b. cond {A = Option (List Bit × Text)} b (chain (bits_onto [] (map digit (reverse v))) (λ w. Some (w, []))) None) (wide_vector v fits)
      ∙ ap (λ o. chain {A = List Bit} {B = List Bit × Text} o (λ w. Some (w, []))) (onto_takes (reverse v) [] ∙ ap Some (append-nil (reverse (reverse v)) ∙ reverse-reverse v))
      ∙ ap (λ r. Some (v, r)) (sym end);
  gives = λ t v rest h.
      let first = chain_some (byte t) (λ x. chain (behind (codes "'b") x.1) (bits x.0)) (v, rest) h in
      let second = chain_some (behind (codes "'b") first.0.1) (bits first.0.0) (v, rest) first.1.1 in
      let width = byte_form.gives t first.0.0 first.0.1 first.1.0 in
      let mark = behind_gives (codes "'b") first.0.1 second.0 second.1.0 in
      vector_gives t first.0.1 second.0 first.0.0 v rest width.0 mark (is_wide first.0.0 second.0) refl second.1.1;
}
  where
    small : (v : List Bit) → FitsVector v → FitsByte (length v)
    small v h = omega (arith, h.1)

    vector_gives : (t r s : Text) (w : ℕ) (v : List Bit) (rest : Text) → t ≡ decimal w ++ r → r ≡ codes "'b" ++ s → (b : Bool) → is_wide w s ≡ b → cond {A = Option (List Bit × Text)} b (chain (bits_onto [] s) (λ x. Some (x, []))) None ≡ Some (v, rest) → (t ≡ value_text v ++ rest) × FitsVector v
    vector_gives t r s w v rest e f false x h = cc
    vector_gives t r s w v rest e f true x h =
        let cut = chain_some (bits_onto [] s) (λ y. Some (y, [])) (v, rest) h in
        let is = same_some (cut.0, []) (v, rest) cut.1.1 in
        let told = onto_gives s [] cut.0 cut.1.0 in
        let wide = and_parts (nat_lt 0 w) (nat_le w 128 && eqb (length s) w) x in
        let most = and_parts (nat_le w 128) (eqb (length s) w) wide.1 in
        let back : cut.0 ≡ reverse told.0 = told.1.1 ∙ append-nil (reverse told.0) in
        let turned : told.0 ≡ reverse cut.0 = sym (reverse-reverse told.0) ∙ ap reverse (sym back) in
        let long : w ≡ length cut.0 = sym (eqb-true (length s) w most.1) ∙ ap length told.1.0 ∙ length-map told.0 digit ∙ sym (length-reverse told.0) ∙ ap length (sym back) in
        let some : 0 < w = ltb-true 0 w wide.0 in
        let few : w ≤ 128 = leb-true w 128 most.0 in
        subst (λ (y : List Bit × Text). (t ≡ value_text y.0 ++ y.1) × FitsVector y.0) is (
          e ∙ ap (λ x. decimal w ++ x) (f ∙ ap (λ x. codes "'b" ++ x) (told.1.0 ∙ ap (map digit) turned)) ∙ ap (λ n. decimal n ++ (codes "'b" ++ map digit (reverse cut.0))) long ∙ sym (append-nil (value_text cut.0)),
          (omega arith, omega arith),
        )

-- ---- behind a blank

pub next_form : IsForm ℕ FitsNumber StopsDigits next_text next
unfolding next
next_form = before_form ℕ FitsNumber StopsDigits decimal number (codes " ") number_form

pub next_byte_form : IsForm ℕ FitsByte StopsDigits next_text next_byte
unfolding next_byte
next_byte_form = before_form ℕ FitsByte StopsDigits decimal byte (codes " ") byte_form

pub next_flag_form : IsForm Bool (λ b. Unit {0}) (λ t. Unit {0}) (λ b. 32 ∷ flag_text b ∷ []) next_flag
unfolding next_flag
next_flag_form = before_form Bool (λ b. Unit {0}) (λ t. Unit {0}) (λ b. flag_text b ∷ []) flag (codes " ") flag_form

pub next_spot_form : IsForm Spot FitsParts StopsDigits (λ s. 32 ∷ spot_text s) next_spot
unfolding next_spot
next_spot_form =
    made_form (Bool × (Bool × (ℕ × (ℤ × ℕ)))) Spot
    (λ x. Unit {0} × (Unit {0} × (FitsByte x.1.1.0 × (FitsLong x.1.1.1.0 × FitsByte x.1.1.1.1)))) FitsParts StopsDigits
    (λ x. (32 ∷ flag_text x.0 ∷ []) ++ ((32 ∷ flag_text x.1.0 ∷ []) ++ (next_text x.1.1.0 ++ ((codes " " ++ signed_decimal x.1.1.1.0) ++ next_text x.1.1.1.1)))) (λ s. 32 ∷ spot_text s)
    (both next_flag (both next_flag (both next_byte (both (λ t. before (codes " ") signed t) next_byte)))) spot_of (λ s. (s.signed, (s.negate, (s.each, (s.add, s.width)))))
    (λ s h. refl) (λ s h. (tt, (tt, (h.0.0, (h.0.1, h.1))))) (λ x h. ((h.1.1.0, h.1.1.1.0), h.1.1.1.1)) (λ x h. refl)
    (both_form Bool (Bool × (ℕ × (ℤ × ℕ))) (λ b. Unit {0}) (λ y. Unit {0} × (FitsByte y.1.0 × (FitsLong y.1.1.0 × FitsByte y.1.1.1))) (λ t. Unit {0}) StopsDigits (λ b. 32 ∷ flag_text b ∷ [])
    (λ y. (32 ∷ flag_text y.0 ∷ []) ++ (next_text y.1.0 ++ ((codes " " ++ signed_decimal y.1.1.0) ++ next_text y.1.1.1))) next_flag (both next_flag (both next_byte (both (λ t. before (codes " ") signed t) next_byte))) next_flag_form
    (both_form Bool (ℕ × (ℤ × ℕ)) (λ b. Unit {0}) (λ z. FitsByte z.0 × (FitsLong z.1.0 × FitsByte z.1.1)) (λ t. Unit {0}) StopsDigits (λ b. 32 ∷ flag_text b ∷ [])
    (λ z. next_text z.0 ++ ((codes " " ++ signed_decimal z.1.0) ++ next_text z.1.1)) next_flag (both next_byte (both (λ t. before (codes " ") signed t) next_byte)) next_flag_form
    (both_form ℕ (ℤ × ℕ) FitsByte (λ u. FitsLong u.0 × FitsByte u.1) StopsDigits StopsDigits next_text (λ u. (codes " " ++ signed_decimal u.0) ++ next_text u.1) next_byte (both (λ t. before (codes " ") signed t) next_byte) next_byte_form
    (both_form ℤ ℕ FitsLong FitsByte StopsDigits StopsDigits (λ i. codes " " ++ signed_decimal i) next_text (λ t. before (codes " ") signed t) next_byte (before_form ℤ FitsLong StopsDigits signed_decimal signed (codes " ") signed_form) next_byte_form (λ b rest fits stops. refl))
    (λ b rest fits stops. refl))
    (λ b rest fits stops. tt))
    (λ b rest fits stops. tt))
