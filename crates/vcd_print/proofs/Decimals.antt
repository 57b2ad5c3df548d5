-- Numbers that are printed, as they are read again, and the lines that have one.
use Rattle.std.proofs.Common.{◌≡◌, ℕ, ◌<◌, ◌≤◌, ◌^◌, true, false, not, ◌&&◌, nat_le, [], ◌∷◌, ◌++◌, length, codes, decimal, None, Some, refl, sym, ap, ◌∙◌, append_assoc, append-nil, arith}
use Rattle.std.specs.Prelude.{◌==◌, if◌then◌else◌}
use Rattle.std.specs.List.{list_all}
use Rattle.std.specs.Str.{all_ascii_digits}
use Rattle.std.proofs.lemmas.Bool.{and_parts, and_from, ne_eqb, leb-true, le-leb}
use Rattle.std.proofs.lemmas.Fmt.{digits_decimal, digits_value-decimal, decimal_nonempty}
use Rattle.std.proofs.lemmas.Str.Parse.{IsNumeralModel, numerals_by_fold, tells_all_ascii_digits}
use Rattle.sv_outside.specs.declared.refusal.Place.{Place}
use Rattle.vcd_text.specs.declared.role.Role.TheVariants.{Other}
use Rattle.vcd_text.specs.declared.waves.VarKind.TheVariants.{Bits}
use Rattle.vcd_text.specs.Words.{Text, is_letter, past}
use Rattle.vcd_text.specs.Forms.{is_code_byte, are_code_bytes, is_digit, all_digits, are_digits, value_after, value, number_to, most_width, most_time, role_of, lead_of}
use Rattle.vcd_text.specs.Waves.{var, time, item_words, HasForm, Told, may_come, with_item, with_var, width_under, agrees}
use Rattle.vcd_print.specs.Printed.{code_of, line_end, var_line, time_line, IsPart}
use Rattle.vcd_print.proofs.Lines.{text_of, placed, is_good, line_over, OverTo, code_letters, code_is, code_good, part_good, part_plain}
use Rattle.vcd_text.proofs.Taking.{not_nil}

own : IsNumeralModel (λ ds. all_ascii_digits ds ≡ true) (value_after 0)
unfolding value_after
own = numerals_by_fold (λ ds. all_ascii_digits ds ≡ true) tells_all_ascii_digits value_after (record { empty = λ n. refl; more = λ n c cs h. refl })

digits_all : (t : Text) → all_ascii_digits t ≡ true → all_digits t ≡ true
digits_all [] h = refl
digits_all (c ∷ t) h = let parts = and_parts (is_digit c) (all_ascii_digits t) h in and_from (is_digit c) (all_digits t) parts.0 (digits_all t parts.1)

digit_code : (b : ℕ) → is_digit b ≡ true → is_code_byte b ≡ true
digit_code b h =
    let parts = and_parts (nat_le 48 b) (nat_le b 57) h in
    and_from (nat_le 33 b) (nat_le b 126) (le-leb 33 b (omega (arith, leb-true 48 b parts.0))) (le-leb b 126 (omega (arith, leb-true b 57 parts.1)))

digits_code : (t : Text) → all_digits t ≡ true → are_code_bytes t ≡ true
digits_code [] h = refl
digits_code (b ∷ t) h = let parts = and_parts (is_digit b) (all_digits t) h in and_from (is_code_byte b) (are_code_bytes t) (digit_code b parts.0) (digits_code t parts.1)

decimal_digits : (n : ℕ) → n < 2 ^ 64 → all_digits (decimal n) ≡ true
decimal_digits n h = digits_all (decimal n) (digits_decimal own n h)

some_text : (t : Text) → 0 < length t → not (length t == 0) ≡ true
some_text t h = ap not (ne_eqb (length t) 0 (λ e. omega (arith, e, h)))

pub number_back : (most n : ℕ) → n ≤ most → n < 2 ^ 64 → number_to most (decimal n) ≡ Some n
unfolding number_to
number_back most n few h =
    let value_is : value (decimal n) ≡ n = digits_value-decimal own n h in
    let plain : are_digits (decimal n) ≡ true =
    and_from (not (length (decimal n) == 0)) (all_digits (decimal n)) (some_text (decimal n) (decimal_nonempty n h)) (decimal_digits n h) in
    ap (λ b. if b && nat_le (value (decimal n)) most then Some (value (decimal n)) else None) plain
    ∙ ap (λ m. if nat_le m most then Some m else None) value_is ∙ ap (λ b. if b then Some n else None) (le-leb n most few)

decimal_letters : (n : ℕ) → n < 2 ^ 64 → list_all is_letter (decimal n) ≡ true
decimal_letters n h = code_letters (decimal n) (digits_code (decimal n) (decimal_digits n h))

-- ---- times

time_other : (rest : Text) → role_of (35 ∷ rest) ≡ Other
unfolding role_of
time_other rest = refl

pub time_over : (told : Told) (t : ℕ) (P : Told → Type 0) → t < 2 ^ 64 → told.ended ≡ true → told.time ≤ t → P (record told { time = t }) → OverTo told (time_line t) P
unfolding text_of placed item_words HasForm may_come with_item lead_of
time_over told t P small ended later h =
    line_over told ((35 ∷ decimal t, 10) ∷ []) (time_line t) P
    (λ p. time (record { text = 35 ∷ decimal t; place = p }) 35 (decimal t) t)
    (sym (append-nil ((35 ∷ decimal t) ++ 10 ∷ [])))
    (and_from (is_good (35 ∷ decimal t, 10)) true
    (and_from (not (length (35 ∷ decimal t) == 0)) (list_all is_letter (35 ∷ decimal t) && true) (not_nil 35 (decimal t)) (and_from (list_all is_letter (35 ∷ decimal t)) true (decimal_letters t small) refl)) refl)
    (λ p. refl) (λ p. (time_other (decimal t), (refl, (refl, number_back most_time t (omega (arith, small)) small)))) (λ p. and_from told.ended (nat_le told.time t) ended (le-leb told.time t later)) (λ p. h)

-- ---- declarations

var_text : (n width : ℕ) (name : Text) → var_line n width name ≡ text_of ((codes "$var", 32) ∷ (codes "wire", 32) ∷ (decimal width, 32) ∷ (code_of n, 32) ∷ (name, 32) ∷ (codes "$end", 10) ∷ [])
unfolding text_of
var_text n width name =
    ap (λ t. codes "$var wire " ++ t)
    (sym (append_assoc (decimal width) (32 ∷ []) (code_of n ++ (codes " " ++ (name ++ (codes " $end" ++ line_end)))))
    ∙ ap (λ t. (decimal width ++ 32 ∷ []) ++ t)
    (sym (append_assoc (code_of n) (32 ∷ []) (name ++ (codes " $end" ++ line_end))) ∙ ap (λ t. (code_of n ++ 32 ∷ []) ++ t) (sym (append_assoc name (32 ∷ []) (codes "$end" ++ line_end)))))

pub var_over : (told : Told) (n width : ℕ) (name : Text) (P : Told → Type 0) → width ≤ most_width → IsPart name → told.ended ≡ false → width_under told.vars (code_of n) ≡ None
    → ((place : Place) → P (with_var told Bits width (code_of n) name place)) → OverTo told (var_line n width name) P
unfolding text_of placed item_words HasForm may_come with_item role_of
var_over told n width name P few part early free h =
    let small : width < 2 ^ 64 = omega (arith, few) in
    let at2 : Place → Place = λ p. past (past p (codes "$var ")) (codes "wire ") in
    let at3 : Place → Place = λ p. past (at2 p) (decimal width ++ 32 ∷ []) in
    let at4 : Place → Place = λ p. past (at3 p) (code_of n ++ 32 ∷ []) in
    line_over told ((codes "$var", 32) ∷ (codes "wire", 32) ∷ (decimal width, 32) ∷ (code_of n, 32) ∷ (name, 32) ∷ (codes "$end", 10) ∷ []) (var_line n width name) P
    (λ p. var (record { text = codes "$var"; place = p }) (record { text = codes "wire"; place = past p (codes "$var ") }) width (record { text = decimal width; place = at2 p })
    (record { text = code_of n; place = at3 p }) (record { text = name; place = at4 p }) [] (record { text = codes "$end"; place = past (at4 p) (name ++ 32 ∷ []) }))
    (var_text n width name)
    (and_from (is_good (decimal width, 32)) (is_good (code_of n, 32) && (is_good (name, 32) && true))
    (and_from (not (length (decimal width) == 0)) (list_all is_letter (decimal width) && true) (some_text (decimal width) (decimal_nonempty width small)) (and_from (list_all is_letter (decimal width)) true (decimal_letters width small) refl))
    (and_from (is_good (code_of n, 32)) (is_good (name, 32) && true) (code_good n 32 refl) (and_from (is_good (name, 32)) true (part_good name 32 part refl) refl)))
    (λ p. refl)
    (λ p. (refl, (refl, (number_back most_width width few small, (code_is n, (part_plain name part, (tt, refl)))))))
    (λ p. and_from (not told.ended) (agrees (width_under told.vars (code_of n)) width) (ap not early) (ap (λ o. agrees o width) free))
    (λ p. h (at4 p))
