-- Lines that are printed, as their words are read again.
use Rattle.std.proofs.Common.{◌≡◌, ℕ, zero, suc, ◌+◌, ◌/◌, ◌%◌, ◌<◌, ◌≤◌, Bool, true, false, not, ◌&&◌, ◌||◌, nat_le, List, [], ◌∷◌, ◌++◌, length, map, reverse, codes, Some, refl, sym, ap, ◌∙◌, append_assoc, append-nil, arith}
use Rattle.std.specs.Prelude.{◌==◌, if◌then◌else◌}
use Rattle.std.specs.List.{list_all}
use Rattle.std.specs.Cmp.Lexicographic.{bytes_decides}
use Rattle.std.proofs.lemmas.Bool.{and_parts, and_from, not_from_false, or_from, ne_eqb, leb-true, le-leb, false_from_ne_true}
use Rattle.std.proofs.lemmas.List.{length-map, length-reverse}
use Rattle.sv_outside.specs.declared.refusal.Place.{Place}
use Rattle.fourvec.specs.declared.Bit.{Bit}
use Rattle.fourvec.specs.declared.Bit.TheVariants.{Zero, One, Unknown, Floating}
use Rattle.vcd_text.specs.declared.role.Role.TheVariants.{Other}
use Rattle.vcd_text.specs.declared.role.Lead.TheVariants.{Scalar}
use Rattle.vcd_text.specs.Words.{Text, Word, is_blank, is_letter, begins_with, past, words_from}
use Rattle.vcd_text.specs.Forms.{is_code, is_code_byte, are_code_bytes, is_end, all_bits, bit_of, bits_behind, role_of, lead_of, chain}
use Rattle.vcd_text.specs.Waves.{Item, scope, upscope, ending, skipped, scalar, vector, item_words, HasForm, Told, may_come, with_item, with_change, but_last}
use Rattle.vcd_text.specs.Steps.{between, run}
use Rattle.vcd_print.specs.Printed.{code_from, code_of, scope_line, upscope_line, line_end, digit, digits_of, scalar_line, vector_line, IsPart}
use Rattle.vcd_text.proofs.Places.{past-append}
use Rattle.vcd_text.proofs.Splitting.{word_in_front, blanks_pass}
use Rattle.vcd_text.proofs.Taking.{item_taken, not_nil}

-- ---- words with one blank behind each

abbrev pub Pairs : Type 0
Pairs = List (Text × ℕ)

-- the text of such words
unfoldable pub text_of : Pairs → Text
text_of [] = []
text_of (x ∷ more) = (x.0 ++ x.1 ∷ []) ++ text_of more

-- the words, where they stand
unfoldable pub placed : Place → Pairs → List Word
placed p [] = []
placed p (x ∷ more) = record { text = x.0; place = p } ∷ placed (past p (x.0 ++ x.1 ∷ [])) more

abbrev pub is_good : Text × ℕ → Bool
is_good x = not (length x.0 == 0) && (list_all is_letter x.0 && is_blank x.1)

no_word_behind : (b : ℕ) (rest : Text) → is_blank b ≡ true → begins_with is_letter (b ∷ rest) ≡ false
no_word_behind b rest e = ap not e

some_bytes : (t : Text) → not (length t == 0) ≡ true → 0 < length t
some_bytes [] h = cc
some_bytes (b ∷ t) h = omega arith

pub pairs_read : (p : Place) (pairs : Pairs) (rest : Text) → list_all is_good pairs ≡ true → words_from p (text_of pairs ++ rest) ≡ placed p pairs ++ words_from (past p (text_of pairs)) rest
unfolding text_of placed past
pairs_read p [] rest good = refl
pairs_read p (x ∷ more) rest good =
    let here = and_parts (is_good x) (list_all is_good more) good in
    let parts = and_parts (not (length x.0 == 0)) (list_all is_letter x.0 && is_blank x.1) here.0 in
    let both = and_parts (list_all is_letter x.0) (is_blank x.1) parts.1 in
    let left : Text = text_of more ++ rest in
    ap (words_from p) (append_assoc (x.0 ++ x.1 ∷ []) (text_of more) rest ∙ append_assoc x.0 (x.1 ∷ []) left)
    ∙ word_in_front p x.0 (x.1 ∷ left) (some_bytes x.0 parts.0) both.0 (no_word_behind x.1 left both.1)
    ∙ ap (λ ws. record { text = x.0; place = p } ∷ ws)
    (blanks_pass (past p x.0) (x.1 ∷ []) left (and_from (is_blank x.1) true both.1 refl)
    ∙ ap (λ q. words_from q left) (sym (past-append p x.0 (x.1 ∷ [])))
    ∙ pairs_read (past p (x.0 ++ x.1 ∷ [])) more rest here.1
    ∙ ap (λ q. placed (past p (x.0 ++ x.1 ∷ [])) more ++ words_from q rest) (sym (past-append p (x.0 ++ x.1 ∷ []) (text_of more))))

-- ---- one line, which is one item

-- reading goes over the text from what is told, and what is told then has this property
abbrev pub OverTo : Told → Text → (Told → Type 0) → Type 0
OverTo told text P = (p : Place) (rest : Text) → (t : Told) × (run (record { wait = between; told = told }) (words_from p (text ++ rest)) ≡ run (record { wait = between; told = t }) (words_from (past p text) rest)) × P t

pub over_both : (told : Told) (t u : Text) (P Q : Told → Type 0) → OverTo told t P → ((x : Told) → P x → OverTo x u Q) → OverTo told (t ++ u) Q
over_both told t u P Q a b p rest =
    let h = a p (u ++ rest) in
    let k = b h.0 h.2 (past p t) rest in (
      k.0,
      ap (λ x. run (record { wait = between; told = told }) (words_from p x)) (append_assoc t u rest) ∙ h.1 ∙ k.1
          ∙ ap (λ q. run (record { wait = between; told = k.0 }) (words_from q rest)) (sym (past-append p t u)),
      k.2,
    )

pub over_nothing : (told : Told) (P : Told → Type 0) → P told → OverTo told [] P
unfolding past
over_nothing told P h p rest = (told, refl, h)

pub line_over : (told : Told) (pairs : Pairs) (text : Text) (P : Told → Type 0) (x : Place → Item) → text ≡ text_of pairs → list_all is_good pairs ≡ true
    → ((p : Place) → placed p pairs ≡ item_words (x p)) → ((p : Place) → HasForm (x p)) → ((p : Place) → may_come told (x p) ≡ true) → ((p : Place) → P (with_item told (x p)))
    → OverTo told text P
line_over told pairs text P x is good words form may after p rest = (
  with_item told (x p),
  ap (λ t. run (record { wait = between; told = told }) (words_from p (t ++ rest))) is
      ∙ ap (run (record { wait = between; told = told })) (pairs_read p pairs rest good ∙ ap (λ ws. ws ++ words_from (past p (text_of pairs)) rest) (words p))
      ∙ item_taken told (x p) (words_from (past p (text_of pairs)) rest) (form p) (may p)
      ∙ ap (λ t. run (record { wait = between; told = with_item told (x p) }) (words_from (past p t) rest)) (sym is),
  after p,
)

-- ---- bytes of codes and parts

code_letter : (b : ℕ) → is_code_byte b ≡ true → is_letter b ≡ true
code_letter b h =
    let low : 33 ≤ b = leb-true 33 b (and_parts (nat_le 33 b) (nat_le b 126) h).0 in
    not_from_false (is_blank b)
    (or_from (b == 32) ((b == 9) || ((b == 10) || (b == 13))) (ne_eqb b 32 (λ e. omega (arith, e, low)))
    (or_from (b == 9) ((b == 10) || (b == 13)) (ne_eqb b 9 (λ e. omega (arith, e, low)))
    (or_from (b == 10) (b == 13) (ne_eqb b 10 (λ e. omega (arith, e, low))) (ne_eqb b 13 (λ e. omega (arith, e, low))))))

pub code_letters : (t : Text) → are_code_bytes t ≡ true → list_all is_letter t ≡ true
code_letters [] h = refl
code_letters (b ∷ t) h = let parts = and_parts (is_code_byte b) (are_code_bytes t) h in and_from (is_letter b) (list_all is_letter t) (code_letter b parts.0) (code_letters t parts.1)

code_byte : (d : ℕ) → d < 94 → is_code_byte (33 + d) ≡ true
code_byte d h = and_from (nat_le 33 (33 + d)) (nat_le (33 + d) 126) (le-leb 33 (33 + d) (omega arith)) (le-leb (33 + d) 126 (omega (arith, h)))

code_bytes_from : (f n : ℕ) → are_code_bytes (code_from f n) ≡ true
unfolding code_from
code_bytes_from zero n = refl
code_bytes_from (suc f) n = and_from (is_code_byte (33 + n % 94)) (are_code_bytes (if n / 94 == 0 then [] else code_from f (n / 94))) (code_byte (n % 94) (omega arith)) (rest (n / 94 == 0) (code_bytes_from f (n / 94)))
  where
    rest : (b : Bool) → are_code_bytes (code_from f (n / 94)) ≡ true → are_code_bytes (if b then [] else code_from f (n / 94)) ≡ true
    rest true h = refl
    rest false h = h

pub code_is : (n : ℕ) → is_code (code_of n) ≡ true
unfolding code_from
code_is n = and_from (not (length (code_of n) == 0)) (are_code_bytes (code_of n)) (not_nil (33 + n % 94) (if n / 94 == 0 then [] else code_from n (n / 94))) (code_bytes_from (suc n) n)

-- ---- names

pub part_plain : (part : Text) → IsPart part → is_end part ≡ false
part_plain part h = false_from_ne_true (is_end part) (λ same. clash (ap (begins_with (λ b. b == 36)) ((bytes_decides part (codes "$end")).0 same)) h.1.1.0)
  where
    clash : begins_with (λ b. b == 36) part ≡ true → begins_with (λ b. b == 36) part ≡ false → ⊥
    clash a b = cc

pub part_good : (part : Text) (blank : ℕ) → IsPart part → is_blank blank ≡ true → is_good (part, blank) ≡ true
part_good [] blank h e = absurd (omega (arith, h.0))
part_good (b ∷ part) blank h e =
    and_from (not (length (b ∷ part) == 0)) (list_all is_letter (b ∷ part) && is_blank blank) (not_nil b part) (and_from (list_all is_letter (b ∷ part)) (is_blank blank) (code_letters (b ∷ part) h.1.0) e)

pub code_good : (n blank : ℕ) → is_blank blank ≡ true → is_good (code_of n, blank) ≡ true
unfolding code_from
code_good n blank e =
    and_from (not (length (code_of n) == 0)) (list_all is_letter (code_of n) && is_blank blank) (not_nil (33 + n % 94) (if n / 94 == 0 then [] else code_from n (n / 94)))
    (and_from (list_all is_letter (code_of n)) (is_blank blank) (code_letters (code_of n) (code_bytes_from (suc n) n)) e)

-- ---- lines of scopes

scope_text : (name : Text) → scope_line name ≡ text_of ((codes "$scope", 32) ∷ (codes "module", 32) ∷ (name, 32) ∷ (codes "$end", 10) ∷ [])
unfolding text_of
scope_text name = ap (λ t. codes "$scope module " ++ t) (sym (append_assoc name (32 ∷ []) (codes "$end" ++ line_end)))

-- a scope more
pub scope_over : (told : Told) (name : Text) (P : Told → Type 0) → IsPart name → told.ended ≡ false → P (record told { scopes = told.scopes ++ name ∷ [] }) → OverTo told (scope_line name) P
unfolding placed item_words HasForm may_come with_item role_of
scope_over told name P part early h =
    line_over told ((codes "$scope", 32) ∷ (codes "module", 32) ∷ (name, 32) ∷ (codes "$end", 10) ∷ []) (scope_line name) P
    (λ p. scope (record { text = codes "$scope"; place = p }) (record { text = codes "module"; place = past p (codes "$scope ") })
    (record { text = name; place = past (past p (codes "$scope ")) (codes "module ") }) (record { text = codes "$end"; place = past (past (past p (codes "$scope ")) (codes "module ")) (name ++ 32 ∷ []) }))
    (scope_text name) (and_from (is_good (name, 32)) true (part_good name 32 part refl) refl) (λ p. refl) (λ p. (refl, (refl, (part_plain name part, refl)))) (λ p. ap not early) (λ p. h)

-- a scope less
pub upscope_over : (told : Told) (P : Told → Type 0) → told.ended ≡ false → (length told.scopes == 0) ≡ false → P (record told { scopes = but_last told.scopes }) → OverTo told upscope_line P
unfolding text_of placed item_words HasForm may_come with_item role_of
upscope_over told P early some h =
    line_over told ((codes "$upscope", 32) ∷ (codes "$end", 10) ∷ []) upscope_line P
    (λ p. upscope (record { text = codes "$upscope"; place = p }) (record { text = codes "$end"; place = past p (codes "$upscope ") }))
    refl refl (λ p. refl) (λ p. (refl, refl)) (λ p. and_from (not told.ended) (not (length told.scopes == 0)) (ap not early) (ap not some)) (λ p. h)

-- the first line and the last of the declarations
pub timescale_over : (told : Told) (P : Told → Type 0) → P told → OverTo told (codes "$timescale 1 ns $end" ++ line_end) P
unfolding text_of placed item_words HasForm may_come with_item role_of
timescale_over told P h =
    line_over told ((codes "$timescale", 32) ∷ (codes "1", 32) ∷ (codes "ns", 32) ∷ (codes "$end", 10) ∷ []) (codes "$timescale 1 ns $end" ++ line_end) P
    (λ p. skipped (record { text = codes "$timescale"; place = p })
    (record { text = codes "1"; place = past p (codes "$timescale ") } ∷ record { text = codes "ns"; place = past (past p (codes "$timescale ")) (codes "1 ") } ∷ [])
    (record { text = codes "$end"; place = past (past (past p (codes "$timescale ")) (codes "1 ")) (codes "ns ") }))
    refl refl (λ p. refl) (λ p. (refl, (refl, refl))) (λ p. refl) (λ p. h)

pub ending_over : (told : Told) (P : Told → Type 0) → told.ended ≡ false → P (record told { ended = true }) → OverTo told (codes "$enddefinitions $end" ++ line_end) P
unfolding text_of placed item_words HasForm may_come with_item role_of
ending_over told P early h =
    line_over told ((codes "$enddefinitions", 32) ∷ (codes "$end", 10) ∷ []) (codes "$enddefinitions $end" ++ line_end) P
    (λ p. ending (record { text = codes "$enddefinitions"; place = p }) (record { text = codes "$end"; place = past p (codes "$enddefinitions ") }))
    refl refl (λ p. refl) (λ p. (refl, refl)) (λ p. ap not early) (λ p. h)

-- ---- bits

digit_bit : (b : Bit) → bit_of (digit b) ≡ Some b
digit_bit Zero = refl
digit_bit One = refl
digit_bit Unknown = refl
digit_bit Floating = refl

pub digits_said : (front bits : List Bit) → bits_behind front (map digit bits) ≡ Some (front ++ bits)
unfolding bits_behind
digits_said front [] = ap (λ l. Some l) (sym (append-nil front))
digits_said front (b ∷ bits) =
    ap (λ o. chain o (λ x. bits_behind (front ++ x ∷ []) (map digit bits))) (digit_bit b) ∙ digits_said (front ++ b ∷ []) bits ∙ ap (λ l. Some l) (append_assoc front (b ∷ []) bits)

pub digits_bits : (bits : List Bit) → all_bits (map digit bits) ≡ true
digits_bits [] = refl
digits_bits (Zero ∷ bits) = digits_bits bits
digits_bits (One ∷ bits) = digits_bits bits
digits_bits (Unknown ∷ bits) = digits_bits bits
digits_bits (Floating ∷ bits) = digits_bits bits

digits_letters : (bits : List Bit) → list_all is_letter (map digit bits) ≡ true
digits_letters [] = refl
digits_letters (Zero ∷ bits) = digits_letters bits
digits_letters (One ∷ bits) = digits_letters bits
digits_letters (Unknown ∷ bits) = digits_letters bits
digits_letters (Floating ∷ bits) = digits_letters bits

-- what a digit leads
digit_leads : (b : Bit) → lead_of (digit b) ≡ Scalar b
unfolding lead_of
digit_leads Zero = refl
digit_leads One = refl
digit_leads Unknown = refl
digit_leads Floating = refl

digit_other : (b : Bit) (rest : Text) → role_of (digit b ∷ rest) ≡ Other
unfolding role_of
digit_other Zero rest = refl
digit_other One rest = refl
digit_other Unknown rest = refl
digit_other Floating rest = refl

vector_other : (rest : Text) → role_of (98 ∷ rest) ≡ Other
unfolding role_of
vector_other rest = refl

digit_letter : (b : Bit) → is_letter (digit b) ≡ true
digit_letter Zero = refl
digit_letter One = refl
digit_letter Unknown = refl
digit_letter Floating = refl

-- a bit of a wire
pub scalar_over : (told : Told) (n : ℕ) (b : Bit) (P : Told → Type 0) → told.ended ≡ true → P (with_change told (code_of n) (b ∷ [])) → OverTo told (scalar_line n (b ∷ [])) P
unfolding text_of placed item_words HasForm may_come with_item
scalar_over told n b P ended h =
    line_over told ((digit b ∷ code_of n, 10) ∷ []) (scalar_line n (b ∷ [])) P
    (λ p. scalar (record { text = digit b ∷ code_of n; place = p }) (digit b) b (code_of n))
    (sym (append-nil ((digit b ∷ code_of n) ++ 10 ∷ [])))
    (and_from (is_good (digit b ∷ code_of n, 10)) true (and_from (not (length (digit b ∷ code_of n) == 0)) (list_all is_letter (digit b ∷ code_of n) && true) (not_nil (digit b) (code_of n)) (and_from (list_all is_letter (digit b ∷ code_of n)) true (and_from (is_letter (digit b)) (list_all is_letter (code_of n)) (digit_letter b) (code_letters (code_of n) (code_bytes_from (suc n) n))) refl)) refl)
    (λ p. refl) (λ p. (digit_other b (code_of n), (refl, (digit_leads b, code_is n)))) (λ p. ended) (λ p. h)

some_digits : (v : List Bit) → (length v == 0) ≡ false → (length (digits_of v) == 0) ≡ false
some_digits v h = ap (λ n. n == 0) (length-map (reverse v) digit ∙ length-reverse v) ∙ h

vector_text : (n : ℕ) (v : List Bit) → vector_line n v ≡ text_of ((98 ∷ digits_of v, 32) ∷ (code_of n, 10) ∷ [])
unfolding text_of
vector_text n v =
    ap (λ t. 98 ∷ t) (sym (append_assoc (digits_of v) (32 ∷ []) (code_of n ++ line_end))) ∙ ap (λ t. ((98 ∷ digits_of v) ++ 32 ∷ []) ++ t) (sym (append-nil (code_of n ++ line_end)))

-- more bits than one
pub vector_over : (told : Told) (n : ℕ) (v : List Bit) (P : Told → Type 0) → told.ended ≡ true → (length v == 0) ≡ false → P (with_change told (code_of n) (reverse v)) → OverTo told (vector_line n v) P
unfolding placed item_words HasForm may_come with_item lead_of
vector_over told n v P ended some h =
    line_over told ((98 ∷ digits_of v, 32) ∷ (code_of n, 10) ∷ []) (vector_line n v) P
    (λ p. vector (record { text = 98 ∷ digits_of v; place = p }) 98 (digits_of v) (reverse v) (record { text = code_of n; place = past p ((98 ∷ digits_of v) ++ 32 ∷ []) }))
    (vector_text n v)
    (and_from (is_good (98 ∷ digits_of v, 32)) (is_good (code_of n, 10) && true) (and_from (not (length (98 ∷ digits_of v) == 0)) (list_all is_letter (98 ∷ digits_of v) && true) (not_nil 98 (digits_of v)) (and_from (list_all is_letter (98 ∷ digits_of v)) true (digits_letters (reverse v)) refl)) (and_from (is_good (code_of n, 10)) true (code_good n 10 refl) refl))
    (λ p. refl)
    (λ p. (vector_other (digits_of v), (refl, (refl, (and_from (not (length (digits_of v) == 0)) (all_bits (digits_of v)) (ap not (some_digits v some)) (digits_bits (reverse v)), (digits_said [] (reverse v), code_is n))))))
    (λ p. ended) (λ p. h)
