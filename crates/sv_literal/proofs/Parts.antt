-- The parts of a literal.
use Rattle.std.proofs.Common.{◌≡◌, ℕ, Result, Ok, Err, Bool, true, false, cond, not, ◌&&◌, List, [], ◌∷◌, length, drop, refl, sym, ap, ◌∙◌, arith}
use Rattle.std.specs.Prelude.{◌==◌, nat_lt, slice_index, if◌then◌else◌}
use Rattle.std.specs.List.{list_all, take_while}
use Rattle.std.proofs.lemmas.Bool.Decides.{nat_tests}
use Rattle.std.proofs.lemmas.List.Sums.{take_while-cons}
use Rattle.std.proofs.lemmas.Bool.{false≢true}
use Rattle.sv_outside.specs.Words.{is_digit}
use Rattle.fourvec.specs.declared.Bit.{Bit}
use Rattle.sv_outside.specs.Literals.{goes_decimal, is_sign, drop_run, without_size, is_number, is_unsized, is_based, is_fill, is_literal}
use Rattle.sv_literal.specs.Meaning.{size_of, is_sized, is_nonempty, behind_quote, value_of, is_width, is_wide, is_large_number, is_large_value, is_out_of_range, number_of, based_of, fill_of, meaning_of}
use Rattle.sv_literal.specs.declared.meaning.Literal.{Literal}
use Rattle.sv_literal.specs.Value.{decimal, vector_of, exceeds_word}

behind_run : (goes : ℕ → Bool) (t : List ℕ) → drop (length (take_while goes t)) t ≡ drop_run goes t
behind_run goes [] = refl
behind_run goes (b ∷ bs) = ap (λ run. drop (length run) (b ∷ bs)) (take_while-cons goes b bs) ∙ either (goes b) (behind_run goes bs)
  where
    either : (passes : Bool) → drop (length (take_while goes bs)) bs ≡ drop_run goes bs → drop (length (cond passes (b ∷ take_while goes bs) [])) (b ∷ bs) ≡ cond passes (drop_run goes bs) (b ∷ bs)
    either true e = e
    either false e = refl

-- behind the digits of the size
pub behind_size : (t : List ℕ) → drop (length (size_of t)) t ≡ without_size t
behind_size [] = refl
behind_size (b ∷ bs) = either (is_digit b)
  where
    either : (passes : Bool) → drop (length (cond passes (b ∷ take_while goes_decimal bs) [])) (b ∷ bs) ≡ cond passes (drop_run goes_decimal bs) (b ∷ bs)
    either true = behind_run goes_decimal bs
    either false = refl

-- ---- a text that is no based literal, and one that is

pub none_wide : (t : List ℕ) → is_based t ≡ false → is_wide t ≡ false
unfolding is_wide
none_wide t e = rw e refl

pub none_large : (t : List ℕ) → is_based t ≡ false → is_large_value t ≡ false
unfolding is_large_value
none_large t e = rw e refl

pub some_wide : (t : List ℕ) → is_based t ≡ true → is_wide t ≡ (is_sized t && not (is_width (decimal (size_of t))))
unfolding is_wide
some_wide t e = rw e refl

pub some_large : (t : List ℕ) → is_based t ≡ true → is_large_value t ≡ (not (is_sized t) && exceeds_word (value_of t))
unfolding is_large_value
some_large t e = rw e refl

-- the refusals of a based literal by its parts

pub based_wide : (t size : List ℕ) → is_based t ≡ true → size ≡ size_of t → is_wide t ≡ (is_nonempty size && not (is_width (decimal size)))
based_wide t size e s = some_wide t e ∙ ap (λ d. is_nonempty d && not (is_width (decimal d))) (sym s)

pub based_large : (t size value : List ℕ) → is_based t ≡ true → size ≡ size_of t → value ≡ value_of t → is_large_value t ≡ (not (is_nonempty size) && exceeds_word value)
based_large t size value e s v =
    some_large t e
    ∙ ap (λ d. not (is_nonempty d) && exceeds_word (value_of t)) (sym s)
    ∙ ap (λ d. not (is_nonempty size) && exceeds_word d) (sym v)

-- the meaning of a based literal by its parts

some : (n : ℕ) → not (n == 0) ≡ nat_lt 0 n
some n = grind (arith, nat_tests)

pub based_parts : (t size suffix value : List ℕ) (width : ℕ) (v : List Bit) (empty sign : Bool) → size ≡ size_of t → suffix ≡ behind_quote t → value ≡ value_of t → width ≡ (if is_nonempty size then decimal size else 32) → v ≡ vector_of width value → empty ≡ (length size == 0) → sign ≡ is_sign (slice_index suffix 0)
    → ◌≡◌ {A = Literal} (record { value = v; sized = not empty; signed = sign; fill = false }) (based_of t)
unfolding based_of
based_parts t size suffix value width v empty sign s u w wide bits e g = rw (bits, wide, e, g, s, u, w, some (length (size_of t))) refl

-- an error that is handed on is of the same kind
pub same_refusal : {A B E P : Type 0} {w : E} (e : E) → ((◌≡◌ {A = Result A E} (Err e) (Err w) → P) × (P → ◌≡◌ {A = Result A E} (Err e) (Err w))) → (◌≡◌ {A = Result B E} (Err e) (Err w) → P) × (P → ◌≡◌ {A = Result B E} (Err e) (Err w))
same_refusal e h = (λ told. h.0 (let same = told in cc), λ p. let same = h.1 p in cc)

-- what is right is no error
pub no_refusal : {A B E P : Type 0} {w : E} (x : A) (y : B) → ((◌≡◌ {A = Result A E} (Ok x) (Err w) → P) × (P → ◌≡◌ {A = Result A E} (Ok x) (Err w))) → (◌≡◌ {A = Result B E} (Ok y) (Err w) → P) × (P → ◌≡◌ {A = Result B E} (Ok y) (Err w))
no_refusal x y h = (λ told. cc, λ p. let no = h.1 p in cc)

all_behind : (goes : ℕ → Bool) (t : List ℕ) → list_all goes t ≡ true → drop_run goes t ≡ []
all_behind goes [] e = refl
all_behind goes (b ∷ bs) e = either (goes b) e (all_behind goes bs)
  where
    either : (passes : Bool) → (passes && list_all goes bs) ≡ true → (list_all goes bs ≡ true → drop_run goes bs ≡ []) → cond passes (drop_run goes bs) (b ∷ bs) ≡ []
    either true e rest = rest e
    either false e rest = absurd (false≢true e)

pub number_is_not_based : (t : List ℕ) → is_number t ≡ true → is_based t ≡ false
number_is_not_based [] e = refl
number_is_not_based (b ∷ bs) e = either (is_digit b) e (all_behind goes_decimal bs)
  where
    either : (passes : Bool) → (passes && list_all goes_decimal bs) ≡ true → (list_all goes_decimal bs ≡ true → drop_run goes_decimal bs ≡ []) → is_unsized (cond passes (drop_run goes_decimal bs) (b ∷ bs)) ≡ false
    either true e rest = ap is_unsized (rest e)
    either false e rest = absurd (false≢true e)

-- ---- a whole literal

pub not_both : {P : Type 0} (b : Bool) → b ≡ false → b ≡ true → P
not_both b off on = absurd (false≢true (sym off ∙ on))

pub no_literal : (t : List ℕ) → is_number t ≡ false → is_based t ≡ false → is_fill t ≡ false → is_literal t ≡ false
no_literal t a b c = rw (a, b, c) refl

pub fill_literal : (t : List ℕ) → is_number t ≡ false → is_based t ≡ false → is_fill t ≡ true → is_literal t ≡ true
fill_literal t a b c = rw (a, b, c) refl

pub based_literal : (t : List ℕ) → is_number t ≡ false → is_based t ≡ true → is_literal t ≡ true
based_literal t a b = rw (a, b) refl

pub none_out : (t : List ℕ) → is_number t ≡ false → is_based t ≡ false → is_out_of_range t ≡ false
unfolding is_large_number is_large_value
none_out t a b = rw (a, b) refl

pub based_out : (t : List ℕ) → is_number t ≡ false → is_out_of_range t ≡ is_large_value t
unfolding is_large_number
based_out t a = rw a refl

pub meaning_number : (t : List ℕ) → is_number t ≡ true → meaning_of t ≡ number_of t
unfolding meaning_of
meaning_number t a = rw a refl

pub meaning_based : (t : List ℕ) → is_number t ≡ false → is_based t ≡ true → meaning_of t ≡ based_of t
unfolding meaning_of
meaning_based t a b = rw (a, b) refl

pub meaning_fill : (t : List ℕ) → is_number t ≡ false → is_based t ≡ false → meaning_of t ≡ fill_of t
unfolding meaning_of
meaning_fill t a b = rw (a, b) refl
