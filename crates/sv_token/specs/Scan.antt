-- The length of each form at the front of a text, or 0, as the code finds it.
use Rattle.std.specs.Prelude.{◌≡◌, ◌<◌, ◌≤◌, ◌==◌, ◌&&◌, ℕ, zero, suc, Bool, true, false, List, [], ◌∷◌, length, take, drop, if◌then◌else◌, Option, Some, None}
use Rattle.sv_outside.specs.declared.text.Kind.{Kind}
use Rattle.sv_outside.specs.declared.text.Kind.TheVariants as kind
use Rattle.sv_token.specs.Cut.{run, behind}
use Rattle.sv_outside.specs.Words.{starts_word, goes_on, is_digit}
use Rattle.sv_outside.specs.Literals.{goes_decimal, starts_value, goes_value, is_sign, is_fill_digit}
use Rattle.sv_token.specs.Forms.{is_mark}

-- a class of bytes
unfoldable pub headed_scan : (ℕ → Bool) → (ℕ → Bool) → List ℕ → ℕ
headed_scan starts goes [] = 0
headed_scan starts goes (b ∷ bs) = if starts b then suc (run goes bs) else 0

unfoldable pub mark_scan_behind : ℕ → (List ℕ → ℕ) → List ℕ → ℕ
mark_scan_behind mark scan [] = 0
mark_scan_behind mark scan (b ∷ bs) = if b == mark then behind 1 (scan bs) else 0

unfoldable pub value_scan : List ℕ → ℕ
value_scan [] = 0
value_scan (base ∷ []) = 0
value_scan (base ∷ first ∷ more) = if starts_value base first then suc (suc (run (goes_value base first) more)) else 0

unfoldable pub signed_scan : List ℕ → ℕ
signed_scan [] = 0
signed_scan (b ∷ bs) = if is_sign b then behind 1 (value_scan bs) else value_scan (b ∷ bs)

unfoldable pub fill_scan : List ℕ → ℕ
fill_scan [] = 0
fill_scan (b ∷ []) = 0
fill_scan (b ∷ c ∷ bs) = if (b == 39) && is_fill_digit c then 2 else 0

abbrev pub or_else : ℕ → ℕ → ℕ
or_else zero n = n
or_else (suc m) n = suc m

unfoldable pub number_scan : List ℕ → ℕ
number_scan = headed_scan is_digit goes_decimal

unfoldable pub unsized_scan : List ℕ → ℕ
unsized_scan = mark_scan_behind 39 signed_scan

unfoldable pub literal_scan : List ℕ → ℕ
literal_scan text = or_else (behind (number_scan text) (unsized_scan (drop (number_scan text) text))) (or_else (number_scan text) (fill_scan text))

unfoldable pub body_scan : List ℕ → ℕ
body_scan [] = 0
body_scan (b ∷ []) = if b == 34 then 1 else 0
body_scan (b ∷ c ∷ bs) = if b == 34 then 1 else if b == 10 then 0
    else if b == 92 then (if c == 10 then 0 else behind 2 (body_scan bs)) else behind 1 (body_scan (c ∷ bs))

unfoldable pub mark_scan : List ℕ → ℕ
mark_scan [] = 0
mark_scan (a ∷ []) = if is_mark (a ∷ []) then 1 else 0
mark_scan (a ∷ b ∷ []) = if is_mark (a ∷ b ∷ []) then 2 else if is_mark (a ∷ []) then 1 else 0
mark_scan (a ∷ b ∷ c ∷ bs) = if is_mark (a ∷ b ∷ c ∷ []) then 3 else if is_mark (a ∷ b ∷ []) then 2 else if is_mark (a ∷ []) then 1 else 0

unfoldable pub word_scan : List ℕ → ℕ
word_scan = headed_scan starts_word goes_on

unfoldable pub system_scan : List ℕ → ℕ
system_scan = mark_scan_behind 36 word_scan

unfoldable pub directive_scan : List ℕ → ℕ
directive_scan = mark_scan_behind 96 word_scan

unfoldable pub quoted_scan : List ℕ → ℕ
quoted_scan = mark_scan_behind 34 body_scan

-- the kind and the length
abbrev pub found_or : ℕ → Kind → Option (Kind × ℕ) → Option (Kind × ℕ)
found_or zero k other = other
found_or (suc n) k other = Some (k, suc n)

unfoldable pub token_scan : List ℕ → Option (Kind × ℕ)
token_scan text =
    found_or (word_scan text) kind.Word (found_or (system_scan text) kind.System (found_or (literal_scan text) kind.Literal
    (found_or (quoted_scan text) kind.Quoted (found_or (directive_scan text) kind.Directive (found_or (mark_scan text) kind.Mark None)))))

-- n is the greatest number of first bytes that pass the test, or 0 where none do
pub record IsLongest (test : List ℕ → Bool) (text : List ℕ) (n : ℕ) : Type 0 where
  pub within : n ≤ length text
  pub fits : 0 < n → test (take n text) ≡ true
  pub longer : (m : ℕ) → n < m → m ≤ length text → test (take m text) ≡ false
