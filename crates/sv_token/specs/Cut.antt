-- How a text is cut into tokens: each is the longest match where the one before it ends (IEEE 1800-2017, clause 5).
use Rattle.std.specs.Prelude.{◌≡◌, ◌<◌, ◌≤◌, ◌^◌, ◌+◌, ◌==◌, ◌&&◌, not, ℕ, zero, suc, Bool, true, false, List, [], ◌∷◌, length, take, drop, map, Option, Some, None, is_some, if◌then◌else◌}
use Rattle.sv_outside.specs.declared.text.Kind.{Kind}
use Rattle.sv_outside.specs.declared.text.Kind.TheVariants as kind
use Rattle.sv_outside.specs.declared.text.Token.{Token}
use Rattle.sv_outside.specs.declared.refusal.Place.{Place}
use Rattle.sv_outside.specs.declared.refusal.Refusal.{Refusal}
use Rattle.sv_token.specs.declared.lexer.Lined.{Lined}
use Rattle.sv_token.specs.declared.front.Front.{Front}
use Rattle.sv_token.specs.declared.front.Front.TheVariants.{Nothing, Gap, Piece}
use Rattle.sv_token.specs.Forms.{kind_of, is_blank, may_stand, is_continue}

-- ---- places

-- where a file begins
abbrev pub start : ℕ → Place
start file = record { file = file; line = 1; column = 1 }

-- Behind a line feed the next line begins, behind any other byte the next column. Lines and columns count from 1.
abbrev pub past_byte : Place → ℕ → Place
past_byte p b = if b == 10 then record { file = p.file; line = p.line + 1; column = 1 } else record { file = p.file; line = p.line; column = p.column + 1 }

-- the place behind a text that begins at the place
unfoldable pub past : Place → List ℕ → Place
past p [] = p
past p (b ∷ bs) = past (past_byte p b) bs

-- ---- the longest match

-- the greatest number up to n of first bytes that pass the test, or 0 where none of them does
unfoldable pub longest_up_to : (List ℕ → Bool) → List ℕ → ℕ → ℕ
longest_up_to test text zero = 0
longest_up_to test text (suc n) = if test (take (suc n) text) then suc n else longest_up_to test text n

unfoldable pub longest : (List ℕ → Bool) → List ℕ → ℕ
longest test text = longest_up_to test text (length text)

-- the text is one token of some kind
abbrev pub is_token : List ℕ → Bool
is_token t = is_some (kind_of t)

-- ---- what stands at the front of a text

abbrev pub is_end_of_line : ℕ → Bool
is_end_of_line b = b == 10

-- how many first bytes pass the test
unfoldable pub run : (ℕ → Bool) → List ℕ → ℕ
run goes [] = 0
run goes (b ∷ bs) = if goes b then suc (run goes bs) else 0

-- so many bytes more, where there are any
abbrev pub behind : ℕ → ℕ → ℕ
behind k zero = 0
behind k (suc n) = k + suc n

-- the length through the first `*/`, or 0 where there is none (5.4)
unfoldable pub comment_length : List ℕ → ℕ
comment_length [] = 0
comment_length (b ∷ []) = 0
comment_length (b ∷ c ∷ bs) = if (b == 42) && (c == 47) then 2 else behind 1 (comment_length (c ∷ bs))

-- the text begins with these two bytes
abbrev pub opens : ℕ → ℕ → List ℕ → Bool
opens a b [] = false
opens a b (c ∷ []) = false
opens a b (c ∷ d ∷ bs) = (c == a) && (d == b)

-- so many bytes that are no token, or nothing that may stand there
abbrev pub gap_of : ℕ → Front
gap_of zero = Nothing
gap_of (suc n) = Gap (suc n)

-- a token of that kind and length, if there is one
abbrev pub named : Option Kind → ℕ → Front
named None n = Nothing
named (Some k) n = Piece k n

-- A blank, a comment (5.4), a backslash before a line end, or the longest match of a token's form. A comment goes before the mark `/`, so one
-- that is not ended is nothing that may stand there.
unfoldable pub front : List ℕ → Front
front [] = Nothing
front (b ∷ bs) =
    if is_blank b then Gap 1
    else if opens 47 47 (b ∷ bs) then Gap (run (λ c. not (is_end_of_line c)) (b ∷ bs))
    else if opens 47 42 (b ∷ bs) then gap_of (behind 2 (comment_length (drop 2 (b ∷ bs))))
    else if is_continue (b ∷ bs) then Piece kind.Continue 1
    else named (kind_of (take (longest is_token (b ∷ bs)) (b ∷ bs))) (longest is_token (b ∷ bs))

-- ---- the tokens of a text

-- Where a token may begin: its place, and the number of its line, where a line end inside a comment does not count.
pub record Spot : Type 0 where
  pub place : Place
  pub line : ℕ

abbrev pub outset : ℕ → Spot
outset file = record { place = start file; line = 1 }

abbrev pub ends_line : List ℕ → Bool
ends_line [] = false
ends_line (b ∷ bs) = is_end_of_line b

abbrev pub past_gap : Spot → ℕ → List ℕ → Spot
past_gap p n text = record { place = past p.place (take n text); line = if ends_line text then p.line + 1 else p.line }

abbrev pub past_token : Spot → ℕ → List ℕ → Spot
past_token p n text = record { place = past p.place (take n text); line = p.line }

abbrev pub lined : Kind → ℕ → List ℕ → Spot → Lined
lined k n text p = record { token = record { kind = k; text = take n text; place = p.place }; line = p.line }

-- The text at the spot begins with these tokens, each the longest match where it stands, and what is left stands at the later spot.
pub data Cuts : Spot → List ℕ → List Lined → Spot → List ℕ → Type 0 where
  here : {p : Spot} {text : List ℕ} → Cuts p text [] p text
  gap : {p q : Spot} {text rest : List ℕ} {tokens : List Lined} (n : ℕ) → front text ≡ Gap n
      → Cuts (past_gap p n text) (drop n text) tokens q rest → Cuts p text tokens q rest
  token : {p q : Spot} {text rest : List ℕ} {tokens : List Lined} (k : Kind) (n : ℕ) → front text ≡ Piece k n
      → Cuts (past_token p n text) (drop n text) tokens q rest → Cuts p text (lined k n text p ∷ tokens) q rest

-- the whole text of a file is these tokens, in these lines
abbrev pub LexesLines : ℕ → List ℕ → List Lined → Type 0
LexesLines file text tokens = (last : ℕ) × Cuts (outset file) text tokens (record { place = past (start file) text; line = last }) []

-- the whole text of a file is these tokens
abbrev pub Lexes : ℕ → List ℕ → List Token → Type 0
Lexes file text tokens = (lines : List Lined) × LexesLines file text lines × (tokens ≡ map (λ a. a.token) lines)

-- a file has at most 16,777,216 bytes
abbrev pub most_bytes : ℕ
most_bytes = 2 ^ 24

-- and at most so many tokens
abbrev pub most_tokens : ℕ
most_tokens = 4000000

-- both limits hold
abbrev pub IsWithin : {T : Type 0} → List ℕ → List T → Type 0
IsWithin text tokens = (length text ≤ most_bytes) × (length tokens ≤ most_tokens)

-- a refusal that counts nothing
abbrev pub refused : ℕ → Place → Refusal
refused number place = record { number = number; place = place; count = 0 }

-- nothing starts with this byte: the reason
abbrev pub reason : ℕ → ℕ
reason b = if may_stand b then 2 else 1

-- Why, and where, a text is refused.
pub data IsRefused (file : ℕ) (text : List ℕ) : Refusal → Type 0 where
  -- the file is too long
  long : most_bytes < length text → IsRefused file text (refused 4 (start file))
  -- a byte that may not stand there
  bad_byte : {b : ℕ} {spot : Spot} {rest : List ℕ} {tokens : List Lined} → Cuts (outset file) text tokens spot (b ∷ rest)
      → front (b ∷ rest) ≡ Nothing → may_stand b ≡ false → IsRefused file text (refused 1 spot.place)
  -- no token starts there
  bad_token : {b : ℕ} {spot : Spot} {rest : List ℕ} {tokens : List Lined} → Cuts (outset file) text tokens spot (b ∷ rest)
      → front (b ∷ rest) ≡ Nothing → may_stand b ≡ true → IsRefused file text (refused 2 spot.place)
  -- one token more than there may be
  many : {spot : Spot} {rest : List ℕ} {tokens : List Lined} {k : Kind} {n : ℕ} → Cuts (outset file) text tokens spot rest
      → front rest ≡ Piece k n → length tokens ≡ most_tokens → IsRefused file text (refused 4 spot.place)
