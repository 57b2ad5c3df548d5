-- What is answered of the expressions that begin with a token of a list.
use Rattle.std.specs.Prelude.{◌≡◌, ◌⊎◌, ℕ, ◌+◌, ◌-◌, ◌≤◌, List, length, take, drop, slice_get, Option, Some, None, Result, Ok, Err}
use Rattle.sv_outside.specs.declared.refusal.Place.{Place}
use Rattle.sv_outside.specs.declared.refusal.TextErr.{TextErr}
use Rattle.sv_outside.specs.declared.refusal.TextErr.TheVariants as text_err
use Rattle.sv_outside.specs.declared.text.Token.{Token}
use Rattle.sv_tree.specs.declared.exprs.Expr.{Expr}
use Rattle.sv_tree.specs.Nesting.{expr_depths, IsOverAt, IsTooDeep}
use Rattle.sv_cursor.specs.declared.error.ParseErr.{ParseErr}
use Rattle.sv_cursor.specs.declared.error.ParseErr.TheVariants.{Memory, Syntax, TooDeep}
use Rattle.sv_cursor.specs.declared.sort.Mark.TheVariants as m
use Rattle.sv_cursor.specs.Parsers.{told}
use Rattle.sv_cursor.specs.Tests.{mark_test}
use Rattle.sv_cursor.specs.Refusals.{place_at, syntax_number_of, refused}
use Rattle.sv_expr_words.specs.Signs.{select_test, joiner_test}
use Rattle.sv_expr_reader.specs.Answers.{IsSpelled}
use Rattle.sv_expr_reader.specs.Reading.{expr}

-- The first n tokens spell the expression.
abbrev pub IsSpelledBy : Expr → List Token → ℕ → Type 0
IsSpelledBy x tokens n = IsSpelled x (take n tokens)

-- No expression takes more than m of the tokens.
pub record NoneBeyond (tokens : List Token) (m : ℕ) : Type 0 where
  pub none : (y : Expr) (n : ℕ) → n ≤ length tokens → IsSpelledBy y tokens n → n ≤ m

-- no expression stands at the front
pub record NoneAtAll (tokens : List Token) : Type 0 where
  pub none : (y : Expr) (n : ℕ) → n ≤ length tokens → IsSpelledBy y tokens n → ⊥

-- No expression goes on with the first of these tokens: it is no `'`, begins no select and is no operator.
abbrev pub NoneGoesOn : List Token → Type 0
NoneGoesOn o = (told (mark_test m.Tick) o ≡ None) × (told select_test o ≡ None) × (told joiner_test o ≡ None)

-- No expression at the front takes at most m of the tokens and stands before a token with which none goes on, but for those in which the
-- token with that number lies too deep.
pub record NoneEnds (tokens : List Token) (m k : ℕ) : Type 0 where
  pub none : (y : Expr) (n : ℕ) → n ≤ m → IsSpelledBy y tokens n → NoneGoesOn (drop n tokens) → IsOverAt (expr_depths y) k

-- what an answer says of the first m tokens
abbrev pub IsFront : List Token → ℕ → Result (Option Expr) ParseErr → Type 0
IsFront tokens m (Ok (Some x)) = IsSpelledBy x tokens m × ((y : Expr) → IsSpelledBy y tokens m → y ≡ x)
IsFront tokens m (Ok None) = (y : Expr) → IsSpelledBy y tokens m → ⊥
IsFront tokens m (Err (Syntax left)) = ⊥
IsFront tokens m (Err (TooDeep deep left)) =
    (deep ≤ length tokens) × IsTooDeep IsSpelled expr_depths tokens (length tokens - deep) × NoneEnds tokens m (length tokens - deep)
IsFront tokens m (Err Memory) = Unit {0}

-- The same of a refusal, told by the number of tokens that are left of the first m.
abbrev pub RefusesFront : List Token → ℕ → ParseErr → Type 0
RefusesFront tokens m (Syntax left) = (y : Expr) → IsSpelledBy y tokens m → ⊥
RefusesFront tokens m (TooDeep deep left) =
    (deep ≤ m) × IsTooDeep IsSpelled expr_depths tokens (length tokens - (deep + (length tokens - m)))
    × NoneEnds tokens m (length tokens - (deep + (length tokens - m)))
RefusesFront tokens m Memory = Unit {0}

-- An answer is the longest expression at the front of the tokens, and how many of them it takes. Where the syntax is refused there is none,
-- and reading from the front stops at the token with so many left. Where nesting is refused, it exceeds the limit, and no expression ends
-- at the front in which it does not.
abbrev pub IsLongest : List Token → Result (Expr × ℕ) ParseErr → Type 0
IsLongest tokens (Ok p) =
    (p.1 ≤ length tokens) × IsSpelledBy p.0 tokens p.1 × ((y : Expr) → IsSpelledBy y tokens p.1 → y ≡ p.0)
    × ((y : Expr) (n : ℕ) → n ≤ length tokens → IsSpelledBy y tokens n → n ≤ p.1)
IsLongest tokens (Err (Syntax left)) = (left ≤ length tokens) × (expr 201 0 tokens ≡ Err (Syntax left)) × NoneAtAll tokens
IsLongest tokens (Err (TooDeep deep left)) =
    (deep ≤ length tokens) × IsTooDeep IsSpelled expr_depths tokens (length tokens - deep) × NoneEnds tokens (length tokens) (length tokens - deep)
IsLongest tokens (Err Memory) = Unit {0}

-- Where reading is refused at a token with so many left, no expression reaches beyond it.
abbrev pub Refuses : List Token → ParseErr → Type 0
Refuses tokens (Syntax left) = (left ≤ length tokens) × (expr 201 0 tokens ≡ Err (Syntax left)) × NoneBeyond tokens (length tokens - left)
Refuses tokens (TooDeep deep left) =
    (deep ≤ length tokens) × IsTooDeep IsSpelled expr_depths tokens (length tokens - deep) × NoneEnds tokens (length tokens) (length tokens - deep)
Refuses tokens Memory = Unit {0}

-- ---- from a token on

-- The tokens from one up to another spell the expression.
abbrev pub SpelledFrom : List Token → ℕ → Expr → ℕ → Type 0
SpelledFrom tokens at x n = (at ≤ n) × (n ≤ length tokens) × IsSpelled x (take (n - at) (drop at tokens))

-- No expression stands there, and reading from there stops at a token: it is refused as one of the list (25), or by the grammar (8).
pub record IsSyntax (tokens : List Token) (end : Place) (at : ℕ) (e : TextErr) : Type 0 where
  pub none : (y : Expr) (n : ℕ) → SpelledFrom tokens at y n → ⊥
  pub left : ℕ
  pub inside : left ≤ length (drop at tokens)
  pub stops : expr 201 0 (drop at tokens) ≡ Err (Syntax left)
  pub is : e ≡ refused (syntax_number_of (slice_get tokens (length tokens - left))) (place_at tokens end (length tokens - left))

-- Nesting exceeds the limit at a token, and no expression stands there before a token with which none goes on, but for those in which the
-- token lies too deep.
pub record IsDeep (tokens : List Token) (end : Place) (at : ℕ) (e : TextErr) : Type 0 where
  pub number : ℕ
  pub none : (y : Expr) (n : ℕ) → SpelledFrom tokens at y n → NoneGoesOn (drop n tokens) → IsOverAt (expr_depths y) number
  pub deep : IsTooDeep IsSpelled expr_depths (drop at tokens) number
  pub is : e ≡ refused 9 (place_at tokens end (at + number))

-- An answer: the longest expression from the token with that number, and the token behind it.
abbrev pub IsParsed : List Token → Place → ℕ → Result (Expr × ℕ) TextErr → Type 0
IsParsed tokens end at (Ok p) =
    SpelledFrom tokens at p.0 p.1 × ((y : Expr) → SpelledFrom tokens at y p.1 → y ≡ p.0) × ((y : Expr) (n : ℕ) → SpelledFrom tokens at y n → n ≤ p.1)
IsParsed tokens end at (Err text_err.Memory) = Unit {0}
IsParsed tokens end at (Err (text_err.No r)) = IsSyntax tokens end at (text_err.No r) ⊎ IsDeep tokens end at (text_err.No r)
