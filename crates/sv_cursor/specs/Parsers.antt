-- Parsers on lists of tokens, made of a few parts.
use Rattle.std.specs.Prelude.{◌≡◌, ◌≢◌, ℕ, zero, suc, Bool, if◌then◌else◌, List, [], ◌∷◌, length, Option, Some, None, Result, Ok, Err}
use Rattle.sv_outside.specs.declared.text.Token.{Token}
use Rattle.sv_cursor.specs.declared.error.ParseErr.{ParseErr}
use Rattle.sv_cursor.specs.declared.error.ParseErr.TheVariants.{Memory, Syntax, TooDeep}

-- what is read, and the tokens after it
abbrev pub Outcome : Type 0 → Type 0
Outcome A = Result (A × List Token) ParseErr

abbrev pub Parser : Type 0 → Type 0
Parser A = List Token → Outcome A

abbrev pub and_then : {A B : Type 0} → Outcome A → (A → Parser B) → Outcome B
and_then (Ok p) f = f p.0 p.1
and_then (Err e) f = Err e

infixl 10 ◌>>=◌
abbrev pub ◌>>=◌ : {A B : Type 0} → Parser A → (A → Parser B) → Parser B
p >>= f = λ i. and_then (p i) f

abbrev pub pure : {A : Type 0} → A → Parser A
pure a = λ i. Ok (a, i)

-- what is read, changed
infixr 11 ◌<$>◌
abbrev pub ◌<$>◌ : {A B : Type 0} → (A → B) → Parser A → Parser B
f <$> p = p >>= (λ a. pure (f a))

-- one after the other, where the second may depend on what the first reads
infixr 20 ◌▷◌
abbrev pub ◌▷◌ : {A B : Type 0} → Parser A → (A → Parser B) → Parser (A × B)
p ▷ f = p >>= (λ a. f a >>= (λ b. pure (a, b)))

infixr 20 ◌⊗◌
abbrev pub ◌⊗◌ : {A B : Type 0} → Parser A → Parser B → Parser (A × B)
p ⊗ q = p ▷ (λ _. q)

-- no rule reads what stands here
abbrev pub refuse : {A : Type 0} → Parser A
refuse = λ i. Err (Syntax (length i))

-- the first token lies too deep, where there is one
abbrev pub deep_err : List Token → ParseErr
deep_err [] = Syntax 0
deep_err (a ∷ t) = TooDeep (length (a ∷ t)) (length (a ∷ t))

abbrev pub too_deep : {A : Type 0} → Parser A
too_deep i = Err (deep_err i)

-- the first token, where there is one and the test tells something of it
abbrev pub told : {A : Type 0} → (Token → Option A) → List Token → Option A
told test [] = None
told test (a ∷ t) = test a

abbrev pub next : List Token → List Token
next [] = []
next (a ∷ t) = t

abbrev pub take_told : {A : Type 0} → Option A → Parser A
take_told None = refuse
take_told (Some x) = λ i. Ok (x, next i)

-- a token of which the test tells something
unfoldable pub token : {A : Type 0} → (Token → Option A) → Parser A
token test = λ i. take_told (told test i) i

abbrev pub branch : {C A : Type 0} → Option C → (C → Parser A) → Parser A → Parser A
branch None chosen other = other
branch (Some c) chosen other = chosen c

-- by what is told of the first token
abbrev pub by_told : {C A : Type 0} → (Token → Option C) → (C → Parser A) → Parser A → Parser A
by_told test chosen other = λ i. branch (told test i) chosen other i

-- a part, where something is told of the first token
abbrev pub maybe_read : {C A : Type 0} → (Token → Option C) → Parser A → Parser (Option A)
maybe_read test p = by_told test (λ _. Some <$> p) (pure None)

abbrev pub cons : {A : Type 0} → A × List A → List A
cons p = p.0 ∷ p.1

-- parts, as long as something is told of the first token
unfoldable pub many_from : {C A : Type 0} → (Token → Option C) → Parser A → ℕ → Parser (List A)
many_from test p zero = pure []
many_from test p (suc n) = by_told test (λ _. cons <$> (p ⊗ many_from test p n)) (pure [])

abbrev pub many : {C A : Type 0} → (Token → Option C) → Parser A → Parser (List A)
many test p = λ i. many_from test p (length i) i

-- the same, but one that is a last one ends them
unfoldable pub chain_from : {C A : Type 0} → (Token → Option C) → (A → Bool) → Parser A → ℕ → Parser (List A)
chain_from test is_last p zero = pure []
chain_from test is_last p (suc n) = by_told test (λ _. cons <$> (p ▷ (λ x. if is_last x then pure [] else chain_from test is_last p n))) (pure [])

abbrev pub chain : {C A : Type 0} → (Token → Option C) → (A → Bool) → Parser A → Parser (List A)
chain test is_last p = λ i. chain_from test is_last p (length i) i

-- where one more part may hold a token
abbrev pub guarded : {A : Type 0} → ℕ → Parser A → Parser A
guarded zero p = too_deep
guarded (suc d) p = p

-- ---- what a function that reads ensures: the outcome of the parser, unless memory fails

abbrev pub Reads : {A : Type 0} → Outcome A → Result A ParseErr → List Token → Type 0
Reads outcome (Ok a) new = outcome ≡ Ok (a, new)
Reads outcome (Err e) new = e ≢ Memory → outcome ≡ Err e
