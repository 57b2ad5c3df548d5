-- Loops that push at the end, beside parsers of lists that put at the front.
use Rattle.std.proofs.Common.{◌≡◌, ◌≢◌, ℕ, zero, suc, ◌≤◌, Bool, true, false, if◌then◌else◌, is_some, List, [], ◌∷◌, ◌++◌, Option, Some, None, Result, Ok, Err, refl, sym, ap, ◌∙◌, append-nil, append_assoc, arith}
use Rattle.std.specs.Result.{IsErrAnd}
use Rattle.sv_outside.specs.declared.text.Token.{Token}
use Rattle.sv_cursor.specs.declared.error.ParseErr.{ParseErr}
use Rattle.sv_cursor.specs.declared.error.ParseErr.TheVariants.{Memory}
use Rattle.sv_cursor.specs.Parsers.{Outcome, Parser, and_then, pure, told, branch, ◌>>=◌, ◌<$>◌, ◌⊗◌, ◌▷◌, cons, many_from, chain_from, Reads}

-- what is handed on by `?`
pub handed : {A : Type 0} (start : Outcome A) (r : Result A ParseErr) (z : ParseErr) (new : List Token) → IsErrAnd r (λ y. y ≡ z) → (z ≢ Memory → start ≡ Err z) → Reads start r new
handed start (Ok a) z new h f = absurd h
handed start (Err y) z new h f = λ real. f (λ e. real (h ∙ e)) ∙ ap Err (sym h)

-- what was found before, and then what is read
abbrev pub after : {A : Type 0} → List A → Outcome (List A) → Outcome (List A)
after found r = and_then r (λ more. pure (found ++ more))

pub after_none : {A : Type 0} (r : Outcome (List A)) → after [] r ≡ r
after_none (Ok p) = refl
after_none (Err z) = refl

after_cons : {A : Type 0} (found : List A) (x : A) (r : Outcome (List A)) → after found (and_then (and_then r (λ more. pure (x, more))) (λ p. pure (cons p))) ≡ after (found ++ x ∷ []) r
after_cons found x (Ok p) = ap (λ l. Ok (l, p.1)) (sym (append_assoc found (x ∷ []) p.0))
after_cons found x (Err z) = refl

none_told : {C : Type 0} (q : Option C) → is_some q ≡ false → q ≡ None
none_told None e = refl
none_told (Some c) e = absurd (cc)

some_told : {C : Type 0} (q : Option C) → is_some q ≡ true → (c : C) × (q ≡ Some c)
some_told None e = absurd (cc)
some_told (Some c) e = (c, refl)

module _ {C A : Type 0} (test : Token → Option C) (p : Parser A) where
  many_none : (n : ℕ) (i : List Token) → told test i ≡ None → many_from test p n i ≡ Ok ([], i)
  unfolding many_from
  many_none zero i e = refl
  many_none (suc n) i e = ap (λ q. branch q (λ _. cons <$> (p ⊗ many_from test p n)) (pure []) i) e

  many_some : (n : ℕ) (i : List Token) → is_some (told test i) ≡ true → many_from test p (suc n) i ≡ (cons <$> (p ⊗ many_from test p n)) i
  unfolding many_from
  many_some n i e = let g = some_told (told test i) e in ap (λ q. branch q (λ _. cons <$> (p ⊗ many_from test p n)) (pure []) i) g.1

  pub many_ends : (start : Outcome (List A)) (found : List A) (n : ℕ) (i : List Token) → is_some (told test i) ≡ false
      → start ≡ after found (many_from test p n i) → start ≡ Ok (found, i)
  many_ends start found n i none e = e ∙ (ap (after found) (many_none n i (none_told (told test i) none)) ∙ ap (λ l. Ok (l, i)) (append-nil found))

  pub many_stops : (start : Outcome (List A)) (found : List A) (n : ℕ) (i : List Token) → n ≤ 0
      → start ≡ after found (many_from test p n i) → start ≡ Ok (found, i)
  unfolding many_from
  many_stops start found zero i le e = e ∙ ap (λ l. Ok (l, i)) (append-nil found)
  many_stops start found (suc n) i le e = absurd (omega arith)

  -- one turn of n that are left, and m after it
  many_turn : (start : Outcome (List A)) (found : List A) (n m : ℕ) (i : List Token) → n ≡ suc m → is_some (told test i) ≡ true
      → start ≡ after found (many_from test p n i) → start ≡ after found ((cons <$> (p ⊗ many_from test p m)) i)
  many_turn start found n m i en some e = e ∙ (ap (λ k. after found (many_from test p k i)) en ∙ ap (after found) (many_some m i some))

  pub many_fails : (start : Outcome (List A)) (found : List A) (n m : ℕ) (i new : List Token) (z : ParseErr) → n ≡ suc m → is_some (told test i) ≡ true
      → start ≡ after found (many_from test p n i) → Reads {A = A} (p i) (Err z) new → z ≢ Memory → start ≡ Err z
  many_fails start found n m i new z en some e h real =
      many_turn start found n m i en some e ∙ ap (λ r. after found (and_then (and_then r (λ a. many_from test p m >>= (λ b. pure (a, b)))) (λ c. pure (cons c)))) (h real)

  pub many_goes : (start : Outcome (List A)) (found : List A) (n m : ℕ) (i j : List Token) (x : A) → n ≡ suc m → is_some (told test i) ≡ true
      → start ≡ after found (many_from test p n i) → p i ≡ Ok (x, j) → start ≡ after (found ++ x ∷ []) (many_from test p m j)
  many_goes start found n m i j x en some e h =
      many_turn start found n m i en some e
      ∙ (ap (λ r. after found (and_then (and_then r (λ a. many_from test p m >>= (λ b. pure (a, b)))) (λ c. pure (cons c)))) h ∙ after_cons found x (many_from test p m j))

  module _ (is_last : A → Bool) where
    abbrev tail_of : ℕ → A → Parser (List A)
    tail_of n x = if is_last x then pure [] else chain_from test is_last p n

    chain_none : (n : ℕ) (i : List Token) → told test i ≡ None → chain_from test is_last p n i ≡ Ok ([], i)
    unfolding chain_from
    chain_none zero i e = refl
    chain_none (suc n) i e = ap (λ q. branch q (λ _. cons <$> (p ▷ tail_of n)) (pure []) i) e

    chain_some : (n : ℕ) (i : List Token) → is_some (told test i) ≡ true → chain_from test is_last p (suc n) i ≡ (cons <$> (p ▷ tail_of n)) i
    unfolding chain_from
    chain_some n i e = let g = some_told (told test i) e in ap (λ q. branch q (λ _. cons <$> (p ▷ tail_of n)) (pure []) i) g.1

    pub chain_ends : (start : Outcome (List A)) (found : List A) (n : ℕ) (i : List Token) → is_some (told test i) ≡ false
        → start ≡ after found (chain_from test is_last p n i) → start ≡ Ok (found, i)
    chain_ends start found n i none e = e ∙ (ap (after found) (chain_none n i (none_told (told test i) none)) ∙ ap (λ l. Ok (l, i)) (append-nil found))

    pub chain_stops : (start : Outcome (List A)) (found : List A) (n : ℕ) (i : List Token) → n ≤ 0
        → start ≡ after found (chain_from test is_last p n i) → start ≡ Ok (found, i)
    unfolding chain_from
    chain_stops start found zero i le e = e ∙ ap (λ l. Ok (l, i)) (append-nil found)
    chain_stops start found (suc n) i le e = absurd (omega arith)

    chain_turn : (start : Outcome (List A)) (found : List A) (n m : ℕ) (i : List Token) → n ≡ suc m → is_some (told test i) ≡ true
        → start ≡ after found (chain_from test is_last p n i) → start ≡ after found ((cons <$> (p ▷ tail_of m)) i)
    chain_turn start found n m i en some e = e ∙ (ap (λ k. after found (chain_from test is_last p k i)) en ∙ ap (after found) (chain_some m i some))

    pub chain_fails : (start : Outcome (List A)) (found : List A) (n m : ℕ) (i new : List Token) (z : ParseErr) → n ≡ suc m → is_some (told test i) ≡ true
        → start ≡ after found (chain_from test is_last p n i) → Reads {A = A} (p i) (Err z) new → z ≢ Memory → start ≡ Err z
    chain_fails start found n m i new z en some e h real =
        chain_turn start found n m i en some e ∙ ap (λ r. after found (and_then (and_then r (λ a. tail_of m a >>= (λ b. pure (a, b)))) (λ c. pure (cons c)))) (h real)

    chain_step : (start : Outcome (List A)) (found : List A) (n m : ℕ) (i j : List Token) (x : A) → n ≡ suc m → is_some (told test i) ≡ true
        → start ≡ after found (chain_from test is_last p n i) → p i ≡ Ok (x, j) → start ≡ after (found ++ x ∷ []) (tail_of m x j)
    chain_step start found n m i j x en some e h =
        chain_turn start found n m i en some e
        ∙ (ap (λ r. after found (and_then (and_then r (λ a. tail_of m a >>= (λ b. pure (a, b)))) (λ c. pure (cons c)))) h ∙ after_cons found x (tail_of m x j))

    pub chain_last : (start : Outcome (List A)) (found : List A) (n m : ℕ) (i j : List Token) (x : A) → n ≡ suc m → is_some (told test i) ≡ true
        → start ≡ after found (chain_from test is_last p n i) → p i ≡ Ok (x, j) → is_last x ≡ true → start ≡ Ok (found ++ x ∷ [], j)
    chain_last start found n m i j x en some e h last =
        chain_step start found n m i j x en some e h
        ∙ (ap (λ b. after (found ++ x ∷ []) ((if b then pure [] else chain_from test is_last p m) j)) last ∙ ap (λ l. Ok (l, j)) (append-nil (found ++ x ∷ [])))

    pub chain_goes : (start : Outcome (List A)) (found : List A) (n m : ℕ) (i j : List Token) (x : A) → n ≡ suc m → is_some (told test i) ≡ true
        → start ≡ after found (chain_from test is_last p n i) → p i ≡ Ok (x, j) → is_last x ≡ false → start ≡ after (found ++ x ∷ []) (chain_from test is_last p m j)
    chain_goes start found n m i j x en some e h last =
        chain_step start found n m i j x en some e h ∙ ap (λ b. after (found ++ x ∷ []) ((if b then pure [] else chain_from test is_last p m) j)) last
