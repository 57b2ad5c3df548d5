-- The turns of the loop that climbs.
use Rattle.std.proofs.Common.{◌≡◌, ◌≢◌, ℕ, zero, suc, ◌-◌, ◌<◌, ◌≤◌, ◌^◌, min, length, Bool, true, false, if◌then◌else◌, nat_lt, nat_le, List, Option, Some, None, Ok, Err, refl, ap, ◌∙◌, arith}
use Rattle.std.proofs.lemmas.Bool.Decides.{nat_tests}
use Rattle.sv_outside.specs.declared.text.Token.{Token}
use Rattle.sv_tree.specs.declared.exprs.Expr.{Expr}
use Rattle.sv_cursor.specs.declared.error.ParseErr.{ParseErr}
use Rattle.sv_cursor.specs.declared.error.ParseErr.TheVariants.{Memory, TooDeep}
use Rattle.sv_cursor.specs.Parsers.{Outcome, Parser, and_then, pure, told, branch, ◌>>=◌, Reads}
use Rattle.sv_expr_reader.specs.Reading.{height, first_at, too_high, operated, climb}
use Rattle.sv_tree.specs.Nesting.{expr_depths}
use Rattle.sv_expr_reader.specs.Heights.{capped}
use Rattle.sv_expr_reader.specs.Climbing.{goes_on}
use Rattle.sv_expr_words.specs.declared.openers.Joiner.{Joiner}
use Rattle.sv_expr_words.specs.Signs.{joiner_test, strength_of}

pub fits : (x : Expr) (high d : ℕ) → d ≤ 255 → high ≡ capped x → nat_lt high d ≡ nat_lt (height x) d
unfolding capped
fits x high d le is = grind (arith, nat_tests)

pub refused_high : (d : ℕ) (x : Expr) (from i : List Token) (before all deep left : ℕ) → all < 2 ^ 64 → before ≡ min (first_at d (expr_depths x)) (2 ^ 64 - 1) → all ≡ length from
    → deep ≡ all - before → left ≡ length i → TooDeep deep left ≡ too_high d x from i
refused_high d x from i before all deep left small is whole there shown =
    let e : deep ≡ length from - first_at d (expr_depths x) = omega (arith, is, whole, there) in ap (λ n. TooDeep n left) e ∙ ap (λ n. TooDeep (length from - first_at d (expr_depths x)) n) shown

module _ (d : ℕ) (expr : ℕ → Parser Expr) (least : ℕ) (from : List Token) where
  abbrev turn : ℕ → Expr → Joiner → Parser Expr
  turn n left j = if nat_lt (height left) d then (operated d expr left j >>= climb d expr least from n) else (λ i. Err (too_high d left from i))

  by_strength : (b : Bool) (n : ℕ) (left : Expr) (j : Joiner) (i : List Token)
      → (if b then pure left else turn n left j) i ≡ branch (if b then None else Some j) (turn n left) (pure left) i
  by_strength true n left j i = refl
  by_strength false n left j i = refl

  by_joiner : (q : Option Joiner) (n : ℕ) (left : Expr) (i : List Token) → branch q (λ j. if nat_le (strength_of (Some j)) least then pure left else turn n left j) (pure left) i ≡ branch (goes_on least q) (turn n left) (pure left) i
  by_joiner None n left i = refl
  by_joiner (Some j) n left i = by_strength (nat_le (strength_of (Some j)) least) n left j i

  climb_step : (n : ℕ) (left : Expr) (i : List Token) → climb d expr least from (suc n) left i ≡ branch (goes_on least (told joiner_test i)) (turn n left) (pure left) i
  unfolding climb
  climb_step n left i = by_joiner (told joiner_test i) n left i

  pub climb_ends : (start : Outcome Expr) (n : ℕ) (left : Expr) (i : List Token) → goes_on least (told joiner_test i) ≡ None
      → start ≡ climb d expr least from n left i → start ≡ Ok (left, i)
  unfolding climb
  climb_ends start zero left i none e = e
  climb_ends start (suc n) left i none e = e ∙ (climb_step n left i ∙ ap (λ q. branch q (turn n left) (pure left) i) none)

  pub climb_stops : (start : Outcome Expr) (n : ℕ) (left : Expr) (i : List Token) → n ≤ 0 → start ≡ climb d expr least from n left i → start ≡ Ok (left, i)
  unfolding climb
  climb_stops start zero left i le e = e
  climb_stops start (suc n) left i le e = absurd (omega arith)

  turned : (start : Outcome Expr) (n m : ℕ) (left : Expr) (i : List Token) (j : Joiner) → n ≡ suc m → goes_on least (told joiner_test i) ≡ Some j
      → start ≡ climb d expr least from n left i → start ≡ turn m left j i
  turned start n m left i j en some e =
      e ∙ (ap (λ k. climb d expr least from k left i) en ∙ (climb_step m left i ∙ ap (λ q. branch q (turn m left) (pure left) i) some))

  pub climb_again : (start : Outcome Expr) (n m : ℕ) (left : Expr) (i : List Token) (j : Joiner) → n ≡ suc m → goes_on least (told joiner_test i) ≡ Some j
      → nat_lt (height left) d ≡ false → start ≡ climb d expr least from n left i → start ≡ Err (too_high d left from i)
  climb_again start n m left i j en some high e =
      turned start n m left i j en some e ∙ ap (λ b. (if b then (operated d expr left j >>= climb d expr least from m) else (λ i. Err (too_high d left from i))) i) high

  low_turn : (start : Outcome Expr) (n m : ℕ) (left : Expr) (i : List Token) (j : Joiner) → n ≡ suc m → goes_on least (told joiner_test i) ≡ Some j
      → nat_lt (height left) d ≡ true → start ≡ climb d expr least from n left i → start ≡ and_then (operated d expr left j i) (climb d expr least from m)
  low_turn start n m left i j en some low e =
      turned start n m left i j en some e ∙ ap (λ b. (if b then (operated d expr left j >>= climb d expr least from m) else (λ i. Err (too_high d left from i))) i) low

  pub climb_fails : (start : Outcome Expr) (n m : ℕ) (left : Expr) (i new : List Token) (j : Joiner) (z : ParseErr) → n ≡ suc m
      → goes_on least (told joiner_test i) ≡ Some j → nat_lt (height left) d ≡ true → start ≡ climb d expr least from n left i
      → Reads {A = Expr} (operated d expr left j i) (Err z) new → z ≢ Memory → start ≡ Err z
  climb_fails start n m left i new j z en some low e h real = low_turn start n m left i j en some low e ∙ ap (λ r. and_then r (climb d expr least from m)) (h real)

  pub climb_goes : (start : Outcome Expr) (n m : ℕ) (left x : Expr) (i k : List Token) (j : Joiner) → n ≡ suc m → goes_on least (told joiner_test i) ≡ Some j
      → nat_lt (height left) d ≡ true → start ≡ climb d expr least from n left i → operated d expr left j i ≡ Ok (x, k) → start ≡ climb d expr least from m x k
  climb_goes start n m left x i k j en some low e h = low_turn start n m left i j en some low e ∙ ap (λ r. and_then r (climb d expr least from m)) h

pub deeper : {X : Type 0} (f : ℕ → X) (n : ℕ) → 0 < n → f n ≡ f (suc (n - 1))
deeper f n some = let e : n ≡ suc (n - 1) = omega arith in ap f e
