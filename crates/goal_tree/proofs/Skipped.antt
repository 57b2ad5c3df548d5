-- What is left behind a token and behind an expression.
use Rattle.std.proofs.Common.{◌≡◌, ℕ, ◌-◌, List, length, drop, Option, Some, None, Ok, sym, ◌∙◌, ap, subst, arith}
use Rattle.sv_outside.specs.declared.text.Token.{Token}
use Rattle.sv_tree.specs.declared.exprs.Expr.{Expr}
use Rattle.sv_tree.specs.GrammarExprs.{Spells}
use Rattle.sv_tree.specs.Nesting.{expr_depths}
use Rattle.sv_tree.proofs.Counted.{counted_expr}
use Rattle.sv_cursor.specs.Parsers.{Outcome, token, told, take_told, next}
use Rattle.sv_cursor.proofs.Readers.{Meets}
use Rattle.sv_expr_reader.proofs.Laws.{expr_reader}
use Rattle.goal_tree.specs.Reading.{expression, last}

module _ {A : Type 0} (i j : List Token) (a : A) where
  taken : (q : Option A) → ◌≡◌ {A = Outcome A} (take_told q i) (Ok (a, j)) → ◌≡◌ {A = Outcome A} (take_told q i) (Ok (a, next i))
  taken None e = absurd (cc)
  taken (Some x) e = let f : ◌≡◌ {A = A × List Token} (x, next i) (a, j) = cc in ap (λ (p : A × List Token). Ok (p.0, next i)) f

  pub goes_behind : (test : Token → Option A) → token test i ≡ Ok (a, j) → token test i ≡ Ok (a, next i)
  unfolding token
  goes_behind test e = taken (told test i) e

pub behind_expression : (i j : List Token) (x : Expr) → expression i ≡ Ok (x, j) → last (length j) i ≡ j
behind_expression i j x e =
    let h : Spells 0 x i j = subst (λ r. Meets r (λ a k. Spells 0 a i k)) e ((expr_reader 201 0 (omega arith)).sound i) in
    let c = (counted_expr 0 x).count i j h in
    let n : length i - length j ≡ length (expr_depths x) = omega arith in ap (λ k. drop k i) n ∙ sym ((counted_expr 0 x).rest i j h)

pub expression_read : (i new out : List Token) (x : Expr) (n : ℕ) → expression i ≡ Ok (x, new) → n ≡ length new → out ≡ last n i → expression i ≡ Ok (x, out)
expression_read i new out x n e len is = e ∙ ap (λ o. Ok (x, o)) (sym (is ∙ ap (λ k. last k i) len ∙ behind_expression i new x e))
