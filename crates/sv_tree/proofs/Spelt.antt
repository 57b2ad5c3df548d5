-- A small expression, and the tokens that spell it.
use Rattle.std.proofs.Common.{ℕ, List, [], ◌∷◌, refl, codes, arith}
use Rattle.sv_outside.specs.declared.refusal.Place.{Place}
use Rattle.sv_outside.specs.declared.text.Kind.TheVariants as k
use Rattle.sv_outside.specs.declared.text.Token.{Token}
use Rattle.sv_tree.specs.declared.exprs.Expr.{Expr, Name', Binary', end_of-Select, more_of-Expr, end_of-Expr}
use Rattle.sv_tree.specs.declared.exprs.BinaryOp.TheVariants as two
use Rattle.sv_outside.specs.Words.{reserved_words, grammar_words, out_of_scope_words}
use Rattle.sv_tree.specs.GrammarExprs.{Spells}

abbrev here : Place
here = record { file = 0; line = 1; column = 1 }

abbrev name : List ℕ → Expr
name t = Name' (record { text = t; place = here }) [] end_of-Select

abbrev word : List ℕ → Token
word t = record { kind = k.Word; text = t; place = here }

abbrev mark : List ℕ → Token
mark t = record { kind = k.Mark; text = t; place = here }

name-spelled : (n : ℕ) (t : List Token) → Spells n (name (codes "a")) (word (codes "a") ∷ t) t
unfolding reserved_words grammar_words out_of_scope_words
name-spelled n t = (t, ((refl, refl, refl, refl), refl), refl)

-- a + a * a, the product being the right part
sum-spelled : Spells 0 (Binary' tt (more_of-Expr (name (codes "a")) end_of-Expr) two.Add here tt
    (more_of-Expr (Binary' tt (more_of-Expr (name (codes "a")) end_of-Expr) two.Mul here tt (more_of-Expr (name (codes "a")) end_of-Expr)) end_of-Expr))
    (word (codes "a") ∷ mark (codes "+") ∷ word (codes "a") ∷ mark (codes "*") ∷ word (codes "a") ∷ []) []
sum-spelled =
    (omega arith, (_, name-spelled 10 _, (_, ((refl, refl, refl), refl), (omega arith, (_, name-spelled 11 _, (_, ((refl, refl, refl), refl), name-spelled 12 []))))))
