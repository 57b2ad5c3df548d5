-- The parts of expressions are read as they are spelled.
use Rattle.std.proofs.Common.{◌≡◌, ℕ, suc, ◌≤◌, List, [], ◌∷◌, ◌++◌, codes, refl, sym, ap, arith}
use Rattle.sv_outside.specs.declared.refusal.Place.{Place}
use Rattle.sv_outside.specs.declared.text.Token.{Token}
use Rattle.sv_tree.specs.declared.exprs.Expr.{Expr}
use Rattle.sv_tree.specs.Spelling.{Spelled, ◌⨟◌, mark as mark_spelled, mark_at}
use Rattle.sv_tree.specs.GrammarExprs.{Spells}
use Rattle.sv_tree.specs.Nesting.{Depths, one, two, in_expr, expr_depths}
use Rattle.sv_cursor.specs.declared.sort.Mark.TheVariants as m
use Rattle.sv_cursor.specs.Sorts.{mark_text}
use Rattle.sv_cursor.specs.Tests.{same_mark, mark}
use Rattle.sv_cursor.specs.Parsers.{Parser, ◌⊗◌}
use Rattle.sv_cursor.proofs.Readers.{IsReader, IsMoved, pair_reader, equal_reader, nests_reader, moved_pair}
use Rattle.sv_expr_reader.specs.Reading.{parens, cast}
use Rattle.sv_tree.proofs.Framed.{length_in}
use Rattle.sv_expr_reader.proofs.Tokens.{Bad, outside, deeper, inner, part, Stops, Any, stops_at_mark, placed_mark, some_mark, mark_reader, moved_mark, moved_part, in_append, bad_in}

abbrev pub IsParts : ℕ → (ℕ → Parser Expr) → Type 0
IsParts d expr = (n : ℕ) → n ≤ 13 → IsReader (Bad d) d (Spells n) (Spells n) expr_depths (Stops n) (expr n)

-- one token of a part
abbrev pub own : Depths
own = deeper outside ∷ []

abbrev pub ParensSpelled : Place × (Expr × Place) → Spelled
ParensSpelled c = mark_at (codes "(") c.0 ⨟ (Spells 0 c.1.0 ⨟ mark_at (codes ")") c.1.1)

abbrev pub parens_nests : Place × (Expr × Place) → Depths
parens_nests c = inner c.0 ++ (part c.1.0 ++ inner c.1.1)

-- `'`, and a part in parentheses
abbrev pub CastSpelled : Expr → Spelled
CastSpelled x = mark_spelled (codes "'") ⨟ mark_spelled (codes "(") ⨟ Spells 0 x ⨟ mark_spelled (codes ")")

abbrev pub cast_nests : Expr → Depths
cast_nests x = in_expr (two ++ (expr_depths x ++ one))

stops_at_paren : (q : Place) (t o : List Token) → mark_at (codes ")") q t o → Stops 0 t
unfolding mark_text same_mark
stops_at_paren q t o h = stops_at_mark 0 m.RightParen refl refl (omega arith) q t o h

module _ (d : ℕ) (expr : ℕ → Parser Expr) (parts : IsParts d expr) where
  pub part_reader : (n : ℕ) → n ≤ 13 → IsReader (Bad (suc d)) d (Spells n) (Spells n) part (Stops n) (expr n)
  part_reader n le = nests_reader (Bad d) (Bad (suc d)) expr_depths part (λ x. length_in (expr_depths x)) (λ x k h. bad_in d (expr_depths x) k h) d (Spells n) (Spells n) (Stops n) (expr n) (parts n le)

  pub parens_reader : IsReader (Bad (suc d)) (suc d) ParensSpelled ParensSpelled parens_nests Any (parens d expr)
  unfolding mark_text
  parens_reader =
      pair_reader (Bad (suc d)) (suc d) d (suc d) (mark_at (codes "(")) inner Any (mark m.LeftParen)
      (λ _ c. Spells 0 c.0 ⨟ mark_at (codes ")") c.1) (λ c. part c.0 ++ inner c.1) Any (λ _. expr 0 ⊗ mark m.RightParen)
      (moved_mark m.LeftParen) (mark_reader (suc d) (suc d) m.LeftParen)
      (λ _. pair_reader (Bad (suc d)) d d d (Spells 0) part (Stops 0) (expr 0) (λ _. mark_at (codes ")")) inner Any (λ _. mark m.RightParen)
      (moved_part 0) (part_reader 0 (omega arith)) (λ _. mark_reader (suc d) d m.RightParen) (λ x q t o h stops. stops_at_paren q t o h) (omega arith) (λ x i o h. omega arith))
      (λ p c t o h stops. tt) (omega arith) (λ p i o h. omega arith)

  pub moved_parens : IsMoved ParensSpelled parens_nests
  unfolding mark_text
  moved_parens =
      moved_pair (mark_at (codes "(")) inner (λ _ c. Spells 0 c.0 ⨟ mark_at (codes ")") c.1) (λ c. part c.0 ++ inner c.1) (moved_mark m.LeftParen)
      (λ _. moved_pair (Spells 0) part (λ _. mark_at (codes ")")) inner (moved_part 0) (λ _. moved_mark m.RightParen))

  pub cast_to_tuple : (x : Expr) (i o : List Token) → CastSpelled x i o
      → (c : Place × (Place × (Expr × Place))) × (c.1.1.0 ≡ x) × (mark_at (codes "'") c.0 ⨟ ParensSpelled c.1) i o
  cast_to_tuple x i o h =
      let a = placed_mark (codes "'") i h.0 h.1 in
      let b = placed_mark (codes "(") h.0 h.2.0 h.2.1 in
      let c = placed_mark (codes ")") h.2.2.0 o h.2.2.2 in
      ((a.0, (b.0, (x, c.0))), refl, (h.0, a.1, (h.2.0, b.1, (h.2.2.0, h.2.2.1, c.1))))

  pub cast_of_tuple : (c : Place × (Place × (Expr × Place))) (i o : List Token) → (mark_at (codes "'") c.0 ⨟ ParensSpelled c.1) i o → CastSpelled c.1.1.0 i o
  cast_of_tuple c i o h = (h.0, some_mark (codes "'") c.0 i h.0 h.1, (h.2.0, some_mark (codes "(") c.1.0 h.0 h.2.0 h.2.1, (h.2.2.0, h.2.2.1, some_mark (codes ")") c.1.1.1 h.2.2.0 o h.2.2.2)))

  cast_nested : (x : Expr) → own ++ (own ++ (part x ++ own)) ≡ cast_nests x
  unfolding in_expr
  cast_nested x = ap (λ l. deeper outside ∷ deeper outside ∷ l) (sym (in_append (expr_depths x) one))

  pub cast_reader : IsReader (Bad (suc d)) (suc d) CastSpelled CastSpelled cast_nests Any (cast d expr)
  unfolding mark_text cast
  cast_reader =
      equal_reader (Bad (suc d)) (λ c. inner c.0 ++ parens_nests c.1) cast_nests (λ c. c.1.1.0) (λ c. cast_nested c.1.1.0) (suc d)
      (λ c. mark_at (codes "'") c.0 ⨟ ParensSpelled c.1) (λ c. mark_at (codes "'") c.0 ⨟ ParensSpelled c.1) CastSpelled CastSpelled Any (mark m.Tick ⊗ parens d expr)
      (pair_reader (Bad (suc d)) (suc d) (suc d) (suc d) (mark_at (codes "'")) inner Any (mark m.Tick) (λ _. ParensSpelled) parens_nests Any (λ _. parens d expr)
      (moved_mark m.Tick) (mark_reader (suc d) (suc d) m.Tick) (λ _. parens_reader) (λ p c t o h stops. tt) (omega arith) (λ p i o h. omega arith))
      cast_of_tuple cast_to_tuple
