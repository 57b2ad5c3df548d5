-- The reader of the selects behind the name of a target, which is no expression: what lies in the selects counts from there.
use Rattle.std.proofs.Common.{◌≡◌, ℕ, zero, suc, List, [], ◌∷◌, ◌++◌, length, None, refl, sym, ◌∙◌, ap, subst, arith}
use Rattle.sv_outside.specs.declared.text.Token.{Token}
use Rattle.sv_tree.specs.declared.exprs.Select.{Select}
use Rattle.sv_tree.specs.GrammarStmts.{SpellsChain}
use Rattle.sv_tree.specs.Nesting.{Depths, in_expr, select_depths, each_depths}
use Rattle.sv_tree.proofs.Framed.{length_in}
use Rattle.sv_cursor.specs.Parsers.{told}
use Rattle.sv_cursor.proofs.Readers.{IsReader, BadAt, nests_reader, less_reader}
use Rattle.sv_expr_words.specs.Signs.{select_test}
use Rattle.sv_expr_reader.specs.Reading.{expr, selects}
use Rattle.sv_expr_reader.proofs.Tokens.{Bad, in_append}
use Rattle.sv_expr_reader.proofs.SelectParts.{select_part, selects_reader, chain_of, of_chain}
use Rattle.sv_expr_reader.proofs.Laws.{reads}

nil_in : in_expr [] ≡ []
unfolding in_expr
nil_in = refl

parts_in : (all : List Select) → each_depths select_part all ≡ in_expr (each_depths select_depths all)
parts_in [] = sym nil_in
parts_in (x ∷ all) = ap (λ l. in_expr (select_depths x) ++ l) (parts_in all) ∙ sym (in_append (select_depths x) (each_depths select_depths all))

parts_length : (all : List Select) → length (each_depths select_depths all) ≡ length (each_depths select_part all)
parts_length all = sym (length_in (each_depths select_depths all)) ∙ ap length (sym (parts_in all))

bad_out : (d : ℕ) (ns : Depths) (k : ℕ) → BadAt (Bad (suc d)) (in_expr ns) k → BadAt (Bad d) ns k
unfolding in_expr
bad_out d [] k h = absurd h
bad_out d (n ∷ ns) zero h = omega arith
bad_out d (n ∷ ns) (suc k) h = bad_out d ns k h

bad_parts : (d : ℕ) (all : List Select) (k : ℕ) → BadAt (Bad (suc d)) (each_depths select_part all) k → BadAt (Bad d) (each_depths select_depths all) k
bad_parts d all k h = bad_out d (each_depths select_depths all) k (subst (λ ns. BadAt (Bad (suc d)) ns k) (parts_in all) h)

-- no select stands there
abbrev pub NoSelect : List Token → Type 0
NoSelect o = told select_test o ≡ None

pub target_selects_reader : (d : ℕ) → IsReader (Bad d) d SpellsChain SpellsChain (each_depths select_depths) NoSelect (selects d (expr d))
target_selects_reader d =
    nests_reader (Bad (suc d)) (Bad d) (each_depths select_part) (each_depths select_depths) parts_length (bad_parts d) d SpellsChain SpellsChain NoSelect (selects d (expr d))
    (less_reader (Bad (suc d)) d d _ _ SpellsChain SpellsChain (each_depths select_part) _ NoSelect (selects d (expr d)) (selects_reader d (expr d) (reads d).parts) (omega arith)
    of_chain chain_of (λ o h. (h, tt)))
