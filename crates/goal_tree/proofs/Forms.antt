-- Goals are read as they are spelled.
use Rattle.std.proofs.Common.{◌≡◌, ◌<◌, List, [], ◌∷◌, length, codes, Some, None, refl, append_assoc, arith}
use Rattle.sv_outside.specs.declared.refusal.Place.{Place}
use Rattle.sv_outside.specs.declared.text.Token.{Token}
use Rattle.sv_tree.specs.declared.word.Word.{Word}
use Rattle.sv_tree.specs.declared.exprs.Expr.{Expr}
use Rattle.sv_tree.specs.Spelling.{Text, Spelled, mark as mark_spelled, each}
use Rattle.sv_tree.specs.Nesting.{Nesting, each_depths, expr_depths}
use Rattle.sv_tree.proofs.Counted.{counted_expr}
use Rattle.sv_tree.specs.GrammarExprs.{Spells}
use Rattle.sv_cursor.specs.declared.sort.Mark.TheVariants as m
use Rattle.sv_cursor.specs.Sorts.{mark_text}
use Rattle.sv_cursor.specs.Tests.{same_mark}
use Rattle.sv_cursor.specs.Parsers.{told}
use Rattle.sv_cursor.proofs.Readers.{IsReader, IsMoved, less_reader}
use Rattle.sv_expr_reader.proofs.Laws.{expr_reader}
use Rattle.sv_expr_reader.proofs.Tokens.{Any, Bad, Stops, placed_mark, stops_at_mark}
use Rattle.goal_tree.proofs.Rules.{Rule, the_mark, before, seq, closing, several, some_rule, tree_reads, tree_moved, name_rule, rule_of}
use Rattle.goal_tree.specs.declared.tree.GoalTree.{GoalTree}
use Rattle.goal_tree.specs.Goals as g
use Rattle.goal_tree.specs.Goals.{some, SpellsGoal, statement_depths, goal_depths, goals_depths}
use Rattle.goal_tree.specs.Reading.{word_test, statement, statements, some_statements, made_goal, goal, goals, expression}
use Rattle.goal_tree.proofs.Words.{the_word, word_begins, other_word, no_word}

abbrev pub Top : Nesting → Type 0
Top = Bad 201

-- ---- statements

semicolon_ends : (t o : List Token) → mark_spelled (mark_text m.Semicolon) t o → Stops 0 t
unfolding same_mark
semicolon_ends t o h = let p = placed_mark (mark_text m.Semicolon) t o h in stops_at_mark 0 m.Semicolon refl refl (omega arith) p.0 t o p.1

expression_reads : IsReader Top 200 (Spells 0) (Spells 0) expr_depths (Stops 0) expression
expression_reads =
    less_reader Top 201 200 (Spells 0) (Spells 0) (Spells 0) (Spells 0) expr_depths (Stops 0) (Stops 0) expression (expr_reader 201 0 (omega arith)) (omega arith) (λ a i o h. h) (λ a i o h. h) (λ o h. h)

abbrev expression_rule : Rule Top 200 Expr
expression_rule = rule_of expression_reads (counted_expr 0)

abbrev statement_tuple : Text → Rule Top 200 Expr
statement_tuple text = before (the_word Top text) (closing expression_rule (the_mark Top m.Semicolon) semicolon_ends)

statement_reads : (text : Text) → IsReader Top 200 (g.statement text) (g.statement text) statement_depths Any (statement text)
unfolding statement mark_text
statement_reads text = (statement_tuple text).reads

statement_moved : (text : Text) → IsMoved (g.statement text) statement_depths
unfolding mark_text
statement_moved text = (statement_tuple text).moved

abbrev statement_rule : Text → Rule Top 200 Expr
statement_rule text = record { spelled = g.statement text; nests = statement_depths; stops = Any; parser = statement text; reads = statement_reads text; moved = statement_moved text }

statement_begins : (text : Text) (x : Expr) (i o : List Token) → g.statement text x i o → (p : Place) × (told (word_test text) i ≡ Some p)
statement_begins text x i o h = word_begins text i h.0 h.1

statement_grows : (x : Expr) → 0 < length (statement_depths x)
statement_grows x = omega arith

-- no statement of the word follows
abbrev Ended : Text → List Token → Type 0
Ended text o = (told (word_test text) o ≡ None) × Any o

abbrev statements_rule : Text → Rule Top 200 (List Expr)
statements_rule text = several (word_test text) (statement_rule text) (statement_begins text) (λ x i o h. statement_grows x) (λ p i h. tt)

abbrev some_tuple : Text → Rule Top 200 (List Expr)
some_tuple text = some_rule (word_test text) (statement_rule text) (statement_begins text) (λ x i o h. statement_grows x) (λ p i h. tt)

hyps_reads : IsReader Top 200 (each (g.statement (codes "hyp"))) (each (g.statement (codes "hyp"))) (each_depths statement_depths) (Ended (codes "hyp")) (statements (codes "hyp"))
unfolding statements
hyps_reads = (statements_rule (codes "hyp")).reads

abbrev hyps_rule : Rule Top 200 (List Expr)
hyps_rule = record {
  spelled = each (g.statement (codes "hyp"));
  nests = each_depths statement_depths;
  stops = Ended (codes "hyp");
  parser = statements (codes "hyp");
  reads = hyps_reads;
  moved = (statements_rule (codes "hyp")).moved;
}

abbrev Claims : List Expr → Spelled
Claims = some (g.statement (codes "claim"))

claims_reads : IsReader Top 200 Claims Claims (each_depths statement_depths) (Ended (codes "claim")) (some_statements (codes "claim"))
unfolding some_statements
claims_reads = (some_tuple (codes "claim")).reads

abbrev claims_rule : Rule Top 200 (List Expr)
claims_rule = record {
  spelled = Claims;
  nests = each_depths statement_depths;
  stops = Ended (codes "claim");
  parser = some_statements (codes "claim");
  reads = claims_reads;
  moved = (some_tuple (codes "claim")).moved;
}

-- ---- goals

brace_ends : (t o : List Token) → mark_spelled (mark_text m.RightBrace) t o → Ended (codes "claim") t
brace_ends t o h = (no_word (codes "claim") (mark_text m.RightBrace) t o h, tt)

claims_end_hyps : (all : List Expr) (t u : List Token) → Claims all t u → Ended (codes "hyp") t
claims_end_hyps [] t u h = absurd h
claims_end_hyps (x ∷ all) t u h = (other_word (codes "hyp") (codes "claim") t h.1.0 refl h.1.1, tt)

abbrev goal_tuple : Rule Top 200 (Word × (List Expr × List Expr))
goal_tuple =
    before (the_word Top (codes "goal"))
    (seq (name_rule Top 200) (before (the_mark Top m.LeftBrace) (seq hyps_rule (closing claims_rule (the_mark Top m.RightBrace) brace_ends) (λ x y i o h stops. claims_end_hyps y i h.0 h.1))) (λ x y i o h stops. tt))

goal_reads : IsReader Top 200 SpellsGoal SpellsGoal goal_depths Any goal
unfolding goal mark_text
goal_reads = tree_reads goal_tuple made_goal SpellsGoal goal_depths (λ c. simp append_assoc) (λ c i o h. h) (λ x i o h. ((x.name, (x.hyps, x.claims)), refl, h))

goal_moved : IsMoved SpellsGoal goal_depths
unfolding mark_text
goal_moved = tree_moved goal_tuple made_goal SpellsGoal goal_depths (λ c. simp append_assoc) (λ x i o h. ((x.name, (x.hyps, x.claims)), refl, h))

abbrev goal_rule : Rule Top 200 GoalTree
goal_rule = record { spelled = SpellsGoal; nests = goal_depths; stops = Any; parser = goal; reads = goal_reads; moved = goal_moved }

goal_begins : (x : GoalTree) (i o : List Token) → SpellsGoal x i o → (p : Place) × (told (word_test (codes "goal")) i ≡ Some p)
goal_begins x i o h = word_begins (codes "goal") i h.0 h.1

goal_grows : (x : GoalTree) → 0 < length (goal_depths x)
goal_grows x = omega arith

abbrev goals_tuple : Rule Top 200 (List GoalTree)
goals_tuple = some_rule (word_test (codes "goal")) goal_rule goal_begins (λ x i o h. goal_grows x) (λ p i h. tt)

abbrev pub Goals : List GoalTree → Spelled
Goals = some SpellsGoal

abbrev pub GoalsEnd : List Token → Type 0
GoalsEnd = Ended (codes "goal")

pub goals_read : IsReader Top 200 Goals Goals goals_depths GoalsEnd goals
unfolding goals
goals_read = goals_tuple.reads

pub goals_moved : IsMoved Goals goals_depths
goals_moved = goals_tuple.moved
