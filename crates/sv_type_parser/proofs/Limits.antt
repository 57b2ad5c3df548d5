-- Tokens that lie too deep by a limit for each kind of nesting, and what stops an expression.
use Rattle.std.proofs.Common.{◌≡◌, ℕ, zero, suc, ◌+◌, ◌≤◌, ◌⊎◌, inl, inr, Bool, true, false, List, [], ◌∷◌, ◌++◌, None, refl, subst, sym, arith}
use Rattle.sv_outside.specs.declared.text.Token.{Token}
use Rattle.sv_tree.specs.declared.word.Word.{Word}
use Rattle.sv_tree.specs.declared.exprs.Expr.{Expr}
use Rattle.sv_tree.specs.declared.forms.Range.{Range}
use Rattle.sv_tree.specs.Spelling.{mark as mark_spelled}
use Rattle.sv_tree.specs.GrammarExprs.{Spells}
use Rattle.sv_tree.specs.Nesting.{Nesting, Depths, one, in_stmt, in_generate, in_type, each_depths, expr_depths}
use Rattle.sv_tree.specs.NestingDesign.{range_depths, named_type_depths}
use Rattle.sv_tree.proofs.Counted.{counted_expr, length_in_type, length_in_stmt}
use Rattle.sv_tree.proofs.CountedDesign.{length_in_generate}
use Rattle.sv_cursor.specs.declared.sort.Mark.{Mark as MarkName}
use Rattle.sv_cursor.specs.declared.sort.Mark.TheVariants as m
use Rattle.sv_cursor.specs.declared.sort.Sort.{Sort}
use Rattle.sv_cursor.specs.declared.sort.Sort.TheVariants as s
use Rattle.sv_cursor.specs.Sorts.{mark_text}
use Rattle.sv_cursor.specs.Tests.{same_mark, is_mark}
use Rattle.sv_cursor.proofs.Readers.{IsReader, BadAt, bad_map, nests_reader, less_reader}
use Rattle.sv_expr_words.specs.Signs.{select_test, joiner_test, strength_of, select_opener, joiner}
use Rattle.sv_expr_reader.proofs.Tokens.{Bad, Stops}
use Rattle.sv_expr_reader.proofs.Laws.{expr_reader}
use Rattle.sv_type_parser.specs.Forms.{expression}
use Rattle.sv_type_parser.proofs.Rules.{Rule, rule_of, IsFirst, first_of_mark, no_mark, deeper}

-- so many statements, generate constructs or types hold the token, or more than may be expressions
abbrev pub Over : ℕ → ℕ → ℕ → Nesting → Type 0
Over s g t n = (201 ≤ n.exprs) ⊎ ((s ≤ n.stmts) ⊎ ((g ≤ n.generates) ⊎ (t ≤ n.types)))

pub bad_weaker : (B C : Nesting → Type 0) → ((n : Nesting) → B n → C n) → (d : Depths) (k : ℕ) → BadAt B d k → BadAt C d k
bad_weaker B C up [] k h = absurd h
bad_weaker B C up (n ∷ d) zero h = up n h
bad_weaker B C up (n ∷ d) (suc k) h = bad_weaker B C up d k h

-- ---- one part more

type_up : (s g t : ℕ) (n : Nesting) → Over s g t n → Over s g (suc t) (record n { types = n.types + 1 })
type_up s g t n (inl h) = inl h
type_up s g t n (inr (inl h)) = inr (inl h)
type_up s g t n (inr (inr (inl h))) = inr (inr (inl h))
type_up s g t n (inr (inr (inr h))) = inr (inr (inr (omega arith)))

stmt_up : (s g t : ℕ) (n : Nesting) → Over s g t n → Over (suc s) g t (record n { stmts = n.stmts + 1 })
stmt_up s g t n (inl h) = inl h
stmt_up s g t n (inr (inl h)) = inr (inl (omega arith))
stmt_up s g t n (inr (inr (inl h))) = inr (inr (inl h))
stmt_up s g t n (inr (inr (inr h))) = inr (inr (inr h))

generate_up : (s g t : ℕ) (n : Nesting) → Over s g t n → Over s (suc g) t (record n { generates = n.generates + 1 })
generate_up s g t n (inl h) = inl h
generate_up s g t n (inr (inl h)) = inr (inl h)
generate_up s g t n (inr (inr (inl h))) = inr (inr (inl (omega arith)))
generate_up s g t n (inr (inr (inr h))) = inr (inr (inr h))

pub type_lifts : (s g t : ℕ) (d : Depths) (k : ℕ) → BadAt (Over s g t) d k → BadAt (Over s g (suc t)) (in_type d) k
unfolding in_type
type_lifts s g t d k h = bad_map (Over s g t) (Over s g (suc t)) (λ n. record n { types = n.types + 1 }) (type_up s g t) d k h

pub stmt_lifts : (s g t : ℕ) (d : Depths) (k : ℕ) → BadAt (Over s g t) d k → BadAt (Over (suc s) g t) (in_stmt d) k
unfolding in_stmt
stmt_lifts s g t d k h = bad_map (Over s g t) (Over (suc s) g t) (λ n. record n { stmts = n.stmts + 1 }) (stmt_up s g t) d k h

pub generate_lifts : (s g t : ℕ) (d : Depths) (k : ℕ) → BadAt (Over s g t) d k → BadAt (Over s (suc g) t) (in_generate d) k
unfolding in_generate
generate_lifts s g t d k h = bad_map (Over s g t) (Over s (suc g) t) (λ n. record n { generates = n.generates + 1 }) (generate_up s g t) d k h

-- the same limit
typed_up : (s g t : ℕ) (n : Nesting) → Over s g t n → Over s g t (record n { types = n.types + 1 })
typed_up s g t n (inl h) = inl h
typed_up s g t n (inr (inl h)) = inr (inl h)
typed_up s g t n (inr (inr (inl h))) = inr (inr (inl h))
typed_up s g t n (inr (inr (inr h))) = inr (inr (inr (omega arith)))

bad_typed : (s g t : ℕ) (a b : Depths) (k : ℕ) → BadAt (Over s g t) (a ++ b) k → BadAt (Over s g t) (in_type a ++ b) k
unfolding in_type
bad_typed s g t [] b k h = h
bad_typed s g t (n ∷ a) b zero h = typed_up s g t n h
bad_typed s g t (n ∷ a) b (suc k) h = bad_typed s g t a b k h

-- a name with its ranges, before other tokens
pub named_type_lifts : (s g t : ℕ) (w : Word) (ranges : List Range) (b : Depths) (k : ℕ) → BadAt (Over s g t) ((one ++ each_depths range_depths ranges) ++ b) k → BadAt (Over s g t) (named_type_depths w ranges ++ b) k
named_type_lifts s g t w [] b k h = h
named_type_lifts s g t w (r ∷ more) b k h = bad_typed s g t (one ++ each_depths range_depths (r ∷ more)) b k h

pub named_type_bad : (s g t : ℕ) (w : Word) (ranges : List Range) (k : ℕ) → BadAt (Over s g t) (one ++ each_depths range_depths ranges) k → BadAt (Over s g t) (named_type_depths w ranges) k
unfolding in_type
named_type_bad s g t w [] k h = h
named_type_bad s g t w (r ∷ more) k h = bad_map (Over s g t) (Over s g t) (λ n. record n { types = n.types + 1 }) (typed_up s g t) (one ++ each_depths range_depths (r ∷ more)) k h

-- the tokens of the rule lie in one type more
abbrev pub typed : {A : Type 0} {depth : ℕ} (s g t : ℕ) → Rule (Over s g t) depth A → Rule (Over s g (suc t)) depth A
typed s g t r = deeper in_type length_in_type (type_lifts s g t) r

abbrev pub stated : {A : Type 0} {depth : ℕ} (s g t : ℕ) → Rule (Over s g t) depth A → Rule (Over (suc s) g t) depth A
stated s g t r = deeper in_stmt length_in_stmt (stmt_lifts s g t) r

abbrev pub generated : {A : Type 0} {depth : ℕ} (s g t : ℕ) → Rule (Over s g t) depth A → Rule (Over s (suc g) t) depth A
generated s g t r = deeper in_generate length_in_generate (generate_lifts s g t) r

-- ---- expressions

pub expression_reads : (s g t d : ℕ) → d ≤ 200 → IsReader (Over s g t) d (Spells 0) (Spells 0) expr_depths (Stops 0) expression
expression_reads s g t d le =
    less_reader (Over s g t) 201 d (Spells 0) (Spells 0) (Spells 0) (Spells 0) expr_depths (Stops 0) (Stops 0) expression
    (nests_reader (Bad 201) (Over s g t) expr_depths expr_depths (λ x. refl) (λ x k h. bad_weaker (Bad 201) (Over s g t) (λ n e. inl e) (expr_depths x) k h) 201 (Spells 0) (Spells 0) (Stops 0) expression (expr_reader 201 0 (omega arith)))
    (omega arith) (λ a i o h. h) (λ a i o h. h) (λ o h. h)

abbrev pub expression_rule : (s g t d : ℕ) → d ≤ 200 → Rule (Over s g t) d Expr
expression_rule s g t d le = rule_of (expression_reads s g t d le) (counted_expr 0)

pub stops_first : (x : Sort) (i : List Token) → IsFirst x i → is_mark m.Tick x ≡ false → select_opener x ≡ None → strength_of (joiner x) ≤ 0 → Stops 0 i
unfolding select_test joiner_test
stops_first x [] h no_tick no_select weak = (refl, refl, omega arith)
stops_first x (a ∷ i) h no_tick no_select weak = (no_mark m.Tick x (a ∷ i) no_tick h, subst (λ y. select_opener y ≡ None) (sym h) no_select, subst (λ y. strength_of (joiner y) ≤ 0) (sym h) weak)

-- marks behind expressions
abbrev pub is_end : MarkName → Bool
is_end m.RightParen = true
is_end m.RightBracket = true
is_end m.RightBrace = true
is_end m.Comma = true
is_end m.Semicolon = true
is_end m.Colon = true
is_end _ = false

pub first_end : (name : MarkName) → is_end name ≡ true → (i : List Token) → IsFirst (s.Mark name) i → Stops 0 i
unfolding same_mark
first_end m.RightParen e i h = stops_first (s.Mark m.RightParen) i h refl refl (omega arith)
first_end m.RightBracket e i h = stops_first (s.Mark m.RightBracket) i h refl refl (omega arith)
first_end m.RightBrace e i h = stops_first (s.Mark m.RightBrace) i h refl refl (omega arith)
first_end m.Comma e i h = stops_first (s.Mark m.Comma) i h refl refl (omega arith)
first_end m.Semicolon e i h = stops_first (s.Mark m.Semicolon) i h refl refl (omega arith)
first_end m.Colon e i h = stops_first (s.Mark m.Colon) i h refl refl (omega arith)
first_end _ e i h = absurd (cc)

pub end_mark : (name : MarkName) → is_end name ≡ true → (i o : List Token) → mark_spelled (mark_text name) i o → Stops 0 i
end_mark name e i o h = first_end name e i (first_of_mark name i o h)
