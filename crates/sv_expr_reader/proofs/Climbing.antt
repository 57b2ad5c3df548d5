-- Climbing by precedence agrees with each tree that begins with the same tokens.
use Rattle.std.proofs.Common.{◌≡◌, ℕ, zero, suc, ◌+◌, ◌-◌, ◌<◌, ◌≤◌, Bool, true, false, nat_lt, nat_le, if◌then◌else◌, List, [], ◌∷◌, ◌++◌, length, take, drop, Option, Some, None, Ok, Err, ◌⊎◌, inl, inr, codes, refl, sym, ◌∙◌, ap, subst, append_assoc, length-append, arith}
use Rattle.std.proofs.lemmas.Bool.Decides.{nat_tests}
use Rattle.std.proofs.lemmas.Bool.{cases_lt}
use Rattle.sv_outside.specs.declared.refusal.Place.{Place}
use Rattle.sv_outside.specs.declared.text.Token.{Token}
use Rattle.sv_tree.specs.declared.exprs.BinaryOp.{BinaryOp}
use Rattle.sv_tree.specs.declared.exprs.BinaryOp.TheVariants as op2
use Rattle.sv_tree.specs.declared.exprs.Expr.{Expr}
use Rattle.sv_tree.specs.declared.exprs.Expr.TheVariants as e
use Rattle.sv_tree.specs.Spelling.{Spelled, ◌⨟◌, mark_at}
use Rattle.sv_tree.specs.GrammarExprs.{Spells, binary_mark, binds, left_level, right_level}
use Rattle.sv_tree.specs.Nesting.{Depths, one, in_expr, expr_depths}
use Rattle.sv_tree.proofs.MadeExprs as made
use Rattle.sv_tree.proofs.Framed.{length_in}
use Rattle.sv_cursor.specs.declared.error.ParseErr.{ParseErr}
use Rattle.sv_cursor.specs.declared.error.ParseErr.TheVariants.{Memory, Syntax, TooDeep}
use Rattle.sv_cursor.specs.declared.sort.Mark.TheVariants as m
use Rattle.sv_cursor.specs.Sorts.{mark_text}
use Rattle.sv_cursor.specs.Tests.{mark_test, same_mark, mark}
use Rattle.sv_cursor.specs.Parsers.{Outcome, Parser, and_then, told, branch, ◌⊗◌, ◌<$>◌, ◌>>=◌, pure}
use Rattle.sv_cursor.proofs.Readers.{IsReader, IsMoved, BadAt, Agrees, AgreesErr, Placed, PlacedErr, Meets, then_meets, bad_left, bad_right, bad_map, drop_more, take_drop_same, same_told, pair_reader, moved_pair}
use Rattle.sv_cursor.proofs.Tested.{mark_here}
use Rattle.sv_expr_words.specs.declared.openers.Joiner.{Joiner}
use Rattle.sv_expr_words.specs.declared.openers.Joiner.TheVariants as join_by
use Rattle.sv_expr_words.specs.Signs.{joiner_test, joiner, joiner_of_mark, strength_of, select_test, select_of_mark, binary_name}
use Rattle.sv_expr_reader.specs.Reading.{peak, height, first_at, too_high, prefix, operated, climb, level}
use Rattle.sv_expr_reader.proofs.Tokens.{Bad, deeper, inner, part, Stops, Any, stops_at_mark, placed_mark, mark_reader, moved_mark, moved_part, moved_expr, in_append, bad_in}
use Rattle.sv_expr_reader.proofs.Parts.{IsParts, part_reader, own}
use Rattle.sv_expr_reader.proofs.Primaries.{prefix_reader, binds_small}
use Rattle.sv_expr_reader.proofs.Heights.{short}
use Rattle.sv_expr_reader.proofs.Peaks.{peak_append, peak_in, bad_inside, first_bad}

abbrev pub strength : List Token → ℕ
strength o = strength_of (told joiner_test o)

-- ---- operators

pub binary_text : (op : BinaryOp) → binary_mark op ≡ mark_text (binary_name op)
unfolding mark_text
binary_text op2.Power = refl
binary_text op2.Mul = refl
binary_text op2.Div = refl
binary_text op2.Rem = refl
binary_text op2.Add = refl
binary_text op2.Sub = refl
binary_text op2.Shl = refl
binary_text op2.Shr = refl
binary_text op2.Sal = refl
binary_text op2.Sar = refl
binary_text op2.Lt = refl
binary_text op2.Le = refl
binary_text op2.Gt = refl
binary_text op2.Ge = refl
binary_text op2.Eq = refl
binary_text op2.Ne = refl
binary_text op2.And = refl
binary_text op2.Xor = refl
binary_text op2.TildeXor = refl
binary_text op2.XorTilde = refl
binary_text op2.Or = refl
binary_text op2.LogicAnd = refl
binary_text op2.LogicOr = refl
binary_text op2.Implies = refl
binary_text op2.Equivalent = refl

pub binary_is : (op : BinaryOp) → joiner_of_mark (binary_name op) ≡ Some (join_by.Binary op)
binary_is op2.Power = refl
binary_is op2.Mul = refl
binary_is op2.Div = refl
binary_is op2.Rem = refl
binary_is op2.Add = refl
binary_is op2.Sub = refl
binary_is op2.Shl = refl
binary_is op2.Shr = refl
binary_is op2.Sal = refl
binary_is op2.Sar = refl
binary_is op2.Lt = refl
binary_is op2.Le = refl
binary_is op2.Gt = refl
binary_is op2.Ge = refl
binary_is op2.Eq = refl
binary_is op2.Ne = refl
binary_is op2.And = refl
binary_is op2.Xor = refl
binary_is op2.TildeXor = refl
binary_is op2.XorTilde = refl
binary_is op2.Or = refl
binary_is op2.LogicAnd = refl
binary_is op2.LogicOr = refl
binary_is op2.Implies = refl
binary_is op2.Equivalent = refl

pub binary_no_tick : (op : BinaryOp) → same_mark (binary_name op) m.Tick ≡ false
unfolding same_mark
binary_no_tick op2.Power = refl
binary_no_tick op2.Mul = refl
binary_no_tick op2.Div = refl
binary_no_tick op2.Rem = refl
binary_no_tick op2.Add = refl
binary_no_tick op2.Sub = refl
binary_no_tick op2.Shl = refl
binary_no_tick op2.Shr = refl
binary_no_tick op2.Sal = refl
binary_no_tick op2.Sar = refl
binary_no_tick op2.Lt = refl
binary_no_tick op2.Le = refl
binary_no_tick op2.Gt = refl
binary_no_tick op2.Ge = refl
binary_no_tick op2.Eq = refl
binary_no_tick op2.Ne = refl
binary_no_tick op2.And = refl
binary_no_tick op2.Xor = refl
binary_no_tick op2.TildeXor = refl
binary_no_tick op2.XorTilde = refl
binary_no_tick op2.Or = refl
binary_no_tick op2.LogicAnd = refl
binary_no_tick op2.LogicOr = refl
binary_no_tick op2.Implies = refl
binary_no_tick op2.Equivalent = refl

pub binary_no_select : (op : BinaryOp) → select_of_mark (binary_name op) ≡ None
binary_no_select op2.Power = refl
binary_no_select op2.Mul = refl
binary_no_select op2.Div = refl
binary_no_select op2.Rem = refl
binary_no_select op2.Add = refl
binary_no_select op2.Sub = refl
binary_no_select op2.Shl = refl
binary_no_select op2.Shr = refl
binary_no_select op2.Sal = refl
binary_no_select op2.Sar = refl
binary_no_select op2.Lt = refl
binary_no_select op2.Le = refl
binary_no_select op2.Gt = refl
binary_no_select op2.Ge = refl
binary_no_select op2.Eq = refl
binary_no_select op2.Ne = refl
binary_no_select op2.And = refl
binary_no_select op2.Xor = refl
binary_no_select op2.TildeXor = refl
binary_no_select op2.XorTilde = refl
binary_no_select op2.Or = refl
binary_no_select op2.LogicAnd = refl
binary_no_select op2.LogicOr = refl
binary_no_select op2.Implies = refl
binary_no_select op2.Equivalent = refl

-- the levels of the parts, beside that of the whole
pub record Levels (op : BinaryOp) : Type 0 where
  pub left_above : binds op ≤ left_level op
  pub left_low : left_level op ≤ 1 → binds op + 1 ≤ left_level op
  pub left_high : left_level op ≤ 12
  pub left_most : left_level op ≤ binds op + 1
  pub left_same : 2 ≤ binds op → left_level op ≤ binds op
  pub right_high : right_level op ≤ 13
  pub right : (right_level op ≡ binds op + 1) × (2 ≤ binds op) ⊎ (right_level op ≡ 0) × (binds op ≡ 0)

pub levels : (op : BinaryOp) → Levels op
levels op2.Power = record { left_above = omega arith; left_low = λ low. omega arith; left_high = omega arith; left_most = omega arith; left_same = λ high. omega arith; right_high = omega arith; right = inl (omega arith, omega arith) }
levels op2.Mul = record { left_above = omega arith; left_low = λ low. omega arith; left_high = omega arith; left_most = omega arith; left_same = λ high. omega arith; right_high = omega arith; right = inl (omega arith, omega arith) }
levels op2.Div = record { left_above = omega arith; left_low = λ low. omega arith; left_high = omega arith; left_most = omega arith; left_same = λ high. omega arith; right_high = omega arith; right = inl (omega arith, omega arith) }
levels op2.Rem = record { left_above = omega arith; left_low = λ low. omega arith; left_high = omega arith; left_most = omega arith; left_same = λ high. omega arith; right_high = omega arith; right = inl (omega arith, omega arith) }
levels op2.Add = record { left_above = omega arith; left_low = λ low. omega arith; left_high = omega arith; left_most = omega arith; left_same = λ high. omega arith; right_high = omega arith; right = inl (omega arith, omega arith) }
levels op2.Sub = record { left_above = omega arith; left_low = λ low. omega arith; left_high = omega arith; left_most = omega arith; left_same = λ high. omega arith; right_high = omega arith; right = inl (omega arith, omega arith) }
levels op2.Shl = record { left_above = omega arith; left_low = λ low. omega arith; left_high = omega arith; left_most = omega arith; left_same = λ high. omega arith; right_high = omega arith; right = inl (omega arith, omega arith) }
levels op2.Shr = record { left_above = omega arith; left_low = λ low. omega arith; left_high = omega arith; left_most = omega arith; left_same = λ high. omega arith; right_high = omega arith; right = inl (omega arith, omega arith) }
levels op2.Sal = record { left_above = omega arith; left_low = λ low. omega arith; left_high = omega arith; left_most = omega arith; left_same = λ high. omega arith; right_high = omega arith; right = inl (omega arith, omega arith) }
levels op2.Sar = record { left_above = omega arith; left_low = λ low. omega arith; left_high = omega arith; left_most = omega arith; left_same = λ high. omega arith; right_high = omega arith; right = inl (omega arith, omega arith) }
levels op2.Lt = record { left_above = omega arith; left_low = λ low. omega arith; left_high = omega arith; left_most = omega arith; left_same = λ high. omega arith; right_high = omega arith; right = inl (omega arith, omega arith) }
levels op2.Le = record { left_above = omega arith; left_low = λ low. omega arith; left_high = omega arith; left_most = omega arith; left_same = λ high. omega arith; right_high = omega arith; right = inl (omega arith, omega arith) }
levels op2.Gt = record { left_above = omega arith; left_low = λ low. omega arith; left_high = omega arith; left_most = omega arith; left_same = λ high. omega arith; right_high = omega arith; right = inl (omega arith, omega arith) }
levels op2.Ge = record { left_above = omega arith; left_low = λ low. omega arith; left_high = omega arith; left_most = omega arith; left_same = λ high. omega arith; right_high = omega arith; right = inl (omega arith, omega arith) }
levels op2.Eq = record { left_above = omega arith; left_low = λ low. omega arith; left_high = omega arith; left_most = omega arith; left_same = λ high. omega arith; right_high = omega arith; right = inl (omega arith, omega arith) }
levels op2.Ne = record { left_above = omega arith; left_low = λ low. omega arith; left_high = omega arith; left_most = omega arith; left_same = λ high. omega arith; right_high = omega arith; right = inl (omega arith, omega arith) }
levels op2.And = record { left_above = omega arith; left_low = λ low. omega arith; left_high = omega arith; left_most = omega arith; left_same = λ high. omega arith; right_high = omega arith; right = inl (omega arith, omega arith) }
levels op2.Xor = record { left_above = omega arith; left_low = λ low. omega arith; left_high = omega arith; left_most = omega arith; left_same = λ high. omega arith; right_high = omega arith; right = inl (omega arith, omega arith) }
levels op2.TildeXor = record { left_above = omega arith; left_low = λ low. omega arith; left_high = omega arith; left_most = omega arith; left_same = λ high. omega arith; right_high = omega arith; right = inl (omega arith, omega arith) }
levels op2.XorTilde = record { left_above = omega arith; left_low = λ low. omega arith; left_high = omega arith; left_most = omega arith; left_same = λ high. omega arith; right_high = omega arith; right = inl (omega arith, omega arith) }
levels op2.Or = record { left_above = omega arith; left_low = λ low. omega arith; left_high = omega arith; left_most = omega arith; left_same = λ high. omega arith; right_high = omega arith; right = inl (omega arith, omega arith) }
levels op2.LogicAnd = record { left_above = omega arith; left_low = λ low. omega arith; left_high = omega arith; left_most = omega arith; left_same = λ high. omega arith; right_high = omega arith; right = inl (omega arith, omega arith) }
levels op2.LogicOr = record { left_above = omega arith; left_low = λ low. omega arith; left_high = omega arith; left_most = omega arith; left_same = λ high. omega arith; right_high = omega arith; right = inl (omega arith, omega arith) }
levels op2.Implies = record { left_above = omega arith; left_low = λ low. omega arith; left_high = omega arith; left_most = omega arith; left_same = λ high. omega arith; right_high = omega arith; right = inr (refl, refl) }
levels op2.Equivalent = record { left_above = omega arith; left_low = λ low. omega arith; left_high = omega arith; left_most = omega arith; left_same = λ high. omega arith; right_high = omega arith; right = inr (refl, refl) }

-- What follows a tree does not go on with its last part.
abbrev pub Ends : ℕ → List Token → Type 0
Ends n o = (told (mark_test m.Tick) o ≡ None) × (told select_test o ≡ None) × (strength o ≤ n + 1) × (n ≤ 1 → strength o ≤ n)

pub ends_of_stops : (n : ℕ) (o : List Token) → Stops n o → Ends n o
ends_of_stops n o h = (h.0, h.1, omega (arith, h.2), λ low. h.2)

-- the last part of a tree with an operator
pub right_stops : (op : BinaryOp) (n : ℕ) (o : List Token) → n ≤ binds op → Ends n o → Stops (right_level op) o
right_stops op n o le h = (h.0, h.1, by_side (levels op).right)
  where
    by_side : (right_level op ≡ binds op + 1) × (2 ≤ binds op) ⊎ (right_level op ≡ 0) × (binds op ≡ 0) → strength o ≤ right_level op
    by_side (inl c) = omega (arith, c.0, h.2)
    by_side (inr c) = omega (arith, c.0, c.1, h.3 (omega (arith, c.1)))

pub choose_stops : (n : ℕ) (o : List Token) → n ≤ 1 → Ends n o → Stops 1 o
choose_stops n o le h = (h.0, h.1, omega (arith, h.3 le))

pub prefix_stops : (n : ℕ) (o : List Token) → n ≤ 12 → Ends n o → Stops 13 o
prefix_stops n o le h = (h.0, h.1, omega (arith, h.2))

pub op_told : (op : BinaryOp) (p : Place) (t o : List Token) → mark_at (binary_mark op) p t o → told joiner_test t ≡ Some (join_by.Binary op)
unfolding joiner_test
op_told op p [] o h = absurd h
op_told op p (a ∷ t) o h = ap joiner (mark_here a (binary_name op) h.0.0 (h.0.1 ∙ binary_text op)) ∙ binary_is op

pub op_ends : (op : BinaryOp) (p : Place) (t o : List Token) → mark_at (binary_mark op) p t o → Ends (left_level op) t
op_ends op p t o h =
    let f = stops_at_mark 13 (binary_name op) (binary_no_tick op) (binary_no_select op) weak p t o (subst (λ x. mark_at x p t o) (binary_text op) h) in
    let g : strength t ≡ binds op + 1 = ap strength_of (op_told op p t o h) in
    (f.0, f.1, omega (arith, g, (levels op).left_above), λ low. omega (arith, g, (levels op).left_low low))
  where
    weak : strength_of (joiner_of_mark (binary_name op)) ≤ 13
    weak = subst (λ j. strength_of j ≤ 13) (sym (binary_is op)) (omega (arith, binds_small op))

pub question_told : (p : Place) (t o : List Token) → mark_at (codes "?") p t o → told joiner_test t ≡ Some join_by.Choose
unfolding joiner_test mark_text
question_told p [] o h = absurd h
question_told p (a ∷ t) o h = ap joiner (mark_here a m.Question h.0.0 h.0.1)

pub question_ends : (p : Place) (t o : List Token) → mark_at (codes "?") p t o → Ends 2 t
unfolding mark_text same_mark
question_ends p t o h =
    let f = stops_at_mark 2 m.Question refl refl (omega arith) p t o h in (f.0, f.1, omega (arith, f.2), λ low. absurd (omega arith))

pub colon_stops : (p : Place) (t o : List Token) → mark_at (codes ":") p t o → Stops 0 t
unfolding mark_text same_mark
colon_stops p t o h = stops_at_mark 0 m.Colon refl refl (omega arith) p t o h

-- ---- where outcomes stand

-- so many tokens at most are left
abbrev pub After : {A : Type 0} → ℕ → Outcome A → Type 0
After most (Ok p) = length p.1 ≤ most
After most (Err Memory) = ⊥
After most (Err (Syntax left)) = left ≤ most
After most (Err (TooDeep deep left)) = left ≤ most

-- none of the first m tokens of i is left
abbrev pub Beyond : ℕ → List Token → Outcome Expr → Type 0
Beyond m i (Ok p) = m + length p.1 ≤ length i
Beyond m i (Err Memory) = ⊥
Beyond m i (Err (Syntax left)) = m + left ≤ length i
Beyond m i (Err (TooDeep deep left)) = m + left ≤ length i

pub after_beyond : (most m : ℕ) (i : List Token) (r : Outcome Expr) → m + most ≤ length i → After most r → Beyond m i r
after_beyond most m i (Ok p) le h = omega arith
after_beyond most m i (Err Memory) le h = absurd h
after_beyond most m i (Err (Syntax left)) le h = omega arith
after_beyond most m i (Err (TooDeep deep left)) le h = omega arith

pub after_less : {A : Type 0} (most more : ℕ) (r : Outcome A) → most ≤ more → After most r → After more r
after_less most more (Ok p) le h = omega arith
after_less most more (Err Memory) le h = absurd h
after_less most more (Err (Syntax left)) le h = omega arith
after_less most more (Err (TooDeep deep left)) le h = omega arith

pub after_then : {A B : Type 0} (most : ℕ) (r : Outcome A) (f : A → Parser B) → After most r → ((a : A) (j : List Token) → After (length j) (f a j)) → After most (and_then r f)
after_then most (Ok p) f h more = after_less (length p.1) most (f p.0 p.1) h (more p.0 p.1)
after_then most (Err Memory) f h more = absurd h
after_then most (Err (Syntax left)) f h more = h
after_then most (Err (TooDeep deep left)) f h more = h

pub after_made : {C : Type 0} (made : C → Expr) (S : C → Spelled) (nests : C → Depths) (moved : IsMoved S nests) (depth : ℕ) (i : List Token) (r : Outcome C)
    → Meets r (λ c j. S c i j) → Placed depth i r → After (length i) (and_then r (λ c j. Ok (made c, j)))
after_made made S nests moved depth i (Ok p) h placed = omega (arith, moved.count p.0 i p.1 h)
after_made made S nests moved depth i (Err Memory) h placed = absurd placed
after_made made S nests moved depth i (Err (Syntax left)) h placed = placed
after_made made S nests moved depth i (Err (TooDeep deep left)) h placed = omega (arith, placed.0)

-- ---- the highest token

pub own_peak : peak own ≡ 1
unfolding peak
own_peak = omega arith

module _ (d : ℕ) (expr : ℕ → Parser Expr) (parts : IsParts d expr) where
  abbrev pub OpSpelled : BinaryOp → Place × Expr → Spelled
  OpSpelled op c = mark_at (binary_mark op) c.0 ⨟ Spells (right_level op) c.1

  abbrev pub op_nests : Place × Expr → Depths
  op_nests c = inner c.0 ++ part c.1

  pub op_mark_reader : (op : BinaryOp) → IsReader (Bad (suc d)) (suc d) (mark_at (binary_mark op)) (mark_at (binary_mark op)) inner Any (mark (binary_name op))
  op_mark_reader op = subst (λ t. IsReader (Bad (suc d)) (suc d) (mark_at t) (mark_at t) inner Any (mark (binary_name op))) (sym (binary_text op)) (mark_reader (suc d) (suc d) (binary_name op))

  pub op_mark_moved : (op : BinaryOp) → IsMoved (mark_at (binary_mark op)) inner
  op_mark_moved op = subst (λ t. IsMoved (mark_at t) inner) (sym (binary_text op)) (moved_mark (binary_name op))

  pub op_reader : (op : BinaryOp) → IsReader (Bad (suc d)) (suc d) (OpSpelled op) (OpSpelled op) op_nests (Stops (right_level op)) (mark (binary_name op) ⊗ expr (right_level op))
  op_reader op =
      pair_reader (Bad (suc d)) (suc d) d (suc d) (mark_at (binary_mark op)) inner Any (mark (binary_name op)) (λ _. Spells (right_level op)) part (Stops (right_level op)) (λ _. expr (right_level op))
      (op_mark_moved op) (op_mark_reader op) (λ _. part_reader d expr parts (right_level op) (levels op).right_high) (λ p x t o h stops. tt) (omega arith) (λ p i o h. omega arith)

  pub op_moved : (op : BinaryOp) → IsMoved (OpSpelled op) op_nests
  op_moved op = moved_pair (mark_at (binary_mark op)) inner (λ _. Spells (right_level op)) part (op_mark_moved op) (λ _. moved_part (right_level op))

  abbrev pub ChooseSpelled : Place × (Expr × (Place × Expr)) → Spelled
  ChooseSpelled c = mark_at (codes "?") c.0 ⨟ (Spells 0 c.1.0 ⨟ (mark_at (codes ":") c.1.1.0 ⨟ Spells 1 c.1.1.1))

  abbrev pub choose_nests : Place × (Expr × (Place × Expr)) → Depths
  choose_nests c = inner c.0 ++ (part c.1.0 ++ (inner c.1.1.0 ++ part c.1.1.1))

  pub question_reader : IsReader (Bad (suc d)) (suc d) ChooseSpelled ChooseSpelled choose_nests (Stops 1) (mark m.Question ⊗ expr 0 ⊗ mark m.Colon ⊗ expr 1)
  unfolding mark_text
  question_reader =
      pair_reader (Bad (suc d)) (suc d) d (suc d) (mark_at (codes "?")) inner Any (mark m.Question)
      (λ _ c. Spells 0 c.0 ⨟ (mark_at (codes ":") c.1.0 ⨟ Spells 1 c.1.1)) (λ c. part c.0 ++ (inner c.1.0 ++ part c.1.1)) (Stops 1) (λ _. expr 0 ⊗ mark m.Colon ⊗ expr 1)
      (moved_mark m.Question) (mark_reader (suc d) (suc d) m.Question)
      (λ _. pair_reader (Bad (suc d)) d d d (Spells 0) part (Stops 0) (expr 0) (λ _ c. mark_at (codes ":") c.0 ⨟ Spells 1 c.1) (λ c. inner c.0 ++ part c.1) (Stops 1) (λ _. mark m.Colon ⊗ expr 1)
      (moved_part 0) (part_reader d expr parts 0 (omega arith))
      (λ _. pair_reader (Bad (suc d)) d d d (mark_at (codes ":")) inner Any (mark m.Colon) (λ _. Spells 1) part (Stops 1) (λ _. expr 1)
      (moved_mark m.Colon) (mark_reader (suc d) d m.Colon) (λ _. part_reader d expr parts 1 (omega arith)) (λ p x t o h stops. tt) (omega arith) (λ p i o h. omega arith))
      (λ x c t o h stops. colon_stops c.0 t h.0 h.1) (omega arith) (λ x i o h. omega arith))
      (λ p c t o h stops. tt) (omega arith) (λ p i o h. omega arith)

  pub question_moved : IsMoved ChooseSpelled choose_nests
  unfolding mark_text
  question_moved =
      moved_pair (mark_at (codes "?")) inner (λ _ c. Spells 0 c.0 ⨟ (mark_at (codes ":") c.1.0 ⨟ Spells 1 c.1.1)) (λ c. part c.0 ++ (inner c.1.0 ++ part c.1.1)) (moved_mark m.Question)
      (λ _. moved_pair (Spells 0) part (λ _ c. mark_at (codes ":") c.0 ⨟ Spells 1 c.1) (λ c. inner c.0 ++ part c.1) (moved_part 0)
      (λ _. moved_pair (mark_at (codes ":")) inner (λ _. Spells 1) part (moved_mark m.Colon) (λ _. moved_part 1)))

  pub operated_after : (left : Expr) (j : Joiner) (i : List Token) → After (length i) (operated d expr left j i)
  operated_after left (join_by.Binary op) i =
      after_made (λ c. e.Binary left op c.0 c.1) (OpSpelled op) op_nests (op_moved op) (suc d) i ((mark (binary_name op) ⊗ expr (right_level op)) i) ((op_reader op).sound i) ((op_reader op).placed i)
  operated_after left join_by.Choose i =
      after_made (λ c. e.Choose left c.1.0 c.1.1.1) ChooseSpelled choose_nests question_moved (suc d) i ((mark m.Question ⊗ expr 0 ⊗ mark m.Colon ⊗ expr 1) i) (question_reader.sound i) (question_reader.placed i)

  pub if_after : (most : ℕ) (a b : Bool) (r q u : Parser Expr) (i : List Token) → After most (r i) → After most (q i) → After most (u i) → After most ((if a then r else (if b then q else u)) i)
  if_after most true b r q u i x y z = x
  if_after most false true r q u i x y z = y
  if_after most false false r q u i x y z = z

  -- one operator more, if any
  abbrev pub turn : ℕ → List Token → ℕ → Expr → Joiner → Parser Expr
  turn least from n left j =
      if nat_le (strength_of (Some j)) least then pure left
      else (if nat_lt (height left) d then (operated d expr left j >>= climb d expr least from n) else (λ i. Err (too_high d left from i)))

  pub turn_after : (least : ℕ) (from : List Token) (n : ℕ) (left : Expr) (q : Option Joiner) (i : List Token) → least ≤ 13
      → ((left : Expr) (i : List Token) → After (length i) (climb d expr least from n left i)) → After (length i) (branch q (turn least from n left) (pure left) i)
  turn_after least from n left None i low more = omega arith
  turn_after least from n left (Some j) i low more =
      if_after (length i) (nat_le (strength_of (Some j)) least) (nat_lt (height left) d) (pure left) (operated d expr left j >>= climb d expr least from n) (λ i. Err (too_high d left from i)) i
      (omega arith) (after_then (length i) (operated d expr left j i) (climb d expr least from n) (operated_after left j i) more) (omega arith)

  pub climb_after : (least : ℕ) (from : List Token) (n : ℕ) (left : Expr) (i : List Token) → least ≤ 13 → After (length i) (climb d expr least from n left i)
  unfolding climb
  climb_after least from zero left i low = omega arith
  climb_after least from (suc n) left i low = turn_after least from n left (told joiner_test i) i low (λ left i. climb_after least from n left i low)

  -- ---- trees with operators

  -- Going on behind a tree that ends among the tokens that are shared.
  abbrev pub Go : ℕ → ℕ → List Token → (Outcome Expr → Type 0) → Expr → Type 0
  Go least m i P z =
      (f : ℕ) (j : List Token) → length j ≤ f → j ≡ drop (length (expr_depths z)) i → length i ≡ length (expr_depths z) + length j → length (expr_depths z) < m → height z < suc d
      → P (climb d expr least i f z j)

  module _ (least m : ℕ) (low : least ≤ 13) (i : List Token) (P : Outcome Expr → Type 0) (beyond : (r : Outcome Expr) → Beyond m i r → P r) where
    module _ (C : Type 0) (x : Expr) (made : C → Expr) (S : C → Spelled) (nests : C → Depths) (Stop : List Token → Type 0) (p : Parser C)
        (moved : IsMoved S nests) (r : IsReader (Bad (suc d)) (suc d) S S nests Stop p)
        (joined : (c : C) → expr_depths (made c) ≡ part x ++ nests c)
        (c : C) (deep : (k left : ℕ) → BadAt (Bad (suc d)) (expr_depths (made c)) (length i - k) → P (Err (TooDeep k left)))
        (go : Go least m i P (made c)) where
      pub err_stands : (j : List Token) (e : ParseErr) → length i ≡ length (expr_depths x) + length j → PlacedErr (suc d) j e
          → AgreesErr (Bad (suc d)) (nests c) (m - length (expr_depths x)) j e → length (expr_depths x) < m → P (Err e)
      err_stands j Memory count placed h under = absurd h
      err_stands j (Syntax left) count placed h under = beyond (Err (Syntax left)) (omega arith)
      err_stands j (TooDeep k left) count placed h under = by_place (cases_lt (length i) (m + left))
        where
          by_place : (length i < m + left) ⊎ (m + left ≤ length i) → P (Err (TooDeep k left))
          by_place (inl shown) =
              let at : length i - k ≡ length (part x) + (length j - k) = omega (arith, placed.2, length_in (expr_depths x)) in
              deep k left (subst (λ ns. BadAt (Bad (suc d)) ns (length i - k)) (sym (joined c))
              (subst (BadAt (Bad (suc d)) (part x ++ nests c)) (sym at) (bad_right (Bad (suc d)) (part x) (nests c) (length j - k) (h (omega arith)))))
          by_place (inr stands) = beyond (Err (TooDeep k left)) stands

      pub ok_goes : (f : ℕ) (j : List Token) (v : C) (k : List Token) → S v j k → length j ≤ suc f → j ≡ drop (length (expr_depths x)) i → length i ≡ length (expr_depths x) + length j
          → 0 < length (nests v) → height (made v) < suc d → (length (nests v) < m - length (expr_depths x) → v ≡ c) → (length (nests v) < m - length (expr_depths x)) ⊎ (m - length (expr_depths x) ≤ length (nests v))
          → P (climb d expr least i f (made v) k)
      ok_goes f j v k read fuel at count some lows same (inl under) =
          let e : v ≡ c = same under in
          let n : length (expr_depths (made v)) ≡ length (expr_depths x) + length (nests v) = omega (arith, ap length (joined v), length-append (part x) (nests v), length_in (expr_depths x)) in
          let g = moved.count v j k read in
          subst (λ z. P (climb d expr least i f (made z) k)) (sym e)
          (go f k (omega arith)
          (moved.rest v j k read ∙ (ap (drop (length (nests v))) at ∙ (drop_more (length (expr_depths x)) (length (nests v)) i ∙ (ap (λ k. drop k i) (sym n) ∙ ap (λ z. drop (length (expr_depths (made z))) i) e))))
          (subst (λ z. length i ≡ length (expr_depths (made z)) + length k) e (omega arith))
          (subst (λ z. length (expr_depths (made z)) < m) e (omega arith))
          (subst (λ z. height (made z) < suc d) e lows))
      ok_goes f j v k read fuel at count some lows same (inr over) =
          let g = moved.count v j k read in
          beyond (climb d expr least i f (made v) k) (after_beyond (length k) m i (climb d expr least i f (made v) k) (omega arith) (climb_after least i f (made v) k low))

      pub goes_by : (f : ℕ) (j : List Token) (q : Outcome C) → Meets q (λ v k. S v j k) → Placed (suc d) j q → Agrees (Bad (suc d)) nests c (m - length (expr_depths x)) j q
          → Meets q (λ v k. (height (made v) < suc d) × (0 < length (nests v)))
          → length j ≤ suc f → j ≡ drop (length (expr_depths x)) i → length i ≡ length (expr_depths x) + length j → length (expr_depths x) < m
          → P (and_then (and_then q (λ v k. Ok (made v, k))) (climb d expr least i f))
      goes_by f j (Ok v) read placed h lows fuel at count under = ok_goes f j v.0 v.1 read fuel at count lows.1 lows.0 h (cases_lt (length (nests v.0)) (m - length (expr_depths x)))
      goes_by f j (Err e) read placed h lows fuel at count under = err_stands j e count placed h under

      -- the operator and what stands behind it
      pub goes_on : (f : ℕ) (t o j : List Token) → S c t o → Stop o → take (m - length (expr_depths x)) t ≡ take (m - length (expr_depths x)) j
          → Meets (p j) (λ v k. (height (made v) < suc d) × (0 < length (nests v)))
          → length j ≤ suc f → j ≡ drop (length (expr_depths x)) i → length i ≡ length (expr_depths x) + length j → length (expr_depths x) < m
          → P (and_then (and_then (p j) (λ v k. Ok (made v, k))) (climb d expr least i f))
      goes_on f t o j spelled stops same lows fuel at count under =
          goes_by f j (p j) (r.sound j) (r.placed j) (r.agrees c t o (m - length (expr_depths x)) j spelled stops same) lows fuel at count under

    -- what has no operator between two of its parts
    pub first_err : (x : Expr) (e : ParseErr) → PlacedErr (suc d) i e → AgreesErr (Bad (suc d)) (expr_depths x) m i e
        → ((k left : ℕ) → BadAt (Bad (suc d)) (expr_depths x) (length i - k) → P (Err (TooDeep k left))) → P (Err e)
    first_err x Memory placed h deep = absurd h
    first_err x (Syntax left) placed h deep = beyond (Err (Syntax left)) h
    first_err x (TooDeep k left) placed h deep = by_place (cases_lt (length i) (m + left))
      where
        by_place : (length i < m + left) ⊎ (m + left ≤ length i) → P (Err (TooDeep k left))
        by_place (inl shown) = deep k left (h shown)
        by_place (inr stands) = beyond (Err (TooDeep k left)) stands

    pub first_ok : (x v : Expr) (k : List Token) → Spells 13 v i k → height v < suc d → (length (expr_depths v) < m → v ≡ x) → Go least m i P x
        → (length (expr_depths v) < m) ⊎ (m ≤ length (expr_depths v)) → P (climb d expr least i (length i) v k)
    first_ok x v k read lows same go (inl under) =
        let c = (moved_expr 13).count v i k read in
        subst (λ z. P (climb d expr least i (length i) z k)) (sym (same under))
        (go (length i) k (omega arith) (subst (λ z. k ≡ drop (length (expr_depths z)) i) (same under) ((moved_expr 13).rest v i k read))
        (subst (λ z. length i ≡ length (expr_depths z) + length k) (same under) c) (subst (λ z. length (expr_depths z) < m) (same under) under) (subst (λ z. height z < suc d) (same under) lows))
    first_ok x v k read lows same go (inr over) =
        let c = (moved_expr 13).count v i k read in
        beyond (climb d expr least i (length i) v k) (after_beyond (length k) m i (climb d expr least i (length i) v k) (omega arith) (climb_after least i (length i) v k low))

    pub first_by : (x : Expr) (q : Outcome Expr) → Meets q (λ v k. Spells 13 v i k) → Placed (suc d) i q → Agrees (Bad (suc d)) expr_depths x m i q → Meets q (λ v k. height v < suc d)
        → ((k left : ℕ) → BadAt (Bad (suc d)) (expr_depths x) (length i - k) → P (Err (TooDeep k left))) → Go least m i P x
        → P (and_then q (climb d expr least i (length i)))
    first_by x (Ok v) read placed h lows deep go = first_ok x v.0 v.1 read lows h go (cases_lt (length (expr_depths v.0)) m)
    first_by x (Err e) read placed h lows deep go = first_err x e placed h deep

    -- ---- one turn

    pub by_turn : (a b : Bool) (r q u : Parser Expr) (j : List Token) → a ≡ false → (b ≡ true → P (q j)) → (b ≡ false → P (u j)) → P ((if a then r else (if b then q else u)) j)
    by_turn true b r q u j e f g = absurd (cc)
    by_turn false true r q u j e f g = f refl
    by_turn false false r q u j e f g = g refl

    pub by_found : (found : Option Joiner) (k : Joiner) (f : ℕ) (z : Expr) (j : List Token) → found ≡ Some k → P (turn least i f z k j) → P (branch found (turn least i f z) (pure z) j)
    by_found None k f z j e h = absurd (cc)
    by_found (Some l) k f z j e h = let e' : l ≡ k = cc in subst (λ k. P (turn least i f z k j)) (sym e') h

    pub none_at_end : (k : Joiner) (j : List Token) → told joiner_test j ≡ Some k → length j ≤ 0 → ⊥
    none_at_end k [] e le = cc
    none_at_end k (a ∷ j) e le = omega arith

    pub climb_at : (k : Joiner) (f : ℕ) (z : Expr) (j : List Token) → length j ≤ f → told joiner_test j ≡ Some k → least < strength_of (Some k)
        → ((g : ℕ) → length j ≤ suc g → height z < d → P ((operated d expr z k >>= climb d expr least i g) j)) → (d ≤ height z → P (Err (too_high d z i j)))
        → P (climb d expr least i f z j)
    unfolding climb
    climb_at k zero z j fuel found above on over = absurd (none_at_end k j found fuel)
    climb_at k (suc f) z j fuel found above on over =
        by_found (told joiner_test j) k f z j found
        (by_turn (nat_le (strength_of (Some k)) least) (nat_lt (height z) d) (pure z) (operated d expr z k >>= climb d expr least i f) (λ j. Err (too_high d z i j)) j
        (grind (arith, nat_tests, above)) (λ y. on f fuel (grind (arith, nat_tests, y))) (λ y. over (grind (arith, nat_tests, y))))

pub bad_more : (d : ℕ) (ns : Depths) (k : ℕ) → BadAt (Bad d) ns k → BadAt (Bad d) (in_expr ns) k
unfolding in_expr
bad_more d ns k h = bad_map (Bad d) (Bad d) deeper (λ n h. omega arith) ns k h

pub told_shared : {A : Type 0} (test : Token → Option A) (m : ℕ) (s i : List Token) → 0 < m → take m s ≡ take m i → told test s ≡ told test i
told_shared test zero s i some same = absurd (omega arith)
told_shared test (suc m) s i some same = same_told test m s i same

pub strength_small : (q : Option Joiner) → strength_of q ≤ 13
strength_small None = omega arith
strength_small (Some (join_by.Binary op)) = omega (arith, binds_small op)
strength_small (Some join_by.Choose) = omega arith

abbrev pub question_tail : (ℕ → Parser Expr) → Parser (Place × (Expr × (Place × Expr)))
question_tail expr = mark m.Question ⊗ expr 0 ⊗ mark m.Colon ⊗ expr 1

module _ (d : ℕ) (expr : ℕ → Parser Expr) (parts : IsParts d expr)
    (bounded : (n : ℕ) (i : List Token) → n ≤ 13 → Meets (expr n i) (λ x j. height x < d))
    (first_bounded : (i : List Token) → Meets (prefix d expr i) (λ x j. height x < suc d)) where
  -- What holds of going on behind a tree holds of reading its first part, if it holds of each refusal for depth in the tree and of
  -- each outcome beyond the tokens that are shared.
  abbrev pub Spine : Expr → Type 1
  Spine x = (n : ℕ) (s o : List Token) (m : ℕ) (i : List Token) → n ≤ 13 → Spells n x s o → Ends n o → take m s ≡ take m i
      → (P : Outcome Expr → Type 0) → ((r : Outcome Expr) → Beyond m i r → P r)
      → ((k left : ℕ) → BadAt (Bad (suc d)) (expr_depths x) (length i - k) → P (Err (TooDeep k left)))
      → (least : ℕ) → least ≤ n → Go d expr parts least m i P x → P (level d expr least i)

  pub first : (x : Expr) (s o : List Token) (m : ℕ) (i : List Token) (n : ℕ) → n ≤ 13 → Spells 13 x s o → Ends n o → take m s ≡ take m i
      → (P : Outcome Expr → Type 0) → ((r : Outcome Expr) → Beyond m i r → P r)
      → ((k left : ℕ) → BadAt (Bad (suc d)) (expr_depths x) (length i - k) → P (Err (TooDeep k left)))
      → (least : ℕ) → least ≤ n → Go d expr parts least m i P x → P (level d expr least i)
  unfolding level
  first x s o m i n small h ends same P beyond deep least le go =
      let r = prefix_reader d expr parts in
      first_by d expr parts least m (omega arith) i P beyond x (prefix d expr i) (r.sound i) (r.placed i)
      (r.agrees x s o m i h (ends.0, ends.1, strength_small (told joiner_test o)) same) (first_bounded i) deep go

  -- a tree with an operator behind its first part
  pub operator_case : (C : Type 0) (x : Expr) (made : C → Expr) (S : C → Spelled) (nests : C → Depths) (Stop : List Token → Type 0) (p : Parser C)
      → IsMoved S nests → IsReader (Bad (suc d)) (suc d) S S nests Stop p → ((c : C) → expr_depths (made c) ≡ part x ++ nests c)
      → (k : Joiner) → operated d expr x k ≡ made <$> p
      → ((j : List Token) → height x < d → Meets (p j) (λ v k. (height (made v) < suc d) × (0 < length (nests v))))
      → Spine x
      → (c : C) (s t u o : List Token) (m : ℕ) (i : List Token) (l n : ℕ) → l ≤ 13 → n ≤ l → Spells l x s t → Ends l t → told joiner_test t ≡ Some k → n < strength_of (Some k) → S c t o → Stop o → take m s ≡ take m i
      → (P : Outcome Expr → Type 0) → ((r : Outcome Expr) → Beyond m i r → P r)
      → ((k left : ℕ) → BadAt (Bad (suc d)) (expr_depths (made c)) (length i - k) → P (Err (TooDeep k left)))
      → (least : ℕ) → least ≤ n → Go d expr parts least m i P (made c) → P (level d expr least i)
  operator_case C x made S nests Stop p moved r joined k shape lows ih c s t u o m i l n high le sx ends here above sc stops same P beyond deep least low go =
      ih l s t m i high sx ends same P beyond
      (λ a left bad. deep a left (subst (λ ns. BadAt (Bad (suc d)) ns (length i - a)) (sym (joined c)) (bad_left (Bad (suc d)) (part x) (nests c) (length i - a) (bad_more (suc d) (expr_depths x) (length i - a) bad))))
      least (omega arith)
      (λ f j fuel at count under tall.
      let shared : take (m - length (expr_depths x)) t ≡ take (m - length (expr_depths x)) j =
      ap (take (m - length (expr_depths x))) ((moved_expr l).rest x s t sx) ∙ (take_drop_same (length (expr_depths x)) m s i (omega arith) same ∙ ap (take (m - length (expr_depths x))) (sym at)) in
      climb_at d expr parts least m (omega arith) i P beyond k f x j fuel (sym (told_shared joiner_test (m - length (expr_depths x)) t j (omega arith) shared) ∙ here) (omega arith)
      (λ g fuel' lower. subst (λ q. P ((q >>= climb d expr least i g) j)) (sym shape)
      (goes_on d expr parts least m (omega arith) i P beyond C x made S nests Stop p moved r joined c deep go g t o j sc stops shared (lows j lower) fuel' at count under))
      (λ over. let k = first_at d (expr_depths x) in
      let bad : BadAt (Bad d) (expr_depths x) k = first_bad d (expr_depths x) over (omega (arith, short x)) in
      let at : length i - (length i - k) ≡ k = omega (arith, count, bad_inside (Bad d) (expr_depths x) k bad) in
      deep (length i - k) (length j) (subst (λ n. BadAt (Bad (suc d)) (expr_depths (made c)) n) (sym at)
      (subst (λ ns. BadAt (Bad (suc d)) ns k) (sym (joined c)) (bad_left (Bad (suc d)) (part x) (nests c) k (bad_in d (expr_depths x) k bad))))))

  -- heights
  pub op_joined : (x : Expr) (op : BinaryOp) (c : Place × Expr) → expr_depths (e.Binary x op c.0 c.1) ≡ part x ++ op_nests d expr parts c
  unfolding in_expr
  op_joined x op c = made.nests_binary x op c.0 c.1 ∙ (in_append (expr_depths x ++ one) (expr_depths c.1) ∙ (ap (λ l. l ++ part c.1) (in_append (expr_depths x) one) ∙ append_assoc (part x) own (part c.1)))

  pub op_lows : (x : Expr) (op : BinaryOp) (j : List Token) → height x < d
      → Meets ((mark (binary_name op) ⊗ expr (right_level op)) j) (λ v k. (height (e.Binary x op v.0 v.1) < suc d) × (0 < length (op_nests d expr parts v)))
  op_lows x op j low =
      then_meets (mark (binary_name op) j) _ (λ p k. Unit {0}) _ (always (mark (binary_name op) j))
      (λ p k _. then_meets (expr (right_level op) k) _ (λ y k. height y < d) _ (bounded (right_level op) k (levels op).right_high)
      (λ y k' h. (omega (arith, ap peak (op_joined x op (p, y)), peak_append (part x) (own ++ part y), peak_append own (part y), peak_in (expr_depths x), peak_in (expr_depths y), own_peak), omega arith)))
    where
      always : {A : Type 0} (r : Outcome A) → Meets r (λ a k. Unit {0})
      always (Ok p) = tt
      always (Err e) = tt

  pub choose_joined : (x : Expr) (c : Place × (Expr × (Place × Expr))) → expr_depths (e.Choose x c.1.0 c.1.1.1) ≡ part x ++ choose_nests d expr parts c
  unfolding in_expr
  choose_joined x c =
      made.nests_choose x c.1.0 c.1.1.1
      ∙ (in_append (expr_depths x ++ one ++ expr_depths c.1.0 ++ one) (expr_depths c.1.1.1)
      ∙ (ap (λ l. l ++ part c.1.1.1) (in_append (expr_depths x ++ one ++ expr_depths c.1.0) one ∙ ap (λ l. l ++ own) (in_append (expr_depths x ++ one) (expr_depths c.1.0) ∙ ap (λ l. l ++ part c.1.0) (in_append (expr_depths x) one)))
      ∙ (append_assoc (part x ++ own ++ part c.1.0) own (part c.1.1.1)
      ∙ (append_assoc (part x ++ own) (part c.1.0) (own ++ part c.1.1.1) ∙ append_assoc (part x) own (part c.1.0 ++ (own ++ part c.1.1.1))))))

  pub choose_lows : (x : Expr) (j : List Token) → height x < d
      → Meets ((mark m.Question ⊗ expr 0 ⊗ mark m.Colon ⊗ expr 1) j) (λ v k. (height (e.Choose x v.1.0 v.1.1.1) < suc d) × (0 < length (choose_nests d expr parts v)))
  choose_lows x j low =
      then_meets (mark m.Question j) _ (λ p k. Unit {0}) _ (always (mark m.Question j))
      (λ p k _. then_meets ((expr 0 ⊗ mark m.Colon ⊗ expr 1) k) _ (λ v k. (height v.0 < d) × (height v.1.1 < d)) _
      (then_meets (expr 0 k) _ (λ y k. height y < d) _ (bounded 0 k (omega arith))
      (λ y k' hy. then_meets ((mark m.Colon ⊗ expr 1) k') _ (λ v k. height v.1 < d) _
      (then_meets (mark m.Colon k') _ (λ p k. Unit {0}) _ (always (mark m.Colon k'))
      (λ q k'' _. then_meets (expr 1 k'') _ (λ z k. height z < d) _ (bounded 1 k'' (omega arith)) (λ z k hz. hz)))
      (λ v k hz. (hy, hz))))
      (λ v k' h. (omega (arith, ap peak (choose_joined x (p, v)), peak_append (part x) (own ++ (part v.0 ++ (own ++ part v.1.1))), peak_append own (part v.0 ++ (own ++ part v.1.1)), peak_append (part v.0) (own ++ part v.1.1), peak_append own (part v.1.1), peak_in (expr_depths x), peak_in (expr_depths v.0), peak_in (expr_depths v.1.1), own_peak, h.0, h.1), omega arith)))
    where
      always : {A : Type 0} (r : Outcome A) → Meets r (λ a k. Unit {0})
      always (Ok p) = tt
      always (Err e) = tt

  -- what follows the first part
  pub choose_parts : (n : ℕ) (x y z : Expr) (s o : List Token) → Spells n (e.Choose x y z) s o
      → (n ≤ 1) × ((t : List Token) × Spells 2 x s t × ((c : Place × (Expr × (Place × Expr))) × (e.Choose x c.1.0 c.1.1.1 ≡ e.Choose x y z) × ChooseSpelled d expr parts c t o))
  choose_parts n x y z s o h =
      let g = made.of_choose n x y z s o h in
      let p = placed_mark (codes "?") g.1.0 g.1.2.0 g.1.2.1 in
      let q = placed_mark (codes ":") g.1.2.2.0 g.1.2.2.2.0 g.1.2.2.2.1 in
      (g.0, (g.1.0, g.1.1, ((p.0, (y, (q.0, z))), refl, (g.1.2.0, p.1, (g.1.2.2.0, g.1.2.2.1, (g.1.2.2.2.0, q.1, g.1.2.2.2.2))))))

  pub spine : (x : Expr) → Spine x
  spine = made.by_spine Spine
      (λ w n s o m i small h. first (e.Literal w) s o m i n small (made.to_literal 13 w s o (made.of_literal n w s o h)))
      (λ w all n s o m i small h. first (e.Name w all) s o m i n small (made.to_name 13 w all s o (made.of_name n w all s o h)))
      (λ p x n s o m i small h. first (e.Paren p x) s o m i n small (made.to_paren 13 p x s o (made.of_paren n p x s o h)))
      (λ p all n s o m i small h. first (e.Concat p all) s o m i n small (made.to_concat 13 p all s o (made.of_concat n p all s o h)))
      (λ p x all n s o m i small h. first (e.Repeat p x all) s o m i n small (made.to_repeat 13 p x all s o (made.of_repeat n p x all s o h)))
      (λ w x n s o m i small h. first (e.CastLiteral w x) s o m i n small (made.to_cast_literal 13 w x s o (made.of_cast_literal n w x s o h)))
      (λ w x n s o m i small h. first (e.CastName w x) s o m i n small (made.to_cast_name 13 w x s o (made.of_cast_name n w x s o h)))
      (λ p y x n s o m i small h. first (e.CastParen p y x) s o m i n small (made.to_cast_paren 13 p y x s o (made.of_cast_paren n p y x s o h)))
      (λ g p x n s o m i small h. first (e.CastSign g p x) s o m i n small (made.to_cast_sign 13 g p x s o (made.of_cast_sign n g p x s o h)))
      (λ f p x n s o m i small h. first (e.System f p x) s o m i n small (made.to_system 13 f p x s o (made.of_system n f p x s o h)))
      (λ op p x n s o m i small h. first (e.Unary op p x) s o m i n small (made.to_unary 13 op p x s o (made.of_unary n op p x s o h)))
      (λ x op p y ih n s o m i small h ends same P beyond deep least le go.
      let g = made.of_binary n x op p y s o h in
      operator_case (Place × Expr) x (λ c. e.Binary x op c.0 c.1) (OpSpelled d expr parts op) (op_nests d expr parts) (Stops (right_level op)) (mark (binary_name op) ⊗ expr (right_level op))
      (op_moved d expr parts op) (op_reader d expr parts op) (op_joined x op) (join_by.Binary op) refl (op_lows x op) ih
      (p, y) s g.1.0 g.1.0 o m i (left_level op) n (omega (arith, (levels op).left_high)) (omega (arith, g.0, (levels op).left_above)) g.1.1
      (op_ends op p g.1.0 g.1.2.0 g.1.2.1) (op_told op p g.1.0 g.1.2.0 g.1.2.1) (omega (arith, g.0)) g.1.2 (right_stops op n o g.0 ends) same P beyond deep least le go)
      (λ x y z ih n s o m i small h ends same P beyond deep least le go.
      let g = choose_parts n x y z s o h in
      operator_case (Place × (Expr × (Place × Expr))) x (λ c. e.Choose x c.1.0 c.1.1.1) (ChooseSpelled d expr parts) (choose_nests d expr parts) (Stops 1) (question_tail expr)
      (question_moved d expr parts) (question_reader d expr parts) (choose_joined x) join_by.Choose refl (choose_lows x) ih
      g.1.2.0 s g.1.0 g.1.0 o m i 2 n (omega arith) (omega (arith, g.0)) g.1.1
      (question_ends g.1.2.0.0 g.1.0 g.1.2.2.0 g.1.2.2.1) (question_told g.1.2.0.0 g.1.0 g.1.2.2.0 g.1.2.2.1) (omega (arith, g.0)) g.1.2.2 (choose_stops n o g.0 ends) same P beyond
      (subst (λ z. (k left : ℕ) → BadAt (Bad (suc d)) (expr_depths z) (length i - k) → P (Err (TooDeep k left))) (sym g.1.2.1) deep) least le
      (subst (Go d expr parts least m i P) (sym g.1.2.1) go))

  -- ---- what is read agrees with each tree

  pub stops_here : (n : ℕ) (f : ℕ) (x : Expr) (j from : List Token) (q : Option Joiner) → strength_of q ≤ n → branch q (turn d expr parts n from f x) (pure x) j ≡ Ok (x, j)
  stops_here n f x j from None weak = refl
  stops_here n f x j from (Some k) weak = by_weak (nat_le (strength_of (Some k)) n) (grind (arith, nat_tests, weak))
    where
      by_weak : (b : Bool) → b ≡ true
          → ◌≡◌ {A = Outcome Expr} ((if b then pure x else (if nat_lt (height x) d then (operated d expr x k >>= climb d expr n from f) else (λ i. Err (too_high d x from i)))) j) (Ok (x, j))
      by_weak true e = refl
      by_weak false e = absurd (cc)

  pub climb_stops : (n f : ℕ) (x : Expr) (from j : List Token) → strength j ≤ n → climb d expr n from f x j ≡ Ok (x, j)
  unfolding climb
  climb_stops n zero x from j weak = refl
  climb_stops n (suc f) x from j weak = stops_here n f x j from (told joiner_test j) weak

  abbrev pub SoundlyAgrees : ℕ → Expr → ℕ → List Token → Outcome Expr → Type 0
  SoundlyAgrees n x m i r = Meets r (λ y j. Spells n y i j) → Agrees (Bad (suc d)) expr_depths x m i r

  pub beyond_agrees : (n : ℕ) (x : Expr) (m : ℕ) (i : List Token) (r : Outcome Expr) → Beyond m i r → SoundlyAgrees n x m i r
  beyond_agrees n x m i (Ok p) h = λ read shown. absurd (omega (arith, (moved_expr n).count p.0 i p.1 read))
  beyond_agrees n x m i (Err Memory) h = absurd h
  beyond_agrees n x m i (Err (Syntax left)) h = λ read. h
  beyond_agrees n x m i (Err (TooDeep k left)) h = λ read shown. absurd (omega arith)

  pub level_agrees : (n : ℕ) → n ≤ 13 → (x : Expr) (s o : List Token) (m : ℕ) (i : List Token) → Spells n x s o → Stops n o → take m s ≡ take m i
      → SoundlyAgrees n x m i (level d expr n i)
  level_agrees n small x s o m i h stops same =
      spine x n s o m i small h (ends_of_stops n o stops) same (SoundlyAgrees n x m i) (beyond_agrees n x m i) (λ k left bad read shown. bad) n (omega arith)
      (λ f j fuel at count under tall.
      let shared : take (m - length (expr_depths x)) o ≡ take (m - length (expr_depths x)) j =
      ap (take (m - length (expr_depths x))) ((moved_expr n).rest x s o h) ∙ (take_drop_same (length (expr_depths x)) m s i (omega arith) same ∙ ap (take (m - length (expr_depths x))) (sym at)) in
      let weak : strength j ≤ n = subst (λ q. strength_of q ≤ n) (told_shared joiner_test (m - length (expr_depths x)) o j (omega arith) shared) stops.2 in
      subst (SoundlyAgrees n x m i) (sym (climb_stops n f x i j weak)) (λ read shown. refl))
