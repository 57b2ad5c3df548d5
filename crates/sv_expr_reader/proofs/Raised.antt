-- The height of a tree whose first part's height is known.
use Rattle.std.proofs.Common.{◌≡◌, ℕ, ◌+◌, max, min, List, Ok, Err, refl, sym, ◌∙◌, ap, subst, arith}
use Rattle.sv_outside.specs.declared.refusal.Place.{Place}
use Rattle.sv_outside.specs.declared.text.Token.{Token}
use Rattle.sv_tree.specs.declared.exprs.BinaryOp.{BinaryOp}
use Rattle.sv_tree.specs.declared.exprs.Expr.{Expr}
use Rattle.sv_tree.specs.declared.exprs.Expr.TheBlock.{shape-the_row-Select-0, hidden-the_row-Select-0, shape-the_row-Expr-1, hidden-the_row-Expr-1, shape-the_row-Expr-2, hidden-the_row-Expr-2}
use Rattle.sv_tree.specs.declared.exprs.Expr.TheVariants as e
use Rattle.sv_cursor.specs.declared.sort.Mark.TheVariants as m
use Rattle.sv_cursor.specs.Tests.{mark}
use Rattle.sv_cursor.specs.Parsers.{Outcome, Parser, and_then, ◌⊗◌}
use Rattle.sv_expr_words.specs.declared.openers.Joiner.{Joiner}
use Rattle.sv_expr_words.specs.declared.openers.Joiner.TheVariants as join_by
use Rattle.sv_expr_words.specs.Signs.{binary_name}
use Rattle.sv_tree.specs.GrammarExprs.{right_level}
use Rattle.sv_expr_reader.specs.Climbing.{BeginsWith}
use Rattle.sv_expr_reader.specs.Heights.{capped, last}
use Rattle.sv_tree.proofs.MadeExprs as made
use Rattle.sv_expr_reader.specs.Reading.{operated}
use Rattle.sv_expr_reader.proofs.Capped.{of_binary, of_choose}

begins_binary : (n : ℕ) (x : Expr) (op : BinaryOp) (p : Place) (y : Expr) → n ≡ capped x → BeginsWith n (e.Binary x op p y)
unfolding shape-the_row-Select-0 hidden-the_row-Select-0 shape-the_row-Expr-1 hidden-the_row-Expr-1 shape-the_row-Expr-2 hidden-the_row-Expr-2 denote.Hole.Carrier.hidden
begins_binary n x op p y h = h

binary_begins : (n : ℕ) (x : Expr) (op : BinaryOp) (p : Place) (y : Expr) → BeginsWith n (e.Binary x op p y) → n ≡ capped x
unfolding shape-the_row-Select-0 hidden-the_row-Select-0 shape-the_row-Expr-1 hidden-the_row-Expr-1 shape-the_row-Expr-2 hidden-the_row-Expr-2 denote.Hole.Carrier.hidden
binary_begins n x op p y h = h

begins_choose : (n : ℕ) (x y z : Expr) → n ≡ capped x → BeginsWith n (e.Choose x y z)
unfolding shape-the_row-Select-0 hidden-the_row-Select-0 shape-the_row-Expr-1 hidden-the_row-Expr-1 shape-the_row-Expr-2 hidden-the_row-Expr-2 denote.Hole.Carrier.hidden
begins_choose n x y z h = h

choose_begins : (n : ℕ) (x y z : Expr) → BeginsWith n (e.Choose x y z) → n ≡ capped x
unfolding shape-the_row-Select-0 hidden-the_row-Select-0 shape-the_row-Expr-1 hidden-the_row-Expr-1 shape-the_row-Expr-2 hidden-the_row-Expr-2 denote.Hole.Carrier.hidden
choose_begins n x y z h = h

-- ---- what code tells

pub last_binary : (x : Expr) (op : BinaryOp) (p : Place) (y : Expr) → last (e.Binary x op p y) ≡ capped y
unfolding shape-the_row-Select-0 hidden-the_row-Select-0 shape-the_row-Expr-1 hidden-the_row-Expr-1 shape-the_row-Expr-2 hidden-the_row-Expr-2 denote.Hole.Carrier.hidden
last_binary x op p y = refl

pub last_choose : (x y z : Expr) → last (e.Choose x y z) ≡ max (capped y) (capped z)
unfolding shape-the_row-Select-0 hidden-the_row-Select-0 shape-the_row-Expr-1 hidden-the_row-Expr-1 shape-the_row-Expr-2 hidden-the_row-Expr-2 denote.Hole.Carrier.hidden
last_choose x y z = refl

pub raised : (n : ℕ) (x : Expr) → BeginsWith n x → capped x ≡ min (max n (last x) + 1) 255
unfolding shape-the_row-Select-0 hidden-the_row-Select-0 shape-the_row-Expr-1 hidden-the_row-Expr-1 shape-the_row-Expr-2 hidden-the_row-Expr-2 denote.Hole.Carrier.hidden
raised n = made.by_spine (λ x. BeginsWith n x → capped x ≡ min (max n (last x) + 1) 255)
    (λ w h. absurd h)
    (λ w all h. absurd h)
    (λ p x h. absurd h)
    (λ p all h. absurd h)
    (λ p x all h. absurd h)
    (λ w x h. absurd h)
    (λ w x h. absurd h)
    (λ p y x h. absurd h)
    (λ g p x h. absurd h)
    (λ f p x h. absurd h)
    (λ op p x h. absurd h)
    (λ x op p y ih h. of_binary x op p y ∙ ap (λ k. min (max k (capped y) + 1) 255) (sym (binary_begins n x op p y h)))
    (λ x y z ih h. of_choose x y z ∙ (ap (λ k. min (max (max k (capped y)) (capped z) + 1) 255) (sym (choose_begins n x y z h)) ∙ omega arith))

-- ---- what an operator makes begins with what stands before it

by_binary : (n : ℕ) (left : Expr) (op : BinaryOp) (r : Outcome (Place × Expr)) (x : Expr) (k : List Token) → n ≡ capped left
    → ◌≡◌ {A = Outcome Expr} (and_then r (λ c j. Ok (e.Binary left op c.0 c.1, j))) (Ok (x, k)) → BeginsWith n x
by_binary n left op (Ok p) x k h is = let q : ◌≡◌ {A = Expr × List Token} (x, k) (e.Binary left op p.0.0 p.0.1, p.1) = cc in subst (BeginsWith n) (sym (ap (λ q. q.0) q)) (begins_binary n left op p.0.0 p.0.1 h)
by_binary n left op (Err z) x k h is = absurd (cc)

by_choose : (n : ℕ) (left : Expr) (r : Outcome (Place × (Expr × (Place × Expr)))) (x : Expr) (k : List Token) → n ≡ capped left
    → ◌≡◌ {A = Outcome Expr} (and_then r (λ c j. Ok (e.Choose left c.1.0 c.1.1.1, j))) (Ok (x, k)) → BeginsWith n x
by_choose n left (Ok p) x k h is = let q : ◌≡◌ {A = Expr × List Token} (x, k) (e.Choose left p.0.1.0 p.0.1.1.1, p.1) = cc in subst (BeginsWith n) (sym (ap (λ q. q.0) q)) (begins_choose n left p.0.1.0 p.0.1.1.1 h)
by_choose n left (Err z) x k h is = absurd (cc)

pub operated_begins : (d : ℕ) (expr : ℕ → Parser Expr) (n : ℕ) (left : Expr) (j : Joiner) (i : List Token) (x : Expr) (k : List Token) → n ≡ capped left
    → operated d expr left j i ≡ Ok (x, k) → BeginsWith n x
operated_begins d expr n left (join_by.Binary op) i x k h is = by_binary n left op ((mark (binary_name op) ⊗ expr (right_level op)) i) x k h is
operated_begins d expr n left join_by.Choose i x k h is = by_choose n left ((mark m.Question ⊗ expr 0 ⊗ mark m.Colon ⊗ expr 1) i) x k h is
