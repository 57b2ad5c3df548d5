-- Expressions as code makes them, with lists of parts: what is written of them.
use Rattle.std.proofs.Common.{◌≡◌, List, [], ◌∷◌, codes, refl, ap}
use Rattle.sv_outside.specs.declared.refusal.Place.{Place}
use Rattle.sv_tree.specs.declared.word.Word.{Word}
use Rattle.sv_tree.specs.declared.exprs.Sign.{Sign}
use Rattle.sv_tree.specs.declared.exprs.SystemName.{SystemName}
use Rattle.sv_tree.specs.declared.exprs.UnaryOp.{UnaryOp}
use Rattle.sv_tree.specs.declared.exprs.BinaryOp.{BinaryOp}
use Rattle.sv_tree.specs.declared.exprs.RangeMark.{RangeMark}
use Rattle.sv_tree.specs.declared.exprs.Expr.{Expr, Literal}
use Rattle.sv_tree.specs.declared.exprs.Expr.TheVariants as e
use Rattle.sv_tree.specs.declared.exprs.Expr.TheBlock.{shape-the_row-Select-0, hidden-the_row-Select-0, shape-the_row-Expr-1, hidden-the_row-Expr-1, shape-the_row-Expr-2, hidden-the_row-Expr-2}
use Rattle.sv_tree.specs.declared.exprs.Select.{Select, Member}
use Rattle.sv_tree.specs.declared.exprs.Select.TheVariants as s
use Rattle.sv_write.specs.declared.lexeme.Lexeme.{Lexeme}
use Rattle.sv_write.specs.Writing.{Write, ◌⨾◌, mark, key, system, literal, name, each, after_commas, commas}
use Rattle.sv_tree.specs.GrammarExprs.{sign_word, system_word, unary_mark, binary_mark, range_text}
use Rattle.sv_write.specs.Exprs.{write_expr, write_exprs, write_more_exprs, write_select, write_select_row}

-- ---- lists of parts

rows_exprs_more : (all : List Expr) → ◌≡◌ {A = Write} (write_more_exprs (hidden-the_row-Expr-2 all)) (after_commas write_expr all)
unfolding each write_expr write_exprs write_more_exprs write_select write_select_row shape-the_row-Select-0 hidden-the_row-Select-0 shape-the_row-Expr-1 hidden-the_row-Expr-1 shape-the_row-Expr-2 hidden-the_row-Expr-2 denote.Hole.Carrier.hidden
rows_exprs_more [] = refl
rows_exprs_more (x ∷ all) = ap (λ (f : Write). mark (codes ",") ⨾ write_expr x ⨾ f) (rows_exprs_more all)

rows_exprs : (all : List Expr) → ◌≡◌ {A = Write} (write_exprs (hidden-the_row-Expr-2 all)) (commas write_expr all)
unfolding write_expr write_exprs write_more_exprs write_select write_select_row shape-the_row-Select-0 hidden-the_row-Select-0 shape-the_row-Expr-1 hidden-the_row-Expr-1 shape-the_row-Expr-2 hidden-the_row-Expr-2 denote.Hole.Carrier.hidden
rows_exprs [] = refl
rows_exprs (x ∷ all) = ap (λ (f : Write). write_expr x ⨾ f) (rows_exprs_more all)

rows_selects : (all : List Select) → ◌≡◌ {A = Write} (write_select_row (hidden-the_row-Select-0 all)) (each write_select all)
unfolding each write_expr write_exprs write_more_exprs write_select write_select_row shape-the_row-Select-0 hidden-the_row-Select-0 shape-the_row-Expr-1 hidden-the_row-Expr-1 shape-the_row-Expr-2 hidden-the_row-Expr-2 denote.Hole.Carrier.hidden
rows_selects [] = refl
rows_selects (x ∷ []) = refl
rows_selects (x ∷ y ∷ all) = ap (λ (f : Write). write_select x ⨾ f) (rows_selects (y ∷ all))

-- ---- trees as code makes them

pub made_paren : (p : Place) (x : Expr) (l : List Lexeme) → write_expr (e.Paren p x) l ≡ (mark (codes "(") ⨾ write_expr x ⨾ mark (codes ")")) l
unfolding write_expr write_exprs write_more_exprs write_select write_select_row shape-the_row-Select-0 hidden-the_row-Select-0 shape-the_row-Expr-1 hidden-the_row-Expr-1 shape-the_row-Expr-2 hidden-the_row-Expr-2 denote.Hole.Carrier.hidden
made_paren p x l = refl

pub made_cast_literal : (w : Word) (x : Expr) (l : List Lexeme) → write_expr (e.CastLiteral w x) l ≡ (literal w ⨾ mark (codes "'") ⨾ mark (codes "(") ⨾ write_expr x ⨾ mark (codes ")")) l
unfolding write_expr write_exprs write_more_exprs write_select write_select_row shape-the_row-Select-0 hidden-the_row-Select-0 shape-the_row-Expr-1 hidden-the_row-Expr-1 shape-the_row-Expr-2 hidden-the_row-Expr-2 denote.Hole.Carrier.hidden
made_cast_literal w x l = refl

pub made_cast_name : (w : Word) (x : Expr) (l : List Lexeme) → write_expr (e.CastName w x) l ≡ (name w ⨾ mark (codes "'") ⨾ mark (codes "(") ⨾ write_expr x ⨾ mark (codes ")")) l
unfolding write_expr write_exprs write_more_exprs write_select write_select_row shape-the_row-Select-0 hidden-the_row-Select-0 shape-the_row-Expr-1 hidden-the_row-Expr-1 shape-the_row-Expr-2 hidden-the_row-Expr-2 denote.Hole.Carrier.hidden
made_cast_name w x l = refl

pub made_cast_paren : (p : Place) (y x : Expr) (l : List Lexeme) → write_expr (e.CastParen p y x) l ≡ (mark (codes "(") ⨾ write_expr y ⨾ mark (codes ")") ⨾ mark (codes "'") ⨾ mark (codes "(") ⨾ write_expr x ⨾ mark (codes ")")) l
unfolding write_expr write_exprs write_more_exprs write_select write_select_row shape-the_row-Select-0 hidden-the_row-Select-0 shape-the_row-Expr-1 hidden-the_row-Expr-1 shape-the_row-Expr-2 hidden-the_row-Expr-2 denote.Hole.Carrier.hidden
made_cast_paren p y x l = refl

pub made_cast_sign : (g : Sign) (p : Place) (x : Expr) (l : List Lexeme) → write_expr (e.CastSign g p x) l ≡ (key (sign_word g) ⨾ mark (codes "'") ⨾ mark (codes "(") ⨾ write_expr x ⨾ mark (codes ")")) l
unfolding write_expr write_exprs write_more_exprs write_select write_select_row shape-the_row-Select-0 hidden-the_row-Select-0 shape-the_row-Expr-1 hidden-the_row-Expr-1 shape-the_row-Expr-2 hidden-the_row-Expr-2 denote.Hole.Carrier.hidden
made_cast_sign g p x l = refl

pub made_system : (f : SystemName) (p : Place) (x : Expr) (l : List Lexeme) → write_expr (e.System f p x) l ≡ (system (system_word f) ⨾ mark (codes "(") ⨾ write_expr x ⨾ mark (codes ")")) l
unfolding write_expr write_exprs write_more_exprs write_select write_select_row shape-the_row-Select-0 hidden-the_row-Select-0 shape-the_row-Expr-1 hidden-the_row-Expr-1 shape-the_row-Expr-2 hidden-the_row-Expr-2 denote.Hole.Carrier.hidden
made_system f p x l = refl

pub made_unary : (op : UnaryOp) (p : Place) (x : Expr) (l : List Lexeme) → write_expr (e.Unary op p x) l ≡ (mark (unary_mark op) ⨾ write_expr x) l
unfolding write_expr write_exprs write_more_exprs write_select write_select_row shape-the_row-Select-0 hidden-the_row-Select-0 shape-the_row-Expr-1 hidden-the_row-Expr-1 shape-the_row-Expr-2 hidden-the_row-Expr-2 denote.Hole.Carrier.hidden
made_unary op p x l = refl

pub made_binary : (x : Expr) (op : BinaryOp) (p : Place) (y : Expr) (l : List Lexeme) → write_expr (e.Binary x op p y) l ≡ (write_expr x ⨾ mark (binary_mark op) ⨾ write_expr y) l
unfolding write_expr write_exprs write_more_exprs write_select write_select_row shape-the_row-Select-0 hidden-the_row-Select-0 shape-the_row-Expr-1 hidden-the_row-Expr-1 shape-the_row-Expr-2 hidden-the_row-Expr-2 denote.Hole.Carrier.hidden
made_binary x op p y l = refl

pub made_choose : (x y z : Expr) (l : List Lexeme) → write_expr (e.Choose x y z) l ≡ (write_expr x ⨾ mark (codes "?") ⨾ write_expr y ⨾ mark (codes ":") ⨾ write_expr z) l
unfolding write_expr write_exprs write_more_exprs write_select write_select_row shape-the_row-Select-0 hidden-the_row-Select-0 shape-the_row-Expr-1 hidden-the_row-Expr-1 shape-the_row-Expr-2 hidden-the_row-Expr-2 denote.Hole.Carrier.hidden
made_choose x y z l = refl

pub made_literal : (w : Word) (l : List Lexeme) → write_expr (e.Literal w) l ≡ (literal w) l
unfolding write_expr write_exprs write_more_exprs write_select write_select_row
made_literal w l = refl

pub made_name : (w : Word) (all : List Select) (l : List Lexeme) → write_expr (e.Name w all) l ≡ (name w ⨾ each write_select all) l
unfolding write_expr write_exprs write_more_exprs write_select write_select_row shape-the_row-Select-0 hidden-the_row-Select-0 shape-the_row-Expr-1 hidden-the_row-Expr-1 shape-the_row-Expr-2 hidden-the_row-Expr-2 denote.Hole.Carrier.hidden
made_name w all l = ap (λ (f : Write). (name w ⨾ f) l) (rows_selects all)

pub made_concat : (p : Place) (all : List Expr) (l : List Lexeme) → write_expr (e.Concat p all) l ≡ (mark (codes "{") ⨾ commas write_expr all ⨾ mark (codes "}")) l
unfolding write_expr write_exprs write_more_exprs write_select write_select_row shape-the_row-Select-0 hidden-the_row-Select-0 shape-the_row-Expr-1 hidden-the_row-Expr-1 shape-the_row-Expr-2 hidden-the_row-Expr-2 denote.Hole.Carrier.hidden
made_concat p all l = ap (λ (f : Write). (mark (codes "{") ⨾ f ⨾ mark (codes "}")) l) (rows_exprs all)

pub made_repeat : (p : Place) (x : Expr) (all : List Expr) (l : List Lexeme) → write_expr (e.Repeat p x all) l ≡ (mark (codes "{") ⨾ write_expr x ⨾ mark (codes "{") ⨾ commas write_expr all ⨾ mark (codes "}") ⨾ mark (codes "}")) l
unfolding write_expr write_exprs write_more_exprs write_select write_select_row shape-the_row-Select-0 hidden-the_row-Select-0 shape-the_row-Expr-1 hidden-the_row-Expr-1 shape-the_row-Expr-2 hidden-the_row-Expr-2 denote.Hole.Carrier.hidden
made_repeat p x all l = ap (λ (f : Write). (mark (codes "{") ⨾ write_expr x ⨾ mark (codes "{") ⨾ f ⨾ mark (codes "}") ⨾ mark (codes "}")) l) (rows_exprs all)

pub made_member : (p : Place) (w : Word) (l : List Lexeme) → write_select (s.Member p w) l ≡ (mark (codes ".") ⨾ name w) l
unfolding write_expr write_exprs write_more_exprs write_select write_select_row
made_member p w l = refl

pub made_index : (p : Place) (x : Expr) (l : List Lexeme) → write_select (s.Index p x) l ≡ (mark (codes "[") ⨾ write_expr x ⨾ mark (codes "]")) l
unfolding write_expr write_exprs write_more_exprs write_select write_select_row shape-the_row-Select-0 hidden-the_row-Select-0 shape-the_row-Expr-1 hidden-the_row-Expr-1 shape-the_row-Expr-2 hidden-the_row-Expr-2 denote.Hole.Carrier.hidden
made_index p x l = refl

pub made_range : (p : Place) (x : Expr) (m : RangeMark) (y : Expr) (l : List Lexeme) → write_select (s.Range p x m y) l ≡ (mark (codes "[") ⨾ write_expr x ⨾ mark (range_text m) ⨾ write_expr y ⨾ mark (codes "]")) l
unfolding write_expr write_exprs write_more_exprs write_select write_select_row shape-the_row-Select-0 hidden-the_row-Select-0 shape-the_row-Expr-1 hidden-the_row-Expr-1 shape-the_row-Expr-2 hidden-the_row-Expr-2 denote.Hole.Carrier.hidden
made_range p x m y l = refl
