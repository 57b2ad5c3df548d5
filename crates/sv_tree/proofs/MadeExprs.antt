-- Expressions as code makes them, with lists of parts: what spells them, and how deep their tokens lie.
use Rattle.std.proofs.Common.{◌≡◌, ℕ, ◌≤◌, List, [], ◌∷◌, ◌++◌, codes, refl, sym, ap, ◌∙◌, subst, append_assoc, arith}
use Rattle.sv_outside.specs.declared.refusal.Place.{Place}
use Rattle.sv_outside.specs.declared.text.Token.{Token}
use Rattle.sv_tree.specs.declared.word.Word.{Word}
use Rattle.sv_tree.specs.declared.exprs.Sign.{Sign}
use Rattle.sv_tree.specs.declared.exprs.SystemName.{SystemName}
use Rattle.sv_tree.specs.declared.exprs.UnaryOp.{UnaryOp}
use Rattle.sv_tree.specs.declared.exprs.BinaryOp.{BinaryOp}
use Rattle.sv_tree.specs.declared.exprs.RangeMark.{RangeMark}
use Rattle.sv_tree.specs.declared.exprs.Expr.{Expr, Literal, Name', Paren', Concat', Repeat', CastLiteral', CastName', CastParen', CastSign', System', Unary', Binary', Choose', end_of-Expr, more_of-Expr, roll-Expr, roll-out-Expr}
use Rattle.sv_tree.specs.declared.exprs.Expr.TheVariants as e
use Rattle.sv_tree.specs.declared.exprs.Expr.TheBlock.{shape-the_row-Select-0, hidden-the_row-Select-0, shown-the_row-Select-0, shape-the_row-Expr-1, hidden-the_row-Expr-1, shown-the_row-Expr-1, shape-the_row-Expr-2, hidden-the_row-Expr-2, shown-the_row-Expr-2}
use Rattle.sv_tree.specs.declared.exprs.Select.{Select, Member, Index', Range'}
use Rattle.sv_tree.specs.declared.exprs.Select.TheVariants as s
use Rattle.sv_tree.specs.Spelling.{Spelled, ◌⨟◌, when, mark, mark_at, key_at, system_at, literal, name, commas, after_commas}
use Rattle.sv_tree.specs.GrammarExprs.{Spells, SpellsCommas, SpellsMore, SpellsSelect, SpellsSelects, sign_word, system_word, unary_mark, binary_mark, range_text, binds, left_level, right_level}
use Rattle.sv_tree.specs.GrammarStmts.{SpellsChain}
use Rattle.sv_tree.specs.Nesting.{Depths, one, two, three, in_expr, each_depths, commas_depths, after_commas_depths, expr_depths, name_depths, exprs_depths, more_depths, select_depths, selects_depths}

-- ---- lists of parts

pub more_row : (all : List Expr) (i o : List Token) → after_commas (Spells 0) all i o → SpellsMore (hidden-the_row-Expr-2 all) i o
unfolding shape-the_row-Select-0 hidden-the_row-Select-0 shape-the_row-Expr-1 hidden-the_row-Expr-1 shape-the_row-Expr-2 hidden-the_row-Expr-2 denote.Hole.Carrier.hidden
more_row [] i o h = h
more_row (x ∷ all) i o h = (h.0, h.1, (h.2.0, h.2.1, more_row all h.2.0 o h.2.2))

pub row_more : (all : List Expr) (i o : List Token) → SpellsMore (hidden-the_row-Expr-2 all) i o → after_commas (Spells 0) all i o
unfolding shape-the_row-Select-0 hidden-the_row-Select-0 shape-the_row-Expr-1 hidden-the_row-Expr-1 shape-the_row-Expr-2 hidden-the_row-Expr-2 denote.Hole.Carrier.hidden
row_more [] i o h = h
row_more (x ∷ all) i o h = (h.0, h.1, (h.2.0, h.2.1, row_more all h.2.0 o h.2.2))

pub all_row : (all : List Expr) (i o : List Token) → commas (Spells 0) all i o → SpellsCommas (hidden-the_row-Expr-2 all) i o
unfolding shape-the_row-Select-0 hidden-the_row-Select-0 shape-the_row-Expr-1 hidden-the_row-Expr-1 shape-the_row-Expr-2 hidden-the_row-Expr-2 denote.Hole.Carrier.hidden
all_row [] i o h = h
all_row (x ∷ all) i o h = (h.0, h.1, more_row all h.0 o h.2)

pub row_all : (all : List Expr) (i o : List Token) → SpellsCommas (hidden-the_row-Expr-2 all) i o → commas (Spells 0) all i o
unfolding shape-the_row-Select-0 hidden-the_row-Select-0 shape-the_row-Expr-1 hidden-the_row-Expr-1 shape-the_row-Expr-2 hidden-the_row-Expr-2 denote.Hole.Carrier.hidden
row_all [] i o h = h
row_all (x ∷ all) i o h = (h.0, h.1, row_more all h.0 o h.2)

pub chain_row : (all : List Select) (i o : List Token) → SpellsChain all i o → SpellsSelects (hidden-the_row-Select-0 all) i o
unfolding shape-the_row-Select-0 hidden-the_row-Select-0 shape-the_row-Expr-1 hidden-the_row-Expr-1 shape-the_row-Expr-2 hidden-the_row-Expr-2 denote.Hole.Carrier.hidden
chain_row [] i o h = h
chain_row (x ∷ []) i o h = h
chain_row (x ∷ y ∷ all) i o h = (h.0, (h.1.0, h.1.1, chain_row (y ∷ all) h.1.0 o h.1.2))

pub row_chain : (all : List Select) (i o : List Token) → SpellsSelects (hidden-the_row-Select-0 all) i o → SpellsChain all i o
unfolding shape-the_row-Select-0 hidden-the_row-Select-0 shape-the_row-Expr-1 hidden-the_row-Expr-1 shape-the_row-Expr-2 hidden-the_row-Expr-2 denote.Hole.Carrier.hidden
row_chain [] i o h = h
row_chain (x ∷ []) i o h = h
row_chain (x ∷ y ∷ all) i o h = (h.0, (h.1.0, h.1.1, row_chain (y ∷ all) h.1.0 o h.1.2))

pub more_nests : (all : List Expr) → more_depths (hidden-the_row-Expr-2 all) ≡ after_commas_depths expr_depths all
unfolding expr_depths select_depths shape-the_row-Select-0 hidden-the_row-Select-0 shape-the_row-Expr-1 hidden-the_row-Expr-1 shape-the_row-Expr-2 hidden-the_row-Expr-2 denote.Hole.Carrier.hidden
more_nests [] = refl
more_nests (x ∷ all) = ap (λ d. one ++ expr_depths x ++ d) (more_nests all)

pub all_nests : (all : List Expr) → exprs_depths (hidden-the_row-Expr-2 all) ≡ commas_depths expr_depths all
unfolding expr_depths select_depths shape-the_row-Select-0 hidden-the_row-Select-0 shape-the_row-Expr-1 hidden-the_row-Expr-1 shape-the_row-Expr-2 hidden-the_row-Expr-2 denote.Hole.Carrier.hidden
all_nests [] = refl
all_nests (x ∷ all) = ap (λ d. expr_depths x ++ d) (more_nests all)

pub chain_nests : (all : List Select) → selects_depths (hidden-the_row-Select-0 all) ≡ each_depths select_depths all
unfolding expr_depths select_depths shape-the_row-Select-0 hidden-the_row-Select-0 shape-the_row-Expr-1 hidden-the_row-Expr-1 shape-the_row-Expr-2 hidden-the_row-Expr-2 denote.Hole.Carrier.hidden
chain_nests [] = refl
chain_nests (x ∷ all) = ap (λ d. select_depths x ++ d) (chain_nests all)

-- a name, and its selects
abbrev pub name_nests : List Select → Depths
name_nests [] = one
name_nests (x ∷ all) = in_expr (one ++ each_depths select_depths (x ∷ all))

pub row_name_nests : (all : List Select) → name_depths (hidden-the_row-Select-0 all) ≡ name_nests all
unfolding expr_depths select_depths shape-the_row-Select-0 hidden-the_row-Select-0 shape-the_row-Expr-1 hidden-the_row-Expr-1 shape-the_row-Expr-2 hidden-the_row-Expr-2 denote.Hole.Carrier.hidden
row_name_nests [] = refl
row_name_nests (x ∷ all) = ap in_expr (append_assoc one (select_depths x) (selects_depths (hidden-the_row-Select-0 all)) ∙ ap (λ d. one ++ (select_depths x ++ d)) (chain_nests all))

-- ---- the grammar at trees that code makes

pub to_paren : (n : ℕ) (p : Place) (x : Expr) (i o : List Token) → (mark_at (codes "(") p ⨟ Spells 0 x ⨟ mark (codes ")")) i o → Spells n (e.Paren p x) i o
unfolding shape-the_row-Select-0 hidden-the_row-Select-0 shape-the_row-Expr-1 hidden-the_row-Expr-1 shape-the_row-Expr-2 hidden-the_row-Expr-2 denote.Hole.Carrier.hidden
to_paren n p x i o h = h

pub of_paren : (n : ℕ) (p : Place) (x : Expr) (i o : List Token) → Spells n (e.Paren p x) i o → (mark_at (codes "(") p ⨟ Spells 0 x ⨟ mark (codes ")")) i o
unfolding shape-the_row-Select-0 hidden-the_row-Select-0 shape-the_row-Expr-1 hidden-the_row-Expr-1 shape-the_row-Expr-2 hidden-the_row-Expr-2 denote.Hole.Carrier.hidden
of_paren n p x i o h = h

pub nests_paren : (p : Place) (x : Expr) → expr_depths (e.Paren p x) ≡ in_expr (one ++ expr_depths x ++ one)
unfolding expr_depths select_depths shape-the_row-Select-0 hidden-the_row-Select-0 shape-the_row-Expr-1 hidden-the_row-Expr-1 shape-the_row-Expr-2 hidden-the_row-Expr-2 denote.Hole.Carrier.hidden
nests_paren p x = refl

pub to_cast_literal : (n : ℕ) (w : Word) (x : Expr) (i o : List Token) → (literal w ⨟ mark (codes "'") ⨟ mark (codes "(") ⨟ Spells 0 x ⨟ mark (codes ")")) i o → Spells n (e.CastLiteral w x) i o
unfolding shape-the_row-Select-0 hidden-the_row-Select-0 shape-the_row-Expr-1 hidden-the_row-Expr-1 shape-the_row-Expr-2 hidden-the_row-Expr-2 denote.Hole.Carrier.hidden
to_cast_literal n w x i o h = h

pub of_cast_literal : (n : ℕ) (w : Word) (x : Expr) (i o : List Token) → Spells n (e.CastLiteral w x) i o → (literal w ⨟ mark (codes "'") ⨟ mark (codes "(") ⨟ Spells 0 x ⨟ mark (codes ")")) i o
unfolding shape-the_row-Select-0 hidden-the_row-Select-0 shape-the_row-Expr-1 hidden-the_row-Expr-1 shape-the_row-Expr-2 hidden-the_row-Expr-2 denote.Hole.Carrier.hidden
of_cast_literal n w x i o h = h

pub nests_cast_literal : (w : Word) (x : Expr) → expr_depths (e.CastLiteral w x) ≡ in_expr (three ++ expr_depths x ++ one)
unfolding expr_depths select_depths shape-the_row-Select-0 hidden-the_row-Select-0 shape-the_row-Expr-1 hidden-the_row-Expr-1 shape-the_row-Expr-2 hidden-the_row-Expr-2 denote.Hole.Carrier.hidden
nests_cast_literal w x = refl

pub to_cast_name : (n : ℕ) (w : Word) (x : Expr) (i o : List Token) → (name w ⨟ mark (codes "'") ⨟ mark (codes "(") ⨟ Spells 0 x ⨟ mark (codes ")")) i o → Spells n (e.CastName w x) i o
unfolding shape-the_row-Select-0 hidden-the_row-Select-0 shape-the_row-Expr-1 hidden-the_row-Expr-1 shape-the_row-Expr-2 hidden-the_row-Expr-2 denote.Hole.Carrier.hidden
to_cast_name n w x i o h = h

pub of_cast_name : (n : ℕ) (w : Word) (x : Expr) (i o : List Token) → Spells n (e.CastName w x) i o → (name w ⨟ mark (codes "'") ⨟ mark (codes "(") ⨟ Spells 0 x ⨟ mark (codes ")")) i o
unfolding shape-the_row-Select-0 hidden-the_row-Select-0 shape-the_row-Expr-1 hidden-the_row-Expr-1 shape-the_row-Expr-2 hidden-the_row-Expr-2 denote.Hole.Carrier.hidden
of_cast_name n w x i o h = h

pub nests_cast_name : (w : Word) (x : Expr) → expr_depths (e.CastName w x) ≡ in_expr (three ++ expr_depths x ++ one)
unfolding expr_depths select_depths shape-the_row-Select-0 hidden-the_row-Select-0 shape-the_row-Expr-1 hidden-the_row-Expr-1 shape-the_row-Expr-2 hidden-the_row-Expr-2 denote.Hole.Carrier.hidden
nests_cast_name w x = refl

pub to_cast_paren : (n : ℕ) (p : Place) (y x : Expr) (i o : List Token) → (mark_at (codes "(") p ⨟ Spells 0 y ⨟ mark (codes ")") ⨟ mark (codes "'") ⨟ mark (codes "(") ⨟ Spells 0 x ⨟ mark (codes ")")) i o → Spells n (e.CastParen p y x) i o
unfolding shape-the_row-Select-0 hidden-the_row-Select-0 shape-the_row-Expr-1 hidden-the_row-Expr-1 shape-the_row-Expr-2 hidden-the_row-Expr-2 denote.Hole.Carrier.hidden
to_cast_paren n p y x i o h = h

pub of_cast_paren : (n : ℕ) (p : Place) (y x : Expr) (i o : List Token) → Spells n (e.CastParen p y x) i o → (mark_at (codes "(") p ⨟ Spells 0 y ⨟ mark (codes ")") ⨟ mark (codes "'") ⨟ mark (codes "(") ⨟ Spells 0 x ⨟ mark (codes ")")) i o
unfolding shape-the_row-Select-0 hidden-the_row-Select-0 shape-the_row-Expr-1 hidden-the_row-Expr-1 shape-the_row-Expr-2 hidden-the_row-Expr-2 denote.Hole.Carrier.hidden
of_cast_paren n p y x i o h = h

pub nests_cast_paren : (p : Place) (y x : Expr) → expr_depths (e.CastParen p y x) ≡ in_expr (one ++ expr_depths y ++ three ++ expr_depths x ++ one)
unfolding expr_depths select_depths shape-the_row-Select-0 hidden-the_row-Select-0 shape-the_row-Expr-1 hidden-the_row-Expr-1 shape-the_row-Expr-2 hidden-the_row-Expr-2 denote.Hole.Carrier.hidden
nests_cast_paren p y x = refl

pub to_cast_sign : (n : ℕ) (g : Sign) (p : Place) (x : Expr) (i o : List Token) → (key_at (sign_word g) p ⨟ mark (codes "'") ⨟ mark (codes "(") ⨟ Spells 0 x ⨟ mark (codes ")")) i o → Spells n (e.CastSign g p x) i o
unfolding shape-the_row-Select-0 hidden-the_row-Select-0 shape-the_row-Expr-1 hidden-the_row-Expr-1 shape-the_row-Expr-2 hidden-the_row-Expr-2 denote.Hole.Carrier.hidden
to_cast_sign n g p x i o h = h

pub of_cast_sign : (n : ℕ) (g : Sign) (p : Place) (x : Expr) (i o : List Token) → Spells n (e.CastSign g p x) i o → (key_at (sign_word g) p ⨟ mark (codes "'") ⨟ mark (codes "(") ⨟ Spells 0 x ⨟ mark (codes ")")) i o
unfolding shape-the_row-Select-0 hidden-the_row-Select-0 shape-the_row-Expr-1 hidden-the_row-Expr-1 shape-the_row-Expr-2 hidden-the_row-Expr-2 denote.Hole.Carrier.hidden
of_cast_sign n g p x i o h = h

pub nests_cast_sign : (g : Sign) (p : Place) (x : Expr) → expr_depths (e.CastSign g p x) ≡ in_expr (three ++ expr_depths x ++ one)
unfolding expr_depths select_depths shape-the_row-Select-0 hidden-the_row-Select-0 shape-the_row-Expr-1 hidden-the_row-Expr-1 shape-the_row-Expr-2 hidden-the_row-Expr-2 denote.Hole.Carrier.hidden
nests_cast_sign g p x = refl

pub to_system : (n : ℕ) (f : SystemName) (p : Place) (x : Expr) (i o : List Token) → (system_at (system_word f) p ⨟ mark (codes "(") ⨟ Spells 0 x ⨟ mark (codes ")")) i o → Spells n (e.System f p x) i o
unfolding shape-the_row-Select-0 hidden-the_row-Select-0 shape-the_row-Expr-1 hidden-the_row-Expr-1 shape-the_row-Expr-2 hidden-the_row-Expr-2 denote.Hole.Carrier.hidden
to_system n f p x i o h = h

pub of_system : (n : ℕ) (f : SystemName) (p : Place) (x : Expr) (i o : List Token) → Spells n (e.System f p x) i o → (system_at (system_word f) p ⨟ mark (codes "(") ⨟ Spells 0 x ⨟ mark (codes ")")) i o
unfolding shape-the_row-Select-0 hidden-the_row-Select-0 shape-the_row-Expr-1 hidden-the_row-Expr-1 shape-the_row-Expr-2 hidden-the_row-Expr-2 denote.Hole.Carrier.hidden
of_system n f p x i o h = h

pub nests_system : (f : SystemName) (p : Place) (x : Expr) → expr_depths (e.System f p x) ≡ in_expr (two ++ expr_depths x ++ one)
unfolding expr_depths select_depths shape-the_row-Select-0 hidden-the_row-Select-0 shape-the_row-Expr-1 hidden-the_row-Expr-1 shape-the_row-Expr-2 hidden-the_row-Expr-2 denote.Hole.Carrier.hidden
nests_system f p x = refl

pub to_unary : (n : ℕ) (op : UnaryOp) (p : Place) (x : Expr) (i o : List Token) → (mark_at (unary_mark op) p ⨟ Spells 13 x) i o → Spells n (e.Unary op p x) i o
unfolding shape-the_row-Select-0 hidden-the_row-Select-0 shape-the_row-Expr-1 hidden-the_row-Expr-1 shape-the_row-Expr-2 hidden-the_row-Expr-2 denote.Hole.Carrier.hidden
to_unary n op p x i o h = h

pub of_unary : (n : ℕ) (op : UnaryOp) (p : Place) (x : Expr) (i o : List Token) → Spells n (e.Unary op p x) i o → (mark_at (unary_mark op) p ⨟ Spells 13 x) i o
unfolding shape-the_row-Select-0 hidden-the_row-Select-0 shape-the_row-Expr-1 hidden-the_row-Expr-1 shape-the_row-Expr-2 hidden-the_row-Expr-2 denote.Hole.Carrier.hidden
of_unary n op p x i o h = h

pub nests_unary : (op : UnaryOp) (p : Place) (x : Expr) → expr_depths (e.Unary op p x) ≡ in_expr (one ++ expr_depths x)
unfolding expr_depths select_depths shape-the_row-Select-0 hidden-the_row-Select-0 shape-the_row-Expr-1 hidden-the_row-Expr-1 shape-the_row-Expr-2 hidden-the_row-Expr-2 denote.Hole.Carrier.hidden
nests_unary op p x = refl

pub to_binary : (n : ℕ) (x : Expr) (op : BinaryOp) (p : Place) (y : Expr) (i o : List Token) → (when (n ≤ binds op) (Spells (left_level op) x ⨟ mark_at (binary_mark op) p ⨟ Spells (right_level op) y)) i o → Spells n (e.Binary x op p y) i o
unfolding shape-the_row-Select-0 hidden-the_row-Select-0 shape-the_row-Expr-1 hidden-the_row-Expr-1 shape-the_row-Expr-2 hidden-the_row-Expr-2 denote.Hole.Carrier.hidden
to_binary n x op p y i o h = h

pub of_binary : (n : ℕ) (x : Expr) (op : BinaryOp) (p : Place) (y : Expr) (i o : List Token) → Spells n (e.Binary x op p y) i o → (when (n ≤ binds op) (Spells (left_level op) x ⨟ mark_at (binary_mark op) p ⨟ Spells (right_level op) y)) i o
unfolding shape-the_row-Select-0 hidden-the_row-Select-0 shape-the_row-Expr-1 hidden-the_row-Expr-1 shape-the_row-Expr-2 hidden-the_row-Expr-2 denote.Hole.Carrier.hidden
of_binary n x op p y i o h = h

pub nests_binary : (x : Expr) (op : BinaryOp) (p : Place) (y : Expr) → expr_depths (e.Binary x op p y) ≡ in_expr (expr_depths x ++ one ++ expr_depths y)
unfolding expr_depths select_depths shape-the_row-Select-0 hidden-the_row-Select-0 shape-the_row-Expr-1 hidden-the_row-Expr-1 shape-the_row-Expr-2 hidden-the_row-Expr-2 denote.Hole.Carrier.hidden
nests_binary x op p y = refl

pub to_choose : (n : ℕ) (x y z : Expr) (i o : List Token) → (when (n ≤ 1) (Spells 2 x ⨟ mark (codes "?") ⨟ Spells 0 y ⨟ mark (codes ":") ⨟ Spells 1 z)) i o → Spells n (e.Choose x y z) i o
unfolding shape-the_row-Select-0 hidden-the_row-Select-0 shape-the_row-Expr-1 hidden-the_row-Expr-1 shape-the_row-Expr-2 hidden-the_row-Expr-2 denote.Hole.Carrier.hidden
to_choose n x y z i o h = h

pub of_choose : (n : ℕ) (x y z : Expr) (i o : List Token) → Spells n (e.Choose x y z) i o → (when (n ≤ 1) (Spells 2 x ⨟ mark (codes "?") ⨟ Spells 0 y ⨟ mark (codes ":") ⨟ Spells 1 z)) i o
unfolding shape-the_row-Select-0 hidden-the_row-Select-0 shape-the_row-Expr-1 hidden-the_row-Expr-1 shape-the_row-Expr-2 hidden-the_row-Expr-2 denote.Hole.Carrier.hidden
of_choose n x y z i o h = h

pub nests_choose : (x y z : Expr) → expr_depths (e.Choose x y z) ≡ in_expr (expr_depths x ++ one ++ expr_depths y ++ one ++ expr_depths z)
unfolding expr_depths select_depths shape-the_row-Select-0 hidden-the_row-Select-0 shape-the_row-Expr-1 hidden-the_row-Expr-1 shape-the_row-Expr-2 hidden-the_row-Expr-2 denote.Hole.Carrier.hidden
nests_choose x y z = refl

pub to_literal : (n : ℕ) (w : Word) (i o : List Token) → literal w i o → Spells n (e.Literal w) i o
to_literal n w i o h = h

pub of_literal : (n : ℕ) (w : Word) (i o : List Token) → Spells n (e.Literal w) i o → literal w i o
of_literal n w i o h = h

pub nests_literal : (w : Word) → expr_depths (e.Literal w) ≡ one
unfolding expr_depths
nests_literal w = refl

pub to_name : (n : ℕ) (w : Word) (all : List Select) (i o : List Token) → (name w ⨟ SpellsChain all) i o → Spells n (e.Name w all) i o
unfolding shape-the_row-Select-0 hidden-the_row-Select-0 shape-the_row-Expr-1 hidden-the_row-Expr-1 shape-the_row-Expr-2 hidden-the_row-Expr-2 denote.Hole.Carrier.hidden
to_name n w all i o h = (h.0, h.1, chain_row all h.0 o h.2)

pub of_name : (n : ℕ) (w : Word) (all : List Select) (i o : List Token) → Spells n (e.Name w all) i o → (name w ⨟ SpellsChain all) i o
unfolding shape-the_row-Select-0 hidden-the_row-Select-0 shape-the_row-Expr-1 hidden-the_row-Expr-1 shape-the_row-Expr-2 hidden-the_row-Expr-2 denote.Hole.Carrier.hidden
of_name n w all i o h = (h.0, h.1, row_chain all h.0 o h.2)

pub nests_name : (w : Word) (all : List Select) → expr_depths (e.Name w all) ≡ name_nests all
unfolding expr_depths select_depths shape-the_row-Select-0 hidden-the_row-Select-0 shape-the_row-Expr-1 hidden-the_row-Expr-1 shape-the_row-Expr-2 hidden-the_row-Expr-2 denote.Hole.Carrier.hidden
nests_name w all = row_name_nests all

pub to_concat : (n : ℕ) (p : Place) (all : List Expr) (i o : List Token) → (mark_at (codes "{") p ⨟ commas (Spells 0) all ⨟ mark (codes "}")) i o → Spells n (e.Concat p all) i o
unfolding shape-the_row-Select-0 hidden-the_row-Select-0 shape-the_row-Expr-1 hidden-the_row-Expr-1 shape-the_row-Expr-2 hidden-the_row-Expr-2 denote.Hole.Carrier.hidden
to_concat n p all i o h = (h.0, h.1, (h.2.0, all_row all h.0 h.2.0 h.2.1, h.2.2))

pub of_concat : (n : ℕ) (p : Place) (all : List Expr) (i o : List Token) → Spells n (e.Concat p all) i o → (mark_at (codes "{") p ⨟ commas (Spells 0) all ⨟ mark (codes "}")) i o
unfolding shape-the_row-Select-0 hidden-the_row-Select-0 shape-the_row-Expr-1 hidden-the_row-Expr-1 shape-the_row-Expr-2 hidden-the_row-Expr-2 denote.Hole.Carrier.hidden
of_concat n p all i o h = (h.0, h.1, (h.2.0, row_all all h.0 h.2.0 h.2.1, h.2.2))

pub nests_concat : (p : Place) (all : List Expr) → expr_depths (e.Concat p all) ≡ in_expr (one ++ commas_depths expr_depths all ++ one)
unfolding expr_depths select_depths shape-the_row-Select-0 hidden-the_row-Select-0 shape-the_row-Expr-1 hidden-the_row-Expr-1 shape-the_row-Expr-2 hidden-the_row-Expr-2 denote.Hole.Carrier.hidden
nests_concat p all = ap (λ d. in_expr (one ++ d ++ one)) (all_nests all)

abbrev pub repeat_spelled : Place → Expr → List Expr → Spelled
repeat_spelled p x all = mark_at (codes "{") p ⨟ Spells 0 x ⨟ mark (codes "{") ⨟ commas (Spells 0) all ⨟ mark (codes "}") ⨟ mark (codes "}")

pub to_repeat : (n : ℕ) (p : Place) (x : Expr) (all : List Expr) (i o : List Token) → repeat_spelled p x all i o → Spells n (e.Repeat p x all) i o
unfolding shape-the_row-Select-0 hidden-the_row-Select-0 shape-the_row-Expr-1 hidden-the_row-Expr-1 shape-the_row-Expr-2 hidden-the_row-Expr-2 denote.Hole.Carrier.hidden
to_repeat n p x all i o h = (h.0, h.1, (h.2.0, h.2.1, (h.2.2.0, h.2.2.1, (h.2.2.2.0, all_row all h.2.2.0 h.2.2.2.0 h.2.2.2.1, h.2.2.2.2))))

pub of_repeat : (n : ℕ) (p : Place) (x : Expr) (all : List Expr) (i o : List Token) → Spells n (e.Repeat p x all) i o → repeat_spelled p x all i o
unfolding shape-the_row-Select-0 hidden-the_row-Select-0 shape-the_row-Expr-1 hidden-the_row-Expr-1 shape-the_row-Expr-2 hidden-the_row-Expr-2 denote.Hole.Carrier.hidden
of_repeat n p x all i o h = (h.0, h.1, (h.2.0, h.2.1, (h.2.2.0, h.2.2.1, (h.2.2.2.0, row_all all h.2.2.0 h.2.2.2.0 h.2.2.2.1, h.2.2.2.2))))

pub nests_repeat : (p : Place) (x : Expr) (all : List Expr) → expr_depths (e.Repeat p x all) ≡ in_expr (one ++ expr_depths x ++ one ++ commas_depths expr_depths all ++ two)
unfolding expr_depths select_depths shape-the_row-Select-0 hidden-the_row-Select-0 shape-the_row-Expr-1 hidden-the_row-Expr-1 shape-the_row-Expr-2 hidden-the_row-Expr-2 denote.Hole.Carrier.hidden
nests_repeat p x all = ap (λ d. in_expr (one ++ expr_depths x ++ one ++ d ++ two)) (all_nests all)

-- ---- selects

pub to_member : (p : Place) (w : Word) (i o : List Token) → (mark_at (codes ".") p ⨟ name w) i o → SpellsSelect (s.Member p w) i o
to_member p w i o h = h

pub of_member : (p : Place) (w : Word) (i o : List Token) → SpellsSelect (s.Member p w) i o → (mark_at (codes ".") p ⨟ name w) i o
of_member p w i o h = h

pub nests_member : (p : Place) (w : Word) → select_depths (s.Member p w) ≡ two
unfolding select_depths
nests_member p w = refl

pub to_index : (p : Place) (x : Expr) (i o : List Token) → (mark_at (codes "[") p ⨟ Spells 0 x ⨟ mark (codes "]")) i o → SpellsSelect (s.Index p x) i o
unfolding shape-the_row-Select-0 hidden-the_row-Select-0 shape-the_row-Expr-1 hidden-the_row-Expr-1 shape-the_row-Expr-2 hidden-the_row-Expr-2 denote.Hole.Carrier.hidden
to_index p x i o h = h

pub of_index : (p : Place) (x : Expr) (i o : List Token) → SpellsSelect (s.Index p x) i o → (mark_at (codes "[") p ⨟ Spells 0 x ⨟ mark (codes "]")) i o
unfolding shape-the_row-Select-0 hidden-the_row-Select-0 shape-the_row-Expr-1 hidden-the_row-Expr-1 shape-the_row-Expr-2 hidden-the_row-Expr-2 denote.Hole.Carrier.hidden
of_index p x i o h = h

pub nests_index : (p : Place) (x : Expr) → select_depths (s.Index p x) ≡ one ++ expr_depths x ++ one
unfolding expr_depths select_depths shape-the_row-Select-0 hidden-the_row-Select-0 shape-the_row-Expr-1 hidden-the_row-Expr-1 shape-the_row-Expr-2 hidden-the_row-Expr-2 denote.Hole.Carrier.hidden
nests_index p x = refl

pub to_range : (p : Place) (x : Expr) (m : RangeMark) (y : Expr) (i o : List Token) → (mark_at (codes "[") p ⨟ Spells 0 x ⨟ mark (range_text m) ⨟ Spells 0 y ⨟ mark (codes "]")) i o → SpellsSelect (s.Range p x m y) i o
unfolding shape-the_row-Select-0 hidden-the_row-Select-0 shape-the_row-Expr-1 hidden-the_row-Expr-1 shape-the_row-Expr-2 hidden-the_row-Expr-2 denote.Hole.Carrier.hidden
to_range p x m y i o h = h

pub of_range : (p : Place) (x : Expr) (m : RangeMark) (y : Expr) (i o : List Token) → SpellsSelect (s.Range p x m y) i o → (mark_at (codes "[") p ⨟ Spells 0 x ⨟ mark (range_text m) ⨟ Spells 0 y ⨟ mark (codes "]")) i o
unfolding shape-the_row-Select-0 hidden-the_row-Select-0 shape-the_row-Expr-1 hidden-the_row-Expr-1 shape-the_row-Expr-2 hidden-the_row-Expr-2 denote.Hole.Carrier.hidden
of_range p x m y i o h = h

pub nests_range : (p : Place) (x : Expr) (m : RangeMark) (y : Expr) → select_depths (s.Range p x m y) ≡ one ++ expr_depths x ++ one ++ expr_depths y ++ one
unfolding expr_depths select_depths shape-the_row-Select-0 hidden-the_row-Select-0 shape-the_row-Expr-1 hidden-the_row-Expr-1 shape-the_row-Expr-2 hidden-the_row-Expr-2 denote.Hole.Carrier.hidden
nests_range p x m y = refl

pub by_cases_select : (P : Select → Type 0) → ((p : Place) (w : Word) → P (s.Member p w)) → ((p : Place) (x : Expr) → P (s.Index p x))
    → ((p : Place) (x : Expr) (m : RangeMark) (y : Expr) → P (s.Range p x m y)) → (x : Select) → P x
unfolding shape-the_row-Select-0 hidden-the_row-Select-0 shape-the_row-Expr-1 hidden-the_row-Expr-1 shape-the_row-Expr-2 hidden-the_row-Expr-2 denote.Hole.Carrier.hidden
by_cases_select P member index range (Member p w) = member p w
by_cases_select P member index range (Index' p r (more_of-Expr x end_of-Expr)) = index p x
by_cases_select P member index range (Range' p r (more_of-Expr x end_of-Expr) m q (more_of-Expr y end_of-Expr)) = range p x m y

-- ---- what is proved of each tree that code makes is proved of each tree, by induction on its leftmost parts

pub by_spine {ℓ} : (P : Expr → Type ℓ)
    → ((w : Word) → P (e.Literal w))
    → ((w : Word) (all : List Select) → P (e.Name w all))
    → ((p : Place) (x : Expr) → P (e.Paren p x))
    → ((p : Place) (all : List Expr) → P (e.Concat p all))
    → ((p : Place) (x : Expr) (all : List Expr) → P (e.Repeat p x all))
    → ((w : Word) (x : Expr) → P (e.CastLiteral w x))
    → ((w : Word) (x : Expr) → P (e.CastName w x))
    → ((p : Place) (y x : Expr) → P (e.CastParen p y x))
    → ((g : Sign) (p : Place) (x : Expr) → P (e.CastSign g p x))
    → ((f : SystemName) (p : Place) (x : Expr) → P (e.System f p x))
    → ((op : UnaryOp) (p : Place) (x : Expr) → P (e.Unary op p x))
    → ((x : Expr) (op : BinaryOp) (p : Place) (y : Expr) → P x → P (e.Binary x op p y))
    → ((x y z : Expr) → P x → P (e.Choose x y z))
    → (x : Expr) → P x
unfolding shape-the_row-Expr-1 hidden-the_row-Expr-1 shown-the_row-Expr-1 denote.Hole.Carrier.hidden denote.Hole.Carrier.shown
by_spine P literal named paren concat repeat cast_literal cast_name cast_paren cast_sign system unary binary choose (Literal w) = literal w
by_spine P literal named paren concat repeat cast_literal cast_name cast_paren cast_sign system unary binary choose (Name' w r all) = subst P (sym (e.rolls-Name w (shown-the_row-Select-0 r all)) ∙ (ap roll-Expr (sym (e.outs-Name' w r all)) ∙ roll-out-Expr (Name' w r all))) (named w (shown-the_row-Select-0 r all))
by_spine P literal named paren concat repeat cast_literal cast_name cast_paren cast_sign system unary binary choose (Paren' p r (more_of-Expr x end_of-Expr)) = paren p x
by_spine P literal named paren concat repeat cast_literal cast_name cast_paren cast_sign system unary binary choose (Concat' p r all) = subst P (sym (e.rolls-Concat p (shown-the_row-Expr-2 r all)) ∙ (ap roll-Expr (sym (e.outs-Concat' p r all)) ∙ roll-out-Expr (Concat' p r all))) (concat p (shown-the_row-Expr-2 r all))
by_spine P literal named paren concat repeat cast_literal cast_name cast_paren cast_sign system unary binary choose (Repeat' p q (more_of-Expr x end_of-Expr) r all) = subst P (sym (e.rolls-Repeat p x (shown-the_row-Expr-2 r all)) ∙ (ap roll-Expr (sym (e.outs-Repeat' p q (more_of-Expr x end_of-Expr) r all)) ∙ roll-out-Expr (Repeat' p q (more_of-Expr x end_of-Expr) r all))) (repeat p x (shown-the_row-Expr-2 r all))
by_spine P literal named paren concat repeat cast_literal cast_name cast_paren cast_sign system unary binary choose (CastLiteral' w r (more_of-Expr x end_of-Expr)) = cast_literal w x
by_spine P literal named paren concat repeat cast_literal cast_name cast_paren cast_sign system unary binary choose (CastName' w r (more_of-Expr x end_of-Expr)) = cast_name w x
by_spine P literal named paren concat repeat cast_literal cast_name cast_paren cast_sign system unary binary choose (CastParen' p q (more_of-Expr y end_of-Expr) r (more_of-Expr x end_of-Expr)) = cast_paren p y x
by_spine P literal named paren concat repeat cast_literal cast_name cast_paren cast_sign system unary binary choose (CastSign' g p r (more_of-Expr x end_of-Expr)) = cast_sign g p x
by_spine P literal named paren concat repeat cast_literal cast_name cast_paren cast_sign system unary binary choose (System' f p r (more_of-Expr x end_of-Expr)) = system f p x
by_spine P literal named paren concat repeat cast_literal cast_name cast_paren cast_sign system unary binary choose (Unary' op p r (more_of-Expr x end_of-Expr)) = unary op p x
by_spine P literal named paren concat repeat cast_literal cast_name cast_paren cast_sign system unary binary choose (Binary' r (more_of-Expr x end_of-Expr) op p q (more_of-Expr y end_of-Expr)) = binary x op p y (by_spine P literal named paren concat repeat cast_literal cast_name cast_paren cast_sign system unary binary choose x)
by_spine P literal named paren concat repeat cast_literal cast_name cast_paren cast_sign system unary binary choose (Choose' r (more_of-Expr x end_of-Expr) q (more_of-Expr y end_of-Expr) u (more_of-Expr z end_of-Expr)) = choose x y z (by_spine P literal named paren concat repeat cast_literal cast_name cast_paren cast_sign system unary binary choose x)

-- ---- what is spelled at a tighter level is spelled at a looser one

pub looser : (x : Expr) (n m : ℕ) (i o : List Token) → n ≤ m → Spells m x i o → Spells n x i o
looser = by_spine (λ x. (n m : ℕ) (i o : List Token) → n ≤ m → Spells m x i o → Spells n x i o)
    (λ w n m i o le h. h)
    (λ w all n m i o le h. to_name n w all i o (of_name m w all i o h))
    (λ p x n m i o le h. to_paren n p x i o (of_paren m p x i o h))
    (λ p all n m i o le h. to_concat n p all i o (of_concat m p all i o h))
    (λ p x all n m i o le h. to_repeat n p x all i o (of_repeat m p x all i o h))
    (λ w x n m i o le h. to_cast_literal n w x i o (of_cast_literal m w x i o h))
    (λ w x n m i o le h. to_cast_name n w x i o (of_cast_name m w x i o h))
    (λ p y x n m i o le h. to_cast_paren n p y x i o (of_cast_paren m p y x i o h))
    (λ g p x n m i o le h. to_cast_sign n g p x i o (of_cast_sign m g p x i o h))
    (λ f p x n m i o le h. to_system n f p x i o (of_system m f p x i o h))
    (λ op p x n m i o le h. to_unary n op p x i o (of_unary m op p x i o h))
    (λ x op p y _ n m i o le h. let g = of_binary m x op p y i o h in to_binary n x op p y i o (omega (arith, g.0), g.1))
    (λ x y z _ n m i o le h. let g = of_choose m x y z i o h in to_choose n x y z i o (omega (arith, g.0), g.1))
