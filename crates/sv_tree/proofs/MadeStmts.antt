-- Targets and statements as code makes them, with lists of parts: what spells them, and how deep their tokens lie.
use Rattle.std.proofs.Common.{◌≡◌, ℕ, ◌+◌, ◌≤◌, Bool, true, false, List, [], ◌∷◌, ◌++◌, codes, Option, Some, None, refl, sym, ap, ◌∙◌, subst}
use Rattle.sv_outside.specs.declared.refusal.Place.{Place}
use Rattle.sv_outside.specs.declared.text.Token.{Token}
use Rattle.sv_tree.specs.declared.word.Word.{Word}
use Rattle.sv_tree.specs.declared.exprs.Expr.{Expr}
use Rattle.sv_tree.specs.declared.exprs.Select.{Select}
use Rattle.sv_tree.specs.declared.forms.WholeWord.{WholeWord}
use Rattle.sv_tree.specs.declared.stmts.Lvalue.{Lvalue, Name, Concat', roll-Lvalue, roll-out-Lvalue}
use Rattle.sv_tree.specs.declared.stmts.Lvalue.TheVariants as lv
use Rattle.sv_tree.specs.declared.stmts.Lvalue.TheBlock.{shape-the_row-Lvalue-0, hidden-the_row-Lvalue-0, shown-the_row-Lvalue-0}
use Rattle.sv_tree.specs.declared.stmts.Uniq.{Uniq}
use Rattle.sv_tree.specs.declared.stmts.CaseWord.{CaseWord}
use Rattle.sv_tree.specs.declared.stmts.AssignMark.{AssignMark}
use Rattle.sv_tree.specs.declared.stmts.Step.{Step}
use Rattle.sv_tree.specs.declared.stmts.Stmt.{Stmt, Empty, Block', If', Case', For', Assign, end_of-Stmt, more_of-Stmt, None', Some', roll-Stmt, roll-out-Stmt}
use Rattle.sv_tree.specs.declared.stmts.Stmt.TheVariants as st
use Rattle.sv_tree.specs.declared.stmts.Arm.TheBlock.{shape-the_row-Stmt-0, hidden-the_row-Stmt-0, shown-the_row-Stmt-0, shape-the_row-Stmt-1, hidden-the_row-Stmt-1, shown-the_row-Stmt-1, shape-the_row-Arm-2, hidden-the_row-Arm-2, shown-the_row-Arm-2}
use Rattle.sv_tree.specs.declared.stmts.Arm.{Arm, Labels', Default'}
use Rattle.sv_tree.specs.declared.stmts.Arm.TheVariants as ar
use Rattle.sv_tree.specs.Spelling.{Spelled, nothing, never, ◌⨟◌, when, mark, mark_at, key, key_at, name, maybe, each, commas, after_commas, label_of}
use Rattle.sv_tree.specs.GrammarExprs.{Spells}
use Rattle.sv_tree.specs.GrammarForms.{whole_key}
use Rattle.sv_tree.specs.GrammarStmts.{SpellsChain, SpellsLvalue, SpellsLvalues, MoreLvalues, SpellsStep, uniq_key, case_key, assign_text, block_name, colon_if, is_closed, defaults, SpellsStmt, SpellsStmts, SpellsArms, MoreArms, SpellsArm}
use Rattle.sv_tree.specs.Nesting.{Depths, one, two, three, in_expr, in_stmt, if_given, each_depths, commas_depths, after_commas_depths, word_depths, label_depths, expr_depths, select_depths}
use Rattle.sv_tree.specs.NestingDesign.{lvalue_depths, lvalues_depths, more_lvalues_depths, turns_depths, if_true, stmt_depths, stmts_depths, arms_depths, arm_depths}

-- at least one
abbrev pub some : {A : Type 0} → (A → Spelled) → List A → Spelled
some P [] = never
some P (x ∷ more) = P x ⨟ each P more

-- ---- targets

pub more_row_lvalues : (all : List Lvalue) (i o : List Token) → after_commas SpellsLvalue all i o → MoreLvalues (hidden-the_row-Lvalue-0 all) i o
unfolding shape-the_row-Lvalue-0 hidden-the_row-Lvalue-0 denote.Hole.Carrier.hidden
more_row_lvalues [] i o h = h
more_row_lvalues (x ∷ all) i o h = (h.0, h.1, (h.2.0, h.2.1, more_row_lvalues all h.2.0 o h.2.2))

pub row_more_lvalues : (all : List Lvalue) (i o : List Token) → MoreLvalues (hidden-the_row-Lvalue-0 all) i o → after_commas SpellsLvalue all i o
unfolding shape-the_row-Lvalue-0 hidden-the_row-Lvalue-0 denote.Hole.Carrier.hidden
row_more_lvalues [] i o h = h
row_more_lvalues (x ∷ all) i o h = (h.0, h.1, (h.2.0, h.2.1, row_more_lvalues all h.2.0 o h.2.2))

pub row_lvalues : (all : List Lvalue) (i o : List Token) → commas SpellsLvalue all i o → SpellsLvalues (hidden-the_row-Lvalue-0 all) i o
unfolding shape-the_row-Lvalue-0 hidden-the_row-Lvalue-0 denote.Hole.Carrier.hidden
row_lvalues [] i o h = h
row_lvalues (x ∷ all) i o h = (h.0, h.1, more_row_lvalues all h.0 o h.2)

pub lvalues_row : (all : List Lvalue) (i o : List Token) → SpellsLvalues (hidden-the_row-Lvalue-0 all) i o → commas SpellsLvalue all i o
unfolding shape-the_row-Lvalue-0 hidden-the_row-Lvalue-0 denote.Hole.Carrier.hidden
lvalues_row [] i o h = h
lvalues_row (x ∷ all) i o h = (h.0, h.1, row_more_lvalues all h.0 o h.2)

pub nests_more_lvalues : (all : List Lvalue) → more_lvalues_depths (hidden-the_row-Lvalue-0 all) ≡ after_commas_depths lvalue_depths all
unfolding lvalue_depths shape-the_row-Lvalue-0 hidden-the_row-Lvalue-0 denote.Hole.Carrier.hidden
nests_more_lvalues [] = refl
nests_more_lvalues (x ∷ all) = ap (λ d. one ++ lvalue_depths x ++ d) (nests_more_lvalues all)

pub nests_lvalues : (all : List Lvalue) → lvalues_depths (hidden-the_row-Lvalue-0 all) ≡ commas_depths lvalue_depths all
unfolding lvalue_depths shape-the_row-Lvalue-0 hidden-the_row-Lvalue-0 denote.Hole.Carrier.hidden
nests_lvalues [] = refl
nests_lvalues (x ∷ all) = ap (λ d. lvalue_depths x ++ d) (nests_more_lvalues all)

pub to_target : (w : Word) (all : List Select) (i o : List Token) → (name w ⨟ SpellsChain all) i o → SpellsLvalue (lv.Name w all) i o
to_target w all i o h = h

pub of_target : (w : Word) (all : List Select) (i o : List Token) → SpellsLvalue (lv.Name w all) i o → (name w ⨟ SpellsChain all) i o
of_target w all i o h = h

pub nests_target : (w : Word) (all : List Select) → lvalue_depths (lv.Name w all) ≡ one ++ each_depths select_depths all
unfolding lvalue_depths
nests_target w all = refl

pub to_targets : (p : Place) (all : List Lvalue) (i o : List Token) → (mark_at (codes "{") p ⨟ commas SpellsLvalue all ⨟ mark (codes "}")) i o → SpellsLvalue (lv.Concat p all) i o
unfolding shape-the_row-Lvalue-0 hidden-the_row-Lvalue-0 denote.Hole.Carrier.hidden
to_targets p all i o h = (h.0, h.1, (h.2.0, row_lvalues all h.0 h.2.0 h.2.1, h.2.2))

pub of_targets : (p : Place) (all : List Lvalue) (i o : List Token) → SpellsLvalue (lv.Concat p all) i o → (mark_at (codes "{") p ⨟ commas SpellsLvalue all ⨟ mark (codes "}")) i o
unfolding shape-the_row-Lvalue-0 hidden-the_row-Lvalue-0 denote.Hole.Carrier.hidden
of_targets p all i o h = (h.0, h.1, (h.2.0, lvalues_row all h.0 h.2.0 h.2.1, h.2.2))

pub nests_targets : (p : Place) (all : List Lvalue) → lvalue_depths (lv.Concat p all) ≡ in_expr (one ++ commas_depths lvalue_depths all ++ one)
unfolding lvalue_depths shape-the_row-Lvalue-0 hidden-the_row-Lvalue-0 denote.Hole.Carrier.hidden
nests_targets p all = ap (λ d. in_expr (one ++ d ++ one)) (nests_lvalues all)

pub by_cases_lvalue {ℓ} : (P : Lvalue → Type ℓ) → ((w : Word) (all : List Select) → P (lv.Name w all)) → ((p : Place) (all : List Lvalue) → P (lv.Concat p all)) → (x : Lvalue) → P x
unfolding shown-the_row-Lvalue-0 denote.Hole.Carrier.shown shape-the_row-Lvalue-0 hidden-the_row-Lvalue-0 denote.Hole.Carrier.hidden
by_cases_lvalue P named concat (Name w all) = named w all
by_cases_lvalue P named concat (Concat' p r all) = subst P (sym (lv.rolls-Concat p (shown-the_row-Lvalue-0 r all)) ∙ (ap roll-Lvalue (sym (lv.outs-Concat' p r all)) ∙ roll-out-Lvalue (Concat' p r all))) (concat p (shown-the_row-Lvalue-0 r all))

-- ---- lists of statements and arms

pub row_stmts : (all : List Stmt) (i o : List Token) → each SpellsStmt all i o → SpellsStmts (hidden-the_row-Stmt-1 all) i o
unfolding shape-the_row-Stmt-0 hidden-the_row-Stmt-0 shape-the_row-Stmt-1 hidden-the_row-Stmt-1 shape-the_row-Arm-2 hidden-the_row-Arm-2 denote.Hole.Carrier.hidden
row_stmts [] i o h = h
row_stmts (x ∷ all) i o h = (h.0, h.1, row_stmts all h.0 o h.2)

pub stmts_row : (all : List Stmt) (i o : List Token) → SpellsStmts (hidden-the_row-Stmt-1 all) i o → each SpellsStmt all i o
unfolding shape-the_row-Stmt-0 hidden-the_row-Stmt-0 shape-the_row-Stmt-1 hidden-the_row-Stmt-1 shape-the_row-Arm-2 hidden-the_row-Arm-2 denote.Hole.Carrier.hidden
stmts_row [] i o h = h
stmts_row (x ∷ all) i o h = (h.0, h.1, stmts_row all h.0 o h.2)

pub nests_stmts : (all : List Stmt) → stmts_depths (hidden-the_row-Stmt-1 all) ≡ each_depths stmt_depths all
unfolding stmt_depths shape-the_row-Stmt-0 hidden-the_row-Stmt-0 shape-the_row-Stmt-1 hidden-the_row-Stmt-1 shape-the_row-Arm-2 hidden-the_row-Arm-2 denote.Hole.Carrier.hidden
nests_stmts [] = refl
nests_stmts (x ∷ all) = ap (λ d. stmt_depths x ++ d) (nests_stmts all)

more_row_arms : (all : List Arm) (i o : List Token) → each SpellsArm all i o → MoreArms (hidden-the_row-Arm-2 all) i o
unfolding shape-the_row-Stmt-0 hidden-the_row-Stmt-0 shape-the_row-Stmt-1 hidden-the_row-Stmt-1 shape-the_row-Arm-2 hidden-the_row-Arm-2 denote.Hole.Carrier.hidden
more_row_arms [] i o h = h
more_row_arms (x ∷ all) i o h = (h.0, h.1, more_row_arms all h.0 o h.2)

row_more_arms : (all : List Arm) (i o : List Token) → MoreArms (hidden-the_row-Arm-2 all) i o → each SpellsArm all i o
unfolding shape-the_row-Stmt-0 hidden-the_row-Stmt-0 shape-the_row-Stmt-1 hidden-the_row-Stmt-1 shape-the_row-Arm-2 hidden-the_row-Arm-2 denote.Hole.Carrier.hidden
row_more_arms [] i o h = h
row_more_arms (x ∷ all) i o h = (h.0, h.1, row_more_arms all h.0 o h.2)

pub row_arms : (all : List Arm) (i o : List Token) → some SpellsArm all i o → SpellsArms (hidden-the_row-Arm-2 all) i o
unfolding shape-the_row-Stmt-0 hidden-the_row-Stmt-0 shape-the_row-Stmt-1 hidden-the_row-Stmt-1 shape-the_row-Arm-2 hidden-the_row-Arm-2 denote.Hole.Carrier.hidden
row_arms [] i o h = h
row_arms (x ∷ all) i o h = (h.0, h.1, more_row_arms all h.0 o h.2)

pub arms_row : (all : List Arm) (i o : List Token) → SpellsArms (hidden-the_row-Arm-2 all) i o → some SpellsArm all i o
unfolding shape-the_row-Stmt-0 hidden-the_row-Stmt-0 shape-the_row-Stmt-1 hidden-the_row-Stmt-1 shape-the_row-Arm-2 hidden-the_row-Arm-2 denote.Hole.Carrier.hidden
arms_row [] i o h = h
arms_row (x ∷ all) i o h = (h.0, h.1, row_more_arms all h.0 o h.2)

pub nests_arms : (all : List Arm) → arms_depths (hidden-the_row-Arm-2 all) ≡ each_depths arm_depths all
unfolding stmt_depths shape-the_row-Stmt-0 hidden-the_row-Stmt-0 shape-the_row-Stmt-1 hidden-the_row-Stmt-1 shape-the_row-Arm-2 hidden-the_row-Arm-2 denote.Hole.Carrier.hidden
nests_arms [] = refl
nests_arms (x ∷ all) = ap (λ d. arm_depths x ++ d) (nests_arms all)

-- ---- defaults

-- whether the arm is a default
abbrev pub is_default : Arm → Bool
is_default (Labels' xs r x) = false
is_default (Default' b r x) = true

-- the number of defaults
abbrev pub count_default : Bool → ℕ → ℕ
count_default true n = n + 1
count_default false n = n

abbrev pub default_count : List Arm → ℕ
default_count [] = 0
default_count (x ∷ all) = count_default (is_default x) (default_count all)

pub default_labels : (xs : List Expr) (x : Stmt) → is_default (ar.Labels xs x) ≡ false
unfolding shape-the_row-Stmt-0 hidden-the_row-Stmt-0 shape-the_row-Stmt-1 hidden-the_row-Stmt-1 shape-the_row-Arm-2 hidden-the_row-Arm-2 denote.Hole.Carrier.hidden
default_labels xs x = refl

pub default_default : (b : Bool) (x : Stmt) → is_default (ar.Default b x) ≡ true
unfolding shape-the_row-Stmt-0 hidden-the_row-Stmt-0 shape-the_row-Stmt-1 hidden-the_row-Stmt-1 shape-the_row-Arm-2 hidden-the_row-Arm-2 denote.Hole.Carrier.hidden
default_default b x = refl

pub defaults_row : (all : List Arm) → defaults (hidden-the_row-Arm-2 all) ≡ default_count all
unfolding shape-the_row-Stmt-0 hidden-the_row-Stmt-0 shape-the_row-Stmt-1 hidden-the_row-Stmt-1 shape-the_row-Arm-2 hidden-the_row-Arm-2 denote.Hole.Carrier.hidden
defaults_row [] = refl
defaults_row (Labels' xs r x ∷ all) = defaults_row all
defaults_row (Default' b r x ∷ all) = ap (λ n. n + 1) (defaults_row all)

-- ---- what stands behind `else`

abbrev pub other_spelled : Bool → Option Stmt → Spelled
other_spelled closed None = nothing
other_spelled closed (Some x) = when (closed ≡ true) (key (codes "else") ⨟ SpellsStmt x)

abbrev pub other_stmt_depths : Option Stmt → Depths
other_stmt_depths None = []
other_stmt_depths (Some x) = one ++ stmt_depths x

abbrev pub is_other_closed : Option Stmt → Bool
is_other_closed None = false
is_other_closed (Some x) = is_closed x

-- ---- statements

pub to_empty : (i o : List Token) → (mark (codes ";")) i o → SpellsStmt (st.Empty) i o
to_empty i o h = h

pub of_empty : (i o : List Token) → SpellsStmt (st.Empty) i o → (mark (codes ";")) i o
of_empty i o h = h

pub nests_empty : stmt_depths (st.Empty) ≡ in_stmt one
unfolding stmt_depths
nests_empty = refl

pub to_block : (p : Place) (b : Option Word) (all : List Stmt) (e : Option Word) (i o : List Token) → (key_at (codes "begin") p ⨟ maybe block_name b ⨟ each SpellsStmt all ⨟ key (codes "end") ⨟ label_of b e) i o → SpellsStmt (st.Block p b all e) i o
unfolding shape-the_row-Stmt-0 hidden-the_row-Stmt-0 shape-the_row-Stmt-1 hidden-the_row-Stmt-1 shape-the_row-Arm-2 hidden-the_row-Arm-2 denote.Hole.Carrier.hidden
to_block p b all e i o h = (h.0, h.1, (h.2.0, h.2.1, (h.2.2.0, row_stmts all h.2.0 h.2.2.0 h.2.2.1, h.2.2.2)))

pub of_block : (p : Place) (b : Option Word) (all : List Stmt) (e : Option Word) (i o : List Token) → SpellsStmt (st.Block p b all e) i o → (key_at (codes "begin") p ⨟ maybe block_name b ⨟ each SpellsStmt all ⨟ key (codes "end") ⨟ label_of b e) i o
unfolding shape-the_row-Stmt-0 hidden-the_row-Stmt-0 shape-the_row-Stmt-1 hidden-the_row-Stmt-1 shape-the_row-Arm-2 hidden-the_row-Arm-2 denote.Hole.Carrier.hidden
of_block p b all e i o h = (h.0, h.1, (h.2.0, h.2.1, (h.2.2.0, stmts_row all h.2.0 h.2.2.0 h.2.2.1, h.2.2.2)))

pub nests_block : (p : Place) (b : Option Word) (all : List Stmt) (e : Option Word) → stmt_depths (st.Block p b all e) ≡ in_stmt (one ++ if_given label_depths b ++ each_depths stmt_depths all ++ one ++ if_given label_depths e)
unfolding stmt_depths shape-the_row-Stmt-0 hidden-the_row-Stmt-0 shape-the_row-Stmt-1 hidden-the_row-Stmt-1 shape-the_row-Arm-2 hidden-the_row-Arm-2 denote.Hole.Carrier.hidden
nests_block p b all e = ap (λ d. in_stmt (one ++ if_given label_depths b ++ d ++ one ++ if_given label_depths e)) (nests_stmts all)

abbrev pub if_spelled : Option Uniq → Expr → Stmt → Option Stmt → Spelled
if_spelled u c x y = maybe uniq_key u ⨟ key (codes "if") ⨟ mark (codes "(") ⨟ Spells 0 c ⨟ mark (codes ")") ⨟ SpellsStmt x ⨟ other_spelled (is_closed x) y

pub to_if : (u : Option Uniq) (c : Expr) (x : Stmt) (y : Option Stmt) (i o : List Token) → if_spelled u c x y i o → SpellsStmt (st.If u c x y) i o
unfolding shape-the_row-Stmt-0 hidden-the_row-Stmt-0 shape-the_row-Stmt-1 hidden-the_row-Stmt-1 shape-the_row-Arm-2 hidden-the_row-Arm-2 denote.Hole.Carrier.hidden
to_if u c x None i o h = h
to_if u c x (Some y) i o h = h

pub of_if : (u : Option Uniq) (c : Expr) (x : Stmt) (y : Option Stmt) (i o : List Token) → SpellsStmt (st.If u c x y) i o → if_spelled u c x y i o
unfolding shape-the_row-Stmt-0 hidden-the_row-Stmt-0 shape-the_row-Stmt-1 hidden-the_row-Stmt-1 shape-the_row-Arm-2 hidden-the_row-Arm-2 denote.Hole.Carrier.hidden
of_if u c x None i o h = h
of_if u c x (Some y) i o h = h

pub nests_if : (u : Option Uniq) (c : Expr) (x : Stmt) (y : Option Stmt) → stmt_depths (st.If u c x y) ≡ in_stmt (if_given word_depths u ++ two ++ expr_depths c ++ one ++ stmt_depths x ++ other_stmt_depths y)
unfolding stmt_depths shape-the_row-Stmt-0 hidden-the_row-Stmt-0 shape-the_row-Stmt-1 hidden-the_row-Stmt-1 shape-the_row-Arm-2 hidden-the_row-Arm-2 denote.Hole.Carrier.hidden
nests_if u c x None = refl
nests_if u c x (Some y) = refl

pub closed_if : (u : Option Uniq) (c : Expr) (x : Stmt) (y : Option Stmt) → is_closed (st.If u c x y) ≡ is_other_closed y
unfolding shape-the_row-Stmt-0 hidden-the_row-Stmt-0 shape-the_row-Stmt-1 hidden-the_row-Stmt-1 shape-the_row-Arm-2 hidden-the_row-Arm-2 denote.Hole.Carrier.hidden
closed_if u c x None = refl
closed_if u c x (Some y) = refl

pub to_case : (u : Option Uniq) (w : CaseWord) (x : Expr) (all : List Arm) (i o : List Token) → (when (default_count all ≤ 1) (maybe uniq_key u ⨟ case_key w ⨟ mark (codes "(") ⨟ Spells 0 x ⨟ mark (codes ")") ⨟ some SpellsArm all ⨟ key (codes "endcase"))) i o → SpellsStmt (st.Case u w x all) i o
unfolding shape-the_row-Stmt-0 hidden-the_row-Stmt-0 shape-the_row-Stmt-1 hidden-the_row-Stmt-1 shape-the_row-Arm-2 hidden-the_row-Arm-2 denote.Hole.Carrier.hidden
to_case u w x all i o h = (subst (λ n. n ≤ 1) (sym (defaults_row all)) h.0, (h.1.0, h.1.1, (h.1.2.0, h.1.2.1, (h.1.2.2.0, h.1.2.2.1, (h.1.2.2.2.0, h.1.2.2.2.1, (h.1.2.2.2.2.0, h.1.2.2.2.2.1, (h.1.2.2.2.2.2.0, row_arms all h.1.2.2.2.2.0 h.1.2.2.2.2.2.0 h.1.2.2.2.2.2.1, h.1.2.2.2.2.2.2)))))))

pub of_case : (u : Option Uniq) (w : CaseWord) (x : Expr) (all : List Arm) (i o : List Token) → SpellsStmt (st.Case u w x all) i o → (when (default_count all ≤ 1) (maybe uniq_key u ⨟ case_key w ⨟ mark (codes "(") ⨟ Spells 0 x ⨟ mark (codes ")") ⨟ some SpellsArm all ⨟ key (codes "endcase"))) i o
unfolding shape-the_row-Stmt-0 hidden-the_row-Stmt-0 shape-the_row-Stmt-1 hidden-the_row-Stmt-1 shape-the_row-Arm-2 hidden-the_row-Arm-2 denote.Hole.Carrier.hidden
of_case u w x all i o h = (subst (λ n. n ≤ 1) (defaults_row all) h.0, (h.1.0, h.1.1, (h.1.2.0, h.1.2.1, (h.1.2.2.0, h.1.2.2.1, (h.1.2.2.2.0, h.1.2.2.2.1, (h.1.2.2.2.2.0, h.1.2.2.2.2.1, (h.1.2.2.2.2.2.0, arms_row all h.1.2.2.2.2.0 h.1.2.2.2.2.2.0 h.1.2.2.2.2.2.1, h.1.2.2.2.2.2.2)))))))

pub nests_case : (u : Option Uniq) (w : CaseWord) (x : Expr) (all : List Arm) → stmt_depths (st.Case u w x all) ≡ in_stmt (if_given word_depths u ++ two ++ expr_depths x ++ one ++ each_depths arm_depths all ++ one)
unfolding stmt_depths shape-the_row-Stmt-0 hidden-the_row-Stmt-0 shape-the_row-Stmt-1 hidden-the_row-Stmt-1 shape-the_row-Arm-2 hidden-the_row-Arm-2 denote.Hole.Carrier.hidden
nests_case u w x all = ap (λ d. in_stmt (if_given word_depths u ++ two ++ expr_depths x ++ one ++ d ++ one)) (nests_arms all)

pub to_for : (p : Place) (form : WholeWord) (v : Word) (start test : Expr) (next : Step) (body : Stmt) (i o : List Token) → (key_at (codes "for") p ⨟ mark (codes "(") ⨟ whole_key form ⨟ name v ⨟ mark (codes "=") ⨟ Spells 0 start ⨟ mark (codes ";") ⨟ Spells 0 test ⨟ mark (codes ";") ⨟ SpellsStep v next ⨟ mark (codes ")") ⨟ SpellsStmt body) i o → SpellsStmt (st.For p form v start test next body) i o
unfolding shape-the_row-Stmt-0 hidden-the_row-Stmt-0 shape-the_row-Stmt-1 hidden-the_row-Stmt-1 shape-the_row-Arm-2 hidden-the_row-Arm-2 denote.Hole.Carrier.hidden
to_for p form v start test next body i o h = h

pub of_for : (p : Place) (form : WholeWord) (v : Word) (start test : Expr) (next : Step) (body : Stmt) (i o : List Token) → SpellsStmt (st.For p form v start test next body) i o → (key_at (codes "for") p ⨟ mark (codes "(") ⨟ whole_key form ⨟ name v ⨟ mark (codes "=") ⨟ Spells 0 start ⨟ mark (codes ";") ⨟ Spells 0 test ⨟ mark (codes ";") ⨟ SpellsStep v next ⨟ mark (codes ")") ⨟ SpellsStmt body) i o
unfolding shape-the_row-Stmt-0 hidden-the_row-Stmt-0 shape-the_row-Stmt-1 hidden-the_row-Stmt-1 shape-the_row-Arm-2 hidden-the_row-Arm-2 denote.Hole.Carrier.hidden
of_for p form v start test next body i o h = h

pub nests_for : (p : Place) (form : WholeWord) (v : Word) (start test : Expr) (next : Step) (body : Stmt) → stmt_depths (st.For p form v start test next body) ≡ in_stmt (three ++ turns_depths (expr_depths start) (expr_depths test) next ++ stmt_depths body)
unfolding stmt_depths shape-the_row-Stmt-0 hidden-the_row-Stmt-0 shape-the_row-Stmt-1 hidden-the_row-Stmt-1 shape-the_row-Arm-2 hidden-the_row-Arm-2 denote.Hole.Carrier.hidden
nests_for p form v start test next body = refl

pub closed_for : (p : Place) (form : WholeWord) (v : Word) (start test : Expr) (next : Step) (body : Stmt) → is_closed (st.For p form v start test next body) ≡ is_closed body
unfolding shape-the_row-Stmt-0 hidden-the_row-Stmt-0 shape-the_row-Stmt-1 hidden-the_row-Stmt-1 shape-the_row-Arm-2 hidden-the_row-Arm-2 denote.Hole.Carrier.hidden
closed_for p form v start test next body = refl

pub closed_block : (p : Place) (b : Option Word) (all : List Stmt) (e : Option Word) → is_closed (st.Block p b all e) ≡ true
unfolding shape-the_row-Stmt-0 hidden-the_row-Stmt-0 shape-the_row-Stmt-1 hidden-the_row-Stmt-1 shape-the_row-Arm-2 hidden-the_row-Arm-2 denote.Hole.Carrier.hidden
closed_block p b all e = refl

pub closed_case : (u : Option Uniq) (w : CaseWord) (x : Expr) (all : List Arm) → is_closed (st.Case u w x all) ≡ true
unfolding shape-the_row-Stmt-0 hidden-the_row-Stmt-0 shape-the_row-Stmt-1 hidden-the_row-Stmt-1 shape-the_row-Arm-2 hidden-the_row-Arm-2 denote.Hole.Carrier.hidden
closed_case u w x all = refl

pub to_assign : (to : Lvalue) (m : AssignMark) (p : Place) (x : Expr) (i o : List Token) → (SpellsLvalue to ⨟ mark_at (assign_text m) p ⨟ Spells 0 x ⨟ mark (codes ";")) i o → SpellsStmt (st.Assign to m p x) i o
to_assign to m p x i o h = h

pub of_assign : (to : Lvalue) (m : AssignMark) (p : Place) (x : Expr) (i o : List Token) → SpellsStmt (st.Assign to m p x) i o → (SpellsLvalue to ⨟ mark_at (assign_text m) p ⨟ Spells 0 x ⨟ mark (codes ";")) i o
of_assign to m p x i o h = h

pub nests_assign : (to : Lvalue) (m : AssignMark) (p : Place) (x : Expr) → stmt_depths (st.Assign to m p x) ≡ in_stmt (lvalue_depths to ++ one ++ expr_depths x ++ one)
unfolding stmt_depths
nests_assign to m p x = refl

pub to_labels : (xs : List Expr) (x : Stmt) (i o : List Token) → (commas (Spells 0) xs ⨟ mark (codes ":") ⨟ SpellsStmt x) i o → SpellsArm (ar.Labels xs x) i o
unfolding shape-the_row-Stmt-0 hidden-the_row-Stmt-0 shape-the_row-Stmt-1 hidden-the_row-Stmt-1 shape-the_row-Arm-2 hidden-the_row-Arm-2 denote.Hole.Carrier.hidden
to_labels xs x i o h = h

pub of_labels : (xs : List Expr) (x : Stmt) (i o : List Token) → SpellsArm (ar.Labels xs x) i o → (commas (Spells 0) xs ⨟ mark (codes ":") ⨟ SpellsStmt x) i o
unfolding shape-the_row-Stmt-0 hidden-the_row-Stmt-0 shape-the_row-Stmt-1 hidden-the_row-Stmt-1 shape-the_row-Arm-2 hidden-the_row-Arm-2 denote.Hole.Carrier.hidden
of_labels xs x i o h = h

pub nests_labels : (xs : List Expr) (x : Stmt) → arm_depths (ar.Labels xs x) ≡ commas_depths expr_depths xs ++ one ++ stmt_depths x
unfolding stmt_depths shape-the_row-Stmt-0 hidden-the_row-Stmt-0 shape-the_row-Stmt-1 hidden-the_row-Stmt-1 shape-the_row-Arm-2 hidden-the_row-Arm-2 denote.Hole.Carrier.hidden
nests_labels xs x = refl

pub to_default : (b : Bool) (x : Stmt) (i o : List Token) → (key (codes "default") ⨟ colon_if b ⨟ SpellsStmt x) i o → SpellsArm (ar.Default b x) i o
unfolding shape-the_row-Stmt-0 hidden-the_row-Stmt-0 shape-the_row-Stmt-1 hidden-the_row-Stmt-1 shape-the_row-Arm-2 hidden-the_row-Arm-2 denote.Hole.Carrier.hidden
to_default b x i o h = h

pub of_default : (b : Bool) (x : Stmt) (i o : List Token) → SpellsArm (ar.Default b x) i o → (key (codes "default") ⨟ colon_if b ⨟ SpellsStmt x) i o
unfolding shape-the_row-Stmt-0 hidden-the_row-Stmt-0 shape-the_row-Stmt-1 hidden-the_row-Stmt-1 shape-the_row-Arm-2 hidden-the_row-Arm-2 denote.Hole.Carrier.hidden
of_default b x i o h = h

pub nests_default : (b : Bool) (x : Stmt) → arm_depths (ar.Default b x) ≡ one ++ if_true b ++ stmt_depths x
unfolding stmt_depths shape-the_row-Stmt-0 hidden-the_row-Stmt-0 shape-the_row-Stmt-1 hidden-the_row-Stmt-1 shape-the_row-Arm-2 hidden-the_row-Arm-2 denote.Hole.Carrier.hidden
nests_default b x = refl

pub by_cases_stmt {ℓ} : (P : Stmt → Type ℓ)
    → P st.Empty
    → ((p : Place) (b : Option Word) (all : List Stmt) (e : Option Word) → P (st.Block p b all e))
    → ((u : Option Uniq) (c : Expr) (x : Stmt) (y : Option Stmt) → P (st.If u c x y))
    → ((u : Option Uniq) (w : CaseWord) (x : Expr) (all : List Arm) → P (st.Case u w x all))
    → ((p : Place) (form : WholeWord) (v : Word) (start test : Expr) (next : Step) (body : Stmt) → P (st.For p form v start test next body))
    → ((to : Lvalue) (m : AssignMark) (p : Place) (x : Expr) → P (st.Assign to m p x))
    → (x : Stmt) → P x
unfolding shown-the_row-Stmt-0 shown-the_row-Stmt-1 shown-the_row-Arm-2 denote.Hole.Carrier.shown shape-the_row-Stmt-0 hidden-the_row-Stmt-0 shape-the_row-Stmt-1 hidden-the_row-Stmt-1 shape-the_row-Arm-2 hidden-the_row-Arm-2 denote.Hole.Carrier.hidden
by_cases_stmt P empty block cond choice loop assign Empty = empty
by_cases_stmt P empty block cond choice loop assign (Block' p b r all e) = subst P (sym (st.rolls-Block p b (shown-the_row-Stmt-1 r all) e) ∙ (ap roll-Stmt (sym (st.outs-Block' p b r all e)) ∙ roll-out-Stmt (Block' p b r all e))) (block p b (shown-the_row-Stmt-1 r all) e)
by_cases_stmt P empty block cond choice loop assign (If' u c r (more_of-Stmt x end_of-Stmt) None') = cond u c x None
by_cases_stmt P empty block cond choice loop assign (If' u c r (more_of-Stmt x end_of-Stmt) (Some' q (more_of-Stmt y end_of-Stmt))) = cond u c x (Some y)
by_cases_stmt P empty block cond choice loop assign (Case' u w x r all) = subst P (sym (st.rolls-Case u w x (shown-the_row-Arm-2 r all)) ∙ (ap roll-Stmt (sym (st.outs-Case' u w x r all)) ∙ roll-out-Stmt (Case' u w x r all))) (choice u w x (shown-the_row-Arm-2 r all))
by_cases_stmt P empty block cond choice loop assign (For' p form v start test next r (more_of-Stmt body end_of-Stmt)) = loop p form v start test next body
by_cases_stmt P empty block cond choice loop assign (Assign to m p x) = assign to m p x

pub by_cases_arm {ℓ} : (P : Arm → Type ℓ) → ((xs : List Expr) (x : Stmt) → P (ar.Labels xs x)) → ((b : Bool) (x : Stmt) → P (ar.Default b x)) → (x : Arm) → P x
unfolding shape-the_row-Stmt-0 hidden-the_row-Stmt-0 shape-the_row-Stmt-1 hidden-the_row-Stmt-1 shape-the_row-Arm-2 hidden-the_row-Arm-2 denote.Hole.Carrier.hidden
by_cases_arm P labels other (Labels' xs r (more_of-Stmt x end_of-Stmt)) = labels xs x
by_cases_arm P labels other (Default' b r (more_of-Stmt x end_of-Stmt)) = other b x
