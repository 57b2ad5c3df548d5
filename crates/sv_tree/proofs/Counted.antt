-- A tree takes one token for each entry of its depths.
use Rattle.std.proofs.Common.{◌≡◌, ℕ, zero, suc, ◌+◌, Bool, true, false, List, [], ◌∷◌, ◌++◌, length, drop, codes, Option, Some, None, refl, sym, ap, ◌∙◌, length-append, arith}
use Rattle.std.proofs.lemmas.List.{length-map}
use Rattle.sv_outside.specs.declared.refusal.Place.{Place}
use Rattle.sv_outside.specs.declared.text.Token.{Token}
use Rattle.sv_tree.specs.declared.word.Word.{Word}
use Rattle.sv_tree.specs.declared.exprs.Expr.{Expr}
use Rattle.sv_tree.specs.declared.exprs.Sign.{Sign}
use Rattle.sv_tree.specs.declared.exprs.Select.{Select}
use Rattle.sv_tree.specs.declared.forms.BitsWord.{BitsWord}
use Rattle.sv_tree.specs.declared.forms.WholeWord.{WholeWord}
use Rattle.sv_tree.specs.declared.forms.WholeWord.TheVariants as whole_word
use Rattle.sv_tree.specs.declared.forms.Range.{Range}
use Rattle.sv_tree.specs.declared.forms.EnumLabel.{EnumLabel}
use Rattle.sv_tree.specs.declared.forms.TypeTree.{TypeTree, Vector, Integer, Struct', Enum, Named, Row_of-Member, end_of-Member, more_of-Member}
use Rattle.sv_tree.specs.declared.forms.Member.{Member, Of', end_of-TypeTree, more_of-TypeTree}
use Rattle.sv_tree.specs.declared.stmts.Lvalue.{Lvalue, Name, Concat', Row_of-Lvalue, end_of-Lvalue, more_of-Lvalue}
use Rattle.sv_tree.specs.declared.stmts.Step.{Step}
use Rattle.sv_tree.specs.declared.stmts.Step.TheVariants as step
use Rattle.sv_tree.specs.declared.stmts.Uniq.{Uniq}
use Rattle.sv_tree.specs.declared.stmts.Uniq.TheVariants as uniq
use Rattle.sv_tree.specs.declared.stmts.CaseWord.{CaseWord}
use Rattle.sv_tree.specs.declared.stmts.CaseWord.TheVariants as case_word
use Rattle.sv_tree.specs.declared.stmts.Stmt.{Stmt, Empty, Block' as StmtBlock', If' as StmtIf', Case', For' as StmtFor', Assign as StmtAssign, Row_of-Stmt, end_of-Stmt, more_of-Stmt, Row_of-Arm, end_of-Arm, more_of-Arm, Held-Stmt-If-3, None' as NoStmt, Some' as SomeStmt}
use Rattle.sv_tree.specs.declared.stmts.Arm.{Arm, Labels', Default'}
use Rattle.sv_tree.specs.Spelling.{Text, Spelled, token, nothing, never, ◌⨟◌, when, mark, mark_at, key, key_at, name, maybe, each, commas, after_commas, label, label_of}
use Rattle.sv_tree.specs.GrammarExprs.{Spells, SpellsSelect}
use Rattle.sv_tree.specs.GrammarForms.{bits_key, sign_key, SpellsRange, given, SpellsLabel, SpellsType, SpellsMembers, MoreMembers, SpellsMember, whole_key}
use Rattle.sv_tree.specs.GrammarStmts.{SpellsChain, SpellsLvalue, SpellsLvalues, MoreLvalues, SpellsStep, uniq_key, case_key, assign_text, block_name, colon_if, is_closed, SpellsStmt, SpellsElse, SpellsStmts, SpellsArms, MoreArms, SpellsArm}
use Rattle.sv_tree.specs.Nesting.{Depths, one, in_stmt, in_type, if_given, each_depths, commas_depths, after_commas_depths, word_depths, label_depths, expr_depths, select_depths}
use Rattle.sv_tree.specs.NestingDesign.{range_depths, given_depths, enum_label_depths, named_type_depths, type_depths, members_depths, member_depths, lvalue_depths, lvalues_depths, more_lvalues_depths, step_depths, turns_depths, if_true, stmt_depths, else_depths, stmts_depths, arms_depths, arm_depths}
use Rattle.sv_tree.proofs.Framed.{Framed, frame, frame_select, length_in}

-- so many tokens
pub record Counted (P : Spelled) (n : ℕ) : Type 0 where
  pub count : (i o : List Token) → P i o → length i ≡ n + length o
  pub rest : (i o : List Token) → P i o → o ≡ drop n i

drop_nil : (k : ℕ) → ◌≡◌ {A = List Token} (drop k []) []
drop_nil zero = refl
drop_nil (suc k) = refl

drop_more : (n m : ℕ) (l : List Token) → drop m (drop n l) ≡ drop (n + m) l
drop_more zero m l = ap (λ k. drop k l) (omega arith)
drop_more (suc n) m [] = drop_nil m ∙ sym (drop_nil (suc n + m))
drop_more (suc n) m (x ∷ l) = drop_more n m l ∙ ap (λ k. drop k (x ∷ l)) (let e : suc (n + m) ≡ suc n + m = omega arith in e)

pub counted_as : {P : Spelled} {n : ℕ} (m : ℕ) → n ≡ m → Counted P n → Counted P m
counted_as m e c = record {
  count = λ i o h. c.count i o h ∙ ap (λ n. n + length o) e;
  rest = λ i o h. c.rest i o h ∙ ap (λ n. drop n i) e;
}

infixr 30 ◌⋈◌
pub ◌⋈◌ : {P Q : Spelled} {n m : ℕ} → Counted P n → Counted Q m → Counted (P ⨟ Q) (n + m)
◌⋈◌ {n = n} {m = m} p q = record {
  count = λ i o h. omega (arith, p.count i h.0 h.1, q.count h.0 o h.2);
  rest = λ i o h. q.rest h.0 o h.2 ∙ (ap (drop m) (p.rest i h.0 h.1) ∙ drop_more n m i);
}

pub counted_token : (P : Token → Type 0) → Counted (token P) 1
counted_token P = record { count = count_token; rest = rest_token }
  where
    count_token : (i o : List Token) → token P i o → length i ≡ 1 + length o
    count_token [] o h = absurd h
    count_token (a ∷ i) o h = omega (arith, ap length h.1)

    rest_token : (i o : List Token) → token P i o → o ≡ drop 1 i
    rest_token [] o h = absurd h
    rest_token (a ∷ i) o h = sym h.1

pub counted_nothing : Counted nothing 0
counted_nothing = record { count = λ i o h. omega (arith, ap length h); rest = λ i o h. sym h }

pub counted_never : (n : ℕ) → Counted never n
counted_never n = record { count = λ i o h. absurd h; rest = λ i o h. absurd h }

pub counted_when : {C : Type 0} {P : Spelled} {n : ℕ} → Counted P n → Counted (when C P) n
counted_when c = record { count = λ i o h. c.count i o h.1; rest = λ i o h. c.rest i o h.1 }

pub counted_mark : (text : Text) → Counted (mark text) 1
counted_mark text = counted_token _

pub counted_mark_at : (text : Text) (p : Place) → Counted (mark_at text p) 1
counted_mark_at text p = counted_token _

pub counted_key : (text : Text) → Counted (key text) 1
counted_key text = counted_token _

pub counted_key_at : (text : Text) (p : Place) → Counted (key_at text p) 1
counted_key_at text p = counted_token _

pub counted_name : (w : Word) → Counted (name w) 1
counted_name w = counted_token _

drop_front : (u o : List Token) → o ≡ drop (length u) (u ++ o)
drop_front [] o = refl
drop_front (x ∷ u) o = drop_front u o

pub counted_framed : (P : Spelled) (n : ℕ) → ((i o : List Token) → P i o → Framed P n i o) → Counted P n
counted_framed P n f = record {
  count = λ i o h. let g = f i o h in omega (arith, ap length g.1, length-append g.0 o, g.2);
  rest = λ i o h. let g = f i o h in drop_front g.0 o ∙ (ap (drop (length g.0)) (sym g.1) ∙ ap (λ k. drop k i) g.2);
}

pub counted_expr : (n : ℕ) (x : Expr) → Counted (Spells n x) (length (expr_depths x))
counted_expr n x = counted_framed (Spells n x) (length (expr_depths x)) (λ i o h. frame x n i o h)

pub counted_select : (x : Select) → Counted (SpellsSelect x) (length (select_depths x))
counted_select x = counted_framed (SpellsSelect x) (length (select_depths x)) (λ i o h. frame_select x i o h)

-- ---- lists

module _ {A : Type 0} (S : A → Spelled) (nests : A → Depths) (c : (x : A) → Counted (S x) (length (nests x))) where
  pub counted_maybe : (x : Option A) → Counted (maybe S x) (length (if_given nests x))
  counted_maybe None = counted_nothing
  counted_maybe (Some x) = c x

  pub counted_each : (all : List A) → Counted (each S all) (length (each_depths nests all))
  counted_each [] = counted_nothing
  counted_each (x ∷ all) = counted_as _ (sym (length-append (nests x) (each_depths nests all))) (c x ⋈ counted_each all)

  pub counted_after_commas : (all : List A) → Counted (after_commas S all) (length (after_commas_depths nests all))
  counted_after_commas [] = counted_nothing
  counted_after_commas (x ∷ all) = counted_as _ (simp length-append (omega arith)) (counted_mark (codes ",") ⋈ c x ⋈ counted_after_commas all)

  pub counted_commas : (all : List A) → Counted (commas S all) (length (commas_depths nests all))
  counted_commas [] = counted_never 0
  counted_commas (x ∷ all) = counted_as _ (sym (length-append (nests x) (after_commas_depths nests all))) (c x ⋈ counted_after_commas all)

-- ---- types

pub counted_bits : (w : BitsWord) → Counted (bits_key w) 1
counted_bits w = counted_token _

pub counted_sign : (s : Sign) → Counted (sign_key s) 1
counted_sign s = counted_token _

pub counted_range : (r : Range) → Counted (SpellsRange r) (length (range_depths r))
counted_range r =
    counted_as _ (simp length-append (omega arith))
    (counted_mark_at (codes "[") r.place ⋈ counted_expr 0 r.left ⋈ counted_mark (codes ":") ⋈ counted_expr 0 r.right ⋈ counted_mark (codes "]"))

pub counted_given : (x : Expr) → Counted (given x) (length (given_depths expr_depths x))
counted_given x = counted_as _ (omega arith) (counted_mark (codes "=") ⋈ counted_expr 0 x)

pub counted_label : (x : EnumLabel) → Counted (SpellsLabel x) (length (enum_label_depths x))
counted_label x = counted_as _ (omega arith) (counted_name x.name ⋈ counted_maybe given (given_depths expr_depths) counted_given x.value)

pub counted_names : (all : List Word) → Counted (commas name all) (length (commas_depths word_depths all))
counted_names = counted_commas name word_depths counted_name

pub length_in_type : (d : Depths) → length (in_type d) ≡ length d
unfolding in_type
length_in_type d = length-map d _

pub length_named : (w : Word) (ranges : List Range) → length (named_type_depths w ranges) ≡ length (one ++ each_depths range_depths ranges)
length_named w [] = refl
length_named w (r ∷ more) = length_in_type (one ++ each_depths range_depths (r ∷ more))

pub length_in_stmt : (d : Depths) → length (in_stmt d) ≡ length d
unfolding in_stmt
length_in_stmt d = length-map d _

counted_ranges : (all : List Range) → Counted (each SpellsRange all) (length (each_depths range_depths all))
counted_ranges = counted_each SpellsRange range_depths counted_range

counted_vector : (w : Option BitsWord) (s : Option Sign) (ranges : List Range)
    → Counted (maybe bits_key w ⨟ maybe sign_key s ⨟ each SpellsRange ranges) (length (in_type (if_given word_depths w ++ if_given word_depths s ++ each_depths range_depths ranges)))
counted_vector w s ranges =
    counted_as _ (simp (length_in_type, length-append) (omega arith))
    (counted_maybe bits_key word_depths counted_bits w ⋈ counted_maybe sign_key word_depths counted_sign s ⋈ counted_ranges ranges)

mutual
  unfolding type_depths

  pub counted_type : (x : TypeTree) → Counted (SpellsType x) (length (type_depths x))
  counted_type (Vector None None []) = counted_never _
  counted_type (Vector None None (r ∷ ranges)) = counted_vector None None (r ∷ ranges)
  counted_type (Vector None (Some s) ranges) = counted_vector None (Some s) ranges
  counted_type (Vector (Some w) s ranges) = counted_vector (Some w) s ranges
  counted_type Integer = counted_as _ (simp length_in_type (omega arith)) (counted_key (codes "integer"))
  counted_type (Struct' s r all ranges) =
      counted_as _ (simp (length_in_type, length-append) (omega arith))
      (counted_key (codes "struct") ⋈ counted_key (codes "packed") ⋈ counted_maybe sign_key word_depths counted_sign s ⋈ counted_mark (codes "{") ⋈ counted_members all ⋈ counted_mark (codes "}") ⋈ counted_ranges ranges)
  counted_type (Enum w s r all) =
      counted_as _ (simp (length_in_type, length-append) (omega arith))
      (counted_key (codes "enum") ⋈ counted_bits w ⋈ counted_maybe sign_key word_depths counted_sign s ⋈ counted_maybe SpellsRange range_depths counted_range r ⋈ counted_mark (codes "{")
      ⋈ counted_commas SpellsLabel enum_label_depths counted_label all ⋈ counted_mark (codes "}"))
  counted_type (Named w ranges) = counted_as _ (omega (arith, length_named w ranges)) (counted_name w ⋈ counted_ranges ranges)

  counted_members : {m : _} (all : Row_of-Member m) → Counted (SpellsMembers all) (length (members_depths all))
  counted_members end_of-Member = counted_never _
  counted_members (more_of-Member x all) = counted_as _ (simp length-append (omega arith)) (counted_member x ⋈ counted_more_members all)

  counted_more_members : {m : _} (all : Row_of-Member m) → Counted (MoreMembers all) (length (members_depths all))
  counted_more_members end_of-Member = counted_nothing
  counted_more_members (more_of-Member x all) = counted_as _ (simp length-append (omega arith)) (counted_member x ⋈ counted_more_members all)

  pub counted_member : (x : Member) → Counted (SpellsMember x) (length (member_depths x))
  counted_member (Of' r (more_of-TypeTree t end_of-TypeTree) names) =
      counted_as _ (simp length-append (omega arith)) (counted_type t ⋈ counted_names names ⋈ counted_mark (codes ";"))

-- ---- targets

pub counted_chain : (all : List Select) → Counted (SpellsChain all) (length (each_depths select_depths all))
counted_chain [] = counted_nothing
counted_chain (x ∷ []) = counted_as _ (simp length-append (omega arith)) (counted_select x)
counted_chain (x ∷ y ∷ all) = counted_as _ (simp length-append (omega arith)) (counted_when (counted_select x ⋈ counted_chain (y ∷ all)))

mutual
  unfolding lvalue_depths

  pub counted_lvalue : (x : Lvalue) → Counted (SpellsLvalue x) (length (lvalue_depths x))
  counted_lvalue (Name w all) = counted_as _ (simp length-append (omega arith)) (counted_name w ⋈ counted_chain all)
  counted_lvalue (Concat' p s all) = counted_as _ (simp (length_in, length-append) (omega arith)) (counted_mark_at (codes "{") p ⋈ counted_lvalues all ⋈ counted_mark (codes "}"))

  counted_lvalues : {m : _} (all : Row_of-Lvalue m) → Counted (SpellsLvalues all) (length (lvalues_depths all))
  counted_lvalues end_of-Lvalue = counted_never _
  counted_lvalues (more_of-Lvalue x all) = counted_as _ (simp length-append (omega arith)) (counted_lvalue x ⋈ counted_more_lvalues all)

  counted_more_lvalues : {m : _} (all : Row_of-Lvalue m) → Counted (MoreLvalues all) (length (more_lvalues_depths all))
  counted_more_lvalues end_of-Lvalue = counted_nothing
  counted_more_lvalues (more_of-Lvalue x all) = counted_as _ (simp length-append (omega arith)) (counted_mark (codes ",") ⋈ counted_lvalue x ⋈ counted_more_lvalues all)

-- ---- statements

pub counted_step : (v : Word) (x : Step) → Counted (SpellsStep v x) (length (step_depths x))
counted_step v (step.After w m) = counted_when (counted_name w ⋈ counted_mark _)
counted_step v (step.Before m w) = counted_when (counted_mark _ ⋈ counted_name w)
counted_step v (step.Assign w m x) = counted_when (counted_as _ (omega arith) (counted_name w ⋈ counted_mark _ ⋈ counted_expr 0 x))

counted_uniq : (u : Uniq) → Counted (uniq_key u) 1
counted_uniq uniq.Unique = counted_token _
counted_uniq uniq.Unique0 = counted_token _
counted_uniq uniq.Priority = counted_token _

counted_case : (u : CaseWord) → Counted (case_key u) 1
counted_case case_word.Case = counted_token _
counted_case case_word.Casez = counted_token _

pub counted_whole : (w : WholeWord) → Counted (whole_key w) 1
counted_whole whole_word.Int = counted_token _
counted_whole whole_word.Integer = counted_token _

pub counted_block_name : (w : Word) → Counted (block_name w) 2
counted_block_name w = counted_mark (codes ":") ⋈ counted_name w

pub counted_end_label : (n : Word) (w : Option Word) → Counted (label n w) (length (if_given label_depths w))
counted_end_label n None = counted_nothing
counted_end_label n (Some w) = counted_when (counted_mark (codes ":") ⋈ counted_name w)

pub counted_label_of : (b e : Option Word) → Counted (label_of b e) (length (if_given label_depths e))
counted_label_of (Some n) e = counted_end_label n e
counted_label_of None None = counted_nothing
counted_label_of None (Some w) = counted_never _

counted_colon : (b : Bool) → Counted (colon_if b) (length (if_true b))
counted_colon true = counted_mark (codes ":")
counted_colon false = counted_nothing

-- from the variable of a loop to the mark behind its step
pub counted_turns : (v : Word) (start test : Expr) (next : Step)
    → Counted (name v ⨟ mark (codes "=") ⨟ Spells 0 start ⨟ mark (codes ";") ⨟ Spells 0 test ⨟ mark (codes ";") ⨟ SpellsStep v next ⨟ mark (codes ")"))
    (length (turns_depths (expr_depths start) (expr_depths test) next))
counted_turns v start test next =
    counted_as _ (simp length-append (omega arith))
    (counted_name v ⋈ counted_mark (codes "=") ⋈ counted_expr 0 start ⋈ counted_mark (codes ";") ⋈ counted_expr 0 test ⋈ counted_mark (codes ";") ⋈ counted_step v next ⋈ counted_mark (codes ")"))

mutual
  unfolding stmt_depths

  pub counted_stmt : (x : Stmt) → Counted (SpellsStmt x) (length (stmt_depths x))
  counted_stmt Empty = counted_as _ (simp length_in_stmt (omega arith)) (counted_mark (codes ";"))
  counted_stmt (StmtBlock' p b s all e) =
      counted_as _ (simp (length_in_stmt, length-append) (omega arith))
      (counted_key_at (codes "begin") p ⋈ counted_maybe block_name label_depths counted_block_name b ⋈ counted_stmts all ⋈ counted_key (codes "end") ⋈ counted_label_of b e)
  counted_stmt (StmtIf' u c r (more_of-Stmt x end_of-Stmt) other) =
      counted_as _ (simp (length_in_stmt, length-append) (omega arith))
      (counted_maybe uniq_key word_depths counted_uniq u ⋈ counted_key (codes "if") ⋈ counted_mark (codes "(") ⋈ counted_expr 0 c ⋈ counted_mark (codes ")") ⋈ counted_stmt x ⋈ counted_else (is_closed x) other)
  counted_stmt (Case' u w x s all) =
      counted_as _ (simp (length_in_stmt, length-append) (omega arith))
      (counted_when (counted_maybe uniq_key word_depths counted_uniq u ⋈ counted_case w ⋈ counted_mark (codes "(") ⋈ counted_expr 0 x ⋈ counted_mark (codes ")") ⋈ counted_arms all ⋈ counted_key (codes "endcase")))
  counted_stmt (StmtFor' p form v start test next r (more_of-Stmt body end_of-Stmt)) =
      counted_as _ (simp (length_in_stmt, length-append) (omega arith))
      (counted_key_at (codes "for") p ⋈ counted_mark (codes "(") ⋈ counted_whole form ⋈ counted_name v ⋈ counted_mark (codes "=") ⋈ counted_expr 0 start ⋈ counted_mark (codes ";") ⋈ counted_expr 0 test ⋈ counted_mark (codes ";")
      ⋈ counted_step v next ⋈ counted_mark (codes ")") ⋈ counted_stmt body)
  counted_stmt (StmtAssign to m p x) =
      counted_as _ (simp (length_in_stmt, length-append) (omega arith)) (counted_lvalue to ⋈ counted_mark_at (assign_text m) p ⋈ counted_expr 0 x ⋈ counted_mark (codes ";"))

  counted_else : (closed : Bool) (other : Held-Stmt-If-3) → Counted (SpellsElse closed other) (length (else_depths other))
  counted_else closed NoStmt = counted_nothing
  counted_else closed (SomeStmt r (more_of-Stmt x end_of-Stmt)) = counted_when (counted_as _ (omega arith) (counted_key (codes "else") ⋈ counted_stmt x))

  counted_stmts : {m : _} (all : Row_of-Stmt m) → Counted (SpellsStmts all) (length (stmts_depths all))
  counted_stmts end_of-Stmt = counted_nothing
  counted_stmts (more_of-Stmt x all) = counted_as _ (simp length-append (omega arith)) (counted_stmt x ⋈ counted_stmts all)

  counted_arms : {m : _} (all : Row_of-Arm m) → Counted (SpellsArms all) (length (arms_depths all))
  counted_arms end_of-Arm = counted_never _
  counted_arms (more_of-Arm x all) = counted_as _ (simp length-append (omega arith)) (counted_arm x ⋈ counted_more_arms all)

  counted_more_arms : {m : _} (all : Row_of-Arm m) → Counted (MoreArms all) (length (arms_depths all))
  counted_more_arms end_of-Arm = counted_nothing
  counted_more_arms (more_of-Arm x all) = counted_as _ (simp length-append (omega arith)) (counted_arm x ⋈ counted_more_arms all)

  pub counted_arm : (x : Arm) → Counted (SpellsArm x) (length (arm_depths x))
  counted_arm (Labels' xs r (more_of-Stmt x end_of-Stmt)) =
      counted_as _ (simp length-append (omega arith)) (counted_commas (Spells 0) expr_depths (counted_expr 0) xs ⋈ counted_mark (codes ":") ⋈ counted_stmt x)
  counted_arm (Default' b r (more_of-Stmt x end_of-Stmt)) =
      counted_as _ (simp length-append (omega arith)) (counted_key (codes "default") ⋈ counted_colon b ⋈ counted_stmt x)
