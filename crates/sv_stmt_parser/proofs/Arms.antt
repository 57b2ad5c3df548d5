-- The arms of case statements are read as they are spelled: one default at most.
use Rattle.std.proofs.Common.{◌≡◌, ℕ, ◌+◌, ◌<◌, ◌≤◌, ◌⊎◌, Bool, true, false, List, [], ◌∷◌, ◌++◌, length, Option, Some, None, refl, sym, ◌∙◌, ap, subst, append_assoc, append-nil, length-append, arith}
use Rattle.sv_outside.specs.declared.refusal.Place.{Place}
use Rattle.sv_outside.specs.declared.text.Token.{Token}
use Rattle.sv_tree.specs.declared.exprs.Expr.{Expr}
use Rattle.sv_tree.specs.declared.stmts.Stmt.{Stmt, end_of-Stmt, more_of-Stmt}
use Rattle.sv_tree.specs.declared.stmts.Arm.{Arm, Labels', Default'}
use Rattle.sv_tree.specs.declared.stmts.Arm.TheVariants as ar
use Rattle.sv_tree.specs.declared.stmts.Arm.TheBlock.{shape-the_row-Stmt-0, hidden-the_row-Stmt-0, shape-the_row-Stmt-1, hidden-the_row-Stmt-1, shape-the_row-Arm-2, hidden-the_row-Arm-2}
use Rattle.sv_tree.specs.Spelling.{Spelled, nothing, never, ◌⨟◌, when, mark_at, key, maybe, each}
use Rattle.sv_tree.specs.GrammarStmts.{is_closed, colon_if, SpellsStmt, SpellsArm}
use Rattle.sv_tree.specs.Nesting.{Depths, one, if_given, each_depths}
use Rattle.sv_tree.specs.NestingDesign.{if_true, stmt_depths, arm_depths}
use Rattle.sv_tree.proofs.MadeStmts.{some, is_default, count_default, default_count, default_labels, default_default}
use Rattle.sv_tree.proofs.MadeStmts as made
use Rattle.sv_tree.proofs.Counted.{Counted, counted_stmt, counted_arm}
use Rattle.sv_cursor.specs.declared.sort.Keyword.TheVariants as k
use Rattle.sv_cursor.specs.declared.sort.Mark.TheVariants as m
use Rattle.sv_cursor.specs.declared.sort.Sort.{Sort}
use Rattle.sv_cursor.specs.declared.sort.Sort.TheVariants as so
use Rattle.sv_cursor.specs.Sorts.{mark_text, keyword_text}
use Rattle.sv_cursor.specs.Tests.{first_sort, same_mark, is_mark, mark_test, keyword_test}
use Rattle.sv_cursor.specs.Parsers.{Parser, told}
use Rattle.sv_cursor.proofs.Readers.{IsReader, IsMoved, less_reader}
use Rattle.sv_expr_words.specs.declared.openers.Opener.{Opener}
use Rattle.sv_expr_words.specs.Signs.{opener, opener_test}
use Rattle.sv_expr_reader.proofs.Tokens.{placed_mark, some_mark}
use Rattle.sv_word_parser.specs.declared.openers.StmtOpener.{StmtOpener}
use Rattle.sv_word_parser.specs.Combined.{sort_test}
use Rattle.sv_word_parser.specs.Words.{stmt_by_sort}
use Rattle.sv_stmt_parser.specs.Stmts.{made_labels, labelled, is_given, made_default, default, all_labelled, from_default, behind_labelled, made_arms, arms}
use Rattle.sv_type_parser.proofs.Rules.{Rule, the_mark, the_key, placed, before, seq, seq_by, optional, several, tree_reads, tree_moved, rule_of, list_rule, mark_begins, key_begins, IsFirst, first_of_mark, first_of_key, told_sort, no_mark}
use Rattle.sv_type_parser.proofs.Limits.{Over, expression_rule, first_end}
use Rattle.sv_stmt_parser.proofs.Steps.{NoColon}
use Rattle.sv_stmt_parser.proofs.Begins.{NoElse, exprs_begin, told_opener, stmt_begins}

-- No `else` stands behind the statement that would go on with it.
abbrev pub Closed : Bool → List Token → Type 0
Closed closed o = (closed ≡ true) ⊎ NoElse o

-- a whole statement
abbrev pub DoneStmt : Stmt → Spelled
DoneStmt x i o = SpellsStmt x i o × Closed (is_closed x) o

pub counted_done : (x : Stmt) → Counted (DoneStmt x) (length (stmt_depths x))
counted_done x = record { count = λ i o h. (counted_stmt x).count i o h.0; rest = λ i o h. (counted_stmt x).rest i o h.0 }

abbrev pub is_arm_closed : Arm → Bool
is_arm_closed (Labels' xs r (more_of-Stmt x end_of-Stmt)) = is_closed x
is_arm_closed (Default' b r (more_of-Stmt x end_of-Stmt)) = is_closed x

closed_labels : (xs : List Expr) (x : Stmt) → is_arm_closed (ar.Labels xs x) ≡ is_closed x
unfolding shape-the_row-Stmt-0 hidden-the_row-Stmt-0 shape-the_row-Stmt-1 hidden-the_row-Stmt-1 shape-the_row-Arm-2 hidden-the_row-Arm-2 denote.Hole.Carrier.hidden
closed_labels xs x = refl

closed_default : (b : Bool) (x : Stmt) → is_arm_closed (ar.Default b x) ≡ is_closed x
unfolding shape-the_row-Stmt-0 hidden-the_row-Stmt-0 shape-the_row-Stmt-1 hidden-the_row-Stmt-1 shape-the_row-Arm-2 hidden-the_row-Arm-2 denote.Hole.Carrier.hidden
closed_default b x = refl

-- a whole arm, of either kind
abbrev pub DoneArm : Arm → Spelled
DoneArm x i o = SpellsArm x i o × Closed (is_arm_closed x) o

abbrev pub ArmOf : Bool → Arm → Spelled
ArmOf kind x i o = (is_default x ≡ kind) × DoneArm x i o

counted_arm_of : (kind : Bool) (x : Arm) → Counted (ArmOf kind x) (length (arm_depths x))
counted_arm_of kind x = record { count = λ i o h. (counted_arm x).count i o h.1.0; rest = λ i o h. (counted_arm x).rest i o h.1.0 }

-- ---- first tokens

expr_no_colon : (y : Sort) (c : Opener) → opener y ≡ Some c → is_mark m.Colon y ≡ false
unfolding same_mark
expr_no_colon (so.Mark m.Colon) c h = absurd (cc)
expr_no_colon (so.Mark _) c h = refl
expr_no_colon _ c h = refl

opener_no_colon : (c : Opener) (i : List Token) → told opener_test i ≡ Some c → NoColon i
opener_no_colon c i h = no_mark m.Colon (first_sort i) i (expr_no_colon (first_sort i) c (sym (told_opener i) ∙ h)) refl

no_comma_at_colon : (i : List Token) → IsFirst (so.Mark m.Colon) i → told (mark_test m.Comma) i ≡ None
unfolding same_mark
no_comma_at_colon i h = no_mark m.Comma (so.Mark m.Colon) i refl h

stmt_apart : (y : Sort) (c : StmtOpener) → stmt_by_sort y ≡ Some c → is_mark m.Colon y ≡ false
unfolding same_mark
stmt_apart (so.Mark m.Colon) c h = absurd (cc)
stmt_apart (so.Mark _) c h = refl
stmt_apart _ c h = refl

pub stmt_told_no_colon : (c : StmtOpener) (i : List Token) → told (sort_test stmt_by_sort) i ≡ Some c → NoColon i
stmt_told_no_colon c i h = no_mark m.Colon (first_sort i) i (stmt_apart (first_sort i) c (sym (told_sort stmt_by_sort i refl) ∙ h)) refl

pub stmt_no_colon : (x : Stmt) (i o : List Token) → SpellsStmt x i o → NoColon i
stmt_no_colon x i o h = let b = stmt_begins x i o h in stmt_told_no_colon b.0 i b.1

-- what stops labelled arms
abbrev LabelledStop : List Token → Type 0
LabelledStop o = (told opener_test o ≡ None) × NoColon o

-- what stops arms
abbrev pub ArmsEnd : List Token → Type 0
ArmsEnd o = (told (keyword_test k.Default) o ≡ None) × LabelledStop o

key_stops : (i : List Token) → IsFirst (so.Keyword k.Default) i → LabelledStop i
unfolding same_mark
key_stops i h = (told_opener i ∙ ap opener h, no_mark m.Colon (so.Keyword k.Default) i refl h)

arm_begins : (x : Arm) (i o : List Token) → ArmOf false x i o → (c : Opener) × (told opener_test i ≡ Some c)
arm_begins = made.by_cases_arm (λ x. (i o : List Token) → ArmOf false x i o → (c : Opener) × (told opener_test i ≡ Some c))
    (λ xs x i o h. let g = made.of_labels xs x i o h.1.0 in exprs_begin xs i g.0 g.1)
    (λ b x i o h. let e : true ≡ false = sym (default_default b x) ∙ h.0 in absurd (cc))

abbrev rest_of : List Token → List Token
rest_of [] = []
rest_of (a ∷ i) = i

default_begins : (x : Arm) (i o : List Token) → ArmOf true x i o → key (keyword_text k.Default) i (rest_of i)
unfolding keyword_text
default_begins = made.by_cases_arm (λ x. (i o : List Token) → ArmOf true x i o → key (keyword_text k.Default) i (rest_of i))
    (λ xs x i o h. let e : false ≡ true = sym (default_labels xs x) ∙ h.0 in absurd (cc))
    (λ b x i o h. let g = made.of_default b x i o h.1.0 in key_here i g.0 g.1)
  where
    key_here : (i t : List Token) → key (keyword_text k.Default) i t → key (keyword_text k.Default) i (rest_of i)
    key_here [] t h = absurd h
    key_here (a ∷ i) t h = (h.0, refl)

arm_grows : (x : Arm) → 0 < length (arm_depths x)
arm_grows = made.by_cases_arm (λ x. 0 < length (arm_depths x))
    (λ xs x. subst (λ l. 0 < length l) (sym (made.nests_labels xs x)) (simp length-append (omega arith)))
    (λ b x. subst (λ l. 0 < length l) (sym (made.nests_default b x)) (simp length-append (omega arith)))

-- ---- one arm

colon_to : (q : Option Place) (i o : List Token) → maybe (mark_at (mark_text m.Colon)) q i o → colon_if (is_given q) i o
unfolding mark_text
colon_to None i o h = h
colon_to (Some p) i o h = some_mark (mark_text m.Colon) p i o h

colon_from : (b : Bool) (i o : List Token) → colon_if b i o → (q : Option Place) × (is_given q ≡ b) × maybe (mark_at (mark_text m.Colon)) q i o
unfolding mark_text
colon_from true i o h = let p = placed_mark (mark_text m.Colon) i o h in (Some p.0, refl, p.1)
colon_from false i o h = (None, refl, h)

colon_nests : (q : Option Place) → if_given (λ p. one) q ≡ if_true (is_given q)
colon_nests None = refl
colon_nests (Some p) = refl

module _ (s g t d : ℕ) (le : d ≤ 200) (f : Parser Stmt) (reads : IsReader (Over s g t) d DoneStmt DoneStmt stmt_depths NoColon f) where
  abbrev inner_rule : Rule (Over s g t) d Stmt
  inner_rule = rule_of reads counted_done

  abbrev labelled_tuple : Rule (Over s g t) d (List Expr × Stmt)
  labelled_tuple =
      seq (list_rule (expression_rule s g t d le) (λ i h. first_end m.Comma refl i h)) (before (the_mark (Over s g t) m.Colon) inner_rule)
      (λ xs x i o h stops. let c = first_of_mark m.Colon i h.0 h.1 in (no_comma_at_colon i c, first_end m.Colon refl i c))

  labelled_to : (c : List Expr × Stmt) (i o : List Token) → labelled_tuple.spelled c i o → ArmOf false (made_labels c) i o
  unfolding mark_text
  labelled_to c i o h =
      (default_labels c.0 c.1, (made.to_labels c.0 c.1 i o (h.0, h.1, (h.2.0, h.2.1, h.2.2.0)), subst (λ b. Closed b o) (sym (closed_labels c.0 c.1)) h.2.2.1))

  labelled_from : (x : Arm) (i o : List Token) → ArmOf false x i o → (c : List Expr × Stmt) × (made_labels c ≡ x) × labelled_tuple.spelled c i o
  unfolding mark_text
  labelled_from = made.by_cases_arm (λ x. (i o : List Token) → ArmOf false x i o → (c : List Expr × Stmt) × (made_labels c ≡ x) × labelled_tuple.spelled c i o)
      (λ xs x i o h. let g = made.of_labels xs x i o h.1.0 in ((xs, x), refl, (g.0, g.1, (g.2.0, g.2.1, (g.2.2, subst (λ b. Closed b o) (closed_labels xs x) h.1.1)))))
      (λ b x i o h. let e : true ≡ false = sym (default_default b x) ∙ h.0 in absurd (cc))

  labelled_reads : IsReader (Over s g t) d (ArmOf false) (ArmOf false) arm_depths NoColon (labelled f)
  unfolding labelled
  labelled_reads = tree_reads labelled_tuple made_labels (ArmOf false) arm_depths (λ c. sym (made.nests_labels c.0 c.1 ∙ simp append_assoc)) labelled_to labelled_from

  abbrev labelled_rule : Rule (Over s g t) d Arm
  labelled_rule = rule_of labelled_reads (counted_arm_of false)

  abbrev several_labelled : Rule (Over s g t) d (List Arm)
  several_labelled = several opener_test labelled_rule arm_begins (λ x i o h. arm_grows x) opener_no_colon

  all_labelled_reads : IsReader (Over s g t) d (each (ArmOf false)) (each (ArmOf false)) (each_depths arm_depths) LabelledStop (all_labelled f)
  unfolding all_labelled
  all_labelled_reads = several_labelled.reads

  abbrev all_labelled_rule : Rule (Over s g t) d (List Arm)
  all_labelled_rule = record { spelled = each (ArmOf false); nests = each_depths arm_depths; stops = LabelledStop; parser = all_labelled f; reads = all_labelled_reads; moved = several_labelled.moved }

  abbrev default_tuple : Rule (Over s g t) d (Option Place × Stmt)
  default_tuple =
      before (the_key (Over s g t) k.Default)
      (seq (optional (mark_test m.Colon) (placed (the_mark (Over s g t) m.Colon)) (λ p i o h. mark_begins m.Colon i o (some_mark (mark_text m.Colon) p i o h))) inner_rule (λ q x i o h stops. (stmt_no_colon x i o h.0, tt)))

  default_to : (c : Option Place × Stmt) (i o : List Token) → default_tuple.spelled c i o → ArmOf true (made_default c) i o
  unfolding keyword_text
  default_to c i o h =
      (default_default (is_given c.0) c.1, (made.to_default (is_given c.0) c.1 i o (h.0, h.1, (h.2.0, colon_to c.0 h.0 h.2.0 h.2.1, h.2.2.0)), subst (λ b. Closed b o) (sym (closed_default (is_given c.0) c.1)) h.2.2.1))

  default_from : (x : Arm) (i o : List Token) → ArmOf true x i o → (c : Option Place × Stmt) × (made_default c ≡ x) × default_tuple.spelled c i o
  unfolding keyword_text
  default_from = made.by_cases_arm (λ x. (i o : List Token) → ArmOf true x i o → (c : Option Place × Stmt) × (made_default c ≡ x) × default_tuple.spelled c i o)
      (λ xs x i o h. let e : false ≡ true = sym (default_labels xs x) ∙ h.0 in absurd (cc))
      (λ b x i o h.
      let g = made.of_default b x i o h.1.0 in
      let q = colon_from b g.0 g.2.0 g.2.1 in ((q.0, x), ap (λ b. ar.Default b x) q.1, (g.0, g.1, (g.2.0, q.2, (g.2.2, subst (λ b. Closed b o) (closed_default b x) h.1.1)))))

  default_reads : IsReader (Over s g t) d (ArmOf true) (ArmOf true) arm_depths NoColon (default f)
  unfolding default
  default_reads =
      tree_reads default_tuple made_default (ArmOf true) arm_depths (λ c. ap (λ l. one ++ (l ++ stmt_depths c.1)) (colon_nests c.0) ∙ sym (made.nests_default (is_given c.0) c.1 ∙ simp append_assoc)) default_to default_from

  abbrev default_rule : Rule (Over s g t) d Arm
  default_rule = rule_of default_reads (counted_arm_of true)

  -- ---- all arms

  first_no_colon : (all : List Arm) (i o : List Token) → each (ArmOf false) all i o → LabelledStop o → NoColon i
  first_no_colon [] i o h stops = subst NoColon (sym h) stops.1
  first_no_colon (x ∷ all) i o h stops = let b = arm_begins x i h.0 h.1 in opener_no_colon b.0 i b.1

  abbrev default_pair : Rule (Over s g t) d (Arm × List Arm)
  default_pair = seq default_rule all_labelled_rule (λ x all i o h stops. first_no_colon all i o h stops)

  from_default_reads : IsReader (Over s g t) d default_pair.spelled default_pair.spelled default_pair.nests LabelledStop (from_default f)
  unfolding from_default
  from_default_reads = default_pair.reads

  abbrev from_default_rule : Rule (Over s g t) d (Arm × List Arm)
  from_default_rule = record { spelled = default_pair.spelled; nests = default_pair.nests; stops = LabelledStop; parser = from_default f; reads = from_default_reads; moved = default_pair.moved }

-- what stands behind labelled arms
abbrev Behind : List Arm → Option (Arm × List Arm) → Spelled
Behind a (Some c) = ArmOf true c.0 ⨟ each (ArmOf false) c.1
Behind [] None = never
Behind (x ∷ a) None = nothing

abbrev behind_nests : Option (Arm × List Arm) → Depths
behind_nests = if_given (λ c. arm_depths c.0 ++ each_depths arm_depths c.1)

module _ (s g t d : ℕ) (le : d ≤ 200) (f : Parser Stmt) (reads : IsReader (Over s g t) d DoneStmt DoneStmt stmt_depths NoColon f) where
  abbrev pair_rule : Rule (Over s g t) d (Arm × List Arm)
  pair_rule = from_default_rule s g t d le f reads

  pair_begins : (c : Arm × List Arm) (i o : List Token) → pair_rule.spelled c i o → (p : Place) × (told (keyword_test k.Default) i ≡ Some p)
  pair_begins c i o h = key_begins k.Default i (rest_of i) (default_begins c.0 i h.0 h.1)

  abbrev maybe_pair : Rule (Over s g t) d (Option (Arm × List Arm))
  maybe_pair = optional (keyword_test k.Default) pair_rule pair_begins

  maybe_to : (x : Arm) (a : List Arm) (q : Option (Arm × List Arm)) (i o : List Token) → maybe_pair.spelled q i o → Behind (x ∷ a) q i o
  maybe_to x a None i o h = h
  maybe_to x a (Some c) i o h = h

  maybe_from : (x : Arm) (a : List Arm) (q : Option (Arm × List Arm)) (i o : List Token) → Behind (x ∷ a) q i o → maybe_pair.spelled q i o
  maybe_from x a None i o h = h
  maybe_from x a (Some c) i o h = h

  first_from : (q : Option (Arm × List Arm)) (i o : List Token) → Behind [] q i o → (c : Arm × List Arm) × (Some c ≡ q) × pair_rule.spelled c i o
  first_from None i o h = absurd h
  first_from (Some c) i o h = (c, refl, h)

  behind_reads : (a : List Arm) → IsReader (Over s g t) d (Behind a) (Behind a) behind_nests ArmsEnd (behind_labelled f a)
  behind_reads [] =
      less_reader (Over s g t) d d (Behind []) (Behind []) (Behind []) (Behind []) behind_nests LabelledStop ArmsEnd _
      (tree_reads pair_rule Some (Behind []) behind_nests (λ c. refl) (λ c i o h. h) first_from) (omega arith) (λ q i o h. h) (λ q i o h. h) (λ o h. h.1)
  behind_reads (x ∷ a) =
      less_reader (Over s g t) d d maybe_pair.spelled maybe_pair.spelled (Behind (x ∷ a)) (Behind (x ∷ a)) behind_nests maybe_pair.stops ArmsEnd maybe_pair.parser maybe_pair.reads (omega arith) (maybe_to x a) (maybe_from x a) (λ o h. h)

  behind_moved : (a : List Arm) → IsMoved (Behind a) behind_nests
  behind_moved [] = tree_moved pair_rule Some (Behind []) behind_nests (λ c. refl) first_from
  behind_moved (x ∷ a) = record { count = λ q i o h. maybe_pair.moved.count q i o (maybe_from x a q i o h); rest = λ q i o h. maybe_pair.moved.rest q i o (maybe_from x a q i o h) }

  behind_stops : (a : List Arm) (q : Option (Arm × List Arm)) (i o : List Token) → Behind a q i o → ArmsEnd o → LabelledStop i
  behind_stops a (Some c) i o h stops = key_stops i (first_of_key k.Default i (rest_of i) (default_begins c.0 i h.0 h.1))
  behind_stops [] None i o h stops = absurd h
  behind_stops (x ∷ a) None i o h stops = subst LabelledStop (sym h) stops.1

  abbrev arms_tuple : Rule (Over s g t) d (List Arm × Option (Arm × List Arm))
  arms_tuple = seq_by (all_labelled_rule s g t d le f reads) Behind behind_nests ArmsEnd (behind_labelled f) behind_reads behind_moved behind_stops

-- ---- arms with one default at most

-- whole arms, one at least, of which one is a default at most
abbrev pub DoneArms : List Arm → Spelled
DoneArms all = when (default_count all ≤ 1) (some DoneArm all)

each_nests : (a b : List Arm) → each_depths arm_depths (a ++ b) ≡ each_depths arm_depths a ++ each_depths arm_depths b
each_nests [] b = refl
each_nests (x ∷ a) b = ap (λ l. arm_depths x ++ l) (each_nests a b) ∙ sym (append_assoc (arm_depths x) (each_depths arm_depths a) (each_depths arm_depths b))

arms_nested : (c : List Arm × Option (Arm × List Arm)) → each_depths arm_depths c.0 ++ behind_nests c.1 ≡ each_depths arm_depths (made_arms c)
arms_nested (a, None) = append-nil (each_depths arm_depths a)
arms_nested (a, Some c) = sym (each_nests a (c.0 ∷ c.1))

-- labelled arms, and what stands behind them
labelled_front : (a b : List Arm) (i t o : List Token) → each (ArmOf false) a i t → each DoneArm b t o → each DoneArm (a ++ b) i o
labelled_front [] b i t o h g = subst (λ i. each DoneArm b i o) (sym h) g
labelled_front (x ∷ a) b i t o h g = (h.0, h.1.1, labelled_front a b h.0 t o h.2 g)

labelled_count : (a b : List Arm) (i t : List Token) → each (ArmOf false) a i t → default_count (a ++ b) ≡ default_count b
labelled_count [] b i t h = refl
labelled_count (x ∷ a) b i t h = ap (λ kind. count_default kind (default_count (a ++ b))) h.1.0 ∙ labelled_count a b h.0 t h.2

labelled_all : (a : List Arm) (i o : List Token) → each (ArmOf false) a i o → each DoneArm a i o × (default_count a ≡ 0)
labelled_all [] i o h = (h, refl)
labelled_all (x ∷ a) i o h = let g = labelled_all a h.0 o h.2 in ((h.0, h.1.1, g.0), ap (λ kind. count_default kind (default_count a)) h.1.0 ∙ g.1)

some_each : (a : List Arm) (x : Arm) (b : List Arm) (i o : List Token) → each DoneArm (a ++ (x ∷ b)) i o → some DoneArm (a ++ (x ∷ b)) i o
some_each [] x b i o h = h
some_each (y ∷ a) x b i o h = h

arms_to : (c : List Arm × Option (Arm × List Arm)) (i o : List Token) → (each (ArmOf false) c.0 ⨟ Behind c.0 c.1) i o → DoneArms (made_arms c) i o
arms_to ([], None) i o h = absurd h.2
arms_to (x ∷ a, None) i o h =
    let g = labelled_all (x ∷ a) i h.0 h.1 in (omega (arith, g.1), subst (λ t. some DoneArm (x ∷ a) i t) h.2 g.0)
arms_to (a, Some c) i o h =
    let g = labelled_all c.1 h.2.0 o h.2.2 in
    let e : default_count (a ++ (c.0 ∷ c.1)) ≡ 1 = labelled_count a (c.0 ∷ c.1) i h.0 h.1 ∙ (ap (λ kind. count_default kind (default_count c.1)) h.2.1.0 ∙ ap (λ n. n + 1) g.1) in
    (omega (arith, e), some_each a c.0 c.1 i o (labelled_front a (c.0 ∷ c.1) i h.0 o h.1 (h.2.0, h.2.1.1, g.0)))

abbrev Parted : List Arm → Spelled
Parted all i o = (c : List Arm × Option (Arm × List Arm)) × (made_arms c ≡ all) × (each (ArmOf false) c.0 ⨟ maybe (λ c. ArmOf true c.0 ⨟ each (ArmOf false) c.1) c.1) i o

none_left : (all : List Arm) (i o : List Token) → default_count all ≤ 0 → each DoneArm all i o → each (ArmOf false) all i o
none_left [] i o le h = h
none_left (x ∷ all) i o le h = by_kind (is_default x) refl (λ le. none_left all h.0 o le h.2)
  where
    by_kind : (kind : Bool) → is_default x ≡ kind → (default_count all ≤ 0 → each (ArmOf false) all h.0 o) → each (ArmOf false) (x ∷ all) i o
    by_kind true e later = let g : default_count (x ∷ all) ≡ default_count all + 1 = ap (λ kind. count_default kind (default_count all)) e in absurd (omega arith)
    by_kind false e later = let g : default_count (x ∷ all) ≡ default_count all = ap (λ kind. count_default kind (default_count all)) e in (h.0, (e, h.1), later (omega arith))

more_made : (x : Arm) (c : List Arm × Option (Arm × List Arm)) → made_arms (x ∷ c.0, c.1) ≡ x ∷ made_arms c
more_made x (a, None) = refl
more_made x (a, Some c) = refl

parted : (all : List Arm) (i o : List Token) → default_count all ≤ 1 → each DoneArm all i o → Parted all i o
parted [] i o le h = (([], None), refl, (i, refl, h))
parted (x ∷ all) i o le h = by_kind (is_default x) refl (λ le. parted all h.0 o le h.2)
  where
    by_kind : (kind : Bool) → is_default x ≡ kind → (default_count all ≤ 1 → Parted all h.0 o) → Parted (x ∷ all) i o
    by_kind true e later =
        let g : default_count (x ∷ all) ≡ default_count all + 1 = ap (λ kind. count_default kind (default_count all)) e in
        (([], Some (x, all)), refl, (i, refl, (h.0, (e, h.1), none_left all h.0 o (omega arith) h.2)))
    by_kind false e later =
        let g : default_count (x ∷ all) ≡ default_count all = ap (λ kind. count_default kind (default_count all)) e in
        let c = later (omega arith) in ((x ∷ c.0.0, c.0.1), more_made x c.0 ∙ ap (λ l. x ∷ l) c.1, (c.2.0, (h.0, (e, h.1), c.2.1), c.2.2))

behind_of : (x : Arm) (all a : List Arm) (q : Option (Arm × List Arm)) (i o : List Token) → made_arms (a, q) ≡ x ∷ all → maybe (λ c. ArmOf true c.0 ⨟ each (ArmOf false) c.1) q i o → Behind a q i o
behind_of x all a (Some c) i o e h = h
behind_of x all [] None i o e h = absurd (cc)
behind_of x all (y ∷ a) None i o e h = h

arms_from : (all : List Arm) (i o : List Token) → DoneArms all i o → (c : List Arm × Option (Arm × List Arm)) × (made_arms c ≡ all) × (each (ArmOf false) c.0 ⨟ Behind c.0 c.1) i o
arms_from [] i o h = absurd h.1
arms_from (x ∷ all) i o h = let c = parted (x ∷ all) i o h.0 h.1 in (c.0, c.1, (c.2.0, c.2.1, behind_of x all c.0.0 c.0.1 c.2.0 o c.1 c.2.2))

module _ (s g t d : ℕ) (le : d ≤ 200) (f : Parser Stmt) (reads : IsReader (Over s g t) d DoneStmt DoneStmt stmt_depths NoColon f) where
  pub arms_reads : IsReader (Over s g t) d DoneArms DoneArms (each_depths arm_depths) ArmsEnd (arms f)
  unfolding arms
  arms_reads = tree_reads (arms_tuple s g t d le f reads) made_arms DoneArms (each_depths arm_depths) arms_nested arms_to arms_from

  pub arms_moved : IsMoved DoneArms (each_depths arm_depths)
  arms_moved = tree_moved (arms_tuple s g t d le f reads) made_arms DoneArms (each_depths arm_depths) arms_nested arms_from

  abbrev pub arms_rule : Rule (Over s g t) d (List Arm)
  arms_rule = record { spelled = DoneArms; nests = each_depths arm_depths; stops = ArmsEnd; parser = arms f; reads = arms_reads; moved = arms_moved }
