-- Selects are read as they are spelled.
use Rattle.std.proofs.Common.{◌≡◌, ℕ, zero, suc, ◌<◌, List, [], ◌∷◌, ◌++◌, length, Option, Some, None, codes, refl, sym, ◌∙◌, ap, subst, append_assoc, arith}
use Rattle.sv_outside.specs.declared.refusal.Place.{Place}
use Rattle.sv_outside.specs.declared.text.Token.{Token}
use Rattle.sv_tree.specs.declared.word.Word.{Word}
use Rattle.sv_tree.specs.declared.exprs.RangeMark.{RangeMark}
use Rattle.sv_tree.specs.declared.exprs.RangeMark.TheVariants as range_mark
use Rattle.sv_tree.specs.declared.exprs.Expr.{Expr}
use Rattle.sv_tree.specs.declared.exprs.Select.{Select}
use Rattle.sv_tree.specs.declared.exprs.Select.TheVariants as sel
use Rattle.sv_tree.specs.Spelling.{Spelled, ◌⨟◌, mark as mark_spelled, mark_at, name, maybe}
use Rattle.sv_tree.specs.GrammarExprs.{Spells, SpellsSelect, range_text, is_range}
use Rattle.sv_tree.specs.Nesting.{Depths, one, in_expr, expr_depths, select_depths, if_given, each_depths}
use Rattle.sv_tree.proofs.MadeExprs.{to_member, of_member, nests_member, to_index, of_index, nests_index, to_range, of_range, nests_range, by_cases_select}
use Rattle.sv_tree.proofs.Framed.{length_in, framed_as, frame_select}
use Rattle.sv_cursor.specs.declared.sort.Mark.{Mark as MarkName}
use Rattle.sv_cursor.specs.declared.sort.Mark.TheVariants as m
use Rattle.sv_cursor.specs.declared.sort.Sort.{Sort}
use Rattle.sv_cursor.specs.declared.sort.Sort.TheVariants as s
use Rattle.sv_cursor.specs.Sorts.{sort, mark_text}
use Rattle.sv_cursor.specs.Tests.{id_test, same_mark, mark}
use Rattle.sv_cursor.specs.Parsers.{Parser, told, token, ◌⊗◌, maybe_read, refuse}
use Rattle.sv_cursor.proofs.Readers.{IsReader, IsMoved, BadAt, Told, token_reader, pair_reader, equal_reader, less_reader, maybe_reader, moved_maybe, moved_pair, moved_told, deep_reader, choose_reader, refuse_reader, Chain, chain_reader, moved_chain}
use Rattle.sv_tree.specs.GrammarStmts.{SpellsChain}
use Rattle.sv_cursor.proofs.Tested.{mark_here, sort_mark}
use Rattle.sv_expr_words.specs.declared.openers.SelectOpener.{SelectOpener}
use Rattle.sv_expr_words.specs.declared.openers.SelectOpener.TheVariants as select_by
use Rattle.sv_expr_words.specs.Signs.{select_test, range_test, range_sign, range_of_mark, range_name, select_opener}
use Rattle.sv_expr_reader.specs.Reading.{member, made_bracket, bracket, select_for, select, selects}
use Rattle.sv_expr_reader.proofs.Tokens.{Bad, outside, deeper, inner, part, Stops, Any, stops_at_mark, placed_mark, some_mark, mark_reader, moved_mark, moved_part, moved_framed, in_append, name_reader}
use Rattle.sv_expr_reader.proofs.Parts.{IsParts, part_reader, own}

-- ---- the mark of a range

range_mark_text : (r : RangeMark) → range_text r ≡ mark_text (range_name r)
unfolding mark_text
range_mark_text range_mark.To = refl
range_mark_text range_mark.Up = refl
range_mark_text range_mark.Down = refl

range_is : (r : RangeMark) → range_of_mark (range_name r) ≡ Some r
range_is range_mark.To = refl
range_is range_mark.Up = refl
range_is range_mark.Down = refl

range_mark_so : (k : MarkName) (r : RangeMark) → range_of_mark k ≡ Some r → k ≡ range_name r
range_mark_so m.Colon r h = let e : range_mark.To ≡ r = cc in ap range_name e
range_mark_so m.PlusColon r h = let e : range_mark.Up ≡ r = cc in ap range_name e
range_mark_so m.MinusColon r h = let e : range_mark.Down ≡ r = cc in ap range_name e
range_mark_so _ r h = absurd (cc)

range_so : (x : Sort) (r : RangeMark) → range_sign x ≡ Some r → x ≡ s.Mark (range_name r)
range_so (s.Mark k) r h = ap s.Mark (range_mark_so k r h)
range_so _ r h = absurd (cc)

range_of : (r : RangeMark) (i o : List Token) → Told range_test r i o → mark_spelled (range_text r) i o
unfolding range_test sort
range_of r [] o h = absurd h
range_of r (a ∷ i) o h = let g = sort_mark a.kind a.text (range_name r) (range_so (sort a) r h.0) in ((g.0, g.1 ∙ sym (range_mark_text r)), h.1)

told_of_range : (r : RangeMark) (i o : List Token) → mark_spelled (range_text r) i o → Told range_test r i o
unfolding range_test
told_of_range r [] o h = absurd h
told_of_range r (a ∷ i) o h = (ap range_sign (mark_here a (range_name r) h.0.0 (h.0.1 ∙ range_mark_text r)) ∙ range_is r, h.1)

-- ---- what stops a part in brackets

stops_at_bracket : (q : Place) (t o : List Token) → mark_at (codes "]") q t o → Stops 0 t
unfolding mark_text same_mark
stops_at_bracket q t o h = stops_at_mark 0 m.RightBracket refl refl (omega arith) q t o h

stops_at_range : (r : RangeMark) (p : Place) (t o : List Token) → mark_at (mark_text (range_name r)) p t o → Stops 0 t
unfolding mark_text same_mark
stops_at_range range_mark.To p t o h = stops_at_mark 0 m.Colon refl refl (omega arith) p t o h
stops_at_range range_mark.Up p t o h = stops_at_mark 0 m.PlusColon refl refl (omega arith) p t o h
stops_at_range range_mark.Down p t o h = stops_at_mark 0 m.MinusColon refl refl (omega arith) p t o h

stops_at_told_range : (r : RangeMark) (t o : List Token) → Told range_test r t o → Stops 0 t
stops_at_told_range r t o h =
    let g = placed_mark (mark_text (range_name r)) t o (subst (λ x. mark_spelled x t o) (range_mark_text r) (range_of r t o h)) in
    stops_at_range r g.0 t o g.1

no_range_at_bracket : (q : Place) (t o : List Token) → mark_at (codes "]") q t o → told range_test t ≡ None
unfolding mark_text range_test
no_range_at_bracket q [] o h = absurd h
no_range_at_bracket q (a ∷ t) o h = ap range_sign (mark_here a m.RightBracket h.0.0 h.0.1)

-- ---- in brackets

abbrev RangeEnd : RangeMark × Expr → Spelled
RangeEnd c = Told range_test c.0 ⨟ Spells 0 c.1

abbrev range_end_nests : RangeMark × Expr → Depths
range_end_nests c = inner c.0 ++ part c.1

abbrev BracketSpelled : Place × (Expr × (Option (RangeMark × Expr) × Place)) → Spelled
BracketSpelled c = mark_at (codes "[") c.0 ⨟ (Spells 0 c.1.0 ⨟ (maybe RangeEnd c.1.1.0 ⨟ mark_at (codes "]") c.1.1.1))

abbrev bracket_nests : Place × (Expr × (Option (RangeMark × Expr) × Place)) → Depths
bracket_nests c = inner c.0 ++ (part c.1.0 ++ (if_given range_end_nests c.1.1.0 ++ inner c.1.1.1))

-- a select in an expression
abbrev pub select_part : Select → Depths
select_part x = in_expr (select_depths x)

bracket_nested : (c : Place × (Expr × (Option (RangeMark × Expr) × Place))) → bracket_nests c ≡ select_part (made_bracket c)
unfolding in_expr
bracket_nested (p, (x, (None, q))) = sym (ap in_expr (nests_index p x) ∙ ap (λ l. deeper outside ∷ l) (in_append (expr_depths x) one))
bracket_nested (p, (x, (Some r, q))) = sym (ap in_expr (nests_range p x r.0 r.1)
    ∙ ap (λ l. deeper outside ∷ l) (in_append (expr_depths x ++ one ++ expr_depths r.1) one
    ∙ (ap (λ l. l ++ own) (in_append (expr_depths x ++ one) (expr_depths r.1) ∙ ap (λ l. l ++ part r.1) (in_append (expr_depths x) one))
    ∙ (append_assoc (part x ++ own) (part r.1) own ∙ append_assoc (part x) own (part r.1 ++ own)))))

bracket_to : (c : Place × (Expr × (Option (RangeMark × Expr) × Place))) (i o : List Token) → BracketSpelled c i o → SpellsSelect (made_bracket c) i o
bracket_to (p, (x, (None, q))) i o h =
    to_index p x i o (h.0, h.1, (h.2.0, h.2.1, some_mark (codes "]") q h.2.0 o (subst (λ t. mark_at (codes "]") q t o) (sym h.2.2.1) h.2.2.2)))
bracket_to (p, (x, (Some r, q))) i o h =
    to_range p x r.0 r.1 i o (h.0, h.1, (h.2.0, h.2.1, (h.2.2.1.0, range_of r.0 h.2.0 h.2.2.1.0 h.2.2.1.1, (h.2.2.0, h.2.2.1.2, some_mark (codes "]") q h.2.2.0 o h.2.2.2))))

index_from : (p : Place) (x : Expr) (i o : List Token) → SpellsSelect (sel.Index p x) i o
    → (c : Place × (Expr × (Option (RangeMark × Expr) × Place))) × (made_bracket c ≡ sel.Index p x) × BracketSpelled c i o
index_from p x i o h =
    let g = of_index p x i o h in
    let q = placed_mark (codes "]") g.2.0 o g.2.2 in
    ((p, (x, (None, q.0))), refl, (g.0, g.1, (g.2.0, g.2.1, (g.2.0, refl, q.1))))

range_from : (p : Place) (x : Expr) (r : RangeMark) (y : Expr) (i o : List Token) → SpellsSelect (sel.Range p x r y) i o
    → (c : Place × (Expr × (Option (RangeMark × Expr) × Place))) × (made_bracket c ≡ sel.Range p x r y) × BracketSpelled c i o
range_from p x r y i o h =
    let g = of_range p x r y i o h in
    let q = placed_mark (codes "]") g.2.2.2.0 o g.2.2.2.2 in
    ((p, (x, (Some (r, y), q.0))), refl, (g.0, g.1, (g.2.0, g.2.1, (g.2.2.2.0, (g.2.2.0, told_of_range r g.2.0 g.2.2.0 g.2.2.1, g.2.2.2.1), q.1))))

-- ---- readers

range_begins : (c : RangeMark × Expr) (i o : List Token) → RangeEnd c i o → (r : RangeMark) × (told range_test i ≡ Some r)
range_begins c [] o h = absurd (h.1)
range_begins c (a ∷ i) o h = (c.0, h.1.0)

-- what tells the select that a token begins
abbrev Class : SelectOpener → Select → Spelled
Class select_by.Dot x i o = (c : Place × Word) × (sel.Member c.0 c.1 ≡ x) × (mark_at (codes ".") c.0 ⨟ name c.1) i o
Class select_by.Bracket x i o = (c : Place × (Expr × (Option (RangeMark × Expr) × Place))) × (made_bracket c ≡ x) × BracketSpelled c i o

dot_told : (p : Place) (i o : List Token) → mark_at (codes ".") p i o → told select_test i ≡ Some select_by.Dot
unfolding mark_text select_test
dot_told p [] o h = absurd h
dot_told p (a ∷ i) o h = ap select_opener (mark_here a m.Dot h.0.0 h.0.1)

bracket_told : (p : Place) (i o : List Token) → mark_at (codes "[") p i o → told select_test i ≡ Some select_by.Bracket
unfolding mark_text select_test
bracket_told p [] o h = absurd h
bracket_told p (a ∷ i) o h = ap select_opener (mark_here a m.LeftBracket h.0.0 h.0.1)

view : (x : Select) (i o : List Token) → SpellsSelect x i o → (c : SelectOpener) × (told select_test i ≡ Some c) × Class c x i o
view = by_cases_select (λ x. (i o : List Token) → SpellsSelect x i o → (c : SelectOpener) × (told select_test i ≡ Some c) × Class c x i o)
    (λ p w i o h. let g = of_member p w i o h in (select_by.Dot, dot_told p i g.0 g.1, ((p, w), refl, g)))
    (λ p x i o h. let g = index_from p x i o h in (select_by.Bracket, bracket_told g.0.0 i g.2.0 g.2.1, g))
    (λ p x r y i o h. let g = range_from p x r y i o h in (select_by.Bracket, bracket_told g.0.0 i g.2.0 g.2.1, g))

pub select_begins : (x : Select) (i o : List Token) → SpellsSelect x i o → (c : SelectOpener) × (told select_test i ≡ Some c)
select_begins x i o h = let v = view x i o h in (v.0, v.1)

classed : (c : SelectOpener) (x : Select) (i o : List Token) → (told select_test i ≡ Some c) × SpellsSelect x i o → Class c x i o
classed c x i o h = let v = view x i o h.1 in let e : v.0 ≡ c = same v.0 c (sym v.1 ∙ h.0) in subst (λ c. Class c x i o) e v.2
  where
    same : (a b : SelectOpener) → ◌≡◌ {A = Option SelectOpener} (Some a) (Some b) → a ≡ b
    same a b e = cc

pub moved_select : IsMoved SpellsSelect select_part
moved_select = moved_framed SpellsSelect select_part (λ x i o h. framed_as (SpellsSelect x) _ _ i o (sym (length_in (select_depths x))) (frame_select x i o h))

first_in : (x : Select) → BadAt (Bad 1) (select_part x) 0
unfolding in_expr
first_in = by_cases_select (λ x. BadAt (Bad 1) (select_part x) 0)
    (λ p w. rw (nests_member p w) (omega arith))
    (λ p x. rw (nests_index p x) (omega arith))
    (λ p x r y. rw (nests_range p x r y) (omega arith))

pub select_grows : (x : Select) → 0 < length (select_part x)
unfolding in_expr
select_grows = by_cases_select (λ x. 0 < length (select_part x))
    (λ p w. rw (nests_member p w) (omega arith))
    (λ p x. rw (nests_index p x) (omega arith))
    (λ p x r y. rw (nests_range p x r y) (omega arith))

member_nested : (c : Place × Word) → inner c.0 ++ inner c.1 ≡ select_part (sel.Member c.0 c.1)
unfolding in_expr
member_nested c = sym (ap in_expr (nests_member c.0 c.1))

member_reader : (d : ℕ) (expr : ℕ → Parser Expr) → IsReader (Bad (suc d)) d SpellsSelect (λ x i o. (told select_test i ≡ Some select_by.Dot) × SpellsSelect x i o) select_part Any (member d expr)
unfolding member mark_text
member_reader zero expr =
    deep_reader (Bad 1) (λ x i o. (told select_test i ≡ Some select_by.Dot) × SpellsSelect x i o) select_part
    (record { count = λ x i o h. moved_select.count x i o h.1; rest = λ x i o h. moved_select.rest x i o h.1 }) (λ x i o h. first_in x) SpellsSelect Any
member_reader (suc d) expr =
    equal_reader (Bad (suc (suc d))) (λ c. inner c.0 ++ inner c.1) select_part (λ c. sel.Member c.0 c.1) member_nested (suc d)
    (λ c. mark_at (codes ".") c.0 ⨟ name c.1) (λ c. mark_at (codes ".") c.0 ⨟ name c.1) SpellsSelect (λ x i o. (told select_test i ≡ Some select_by.Dot) × SpellsSelect x i o) Any (mark m.Dot ⊗ token id_test)
    (pair_reader (Bad (suc (suc d))) (suc d) (suc d) (suc d) (mark_at (codes ".")) inner Any (mark m.Dot) (λ _. name) inner Any (λ _. token id_test)
    (moved_mark m.Dot) (mark_reader (suc (suc d)) (suc d) m.Dot) (λ _. name_reader (suc (suc d)) (suc d) (deeper outside)) (λ p w t o h stops. tt) (omega arith) (λ p i o h. omega arith))
    (λ c i o h. to_member c.0 c.1 i o h) (λ x i o h. classed select_by.Dot x i o h)

module _ (d : ℕ) (expr : ℕ → Parser Expr) (parts : IsParts d expr) where
  range_end_reader : IsReader (Bad (suc d)) d RangeEnd RangeEnd range_end_nests (Stops 0) (token range_test ⊗ expr 0)
  range_end_reader =
      pair_reader (Bad (suc d)) d d d (Told range_test) inner Any (token range_test) (λ _. Spells 0) part (Stops 0) (λ _. expr 0)
      (moved_told (deeper outside) range_test) (token_reader (Bad (suc d)) d (deeper outside) range_test Any) (λ _. part_reader d expr parts 0 (omega arith)) (λ r x t o h stops. tt) (omega arith) (λ r i o h. omega arith)

  moved_range_end : IsMoved RangeEnd range_end_nests
  moved_range_end = moved_pair (Told range_test) inner (λ _. Spells 0) part (moved_told (deeper outside) range_test) (λ _. moved_part 0)

  -- what follows the first part in brackets
  stops_first : (c : Option (RangeMark × Expr)) (q : Place) (t u o : List Token) → maybe RangeEnd c t u → mark_at (codes "]") q u o → Stops 0 t
  stops_first None q t u o h e = stops_at_bracket q t o (subst (λ t. mark_at (codes "]") q t o) (sym h) e)
  stops_first (Some r) q t u o h e = stops_at_told_range r.0 t h.0 h.1

  bracket_inside : IsReader (Bad (suc d)) (suc d) BracketSpelled BracketSpelled bracket_nests Any (mark m.LeftBracket ⊗ expr 0 ⊗ maybe_read range_test (token range_test ⊗ expr 0) ⊗ mark m.RightBracket)
  unfolding mark_text
  bracket_inside =
      pair_reader (Bad (suc d)) (suc d) d (suc d) (mark_at (codes "[")) inner Any (mark m.LeftBracket)
      (λ _ c. Spells 0 c.0 ⨟ (maybe RangeEnd c.1.0 ⨟ mark_at (codes "]") c.1.1)) (λ c. part c.0 ++ (if_given range_end_nests c.1.0 ++ inner c.1.1)) Any
      (λ _. expr 0 ⊗ maybe_read range_test (token range_test ⊗ expr 0) ⊗ mark m.RightBracket)
      (moved_mark m.LeftBracket) (mark_reader (suc d) (suc d) m.LeftBracket)
      (λ _. pair_reader (Bad (suc d)) d d d (Spells 0) part (Stops 0) (expr 0) (λ _ c. maybe RangeEnd c.0 ⨟ mark_at (codes "]") c.1) (λ c. if_given range_end_nests c.0 ++ inner c.1) Any
      (λ _. maybe_read range_test (token range_test ⊗ expr 0) ⊗ mark m.RightBracket)
      (moved_part 0) (part_reader d expr parts 0 (omega arith))
      (λ _. pair_reader (Bad (suc d)) d d d (maybe RangeEnd) (if_given range_end_nests) (λ o. (told range_test o ≡ None) × Stops 0 o) (maybe_read range_test (token range_test ⊗ expr 0))
      (λ _. mark_at (codes "]")) inner Any (λ _. mark m.RightBracket)
      (moved_maybe (Bad (suc d)) d range_test RangeEnd range_end_nests (Stops 0) (token range_test ⊗ expr 0) range_end_reader range_begins moved_range_end)
      (maybe_reader (Bad (suc d)) d range_test RangeEnd range_end_nests (Stops 0) (token range_test ⊗ expr 0) range_end_reader range_begins)
      (λ _. mark_reader (suc d) d m.RightBracket) (λ c q t o h stops. (no_range_at_bracket q t o h, stops_at_bracket q t o h)) (omega arith) (λ c i o h. omega arith))
      (λ x c t o h stops. stops_first c.0 c.1 t h.0 o h.1 h.2) (omega arith) (λ x i o h. omega arith))
      (λ p c t o h stops. tt) (omega arith) (λ p i o h. omega arith)

  bracket_reader : IsReader (Bad (suc d)) d SpellsSelect (λ x i o. (told select_test i ≡ Some select_by.Bracket) × SpellsSelect x i o) select_part Any (bracket d expr)
  unfolding bracket
  bracket_reader =
      less_reader (Bad (suc d)) (suc d) d SpellsSelect (λ x i o. (told select_test i ≡ Some select_by.Bracket) × SpellsSelect x i o) SpellsSelect (λ x i o. (told select_test i ≡ Some select_by.Bracket) × SpellsSelect x i o) select_part Any Any (bracket d expr)
      (equal_reader (Bad (suc d)) bracket_nests select_part made_bracket bracket_nested (suc d) BracketSpelled BracketSpelled SpellsSelect (λ x i o. (told select_test i ≡ Some select_by.Bracket) × SpellsSelect x i o) Any
      (mark m.LeftBracket ⊗ expr 0 ⊗ maybe_read range_test (token range_test ⊗ expr 0) ⊗ mark m.RightBracket) bracket_inside bracket_to (λ x i o h. classed select_by.Bracket x i o h))
      (omega arith) (λ x i o h. h) (λ x i o h. h) (λ o h. h)

  select_for_reader : (c : SelectOpener) → IsReader (Bad (suc d)) d SpellsSelect (λ x i o. (told select_test i ≡ Some c) × SpellsSelect x i o) select_part Any (select_for d expr c)
  select_for_reader select_by.Dot = member_reader d expr
  select_for_reader select_by.Bracket = bracket_reader

  none_told : (x : Select) (i o : List Token) → (told select_test i ≡ None) × SpellsSelect x i o → ⊥
  none_told x i o h = let v = select_begins x i o h.1 in let e = h.0 in let f = v.1 in cc

  pub select_reader : IsReader (Bad (suc d)) d SpellsSelect SpellsSelect select_part Any (select d expr)
  unfolding select
  select_reader =
      choose_reader (Bad (suc d)) d select_test SpellsSelect SpellsSelect select_part Any (select_for d expr) refuse select_for_reader
      (refuse_reader (Bad (suc d)) d SpellsSelect (λ x i o. (told select_test i ≡ None) × SpellsSelect x i o) select_part Any none_told)

  pub selects_reader : IsReader (Bad (suc d)) d (Chain is_range SpellsSelect) (Chain is_range SpellsSelect) (each_depths select_part) (λ o. (told select_test o ≡ None) × Any o) (selects d expr)
  unfolding selects
  selects_reader = chain_reader (Bad (suc d)) d select_test is_range SpellsSelect select_part Any (select d expr) select_reader moved_select select_begins (λ x i o h. select_grows x) (λ c i e. tt)

  pub moved_selects : IsMoved (Chain is_range SpellsSelect) (each_depths select_part)
  moved_selects = moved_chain (Bad (suc d)) d select_test is_range SpellsSelect select_part Any (select d expr) select_reader moved_select select_begins (λ x i o h. select_grows x) (λ c i e. tt)

pub chain_of : (all : List Select) (i o : List Token) → SpellsChain all i o → Chain is_range SpellsSelect all i o
chain_of [] i o h = h
chain_of (x ∷ []) i o h = h
chain_of (x ∷ y ∷ all) i o h = (h.0, (h.1.0, h.1.1, chain_of (y ∷ all) h.1.0 o h.1.2))

pub of_chain : (all : List Select) (i o : List Token) → Chain is_range SpellsSelect all i o → SpellsChain all i o
of_chain [] i o h = h
of_chain (x ∷ []) i o h = h
of_chain (x ∷ y ∷ all) i o h = (h.0, (h.1.0, h.1.1, of_chain (y ∷ all) h.1.0 o h.1.2))
