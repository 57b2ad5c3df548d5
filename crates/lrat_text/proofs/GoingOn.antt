-- How lines that were read so far can go on.
use Rattle.std.proofs.Common.{◌≡◌, ℕ, zero, suc, ◌<◌, true, false, cond, eqb, List, [], ◌∷◌, ◌++◌, length, codes, Ok, refl, sym, ap, ◌∙◌, append_assoc, arith}
use Rattle.std.proofs.lemmas.List.{append-nil}
use Rattle.std.proofs.lemmas.List.Concat.{flat_map-append}
use Rattle.cnf.specs.declared.Dim.{Dim}
use Rattle.cnf.specs.Formula.{formula_of}
use Rattle.refute_check.specs.Entry.{Entry}
use Rattle.lrat_text.specs.declared.token.Token.{Token}
use Rattle.lrat_text.specs.declared.stage.Stage.{Stage}
use Rattle.lrat_text.specs.declared.stage.Stage.TheVariants.{Begin, Named, Vars, Count, Clauses}
use Rattle.lrat_text.specs.Texts.{Row, row, value_after, size_of, number_of, meaning_of, is_blank, words_from, words_of, is_comment, token_at}
use Rattle.lrat_text.specs.Reading.{led, State, begin, push, push_all, is_done, known}
use Rattle.lrat_text.specs.Certs.{plain, clause_tokens, AreSteps, StandFor}
use Rattle.lrat_text.specs.Causes.{CanGoOn}
use Rattle.lrat_text.proofs.Pushing.{among, push_end}
use Rattle.lrat_text.proofs.Fronts.{Heads, push_append}
use Rattle.lrat_text.proofs.Whole.{clauses_said}

-- lines behind which the last clause is read
record Ending (s : State) : Type 0 where
  head : List Row
  last : Row
  to : State
  counts : is_comment last ≡ false
  some : 0 < length (words_of last)
  read : push_all s (clause_tokens head ++ words_of last) ≡ Ok to
  done : is_done to ≡ true

-- ---- the line `0`

zero_row : Row
zero_row = row 0 (codes "0")

zero_word : Token
zero_word = token_at 0 1 (codes "0")

zero_words : words_of zero_row ≡ zero_word ∷ []
unfolding zero_row zero_word words_from is_blank
zero_words = refl

zero_says : zero_word.meaning ≡ plain 0
unfolding zero_word meaning_of number_of size_of value_after
zero_says = refl

zero_counts : is_comment zero_row ≡ false
unfolding zero_row is_comment
zero_counts = refl

push_zero : (vars left : ℕ) (clauses : List (List Dim)) (clause : List Dim) (more : List Token) → push_all (among vars (suc left) clauses clause) (words_of zero_row ++ more) ≡ push_all (among vars left (clauses ++ clause ∷ []) []) more
unfolding push_all
push_zero vars left clauses clause more =
    ap (λ ws. push_all (among vars (suc left) clauses clause) (ws ++ more)) zero_words
    ∙ ap (λ o. led o (λ s. push_all s more)) (push_end vars left clauses clause zero_word zero_says)

tokens_zero : (head : List Row) → clause_tokens (zero_row ∷ head) ≡ words_of zero_row ++ clause_tokens head
tokens_zero head = ap (λ b. cond b [] (words_of zero_row) ++ clause_tokens head) zero_counts

-- as many as clauses are left
zeros : (vars left : ℕ) (clauses : List (List Dim)) (clause : List Dim) → Ending (among vars (suc left) clauses clause)
unfolding among push_all
zeros vars zero clauses clause = record {
  head = [];
  last = zero_row;
  to = among vars 0 (clauses ++ clause ∷ []) [];
  counts = zero_counts;
  some = let e = ap (λ (ws : List Token). length ws) zero_words in omega arith;
  read = ap (push_all (among vars 1 clauses clause)) (sym (append-nil (words_of zero_row))) ∙ push_zero vars 0 clauses clause [];
  done = refl;
}
zeros vars (suc left) clauses clause =
    let more = zeros vars left (clauses ++ clause ∷ []) [] in
    record {
      head = zero_row ∷ more.head;
      last = more.last;
      to = more.to;
      counts = more.counts;
      some = more.some;
      read = ap (λ l. push_all (among vars (suc (suc left)) clauses clause) (l ++ words_of more.last)) (tokens_zero more.head)
          ∙ ap (push_all (among vars (suc (suc left)) clauses clause)) (append_assoc (words_of zero_row) (clause_tokens more.head) (words_of more.last))
          ∙ push_zero vars (suc left) clauses clause (clause_tokens more.head ++ words_of more.last) ∙ more.read;
      done = more.done;
    }

-- ---- what is left of the line `p cnf V C`

module _ (vars left : ℕ) (clauses : List (List Dim)) (clause : List Dim) where
  state : Stage → State
  state stage = record { stage = stage; vars = vars; left = left; clauses = clauses; clause = clause }

  one_line : (v : ℕ) (s : State) (last : Row) → is_comment last ≡ false → 0 < length (words_of last) → push_all s (words_of last) ≡ Ok (among v 0 clauses clause) → Ending s
  unfolding among
  one_line v s last counts some read = record { head = []; last = last; to = among v 0 clauses clause; counts = counts; some = some; read = read; done = refl }

  begin_ends : Ending (state Begin)
  unfolding state among is_comment words_from is_blank push_all push meaning_of number_of size_of value_after
  begin_ends = one_line 0 (state Begin) (row 0 (codes "p cnf 0 0")) refl (omega arith) refl

  named_ends : Ending (state Named)
  unfolding state among is_comment words_from is_blank push_all push meaning_of number_of size_of value_after
  named_ends = one_line 0 (state Named) (row 0 (codes " cnf 0 0")) refl (omega arith) refl

  vars_ends : Ending (state Vars)
  unfolding state among is_comment words_from is_blank push_all push meaning_of number_of size_of value_after
  vars_ends = one_line 0 (state Vars) (row 0 (codes "0 0")) refl (omega arith) refl

  count_ends : Ending (state Count)
  unfolding state among is_comment words_from is_blank push_all push meaning_of number_of size_of value_after
  count_ends = one_line vars (state Count) (row 0 (codes "0")) refl (omega arith) refl

clauses_end : (vars left : ℕ) (clauses : List (List Dim)) (clause : List Dim) → eqb left 0 ≡ false → Ending (among vars left clauses clause)
clauses_end vars zero clauses clause nay = cc
clauses_end vars (suc left) clauses clause nay = zeros vars left clauses clause

by_stage : (vars left : ℕ) (clauses : List (List Dim)) (clause : List Dim) (stage : Stage) → is_done (record { stage = stage; vars = vars; left = left; clauses = clauses; clause = clause }) ≡ false
    → Ending (record { stage = stage; vars = vars; left = left; clauses = clauses; clause = clause })
unfolding state among
by_stage vars left clauses clause Begin nay = begin_ends vars left clauses clause
by_stage vars left clauses clause Named nay = named_ends vars left clauses clause
by_stage vars left clauses clause Vars nay = vars_ends vars left clauses clause
by_stage vars left clauses clause Count nay = count_ends vars left clauses clause
by_stage vars left clauses clause Clauses nay = clauses_end vars left clauses clause nay

ending : (s : State) → is_done s ≡ false → Ending s
ending s nay = by_stage s.vars s.left s.clauses s.clause s.stage nay

-- ---- lines that go on

ended : (rows : List Row) (s : State) → push_all begin (clause_tokens rows) ≡ Ok s → (e : Ending s) → Heads begin e.to (rows ++ (e.head ++ e.last ∷ [])) []
ended rows s read e = record {
  head = rows ++ e.head;
  last = e.last;
  split = sym (append_assoc rows e.head (e.last ∷ []));
  counts = e.counts;
  some = e.some;
  read = ap (λ l. push_all begin (l ++ words_of e.last)) (flat_map-append (λ (r : Row). cond (is_comment r) [] (words_of r)) rows e.head)
      ∙ ap (push_all begin) (append_assoc (clause_tokens rows) (clause_tokens e.head) (words_of e.last))
      ∙ push_append begin (clause_tokens rows) (clause_tokens e.head ++ words_of e.last)
      ∙ ap (λ o. led o (λ x. push_all x (clause_tokens e.head ++ words_of e.last))) read ∙ e.read;
}

-- where clauses are missing
pub clauses_go_on : (rows : List Row) (s : State) → push_all begin (clause_tokens rows) ≡ Ok s → is_done s ≡ false → CanGoOn rows
clauses_go_on rows s read nay =
    let e = ending s nay in
    let more = e.head ++ e.last ∷ [] in
    let stands : StandFor (rows ++ more) (formula_of e.to.vars e.to.clauses) [] = record { rest = []; front = clauses_said e.to (rows ++ more) [] (ended rows s read e) e.done; steps = refl } in
    (more, formula_of e.to.vars e.to.clauses, [], stands)

again : (rows rest head : List Row) (last : Row) → rows ≡ head ++ last ∷ rest → (rows ++ []) ≡ head ++ last ∷ rest
again rows rest head last e = append-nil rows ∙ e

-- behind the clauses, and lines of steps
pub steps_go_on : (s : State) (rows rest : List Row) (log : List Entry) → Heads begin s rows rest → is_done s ≡ true → AreSteps (known s.vars (length s.clauses) []) rest log → CanGoOn rows
steps_go_on s rows rest log h done steps =
    let heads : Heads begin s (rows ++ []) rest = record { head = h.head; last = h.last; split = again rows rest h.head h.last h.split; counts = h.counts; some = h.some; read = h.read } in
    let stands : StandFor (rows ++ []) (formula_of s.vars s.clauses) log = record { rest = rest; front = clauses_said s (rows ++ []) rest heads done; steps = steps } in
    ([], formula_of s.vars s.clauses, log, stands)
