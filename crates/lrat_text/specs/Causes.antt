-- Why a text is refused, by what stands before the place of the refusal.
use Rattle.std.specs.Prelude.{◌≡◌, ℕ, ◌^◌, ◌<◌, ◌≤◌, ◌⊎◌, true, false, List, [], ◌∷◌, ◌++◌, length, map}
use Rattle.std.specs.List.{All, flat_map}
use Rattle.sv_outside.specs.declared.refusal.Refusal.{Refusal}
use Rattle.cnf.specs.declared.Dim.{Dim}
use Rattle.cnf.specs.Formula.{Formula}
use Rattle.cnf.specs.Clauses.{AreBelow, AllBelow}
use Rattle.refute_check.specs.Entry.{Entry}
use Rattle.lrat_text.specs.declared.token.Number.{Number}
use Rattle.lrat_text.specs.declared.token.Meaning.{Meaning}
use Rattle.lrat_text.specs.declared.token.Meaning.TheVariants.{Problem, Cnf, Delete, Figure}
use Rattle.lrat_text.specs.declared.token.Token.{Token}
use Rattle.lrat_text.specs.Texts.{Text, Row, rows_of, words_of, is_comment}
use Rattle.lrat_text.specs.Reading.{refusal, syntax_in, Known, known, with_id, last_id}
use Rattle.lrat_text.specs.Certs.{said, plain, figure_of, clause_words, clause_tokens, id_at, reach, IsStep, IsSkipped, AreClauses, StandFor}

-- ---- a number where a literal of a clause stands

-- `p cnf V C`, clauses, and literals of the next one
abbrev pub begun_words : ℕ → ℕ → List (List Dim) → List Dim → List Meaning
begun_words vars count clauses clause = Problem ∷ Cnf ∷ plain vars ∷ plain count ∷ (flat_map clause_words clauses ++ map figure_of clause)

-- At this word a literal of a clause stands, or the 0 behind them: before it stand `p cnf V C`, fewer clauses than C, and literals.
pub record IsInClause (text : Text) (vars : ℕ) (w : Token) : Type 0 where
  pub head : List Row
  pub row : Row
  pub rest : List Row
  pub before : List Token
  pub after : List Token
  pub count : ℕ
  pub clauses : List (List Dim)
  pub clause : List Dim
  pub split : rows_of text ≡ head ++ row ∷ rest
  pub counts : is_comment row ≡ false
  pub words : words_of row ≡ before ++ w ∷ after
  pub are : said (clause_tokens head ++ before) ≡ begun_words vars count clauses clause
  pub left : length clauses < count
  pub fits : vars < 2 ^ 64
  pub clauses_below : AllBelow vars clauses
  pub clause_below : AreBelow vars clause

-- ---- a number in a line of steps

-- Each line is skipped, or is the next step. Behind them this is known.
abbrev pub AreKnown : Known → List Row → Known → Type 0
AreKnown k [] to = k ≡ to
AreKnown k (r ∷ rows) to =
    (IsSkipped (words_of r) × AreKnown k rows to) ⊎ ((id : ℕ) × (e : Entry) × IsStep k (words_of r) id e × AreKnown (with_id k id) rows to)

-- The line stands behind all clauses, and behind lines of steps by which this is known.
pub record IsStepRow (text : Text) (k : Known) (row : Row) : Type 0 where
  pub formula : Formula
  pub done : List Row
  pub rest : List Row
  pub front : AreClauses (rows_of text) formula (done ++ row ∷ rest)
  pub steps : AreKnown (known formula.vars (length formula.clauses) []) done k

-- The word is the first one of a line, and no `d` is behind it.
pub record IsStepId (text : Text) (k : Known) (w : Token) : Type 0 where
  pub row : Row
  pub at : IsStepRow text k row
  pub after : List Token
  pub words : words_of row ≡ w ∷ after
  pub step : (more : List Meaning) → said after ≡ Delete ∷ more → ⊥

-- At this word a literal of a step stands, or the 0 behind them: before it stand an ID that rises, and literals.
pub record IsStepLiteral (text : Text) (k : Known) (w : Token) : Type 0 where
  pub row : Row
  pub at : IsStepRow text k row
  pub before : List Token
  pub after : List Token
  pub id : ℕ
  pub clause : List Dim
  pub words : words_of row ≡ before ++ w ∷ after
  pub are : said before ≡ plain id ∷ map figure_of clause
  pub rises : last_id k < id
  pub below : AreBelow k.vars clause

-- At this word a hint stands, or the 0 behind them: before it stand an ID that rises, literals, a 0, and hints.
pub record IsStepHint (text : Text) (k : Known) (w : Token) : Type 0 where
  pub row : Row
  pub at : IsStepRow text k row
  pub before : List Token
  pub after : List Token
  pub id : ℕ
  pub clause : List Dim
  pub hints : List ℕ
  pub words : words_of row ≡ before ++ w ∷ after
  pub are : said before ≡ plain id ∷ (map figure_of clause ++ plain 0 ∷ map (λ h. plain (id_at k h)) hints)
  pub rises : last_id k < id
  pub below : AreBelow k.vars clause
  pub named : All (λ h. h < reach k) hints

-- ---- causes

-- No clause and no earlier step has this id.
abbrev pub HasNone : Known → ℕ → Type 0
HasNone k id = (h : ℕ) → h < reach k → id_at k h ≡ id → ⊥

-- E43 at a number: a literal over V, in a clause or in a step; an ID that does not rise; or a hint that nothing has
abbrev pub IsIdFault : Text → Token → Number → Type 0
IsIdFault text w n =
    ((vars : ℕ) × IsInClause text vars w × (vars < n.size))
    ⊎ (((k : Known) × IsStepLiteral text k w × (k.vars < n.size))
    ⊎ (((k : Known) × IsStepId text k w × ((n.negated ≡ true) ⊎ (n.size ≤ last_id k)))
    ⊎ ((k : Known) × IsStepHint text k w × (n.negated ≡ false) × (0 < n.size) × HasNone k n.size)))

-- E44 at a number: a hint below 0
abbrev pub IsRatHint : Text → Token → Number → Type 0
IsRatHint text w n = (k : Known) × IsStepHint text k w × (n.negated ≡ true) × (0 < n.size)

-- These lines, and some behind them, stand for clauses and a log.
abbrev pub CanGoOn : List Row → Type 0
CanGoOn rows = (more : List Row) × (f : Formula) × (log : List Entry) × StandFor (rows ++ more) f log

-- the number of the last line, or this one where there is none
abbrev pub last_line : ℕ → List Row → ℕ
last_line line [] = line
last_line line (r ∷ rows) = last_line r.number rows

-- Lines are missing behind the text's last one.
pub record EndsEarly (text : Text) (line : ℕ) : Type 0 where
  pub at : line ≡ last_line 1 (rows_of text)
  pub go_on : CanGoOn (rows_of text)
  pub alone : (f : Formula) (log : List Entry) → StandFor (rows_of text) f log → ⊥

-- The lines before this one can go on, but not with it.
pub record BreaksAt (text : Text) (line : ℕ) : Type 0 where
  pub front : List Row
  pub row : Row
  pub rest : List Row
  pub split : rows_of text ≡ front ++ row ∷ rest
  pub at : line ≡ row.number
  pub go_on : CanGoOn front
  pub stop : CanGoOn (front ++ row ∷ []) → ⊥

-- E42 in column 1 of a line: the text ends too early, or this is the first line with which it can not go on. E43 or E44 at a number.
abbrev pub IsCause : Text → Refusal → Type 0
IsCause text r = ((line : ℕ) × (r ≡ syntax_in line) × (EndsEarly text line ⊎ BreaksAt text line))
    ⊎ ((w : Token) × (n : Number) × (w.meaning ≡ Figure n) × (((r ≡ refusal 43 w.place) × IsIdFault text w n) ⊎ ((r ≡ refusal 44 w.place) × IsRatHint text w n)))
