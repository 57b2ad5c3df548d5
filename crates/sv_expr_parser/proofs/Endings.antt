-- Behind the tokens of an expression nothing is open.
use Rattle.std.proofs.Common.{◌≡◌, ◌==◌, ℕ, ◌+◌, ◌-◌, ◌≤◌, Bool, true, false, if◌then◌else◌, List, [], ◌∷◌, ◌++◌, length, take, get_or, codes, refl, sym, ◌∙◌, ap, arith, ◌<◌, ◌⊎◌, inl, inr}
use Rattle.std.proofs.lemmas.Bool.Decides.{nat_tests}
use Rattle.std.proofs.lemmas.List.{take_more, length-take}
use Rattle.sv_outside.specs.declared.refusal.Place.{Place}
use Rattle.sv_outside.specs.declared.text.Token.{Token}
use Rattle.sv_tree.specs.declared.word.Word.{Word}
use Rattle.sv_tree.specs.declared.exprs.Sign.{Sign}
use Rattle.sv_tree.specs.declared.exprs.Sign.TheVariants as sign
use Rattle.sv_tree.specs.declared.exprs.SystemName.{SystemName}
use Rattle.sv_tree.specs.declared.exprs.UnaryOp.{UnaryOp}
use Rattle.sv_tree.specs.declared.exprs.UnaryOp.TheVariants as op1
use Rattle.sv_tree.specs.declared.exprs.BinaryOp.{BinaryOp}
use Rattle.sv_tree.specs.declared.exprs.BinaryOp.TheVariants as op2
use Rattle.sv_tree.specs.declared.exprs.RangeMark.{RangeMark}
use Rattle.sv_tree.specs.declared.exprs.RangeMark.TheVariants as range_mark
use Rattle.sv_tree.specs.declared.exprs.Expr.{Expr, Literal, Name', Paren', Concat', Repeat', CastLiteral', CastName', CastParen', CastSign', System', Unary', Binary', Choose', Row_of-Expr, end_of-Expr, more_of-Expr, Row_of-Select, end_of-Select, more_of-Select}
use Rattle.sv_tree.specs.declared.exprs.Select.{Select, Member, Index', Range'}
use Rattle.sv_tree.specs.Spelling.{Text, mark, mark_at, key_at, system_at, literal, name}
use Rattle.sv_tree.specs.GrammarExprs.{Spells, SpellsCommas, SpellsMore, SpellsSelect, SpellsSelects, sign_word, system_word, unary_mark, binary_mark, range_text, left_level, right_level}
use Rattle.sv_cursor.specs.declared.sort.Keyword.TheVariants as key
use Rattle.sv_cursor.specs.declared.sort.Mark.{Mark as MarkName}
use Rattle.sv_cursor.specs.declared.sort.Mark.TheVariants as m
use Rattle.sv_cursor.specs.declared.sort.Sort.{Sort}
use Rattle.sv_cursor.specs.declared.sort.Sort.TheVariants as s
use Rattle.sv_cursor.specs.Sorts.{sort, keyword_text, mark_text}
use Rattle.sv_cursor.proofs.Tested.{mark_here, literal_here, id_here, keyword_here, system_here}
use Rattle.sv_expr_parser.specs.declared.ends.Open.{Open}
use Rattle.sv_expr_words.specs.Signs.{unary_name, binary_name}
use Rattle.sv_expr_parser.specs.Ends.{nothing_open, ended, going_on, opened, closed, asked, answered, after_mark, after_sort, after, all_after, may_end, CanEnd}
use Rattle.sv_expr_parser.specs.Parsed.{IsSpelledBy}
use Rattle.sv_expr_reader.proofs.Tokens.{some_mark}
use Rattle.sv_expr_reader.proofs.Climbing.{binary_text}

-- What is open changes so from the first list up to the second.
abbrev pub Changes : (Open → Open) → List Token → List Token → Type 0
Changes f i o = (z : Open) → all_after z i ≡ all_after (f z) o

-- behind an operand it stays
abbrev pub Stays : List Token → List Token → Type 0
Stays i o = (z : Open) → all_after (ended z) i ≡ all_after (ended z) o

-- ---- one token

mark_step : (text : Text) (name : MarkName) → text ≡ mark_text name → (i o : List Token) → mark text i o → Changes (after_mark name) i o
unfolding all_after
mark_step text name e [] o h z = absurd h
mark_step text name e (a ∷ i) o h z = ap (λ x. all_after (after_sort x z) i) (mark_here a name h.0.0 (h.0.1 ∙ e)) ∙ ap (all_after (after_mark name z)) h.1

mark_at_step : (text : Text) (name : MarkName) → text ≡ mark_text name → (p : Place) (i o : List Token) → mark_at text p i o → Changes (after_mark name) i o
mark_at_step text name e p i o h = mark_step text name e i o (some_mark text p i o h)

literal_step : (w : Word) (i o : List Token) → literal w i o → Changes ended i o
unfolding all_after
literal_step w [] o h z = absurd h
literal_step w (a ∷ i) o h z = ap (λ x. all_after (after_sort x z) i) (literal_here a h.0.0) ∙ ap (all_after (ended z)) h.1

name_step : (w : Word) (i o : List Token) → name w i o → Changes ended i o
unfolding all_after
name_step w [] o h z = absurd h
name_step w (a ∷ i) o h z = ap (λ x. all_after (after_sort x z) i) (id_here a h.0.0 (rw (h.0.1) h.0.3)) ∙ ap (all_after (ended z)) h.1

signed_step : (g : Sign) (p : Place) (i o : List Token) → key_at (sign_word g) p i o → Changes going_on i o
unfolding all_after keyword_text
signed_step g p [] o h z = absurd h
signed_step sign.Signed p (a ∷ i) o h z = ap (λ x. all_after (after_sort x z) i) (keyword_here a key.Signed h.0.0 h.0.1) ∙ ap (all_after (going_on z)) h.1
signed_step sign.Unsigned p (a ∷ i) o h z = ap (λ x. all_after (after_sort x z) i) (keyword_here a key.Unsigned h.0.0 h.0.1) ∙ ap (all_after (going_on z)) h.1

system_step : (f : SystemName) (p : Place) (i o : List Token) → system_at (system_word f) p i o → Changes going_on i o
unfolding all_after
system_step f p [] o h z = absurd h
system_step f p (a ∷ i) o h z = ap (λ x. all_after (after_sort x z) i) (system_here a f h.0.0 h.0.1) ∙ ap (all_after (going_on z)) h.1

unary_plain : (op : UnaryOp) (z : Open) → after_mark (unary_name op) z ≡ going_on z
unary_plain op1.Plus z = refl
unary_plain op1.Minus z = refl
unary_plain op1.LogicNot z = refl
unary_plain op1.Not z = refl
unary_plain op1.And z = refl
unary_plain op1.Nand z = refl
unary_plain op1.Or z = refl
unary_plain op1.Nor z = refl
unary_plain op1.Xor z = refl
unary_plain op1.TildeXor z = refl
unary_plain op1.XorTilde z = refl

unary_text : (op : UnaryOp) → unary_mark op ≡ mark_text (unary_name op)
unfolding mark_text
unary_text op1.Plus = refl
unary_text op1.Minus = refl
unary_text op1.LogicNot = refl
unary_text op1.Not = refl
unary_text op1.And = refl
unary_text op1.Nand = refl
unary_text op1.Or = refl
unary_text op1.Nor = refl
unary_text op1.Xor = refl
unary_text op1.TildeXor = refl
unary_text op1.XorTilde = refl

binary_plain : (op : BinaryOp) (z : Open) → after_mark (binary_name op) z ≡ going_on z
binary_plain op2.Power z = refl
binary_plain op2.Mul z = refl
binary_plain op2.Div z = refl
binary_plain op2.Rem z = refl
binary_plain op2.Add z = refl
binary_plain op2.Sub z = refl
binary_plain op2.Shl z = refl
binary_plain op2.Shr z = refl
binary_plain op2.Sal z = refl
binary_plain op2.Sar z = refl
binary_plain op2.Lt z = refl
binary_plain op2.Le z = refl
binary_plain op2.Gt z = refl
binary_plain op2.Ge z = refl
binary_plain op2.Eq z = refl
binary_plain op2.Ne z = refl
binary_plain op2.And z = refl
binary_plain op2.Xor z = refl
binary_plain op2.TildeXor z = refl
binary_plain op2.XorTilde z = refl
binary_plain op2.Or z = refl
binary_plain op2.LogicAnd z = refl
binary_plain op2.LogicOr z = refl
binary_plain op2.Implies z = refl
binary_plain op2.Equivalent z = refl

unary_step : (op : UnaryOp) (p : Place) (i o : List Token) → mark_at (unary_mark op) p i o → Changes going_on i o
unary_step op p i o h z = mark_at_step (unary_mark op) (unary_name op) (unary_text op) p i o h z ∙ ap (λ z. all_after z o) (unary_plain op z)

binary_step : (op : BinaryOp) (p : Place) (i o : List Token) → mark_at (binary_mark op) p i o → Changes going_on i o
binary_step op p i o h z = mark_at_step (binary_mark op) (binary_name op) (binary_text op) p i o h z ∙ ap (λ z. all_after z o) (binary_plain op z)

-- ---- the marks of the grammar

paren : (i o : List Token) → mark (codes "(") i o → Changes opened i o
unfolding mark_text
paren i o h = mark_step (codes "(") m.LeftParen refl i o h

end_paren : (i o : List Token) → mark (codes ")") i o → Changes closed i o
unfolding mark_text
end_paren i o h = mark_step (codes ")") m.RightParen refl i o h

brace : (i o : List Token) → mark (codes "{") i o → Changes opened i o
unfolding mark_text
brace i o h = mark_step (codes "{") m.LeftBrace refl i o h

end_brace : (i o : List Token) → mark (codes "}") i o → Changes closed i o
unfolding mark_text
end_brace i o h = mark_step (codes "}") m.RightBrace refl i o h

end_bracket : (i o : List Token) → mark (codes "]") i o → Changes closed i o
unfolding mark_text
end_bracket i o h = mark_step (codes "]") m.RightBracket refl i o h

tick : (i o : List Token) → mark (codes "'") i o → Changes going_on i o
unfolding mark_text
tick i o h = mark_step (codes "'") m.Tick refl i o h

comma : (i o : List Token) → mark (codes ",") i o → Changes going_on i o
unfolding mark_text
comma i o h = mark_step (codes ",") m.Comma refl i o h

question : (i o : List Token) → mark (codes "?") i o → Changes asked i o
unfolding mark_text
question i o h = mark_step (codes "?") m.Question refl i o h

colon : (i o : List Token) → mark (codes ":") i o → Changes answered i o
unfolding mark_text
colon i o h = mark_step (codes ":") m.Colon refl i o h

paren_at : (p : Place) (i o : List Token) → mark_at (codes "(") p i o → Changes opened i o
unfolding mark_text
paren_at p i o h = mark_at_step (codes "(") m.LeftParen refl p i o h

brace_at : (p : Place) (i o : List Token) → mark_at (codes "{") p i o → Changes opened i o
unfolding mark_text
brace_at p i o h = mark_at_step (codes "{") m.LeftBrace refl p i o h

bracket_at : (p : Place) (i o : List Token) → mark_at (codes "[") p i o → Changes opened i o
unfolding mark_text
bracket_at p i o h = mark_at_step (codes "[") m.LeftBracket refl p i o h

dot_at : (p : Place) (i o : List Token) → mark_at (codes ".") p i o → Changes going_on i o
unfolding mark_text
dot_at p i o h = mark_at_step (codes ".") m.Dot refl p i o h

same_open : (b c q r : ℕ) (e : Bool) → b ≡ c → q ≡ r → ◌≡◌ {A = Open} (record { brackets = b; questions = q; ends = e }) (record { brackets = c; questions = r; ends = e })
same_open b c q r e x y = λ j. record { brackets = x j; questions = y j; ends = e }

-- what brackets hold
around : (z : Open) → closed (ended (opened z)) ≡ ended z
around z = same_open (z.brackets + 1 - 1) z.brackets z.questions z.questions true (omega arith) refl

wrapped : (i t u o : List Token) → Changes opened i t → Changes ended t u → Changes closed u o → Changes ended i o
wrapped i t u o a b c z = a z ∙ (b (opened z) ∙ (c (ended (opened z)) ∙ ap (λ z. all_after z o) (around z)))

-- a range's mark inside its brackets
in_brackets : (b q : ℕ) → (if b + 1 == 0 then q - 1 else q) ≡ q
in_brackets b q = grind (arith, nat_tests)

range_step : (x : RangeMark) (i o : List Token) → mark (range_text x) i o → (z : Open) → all_after (ended (opened z)) i ≡ all_after (going_on (opened z)) o
unfolding mark_text
range_step range_mark.To i o h z =
    mark_step (codes ":") m.Colon refl i o h (ended (opened z))
    ∙ ap (λ z. all_after z o) (same_open (z.brackets + 1) (z.brackets + 1) _ z.questions false refl (in_brackets z.brackets z.questions))
range_step range_mark.Up i o h z = mark_step (codes "+:") m.PlusColon refl i o h (ended (opened z))
range_step range_mark.Down i o h z = mark_step (codes "-:") m.MinusColon refl i o h (ended (opened z))

-- what stands between `?` and `:`
both : (t : Bool) (q : ℕ) → (if t then (if t then q + 1 else q) - 1 else (if t then q + 1 else q)) ≡ q
both true q = omega arith
both false q = refl

between : (z : Open) → answered (ended (asked z)) ≡ going_on z
between z = same_open z.brackets z.brackets _ z.questions false refl (both (z.brackets == 0) z.questions)

chosen : (i t u v w o : List Token) → Changes ended i t → Changes asked t u → Changes ended u v → Changes answered v w → Changes ended w o → Changes ended i o
chosen i t u v w o a q b c d z =
    a z ∙ (q (ended z) ∙ (b (asked (ended z)) ∙ (c (ended (asked (ended z))) ∙ (ap (λ z. all_after z w) (between (ended z)) ∙ d (going_on (ended z))))))

-- a tick, and what is cast
cast : (i t u v o : List Token) → mark (codes "'") i t → mark (codes "(") t u → Changes ended u v → mark (codes ")") v o → (z : Open) → all_after z i ≡ all_after (ended z) o
cast i t u v o a b c d z = tick i t a z ∙ wrapped t u v o (paren t u b) c (end_paren v o d) (going_on z)

-- ---- by cases on trees

mutual
  pub keeps : (x : Expr) (n : ℕ) (i o : List Token) → Spells n x i o → Changes ended i o
  keeps (Literal w) n i o h z = literal_step w i o h z
  keeps (Name' w s all) n i o h z = name_step w i h.0 h.1 z ∙ keeps_selects all h.0 o h.2 z
  keeps (Paren' p s (more_of-Expr x end_of-Expr)) n i o h z =
      wrapped i h.0 h.2.0 o (paren_at p i h.0 h.1) (keeps x 0 h.0 h.2.0 h.2.1) (end_paren h.2.0 o h.2.2) z
  keeps (Concat' p s all) n i o h z = wrapped i h.0 h.2.0 o (brace_at p i h.0 h.1) (keeps_commas all h.0 h.2.0 h.2.1) (end_brace h.2.0 o h.2.2) z
  keeps (Repeat' p r (more_of-Expr x end_of-Expr) s all) n i o h z =
      wrapped i h.0 h.2.2.2.2.0 o (brace_at p i h.0 h.1) (λ z. keeps x 0 h.0 h.2.0 h.2.1 z ∙
      wrapped h.2.0 h.2.2.0 h.2.2.2.0 h.2.2.2.2.0 (brace h.2.0 h.2.2.0 h.2.2.1) (keeps_commas all h.2.2.0 h.2.2.2.0 h.2.2.2.1) (end_brace h.2.2.2.0 h.2.2.2.2.0 h.2.2.2.2.1) (ended z))
      (end_brace h.2.2.2.2.0 o h.2.2.2.2.2) z
  keeps (CastLiteral' w s (more_of-Expr x end_of-Expr)) n i o h z =
      literal_step w i h.0 h.1 z ∙ cast h.0 h.2.0 h.2.2.0 h.2.2.2.0 o h.2.1 h.2.2.1 (keeps x 0 h.2.2.0 h.2.2.2.0 h.2.2.2.1) h.2.2.2.2 (ended z)
  keeps (CastName' w s (more_of-Expr x end_of-Expr)) n i o h z =
      name_step w i h.0 h.1 z ∙ cast h.0 h.2.0 h.2.2.0 h.2.2.2.0 o h.2.1 h.2.2.1 (keeps x 0 h.2.2.0 h.2.2.2.0 h.2.2.2.1) h.2.2.2.2 (ended z)
  keeps (CastParen' p r (more_of-Expr y end_of-Expr) s (more_of-Expr x end_of-Expr)) n i o h z =
      wrapped i h.0 h.2.0 h.2.2.0 (paren_at p i h.0 h.1) (keeps y 0 h.0 h.2.0 h.2.1) (end_paren h.2.0 h.2.2.0 h.2.2.1) z
      ∙ cast h.2.2.0 h.2.2.2.0 h.2.2.2.2.0 h.2.2.2.2.2.0 o h.2.2.2.1 h.2.2.2.2.1 (keeps x 0 h.2.2.2.2.0 h.2.2.2.2.2.0 h.2.2.2.2.2.1) h.2.2.2.2.2.2 (ended z)
  keeps (CastSign' g p s (more_of-Expr x end_of-Expr)) n i o h z =
      signed_step g p i h.0 h.1 z ∙ cast h.0 h.2.0 h.2.2.0 h.2.2.2.0 o h.2.1 h.2.2.1 (keeps x 0 h.2.2.0 h.2.2.2.0 h.2.2.2.1) h.2.2.2.2 (going_on z)
  keeps (System' f p s (more_of-Expr x end_of-Expr)) n i o h z =
      system_step f p i h.0 h.1 z ∙ wrapped h.0 h.2.0 h.2.2.0 o (paren h.0 h.2.0 h.2.1) (keeps x 0 h.2.0 h.2.2.0 h.2.2.1) (end_paren h.2.2.0 o h.2.2.2) (going_on z)
  keeps (Unary' op p s (more_of-Expr x end_of-Expr)) n i o h z = unary_step op p i h.0 h.1 z ∙ keeps x 13 h.0 o h.2 (going_on z)
  keeps (Binary' s (more_of-Expr x end_of-Expr) op p r (more_of-Expr y end_of-Expr)) n i o h z =
      keeps x (left_level op) i h.1.0 h.1.1 z ∙ (binary_step op p h.1.0 h.1.2.0 h.1.2.1 (ended z) ∙ keeps y (right_level op) h.1.2.0 o h.1.2.2 (going_on z))
  keeps (Choose' s (more_of-Expr x end_of-Expr) r (more_of-Expr y end_of-Expr) q (more_of-Expr w end_of-Expr)) n i o h z =
      chosen i h.1.0 h.1.2.0 h.1.2.2.0 h.1.2.2.2.0 o (keeps x 2 i h.1.0 h.1.1) (question h.1.0 h.1.2.0 h.1.2.1) (keeps y 0 h.1.2.0 h.1.2.2.0 h.1.2.2.1)
      (colon h.1.2.2.0 h.1.2.2.2.0 h.1.2.2.2.1) (keeps w 1 h.1.2.2.2.0 o h.1.2.2.2.2) z

  keeps_commas : {m : _} (all : Row_of-Expr m) (i o : List Token) → SpellsCommas all i o → Changes ended i o
  keeps_commas end_of-Expr i o h z = absurd h
  keeps_commas (more_of-Expr x all) i o h z = keeps x 0 i h.0 h.1 z ∙ keeps_more all h.0 o h.2 z

  keeps_more : {m : _} (all : Row_of-Expr m) (i o : List Token) → SpellsMore all i o → Stays i o
  keeps_more end_of-Expr i o h z = ap (all_after (ended z)) h
  keeps_more (more_of-Expr x all) i o h z = comma i h.0 h.1 (ended z) ∙ (keeps x 0 h.0 h.2.0 h.2.1 (going_on z) ∙ keeps_more all h.2.0 o h.2.2 z)

  keeps_select : (x : Select) (i o : List Token) → SpellsSelect x i o → Changes ended i o
  keeps_select (Member p w) i o h z = dot_at p i h.0 h.1 z ∙ name_step w h.0 o h.2 (going_on z)
  keeps_select (Index' p s (more_of-Expr x end_of-Expr)) i o h z =
      wrapped i h.0 h.2.0 o (bracket_at p i h.0 h.1) (keeps x 0 h.0 h.2.0 h.2.1) (end_bracket h.2.0 o h.2.2) z
  keeps_select (Range' p s (more_of-Expr x end_of-Expr) k r (more_of-Expr y end_of-Expr)) i o h z =
      bracket_at p i h.0 h.1 z ∙ (keeps x 0 h.0 h.2.0 h.2.1 (opened z) ∙ (range_step k h.2.0 h.2.2.0 h.2.2.1 z ∙ (keeps y 0 h.2.2.0 h.2.2.2.0 h.2.2.2.1 (going_on (opened z))
      ∙ (end_bracket h.2.2.2.0 o h.2.2.2.2 (ended (opened z)) ∙ ap (λ z. all_after z o) (around z)))))

  keeps_selects : {m : _} (all : Row_of-Select m) (i o : List Token) → SpellsSelects all i o → Stays i o
  keeps_selects end_of-Select i o h z = ap (all_after (ended z)) h
  keeps_selects (more_of-Select x end_of-Select) i o h z = keeps_select x i o h (ended z)
  keeps_selects (more_of-Select x (more_of-Select y all)) i o h z = keeps_select x i h.1.0 h.1.1 (ended z) ∙ keeps_selects (more_of-Select y all) h.1.0 o h.1.2 z

-- An expression ends where it can.
pub can_end : (x : Expr) (i : List Token) (n : ℕ) → IsSpelledBy x i n → CanEnd i n
unfolding all_after
can_end x i n h = keeps x 0 (take n i) [] h nothing_open

-- ---- the code that looks for the last end

all_after_push : (i : List Token) (a : Token) (z : Open) → all_after z (i ++ a ∷ []) ≡ after (all_after z i) a
unfolding all_after
all_after_push [] a z = refl
all_after_push (b ∷ i) a z = all_after_push i a (after z b)

pub ends_next : (t : List Token) (i : ℕ) (a : Token) → i < length t → a ≡ get_or t i a → all_after nothing_open (take (i + 1) t) ≡ after (all_after nothing_open (take i t)) a
ends_next t i a lt is =
    ap (all_after nothing_open) (take_more t i a lt) ∙ (all_after_push (take i t) (get_or t i a) nothing_open ∙ ap (after (all_after nothing_open (take i t))) (sym is))

asked_more : (b : Bool) (q : ℕ) → (if b then q + 1 else q) ≤ q + 1
asked_more true q = omega arith
asked_more false q = omega arith

answered_less : (b : Bool) (q : ℕ) → (if b then q - 1 else q) ≤ q + 1
answered_less true q = omega arith
answered_less false q = omega arith

abbrev OneMore : Open → Open → Type 0
OneMore z y = (y.brackets ≤ z.brackets + 1) × (y.questions ≤ z.questions + 1)

mark_grows : (name : MarkName) (z : Open) → OneMore z (after_mark name z)
mark_grows m.LeftParen z = (omega arith, omega arith)
mark_grows m.LeftBracket z = (omega arith, omega arith)
mark_grows m.LeftBrace z = (omega arith, omega arith)
mark_grows m.RightParen z = (omega arith, omega arith)
mark_grows m.RightBracket z = (omega arith, omega arith)
mark_grows m.RightBrace z = (omega arith, omega arith)
mark_grows m.Question z = (omega arith, asked_more (z.brackets == 0) z.questions)
mark_grows m.Colon z = (omega arith, answered_less (z.brackets == 0) z.questions)
mark_grows _ z = (omega arith, omega arith)

sort_grows : (x : Sort) (z : Open) → OneMore z (after_sort x z)
sort_grows s.Id z = (omega arith, omega arith)
sort_grows s.Literal z = (omega arith, omega arith)
sort_grows (s.Mark name) z = mark_grows name z
sort_grows _ z = (omega arith, omega arith)

grows : (i : List Token) (z : Open) → ((all_after z i).brackets ≤ z.brackets + length i) × ((all_after z i).questions ≤ z.questions + length i)
unfolding all_after
grows [] z = (omega arith, omega arith)
grows (a ∷ i) z = let h = sort_grows (sort a) z in let g = grows i (after z a) in (omega (arith, g.0, h.0), omega (arith, g.1, h.1))

pub few_open : (t : List Token) (i : ℕ) (z : Open) → z ≡ all_after nothing_open (take i t) → (z.brackets ≤ i) × (z.questions ≤ i)
few_open t i z e =
    let g = grows (take i t) nothing_open in
    (omega (arith, ap (λ (z : Open). z.brackets) e, g.0, length-take i t), omega (arith, ap (λ (z : Open). z.questions) e, g.1, length-take i t))

last_or_before : (n m : ℕ) → n ≤ m + 1 → (n ≡ m + 1) ⊎ (n ≤ m)
last_or_before n m le = grind arith

not_last : (t : List Token) (n i last : ℕ) (z : Open) → z ≡ all_after nothing_open (take (i + 1) t) → may_end z ≡ false → CanEnd t n
    → ((n : ℕ) → n ≤ i → CanEnd t n → n ≤ last) → (n ≡ i + 1) ⊎ (n ≤ i) → n ≤ last
not_last t n i last z e never can before (inl same) =
    let y : z ≡ ended nothing_open = e ∙ (ap (λ k. all_after nothing_open (take k t)) (sym same) ∙ can) in
    let yes : may_end z ≡ true = ap may_end y in absurd (cc)
not_last t n i last z e never can before (inr le) = before n le can

pub next_last : (t : List Token) (i last : ℕ) (z : Open) → z ≡ all_after nothing_open (take (i + 1) t) → may_end z ≡ false
    → ((n : ℕ) → n ≤ i → CanEnd t n → n ≤ last) → (n : ℕ) → n ≤ i + 1 → CanEnd t n → n ≤ last
next_last t i last z e never before n le can = not_last t n i last z e never can before (last_or_before n i le)
