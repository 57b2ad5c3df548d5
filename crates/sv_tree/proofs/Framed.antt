-- What follows the tokens of a tree is free, and a tree takes one token for each entry of its depths.
use Rattle.std.proofs.Common.{◌≡◌, ℕ, ◌+◌, ◌≤◌, List, [], ◌∷◌, ◌++◌, length, codes, refl, sym, ap, ◌∙◌, subst, append_assoc, length-append, arith}
use Rattle.std.proofs.lemmas.List.{length-map}
use Rattle.sv_outside.specs.declared.refusal.Place.{Place}
use Rattle.sv_outside.specs.declared.text.Kind.TheVariants as k
use Rattle.sv_outside.specs.declared.text.Token.{Token}
use Rattle.sv_outside.specs.Words.{is_id}
use Rattle.sv_tree.specs.declared.word.Word.{Word}
use Rattle.sv_tree.specs.declared.exprs.Expr.{Expr, Literal, Name', Paren', Concat', Repeat', CastLiteral', CastName', CastParen', CastSign', System', Unary', Binary', Choose', Row_of-Expr, end_of-Expr, more_of-Expr, Row_of-Select, end_of-Select, more_of-Select}
use Rattle.sv_tree.specs.declared.exprs.Select.{Select, Member, Index', Range'}
use Rattle.sv_tree.specs.Spelling.{Text, Spelled, token, nothing, ◌⨟◌, when, mark, mark_at, key_at, system_at, literal, name}
use Rattle.sv_tree.specs.GrammarExprs.{Spells, SpellsCommas, SpellsMore, SpellsSelect, SpellsSelects, sign_word, system_word, unary_mark, binary_mark, range_text, binds, left_level, right_level, is_range}
use Rattle.sv_tree.specs.Nesting.{Depths, one, two, three, in_expr, expr_depths, name_depths, exprs_depths, more_depths, select_depths, selects_depths}

-- so many tokens up to `to`, with which P holds whatever follows them
abbrev pub Framed : Spelled → ℕ → List Token → List Token → Type 0
Framed P n from to = (u : List Token) × (from ≡ u ++ to) × (length u ≡ n) × ((t : List Token) → P (u ++ t) t)

pub framed_as : (P : Spelled) (n m : ℕ) (i o : List Token) → n ≡ m → Framed P n i o → Framed P m i o
framed_as P n m i o e h = (h.0, h.1, h.2 ∙ e, h.3)

pub framed_seq : (P Q : Spelled) (n m : ℕ) (i t o : List Token) → Framed P n i t → Framed Q m t o → Framed (P ⨟ Q) (n + m) i o
framed_seq P Q n m i t o p q = (
  p.0 ++ q.0,
  p.1 ∙ (ap (λ v. p.0 ++ v) q.1 ∙ sym (append_assoc p.0 q.0 o)),
  omega (arith, length-append p.0 q.0, p.2, q.2),
  λ u. (q.0 ++ u, subst (λ v. P v (q.0 ++ u)) (sym (append_assoc p.0 q.0 u)) (p.3 (q.0 ++ u)), q.3 u),
)

pub framed_token : (P : Token → Type 0) (i o : List Token) → token P i o → Framed (token P) 1 i o
framed_token P [] o h = absurd h
framed_token P (a ∷ i) o h = (a ∷ [], ap (λ v. a ∷ v) h.1, omega arith, λ t. (h.0, refl))

pub framed_nothing : (i o : List Token) → nothing i o → Framed nothing 0 i o
framed_nothing i o h = ([], h, refl, λ t. refl)

pub framed_when : (C : Type 0) (P : Spelled) (n : ℕ) (i o : List Token) → C → Framed P n i o → Framed (when C P) n i o
framed_when C P n i o c h = (h.0, h.1, h.2, λ t. (c, h.3 t))

pub framed_mark : (text : Text) (i o : List Token) → mark text i o → Framed (mark text) 1 i o
framed_mark text = framed_token (λ a. (a.kind ≡ k.Mark) × (a.text ≡ text))

pub framed_mark_at : (text : Text) (p : Place) (i o : List Token) → mark_at text p i o → Framed (mark_at text p) 1 i o
framed_mark_at text p = framed_token (λ a. (a.kind ≡ k.Mark) × (a.text ≡ text) × (a.place ≡ p))

pub framed_key_at : (text : Text) (p : Place) (i o : List Token) → key_at text p i o → Framed (key_at text p) 1 i o
framed_key_at text p = framed_token (λ a. (a.kind ≡ k.Word) × (a.text ≡ text) × (a.place ≡ p))

pub framed_system_at : (text : Text) (p : Place) (i o : List Token) → system_at text p i o → Framed (system_at text p) 1 i o
framed_system_at text p = framed_token (λ a. (a.kind ≡ k.System) × (a.text ≡ text) × (a.place ≡ p))

pub framed_literal : (w : Word) (i o : List Token) → literal w i o → Framed (literal w) 1 i o
framed_literal w = framed_token (λ a. (a.kind ≡ k.Literal) × (a.text ≡ w.text) × (a.place ≡ w.place))

pub framed_name : (w : Word) (i o : List Token) → name w i o → Framed (name w) 1 i o
framed_name w = framed_token (λ a. (a.kind ≡ k.Word) × (a.text ≡ w.text) × (a.place ≡ w.place) × (is_id w.text ≡ mathlib.Core.Bool.true))

pub length_in : (d : Depths) → length (in_expr d) ≡ length d
unfolding in_expr
length_in d = length-map d _

-- ---- expressions

mutual
  unfolding expr_depths select_depths

  pub frame : (x : Expr) (n : ℕ) (i o : List Token) → Spells n x i o → Framed (Spells n x) (length (expr_depths x)) i o
  frame (Literal w) n i o h = framed_literal w i o h
  frame (Name' w s all) n i o h =
      framed_as (name w ⨟ SpellsSelects all) _ _ i o (length_name all) (framed_seq (name w) (SpellsSelects all) _ _ i h.0 o (framed_name w i h.0 h.1) (frame_selects all h.0 o h.2))
  frame (Paren' p s (more_of-Expr x end_of-Expr)) n i o h =
      framed_as (mark_at (codes "(") p ⨟ Spells 0 x ⨟ mark (codes ")")) _ _ i o (omega (arith, length_in (one ++ expr_depths x ++ one), length-append (one) (expr_depths x), length-append (one ++ expr_depths x) (one)))
      (framed_seq (mark_at (codes "(") p) (Spells 0 x ⨟ mark (codes ")")) _ _ i h.0 o (framed_mark_at (codes "(") p i h.0 h.1) (framed_seq (Spells 0 x) (mark (codes ")")) _ _ h.0 h.2.0 o (frame x 0 h.0 h.2.0 h.2.1) (framed_mark (codes ")") h.2.0 o h.2.2)))
  frame (Concat' p s all) n i o h =
      framed_as (mark_at (codes "{") p ⨟ SpellsCommas all ⨟ mark (codes "}")) _ _ i o (omega (arith, length_in (one ++ exprs_depths all ++ one), length-append (one) (exprs_depths all), length-append (one ++ exprs_depths all) (one)))
      (framed_seq (mark_at (codes "{") p) (SpellsCommas all ⨟ mark (codes "}")) _ _ i h.0 o (framed_mark_at (codes "{") p i h.0 h.1) (framed_seq (SpellsCommas all) (mark (codes "}")) _ _ h.0 h.2.0 o (frame_commas all h.0 h.2.0 h.2.1) (framed_mark (codes "}") h.2.0 o h.2.2)))
  frame (Repeat' p r (more_of-Expr x end_of-Expr) s all) n i o h =
      framed_as (mark_at (codes "{") p ⨟ Spells 0 x ⨟ mark (codes "{") ⨟ SpellsCommas all ⨟ mark (codes "}") ⨟ mark (codes "}")) _ _ i o (omega (arith, length_in (one ++ expr_depths x ++ one ++ exprs_depths all ++ two), length-append (one) (expr_depths x), length-append (one ++ expr_depths x) (one), length-append (one ++ expr_depths x ++ one) (exprs_depths all), length-append (one ++ expr_depths x ++ one ++ exprs_depths all) (two)))
      (framed_seq (mark_at (codes "{") p) (Spells 0 x ⨟ mark (codes "{") ⨟ SpellsCommas all ⨟ mark (codes "}") ⨟ mark (codes "}")) _ _ i h.0 o (framed_mark_at (codes "{") p i h.0 h.1) (framed_seq (Spells 0 x) (mark (codes "{") ⨟ SpellsCommas all ⨟ mark (codes "}") ⨟ mark (codes "}")) _ _ h.0 h.2.0 o (frame x 0 h.0 h.2.0 h.2.1) (framed_seq (mark (codes "{")) (SpellsCommas all ⨟ mark (codes "}") ⨟ mark (codes "}")) _ _ h.2.0 h.2.2.0 o (framed_mark (codes "{") h.2.0 h.2.2.0 h.2.2.1) (framed_seq (SpellsCommas all) (mark (codes "}") ⨟ mark (codes "}")) _ _ h.2.2.0 h.2.2.2.0 o (frame_commas all h.2.2.0 h.2.2.2.0 h.2.2.2.1) (framed_seq (mark (codes "}")) (mark (codes "}")) _ _ h.2.2.2.0 h.2.2.2.2.0 o (framed_mark (codes "}") h.2.2.2.0 h.2.2.2.2.0 h.2.2.2.2.1) (framed_mark (codes "}") h.2.2.2.2.0 o h.2.2.2.2.2))))))
  frame (CastLiteral' w s (more_of-Expr x end_of-Expr)) n i o h =
      framed_as (literal w ⨟ mark (codes "'") ⨟ mark (codes "(") ⨟ Spells 0 x ⨟ mark (codes ")")) _ _ i o (omega (arith, length_in (three ++ expr_depths x ++ one), length-append (three) (expr_depths x), length-append (three ++ expr_depths x) (one)))
      (framed_seq (literal w) (mark (codes "'") ⨟ mark (codes "(") ⨟ Spells 0 x ⨟ mark (codes ")")) _ _ i h.0 o (framed_literal w i h.0 h.1) (framed_seq (mark (codes "'")) (mark (codes "(") ⨟ Spells 0 x ⨟ mark (codes ")")) _ _ h.0 h.2.0 o (framed_mark (codes "'") h.0 h.2.0 h.2.1) (framed_seq (mark (codes "(")) (Spells 0 x ⨟ mark (codes ")")) _ _ h.2.0 h.2.2.0 o (framed_mark (codes "(") h.2.0 h.2.2.0 h.2.2.1) (framed_seq (Spells 0 x) (mark (codes ")")) _ _ h.2.2.0 h.2.2.2.0 o (frame x 0 h.2.2.0 h.2.2.2.0 h.2.2.2.1) (framed_mark (codes ")") h.2.2.2.0 o h.2.2.2.2)))))
  frame (CastName' w s (more_of-Expr x end_of-Expr)) n i o h =
      framed_as (name w ⨟ mark (codes "'") ⨟ mark (codes "(") ⨟ Spells 0 x ⨟ mark (codes ")")) _ _ i o (omega (arith, length_in (three ++ expr_depths x ++ one), length-append (three) (expr_depths x), length-append (three ++ expr_depths x) (one)))
      (framed_seq (name w) (mark (codes "'") ⨟ mark (codes "(") ⨟ Spells 0 x ⨟ mark (codes ")")) _ _ i h.0 o (framed_name w i h.0 h.1) (framed_seq (mark (codes "'")) (mark (codes "(") ⨟ Spells 0 x ⨟ mark (codes ")")) _ _ h.0 h.2.0 o (framed_mark (codes "'") h.0 h.2.0 h.2.1) (framed_seq (mark (codes "(")) (Spells 0 x ⨟ mark (codes ")")) _ _ h.2.0 h.2.2.0 o (framed_mark (codes "(") h.2.0 h.2.2.0 h.2.2.1) (framed_seq (Spells 0 x) (mark (codes ")")) _ _ h.2.2.0 h.2.2.2.0 o (frame x 0 h.2.2.0 h.2.2.2.0 h.2.2.2.1) (framed_mark (codes ")") h.2.2.2.0 o h.2.2.2.2)))))
  frame (CastParen' p r (more_of-Expr y end_of-Expr) s (more_of-Expr x end_of-Expr)) n i o h =
      framed_as (mark_at (codes "(") p ⨟ Spells 0 y ⨟ mark (codes ")") ⨟ mark (codes "'") ⨟ mark (codes "(") ⨟ Spells 0 x ⨟ mark (codes ")")) _ _ i o (omega (arith, length_in (one ++ expr_depths y ++ three ++ expr_depths x ++ one), length-append (one) (expr_depths y), length-append (one ++ expr_depths y) (three), length-append (one ++ expr_depths y ++ three) (expr_depths x), length-append (one ++ expr_depths y ++ three ++ expr_depths x) (one)))
      (framed_seq (mark_at (codes "(") p) (Spells 0 y ⨟ mark (codes ")") ⨟ mark (codes "'") ⨟ mark (codes "(") ⨟ Spells 0 x ⨟ mark (codes ")")) _ _ i h.0 o (framed_mark_at (codes "(") p i h.0 h.1) (framed_seq (Spells 0 y) (mark (codes ")") ⨟ mark (codes "'") ⨟ mark (codes "(") ⨟ Spells 0 x ⨟ mark (codes ")")) _ _ h.0 h.2.0 o (frame y 0 h.0 h.2.0 h.2.1) (framed_seq (mark (codes ")")) (mark (codes "'") ⨟ mark (codes "(") ⨟ Spells 0 x ⨟ mark (codes ")")) _ _ h.2.0 h.2.2.0 o (framed_mark (codes ")") h.2.0 h.2.2.0 h.2.2.1) (framed_seq (mark (codes "'")) (mark (codes "(") ⨟ Spells 0 x ⨟ mark (codes ")")) _ _ h.2.2.0 h.2.2.2.0 o (framed_mark (codes "'") h.2.2.0 h.2.2.2.0 h.2.2.2.1) (framed_seq (mark (codes "(")) (Spells 0 x ⨟ mark (codes ")")) _ _ h.2.2.2.0 h.2.2.2.2.0 o (framed_mark (codes "(") h.2.2.2.0 h.2.2.2.2.0 h.2.2.2.2.1) (framed_seq (Spells 0 x) (mark (codes ")")) _ _ h.2.2.2.2.0 h.2.2.2.2.2.0 o (frame x 0 h.2.2.2.2.0 h.2.2.2.2.2.0 h.2.2.2.2.2.1) (framed_mark (codes ")") h.2.2.2.2.2.0 o h.2.2.2.2.2.2)))))))
  frame (CastSign' g p s (more_of-Expr x end_of-Expr)) n i o h =
      framed_as (key_at (sign_word g) p ⨟ mark (codes "'") ⨟ mark (codes "(") ⨟ Spells 0 x ⨟ mark (codes ")")) _ _ i o (omega (arith, length_in (three ++ expr_depths x ++ one), length-append (three) (expr_depths x), length-append (three ++ expr_depths x) (one)))
      (framed_seq (key_at (sign_word g) p) (mark (codes "'") ⨟ mark (codes "(") ⨟ Spells 0 x ⨟ mark (codes ")")) _ _ i h.0 o (framed_key_at (sign_word g) p i h.0 h.1) (framed_seq (mark (codes "'")) (mark (codes "(") ⨟ Spells 0 x ⨟ mark (codes ")")) _ _ h.0 h.2.0 o (framed_mark (codes "'") h.0 h.2.0 h.2.1) (framed_seq (mark (codes "(")) (Spells 0 x ⨟ mark (codes ")")) _ _ h.2.0 h.2.2.0 o (framed_mark (codes "(") h.2.0 h.2.2.0 h.2.2.1) (framed_seq (Spells 0 x) (mark (codes ")")) _ _ h.2.2.0 h.2.2.2.0 o (frame x 0 h.2.2.0 h.2.2.2.0 h.2.2.2.1) (framed_mark (codes ")") h.2.2.2.0 o h.2.2.2.2)))))
  frame (System' f p s (more_of-Expr x end_of-Expr)) n i o h =
      framed_as (system_at (system_word f) p ⨟ mark (codes "(") ⨟ Spells 0 x ⨟ mark (codes ")")) _ _ i o (omega (arith, length_in (two ++ expr_depths x ++ one), length-append (two) (expr_depths x), length-append (two ++ expr_depths x) (one)))
      (framed_seq (system_at (system_word f) p) (mark (codes "(") ⨟ Spells 0 x ⨟ mark (codes ")")) _ _ i h.0 o (framed_system_at (system_word f) p i h.0 h.1) (framed_seq (mark (codes "(")) (Spells 0 x ⨟ mark (codes ")")) _ _ h.0 h.2.0 o (framed_mark (codes "(") h.0 h.2.0 h.2.1) (framed_seq (Spells 0 x) (mark (codes ")")) _ _ h.2.0 h.2.2.0 o (frame x 0 h.2.0 h.2.2.0 h.2.2.1) (framed_mark (codes ")") h.2.2.0 o h.2.2.2))))
  frame (Unary' op p s (more_of-Expr x end_of-Expr)) n i o h =
      framed_as (mark_at (unary_mark op) p ⨟ Spells 13 x) _ _ i o (omega (arith, length_in (one ++ expr_depths x), length-append (one) (expr_depths x)))
      (framed_seq (mark_at (unary_mark op) p) (Spells 13 x) _ _ i h.0 o (framed_mark_at (unary_mark op) p i h.0 h.1) (frame x 13 h.0 o h.2))
  frame (Binary' s (more_of-Expr x end_of-Expr) op p r (more_of-Expr y end_of-Expr)) n i o h =
      framed_when (n ≤ binds op) (Spells (left_level op) x ⨟ mark_at (binary_mark op) p ⨟ Spells (right_level op) y) _ i o h.0 (framed_as (Spells (left_level op) x ⨟ mark_at (binary_mark op) p ⨟ Spells (right_level op) y) _ _ i o (omega (arith, length_in (expr_depths x ++ one ++ expr_depths y), length-append (expr_depths x) (one), length-append (expr_depths x ++ one) (expr_depths y)))
      (framed_seq (Spells (left_level op) x) (mark_at (binary_mark op) p ⨟ Spells (right_level op) y) _ _ i h.1.0 o (frame x (left_level op) i h.1.0 h.1.1) (framed_seq (mark_at (binary_mark op) p) (Spells (right_level op) y) _ _ h.1.0 h.1.2.0 o (framed_mark_at (binary_mark op) p h.1.0 h.1.2.0 h.1.2.1) (frame y (right_level op) h.1.2.0 o h.1.2.2))))
  frame (Choose' s (more_of-Expr x end_of-Expr) r (more_of-Expr y end_of-Expr) q (more_of-Expr z end_of-Expr)) n i o h =
      framed_when (n ≤ 1) (Spells 2 x ⨟ mark (codes "?") ⨟ Spells 0 y ⨟ mark (codes ":") ⨟ Spells 1 z) _ i o h.0 (framed_as (Spells 2 x ⨟ mark (codes "?") ⨟ Spells 0 y ⨟ mark (codes ":") ⨟ Spells 1 z) _ _ i o (omega (arith, length_in (expr_depths x ++ one ++ expr_depths y ++ one ++ expr_depths z), length-append (expr_depths x) (one), length-append (expr_depths x ++ one) (expr_depths y), length-append (expr_depths x ++ one ++ expr_depths y) (one), length-append (expr_depths x ++ one ++ expr_depths y ++ one) (expr_depths z)))
      (framed_seq (Spells 2 x) (mark (codes "?") ⨟ Spells 0 y ⨟ mark (codes ":") ⨟ Spells 1 z) _ _ i h.1.0 o (frame x 2 i h.1.0 h.1.1) (framed_seq (mark (codes "?")) (Spells 0 y ⨟ mark (codes ":") ⨟ Spells 1 z) _ _ h.1.0 h.1.2.0 o (framed_mark (codes "?") h.1.0 h.1.2.0 h.1.2.1) (framed_seq (Spells 0 y) (mark (codes ":") ⨟ Spells 1 z) _ _ h.1.2.0 h.1.2.2.0 o (frame y 0 h.1.2.0 h.1.2.2.0 h.1.2.2.1) (framed_seq (mark (codes ":")) (Spells 1 z) _ _ h.1.2.2.0 h.1.2.2.2.0 o (framed_mark (codes ":") h.1.2.2.0 h.1.2.2.2.0 h.1.2.2.2.1) (frame z 1 h.1.2.2.2.0 o h.1.2.2.2.2))))))

  pub length_name : {m : _} (all : Row_of-Select m) → 1 + length (selects_depths all) ≡ length (name_depths all)
  length_name end_of-Select = omega arith
  length_name (more_of-Select x all) = omega (arith, length_in (one ++ select_depths x ++ selects_depths all), length-append (one ++ select_depths x) (selects_depths all), length-append one (select_depths x), length-append (select_depths x) (selects_depths all))

  pub frame_commas : {m : _} (all : Row_of-Expr m) (i o : List Token) → SpellsCommas all i o → Framed (SpellsCommas all) (length (exprs_depths all)) i o
  frame_commas end_of-Expr i o h = absurd h
  frame_commas (more_of-Expr x all) i o h =
      framed_as (Spells 0 x ⨟ SpellsMore all) _ _ i o (omega (arith, length-append (expr_depths x) (more_depths all)))
      (framed_seq (Spells 0 x) (SpellsMore all) _ _ i h.0 o (frame x 0 i h.0 h.1) (frame_more all h.0 o h.2))

  pub frame_more : {m : _} (all : Row_of-Expr m) (i o : List Token) → SpellsMore all i o → Framed (SpellsMore all) (length (more_depths all)) i o
  frame_more end_of-Expr i o h = framed_nothing i o h
  frame_more (more_of-Expr x all) i o h =
      framed_as (mark (codes ",") ⨟ Spells 0 x ⨟ SpellsMore all) _ _ i o (omega (arith, length-append (one ++ expr_depths x) (more_depths all), length-append one (expr_depths x)))
      (framed_seq (mark (codes ",")) (Spells 0 x ⨟ SpellsMore all) _ _ i h.0 o (framed_mark (codes ",") i h.0 h.1)
      (framed_seq (Spells 0 x) (SpellsMore all) _ _ h.0 h.2.0 o (frame x 0 h.0 h.2.0 h.2.1) (frame_more all h.2.0 o h.2.2)))

  pub frame_select : (x : Select) (i o : List Token) → SpellsSelect x i o → Framed (SpellsSelect x) (length (select_depths x)) i o
  frame_select (Member p w) i o h =
      framed_as (mark_at (codes ".") p ⨟ name w) _ _ i o (omega (arith, length-append (one) (one)))
      (framed_seq (mark_at (codes ".") p) (name w) _ _ i h.0 o (framed_mark_at (codes ".") p i h.0 h.1) (framed_name w h.0 o h.2))
  frame_select (Index' p s (more_of-Expr x end_of-Expr)) i o h =
      framed_as (mark_at (codes "[") p ⨟ Spells 0 x ⨟ mark (codes "]")) _ _ i o (omega (arith, length-append (one) (expr_depths x), length-append (one ++ expr_depths x) (one)))
      (framed_seq (mark_at (codes "[") p) (Spells 0 x ⨟ mark (codes "]")) _ _ i h.0 o (framed_mark_at (codes "[") p i h.0 h.1) (framed_seq (Spells 0 x) (mark (codes "]")) _ _ h.0 h.2.0 o (frame x 0 h.0 h.2.0 h.2.1) (framed_mark (codes "]") h.2.0 o h.2.2)))
  frame_select (Range' p s (more_of-Expr x end_of-Expr) m r (more_of-Expr y end_of-Expr)) i o h =
      framed_as (mark_at (codes "[") p ⨟ Spells 0 x ⨟ mark (range_text m) ⨟ Spells 0 y ⨟ mark (codes "]")) _ _ i o (omega (arith, length-append (one) (expr_depths x), length-append (one ++ expr_depths x) (one), length-append (one ++ expr_depths x ++ one) (expr_depths y), length-append (one ++ expr_depths x ++ one ++ expr_depths y) (one)))
      (framed_seq (mark_at (codes "[") p) (Spells 0 x ⨟ mark (range_text m) ⨟ Spells 0 y ⨟ mark (codes "]")) _ _ i h.0 o (framed_mark_at (codes "[") p i h.0 h.1) (framed_seq (Spells 0 x) (mark (range_text m) ⨟ Spells 0 y ⨟ mark (codes "]")) _ _ h.0 h.2.0 o (frame x 0 h.0 h.2.0 h.2.1) (framed_seq (mark (range_text m)) (Spells 0 y ⨟ mark (codes "]")) _ _ h.2.0 h.2.2.0 o (framed_mark (range_text m) h.2.0 h.2.2.0 h.2.2.1) (framed_seq (Spells 0 y) (mark (codes "]")) _ _ h.2.2.0 h.2.2.2.0 o (frame y 0 h.2.2.0 h.2.2.2.0 h.2.2.2.1) (framed_mark (codes "]") h.2.2.2.0 o h.2.2.2.2)))))

  pub frame_selects : {m : _} (all : Row_of-Select m) (i o : List Token) → SpellsSelects all i o → Framed (SpellsSelects all) (length (selects_depths all)) i o
  frame_selects end_of-Select i o h = framed_nothing i o h
  frame_selects (more_of-Select x end_of-Select) i o h = framed_as (SpellsSelect x) _ _ i o (omega (arith, length-append (select_depths x) [])) (frame_select x i o h)
  frame_selects (more_of-Select x (more_of-Select y all)) i o h =
      framed_when (is_range x ≡ mathlib.Core.Bool.false) (SpellsSelect x ⨟ SpellsSelects (more_of-Select y all)) _ i o h.0
      (framed_as (SpellsSelect x ⨟ SpellsSelects (more_of-Select y all)) _ _ i o (omega (arith, length-append (select_depths x) (selects_depths (more_of-Select y all))))
      (framed_seq (SpellsSelect x) (SpellsSelects (more_of-Select y all)) _ _ i h.1.0 o (frame_select x i h.1.0 h.1.1) (frame_selects (more_of-Select y all) h.1.0 o h.1.2)))
