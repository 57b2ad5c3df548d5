-- Each place that a tree keeps is that of a token: expressions, types, parameters and ports. A lemma for each production follows the chain of
-- its grammar: what holds of the place of each token that stands from its beginning on holds of each place that the tree keeps, and of
-- the tokens behind it.
use Rattle.std.proofs.Common.{◌≡◌, ℕ, List, [], ◌∷◌, Option, Some, None, codes, subst}
use Rattle.std.proofs.lemmas.List.Elements.{All-head, All-tail}
use Rattle.std.specs.Prelude.{IfSome, All}
use mathlib.Core.Former.{Count}
use Rattle.sv_outside.specs.Words.{is_id}
use Rattle.sv_outside.specs.declared.refusal.Place.{Place}
use Rattle.sv_outside.specs.declared.text.Kind.TheVariants as k
use Rattle.sv_outside.specs.declared.text.Token.{Token}
use Rattle.sv_tree.specs.declared.word.Word.{Word}
use Rattle.sv_tree.specs.declared.exprs.Expr.{Expr, Literal, Name', Paren', Concat', Repeat', CastLiteral', CastName', CastParen', CastSign', System', Unary', Binary', Choose', Row_of-Expr, end_of-Expr, more_of-Expr, Row_of-Select, end_of-Select, more_of-Select}
use Rattle.sv_tree.specs.declared.exprs.Select.{Select, Member, Index', Range'}
use Rattle.sv_tree.specs.Spelling.{Text, Spelled, Begins, token, mark, mark_at, key, key_at, system_at, literal, name, maybe, each, after_commas, commas, label, label_of}
use Rattle.sv_tree.specs.GrammarExprs.{Spells, SpellsCommas, SpellsMore, SpellsSelect, SpellsSelects, sign_word, system_word, unary_mark, binary_mark, range_text, left_level, right_level}
use Rattle.sv_places.specs.Within.{Each, InWord, InExpr, InExprs, InSelect, InSelects}

-- P of the place of each token
abbrev pub Has : (Place → Type 0) → List Token → Type 0
Has P i = Each (λ a. P a.place) i

-- so of what a tree keeps, and of the tokens behind it
abbrev pub Gives : (Place → Type 0) → Spelled → Type 0 → Type 0
Gives P R W = (i o : List Token) → R i o → Has P i → W × Has P o

-- of what keeps no place
abbrev pub Passes : (Place → Type 0) → Spelled → Type 0
Passes P R = (i o : List Token) → R i o → Has P i → Has P o

module _ (P : Place → Type 0) where
  pub has_from_all : (i : List Token) → All (λ a. P a.place) i → Has P i
  has_from_all [] h = tt
  has_from_all (a ∷ i) h = (All-head (λ b. P b.place) a i h, has_from_all i (All-tail (λ b. P b.place) a i h))

  -- ---- single tokens

  past : (C : Token → Type 0) → Passes P (token C)
  past C [] o h k = absurd h
  past C (a ∷ i) o h k = subst (Has P) h.1 k.1

  pub past_mark : (text : Text) → Passes P (mark text)
  past_mark text = past (λ a. (a.kind ≡ k.Mark) × (a.text ≡ text))

  pub past_key : (text : Text) → Passes P (key text)
  past_key text = past (λ a. (a.kind ≡ k.Word) × (a.text ≡ text))

  kept : (C : Token → Type 0) (p : Place) → ((a : Token) → C a → a.place ≡ p) → Gives P (token C) (P p)
  kept C p f [] o h k = absurd h
  kept C p f (a ∷ i) o h k = (subst P (f a h.0) k.0, subst (Has P) h.1 k.1)

  pub mark_in : (text : Text) (p : Place) → Gives P (mark_at text p) (P p)
  mark_in text p = kept (λ a. (a.kind ≡ k.Mark) × (a.text ≡ text) × (a.place ≡ p)) p (λ a h. h.2)

  pub key_in : (text : Text) (p : Place) → Gives P (key_at text p) (P p)
  key_in text p = kept (λ a. (a.kind ≡ k.Word) × (a.text ≡ text) × (a.place ≡ p)) p (λ a h. h.2)

  pub system_in : (text : Text) (p : Place) → Gives P (system_at text p) (P p)
  system_in text p = kept (λ a. (a.kind ≡ k.System) × (a.text ≡ text) × (a.place ≡ p)) p (λ a h. h.2)

  pub literal_in : (w : Word) → Gives P (literal w) (InWord P w)
  literal_in w = kept (λ a. (a.kind ≡ k.Literal) × (a.text ≡ w.text) × (a.place ≡ w.place)) w.place (λ a h. h.2)

  pub name_in : (w : Word) → Gives P (name w) (InWord P w)
  name_in w = kept (λ a. (a.kind ≡ k.Word) × (a.text ≡ w.text) × (a.place ≡ w.place) × (is_id w.text ≡ mathlib.Core.Bool.true)) w.place (λ a h. h.2)

  pub first_in : (p : Place) (i : List Token) → Begins (λ a t. a.place ≡ p) i → Has P i → P p
  first_in p [] h k = absurd h
  first_in p (a ∷ i) h k = subst P h k.0

  -- ---- lists

  pub maybe_in : {A : Type 0} (R : A → Spelled) (W : A → Type 0) → ((x : A) → Gives P (R x) (W x)) → (m : Option A) → Gives P (maybe R m) (IfSome m W)
  maybe_in R W f None i o h k = (tt, subst (Has P) h k)
  maybe_in R W f (Some x) i o h k = f x i o h k

  pub past_maybe : {A : Type 0} (R : A → Spelled) → ((x : A) → Passes P (R x)) → (m : Option A) → Passes P (maybe R m)
  past_maybe R f None i o h k = subst (Has P) h k
  past_maybe R f (Some x) i o h k = f x i o h k

  pub each_in : {A : Type 0} (R : A → Spelled) (W : A → Type 0) → ((x : A) → Gives P (R x) (W x)) → (all : List A) → Gives P (each R all) (Each W all)
  each_in R W f [] i o h k = (tt, subst (Has P) h k)
  each_in R W f (x ∷ more) i o h k =
      let one = f x i h.0 h.1 k in
      let rest = each_in R W f more h.0 o h.2 one.1 in
      ((one.0, rest.0), rest.1)

  after_in : {A : Type 0} (R : A → Spelled) (W : A → Type 0) → ((x : A) → Gives P (R x) (W x)) → (all : List A) → Gives P (after_commas R all) (Each W all)
  after_in R W f [] i o h k = (tt, subst (Has P) h k)
  after_in R W f (x ∷ more) i o h k =
      let comma = past_mark (codes ",") i h.0 h.1 k in
      let one = f x h.0 h.2.0 h.2.1 comma in
      let rest = after_in R W f more h.2.0 o h.2.2 one.1 in
      ((one.0, rest.0), rest.1)

  pub commas_in : {A : Type 0} (R : A → Spelled) (W : A → Type 0) → ((x : A) → Gives P (R x) (W x)) → (all : List A) → Gives P (commas R all) (Each W all)
  commas_in R W f [] i o h k = absurd h
  commas_in R W f (x ∷ more) i o h k =
      let one = f x i h.0 h.1 k in
      let rest = after_in R W f more h.0 o h.2 one.1 in
      ((one.0, rest.0), rest.1)

  pub names_in : (all : List Word) → Gives P (commas name all) (Each (InWord P) all)
  names_in = commas_in name (InWord P) name_in

  -- ---- labels

  pub label_in : (n : Word) (e : Option Word) → Gives P (label n e) (IfSome e (InWord P))
  label_in n None i o h k = (tt, subst (Has P) h k)
  label_in n (Some w) i o h k = name_in w h.1.0 o h.1.2 (past_mark (codes ":") i h.1.0 h.1.1 k)

  pub label_of_in : (b e : Option Word) → Gives P (label_of b e) (IfSome e (InWord P))
  label_of_in (Some n) e i o h k = label_in n e i o h k
  label_of_in None None i o h k = (tt, subst (Has P) h k)
  label_of_in None (Some w) i o h k = absurd h

  -- ---- expressions

  mutual
    pub expr_in : (x : Expr) (n : ℕ) → Gives P (Spells n x) (InExpr P x)
    expr_in (Literal w) n i o h k = literal_in w i o h k
    expr_in (Name' w s all) n i o h k =
        let s0 = name_in w i h.0 h.1 k in
        let s1 = selects_in all h.0 o h.2 s0.1 in
        ((s0.0, s1.0), s1.1)
    expr_in (Paren' p s (more_of-Expr x end_of-Expr)) n i o h k =
        let s0 = mark_in (codes "(") p i h.0 h.1 k in
        let s1 = expr_in x 0 h.0 h.2.0 h.2.1 s0.1 in
        let s2 = past_mark (codes ")") h.2.0 o h.2.2 s1.1 in
        ((s0.0, s1.0), s2)
    expr_in (Concat' p s all) n i o h k =
        let s0 = mark_in (codes "{") p i h.0 h.1 k in
        let s1 = exprs_in all h.0 h.2.0 h.2.1 s0.1 in
        let s2 = past_mark (codes "}") h.2.0 o h.2.2 s1.1 in
        ((s0.0, s1.0), s2)
    expr_in (Repeat' p r (more_of-Expr x end_of-Expr) s all) n i o h k =
        let s0 = mark_in (codes "{") p i h.0 h.1 k in
        let s1 = expr_in x 0 h.0 h.2.0 h.2.1 s0.1 in
        let s2 = past_mark (codes "{") h.2.0 h.2.2.0 h.2.2.1 s1.1 in
        let s3 = exprs_in all h.2.2.0 h.2.2.2.0 h.2.2.2.1 s2 in
        let s4 = past_mark (codes "}") h.2.2.2.0 h.2.2.2.2.0 h.2.2.2.2.1 s3.1 in
        let s5 = past_mark (codes "}") h.2.2.2.2.0 o h.2.2.2.2.2 s4 in
        ((s0.0, s1.0, s3.0), s5)
    expr_in (CastLiteral' w s (more_of-Expr x end_of-Expr)) n i o h k =
        let s0 = literal_in w i h.0 h.1 k in
        let s1 = past_mark (codes "'") h.0 h.2.0 h.2.1 s0.1 in
        let s2 = past_mark (codes "(") h.2.0 h.2.2.0 h.2.2.1 s1 in
        let s3 = expr_in x 0 h.2.2.0 h.2.2.2.0 h.2.2.2.1 s2 in
        let s4 = past_mark (codes ")") h.2.2.2.0 o h.2.2.2.2 s3.1 in
        ((s0.0, s3.0), s4)
    expr_in (CastName' w s (more_of-Expr x end_of-Expr)) n i o h k =
        let s0 = name_in w i h.0 h.1 k in
        let s1 = past_mark (codes "'") h.0 h.2.0 h.2.1 s0.1 in
        let s2 = past_mark (codes "(") h.2.0 h.2.2.0 h.2.2.1 s1 in
        let s3 = expr_in x 0 h.2.2.0 h.2.2.2.0 h.2.2.2.1 s2 in
        let s4 = past_mark (codes ")") h.2.2.2.0 o h.2.2.2.2 s3.1 in
        ((s0.0, s3.0), s4)
    expr_in (CastParen' p r (more_of-Expr y end_of-Expr) s (more_of-Expr x end_of-Expr)) n i o h k =
        let s0 = mark_in (codes "(") p i h.0 h.1 k in
        let s1 = expr_in y 0 h.0 h.2.0 h.2.1 s0.1 in
        let s2 = past_mark (codes ")") h.2.0 h.2.2.0 h.2.2.1 s1.1 in
        let s3 = past_mark (codes "'") h.2.2.0 h.2.2.2.0 h.2.2.2.1 s2 in
        let s4 = past_mark (codes "(") h.2.2.2.0 h.2.2.2.2.0 h.2.2.2.2.1 s3 in
        let s5 = expr_in x 0 h.2.2.2.2.0 h.2.2.2.2.2.0 h.2.2.2.2.2.1 s4 in
        let s6 = past_mark (codes ")") h.2.2.2.2.2.0 o h.2.2.2.2.2.2 s5.1 in
        ((s0.0, s1.0, s5.0), s6)
    expr_in (CastSign' g p s (more_of-Expr x end_of-Expr)) n i o h k =
        let s0 = key_in (sign_word g) p i h.0 h.1 k in
        let s1 = past_mark (codes "'") h.0 h.2.0 h.2.1 s0.1 in
        let s2 = past_mark (codes "(") h.2.0 h.2.2.0 h.2.2.1 s1 in
        let s3 = expr_in x 0 h.2.2.0 h.2.2.2.0 h.2.2.2.1 s2 in
        let s4 = past_mark (codes ")") h.2.2.2.0 o h.2.2.2.2 s3.1 in
        ((s0.0, s3.0), s4)
    expr_in (System' f p s (more_of-Expr x end_of-Expr)) n i o h k =
        let s0 = system_in (system_word f) p i h.0 h.1 k in
        let s1 = past_mark (codes "(") h.0 h.2.0 h.2.1 s0.1 in
        let s2 = expr_in x 0 h.2.0 h.2.2.0 h.2.2.1 s1 in
        let s3 = past_mark (codes ")") h.2.2.0 o h.2.2.2 s2.1 in
        ((s0.0, s2.0), s3)
    expr_in (Unary' op p s (more_of-Expr x end_of-Expr)) n i o h k =
        let s0 = mark_in (unary_mark op) p i h.0 h.1 k in
        let s1 = expr_in x 13 h.0 o h.2 s0.1 in
        ((s0.0, s1.0), s1.1)
    expr_in (Binary' s (more_of-Expr x end_of-Expr) op p r (more_of-Expr y end_of-Expr)) n i o h k =
        let s0 = expr_in x (left_level op) i h.1.0 h.1.1 k in
        let s1 = mark_in (binary_mark op) p h.1.0 h.1.2.0 h.1.2.1 s0.1 in
        let s2 = expr_in y (right_level op) h.1.2.0 o h.1.2.2 s1.1 in
        ((s0.0, s1.0, s2.0), s2.1)
    expr_in (Choose' s (more_of-Expr x end_of-Expr) r (more_of-Expr y end_of-Expr) q (more_of-Expr z end_of-Expr)) n i o h k =
        let s0 = expr_in x 2 i h.1.0 h.1.1 k in
        let s1 = past_mark (codes "?") h.1.0 h.1.2.0 h.1.2.1 s0.1 in
        let s2 = expr_in y 0 h.1.2.0 h.1.2.2.0 h.1.2.2.1 s1 in
        let s3 = past_mark (codes ":") h.1.2.2.0 h.1.2.2.2.0 h.1.2.2.2.1 s2.1 in
        let s4 = expr_in z 1 h.1.2.2.2.0 o h.1.2.2.2.2 s3 in
        ((s0.0, s2.0, s4.0), s4.1)

    exprs_in : {m : Count} (all : Row_of-Expr m) → Gives P (SpellsCommas all) (InExprs P all)
    exprs_in end_of-Expr i o h k = absurd h
    exprs_in (more_of-Expr x all) i o h k =
        let s0 = expr_in x 0 i h.0 h.1 k in
        let s1 = more_in all h.0 o h.2 s0.1 in
        ((s0.0, s1.0), s1.1)

    more_in : {m : Count} (all : Row_of-Expr m) → Gives P (SpellsMore all) (InExprs P all)
    more_in end_of-Expr i o h k = (tt, subst (Has P) h k)
    more_in (more_of-Expr x all) i o h k =
        let s0 = past_mark (codes ",") i h.0 h.1 k in
        let s1 = expr_in x 0 h.0 h.2.0 h.2.1 s0 in
        let s2 = more_in all h.2.0 o h.2.2 s1.1 in
        ((s1.0, s2.0), s2.1)

    pub select_in : (x : Select) → Gives P (SpellsSelect x) (InSelect P x)
    select_in (Member p w) i o h k =
        let s0 = mark_in (codes ".") p i h.0 h.1 k in
        let s1 = name_in w h.0 o h.2 s0.1 in
        ((s0.0, s1.0), s1.1)
    select_in (Index' p s (more_of-Expr x end_of-Expr)) i o h k =
        let s0 = mark_in (codes "[") p i h.0 h.1 k in
        let s1 = expr_in x 0 h.0 h.2.0 h.2.1 s0.1 in
        let s2 = past_mark (codes "]") h.2.0 o h.2.2 s1.1 in
        ((s0.0, s1.0), s2)
    select_in (Range' p s (more_of-Expr x end_of-Expr) m r (more_of-Expr y end_of-Expr)) i o h k =
        let s0 = mark_in (codes "[") p i h.0 h.1 k in
        let s1 = expr_in x 0 h.0 h.2.0 h.2.1 s0.1 in
        let s2 = past_mark (range_text m) h.2.0 h.2.2.0 h.2.2.1 s1.1 in
        let s3 = expr_in y 0 h.2.2.0 h.2.2.2.0 h.2.2.2.1 s2 in
        let s4 = past_mark (codes "]") h.2.2.2.0 o h.2.2.2.2 s3.1 in
        ((s0.0, s1.0, s3.0), s4)

    selects_in : {m : Count} (all : Row_of-Select m) → Gives P (SpellsSelects all) (InSelects P all)
    selects_in end_of-Select i o h k = (tt, subst (Has P) h k)
    selects_in (more_of-Select x end_of-Select) i o h k =
        let s0 = select_in x i o h k in
        ((s0.0, tt), s0.1)
    selects_in (more_of-Select x (more_of-Select y all)) i o h k =
        let s0 = select_in x i h.1.0 h.1.1 k in
        let s1 = selects_in (more_of-Select y all) h.1.0 o h.1.2 s0.1 in
        ((s0.0, s1.0), s1.1)
