-- Expressions are read as they are spelled, at each depth.
use Rattle.std.proofs.Common.{◌≡◌, ℕ, zero, suc, ◌+◌, ◌-◌, ◌<◌, ◌≤◌, List, [], ◌∷◌, ◌++◌, length, take, Ok, Err, ◌⊎◌, inl, inr, refl, sym, ◌∙◌, ap, subst, arith}
use Rattle.std.proofs.lemmas.Bool.{cases_lt}
use Rattle.sv_outside.specs.declared.text.Token.{Token}
use Rattle.sv_tree.specs.declared.exprs.Expr.{Expr}
use Rattle.sv_tree.specs.GrammarExprs.{Spells}
use Rattle.sv_tree.specs.Nesting.{Depths, expr_depths, IsOverAt}
use Rattle.sv_tree.proofs.Framed.{frame}
use Rattle.sv_cursor.specs.declared.error.ParseErr.TheVariants.{Memory, Syntax, TooDeep}
use Rattle.sv_cursor.specs.Parsers.{Outcome, too_deep}
use Rattle.sv_cursor.proofs.Readers.{IsReader, BadAt, Agrees, Placed, Meets, meets_weaker, deep_reader}
use Rattle.sv_expr_reader.specs.Reading.{peak, height, level, expr}
use Rattle.sv_expr_reader.specs.Answers.{IsSpelled, Decides}
use Rattle.sv_expr_reader.proofs.Tokens.{Bad, Stops, moved_expr}
use Rattle.sv_expr_reader.proofs.Parts.{IsParts}
use Rattle.sv_expr_reader.proofs.Bounded.{first_bounded}
use Rattle.sv_expr_reader.proofs.Heights.{short}
use Rattle.sv_expr_reader.proofs.Climbing.{strength}
use Rattle.sv_expr_reader.proofs.Level.{level_reader, level_done}

-- what holds of the reader of expressions at a depth
pub record Reads (d : ℕ) : Type 1 where
  pub parts : IsParts d (expr d)
  pub bounded : (n : ℕ) (i : List Token) → n ≤ 13 → Meets (expr d n i) (λ x j. height x < d)
  pub weak : (n : ℕ) (i : List Token) → n ≤ 13 → Meets (expr d n i) (λ x j. strength j ≤ n)

first_bad : (ns : Depths) → 0 < length ns → BadAt (Bad 0) ns 0
first_bad [] some = absurd (omega arith)
first_bad (n ∷ ns) some = omega arith

none_read : (P : Expr → List Token → Type 0) (i : List Token) → Meets (too_deep i) P
none_read P [] = tt
none_read P (a ∷ i) = tt

pub reads : (d : ℕ) → Reads d
unfolding expr
reads zero = record {
  parts = λ n low. deep_reader (Bad 0) (Spells n) expr_depths (moved_expr n) (λ x i o h. first_bad (expr_depths x) (omega (arith, short x))) (Spells n) (Stops n);
  bounded = λ n i low. none_read (λ x j. height x < 0) i;
  weak = λ n i low. none_read (λ x j. strength j ≤ n) i;
}
reads (suc d) =
    let r = reads d in
    let first = first_bounded d (expr d) r.bounded in
    record {
      parts = level_reader d (expr d) r.parts r.bounded first r.weak;
      bounded = λ n i low. meets_weaker (level d (expr d) n i) _ (λ x j. height x < suc d) (level_done d (expr d) r.parts r.bounded first r.weak n i low) (λ x j h. h.2);
      weak = λ n i low. meets_weaker (level d (expr d) n i) _ (λ x j. strength j ≤ n) (level_done d (expr d) r.parts r.bounded first r.weak n i low) (λ x j h. h.1);
    }

-- Expressions of a level and their reader, for the crates above.
pub expr_reader : (d n : ℕ) → n ≤ 13 → IsReader (Bad d) d (Spells n) (Spells n) expr_depths (Stops n) (expr d n)
expr_reader d n low = (reads d).parts n low

-- ---- what an outcome decides

bad_high : (d : ℕ) (ns : Depths) (k : ℕ) → BadAt (Bad d) ns k → d ≤ peak ns
unfolding peak
bad_high d [] k h = absurd h
bad_high d (n ∷ ns) zero h = omega arith
bad_high d (n ∷ ns) (suc k) h = omega (arith, bad_high d ns k h)

pub bad_over : (ns : Depths) (k : ℕ) → BadAt (Bad 201) ns k → IsOverAt ns k
bad_over [] k h = absurd h
bad_over (n ∷ ns) zero h = (n, refl, inl (omega arith))
bad_over (n ∷ ns) (suc k) h = let g = bad_over ns k h in (g.0, g.1, g.2)

take_front : (u o : List Token) → take (length u) (u ++ []) ≡ take (length u) (u ++ o)
take_front [] o = refl
take_front (a ∷ u) o = ap (λ l. a ∷ l) (take_front u o)

take_all : (u j : List Token) → take (length u) (u ++ j) ≡ u
take_all [] j = refl
take_all (a ∷ u) j = ap (λ l. a ∷ l) (take_all u j)

pub stops_at_end : Stops 0 []
stops_at_end = (refl, refl, omega arith)

module _ (i : List Token) where
  -- what the outcome says of a tree that stands from i on
  agrees_front : (y : Expr) (o : List Token) (h : Spells 0 y i o) → Agrees (Bad 201) expr_depths y (length (expr_depths y)) i (expr 201 0 i)
  agrees_front y o h =
      let f = frame y 0 i o h in
      subst (λ m. Agrees (Bad 201) expr_depths y m i (expr 201 0 i)) f.2
      ((expr_reader 201 0 (omega arith)).agrees y (f.0 ++ []) [] (length f.0) i (f.3 []) stops_at_end (take_front f.0 o ∙ ap (take (length f.0)) (sym f.1)))

  fronts_same : (u v j : List Token) → i ≡ u ++ j → i ≡ v ++ j → length u ≡ length v → u ≡ v
  fronts_same u v j e f same = sym (take_all u j) ∙ (ap (take (length u)) (sym e ∙ f) ∙ (ap (λ n. take n (v ++ j)) same ∙ take_all v j))

  by_outcome : (x y : Expr) (w : List Token) (r : Outcome Expr) → height x < 201 → Meets r (λ z k. Spells 0 z w k) → Placed 201 w r
      → Agrees (Bad 201) expr_depths x (length w + 1) w r → Agrees (Bad 201) expr_depths y (length w + 1) w r → y ≡ x
  by_outcome x y w (Ok p) low read placed hx hy =
      let c = (moved_expr 0).count p.0 w p.1 read in sym (hy (omega arith)) ∙ hx (omega arith)
  by_outcome x y w (Err Memory) low read placed hx hy = absurd placed
  by_outcome x y w (Err (Syntax left)) low read placed hx hy = absurd (omega arith)
  by_outcome x y w (Err (TooDeep k left)) low read placed hx hy = absurd (omega (arith, bad_high 201 (expr_depths x) (length w - k) (hx (omega arith))))

  pub same_front : (x y : Expr) (j : List Token) → Spells 0 x i j → Spells 0 y i j → height x < 201 → y ≡ x
  same_front x y j hx hy low =
      let fx = frame x 0 i j hx in
      let fy = frame y 0 i j hy in
      let e : fx.0 ≡ fy.0 = fronts_same fx.0 fy.0 j fx.1 fy.1 (omega (arith, fx.2, fy.2, (moved_expr 0).count x i j hx, (moved_expr 0).count y i j hy)) in
      let r = expr_reader 201 0 (omega arith) in
      let w = fx.0 ++ [] in
      by_outcome x y w (expr 201 0 w) low (r.sound w) (r.placed w)
      (r.agrees x w [] (length w + 1) w (fx.3 []) stops_at_end refl)
      (r.agrees y w [] (length w + 1) w (subst (λ u. Spells 0 y (u ++ []) []) (sym e) (fy.3 [])) stops_at_end refl)

  by_read : (r : Outcome Expr) → Meets r (λ x j. Spells 0 x i j) → Meets r (λ x j. height x < 201) → Placed 201 i r
      → ((y : Expr) (o : List Token) → Spells 0 y i o → Agrees (Bad 201) expr_depths y (length (expr_depths y)) i r)
      → ((y : Expr) (spelling : List Token) (m : ℕ) → IsSpelled y spelling → take m spelling ≡ take m i → Agrees (Bad 201) expr_depths y m i r)
      → Decides i r
  by_read (Ok p) read low placed front whole = (read, (λ y h. same_front p.0 y p.1 read h low), λ y o h. longest y o h (cases_lt (length o) (length p.1)))
    where
      longest : (y : Expr) (o : List Token) → Spells 0 y i o → (length o < length p.1) ⊎ (length p.1 ≤ length o) → length p.1 ≤ length o
      longest y o h (inl shorter) =
          let a = (moved_expr 0).count p.0 i p.1 read in
          let b = (moved_expr 0).count y i o h in
          let e : p.0 ≡ y = front y o h (omega arith) in
          omega (arith, ap (λ x. length (expr_depths x)) e)
      longest y o h (inr le) = le
  by_read (Err Memory) read low placed front whole = placed
  by_read (Err (Syntax left)) read low placed front whole = (placed, λ y o h. let a = (moved_expr 0).count y i o h in let b = front y o h in omega arith)
  by_read (Err (TooDeep k left)) read low placed front whole = (
    length i - left,
    omega (arith, placed.1),
    omega (arith, placed.0),
    omega (arith, placed.0, placed.3),
    λ y spelling h same. bad_over (expr_depths y) (length i - k) (whole y spelling (length i - left + 1) h same (omega (arith, placed.0))),
  )

  -- Reading from a cursor decides.
  pub decides : Decides i (expr 201 0 i)
  decides =
      let r = expr_reader 201 0 (omega arith) in
      by_read (expr 201 0 i) (r.sound i) ((reads 201).bounded 0 i (omega arith)) (r.placed i) agrees_front
      (λ y spelling m h same. r.agrees y spelling [] m i h stops_at_end same)
