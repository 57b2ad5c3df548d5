-- Expressions of a level: what is read is spelled so, and where refusals stand.
use Rattle.std.proofs.Common.{◌≡◌, ℕ, zero, suc, ◌+◌, ◌<◌, ◌≤◌, Bool, true, false, nat_lt, nat_le, if◌then◌else◌, List, [], ◌∷◌, length, Option, Some, None, Ok, Err, ◌⊎◌, inl, inr, codes, refl, ap, arith}
use Rattle.std.proofs.lemmas.Bool.Decides.{nat_tests}
use Rattle.std.proofs.lemmas.Bool.{cases_lt}
use Rattle.sv_outside.specs.declared.text.Token.{Token}
use Rattle.sv_tree.specs.declared.exprs.BinaryOp.{BinaryOp}
use Rattle.sv_tree.specs.declared.exprs.Expr.{Expr}
use Rattle.sv_tree.specs.declared.exprs.Expr.TheVariants as e
use Rattle.sv_tree.specs.GrammarExprs.{Spells, binds, left_level, right_level}
use Rattle.sv_tree.specs.Nesting.{expr_depths}
use Rattle.sv_tree.proofs.MadeExprs as made
use Rattle.sv_cursor.specs.declared.sort.Mark.TheVariants as m
use Rattle.sv_cursor.specs.Tests.{mark}
use Rattle.sv_cursor.specs.Parsers.{Outcome, Parser, and_then, told, branch, ◌⊗◌, ◌>>=◌, pure}
use Rattle.sv_cursor.proofs.Readers.{Placed, Meets, then_meets, meets_weaker, placed_later}
use Rattle.sv_expr_words.specs.declared.openers.Joiner.{Joiner}
use Rattle.sv_expr_words.specs.declared.openers.Joiner.TheVariants as join_by
use Rattle.sv_expr_words.specs.Signs.{joiner_test, strength_of, binary_name}
use Rattle.sv_expr_reader.specs.Reading.{height, first_at, too_high, prefix, operated, climb, level}
use Rattle.sv_expr_reader.proofs.Tokens.{Bad, some_mark, moved_expr}
use Rattle.sv_expr_reader.proofs.Parts.{IsParts}
use Rattle.sv_expr_reader.proofs.Primaries.{prefix_reader}
use Rattle.sv_expr_reader.proofs.Climbing.{strength, levels, strength_small, OpSpelled, op_nests, op_reader, op_moved, op_lows, ChooseSpelled, choose_nests, question_reader, question_moved, question_tail, choose_lows, turn, level_agrees}
use Rattle.sv_expr_reader.proofs.Heights.{short}
use Rattle.sv_expr_reader.proofs.Peaks.{bad_inside, first_bad}

-- the level that a token wants of what stands before it
abbrev pub need : Option Joiner → ℕ
need None = 0
need (Some (join_by.Binary op)) = left_level op
need (Some join_by.Choose) = 2

need_low : (q : Option Joiner) → need q ≤ strength_of q
need_low None = omega arith
need_low (Some (join_by.Binary op)) = omega (arith, (levels op).left_most)
need_low (Some join_by.Choose) = omega arith

need_binary : (a op : BinaryOp) → binds a + 1 ≤ right_level op → left_level a ≤ binds op
need_binary a op weak = by_side (levels op).right (cases_lt (binds a) 2)
  where
    by_side : (right_level op ≡ binds op + 1) × (2 ≤ binds op) ⊎ (right_level op ≡ 0) × (binds op ≡ 0) → (binds a < 2) ⊎ (2 ≤ binds a) → left_level a ≤ binds op
    by_side (inl c) (inl low) = omega (arith, c.0, c.1, (levels a).left_most)
    by_side (inl c) (inr high) = omega (arith, c.0, c.1, (levels a).left_same high)
    by_side (inr c) h = absurd (omega (arith, c.0))

need_fits : (op : BinaryOp) (q : Option Joiner) → strength_of q ≤ right_level op → need q ≤ binds op
need_fits op None weak = omega arith
need_fits op (Some (join_by.Binary a)) weak = need_binary a op weak
need_fits op (Some join_by.Choose) weak = by_side (levels op).right
  where
    by_side : (right_level op ≡ binds op + 1) × (2 ≤ binds op) ⊎ (right_level op ≡ 0) × (binds op ≡ 0) → 2 ≤ binds op
    by_side (inl c) = omega (arith, c.1)
    by_side (inr c) = absurd (omega (arith, c.0))

always : {A : Type 0} (r : Outcome A) → Meets r (λ a k. Unit {0})
always (Ok p) = tt
always (Err e) = tt

all_three : {A : Type 0} (P Q R : A → List Token → Type 0) (r : Outcome A) → Meets r P → Meets r Q → Meets r R → Meets r (λ a j. P a j × Q a j × R a j)
all_three P Q R (Ok p) x y z = (x, y, z)
all_three P Q R (Err e) x y z = tt

by_if : (P : Expr → List Token → Type 0) (a b : Bool) (r q u : Parser Expr) (j : List Token) → (a ≡ true → Meets (r j) P) → (a ≡ false → b ≡ true → Meets (q j) P) → (a ≡ false → b ≡ false → Meets (u j) P)
    → Meets ((if a then r else (if b then q else u)) j) P
by_if P true b r q u j f g h = f refl
by_if P false true r q u j f g h = g refl refl
by_if P false false r q u j f g h = h refl refl

module _ (d : ℕ) (expr : ℕ → Parser Expr) (parts : IsParts d expr)
    (bounded : (n : ℕ) (i : List Token) → n ≤ 13 → Meets (expr n i) (λ x j. height x < d))
    (first_bounded : (i : List Token) → Meets (prefix d expr i) (λ x j. height x < suc d))
    (weak : (n : ℕ) (i : List Token) → n ≤ 13 → Meets (expr n i) (λ x j. strength j ≤ n)) where
  -- what may stand before an operator
  abbrev Ready : ℕ → List Token → List Token → Expr → List Token → Type 0
  Ready least from before x j = (l : ℕ) × Spells l x from j × (least ≤ l) × (need (told joiner_test j) ≤ l) × (height x < suc d) × (length j < length before)

  abbrev Done : ℕ → List Token → Expr → List Token → Type 0
  Done least from x j = Spells least x from j × (strength j ≤ least) × (height x < suc d)

  binary_ready : (least l : ℕ) (from i : List Token) (left : Expr) (op : BinaryOp) → Spells l left from i → least < binds op + 1 → left_level op ≤ l → height left < d
      → Meets (operated d expr left (join_by.Binary op) i) (λ x j. Ready least from i x j)
  binary_ready least l from i left op h above fits low =
      then_meets ((mark (binary_name op) ⊗ expr (right_level op)) i) _ (λ c j. OpSpelled d expr parts op c i j × (strength j ≤ right_level op) × ((height (e.Binary left op c.0 c.1) < suc d) × (0 < length (op_nests d expr parts c)))) _
      (all_three (λ c j. OpSpelled d expr parts op c i j) (λ c j. strength j ≤ right_level op) (λ c j. (height (e.Binary left op c.0 c.1) < suc d) × (0 < length (op_nests d expr parts c))) ((mark (binary_name op) ⊗ expr (right_level op)) i) ((op_reader d expr parts op).sound i)
      (then_meets (mark (binary_name op) i) _ (λ p k. Unit {0}) _ (always (mark (binary_name op) i)) (λ p k _. then_meets (expr (right_level op) k) _ (λ y j. strength j ≤ right_level op) _ (weak (right_level op) k (levels op).right_high) (λ y j w. w)))
      (op_lows d expr parts bounded first_bounded left op i low))
      (λ c j g. (
        binds op,
        made.to_binary (binds op) left op c.0 c.1 from j (omega arith, (i, made.looser left (left_level op) l from i fits h, g.0)),
        omega arith,
        need_fits op (told joiner_test j) g.1,
        g.2.0,
        omega (arith, (op_moved d expr parts op).count c i j g.0),
      ))

  choose_ready : (least l : ℕ) (from i : List Token) (left : Expr) → Spells l left from i → least < 2 → 2 ≤ l → height left < d
      → Meets (operated d expr left join_by.Choose i) (λ x j. Ready least from i x j)
  choose_ready least l from i left h above fits low =
      then_meets (question_tail expr i) _ (λ c j. ChooseSpelled d expr parts c i j × (strength j ≤ 1) × ((height (e.Choose left c.1.0 c.1.1.1) < suc d) × (0 < length (choose_nests d expr parts c)))) _
      (all_three (λ c j. ChooseSpelled d expr parts c i j) (λ c j. strength j ≤ 1) (λ c j. (height (e.Choose left c.1.0 c.1.1.1) < suc d) × (0 < length (choose_nests d expr parts c))) (question_tail expr i)
      ((question_reader d expr parts).sound i)
      (then_meets (mark m.Question i) _ (λ p k. Unit {0}) _ (always (mark m.Question i))
      (λ p k _. then_meets ((expr 0 ⊗ mark m.Colon ⊗ expr 1) k) _ (λ v j. strength j ≤ 1) _
      (then_meets (expr 0 k) _ (λ y j. Unit {0}) _ (always (expr 0 k)) (λ y k' _. then_meets ((mark m.Colon ⊗ expr 1) k') _ (λ v j. strength j ≤ 1) _
      (then_meets (mark m.Colon k') _ (λ p k. Unit {0}) _ (always (mark m.Colon k')) (λ q k'' _. then_meets (expr 1 k'') _ (λ z j. strength j ≤ 1) _ (weak 1 k'' (omega arith)) (λ z j w. w)))
      (λ v j w. w)))
      (λ v j w. w)))
      (choose_lows d expr parts bounded first_bounded left i low))
      (λ c j g. (
        1,
        made.to_choose 1 left c.1.0 c.1.1.1 from j
            (omega arith, (i, made.looser left 2 l from i fits h, (g.0.0, some_mark (codes "?") c.0 i g.0.0 g.0.1, (g.0.2.0, g.0.2.1, (g.0.2.2.0, some_mark (codes ":") c.1.1.0 g.0.2.0 g.0.2.2.0 g.0.2.2.1, g.0.2.2.2))))),
        omega arith,
        omega (arith, need_low (told joiner_test j), g.1),
        g.2.0,
        omega (arith, (question_moved d expr parts).count c i j g.0),
      ))

  operated_ready : (least l : ℕ) (from i : List Token) (left : Expr) (k : Joiner) → Spells l left from i → least < strength_of (Some k) → need (Some k) ≤ l → height left < d
      → Meets (operated d expr left k i) (λ x j. Ready least from i x j)
  operated_ready least l from i left (join_by.Binary op) h above fits low = binary_ready least l from i left op h above fits low
  operated_ready least l from i left join_by.Choose h above fits low = choose_ready least l from i left h above fits low

  mutual_turn : (least f l : ℕ) (from i : List Token) (left : Expr) (q : Option Joiner) → least ≤ 13 → told joiner_test i ≡ q → Spells l left from i → least ≤ l → need q ≤ l → height left < suc d
      → ((l : ℕ) (left : Expr) (j : List Token) → length j ≤ f → Spells l left from j → least ≤ l → need (told joiner_test j) ≤ l → height left < suc d → Meets (climb d expr least from f left j) (λ x j. Done least from x j))
      → length i ≤ suc f → Meets (branch q (turn d expr parts least from f left) (pure left) i) (λ x j. Done least from x j)
  mutual_turn least f l from i left None low e h le fits tall more fuel = (made.looser left least l from i le h, omega (arith, ap strength_of e), tall)
  mutual_turn least f l from i left (Some k) low e h le fits tall more fuel =
      by_if (λ x j. Done least from x j) (nat_le (strength_of (Some k)) least) (nat_lt (height left) d) (pure left) (operated d expr left k >>= climb d expr least from f) (λ i. Err (too_high d left from i)) i
      (λ y. (made.looser left least l from i le h, let w : strength_of (Some k) ≤ least = grind (arith, nat_tests, y) in omega (arith, ap strength_of e), tall))
      (λ z y. then_meets (operated d expr left k i) _ (λ x j. Ready least from i x j) _
      (operated_ready least l from i left k h (grind (arith, nat_tests, z)) fits (grind (arith, nat_tests, y)))
      (λ x j g. more g.0 x j (omega (arith, g.5)) g.1 g.2 g.3 g.4))
      (λ z y. tt)

  climb_done : (least f : ℕ) (from : List Token) → least ≤ 13 → (l : ℕ) (left : Expr) (i : List Token) → length i ≤ f → Spells l left from i → least ≤ l → need (told joiner_test i) ≤ l → height left < suc d
      → Meets (climb d expr least from f left i) (λ x j. Done least from x j)
  unfolding climb
  climb_done least zero from low l left [] fuel h le fits tall = (made.looser left least l from [] le h, omega arith, tall)
  climb_done least zero from low l left (a ∷ i) fuel h le fits tall = absurd (omega arith)
  climb_done least (suc f) from low l left i fuel h le fits tall =
      mutual_turn least f l from i left (told joiner_test i) low refl h le fits tall (climb_done least f from low) fuel

  pub level_done : (least : ℕ) (i : List Token) → least ≤ 13 → Meets (level d expr least i) (λ x j. Done least i x j)
  unfolding level
  level_done least i low =
      then_meets (prefix d expr i) _ (λ x j. Spells 13 x i j × (height x < suc d) × Unit {0}) _
      (all_three (λ x j. Spells 13 x i j) (λ x j. height x < suc d) (λ x j. Unit {0}) (prefix d expr i) ((prefix_reader d expr parts).sound i) (first_bounded i) (always (prefix d expr i)))
      (λ x j h. climb_done least (length i) i low 13 x j (omega (arith, (moved_expr 13).count x i j h.0)) h.0 low (omega (arith, need_low (told joiner_test j), strength_small (told joiner_test j))) h.1)

  -- ---- where refusals stand

  joiner_here : (k : Joiner) (i : List Token) → told joiner_test i ≡ Some k → 0 < length i
  joiner_here k [] h = absurd (cc)
  joiner_here k (a ∷ i) h = omega arith

  placed_high : (from i : List Token) (left : Expr) → 0 < length i → length from ≡ length (expr_depths left) + length i → d ≤ height left → Placed {A = Expr} (suc d) from (Err (too_high d left from i))
  placed_high from i left some count tall =
      let k = first_at d (expr_depths left) in
      let low : k < length (expr_depths left) = bad_inside (Bad d) (expr_depths left) k (first_bad d (expr_depths left) tall (omega (arith, short left))) in
      (omega (arith, count, short left), omega (arith, count, low), omega arith, some)

  placed_then : {A : Type 0} (from i : List Token) (before : ℕ) (r : Outcome A) (f : A → Parser Expr) (Q : A → List Token → Type 0) → length from ≡ before + length i
      → Meets r Q → Placed (suc d) i r → ((a : A) (j : List Token) → Q a j → Placed (suc d) from (f a j)) → Placed (suc d) from (and_then r f)
  placed_then from i before (Ok p) f Q count read h more = more p.0 p.1 read
  placed_then from i before (Err e) f Q count read h more = placed_later (suc d) before (suc d) from i e count (omega arith) h

  made_placed : {C : Type 0} (made : C → Expr) (i : List Token) (r : Outcome C) → Placed (suc d) i r → Placed (suc d) i (and_then r (λ c j. Ok (made c, j)))
  made_placed made i (Ok p) h = tt
  made_placed made i (Err e) h = h

  operated_placed : (left : Expr) (k : Joiner) (i : List Token) → Placed (suc d) i (operated d expr left k i)
  operated_placed left (join_by.Binary op) i = made_placed (λ c. e.Binary left op c.0 c.1) i ((mark (binary_name op) ⊗ expr (right_level op)) i) ((op_reader d expr parts op).placed i)
  operated_placed left join_by.Choose i = made_placed (λ c. e.Choose left c.1.0 c.1.1.1) i (question_tail expr i) ((question_reader d expr parts).placed i)

  placed_if : (from : List Token) (a b : Bool) (r q u : Parser Expr) (i : List Token) → Placed (suc d) from (r i) → (a ≡ false → b ≡ true → Placed (suc d) from (q i)) → (b ≡ false → Placed (suc d) from (u i))
      → Placed (suc d) from ((if a then r else (if b then q else u)) i)
  placed_if from true b r q u i x y z = x
  placed_if from false true r q u i x y z = y refl refl
  placed_if from false false r q u i x y z = z refl

  placed_turn : (least f l : ℕ) (from i : List Token) (left : Expr) (q : Option Joiner) → least ≤ 13 → told joiner_test i ≡ q → Spells l left from i → least ≤ l → need q ≤ l
      → ((l : ℕ) (left : Expr) (j : List Token) → Spells l left from j → least ≤ l → need (told joiner_test j) ≤ l → Placed (suc d) from (climb d expr least from f left j))
      → Placed (suc d) from (branch q (turn d expr parts least from f left) (pure left) i)
  placed_turn least f l from i left None low e h le fits more = tt
  placed_turn least f l from i left (Some k) low e h le fits more =
      placed_if from (nat_le (strength_of (Some k)) least) (nat_lt (height left) d) (pure left) (operated d expr left k >>= climb d expr least from f) (λ i. Err (too_high d left from i)) i
      tt
      (λ z y. placed_then from i (length (expr_depths left)) (operated d expr left k i) (climb d expr least from f) (λ x j. Ready least from i x j) ((moved_expr l).count left from i h)
      (operated_ready least l from i left k h (grind (arith, nat_tests, z)) fits (grind (arith, nat_tests, y))) (operated_placed left k i) (λ x j g. more g.0 x j g.1 g.2 g.3))
      (λ y. placed_high from i left (joiner_here k i e) ((moved_expr l).count left from i h) (grind (arith, nat_tests, y)))

  climb_placed : (least f : ℕ) (from : List Token) → least ≤ 13 → (l : ℕ) (left : Expr) (i : List Token) → Spells l left from i → least ≤ l → need (told joiner_test i) ≤ l
      → Placed (suc d) from (climb d expr least from f left i)
  unfolding climb
  climb_placed least zero from low l left i h le fits = tt
  climb_placed least (suc f) from low l left i h le fits = placed_turn least f l from i left (told joiner_test i) low refl h le fits (climb_placed least f from low)

  pub level_placed : (least : ℕ) (i : List Token) → least ≤ 13 → Placed (suc d) i (level d expr least i)
  unfolding level
  level_placed least i low =
      placed_then i i 0 (prefix d expr i) (climb d expr least i (length i)) (λ x j. Spells 13 x i j) (omega arith) ((prefix_reader d expr parts).sound i) ((prefix_reader d expr parts).placed i)
      (λ x j h. climb_placed least (length i) i low 13 x j h low (omega (arith, need_low (told joiner_test j), strength_small (told joiner_test j))))

  -- ---- the whole level

  pub level_reader : IsParts (suc d) (level d expr)
  level_reader n low = record {
    sound = λ i. meets_weaker (level d expr n i) (λ x j. Done n i x j) (λ x j. Spells n x i j) (level_done n i low) (λ x j h. h.0);
    placed = λ i. level_placed n i low;
    agrees = λ x s o m i h stops same. level_agrees d expr parts bounded first_bounded n low x s o m i h stops same
        (meets_weaker (level d expr n i) (λ x j. Done n i x j) (λ x j. Spells n x i j) (level_done n i low) (λ x j h. h.0));
  }
