-- Whole files of goals are read as they are spelled.
use Rattle.std.proofs.Common.{◌≡◌, ℕ, zero, suc, ◌+◌, ◌-◌, ◌<◌, ◌≤◌, ◌⊎◌, inl, inr, List, [], ◌∷◌, length, take, Ok, Err, refl, sym, ap, arith}
use Rattle.std.proofs.lemmas.Bool.{cases_lt}
use Rattle.sv_outside.specs.declared.text.Token.{Token}
use Rattle.sv_tree.specs.Nesting.{Depths, IsOverAt}
use Rattle.sv_cursor.specs.declared.error.ParseErr.TheVariants.{Memory, Syntax, TooDeep}
use Rattle.sv_cursor.specs.Parsers.{Outcome, and_then}
use Rattle.sv_cursor.proofs.Readers.{BadAt, Agrees, Placed, Meets, then_meets}
use Rattle.goal_tree.specs.declared.tree.GoalTree.{GoalTree}
use Rattle.goal_tree.specs.Goals.{IsGoals, goals_depths}
use Rattle.goal_tree.specs.Reading.{ended, goals, source}
use Rattle.goal_tree.specs.Parsed.{Decides}
use Rattle.goal_tree.proofs.Forms.{Top, Goals, GoalsEnd, goals_read, goals_moved}

stops_at_end : GoalsEnd []
stops_at_end = (refl, tt)

take_all : (n : ℕ) (l : List Token) → length l ≤ n → take n l ≡ l
take_all zero [] le = refl
take_all zero (a ∷ l) le = absurd (omega arith)
take_all (suc n) [] le = refl
take_all (suc n) (a ∷ l) le = ap (λ l. a ∷ l) (take_all n l (omega arith))

take_length : (n : ℕ) (l : List Token) → n ≤ length l → length (take n l) ≡ n
take_length zero l le = refl
take_length (suc n) [] le = absurd (omega arith)
take_length (suc n) (a ∷ l) le = let e = take_length n l (omega arith) in omega arith

-- a text that shares a token more than it has
too_short : (s i : List Token) (n m : ℕ) → take m s ≡ take m i → length s ≤ n → n < m → n < length i → ⊥
too_short s i n m same short under more =
    let a : length (take m s) ≡ length s = ap length (take_all m s (omega arith)) in
    let b = ap length same in by_length (cases_lt (length i) m)
  where
    by_length : (length i < m) ⊎ (m ≤ length i) → ⊥
    by_length (inl below) = let c = ap length (take_all m i (omega arith)) in let a = ap length (take_all m s (omega arith)) in let b = ap length same in omega arith
    by_length (inr above) = let c = take_length m i above in let a = ap length (take_all m s (omega arith)) in let b = ap length same in omega arith

ended_at : (x y : List GoalTree) (s : List Token) (m : ℕ) (i j : List Token) → IsGoals y s → take m s ≡ take m i → Goals x i j → (length (goals_depths x) < m → x ≡ y) → Agrees Top goals_depths y m i (ended x j)
ended_at x y s m i [] h same read e = λ shown. e shown
ended_at x y s m i (a ∷ j) h same read e = by_length (cases_lt (length (goals_depths x)) m)
  where
    by_length : (length (goals_depths x) < m) ⊎ (m ≤ length (goals_depths x)) → m + length (a ∷ j) ≤ length i
    by_length (inl under) =
        let c = goals_moved.count x i (a ∷ j) read in
        let d = goals_moved.count y s [] h in
        let f = ap (λ x. length (goals_depths x)) (e under) in absurd (too_short s i (length (goals_depths x)) m same (omega arith) under (omega arith))
    by_length (inr above) = let c = goals_moved.count x i (a ∷ j) read in omega arith

ended_agrees : (y : List GoalTree) (s : List Token) (m : ℕ) (i : List Token) (r : Outcome (List GoalTree)) → IsGoals y s → take m s ≡ take m i → Meets r (λ x j. Goals x i j) → Agrees Top goals_depths y m i r → Agrees Top goals_depths y m i (and_then r ended)
ended_agrees y s m i (Ok p) h same read e = ended_at p.0 y s m i p.1 h same read e
ended_agrees y s m i (Err e) h same read a = a

source_agrees : (y : List GoalTree) (s : List Token) (m : ℕ) (i : List Token) → IsGoals y s → take m s ≡ take m i → Agrees Top goals_depths y m i (source i)
unfolding source
source_agrees y s m i h same = ended_agrees y s m i (goals i) h same (goals_read.sound i) (goals_read.agrees y s [] m i h stops_at_end same)

ended_sound : (x : List GoalTree) (i j : List Token) → Goals x i j → Meets (ended x j) (λ x j. IsGoals x i × (j ≡ []))
ended_sound x i [] h = (h, refl)
ended_sound x i (a ∷ j) h = tt

source_sound : (i : List Token) → Meets (source i) (λ x j. IsGoals x i × (j ≡ []))
unfolding source
source_sound i = then_meets (goals i) ended (λ x j. Goals x i j) (λ x j. IsGoals x i × (j ≡ [])) (goals_read.sound i) (λ x j h. ended_sound x i j h)

ended_placed : (r : Outcome (List GoalTree)) (i : List Token) → Placed 200 i r → Meets r (λ x j. Goals x i j) → Placed 200 i (and_then r ended)
ended_placed (Ok p) i h read = by_end p.1 read
  where
    by_end : (j : List Token) → Goals p.0 i j → Placed 200 i (ended p.0 j)
    by_end [] read = tt
    by_end (a ∷ j) read = let c = goals_moved.count p.0 i (a ∷ j) read in omega arith
ended_placed (Err e) i h read = h

source_placed : (i : List Token) → Placed 200 i (source i)
unfolding source
source_placed i = ended_placed (goals i) i (goals_read.placed i) (goals_read.sound i)

-- ---- what an outcome decides

bad_over : (ns : Depths) (k : ℕ) → BadAt Top ns k → IsOverAt ns k
bad_over [] k h = absurd h
bad_over (n ∷ ns) zero h = (n, refl, inl (omega arith))
bad_over (n ∷ ns) (suc k) h = let g = bad_over ns k h in (g.0, g.1, g.2)

by_outcome : (i : List Token) (r : Outcome (List GoalTree)) → Meets r (λ x j. IsGoals x i × (j ≡ [])) → Placed 200 i r
    → ((y : List GoalTree) (s : List Token) (m : ℕ) → IsGoals y s → take m s ≡ take m i → Agrees Top goals_depths y m i r) → Decides i r
by_outcome i (Ok p) read placed agrees = (read.0, read.1, λ y h. let c = goals_moved.count p.0 i [] read.0 in sym (agrees y i (length i + 1) h refl (omega arith)))
by_outcome i (Err Memory) read placed agrees = placed
by_outcome i (Err (Syntax left)) read placed agrees = (placed, (λ y h. let a = agrees y i (length i + 1) h refl in omega arith), λ y s m h same. agrees y s m h same)
by_outcome i (Err (TooDeep deep left)) read placed agrees = (
  length i - left,
  omega (arith, placed.1),
  omega (arith, placed.0),
  omega (arith, placed.0, placed.3),
  λ y s h same. bad_over (goals_depths y) (length i - deep) (agrees y s (length i - left + 1) h same (omega (arith, placed.0))),
)

-- Reading a whole text decides.
pub decides : (i : List Token) → Decides i (source i)
decides i = by_outcome i (source i) (source_sound i) (source_placed i) (λ y s m h same. source_agrees y s m i h same)
