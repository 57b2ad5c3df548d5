-- What is answered of a file of goals.
use Rattle.std.specs.Prelude.{◌≡◌, ◌⊎◌, ℕ, ◌+◌, ◌-◌, ◌≤◌, ◌==◌, if◌then◌else◌, List, [], length, take, slice_get, Option, Result, Ok, Err}
use Rattle.sv_outside.specs.declared.refusal.Place.{Place}
use Rattle.sv_outside.specs.declared.refusal.TextErr.{TextErr}
use Rattle.sv_outside.specs.declared.refusal.TextErr.TheVariants as text_err
use Rattle.sv_outside.specs.declared.text.Token.{Token}
use Rattle.sv_tree.specs.Nesting.{IsTooDeep}
use Rattle.sv_cursor.specs.declared.error.ParseErr.{ParseErr}
use Rattle.sv_cursor.specs.declared.error.ParseErr.TheVariants.{Memory, Syntax, TooDeep}
use Rattle.sv_cursor.specs.Parsers.{Outcome}
use Rattle.sv_cursor.specs.Refusals.{syntax_number_of, place_at, refused}
use Rattle.goal_tree.specs.declared.tree.GoalTree.{GoalTree}
use Rattle.goal_tree.specs.Goals.{IsGoals, goals_depths}
use Rattle.goal_tree.specs.Reading.{source}

-- 25 at what is in no rule of the source language, and else 33
unfoldable pub number_of : Option Token → ℕ
number_of a = if syntax_number_of a == 25 then 25 else 33

-- No goals are spelled by tokens that begin as these do, up to the one before which so many are left and with it.
abbrev pub NoneGoesOn : List Token → ℕ → Type 0
NoneGoesOn tokens left = (y : List GoalTree) (spelling : List Token) (m : ℕ) → IsGoals y spelling → take m spelling ≡ take m tokens → m + left ≤ length tokens

-- What reading makes of any tokens.
abbrev pub Decides : List Token → Outcome (List GoalTree) → Type 0
Decides i (Ok p) = IsGoals p.0 i × (p.1 ≡ []) × ((y : List GoalTree) → IsGoals y i → y ≡ p.0)
Decides i (Err (Syntax left)) = (left ≤ length i) × ((y : List GoalTree) → IsGoals y i → ⊥) × NoneGoesOn i left
Decides i (Err (TooDeep deep left)) = IsTooDeep IsGoals goals_depths i (length i - deep)
Decides i (Err Memory) = ⊥

-- What it says of all the tokens.
abbrev pub AreRead : List Token → Result (List GoalTree) ParseErr → Type 0
AreRead tokens (Ok x) = IsGoals x tokens × ((y : List GoalTree) → IsGoals y tokens → y ≡ x)
AreRead tokens (Err (Syntax left)) = (left ≤ length tokens) × (source tokens ≡ Err (Syntax left)) × ((y : List GoalTree) → IsGoals y tokens → ⊥) × NoneGoesOn tokens left
AreRead tokens (Err (TooDeep deep left)) = IsTooDeep IsGoals goals_depths tokens (length tokens - deep)
AreRead tokens (Err Memory) = Unit {0}

-- No goals are spelled by the tokens, nor by any that begin with them up to the one at which reading stops.
pub record IsSyntax (tokens : List Token) (end : Place) (e : TextErr) : Type 0 where
  pub left : ℕ
  pub inside : left ≤ length tokens
  pub none : (y : List GoalTree) → IsGoals y tokens → ⊥
  pub beyond : NoneGoesOn tokens left
  pub stops : source tokens ≡ Err (Syntax left)
  pub is : e ≡ refused (number_of (slice_get tokens (length tokens - left))) (place_at tokens end (length tokens - left))

-- Nesting exceeds the limit at a token.
pub record IsDeep (tokens : List Token) (end : Place) (e : TextErr) : Type 0 where
  pub number : ℕ
  pub deep : IsTooDeep IsGoals goals_depths tokens number
  pub is : e ≡ refused 9 (place_at tokens end number)

-- The one list of goals that the tokens spell, or why there is none.
abbrev pub AreGoals : List Token → Place → Result (List GoalTree) TextErr → Type 0
AreGoals tokens end (Ok x) = IsGoals x tokens × ((y : List GoalTree) → IsGoals y tokens → y ≡ x)
AreGoals tokens end (Err text_err.Memory) = Unit {0}
AreGoals tokens end (Err (text_err.No r)) = IsSyntax tokens end (text_err.No r) ⊎ IsDeep tokens end (text_err.No r)
