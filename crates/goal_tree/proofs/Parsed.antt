-- What is answered of a file of goals.
use Rattle.std.proofs.Common.{◌≡◌, inl, inr, ℕ, ◌-◌, List, length, slice_get, Result, Ok, Err, refl, sym, ap, ◌∙◌, subst}
use Rattle.sv_outside.specs.declared.refusal.Place.{Place}
use Rattle.sv_outside.specs.declared.refusal.TextErr.{TextErr}
use Rattle.sv_outside.specs.declared.text.Token.{Token}
use Rattle.sv_cursor.specs.declared.error.ParseErr.{ParseErr}
use Rattle.sv_cursor.specs.declared.error.ParseErr.TheVariants.{Memory, Syntax, TooDeep}
use Rattle.sv_cursor.specs.Parsers.{Outcome, Reads}
use Rattle.sv_cursor.specs.Refusals.{refused, place_at}
use Rattle.goal_tree.specs.declared.tree.GoalTree.{GoalTree}
use Rattle.goal_tree.specs.Reading.{source}
use Rattle.goal_tree.specs.Parsed.{Decides, AreRead, AreGoals, number_of}
use Rattle.goal_tree.proofs.Laws.{decides}

-- ---- what reading says

decided : (tokens : List Token) (r : Outcome (List GoalTree)) → source tokens ≡ r → Decides tokens r
decided tokens r e = subst (λ q. Decides tokens q) e (decides tokens)

syntax_read : (tokens : List Token) (left : ℕ) → source tokens ≡ Err (Syntax left) → AreRead tokens (Err (Syntax left))
syntax_read tokens left e = let d = decided tokens (Err (Syntax left)) e in (d.0, e, d.1, d.2)

pub read_as : (tokens : List Token) (r : Result (List GoalTree) ParseErr) (new : List Token) → Reads (source tokens) r new → AreRead tokens r
read_as tokens (Ok x) new e = let d = decided tokens (Ok (x, new)) e in (d.0, d.2)
read_as tokens (Err (Syntax left)) new h = syntax_read tokens left (h (λ e. absurd (cc)))
read_as tokens (Err (TooDeep deep left)) new h = decided tokens (Err (TooDeep deep left)) (h (λ e. absurd (cc)))
read_as tokens (Err Memory) new h = tt

-- ---- what is answered

module _ (tokens : List Token) (end : Place) where
  pub goals_ok : (x : List GoalTree) → AreRead tokens (Ok x) → AreGoals tokens end (Ok x)
  goals_ok x h = h

  stopped_at : (left : ℕ) → AreRead tokens (Err (Syntax left))
      → AreGoals tokens end (Err (refused (number_of (slice_get tokens (length tokens - left))) (place_at tokens end (length tokens - left))))
  stopped_at left h = inl (record { left = left; inside = h.0; none = h.2; beyond = h.3; stops = h.1; is = refl })

  nested_at : (deep left : ℕ) → AreRead tokens (Err (TooDeep deep left)) → AreGoals tokens end (Err (refused 9 (place_at tokens end (length tokens - deep))))
  nested_at deep left h = inr (record { number = length tokens - deep; deep = h; is = refl })

  pub syntax_is : (left number : ℕ) (place : Place) (e : TextErr) → AreRead tokens (Err (Syntax left)) → number ≡ number_of (slice_get tokens (length tokens - left))
      → place ≡ place_at tokens end (length tokens - left) → e ≡ refused number place → AreGoals tokens end (Err e)
  syntax_is left number place e h is_number is_place is =
      subst (λ e. AreGoals tokens end (Err e))
      (sym (is ∙ (ap (λ n. refused n place) is_number ∙ ap (refused (number_of (slice_get tokens (length tokens - left)))) is_place))) (stopped_at left h)

  pub deep_is : (deep left : ℕ) (place : Place) (e : TextErr) → AreRead tokens (Err (TooDeep deep left)) → place ≡ place_at tokens end (length tokens - deep) → e ≡ refused 9 place → AreGoals tokens end (Err e)
  deep_is deep left place e h is_place is = subst (λ e. AreGoals tokens end (Err e)) (sym (is ∙ ap (refused 9) is_place)) (nested_at deep left h)
