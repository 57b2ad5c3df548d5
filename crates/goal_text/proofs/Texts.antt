-- The goals of a text, from its trees.
use Rattle.std.proofs.Common.{◌≡◌, ℕ, inl, inr, List, [], Result, Ok, Err}
use Rattle.std.specs.List.{AllZip}
use Rattle.sv_outside.specs.declared.refusal.TextErr.{TextErr}
use Rattle.sv_outside.specs.declared.refusal.TextErr.TheVariants.{No, Memory}
use Rattle.sv_outside.specs.declared.text.Token.{Token}
use Rattle.sv_token.specs.Cut.{IsRefused, past, start}
use Rattle.sv_token.specs.Result.{IfRefused}
use Rattle.sv_typing.specs.Judging.{IsCause}
use Rattle.goal_tree.specs.declared.tree.GoalTree.{GoalTree}
use Rattle.goal_tree.specs.Parsed.{AreGoals}
use Rattle.svex_shape.specs.declared.shape.Shape.{Shape}
use Rattle.svtv_table.specs.declared.bound.Sample.{Sample}
use Rattle.svtv_table.specs.declared.bound.VarDecl.{VarDecl}
use Rattle.goal_text.specs.declared.goal.Goal.{Goal}
use Rattle.goal_text.specs.Faults.{goal_faults}
use Rattle.goal_text.specs.Nodes.{IsGoal}
use Rattle.goal_text.specs.Goals.{IsCut, AreGoalsOf, HasCause, AreTrees}

module _ (file : ℕ) (text : List ℕ) where
  pub trees_read : (tokens : List Token) (r : Result (List GoalTree) TextErr) → IsCut file text tokens → AreGoals tokens (past (start file) text) r → AreTrees file text r
  trees_read tokens (Ok trees) cut h = record { tokens = tokens; cut = cut; spelled = h.0 }
  trees_read tokens (Err (No r)) cut h = inr (record { tokens = tokens; cut = cut; why = h })
  trees_read tokens (Err Memory) cut h = tt

  pub trees_uncut : (e : TextErr) → IfRefused (IsRefused file text) e → AreTrees file text (Err e)
  trees_uncut (No r) h = inl h
  trees_uncut Memory h = tt

  module _ (vars : List VarDecl) (samples : List Sample) where
    pub none_read : (e : TextErr) → AreTrees file text (Err e) → IfRefused (HasCause file text vars samples) e
    none_read (No r) (inl h) = inl h
    none_read (No r) (inr h) = inr (inl h)
    none_read Memory h = tt

    pub faulty : (trees : List GoalTree) (e : TextErr) → AreTrees file text (Ok trees) → IsCause (goal_faults vars samples trees) e → IfRefused (HasCause file text vars samples) e
    faulty trees (No r) spell h = inr (inr (record { trees = trees; spell = spell; stands = h }))
    faulty trees Memory spell h = tt

    pub goals_of_text : (trees : List GoalTree) (shapes : List Shape) (goals : List Goal) → AreTrees file text (Ok trees) → goal_faults vars samples trees ≡ []
        → AllZip (IsGoal vars samples shapes) trees goals → AreGoalsOf file text vars samples shapes goals
    goals_of_text trees shapes goals spell clear each = record { trees = trees; spell = spell; clear = clear; each = each }
