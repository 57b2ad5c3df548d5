-- What is printed of invariants (this project's rules).
use Rattle.std.specs.Prelude.{Bool, true, false, List, [], ◌∷◌, ◌++◌, codes, decimal}
use Rattle.fourvec.specs.declared.Bit.{Bit}
use Rattle.svtv_report.specs.Texts.{Text, line_feed, value_lines}
use Rattle.svtv_report.specs.declared.held.Held.{Held}
use Rattle.svtv_report.specs.declared.held.Held.TheVariants.{Invariant, BaseFails, StepFails, Undecided}

-- the names of the variables of the reset's table and of the period's, and of the samples, which both have
pub record Names : Type 0 where
  pub resets : List Text
  pub periods : List Text
  pub samples : List Text

-- behind the name: the choice of the reset's variables that breaks the claims, and the samples at its end
abbrev pub base_failure : (vars samples : List Text) → (choice shown : List (List Bit)) → Text
base_failure vars samples choice shown = codes ": base fails" ++ (line_feed ++ (value_lines (codes "  var ") vars choice ++ value_lines (codes "  sample ") samples shown))

-- behind the name: the choice of the period's variables that breaks the claims, the signals of the samples before it, and the samples at its end
abbrev pub step_failure : (vars samples : List Text) → (choice before shown : List (List Bit)) → Text
step_failure vars samples choice before shown =
    codes ": step fails" ++ (line_feed ++ (value_lines (codes "  var ") vars choice ++ (value_lines (codes "  before ") samples before ++ value_lines (codes "  sample ") samples shown)))

-- The lines of one invariant: its verdict; where it fails the choice, the signals before the period and the samples at the end; and where it is
-- undecided, behind how many steps.
abbrev pub invariant_text : Names → Text → Held → (before shown : List (List Bit)) → Text
invariant_text n name Invariant before shown = name ++ (codes ": invariant" ++ line_feed)
invariant_text n name (BaseFails choice) before shown = name ++ base_failure n.resets n.samples choice shown
invariant_text n name (StepFails choice) before shown = name ++ step_failure n.periods n.samples choice before shown
invariant_text n name (Undecided k) before shown = name ++ (codes ": undecided after " ++ (decimal k ++ line_feed))

-- the lines of all invariants, in order
unfoldable pub invariants_text : Names → List Text → List Held → (before shown : List (List (List Bit))) → Text
invariants_text n (name ∷ names) (h ∷ verdicts) (b ∷ before) (s ∷ shown) = invariant_text n name h b s ++ invariants_text n names verdicts before shown
invariants_text n names verdicts before shown = []

abbrev pub is_invariant : Held → Bool
is_invariant Invariant = true
is_invariant (BaseFails choice) = false
is_invariant (StepFails choice) = false
is_invariant (Undecided n) = false
