-- Targets as code finds them (IEEE 1800-2017, 10.3.2, 10.4 and 11.5.1).
use Rattle.std.specs.Prelude.{◌≡◌, ℕ, ◌+◌, ◌≤◌, List, [], ◌∷◌, ◌++◌, Result, Ok, Err}
use Rattle.std.specs.List.{All, AllZip}
use Rattle.sv_outside.specs.declared.refusal.Place.{Place}
use Rattle.sv_outside.specs.declared.refusal.TextErr.{TextErr}
use Rattle.sv_tree.specs.declared.stmts.Lvalue.{Lvalue}
use Rattle.sv_outside.specs.declared.refusal.TextErr.TheVariants.{No}
use Rattle.sv_tree.specs.declared.exprs.Expr.{Expr}
use Rattle.sv_meaning.specs.Faults.{Faults, bad_target}
use Rattle.sv_meaning.specs.Designs.{as_targets, part_faults}
use Rattle.sv_meaning.specs.Layouts as m
use Rattle.sv_meaning.specs.Meanings.{Meaning}
use Rattle.sv_meaning.specs.Targets.{Target, lvalue_faults, targets}
use Rattle.sv_typed.specs.Typed.{PickIsSound}
use Rattle.sv_typing.specs.Judging.{IsCause}
use Rattle.sv_typing.specs.Picks.{Follows}
use Rattle.sv_targets.specs.declared.targets.TypedTarget.{TypedTarget}

-- A net or variable with picks for its selects, with nothing against them, each index being judged so.
pub record StandsFor (judge : Meaning → Faults) (x : TypedTarget) (t : Target) : Type 0 where
  pub wire : t.wire ≡ x.wire
  pub layout : m.Layout
  pub follows : Follows judge t.layout t.steps x.picks layout
  pub whole : m.width t.layout ≡ x.wire_width
  pub some : 1 ≤ x.wire_width
  pub most : x.wire_width ≤ 128
  pub width : m.width layout ≡ x.width
  pub narrow : x.width ≤ 128

pub record IsTarget (judge : Meaning → Faults) (f : Faults) (t : Target) (x : TypedTarget) : Type 0 where
  pub clear : f ≡ []
  pub stands : StandsFor judge x t

abbrev pub JudgesTarget : (Meaning → Faults) → Faults → Target → Result TypedTarget TextErr → Type 0
JudgesTarget judge f t (Ok x) = IsTarget judge f t x
JudgesTarget judge f t (Err e) = IsCause f e

-- targets in order, the most significant first
pub record AreTargets (judge : Meaning → Faults) (f : Faults) (ts : List Target) (all : List TypedTarget) : Type 0 where
  pub clear : f ≡ []
  pub stand : AllZip (StandsFor judge) all ts

abbrev pub JudgesTargets : (Meaning → Faults) → Faults → List Target → Result (List TypedTarget) TextErr → Type 0
JudgesTargets judge f ts (Ok all) = AreTargets judge f ts all
JudgesTargets judge f ts (Err e) = IsCause f e

unfoldable pub width_of_all : List TypedTarget → ℕ
width_of_all [] = 0
width_of_all (x ∷ more) = x.width + width_of_all more

-- no more bits together than a vector holds
abbrev pub AreNarrow : Result (List TypedTarget) TextErr → Type 0
AreNarrow (Ok all) = width_of_all all ≤ 128
AreNarrow (Err e) = Unit {0}

-- what the bits of a target are found by
pub record TargetIsSound (x : TypedTarget) : Type 0 where
  pub most : x.wire_width ≤ 128
  pub picks : All PickIsSound x.picks

-- targets in braces as code lists them

unfoldable pub all_faults : (Meaning → Faults) → m.Scope → m.Scope → List Lvalue → Faults
all_faults judge index at [] = []
all_faults judge index at (x ∷ more) = lvalue_faults judge index at x ++ all_faults judge index at more

unfoldable pub all_targets : m.Scope → m.Scope → List Lvalue → List Target
all_targets index at [] = []
all_targets index at (x ∷ more) = targets index at x ++ all_targets index at more

-- actuals in braces as code lists them

unfoldable pub actual_list_faults : Place → m.Scope → m.Scope → List Expr → Faults
actual_list_faults start index at [] = []
actual_list_faults start index at (x ∷ more) = part_faults start index at x ++ actual_list_faults start index at more

unfoldable pub actual_list_targets : m.Scope → m.Scope → List Expr → List Target
actual_list_targets index at [] = []
actual_list_targets index at (x ∷ more) = as_targets index at x ++ actual_list_targets index at more

-- the refusal of what is no target in an actual that begins at a place
abbrev pub no_target : Place → TextErr
no_target p = No (record { number = bad_target; place = p; count = 0 })
