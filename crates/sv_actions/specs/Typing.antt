-- How typed actions and statements belong together.
use Rattle.std.specs.Prelude.{◌≡◌, ℕ, ◌+◌, List, [], ◌++◌, Result, Ok, Err}
use Rattle.std.specs.List.{Contains, All}
use Rattle.settling.specs.Settling.{Store}
use Rattle.sv_outside.specs.declared.refusal.TextErr.{TextErr}
use Rattle.sv_meaning.specs.Layouts.{Read, NamedSignal}
use Rattle.sv_meaning.specs.Deeds.{Deed}
use Rattle.sv_typing.specs.Judging.{IsCause}
use Rattle.sv_actions.specs.declared.action.Action.{Action}
use Rattle.sv_actions.specs.declared.statements.Acted.{Acted}
use Rattle.sv_actions.specs.Doing.{Fits, names_all, run_all, writes_all}

-- Actions do what statements do: they leave the same store, write the same bits, and name no other signals.
pub record Does (all : List Action) (d : Deed) : Type 0 where
  pub run : (look : Store → Read) (store : Store) → run_all all look store ≡ d.run look store
  pub writes : writes_all all ≡ d.targets
  pub names : (n : NamedSignal) → Contains (names_all all) n → Contains d.names n
  pub fits : All Fits all

-- Nothing stands against the statements, where so many turns of loops were made before.
pub record IsActed (d : Deed) (before : ℕ) (x : Acted) : Type 0 where
  pub clear : d.faults ≡ []
  pub turned : d.overrun before ≡ []
  pub made : x.made ≡ before + d.turns
  pub does : Does x.actions d

abbrev pub JudgesDeed : Deed → ℕ → Result Acted TextErr → Type 0
JudgesDeed d made (Ok x) = IsActed d made x
JudgesDeed d made (Err e) = IsCause (d.faults ++ d.overrun made) e
