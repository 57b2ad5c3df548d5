-- What names lead to before their selects.
use Rattle.std.specs.Prelude.{◌≡◌, ℕ, ◌≤◌, Bool, false, List, length, Option, Some, Result, Ok, Err}
use Rattle.sv_outside.specs.declared.refusal.TextErr.{TextErr}
use Rattle.sv_tree.specs.declared.word.Word.{Word}
use Rattle.sv_typed.specs.declared.tree.Root.{Root}
use Rattle.sv_typed.specs.declared.tree.Root.TheVariants.{Number, Signal}
use Rattle.sv_typed.specs.Typed.{origin_is}
use Rattle.sv_meaning.specs.Layouts.{Layout, width, plain, What, number_is, signal_is, Origin}
use Rattle.sv_meaning.specs.Meanings.{Meaning, Step, named}
use Rattle.sv_typing.specs.declared.chain.Chain.{Chain}
use Rattle.sv_names.specs.declared.cursor.Cursor.{Cursor}
use Rattle.sv_names.specs.Cursors.{cursor_is, CursorIsSound}
use Rattle.sv_typing.specs.Judging.{IsCause}
use Rattle.sv_typing.specs.Picks.{Follows}
use Rattle.sv_meaning.specs.Faults.{Faults}
use Rattle.sv_meaning.specs.Meanings.{chain_faults}
use Rattle.sv_meaning.specs.Layouts.{is_signed}

abbrev pub IsSignal : Origin → ℕ → Layout → Root → Type 0
IsSignal o n x (Number v) = ⊥
IsSignal o n x (Signal p m w) = (origin_is p ≡ o) × (m ≡ n) × (w ≡ width x)

abbrev pub RootIs : Option What → Bool → Cursor → Root → Type 0
RootIs (Some (number_is v s)) c at root = (1 ≤ length v) × (length v ≤ 128) × (cursor_is at ≡ plain (length v) s) × (root ≡ Number v)
RootIs (Some (signal_is o n x)) c at root = (c ≡ false) × (cursor_is at ≡ x) × IsSignal o n x root × (1 ≤ width x) × (width x ≤ 128)
RootIs x c at root = ⊥

-- where a name leads before its selects, or why it is refused
abbrev pub JudgesRoot : Word → Option What → Bool → Result (Cursor × Root) TextErr → Type 0
JudgesRoot w what c (Ok t) = RootIs what c t.0 t.1 × CursorIsSound t.0
JudgesRoot w what c (Err e) = (all : List Step) → IsCause ((named w what all).faults c) e

-- ---- chains of selects

-- The picks of a chain stand for the selects behind a layout, each index being judged so; its width and sign are those of the last part.
pub record IsChain (judge : Meaning → Faults) (x : Layout) (steps : List Step) (c : Chain) : Type 0 where
  pub layout : Layout
  pub follows : Follows judge x steps c.picks layout
  pub width : width layout ≡ c.width
  pub signed : is_signed layout ≡ c.signed

abbrev pub JudgesChain : (Meaning → Faults) → Layout → List Step → Result Chain TextErr → Type 0
JudgesChain judge x steps (Ok c) = IsChain judge x steps c
JudgesChain judge x steps (Err e) = IsCause (chain_faults judge x steps) e
