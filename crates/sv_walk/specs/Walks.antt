-- The walk of the program, and the walk of the definition that it stands for.
use Rattle.std.specs.Prelude.{◌≡◌, ℕ, [], length, map, Result}
use Rattle.sv_outside.specs.declared.refusal.TextErr.{TextErr}
use Rattle.sv_meaning.specs.Faults.{Judged}
use Rattle.sv_meaning.specs.Layouts.{Name as Bytes}
use Rattle.sv_meaning.specs.Names.{has_name}
use Rattle.sv_loops.specs.Answers.{Answers}
use Rattle.sv_modules.specs.Naming.{holds}
use Rattle.sv_hierarchy.specs.Scopes as m
use Rattle.sv_walk.specs.declared.walker.Walker.{Walker}
use Rattle.sv_walk.specs.declared.walker.Open.{Open}
use Rattle.sv_levels.specs.Levels.{levels_are}
use Rattle.sv_levels.specs.Tasks.{child_is, given_is, work_is}

abbrev pub state_of : Walker → Open → m.State
state_of w o = record {
  levels = levels_are w.levels;
  me = o.level;
  taken = holds o.taken;
  constructs = length o.constructs.items;
  overridden = map given_is o.overridden.list.items;
  bits = w.tally.bits;
  turns = w.tally.turns;
  wires = w.wires;
  works = map work_is w.works.items;
  children = map child_is w.children.items;
}

-- A walk leads from one state to another, or is refused by one of the faults that stand against it.
abbrev pub Walks : m.Walk → Walker → Open → Walker → Open → Result Unit TextErr → Type 0
Walks f w o v p result = Answers (λ st u. st ≡ state_of v p) (f (state_of w o)) result

-- the same of a walk that finds something
abbrev pub Finds : {A B : Type 0} → (A → B → Type 0) → (m.State → Judged (A × m.State)) → Walker → Open → Walker → Open → Result B TextErr → Type 0
Finds r f w o v p result = Answers (λ found x. r found.0 x × (found.1 ≡ state_of v p)) (f (state_of w o)) result

-- a scope with no names, to whose parameters nothing is given
pub record IsBare (level : ℕ) (o : Open) : Type 0 where
  pub level_is : o.level ≡ level
  pub constructs : o.constructs.items ≡ []
  pub overridden : map given_is o.overridden.list.items ≡ []
  pub taken : (name : Bytes) → holds o.taken name ≡ has_name name []

-- nothing was found
pub record IsNothing (w : Walker) : Type 0 where
  pub levels : levels_are w.levels ≡ []
  pub bits : w.tally.bits ≡ 0
  pub turns : w.tally.turns ≡ 0
  pub wires : w.wires ≡ []
  pub works : w.works.items ≡ []
  pub children : w.children.items ≡ []
