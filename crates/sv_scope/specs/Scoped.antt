-- The scopes of a source as code holds them.
use Rattle.std.specs.Prelude.{◌≡◌, ℕ, true, [], List, map, Option, Result, Ok, Err}
use Rattle.sv_outside.specs.declared.refusal.TextErr.{TextErr}
use Rattle.sv_outside.specs.declared.text.Signal.{Signal}
use Rattle.sv_tree.specs.declared.design.Module.{Module}
use Rattle.sv_tree.specs.declared.design.Source.{Source}
use Rattle.sv_meaning.specs.Faults.{◌>>=◌}
use Rattle.sv_meaning.specs.Layouts.{Name}
use Rattle.sv_meaning.specs.Designs.{Design}
use Rattle.sv_loops.specs.Answers.{Answers}
use Rattle.sv_hierarchy.specs.Scopes as m
use Rattle.sv_levels.specs.declared.library.Library.{Library}
use Rattle.sv_levels.specs.declared.library.Known.{Known}
use Rattle.sv_scope.specs.declared.whole.DesignScopes.{DesignScopes}
use Rattle.sv_walk.specs.declared.walker.Walker.{Walker}
use Rattle.sv_walk.specs.declared.walker.Open.{Open}
use Rattle.sv_levels.specs.Levels.{front_is, levels_are}
use Rattle.sv_levels.specs.declared.levels.Front.{Front}
use Rattle.sv_levels.specs.Library.{IsLibrary, known_is}
use Rattle.sv_levels.specs.Tasks.{work_is}
use Rattle.sv_walk.specs.Walks.{state_of}

-- ---- what a walk found at its end

pub record IsWalked (st : m.State) (w : Walker) : Type 0 where
  pub levels : st.levels ≡ levels_are w.levels
  pub turns : st.turns ≡ w.tally.turns
  pub wires : st.wires ≡ w.wires
  pub works : st.works ≡ map work_is w.works.items

abbrev pub WalksTop : Library → Module → Front → Walker → Open → Walker → Result Unit TextErr → Type 0
WalksTop library tree at w own v result =
    (all : m.Library) → IsLibrary library all → Answers (λ st u. IsWalked st v) (m.instance_walk true tree (front_is at) [] (state_of w own) >>= m.below (m.child m.deepest all)) result

abbrev pub FromTop : Library → Known → Walker → Open → Walker → Result Unit TextErr → Type 0
FromTop library top w file v result =
    (all : m.Library) → IsLibrary library all → Answers (λ st u. IsWalked st v) (m.from_top all (known_is top) (state_of w file)) result

-- the same of a library whose top is still to be found
abbrev pub FromSome : Library → Option Name → Walker → Open → Walker → Result Unit TextErr → Type 0
FromSome library top w file v result =
    (all : m.Library) → IsLibrary library all → Answers (λ st u. IsWalked st v) (m.top_module all top >>= λ k. m.from_top all k (state_of w file)) result

-- the parts of a source are read, and its modules are listed
pub record IsRead (source : Source) (v : Walker) (file : Open) (library : Library) : Type 0 where
  pub all : m.Library
  pub read : m.library source.parts [] m.file_state ≡ Ok (all, state_of v file)
  pub listed : IsLibrary library all

abbrev pub ReadsInto : Source → Walker → Open → Result Library TextErr → Type 0
ReadsInto source v file (Ok library) = IsRead source v file library
ReadsInto source v file (Err e) = (top : Option Name) → Answers (λ (st : m.State) (u : Unit {0}). Unit {0}) (m.scopes source top) (Err e)

abbrev pub Reads : Source → Walker → Result (Open × Library) TextErr → Type 0
Reads source v (Ok x) = IsRead source v x.0 x.1
Reads source v (Err e) = (top : Option Name) → Answers (λ (st : m.State) (u : Unit {0}). Unit {0}) (m.scopes source top) (Err e)

-- ---- what is answered

abbrev pub levels_of : DesignScopes → List m.Level
levels_of s = levels_are s.levels

abbrev pub wires_of : DesignScopes → List Signal
wires_of s = s.wires

abbrev pub works_of : DesignScopes → List m.Standing
works_of s = map work_is s.works.items

abbrev pub turns_of : DesignScopes → ℕ
turns_of s = s.turns

-- the scopes, wires and works of a state in which a walk ends
pub record IsScoped (st : m.State) (s : DesignScopes) : Type 0 where
  pub levels : st.levels ≡ levels_of s
  pub wires : st.wires ≡ wires_of s
  pub works : st.works ≡ works_of s
  pub turns : st.turns ≡ turns_of s

-- the design that these make
abbrev pub design_is : DesignScopes → Design
design_is s = record { wires = wires_of s; works = map (m.work_at (levels_of s)) (works_of s); turns = turns_of s }

abbrev pub instances_of : DesignScopes → List m.Instance
instances_of s = m.instances_from 1 (levels_of s) (m.behind (levels_of s))
