-- The most nodes that the gates of a goal may take.
use Rattle.std.specs.Prelude.{◌≡◌, ℕ, ◌+◌, ◌*◌, ◌<◌, ◌≤◌, Bool, List, length, slice_index, ◌==◌, if◌then◌else◌}
use Rattle.std.specs.List.{All}
use Rattle.aig.specs.declared.gate.Gate.{Gate}
use Rattle.svex_arena.specs.Marks.{IsMarked, IsClosed}
use Rattle.svex_blast.specs.Sizes.{gates_to}
use Rattle.svex_shape.specs.declared.shape.Shape.TheVariants.{Var}
use Rattle.svex_shape.specs.declared.shape.VarName.TheVariants.{Sampled}
use Rattle.svex_shape.specs.Shapes.{shape_at}
use Rattle.svtv_choices.specs.Choices.{bits_of}
use Rattle.goal_gates.specs.Goals.{Goal}

-- The marks name all nodes that hypotheses and claims reach: the children of a node, and the node of a sample where its variable is.
pub record AreReached (g : Goal) (marks : List Bool) : Type 0 where
  pub long : length marks ≡ length g.shapes
  pub hyps : All (IsMarked marks) g.hyps
  pub claims : All (IsMarked marks) g.claims
  pub children : IsClosed g.shapes marks 0
  pub sampled : (k j width : ℕ) → k < length g.shapes → IsMarked marks k → shape_at g.shapes k ≡ Var (Sampled j) width → j < length g.samples → IsMarked marks (slice_index g.samples j)

-- 1 where the variables have no bits; else 1, the bits, 4 for each hypothesis and claim, and the gates of the marked nodes, each counted once
abbrev pub room : Goal → List Bool → ℕ
room g marks =
    if bits_of g.vars == 0 then 1 else 1 + bits_of g.vars + 4 * (length g.hyps + length g.claims) + gates_to g.shapes marks (length marks)

-- A graph has no more nodes than that, whichever marks name what is reached: so also where they name nothing else.
abbrev pub FitsRoom : Goal → List Gate → Type 0
FitsRoom g gates = (marks : List Bool) → AreReached g marks → length gates ≤ room g marks
