-- Goals over the nodes of a flat design that stems from a design, under a table that is bound to its wires.
use Rattle.std.specs.Prelude.{◌≡◌, ◌<◌, ℕ, List, length, Option, Some, None}
use Rattle.std.specs.List.{All}
use Rattle.fourvec.specs.declared.Bit.{Bit}
use Rattle.goal_prove.specs.declared.certs.Verdict.{Verdict as Found}
use Rattle.goal_prove.specs.declared.certs.Verdict.TheVariants as found
use Rattle.goal_text.specs.declared.goal.Goal.{Goal}
use Rattle.svtv_machine.specs.Passed.{IsElaborated}
use Rattle.refute_check.specs.Certs.{Certificate}
use Rattle.sv_meaning.specs.Designs.{Design}
use Rattle.flat_net.specs.declared.flat.Flat.{Flat}
use Rattle.svex_shape.specs.declared.shape.Shape.{Shape}
use Rattle.svex_shape.specs.Shapes.{width_at}
use Rattle.svtv_report.specs.declared.verdicts.Verdict.{Verdict}
use Rattle.svtv_report.specs.declared.verdicts.Verdict.TheVariants.{Proved, Vacuous, Failed, Undecided}
use Rattle.svtv_runs.specs.Runs.{Asked, AreApart, IsLeastRun, Run, asks_of}
use Rattle.svtv_table.specs.Stimuli.{IsChoice}
use Rattle.svtv_table.specs.declared.bound.Bound.{Bound}
use Rattle.svtv_verdicts.specs.Benches.{Bench, sampled_in}

-- ---- benches

-- the bench of a design and of a table that is bound to its wires
abbrev pub bench : Design → (List (List Bit) → Asked) → Bound → Bench
bench design asked bound = record { design = design; asked = asked; phases = bound.phases; vars = bound.vars; samples = bound.samples }

-- The flat design stems from the design, and under each choice the bound table asks what is asked, of each wire once by rows of one kind.
pub record Poses (design : Design) (ask : List (List Bit) → Asked) (flat : Flat) (bound : Bound) : Type 0 where
  pub elaborated : IsElaborated design flat
  pub asked : (choice : List (List Bit)) → IsChoice bound.vars choice → asks_of choice bound ≡ ask choice
  pub apart : (choice : List (List Bit)) → AreApart (asks_of choice bound)

-- ---- goals

-- the node is there, and has one bit
pub record IsOneBit (shapes : List Shape) (node : ℕ) : Type 0 where
  pub there : node < length shapes
  pub wide : width_at shapes node ≡ 1

-- so are all nodes of the goal
pub record IsThere (shapes : List Shape) (goal : Goal) : Type 0 where
  pub hyps : All (IsOneBit shapes) goal.hyps
  pub claims : All (IsOneBit shapes) goal.claims

-- ---- words of the inner functions

-- what is said where this is found of the nodes
abbrev pub said_of : Found → Verdict
said_of (found.Proved cert) = Proved
said_of (found.Vacuous cert) = Vacuous
said_of (found.Failed choice) = Failed choice
said_of (found.Undecided left) = Undecided (length left.cert.log)

-- what certifies what was found
abbrev pub cert_of : Found → Option Certificate
cert_of (found.Proved cert) = Some cert
cert_of (found.Vacuous cert) = Some cert
cert_of (found.Failed choice) = None
cert_of (found.Undecided left) = None

-- the choice of a failure has this property; of anything else nothing is asked
abbrev pub IfFails : Found → (List (List Bit) → Type 0) → Type 0
IfFails (found.Failed choice) P = P choice
IfFails other P = Unit {0}

-- the samples of the least run of whatever design the flat one stems from
abbrev pub AreShown : Flat → Bound → List (List Bit) → List (List Bit) → Type 0
AreShown flat bound choice shown = (d : Design) → IsElaborated d flat → (r : Run) → IsLeastRun d (asks_of choice bound) bound.phases r → shown ≡ sampled_in bound.samples r
