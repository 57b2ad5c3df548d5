-- The samples of a table as nodes over its variables.
use Rattle.std.specs.Prelude.{ℕ, List}
use Rattle.fourvec.specs.declared.Bit.{Bit}
use Rattle.sv_meaning.specs.Designs.{Design}
use Rattle.svex_shape.specs.declared.shape.Shape.{Shape}
use Rattle.svtv_runs.specs.Runs.{Run, IsLeastRun, asks_of}
use Rattle.svtv_runs.specs.Truths.{sampled}
use Rattle.svtv_table.specs.Stimuli.{IsChoice}
use Rattle.svtv_table.specs.declared.bound.Bound.{Bound}
use Rattle.svtv_unroll.specs.Unrolled.{AreSampleNodes, HaveSamples}

-- A node for each sample, over the variables alone: under each choice it has what the sample has in the least run of the design.
pub record AreLeastNodes (d : Design) (bound : Bound) (shapes : List Shape) (samples : List ℕ) : Type 0 where
  pub nodes : AreSampleNodes bound.vars bound.samples shapes samples
  pub least : (choice : List (List Bit)) → IsChoice bound.vars choice → (r : Run) → IsLeastRun d (asks_of choice bound) bound.phases r → HaveSamples choice bound.samples (sampled r) shapes samples
