-- What a failure shows, of whatever design a flat one stems from.
use Rattle.std.specs.Prelude.{◌≡◌, List}
use Rattle.flat_net.specs.declared.flat.Flat.{Flat}
use Rattle.fourvec.specs.declared.Bit.{Bit}
use Rattle.settling.specs.Settling.{Store}
use Rattle.sv_meaning.specs.Designs.{Design}
use Rattle.svtv_least.specs.Passed.{IsElaborated}
use Rattle.svtv_periods.specs.Invariants.{samples_in}
use Rattle.svtv_runs.specs.Runs.{Run, IsLeastRun, IsLeastRunFrom, asks_of}
use Rattle.svtv_table.specs.declared.bound.Bound.{Bound}

-- the samples of the least run under a choice
abbrev pub AreLeastSamples : Flat → Bound → List (List Bit) → List (List Bit) → Type 0
AreLeastSamples flat bound choice shown = (d : Design) → IsElaborated d flat → (r : Run) → IsLeastRun d (asks_of choice bound) bound.phases r → shown ≡ samples_in bound.samples r

-- and of the one that begins with a valuation
abbrev pub AreSamplesFrom : Flat → Bound → List (List Bit) → Store → List (List Bit) → Type 0
AreSamplesFrom flat bound choice state shown = (d : Design) → IsElaborated d flat → (r : Run) → IsLeastRunFrom d (asks_of choice bound) bound.phases state r → shown ≡ samples_in bound.samples r
