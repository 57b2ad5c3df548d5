-- The values of all wires in the phases of a run.
use Rattle.std.specs.Prelude.{ℕ, List, length, map, slice_index_or}
use Rattle.std.specs.List.{range_with_len}
use Rattle.fourvec.specs.declared.Bit.{Bit}
use Rattle.sv_outside.specs.declared.text.Signal.{Signal}
use Rattle.svtv_runs.specs.Runs.{Run}
use Rattle.svtv_runs.specs.Truths.{valuation}

-- the value of each wire in a phase, in the order of the wires
abbrev pub wires_in : List Signal → Run → ℕ → List (List Bit)
wires_in wires r phase = map (λ n. map (valuation r phase n) (range_with_len 0 (slice_index_or (map (λ w. w.width) wires) n 0))) (range_with_len 0 (length wires))

-- and that in each of so many phases, in the order of the phases
abbrev pub phases_in : List Signal → ℕ → Run → List (List (List Bit))
phases_in wires phases r = map (wires_in wires r) (range_with_len 0 phases)
