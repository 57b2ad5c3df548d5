-- The least stimuli and overridings that a table allows, and what they lead to.
use Rattle.std.specs.Prelude.{ℕ, ◌==◌, List, [], ◌∷◌, map, slice_index_or, Option, Some, None, if◌then◌else◌}
use Rattle.fourvec.specs.declared.Bit.{Bit}
use Rattle.fourvec.specs.declared.Bit.TheVariants.{Unknown}
use Rattle.settling.specs.Settling.{Store}
use Rattle.sv_meaning.specs.Designs.{Overriding}
use Rattle.svtv_runs.specs.Runs.{Asked, Asks, stimuli_in, overrides_in}

-- a bit of what is asked of a wire, X where nothing is
abbrev pub bit_asked : Option (List Bit) → ℕ → Bit
bit_asked None k = Unknown
bit_asked (Some v) k = slice_index_or v k Unknown

-- the bits that are asked for, the first of a wire counting, and at all others what was there before
unfoldable pub set_over : Asks → Store → Store
set_over [] old n k = old n k
set_over (a ∷ more) old n k = if a.0 == n then bit_asked a.1 k else set_over more old n k

abbrev pub all_unknown : Store
all_unknown n k = Unknown

abbrev pub least_store : Asks → Store
least_store asks = set_over asks all_unknown

abbrev pub least_stimulus : Asked → ℕ → Store
least_stimulus asked phase = least_store (stimuli_in asked phase)

abbrev pub least_overriding : Asked → ℕ → Overriding
least_overriding asked phase = record { wires = map (λ a. a.0) (overrides_in asked phase); values = least_store (overrides_in asked phase) }
