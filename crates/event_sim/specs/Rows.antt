-- What wires have after a pass over a net, which gives each bit of it what its class is told.
use Rattle.std.specs.Prelude.{◌≡◌, ℕ, ◌+◌, ◌<◌, Bool, List, [], length, map, Option, None, slice_index_or, if◌then◌else◌}
use Rattle.std.specs.List.{range_with_len}
use Rattle.fourvec.specs.declared.Bit.{Bit}
use Rattle.fourvec.specs.declared.Bit.TheVariants.{Unknown}
use Rattle.svex_shape.specs.Values.{Vector}
use Rattle.event_nets.specs.Gifts.{told_bit}
use Rattle.event_nets.specs.Runs.{is_at}

-- the net in which the class of a bit lies, by the bit's place
abbrev pub low_at : List ℕ → List (Option ℕ) → ℕ → Option ℕ
low_at homes lows place = slice_index_or lows (slice_index_or homes place 0) None

-- the bits of the net
abbrev pub taken : List ℕ → List (Option ℕ) → ℕ → ℕ → Bool
taken homes lows net place = is_at (low_at homes lows place) net

-- what a bit has after a pass, which had another before
abbrev pub passed_bit : List ℕ → List (Option ℕ) → ℕ → List (Option Bit) → ℕ → Bit → Bit
passed_bit homes lows net told place old =
    if taken homes lows net place then told_bit (slice_index_or told (slice_index_or homes place 0) None) else old

-- what a wire has after a pass, whose lowest bit has this place
abbrev pub passed_row : List ℕ → List (Option ℕ) → ℕ → List (Option Bit) → ℕ → Vector → Vector
passed_row homes lows net told start old =
    map (λ k. passed_bit homes lows net told (start + k) (slice_index_or old k Unknown)) (range_with_len 0 (length old))

-- each wire after a pass
pub record Passed (homes starts : List ℕ) (lows : List (Option ℕ)) (net : ℕ) (told : List (Option Bit)) (old new : List Vector) : Type 0 where
  pub as_many : length new ≡ length old
  pub rows : (n : ℕ) → n < length old → slice_index_or new n [] ≡ passed_row homes lows net told (slice_index_or starts n 0) (slice_index_or old n [])
