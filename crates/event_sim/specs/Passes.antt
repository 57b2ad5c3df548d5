-- What classes are told in a pass.
use Rattle.std.specs.Prelude.{◌≡◌, ℕ, ◌<◌, true, List, length, Option, None, slice_index_or}
use Rattle.fourvec.specs.declared.Bit.{Bit}
use Rattle.svex_shape.specs.Values.{Vector}
use Rattle.event_nets.specs.declared.gift.Gift.{Gift}
use Rattle.event_nets.specs.Gifts.{told_of, given_at, has_gift}

-- each class to which some of the gifts go is told what these give to it
abbrev pub IsToldOf : List Gift → List Vector → List Vector → List Gift → List (Option Bit) → Type 0
IsToldOf own values stim gifts told =
    (place : ℕ) → place < length told → has_gift own place ≡ true → slice_index_or told place None ≡ told_of (given_at values stim place gifts)
