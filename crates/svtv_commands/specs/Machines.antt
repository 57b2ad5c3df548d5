-- Words of the inner functions: a design that has no machine.
use Rattle.std.specs.Prelude.{◌≡◌}
use Rattle.net_equations.specs.declared.group.ComposeErr.{ComposeErr}
use Rattle.net_equations.specs.declared.group.ComposeErr.TheVariants as compose
use Rattle.sv_meaning.specs.Designs.{Design}
use Rattle.svtv_files.specs.Files.{Text}
use Rattle.svtv_files.specs.Refusals.{IsTooWide, at_first}
use Rattle.svtv_files.specs.Stopping.{Stops}
use Rattle.svtv_files.specs.declared.stop.Stop.{Stop}

-- E39 with so many bits, in the file of that name
abbrev pub IsWideStop : Text → ComposeErr → Stop → Type 0
IsWideStop name (compose.LoopTooWide bits) stop = Stops (λ file r. (file ≡ name) × (r ≡ record { number = 39; place = at_first; count = bits })) (λ file place. ⊥) stop
IsWideStop name compose.Memory stop = Stops (λ file r. ⊥) (λ file place. ⊥) stop

-- it stands against this design
abbrev pub StopsWide : Text → Design → Stop → Type 0
StopsWide name d stop = Stops (λ file r. (file ≡ name) × IsTooWide d r) (λ file place. ⊥) stop
