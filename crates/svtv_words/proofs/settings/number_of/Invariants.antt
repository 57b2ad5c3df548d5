use Rattle.std.proofs.Common.{◌≡◌, ◌^◌, ◌<◌, take}
use Rattle.svtv_words.specs.Commands.{number_behind}
use Rattle.svtv_words.proofs.settings.number_of.Given as goal

abbrev pub invariant-loop-b : goal.invariant-loop-b
invariant-loop-b l = (l.number ≡ number_behind 0 (take l.b-index l.text)) × (l.number < 10 ^ l.b-index)
