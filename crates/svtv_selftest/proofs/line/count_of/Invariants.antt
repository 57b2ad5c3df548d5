use Rattle.std.proofs.Common.{◌≡◌, map, take}
use Rattle.std.specs.List.{count_by}
use Rattle.svtv_report.specs.Seen.{verdict_is}
use Rattle.svtv_selftest.specs.Seen.{is_word}
use Rattle.svtv_selftest.proofs.line.count_of.Given as goal

abbrev pub invariant-verdicts : goal.invariant-verdicts
invariant-verdicts l = l.count ≡ count_by (is_word l.word) (map verdict_is (take l.verdict-index l.verdicts))
