use Rattle.std.proofs.Common.{◌≡◌, ◌++◌, take}
use Rattle.std.specs.List.{flat_map}
use Rattle.svtv_selftest.specs.Seen.{part_text}
use Rattle.svtv_selftest.proofs.parts.push_parts.Given as goal

abbrev pub invariant-parts : goal.invariant-parts
invariant-parts l = l.text.items ≡ l.fn.text.items ++ flat_map part_text (take l.part-index l.parts)
