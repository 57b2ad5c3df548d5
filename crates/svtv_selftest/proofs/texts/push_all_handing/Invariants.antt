use Rattle.std.proofs.Common.{◌≡◌, ◌++◌}
use Rattle.svtv_selftest.specs.Texts.{each_from, handing}
use Rattle.svtv_selftest.proofs.texts.push_all_handing.Given as goal

abbrev pub invariant-handing : goal.invariant-handing
invariant-handing l = l.text.items ≡ l.fn.text.items ++ each_from 2 l.k handing
