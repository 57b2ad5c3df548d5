use Rattle.std.proofs.Common.{◌≡◌, ◌++◌}
use Rattle.svtv_selftest.specs.Texts.{often}
use Rattle.svtv_selftest.proofs.parts.push_often.Given as goal

abbrev pub invariant-words : goal.invariant-words
invariant-words l = l.text.items ≡ l.fn.text.items ++ often l.k l.word
