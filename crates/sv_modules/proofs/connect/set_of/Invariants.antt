use Rattle.std.proofs.Common.{take}
use Rattle.sv_modules.specs.Naming.{Holds, texts_of}
use Rattle.sv_modules.proofs.connect.set_of.Given as goal

abbrev pub invariant-words : goal.invariant-words
invariant-words l = Holds l.names (texts_of (take l.word-index l.words))
