use Rattle.std.proofs.Common.{◌≡◌, length}
use Rattle.vcd_text.specs.Words.{past, words_from}
use Rattle.vcd_text.specs.Steps.{outcome, at_start}
use Rattle.vcd_text.specs.Readers.{state_of, HoldsWidths}
use Rattle.vcd_text.proofs.read.read_declarations.Given as goal

-- the same comes of the words that are left
abbrev pub invariant-words : goal.invariant-words
invariant-words l = record {
  widths : HoldsWidths l.declarations;
  so_far : outcome (past l.cursor.place l.cursor.rest.now) (state_of l.declarations) (words_from l.cursor.place l.cursor.rest.now)
      ≡ outcome (past l.initial.cursor.place l.initial.cursor.rest.now) at_start (words_from l.initial.cursor.place l.initial.cursor.rest.now);
}

abbrev pub decreases-words : goal.decreases-words
decreases-words l = length l.cursor.rest.now
