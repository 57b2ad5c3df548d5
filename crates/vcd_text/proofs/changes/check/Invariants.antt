use Rattle.std.proofs.Common.{◌≡◌, List, length}
use Rattle.vcd_text.specs.declared.waves.VcdVar.{VcdVar}
use Rattle.vcd_text.specs.Words.{Text, past, words_from}
use Rattle.vcd_text.specs.Waves.{Change}
use Rattle.vcd_text.specs.Steps.{at, behind, outcome}
use Rattle.vcd_text.specs.Scans.{rest_of}
use Rattle.vcd_text.specs.Changes.{outcome_of}
use Rattle.vcd_text.proofs.changes.check.Given as goal

-- with the changes so far, the same comes of the words that are left
abbrev pub invariant-words : goal.invariant-words
invariant-words l = (scopes : List Text) (vars : List VcdVar) → (changes : List Change)
    × (outcome (past l.cursor.place l.cursor.rest.now) (at (rest_of l.scan.wait) (behind scopes vars changes l.scan.dumping l.scan.time)) (words_from l.cursor.place l.cursor.rest.now)
    ≡ outcome_of scopes vars l.fn.cursor.place l.fn.cursor.rest.now)

abbrev pub decreases-words : goal.decreases-words
decreases-words l = length l.cursor.rest.now
