-- The changes that are left where a text is read again.
use Rattle.std.specs.Prelude.{List}
use Rattle.vcd_text.specs.declared.changes.Changes.TheInside.{Inside}
use Rattle.vcd_text.specs.Words.{words_from}
use Rattle.vcd_text.specs.Waves.{Change}
use Rattle.vcd_text.specs.Steps.{changes_in}
use Rattle.vcd_text.specs.Scans.{state_of}

abbrev pub changes_left : Inside → List Change
changes_left a = changes_in (state_of a.scan) (words_from a.cursor.place a.cursor.rest.now)
