use Rattle.std.proofs.Common.{refl, sym, ◌∙◌}
use Rattle.vcd_text.specs.Words.{words_from}
use Rattle.vcd_text.specs.Cursors.{word_of}
use Rattle.vcd_text.specs.Scans.{state_of}
use Rattle.vcd_text.proofs.Telling.{told_none, told_refused, told_nothing, told_change}
use Rattle.vcd_text.proofs.changes.Changes.next.Goals as goal

pub words-preserved : goal.words-preserved
words-preserved c =
    sym (told_nothing (state_of c.words.self-inside.scan) (state_of c.step.new.self) (word_of c.in-Some.word) (words_from c.next.new.self.place c.next.new.self.rest.now)
    (words_from c.words.self-inside.cursor.place c.words.self-inside.cursor.rest.now) c.in-Taken.ensures refl c.in-Some.ensures.0)
    ∙ c.words.invariant

pub returns-in-Change : goal.returns-in-Change
returns-in-Change c =
    let first = told_change (state_of c.words.self-inside.scan) (state_of c.step.new.self) c.in-Change.change (word_of c.in-Some.word) (words_from c.next.new.self.place c.next.new.self.rest.now)
    (words_from c.words.self-inside.cursor.place c.words.self-inside.cursor.rest.now) c.in-Change.ensures refl c.in-Some.ensures.0 in
    (first.change, sym c.self.view_is ∙ sym c.words.invariant ∙ first.is, first.written)

pub returns-in-Refused : goal.returns-in-Refused
returns-in-Refused c =
    sym c.self.view_is ∙ sym c.words.invariant
    ∙ told_refused (state_of c.words.self-inside.scan) (word_of c.in-Some.word) (words_from c.next.new.self.place c.next.new.self.rest.now)
    (words_from c.words.self-inside.cursor.place c.words.self-inside.cursor.rest.now) c.in-Refused.ensures c.in-Some.ensures.0

pub returns : goal.returns
returns c =
    sym c.self.view_is ∙ sym c.words.invariant
    ∙ told_none (state_of c.words.self-inside.scan) (words_from c.words.self-inside.cursor.place c.words.self-inside.cursor.rest.now) c.in_default.ensures.0
