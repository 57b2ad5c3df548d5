use Rattle.std.proofs.Common.{◌++◌, Err, sym, ap, ◌∙◌}
use Rattle.vcd_text.specs.Words.{past, words_from}
use Rattle.vcd_text.specs.Cursors.{word_of}
use Rattle.vcd_text.specs.Steps.{outcome}
use Rattle.vcd_text.specs.Changes.{outcome_of}
use Rattle.vcd_text.proofs.Outcomes.{all_taken, ends_early}
use Rattle.vcd_text.proofs.Checking.{full, Taken, taken, word_checked, word_stops, same_done, not_refused}
use Rattle.vcd_text.proofs.changes.check.Goals as goal

pub words-preserved : goal.words-preserved
words-preserved c scopes vars =
    let t : Taken c.words.scan c.step.new.self (word_of c.in-Some.word) = taken c.step.result c.words.scan c.step.new.self (word_of c.in-Some.word) (not_refused c.step.result c.in-Taken.is) c.step.ensures in
    let so_far = c.words.invariant scopes vars in (
      so_far.0 ++ t.told,
      word_checked (past c.next.new.self.place c.next.new.self.rest.now) scopes vars so_far.0 c.words.scan c.step.new.self (word_of c.in-Some.word) (words_from c.next.new.self.place c.next.new.self.rest.now)
          (words_from c.words.cursor.place c.words.cursor.rest.now) (outcome_of scopes vars c.args.cursor.place c.args.cursor.rest.now) t c.in-Some.ensures.0
          (ap (λ p. outcome p (full scopes vars so_far.0 c.words.scan) (words_from c.words.cursor.place c.words.cursor.rest.now)) (sym c.in-Some.ensures.1.0) ∙ so_far.1),
    )

pub returns-in-Refused-clause-err : goal.returns-in-Refused-clause-err
returns-in-Refused-clause-err c scopes vars =
    let so_far = c.words.invariant scopes vars in
    word_stops (past c.words.cursor.place c.words.cursor.rest.now) scopes vars so_far.0 c.words.scan (word_of c.in-Some.word) (words_from c.next.new.self.place c.next.new.self.rest.now)
    (words_from c.words.cursor.place c.words.cursor.rest.now) (outcome_of scopes vars c.args.cursor.place c.args.cursor.rest.now) c.in-Refused.ensures c.in-Some.ensures.0 so_far.1

pub returns-then-is_done-clause-ok : goal.returns-then-is_done-clause-ok
returns-then-is_done-clause-ok c scopes vars =
    let so_far = c.words.invariant scopes vars in (
      full scopes vars so_far.0 c.words.scan,
      all_taken (past c.words.cursor.place c.words.cursor.rest.now) (full scopes vars so_far.0 c.words.scan) (words_from c.words.cursor.place c.words.cursor.rest.now)
          (outcome_of scopes vars c.args.cursor.place c.args.cursor.rest.now) c.in_default.ensures.0 (same_done scopes vars so_far.0 c.words.scan ∙ sym c.is_done.ensures ∙ c.if-is_done.true) so_far.1,
    )

pub returns-else-is_done-clause-err : goal.returns-else-is_done-clause-err
returns-else-is_done-clause-err c scopes vars =
    let so_far = c.words.invariant scopes vars in
    ends_early (past c.words.cursor.place c.words.cursor.rest.now) (full scopes vars so_far.0 c.words.scan) (words_from c.words.cursor.place c.words.cursor.rest.now)
    (outcome_of scopes vars c.args.cursor.place c.args.cursor.rest.now) c.in_default.ensures.0 (same_done scopes vars so_far.0 c.words.scan ∙ sym c.is_done.ensures ∙ c.if-is_done.false) so_far.1
    ∙ ap (λ p. Err p) (c.in_default.ensures.1 ∙ sym c.place.ensures)
