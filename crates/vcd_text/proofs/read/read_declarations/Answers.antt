use Rattle.std.proofs.Common.{◌≡◌, false, [], Some, None, refl, sym, ap, ◌∙◌, subst}
use Rattle.sv_outside.specs.declared.refusal.TextErr.TheVariants.{No}
use Rattle.vcd_text.specs.Words.{past, words_from}
use Rattle.vcd_text.specs.Cursors.{word_of}
use Rattle.vcd_text.specs.Steps.{at, behind, between, step, outcome, at_start}
use Rattle.vcd_text.specs.Readers.{state_of, stepped}
use Rattle.vcd_text.specs.Refusals.{refused}
use Rattle.vcd_text.proofs.Outcomes.{word_taken, word_refused, ends_early, refused_at}
use Rattle.vcd_text.proofs.Declared.{never_done}
use Rattle.vcd_text.proofs.read.read_declarations.Goals as goal

pub words-preserved : goal.words-preserved
words-preserved c =
    let took : Some (state_of c.step.new.self) ≡ step (state_of c.words.declarations) (word_of c.in-Some.word) =
    subst (λ p. stepped p (state_of c.step.new.self) ≡ step (state_of c.words.declarations) (word_of c.in-Some.word)) c.in-Taken.is c.in_ok-step.ensures.step in
    record {
      widths = c.in_ok-step.ensures.widths;
      so_far = word_taken (past c.next.new.self.place c.next.new.self.rest.now) (state_of c.words.declarations) (state_of c.step.new.self) (word_of c.in-Some.word)
          (words_from c.next.new.self.place c.next.new.self.rest.now) (words_from c.words.cursor.place c.words.cursor.rest.now)
          (outcome (past c.args.cursor.now.place c.args.cursor.now.rest.now) at_start (words_from c.args.cursor.now.place c.args.cursor.now.rest.now)) took c.in-Some.ensures.0
          (ap (λ p. outcome p (state_of c.words.declarations) (words_from c.words.cursor.place c.words.cursor.rest.now)) (sym c.in-Some.ensures.1.0) ∙ c.words.invariant.so_far);
    }

pub returns-in-Over-clause-told : goal.returns-in-Over-clause-told
returns-in-Over-clause-told c =
    let took : Some (at between (behind c.step.new.self.scopes c.step.new.self.vars [] false 0)) ≡ step (state_of c.words.declarations) (word_of c.in-Some.word) =
    subst (λ p. stepped p (state_of c.step.new.self) ≡ step (state_of c.words.declarations) (word_of c.in-Some.word)) c.in-Over.is c.in_ok-step.ensures.step in (
      c.step.new.self.scopes,
      sym (word_taken (past c.next.new.self.place c.next.new.self.rest.now) (state_of c.words.declarations) (at between (behind c.step.new.self.scopes c.step.new.self.vars [] false 0)) (word_of c.in-Some.word)
          (words_from c.next.new.self.place c.next.new.self.rest.now) (words_from c.words.cursor.place c.words.cursor.rest.now)
          (outcome (past c.args.cursor.now.place c.args.cursor.now.rest.now) at_start (words_from c.args.cursor.now.place c.args.cursor.now.rest.now)) took c.in-Some.ensures.0
          (ap (λ p. outcome p (state_of c.words.declarations) (words_from c.words.cursor.place c.words.cursor.rest.now)) (sym c.in-Some.ensures.1.0) ∙ c.words.invariant.so_far))
          ∙ ap (λ vs. outcome (past c.next.new.self.place c.next.new.self.rest.now) (at between (behind c.step.new.self.scopes vs [] false 0)) (words_from c.next.new.self.place c.next.new.self.rest.now))
          (sym c.into_vars.ensures),
    )

pub returns-in-Refused-clause-refused : goal.returns-in-Refused-clause-refused
returns-in-Refused-clause-refused c r e =
    let stops : None ≡ step (state_of c.words.declarations) (word_of c.in-Some.word) =
    subst (λ p. stepped p (state_of c.step.new.self) ≡ step (state_of c.words.declarations) (word_of c.in-Some.word)) c.in-Refused.is c.in_ok-step.ensures.step in
    let same : No (refused 47 c.in-Some.word.place) ≡ No r = cc in
    refused_at (outcome (past c.args.cursor.now.place c.args.cursor.now.rest.now) at_start (words_from c.args.cursor.now.place c.args.cursor.now.rest.now)) c.in-Some.word.place c.in-Some.word.place r
    (word_refused (past c.words.cursor.place c.words.cursor.rest.now) (state_of c.words.declarations) (word_of c.in-Some.word) (words_from c.next.new.self.place c.next.new.self.rest.now)
    (words_from c.words.cursor.place c.words.cursor.rest.now) (outcome (past c.args.cursor.now.place c.args.cursor.now.rest.now) at_start (words_from c.args.cursor.now.place c.args.cursor.now.rest.now))
    stops c.in-Some.ensures.0 c.words.invariant.so_far)
    refl same

pub returns-clause-refused : goal.returns-clause-refused
returns-clause-refused c r e =
    let same : No (refused 47 c.place.result) ≡ No r = cc in
    refused_at (outcome (past c.args.cursor.now.place c.args.cursor.now.rest.now) at_start (words_from c.args.cursor.now.place c.args.cursor.now.rest.now)) (past c.words.cursor.place c.words.cursor.rest.now) c.place.result r
    (ends_early (past c.words.cursor.place c.words.cursor.rest.now) (state_of c.words.declarations) (words_from c.words.cursor.place c.words.cursor.rest.now)
    (outcome (past c.args.cursor.now.place c.args.cursor.now.rest.now) at_start (words_from c.args.cursor.now.place c.args.cursor.now.rest.now))
    c.in_default.ensures.0 (never_done c.words.declarations) c.words.invariant.so_far)
    (c.in_default.ensures.1 ∙ sym c.place.ensures) same
