use Rattle.std.proofs.Common.{length, sym, ◌∙◌}
use Rattle.std.proofs.lemmas.Bool.{eqb-true, eqb-false}
use Rattle.vcd_text.proofs.Splitting.{next_is, no_next_is}
use Rattle.vcd_text.proofs.word.Cursor.next.Goals as goal

pub returns-then-is_empty : goal.returns-then-is_empty
returns-then-is_empty c =
    no_next_is _ _ _ _ _ _ _ _ c.blanks.ensures.is c.beyond.ensures.rest c.beyond.ensures.place c.letters.ensures.is c.beyond-text.ensures.result c.beyond-text.ensures.place
    (eqb-true (length c.beyond-text.result.now) 0 (sym c.is_empty.ensures ∙ c.if-is_empty.true))

pub returns : goal.returns
returns c =
    next_is _ _ _ _ _ _ _ _ _ c.blanks.ensures.is c.beyond.ensures.rest c.beyond.ensures.place c.letters.ensures.is c.beyond-text.ensures.result c.beyond-text.ensures.rest c.beyond-text.ensures.place
    (eqb-false (length c.beyond-text.result.now) 0 (sym c.is_empty.ensures ∙ c.if-is_empty.false))
