use Rattle.std.proofs.Common.{ℕ, List, drop, sym, ap, ◌∙◌}
use Rattle.refute_check.specs.declared.number.Number.{Number}
use Rattle.refute_check.specs.Entry.{Entry}
use Rattle.refute_check.proofs.Reading.{hints_none, hints_some}
use Rattle.refute_check.proofs.log.Step.hints.Goals as goal

pub returns-in-None : goal.returns-in-None
returns-in-None c =
    c.of.ensures ∙ hints_none c.self.inside.row c.next.new.self (sym c.reader-rest.ensures ∙ c.in-None.ensures.none) c.in-None.ensures.end ∙ ap (λ (y : Entry). y.hints) c.self.view_is

pub returns-in-Some : goal.returns-in-Some
returns-in-Some c =
    let rest : List Number = c.next.new.self in
    c.of-in-Some.ensures
    ∙ hints_some c.self.inside.row rest c.skip.new.self c.in-Some.count (sym c.reader-rest.ensures ∙ c.in-Some.ensures.some) (c.skip.ensures ∙ ap (λ (k : ℕ). drop k rest) c.value.ensures)
    ∙ ap (λ (y : Entry). y.hints) c.self.view_is
