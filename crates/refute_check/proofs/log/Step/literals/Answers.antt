use Rattle.std.proofs.Common.{ℕ, List, map, take, sym, ap, ◌∙◌}
use Rattle.refute_check.specs.declared.number.Number.{Number}
use Rattle.refute_check.specs.Entry.{Entry}
use Rattle.refute_check.specs.Packed.{literal_of}
use Rattle.refute_check.proofs.Reading.{clause_none, clause_some}
use Rattle.refute_check.proofs.log.Step.literals.Goals as goal

pub returns-in-None : goal.returns-in-None
returns-in-None c =
    c.of.ensures ∙ clause_none c.self.inside.row c.next.new.self (sym c.reader-rest.ensures ∙ c.in-None.ensures.none) ∙ ap (λ (y : Entry). y.clause) c.self.view_is

pub returns-in-Some : goal.returns-in-Some
returns-in-Some c =
    let rest : List Number = c.next.new.self in
    c.of-in-Some.ensures ∙ ap (λ (k : ℕ). map literal_of (take k rest)) c.value.ensures
    ∙ clause_some c.self.inside.row rest c.in-Some.count (sym c.reader-rest.ensures ∙ c.in-Some.ensures.some) ∙ ap (λ (y : Entry). y.clause) c.self.view_is
