use Rattle.std.proofs.Common.{map, refl}
use Rattle.refute_check.specs.Entry.{entry_of}
use Rattle.refute_check.specs.Accepted.{known_of}
use Rattle.refute_check.proofs.Derivations.{derived_at, not_derived_at, same_entry}
use Rattle.refute_check.proofs.follow.marks_lead.Goals as goal

pub returns-then-deny-clause-answer : goal.returns-then-deny-clause-answer
returns-then-deny-clause-answer c =
    let db = known_of (map (λ v. v.items) c.args.clauses.now) c.args.steps.now c.args.k in
    derived_at c.args.vars db c.args.steps.now c.args.k (entry_of c.literals-literals.result c.hints-hints.result) _ _ c.requires.k
    (same_entry _ _ _ _ _ c.requires.k c.literals-literals.ensures c.hints-hints.ensures c.index-steps-k.is)
    (c.if-deny.ensures.answer.0 refl) c.if-deny.ensures.values c.derives.ensures.answer

pub returns-else-deny-clause-answer : goal.returns-else-deny-clause-answer
returns-else-deny-clause-answer c =
    let db = known_of (map (λ v. v.items) c.args.clauses.now) c.args.steps.now c.args.k in
    not_derived_at c.args.vars db c.args.steps.now c.args.k (entry_of c.literals-literals.result _) c.requires.k
    (same_entry _ _ _ _ _ c.requires.k c.literals-literals.ensures refl c.index-steps-k.is)
    c.if-deny.ensures.answer.1
