use Rattle.std.proofs.Common.{map, ◌∙◌, refl}
use Rattle.refute_check.specs.Accepted.{known_of}
use Rattle.cnf.specs.Clauses.{valuation}
use Rattle.refute_check.proofs.Derivations.{never, none_lead, at_end, one_more, derives_past, derives_neither, known_past, known_here}
use Rattle.refute_check.proofs.Reading.{shorter}
use Rattle.refute_check.proofs.follow.derives.Goals as goal

pub loop-hint-smaller : goal.loop-hint-smaller
loop-hint-smaller c = shorter _ _ _ c.in-Some.ensures.some

pub returns-then-not-is_known-clause-answer : goal.returns-then-not-is_known-clause-answer
returns-then-not-is_known-clause-answer c =
    let db = known_of (map (λ v. v.items) c.args.clauses.now) c.args.steps.now c.args.k in
    never db _ _ _ c.in-Some.hint _ c.in-Some.ensures.some c.loop-hint.invariant.rest
    (derives_past db _ _ _ (known_past c.args.clauses.now c.args.steps.now c.args.k _ c.requires.k c.if-not-is_known.ensures.1))

pub returns-in-Conflict-clause-answer : goal.returns-in-Conflict-clause-answer
returns-in-Conflict-clause-answer c =
    let db = known_of (map (λ v. v.items) c.args.clauses.now) c.args.steps.now c.args.k in
    at_end db (valuation c.loop-hint.marks) _ _ c.in-Some.hint _ _ c.in-Some.ensures.some c.loop-hint.invariant.rest
    (known_here c.args.clauses.now c.args.steps.now c.args.k _ c.requires.k (c.if-not-is_known.ensures.0 refl)) c.in-Conflict.ensures c.is_done.ensures

pub returns-in-Neither-clause-answer : goal.returns-in-Neither-clause-answer
returns-in-Neither-clause-answer c =
    let db = known_of (map (λ v. v.items) c.args.clauses.now) c.args.steps.now c.args.k in
    never db (valuation c.loop-hint.marks) _ _ c.in-Some.hint _ c.in-Some.ensures.some c.loop-hint.invariant.rest
    (derives_neither db _ _ _ c.in-Neither.ensures.0 c.in-Neither.ensures.1)

pub loop-hint-preserved : goal.loop-hint-preserved
loop-hint-preserved c =
    let db = known_of (map (λ v. v.items) c.args.clauses.now) c.args.steps.now c.args.k in
    record {
      rest = one_more db (valuation c.loop-hint.marks) _ _ _ c.in-Some.hint c.in-Unit.d _ c.in-Some.ensures.some c.loop-hint.invariant.rest
          (known_here c.args.clauses.now c.args.steps.now c.args.k _ c.requires.k (c.if-not-is_known.ensures.0 refl)) c.in-Unit.ensures c.assume.ensures.value;
      width = c.assume.ensures.width ∙ c.loop-hint.invariant.width;
    }

pub returns-clause-answer : goal.returns-clause-answer
returns-clause-answer c =
    let db = known_of (map (λ v. v.items) c.args.clauses.now) c.args.steps.now c.args.k in
    none_lead db (valuation c.loop-hint.marks) _ _ c.in_default.ensures.none c.loop-hint.invariant.rest
