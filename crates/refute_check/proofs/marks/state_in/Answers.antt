use Rattle.std.proofs.Common.{List, Option, None, subst, length, ◌<◌}
use Rattle.std.proofs.lemmas.List.Elements.{All-nil}
use Rattle.cnf.specs.declared.Dim.{Dim}
use Rattle.cnf.specs.Clauses.{Valuation, valuation, IsFalsified}
use Rattle.cnf.specs.State.{Looked, IsNeither}
use Rattle.refute_check.proofs.Reading.{shorter, walk_start, walk_more, walk_end, walk_whole, walk_at}
use Rattle.refute_check.proofs.marks.state_in.Goals as goal

pub loop-d-init : goal.loop-d-init
loop-d-init c = walk_start (λ front. Looked (valuation c.args.values.now) front None) c.args.literals.now (All-nil (IsFalsified (valuation c.args.values.now)))

pub loop-d-smaller : goal.loop-d-smaller
loop-d-smaller c = shorter _ _ _ c.in-Some.ensures.some

pub look-requires : goal.look-requires
look-requires c = walk_at (λ front. Looked (valuation c.args.values.now) front c.loop-d.found) (λ d. d.var < length c.args.values.now) _ _ c.args.literals.now c.in-Some.d c.requires c.in-Some.ensures.some c.loop-d.invariant

pub loop-d-preserved : goal.loop-d-preserved
loop-d-preserved c = walk_more (λ front. Looked (valuation c.args.values.now) front c.loop-d.found) (λ front. Looked (valuation c.args.values.now) front _) _ _ c.args.literals.now c.in-Some.d c.in-Some.ensures.some c.loop-d.invariant
    (c.if-not-look.ensures.on _ c.loop-d.invariant.2)

pub returns-then-not-look : goal.returns-then-not-look
returns-then-not-look c = subst (IsNeither (valuation c.args.values.now)) (walk_whole (λ front. Looked (valuation c.args.values.now) front c.loop-d.found) _ _ c.args.literals.now c.in-Some.d c.in-Some.ensures.some c.loop-d.invariant)
    (c.if-not-look.ensures.over _ _ c.loop-d.invariant.2)

pub returns : goal.returns
returns c = c.looked.ensures (valuation c.args.values.now) c.args.literals.now
    (walk_end (λ front. Looked (valuation c.args.values.now) front c.loop-d.found) _ c.args.literals.now c.in_default.ensures.none c.loop-d.invariant)
