use Rattle.std.proofs.Common.{◌≡◌, ◌<◌, List, length, sym, subst}
use Rattle.std.specs.List.{All}
use Rattle.std.specs.Prelude.{ℕ}
use Rattle.std.proofs.lemmas.List.Elements.{All-weaker}
use Rattle.svex_shape.specs.Shapes.{width_at}
use Rattle.svtv_decide.specs.Posing.{IsOneBit}
use Rattle.svtv_decide.proofs.Deciding.{fails_wide, right_as, said_certified, said_right}
use Rattle.svtv_decide.proofs.Reading.{are_chosen, are_there}
use Rattle.svtv_decide.proofs.goals.certify.Goals as goal

pub prove_goal-requires-clause-samples : goal.prove_goal-requires-clause-samples
prove_goal-requires-clause-samples c =
    let b = c.args.problem.now.bound.now in
    are_there b.vars b.samples c.args.arena.now c.args.problem.now.samples.now c.requires.samples

pub prove_goal-requires-clause-chosen : goal.prove_goal-requires-clause-chosen
prove_goal-requires-clause-chosen c =
    let b = c.args.problem.now.bound.now in
    are_chosen b.vars b.samples c.args.arena.now c.args.problem.now.samples.now c.len.ensures.arena c.requires.samples

pub prove_goal-requires-clause-hyps : goal.prove_goal-requires-clause-hyps
prove_goal-requires-clause-hyps c =
    let shapes = c.args.arena.now in
    let all : All (IsOneBit shapes) c.as_slice-2.result.now = subst (λ (nodes : List ℕ). All (IsOneBit shapes) nodes) (sym c.as_slice-2.ensures) c.requires.there.hyps in
    All-weaker (IsOneBit shapes) (λ node. node < length shapes) (λ node h. h.there) c.as_slice-2.result.now all

pub prove_goal-requires-clause-claims : goal.prove_goal-requires-clause-claims
prove_goal-requires-clause-claims c =
    let shapes = c.args.arena.now in
    let all : All (IsOneBit shapes) c.as_slice-3.result.now = subst (λ (nodes : List ℕ). All (IsOneBit shapes) nodes) (sym c.as_slice-3.ensures) c.requires.there.claims in
    All-weaker (IsOneBit shapes) (λ node. node < length shapes) (λ node h. h.there) c.as_slice-3.result.now all

pub prove_goal-requires-clause-one_bit : goal.prove_goal-requires-clause-one_bit
prove_goal-requires-clause-one_bit c =
    let shapes = c.args.arena.now in
    let all : All (IsOneBit shapes) c.as_slice-2.result.now = subst (λ (nodes : List ℕ). All (IsOneBit shapes) nodes) (sym c.as_slice-2.ensures) c.requires.there.hyps in
    All-weaker (IsOneBit shapes) (λ node. width_at shapes node ≡ 1) (λ node h. h.wide) c.as_slice-2.result.now all

pub prove_goal-requires-clause-one_bit_claims : goal.prove_goal-requires-clause-one_bit_claims
prove_goal-requires-clause-one_bit_claims c =
    let shapes = c.args.arena.now in
    let all : All (IsOneBit shapes) c.as_slice-3.result.now = subst (λ (nodes : List ℕ). All (IsOneBit shapes) nodes) (sym c.as_slice-3.ensures) c.requires.there.claims in
    All-weaker (IsOneBit shapes) (λ node. width_at shapes node ≡ 1) (λ node h. h.wide) c.as_slice-3.result.now all

pub said-requires-clause-choice : goal.said-requires-clause-choice
said-requires-clause-choice c =
    let p = c.args.problem.now in
    let goal = c.args.goal.now in
    let right = right_as c.args.arena.now p.samples.now p.budget c.in_ok-found.found c.as_slice.ensures c.as_slice-2.ensures c.as_slice-3.ensures c.in_ok-found.ensures.right in
    fails_wide p.bound.now.vars c.args.arena.now p.samples.now goal.hyps goal.claims p.budget c.in_ok-found.found right

pub returns-clause-right : goal.returns-clause-right
returns-clause-right c d asked tree poses least is_goal =
    let p = c.args.problem.now in
    let right = right_as c.args.arena.now p.samples.now p.budget c.in_ok-found.found c.as_slice.ensures c.as_slice-2.ensures c.as_slice-3.ensures c.in_ok-found.ensures.right in
    said_right p.flat.now p.bound.now c.args.arena.now p.samples.now tree c.args.goal.now d asked c.len.ensures.arena is_goal poses least
    p.budget c.in_ok-found.found c.said.result right c.said.ensures.verdict c.said.ensures.shown

pub returns-clause-cert : goal.returns-clause-cert
returns-clause-cert c d asked tree poses least is_goal =
    let p = c.args.problem.now in
    let right = right_as c.args.arena.now p.samples.now p.budget c.in_ok-found.found c.as_slice.ensures c.as_slice-2.ensures c.as_slice-3.ensures c.in_ok-found.ensures.right in
    said_certified p.flat.now p.bound.now c.args.arena.now p.samples.now tree c.args.goal.now d asked c.len.ensures.arena is_goal poses least
    p.budget c.in_ok-found.found c.said.result right c.said.ensures.verdict c.said.ensures.cert
