use Rattle.std.proofs.Common.{ℕ, ◌*◌, ◌∙◌, ◌+◌, length, arith}
use Rattle.std.proofs.lemmas.Result.{IfOk-from_err}
use Rattle.aig.specs.Graph.{holds}
use Rattle.aig.proofs.Growth.{Obeys-older, Grows-trans}
use Rattle.aig_words.specs.Words.{number}
use Rattle.aig_words.proofs.Grown.{if_ok, Grew-then, Grew-wider, IsIn-later, All-later}
use Rattle.pair_words.proofs.Starting.{leads_by}
use Rattle.pair_words.proofs.indexes.leads.Goals as goal

pub returns-clause-value : goal.returns-clause-value
returns-clause-value c = if_ok c.pick.result _ _ c.pick.ensures.value (λ r h v o.
    let o2 = Obeys-older v _ _ c.pick.ensures.grew.grows o in
    let o1 = Obeys-older v _ _ c.in_ok-down.ensures.grew.grows o2 in
    let p : ℕ = number v c.args.far.now * c.args.each in
    leads_by (holds v c.args.back) (holds v c.in_ok-down.down) (holds v c.in_ok-up.up) _ (number v c.args.far.now) c.args.each c.args.start.back c.args.start.far c.args.t
    (c.in_ok-up.ensures.value v o1 ∙ c.distance_up.ensures p) (c.in_ok-down.ensures.value v o2 ∙ c.distance_down.ensures p) (h.obeyed v o))

pub returns-in_err-down-clause-value : goal.returns-in_err-down-clause-value
returns-in_err-down-clause-value c = IfOk-from_err _ _ c.from_residual-in_err-down.ensures.0

pub returns-in_err-down-clause-within : goal.returns-in_err-down-clause-within
returns-in_err-down-clause-within c = IfOk-from_err _ _ c.from_residual-in_err-down.ensures.0

pub returns-in_err-up-clause-value : goal.returns-in_err-up-clause-value
returns-in_err-up-clause-value c = IfOk-from_err _ _ c.from_residual.ensures.0

pub returns-in_err-up-clause-within : goal.returns-in_err-up-clause-within
returns-in_err-up-clause-within c = IfOk-from_err _ _ c.from_residual.ensures.0

pub distance_up-requires-clause-small : goal.distance_up-requires-clause-small
distance_up-requires-clause-small c = c.requires.small

pub distance_up-requires-clause-near : goal.distance_up-requires-clause-near
distance_up-requires-clause-near c = c.requires.near

pub distance_down-requires-clause-small : goal.distance_down-requires-clause-small
distance_down-requires-clause-small c = c.requires.small

pub distance_down-requires-clause-near : goal.distance_down-requires-clause-near
distance_down-requires-clause-near c = c.requires.near

pub goes_as_far-requires-clause-node : goal.goes_as_far-requires-clause-node
goes_as_far-requires-clause-node c = c.requires.node

pub goes_as_far-requires-clause-word_in : goal.goes_as_far-requires-clause-word_in
goes_as_far-requires-clause-word_in c = c.requires.far_in

pub goes_as_far-requires-2-clause-node : goal.goes_as_far-requires-2-clause-node
goes_as_far-requires-2-clause-node c = let longer = c.in_ok-up.ensures.grew.grows.longer in omega (arith, c.requires.node, longer)

pub goes_as_far-requires-2-clause-word_in : goal.goes_as_far-requires-2-clause-word_in
goes_as_far-requires-2-clause-word_in c = All-later c.args.aig.now c.goes_as_far.new.aig c.args.far.now c.in_ok-up.ensures.grew.grows c.requires.far_in

pub pick-requires-clause-c_in : goal.pick-requires-clause-c_in
pick-requires-clause-c_in c = IsIn-later c.args.aig.now c.goes_as_far-2.new.aig c.args.back (Grows-trans c.args.aig.now c.goes_as_far.new.aig c.goes_as_far-2.new.aig c.in_ok-up.ensures.grew.grows c.in_ok-down.ensures.grew.grows) c.requires.back_in

pub pick-requires-clause-a_in : goal.pick-requires-clause-a_in
pick-requires-clause-a_in c = c.in_ok-down.ensures.within

pub pick-requires-clause-b_in : goal.pick-requires-clause-b_in
pick-requires-clause-b_in c = IsIn-later c.goes_as_far.new.aig c.goes_as_far-2.new.aig c.in_ok-up.up c.in_ok-down.ensures.grew.grows c.in_ok-up.ensures.within

pub returns-clause-within : goal.returns-clause-within
returns-clause-within c = c.pick.ensures.within

pub returns-clause-grew : goal.returns-clause-grew
returns-clause-grew c = let n : ℕ = length c.args.far.now in Grew-then (2 * n) 3 (2 * n + 3) c.args.aig.now c.goes_as_far-2.new.aig c.pick.new.aig (omega arith) (Grew-then n n (2 * n) c.args.aig.now c.goes_as_far.new.aig c.goes_as_far-2.new.aig (omega arith) c.in_ok-up.ensures.grew c.in_ok-down.ensures.grew) c.pick.ensures.grew

pub returns-in_err-up-clause-grew : goal.returns-in_err-up-clause-grew
returns-in_err-up-clause-grew c = let n : ℕ = length c.args.far.now in Grew-wider n (2 * n + 3) c.args.aig.now c.goes_as_far.new.aig (omega arith) c.in_err-up.ensures.grew

pub returns-in_err-down-clause-grew : goal.returns-in_err-down-clause-grew
returns-in_err-down-clause-grew c = let n : ℕ = length c.args.far.now in Grew-then n n (2 * n + 3) c.args.aig.now c.goes_as_far.new.aig c.goes_as_far-2.new.aig (omega arith) c.in_ok-up.ensures.grew c.in_err-down.ensures.grew
