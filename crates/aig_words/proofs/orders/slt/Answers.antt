use Rattle.std.proofs.lemmas.Result.{IfOk-from_err}
use Rattle.aig.proofs.Growth.{Obeys-older}
use Rattle.aig.proofs.Values.{always_from}
use Rattle.aig_words.proofs.Numbers.{signed_less}
use Rattle.aig_words.proofs.Grown.{some_node, Grew-then, Grew-wider, IsIn-later}
use Rattle.std.proofs.Common.{◌-◌, ◌*◌, false, length, get_or, sym, ◌∙◌, arith}
use Rattle.std.proofs.lemmas.List.{length-take-le}
use Rattle.std.proofs.lemmas.List.Elements.{All-take}
use Rattle.aig.specs.Graph.{constant_lit, IsIn}
use Rattle.aig_words.proofs.orders.slt.Goals as goal

pub is_less-requires-clause-same : goal.is_less-requires-clause-same
is_less-requires-clause-same c = length-take-le (length c.args.a.now - 1) c.args.a.now (omega arith) ∙ sym (length-take-le (length c.args.a.now - 1) c.args.b.now (omega (arith, c.requires.same)))

pub is_less-requires-clause-a_in : goal.is_less-requires-clause-a_in
is_less-requires-clause-a_in c = All-take (IsIn c.args.aig.now) (length c.args.a.now - 1) c.args.a.now c.requires.a_in

pub is_less-requires-clause-b_in : goal.is_less-requires-clause-b_in
is_less-requires-clause-b_in c = All-take (IsIn c.args.aig.now) (length c.args.a.now - 1) c.args.b.now c.requires.b_in

pub less_more-requires-clause-a_in : goal.less_more-requires-clause-a_in
less_more-requires-clause-a_in c = IsIn-later c.args.aig.now c.is_less.new.aig (get_or c.args.b.now (length c.args.a.now - 1) (constant_lit false)) c.in_ok-low.ensures.grew.grows (c.requires.b_in (length c.args.a.now - 1) (constant_lit false) (omega (arith, c.requires.some, c.requires.same)))

pub less_more-requires-clause-b_in : goal.less_more-requires-clause-b_in
less_more-requires-clause-b_in c = IsIn-later c.args.aig.now c.is_less.new.aig (get_or c.args.a.now (length c.args.a.now - 1) (constant_lit false)) c.in_ok-low.ensures.grew.grows (c.requires.a_in (length c.args.a.now - 1) (constant_lit false) (omega (arith, c.requires.some)))

pub less_more-requires-clause-last_in : goal.less_more-requires-clause-last_in
less_more-requires-clause-last_in c = c.in_ok-low.ensures.within

pub returns-clause-within : goal.returns-clause-within
returns-clause-within c = c.in_ok-less.ensures.within

pub returns-clause-grew : goal.returns-clause-grew
returns-clause-grew c = Grew-then _ 4 (4 * length c.args.a.now) c.args.aig.now c.is_less.new.aig _
    (omega (arith, c.requires.some, length-take-le (length c.args.a.now - 1) c.args.a.now (omega arith))) c.in_ok-low.ensures.grew c.in_ok-less.ensures.grew

pub returns-in_err-low-clause-grew : goal.returns-in_err-low-clause-grew
returns-in_err-low-clause-grew c = Grew-wider _ (4 * length c.args.a.now) c.args.aig.now _ (omega (arith, length-take-le (length c.args.a.now - 1) c.args.a.now (omega arith))) c.in_err-low.ensures.grew

pub returns-in_err-less-clause-grew : goal.returns-in_err-less-clause-grew
returns-in_err-less-clause-grew c = Grew-then _ 4 (4 * length c.args.a.now) c.args.aig.now c.is_less.new.aig _
    (omega (arith, c.requires.some, length-take-le (length c.args.a.now - 1) c.args.a.now (omega arith))) c.in_ok-low.ensures.grew c.in_err-less.ensures.grew

pub is_less-requires-clause-node : goal.is_less-requires-clause-node
is_less-requires-clause-node c = some_node c.args.aig.now c.args.a.now c.requires.some c.requires.a_in

pub returns-clause-value : goal.returns-clause-value
returns-clause-value c = always_from _ _ c.in_ok-less.ensures.value.graph (λ v o.
    signed_less v c.args.a.now c.args.b.now _ _ c.requires.some c.requires.same
    (c.in_ok-low.ensures.value v (Obeys-older v _ _ c.in_ok-less.ensures.grew.grows o)) (c.in_ok-less.ensures.value.obeyed v o))

pub returns-in_err-less-clause-value : goal.returns-in_err-less-clause-value
returns-in_err-less-clause-value c = IfOk-from_err _ _ c.from_residual-in_err-less.ensures.0

pub returns-in_err-less-clause-within : goal.returns-in_err-less-clause-within
returns-in_err-less-clause-within c = IfOk-from_err _ _ c.from_residual-in_err-less.ensures.0

pub returns-in_err-low-clause-value : goal.returns-in_err-low-clause-value
returns-in_err-low-clause-value c = IfOk-from_err _ _ c.from_residual.ensures.0

pub returns-in_err-low-clause-within : goal.returns-in_err-low-clause-within
returns-in_err-low-clause-within c = IfOk-from_err _ _ c.from_residual.ensures.0
