use Rattle.std.proofs.Common.{◌<◌, length, sym, subst, arith}
use Rattle.std.proofs.lemmas.Result.{IfOk-from_err}
use Rattle.aig.specs.declared.gate.Lit.{Lit}
use Rattle.aig.specs.Graph.{holds}
use Rattle.aig.proofs.Growth.{Obeys-older}
use Rattle.aig.proofs.Values.{always_from}
use Rattle.aig_words.specs.Words.{Grew}
use Rattle.aig_words.proofs.Grown.{Grew-then, Grew-wider}
use Rattle.aig_words.proofs.Tables.{holds-negation, less_by}
use Rattle.aig_words.proofs.cells.less_more.Goals as goal

pub returns-clause-value : goal.returns-clause-value
returns-clause-value c = always_from _ _ c.in_ok-less.ensures.value.graph (λ v o.
    let o3 = Obeys-older v _ _ c.in_ok-less.ensures.grew.grows o in
    let o2 = Obeys-older v _ _ c.in_ok-kept.ensures.grows o3 in
    let o1 = Obeys-older v _ _ c.in_ok-above.ensures.grows o2 in
    less_by (holds v c.args.a) (holds v c.args.b) (holds v c.args.last) _ _ _ _ _ _ _
    (holds-negation v c.args.a _ c.not.ensures) (holds-negation v c.args.b _ c.not-2.ensures) (holds-negation v c.in_ok-above.above _ c.not-3.ensures)
    (c.in_ok-below.ensures.value.obeyed v o1) (c.in_ok-above.ensures.value.obeyed v o2) (c.in_ok-kept.ensures.value.obeyed v o3) (c.in_ok-less.ensures.value.obeyed v o))

pub and-requires-clause-a_in : goal.and-requires-clause-a_in
and-requires-clause-a_in c = subst (λ (l : Lit). l.node < length c.args.aig.now) (sym c.not.ensures) c.requires.a_in

pub and-requires-2-clause-a_in : goal.and-requires-2-clause-a_in
and-requires-2-clause-a_in c = omega (arith, c.requires.a_in, c.in_ok-below.ensures.grows.longer)

pub and-requires-2-clause-b_in : goal.and-requires-2-clause-b_in
and-requires-2-clause-b_in c = subst (λ (l : Lit). l.node < length c.and.new.self) (sym c.not-2.ensures) (let b : c.args.b.node < length c.and.new.self = omega (arith, c.requires.b_in, c.in_ok-below.ensures.grows.longer) in b)

pub and-requires-3-clause-a_in : goal.and-requires-3-clause-a_in
and-requires-3-clause-a_in c = omega (arith, c.requires.last_in, c.in_ok-below.ensures.grows.longer, c.in_ok-above.ensures.grows.longer)

pub and-requires-3-clause-b_in : goal.and-requires-3-clause-b_in
and-requires-3-clause-b_in c = subst (λ (l : Lit). l.node < length c.and-2.new.self) (sym c.not-3.ensures) c.in_ok-above.ensures.within

pub or-requires-clause-a_in : goal.or-requires-clause-a_in
or-requires-clause-a_in c = omega (arith, c.in_ok-below.ensures.within, c.in_ok-above.ensures.grows.longer, c.in_ok-kept.ensures.grows.longer)

pub or-requires-clause-b_in : goal.or-requires-clause-b_in
or-requires-clause-b_in c = c.in_ok-kept.ensures.within

pub returns-clause-within : goal.returns-clause-within
returns-clause-within c = c.in_ok-less.ensures.within

pub returns-clause-grew : goal.returns-clause-grew
returns-clause-grew c =
    let g1 : Grew 1 c.args.aig.now c.and.new.self = record { grows = c.in_ok-below.ensures.grows; nodes = c.in_ok-below.ensures.nodes; flat = c.in_ok-below.ensures.flat } in
    let g2 : Grew 1 c.and.new.self c.and-2.new.self = record { grows = c.in_ok-above.ensures.grows; nodes = c.in_ok-above.ensures.nodes; flat = c.in_ok-above.ensures.flat } in
    let g3 : Grew 1 c.and-2.new.self c.and-3.new.self = record { grows = c.in_ok-kept.ensures.grows; nodes = c.in_ok-kept.ensures.nodes; flat = c.in_ok-kept.ensures.flat } in
    Grew-then 3 1 4 c.args.aig.now c.and-3.new.self _ (omega arith) (Grew-then 2 1 3 c.args.aig.now c.and-2.new.self _ (omega arith) (Grew-then 1 1 2 c.args.aig.now c.and.new.self _ (omega arith) g1 g2) g3) c.in_ok-less.ensures.grew

pub returns-in_err-below-clause-grew : goal.returns-in_err-below-clause-grew
returns-in_err-below-clause-grew c =
    let g1 : Grew 1 c.args.aig.now c.and.new.self = record { grows = c.in_err-below.ensures.grows; nodes = c.in_err-below.ensures.nodes; flat = c.in_err-below.ensures.flat } in
    Grew-wider 1 4 c.args.aig.now _ (omega arith) g1

pub returns-in_err-above-clause-grew : goal.returns-in_err-above-clause-grew
returns-in_err-above-clause-grew c =
    let g1 : Grew 1 c.args.aig.now c.and.new.self = record { grows = c.in_ok-below.ensures.grows; nodes = c.in_ok-below.ensures.nodes; flat = c.in_ok-below.ensures.flat } in
    let g2 : Grew 1 c.and.new.self c.and-2.new.self = record { grows = c.in_err-above.ensures.grows; nodes = c.in_err-above.ensures.nodes; flat = c.in_err-above.ensures.flat } in
    Grew-then 1 1 4 c.args.aig.now c.and.new.self _ (omega arith) g1 g2

pub returns-in_err-kept-clause-grew : goal.returns-in_err-kept-clause-grew
returns-in_err-kept-clause-grew c =
    let g1 : Grew 1 c.args.aig.now c.and.new.self = record { grows = c.in_ok-below.ensures.grows; nodes = c.in_ok-below.ensures.nodes; flat = c.in_ok-below.ensures.flat } in
    let g2 : Grew 1 c.and.new.self c.and-2.new.self = record { grows = c.in_ok-above.ensures.grows; nodes = c.in_ok-above.ensures.nodes; flat = c.in_ok-above.ensures.flat } in
    let g3 : Grew 1 c.and-2.new.self c.and-3.new.self = record { grows = c.in_err-kept.ensures.grows; nodes = c.in_err-kept.ensures.nodes; flat = c.in_err-kept.ensures.flat } in
    Grew-then 2 1 4 c.args.aig.now c.and-2.new.self _ (omega arith) (Grew-then 1 1 2 c.args.aig.now c.and.new.self _ (omega arith) g1 g2) g3

pub returns-in_err-less-clause-grew : goal.returns-in_err-less-clause-grew
returns-in_err-less-clause-grew c =
    let g1 : Grew 1 c.args.aig.now c.and.new.self = record { grows = c.in_ok-below.ensures.grows; nodes = c.in_ok-below.ensures.nodes; flat = c.in_ok-below.ensures.flat } in
    let g2 : Grew 1 c.and.new.self c.and-2.new.self = record { grows = c.in_ok-above.ensures.grows; nodes = c.in_ok-above.ensures.nodes; flat = c.in_ok-above.ensures.flat } in
    let g3 : Grew 1 c.and-2.new.self c.and-3.new.self = record { grows = c.in_ok-kept.ensures.grows; nodes = c.in_ok-kept.ensures.nodes; flat = c.in_ok-kept.ensures.flat } in
    Grew-then 3 1 4 c.args.aig.now c.and-3.new.self _ (omega arith) (Grew-then 2 1 3 c.args.aig.now c.and-2.new.self _ (omega arith) (Grew-then 1 1 2 c.args.aig.now c.and.new.self _ (omega arith) g1 g2) g3) c.in_err-less.ensures.grew

pub returns-in_err-below-clause-within : goal.returns-in_err-below-clause-within
returns-in_err-below-clause-within c = IfOk-from_err _ _ c.from_residual.ensures.0

pub returns-in_err-below-clause-value : goal.returns-in_err-below-clause-value
returns-in_err-below-clause-value c = IfOk-from_err _ _ c.from_residual.ensures.0

pub returns-in_err-above-clause-within : goal.returns-in_err-above-clause-within
returns-in_err-above-clause-within c = IfOk-from_err _ _ c.from_residual-in_err-above.ensures.0

pub returns-in_err-above-clause-value : goal.returns-in_err-above-clause-value
returns-in_err-above-clause-value c = IfOk-from_err _ _ c.from_residual-in_err-above.ensures.0

pub returns-in_err-kept-clause-within : goal.returns-in_err-kept-clause-within
returns-in_err-kept-clause-within c = IfOk-from_err _ _ c.from_residual-in_err-kept.ensures.0

pub returns-in_err-kept-clause-value : goal.returns-in_err-kept-clause-value
returns-in_err-kept-clause-value c = IfOk-from_err _ _ c.from_residual-in_err-kept.ensures.0

pub returns-in_err-less-clause-within : goal.returns-in_err-less-clause-within
returns-in_err-less-clause-within c = IfOk-from_err _ _ c.from_residual-in_err-less.ensures.0

pub returns-in_err-less-clause-value : goal.returns-in_err-less-clause-value
returns-in_err-less-clause-value c = IfOk-from_err _ _ c.from_residual-in_err-less.ensures.0
