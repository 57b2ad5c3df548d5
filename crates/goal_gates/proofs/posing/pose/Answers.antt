use Rattle.std.proofs.lemmas.Result.{IfOk-from_err}
use Rattle.std.proofs.Common.{◌+◌, ap, sym, arith, subst, take, length, length-take-le}
use Rattle.goal_gates.specs.Goals.{goal_of}
use Rattle.goal_gates.specs.Gating.{AreFew}
use Rattle.goal_gates.proofs.Told.{extends_itself, part_fits, part_within, put_from, roots_within, told_from, tells_meets, tells_breaks}
use Rattle.goal_gates.proofs.Fitting.{fits_room}
use Rattle.goal_gates.proofs.posing.pose.Goals as goal

pub returns-clause-meets : goal.returns-clause-meets
returns-clause-meets c =
    let g = goal_of c.args.arena.now c.args.vars.now c.args.samples.now c.args.hyps.now c.args.claims.now in
    let put = put_from g c.substitute.new.self c.in_ok-by.by c.in_ok-roots.roots.items c.deref.result.now c.in_ok-answers.answers.items c.in_ok-by.ensures c.in_ok-roots.ensures c.deref.ensures.value c.len.ensures.arena c.in_ok-answers.ensures.arena c.in_ok-answers.ensures.extends
    c.requires.samples c.requires.chosen c.requires.hyps c.requires.claims c.requires.one_bit c.requires.one_bit_claims c.in_ok-answers.ensures.answers c.in_ok-answers.ensures.replaced in
    let told = told_from g c.substitute.new.self c.in_ok-answers.answers.items _ c.gates_of.new.aig c.in_ok-meets.meets c.in_ok-meets.breaks (ap (take (length c.args.hyps.now + length c.args.claims.now)) c.deref-2.ensures.value) c.in_ok-meets.ensures.told in
    tells_meets g c.substitute.new.self c.in_ok-answers.answers.items c.gates_of.new.aig c.in_ok-meets.meets c.in_ok-meets.breaks put told

pub returns-clause-breaks : goal.returns-clause-breaks
returns-clause-breaks c =
    let g = goal_of c.args.arena.now c.args.vars.now c.args.samples.now c.args.hyps.now c.args.claims.now in
    let put = put_from g c.substitute.new.self c.in_ok-by.by c.in_ok-roots.roots.items c.deref.result.now c.in_ok-answers.answers.items c.in_ok-by.ensures c.in_ok-roots.ensures c.deref.ensures.value c.len.ensures.arena c.in_ok-answers.ensures.arena c.in_ok-answers.ensures.extends
    c.requires.samples c.requires.chosen c.requires.hyps c.requires.claims c.requires.one_bit c.requires.one_bit_claims c.in_ok-answers.ensures.answers c.in_ok-answers.ensures.replaced in
    let told = told_from g c.substitute.new.self c.in_ok-answers.answers.items _ c.gates_of.new.aig c.in_ok-meets.meets c.in_ok-meets.breaks (ap (take (length c.args.hyps.now + length c.args.claims.now)) c.deref-2.ensures.value) c.in_ok-meets.ensures.told in
    tells_breaks g c.substitute.new.self c.in_ok-answers.answers.items c.gates_of.new.aig c.in_ok-meets.meets c.in_ok-meets.breaks put told

pub returns-clause-room : goal.returns-clause-room
returns-clause-room c =
    let g = goal_of c.args.arena.now c.args.vars.now c.args.samples.now c.args.hyps.now c.args.claims.now in
    let put = put_from g c.substitute.new.self c.in_ok-by.by c.in_ok-roots.roots.items c.deref.result.now c.in_ok-answers.answers.items c.in_ok-by.ensures c.in_ok-roots.ensures c.deref.ensures.value c.len.ensures.arena c.in_ok-answers.ensures.arena c.in_ok-answers.ensures.extends
    c.requires.samples c.requires.chosen c.requires.hyps c.requires.claims c.requires.one_bit c.requires.one_bit_claims c.in_ok-answers.ensures.answers c.in_ok-answers.ensures.replaced in
    fits_room g c.substitute.new.self c.in_ok-answers.answers.items c.gates_of.new.aig put
    (subst (λ xs. AreFew c.args.vars.now c.substitute.new.self xs c.gates_of.new.aig) (ap (take (length c.args.hyps.now + length c.args.claims.now)) c.deref-2.ensures.value) c.in_ok-meets.ensures.few)

pub returns-in_err-aig-clause-breaks : goal.returns-in_err-aig-clause-breaks
returns-in_err-aig-clause-breaks c = IfOk-from_err _ _ c.from_residual-in_err-aig.ensures.0

pub returns-in_err-aig-clause-meets : goal.returns-in_err-aig-clause-meets
returns-in_err-aig-clause-meets c = IfOk-from_err _ _ c.from_residual-in_err-aig.ensures.0

pub returns-in_err-aig-clause-room : goal.returns-in_err-aig-clause-room
returns-in_err-aig-clause-room c = IfOk-from_err _ _ c.from_residual-in_err-aig.ensures.0

pub returns-in_err-answers-clause-breaks : goal.returns-in_err-answers-clause-breaks
returns-in_err-answers-clause-breaks c = IfOk-from_err _ _ c.from_residual-in_err-answers.ensures.0

pub returns-in_err-answers-clause-meets : goal.returns-in_err-answers-clause-meets
returns-in_err-answers-clause-meets c = IfOk-from_err _ _ c.from_residual-in_err-answers.ensures.0

pub returns-in_err-answers-clause-room : goal.returns-in_err-answers-clause-room
returns-in_err-answers-clause-room c = IfOk-from_err _ _ c.from_residual-in_err-answers.ensures.0

pub returns-in_err-by-clause-breaks : goal.returns-in_err-by-clause-breaks
returns-in_err-by-clause-breaks c = IfOk-from_err _ _ c.from_residual-in_err-by.ensures.0

pub returns-in_err-by-clause-meets : goal.returns-in_err-by-clause-meets
returns-in_err-by-clause-meets c = IfOk-from_err _ _ c.from_residual-in_err-by.ensures.0

pub returns-in_err-by-clause-room : goal.returns-in_err-by-clause-room
returns-in_err-by-clause-room c = IfOk-from_err _ _ c.from_residual-in_err-by.ensures.0

pub returns-in_err-meets-clause-breaks : goal.returns-in_err-meets-clause-breaks
returns-in_err-meets-clause-breaks c = IfOk-from_err _ _ c.from_residual-in_err-meets.ensures.0

pub returns-in_err-meets-clause-meets : goal.returns-in_err-meets-clause-meets
returns-in_err-meets-clause-meets c = IfOk-from_err _ _ c.from_residual-in_err-meets.ensures.0

pub returns-in_err-meets-clause-room : goal.returns-in_err-meets-clause-room
returns-in_err-meets-clause-room c = IfOk-from_err _ _ c.from_residual-in_err-meets.ensures.0

pub returns-in_err-roots-clause-breaks : goal.returns-in_err-roots-clause-breaks
returns-in_err-roots-clause-breaks c = IfOk-from_err _ _ c.from_residual.ensures.0

pub returns-in_err-roots-clause-meets : goal.returns-in_err-roots-clause-meets
returns-in_err-roots-clause-meets c = IfOk-from_err _ _ c.from_residual.ensures.0

pub returns-in_err-roots-clause-room : goal.returns-in_err-roots-clause-room
returns-in_err-roots-clause-room c = IfOk-from_err _ _ c.from_residual.ensures.0

pub gates_of-requires-clause-count : goal.gates_of-requires-clause-count
gates_of-requires-clause-count c =
    let fits = (part_fits c.args.hyps.now c.args.claims.now c.args.samples.now c.in_ok-roots.roots.items c.deref.result.now c.in_ok-answers.answers.items c.deref-2.result.now c.deref.ensures.value c.in_ok-roots.ensures c.in_ok-answers.ensures.answers.size c.deref-2.ensures.value) in
    omega (arith, length-take-le (length c.args.hyps.now + length c.args.claims.now) c.deref-2.result.now fits)

pub gates_of-requires-clause-roots : goal.gates_of-requires-clause-roots
gates_of-requires-clause-roots c =
    let fits = (part_fits c.args.hyps.now c.args.claims.now c.args.samples.now c.in_ok-roots.roots.items c.deref.result.now c.in_ok-answers.answers.items c.deref-2.result.now c.deref.ensures.value c.in_ok-roots.ensures c.in_ok-answers.ensures.answers.size c.deref-2.ensures.value) in
    part_within (length c.substitute.new.self) (length c.args.hyps.now + length c.args.claims.now) c.deref.result.now c.in_ok-answers.answers.items c.deref-2.result.now c.deref-2.ensures.value c.in_ok-answers.ensures.answers.size fits c.in_ok-answers.ensures.replaced.within

pub substitute-requires : goal.substitute-requires
substitute-requires c =
    roots_within (length c.args.arena.now) c.args.hyps.now c.args.claims.now c.args.samples.now c.in_ok-roots.roots.items c.deref.result.now c.deref.ensures.value c.in_ok-roots.ensures c.requires.hyps c.requires.claims c.requires.samples

pub slice_bounds-gates_of-end : goal.slice_bounds-gates_of-end
slice_bounds-gates_of-end c =
    let fits = (part_fits c.args.hyps.now c.args.claims.now c.args.samples.now c.in_ok-roots.roots.items c.deref.result.now c.in_ok-answers.answers.items c.deref-2.result.now c.deref.ensures.value c.in_ok-roots.ensures c.in_ok-answers.ensures.answers.size c.deref-2.ensures.value) in
    sym (length-take-le (length c.args.hyps.now + length c.args.claims.now) c.deref-2.result.now fits)

pub returns-in_err-roots-clause-extends : goal.returns-in_err-roots-clause-extends
returns-in_err-roots-clause-extends c = extends_itself c.args.arena.now

pub returns-in_err-by-clause-extends : goal.returns-in_err-by-clause-extends
returns-in_err-by-clause-extends c = extends_itself c.args.arena.now

pub returns-in_err-answers-clause-extends : goal.returns-in_err-answers-clause-extends
returns-in_err-answers-clause-extends c = c.substitute.ensures.extends

pub returns-in_err-aig-clause-extends : goal.returns-in_err-aig-clause-extends
returns-in_err-aig-clause-extends c = c.substitute.ensures.extends

pub returns-in_err-meets-clause-extends : goal.returns-in_err-meets-clause-extends
returns-in_err-meets-clause-extends c = c.substitute.ensures.extends

pub returns-clause-extends : goal.returns-clause-extends
returns-clause-extends c = c.in_ok-answers.ensures.extends
