use Rattle.std.proofs.Common.{◌≡◌, ◌<◌, ℕ, List, [], length, get_or, arith, sym, subst}
use Rattle.std.proofs.lemmas.List.{length-map}
use Rattle.std.proofs.lemmas.Result.{IfOk-weaker}
use Rattle.driver_resolve.specs.Drivers.{widths_of}
use Rattle.sv_outside.specs.declared.text.Signal.{Signal}
use Rattle.svtv_induct.specs.States.{AreJoined, AreOwn, ArePartsOf}
use Rattle.svtv_induct.proofs.Joined.{joined_as, parts_of, row_of_joined, wire_has_width}
use Rattle.svtv_induct.proofs.state.state_row.Goals as goal

pub joined_row-requires-clause-parts : goal.joined_row-requires-clause-parts
joined_row-requires-clause-parts c = λ n l.
    let vars = c.args.vars.now in
    let widths : List ℕ = widths_of c.args.wires.now in
    let many : length widths ≡ length c.args.wires.now = length-map c.args.wires.now (λ (s : Signal). s.width) in
    let own : AreOwn vars c.own_nodes.new.arena widths c.args.before c.in_ok-own.own.items (length widths) = subst (λ k. AreOwn vars c.own_nodes.new.arena widths c.args.before c.in_ok-own.own.items k) (sym many) c.in_ok-own.ensures.own in
    let inside : n < length widths = omega (arith, l, c.requires.firsts.many) in
    subst (λ (nodes : List ℕ). ArePartsOf c.own_nodes.new.arena nodes (get_or c.args.firsts.now n [])) (sym c.deref.ensures.value)
    (parts_of vars c.own_nodes.new.arena widths c.args.before c.in_ok-own.own.items c.args.firsts.now n (wire_has_width vars widths c.args.before n c.requires.widths c.requires.wires inside) own c.requires.firsts inside)

pub returns-clause-row : goal.returns-clause-row
returns-clause-row c =
    let vars = c.args.vars.now in
    let widths : List ℕ = widths_of c.args.wires.now in
    let many : length widths ≡ length c.args.wires.now = length-map c.args.wires.now (λ (s : Signal). s.width) in
    IfOk-weaker c.joined_row.result _ _
    (λ row h. row_of_joined vars c.joined_row.new.arena widths c.args.before c.args.firsts.now row.items
    (joined_as vars c.own_nodes.new.arena c.joined_row.new.arena widths c.args.before c.in_ok-own.own.items c.deref.result.now c.args.firsts.now row.items (length c.args.wires.now) c.deref.ensures.value many c.in_ok-own.ensures.own c.requires.firsts h))
    c.joined_row.ensures.joined

pub returns-clause-joined : goal.returns-clause-joined
returns-clause-joined c =
    let vars = c.args.vars.now in
    let widths : List ℕ = widths_of c.args.wires.now in
    let many : length widths ≡ length c.args.wires.now = length-map c.args.wires.now (λ (s : Signal). s.width) in
    IfOk-weaker c.joined_row.result _ _
    (λ row h. subst (λ k. AreJoined vars c.joined_row.new.arena widths c.args.before c.args.firsts.now row.items k) many
    (joined_as vars c.own_nodes.new.arena c.joined_row.new.arena widths c.args.before c.in_ok-own.own.items c.deref.result.now c.args.firsts.now row.items (length c.args.wires.now) c.deref.ensures.value many c.in_ok-own.ensures.own c.requires.firsts h))
    c.joined_row.ensures.joined
