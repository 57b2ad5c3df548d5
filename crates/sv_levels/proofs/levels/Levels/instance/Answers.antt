use Rattle.std.proofs.Common.{◌≡◌, ◌∙◌, sym, ap, length, option_map, ◌+◌, refl, arith}
use Rattle.std.proofs.lemmas.List.{length-map}
use Rattle.std.proofs.lemmas.Option.{slice_get_past}
use Rattle.sv_levels.specs.Levels.{instance_is}
use Rattle.sv_levels.specs.Levels.{level_is, levels_are}
use Rattle.sv_levels.proofs.LevelsHeld.{got, not_got, parent_is, instance_past, instance_shown}
use Rattle.sv_levels.proofs.levels.Levels.instance.Goals as goal

pub returns-then-number-count : goal.returns-then-number-count
returns-then-number-count c =
    let e : length c.args.self.now.list.items ≡ c.len-count.result = sym (length-map c.args.self.now.list.items level_is) ∙ sym c.len-count.ensures in
    sym (instance_past c.args.self.now.list.items c.args.number (c.args.number + 1) refl (slice_get_past c.args.self.now.list.items (c.args.number + 1) (omega (arith, e, c.if-number-count.true))))

pub returns-in_err-found : goal.returns-in_err-found
returns-in_err-found c =
    ap (option_map (instance_is (levels_are c.args.self.now))) c.from_residual.ensures
    ∙ sym (instance_past c.args.self.now.list.items c.args.number (c.args.number + 1) refl (not_got c.deref.result.now c.args.self.now.list.items (c.args.number + 1) c.deref.ensures.value c.in_err-found.ensures.lookup.3))

pub returns : goal.returns
returns c =
    sym (instance_shown c.args.self.now.list.items c.args.number (c.args.number + 1) c.in_ok-found.found.now c.checked_sub.result c.len.result c.len-2.result refl
    (got c.deref.result.now c.args.self.now.list.items (c.args.number + 1) c.in_ok-found.found.now c.deref.ensures.value c.in_ok-found.ensures.lookup.3.0 c.in_ok-found.ensures.lookup.1)
    (parent_is c.checked_sub.result c.in_ok-found.found.now.parent c.checked_sub.ensures) c.len.ensures c.len-2.ensures)
