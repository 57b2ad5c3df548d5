use Rattle.std.proofs.Common.{ℕ, ◌*◌, ◌≤◌, sym, subst}
use Rattle.std.specs.List.{Contains}
use Rattle.std.proofs.lemmas.Result.{err_from_is_err_and}
use Rattle.sv_meaning.specs.Faults.{faults_of}
use Rattle.sv_names.proofs.Sound.{sound_some, sound_depth}
use Rattle.sv_types.specs.Types.{ranged_form}
use Rattle.sv_types.proofs.Ranging.{sound_ok, made, makes_bits, bounds_ok, bounds_err, layout_err, layout_ok, ranged_left, ranged_ok, ranged_wide, ranged_right}
use Rattle.sv_types.proofs.ranges.ranged.Goals as goal

pub returns-in_err-bounds : goal.returns-in_err-bounds
returns-in_err-bounds c = λ j k h i.
    let p = err_from_is_err_and c.from_residual.result c.from_residual.ensures.1 in
    rw (p.1, p.2) (ranged_right j k c.args.place c.args.signed c.in_err-bounds.field-0.0 (bounds_err k c.args.bounds c.in_err-bounds.field-0.0 c.in_err-bounds.was i))

pub make_range-requires : goal.make_range-requires
make_range-requires c = sound_some c.in_ok-each.each (sound_ok c.args.each c.in_ok-each.each c.in_ok-each.was c.requires.sound)

pub dim-requires-clause-most : goal.dim-requires-clause-most
dim-requires-clause-most c =
    subst (λ (n : ℕ). n * c.in_ok-each.each.width ≤ 128) c.count.ensures (makes_bits c.count.result c.in_ok-each.each.width c.in_ok-each.each.depth c.make_range.result c.make_range.ensures c.if-make_range.true)

pub returns-in_ok-dim : goal.returns-in_ok-dim
returns-in_ok-dim c = λ j k h i.
    ranged_ok j k c.args.place c.args.signed c.in_ok-each.each c.in_ok-dim.field-0 c.in_ok-each.each.depth c.in_ok-bounds.bounds c.make_range.result (layout_ok j c.args.each c.in_ok-each.each c.in_ok-each.was h) (bounds_ok k c.args.bounds c.in_ok-bounds.bounds c.in_ok-bounds.was i)
    (sound_depth c.in_ok-each.each (sound_ok c.args.each c.in_ok-each.each c.in_ok-each.was c.requires.sound)) (made c.in_ok-each.each c.in_ok-bounds.bounds c.in_ok-each.each.depth c.count.result c.make_range.result c.count.ensures c.make_range.ensures) c.if-make_range.true
    c.in_ok-dim.ensures.is c.in_ok-dim.ensures.sound

pub returns-else-make_range : goal.returns-else-make_range
returns-else-make_range c = λ j k h i.
    subst (Contains (faults_of (ranged_form c.args.place c.args.signed j k))) (sym c.refusal.ensures)
    (ranged_wide j k c.args.place c.args.signed c.in_ok-each.each c.in_ok-each.each.depth c.in_ok-bounds.bounds c.make_range.result (layout_ok j c.args.each c.in_ok-each.each c.in_ok-each.was h) (bounds_ok k c.args.bounds c.in_ok-bounds.bounds c.in_ok-bounds.was i)
    (sound_depth c.in_ok-each.each (sound_ok c.args.each c.in_ok-each.each c.in_ok-each.was c.requires.sound)) (made c.in_ok-each.each c.in_ok-bounds.bounds c.in_ok-each.each.depth c.count.result c.make_range.result c.count.ensures c.make_range.ensures) c.if-make_range.false)

pub returns-in_err-each : goal.returns-in_err-each
returns-in_err-each c = λ j k h i.
    let p = err_from_is_err_and c.from_residual-in_err-each.result c.from_residual-in_err-each.ensures.1 in
    rw (p.1, p.2) (ranged_left j k c.args.place c.args.signed c.in_err-each.field-0.0 (layout_err j c.args.each c.in_err-each.field-0.0 c.in_err-each.was h))

pub dim-requires-clause-sound : goal.dim-requires-clause-sound
dim-requires-clause-sound c = sound_ok c.args.each c.in_ok-each.each c.in_ok-each.was c.requires.sound
