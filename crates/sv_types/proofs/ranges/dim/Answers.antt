use Rattle.std.proofs.lemmas.Result.{IfOk-from_err}
use Rattle.std.proofs.Common.{ℕ, ◌*◌, ◌≤◌, ap, sym, subst, arith}
use Rattle.sv_names.proofs.Sound.{sound_some, sound_depth, some_bits}
use Rattle.sv_typing.proofs.Counts.{times_some}
use Rattle.sv_types.proofs.Ranging.{dim_made, dim_made_sound, count_some}
use Rattle.sv_types.proofs.ranges.dim.Goals as goal

pub overflow_cast-width : goal.overflow_cast-width
overflow_cast-width c =
    let w = c.args.each.width in
    let m : c.count.result * w ≤ 128 = subst (λ (n : ℕ). n * w ≤ 128) (sym c.count.ensures) c.requires.most in
    let k = times_some c.count.result w (sound_some c.args.each c.requires.sound) in
    omega arith

pub overflow_add-each : goal.overflow_add-each
overflow_add-each c = let d = sound_depth c.args.each c.requires.sound in omega arith

pub returns-clause-is : goal.returns-clause-is
returns-clause-is c = dim_made c.args.signed c.args.bounds.left c.args.bounds.right _ c.args.each c.in_ok-each.ensures c.args.bounds.left_fits c.args.bounds.right_fits

pub returns-clause-sound : goal.returns-clause-sound
returns-clause-sound c =
    let w = c.args.each.width in
    let s = some_bits c.count.result w (subst (λ (n : ℕ). 1 ≤ n) (sym c.count.ensures) (count_some c.args.bounds.left c.args.bounds.right)) (sound_some c.args.each c.requires.sound) in
    dim_made_sound (c.count.result * w) c.args.signed c.min-depth.result c.args.bounds.left c.args.bounds.right _ c.args.each c.in_ok-each.ensures c.requires.sound c.args.bounds.left_fits c.args.bounds.right_fits
    (ap (λ (n : ℕ). n * w) c.count.ensures) s (subst (λ (n : ℕ). n * w ≤ 128) (sym c.count.ensures) c.requires.most) c.min-depth.ensures

pub returns-in_err-each-clause-is : goal.returns-in_err-each-clause-is
returns-in_err-each-clause-is c = IfOk-from_err _ _ c.from_residual.ensures.0

pub returns-in_err-each-clause-sound : goal.returns-in_err-each-clause-sound
returns-in_err-each-clause-sound c = IfOk-from_err _ _ c.from_residual.ensures.0
