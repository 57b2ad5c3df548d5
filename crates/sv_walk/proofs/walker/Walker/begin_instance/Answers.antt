use Rattle.std.proofs.lemmas.Result.{IfOk-from_err}
use Rattle.std.proofs.Common.{map, refl, ap, ◌∙◌}
use Rattle.sv_levels.specs.Library.{known_is}
use Rattle.sv_levels.specs.Tasks.{given_is}
use Rattle.sv_walk.proofs.Opening.{begun_is, one_front}
use Rattle.sv_walk.proofs.walker.Walker.begin_instance.Goals as goal

pub returns : goal.returns
returns c = λ current.
    begun_is c.args.self.now c.push.new.self c.new-3.result c.new-5.result current (known_is c.args.known) c.args.path c.args.parent (map given_is c.args.given.items)
    (record { path = c.args.path; «module» = c.args.known.number; parent = c.args.parent; around = c.in_ok-around.around; nets = c.new.result; consts = c.new-2.result })
    c.in_ok-push.ensures refl refl refl
    (one_front c.in_ok-around.around c.in_ok-none.none (record { level = 0; nets = 0; consts = c.args.known.above }) c.in_ok-around.ensures c.in_ok-none.ensures)
    c.new.ensures c.new-2.ensures c.new-3.ensures.items (c.new-5.ensures.level ∙ c.len-level.ensures) c.new-5.ensures.constructs (c.new-5.ensures.overridden ∙ ap (map given_is) c.in_ok-overridden.ensures) c.new-5.ensures.taken

pub returns-in_err-none : goal.returns-in_err-none
returns-in_err-none c = λ current. IfOk-from_err _ _ c.from_residual.ensures.0

pub returns-in_err-around : goal.returns-in_err-around
returns-in_err-around c = λ current. IfOk-from_err _ _ c.from_residual-in_err-around.ensures.0

pub returns-in_err-push : goal.returns-in_err-push
returns-in_err-push c = λ current. IfOk-from_err _ _ c.from_residual-in_err-push.ensures.0

pub returns-in_err-overridden : goal.returns-in_err-overridden
returns-in_err-overridden c = λ current. IfOk-from_err _ _ c.from_residual-in_err-overridden.ensures.0
