use Rattle.std.proofs.Common.{◌∙◌, ◌++◌, ◌∷◌, []}
use Rattle.sv_names.specs.declared.layout.What.TheVariants.{Number}
use Rattle.sv_names.specs.Names.{loops_of}
use Rattle.sv_types.specs.Types.{IsAbove, Left, pushed}
use Rattle.sv_types.proofs.Above.{above_none, above_same, on_err_always, on_ok_always}
use Rattle.std.proofs.lemmas.Result.{IfOk-from_err}
use Rattle.sv_types.proofs.enumerators.declare.Goals as goal

pub returns-in_err-name-clause-above : goal.returns-in_err-name-clause-above
returns-in_err-name-clause-above c = IfOk-from_err _ _ c.from_residual.ensures.0

pub returns-in_err-name-clause-ok : goal.returns-in_err-name-clause-ok
returns-in_err-name-clause-ok c = IfOk-from_err _ _ c.from_residual.ensures.0

pub returns-in_err-push_loop-clause-above : goal.returns-in_err-push_loop-clause-above
returns-in_err-push_loop-clause-above c = IfOk-from_err _ _ c.from_residual-in_err-push_loop.ensures.0

pub returns-in_err-push_loop-clause-ok : goal.returns-in_err-push_loop-clause-ok
returns-in_err-push_loop-clause-ok c = IfOk-from_err _ _ c.from_residual-in_err-push_loop.ensures.0

pub returns-in_err-name-clause-err : goal.returns-in_err-name-clause-err
returns-in_err-name-clause-err c = on_err_always c.from_residual.result (Left c.args.names.now c.args.names.now) ([], above_none c.args.names.now)

pub returns-in_err-push_loop-clause-err : goal.returns-in_err-push_loop-clause-err
returns-in_err-push_loop-clause-err c =
    on_err_always c.from_residual-in_err-push_loop.result (Left c.args.names.now c.push_loop.new.self) ([], above_same c.args.names.now c.push_loop.new.self c.push_loop.ensures.frames c.in_err-push_loop.ensures.err)

pub returns-clause-ok : goal.returns-clause-ok
returns-clause-ok c = c.push.ensures.ok

pub returns-clause-above : goal.returns-clause-above
returns-clause-above c =
    on_ok_always c.push.result (IsAbove c.args.names.now c.push_loop.new.self (pushed c.args.constant ∷ [])) (record {
      frames = c.push_loop.ensures.frames;
      loops = c.in_ok-push_loop.ensures.loops ∙ λ i. loops_of c.args.names.now ++ (c.in_ok-name.ensures i, Number c.args.constant.value) ∷ [];
    })

pub returns-clause-err : goal.returns-clause-err
returns-clause-err c =
    on_err_always c.push.result (Left c.args.names.now c.push_loop.new.self) (
      pushed c.args.constant ∷ [],
      record {
        frames = c.push_loop.ensures.frames;
        loops = c.in_ok-push_loop.ensures.loops ∙ λ i. loops_of c.args.names.now ++ (c.in_ok-name.ensures i, Number c.args.constant.value) ∷ [];
      },
    )
