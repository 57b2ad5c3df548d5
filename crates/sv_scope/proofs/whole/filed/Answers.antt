use Rattle.sv_outside.specs.declared.refusal.TextErr.TheVariants.{Memory}
use Rattle.sv_hierarchy.specs.Scopes as m
use Rattle.sv_walk.proofs.Opening.{Reached}
use Rattle.sv_levels.proofs.ByNumber.{answers_memory}
use Rattle.sv_scope.proofs.WholeDesign.{reads_refused}
use Rattle.sv_scope.proofs.whole.filed.Goals as goal

pub returns-in_err-file : goal.returns-in_err-file
returns-in_err-file c = reads_refused c.args.source.now c.begin_file.new.self c.from_residual.result Memory c.from_residual.ensures.1 (λ top. answers_memory Reached (m.scopes c.args.source.now top))

pub returns-in_err-library : goal.returns-in_err-library
returns-in_err-library c = reads_refused c.args.source.now c.read_library.new.walker c.from_residual-in_err-library.result c.in_err-library.field-0.0 c.from_residual-in_err-library.ensures.1 c.in_err-library.ensures

pub returns : goal.returns
returns c = c.in_ok-library.ensures
