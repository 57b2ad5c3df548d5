use Rattle.sv_scope.proofs.Filed.{Filed}
use Rattle.sv_scope.proofs.file.file_level.Given as goal
use Rattle.sv_walk.specs.Walks.{state_of}

abbrev pub invariant-parts : goal.invariant-parts
invariant-parts l = Filed l.parts l.part-index (state_of l.fn.walker l.fn.current) (state_of l.walker l.current) l.listed
