use Rattle.std.proofs.Common.{◌≡◌, drop}
use Rattle.sv_types.specs.declared.enumerators.Enumerator.{Enumerator}
use Rattle.sv_types.specs.Types.{all_declared, declared_is}
use Rattle.sv_hierarchy.specs.Scopes as m
use Rattle.sv_walk.specs.Walks.{state_of}
use Rattle.sv_walk.proofs.walker.Walker.formed.Given as goal

abbrev pub invariant-list : goal.invariant-list
invariant-list l = m.add_constants (all_declared l.label-items) (state_of l.fn.self l.fn.current) ≡ m.walk_all (λ (e : Enumerator). m.add_constant (declared_is e)) (drop l.label-index l.label-items) (state_of l.self l.current)
