use Rattle.std.proofs.Common.{ℕ, List, take}
use Rattle.std.specs.List.{All}
use Rattle.lhs_alias.specs.Lies.{LieIn}
use Rattle.svex_arena.specs.Arenas.{Extends}
use Rattle.sv_elab.specs.Working.{PutAll}
use Rattle.sv_elab.proofs.parts.part_drivers.Given as goal

abbrev pub invariant-parts : goal.invariant-parts
invariant-parts l = record {
  stays : Extends l.fn.arena l.arena;
  made : (widths : List ℕ) → All (λ p. LieIn widths p.to) l.parts → PutAll widths l.fn.arena l.arena l.value (take l.part-index l.parts) l.all;
}
