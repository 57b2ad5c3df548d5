use Rattle.std.proofs.Common.{ℕ, List, length}
use Rattle.svtv_table.specs.declared.bound.VarDecl.{VarDecl}
use Rattle.svex_arena.specs.Arenas.{IsArena, Extends}
use Rattle.svtv_induct.specs.States.{AreJoined, AreOwn, AreWideFirsts}
use Rattle.svtv_induct.proofs.state.joined_row.Given as goal

abbrev pub invariant-wires : goal.invariant-wires
invariant-wires l = record {
  joined : (vars : List VarDecl) (widths : List ℕ) (before : ℕ) → AreOwn vars l.fn.arena widths before l.own (length widths) → AreWideFirsts widths l.firsts → AreJoined vars l.arena widths before l.firsts l.row.items l.at;
  extends : Extends l.fn.arena l.arena;
  arena : IsArena l.arena;
}
