use Rattle.std.proofs.Common.{◌≡◌, ℕ, ◌<◌, map, take}
use Rattle.std.specs.Prelude.{slice_index}
use Rattle.svex_arena.specs.Arenas.{IsArena, Extends}
use Rattle.driver_resolve.specs.Drivers.{widths_of}
use Rattle.driver_resolve.specs.declared.driver.NetEq.{NetEq}
use Rattle.event_nets.specs.Needs.{gift_rows}
use Rattle.net_equations.specs.Equations.{seg_at}
use Rattle.net_resolve.specs.Pieces.{IsMade, HasInRun, run_value}
use Rattle.net_resolve.proofs.pieces.equations.Given as goal

abbrev pub invariant-nets : goal.invariant-nets
invariant-nets l = record {
  arena : IsArena l.arena;
  extends : Extends l.fn.arena l.arena;
  segs : map (λ (e : NetEq). e.seg) l.eqs.items ≡ take l.net l.segs;
  each : (i : ℕ) → i < l.net
      → IsMade (widths_of l.wires) l.fn.arena (HasInRun (gift_rows l.rows) (slice_index l.nets i) (seg_at l.segs i).width) (seg_at l.segs i).width
      (run_value (widths_of l.wires) l.fn.arena (gift_rows l.rows) (slice_index l.nets i) (seg_at l.segs i).width) l.arena (slice_index (map (λ (e : NetEq). e.value) l.eqs.items) i);
}
