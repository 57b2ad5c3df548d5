use Rattle.std.proofs.Common.{◌≡◌, ℕ, List}
use Rattle.fourvec.specs.declared.Bit.{Bit}
use Rattle.fourvec.specs.declared.Bit.TheVariants.{Unknown}
use Rattle.driver_resolve.specs.Drivers.{widths_of}
use Rattle.svtv_table.specs.Stimuli.{IsChoice}
use Rattle.svtv_unroll.specs.Unrolled.{IsGrown}
use Rattle.svtv_unroll.specs.Rows.{AllTell, AreRows, IsRow, store_in}
use Rattle.svtv_unroll.proofs.Running.{IsTold}
use Rattle.svtv_unroll.proofs.unrolled.all_rows.Given as goal

abbrev pub invariant-phases : goal.invariant-phases
invariant-phases l = record {
  grown : IsGrown l.fn.fsm l.fsm;
  blank : IsRow l.bound.vars l.fsm.flat.arena (widths_of l.fn.fsm.flat.wires) l.blank.items;
  unknown : (choice : List (List Bit)) → IsChoice l.bound.vars choice → (n k : ℕ) → store_in choice l.fsm.flat.arena l.blank.items n k ≡ Unknown;
  previous : IsRow l.bound.vars l.fsm.flat.arena (widths_of l.fn.fsm.flat.wires) l.previous.items;
  rows : AreRows l.fn.fsm l.bound l.fsm.flat.arena l.rows l.phase;
  tells : AllTell l.fn.fsm l.bound (record { shapes = l.fn.fsm.flat.arena; row = l.start }) l.fsm.flat.arena l.needs l.rows l.phase;
  told : IsTold l.fn.fsm l.bound (record { shapes = l.fn.fsm.flat.arena; row = l.start }) l.fsm.flat.arena l.sets l.needs l.previous.items l.phase;
}
