use Rattle.std.proofs.Common.{◌≤◌, length}
use Rattle.sv_preproc.specs.Directives as spec
use Rattle.sv_preproc.proofs.Expanding.{SoFar, Refuses}
use Rattle.sv_preproc.specs.Seen.{texts}
use Rattle.sv_preproc.proofs.macros.+expand.Given as goal

abbrev pub decreases-expand : goal.decreases-expand
decreases-expand l = l.depth

abbrev pub invariant-pieces : goal.invariant-pieces
invariant-pieces l = record {
  so_far : SoFar (texts l.macros) l.place l.depth l.text l.fn.out.items l.counted l.rest l.out.items l.total;
  refuses : Refuses (texts l.macros) l.place l.depth l.text l.counted l.rest l.total;
  within : l.total ≤ spec.most_counted;
}

abbrev pub decreases-pieces : goal.decreases-pieces
decreases-pieces l = length l.rest
