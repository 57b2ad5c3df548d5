use Rattle.std.proofs.Common.{◌≡◌, ◌≤◌, ℕ, List, length, reverse}
use Rattle.sv_preproc.specs.Directives as spec
use Rattle.sv_preproc.specs.Laws.{Possible}
use Rattle.sv_preproc.specs.Reached.{Reaches, begun}
use Rattle.sv_preproc.specs.Seen.{seen, point}
use Rattle.sv_preproc.proofs.reading.+read_all.Given as goal

abbrev pub decreases-read_all : goal.decreases-read_all
decreases-read_all g l = l.room

abbrev pub invariant-items : goal.invariant-items
invariant-items g l = record {
  reached : Reaches (Possible (g.F.Files.contents l.fn.files)) l.room (begun (seen l.fn.known) l.fn.out.items l.lines) (point l.live (reverse l.frames.items) (seen l.known) l.out.items l.rest);
  within : l.known.counted ≤ spec.most_counted;
  unchanged : (other : List ℕ) → g.F.Files.contents l.files other ≡ g.F.Files.contents l.fn.files other;
  kept : g.F.Files.faults l.files ≡ g.F.Files.faults l.fn.files;
}

abbrev pub decreases-items : goal.decreases-items
decreases-items g l = length l.rest
