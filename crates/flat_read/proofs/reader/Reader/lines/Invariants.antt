use Rattle.std.proofs.Common.{◌+◌, ◌≤◌, ◌++◌, length, codes}
use Rattle.flat_text.specs.Lines.{ended}
use Rattle.flat_read.specs.States.{IsReader, HasRead}
use Rattle.flat_read.proofs.reader.Reader.lines.Given as goal

abbrev pub invariant-lines : goal.invariant-lines
invariant-lines l = record {
  reader : IsReader l.self;
  so_far : HasRead (ended (codes "flat 1") ++ l.fn.text) l.rest l.read l.self;
  room : l.read + length l.rest ≤ length l.fn.text + 1;
}

abbrev pub decreases-lines : goal.decreases-lines
decreases-lines l = length l.rest
