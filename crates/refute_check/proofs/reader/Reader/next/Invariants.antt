use Rattle.std.proofs.Common.{◌≡◌, drop}
use Rattle.refute_check.specs.Groups.{numbers_from}
use Rattle.refute_check.proofs.reader.Reader.next.Given as goal

-- with the groups so far, the bytes that are left are all numbers
abbrev pub invariant-loop-i : goal.invariant-loop-i
invariant-loop-i l = numbers_from l.front (drop l.i l.bytes) ≡ numbers_from 0 l.bytes
