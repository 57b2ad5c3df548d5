use Rattle.std.proofs.Common.{◌≡◌, ◌++◌, map, take}
use Rattle.refute_check.specs.Packed.{number_of, literal_of}
use Rattle.refute_check.proofs.packing.put_literals.Given as goal

abbrev pub invariant-loop-d : goal.invariant-loop-d
invariant-loop-d l = record {
  put : l.numbers.items ≡ l.fn.numbers.items ++ map number_of (take l.d-index l.clause);
  back : map literal_of (map number_of (take l.d-index l.clause)) ≡ take l.d-index l.clause;
}
