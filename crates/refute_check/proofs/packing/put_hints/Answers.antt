use Rattle.refute_check.proofs.packing.put_hints.Goals as goal
