use Rattle.std.proofs.Common.{arith, w64, to_z, of_z}
use Rattle.std.proofs.lemmas.Int.{ints, fits_signed_mul}
use Rattle.sv_typing.proofs.picks.in_bits.Goals as goal

pub overflow_mul-result : goal.overflow_mul-result
overflow_mul-result c =
    fits_signed_mul w64 (to_z w64 (of_z w64 c.args.elements)) (to_z w64 c.args.each) 4294967296 128 (omega (arith, ints)) (omega (arith, ints)) (omega arith)
