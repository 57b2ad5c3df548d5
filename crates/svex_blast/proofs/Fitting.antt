-- Bounds on nodes, within the squares of widths.
use Rattle.std.proofs.Common.{ℕ, ◌+◌, ◌*◌, ◌<◌, ◌≤◌, arith}
use Rattle.std.proofs.lemmas.Nat.{mul-le}
use Rattle.svex_shape.specs.declared.shape.Un.{Un}
use Rattle.svex_shape.specs.declared.shape.Un.TheVariants as un
use Rattle.pair_words.specs.declared.pairs.Two.{Two}
use Rattle.pair_words.specs.declared.pairs.Two.TheVariants.{And, Or, Xor, Res, Merge, Keep}
use Rattle.pair_words.specs.Rails.{two_nodes}
use Rattle.svex_blast.specs.Sizes.{unary_gates}

pub two_most : (op : Two) → two_nodes op ≤ 11
two_most And = omega arith
two_most Or = omega arith
two_most Xor = omega arith
two_most Res = omega arith
two_most Merge = omega arith
two_most Keep = omega arith

pub pairs_fit : (k w n : ℕ) → k ≤ 11 → 0 < w → w ≤ n → k * w ≤ 256 * n * n
pairs_fit k w n few some le = omega (arith, mul-le k w 11 w few (omega arith), mul-le w w n n le le, mul-le 1 w w w some (omega arith))

pub choice_fits : (k w n : ℕ) → k ≤ 11 → 0 < w → w ≤ n → k * w + 14 * w ≤ 256 * n * n
choice_fits k w n few some le = omega (arith, mul-le k w 11 w few (omega arith), mul-le w w n n le le, mul-le 1 w w w some (omega arith))

pub numbers_fit : (w n : ℕ) → 0 < w → w ≤ n → 100 * w * w + 20 * w ≤ 256 * n * n
numbers_fit w n some le = omega (arith, mul-le w w n n le le, mul-le 1 w w w some (omega arith))

pub equal_fits : (w n : ℕ) → 0 < w → w ≤ n → 16 * w + 2 ≤ 256 * n * n
equal_fits w n some le = omega (arith, mul-le w w n n le le, mul-le 1 w w w some (omega arith))

pub shift_fits : (a b n : ℕ) → 0 < a → a ≤ n → b ≤ n → 6 * a * b + 8 * b + 2 * a ≤ 256 * n * n
shift_fits a b n some la lb = omega (arith, mul-le a b n n la lb, mul-le 1 n n n (omega arith) (omega arith))

pub bitwise_fits : (k w n : ℕ) → w ≤ n → k * w ≤ k * n
bitwise_fits k w n le = mul-le k w k n (omega arith) le

squares_fit : (n m : ℕ) → n ≤ m → 256 * n * n ≤ 256 * m * m
squares_fit n m le = omega (arith, mul-le n n m m le le)

pub unary_fits : (op : Un) (n m : ℕ) → n ≤ m → unary_gates op n ≤ unary_gates op m
unary_fits un.Unfloat n m le = omega arith
unary_fits un.Not n m le = omega arith
unary_fits un.Neg n m le = squares_fit n m le
unary_fits un.RedAnd n m le = squares_fit n m le
unary_fits un.RedOr n m le = squares_fit n m le
unary_fits un.RedXor n m le = squares_fit n m le
unary_fits un.Truth n m le = squares_fit n m le
