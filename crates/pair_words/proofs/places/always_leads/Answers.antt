use Rattle.std.proofs.Common.{ℕ, ◌-◌, ◌*◌, ◌^◌, ◌%◌, ◌≤◌, arith}
use Rattle.std.proofs.lemmas.Nat.{mul-le}
use Rattle.pair_words.proofs.Starting.{shifted_one, few_bits}
use Rattle.pair_words.proofs.places.always_leads.Goals as goal

pub overflow_mul-most : goal.overflow_mul-most
overflow_mul-most c =
    let bits : ℕ = c.args.bits in
    let le : bits ≤ 8 = omega (arith, c.if-bits-gt8.false) in
    let e = shifted_one bits le in
    let few = few_bits bits le in
    let small : c.from.result ≤ 255 = omega (arith, c.from.ensures, c.ranges.each.fits) in
    let most = mul-le (1 * 2 ^ bits % 2 ^ 128 - 1) c.from.result 255 255 (omega (arith, e, few)) small in
    omega (arith, most)

pub overflow_add-result : goal.overflow_add-result
overflow_add-result c =
    let bits : ℕ = c.args.bits in
    let le : bits ≤ 8 = omega (arith, c.if-bits-gt8.false) in
    let e = shifted_one bits le in
    let few = few_bits bits le in
    let small : c.from.result ≤ 255 = omega (arith, c.from.ensures, c.ranges.each.fits) in
    let most = mul-le (1 * 2 ^ bits % 2 ^ 128 - 1) c.from.result 255 255 (omega (arith, e, few)) small in
    omega (arith, most, c.requires.near)
