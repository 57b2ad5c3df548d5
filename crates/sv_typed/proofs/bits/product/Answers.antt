use Rattle.std.proofs.Common.{◌≡◌, ◌*◌, ◌/◌, ◌%◌, ◌^◌, ℕ, sym, subst, arith}
use Rattle.sv_typed.proofs.Powers.{even_step, odd_step}
use Rattle.sv_typed.proofs.bits.product.Goals as goal
use Rattle.sv_typed.proofs.bits.product.Goals.{then-rest-eq1, else-rest-eq1}

pub loop-rest-preserved : goal.loop-rest-preserved
loop-rest-preserved c =
    let s = c.loop-rest.square in
    let r = c.loop-rest.rest in
    let m : ℕ = 340282366920938463463374607431768211456 in
    let P : ℕ → Type 0 = λ x. (x * ((s * s) % m) ^ (r / 2)) % m ≡ c.args.base ^ c.args.exponent % m in
    elim c.if-rest-eq1.branch [
      | then-rest-eq1 w ↦ subst P (sym w.all-is) (odd_step c.loop-rest.all s r (c.args.base ^ c.args.exponent % m) m w.if-rest-eq1.true c.loop-rest.invariant)
      | else-rest-eq1 w ↦ subst P (sym w.all-is) (even_step c.loop-rest.all s r (c.args.base ^ c.args.exponent % m) m (let n = w.if-rest-eq1.false in omega arith) c.loop-rest.invariant)
    ]
