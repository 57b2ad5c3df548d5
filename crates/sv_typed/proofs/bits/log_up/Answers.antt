use Rattle.std.proofs.Common.{◌≡◌, ℕ, suc, ◌+◌, ◌-◌, sym, ap, ◌∙◌, arith}
use Rattle.sv_meaning.specs.Meanings.{log_from}
use Rattle.sv_typed.proofs.Vectors.{log_here, log_on, log_none, shifted}
use Rattle.sv_typed.proofs.bits.log_up.Goals as goal

pub returns-then-n-k-clause-is : goal.returns-then-n-k-clause-is
returns-then-n-k-clause-is c =
    let k = c.loop-k.k in
    let p = shifted k c.loop-k-test.true in
    let e : 128 - k ≡ suc (127 - k) = omega arith in
    sym (log_here (127 - k) k c.args.n (omega arith)) ∙ ap (λ (f : ℕ). log_from f k c.args.n) (sym e) ∙ c.loop-k.invariant

pub loop-k-preserved : goal.loop-k-preserved
loop-k-preserved c =
    let k = c.loop-k.k in
    let p = shifted k c.loop-k-test.true in
    let e : 128 - k ≡ suc (127 - k) = omega arith in
    let f : 128 - (k + 1) ≡ 127 - k = omega arith in
    let g : k + 1 ≡ suc k = omega arith in
    ap (λ (x : ℕ). log_from x (k + 1) c.args.n) f ∙ ap (λ (x : ℕ). log_from (127 - k) x c.args.n) g ∙ sym (log_on (127 - k) k c.args.n (omega arith)) ∙ ap (λ (x : ℕ). log_from x k c.args.n) (sym e) ∙ c.loop-k.invariant

pub returns-clause-is : goal.returns-clause-is
returns-clause-is c =
    let k = c.loop-k.k in
    let e : k ≡ 128 = omega arith in
    let z : 128 - k ≡ 0 = omega arith in
    sym e ∙ sym (log_none k c.args.n) ∙ ap (λ (x : ℕ). log_from x k c.args.n) (sym z) ∙ c.loop-k.invariant
