use Rattle.std.proofs.Common.{subst, sym}
use Rattle.std.specs.Prelude.{IfOk, ◌≡◌}
use Rattle.aig_words.specs.Words.{Obeyed}
use Rattle.fourvec.specs.Bits.{over}
use Rattle.pair_words.specs.declared.pairs.Two.{Two}
use Rattle.pair_words.specs.Rails.{bit_at, bits, two_value}
use Rattle.pair_words.proofs.vectors.over_all.Goals as goal

pub returns-in-Xor-clause-value : goal.returns-in-Xor-clause-value
returns-in-Xor-clause-value c =
    subst (λ (op : Two). IfOk c.xor_all.result (λ r. Obeyed c.xor_all.new.aig (λ v. bit_at v r ≡ over (two_value op) (bit_at v c.args.start) (bits v c.args.a.now)))) (sym c.in-Xor.is) c.xor_all.ensures.value
