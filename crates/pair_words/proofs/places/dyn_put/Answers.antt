use Rattle.std.proofs.Common.{◌*◌, length}
use Rattle.aig_words.proofs.Grown.{Grew-wider}
use Rattle.pair_words.proofs.Laying.{puts_fit}
use Rattle.pair_words.proofs.places.dyn_put.Goals as goal

pub returns-clause-grew : goal.returns-clause-grew
returns-clause-grew c = λ n la lt lw. Grew-wider _ (256 * n * n) _ _ (puts_fit (length c.args.a.now) (length c.args.at.now) (length c.args.put.now) n c.requires.some_put c.requires.some la lt lw) c.put_at.ensures.grew
