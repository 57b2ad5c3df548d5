use Rattle.std.proofs.Common.{◌*◌, length}
use Rattle.aig_words.proofs.Grown.{Grew-wider}
use Rattle.pair_words.specs.Rails.{two_nodes}
use Rattle.svex_blast.proofs.Fitting.{two_most, pairs_fit}
use Rattle.svex_blast.proofs.operators.bitwise_by_square.Goals as goal

pub returns-clause-grew : goal.returns-clause-grew
returns-clause-grew c = λ n la lb. Grew-wider _ (256 * n * n) _ _ (pairs_fit (two_nodes c.args.op) (length c.args.a.now) n (two_most c.args.op) c.requires.some la) c.on_both.ensures.grew
