use Rattle.std.proofs.Common.{◌*◌, length}
use Rattle.aig_words.proofs.Grown.{Grew-wider}
use Rattle.svex_blast.proofs.Fitting.{numbers_fit}
use Rattle.svex_blast.proofs.operators.number.Goals as goal

pub returns-clause-grew : goal.returns-clause-grew
returns-clause-grew c = λ n la lb. Grew-wider _ (256 * n * n) _ _ (numbers_fit (length c.args.a.now) n c.requires.some la) c.on_numbers.ensures.grew
