use Rattle.std.proofs.Common.{◌*◌, length}
use Rattle.aig_words.proofs.Grown.{Grew-wider}
use Rattle.svex_blast.proofs.Fitting.{equal_fits}
use Rattle.svex_blast.proofs.operators.same.Goals as goal

pub returns-clause-grew : goal.returns-clause-grew
returns-clause-grew c = λ n la lb. Grew-wider _ (256 * n * n) _ _ (equal_fits (length c.args.a.now) n c.requires.some la) c.equal.ensures.grew
