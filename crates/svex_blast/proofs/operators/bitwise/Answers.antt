use Rattle.std.proofs.Common.{◌*◌, length}
use Rattle.aig_words.proofs.Grown.{Grew-wider}
use Rattle.pair_words.specs.Rails.{two_nodes}
use Rattle.svex_blast.proofs.Fitting.{bitwise_fits}
use Rattle.svex_blast.proofs.operators.bitwise.Goals as goal

pub returns-clause-grew : goal.returns-clause-grew
returns-clause-grew c = λ n la lb. Grew-wider _ (two_nodes c.args.op * n) _ _ (bitwise_fits (two_nodes c.args.op) (length c.args.a.now) n la) c.on_both.ensures.grew
