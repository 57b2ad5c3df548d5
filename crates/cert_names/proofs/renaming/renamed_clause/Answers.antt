use Rattle.std.proofs.Common.{false}
use Rattle.cert_names.specs.Names.{IsRenamed}
use Rattle.cert_names.proofs.Walks.{zip_more}
use Rattle.cert_names.proofs.renaming.renamed_clause.Goals as goal

pub loop-d-preserved : goal.loop-d-preserved
loop-d-preserved c =
    zip_more (IsRenamed c.args.names.now) c.args.clause.now c.loop-d.new.items c.push.new.self.items c.loop-d.d-index (record { var = 0; negated = false }) c.renamed.result c.loop-d-test.true c.loop-d.invariant c.renamed.ensures c.in_ok-push.ensures.items
