use Rattle.cert_names.proofs.Walks.{clause_named, clauses_more}
use Rattle.cert_names.proofs.renaming.renamed_clauses.Goals as goal

pub renamed_clause-requires-clause-inside : goal.renamed_clause-requires-clause-inside
renamed_clause-requires-clause-inside c =
    clause_named c.args.names.now c.args.clauses.now c.loop-clause.clause-index c.clause-item.result c.as_slice.result.now c.requires.inside c.loop-clause-test.true c.clause-item.is c.as_slice.ensures.value

pub loop-clause-preserved : goal.loop-clause-preserved
loop-clause-preserved c =
    clauses_more c.args.names.now c.args.clauses.now c.loop-clause.new.items c.push.new.self.items c.loop-clause.clause-index c.clause-item.result c.in_ok-renamed_clause.field-0 c.as_slice.result.now c.loop-clause-test.true c.clause-item.is c.as_slice.ensures.value
    c.loop-clause.invariant c.in_ok-renamed_clause.ensures c.in_ok-push.ensures.items
