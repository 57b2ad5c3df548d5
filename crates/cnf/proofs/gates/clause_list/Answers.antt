use Rattle.std.proofs.Common.{Vec, Global, map, ap, arith}
use Rattle.cnf.specs.declared.Dim.{Dim}
use Rattle.cnf.proofs.Solutions.{clauses_start, clauses_more, clauses_end}
use Rattle.cnf.proofs.gates.clause_list.Goals as goal

pub loop-k-init : goal.loop-k-init
loop-k-init c = clauses_start c.args.aig.now _ _ (ap (λ xs. map (λ (v : Vec Dim Global). v.items) xs) c.new-clauses.ensures.items) c.in_ok-add_clause.ensures

pub loop-k-preserved : goal.loop-k-preserved
loop-k-preserved c = clauses_more c.args.aig.now c.loop-k.k _ _ c.gate.result c.loop-k.invariant c.gate.ensures.is c.in_ok-add_gate.ensures

pub returns : goal.returns
returns c = clauses_end c.args.aig.now c.args.root c.loop-k.k _ _ c.from.result (omega (arith, c.len-k-end.ensures.is)) c.loop-k.invariant c.from.ensures c.in_ok-add_clause-2.ensures
