use Rattle.std.proofs.Common.{List, sym, ◌∙◌, subst}
use Rattle.std.specs.List.{All}
use Rattle.refute_check.specs.Entry.{Entry}
use Rattle.cert_names.specs.Names.{AreNamed}
use Rattle.cert_names.proofs.Walks.{clauses_held}
use Rattle.cert_names.proofs.numbers.renumbered.Goals as goal

pub renamed_clauses-requires-clause-inside : goal.renamed_clauses-requires-clause-inside
renamed_clauses-requires-clause-inside c = clauses_held c.args.names.now c.cnf.inside.vars c.args.cnf.now c.cnf.inside.clauses.items c.as_slice.result.now c.cnf.view_is c.as_slice.ensures.value c.requires.clauses

pub renamed_steps-requires-clause-inside : goal.renamed_steps-requires-clause-inside
renamed_steps-requires-clause-inside c = subst (λ (l : List Entry). All (λ s. AreNamed c.args.names.now s.clause) l) (sym (c.as_slice-2.ensures.value ∙ c.log.view_is)) c.requires.steps
