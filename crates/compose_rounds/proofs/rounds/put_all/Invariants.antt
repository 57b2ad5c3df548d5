use Rattle.std.proofs.Common.{◌≡◌}
use Rattle.std.specs.Prelude.{IsTrue}
use Rattle.compose_rounds.specs.Turns.{IsPut}
use Rattle.compose_rounds.proofs.rounds.put_all.Given as goal

abbrev pub invariant-members : goal.invariant-members
invariant-members l = record {
  put : IsPut l.replacer.answers.items l.values l.members l.initial.nodes.items l.nodes.items l.at;
  same : IsTrue l.same → l.nodes.items ≡ l.initial.nodes.items;
}
