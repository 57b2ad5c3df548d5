use Rattle.std.proofs.Common.{rules}
use Rattle.sv_lower.proofs.Sizing.{extended_not}
use Rattle.sv_lower.proofs.sizes.extended.Goals as goal

pub returns-then-width-clause-ok : goal.returns-then-width-clause-ok
returns-then-width-clause-ok c = search (rules, extended_not)
