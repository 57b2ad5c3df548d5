use Rattle.std.proofs.Common.{IsTrue}
use Rattle.sv_places.proofs.SpelledDesign.{source_in}
use Rattle.sv_places.proofs.SpelledExprs.{has_from_all}
use Rattle.sv_places.proofs.trees_keep_places_of_tokens.Goals as goal

pub returns : goal.returns
returns c test source tokens h k = source_in (λ p. IsTrue (test p)) source tokens h (has_from_all (λ p. IsTrue (test p)) tokens k)
