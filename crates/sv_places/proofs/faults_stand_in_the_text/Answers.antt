use Rattle.std.proofs.Common.{IsTrue}
use Rattle.sv_hierarchy.specs.Scopes.{source_faults}
use Rattle.sv_places.proofs.Told.{all_told}
use Rattle.sv_places.proofs.Walked.{source_told}
use Rattle.sv_places.proofs.faults_stand_in_the_text.Goals as goal

pub returns : goal.returns
returns c test source top h q = all_told (λ p. IsTrue (test p)) (source_faults source top) (source_told (λ p. IsTrue (test p)) source top q h)
