use Rattle.compose_rounds.specs.Sources.{all_segs}
use Rattle.compose_rounds.proofs.Linking.{IsAt}
use Rattle.compose_rounds.proofs.segments.Segments.find.Given as goal

abbrev pub invariant-chain : goal.invariant-chain
invariant-chain l = IsAt (all_segs l.self) l.bit l.at

abbrev pub decreases-chain : goal.decreases-chain
decreases-chain l = l.at
