-- What steps name stays in the graph.
use Rattle.std.proofs.Common.{List}
use Rattle.aig.specs.declared.gate.Gate.{Gate}
use Rattle.aig.specs.Graph.{Grows}
use Rattle.aig_words.proofs.Grown.{IsIn-later}
use Rattle.pair_words.specs.declared.steps.Step.{Step}
use Rattle.pair_words.specs.declared.steps.Step.TheVariants.{Apply, Join, Pick, OrX, KeepBy}
use Rattle.pair_words.specs.Steps.{StepIn}
use Rattle.pair_words.proofs.Growing.{IsWired-later}

pub step-later : (old new : List Gate) (step : Step) → Grows old new → StepIn old step → StepIn new step
step-later old new (Apply op) g h = tt
step-later old new (Join op) g h = tt
step-later old new (Pick c) g h = IsIn-later old new c g h
step-later old new (OrX c) g h = IsIn-later old new c g h
step-later old new (KeepBy p) g h = IsWired-later old new p g h
