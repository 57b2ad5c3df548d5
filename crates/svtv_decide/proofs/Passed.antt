-- What the crates above are given of those below.

pub use Rattle.svtv_machine.proofs.Growing.{designs_grow}
pub use Rattle.svtv_least.proofs.Fitting.{still_apart}
pub use Rattle.svtv_least.proofs.Phases.{wires_are}
