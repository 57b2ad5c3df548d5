-- What the crates above are given of those below.

pub use Rattle.svtv_decide.proofs.Passed.{designs_grow}
pub use Rattle.svtv_decide.proofs.Passed.{still_apart}
