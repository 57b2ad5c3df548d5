-- What the crates above are given of those below.

pub use Rattle.svtv_decide.specs.Posing.{IsThere, Poses, bench, IsOneBit}
pub use Rattle.svtv_decide.specs.Passed.{AreLeastNodes}
pub use Rattle.svtv_decide.specs.Passed.{AreSampleNodes}
pub use Rattle.svtv_decide.specs.Passed.{AreAsWide}
