-- What the crates above are given of those below.

pub use Rattle.svtv_machine.specs.Least.{AreLeastNodes}
pub use Rattle.svtv_machine.specs.Passed.{AreSampleNodes}
pub use Rattle.svtv_least.specs.Running.{AreAsWide, Serves, StandsBehind}
pub use Rattle.svtv_machine.specs.Passed.{IsElaborated}
