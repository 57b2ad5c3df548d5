-- What the crates above are given of those below.

pub use Rattle.sv_blocks.specs.Driving.{IsPlaced}
pub use Rattle.sv_actions.specs.Texts.{signals_of}
