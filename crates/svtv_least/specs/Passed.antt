-- What the crates above are given of those below.

pub use Rattle.sv_elab.specs.Elaborated.{IsElaborated}
