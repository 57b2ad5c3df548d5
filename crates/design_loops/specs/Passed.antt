-- What the crates above are given of those below.

pub use Rattle.sv_elab.specs.Elaborated.{IsElaborated, AllStem, Stem, more, names_only, none, sound_design}
