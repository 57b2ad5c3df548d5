-- What the crates above are given of those below.

pub use Rattle.svtv_unroll.specs.Unrolled.{AreSampleNodes, HaveSamples, choice_bits, under_choice, vector_of, width_of_sample}
pub use Rattle.design_loops.specs.Passed.{IsElaborated}
