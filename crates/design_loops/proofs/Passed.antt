-- What the crates above are given of those below.

pub use Rattle.sv_elab.proofs.Lists.{left_all, right_all}
