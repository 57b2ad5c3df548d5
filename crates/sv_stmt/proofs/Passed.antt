-- What the crates above are given of those below.

pub use Rattle.sv_blocks.proofs.Driving.{gives_kept, placed_kept, mentions_kept, gives_push}
