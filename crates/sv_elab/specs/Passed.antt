-- What the crates above are given of those below.

pub use Rattle.scope_laws.specs.Wires.{HaveParts, IsPart}
