use Rattle.std.proofs.Common.{ℕ, ◌+◌, ◌/◌, ◌%◌, ◌^◌, ap}
use Rattle.svex_arena.specs.Hashes.{spread_of}
use Rattle.svex_arena.proofs.Spreading.{product_wraps}
use Rattle.svex_arena.proofs.hashing.spread.Goals as goal

pub returns : goal.returns
unfolding spread_of
returns c = ap (λ (product : ℕ). (product + product / c.args.part) % 2 ^ 64) (product_wraps c.args.n c.args.factor)
