use Rattle.std.proofs.Common.{◌≡◌, ◌<◌, length, rules, arith}
use Rattle.std.specs.List.{All}
use Rattle.pair_words.proofs.Parities.{parts_over}
use Rattle.pair_words.proofs.vectors.parts_of.Goals as goal

pub returns-clause-value : goal.returns-clause-value
returns-clause-value c =
    let some : 0 < length c.args.a.now = omega (arith, c.if-a-lt2.false) in
    let plain : All (λ p. p.up ≡ p.low) c.args.a.now = search rules in
    λ v o rest. parts_over v c.args.aig.now c.args.a.now _ _ rest o some plain c.in_ok-split_all.ensures
