use Rattle.std.proofs.Common.{◌≡◌, ℕ, ◌*◌, length, arith}
use Rattle.aig_words.proofs.Grown.{Grew-wider}
use Rattle.pair_words.proofs.Windows.{places_fit}
use Rattle.pair_words.proofs.places.dyn_slice.Goals as goal

pub returns-clause-grew : goal.returns-clause-grew
returns-clause-grew c = λ n la lt lw.
    let w : ℕ = c.from-width.result in
    let e : w ≡ c.args.spot.now.width = c.from-width.ensures in
    Grew-wider _ (256 * n * n) _ _ (places_fit (length c.args.a.now) (length c.args.at.now) w n (omega (arith, e, c.requires.some_width)) la lt (omega (arith, e, lw))) c.slice_at.ensures.grew
