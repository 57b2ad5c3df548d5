use Rattle.std.proofs.Common.{◌≡◌, ◌<◌, ◌^◌, length, ap, ◌∙◌, sym, subst}
use Rattle.fourvec.specs.Bits.{planes, up_plane}
use Rattle.fourvec.proofs.Basic.{up_plane-lt}
use Rattle.svtv_induct.proofs.Failing.{planes_made}
use Rattle.svtv_induct.proofs.shown.made.Goals as goal

pub new-requires-clause-up_fits : goal.new-requires-clause-up_fits
new-requires-clause-up_fits c = subst (λ n. c.up.result < 2 ^ n) (sym c.width.ensures.is) (subst (λ m. m < 2 ^ length c.args.up.now) (sym c.up.ensures) (up_plane-lt c.args.up.now))

pub new-requires-clause-low_fits : goal.new-requires-clause-low_fits
new-requires-clause-low_fits c =
    let wide : length c.args.low.now ≡ c.width.result = sym c.requires.alike ∙ sym c.width.ensures.is in
    subst (λ n. c.up-2.result < 2 ^ n) wide (subst (λ m. m < 2 ^ length c.args.low.now) (sym c.up-2.ensures) (up_plane-lt c.args.low.now))

pub returns : goal.returns
returns c =
    let up = c.args.up.now in
    let low = c.args.low.now in
    c.new.ensures ∙ ap (λ w. planes w c.up.result c.up-2.result) c.width.ensures.is ∙ ap (λ x. planes (length up) x c.up-2.result) c.up.ensures ∙ ap (λ x. planes (length up) (up_plane up) x) c.up-2.ensures
    ∙ planes_made up low c.requires.alike c.requires.up_known c.requires.low_known
