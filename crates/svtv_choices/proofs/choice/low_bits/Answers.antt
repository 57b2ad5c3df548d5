use Rattle.std.proofs.Common.{◌≡◌, ◌%◌, ◌^◌, ◌∙◌, ap}
use Rattle.fourvec.specs.Bits.{planes}
use Rattle.svtv_choices.proofs.Numbers.{low_vector, one_shifted}
use Rattle.svtv_choices.proofs.choice.low_bits.Goals as goal

pub returns : goal.returns
returns c =
    let e : c.from-low.result ≡ c.args.number % 2 ^ c.args.width = c.from-low.ensures ∙ ap (λ s. c.args.number % s) (one_shifted c.args.width c.requires.most) in
    c.new.ensures ∙ (ap (λ n. planes c.args.width n n) e ∙ low_vector c.args.width c.args.number)
