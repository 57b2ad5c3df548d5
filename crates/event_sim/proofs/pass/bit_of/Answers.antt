use Rattle.std.proofs.Common.{◌≡◌, ◌<◌, [], length, get_or, sym, ap, ◌∙◌, subst}
use Rattle.std.proofs.lemmas.List.{get_or_read}
use Rattle.std.proofs.lemmas.Option.{get_or_from_slice_get}
use Rattle.fourvec.specs.declared.Bit.TheVariants.{Unknown}
use Rattle.event_nets.specs.Gifts.{source_in}
use Rattle.event_nets.proofs.Reading.{row-there}
use Rattle.event_sim.proofs.pass.bit_of.Goals as goal

pub returns-in-Value : goal.returns-in-Value
returns-in-Value c =
    let values = c.args.values.now in
    let at = c.args.gift.now.at in
    let inside = subst (λ s. at < length (source_in values c.args.stim.now s)) c.in-Value.is c.requires in
    let within : c.index.result < length values = subst (λ k. k < length values) (sym c.index.ensures) (row-there values c.in-Value.node at inside) in
    let row : c.index-values-index.result ≡ get_or values c.in-Value.node [] =
    get_or_read values c.index.result c.index-values-index.result within c.index-values-index.is [] ∙ ap (λ k. get_or values k []) c.index.ensures in
    sym (get_or_from_slice_get c.index-values-index.result at c.bit.result Unknown c.bit.ensures)
    ∙ ap (λ r. get_or r at Unknown) row
    ∙ ap (λ s. get_or (source_in values c.args.stim.now s) at Unknown) (sym c.in-Value.is)

pub returns-in-Stimulus : goal.returns-in-Stimulus
returns-in-Stimulus c =
    let stim = c.args.stim.now in
    let at = c.args.gift.now.at in
    let wire = c.in-Stimulus.wire in
    let inside = subst (λ s. at < length (source_in c.args.values.now stim s)) c.in-Stimulus.is c.requires in
    let row : c.index-stim-wire.result ≡ get_or stim wire [] =
    get_or_read stim wire c.index-stim-wire.result (row-there stim wire at inside) c.index-stim-wire.is [] in
    sym (get_or_from_slice_get c.index-stim-wire.result at c.bit-in-Stimulus.result Unknown c.bit-in-Stimulus.ensures)
    ∙ ap (λ r. get_or r at Unknown) row
    ∙ ap (λ s. get_or (source_in c.args.values.now stim s) at Unknown) (sym c.in-Stimulus.is)
