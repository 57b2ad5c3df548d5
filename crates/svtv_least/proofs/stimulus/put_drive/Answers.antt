use Rattle.std.proofs.Common.{◌≡◌, List, [], length, get_or, sym, ap, ◌∙◌, subst}
use Rattle.std.proofs.lemmas.List.{get_or_default}
use Rattle.svex_shape.specs.Values.{Vector}
use Rattle.event_sim.specs.Sims.{store_of}
use Rattle.svtv_table.specs.Stimuli.{drive_value}
use Rattle.svtv_least.specs.Running.{Gives}
use Rattle.svtv_least.proofs.Setting.{set_lengths, lengths, wire_set}
use Rattle.svtv_least.proofs.stimulus.put_drive.Goals as goal

pub driven-value-requires-clause-gives : goal.driven-value-requires-clause-gives
driven-value-requires-clause-gives c =
    let own : Vector = c.index-as_slice-wire.result in
    let width : c.width-width.result ≡ length (get_or c.args.stim.now c.args.wire []) =
    c.width-width.ensures.is ∙ ap length (c.index-as_slice-wire.is ∙ ap (λ (z : List Vector). get_or z c.args.wire own) c.as_slice.ensures ∙ get_or_default c.args.stim.now c.args.wire own [] c.requires.wire) in
    subst (λ w. Gives c.args.choice.now w c.args.drive.now) (sym width) c.requires.gives

pub returns-clause-widths : goal.returns-clause-widths
returns-clause-widths c =
    let own : Vector = c.index-as_slice-wire.result in
    let width : c.width-width.result ≡ length (get_or c.args.stim.now c.args.wire []) =
    c.width-width.ensures.is ∙ ap length (c.index-as_slice-wire.is ∙ ap (λ (z : List Vector). get_or z c.args.wire own) c.as_slice.ensures ∙ get_or_default c.args.stim.now c.args.wire own [] c.requires.wire) in
    ap lengths c.set.ensures ∙ set_lengths c.args.stim.now c.args.wire c.driven-value.result c.requires.wire (c.driven-value.ensures.width ∙ width)

pub returns-clause-stim : goal.returns-clause-stim
returns-clause-stim c = λ asks before h n k.
    ap (λ (z : List Vector). store_of z n k) c.set.ensures
    ∙ wire_set c.args.wire c.width-width.result (drive_value c.args.choice.now c.args.drive.now) c.args.stim.now c.driven-value.result asks before c.requires.wire c.driven-value.ensures.is h n k
