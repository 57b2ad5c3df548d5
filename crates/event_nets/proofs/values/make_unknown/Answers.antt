use Rattle.std.proofs.Common.{◌≡◌, ◌<◌, [], length, get_or, set, sym, ap, ◌∙◌, inl, inr, arith}
use Rattle.std.proofs.lemmas.Bool.{cases_eq}
use Rattle.std.proofs.lemmas.List.{get_or-set_same, get_or-set_other, get_or_read}
use Rattle.fourvec.specs.declared.Bit.TheVariants.{Unknown}
use Rattle.event_nets.proofs.Reading.{lengths-set, all_x-at, all_x-long}
use Rattle.event_nets.proofs.values.make_unknown.Goals as goal

pub loop-wire-preserved : goal.loop-wire-preserved
loop-wire-preserved c =
    let values = c.loop-wire.values in
    let wire = c.loop-wire.wire in
    let within : wire < length values = omega arith in
    let wide : length c.unknown.result ≡ length (get_or values wire []) =
    ap (λ r. length r) c.unknown.ensures ∙ all_x-long c.width.result ∙ c.width.ensures.is ∙ ap (λ r. length r) (sym c.index-values-wire.is ∙ get_or_read values wire c.index-values-wire.result within c.index-values-wire.is []) in
    record {
      lengths = lengths-set values wire c.unknown.result within wide ∙ c.loop-wire.invariant.lengths;
      unknown = λ n lt k. elim (cases_eq n wire) [
        | inl same ↦
            ap (λ j. get_or (get_or (set values wire c.unknown.result) j []) k Unknown) same
            ∙ ap (λ r. get_or r k Unknown) (get_or-set_same values wire c.unknown.result [] within ∙ c.unknown.ensures)
            ∙ all_x-at c.width.result k
        | inr other ↦ ap (λ r. get_or r k Unknown) (get_or-set_other values wire n c.unknown.result [] other) ∙ c.loop-wire.invariant.unknown n (omega (arith, lt, other)) k
      ];
    }
