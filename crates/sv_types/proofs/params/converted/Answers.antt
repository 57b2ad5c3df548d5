use Rattle.std.proofs.Common.{ℕ, ◌∙◌, sym, subst, ap, true}
use Rattle.std.specs.List.{Contains}
use Rattle.sv_meaning.specs.Faults.{faults_of}
use Rattle.sv_meaning.specs.Meanings.{nowhere}
use Rattle.sv_meaning.specs.Params as params
use Rattle.sv_typed.specs.Typed.{worth}
use Rattle.sv_typing.proofs.Judged as judged
use Rattle.sv_types.proofs.Valuing.{typed_ok, typed_unknown}
use Rattle.sv_types.proofs.params.converted.Goals as goal

pub returns-then-is_bool : goal.returns-then-is_bool
returns-then-is_bool c = λ m s h.
    let x = c.in_ok-x.x in
    typed_ok c.args.width c.args.signed m x c.value-whole.result c.slice-value.result (judged.typed_ok m (m.faults true) c.args.x x c.in_ok-x.was h)
    (c.value-whole.ensures.is ∙ ap (λ (n : ℕ). worth x nowhere n x.signed) c.max.ensures) c.slice-value.ensures (sym c.is_bool.ensures ∙ c.if-is_bool.true)

pub returns : goal.returns
returns c = λ m s h.
    let x = c.in_ok-x.x in
    subst (Contains (faults_of (params.typed c.args.width c.args.signed m))) (sym c.refusal.ensures)
    (typed_unknown c.args.width c.args.signed m x c.value-whole.result c.slice-value.result c.args.start s (judged.typed_ok m (m.faults true) c.args.x x c.in_ok-x.was h)
    (c.value-whole.ensures.is ∙ ap (λ (n : ℕ). worth x nowhere n x.signed) c.max.ensures) c.slice-value.ensures (sym c.is_bool.ensures ∙ c.if-is_bool.false))
