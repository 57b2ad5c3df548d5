use Rattle.std.proofs.Common.{◌≡◌, ◌↔◌, ◌∙◌, List, ℕ, IsTrue, IsFalse, Err, sym, ap, subst}
use Rattle.std.specs.List.{Contains}
use Rattle.sv_outside.specs.Literals.{is_literal}
use Rattle.sv_literal.specs.declared.meaning.LitErr.TheVariants.{Shape, Wide, Range}
use Rattle.sv_literal.specs.Meaning.{meaning_of, is_wide, is_out_of_range}
use Rattle.sv_meaning.specs.Meanings.{literal_faults}
use Rattle.sv_typing.proofs.OfRules.{literal_typed}
use Rattle.sv_typing.proofs.Read.{clear_literal, cause_stands}
use Rattle.sv_typing.proofs.rules.literal_typed.Goals as goal

pub returns-in-Ok : goal.returns-in-Ok
returns-in-Ok c = λ d.
    let w = c.args.word.now in
    let shape = subst (λ (t : List ℕ). (c.literal.result ≡ Err Shape) ↔ IsFalse (is_literal t)) c.bytes.ensures c.literal.ensures.shape in
    let wide = subst (λ (t : List ℕ). (c.literal.result ≡ Err Wide) ↔ IsTrue (is_wide t)) c.bytes.ensures c.literal.ensures.wide in
    let range = subst (λ (t : List ℕ). (c.literal.result ≡ Err Range) ↔ IsTrue (is_out_of_range t)) c.bytes.ensures c.literal.ensures.range in
    literal_typed w c.in-Ok.found c.literal-in-Ok.result d (clear_literal w c.in-Ok.found c.literal.result c.in-Ok.is shape wide range)
    (sym (c.in-Ok.ensures.value ∙ ap (λ (t : List ℕ). meaning_of t) c.bytes.ensures)) c.literal-in-Ok.ensures.stands c.literal-in-Ok.ensures.sound

pub returns-in-Err : goal.returns-in-Err
returns-in-Err c = λ d.
    let w = c.args.word.now in
    let shape = subst (λ (t : List ℕ). (c.literal.result ≡ Err Shape) ↔ IsFalse (is_literal t)) c.bytes.ensures c.literal.ensures.shape in
    let wide = subst (λ (t : List ℕ). (c.literal.result ≡ Err Wide) ↔ IsTrue (is_wide t)) c.bytes.ensures c.literal.ensures.wide in
    let range = subst (λ (t : List ℕ). (c.literal.result ≡ Err Range) ↔ IsTrue (is_out_of_range t)) c.bytes.ensures c.literal.ensures.range in
    subst (Contains (literal_faults w)) (sym c.refused.ensures) (cause_stands w c.literal.result c.in-Err.why c.in-Err.is shape wide range)
