use Rattle.std.proofs.Common.{◌≡◌, ℕ, ◌+◌, List, true, false, bytes_eq, sym, ap, ◌∙◌, arith}
use Rattle.sv_meaning.specs.Names.{has_name}
use Rattle.sv_types.specs.Types.{field_names}
use Rattle.sv_types.proofs.Membership.{name_here, name_behind, no_name}
use Rattle.sv_types.proofs.members.has_field.Goals as goal

pub returns-then-eq : goal.returns-then-eq
returns-then-eq c =
    let f = c.field-item.result in
    let n = c.args.name.now in
    let b : bytes_eq f.name n ≡ true = ap (λ (t : List ℕ). bytes_eq t n) (sym c.bytes.ensures) ∙ sym c.eq.ensures ∙ c.if-eq.true in
    name_here n c.args.fields.now c.fields.field-index f (has_name n (field_names c.args.fields.now)) c.fields-test.true c.field-item.is b c.fields.invariant

pub fields-preserved : goal.fields-preserved
fields-preserved c =
    let f = c.field-item.result in
    let n = c.args.name.now in
    let b : bytes_eq f.name n ≡ false = ap (λ (t : List ℕ). bytes_eq t n) (sym c.bytes.ensures) ∙ sym c.eq.ensures ∙ c.if-eq.false in
    name_behind n c.args.fields.now c.fields.field-index (c.fields.field-index + 1) f (has_name n (field_names c.args.fields.now)) c.fields-test.true (omega arith) c.field-item.is b c.fields.invariant

pub returns : goal.returns
returns c = no_name c.args.name.now c.args.fields.now c.fields.field-index (has_name c.args.name.now (field_names c.args.fields.now)) c.fields-test.false c.fields.invariant
