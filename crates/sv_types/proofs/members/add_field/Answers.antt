use Rattle.std.proofs.Common.{◌≡◌, ◌++◌, [], ◌∷◌, ◌+◌, ◌∙◌, true, false, sym, subst, arith}
use Rattle.std.specs.List.{Contains}
use Rattle.sv_meaning.specs.Forms.{member_faults}
use Rattle.sv_meaning.specs.Layouts.{width_all}
use Rattle.sv_meaning.specs.Names.{has_name}
use Rattle.sv_names.specs.Kinds.{layout_is, members_of}
use Rattle.sv_types.specs.Types.{field_names}
use Rattle.sv_types.proofs.Membership.{name_twice, large_is, not_large, too_large, field_ok}
use Rattle.sv_types.proofs.members.add_field.Goals as goal

pub returns-then-has_field : goal.returns-then-has_field
returns-then-has_field c =
    let x = c.args.layout.now in
    let w = c.args.word.now in
    let old = c.args.fields.now in
    let h : has_name w.text (field_names old) ≡ true = (λ i. has_name (sym c.bytes.ensures i) (field_names (sym c.as_slice.ensures i))) ∙ sym c.has_field.ensures ∙ c.if-has_field.true in
    subst (Contains (member_faults (field_names old) (width_all (members_of old)) (layout_is x) (w ∷ []))) (sym c.refusal.ensures) (name_twice x w old h)

pub returns-then-is_too_large : goal.returns-then-is_too_large
returns-then-is_too_large c =
    let x = c.args.layout.now in
    let w = c.args.word.now in
    let old = c.args.fields.now in
    let large = large_is x old c.args.bits c.args.deep c.is_too_large.result c.requires.sound c.requires.bits c.requires.deep c.is_too_large.ensures in
    subst (Contains (member_faults (field_names old) (width_all (members_of old)) (layout_is x) (w ∷ []))) (sym c.refusal-then-is_too_large.ensures) (too_large x w old (sym large ∙ c.if-is_too_large.true))

pub returns : goal.returns
returns c =
    let x = c.args.layout.now in
    let w = c.args.word.now in
    let old = c.args.fields.now in
    let b = c.requires.bits in
    let n = not_large c.args.bits x.width c.args.deep c.is_too_large.result c.is_too_large.ensures c.if-is_too_large.false in
    let large = large_is x old c.args.bits c.args.deep c.is_too_large.result c.requires.sound c.requires.bits c.requires.deep c.is_too_large.ensures in
    let h : has_name w.text (field_names old) ≡ false = (λ i. has_name (sym c.bytes.ensures i) (field_names (sym c.as_slice.ensures i))) ∙ sym c.has_field.ensures ∙ c.if-has_field.false in
    field_ok x w old _ (c.args.bits + x.width) c.requires.sound h (sym large ∙ c.if-is_too_large.false) (omega arith) n
    (c.in_ok-push.ensures.ok ∙ (λ i. old ++ record { name = c.in_ok-name.ensures i; layout = c.in_ok-layout.ensures i } ∷ []))
