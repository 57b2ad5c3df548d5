use Rattle.std.proofs.Common.{◌≡◌, ◌+◌, ◌-◌, suc, ℕ, List, true, false, drop, bytes_eq, Some, subst, sym, ap, ◌∙◌, arith}
use Rattle.sv_meaning.specs.Layouts.{width_all, member_in, Members}
use Rattle.sv_names.specs.Kinds.{FieldIsSound, members_of, layout_is}
use Rattle.sv_names.proofs.Lookups.{members_from, in_here, in_rest, drop_all}
use Rattle.sv_names.proofs.Sound.{sound_is}
use Rattle.sv_names.proofs.cursor.member_at.Goals as goal

pub overflow_sub-place : goal.overflow_sub-place
overflow_sub-place c =
    let f = c.field-item.result in
    let m = ap width_all (members_from c.args.fields.now c.loop-field.field-index f c.loop-field-test.true c.field-item.is) in
    let w = sound_is f.layout (subst FieldIsSound (sym c.field-item.is) (c.requires.sound c.loop-field.field-index f c.loop-field-test.true)) in
    omega (arith, c.loop-field.invariant.place)

pub returns-then-eq-clause-is : goal.returns-then-eq-clause-is
returns-then-eq-clause-is c =
    let f = c.field-item.result in
    let rest : Members = members_of (drop (suc c.loop-field.field-index) c.args.fields.now) in
    let from = members_from c.args.fields.now c.loop-field.field-index f c.loop-field-test.true c.field-item.is in
    let m = ap width_all from in
    let w = sound_is f.layout (subst FieldIsSound (sym c.field-item.is) (c.requires.sound c.loop-field.field-index f c.loop-field-test.true)) in
    let place : c.loop-field.place - f.layout.width ≡ width_all rest = omega (arith, c.loop-field.invariant.place) in
    let b : bytes_eq f.name c.args.name.now ≡ true = ap (λ (t : List ℕ). bytes_eq t c.args.name.now) (sym c.bytes.ensures) ∙ sym c.eq.ensures ∙ c.if-eq.true in
    ap (λ (p : ℕ). Some (p, layout_is f.layout)) place ∙ sym (in_here c.args.name.now f.name (layout_is f.layout) rest b)
    ∙ ap (λ (all : Members). member_in c.args.name.now all) (sym from) ∙ c.loop-field.invariant.rest

pub loop-field-preserved : goal.loop-field-preserved
loop-field-preserved c =
    let f = c.field-item.result in
    let rest : Members = members_of (drop (suc c.loop-field.field-index) c.args.fields.now) in
    let from = members_from c.args.fields.now c.loop-field.field-index f c.loop-field-test.true c.field-item.is in
    let m = ap width_all from in
    let w = sound_is f.layout (subst FieldIsSound (sym c.field-item.is) (c.requires.sound c.loop-field.field-index f c.loop-field-test.true)) in
    let place : c.loop-field.place - f.layout.width ≡ width_all rest = omega (arith, c.loop-field.invariant.place) in
    let next : c.loop-field.field-index + 1 ≡ suc c.loop-field.field-index = omega arith in
    let go : members_of (drop (c.loop-field.field-index + 1) c.args.fields.now) ≡ rest = ap (λ (i : ℕ). members_of (drop i c.args.fields.now)) next in
    let b : bytes_eq f.name c.args.name.now ≡ false = ap (λ (t : List ℕ). bytes_eq t c.args.name.now) (sym c.bytes.ensures) ∙ sym c.eq.ensures ∙ c.if-eq.false in
    record {
      place = place ∙ ap width_all (sym go);
      rest = ap (λ (all : Members). member_in c.args.name.now all) go ∙ sym (in_rest c.args.name.now f.name (layout_is f.layout) rest b)
          ∙ ap (λ (all : Members). member_in c.args.name.now all) (sym from) ∙ c.loop-field.invariant.rest;
    }

pub returns-clause-is : goal.returns-clause-is
unfolding member_in
returns-clause-is c =
    ap (λ (all : Members). member_in c.args.name.now all) (sym (drop_all c.args.fields.now c.loop-field.field-index c.loop-field-test.false)) ∙ c.loop-field.invariant.rest
