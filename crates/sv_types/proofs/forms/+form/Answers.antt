use Rattle.std.proofs.Common.{◌≡◌, ◌+◌, map, refl, sym, subst, ap, arith, All}
use Rattle.std.specs.Option.{option_copied}
use Rattle.sv_tree.specs.declared.forms.Member.TheVariants as member
use Rattle.sv_meaning.specs.Forms.{form, entries_of}
use Rattle.sv_meaning.specs.Layouts.{Scope, with_names, width_all}
use Rattle.sv_names.specs.Kinds.{members_of, FieldIsSound}
use Rattle.sv_names.specs.Names.{constants_are}
use Rattle.sv_types.specs.Types.{IsAbove, Forms, JudgesJoined, pushed, all_declared}
use Rattle.sv_types.proofs.Above.{above_none, above_names}
use Rattle.sv_types.proofs.Alone.{member_is}
use Rattle.sv_types.proofs.Gathering.{gathers_begin, gathers_go, gathers_refused, gathers_end}
use Rattle.sv_types.proofs.Shapes.{arm_vector, arm_integer, arm_named, arm_enum, arm_struct, formed_sound, members_listed}
use Rattle.sv_types.proofs.forms.+form.Goals as goal

pub form-returns-in-Vector : goal.form-returns-in-Vector
form-returns-in-Vector t c =
    arm_vector c.args.names.now c.args.tree.now c.in-Vector.field-0 c.in-Vector.sign c.in-Vector.ranges c.has_sign.result c.as_slice.result.now c.vector_layout-layout.result c.alone.result
    c.in-Vector.is c.has_sign.ensures c.as_slice.ensures c.vector_layout-layout.ensures c.alone.ensures

pub form-returns-in-Integer : goal.form-returns-in-Integer
form-returns-in-Integer t c = arm_integer c.args.names.now c.args.tree.now c.integer.result c.alone-in-Integer.result c.in-Integer.is c.integer.ensures c.alone-in-Integer.ensures

pub form-returns-in-Struct : goal.form-returns-in-Struct
form-returns-in-Struct t c =
    arm_struct c.args.names.now c.forms-listed.new.names c.args.tree.now c.in-Struct.sign c.in-Struct.members c.as_slice-in-Struct.result.now c.in-Struct.ranges c.as_slice-in-Struct-2.result.now c.has_sign-in-Struct.result c.forms-listed.result c.struct_form.result
    c.in-Struct.is c.has_sign-in-Struct.ensures c.as_slice-in-Struct.ensures c.as_slice-in-Struct-2.ensures c.forms-listed.ensures c.struct_form.ensures

pub form-returns-in-Enum : goal.form-returns-in-Enum
form-returns-in-Enum t c =
    arm_enum c.args.names.now c.enum_form.new.names c.args.tree.now c.in-Enum.field-0 c.in-Enum.sign c.in-Enum.range (option_copied c.as_ref.result) c.in-Enum.all c.as_slice-in-Enum.result.now c.has_sign-in-Enum.result c.enum_form.result
    c.in-Enum.is c.has_sign-in-Enum.ensures c.as_ref.ensures.value c.as_slice-in-Enum.ensures c.enum_form.ensures

pub form-returns-in-Named : goal.form-returns-in-Named
form-returns-in-Named t c =
    arm_named c.args.names.now c.args.tree.now c.in-Named.word c.in-Named.ranges c.as_slice-in-Named.result.now c.named_layout-layout.result c.alone-in-Named.result
    c.in-Named.is c.as_slice-in-Named.ensures c.named_layout-layout.ensures c.alone-in-Named.ensures

pub forms-members-init : goal.forms-members-init
forms-members-init t c = record {
  names = subst (IsAbove c.args.names.now c.args.names.now) (sym (ap (map pushed) c.new-2.ensures)) (above_none c.args.names.now);
  listed = record {
    bits = sym (ap (λ z. width_all (members_of z)) c.new.ensures);
    most = omega arith;
    sound = subst (All FieldIsSound) (sym c.new.ensures) (λ k d lt. absurd (omega arith));
  };
  gathers = gathers_begin (constants_are c.args.names.now) c.args.members.now (record { fields = c.new.result; bits = 0; declared = c.new-2.result }) c.new.ensures refl c.new-2.ensures;
}

pub forms-returns-in-Err : goal.forms-returns-in-Err
forms-returns-in-Err t c =
    let at = constants_are c.args.names.now in
    let g = c.member-item.result in
    let l = c.members.listed in
    let here = above_names c.args.names.now c.members.names l.declared c.members.invariant.names in
    let is : g ≡ member.Of c.get.result.now c.as_slice.result.now = member_is g _ _ c.get.result.now c.as_slice.result.now c.get.ensures c.as_slice.ensures in
    let h = subst (λ (z : Scope). Forms (form z c.get.result.now) c.members.names c.form-formed.new.names c.form-formed.result) here c.form-formed.ensures in
    let j = form (with_names at (entries_of (all_declared l.declared))) c.get.result.now in
    let left = subst (JudgesJoined j c.args.names.now c.form-formed.new.names l c.as_slice.result.now) c.in-Err.is (c.joined.ensures j c.args.names.now c.members.names c.form-formed.new.names c.members.invariant.names h) in
    record {
      cause = gathers_refused at c.args.members.now c.members.member-index l g c.get.result.now c.as_slice.result.now c.in-Err.why c.members-test.true c.member-item.is is left.cause c.members.invariant.gathers;
      left = left.left;
    }

pub forms-members-preserved : goal.forms-members-preserved
forms-members-preserved t c =
    let at = constants_are c.args.names.now in
    let g = c.member-item.result in
    let l = c.members.listed in
    let i = c.members.member-index in
    let here = above_names c.args.names.now c.members.names l.declared c.members.invariant.names in
    let is : g ≡ member.Of c.get.result.now c.as_slice.result.now = member_is g _ _ c.get.result.now c.as_slice.result.now c.get.ensures c.as_slice.ensures in
    let h = subst (λ (z : Scope). Forms (form z c.get.result.now) c.members.names c.form-formed.new.names c.form-formed.result) here c.form-formed.ensures in
    let j = form (with_names at (entries_of (all_declared l.declared))) c.get.result.now in
    let next = subst (JudgesJoined j c.args.names.now c.form-formed.new.names l c.as_slice.result.now) c.in-Ok.is (c.joined.ensures j c.args.names.now c.members.names c.form-formed.new.names c.members.invariant.names h) in
    record {
      names = next.names;
      listed = next.listed;
      gathers = gathers_go at c.args.members.now i (i + 1) l c.in-Ok.next g c.get.result.now c.as_slice.result.now c.args.names.now c.form-formed.new.names c.members-test.true (omega arith) c.member-item.is is c.members.invariant.listed next c.members.invariant.gathers;
    }

pub forms-returns : goal.forms-returns
forms-returns t c = record {
  is = gathers_end (constants_are c.args.names.now) c.args.members.now c.members.member-index c.members.listed c.members-test.false c.members.invariant.gathers;
  names = c.members.invariant.names;
  listed = c.members.invariant.listed;
}

pub forms-joined-requires-clause-listed : goal.forms-joined-requires-clause-listed
forms-joined-requires-clause-listed t c = c.members.invariant.listed

pub forms-joined-requires-clause-formed : goal.forms-joined-requires-clause-formed
forms-joined-requires-clause-formed t c = formed_sound _ c.members.names c.form-formed.new.names c.form-formed.result c.form-formed.ensures

pub form-struct_form-requires : goal.form-struct_form-requires
form-struct_form-requires t c = members_listed _ c.args.names.now c.forms-listed.new.names c.forms-listed.result c.forms-listed.ensures
