use Rattle.sv_write.specs.Forms.{enumeration, structure, vector, write_member, write_range, write_type}
use Rattle.sv_write.specs.Writing.{each}
use Rattle.sv_write.proofs.Adding.{◌▷◌, both_under, made, under}
use Rattle.sv_write.proofs.Chosen.{member_is}
use Rattle.sv_write.proofs.FormsMade.{made_enum, made_integer, made_named, made_of, made_struct, made_vector}
use Rattle.sv_write.proofs.Loops.{left_next, left_last}
use Rattle.sv_write.proofs.forms.+form.Goals as goal

pub all_members-parts-preserved : goal.all_members-parts-preserved
all_members-parts-preserved t c = left_next c.parts-test.true c.part-item.is c.parts.invariant c.member.ensures

pub all_members-returns : goal.all_members-returns
all_members-returns t c = left_last c.parts-test.false c.parts.invariant

pub structure-returns : goal.structure-returns
structure-returns t c = c.packed.ensures ▷ c.all_members.ensures ▷ c.mark.ensures ▷ c.each.ensures

pub member-returns : goal.member-returns
member-returns t c = made write_member (member_is _ _ _ _ _ c.get.ensures c.as_slice.ensures) (made_of _ _) (c.form.ensures ▷ c.names_end.ensures)

pub form-returns-in-Vector : goal.form-returns-in-Vector
form-returns-in-Vector t c = made write_type c.in-Vector.is (made_vector _ _ _) (under (vector c.in-Vector.word c.in-Vector.sign) c.as_slice.ensures c.vector.ensures)

pub form-returns-in-Integer : goal.form-returns-in-Integer
form-returns-in-Integer t c = made write_type c.in-Integer.is made_integer (c.key.ensures)

pub form-returns-in-Struct : goal.form-returns-in-Struct
form-returns-in-Struct t c = made write_type c.in-Struct.is (made_struct _ _ _) (both_under (structure c.in-Struct.sign) c.as_slice-in-Struct.ensures c.as_slice-in-Struct-2.ensures c.structure.ensures)

pub form-returns-in-Enum : goal.form-returns-in-Enum
form-returns-in-Enum t c = made write_type c.in-Enum.is (made_enum _ _ _ _) (under (enumeration c.in-Enum.word c.in-Enum.sign c.in-Enum.of) c.as_slice-in-Enum.ensures c.enumeration.ensures)

pub form-returns-in-Named : goal.form-returns-in-Named
form-returns-in-Named t c = made write_type c.in-Named.is (made_named _ _) (c.name.ensures ▷ under (each write_range) c.as_slice-in-Named.ensures c.each.ensures)
