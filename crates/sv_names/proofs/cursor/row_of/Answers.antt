use Rattle.sv_names.proofs.Sound.{row_is_sound, no_row}
use Rattle.sv_names.proofs.cursor.row_of.Goals as goal

pub returns-in-Dim-clause-sound : goal.returns-in-Dim-clause-sound
returns-in-Dim-clause-sound c = row_is_sound c.args.layout.now c.in-Dim.each c.in-Dim.left c.in-Dim.right c.get.result c.requires c.in-Dim.is c.get.ensures

pub returns-in-Members-clause-is : goal.returns-in-Members-clause-is
returns-in-Members-clause-is c = no_row c.args.layout.now c.in-Members.field-0 c.in-Members.is
