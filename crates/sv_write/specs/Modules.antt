-- Modules and whole texts as they are written: the kinds and texts of their tokens.
use Rattle.std.specs.Prelude.{List, [], codes}
use Rattle.sv_tree.specs.declared.design.ParPort.{ParPort}
use Rattle.sv_tree.specs.declared.design.Port.{Port}
use Rattle.sv_tree.specs.declared.design.Module.{Module}
use Rattle.sv_tree.specs.declared.design.SourcePart.{SourcePart}
use Rattle.sv_tree.specs.declared.design.SourcePart.TheVariants as source_part
use Rattle.sv_tree.specs.declared.design.Source.{Source}
use Rattle.sv_write.specs.Writing.{Write, ◌⨾◌, nothing, mark, key, name, maybe, each, commas, label}
use Rattle.sv_write.specs.Forms.{write_typedef, write_par_port, write_param, write_port}
use Rattle.sv_write.specs.Design.{write_item}

unfoldable pub write_params : List ParPort → Write
write_params [] = nothing
write_params all = mark (codes "#") ⨾ mark (codes "(") ⨾ commas write_par_port all ⨾ mark (codes ")")

unfoldable pub write_port_list : List Port → Write
write_port_list [] = nothing
write_port_list all = commas write_port all

unfoldable pub write_ports : List Port → Write
write_ports all = mark (codes "(") ⨾ write_port_list all ⨾ mark (codes ")")

unfoldable pub write_module : Module → Write
write_module m = key (codes "module") ⨾ name m.name ⨾ write_params m.params ⨾ maybe write_ports m.ports ⨾ mark (codes ";") ⨾ each write_item m.items ⨾ key (codes "endmodule") ⨾ label m.label

unfoldable pub write_part : SourcePart → Write
write_part (source_part.Module m) = write_module m
write_part (source_part.Typedef d) = write_typedef d
write_part (source_part.Param p) = write_param p

unfoldable pub write_source : Source → Write
write_source s = each write_part s.parts

-- what stands before the items of a module
abbrev pub head : Module → Write
head m = key (codes "module") ⨾ name m.name ⨾ write_params m.params ⨾ maybe write_ports m.ports ⨾ mark (codes ";")
