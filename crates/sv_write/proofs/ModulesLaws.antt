-- Modules and whole texts: what is written are the kinds and texts of whatever tokens spell them.
use Rattle.std.specs.Prelude.{List, [], ◌∷◌, codes}
use Rattle.sv_tree.specs.declared.design.ParPort.{ParPort}
use Rattle.sv_tree.specs.declared.design.Port.{Port}
use Rattle.sv_tree.specs.declared.design.Module.{Module}
use Rattle.sv_tree.specs.declared.design.SourcePart.{SourcePart}
use Rattle.sv_tree.specs.declared.design.SourcePart.TheVariants as source_part
use Rattle.sv_tree.specs.declared.design.Source.{Source}
use Rattle.sv_tree.specs.GrammarDesign.{SpellsParams, port_list, SpellsPorts, SpellsModule, SpellsPart, SpellsSource}
use Rattle.sv_write.proofs.Lawful.{Law, ◌▹◌, law_mark, law_key, law_name, law_nothing, law_when, law_maybe, law_each, law_commas, law_label}
use Rattle.sv_write.proofs.FormsLaws.{law_typedef, law_par_port, law_param, law_port}
use Rattle.sv_write.proofs.DesignLaws.{law_item}
use Rattle.sv_write.specs.Modules.{write_params, write_port_list, write_ports, write_module, write_part, write_source}

pub law_params : (x : List ParPort) → Law (SpellsParams x) (write_params x)
unfolding write_params
law_params [] = law_nothing
law_params (p ∷ ps) = law_mark (codes "#") ▹ law_mark (codes "(") ▹ law_commas law_par_port (p ∷ ps) ▹ law_mark (codes ")")

pub law_port_list : (x : List Port) → Law (port_list x) (write_port_list x)
unfolding write_port_list
law_port_list [] = law_nothing
law_port_list (p ∷ ps) = law_commas law_port (p ∷ ps)

pub law_ports : (x : List Port) → Law (SpellsPorts x) (write_ports x)
unfolding write_ports
law_ports all = law_when (law_mark (codes "(") ▹ law_port_list all ▹ law_mark (codes ")"))

pub law_module : (x : Module) → Law (SpellsModule x) (write_module x)
unfolding write_module
law_module m = law_key (codes "module") ▹ law_name m.name ▹ law_params m.params ▹ law_maybe law_ports m.ports ▹ law_mark (codes ";") ▹ law_each law_item m.items ▹ law_key (codes "endmodule") ▹ law_label m.name m.label

pub law_part : (x : SourcePart) → Law (SpellsPart x) (write_part x)
unfolding write_part
law_part (source_part.Module m) = law_module m
law_part (source_part.Typedef d) = law_typedef d
law_part (source_part.Param p) = law_param p

pub law_source : (x : Source) → Law (SpellsSource x) (write_source x)
unfolding write_source
law_source s = law_each law_part s.parts
