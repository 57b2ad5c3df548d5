-- Instances and items of modules: what is written are the kinds and texts of whatever tokens spell them.
use Rattle.std.specs.Prelude.{Bool, true, false, codes, Option}
use mathlib.Core.Former.{Count}
use Rattle.sv_tree.specs.declared.design.AssignPair.{AssignPair}
use Rattle.sv_tree.specs.declared.design.Pin.{Pin}
use Rattle.sv_tree.specs.declared.design.Pin.TheVariants as pin
use Rattle.sv_tree.specs.declared.design.NamedPin.{NamedPin}
use Rattle.sv_tree.specs.declared.design.Pins.{Pins}
use Rattle.sv_tree.specs.declared.design.Pins.TheVariants as pins
use Rattle.sv_tree.specs.declared.design.One.{One}
use Rattle.sv_tree.specs.declared.design.Inst.{Inst as InstTree}
use Rattle.sv_tree.specs.declared.design.Item.{Item, Net, Variable, Typedef, Param, Genvar, Assign, Always, Inst, For', If', Generate', Row_of-Item, end_of-Item, more_of-Item, end_of-Gen, more_of-Gen, Held-Item-If-3, None', Some'}
use Rattle.sv_tree.specs.declared.design.Gen.{Gen, Block', Single'}
use Rattle.sv_tree.specs.GrammarDesign.{SpellsPair, SpellsPin, SpellsNamed, SpellsPins, SpellsOne, SpellsGiven, SpellsInst, genvar_if, SpellsItem, SpellsGen, SpellsElse, SpellsItems, is_closed_gen}
use Rattle.sv_write.specs.Design.{write_pair, write_pin, write_named, write_pins, write_one, write_override, write_inst, write_genvar_if, write_item, write_gen, write_else, write_items}
use Rattle.sv_write.proofs.Lawful.{Law, ◌▹◌, law_mark, law_key, law_key_at, law_name, law_nothing, law_when, law_maybe, law_commas, law_label_of, law_first}
use Rattle.sv_write.proofs.ExprsLaws.{law_expr}
use Rattle.sv_write.proofs.FormsLaws.{law_given, law_type, law_typedef, law_param, law_net_key}
use Rattle.sv_write.proofs.StmtsLaws.{law_lvalue, law_step, law_block_name, law_block}

pub law_pair : (x : AssignPair) → Law (SpellsPair x) (write_pair x)
unfolding write_pair
law_pair p = law_lvalue p.target ▹ law_given p.value

pub law_pin : (x : Pin) → Law (SpellsPin x) (write_pin x)
unfolding write_pin
law_pin pin.Same = law_nothing
law_pin pin.Open = law_mark (codes "(") ▹ law_mark (codes ")")
law_pin (pin.Given x) = law_mark (codes "(") ▹ law_expr 0 x ▹ law_mark (codes ")")

pub law_named : (x : NamedPin) → Law (SpellsNamed x) (write_named x)
unfolding write_named
law_named p = law_mark (codes ".") ▹ law_name p.name ▹ law_pin p.pin

pub law_pins : (x : Pins) → Law (SpellsPins x) (write_pins x)
unfolding write_pins
law_pins (pins.Named all) = law_commas law_named all
law_pins (pins.Ordered all) = law_commas (law_expr 0) all

pub law_one : (x : One) → Law (SpellsOne x) (write_one x)
unfolding write_one
law_one o = law_name o.name ▹ law_mark (codes "(") ▹ law_maybe law_pins o.pins ▹ law_mark (codes ")")

pub law_override : (x : Option Pins) → Law (SpellsGiven x) (write_override x)
unfolding write_override
law_override p = law_mark (codes "#") ▹ law_mark (codes "(") ▹ law_maybe law_pins p ▹ law_mark (codes ")")

pub law_inst : (x : InstTree) → Law (SpellsInst x) (write_inst x)
unfolding write_inst
law_inst i = law_name i.of_module ▹ law_maybe law_override i.params ▹ law_commas law_one i.list ▹ law_mark (codes ";")

pub law_genvar_if : (x : Bool) → Law (genvar_if x) (write_genvar_if x)
unfolding write_genvar_if
law_genvar_if true = law_key (codes "genvar")
law_genvar_if false = law_nothing

mutual
  unfolding write_item write_gen write_else write_items

  pub law_item : (x : Item) → Law (SpellsItem x) (write_item x)
  law_item (Net w t names) = law_net_key w ▹ law_maybe law_type t ▹ law_commas law_name names ▹ law_mark (codes ";")
  law_item (Variable t names) = law_type t ▹ law_commas law_name names ▹ law_mark (codes ";")
  law_item (Typedef d) = law_typedef d
  law_item (Param p) = law_param p
  law_item (Genvar names) = law_key (codes "genvar") ▹ law_commas law_name names ▹ law_mark (codes ";")
  law_item (Assign all) = law_key (codes "assign") ▹ law_commas law_pair all ▹ law_mark (codes ";")
  law_item (Always b) = law_block b
  law_item (Inst i) = law_inst i
  law_item (For' p header v start test next r (more_of-Gen x end_of-Gen)) = law_key_at (codes "for") p ▹ law_mark (codes "(") ▹ law_genvar_if header ▹ law_name v ▹ law_mark (codes "=") ▹ law_expr 0 start ▹ law_mark (codes ";") ▹ law_expr 0 test ▹ law_mark (codes ";") ▹ law_step v next ▹ law_mark (codes ")") ▹ law_gen x
  law_item (If' p c r (more_of-Gen x end_of-Gen) other) = law_key_at (codes "if") p ▹ law_mark (codes "(") ▹ law_expr 0 c ▹ law_mark (codes ")") ▹ law_gen x ▹ law_else (is_closed_gen x) other
  law_item (Generate' s all) = law_key (codes "generate") ▹ law_items all ▹ law_key (codes "endgenerate")

  pub law_gen : (x : Gen) → Law (SpellsGen x) (write_gen x)
  law_gen (Block' p b s all e) = law_key_at (codes "begin") p ▹ law_maybe law_block_name b ▹ law_items all ▹ law_key (codes "end") ▹ law_label_of b e
  law_gen (Single' p r (more_of-Item x end_of-Item)) = law_first p (law_item x)

  pub law_else : (x : Bool) (y : Held-Item-If-3) → Law (SpellsElse x y) (write_else y)
  law_else closed None' = law_nothing
  law_else closed (Some' r (more_of-Gen x end_of-Gen)) = law_when (law_key (codes "else") ▹ law_gen x)

  pub law_items : {m : Count} (x : Row_of-Item m) → Law (SpellsItems x) (write_items x)
  law_items end_of-Item = law_nothing
  law_items (more_of-Item x all) = law_item x ▹ law_items all
