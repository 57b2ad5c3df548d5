-- Instances and items of modules as they are written: the kinds and texts of their tokens.
use Rattle.std.specs.Prelude.{Bool, true, false, List, codes, Option}
use mathlib.Core.Former.{Count}
use Rattle.sv_tree.specs.declared.design.AssignPair.{AssignPair}
use Rattle.sv_tree.specs.declared.design.Pin.{Pin}
use Rattle.sv_tree.specs.declared.design.Pin.TheVariants as pin
use Rattle.sv_tree.specs.declared.design.NamedPin.{NamedPin}
use Rattle.sv_tree.specs.declared.design.Pins.{Pins}
use Rattle.sv_tree.specs.declared.design.Pins.TheVariants as pins
use Rattle.sv_tree.specs.declared.design.One.{One}
use Rattle.sv_tree.specs.declared.design.Inst.{Inst as InstTree}
use Rattle.sv_tree.specs.declared.design.Item.{Item, Net, Variable, Typedef, Param, Genvar, Assign, Always, Inst, For', If', Generate', Row_of-Item, end_of-Item, more_of-Item, end_of-Gen, more_of-Gen, Held-Item-If-3, None', Some'}
use Rattle.sv_tree.specs.declared.design.Gen.{Gen, Block', Single'}
use Rattle.sv_tree.specs.declared.exprs.Expr.{Expr}
use Rattle.sv_write.specs.Writing.{Write, ◌⨾◌, nothing, mark, key, name, maybe, commas, label}
use Rattle.sv_write.specs.Exprs.{write_expr, in_parens}
use Rattle.sv_write.specs.Forms.{write_given, write_type, write_typedef, write_param, write_net_key, names_end}
use Rattle.sv_write.specs.Stmts.{write_lvalue, write_step, write_block_name, write_block}
use Rattle.sv_tree.specs.declared.forms.TypeTree.{TypeTree}
use Rattle.sv_tree.specs.declared.design.NetWord.{NetWord}
use Rattle.sv_tree.specs.declared.word.Word.{Word}

unfoldable pub write_pair : AssignPair → Write
write_pair p = write_lvalue p.target ⨾ write_given p.value

unfoldable pub write_pin : Pin → Write
write_pin pin.Same = nothing
write_pin pin.Open = mark (codes "(") ⨾ mark (codes ")")
write_pin (pin.Given x) = mark (codes "(") ⨾ write_expr x ⨾ mark (codes ")")

unfoldable pub write_named : NamedPin → Write
write_named p = mark (codes ".") ⨾ name p.name ⨾ write_pin p.pin

unfoldable pub write_pins : Pins → Write
write_pins (pins.Named all) = commas write_named all
write_pins (pins.Ordered all) = commas write_expr all

unfoldable pub write_one : One → Write
write_one o = name o.name ⨾ mark (codes "(") ⨾ maybe write_pins o.pins ⨾ mark (codes ")")

unfoldable pub write_override : Option Pins → Write
write_override p = mark (codes "#") ⨾ mark (codes "(") ⨾ maybe write_pins p ⨾ mark (codes ")")

unfoldable pub write_inst : InstTree → Write
write_inst i = name i.of_module ⨾ maybe write_override i.params ⨾ commas write_one i.list ⨾ mark (codes ";")

unfoldable pub write_genvar_if : Bool → Write
write_genvar_if true = key (codes "genvar")
write_genvar_if false = nothing

unfoldable mutual
  pub write_item : Item → Write
  write_item (Net w t names) = write_net_key w ⨾ maybe write_type t ⨾ commas name names ⨾ mark (codes ";")
  write_item (Variable t names) = write_type t ⨾ commas name names ⨾ mark (codes ";")
  write_item (Typedef d) = write_typedef d
  write_item (Param p) = write_param p
  write_item (Genvar names) = key (codes "genvar") ⨾ commas name names ⨾ mark (codes ";")
  write_item (Assign all) = key (codes "assign") ⨾ commas write_pair all ⨾ mark (codes ";")
  write_item (Always b) = write_block b
  write_item (Inst i) = write_inst i
  write_item (For' p header v start test next r (more_of-Gen x end_of-Gen)) = key (codes "for") ⨾ mark (codes "(") ⨾ write_genvar_if header ⨾ name v ⨾ mark (codes "=") ⨾ write_expr start ⨾ mark (codes ";") ⨾ write_expr test ⨾ mark (codes ";") ⨾ write_step v next ⨾ mark (codes ")") ⨾ write_gen x
  write_item (If' p c r (more_of-Gen x end_of-Gen) other) = key (codes "if") ⨾ mark (codes "(") ⨾ write_expr c ⨾ mark (codes ")") ⨾ write_gen x ⨾ write_else other
  write_item (Generate' s all) = key (codes "generate") ⨾ write_items all ⨾ key (codes "endgenerate")

  pub write_gen : Gen → Write
  write_gen (Block' p b s all e) = key (codes "begin") ⨾ maybe write_block_name b ⨾ write_items all ⨾ key (codes "end") ⨾ label e
  write_gen (Single' p r (more_of-Item x end_of-Item)) = write_item x

  pub write_else : Held-Item-If-3 → Write
  write_else None' = nothing
  write_else (Some' r (more_of-Gen x end_of-Gen)) = key (codes "else") ⨾ write_gen x

  pub write_items : {m : Count} → Row_of-Item m → Write
  write_items end_of-Item = nothing
  write_items (more_of-Item x all) = write_item x ⨾ write_items all

-- what stands behind a branch
abbrev pub write_else_part : Gen → Write
write_else_part x = key (codes "else") ⨾ write_gen x

-- ---- what is written for items of each kind, and for parts of them

abbrev pub net : NetWord → Option TypeTree → List Word → Write
net w t all = write_net_key w ⨾ maybe write_type t ⨾ names_end all

abbrev pub variable : TypeTree → List Word → Write
variable t all = write_type t ⨾ names_end all

abbrev pub genvars : List Word → Write
genvars all = key (codes "genvar") ⨾ names_end all

abbrev pub assigns : List AssignPair → Write
assigns all = key (codes "assign") ⨾ commas write_pair all ⨾ mark (codes ";")

abbrev pub for_word : Bool → Write
for_word header = key (codes "for") ⨾ mark (codes "(") ⨾ write_genvar_if header

abbrev pub if_head : Expr → Write
if_head test = key (codes "if") ⨾ in_parens test
