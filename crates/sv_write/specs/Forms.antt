-- Types, parameters and ports as they are written: the kinds and texts of their tokens.
use Rattle.std.specs.Prelude.{codes, List, Option}
use mathlib.Core.Former.{Count}
use Rattle.sv_tree.specs.declared.exprs.Expr.{Expr}
use Rattle.sv_tree.specs.declared.exprs.Sign.{Sign}
use Rattle.sv_tree.specs.declared.forms.BitsWord.{BitsWord}
use Rattle.sv_tree.specs.declared.forms.WholeWord.{WholeWord}
use Rattle.sv_tree.specs.declared.forms.WholeWord.TheVariants as whole_word
use Rattle.sv_tree.specs.declared.forms.Range.{Range}
use Rattle.sv_tree.specs.declared.forms.EnumLabel.{EnumLabel}
use Rattle.sv_tree.specs.declared.forms.TypeTree.{TypeTree, Vector, Integer, Struct', Enum, Named, Row_of-Member, end_of-Member, more_of-Member}
use Rattle.sv_tree.specs.declared.forms.Member.{Member, Of', end_of-TypeTree, more_of-TypeTree}
use Rattle.sv_tree.specs.declared.forms.Typedef.{Typedef}
use Rattle.sv_tree.specs.declared.word.Word.{Word}
use Rattle.sv_tree.specs.declared.design.ParamWord.{ParamWord}
use Rattle.sv_tree.specs.declared.design.ParamWord.TheVariants as param_word
use Rattle.sv_tree.specs.declared.design.ParamBits.{ParamBits}
use Rattle.sv_tree.specs.declared.design.ParamBits.TheVariants as param_bits
use Rattle.sv_tree.specs.declared.design.ParamType.{ParamType}
use Rattle.sv_tree.specs.declared.design.ParamType.TheVariants as param_type
use Rattle.sv_tree.specs.declared.design.ParPort.{ParPort}
use Rattle.sv_tree.specs.declared.design.ParamItem.{ParamItem}
use Rattle.sv_tree.specs.declared.design.Param.{Param}
use Rattle.sv_tree.specs.declared.design.Way.{Way}
use Rattle.sv_tree.specs.declared.design.Way.TheVariants as way
use Rattle.sv_tree.specs.declared.design.NetWord.{NetWord}
use Rattle.sv_tree.specs.declared.design.NetWord.TheVariants as net_word
use Rattle.sv_tree.specs.declared.design.Port.{Port}
use Rattle.sv_write.specs.Writing.{Write, ◌⨾◌, nothing, mark, key, name, maybe, each, commas}
use Rattle.sv_tree.specs.GrammarForms.{bits_text}
use Rattle.sv_tree.specs.GrammarExprs.{sign_word}
use Rattle.sv_write.specs.Exprs.{write_expr}

unfoldable pub write_bits_key : BitsWord → Write
write_bits_key w = key (bits_text w)

unfoldable pub write_sign_key : Sign → Write
write_sign_key s = key (sign_word s)

unfoldable pub write_range : Range → Write
write_range r = mark (codes "[") ⨾ write_expr r.left ⨾ mark (codes ":") ⨾ write_expr r.right ⨾ mark (codes "]")

unfoldable pub write_given : Expr → Write
write_given x = mark (codes "=") ⨾ write_expr x

unfoldable pub write_enum_label : EnumLabel → Write
write_enum_label x = name x.name ⨾ maybe write_given x.value

unfoldable mutual
  pub write_type : TypeTree → Write
  write_type (Vector w s ranges) = maybe write_bits_key w ⨾ maybe write_sign_key s ⨾ each write_range ranges
  write_type Integer = key (codes "integer")
  write_type (Struct' s r all ranges) = key (codes "struct") ⨾ key (codes "packed") ⨾ maybe write_sign_key s ⨾ mark (codes "{") ⨾ write_members all ⨾ mark (codes "}") ⨾ each write_range ranges
  write_type (Enum w s r all) = key (codes "enum") ⨾ write_bits_key w ⨾ maybe write_sign_key s ⨾ maybe write_range r ⨾ mark (codes "{") ⨾ commas write_enum_label all ⨾ mark (codes "}")
  write_type (Named w ranges) = name w ⨾ each write_range ranges

  pub write_members : {m : Count} → Row_of-Member m → Write
  write_members end_of-Member = nothing
  write_members (more_of-Member x all) = write_member x ⨾ write_more_members all

  pub write_more_members : {m : Count} → Row_of-Member m → Write
  write_more_members end_of-Member = nothing
  write_more_members (more_of-Member x all) = write_member x ⨾ write_more_members all

  pub write_member : Member → Write
  write_member (Of' r (more_of-TypeTree t end_of-TypeTree) names) = write_type t ⨾ commas name names ⨾ mark (codes ";")

unfoldable pub write_typedef : Typedef → Write
write_typedef d = key (codes "typedef") ⨾ write_type d.form ⨾ name d.name ⨾ mark (codes ";")

unfoldable pub write_whole_key : WholeWord → Write
write_whole_key whole_word.Int = key (codes "int")
write_whole_key whole_word.Integer = key (codes "integer")

unfoldable pub write_param_bits_key : ParamBits → Write
write_param_bits_key param_bits.Bit = key (codes "bit")
write_param_bits_key param_bits.Logic = key (codes "logic")
write_param_bits_key param_bits.Reg = key (codes "reg")

unfoldable pub write_param_key : ParamWord → Write
write_param_key param_word.Parameter = key (codes "parameter")
write_param_key param_word.Localparam = key (codes "localparam")

unfoldable pub write_param_type : ParamType → Write
write_param_type (param_type.Whole w s) = write_whole_key w ⨾ maybe write_sign_key s
write_param_type (param_type.Bits w s r) = maybe write_param_bits_key w ⨾ maybe write_sign_key s ⨾ maybe write_range r

unfoldable pub write_par_port : ParPort → Write
write_par_port p = maybe write_param_key p.word ⨾ maybe write_param_type p.form ⨾ name p.name ⨾ write_given p.value

unfoldable pub write_param_item : ParamItem → Write
write_param_item i = name i.name ⨾ write_given i.value

unfoldable pub write_param : Param → Write
write_param p = write_param_key p.word ⨾ maybe write_param_type p.form ⨾ commas write_param_item p.list ⨾ mark (codes ";")

unfoldable pub write_way_key : Way → Write
write_way_key way.Input = key (codes "input")
write_way_key way.Output = key (codes "output")
write_way_key way.Inout = key (codes "inout")

unfoldable pub write_net_key : NetWord → Write
write_net_key net_word.Wire = key (codes "wire")
write_net_key net_word.Tri = key (codes "tri")

unfoldable pub write_port : Port → Write
write_port p = maybe write_way_key p.way ⨾ maybe write_net_key p.kind ⨾ maybe write_type p.form ⨾ name p.name

-- ---- what is written for parts of types

abbrev pub vector : Option BitsWord → Option Sign → List Range → Write
vector w s ranges = maybe write_bits_key w ⨾ maybe write_sign_key s ⨾ each write_range ranges

abbrev pub labels : List EnumLabel → Write
labels all = mark (codes "{") ⨾ commas write_enum_label all ⨾ mark (codes "}")

abbrev pub enumeration : BitsWord → Option Sign → Option Range → List EnumLabel → Write
enumeration w s r all = key (codes "enum") ⨾ write_bits_key w ⨾ maybe write_sign_key s ⨾ maybe write_range r ⨾ labels all

-- what stands before the members of a structure
abbrev pub packed : Option Sign → Write
packed s = key (codes "struct") ⨾ key (codes "packed") ⨾ maybe write_sign_key s ⨾ mark (codes "{")

abbrev pub structure : Option Sign → List Member → List Range → Write
structure s all ranges = packed s ⨾ each write_member all ⨾ mark (codes "}") ⨾ each write_range ranges

abbrev pub names_end : List Word → Write
names_end all = commas name all ⨾ mark (codes ";")
