-- Types, parameters and ports: what is written are the kinds and texts of whatever tokens spell them.
use Rattle.std.specs.Prelude.{[], codes, None, ◌∷◌, Some}
use mathlib.Core.Former.{Count}
use Rattle.sv_tree.specs.declared.exprs.Expr.{Expr}
use Rattle.sv_tree.specs.declared.exprs.Sign.{Sign}
use Rattle.sv_tree.specs.declared.forms.BitsWord.{BitsWord}
use Rattle.sv_tree.specs.declared.forms.WholeWord.{WholeWord}
use Rattle.sv_tree.specs.declared.forms.WholeWord.TheVariants as whole_word
use Rattle.sv_tree.specs.declared.forms.Range.{Range}
use Rattle.sv_tree.specs.declared.forms.EnumLabel.{EnumLabel}
use Rattle.sv_tree.specs.declared.forms.TypeTree.{TypeTree, Vector, Integer, Struct', Enum, Named, Row_of-Member, end_of-Member, more_of-Member}
use Rattle.sv_tree.specs.declared.forms.Member.{Member, Of', end_of-TypeTree, more_of-TypeTree}
use Rattle.sv_tree.specs.declared.forms.Typedef.{Typedef}
use Rattle.sv_tree.specs.declared.design.ParamWord.{ParamWord}
use Rattle.sv_tree.specs.declared.design.ParamWord.TheVariants as param_word
use Rattle.sv_tree.specs.declared.design.ParamBits.{ParamBits}
use Rattle.sv_tree.specs.declared.design.ParamBits.TheVariants as param_bits
use Rattle.sv_tree.specs.declared.design.ParamType.{ParamType}
use Rattle.sv_tree.specs.declared.design.ParamType.TheVariants as param_type
use Rattle.sv_tree.specs.declared.design.ParPort.{ParPort}
use Rattle.sv_tree.specs.declared.design.ParamItem.{ParamItem}
use Rattle.sv_tree.specs.declared.design.Param.{Param}
use Rattle.sv_tree.specs.declared.design.Way.{Way}
use Rattle.sv_tree.specs.declared.design.Way.TheVariants as way
use Rattle.sv_tree.specs.declared.design.NetWord.{NetWord}
use Rattle.sv_tree.specs.declared.design.NetWord.TheVariants as net_word
use Rattle.sv_tree.specs.declared.design.Port.{Port}
use Rattle.sv_tree.specs.GrammarForms.{bits_key, sign_key, SpellsRange, given, SpellsLabel, SpellsType, SpellsMembers, MoreMembers, SpellsMember, SpellsTypedef, whole_key, param_bits_key, param_key, SpellsParamType, SpellsParPort, SpellsParamItem, SpellsParam, way_key, net_key, SpellsPort, bits_text}
use Rattle.sv_write.specs.Forms.{write_bits_key, write_sign_key, write_range, write_given, write_enum_label, write_type, write_members, write_more_members, write_member, write_typedef, write_whole_key, write_param_bits_key, write_param_key, write_param_type, write_par_port, write_param_item, write_param, write_way_key, write_net_key, write_port}
use Rattle.sv_write.specs.Writing as w
use Rattle.sv_write.proofs.Lawful.{Law, ◌▹◌, law_mark, law_mark_at, law_key, law_name, law_nothing, law_never, law_maybe, law_each, law_commas}
use Rattle.sv_tree.specs.GrammarExprs.{sign_word}
use Rattle.sv_write.proofs.ExprsLaws.{law_expr}

pub law_bits_key : (x : BitsWord) → Law (bits_key x) (write_bits_key x)
unfolding write_bits_key
law_bits_key w = law_key (bits_text w)

pub law_sign_key : (x : Sign) → Law (sign_key x) (write_sign_key x)
unfolding write_sign_key
law_sign_key s = law_key (sign_word s)

pub law_range : (x : Range) → Law (SpellsRange x) (write_range x)
unfolding write_range
law_range r = law_mark_at (codes "[") r.place ▹ law_expr 0 r.left ▹ law_mark (codes ":") ▹ law_expr 0 r.right ▹ law_mark (codes "]")

pub law_given : (x : Expr) → Law (given x) (write_given x)
unfolding write_given
law_given x = law_mark (codes "=") ▹ law_expr 0 x

pub law_enum_label : (x : EnumLabel) → Law (SpellsLabel x) (write_enum_label x)
unfolding write_enum_label
law_enum_label x = law_name x.name ▹ law_maybe law_given x.value

mutual
  unfolding write_type write_members write_more_members write_member

  pub law_type : (x : TypeTree) → Law (SpellsType x) (write_type x)
  law_type (Vector None None []) = law_never (write_type (Vector None None []))
  law_type (Vector None None (r ∷ ranges)) = law_maybe law_bits_key None ▹ law_maybe law_sign_key None ▹ law_each law_range (r ∷ ranges)
  law_type (Vector None (Some s) ranges) = law_maybe law_bits_key None ▹ law_maybe law_sign_key (Some s) ▹ law_each law_range ranges
  law_type (Vector (Some w) s ranges) = law_maybe law_bits_key (Some w) ▹ law_maybe law_sign_key s ▹ law_each law_range ranges
  law_type Integer = law_key (codes "integer")
  law_type (Struct' s r all ranges) = law_key (codes "struct") ▹ law_key (codes "packed") ▹ law_maybe law_sign_key s ▹ law_mark (codes "{") ▹ law_members all ▹ law_mark (codes "}") ▹ law_each law_range ranges
  law_type (Enum w s r all) = law_key (codes "enum") ▹ law_bits_key w ▹ law_maybe law_sign_key s ▹ law_maybe law_range r ▹ law_mark (codes "{") ▹ law_commas law_enum_label all ▹ law_mark (codes "}")
  law_type (Named w ranges) = law_name w ▹ law_each law_range ranges

  pub law_members : {m : Count} (x : Row_of-Member m) → Law (SpellsMembers x) (write_members x)
  law_members end_of-Member = law_never w.nothing
  law_members (more_of-Member x all) = law_member x ▹ law_more_members all

  pub law_more_members : {m : Count} (x : Row_of-Member m) → Law (MoreMembers x) (write_more_members x)
  law_more_members end_of-Member = law_nothing
  law_more_members (more_of-Member x all) = law_member x ▹ law_more_members all

  pub law_member : (x : Member) → Law (SpellsMember x) (write_member x)
  law_member (Of' r (more_of-TypeTree t end_of-TypeTree) names) = law_type t ▹ law_commas law_name names ▹ law_mark (codes ";")

pub law_typedef : (x : Typedef) → Law (SpellsTypedef x) (write_typedef x)
unfolding write_typedef
law_typedef d = law_key (codes "typedef") ▹ law_type d.form ▹ law_name d.name ▹ law_mark (codes ";")

pub law_whole_key : (x : WholeWord) → Law (whole_key x) (write_whole_key x)
unfolding write_whole_key
law_whole_key whole_word.Int = law_key (codes "int")
law_whole_key whole_word.Integer = law_key (codes "integer")

pub law_param_bits_key : (x : ParamBits) → Law (param_bits_key x) (write_param_bits_key x)
unfolding write_param_bits_key
law_param_bits_key param_bits.Bit = law_key (codes "bit")
law_param_bits_key param_bits.Logic = law_key (codes "logic")
law_param_bits_key param_bits.Reg = law_key (codes "reg")

pub law_param_key : (x : ParamWord) → Law (param_key x) (write_param_key x)
unfolding write_param_key
law_param_key param_word.Parameter = law_key (codes "parameter")
law_param_key param_word.Localparam = law_key (codes "localparam")

pub law_param_type : (x : ParamType) → Law (SpellsParamType x) (write_param_type x)
unfolding write_param_type
law_param_type (param_type.Whole w s) = law_whole_key w ▹ law_maybe law_sign_key s
law_param_type (param_type.Bits None None None) = law_never (write_param_type (param_type.Bits None None None))
law_param_type (param_type.Bits None None (Some r)) = law_maybe law_param_bits_key None ▹ law_maybe law_sign_key None ▹ law_maybe law_range (Some r)
law_param_type (param_type.Bits None (Some s) r) = law_maybe law_param_bits_key None ▹ law_maybe law_sign_key (Some s) ▹ law_maybe law_range r
law_param_type (param_type.Bits (Some w) s r) = law_maybe law_param_bits_key (Some w) ▹ law_maybe law_sign_key s ▹ law_maybe law_range r

pub law_par_port : (x : ParPort) → Law (SpellsParPort x) (write_par_port x)
unfolding write_par_port
law_par_port p = law_maybe law_param_key p.word ▹ law_maybe law_param_type p.form ▹ law_name p.name ▹ law_given p.value

pub law_param_item : (x : ParamItem) → Law (SpellsParamItem x) (write_param_item x)
unfolding write_param_item
law_param_item i = law_name i.name ▹ law_given i.value

pub law_param : (x : Param) → Law (SpellsParam x) (write_param x)
unfolding write_param
law_param p = law_param_key p.word ▹ law_maybe law_param_type p.form ▹ law_commas law_param_item p.list ▹ law_mark (codes ";")

pub law_way_key : (x : Way) → Law (way_key x) (write_way_key x)
unfolding write_way_key
law_way_key way.Input = law_key (codes "input")
law_way_key way.Output = law_key (codes "output")
law_way_key way.Inout = law_key (codes "inout")

pub law_net_key : (x : NetWord) → Law (net_key x) (write_net_key x)
unfolding write_net_key
law_net_key net_word.Wire = law_key (codes "wire")
law_net_key net_word.Tri = law_key (codes "tri")

pub law_port : (x : Port) → Law (SpellsPort x) (write_port x)
unfolding write_port
law_port p = law_maybe law_way_key p.way ▹ law_maybe law_net_key p.kind ▹ law_maybe law_type p.form ▹ law_name p.name
