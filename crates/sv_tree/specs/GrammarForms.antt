-- The grammar of types, parameters and ports (A.2, A.1.3).
use Rattle.std.specs.Prelude.{[], codes, None}
use mathlib.Core.Former.{Count}
use Rattle.sv_tree.specs.declared.exprs.Expr.{Expr}
use Rattle.sv_tree.specs.declared.exprs.Sign.{Sign}
use Rattle.sv_tree.specs.declared.forms.BitsWord.{BitsWord}
use Rattle.sv_tree.specs.declared.forms.BitsWord.TheVariants as bits_word
use Rattle.sv_tree.specs.declared.forms.WholeWord.{WholeWord}
use Rattle.sv_tree.specs.declared.forms.WholeWord.TheVariants as whole_word
use Rattle.sv_tree.specs.declared.forms.Range.{Range}
use Rattle.sv_tree.specs.declared.forms.EnumLabel.{EnumLabel}
use Rattle.sv_tree.specs.declared.forms.TypeTree.{TypeTree, Vector, Integer, Struct', Enum, Named, Row_of-Member, end_of-Member, more_of-Member}
use Rattle.sv_tree.specs.declared.forms.Member.{Member, Of', end_of-TypeTree, more_of-TypeTree}
use Rattle.sv_tree.specs.declared.forms.Typedef.{Typedef}
use Rattle.sv_tree.specs.declared.design.ParamWord.{ParamWord}
use Rattle.sv_tree.specs.declared.design.ParamWord.TheVariants as param_word
use Rattle.sv_tree.specs.declared.design.ParamBits.{ParamBits}
use Rattle.sv_tree.specs.declared.design.ParamBits.TheVariants as param_bits
use Rattle.sv_tree.specs.declared.design.ParamType.{ParamType}
use Rattle.sv_tree.specs.declared.design.ParamType.TheVariants as param_type
use Rattle.sv_tree.specs.declared.design.ParPort.{ParPort}
use Rattle.sv_tree.specs.declared.design.ParamItem.{ParamItem}
use Rattle.sv_tree.specs.declared.design.Param.{Param}
use Rattle.sv_tree.specs.declared.design.Way.{Way}
use Rattle.sv_tree.specs.declared.design.Way.TheVariants as way
use Rattle.sv_tree.specs.declared.design.NetWord.{NetWord}
use Rattle.sv_tree.specs.declared.design.NetWord.TheVariants as net_word
use Rattle.sv_tree.specs.declared.design.Port.{Port}
use Rattle.sv_tree.specs.Spelling.{Text, Spelled, nothing, never, ◌⨟◌, mark, mark_at, key, name, maybe, each, commas}
use Rattle.sv_tree.specs.GrammarExprs.{Spells, sign_word}

abbrev pub bits_text : BitsWord → Text
bits_text bits_word.Logic = codes "logic"
bits_text bits_word.Reg = codes "reg"

abbrev pub bits_key : BitsWord → Spelled
bits_key w = key (bits_text w)

abbrev pub sign_key : Sign → Spelled
sign_key s = key (sign_word s)

abbrev pub SpellsRange : Range → Spelled
SpellsRange r = mark_at (codes "[") r.place ⨟ Spells 0 r.left ⨟ mark (codes ":") ⨟ Spells 0 r.right ⨟ mark (codes "]")

abbrev pub given : Expr → Spelled
given x = mark (codes "=") ⨟ Spells 0 x

abbrev pub SpellsLabel : EnumLabel → Spelled
SpellsLabel x = name x.name ⨟ maybe given x.value

abbrev mutual
  pub SpellsType : TypeTree → Spelled
  SpellsType (Vector None None []) = never
  SpellsType (Vector w s ranges) = maybe bits_key w ⨟ maybe sign_key s ⨟ each SpellsRange ranges
  SpellsType Integer = key (codes "integer")
  SpellsType (Struct' s r all ranges) =
      key (codes "struct") ⨟ key (codes "packed") ⨟ maybe sign_key s ⨟ mark (codes "{") ⨟ SpellsMembers all ⨟ mark (codes "}") ⨟ each SpellsRange ranges
  SpellsType (Enum w s r all) =
      key (codes "enum") ⨟ bits_key w ⨟ maybe sign_key s ⨟ maybe SpellsRange r ⨟ mark (codes "{") ⨟ commas SpellsLabel all ⨟ mark (codes "}")
  SpellsType (Named w ranges) = name w ⨟ each SpellsRange ranges

  -- at least one
  pub SpellsMembers : {m : Count} → Row_of-Member m → Spelled
  SpellsMembers end_of-Member = never
  SpellsMembers (more_of-Member x all) = SpellsMember x ⨟ MoreMembers all

  pub MoreMembers : {m : Count} → Row_of-Member m → Spelled
  MoreMembers end_of-Member = nothing
  MoreMembers (more_of-Member x all) = SpellsMember x ⨟ MoreMembers all

  pub SpellsMember : Member → Spelled
  SpellsMember (Of' r (more_of-TypeTree t end_of-TypeTree) names) = SpellsType t ⨟ commas name names ⨟ mark (codes ";")

abbrev pub SpellsTypedef : Typedef → Spelled
SpellsTypedef d = key (codes "typedef") ⨟ SpellsType d.form ⨟ name d.name ⨟ mark (codes ";")

-- ---- parameters

abbrev pub whole_key : WholeWord → Spelled
whole_key whole_word.Int = key (codes "int")
whole_key whole_word.Integer = key (codes "integer")

abbrev pub param_bits_key : ParamBits → Spelled
param_bits_key param_bits.Bit = key (codes "bit")
param_bits_key param_bits.Logic = key (codes "logic")
param_bits_key param_bits.Reg = key (codes "reg")

abbrev pub param_key : ParamWord → Spelled
param_key param_word.Parameter = key (codes "parameter")
param_key param_word.Localparam = key (codes "localparam")

-- an empty one is absent
abbrev pub SpellsParamType : ParamType → Spelled
SpellsParamType (param_type.Whole w s) = whole_key w ⨟ maybe sign_key s
SpellsParamType (param_type.Bits None None None) = never
SpellsParamType (param_type.Bits w s r) = maybe param_bits_key w ⨟ maybe sign_key s ⨟ maybe SpellsRange r

abbrev pub SpellsParPort : ParPort → Spelled
SpellsParPort p = maybe param_key p.word ⨟ maybe SpellsParamType p.form ⨟ name p.name ⨟ given p.value

abbrev pub SpellsParamItem : ParamItem → Spelled
SpellsParamItem i = name i.name ⨟ given i.value

abbrev pub SpellsParam : Param → Spelled
SpellsParam p = param_key p.word ⨟ maybe SpellsParamType p.form ⨟ commas SpellsParamItem p.list ⨟ mark (codes ";")

-- ---- ports

abbrev pub way_key : Way → Spelled
way_key way.Input = key (codes "input")
way_key way.Output = key (codes "output")
way_key way.Inout = key (codes "inout")

abbrev pub net_key : NetWord → Spelled
net_key net_word.Wire = key (codes "wire")
net_key net_word.Tri = key (codes "tri")

abbrev pub SpellsPort : Port → Spelled
SpellsPort p = maybe way_key p.way ⨟ maybe net_key p.kind ⨟ maybe SpellsType p.form ⨟ name p.name
