-- Each place that a tree keeps is that of a token: types, parameters and ports. A lemma for each production, in the form that SpelledExprs tells:
-- it follows the chain of its grammar, so each line is one part of that chain, and what keeps no place is only passed.
use Rattle.std.proofs.Common.{List, [], ◌∷◌, Option, Some, None, codes, subst}
use Rattle.sv_tree.specs.declared.word.Word.{Word}
use Rattle.std.specs.Prelude.{IfSome}
use mathlib.Core.Former.{Count}
use Rattle.sv_outside.specs.declared.refusal.Place.{Place}
use Rattle.sv_outside.specs.declared.text.Token.{Token}
use Rattle.sv_tree.specs.declared.exprs.Expr.{Expr}
use Rattle.sv_tree.specs.declared.exprs.Sign.{Sign}
use Rattle.sv_tree.specs.declared.forms.BitsWord.{BitsWord}
use Rattle.sv_tree.specs.declared.forms.WholeWord.{WholeWord}
use Rattle.sv_tree.specs.declared.forms.WholeWord.TheVariants as whole_word
use Rattle.sv_tree.specs.declared.forms.Range.{Range}
use Rattle.sv_tree.specs.declared.forms.EnumLabel.{EnumLabel}
use Rattle.sv_tree.specs.declared.forms.TypeTree.{TypeTree, Vector, Integer, Struct', Enum, Named, Row_of-Member, end_of-Member, more_of-Member}
use Rattle.sv_tree.specs.declared.forms.Member.{Member, Of', end_of-TypeTree, more_of-TypeTree}
use Rattle.sv_tree.specs.declared.forms.Typedef.{Typedef as TypedefTree}
use Rattle.sv_tree.specs.declared.design.ParamWord.{ParamWord}
use Rattle.sv_tree.specs.declared.design.ParamWord.TheVariants as param_word
use Rattle.sv_tree.specs.declared.design.ParamBits.{ParamBits}
use Rattle.sv_tree.specs.declared.design.ParamBits.TheVariants as param_bits
use Rattle.sv_tree.specs.declared.design.ParamType.{ParamType}
use Rattle.sv_tree.specs.declared.design.ParamType.TheVariants as param_type
use Rattle.sv_tree.specs.declared.design.ParPort.{ParPort}
use Rattle.sv_tree.specs.declared.design.ParamItem.{ParamItem}
use Rattle.sv_tree.specs.declared.design.Param.{Param as ParamTree}
use Rattle.sv_tree.specs.declared.design.Way.{Way}
use Rattle.sv_tree.specs.declared.design.Way.TheVariants as way
use Rattle.sv_tree.specs.declared.design.NetWord.{NetWord}
use Rattle.sv_tree.specs.declared.design.NetWord.TheVariants as net_word
use Rattle.sv_tree.specs.declared.design.Port.{Port}
use Rattle.sv_tree.specs.Spelling.{Spelled, name, maybe, each, commas}
use Rattle.sv_tree.specs.GrammarForms.{bits_text, bits_key, sign_key, SpellsRange, given, SpellsLabel, SpellsType, SpellsMembers, MoreMembers, SpellsMember, SpellsTypedef, whole_key, param_bits_key, param_key, SpellsParamType, SpellsParPort, SpellsParamItem, SpellsParam, way_key, net_key, SpellsPort}
use Rattle.sv_tree.specs.GrammarExprs.{sign_word}
use Rattle.sv_places.specs.Within.{Each, InExpr, InRange, InLabel, InNames, InType, InMembers, MoreIn, InMember, InTypedef, InParamType, InParPort, InParamItem, InParam, InPort}
use Rattle.sv_places.proofs.SpelledExprs.{Has, Gives, Passes, past_mark, past_key, mark_in, name_in, names_in, maybe_in, past_maybe, each_in, commas_in, expr_in}

module _ (P : Place → Type 0) where
  -- ---- what keeps no place

  past_bits : (w : BitsWord) → Passes P (bits_key w)
  past_bits w = past_key P (bits_text w)

  past_sign : (s : Sign) → Passes P (sign_key s)
  past_sign s = past_key P (sign_word s)

  pub past_whole : (w : WholeWord) → Passes P (whole_key w)
  past_whole whole_word.Int = past_key P (codes "int")
  past_whole whole_word.Integer = past_key P (codes "integer")

  past_param_bits : (w : ParamBits) → Passes P (param_bits_key w)
  past_param_bits param_bits.Bit = past_key P (codes "bit")
  past_param_bits param_bits.Logic = past_key P (codes "logic")
  past_param_bits param_bits.Reg = past_key P (codes "reg")

  past_param : (w : ParamWord) → Passes P (param_key w)
  past_param param_word.Parameter = past_key P (codes "parameter")
  past_param param_word.Localparam = past_key P (codes "localparam")

  past_way : (w : Way) → Passes P (way_key w)
  past_way way.Input = past_key P (codes "input")
  past_way way.Output = past_key P (codes "output")
  past_way way.Inout = past_key P (codes "inout")

  pub past_net : (w : NetWord) → Passes P (net_key w)
  past_net net_word.Wire = past_key P (codes "wire")
  past_net net_word.Tri = past_key P (codes "tri")

  -- ---- types

  pub range_in : (r : Range) → Gives P (SpellsRange r) (InRange P r)
  range_in r i o h k =
      let s0 = mark_in P (codes "[") r.place i h.0 h.1 k in
      let s1 = expr_in P r.left 0 h.0 h.2.0 h.2.1 s0.1 in
      let s2 = past_mark P (codes ":") h.2.0 h.2.2.0 h.2.2.1 s1.1 in
      let s3 = expr_in P r.right 0 h.2.2.0 h.2.2.2.0 h.2.2.2.1 s2 in
      let s4 = past_mark P (codes "]") h.2.2.2.0 o h.2.2.2.2 s3.1 in
      ((s0.0, s1.0, s3.0), s4)

  pub given_in : (x : Expr) → Gives P (given x) (InExpr P x)
  given_in x i o h k =
      let s0 = past_mark P (codes "=") i h.0 h.1 k in
      let s1 = expr_in P x 0 h.0 o h.2 s0 in
      (s1.0, s1.1)

  label_in : (x : EnumLabel) → Gives P (SpellsLabel x) (InLabel P x)
  label_in x i o h k =
      let s0 = name_in P x.name i h.0 h.1 k in
      let s1 = maybe_in P given (InExpr P) given_in x.value h.0 o h.2 s0.1 in
      ((s0.0, s1.0), s1.1)

  ranges_in : (all : List Range) → Gives P (each SpellsRange all) (Each (InRange P) all)
  ranges_in = each_in P SpellsRange (InRange P) range_in

  abbrev Plain : Option BitsWord → Option Sign → List Range → Spelled
  Plain w s ranges i o = (a : List Token) × maybe bits_key w i a × ((b : List Token) × maybe sign_key s a b × each SpellsRange ranges b o)

  plain_in : (w : Option BitsWord) (s : Option Sign) (ranges : List Range) → Gives P (Plain w s ranges) (Each (InRange P) ranges)
  plain_in w s ranges i o h k =
      let s0 = past_maybe P bits_key past_bits w i h.0 h.1 k in
      let s1 = past_maybe P sign_key past_sign s h.0 h.2.0 h.2.1 s0 in
      let s2 = ranges_in ranges h.2.0 o h.2.2 s1 in
      (s2.0, s2.1)

  some_names_in : (all : List Word) → Gives P (commas name all) (InNames P all)
  some_names_in [] i o h k = absurd h
  some_names_in (w ∷ more) i o h k = names_in P (w ∷ more) i o h k

  mutual
    pub type_in : (t : TypeTree) → Gives P (SpellsType t) (InType P t)
    type_in (Vector None None []) i o h k = absurd h
    type_in (Vector None None (r ∷ more)) i o h k = plain_in None None (r ∷ more) i o h k
    type_in (Vector None (Some s) ranges) i o h k = plain_in None (Some s) ranges i o h k
    type_in (Vector (Some w) s ranges) i o h k = plain_in (Some w) s ranges i o h k
    type_in Integer i o h k = (tt, past_key P (codes "integer") i o h k)
    type_in (Struct' s r all ranges) i o h k =
        let s0 = past_key P (codes "struct") i h.0 h.1 k in
        let s1 = past_key P (codes "packed") h.0 h.2.0 h.2.1 s0 in
        let s2 = past_maybe P sign_key past_sign s h.2.0 h.2.2.0 h.2.2.1 s1 in
        let s3 = past_mark P (codes "{") h.2.2.0 h.2.2.2.0 h.2.2.2.1 s2 in
        let s4 = members_in all h.2.2.2.0 h.2.2.2.2.0 h.2.2.2.2.1 s3 in
        let s5 = past_mark P (codes "}") h.2.2.2.2.0 h.2.2.2.2.2.0 h.2.2.2.2.2.1 s4.1 in
        let s6 = ranges_in ranges h.2.2.2.2.2.0 o h.2.2.2.2.2.2 s5 in
        ((s4.0, s6.0), s6.1)
    type_in (Enum w s r all) i o h k =
        let s0 = past_key P (codes "enum") i h.0 h.1 k in
        let s1 = past_bits w h.0 h.2.0 h.2.1 s0 in
        let s2 = past_maybe P sign_key past_sign s h.2.0 h.2.2.0 h.2.2.1 s1 in
        let s3 = maybe_in P SpellsRange (InRange P) range_in r h.2.2.0 h.2.2.2.0 h.2.2.2.1 s2 in
        let s4 = past_mark P (codes "{") h.2.2.2.0 h.2.2.2.2.0 h.2.2.2.2.1 s3.1 in
        let s5 = commas_in P SpellsLabel (InLabel P) label_in all h.2.2.2.2.0 h.2.2.2.2.2.0 h.2.2.2.2.2.1 s4 in
        let s6 = past_mark P (codes "}") h.2.2.2.2.2.0 o h.2.2.2.2.2.2 s5.1 in
        ((s3.0, s5.0), s6)
    type_in (Named w ranges) i o h k =
        let s0 = name_in P w i h.0 h.1 k in
        let s1 = ranges_in ranges h.0 o h.2 s0.1 in
        ((s0.0, s1.0), s1.1)

    members_in : {m : Count} (all : Row_of-Member m) → Gives P (SpellsMembers all) (InMembers P all)
    members_in end_of-Member i o h k = absurd h
    members_in (more_of-Member x all) i o h k =
        let s0 = member_in x i h.0 h.1 k in
        let s1 = more_members_in all h.0 o h.2 s0.1 in
        ((s0.0, s1.0), s1.1)

    more_members_in : {m : Count} (all : Row_of-Member m) → Gives P (MoreMembers all) (MoreIn P all)
    more_members_in end_of-Member i o h k = (tt, subst (Has P) h k)
    more_members_in (more_of-Member x all) i o h k =
        let s0 = member_in x i h.0 h.1 k in
        let s1 = more_members_in all h.0 o h.2 s0.1 in
        ((s0.0, s1.0), s1.1)

    member_in : (x : Member) → Gives P (SpellsMember x) (InMember P x)
    member_in (Of' r (more_of-TypeTree t end_of-TypeTree) names) i o h k =
        let s0 = type_in t i h.0 h.1 k in
        let s1 = some_names_in names h.0 h.2.0 h.2.1 s0.1 in
        let s2 = past_mark P (codes ";") h.2.0 o h.2.2 s1.1 in
        ((s0.0, s1.0), s2)

  pub typedef_in : (d : TypedefTree) → Gives P (SpellsTypedef d) (InTypedef P d)
  typedef_in d i o h k =
      let s0 = past_key P (codes "typedef") i h.0 h.1 k in
      let s1 = type_in d.form h.0 h.2.0 h.2.1 s0 in
      let s2 = name_in P d.name h.2.0 h.2.2.0 h.2.2.1 s1.1 in
      let s3 = past_mark P (codes ";") h.2.2.0 o h.2.2.2 s2.1 in
      ((s1.0, s2.0), s3)

  -- ---- parameters and ports

  abbrev Bits : Option ParamBits → Option Sign → Option Range → Spelled
  Bits w s r i o = (a : List Token) × maybe param_bits_key w i a × ((b : List Token) × maybe sign_key s a b × maybe SpellsRange r b o)

  bits_in : (w : Option ParamBits) (s : Option Sign) (r : Option Range) → Gives P (Bits w s r) (IfSome r (InRange P))
  bits_in w s r i o h k =
      let s0 = past_maybe P param_bits_key past_param_bits w i h.0 h.1 k in
      let s1 = past_maybe P sign_key past_sign s h.0 h.2.0 h.2.1 s0 in
      let s2 = maybe_in P SpellsRange (InRange P) range_in r h.2.0 o h.2.2 s1 in
      (s2.0, s2.1)

  param_type_in : (t : ParamType) → Gives P (SpellsParamType t) (InParamType P t)
  param_type_in (param_type.Whole w s) i o h k = (tt, past_maybe P sign_key past_sign s h.0 o h.2 (past_whole w i h.0 h.1 k))
  param_type_in (param_type.Bits None None None) i o h k = absurd h
  param_type_in (param_type.Bits None None (Some r)) i o h k = bits_in None None (Some r) i o h k
  param_type_in (param_type.Bits None (Some s) r) i o h k = bits_in None (Some s) r i o h k
  param_type_in (param_type.Bits (Some w) s r) i o h k = bits_in (Some w) s r i o h k

  pub par_port_in : (p : ParPort) → Gives P (SpellsParPort p) (InParPort P p)
  par_port_in p i o h k =
      let s0 = past_maybe P param_key past_param p.word i h.0 h.1 k in
      let s1 = maybe_in P SpellsParamType (InParamType P) param_type_in p.form h.0 h.2.0 h.2.1 s0 in
      let s2 = name_in P p.name h.2.0 h.2.2.0 h.2.2.1 s1.1 in
      let s3 = given_in p.value h.2.2.0 o h.2.2.2 s2.1 in
      ((s1.0, s2.0, s3.0), s3.1)

  param_item_in : (x : ParamItem) → Gives P (SpellsParamItem x) (InParamItem P x)
  param_item_in x i o h k =
      let s0 = name_in P x.name i h.0 h.1 k in
      let s1 = given_in x.value h.0 o h.2 s0.1 in
      ((s0.0, s1.0), s1.1)

  pub param_in : (p : ParamTree) → Gives P (SpellsParam p) (InParam P p)
  param_in p i o h k =
      let s0 = past_param p.word i h.0 h.1 k in
      let s1 = maybe_in P SpellsParamType (InParamType P) param_type_in p.form h.0 h.2.0 h.2.1 s0 in
      let s2 = commas_in P SpellsParamItem (InParamItem P) param_item_in p.list h.2.0 h.2.2.0 h.2.2.1 s1.1 in
      let s3 = past_mark P (codes ";") h.2.2.0 o h.2.2.2 s2.1 in
      ((s1.0, s2.0), s3)

  pub port_in : (p : Port) → Gives P (SpellsPort p) (InPort P p)
  port_in p i o h k =
      let s0 = past_maybe P way_key past_way p.way i h.0 h.1 k in
      let s1 = past_maybe P net_key past_net p.kind h.0 h.2.0 h.2.1 s0 in
      let s2 = maybe_in P SpellsType (InType P) type_in p.form h.2.0 h.2.2.0 h.2.2.1 s1 in
      let s3 = name_in P p.name h.2.2.0 o h.2.2.2 s2.1 in
      ((s2.0, s3.0), s3.1)
