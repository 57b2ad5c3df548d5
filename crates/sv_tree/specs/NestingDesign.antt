-- The depths of the tokens of types, statements and designs.
use Rattle.std.specs.Prelude.{Bool, true, false, List, [], ◌∷◌, ◌++◌, Option}
use mathlib.Core.Former.{Count}
use Rattle.sv_tree.specs.declared.word.Word.{Word}
use Rattle.sv_tree.specs.declared.forms.Range.{Range}
use Rattle.sv_tree.specs.declared.forms.EnumLabel.{EnumLabel}
use Rattle.sv_tree.specs.declared.forms.TypeTree.{TypeTree, Vector, Integer, Struct', Enum, Named, Row_of-Member, end_of-Member, more_of-Member}
use Rattle.sv_tree.specs.declared.forms.Member.{Member, Of', end_of-TypeTree, more_of-TypeTree}
use Rattle.sv_tree.specs.declared.forms.Typedef.{Typedef as TypedefTree}
use Rattle.sv_tree.specs.declared.stmts.Lvalue.{Lvalue, Name, Concat', Row_of-Lvalue, end_of-Lvalue, more_of-Lvalue}
use Rattle.sv_tree.specs.declared.stmts.Step.{Step}
use Rattle.sv_tree.specs.declared.stmts.Step.TheVariants as step
use Rattle.sv_tree.specs.declared.stmts.Event.{Event}
use Rattle.sv_tree.specs.declared.stmts.NextEvent.{NextEvent}
use Rattle.sv_tree.specs.declared.stmts.Events.{Events}
use Rattle.sv_tree.specs.declared.stmts.BlockKind.{BlockKind}
use Rattle.sv_tree.specs.declared.stmts.BlockKind.TheVariants as kind
use Rattle.sv_tree.specs.declared.stmts.Block.{Block}
use Rattle.sv_tree.specs.declared.stmts.Stmt.{Stmt, Empty, Block' as StmtBlock', If' as StmtIf', Case', For' as StmtFor', Assign as StmtAssign, Row_of-Stmt, end_of-Stmt, more_of-Stmt, Row_of-Arm, end_of-Arm, more_of-Arm, Held-Stmt-If-3, None' as NoStmt, Some' as SomeStmt}
use Rattle.sv_tree.specs.declared.stmts.Arm.{Arm, Labels', Default'}
use Rattle.sv_tree.specs.declared.design.ParamType.{ParamType}
use Rattle.sv_tree.specs.declared.design.ParamType.TheVariants as param_type
use Rattle.sv_tree.specs.declared.design.ParPort.{ParPort}
use Rattle.sv_tree.specs.declared.design.ParamItem.{ParamItem}
use Rattle.sv_tree.specs.declared.design.Param.{Param as ParamTree}
use Rattle.sv_tree.specs.declared.design.Port.{Port}
use Rattle.sv_tree.specs.declared.design.AssignPair.{AssignPair}
use Rattle.sv_tree.specs.declared.design.Pin.{Pin}
use Rattle.sv_tree.specs.declared.design.Pin.TheVariants as pin
use Rattle.sv_tree.specs.declared.design.NamedPin.{NamedPin}
use Rattle.sv_tree.specs.declared.design.Pins.{Pins}
use Rattle.sv_tree.specs.declared.design.Pins.TheVariants as pins
use Rattle.sv_tree.specs.declared.design.One.{One}
use Rattle.sv_tree.specs.declared.design.Inst.{Inst as InstTree}
use Rattle.sv_tree.specs.declared.design.Item.{Item, Net, Variable, Typedef, Param, Genvar, Assign, Always, Inst, For', If', Generate', Row_of-Item, end_of-Item, more_of-Item, end_of-Gen, more_of-Gen, Held-Item-If-3, None', Some'}
use Rattle.sv_tree.specs.declared.design.Gen.{Gen, Block', Single'}
use Rattle.sv_tree.specs.declared.design.Module.{Module}
use Rattle.sv_tree.specs.declared.design.SourcePart.{SourcePart}
use Rattle.sv_tree.specs.declared.design.SourcePart.TheVariants as source_part
use Rattle.sv_tree.specs.declared.design.Source.{Source}
use Rattle.sv_tree.specs.Nesting.{Depths, one, two, three, in_expr, in_stmt, in_generate, in_type, if_given, each_depths, commas_depths, word_depths, label_depths, expr_depths, select_depths}

-- ---- types: each is one part, but a name alone is none (this project's rule)

abbrev pub range_depths : Range → Depths
range_depths r = one ++ expr_depths r.left ++ one ++ expr_depths r.right ++ one

-- a mark and an expression
abbrev pub given_depths : {A : Type 0} → (A → Depths) → A → Depths
given_depths depths x = one ++ depths x

abbrev pub enum_label_depths : EnumLabel → Depths
enum_label_depths x = one ++ if_given (given_depths expr_depths) x.value

-- a name, and its ranges
abbrev pub named_type_depths : Word → List Range → Depths
named_type_depths w [] = one
named_type_depths w (r ∷ more) = in_type (one ++ each_depths range_depths (r ∷ more))

unfoldable mutual
  pub type_depths : TypeTree → Depths
  type_depths (Vector w s ranges) = in_type (if_given word_depths w ++ if_given word_depths s ++ each_depths range_depths ranges)
  type_depths Integer = in_type one
  type_depths (Struct' s r all ranges) = in_type (two ++ if_given word_depths s ++ one ++ members_depths all ++ one ++ each_depths range_depths ranges)
  type_depths (Enum w s r all) =
      in_type (two ++ if_given word_depths s ++ if_given range_depths r ++ one ++ commas_depths enum_label_depths all ++ one)
  type_depths (Named w ranges) = named_type_depths w ranges

  pub members_depths : {m : Count} → Row_of-Member m → Depths
  members_depths end_of-Member = []
  members_depths (more_of-Member x all) = member_depths x ++ members_depths all

  pub member_depths : Member → Depths
  member_depths (Of' r (more_of-TypeTree t end_of-TypeTree) names) = type_depths t ++ commas_depths word_depths names ++ one

abbrev pub typedef_depths : TypedefTree → Depths
typedef_depths d = one ++ type_depths d.form ++ two

-- ---- parameters and ports

abbrev pub param_type_depths : ParamType → Depths
param_type_depths (param_type.Whole w s) = one ++ if_given word_depths s
param_type_depths (param_type.Bits w s r) = if_given word_depths w ++ if_given word_depths s ++ if_given range_depths r

abbrev pub par_port_depths : ParPort → Depths
par_port_depths p = if_given word_depths p.word ++ if_given param_type_depths p.form ++ two ++ expr_depths p.value

abbrev pub param_item_depths : ParamItem → Depths
param_item_depths i = two ++ expr_depths i.value

abbrev pub param_depths : ParamTree → Depths
param_depths p = one ++ if_given param_type_depths p.form ++ commas_depths param_item_depths p.list ++ one

abbrev pub port_depths : Port → Depths
port_depths p = if_given word_depths p.way ++ if_given word_depths p.kind ++ if_given type_depths p.form ++ one

-- ---- statements: each is one part

unfoldable mutual
  -- a target in braces is one part of the expressions, as a concatenation is (this project's rule)
  pub lvalue_depths : Lvalue → Depths
  lvalue_depths (Name w all) = one ++ each_depths select_depths all
  lvalue_depths (Concat' p s all) = in_expr (one ++ lvalues_depths all ++ one)

  -- commas between them
  pub lvalues_depths : {m : Count} → Row_of-Lvalue m → Depths
  lvalues_depths end_of-Lvalue = []
  lvalues_depths (more_of-Lvalue x all) = lvalue_depths x ++ more_lvalues_depths all

  pub more_lvalues_depths : {m : Count} → Row_of-Lvalue m → Depths
  more_lvalues_depths end_of-Lvalue = []
  more_lvalues_depths (more_of-Lvalue x all) = one ++ lvalue_depths x ++ more_lvalues_depths all

abbrev pub step_depths : Step → Depths
step_depths (step.After w m) = two
step_depths (step.Before m w) = two
step_depths (step.Assign w m x) = two ++ expr_depths x

abbrev pub if_true : Bool → Depths
if_true true = one
if_true false = []

-- from the variable of a loop to the mark behind its step
abbrev pub turns_depths : Depths → Depths → Step → Depths
turns_depths start test next = two ++ start ++ one ++ test ++ one ++ step_depths next ++ one

unfoldable mutual
  pub stmt_depths : Stmt → Depths
  stmt_depths Empty = in_stmt one
  stmt_depths (StmtBlock' p b s all e) = in_stmt (one ++ if_given label_depths b ++ stmts_depths all ++ one ++ if_given label_depths e)
  stmt_depths (StmtIf' u c r (more_of-Stmt x end_of-Stmt) other) =
      in_stmt (if_given word_depths u ++ two ++ expr_depths c ++ one ++ stmt_depths x ++ else_depths other)
  stmt_depths (Case' u w x s all) = in_stmt (if_given word_depths u ++ two ++ expr_depths x ++ one ++ arms_depths all ++ one)
  stmt_depths (StmtFor' p form v start test next r (more_of-Stmt body end_of-Stmt)) =
      in_stmt (three ++ turns_depths (expr_depths start) (expr_depths test) next ++ stmt_depths body)
  stmt_depths (StmtAssign to m p x) = in_stmt (lvalue_depths to ++ one ++ expr_depths x ++ one)

  pub else_depths : Held-Stmt-If-3 → Depths
  else_depths NoStmt = []
  else_depths (SomeStmt r (more_of-Stmt x end_of-Stmt)) = one ++ stmt_depths x

  pub stmts_depths : {m : Count} → Row_of-Stmt m → Depths
  stmts_depths end_of-Stmt = []
  stmts_depths (more_of-Stmt x all) = stmt_depths x ++ stmts_depths all

  pub arms_depths : {m : Count} → Row_of-Arm m → Depths
  arms_depths end_of-Arm = []
  arms_depths (more_of-Arm x all) = arm_depths x ++ arms_depths all

  pub arm_depths : Arm → Depths
  arm_depths (Labels' xs r (more_of-Stmt x end_of-Stmt)) = commas_depths expr_depths xs ++ one ++ stmt_depths x
  arm_depths (Default' b r (more_of-Stmt x end_of-Stmt)) = one ++ if_true b ++ stmt_depths x

-- the edge and the name
abbrev pub event_depths : Event → Depths
event_depths e = two

-- what parts it from the one before, and the event
abbrev pub next_event_depths : NextEvent → Depths
next_event_depths e = one ++ event_depths e.event

-- `@`, `(`, the events and `)`
abbrev pub events_depths : Events → Depths
events_depths all = two ++ event_depths all.first ++ each_depths next_event_depths all.more ++ one

abbrev pub kind_depths : BlockKind → Depths
kind_depths kind.Comb = one
kind_depths kind.Latch = one
kind_depths (kind.Ff all) = one ++ events_depths all
kind_depths (kind.Always all) = one ++ events_depths all
kind_depths kind.Star = three
kind_depths kind.StarParen = three ++ two

abbrev pub block_depths : Block → Depths
block_depths b = kind_depths b.kind ++ stmt_depths b.body

-- ---- items: each `for`, `if` and `generate` of a module is one part (`generate` by this project's rule)

abbrev pub pair_depths : AssignPair → Depths
pair_depths p = lvalue_depths p.target ++ one ++ expr_depths p.value

abbrev pub pin_depths : Pin → Depths
pin_depths pin.Same = []
pin_depths pin.Open = two
pin_depths (pin.Given x) = one ++ expr_depths x ++ one

abbrev pub named_depths : NamedPin → Depths
named_depths p = two ++ pin_depths p.pin

abbrev pub pins_depths : Pins → Depths
pins_depths (pins.Named all) = commas_depths named_depths all
pins_depths (pins.Ordered all) = commas_depths expr_depths all

abbrev pub one_depths : One → Depths
one_depths o = two ++ if_given pins_depths o.pins ++ one

abbrev pub override_depths : Option Pins → Depths
override_depths p = two ++ if_given pins_depths p ++ one

abbrev pub inst_depths : InstTree → Depths
inst_depths i = one ++ if_given override_depths i.params ++ commas_depths one_depths i.list ++ one

unfoldable mutual
  pub item_depths : Item → Depths
  item_depths (Net w t names) = one ++ if_given type_depths t ++ commas_depths word_depths names ++ one
  item_depths (Variable t names) = type_depths t ++ commas_depths word_depths names ++ one
  item_depths (Typedef d) = typedef_depths d
  item_depths (Param p) = param_depths p
  item_depths (Genvar names) = one ++ commas_depths word_depths names ++ one
  item_depths (Assign all) = one ++ commas_depths pair_depths all ++ one
  item_depths (Always b) = block_depths b
  item_depths (Inst i) = inst_depths i
  item_depths (For' p header v start test next r (more_of-Gen x end_of-Gen)) =
      in_generate (two ++ if_true header ++ turns_depths (expr_depths start) (expr_depths test) next ++ gen_depths x)
  item_depths (If' p c r (more_of-Gen x end_of-Gen) other) = in_generate (two ++ expr_depths c ++ one ++ gen_depths x ++ other_depths other)
  item_depths (Generate' s all) = in_generate (one ++ items_depths all ++ one)

  pub gen_depths : Gen → Depths
  gen_depths (Block' p b s all e) = one ++ if_given label_depths b ++ items_depths all ++ one ++ if_given label_depths e
  gen_depths (Single' p r (more_of-Item x end_of-Item)) = item_depths x

  pub other_depths : Held-Item-If-3 → Depths
  other_depths None' = []
  other_depths (Some' r (more_of-Gen x end_of-Gen)) = one ++ gen_depths x

  pub items_depths : {m : Count} → Row_of-Item m → Depths
  items_depths end_of-Item = []
  items_depths (more_of-Item x all) = item_depths x ++ items_depths all

-- ---- modules

abbrev pub params_depths : List ParPort → Depths
params_depths [] = []
params_depths (p ∷ more) = two ++ commas_depths par_port_depths (p ∷ more) ++ one

abbrev pub ports_depths : List Port → Depths
ports_depths all = one ++ commas_depths port_depths all ++ one

abbrev pub module_depths : Module → Depths
module_depths m =
    two ++ params_depths m.params ++ if_given ports_depths m.ports ++ one ++ each_depths item_depths m.items ++ one ++ if_given label_depths m.label

abbrev pub part_depths : SourcePart → Depths
part_depths (source_part.Module m) = module_depths m
part_depths (source_part.Typedef d) = typedef_depths d
part_depths (source_part.Param p) = param_depths p

abbrev pub source_depths : Source → Depths
source_depths s = each_depths part_depths s.parts
