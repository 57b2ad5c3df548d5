-- What keywords and marks tell.
use Rattle.std.specs.Prelude.{Option, Some, None}
use Rattle.sv_cursor.specs.declared.sort.Keyword.{Keyword}
use Rattle.sv_cursor.specs.declared.sort.Keyword.TheVariants as key
use Rattle.sv_cursor.specs.declared.sort.Mark.{Mark as MarkName}
use Rattle.sv_cursor.specs.declared.sort.Mark.TheVariants as m
use Rattle.sv_cursor.specs.declared.sort.Sort.{Sort}
use Rattle.sv_cursor.specs.declared.sort.Sort.TheVariants as s
use Rattle.sv_tree.specs.declared.exprs.Sign.{Sign}
use Rattle.sv_tree.specs.declared.exprs.Sign.TheVariants as sign
use Rattle.sv_tree.specs.declared.forms.BitsWord.{BitsWord}
use Rattle.sv_tree.specs.declared.forms.BitsWord.TheVariants as bits_word
use Rattle.sv_tree.specs.declared.forms.WholeWord.{WholeWord}
use Rattle.sv_tree.specs.declared.forms.WholeWord.TheVariants as whole_word
use Rattle.sv_tree.specs.declared.design.ParamWord.{ParamWord}
use Rattle.sv_tree.specs.declared.design.ParamWord.TheVariants as param_word
use Rattle.sv_tree.specs.declared.design.ParamBits.{ParamBits}
use Rattle.sv_tree.specs.declared.design.ParamBits.TheVariants as param_bits
use Rattle.sv_tree.specs.declared.design.Way.{Way}
use Rattle.sv_tree.specs.declared.design.Way.TheVariants as way
use Rattle.sv_tree.specs.declared.design.NetWord.{NetWord}
use Rattle.sv_tree.specs.declared.design.NetWord.TheVariants as net_word
use Rattle.sv_tree.specs.declared.stmts.StepMark.{StepMark}
use Rattle.sv_tree.specs.declared.stmts.StepMark.TheVariants as step_mark
use Rattle.sv_tree.specs.declared.stmts.StepSign.{StepSign}
use Rattle.sv_tree.specs.declared.stmts.StepSign.TheVariants as step_sign
use Rattle.sv_tree.specs.declared.stmts.AssignMark.{AssignMark}
use Rattle.sv_tree.specs.declared.stmts.AssignMark.TheVariants as assign_mark
use Rattle.sv_tree.specs.declared.stmts.Uniq.{Uniq}
use Rattle.sv_tree.specs.declared.stmts.Uniq.TheVariants as uniq
use Rattle.sv_tree.specs.declared.stmts.CaseWord.{CaseWord}
use Rattle.sv_tree.specs.declared.stmts.CaseWord.TheVariants as case_word
use Rattle.sv_tree.specs.declared.stmts.Edge.{Edge}
use Rattle.sv_tree.specs.declared.stmts.Edge.TheVariants as edge
use Rattle.sv_tree.specs.declared.stmts.EventMark.{EventMark}
use Rattle.sv_tree.specs.declared.stmts.EventMark.TheVariants as event_mark
use Rattle.sv_word_parser.specs.declared.openers.AlwaysWord.{AlwaysWord}
use Rattle.sv_word_parser.specs.declared.openers.AlwaysWord.TheVariants as always_word
use Rattle.sv_word_parser.specs.declared.openers.TailOpener.{TailOpener}
use Rattle.sv_word_parser.specs.declared.openers.TailOpener.TheVariants as tail_by
use Rattle.sv_word_parser.specs.declared.openers.PartOpener.{PartOpener}
use Rattle.sv_word_parser.specs.declared.openers.PartOpener.TheVariants as part_by
use Rattle.sv_word_parser.specs.declared.openers.TypeOpener.{TypeOpener}
use Rattle.sv_word_parser.specs.declared.openers.TypeOpener.TheVariants as type_by
use Rattle.sv_word_parser.specs.declared.openers.ParamOpener.{ParamOpener}
use Rattle.sv_word_parser.specs.declared.openers.ParamOpener.TheVariants as param_by
use Rattle.sv_word_parser.specs.declared.openers.TargetOpener.{TargetOpener}
use Rattle.sv_word_parser.specs.declared.openers.TargetOpener.TheVariants as target_by
use Rattle.sv_word_parser.specs.declared.openers.StepOpener.{StepOpener}
use Rattle.sv_word_parser.specs.declared.openers.StepOpener.TheVariants as step_by
use Rattle.sv_word_parser.specs.declared.openers.StmtOpener.{StmtOpener}
use Rattle.sv_word_parser.specs.declared.openers.StmtOpener.TheVariants as stmt_by
use Rattle.sv_word_parser.specs.declared.openers.ItemOpener.{ItemOpener}
use Rattle.sv_word_parser.specs.declared.openers.ItemOpener.TheVariants as item_by

abbrev pub sign_by_word : Keyword → Option Sign
sign_by_word key.Signed = Some sign.Signed
sign_by_word key.Unsigned = Some sign.Unsigned
sign_by_word _ = None

abbrev pub bits_by_word : Keyword → Option BitsWord
bits_by_word key.Logic = Some bits_word.Logic
bits_by_word key.Reg = Some bits_word.Reg
bits_by_word _ = None

abbrev pub whole_by_word : Keyword → Option WholeWord
whole_by_word key.Int = Some whole_word.Int
whole_by_word key.Integer = Some whole_word.Integer
whole_by_word _ = None

abbrev pub param_bits_by_word : Keyword → Option ParamBits
param_bits_by_word key.Bit = Some param_bits.Bit
param_bits_by_word key.Logic = Some param_bits.Logic
param_bits_by_word key.Reg = Some param_bits.Reg
param_bits_by_word _ = None

abbrev pub param_by_word : Keyword → Option ParamWord
param_by_word key.Parameter = Some param_word.Parameter
param_by_word key.Localparam = Some param_word.Localparam
param_by_word _ = None

abbrev pub way_by_word : Keyword → Option Way
way_by_word key.Input = Some way.Input
way_by_word key.Output = Some way.Output
way_by_word key.Inout = Some way.Inout
way_by_word _ = None

abbrev pub net_by_word : Keyword → Option NetWord
net_by_word key.Wire = Some net_word.Wire
net_by_word key.Tri = Some net_word.Tri
net_by_word _ = None

abbrev pub uniq_by_word : Keyword → Option Uniq
uniq_by_word key.Unique = Some uniq.Unique
uniq_by_word key.Unique0 = Some uniq.Unique0
uniq_by_word key.Priority = Some uniq.Priority
uniq_by_word _ = None

abbrev pub case_by_word : Keyword → Option CaseWord
case_by_word key.Case = Some case_word.Case
case_by_word key.Casez = Some case_word.Casez
case_by_word _ = None

abbrev pub edge_by_word : Keyword → Option Edge
edge_by_word key.Posedge = Some edge.Pos
edge_by_word key.Negedge = Some edge.Neg
edge_by_word _ = None

abbrev pub event_mark_by_word : Keyword → Option EventMark
event_mark_by_word key.Or = Some event_mark.Or
event_mark_by_word _ = None

abbrev pub event_mark_by_mark : MarkName → Option EventMark
event_mark_by_mark m.Comma = Some event_mark.Comma
event_mark_by_mark _ = None

abbrev pub event_mark_by_sort : Sort → Option EventMark
event_mark_by_sort (s.Keyword word) = event_mark_by_word word
event_mark_by_sort (s.Mark name) = event_mark_by_mark name
event_mark_by_sort _ = None

abbrev pub step_by_mark : MarkName → Option StepMark
step_by_mark m.Increment = Some step_mark.Inc
step_by_mark m.Decrement = Some step_mark.Dec
step_by_mark _ = None

abbrev pub step_sign_by_mark : MarkName → Option StepSign
step_sign_by_mark m.Assign = Some step_sign.Set
step_sign_by_mark m.PlusAssign = Some step_sign.Add
step_sign_by_mark m.MinusAssign = Some step_sign.Sub
step_sign_by_mark _ = None

abbrev pub assign_by_mark : MarkName → Option AssignMark
assign_by_mark m.Assign = Some assign_mark.Blocking
assign_by_mark m.LessEqual = Some assign_mark.Nonblocking
assign_by_mark _ = None

-- ---- what begins a part

abbrev pub type_by_word : Keyword → Option TypeOpener
type_by_word key.Logic = Some type_by.Word
type_by_word key.Reg = Some type_by.Word
type_by_word key.Signed = Some type_by.Sign
type_by_word key.Unsigned = Some type_by.Sign
type_by_word key.Integer = Some type_by.Integer
type_by_word key.Struct = Some type_by.Struct
type_by_word key.Enum = Some type_by.Enum
type_by_word _ = None

abbrev pub type_by_mark : MarkName → Option TypeOpener
type_by_mark m.LeftBracket = Some type_by.Range
type_by_mark _ = None

abbrev pub type_by_sort : Sort → Option TypeOpener
type_by_sort (s.Keyword word) = type_by_word word
type_by_sort (s.Mark name) = type_by_mark name
type_by_sort s.Id = Some type_by.Name
type_by_sort _ = None

-- a type that does not begin with a name
abbrev pub word_type_by_sort : Sort → Option TypeOpener
word_type_by_sort (s.Keyword word) = type_by_word word
word_type_by_sort (s.Mark name) = type_by_mark name
word_type_by_sort _ = None

-- what goes on behind a name that is a type's
abbrev pub behind_by_sort : Sort → Option TypeOpener
behind_by_sort (s.Mark name) = type_by_mark name
behind_by_sort s.Id = Some type_by.Name
behind_by_sort _ = None

abbrev pub param_type_by_word : Keyword → Option ParamOpener
param_type_by_word key.Int = Some param_by.Whole
param_type_by_word key.Integer = Some param_by.Whole
param_type_by_word key.Bit = Some param_by.Word
param_type_by_word key.Logic = Some param_by.Word
param_type_by_word key.Reg = Some param_by.Word
param_type_by_word key.Signed = Some param_by.Sign
param_type_by_word key.Unsigned = Some param_by.Sign
param_type_by_word _ = None

abbrev pub param_type_by_mark : MarkName → Option ParamOpener
param_type_by_mark m.LeftBracket = Some param_by.Range
param_type_by_mark _ = None

abbrev pub param_type_by_sort : Sort → Option ParamOpener
param_type_by_sort (s.Keyword word) = param_type_by_word word
param_type_by_sort (s.Mark name) = param_type_by_mark name
param_type_by_sort _ = None

abbrev pub target_by_mark : MarkName → Option TargetOpener
target_by_mark m.LeftBrace = Some target_by.Brace
target_by_mark _ = None

abbrev pub target_by_sort : Sort → Option TargetOpener
target_by_sort (s.Mark name) = target_by_mark name
target_by_sort s.Id = Some target_by.Name
target_by_sort _ = None

abbrev pub step_opener_by_mark : MarkName → Option StepOpener
step_opener_by_mark m.Increment = Some step_by.Mark
step_opener_by_mark m.Decrement = Some step_by.Mark
step_opener_by_mark _ = None

abbrev pub step_opener_by_sort : Sort → Option StepOpener
step_opener_by_sort (s.Mark name) = step_opener_by_mark name
step_opener_by_sort s.Id = Some step_by.Name
step_opener_by_sort _ = None

abbrev pub stmt_by_word : Keyword → Option StmtOpener
stmt_by_word key.Begin = Some stmt_by.Block
stmt_by_word key.Unique = Some stmt_by.Branch
stmt_by_word key.Unique0 = Some stmt_by.Branch
stmt_by_word key.Priority = Some stmt_by.Branch
stmt_by_word key.If = Some stmt_by.Branch
stmt_by_word key.Case = Some stmt_by.Branch
stmt_by_word key.Casez = Some stmt_by.Branch
stmt_by_word key.For = Some stmt_by.For
stmt_by_word _ = None

abbrev pub stmt_by_mark : MarkName → Option StmtOpener
stmt_by_mark m.Semicolon = Some stmt_by.Empty
stmt_by_mark m.LeftBrace = Some stmt_by.Target
stmt_by_mark _ = None

abbrev pub stmt_by_sort : Sort → Option StmtOpener
stmt_by_sort (s.Keyword word) = stmt_by_word word
stmt_by_sort (s.Mark name) = stmt_by_mark name
stmt_by_sort s.Id = Some stmt_by.Target
stmt_by_sort _ = None

abbrev pub item_by_word : Keyword → Option ItemOpener
item_by_word key.Wire = Some item_by.Net
item_by_word key.Tri = Some item_by.Net
item_by_word key.Logic = Some item_by.Type
item_by_word key.Reg = Some item_by.Type
item_by_word key.Signed = Some item_by.Type
item_by_word key.Unsigned = Some item_by.Type
item_by_word key.Integer = Some item_by.Type
item_by_word key.Struct = Some item_by.Type
item_by_word key.Enum = Some item_by.Type
item_by_word key.Typedef = Some item_by.Typedef
item_by_word key.Parameter = Some item_by.Param
item_by_word key.Localparam = Some item_by.Param
item_by_word key.Genvar = Some item_by.Genvar
item_by_word key.Assign = Some item_by.Assign
item_by_word key.AlwaysComb = Some item_by.Always
item_by_word key.AlwaysLatch = Some item_by.Always
item_by_word key.AlwaysFf = Some item_by.Always
item_by_word key.Always = Some item_by.Always
item_by_word key.For = Some item_by.For
item_by_word key.If = Some item_by.If
item_by_word key.Generate = Some item_by.Generate
item_by_word _ = None

abbrev pub item_by_mark : MarkName → Option ItemOpener
item_by_mark m.LeftBracket = Some item_by.Type
item_by_mark _ = None

abbrev pub item_by_sort : Sort → Option ItemOpener
item_by_sort (s.Keyword word) = item_by_word word
item_by_sort (s.Mark name) = item_by_mark name
item_by_sort s.Id = Some item_by.Name
item_by_sort _ = None

-- ---- what begins a part of an item or a text

abbrev pub always_by_word : Keyword → Option AlwaysWord
always_by_word key.AlwaysComb = Some always_word.Comb
always_by_word key.AlwaysLatch = Some always_word.Latch
always_by_word key.AlwaysFf = Some always_word.Ff
always_by_word key.Always = Some always_word.Always
always_by_word _ = None

abbrev pub tail_by_mark : MarkName → Option TailOpener
tail_by_mark m.Hash = Some tail_by.Hash
tail_by_mark m.LeftBracket = Some tail_by.Bracket
tail_by_mark _ = None

abbrev pub tail_by_sort : Sort → Option TailOpener
tail_by_sort (s.Mark name) = tail_by_mark name
tail_by_sort s.Id = Some tail_by.Name
tail_by_sort _ = None

abbrev pub part_by_word : Keyword → Option PartOpener
part_by_word key.Module = Some part_by.Module
part_by_word key.Typedef = Some part_by.Typedef
part_by_word key.Parameter = Some part_by.Param
part_by_word key.Localparam = Some part_by.Param
part_by_word _ = None
