-- The sort of a token.
use Rattle.std.specs.Prelude.{ℕ, List, [], ◌∷◌, map, Option, Some, None, if◌then◌else◌, codes}
use Rattle.std.specs.Str.{bytes_eq}
use Rattle.sv_outside.specs.Words.{is_id}
use Rattle.sv_outside.specs.declared.text.Kind.{Kind}
use Rattle.sv_outside.specs.declared.text.Kind.TheVariants as k
use Rattle.sv_outside.specs.declared.text.Token.{Token}
use Rattle.sv_tree.specs.declared.exprs.SystemName.{SystemName}
use Rattle.sv_tree.specs.declared.exprs.SystemName.TheVariants as system_name
use Rattle.sv_cursor.specs.declared.sort.Keyword.{Keyword}
use Rattle.sv_cursor.specs.declared.sort.Keyword.TheVariants as key
use Rattle.sv_cursor.specs.declared.sort.Mark.{Mark as MarkName}
use Rattle.sv_cursor.specs.declared.sort.Mark.TheVariants as m
use Rattle.sv_cursor.specs.declared.sort.Sort.{Sort}
use Rattle.sv_cursor.specs.declared.sort.Sort.TheVariants as s
use Rattle.sv_cursor.specs.declared.sorts.TheConstants.{KEYWORDS, MARKS}

-- the first entry of a text
abbrev pub entry : {A : Type 0} → List (List ℕ × A) → List ℕ → Option A
entry [] text = None
entry (e ∷ es) text = if bytes_eq e.0 text then Some e.1 else entry es text

unfoldable pub keyword : List ℕ → Option Keyword
keyword = entry (map (λ e. (e.0.now, e.1)) KEYWORDS)

unfoldable pub mark : List ℕ → Option MarkName
mark = entry (map (λ e. (e.0.now, e.1)) MARKS)

unfoldable pub system : List ℕ → Option SystemName
system text =
    if bytes_eq text (codes "$signed") then Some system_name.Signed
    else (if bytes_eq text (codes "$unsigned") then Some system_name.Unsigned
    else (if bytes_eq text (codes "$clog2") then Some system_name.Clog2 else None))

abbrev pub keyword_or_id : Option Keyword → List ℕ → Sort
keyword_or_id (Some word) text = s.Keyword word
keyword_or_id None text = if is_id text then s.Id else s.Other

abbrev pub word_sort : List ℕ → Sort
word_sort text = keyword_or_id (keyword text) text

abbrev pub mark_sort : Option MarkName → Sort
mark_sort (Some name) = s.Mark name
mark_sort None = s.Other

abbrev pub system_sort : Option SystemName → Sort
system_sort (Some name) = s.System name
system_sort None = s.Other

abbrev pub kind_sort : Kind → List ℕ → Sort
kind_sort k.Word text = word_sort text
kind_sort k.Mark text = mark_sort (mark text)
kind_sort k.System text = system_sort (system text)
kind_sort k.Literal text = s.Literal
kind_sort k.Quoted text = s.Other
kind_sort k.Directive text = s.Other
kind_sort k.Continue text = s.Other

unfoldable pub sort : Token → Sort
sort a = kind_sort a.kind a.text

-- the text of a keyword (IEEE 1800-2017, annex B)
unfoldable pub keyword_text : Keyword → List ℕ
keyword_text key.Module = codes "module"
keyword_text key.Endmodule = codes "endmodule"
keyword_text key.Parameter = codes "parameter"
keyword_text key.Localparam = codes "localparam"
keyword_text key.Int = codes "int"
keyword_text key.Integer = codes "integer"
keyword_text key.Bit = codes "bit"
keyword_text key.Logic = codes "logic"
keyword_text key.Reg = codes "reg"
keyword_text key.Signed = codes "signed"
keyword_text key.Unsigned = codes "unsigned"
keyword_text key.Input = codes "input"
keyword_text key.Output = codes "output"
keyword_text key.Inout = codes "inout"
keyword_text key.Wire = codes "wire"
keyword_text key.Tri = codes "tri"
keyword_text key.Struct = codes "struct"
keyword_text key.Packed = codes "packed"
keyword_text key.Enum = codes "enum"
keyword_text key.Typedef = codes "typedef"
keyword_text key.Genvar = codes "genvar"
keyword_text key.Assign = codes "assign"
keyword_text key.Generate = codes "generate"
keyword_text key.Endgenerate = codes "endgenerate"
keyword_text key.For = codes "for"
keyword_text key.If = codes "if"
keyword_text key.Else = codes "else"
keyword_text key.Begin = codes "begin"
keyword_text key.End = codes "end"
keyword_text key.AlwaysComb = codes "always_comb"
keyword_text key.AlwaysLatch = codes "always_latch"
keyword_text key.AlwaysFf = codes "always_ff"
keyword_text key.Always = codes "always"
keyword_text key.Posedge = codes "posedge"
keyword_text key.Negedge = codes "negedge"
keyword_text key.Or = codes "or"
keyword_text key.Case = codes "case"
keyword_text key.Casez = codes "casez"
keyword_text key.Endcase = codes "endcase"
keyword_text key.Unique = codes "unique"
keyword_text key.Unique0 = codes "unique0"
keyword_text key.Priority = codes "priority"
keyword_text key.Default = codes "default"

-- the text of a mark (IEEE 1800-2017, 5.5)
unfoldable pub mark_text : MarkName → List ℕ
mark_text m.LeftParen = codes "("
mark_text m.RightParen = codes ")"
mark_text m.LeftBracket = codes "["
mark_text m.RightBracket = codes "]"
mark_text m.LeftBrace = codes "{"
mark_text m.RightBrace = codes "}"
mark_text m.Dot = codes "."
mark_text m.Comma = codes ","
mark_text m.Semicolon = codes ";"
mark_text m.Colon = codes ":"
mark_text m.Question = codes "?"
mark_text m.At = codes "@"
mark_text m.Hash = codes "#"
mark_text m.Tick = codes "'"
mark_text m.Assign = codes "="
mark_text m.Plus = codes "+"
mark_text m.Minus = codes "-"
mark_text m.Star = codes "*"
mark_text m.Slash = codes "/"
mark_text m.Percent = codes "%"
mark_text m.And = codes "&"
mark_text m.Or = codes "|"
mark_text m.Xor = codes "^"
mark_text m.Tilde = codes "~"
mark_text m.Not = codes "!"
mark_text m.Less = codes "<"
mark_text m.Greater = codes ">"
mark_text m.Increment = codes "++"
mark_text m.Decrement = codes "--"
mark_text m.PlusAssign = codes "+="
mark_text m.MinusAssign = codes "-="
mark_text m.Power = codes "**"
mark_text m.Equal = codes "=="
mark_text m.NotEqual = codes "!="
mark_text m.LessEqual = codes "<="
mark_text m.GreaterEqual = codes ">="
mark_text m.ShiftLeft = codes "<<"
mark_text m.ShiftRight = codes ">>"
mark_text m.ArithmeticLeft = codes "<<<"
mark_text m.ArithmeticRight = codes ">>>"
mark_text m.AndAnd = codes "&&"
mark_text m.OrOr = codes "||"
mark_text m.TildeAnd = codes "~&"
mark_text m.TildeOr = codes "~|"
mark_text m.TildeXor = codes "~^"
mark_text m.XorTilde = codes "^~"
mark_text m.Implies = codes "->"
mark_text m.Equivalent = codes "<->"
mark_text m.PlusColon = codes "+:"
mark_text m.MinusColon = codes "-:"
