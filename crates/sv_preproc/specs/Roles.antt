-- What a token does, and the lines and names that directives take along (IEEE 1800-2017, clause 22).
use Rattle.std.specs.Prelude.{◌==◌, ◌&&◌, ◌+◌, ℕ, Bool, true, false, List, [], ◌∷◌, length, drop, codes, if◌then◌else◌}
use Rattle.std.specs.Str.{bytes_eq}
use Rattle.sv_outside.specs.declared.text.Kind.{Kind}
use Rattle.sv_outside.specs.declared.text.Kind.TheVariants as kind
use Rattle.sv_outside.specs.declared.text.Token.{Token}
use Rattle.sv_token.specs.declared.lexer.Lined.{Lined}
use Rattle.sv_preproc.specs.declared.role.Role.{Role}
use Rattle.sv_preproc.specs.declared.role.Role.TheVariants as role

-- The directive that a backtick name is (22.2), or the use of a macro. Of five directives the rest of the line is skipped.
unfoldable pub command : List ℕ → Role
command text =
    if bytes_eq text (codes "`define") then role.Define
    else if bytes_eq text (codes "`undef") then role.Undef
    else if bytes_eq text (codes "`ifdef") then role.Ifdef
    else if bytes_eq text (codes "`ifndef") then role.Ifndef
    else if bytes_eq text (codes "`elsif") then role.Elsif
    else if bytes_eq text (codes "`else") then role.Else
    else if bytes_eq text (codes "`endif") then role.Endif
    else if bytes_eq text (codes "`include") then role.Include
    else if bytes_eq text (codes "`timescale") then role.Line
    else if bytes_eq text (codes "`default_nettype") then role.Line
    else if bytes_eq text (codes "`resetall") then role.Line
    else if bytes_eq text (codes "`celldefine") then role.Line
    else if bytes_eq text (codes "`endcelldefine") then role.Line
    else role.Used

abbrev pub role_by : Kind → List ℕ → Role
role_by kind.Word text = role.Kept
role_by kind.System text = role.Kept
role_by kind.Literal text = role.Kept
role_by kind.Quoted text = role.Kept
role_by kind.Mark text = role.Kept
role_by kind.Directive text = command text
role_by kind.Continue text = role.Continued

abbrev pub role_of : Token → Role
role_of a = role_by a.kind a.text

-- ---- the rest of a line, which a backslash at its end continues (22.5.1)

abbrev pub is_continued : Role → Bool
is_continued role.Kept = false
is_continued role.Continued = true
is_continued role.Used = false
is_continued role.Define = false
is_continued role.Undef = false
is_continued role.Ifdef = false
is_continued role.Ifndef = false
is_continued role.Elsif = false
is_continued role.Else = false
is_continued role.Endif = false
is_continued role.Include = false
is_continued role.Line = false

-- the tokens that stand in the line, without the backslashes
unfoldable pub line_text : ℕ → List Lined → List Token
line_text line [] = []
line_text line (a ∷ ts) =
    if a.line == line then (if is_continued (role_of a.token) then line_text (line + 1) ts else a.token ∷ line_text line ts) else []

-- what stands behind the line
unfoldable pub line_rest : ℕ → List Lined → List Lined
line_rest line [] = []
line_rest line (a ∷ ts) = if a.line == line then line_rest (if is_continued (role_of a.token) then line + 1 else line) ts else a ∷ ts

-- ---- names

abbrev pub is_word : Kind → Bool
is_word kind.Word = true
is_word kind.System = false
is_word kind.Literal = false
is_word kind.Quoted = false
is_word kind.Mark = false
is_word kind.Directive = false
is_word kind.Continue = false

abbrev pub is_quoted : Kind → Bool
is_quoted kind.Word = false
is_quoted kind.System = false
is_quoted kind.Literal = false
is_quoted kind.Quoted = true
is_quoted kind.Mark = false
is_quoted kind.Directive = false
is_quoted kind.Continue = false

-- the bytes between the quotes
unfoldable pub without_last : List ℕ → List ℕ
without_last [] = []
without_last (b ∷ []) = []
without_last (b ∷ c ∷ bs) = b ∷ without_last (c ∷ bs)

abbrev pub between_quotes : List ℕ → List ℕ
between_quotes text = without_last (drop 1 text)

-- a `(` directly behind the name begins a macro's arguments (22.5.1)
abbrev pub opens_arguments : Token → Token → Bool
opens_arguments name a = bytes_eq a.text (codes "(") && (a.place.line == name.place.line) && (a.place.column == name.place.column + length name.text)

abbrev pub is_use : Role → Bool
is_use role.Kept = false
is_use role.Continued = false
is_use role.Used = true
is_use role.Define = false
is_use role.Undef = false
is_use role.Ifdef = false
is_use role.Ifndef = false
is_use role.Elsif = false
is_use role.Else = false
is_use role.Endif = false
is_use role.Include = false
is_use role.Line = false

-- a name that a macro may have: no directive's (22.5.1)
abbrev pub may_name : List ℕ → Bool
may_name name = is_use (command (96 ∷ name))

-- a directive that ends a branch of a conditional (22.6)
abbrev pub ends_branch : Role → Bool
ends_branch role.Kept = false
ends_branch role.Continued = false
ends_branch role.Used = false
ends_branch role.Define = false
ends_branch role.Undef = false
ends_branch role.Ifdef = false
ends_branch role.Ifndef = false
ends_branch role.Elsif = true
ends_branch role.Else = true
ends_branch role.Endif = true
ends_branch role.Include = false
ends_branch role.Line = false
