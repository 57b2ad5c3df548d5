-- Identifiers and reserved words (IEEE 1800-2017 5.6, 5.6.2 and Annex B): tests on a whole text.
use Rattle.std.specs.Prelude.{◌==◌, ◌&&◌, ◌||◌, not, nat_le, ℕ, Bool, false, filter, List, [], ◌∷◌, ◌++◌, codes}
use Rattle.std.specs.List.{list_any, list_all}
use Rattle.std.specs.Str.{bytes_eq}

-- from the one byte to the other, both included
abbrev pub is_within : ℕ → ℕ → ℕ → Bool
is_within low high b = nat_le low b && nat_le b high

-- `0` to `9`
abbrev pub is_digit : ℕ → Bool
is_digit b = is_within 48 57 b

-- a letter or `_`
abbrev pub starts_word : ℕ → Bool
starts_word b = is_within 97 122 b || is_within 65 90 b || (b == 95)

-- these, digits and `$`
abbrev pub goes_on : ℕ → Bool
goes_on b = starts_word b || is_digit b || (b == 36)

-- a first byte, and bytes that go on
abbrev pub headed : (ℕ → Bool) → (ℕ → Bool) → List ℕ → Bool
headed starts goes [] = false
headed starts goes (b ∷ bs) = starts b && list_all goes bs

-- a simple identifier, reserved or not (5.6)
abbrev pub is_word : List ℕ → Bool
is_word = headed starts_word goes_on

-- the keywords of Annex B that stand in the grammar of the tool
unfoldable pub grammar_words : List (List ℕ)
grammar_words =
    codes "module" ∷ codes "endmodule" ∷ codes "parameter" ∷ codes "localparam" ∷ codes "int" ∷
    codes "integer" ∷ codes "bit" ∷ codes "logic" ∷ codes "reg" ∷ codes "signed" ∷ codes "unsigned" ∷
    codes "input" ∷ codes "output" ∷ codes "inout" ∷ codes "wire" ∷ codes "tri" ∷ codes "struct" ∷
    codes "packed" ∷ codes "enum" ∷ codes "typedef" ∷ codes "genvar" ∷ codes "assign" ∷ codes "generate" ∷
    codes "endgenerate" ∷ codes "for" ∷ codes "if" ∷ codes "else" ∷ codes "begin" ∷ codes "end" ∷
    codes "always_comb" ∷ codes "always_latch" ∷ codes "always_ff" ∷ codes "always" ∷ codes "posedge" ∷
    codes "negedge" ∷ codes "or" ∷ codes "case" ∷ codes "casez" ∷ codes "endcase" ∷ codes "unique" ∷ codes "unique0" ∷ codes "priority" ∷
    codes "default" ∷ []

-- the keywords of Annex B whose constructs are out of the tool's scope
unfoldable pub out_of_scope_words : List (List ℕ)
out_of_scope_words =
    codes "alias" ∷ codes "and" ∷ codes "assert" ∷ codes "assume" ∷ codes "automatic" ∷
    codes "bind" ∷ codes "break" ∷ codes "buf" ∷ codes "bufif0" ∷ codes "bufif1" ∷ codes "byte" ∷
    codes "casex" ∷ codes "checker" ∷ codes "class" ∷ codes "clocking" ∷ codes "const" ∷ codes "continue" ∷
    codes "cover" ∷ codes "covergroup" ∷ codes "deassign" ∷ codes "defparam" ∷ codes "disable" ∷ codes "do" ∷
    codes "event" ∷ codes "export" ∷ codes "extern" ∷ codes "final" ∷ codes "force" ∷ codes "foreach" ∷
    codes "forever" ∷ codes "fork" ∷ codes "function" ∷ codes "import" ∷ codes "initial" ∷ codes "inside" ∷
    codes "interface" ∷ codes "join" ∷ codes "longint" ∷ codes "nand" ∷ codes "nor" ∷ codes "not" ∷
    codes "notif0" ∷ codes "notif1" ∷ codes "package" ∷ codes "primitive" ∷ codes "program" ∷
    codes "property" ∷ codes "pulldown" ∷ codes "pullup" ∷ codes "real" ∷ codes "realtime" ∷ codes "release" ∷
    codes "repeat" ∷ codes "return" ∷ codes "sequence" ∷ codes "shortint" ∷ codes "shortreal" ∷
    codes "specify" ∷ codes "static" ∷ codes "string" ∷ codes "supply0" ∷ codes "supply1" ∷ codes "task" ∷
    codes "time" ∷ codes "tran" ∷ codes "tri0" ∷ codes "tri1" ∷ codes "triand" ∷ codes "trior" ∷
    codes "trireg" ∷ codes "union" ∷ codes "var" ∷ codes "wait" ∷ codes "wand" ∷ codes "while" ∷ codes "wor" ∷
    codes "xnor" ∷ codes "xor" ∷ []

-- The keywords that are no identifiers. The others of Annex B are none here.
unfoldable pub reserved_words : List (List ℕ)
reserved_words = grammar_words ++ out_of_scope_words

abbrev pub is_reserved : List ℕ → Bool
is_reserved t = list_any (bytes_eq t) reserved_words

abbrev pub begins_with : ℕ → List ℕ → Bool
begins_with first [] = false
begins_with first (b ∷ bs) = b == first

-- the reserved words that begin with that byte
unfoldable pub words_from : ℕ → List (List ℕ)
words_from first = filter (begins_with first) reserved_words

-- an identifier: a word that is not reserved (5.6.2)
abbrev pub is_id : List ℕ → Bool
is_id t = is_word t && not (is_reserved t)
