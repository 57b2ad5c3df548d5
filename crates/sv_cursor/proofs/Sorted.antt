-- Which tokens are of a sort.
use Rattle.std.proofs.Common.{◌≡◌, ℕ, Bool, true, false, ◌&&◌, List, [], ◌∷◌, map, Some, if◌then◌else◌, refl, sym, ◌∙◌, ap, arith}
use Rattle.std.proofs.lemmas.Slice.Eq.{bytes_eq-Decides}
use Rattle.std.specs.Str.{bytes_eq}
use Rattle.sv_outside.specs.Words.{is_id, reserved_words, grammar_words, out_of_scope_words}
use Rattle.sv_cursor.specs.declared.sort.Keyword.{Keyword}
use Rattle.sv_cursor.specs.declared.sort.Keyword.TheVariants as key
use Rattle.sv_cursor.specs.declared.sort.Mark.{Mark as MarkName}
use Rattle.sv_cursor.specs.declared.sort.Mark.TheVariants as m
use Rattle.sv_cursor.specs.declared.sorts.TheConstants.{KEYWORDS, MARKS}
use Rattle.sv_cursor.specs.Sorts.{entry, keyword, mark, keyword_text, mark_text}

pub equal : (a b : List ℕ) → bytes_eq a b ≡ true → a ≡ b
equal a b h = grind (arith, bytes_eq-Decides, h)

-- ---- tables

-- each entry's text is that of what it tells
abbrev agree : {A : Type 0} → (A → List ℕ) → List (List ℕ × A) → Bool
agree text [] = true
agree text (e ∷ es) = bytes_eq e.0 (text e.1) && agree text es

both : (a b : Bool) → a && b ≡ true → (a ≡ true) × (b ≡ true)
both true b h = (refl, h)
both false b h = absurd (cc)

found_at : {A : Type 0} (texts : A → List ℕ) (b : Bool) (e : List ℕ × A) (es : List (List ℕ × A)) (text : List ℕ) (x : A) → bytes_eq e.0 text ≡ b
    → (bytes_eq e.0 (texts e.1) ≡ true) × (agree texts es ≡ true)
    → (if b then Some e.1 else entry es text) ≡ Some x → (entry es text ≡ Some x → text ≡ texts x) → text ≡ texts x
found_at texts true e es text x y ok h rec = let f : e.1 ≡ x = cc in sym (equal e.0 text y) ∙ (equal e.0 (texts e.1) ok.0 ∙ ap texts f)
found_at texts false e es text x y ok h rec = rec h

-- what a table tells of a text has that text
found : {A : Type 0} (texts : A → List ℕ) (table : List (List ℕ × A)) (text : List ℕ) (x : A) → agree texts table ≡ true → entry table text ≡ Some x → text ≡ texts x
found texts [] text x ok h = absurd (cc)
found texts (e ∷ es) text x ok h =
    let ok' = both (bytes_eq e.0 (texts e.1)) (agree texts es) ok in
    found_at texts (bytes_eq e.0 text) e es text x refl ok' h (found texts es text x ok'.1)

keywords_agree : agree keyword_text (map (λ e. (e.0.now, e.1)) KEYWORDS) ≡ true
unfolding keyword_text
keywords_agree = refl

marks_agree : agree mark_text (map (λ e. (e.0.now, e.1)) MARKS) ≡ true
unfolding mark_text
marks_agree = refl

pub keyword_found : (text : List ℕ) (x : Keyword) → keyword text ≡ Some x → text ≡ keyword_text x
unfolding keyword
keyword_found text x h = found keyword_text (map (λ e. (e.0.now, e.1)) KEYWORDS) text x keywords_agree h

pub mark_found : (text : List ℕ) (x : MarkName) → mark text ≡ Some x → text ≡ mark_text x
unfolding mark
mark_found text x h = found mark_text (map (λ e. (e.0.now, e.1)) MARKS) text x marks_agree h

pub keyword_is : (x : Keyword) → keyword (keyword_text x) ≡ Some x
unfolding keyword keyword_text
keyword_is key.Module = refl
keyword_is key.Endmodule = refl
keyword_is key.Parameter = refl
keyword_is key.Localparam = refl
keyword_is key.Int = refl
keyword_is key.Integer = refl
keyword_is key.Bit = refl
keyword_is key.Logic = refl
keyword_is key.Reg = refl
keyword_is key.Signed = refl
keyword_is key.Unsigned = refl
keyword_is key.Input = refl
keyword_is key.Output = refl
keyword_is key.Inout = refl
keyword_is key.Wire = refl
keyword_is key.Tri = refl
keyword_is key.Struct = refl
keyword_is key.Packed = refl
keyword_is key.Enum = refl
keyword_is key.Typedef = refl
keyword_is key.Genvar = refl
keyword_is key.Assign = refl
keyword_is key.Generate = refl
keyword_is key.Endgenerate = refl
keyword_is key.For = refl
keyword_is key.If = refl
keyword_is key.Else = refl
keyword_is key.Begin = refl
keyword_is key.End = refl
keyword_is key.AlwaysComb = refl
keyword_is key.AlwaysLatch = refl
keyword_is key.AlwaysFf = refl
keyword_is key.Always = refl
keyword_is key.Posedge = refl
keyword_is key.Negedge = refl
keyword_is key.Or = refl
keyword_is key.Case = refl
keyword_is key.Casez = refl
keyword_is key.Endcase = refl
keyword_is key.Unique = refl
keyword_is key.Unique0 = refl
keyword_is key.Priority = refl
keyword_is key.Default = refl

pub mark_is : (x : MarkName) → mark (mark_text x) ≡ Some x
unfolding mark mark_text
mark_is m.LeftParen = refl
mark_is m.RightParen = refl
mark_is m.LeftBracket = refl
mark_is m.RightBracket = refl
mark_is m.LeftBrace = refl
mark_is m.RightBrace = refl
mark_is m.Dot = refl
mark_is m.Comma = refl
mark_is m.Semicolon = refl
mark_is m.Colon = refl
mark_is m.Question = refl
mark_is m.At = refl
mark_is m.Hash = refl
mark_is m.Tick = refl
mark_is m.Assign = refl
mark_is m.Plus = refl
mark_is m.Minus = refl
mark_is m.Star = refl
mark_is m.Slash = refl
mark_is m.Percent = refl
mark_is m.And = refl
mark_is m.Or = refl
mark_is m.Xor = refl
mark_is m.Tilde = refl
mark_is m.Not = refl
mark_is m.Less = refl
mark_is m.Greater = refl
mark_is m.Increment = refl
mark_is m.Decrement = refl
mark_is m.PlusAssign = refl
mark_is m.MinusAssign = refl
mark_is m.Power = refl
mark_is m.Equal = refl
mark_is m.NotEqual = refl
mark_is m.LessEqual = refl
mark_is m.GreaterEqual = refl
mark_is m.ShiftLeft = refl
mark_is m.ShiftRight = refl
mark_is m.ArithmeticLeft = refl
mark_is m.ArithmeticRight = refl
mark_is m.AndAnd = refl
mark_is m.OrOr = refl
mark_is m.TildeAnd = refl
mark_is m.TildeOr = refl
mark_is m.TildeXor = refl
mark_is m.XorTilde = refl
mark_is m.Implies = refl
mark_is m.Equivalent = refl
mark_is m.PlusColon = refl
mark_is m.MinusColon = refl

pub keyword_no_id : (x : Keyword) → is_id (keyword_text x) ≡ false
unfolding keyword_text reserved_words grammar_words out_of_scope_words
keyword_no_id key.Module = refl
keyword_no_id key.Endmodule = refl
keyword_no_id key.Parameter = refl
keyword_no_id key.Localparam = refl
keyword_no_id key.Int = refl
keyword_no_id key.Integer = refl
keyword_no_id key.Bit = refl
keyword_no_id key.Logic = refl
keyword_no_id key.Reg = refl
keyword_no_id key.Signed = refl
keyword_no_id key.Unsigned = refl
keyword_no_id key.Input = refl
keyword_no_id key.Output = refl
keyword_no_id key.Inout = refl
keyword_no_id key.Wire = refl
keyword_no_id key.Tri = refl
keyword_no_id key.Struct = refl
keyword_no_id key.Packed = refl
keyword_no_id key.Enum = refl
keyword_no_id key.Typedef = refl
keyword_no_id key.Genvar = refl
keyword_no_id key.Assign = refl
keyword_no_id key.Generate = refl
keyword_no_id key.Endgenerate = refl
keyword_no_id key.For = refl
keyword_no_id key.If = refl
keyword_no_id key.Else = refl
keyword_no_id key.Begin = refl
keyword_no_id key.End = refl
keyword_no_id key.AlwaysComb = refl
keyword_no_id key.AlwaysLatch = refl
keyword_no_id key.AlwaysFf = refl
keyword_no_id key.Always = refl
keyword_no_id key.Posedge = refl
keyword_no_id key.Negedge = refl
keyword_no_id key.Or = refl
keyword_no_id key.Case = refl
keyword_no_id key.Casez = refl
keyword_no_id key.Endcase = refl
keyword_no_id key.Unique = refl
keyword_no_id key.Unique0 = refl
keyword_no_id key.Priority = refl
keyword_no_id key.Default = refl
