-- Kinds and texts of tokens, one behind the other.
use Rattle.std.specs.Prelude.{List, [], ◌∷◌, ◌++◌, map, codes, Option, Some, None}
use Rattle.sv_outside.specs.declared.text.Kind.{Kind}
use Rattle.sv_outside.specs.declared.text.Kind.TheVariants as k
use Rattle.sv_outside.specs.declared.text.Token.{Token}
use Rattle.sv_tree.specs.declared.word.Word.{Word}
use Rattle.sv_tree.specs.Spelling.{Text}
use Rattle.sv_write.specs.declared.lexeme.Lexeme.{Lexeme}

abbrev pub lexeme : Kind → Text → Lexeme
lexeme kind text = record { kind = kind; text = text }

-- the kind and the text of a token
abbrev pub lexeme_of : Token → Lexeme
lexeme_of a = lexeme a.kind a.text

abbrev pub lexemes : List Token → List Lexeme
lexemes = map {A = Token} {B = Lexeme} lexeme_of

-- what is written behind others
abbrev pub Write : Type 0
Write = List Lexeme → List Lexeme

infixr 30 ◌⨾◌
abbrev pub ◌⨾◌ : Write → Write → Write
f ⨾ g = λ l. g (f l)

abbrev pub nothing : Write
nothing l = l

unfoldable pub put : Kind → Text → Write
put kind text l = l ++ lexeme kind text ∷ []

abbrev pub mark : Text → Write
mark = put k.Mark

abbrev pub key : Text → Write
key = put k.Word

abbrev pub system : Text → Write
system = put k.System

abbrev pub literal : Word → Write
literal w = put k.Literal w.text

abbrev pub name : Word → Write
name w = put k.Word w.text

abbrev pub maybe : {A : Type 0} → (A → Write) → Option A → Write
maybe f None = nothing
maybe f (Some x) = f x

unfoldable pub each : {A : Type 0} → (A → Write) → List A → Write
each f [] = nothing
each f (x ∷ more) = f x ⨾ each f more

abbrev pub behind_comma : {A : Type 0} → (A → Write) → A → Write
behind_comma f x = mark (codes ",") ⨾ f x

-- each behind a comma
abbrev pub after_commas : {A : Type 0} → (A → Write) → List A → Write
after_commas f = each (behind_comma f)

-- commas between them
abbrev pub commas : {A : Type 0} → (A → Write) → List A → Write
commas f [] = nothing
commas f (x ∷ more) = f x ⨾ after_commas f more

abbrev pub label : Option Word → Write
label None = nothing
label (Some w) = mark (codes ":") ⨾ name w
