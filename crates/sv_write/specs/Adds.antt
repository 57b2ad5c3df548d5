-- What a writer has written behind what it had before.
use Rattle.std.specs.Prelude.{◌≡◌, List, Ok}
use Rattle.sv_write.specs.declared.lexeme.Lexeme.{Lexeme}
use Rattle.sv_write.specs.declared.lexeme.Writer.{Writer}
use Rattle.sv_write.specs.Writing.{Write}

-- where nothing wanted memory, nothing did before, and what is written now is what `f` puts behind what was written then
pub record Adds (f : Write) (old new : Writer) : Type 0 where
  pub says : (all : List Lexeme) → new.written ≡ Ok all → (before : List Lexeme) × (old.written ≡ Ok before) × (all ≡ f before)
