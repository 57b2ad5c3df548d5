-- Tokens as a code.
use Rattle.std.specs.Coded.{Coded}
use Rattle.sv_outside.specs.declared.text.Token.{Token}
use Rattle.sv_outside.specs.contracts.text.Token as C

abbrev pub token_code : Coded Token
token_code = C.the_row.coded
