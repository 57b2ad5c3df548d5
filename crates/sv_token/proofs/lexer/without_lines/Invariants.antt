use Rattle.std.proofs.Common.{◌≡◌, map}
use Rattle.sv_token.proofs.lexer.without_lines.Given as goal

abbrev pub invariant-strip : goal.invariant-strip
invariant-strip l = record { stripped : l.tokens.items ≡ map (λ a. a.token) l.yielded }
