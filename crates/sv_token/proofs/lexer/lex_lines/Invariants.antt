use Rattle.std.proofs.Common.{◌≤◌, ◌+◌, length}
use Rattle.sv_token.specs.Cut.{Cuts, outset, most_tokens, most_bytes}
use Rattle.sv_token.proofs.lexer.lex_lines.Given as goal

abbrev pub invariant-cut : goal.invariant-cut
invariant-cut l = record {
  so_far : Cuts (outset l.file) l.text l.tokens.items (record { place = l.place; line = l.line }) l.rest;
  short : length l.text ≤ most_bytes;
  few : length l.tokens.items ≤ most_tokens;
  numbered : l.line + length l.rest ≤ most_bytes + 1;
  line : l.place.line + length l.rest ≤ most_bytes + 1;
  column : l.place.column + length l.rest ≤ most_bytes + 1;
}

abbrev pub decreases-cut : goal.decreases-cut
decreases-cut l = length l.rest
