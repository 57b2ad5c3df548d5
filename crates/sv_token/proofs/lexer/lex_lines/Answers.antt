use Rattle.std.proofs.lemmas.Option.{MatchOption-at_some}
use Rattle.std.proofs.lemmas.Result.{IfOk-from_err}
use Rattle.std.proofs.Common.{◌≡◌, ◌∷◌, ◌++◌, ◌<◌, ◌+◌, arith, refl, sym, ◌∙◌, length, take, length-drop, [], if◌then◌else◌}
use Rattle.std.proofs.lemmas.Grind.{common_steps}
use Rattle.sv_token.specs.declared.front.Front.TheVariants.{Gap, Piece}
use Rattle.sv_token.specs.Cut.{here, front, lined, Spot, ends_line}
use Rattle.sv_token.proofs.Cutting.{is_long, is_stuck_at, none_stuck_at, is_many, none_many, one_gap, one_token, place_line_kept, column_kept, line_kept, shorter, one_way, whole, none_refused}
use Rattle.sv_token.proofs.Wants.{unrefused, given_none, is_err}
use Rattle.sv_token.proofs.Fits.{gap_within, piece_within}
use Rattle.sv_token.proofs.lexer.lex_lines.Goals as goal

pub cut-init : goal.cut-init
cut-init c = record {
  so_far = rw c.new-tokens.ensures.items here;
  short = omega (arith, c.if-text-gt-MOST_BYTES.false);
  few = grind (arith, c.new-tokens.ensures.items);
  numbered = omega (arith, c.if-text-gt-MOST_BYTES.false);
  line = omega (arith, c.if-text-gt-MOST_BYTES.false);
  column = omega (arith, c.if-text-gt-MOST_BYTES.false);
}

pub returns-in-Nothing-clause-refused : goal.returns-in-Nothing-clause-refused
returns-in-Nothing-clause-refused c =
    let text : c.cut.rest.now ≡ c.in-Some.first.now ∷ c.in-Some._after.now = (MatchOption-at_some _ _ _ c.in-Some.is c.split_first.ensures.cases).0 in
    rw c.no-in-Nothing.ensures (is_stuck_at c.cut.invariant.so_far text (sym c.front_of.ensures ∙ c.in-Nothing.is) c.reason.ensures)

pub returns-in-Nothing-clause-only : goal.returns-in-Nothing-clause-only
returns-in-Nothing-clause-only c tokens l w =
    let text : c.cut.rest.now ≡ c.in-Some.first.now ∷ c.in-Some._after.now = (MatchOption-at_some _ _ _ c.in-Some.is c.split_first.ensures.cases).0 in
    absurd (none_stuck_at c.cut.invariant.so_far text (sym c.front_of.ensures ∙ c.in-Nothing.is) l)

pub cut-smaller-in-Gap : goal.cut-smaller-in-Gap
cut-smaller-in-Gap c =
    let w = gap_within c.in-Gap.len c.cut.rest.now (sym c.front_of.ensures ∙ c.in-Gap.is) in
    let h : length c.beyond.result.1.now < length c.cut.rest.now = rw c.beyond.ensures.rest (omega (arith, length-drop c.in-Gap.len c.cut.rest.now, w.0, w.1)) in
    h

pub cut-preserved-in-Gap : goal.cut-preserved-in-Gap
cut-preserved-in-Gap c =
    let at : front c.cut.rest.now ≡ Gap c.in-Gap.len = sym c.front_of.ensures ∙ c.in-Gap.is in
    let w = gap_within c.in-Gap.len c.cut.rest.now at in
    let text : c.cut.rest.now ≡ c.in-Some.first.now ∷ c.in-Some._after.now = (MatchOption-at_some _ _ _ c.in-Some.is c.split_first.ensures.cases).0 in
    let same : c.line_behind-line.result ≡ (if ends_line c.cut.rest.now then c.cut.line + 1 else c.cut.line) = rw text c.line_behind-line.ensures in
    record {
      so_far = rw (c.beyond.ensures.place, c.beyond.ensures.rest, same) (one_gap c.in-Gap.len c.cut.invariant.so_far at);
      short = c.cut.invariant.short;
      few = c.cut.invariant.few;
      numbered = rw (c.beyond.ensures.rest, same) (line_kept (ends_line c.cut.rest.now) c.cut.line c.cut.rest.now c.in-Gap.len 16777217 w.0 w.1 c.cut.invariant.numbered);
      line = rw (c.beyond.ensures.place, c.beyond.ensures.rest) (place_line_kept c.cut.place c.cut.rest.now c.in-Gap.len 16777217 w.1 c.cut.invariant.line);
      column = rw (c.beyond.ensures.place, c.beyond.ensures.rest) (column_kept c.cut.place c.cut.rest.now c.in-Gap.len 16777217 w.1 c.cut.invariant.column);
    }

pub returns-then-len-eq-MOST_TOKENS-clause-refused : goal.returns-then-len-eq-MOST_TOKENS-clause-refused
returns-then-len-eq-MOST_TOKENS-clause-refused c =
    rw c.no-then-len-eq-MOST_TOKENS.ensures (is_many c.cut.invariant.so_far (sym c.front_of.ensures ∙ c.in-Piece.is) (grind (arith, common_steps)))

pub returns-then-len-eq-MOST_TOKENS-clause-only : goal.returns-then-len-eq-MOST_TOKENS-clause-only
returns-then-len-eq-MOST_TOKENS-clause-only c tokens l w =
    absurd (none_many c.cut.invariant.so_far (sym c.front_of.ensures ∙ c.in-Piece.is) (grind (arith, common_steps)) l w)

pub slice_bounds-put_piece-end : goal.slice_bounds-put_piece-end
slice_bounds-put_piece-end c =
    let w = piece_within c.in-Piece.kind c.in-Piece.len c.cut.rest.now (sym c.front_of.ensures ∙ c.in-Piece.is) in
    grind (arith, common_steps, w.1)

pub cut-smaller : goal.cut-smaller
cut-smaller c =
    let w = piece_within c.in-Piece.kind c.in-Piece.len c.cut.rest.now (sym c.front_of.ensures ∙ c.in-Piece.is) in
    let h : length c.beyond-in-Piece.result.1.now < length c.cut.rest.now = rw c.beyond-in-Piece.ensures.rest (omega (arith, length-drop c.in-Piece.len c.cut.rest.now, w.0, w.1)) in
    h

pub cut-preserved : goal.cut-preserved
cut-preserved c =
    let at : front c.cut.rest.now ≡ Piece c.in-Piece.kind c.in-Piece.len = sym c.front_of.ensures ∙ c.in-Piece.is in
    let w = piece_within c.in-Piece.kind c.in-Piece.len c.cut.rest.now at in
    let spot : Spot = record { place = c.cut.place; line = c.cut.line } in
    let items : c.put_piece.new.tokens.items ≡ c.cut.tokens.items ++ lined c.in-Piece.kind c.in-Piece.len c.cut.rest.now spot ∷ [] = c.in_ok-put_piece-in-Piece.ensures in
    let more = one_token c.in-Piece.kind c.in-Piece.len c.cut.invariant.so_far at in
    record {
      so_far = rw (c.beyond-in-Piece.ensures.place, c.beyond-in-Piece.ensures.rest, items) more;
      short = c.cut.invariant.short;
      few = grind (arith, common_steps, items, c.cut.invariant.few);
      numbered = rw c.beyond-in-Piece.ensures.rest (shorter c.cut.line c.cut.rest.now c.in-Piece.len 16777217 c.cut.invariant.numbered);
      line = rw (c.beyond-in-Piece.ensures.place, c.beyond-in-Piece.ensures.rest) (place_line_kept c.cut.place c.cut.rest.now c.in-Piece.len 16777217 w.1 c.cut.invariant.line);
      column = rw (c.beyond-in-Piece.ensures.place, c.beyond-in-Piece.ensures.rest) (column_kept c.cut.place c.cut.rest.now c.in-Piece.len 16777217 w.1 c.cut.invariant.column);
    }

pub returns-clause-only : goal.returns-clause-only
returns-clause-only c tokens l w =
    let none : c.cut.rest.now ≡ [] = grind (arith, common_steps) in
    one_way (whole (rw none at c.cut.invariant.so_far)) l

pub returns-clause-cut : goal.returns-clause-cut
returns-clause-cut c =
    let none : c.cut.rest.now ≡ [] = grind (arith, common_steps) in
    whole (rw none at c.cut.invariant.so_far)

pub returns-clause-faulty : goal.returns-clause-faulty
returns-clause-faulty c refusal r =
    let none : c.cut.rest.now ≡ [] = grind (arith, common_steps) in
    absurd (none_refused (whole (rw none at c.cut.invariant.so_far)) (c.cut.invariant.short, c.cut.invariant.few) r)

pub returns-in_err-put_piece-in-Piece-clause-cut : goal.returns-in_err-put_piece-in-Piece-clause-cut
returns-in_err-put_piece-in-Piece-clause-cut c = IfOk-from_err _ _ c.from_residual.ensures.0

pub returns-in_err-put_piece-in-Piece-clause-within : goal.returns-in_err-put_piece-in-Piece-clause-within
returns-in_err-put_piece-in-Piece-clause-within c = IfOk-from_err _ _ c.from_residual.ensures.0

pub returns-in_err-put_piece-in-Piece-clause-refused : goal.returns-in_err-put_piece-in-Piece-clause-refused
returns-in_err-put_piece-in-Piece-clause-refused c = unrefused c.from_residual.result _ c.from_residual.ensures.1

pub returns-in_err-put_piece-in-Piece-clause-faulty : goal.returns-in_err-put_piece-in-Piece-clause-faulty
returns-in_err-put_piece-in-Piece-clause-faulty c refusal r = is_err c.from_residual.result _ c.from_residual.ensures.1

pub returns-in_err-put_piece-in-Piece-clause-only : goal.returns-in_err-put_piece-in-Piece-clause-only
returns-in_err-put_piece-in-Piece-clause-only c lines l w = given_none (λ v. v.items) c.from_residual.result lines c.from_residual.ensures.1

pub returns-then-text-gt-MOST_BYTES-clause-refused : goal.returns-then-text-gt-MOST_BYTES-clause-refused
returns-then-text-gt-MOST_BYTES-clause-refused c = rw c.no.ensures (is_long c.args.file c.args.text.now (omega (arith, c.if-text-gt-MOST_BYTES.true)))

pub returns-then-text-gt-MOST_BYTES-clause-faulty : goal.returns-then-text-gt-MOST_BYTES-clause-faulty
returns-then-text-gt-MOST_BYTES-clause-faulty c refusal r = refl

pub returns-then-text-gt-MOST_BYTES-clause-only : goal.returns-then-text-gt-MOST_BYTES-clause-only
returns-then-text-gt-MOST_BYTES-clause-only c lines l w = absurd (omega (arith, w.0, c.if-text-gt-MOST_BYTES.true))

pub returns-in-Nothing-clause-faulty : goal.returns-in-Nothing-clause-faulty
returns-in-Nothing-clause-faulty c refusal r = refl

pub returns-then-len-eq-MOST_TOKENS-clause-faulty : goal.returns-then-len-eq-MOST_TOKENS-clause-faulty
returns-then-len-eq-MOST_TOKENS-clause-faulty c refusal r = refl

pub beyond-requires-clause-within : goal.beyond-requires-clause-within
beyond-requires-clause-within c = (gap_within c.in-Gap.len c.cut.rest.now (sym c.front_of.ensures ∙ c.in-Gap.is)).1

pub beyond-requires-clause-line : goal.beyond-requires-clause-line
beyond-requires-clause-line c = omega (arith, c.cut.invariant.line)

pub beyond-requires-clause-column : goal.beyond-requires-clause-column
beyond-requires-clause-column c = omega (arith, c.cut.invariant.column)

pub beyond-requires-in-Piece-clause-within : goal.beyond-requires-in-Piece-clause-within
beyond-requires-in-Piece-clause-within c = (piece_within c.in-Piece.kind c.in-Piece.len c.cut.rest.now (sym c.front_of.ensures ∙ c.in-Piece.is)).1

pub beyond-requires-in-Piece-clause-line : goal.beyond-requires-in-Piece-clause-line
beyond-requires-in-Piece-clause-line c = omega (arith, c.cut.invariant.line)

pub beyond-requires-in-Piece-clause-column : goal.beyond-requires-in-Piece-clause-column
beyond-requires-in-Piece-clause-column c = omega (arith, c.cut.invariant.column)
