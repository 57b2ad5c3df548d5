use Rattle.std.proofs.Common.{◌+◌, ◌-◌, Err, sym, ap, ◌∙◌, arith}
use Rattle.sv_expr_reader.specs.Reading.{expr}
use Rattle.sv_cursor.proofs.Turns.{handed}
use Rattle.sv_expr_reader.proofs.Raised.{operated_begins}
use Rattle.sv_expr_reader.proofs.Turns.{climb_ends, climb_stops, climb_again, climb_fails, climb_goes}
use Rattle.sv_expr_reader.proofs.grammar.Grammar.climb.Goals as goal

pub returns-in_default : goal.returns-in_default
returns-in_default g c = climb_ends c.args.self.now.depth (expr c.args.self.now.depth) c.args.least c.args.from.now _ _ c.loop-turn.left c.loop-turn.tokens (sym c.goes_on.ensures ∙ c.in_default.is) c.loop-turn.invariant.climbs

pub returns-then-not-fits : goal.returns-then-not-fits
returns-then-not-fits g c =
    λ _. climb_again c.args.self.now.depth (expr c.args.self.now.depth) c.args.least c.args.from.now _ _ (c.left-turn-end.result - (c.loop-turn._turn + 1)) c.loop-turn.left c.loop-turn.tokens c.in-Some.next (omega arith)
    (sym c.goes_on.ensures ∙ c.in-Some.is) (sym (c.fits.ensures c.loop-turn.left c.height_over-high.ensures) ∙ c.if-not-fits.true) c.loop-turn.invariant.climbs ∙ ap Err (sym c.too_high-refusal.ensures)

pub returns-in_err-left : goal.returns-in_err-left
returns-in_err-left g c =
    handed _ c.from_residual.result c.in_err-left.field-0.0 c.operated.new.tokens c.from_residual.ensures.1
    (climb_fails c.args.self.now.depth (expr c.args.self.now.depth) c.args.least c.args.from.now _ _ (c.left-turn-end.result - (c.loop-turn._turn + 1)) c.loop-turn.left c.loop-turn.tokens c.operated.new.tokens c.in-Some.next c.in_err-left.field-0.0 (omega arith)
    (sym c.goes_on.ensures ∙ c.in-Some.is) (sym (c.fits.ensures c.loop-turn.left c.height_over-high.ensures) ∙ c.if-not-fits.false) c.loop-turn.invariant.climbs c.in_err-left.ensures)

pub loop-turn-preserved : goal.loop-turn-preserved
loop-turn-preserved g c = record {
  climbs =
      climb_goes c.args.self.now.depth (expr c.args.self.now.depth) c.args.least c.args.from.now _ _ (c.left-turn-end.result - (c.loop-turn._turn + 1)) c.loop-turn.left c.in_ok-left.left c.loop-turn.tokens c.operated.new.tokens c.in-Some.next (omega arith)
      (sym c.goes_on.ensures ∙ c.in-Some.is) (sym (c.fits.ensures c.loop-turn.left c.height_over-high.ensures) ∙ c.if-not-fits.false) c.loop-turn.invariant.climbs c.in_ok-left.ensures;
  first = operated_begins c.args.self.now.depth (expr c.args.self.now.depth) c.height_over-high.result c.loop-turn.left c.in-Some.next c.loop-turn.tokens c.in_ok-left.left c.operated.new.tokens c.height_over-high.ensures c.in_ok-left.ensures;
}

pub returns : goal.returns
returns g c = climb_stops c.args.self.now.depth (expr c.args.self.now.depth) c.args.least c.args.from.now _ _ c.loop-turn.left c.loop-turn.tokens (omega arith) c.loop-turn.invariant.climbs
