use Rattle.std.proofs.Common.{◌∙◌}
use Rattle.svtv_invariants.specs.Finding.{names_over}
use Rattle.svtv_report.specs.Invariants.{invariants_text}
use Rattle.svtv_commands.proofs.Inductions.{claims_there, inducts, period_fits, period_wide, reset_fits, reset_wide}
use Rattle.svtv_commands.proofs.inducting.decided.Goals as goal

pub halves_of-requires-clause-reset : goal.halves_of-requires-clause-reset
halves_of-requires-clause-reset c = let f = c.requires.files in reset_fits f.0 f.1 f.2 f.3 f.4 f.5 c.args.induction f.6.asked

pub halves_of-requires-clause-period : goal.halves_of-requires-clause-period
halves_of-requires-clause-period c = let f = c.requires.files in period_fits f.0 f.1 f.2 f.3 f.4 f.5 c.args.induction f.6.asked

pub halves_of-requires-clause-reset_widths : goal.halves_of-requires-clause-reset_widths
halves_of-requires-clause-reset_widths c = let f = c.requires.files in reset_wide f.0 f.1 f.2 f.3 f.4 f.5 c.args.induction f.6.asked

pub halves_of-requires-clause-period_widths : goal.halves_of-requires-clause-period_widths
halves_of-requires-clause-period_widths c = let f = c.requires.files in period_wide f.0 f.1 f.2 f.3 f.4 f.5 c.args.induction f.6.asked

pub halves_of-requires-clause-claims : goal.halves_of-requires-clause-claims
halves_of-requires-clause-claims c = let f = c.requires.files in claims_there f.0 f.1 f.2 f.3 f.4 f.5 c.args.induction f.6.asked c.as_slice.result.now c.as_slice.ensures

pub returns-in-Ok-reported-clause-inducts : goal.returns-in-Ok-reported-clause-inducts
returns-in-Ok-reported-clause-inducts c told d a b g top p =
    let found = c.in-Ok-decide_all.found in
    let base = c.in-Ok.halves.base in
    let step = c.in-Ok.halves.step in
    let all = c.in-Ok-decide_all.ensures in
    inducts told d a b g top c.args.induction p.asked p.no_hyps base.bound step.bound c.as_slice-2.result.now c.args.budget found c.in-Ok-reported.pair.0 c.in-Ok-reported.pair.1.items c.in-Ok.ensures.reset c.in-Ok.ensures.period
    c.as_slice-2.ensures all.names all.right
    (c.in-Ok-reported.ensures.printed ∙ λ i. invariants_text (names_over (all.base_same i).bound (all.step_same i).bound) found.names found.verdicts found.before found.shown)
    c.in-Ok-reported.ensures.whole
