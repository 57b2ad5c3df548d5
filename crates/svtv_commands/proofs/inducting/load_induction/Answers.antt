use Rattle.std.proofs.Common.{sym, ◌∙◌}
use Rattle.std.proofs.lemmas.Bool.{false≢true}
use Rattle.std.specs.Option.{option_copied}
use Rattle.sv_outside.specs.declared.refusal.TextErr.TheVariants.{No}
use Rattle.svtv_files.specs.Refusals.{at_first}
use Rattle.svtv_commands.proofs.Counting.{of_counts}
use Rattle.svtv_commands.proofs.Inductions.{hyp_turn, no_hyps}
use Rattle.svtv_commands.proofs.inducting.load_induction.Goals as goal

pub returns-then-have_no_hyps-clause-posed : goal.returns-then-have_no_hyps-clause-posed
returns-then-have_no_hyps-clause-posed g c =
    no_hyps (g.F.Files.contents c.args.files.now) c.args.design.now c.args.reset.now c.args.period.now c.args.invariants.now (option_copied c.args.top) c.in-Ok.induction c.in-Ok.ensures.asked c.as_slice.result.now
    c.as_slice.ensures (c.have_no_hyps.ensures.0 c.if-have_no_hyps.true)

pub returns-else-have_no_hyps-clause-stop : goal.returns-else-have_no_hyps-clause-stop
returns-else-have_no_hyps-clause-stop g c =
    hyp_turn (g.F.Files.contents c.args.files.now) c.args.design.now c.args.reset.now c.args.period.now c.args.invariants.now (option_copied c.args.top) c.in-Ok.induction c.in-Ok.ensures.asked c.as_slice.result.now
    c.invariant_hyp.result c.as_slice.ensures (λ all. false≢true (sym c.if-have_no_hyps.false ∙ c.have_no_hyps.ensures.1 all)) c.invariant_hyp.ensures

pub returns-else-have_no_hyps-clause-counts : goal.returns-else-have_no_hyps-clause-counts
returns-else-have_no_hyps-clause-counts g c =
    of_counts c.args.invariants.now (No (record { number = 45; place = at_first; count = 0 })) c.invariant_hyp.result _ _ c.invariant_hyp.ensures c.in-Ok.ensures.kept
