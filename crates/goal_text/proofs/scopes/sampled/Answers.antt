use Rattle.std.proofs.Common.{arith}
use Rattle.sv_names.specs.declared.layout.What.TheVariants as what
use Rattle.sv_meaning.specs.Layouts.{of_samples, signal_is}
use Rattle.goal_text.specs.Scopes.{sample_vector, sample_entries}
use Rattle.goal_text.proofs.Scoped.{vectors_next, vectors_end}
use Rattle.goal_text.proofs.scopes.sampled.Goals as goal

pub samples-preserved : goal.samples-preserved
samples-preserved c =
    vectors_next sample_vector of_samples (sample_entries c.args.samples.now) c.args.samples.now c.samples.number c.index-samples-number.result c.samples.scope c.push.new.self
    (c.in_ok-name.name, what.Sampled c.samples.number c.in_ok-layout.layout) c.samples-test.true c.index-samples-number.is
    (λ i. (c.in_ok-name.ensures i, signal_is of_samples c.samples.number (c.in_ok-layout.ensures.is i))) c.in_ok-push.ensures.ok c.samples.invariant

pub returns : goal.returns
returns c = vectors_end sample_vector of_samples (sample_entries c.args.samples.now) c.args.samples.now c.samples.number c.samples.scope (omega (arith, c.samples-test.false)) c.samples.invariant
