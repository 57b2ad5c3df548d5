use Rattle.std.proofs.Common.{length, sym, ap, ◌∙◌}
use Rattle.fourvec.proofs.Widths.{length-truth_of, length-and_of, length-or_of, length-xor_of, length-not_of}
use Rattle.sv_typed.proofs.ops.combined.Goals as goal

pub and-requires : goal.and-requires
and-requires c = ap (λ l. length l) c.truth-a.ensures ∙ length-truth_of _ ∙ sym (ap (λ l. length l) c.truth-b.ensures ∙ length-truth_of _)

pub or-requires : goal.or-requires
or-requires c = ap (λ l. length l) c.truth-a.ensures ∙ length-truth_of _ ∙ sym (ap (λ l. length l) c.truth-b.ensures ∙ length-truth_of _)

pub or-requires-in-Implies : goal.or-requires-in-Implies
or-requires-in-Implies c = ap (λ l. length l) c.not.ensures ∙ length-not_of _ ∙ ap (λ l. length l) c.truth-a.ensures ∙ length-truth_of _ ∙ sym (ap (λ l. length l) c.truth-b.ensures ∙ length-truth_of _)

pub xor-requires : goal.xor-requires
xor-requires c = ap (λ l. length l) c.truth-a.ensures ∙ length-truth_of _ ∙ sym (ap (λ l. length l) c.truth-b.ensures ∙ length-truth_of _)

pub returns-in-And-clause-width : goal.returns-in-And-clause-width
returns-in-And-clause-width c = ap (λ l. length l) c.and.ensures ∙ length-and_of _ _ (ap (λ l. length l) c.truth-a.ensures ∙ length-truth_of _ ∙ sym (ap (λ l. length l) c.truth-b.ensures ∙ length-truth_of _)) ∙ ap (λ l. length l) c.truth-a.ensures ∙ length-truth_of _

pub returns-in-Or-clause-width : goal.returns-in-Or-clause-width
returns-in-Or-clause-width c = ap (λ l. length l) c.or.ensures ∙ length-or_of _ _ (ap (λ l. length l) c.truth-a.ensures ∙ length-truth_of _ ∙ sym (ap (λ l. length l) c.truth-b.ensures ∙ length-truth_of _)) ∙ ap (λ l. length l) c.truth-a.ensures ∙ length-truth_of _

pub returns-in-Implies-clause-width : goal.returns-in-Implies-clause-width
returns-in-Implies-clause-width c = ap (λ l. length l) c.or-in-Implies.ensures ∙ length-or_of _ _ (ap (λ l. length l) c.not.ensures ∙ length-not_of _ ∙ ap (λ l. length l) c.truth-a.ensures ∙ length-truth_of _ ∙ sym (ap (λ l. length l) c.truth-b.ensures ∙ length-truth_of _)) ∙ ap (λ l. length l) c.not.ensures ∙ length-not_of _ ∙ ap (λ l. length l) c.truth-a.ensures ∙ length-truth_of _

pub returns-in-Equivalent-clause-width : goal.returns-in-Equivalent-clause-width
returns-in-Equivalent-clause-width c = ap (λ l. length l) c.not-in-Equivalent.ensures ∙ length-not_of _ ∙ ap (λ l. length l) c.xor.ensures ∙ length-xor_of _ _ (ap (λ l. length l) c.truth-a.ensures ∙ length-truth_of _ ∙ sym (ap (λ l. length l) c.truth-b.ensures ∙ length-truth_of _)) ∙ ap (λ l. length l) c.truth-a.ensures ∙ length-truth_of _
