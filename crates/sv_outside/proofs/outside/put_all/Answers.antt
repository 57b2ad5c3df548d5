use Rattle.std.proofs.lemmas.Result.{IfOk-from_err}
use Rattle.std.proofs.Common.{◌∙◌, ◌++◌, take, arith, append_assoc}
use Rattle.std.proofs.lemmas.Grind.{common_steps}
use Rattle.std.proofs.lemmas.List.{take-append-drop}
use Rattle.sv_outside.proofs.Written.{with_text-twice}
use Rattle.sv_outside.proofs.outside.put_all.Goals as goal

pub loop-rest-preserved : goal.loop-rest-preserved
loop-rest-preserved g c =
    let w = c.loop-rest.invariant.written in
    record {
      kept = c.in_ok-taken.ensures.kept ∙ c.loop-rest.invariant.kept;
      counts_up = omega (arith, c.loop-rest.invariant.counts_up, c.in_ok-taken.ensures.counts_up);
      written = (w.0 ++ take c.in_ok-taken.taken c.loop-rest.rest.now, grind (arith, common_steps, w.1, take-append-drop, append_assoc), grind (arith, w.2, c.in_ok-taken.ensures.appended, with_text-twice));
    }

pub returns-in_err-taken-clause-kept : goal.returns-in_err-taken-clause-kept
returns-in_err-taken-clause-kept g c = IfOk-from_err _ _ c.from_residual.ensures.0

pub returns-in_err-taken-clause-whole : goal.returns-in_err-taken-clause-whole
returns-in_err-taken-clause-whole g c = IfOk-from_err _ _ c.from_residual.ensures.0
