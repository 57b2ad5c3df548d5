use Rattle.std.proofs.Common.{List, ℕ, subst}
use Rattle.sv_loops.specs.Answers.{Gives}
use Rattle.sv_modules.specs.Libraries.{trees_of, used_in, only_one}
use Rattle.sv_modules.proofs.Libraries.{top_is}
use Rattle.sv_modules.proofs.roots.unused_one.Goals as goal

pub returns : goal.returns
returns c = λ all h.
    top_is all (trees_of c.args.modules.now) c.in_ok-numbers.numbers.items c.only_one.result h
    (c.in_ok-numbers.ensures (used_in (trees_of c.args.modules.now)) c.in_ok-used.ensures)
    (subst (λ (ns : List ℕ). Gives (only_one ns) c.only_one.result) c.deref.ensures.value c.only_one.ensures)
