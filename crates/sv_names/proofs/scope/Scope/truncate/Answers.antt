use Rattle.std.proofs.Common.{◌∙◌, ℕ, ◌<◌, sym, subst, arith}
use Rattle.std.proofs.lemmas.List.{take_all}
use Rattle.sv_names.proofs.Latest.{one_off}
use Rattle.sv_names.proofs.scope.Scope.truncate.Goals as goal

pub declared-preserved : goal.declared-preserved
declared-preserved c =
    (one_off c.pop.result c.declared.self c.pop.new.self c.args.count c.pop.ensures (subst (λ (n : ℕ). c.args.count < n) c.len.ensures c.declared-test.true)).0 ∙ c.declared.invariant

pub declared-smaller : goal.declared-smaller
declared-smaller c = (one_off c.pop.result c.declared.self c.pop.new.self c.args.count c.pop.ensures (subst (λ (n : ℕ). c.args.count < n) c.len.ensures c.declared-test.true)).1

pub returns : goal.returns
returns c = sym (take_all c.args.count c.declared.self (omega arith)) ∙ c.declared.invariant
