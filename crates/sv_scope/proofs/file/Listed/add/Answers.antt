use Rattle.std.proofs.Common.{◌∙◌, ◌∷◌, ◌++◌, [], ap, sym, subst}
use Rattle.sv_meaning.specs.Layouts.{Name}
use Rattle.sv_modules.specs.Naming.{Adds, holds}
use Rattle.sv_hierarchy.specs.Scopes as m
use Rattle.sv_scope.specs.Filing.{Lists}
use Rattle.sv_scope.proofs.Filed.{listed_more, listed_twice}
use Rattle.sv_scope.proofs.file.Listed.add.Goals as goal

pub returns-then-has : goal.returns-then-has
returns-then-has c = λ all h.
    listed_twice (λ (k : m.Known) (u : Unit {0}). Lists c.args.self.now (all ++ k ∷ [])) c.args.self.now c.args.module.now c.args.seen all c.refusal.result h (ap (holds c.args.self.now.names) (sym c.bytes.ensures) ∙ sym c.if-has.ensures) c.refusal.ensures

pub returns : goal.returns
returns c = λ all h.
    listed_more c.args.self.now c.args.module.now c.args.seen c.add.new.self c.push.new.self all h (ap (holds c.args.self.now.names) (sym c.bytes.ensures) ∙ sym c.if-has.ensures)
    (subst (λ (n : Name). Adds c.args.self.now.names (n ∷ []) c.add.new.self) c.bytes-2.ensures c.in_ok-add.ensures) c.in_ok-push.ensures.ok
