use Rattle.std.proofs.Common.{◌≡◌, ◌∙◌, ◌∷◌, ◌++◌, [], ℕ, List, take, true, false, sym, ap, arith, Vec, Global, Bor, if◌then◌else◌}
use Rattle.std.proofs.lemmas.Grind.{common_steps}
use Rattle.std.proofs.lemmas.List.{append-nil, take_all}
use Rattle.std.proofs.lemmas.Result.{IfOk-from_err}
use Rattle.sv_tree.specs.declared.design.Module.{Module}
use Rattle.sv_meaning.specs.Layouts.{Name}
use Rattle.sv_modules.specs.Naming.{holds}
use Rattle.sv_modules.specs.Libraries.{trees_of, unused_from}
use Rattle.sv_modules.proofs.Libraries.{no_unused, unused_next}
use Rattle.sv_modules.proofs.roots.unused_of.Goals as goal
use Rattle.sv_modules.proofs.roots.unused_of.Goals.{then-not-has+in_ok-push, else-not-has}

pub modules-init : goal.modules-init
modules-init c = λ names h. c.new-numbers.ensures.items ∙ sym (no_unused names)

pub modules-preserved : goal.modules-preserved
modules-preserved c = λ names h. elim c.if-not-has.branch [
  | then-not-has+in_ok-push w ↦
      let f : c.has.result ≡ false = grind (arith, common_steps) in
      ap (λ (v : Vec ℕ Global). v.items) w.numbers-is ∙ w.in_ok-push.ensures.items ∙ ap (λ (l : List ℕ). l ++ c.modules.number ∷ []) (c.modules.invariant names h)
      ∙ sym (unused_next names c.args.modules.now c.modules.number c.index-modules-number.result c.modules-test.true c.index-modules-number.is
      ∙ ap (λ b. (unused_from 0 names (trees_of (take c.modules.number c.args.modules.now))) ++ (if b then [] else c.modules.number ∷ [])) (sym (h c.index-modules-number.result.now.name.text) ∙ ap (λ (n : Name). holds c.args.used.now n) (sym c.bytes.ensures) ∙ sym c.has.ensures ∙ f))
  | else-not-has w ↦
      let f : c.has.result ≡ true = grind (arith, common_steps) in
      ap (λ (v : Vec ℕ Global). v.items) w.numbers-is ∙ c.modules.invariant names h
      ∙ sym (unused_next names c.args.modules.now c.modules.number c.index-modules-number.result c.modules-test.true c.index-modules-number.is
      ∙ ap (λ b. (unused_from 0 names (trees_of (take c.modules.number c.args.modules.now))) ++ (if b then [] else c.modules.number ∷ [])) (sym (h c.index-modules-number.result.now.name.text) ∙ ap (λ (n : Name). holds c.args.used.now n) (sym c.bytes.ensures) ∙ sym c.has.ensures ∙ f) ∙ append-nil (unused_from 0 names (trees_of (take c.modules.number c.args.modules.now))))
]

pub returns-in_err-push : goal.returns-in_err-push
returns-in_err-push c = λ names h. IfOk-from_err _ _ c.from_residual.ensures.0

pub returns : goal.returns
returns c = λ names h. c.modules.invariant names h ∙ ap (λ (l : List (Bor Module)). unused_from 0 names (trees_of l)) (take_all c.modules.number c.args.modules.now (omega (arith, c.modules-test.false)))
