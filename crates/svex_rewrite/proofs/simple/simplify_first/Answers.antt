use Rattle.std.proofs.Common.{◌+◌, ◌++◌, ◌∷◌, [], ℕ, List, length, sym, ap, ◌∙◌, subst, arith}
use Rattle.std.proofs.lemmas.List.{length_push}
use Rattle.svex_arena.proofs.Keeping.{extends_self, extends_on}
use Rattle.svex_rewrite.specs.Meaning.{IsSimplified}
use Rattle.std.proofs.lemmas.Result.{IfOk-from_err}
use Rattle.svex_rewrite.proofs.simple.simplify_first.Goals as goal

pub returns-in_err-done-clause-done : goal.returns-in_err-done-clause-done
returns-in_err-done-clause-done c = IfOk-from_err _ _ c.from_residual.ensures.0

pub returns-in_err-done-clause-full : goal.returns-in_err-done-clause-full
returns-in_err-done-clause-full c = IfOk-from_err _ _ c.from_residual.ensures.0

pub returns-in_err-push-clause-done : goal.returns-in_err-push-clause-done
returns-in_err-push-clause-done c = IfOk-from_err _ _ c.from_residual-in_err-push.ensures.0

pub returns-in_err-push-clause-full : goal.returns-in_err-push-clause-full
returns-in_err-push-clause-full c = IfOk-from_err _ _ c.from_residual-in_err-push.ensures.0

pub returns-in_err-simple-clause-done : goal.returns-in_err-simple-clause-done
returns-in_err-simple-clause-done c = IfOk-from_err _ _ c.from_residual-in_err-simple.ensures.0

pub returns-in_err-simple-clause-full : goal.returns-in_err-simple-clause-full
returns-in_err-simple-clause-full c = IfOk-from_err _ _ c.from_residual-in_err-simple.ensures.0

pub loop-node-init : goal.loop-node-init
loop-node-init c = record {
  len = ap (λ (l : List ℕ). length l) c.in_ok-done.ensures.items;
  done = subst (λ (l : List ℕ). IsSimplified c.args.len c.args.arena.now c.args.marks.now l) (sym c.in_ok-done.ensures.items) c.requires.start;
  extends = extends_self c.args.arena.now;
}

pub next_simple-requires-clause-here : goal.next_simple-requires-clause-here
next_simple-requires-clause-here c = omega (arith, c.requires.within, c.loop-node.invariant.len, ap (λ (l : List ℕ). length l) c.deref.ensures.value)

pub next_simple-requires-clause-so_far : goal.next_simple-requires-clause-so_far
next_simple-requires-clause-so_far c =
    subst (λ (l : List ℕ). IsSimplified c.args.len c.loop-node.arena c.args.marks.now l) (sym c.deref.ensures.value) c.loop-node.invariant.done

pub loop-node-preserved : goal.loop-node-preserved
loop-node-preserved c =
    let n = c.in_ok-simple.simple in
    record {
      len = ap (λ (l : List ℕ). length l) c.in_ok-push.ensures.items ∙ length_push c.loop-node.done.items n ∙ ap (λ (k : ℕ). k + 1) c.loop-node.invariant.len;
      done = subst (λ (l : List ℕ). IsSimplified c.args.len c.next_simple.new.arena c.args.marks.now l)
          (ap (λ (l : List ℕ). l ++ n ∷ []) c.deref.ensures.value ∙ sym c.in_ok-push.ensures.items) c.in_ok-simple.ensures.more;
      extends = extends_on _ _ _ c.loop-node.invariant.extends c.next_simple.ensures.extends;
    }

pub returns-clause-done : goal.returns-clause-done
returns-clause-done c = c.loop-node.invariant.done

pub returns-clause-full : goal.returns-clause-full
returns-clause-full c = omega (arith, c.loop-node.invariant.len)

pub returns-clause-extends : goal.returns-clause-extends
returns-clause-extends c = c.loop-node.invariant.extends

pub returns-in_err-done-clause-extends : goal.returns-in_err-done-clause-extends
returns-in_err-done-clause-extends c = extends_self c.args.arena.now

pub returns-in_err-simple-clause-extends : goal.returns-in_err-simple-clause-extends
returns-in_err-simple-clause-extends c = extends_on _ _ _ c.loop-node.invariant.extends c.next_simple.ensures.extends

pub returns-in_err-push-clause-extends : goal.returns-in_err-push-clause-extends
returns-in_err-push-clause-extends c = extends_on _ _ _ c.loop-node.invariant.extends c.next_simple.ensures.extends
