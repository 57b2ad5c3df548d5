use Rattle.std.proofs.Common.{◌+◌, ◌++◌, ◌∷◌, [], ℕ, List, length, sym, ap, ◌∙◌, subst, arith}
use Rattle.std.proofs.lemmas.List.{length_push}
use Rattle.svex_arena.specs.Substs.{IsSubstituted}
use Rattle.svex_arena.proofs.Keeping.{extends_self, extends_on}
use Rattle.std.proofs.lemmas.Result.{IfOk-from_err}
use Rattle.svex_arena.proofs.subst.answer_all.Goals as goal

pub returns-in_err-done-clause-done : goal.returns-in_err-done-clause-done
returns-in_err-done-clause-done c = IfOk-from_err _ _ c.from_residual.ensures.0

pub returns-in_err-done-clause-full : goal.returns-in_err-done-clause-full
returns-in_err-done-clause-full c = IfOk-from_err _ _ c.from_residual.ensures.0

pub returns-in_err-answer-clause-done : goal.returns-in_err-answer-clause-done
returns-in_err-answer-clause-done c = IfOk-from_err _ _ c.from_residual-in_err-answer.ensures.0

pub returns-in_err-answer-clause-full : goal.returns-in_err-answer-clause-full
returns-in_err-answer-clause-full c = IfOk-from_err _ _ c.from_residual-in_err-answer.ensures.0

pub returns-in_err-push-clause-done : goal.returns-in_err-push-clause-done
returns-in_err-push-clause-done c = IfOk-from_err _ _ c.from_residual-in_err-push.ensures.0

pub returns-in_err-push-clause-full : goal.returns-in_err-push-clause-full
returns-in_err-push-clause-full c = IfOk-from_err _ _ c.from_residual-in_err-push.ensures.0

pub loop-node-init : goal.loop-node-init
loop-node-init c = record {
  len = ap (λ (l : List ℕ). length l) c.in_ok-done.ensures.items;
  done = subst (λ (l : List ℕ). IsSubstituted c.args.len c.args.by.now c.args.arena.now c.args.marks.now l) (sym c.in_ok-done.ensures.items) c.requires.start;
  extends = extends_self c.args.arena.now;
}

pub next_answer-requires-clause-here : goal.next_answer-requires-clause-here
next_answer-requires-clause-here c = omega (arith, c.loop-node.invariant.len, ap (λ (l : List ℕ). length l) c.deref.ensures.value)

pub next_answer-requires-clause-so_far : goal.next_answer-requires-clause-so_far
next_answer-requires-clause-so_far c =
    subst (λ (l : List ℕ). IsSubstituted c.args.len c.args.by.now c.loop-node.arena c.args.marks.now l) (sym c.deref.ensures.value) c.loop-node.invariant.done

pub loop-node-preserved : goal.loop-node-preserved
loop-node-preserved c =
    let n = c.in_ok-answer.answer in
    record {
      len = ap (λ (l : List ℕ). length l) c.in_ok-push.ensures.items ∙ length_push c.loop-node.done.items n ∙ ap (λ (k : ℕ). k + 1) c.loop-node.invariant.len;
      done = subst (λ (l : List ℕ). IsSubstituted c.args.len c.args.by.now c.next_answer.new.arena c.args.marks.now l)
          (ap (λ (l : List ℕ). l ++ n ∷ []) c.deref.ensures.value ∙ sym c.in_ok-push.ensures.items) c.in_ok-answer.ensures.more;
      extends = extends_on _ _ _ c.loop-node.invariant.extends c.next_answer.ensures.extends;
    }

pub returns-clause-done : goal.returns-clause-done
returns-clause-done c = c.loop-node.invariant.done

pub returns-clause-full : goal.returns-clause-full
returns-clause-full c = omega (arith, c.loop-node.invariant.len)

pub returns-clause-extends : goal.returns-clause-extends
returns-clause-extends c = c.loop-node.invariant.extends

pub returns-in_err-done-clause-extends : goal.returns-in_err-done-clause-extends
returns-in_err-done-clause-extends c = extends_self c.args.arena.now

pub returns-in_err-answer-clause-extends : goal.returns-in_err-answer-clause-extends
returns-in_err-answer-clause-extends c = extends_on _ _ _ c.loop-node.invariant.extends c.next_answer.ensures.extends

pub returns-in_err-push-clause-extends : goal.returns-in_err-push-clause-extends
returns-in_err-push-clause-extends c = extends_on _ _ _ c.loop-node.invariant.extends c.next_answer.ensures.extends
