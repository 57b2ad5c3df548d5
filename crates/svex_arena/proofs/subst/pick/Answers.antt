use Rattle.std.proofs.Common.{◌≡◌, ◌+◌, ◌<◌, ◌++◌, ◌∷◌, [], ℕ, List, length, sym, ap, ◌∙◌, subst, arith}
use Rattle.std.specs.Prelude.{slice_index}
use Rattle.std.proofs.lemmas.List.{get_or_default}
use Rattle.svex_arena.specs.Substs.{IsPicked}
use Rattle.svex_arena.proofs.Substituting.{picked_none, picked_more}
use Rattle.std.proofs.lemmas.Result.{IfOk-from_err}
use Rattle.svex_arena.proofs.subst.pick.Goals as goal

pub returns-in_err-picked : goal.returns-in_err-picked
returns-in_err-picked c = IfOk-from_err _ _ c.from_residual.ensures.0

pub returns-in_err-push : goal.returns-in_err-push
returns-in_err-push c = IfOk-from_err _ _ c.from_residual-in_err-push.ensures.0

pub loop-root-init : goal.loop-root-init
loop-root-init c = record {
  picked = subst (λ (l : List ℕ). IsPicked c.args.done.now c.args.roots.now l 0) (sym c.in_ok-picked.ensures.items) (picked_none c.args.done.now c.args.roots.now);
}

pub loop-root-preserved : goal.loop-root-preserved
loop-root-preserved c =
    let done = c.args.done.now in
    let roots = c.args.roots.now in
    let i = c.loop-root.root-index in
    let old = c.loop-root.picked.items in
    let root : c.root-item.result ≡ slice_index roots i = c.root-item.is ∙ get_or_default roots i c.root-item.result 0 c.loop-root-test.true in
    let is : c.answer.result ≡ slice_index done (slice_index roots i) = c.answer.ensures ∙ ap (λ (k : ℕ). slice_index done k) root in
    record {
      picked = subst (λ (l : List ℕ). IsPicked done roots l (i + 1)) (sym (c.in_ok-push.ensures.items ∙ ap (λ (x : ℕ). old ++ x ∷ []) is)) (picked_more done roots old i c.loop-root.invariant.picked);
    }

pub returns : goal.returns
returns c =
    let end : c.loop-root.root-index ≡ length c.args.roots.now = omega arith in
    subst (λ (n : ℕ). IsPicked c.args.done.now c.args.roots.now c.loop-root.picked.items n) end c.loop-root.invariant.picked

pub answer-requires : goal.answer-requires
answer-requires c =
    let roots = c.args.roots.now in
    let i = c.loop-root.root-index in
    let root : c.root-item.result ≡ slice_index roots i = c.root-item.is ∙ get_or_default roots i c.root-item.result 0 c.loop-root-test.true in
    subst (λ (k : ℕ). k < length c.args.done.now) (sym root) (c.requires i c.loop-root-test.true)

pub bounds-roots-root-index : goal.bounds-roots-root-index
bounds-roots-root-index c = c.loop-root-test.true
