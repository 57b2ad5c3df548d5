use Rattle.std.proofs.Common.{◌≡◌, ◌+◌, length, slice_index, ap, ◌∙◌, subst, arith}
use Rattle.svex_rewrite.specs.Meaning.{IsSimplified}
use Rattle.svex_rewrite.proofs.Simplifying.{stands_for}
use Rattle.svex_rewrite.proofs.simple.simplify_marked.Goals as goal

pub returns-clause-stands : goal.returns-clause-stands
returns-clause-stands c =
    let old = c.args.arena.now in
    let new = c.simplify_first.new.arena in
    let done = c.in_ok-done.done.items in
    let u = subst (λ n. IsSimplified n new c.args.marks.now done) c.len-len.ensures.is c.in_ok-done.ensures.done in
    let full : length done ≡ c.args.node + 1 = omega (arith, c.in_ok-done.ensures.full) in
    let is : c.answer.result ≡ slice_index done c.args.node = c.answer.ensures ∙ ap (λ xs. slice_index xs c.args.node) c.deref.ensures.value in
    stands_for old new c.args.marks.now done c.args.node c.answer.result c.in_ok-done.ensures.extends c.requires.within u full c.requires.rooted is
