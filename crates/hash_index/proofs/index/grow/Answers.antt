use Rattle.std.proofs.Common.{◌∙◌, refl, sym, arith}
use Rattle.hash_index.proofs.Keeping.{on_err, slice_back, linked_none}
use Rattle.std.proofs.lemmas.Result.{IfOk-from_err}
use Rattle.hash_index.proofs.index.grow.Goals as goal

pub returns-in_err-made-clause-linked : goal.returns-in_err-made-clause-linked
returns-in_err-made-clause-linked c = IfOk-from_err _ _ c.from_residual.ensures.0

pub returns-in_err-made-clause-some : goal.returns-in_err-made-clause-some
returns-in_err-made-clause-some c = IfOk-from_err _ _ c.from_residual.ensures.0

pub returns-in_err-made-clause-low : goal.returns-in_err-made-clause-low
returns-in_err-made-clause-low c = on_err _ _ refl

pub returns-clause-low : goal.returns-clause-low
returns-clause-low c = tt

pub returns-in_err-made-clause-high : goal.returns-in_err-made-clause-high
returns-in_err-made-clause-high c = on_err _ _ refl

pub returns-clause-high : goal.returns-clause-high
returns-clause-high c = tt

pub returns-in_err-made-clause-roots : goal.returns-in_err-made-clause-roots
returns-in_err-made-clause-roots c = on_err _ _ refl

pub returns-clause-roots : goal.returns-clause-roots
returns-clause-roots c = tt

pub link_all-requires-clause-linked : goal.link_all-requires-clause-linked
link_all-requires-clause-linked c =
    linked_none c.args.hashes.now c.fill.new.self c.fill-2.new.self c.deref_mut.result.now _ _ _ (c.fill.ensures.after (λ y e. e)) (c.fill-2.ensures.after (λ y e. e)) (c.deref_mut.ensures.value ∙ c.in_ok-made.ensures.items_if_clones_equal (λ y e. e))

pub link_all-requires-clause-low : goal.link_all-requires-clause-low
link_all-requires-clause-low c = omega (arith, c.fill.ensures.len, c.requires.low)

pub link_all-requires-clause-pairs : goal.link_all-requires-clause-pairs
link_all-requires-clause-pairs c = c.fill-2.ensures.len ∙ c.requires.high ∙ sym c.requires.low ∙ sym c.fill.ensures.len

pub returns-clause-linked : goal.returns-clause-linked
returns-clause-linked c =
    let made = c.in_ok-made.made in
    rw (slice_back made.len c.link_all.new.roots made.items c.deref_mut.result.now made.ok.0 c.link_all.auto.roots c.deref_mut.ensures.value) c.link_all.ensures
