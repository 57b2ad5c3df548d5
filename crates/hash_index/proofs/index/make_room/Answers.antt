use Rattle.std.proofs.lemmas.Result.{IfOk-from_err}
use Rattle.std.proofs.Common.{length, refl, ap, ◌∙◌}
use Rattle.hash_index.proofs.Keeping.{slice_back, linked_kept}
use Rattle.hash_index.proofs.index.make_room.Goals as goal

pub returns-in_ok-grow-clause-kept : goal.returns-in_ok-grow-clause-kept
returns-in_ok-grow-clause-kept c =
    let low = c.args.low.now in
    let high = c.args.high.now in
    let low_value = c.as_mut_slice.ensures.value in
    let high_value = c.as_mut_slice-then-len-hashes.ensures.value in
    rw (slice_back low.len c.grow.new.low low.items c.as_mut_slice.result.now low.ok.0 c.grow.auto.low low_value, slice_back high.len c.grow.new.high high.items c.as_mut_slice-then-len-hashes.result.now high.ok.0 c.grow.auto.high high_value)
    (linked_kept (length c.args.hashes.now) c.args.hashes.now c.grow.new.low c.grow.new.high c.grow.new.roots.items refl
    (c.grow.auto.low ∙ ap length low_value ∙ c.requires.kept.low_len) (c.grow.auto.high ∙ ap length high_value ∙ c.requires.kept.high_len) c.in_ok-grow.ensures.linked)

pub returns-in_err-grow-clause-some : goal.returns-in_err-grow-clause-some
returns-in_err-grow-clause-some c = IfOk-from_err _ _ c.from_residual.ensures.0

pub grow-requires-clause-high : goal.grow-requires-clause-high
grow-requires-clause-high c = ap length c.as_mut_slice-then-len-hashes.ensures.value ∙ c.requires.kept.high_len

pub grow-requires-clause-low : goal.grow-requires-clause-low
grow-requires-clause-low c = ap length c.as_mut_slice.ensures.value ∙ c.requires.kept.low_len

pub returns-else-len-hashes-clause-kept : goal.returns-else-len-hashes-clause-kept
returns-else-len-hashes-clause-kept c = c.requires.kept

pub returns-in_err-grow-clause-kept : goal.returns-in_err-grow-clause-kept
returns-in_err-grow-clause-kept c =
    let low = c.args.low.now in
    let high = c.args.high.now in
    let low_value = c.as_mut_slice.ensures.value in
    let high_value = c.as_mut_slice-then-len-hashes.ensures.value in
    let same = c.in_err-grow.ensures in
    rw (slice_back low.len c.grow.new.low low.items c.as_mut_slice.result.now low.ok.0 c.grow.auto.low low_value, slice_back high.len c.grow.new.high high.items c.as_mut_slice-then-len-hashes.result.now high.ok.0 c.grow.auto.high high_value, same.low, low_value, same.high, high_value, same.roots)
    c.requires.kept

pub returns-in_ok-grow-clause-some : goal.returns-in_ok-grow-clause-some
returns-in_ok-grow-clause-some c = c.in_ok-grow.ensures.some
