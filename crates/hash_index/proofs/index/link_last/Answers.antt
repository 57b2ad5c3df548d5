use Rattle.std.proofs.Common.{length, ap, ◌∙◌}
use Rattle.hash_index.proofs.Keeping.{slice_back, linked_kept}
use Rattle.hash_index.proofs.index.link_last.Goals as goal

pub returns : goal.returns
returns c =
    let low = c.args.low.now in
    let high = c.args.high.now in
    let roots = c.args.roots.now in
    let low_value = c.deref_mut.ensures.value in
    let high_value = c.deref_mut-2.ensures.value in
    rw (
      slice_back low.len c.link.new.low low.items c.deref_mut.result.now low.ok.0 c.link.auto.low low_value,
      slice_back high.len c.link.new.high high.items c.deref_mut-2.result.now high.ok.0 c.link.auto.high high_value,
      slice_back roots.len c.link.new.roots roots.items c.deref_mut-3.result.now roots.ok.0 c.link.auto.roots c.deref_mut-3.ensures.value,
    )
    (linked_kept _ c.args.hashes.now c.link.new.low c.link.new.high c.link.new.roots c.requires.last
    (c.link.auto.low ∙ ap length low_value ∙ c.requires.low) (c.link.auto.high ∙ ap length high_value ∙ c.requires.high) c.link.ensures)
