use Rattle.std.proofs.Common.{◌∙◌, sym, ap}
use Rattle.sv_tree.specs.declared.design.Gen.{Gen}
use Rattle.sv_hierarchy.specs.Scopes.{under}
use Rattle.sv_walk.proofs.WalkingTrees.{block_head, single_head}
use Rattle.sv_walk.proofs.blocks.head_of.Goals as goal

pub returns-in-Block : goal.returns-in-Block
returns-in-Block c =
    let h = block_head c.in-Block.place c.in-Block.label c.in-Block.field-2 c.in-Block.field-3 in
    (c.as_ref.ensures.value ∙ sym h.0 ∙ sym (ap (λ (x : Gen). (under x).label) c.in-Block.is), sym h.1 ∙ sym (ap (λ (x : Gen). (under x).start) c.in-Block.is))

pub returns-in-Single : goal.returns-in-Single
returns-in-Single c =
    let h = single_head c.in-Single.place c.in-Single.field-1 in
    (sym h.0 ∙ sym (ap (λ (x : Gen). (under x).label) c.in-Single.is), sym h.1 ∙ sym (ap (λ (x : Gen). (under x).start) c.in-Single.is))
