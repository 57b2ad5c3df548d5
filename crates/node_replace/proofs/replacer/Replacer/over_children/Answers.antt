use Rattle.std.proofs.Common.{ℕ, List, ap, ◌∙◌, subst}
use Rattle.std.specs.Prelude.{slice_index}
use Rattle.svex_shape.specs.declared.shape.Shape.{Shape}
use Rattle.svex_arena.specs.Substs.{renamed}
use Rattle.svex_rewrite.specs.Meaning.{Makes}
use Rattle.node_replace.proofs.replacer.Replacer.over_children.Goals as goal

pub returns-clause-makes : goal.returns-clause-makes
returns-clause-makes c =
    subst (λ (s : Shape). Makes c.args.arena.now s c.make.new.arena c.in_ok-node.node)
    (c.rename.ensures ∙ ap (λ (l : List ℕ). renamed (λ k. slice_index l k) c.args.shape.now) c.deref.ensures.value) c.in_ok-node.ensures.makes
