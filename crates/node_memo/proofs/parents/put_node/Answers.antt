use Rattle.std.proofs.Common.{◌≡◌, [], get_or, ap, ◌∙◌, subst}
use Rattle.std.specs.Prelude.{Contains, IfSome}
use Rattle.std.proofs.lemmas.Option.{IfSome_then}
use Rattle.std.proofs.lemmas.Result.{on_ok_weaker}
use Rattle.svex_shape.specs.declared.shape.Shape.{Shape}
use Rattle.svex_shape.specs.Shapes.{shape_at}
use Rattle.svex_shape.specs.declared.children.Children.{Children}
use Rattle.svex_shape.specs.Children.{children_of}
use Rattle.node_memo.specs.Memos.{rows_in}
use Rattle.node_memo.proofs.Downs.{children_have}
use Rattle.node_memo.proofs.Rows.{gains-both, on_ok_two}
use Rattle.node_memo.proofs.parents.put_node.Goals as goal

pub returns-clause-gains : goal.returns-clause-gains
returns-clause-gains c =
    let node = c.args.node in
    let two = gains-both (rows_in c.args.parents.now) (rows_in c.put_parent.new.parents) (rows_in c.put_parent-2.new.parents) node c.in_ok-put_parent.ensures.gains c.in_ok-put_parent-2.ensures.gains in
    on_ok_weaker c.put_parent-3.result (λ g. gains-both (rows_in c.args.parents.now) (rows_in c.put_parent-2.new.parents) (rows_in c.put_parent-3.new.parents) node two g) c.put_parent-3.ensures.gains

pub returns-clause-has : goal.returns-clause-has
returns-clause-has c =
    let node = c.args.node in
    let shapes = c.args.arena.now in
    let rows = rows_in c.put_parent-3.new.parents in
    let is : c.child_nodes-of.result ≡ children_of (shape_at shapes node) = c.child_nodes-of.ensures ∙ ap (λ (s : Shape). children_of s) (c.shape.ensures.is ∙ ap (λ k. shape_at shapes k) c.new.ensures) in
    on_ok_two c.put_parent-3.result c.put_parent-3.ensures.gains c.put_parent-3.ensures.has (λ g h.
    let second = c.in_ok-put_parent-2.ensures.gains in
    children_have (λ k. Contains (get_or rows k []) node) (shape_at shapes node)
    (subst (λ (x : Children). IfSome x.first (λ k. Contains (get_or rows k []) node)) is
    (IfSome_then c.child_nodes-of.result.first c.in_ok-put_parent.ensures.has (λ k p. g.keeps k node (second.keeps k node p))))
    (subst (λ (x : Children). IfSome x.second (λ k. Contains (get_or rows k []) node)) is
    (IfSome_then c.child_nodes-of.result.second c.in_ok-put_parent-2.ensures.has (λ k p. g.keeps k node p)))
    (subst (λ (x : Children). IfSome x.third (λ k. Contains (get_or rows k []) node)) is h))
