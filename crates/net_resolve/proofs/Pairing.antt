-- An operator on two nodes.
use Rattle.std.proofs.Common.{◌≡◌, ℕ, ◌<◌, ◌&&◌, List, length, refl, ap, ◌∙◌, inl, inr}
use Rattle.svex_shape.specs.declared.shape.Bin.{Bin}
use Rattle.svex_shape.specs.declared.shape.Bin.TheVariants.{Res}
use Rattle.svex_shape.specs.declared.shape.Shape.{Shape}
use Rattle.svex_shape.specs.declared.shape.Shape.TheVariants.{Binary}
use Rattle.svex_shape.specs.Shapes.{shape_at, width_at, width_of, binary_width}
use Rattle.svex_shape.specs.Values.{value_of, value_at, binary_value, each_variable_of, each_variable}
use Rattle.svex_arena.specs.Arenas.{IsArena, Extends}
use Rattle.svex_arena.proofs.Steps.{value-extends, width-extends, variables-extends, width_follows, value_follows, variables_follow}
use Rattle.net_resolve.specs.Pieces.{IsPair}
use Rattle.net_resolve.proofs.Mentioning.{mentions-child, mentions-parent, mentions-older, mentions-newer}

pub pair_made : (op : Bin) (old new : List Shape) (a b n : ℕ) → IsArena old → IsArena new → Extends old new → a < length old → b < length old → n < length new → shape_at new n ≡ Binary op a b → IsPair op old new a b n
unfolding value_of width_of each_variable_of
pair_made op old new a b n i j e la lb lt is = record {
  there = lt;
  wide = width_follows new n j lt ∙ ap (width_of (width_at new)) is
      ∙ ap (λ w. binary_width op w (width_at new b)) (width-extends old new a e la) ∙ ap (λ w. binary_width op (width_at old a) w) (width-extends old new b e lb);
  value = λ r. value_follows r new n j lt ∙ ap (value_of r (value_at r new)) is
      ∙ ap (λ v. binary_value op v (value_at r new b)) (value-extends r old new a e la) ∙ ap (λ v. binary_value op (value_at r old a) v) (value-extends r old new b e lb);
  variables = λ p. variables_follow p new n j lt ∙ ap (each_variable_of p (each_variable p new)) is
      ∙ ap (λ t. t && each_variable p new b) (variables-extends p old new a e la) ∙ ap (λ t. each_variable p old a && t) (variables-extends p old new b e lb);
  mentions = λ wire. (
    λ m. mentions-child new n wire (Binary op a b) _ is (λ k f. cc) (λ x. inl (mentions-older old new a wire i e la x), λ x. inr (mentions-older old new b wire i e lb x)) m,
    λ m. elim m [
      | inl x ↦ mentions-parent new n a wire (Binary op a b) is (inl refl) (mentions-newer old new a wire i e la x)
      | inr x ↦ mentions-parent new n b wire (Binary op a b) is (inr refl) (mentions-newer old new b wire i e lb x)
    ],
  );
}

pub resolution_made : (old new : List Shape) (a b n : ℕ) → IsArena old → IsArena new → Extends old new → a < length old → b < length old → n < length new → shape_at new n ≡ Binary Res a b → IsPair Res old new a b n
resolution_made old new a b n i j e la lb lt is = pair_made Res old new a b n i j e la lb lt is
