-- Nodes of what names read, one made of others.
use Rattle.std.proofs.Common.{◌≡◌, ℕ, ◌≤◌, max, Bool, List, ◌++◌, ap, ◌∙◌, subst, arith}
use Rattle.std.proofs.lemmas.List.Elements.{Contains-append_left, Contains-append_right}
use Rattle.fourvec.specs.declared.Bit.{Bit}
use Rattle.svex_shape.specs.declared.shape.VarName.{VarName}
use Rattle.svex_shape.specs.declared.shape.Shape.{Shape}
use Rattle.svex_arena.specs.Arenas.{Extends}
use Rattle.svex_arena.proofs.Steps.{value-extends, width-extends, variables-extends}
use Rattle.driver_resolve.specs.Drivers.{bitwise}
use Rattle.sv_meaning.specs.Layouts.{Read, NamedSignal}
use Rattle.sv_typed.specs.declared.tree.Typed.{Typed}
use Rattle.sv_typed.specs.Typed.{worth, own, names_of, IsSound}
use Rattle.sv_typed.proofs.Sound.{most_bits}
use Rattle.sv_lower.specs.Nodes.{bits_at_node, FromOne, FromTwo}
use Rattle.sv_stores.specs.declared.scene.Scene.{Scene}
use Rattle.sv_stores.specs.Scenes.{store_of, reads_in, Allows, AreNodes, IsScene, Yields}
use Rattle.sv_stores.proofs.Stores.{store_kept, holds_kept}

pub allows_left : (scene : Scene) (p : VarName → ℕ → Bool) (a b : List NamedSignal) → Allows scene p (a ++ b) → Allows scene p a
allows_left scene p a b h s i = h s (Contains-append_left a b s i)

pub allows_right : (scene : Scene) (p : VarName → ℕ → Bool) (a b : List NamedSignal) → Allows scene p (a ++ b) → Allows scene p b
allows_right scene p a b h s i = h s (Contains-append_right a b s i)

-- a node made of one
pub yields_one : (scene : Scene) (old mid new : List Shape) (nodes : List ℕ) (f : Read → List Bit) (names : List NamedSignal) (m : ℕ) (g : List Bit → List Bit) (x w n : ℕ)
    → Yields scene old mid nodes f names m x → FromOne mid new g x w n → Yields scene old new nodes (λ read. g (f read)) names w n
yields_one scene old mid new nodes f names m g x w n h k = record {
  within = k.within;
  width = k.width;
  value = λ bits. k.value bits ∙ ap g (h.value bits);
  mentions = λ p a v. k.mentions p (h.mentions p a v);
}

-- a node made of two, the second of which is later
pub yields_two : (scene : Scene) (old mid low new : List Shape) (nodes : List ℕ) (f g : Read → List Bit) (a b : List NamedSignal) (m r : ℕ) (h : List Bit → List Bit → List Bit) (x y w n : ℕ)
    → IsScene scene → AreNodes scene old nodes → Extends old mid → Extends mid low
    → Yields scene old mid nodes f a m x → Yields scene mid low nodes g b r y → FromTwo low new h x y w n → Yields scene old new nodes (λ read. h (f read) (g read)) (a ++ b) w n
yields_two scene old mid low new nodes f g a b m r h x y w n s are d e j k z = record {
  within = z.within;
  width = z.width;
  value = λ bits.
      z.value bits
      ∙ ap (λ v. h v (bits_at_node bits low y)) (value-extends (bitwise bits) mid low x e j.within ∙ j.value bits)
      ∙ ap (λ v. h (f (reads_in scene bits (store_of scene old bits nodes))) v) (k.value bits ∙ ap (λ t. g (reads_in scene bits t)) (store_kept scene old mid bits nodes s are d));
  mentions = λ p q v.
      z.mentions p (variables-extends p mid low x e j.within ∙ j.mentions p (allows_left scene p a b q) v)
      (k.mentions p (allows_right scene p a b q) (holds_kept scene old mid p nodes are d v));
}

-- the same node later
pub yields_later : (scene : Scene) (old mid new : List Shape) (nodes : List ℕ) (f : Read → List Bit) (names : List NamedSignal) (w x : ℕ)
    → Extends mid new → Yields scene old mid nodes f names w x → Yields scene old new nodes f names w x
yields_later scene old mid new nodes f names w x e h = record {
  within = let a = h.within in let b = e.longer in omega arith;
  width = width-extends mid new x e h.within ∙ h.width;
  value = λ bits. value-extends (bitwise bits) mid new x e h.within ∙ h.value bits;
  mentions = λ p a v. variables-extends p mid new x e h.within ∙ h.mentions p a v;
}

-- another name for the same expression
pub yields_as : (scene : Scene) (old new : List Shape) (nodes : List ℕ) (a x : Typed) (w : ℕ) (s : Bool) (n : ℕ) → x ≡ a
    → Yields scene old new nodes (λ read. worth x read w s) (names_of x) w n → Yields scene old new nodes (λ read. worth a read w s) (names_of a) w n
yields_as scene old new nodes a x w s n e h = let P : Typed → Type 0 = λ t. Yields scene old new nodes (λ read. worth t read w s) (names_of t) w n in subst P e h

pub yields_own : (scene : Scene) (old new : List Shape) (nodes : List ℕ) (a x : Typed) (n : ℕ) → x ≡ a
    → Yields scene old new nodes (λ read. worth x read x.width x.signed) (names_of x) x.width n → Yields scene old new nodes (λ read. own a read) (names_of a) a.width n
yields_own scene old new nodes a x n e h = let P : Typed → Type 0 = λ t. Yields scene old new nodes (λ read. own t read) (names_of t) t.width n in subst P e h

pub typed_most : (t : Typed) (w v : ℕ) → IsSound t → w ≤ 128 → v ≡ max w t.width → v ≤ 128
typed_most t w v h k e = let m = most_bits t h in omega arith

pub typed_own : (t : Typed) → IsSound t → t.width ≤ 128
typed_own t h = most_bits t h
