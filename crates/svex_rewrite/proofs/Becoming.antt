-- Shapes that become others.
use Rattle.std.proofs.Common.{◌≡◌, ℕ, ◌<◌, Bool, List, length, replicate, refl, sym, ap, ◌∙◌, subst, arith, IsTrue}
use Rattle.std.specs.Prelude.{None}
use Rattle.fourvec.specs.declared.Bit.{Bit}
use Rattle.svex_shape.specs.declared.shape.VarName.{VarName}
use Rattle.svex_shape.specs.declared.shape.Shape.{Shape}
use Rattle.svex_shape.specs.declared.shape.Shape.TheVariants.{Const}
use Rattle.svex_shape.specs.Shapes.{shape_at, width_of, width_at}
use Rattle.svex_shape.specs.Values.{Vector, Reading, HasWidths, value_of, value_at, each_variable_of, each_variable}
use Rattle.svex_arena.specs.Arenas.{IsArena, Extends, Interned}
use Rattle.svex_arena.proofs.Numbering.{map_children}
use Rattle.svex_arena.proofs.Steps.{value_reads, width_reads, variables_read, value-extends, width-extends, variables-extends, value_follows, width_follows, variables_follow}
use Rattle.svex_rewrite.specs.Meaning.{IsOver, Becomes, Makes, HasShape, IsAllAt, constant_of}

pub becomes_self : (shapes : List Shape) (s : Shape) → IsOver shapes s → Becomes shapes s s
unfolding Becomes
becomes_self shapes s o = record { over = o; width = refl; value = λ r w. refl; mentions = λ p h. h }

-- a shape becomes what another becomes that has its meaning
pub becomes_as : (shapes : List Shape) (s u t : Shape) → Becomes shapes u t → width_of (width_at shapes) u ≡ width_of (width_at shapes) s → ((r : Reading) → HasWidths r → value_of r (value_at r shapes) u ≡ value_of r (value_at r shapes) s) → ((p : VarName → ℕ → Bool) → IsTrue (each_variable_of p (each_variable p shapes) s) → IsTrue (each_variable_of p (each_variable p shapes) u)) → Becomes shapes s t
unfolding Becomes
becomes_as shapes s u t b w v m = record {
  over = b.over;
  width = b.width ∙ w;
  value = λ r h. b.value r h ∙ v r h;
  mentions = λ p h. b.mentions p (m p h);
}

pub becomes_on : (shapes : List Shape) (s u t : Shape) → Becomes shapes s u → Becomes shapes u t → Becomes shapes s t
unfolding Becomes
becomes_on shapes s u t a b = becomes_as shapes s u t b a.width a.value a.mentions

pub becomes_over : (shapes : List Shape) (s t : Shape) → Becomes shapes s t → IsOver shapes t
unfolding Becomes
becomes_over shapes s t b = b.over

-- a shape becomes that of a node with its meaning
pub becomes_node : (shapes : List Shape) (s : Shape) (n : ℕ) (t : Shape) → IsArena shapes → n < length shapes → HasShape shapes n t → width_at shapes n ≡ width_of (width_at shapes) s → ((r : Reading) → HasWidths r → value_at r shapes n ≡ value_of r (value_at r shapes) s) → ((p : VarName → ℕ → Bool) → IsTrue (each_variable_of p (each_variable p shapes) s) → IsTrue (each_variable p shapes n)) → Becomes shapes s t
unfolding Becomes
becomes_node shapes s n t i l q w v m =
    let children = i.children n l in
    subst (Becomes shapes s) q.is (record {
      over = record {
        arena = i;
        children = map_children (λ j. j < n) (λ j. j < length shapes) (λ j lt. omega arith) (shape_at shapes n) children;
        fits = i.fits n l;
      };
      width = sym (width_follows shapes n i l) ∙ w;
      value = λ r h. sym (value_follows r shapes n i l) ∙ v r h;
      mentions = λ p h. sym (variables_follow p shapes n i l) ∙ m p h;
    })

-- ---- constants

pub over_const : (shapes : List Shape) (v : Vector) → IsArena shapes → IsOver shapes (Const v)
over_const shapes v i = record { arena = i; children = tt; fits = tt }

pub const_value : (r : Reading) (shapes : List Shape) (k : ℕ) (v : Vector) → IsArena shapes → k < length shapes → HasShape shapes k (Const v) → value_at r shapes k ≡ v
unfolding value_of
const_value r shapes k v i l e = value_follows r shapes k i l ∙ ap (value_of r (value_at r shapes)) e.is

pub const_width : (shapes : List Shape) (k : ℕ) (v : Vector) → IsArena shapes → k < length shapes → HasShape shapes k (Const v) → width_at shapes k ≡ length v
unfolding width_of
const_width shapes k v i l e = width_follows shapes k i l ∙ ap (width_of (width_at shapes)) e.is

-- a shape becomes a constant that it always has
pub becomes_const : (shapes : List Shape) (s : Shape) (v : Vector) → IsArena shapes → length v ≡ width_of (width_at shapes) s → ((r : Reading) → HasWidths r → v ≡ value_of r (value_at r shapes) s) → Becomes shapes s (Const v)
unfolding value_of width_of each_variable_of Becomes
becomes_const shapes s v i w h = record { over = over_const shapes v i; width = w; value = h; mentions = λ p m. refl }

pub all_at : (shapes : List Shape) (k : ℕ) (bit : Bit) (v : Vector) → IsArena shapes → k < length shapes → HasShape shapes k (Const v) → v ≡ replicate (length v) bit → IsAllAt shapes k bit
all_at shapes k bit v i l h e = record {
  is = h.is ∙ ap (λ x. Const x) (e ∙ ap (λ n. replicate n bit) (sym (const_width shapes k v i l h)));
}

pub all_at_value : (shapes : List Shape) (k : ℕ) (bit : Bit) (v : Vector) → IsArena shapes → k < length shapes → HasShape shapes k (Const v) → IsAllAt shapes k bit → v ≡ replicate (length v) bit
all_at_value shapes k bit v i l h a =
    let same : Const v ≡ Const (replicate (width_at shapes k) bit) = sym h.is ∙ a.is in
    let here : v ≡ replicate (width_at shapes k) bit = cc in
    here ∙ ap (λ n. replicate n bit) (const_width shapes k v i l h)

pub never_all_at : (shapes : List Shape) (k : ℕ) (bit : Bit) → None ≡ constant_of (shape_at shapes k) → IsAllAt shapes k bit → ⊥
never_all_at shapes k bit e a = let none : None ≡ constant_of (Const (replicate (width_at shapes k) bit)) = e ∙ ap constant_of a.is in cc

pub ruleset all_at_laws = (all_at, all_at_value, never_all_at)

-- ---- a shape that becomes another, interned

pub interned_makes : (old : List Shape) (s t : Shape) (new : List Shape) (node : ℕ) → Becomes old s t → IsArena new → Extends old new → Interned old t new node → Makes old s new node
unfolding Becomes
interned_makes old s t new node b i x h =
    let grown : (j : ℕ) → j < length old → width_at new j ≡ width_at old j = λ j l. width-extends old new j x l in
    record {
      within = h.0;
      width = width_follows new node i h.0 ∙ ap (width_of (width_at new)) h.1 ∙ width_reads (width_at new) (width_at old) t (map_children (λ j. j < length old) (λ j. width_at new j ≡ width_at old j) grown t b.over.children) ∙ b.width;
      value = λ r w. value_follows r new node i h.0 ∙ ap (value_of r (value_at r new)) h.1 ∙ value_reads r (value_at r new) (value_at r old) t (map_children (λ j. j < length old) (λ j. value_at r new j ≡ value_at r old j) (λ j l. value-extends r old new j x l) t b.over.children) ∙ b.value r w;
      mentions = λ p m. variables_follow p new node i h.0 ∙ ap (each_variable_of p (each_variable p new)) h.1 ∙ variables_read p (each_variable p new) (each_variable p old) t (map_children (λ j. j < length old) (λ j. each_variable p new j ≡ each_variable p old j) (λ j l. variables-extends p old new j x l) t b.over.children) ∙ b.mentions p m;
    }
