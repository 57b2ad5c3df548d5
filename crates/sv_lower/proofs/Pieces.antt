-- Parts of nodes, and nodes side by side.
use Rattle.std.proofs.Common.{◌≡◌, ℕ, zero, suc, ◌+◌, ◌*◌, ◌<◌, ◌≤◌, List, ◌∷◌, ◌++◌, length, take, drop, refl, sym, ap, ◌∙◌, arith}
use Rattle.std.specs.Prelude.{ℤ}
use Rattle.std.proofs.lemmas.List.{take_all, append-nil, length-replicate}
use Rattle.fourvec.specs.declared.Bit.{Bit}
use Rattle.fourvec.specs.declared.Bit.TheVariants.{Unknown}
use Rattle.fourvec.specs.Bits.{all_x, slice_of, concat_of}
use Rattle.fourvec.specs.Spots.{window}
use Rattle.svex_shape.specs.declared.shape.Shape.{Shape}
use Rattle.svex_shape.specs.declared.shape.Shape.TheVariants.{Slice}
use Rattle.svex_shape.specs.Shapes.{width_of, width_at}
use Rattle.svex_shape.specs.Values.{value_of, each_variable_of}
use Rattle.svex_arena.specs.Arenas.{IsArena, Extends}
use Rattle.svex_arena.proofs.Steps.{value-extends, width-extends, variables-extends}
use Rattle.driver_resolve.specs.Drivers.{bitwise}
use Rattle.sv_meaning.specs.Meanings.{copies}
use Rattle.sv_lower.specs.Nodes.{bits_at_node, IsMade, IsConstant, FromOne, FromTwo, IsSpan}
use Rattle.sv_lower.proofs.Sizing.{length-node}

-- what an operator gives of every vector of a node's width
pub from_constant : (old new : List Shape) (f : List Bit → List Bit) (v : List Bit) (a w n : ℕ) → IsArena old → a < length old → length v ≡ w → ((x : List Bit) → length x ≡ width_at old a → v ≡ f x) → IsConstant new v n → FromOne old new f a w n
from_constant old new f v a w n i l e h k = record {
  within = k.within;
  width = k.width ∙ e;
  value = λ bits. k.value bits ∙ h (bits_at_node bits old a) (length-node bits old a i l);
  mentions = λ p m. k.mentions p;
}

-- ---- slices

whole_part : (v : List Bit) (lo w : ℕ) → length v ≡ w → lo ≡ 0 → v ≡ slice_of v lo w
whole_part v lo w e z = sym (ap (λ n. take w (drop n v)) z ∙ take_all w v (omega arith))

pub sliced_all : (old : List Shape) (a lo w u : ℕ) → IsArena old → a < length old → u ≡ width_at old a → u ≡ w → lo + w ≤ width_at old a → FromOne old old (λ v. slice_of v lo w) a w a
sliced_all old a lo w u i l d e h = record {
  within = l;
  width = sym d ∙ e;
  value = λ bits. whole_part (bits_at_node bits old a) lo w (length-node bits old a i l ∙ sym d ∙ e) (omega arith);
  mentions = λ p m. m;
}

pub sliced_part : (old new : List Shape) (a lo w n : ℕ) → IsMade old (Slice a lo w) new n → FromOne old new (λ v. slice_of v lo w) a w n
unfolding width_of value_of each_variable_of
sliced_part old new a lo w n h = record { within = h.within; width = h.width; value = λ bits. h.value _; mentions = λ p m. h.variables p ∙ m }

-- ---- X above and below

none_above : (v : List Bit) (count : ℕ) → count ≡ 0 → v ≡ v ++ all_x count
none_above v zero e = sym (append-nil v)
none_above v (suc count) e = absurd (omega arith)

none_below : (v : List Bit) (count : ℕ) → count ≡ 0 → v ≡ all_x count ++ v
none_below v zero e = refl
none_below v (suc count) e = absurd (omega arith)

pub topped_none : (old : List Shape) (a count : ℕ) → a < length old → count ≡ 0 → FromOne old old (λ v. v ++ all_x count) a (width_at old a + count) a
topped_none old a count l e = record { within = l; width = omega arith; value = λ bits. none_above (bits_at_node bits old a) count e; mentions = λ p m. m }

pub raised_none : (old : List Shape) (a count : ℕ) → a < length old → count ≡ 0 → FromOne old old (λ v. all_x count ++ v) a (width_at old a + count) a
raised_none old a count l e = record { within = l; width = omega arith; value = λ bits. none_below (bits_at_node bits old a) count e; mentions = λ p m. m }

-- the widths of X and of a node in a later arena
pub widths_kept : (old mid : List Shape) (a x count : ℕ) → Extends old mid → a < length old → length (all_x count) ≡ count → IsConstant mid (all_x count) x → width_at mid a + width_at mid x ≡ width_at old a + count
widths_kept old mid a x count e l c k = let d = width-extends old mid a e l in let f = k.width in omega arith

pub topped_some : (old mid new : List Shape) (a x w count n : ℕ) → Extends old mid → a < length old → IsConstant mid (all_x count) x → w ≡ width_at old a + count → FromTwo mid new concat_of x a w n → FromOne old new (λ v. v ++ all_x count) a (width_at old a + count) n
topped_some old mid new a x w count n e l k h f = record {
  within = f.within;
  width = f.width ∙ h;
  value = λ bits. f.value bits ∙ ap (λ v. v ++ bits_at_node bits mid x) (value-extends (bitwise bits) old mid a e l) ∙ ap (λ v. bits_at_node bits old a ++ v) (k.value bits);
  mentions = λ p m. f.mentions p (k.mentions p) (variables-extends p old mid a e l ∙ m);
}

pub raised_some : (old mid new : List Shape) (a x w count n : ℕ) → Extends old mid → a < length old → IsConstant mid (all_x count) x → w ≡ width_at old a + count → FromTwo mid new concat_of a x w n → FromOne old new (λ v. all_x count ++ v) a (width_at old a + count) n
raised_some old mid new a x w count n e l k h f = record {
  within = f.within;
  width = f.width ∙ h;
  value = λ bits. f.value bits ∙ ap (λ v. bits_at_node bits mid x ++ v) (value-extends (bitwise bits) old mid a e l) ∙ ap (λ v. v ++ bits_at_node bits old a) (k.value bits);
  mentions = λ p m. f.mentions p (variables-extends p old mid a e l ∙ m) (k.mentions p);
}

-- ---- windows

x_only : (v : List Bit) (below lo inside above : ℕ) → inside ≡ 0 → all_x (below + (inside + above)) ≡ all_x below ++ (slice_of v lo inside ++ all_x above)
x_only v zero lo zero above e = let none : 0 + (0 + above) ≡ above = omega arith in ap (λ n. all_x n) none
x_only v (suc below) lo zero above e = let next : suc below + (0 + above) ≡ suc (below + (0 + above)) = omega arith in ap (λ n. all_x n) next ∙ ap (λ xs. Unknown ∷ xs) (x_only v below lo zero above refl)
x_only v below lo (suc inside) above e = absurd (omega arith)

pub window_none : (old new : List Shape) (size : ℕ) (place : ℤ) (width below lo inside above a n : ℕ) → IsArena old → a < length old → size ≡ width_at old a → IsSpan size place width below lo inside above → inside ≡ 0 →
    IsConstant new (all_x width) n → FromOne old new (λ v. window v place width) a width n
window_none old new size place width below lo inside above a n i l d s e k = from_constant old new (λ v. window v place width) (all_x width) a width n i l (length-replicate width Unknown)
    (λ x h. ap (λ n. all_x n) (sym s.sum) ∙ x_only x below lo inside above e ∙ sym (s.gives x (h ∙ sym d))) k

pub window_some : (old one two new : List Shape) (size : ℕ) (place : ℤ) (width below lo inside above a part more n : ℕ) → IsArena old → a < length old → size ≡ width_at old a → IsSpan size place width below lo inside above →
    FromOne old one (λ v. slice_of v lo inside) a inside part → FromOne one two (λ v. v ++ all_x above) part (width_at one part + above) more → FromOne two new (λ v. all_x below ++ v) more (width_at two more + below) n →
    FromOne old new (λ v. window v place width) a width n
window_some old one two new size place width below lo inside above a part more n i l d s f g h = record {
  within = h.within;
  width = let p = f.width in let q = g.width in let r = h.width in let t = s.sum in omega arith;
  value = λ bits.
      h.value bits ∙ ap (λ v. all_x below ++ v) (g.value bits ∙ ap (λ v. v ++ all_x above) (f.value bits))
      ∙ sym (s.gives (bits_at_node bits old a) (length-node bits old a i l ∙ sym d));
  mentions = λ p m. h.mentions p (g.mentions p (f.mentions p m));
}

-- ---- copies

pub one_copy : (old : List Shape) (a : ℕ) → a < length old → FromOne old old (copies 1) a (1 * width_at old a) a
unfolding copies
one_copy old a l = record { within = l; width = omega arith; value = λ bits. sym (append-nil (bits_at_node bits old a)); mentions = λ p m. m }

pub copy_more : (old mid new : List Shape) (a count m w n : ℕ) → Extends old mid → a < length old → FromOne old mid (copies count) a (count * width_at old a) m → w ≡ (count + 1) * width_at old a → FromTwo mid new concat_of m a w n →
    FromOne old new (copies (count + 1)) a ((count + 1) * width_at old a) n
unfolding copies
copy_more old mid new a count m w n e l h d k =
    let next : count + 1 ≡ suc count = omega arith in
    record {
      within = k.within;
      width = k.width ∙ d;
      value = λ bits.
          k.value bits ∙ ap (λ v. v ++ bits_at_node bits mid m) (value-extends (bitwise bits) old mid a e l) ∙ ap (λ v. bits_at_node bits old a ++ v) (h.value bits)
          ∙ ap (λ i. copies i (bits_at_node bits old a)) (sym next);
      mentions = λ p m. k.mentions p (h.mentions p m) (variables-extends p old mid a e l ∙ m);
    }
