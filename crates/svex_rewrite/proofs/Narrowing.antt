-- The laws of a part of a node that stands in one of its children.
use Rattle.std.proofs.Common.{◌≡◌, ℕ, ◌+◌, ◌-◌, ◌<◌, ◌≤◌, Bool, List, ◌++◌, length, take, drop, refl, sym, ap, ◌∙◌, subst, arith, IsTrue, length-drop}
use Rattle.std.proofs.lemmas.List.{take-take, drop-drop, drop-take, take-append-le, drop-append-le}
use Rattle.std.proofs.Math.Seq.{drop-append-add}
use Rattle.fourvec.specs.Bits.{slice_of}
use Rattle.fourvec.proofs.Tables.{left_of, right_of}
use Rattle.svex_shape.specs.declared.shape.VarName.{VarName}
use Rattle.svex_shape.specs.declared.shape.Bin.TheVariants.{Concat}
use Rattle.svex_shape.specs.declared.shape.Shape.{Shape}
use Rattle.svex_shape.specs.declared.shape.Shape.TheVariants.{Binary, Slice, Zext, Sext}
use Rattle.svex_shape.specs.Shapes.{ChildrenBelow, FitsWidths, shape_at, width_of, width_at}
use Rattle.svex_shape.specs.Values.{Vector, Reading, HasWidths, value_of, value_at, each_variable_of, each_variable}
use Rattle.svex_arena.specs.Arenas.{IsArena}
use Rattle.svex_arena.proofs.Steps.{value_follows, width_follows, variables_follow}
use Rattle.svex_arena.proofs.Widths.{length-value_at}
use Rattle.svex_rewrite.specs.Becoming.{IsOver, Becomes, HasShape}

-- ---- what a node is made of, by its shape

pub has_shape : (shapes : List Shape) (k : ℕ) (s : Shape) → s ≡ shape_at shapes k → HasShape shapes k s
has_shape shapes k s e = record { is = sym e }

-- what a node with a shape has
pub record Is (shapes : List Shape) (k : ℕ) (s : Shape) : Type 0 where
  pub children : ChildrenBelow k s
  pub fits : FitsWidths (width_at shapes) s
  pub width : width_at shapes k ≡ width_of (width_at shapes) s
  pub value : (r : Reading) → value_at r shapes k ≡ value_of r (value_at r shapes) s
  pub variables : (p : VarName → ℕ → Bool) → each_variable p shapes k ≡ each_variable_of p (each_variable p shapes) s

pub is_of : (shapes : List Shape) (k : ℕ) (s : Shape) → IsArena shapes → k < length shapes → HasShape shapes k s → Is shapes k s
is_of shapes k s i l e = record {
  children = subst (ChildrenBelow k) e.is (i.children k l);
  fits = subst (FitsWidths (width_at shapes)) e.is (i.fits k l);
  width = width_follows shapes k i l ∙ ap (width_of (width_at shapes)) e.is;
  value = λ r. value_follows r shapes k i l ∙ ap (value_of r (value_at r shapes)) e.is;
  variables = λ p. variables_follow p shapes k i l ∙ ap (each_variable_of p (each_variable p shapes)) e.is;
}

-- ---- slices

-- a slice of a node becomes a slice of one of its children
moved : (shapes : List Shape) (a lo width b low : ℕ) → IsOver shapes (Slice a lo width) → b < length shapes → low + width ≤ width_at shapes b → ((r : Reading) → HasWidths r → slice_of (value_at r shapes b) low width ≡ slice_of (value_at r shapes a) lo width) → ((p : VarName → ℕ → Bool) → IsTrue (each_variable p shapes a) → IsTrue (each_variable p shapes b)) → Becomes shapes (Slice a lo width) (Slice b low width)
unfolding value_of width_of each_variable_of Becomes
moved shapes a lo width b low o l w v m = record {
  over = record { arena = o.arena; children = l; fits = (o.fits.0, w) };
  width = refl;
  value = v;
  mentions = m;
}

twice : (v : Vector) (low wide lo width : ℕ) → lo + width ≤ wide → take width (drop (low + lo) v) ≡ take width (drop lo (take wide (drop low v)))
twice v low wide lo width h =
    let parts : wide ≡ lo + (wide - lo) = omega arith in
    sym (ap (λ n. take width (drop lo (take n (drop low v)))) parts ∙ ap (take width) (drop-take lo (wide - lo) (drop low v)) ∙ take-take width (wide - lo) (drop lo (drop low v)) (omega arith) ∙ ap (take width) (drop-drop lo low v))

pub slice_of_slice : (shapes : List Shape) (a lo width of low wide : ℕ) → IsOver shapes (Slice a lo width) → HasShape shapes a (Slice of low wide) → Becomes shapes (Slice a lo width) (Slice of (low + lo) width)
unfolding value_of width_of each_variable_of
slice_of_slice shapes a lo width of low wide o e =
    let is = is_of shapes a (Slice of low wide) o.arena o.children e in
    let within : lo + width ≤ wide = omega (arith, o.fits.1, is.width) in
    moved shapes a lo width of (low + lo) o (omega (arith, is.children, o.children)) (omega (arith, is.fits.1))
    (λ r h. twice (value_at r shapes of) low wide lo width within ∙ ap (λ v. take width (drop lo v)) (sym (is.value r)))
    (λ p m. sym (is.variables p) ∙ m)

low_part : (low high : Vector) (lo width : ℕ) → lo + width ≤ length low → take width (drop lo low) ≡ take width (drop lo (low ++ high))
low_part low high lo width h =
    sym (ap (take width) (drop-append-le lo low high (omega arith)) ∙ take-append-le width (drop lo low) high (omega (arith, length-drop lo low)))

high_part : (low high : Vector) (lo width n : ℕ) → length low ≡ n → n ≤ lo → take width (drop (lo - n) high) ≡ take width (drop lo (low ++ high))
high_part low high lo width n e h =
    let parts : lo ≡ length low + (lo - n) = omega arith in
    sym (ap (λ m. take width (drop m (low ++ high))) parts ∙ ap (take width) (drop-append-add low high (lo - n)))

pub slice_of_low : (shapes : List Shape) (a lo width high low : ℕ) → IsOver shapes (Slice a lo width) → HasShape shapes a (Binary Concat high low) → lo + width ≤ width_at shapes low → Becomes shapes (Slice a lo width) (Slice low lo width)
unfolding value_of width_of each_variable_of
slice_of_low shapes a lo width high low o e under =
    let is = is_of shapes a (Binary Concat high low) o.arena o.children e in
    let l : low < length shapes = omega (arith, is.children.1, o.children) in
    moved shapes a lo width low lo o l under
    (λ r h. low_part (value_at r shapes low) (value_at r shapes high) lo width (omega (arith, length-value_at r shapes low h o.arena l)) ∙ ap (λ v. take width (drop lo v)) (sym (is.value r)))
    (λ p m. right_of _ _ (sym (is.variables p) ∙ m))

pub slice_of_high : (shapes : List Shape) (a lo width high low n : ℕ) → IsOver shapes (Slice a lo width) → HasShape shapes a (Binary Concat high low) → n ≡ width_at shapes low → n ≤ lo → Becomes shapes (Slice a lo width) (Slice high (lo - n) width)
unfolding value_of width_of each_variable_of
slice_of_high shapes a lo width high low n o e same above =
    let is = is_of shapes a (Binary Concat high low) o.arena o.children e in
    let l : high < length shapes = omega (arith, is.children.0, o.children) in
    let m : low < length shapes = omega (arith, is.children.1, o.children) in
    moved shapes a lo width high (lo - n) o l (omega (arith, is.width, o.fits.1))
    (λ r h. high_part (value_at r shapes low) (value_at r shapes high) lo width n (length-value_at r shapes low h o.arena m ∙ sym same) above ∙ ap (λ v. take width (drop lo v)) (sym (is.value r)))
    (λ p m. left_of _ _ (sym (is.variables p) ∙ m))

pub ruleset half_laws = (slice_of_low, slice_of_high)

pub slice_of_zext : (shapes : List Shape) (a lo width of wide : ℕ) → IsOver shapes (Slice a lo width) → HasShape shapes a (Zext of wide) → lo + width ≤ width_at shapes of → Becomes shapes (Slice a lo width) (Slice of lo width)
unfolding value_of width_of each_variable_of
slice_of_zext shapes a lo width of wide o e under =
    let is = is_of shapes a (Zext of wide) o.arena o.children e in
    let l : of < length shapes = omega (arith, is.children, o.children) in
    moved shapes a lo width of lo o l under
    (λ r h. low_part (value_at r shapes of) _ lo width (omega (arith, length-value_at r shapes of h o.arena l)) ∙ ap (λ v. take width (drop lo v)) (sym (is.value r)))
    (λ p m. sym (is.variables p) ∙ m)

pub slice_of_sext : (shapes : List Shape) (a lo width of wide : ℕ) → IsOver shapes (Slice a lo width) → HasShape shapes a (Sext of wide) → lo + width ≤ width_at shapes of → Becomes shapes (Slice a lo width) (Slice of lo width)
unfolding value_of width_of each_variable_of
slice_of_sext shapes a lo width of wide o e under =
    let is = is_of shapes a (Sext of wide) o.arena o.children e in
    let l : of < length shapes = omega (arith, is.children, o.children) in
    moved shapes a lo width of lo o l under
    (λ r h. low_part (value_at r shapes of) _ lo width (omega (arith, length-value_at r shapes of h o.arena l)) ∙ ap (λ v. take width (drop lo v)) (sym (is.value r)))
    (λ p m. sym (is.variables p) ∙ m)

pub ruleset narrowing_laws = (slice_of_slice, slice_of_zext, slice_of_sext)
