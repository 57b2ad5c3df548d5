-- The laws of parts, concatenations and extensions.
use Rattle.std.proofs.Common.{◌≡◌, ℕ, zero, suc, ◌+◌, ◌-◌, ◌<◌, ◌≤◌, List, ◌++◌, length, take, drop, replicate, get_or, refl, sym, ap, ◌∙◌, arith, length-append, append_assoc}
use Rattle.std.proofs.lemmas.List.{take_all, drop-drop, length-replicate, drop-replicate, take-replicate, append-nil, get_or-append_right, get_or-replicate, replicate-append-replicate}
use Rattle.std.proofs.Math.Seq.{drop-append-add, take-add}
use Rattle.fourvec.specs.declared.Bit.{Bit}
use Rattle.fourvec.specs.declared.Bit.TheVariants.{Zero}
use Rattle.fourvec.specs.Bits.{top, slice_of, zext_of, sext_of}
use Rattle.fourvec.proofs.Tables.{right_of}
use Rattle.fourvec.proofs.Widths.{length-slice_of, length-zext_of, length-sext_of}
use Rattle.svex_shape.specs.declared.shape.Bin.TheVariants.{Concat}
use Rattle.svex_shape.specs.declared.shape.Shape.{Shape}
use Rattle.svex_shape.specs.declared.shape.Shape.TheVariants.{Const, Binary, Slice, Zext, Sext}
use Rattle.svex_shape.specs.Shapes.{width_of, width_at}
use Rattle.svex_shape.specs.Values.{Vector, value_of, value_at, each_variable_of}
use Rattle.svex_arena.specs.Arenas.{IsArena}
use Rattle.svex_arena.proofs.Widths.{length-value_at}
use Rattle.svex_rewrite.proofs.Narrowing.{is_of}
use Rattle.svex_rewrite.specs.Meaning.{IsOver, Becomes, HasShape}
use Rattle.svex_rewrite.proofs.Becoming.{becomes_as, becomes_node, becomes_const, const_value, const_width}

-- ---- slices

pub slice_of_all : (shapes : List Shape) (a lo width : ℕ) (t : Shape) → IsOver shapes (Slice a lo width) → width ≡ width_at shapes a → HasShape shapes a t → Becomes shapes (Slice a lo width) t
unfolding value_of width_of each_variable_of
slice_of_all shapes a lo width t o all e =
    let none : lo ≡ 0 = omega (arith, o.fits.1) in
    becomes_node shapes (Slice a lo width) a t o.arena o.children e (sym all)
    (λ r h. sym (ap (λ n. take width (drop n (value_at r shapes a))) none ∙ take_all width (value_at r shapes a) (omega (arith, length-value_at r shapes a h o.arena o.children))))
    (λ p m. m)

pub slice_of_const : (shapes : List Shape) (a lo width : ℕ) (v y : Vector) → IsOver shapes (Slice a lo width) → HasShape shapes a (Const v) → y ≡ slice_of v lo width → Becomes shapes (Slice a lo width) (Const y)
unfolding value_of width_of
slice_of_const shapes a lo width v y o e q =
    becomes_const shapes (Slice a lo width) y o.arena (ap length q ∙ length-slice_of v lo width (omega (arith, o.fits.1, const_width shapes a v o.arena o.children e)))
    (λ r h. q ∙ ap (λ x. slice_of x lo width) (sym (const_value r shapes a v o.arena o.children e)))

zeros_part : (v : Vector) (lo width wide : ℕ) → length v ≤ lo → lo + width ≤ wide → replicate width Zero ≡ take width (drop lo (v ++ replicate (wide - length v) Zero))
zeros_part v lo width wide above within =
    let parts : lo ≡ length v + (lo - length v) = omega arith in
    sym (ap (λ m. take width (drop m (v ++ replicate (wide - length v) Zero))) parts ∙ ap (take width) (drop-append-add v (replicate (wide - length v) Zero) (lo - length v) ∙ drop-replicate (lo - length v) (wide - length v) Zero) ∙ take-replicate width (wide - length v - (lo - length v)) Zero (omega arith))

pub slice_of_zeros : (shapes : List Shape) (a lo width of wide : ℕ) (y : Vector) → IsOver shapes (Slice a lo width) → HasShape shapes a (Zext of wide) → width_at shapes of ≤ lo → y ≡ replicate width Zero → Becomes shapes (Slice a lo width) (Const y)
unfolding value_of width_of
slice_of_zeros shapes a lo width of wide y o e above q =
    let is = is_of shapes a (Zext of wide) o.arena o.children e in
    let l : of < length shapes = omega (arith, is.children, o.children) in
    becomes_const shapes (Slice a lo width) y o.arena (ap length q ∙ length-replicate width Zero)
    (λ r h. q ∙ zeros_part (value_at r shapes of) lo width wide (omega (arith, length-value_at r shapes of h o.arena l)) (omega (arith, is.width, o.fits.1)) ∙ ap (λ v. take width (drop lo v)) (sym (is.value r)))

pub ruleset slice_laws = (slice_of_all, slice_of_const, slice_of_zeros, const_width)

-- ---- concatenations

pub part_within : (shapes : List Shape) (k of lo width : ℕ) → IsArena shapes → k < length shapes → HasShape shapes k (Slice of lo width) → lo + width ≤ 128
part_within shapes k of lo width i l e =
    let is = is_of shapes k (Slice of lo width) i l e in
    omega (arith, is.fits.1, is.children, i.most of (omega (arith, is.children)))

together : (v : Vector) (lo wide width : ℕ) → take (wide + width) (drop lo v) ≡ take wide (drop lo v) ++ take width (drop (lo + wide) v)
together v lo wide width =
    take-add wide width (drop lo v) ∙ ap (λ u. take wide (drop lo v) ++ take width u) (drop-drop wide lo v)

pub joined_over : (shapes : List Shape) (high low of start width lo wide : ℕ) → IsOver shapes (Binary Concat high low) → HasShape shapes high (Slice of start width) → HasShape shapes low (Slice of lo wide) → lo + wide ≡ start → IsOver shapes (Slice of lo (wide + width))
joined_over shapes high low of start width lo wide o e d next =
    let above = is_of shapes high (Slice of start width) o.arena o.children.0 e in
    let below = is_of shapes low (Slice of lo wide) o.arena o.children.1 d in
    record {
      arena = o.arena;
      children = omega (arith, below.children, o.children.1);
      fits = (omega (arith, below.fits.0), omega (arith, above.fits.1));
    }

pub joined : (shapes : List Shape) (high low of start width lo wide : ℕ) (t : Shape) → IsOver shapes (Binary Concat high low) → HasShape shapes high (Slice of start width) → HasShape shapes low (Slice of lo wide) → lo + wide ≡ start → Becomes shapes (Slice of lo (wide + width)) t → Becomes shapes (Binary Concat high low) t
unfolding value_of width_of each_variable_of
joined shapes high low of start width lo wide t o e d next to =
    let above = is_of shapes high (Slice of start width) o.arena o.children.0 e in
    let below = is_of shapes low (Slice of lo wide) o.arena o.children.1 d in
    becomes_as shapes (Binary Concat high low) (Slice of lo (wide + width)) t to (omega (arith, above.width, below.width))
    (λ r h. together (value_at r shapes of) lo wide width ∙ ap (λ n. take wide (drop lo (value_at r shapes of)) ++ take width (drop n (value_at r shapes of))) next ∙ ap (λ u. u ++ take width (drop start (value_at r shapes of))) (sym (below.value r)) ∙ ap (λ u. value_at r shapes low ++ u) (sym (above.value r)))
    (λ p m. sym (below.variables p) ∙ right_of _ _ m)

-- ---- extensions

extended_none : (v : Vector) (width : ℕ) (b : Bit) → length v ≡ width → v ≡ v ++ replicate (width - length v) b
extended_none v width b e =
    let none : width - length v ≡ 0 = omega arith in
    sym (ap (λ n. v ++ replicate n b) none ∙ append-nil v)

extended_twice : (v : Vector) (wide width : ℕ) (b : Bit) → length v ≤ wide → wide ≤ width → v ++ replicate (width - length v) b ≡ (v ++ replicate (wide - length v) b) ++ replicate (width - length (v ++ replicate (wide - length v) b)) b
extended_twice v wide width b h g =
    let long : length (v ++ replicate (wide - length v) b) ≡ wide = omega (arith, length-append v (replicate (wide - length v) b), length-replicate (wide - length v) b) in
    let all : width - length v ≡ (wide - length v) + (width - length (v ++ replicate (wide - length v) b)) = omega arith in
    ap (λ n. v ++ replicate n b) all ∙ ap (λ xs. v ++ xs) (sym (replicate-append-replicate (wide - length v) (width - length (v ++ replicate (wide - length v) b)) b)) ∙ sym (append_assoc v (replicate (wide - length v) b) (replicate (width - length (v ++ replicate (wide - length v) b)) b))

pub zext_of_all : (shapes : List Shape) (a width : ℕ) (t : Shape) → IsOver shapes (Zext a width) → width ≡ width_at shapes a → HasShape shapes a t → Becomes shapes (Zext a width) t
unfolding value_of width_of each_variable_of
zext_of_all shapes a width t o all e =
    becomes_node shapes (Zext a width) a t o.arena o.children e (sym all)
    (λ r h. extended_none (value_at r shapes a) width Zero (length-value_at r shapes a h o.arena o.children ∙ sym all))
    (λ p m. m)

pub zext_of_const : (shapes : List Shape) (a width : ℕ) (v y : Vector) → IsOver shapes (Zext a width) → HasShape shapes a (Const v) → y ≡ zext_of v width → Becomes shapes (Zext a width) (Const y)
unfolding value_of width_of
zext_of_const shapes a width v y o e q =
    becomes_const shapes (Zext a width) y o.arena (ap length q ∙ length-zext_of v width (omega (arith, o.fits.0, const_width shapes a v o.arena o.children e)))
    (λ r h. q ∙ ap (λ x. zext_of x width) (sym (const_value r shapes a v o.arena o.children e)))

pub zext_of_zext : (shapes : List Shape) (a width of wide : ℕ) → IsOver shapes (Zext a width) → HasShape shapes a (Zext of wide) → Becomes shapes (Zext a width) (Zext of width)
unfolding value_of width_of each_variable_of Becomes
zext_of_zext shapes a width of wide o e =
    let is = is_of shapes a (Zext of wide) o.arena o.children e in
    let l : of < length shapes = omega (arith, is.children, o.children) in
    record {
      over = record { arena = o.arena; children = l; fits = (omega (arith, is.fits.0, is.width, o.fits.0), o.fits.1) };
      width = refl;
      value = λ r h. extended_twice (value_at r shapes of) wide width Zero (omega (arith, is.fits.0, length-value_at r shapes of h o.arena l)) (omega (arith, is.width, o.fits.0)) ∙ ap (λ v. zext_of v width) (sym (is.value r));
      mentions = λ p m. sym (is.variables p) ∙ m;
    }

pub ruleset zext_laws = (zext_of_all, zext_of_const, zext_of_zext, const_width)

pub sext_of_all : (shapes : List Shape) (a width : ℕ) (t : Shape) → IsOver shapes (Sext a width) → width ≡ width_at shapes a → HasShape shapes a t → Becomes shapes (Sext a width) t
unfolding value_of width_of each_variable_of
sext_of_all shapes a width t o all e =
    becomes_node shapes (Sext a width) a t o.arena o.children e (sym all)
    (λ r h. extended_none (value_at r shapes a) width (top (value_at r shapes a)) (length-value_at r shapes a h o.arena o.children ∙ sym all))
    (λ p m. m)

pub sext_of_const : (shapes : List Shape) (a width : ℕ) (v y : Vector) → IsOver shapes (Sext a width) → HasShape shapes a (Const v) → y ≡ sext_of v width → Becomes shapes (Sext a width) (Const y)
unfolding value_of width_of
sext_of_const shapes a width v y o e q =
    becomes_const shapes (Sext a width) y o.arena (ap length q ∙ length-sext_of v width (omega (arith, o.fits.0, const_width shapes a v o.arena o.children e)))
    (λ r h. q ∙ ap (λ x. sext_of x width) (sym (const_value r shapes a v o.arena o.children e)))

-- copies of the top bit above a vector leave the top bit
same_top : (v : Vector) (n : ℕ) → top (v ++ replicate n (top v)) ≡ top v
same_top v zero = ap top (append-nil v)
same_top v (suc n) =
    let long : length (v ++ replicate (suc n) (top v)) ≡ length v + suc n = length-append v (replicate (suc n) (top v)) ∙ ap (λ k. length v + k) (length-replicate (suc n) (top v)) in
    let last : length (v ++ replicate (suc n) (top v)) - 1 ≡ length v + n = omega arith in
    let within : length v + n - length v < suc n = omega arith in
    ap (λ k. get_or (v ++ replicate (suc n) (top v)) k Zero) last ∙ get_or-append_right v (replicate (suc n) (top v)) (length v) (length v + n) Zero refl (omega arith) ∙ get_or-replicate (suc n) (length v + n - length v) (top v) Zero within

sext_twice : (v : Vector) (wide width : ℕ) → length v ≤ wide → wide ≤ width → sext_of v width ≡ sext_of (sext_of v wide) width
sext_twice v wide width h g =
    extended_twice v wide width (top v) h g ∙ ap (λ b. sext_of v wide ++ replicate (width - length (sext_of v wide)) b) (sym (same_top v (wide - length v)))

pub sext_of_sext : (shapes : List Shape) (a width of wide : ℕ) → IsOver shapes (Sext a width) → HasShape shapes a (Sext of wide) → Becomes shapes (Sext a width) (Sext of width)
unfolding value_of width_of each_variable_of Becomes
sext_of_sext shapes a width of wide o e =
    let is = is_of shapes a (Sext of wide) o.arena o.children e in
    let l : of < length shapes = omega (arith, is.children, o.children) in
    record {
      over = record { arena = o.arena; children = l; fits = (omega (arith, is.fits.0, is.width, o.fits.0), o.fits.1) };
      width = refl;
      value = λ r h. sext_twice (value_at r shapes of) wide width (omega (arith, is.fits.0, length-value_at r shapes of h o.arena l)) (omega (arith, is.width, o.fits.0)) ∙ ap (λ v. sext_of v width) (sym (is.value r));
      mentions = λ p m. sym (is.variables p) ∙ m;
    }

pub ruleset sext_laws = (sext_of_all, sext_of_const, sext_of_sext, const_width)
