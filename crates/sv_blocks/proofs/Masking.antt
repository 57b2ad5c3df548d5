-- Masks of labels.
use Rattle.std.proofs.Common.{◌≡◌, ℕ, ◌-◌, ◌^◌, ◌<◌, ◌≤◌, Bool, true, false, not, ◌&&◌, ◌||◌, List, length, Some, None, refl, sym, ap, ◌∙◌, subst, arith}
use Rattle.std.specs.Int.Bits.{bit_and, bit_or}
use Rattle.fourvec.specs.declared.Bit.{Bit}
use Rattle.fourvec.specs.Bits.{bit_of, planes, up_plane, low_plane, each, eq_of, and_of}
use Rattle.fourvec.proofs.Planes.{has, has-and, has-or, has-not, each-planes, below_128}
use Rattle.fourvec.proofs.Places.{low_ones}
use Rattle.fourvec.proofs.Basic.{low_plane-lt, planes_of}
use Rattle.fourvec.proofs.Tables.{same_on_two}
use Rattle.fourvec.proofs.Widths.{length-each}
use Rattle.sv_meaning.specs.Meanings.{nowhere, literal_value}
use Rattle.sv_meaning.specs.Deeds.{mask_bit, mask, same_value}
use Rattle.sv_literal.specs.declared.meaning.Literal.{Literal as Known}
use Rattle.sv_typed.specs.declared.tree.Typed.{Typed}
use Rattle.sv_typed.specs.declared.tree.TypedForm.{TypedForm, Literal}
use Rattle.sv_typed.specs.declared.tree.TypedForm.TheVariants as f
use Rattle.sv_typed.specs.Typed.{form_worth, worth, form_literal, literal_of}
use Rattle.sv_blocks.specs.Masks.{equal_masked}

-- ---- planes

mask_at : (a b : Bool) → mask_bit (bit_of a b) ≡ bit_of ((a || not b) && true) ((a || not b) && true)
mask_at a b = same_on_two (λ x y. mask_bit (bit_of x y)) (λ x y. bit_of ((x || not y) && true) ((x || not y) && true)) refl a b

has_mask : (u l m w k : ℕ) → l < 2 ^ 128 → m ≡ 2 ^ w - 1 → w ≤ 128 → k < w → has (bit_and (bit_or u (340282366920938463463374607431768211455 - l)) m) k ≡ ((has u k || not (has l k)) && true)
has_mask u l m w k lt e le h =
    has-and (bit_or u (340282366920938463463374607431768211455 - l)) m k
    ∙ ap (λ b. b && has m k) (has-or u (340282366920938463463374607431768211455 - l) k ∙ ap (λ b. has u k || b) (has-not l k lt (omega arith)))
    ∙ ap (λ b. (has u k || not (has l k)) && b) (ap (λ n. has n k) e ∙ low_ones w k h)

masked : (v : List Bit) (m w : ℕ) → w ≡ length v → m ≡ 2 ^ w - 1 → w ≤ 128
    → planes w (bit_and (bit_or (up_plane v) (340282366920938463463374607431768211455 - low_plane v)) m) (bit_and (bit_or (up_plane v) (340282366920938463463374607431768211455 - low_plane v)) m) ≡ each mask_bit v
masked v m w e d le =
    let some = bit_and (bit_or (up_plane v) (340282366920938463463374607431768211455 - low_plane v)) m in
    let small : low_plane v < 2 ^ 128 = below_128 (low_plane v) w (subst (λ n. low_plane v < 2 ^ n) (sym e) (low_plane-lt v)) le in
    sym (ap (each mask_bit) (sym (ap (λ n. planes n (up_plane v) (low_plane v)) e ∙ planes_of v))
    ∙ each-planes mask_bit w (up_plane v) (low_plane v) some some (λ k h.
    mask_at (has (up_plane v) k) (has (low_plane v) k)
    ∙ sym (ap (λ b. bit_of b b) (has_mask (up_plane v) (low_plane v) m w k small d le h))))

pub masked_by : (v : List Bit) (u l m w : ℕ) → u ≡ up_plane v → l ≡ low_plane v → w ≡ length v → m ≡ 2 ^ w - 1 → w ≤ 128
    → planes w (bit_and (bit_or u (340282366920938463463374607431768211455 - l)) m) (bit_and (bit_or u (340282366920938463463374607431768211455 - l)) m) ≡ each mask_bit v
masked_by v u l m w eu el e d le =
    ap (λ x. planes w (bit_and (bit_or x (340282366920938463463374607431768211455 - l)) m) (bit_and (bit_or x (340282366920938463463374607431768211455 - l)) m)) eu
    ∙ ap (λ x. planes w (bit_and (bit_or (up_plane v) (340282366920938463463374607431768211455 - x)) m) (bit_and (bit_or (up_plane v) (340282366920938463463374607431768211455 - x)) m)) el
    ∙ masked v m w e d le

pub mask_long : (v m : List Bit) (w : ℕ) → m ≡ each mask_bit v → length v ≡ w → length m ≡ w
mask_long v m w e d = ap length e ∙ length-each mask_bit v ∙ d

-- ---- labels

no_literal : (x : TypedForm) → ((l : Known) → x ≡ f.Literal l → ⊥) → form_literal x ≡ None
no_literal (Literal l) h = absurd (h l refl)
no_literal x h = refl

literal_worth : (t : Typed) (l : Known) (w : ℕ) (s : Bool) → t.form ≡ f.Literal l → worth t nowhere w s ≡ literal_value l w s
unfolding form_worth
literal_worth t l w s e = ap (λ x. form_worth t.width x nowhere w s) e

pub mask_some : (t : Typed) (l : Known) (z : Bool) (w : ℕ) (s : Bool) (m : List Bit) (a b : List Bit) → t.form ≡ f.Literal l → z ≡ true → m ≡ each mask_bit (worth t nowhere w s) → equal_masked (Some m) a b ≡ same_value z w s (literal_of t) a b
mask_some t l z w s m a b e d is =
    let bits : m ≡ mask w s l = is ∙ ap (each mask_bit) (literal_worth t l w s e) in
    ap (λ x. eq_of (and_of a x) (and_of b x)) bits
    ∙ sym (ap (λ y. same_value y w s (literal_of t) a b) d ∙ ap (λ x. same_value true w s (form_literal x) a b) e)

pub mask_off : (t : Typed) (z : Bool) (w : ℕ) (s : Bool) (a b : List Bit) → z ≡ false → equal_masked None a b ≡ same_value z w s (literal_of t) a b
mask_off t z w s a b d = sym (ap (λ y. same_value y w s (literal_of t) a b) d)

same_none : (z : Bool) (w : ℕ) (s : Bool) (a b : List Bit) → eq_of a b ≡ same_value z w s None a b
same_none true w s a b = refl
same_none false w s a b = refl

pub mask_none : (t : Typed) (z : Bool) (w : ℕ) (s : Bool) (a b : List Bit) → ((l : Known) → t.form ≡ f.Literal l → ⊥) → equal_masked None a b ≡ same_value z w s (literal_of t) a b
mask_none t z w s a b h = same_none z w s a b ∙ sym (ap (λ x. same_value z w s x a b) (no_literal t.form h))
