-- Sound layouts.
use Rattle.std.proofs.Common.{◌≡◌, ℕ, zero, suc, ◌+◌, ◌*◌, ◌≤◌, min, Bool, List, [], ◌∷◌, refl, sym, ap, ◌∙◌, arith, ℤ, IsTrue, subst, All, suc-mul, Bor, None, unsigned_abs}
use Rattle.std.proofs.lemmas.Int.{ints, to_z-of_z}
use Rattle.std.proofs.lemmas.Bool.Decides.{nat_tests}
use mir.Syntax.{w64}
use mir.Val.{to_z, of_z, SFits}
use Rattle.sv_names.specs.declared.cursor.Each.{Each}
use Rattle.sv_names.specs.declared.cursor.Each.TheVariants.{Bit, Of}
use Rattle.sv_names.specs.Cursors.{RowIsSound, EachIsSound, each_is, member_of, IsNoRow}
use Rattle.sv_names.specs.declared.layout.Layout.{Layout}
use Rattle.sv_names.specs.declared.layout.Form.{Form, Scalar, Dim', Members', end_of-Layout, more_of-Layout, end_of-Form-Members-0-1, more_of-Form-Members-0-1}
use Rattle.std.specs.List.{AllByRecursion}
use Rattle.sv_names.specs.declared.layout.Field.{Field}
use Rattle.sv_names.specs.declared.layout.Form.TheVariants as f
use Rattle.std.proofs.lemmas.List.Elements.{All-from_recursion}
use Rattle.sv_meaning.specs.Meanings.{is_bound}
use Rattle.sv_names.specs.declared.layout.Form.TheBlock.{shape-the_row-Layout-0, hidden-the_row-Layout-0, shape-the_row-Field-1, hidden-the_row-Field-1, shape-the_row-Form-Members-0-1-2, hidden-the_row-Form-Members-0-1-2}
use Rattle.sv_names.specs.Kinds.{form_is, members_are, members_of, MembersAreSound, FieldIsSound, layout_is, IsWidth, HasSize, FormIsSound, IsSound}
use Rattle.sv_meaning.specs.Layouts as m

form_size : (w : ℕ) (s : Bool) (d : ℕ) (x : Form) → FormIsSound w s d x → HasSize w d (form_is s x)
form_size w s d Scalar h = h
form_size w s d (Dim' l r t (more_of-Layout v each e form end_of-Layout)) h = h.0
form_size w s d (Members' t (more_of-Form-Members-0-1 n all end_of-Form-Members-0-1)) h = h.0

pub sound_size : (x : Layout) → IsSound x → HasSize x.width x.depth (layout_is x)
sound_size x h = form_size x.width x.signed x.depth x.form h

pub sound_width : (x : Layout) → IsSound x → IsWidth x.width (layout_is x)
sound_width x h = (sound_size x h).0

pub row_members : (all : List Field) → members_are (hidden-the_row-Field-1 all) ≡ members_of all
unfolding shape-the_row-Field-1 hidden-the_row-Field-1 denote.Hole.Carrier.hidden
row_members [] = refl
row_members (f ∷ all) = ap (m.member f.name (layout_is f.layout)) (row_members all)

pub row_sound : (all : List Field) → MembersAreSound (hidden-the_row-Field-1 all) → AllByRecursion FieldIsSound all
unfolding shape-the_row-Field-1 hidden-the_row-Field-1 denote.Hole.Carrier.hidden
row_sound [] h = h
row_sound (f ∷ all) h = (h.0, row_sound all h.1)

pub sound_is : (x : Layout) → IsSound x → x.width ≡ m.width (layout_is x)
sound_is x h = (sound_width x h).0

pub sound_some : (x : Layout) → IsSound x → 1 ≤ x.width
sound_some x h = (sound_width x h).1

pub sound_most : (x : Layout) → IsSound x → x.width ≤ 128
sound_most x h = (sound_width x h).2

pub sound_depth : (x : Layout) → IsSound x → x.depth ≡ min 1000 (m.depth (layout_is x))
sound_depth x h = (sound_size x h).1

pub sign_is : (x : Layout) → x.signed ≡ m.is_signed (layout_is x)
sign_is x = form_sign x.signed x.form
  where
    form_sign : (s : Bool) (f : Form) → s ≡ m.is_signed (form_is s f)
    form_sign s Scalar = refl
    form_sign s (Dim' l r t (more_of-Layout v each e form end_of-Layout)) = refl
    form_sign s (Members' t (more_of-Form-Members-0-1 n all end_of-Form-Members-0-1)) = refl

pub some_bits : (n w : ℕ) → 1 ≤ n → 1 ≤ w → 1 ≤ n * w
some_bits (suc n) w h k = let e : suc n * w ≡ n * w + w = suc-mul n w in omega arith
some_bits zero w h k = absurd (omega arith)

-- ---- layouts as code takes them apart

pub row_of : (x each : Layout) (l r : ℤ) → x.form ≡ f.Dim l r each → layout_is x ≡ m.dim (m.is_signed (layout_is x)) l r (layout_is each)
unfolding shape-the_row-Layout-0 hidden-the_row-Layout-0 denote.Hole.Carrier.hidden
row_of x each l r h = rw h refl

row_sound_of : (x each : Layout) (l r : ℤ) → IsSound x → x.form ≡ f.Dim l r each → IsSound each × IsTrue (is_bound l) × IsTrue (is_bound r)
unfolding shape-the_row-Layout-0 hidden-the_row-Layout-0 denote.Hole.Carrier.hidden
row_sound_of x each l r k h = let g = subst (FormIsSound x.width x.signed x.depth) h k in (g.3, g.1, g.2)

pub row_each : (x each : Layout) (l r : ℤ) → IsSound x → x.form ≡ f.Dim l r each → IsSound each
row_each x each l r k h = (row_sound_of x each l r k h).0

pub row_left : (x each : Layout) (l r : ℤ) → IsSound x → x.form ≡ f.Dim l r each → IsTrue (is_bound l)
row_left x each l r k h = (row_sound_of x each l r k h).1

pub row_right : (x each : Layout) (l r : ℤ) → IsSound x → x.form ≡ f.Dim l r each → IsTrue (is_bound r)
row_right x each l r k h = (row_sound_of x each l r k h).2

pub fields_of : (x : Layout) (all : List Field) → x.form ≡ f.Members all → layout_is x ≡ m.struct (m.is_signed (layout_is x)) (members_of all)
unfolding shape-the_row-Field-1 hidden-the_row-Field-1 shape-the_row-Form-Members-0-1-2 hidden-the_row-Form-Members-0-1-2 denote.Hole.Carrier.hidden
fields_of x all h = rw h (ap (m.struct x.signed) (row_members all))

pub no_row : (x : Layout) (all : List Field) → x.form ≡ f.Members all → IsNoRow (layout_is x)
no_row x all h = subst IsNoRow (sym (fields_of x all h)) tt

fields_sound : (x : Layout) (all : List Field) → IsSound x → x.form ≡ f.Members all → (x.width ≡ m.width_all (members_of all)) × All FieldIsSound all
unfolding shape-the_row-Field-1 hidden-the_row-Field-1 shape-the_row-Form-Members-0-1-2 hidden-the_row-Form-Members-0-1-2 denote.Hole.Carrier.hidden
fields_sound x all k h = let g = subst (FormIsSound x.width x.signed x.depth) h k in (g.0.0.0 ∙ ap m.width_all (row_members all), All-from_recursion FieldIsSound all (row_sound all g.1))

pub fields_width : (x : Layout) (all : List Field) → IsSound x → x.form ≡ f.Members all → x.width ≡ m.width_all (members_of all)
fields_width x all k h = (fields_sound x all k h).0

pub fields_all : (x : Layout) (all : List Field) → IsSound x → x.form ≡ f.Members all → All FieldIsSound all
fields_all x all k h = (fields_sound x all k h).1

pub scalar_of : (x : Layout) → x.form ≡ f.Scalar → layout_is x ≡ m.scalar (m.is_signed (layout_is x))
scalar_of x h = rw h refl

-- ---- signed numbers as code holds them

pub same_bound : (i : ℤ) → IsTrue (is_bound i) → to_z w64 (of_z w64 i) ≡ i
same_bound i h = to_z-of_z w64 i (bound_fits i h)
  where
    bound_fits : (z : ℤ) → IsTrue (is_bound z) → SFits w64 z
    bound_fits z k = grind (arith, ints, nat_tests)

pub same_small : (i : ℤ) → unsigned_abs i ≤ 1000 → to_z w64 (of_z w64 i) ≡ i
same_small i h = to_z-of_z w64 i (small_fits i h)
  where
    small_fits : (z : ℤ) → unsigned_abs z ≤ 1000 → SFits w64 z
    small_fits z k = grind (arith, ints, nat_tests)

pub row_is_sound : (x each : Layout) (l r : ℤ) (at : Bor Layout) → IsSound x → x.form ≡ f.Dim l r each → at.now ≡ each →
    RowIsSound (record { left = to_z w64 (of_z w64 l); right = to_z w64 (of_z w64 r); each = Of at })
row_is_sound x each l r at k h e = record {
  each = subst IsSound (sym e) (row_each x each l r k h);
  left = let b = row_left x each l r k h in subst (λ (z : ℤ). IsTrue (is_bound z)) (sym (same_bound l b)) b;
  right = let b = row_right x each l r k h in subst (λ (z : ℤ). IsTrue (is_bound z)) (sym (same_bound r b)) b;
}

pub no_member : (x : Layout) (n : List ℕ) → x.form ≡ f.Scalar → None ≡ member_of n (layout_is x)
no_member x n h = ap (member_of n) (sym (scalar_of x h))

pub no_member_in_row : (x each : Layout) (l r : ℤ) (n : List ℕ) → x.form ≡ f.Dim l r each → None ≡ member_of n (layout_is x)
no_member_in_row x each l r n h = ap (member_of n) (sym (row_of x each l r h))

pub each_some : (e : Each) → EachIsSound e → 1 ≤ m.width (each_is e)
each_some Bit h = omega arith
each_some (Of x) h = let i = sound_is x.now h in let s = sound_some x.now h in omega arith

pub each_most : (e : Each) → EachIsSound e → m.width (each_is e) ≤ 128
each_most Bit h = omega arith
each_most (Of x) h = let i = sound_is x.now h in let s = sound_most x.now h in omega arith
