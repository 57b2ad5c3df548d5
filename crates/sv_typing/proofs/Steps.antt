-- One select, and the pick that stands for it.
use Rattle.std.proofs.Common.{◌≡◌, ℕ, zero, suc, Bool, true, false, not, List, Option, Some, None, refl, sym, ap, ◌∙◌, subst, arith, ℤ, pos, ◌+ℤ◌, ◌-ℤ◌, ◌*ℤ◌, neg_ℤ, if◌then◌else◌}
use Rattle.std.proofs.lemmas.Int.{ints}
use lib.IntN.{*ℤ_comm, suc_ℤ-*ℤ, *ℤ-zero}
use Rattle.std.specs.List.{Contains}
use Rattle.fourvec.specs.declared.Bit.{Bit}
use Rattle.fourvec.specs.declared.Spot.{Spot}
use Rattle.fourvec.specs.Bits.{is_known}
use Rattle.fourvec.specs.Spots as spots
use Rattle.sv_outside.specs.declared.refusal.Refusal.{Refusal}
use Rattle.sv_outside.specs.declared.refusal.Place.{Place}
use Rattle.sv_meaning.specs.Faults.{Faults, bad_select}
use Rattle.sv_meaning.specs.Layouts.{Name, Layout, scalar, dim, struct, width, member_in, goes_down, place_of, Read}
use Rattle.sv_meaning.specs.Meanings.{Meaning, to_member, to_index, step_faults, known_place, whole, member_part, member_faults}
use Rattle.sv_typed.specs.declared.tree.PickPlace.{PickPlace}
use Rattle.sv_typed.specs.declared.tree.PickPlace.TheVariants as place
use Rattle.sv_typed.specs.declared.tree.PickPlace.TheBlock.{shape-the_row-Typed-2, hidden-the_row-Typed-2}
use Rattle.sv_typed.specs.declared.tree.Typed.{Typed}
use Rattle.sv_typed.specs.Typed as t
use Rattle.sv_names.specs.declared.cursor.Row.{Row}
use Rattle.sv_names.specs.declared.cursor.Part as c
use Rattle.sv_names.specs.Kinds.{layout_is, IsSound}
use Rattle.sv_names.specs.Cursors.{each_is, row_is, IsNoRow, part_is, member_of, RowIsSound}
use Rattle.sv_typing.specs.Judging.{IsTyped}
use Rattle.sv_typing.specs.Picks.{Picks, spot_of}
use Rattle.sv_names.proofs.Sound.{sound_is, sound_some, sound_most, each_some, each_most}
use Rattle.sv_typing.proofs.Lists.{in_left, in_right}

-- ---- products of whole numbers

times_suc : (a : ℤ) (w : ℕ) → a *ℤ pos (suc w) ≡ a *ℤ pos w +ℤ a
times_suc a w = *ℤ_comm a (pos (suc w)) ∙ suc_ℤ-*ℤ (pos w) a ∙ ap (λ x. x +ℤ a) (*ℤ_comm (pos w) a)

pub times_sum : (a b : ℤ) (w : ℕ) → (a +ℤ b) *ℤ pos w ≡ a *ℤ pos w +ℤ b *ℤ pos w
times_sum a b zero = *ℤ-zero (a +ℤ b) ∙ sym (ap (λ x. x +ℤ b *ℤ pos zero) (*ℤ-zero a) ∙ ap (λ x. pos 0 +ℤ x) (*ℤ-zero b))
times_sum a b (suc w) =
    let i = times_sum a b w in let p = times_suc (a +ℤ b) w in let q = times_suc a w in let r = times_suc b w in omega (arith, ints)

times_negated : (a : ℤ) (w : ℕ) → neg_ℤ a *ℤ pos w ≡ neg_ℤ (a *ℤ pos w)
times_negated a zero = *ℤ-zero (neg_ℤ a) ∙ sym (ap neg_ℤ (*ℤ-zero a))
times_negated a (suc w) = let i = times_negated a w in let p = times_suc (neg_ℤ a) w in let q = times_suc a w in omega (arith, ints)

-- ---- members

some_part : (k : Option (ℕ × Layout)) (x : ℕ × Layout) → k ≡ Some x → member_part k ≡ Some (record { layout = x.1; place = λ read. Some (pos x.0) })
some_part k x h = ap member_part h

pub member_picks : (j : Meaning → Faults) (x : Layout) (p : Place) (n : Name) (part : c.Part) (i : ℤ) → Some (part_is part) ≡ member_of n x → IsSound part.layout.now → i ≡ pos part.place →
    Picks j x (to_member p n) (record { width = part.layout.now.width; constant = true; place = place.Fixed i }) (layout_is part.layout.now)
unfolding t.place_in t.place_names t.PlaceIsSound t.PickIsSound
member_picks j (scalar s) p n part i h k e = absurd cc
member_picks j (dim s l r each) p n part i h k e = absurd cc
member_picks j (struct s all) p n part i h k e = record {
  part = record { layout = layout_is part.layout.now; place = λ read. Some (pos part.place) };
  is = some_part _ (part_is part) (sym h);
  layout = refl;
  clear = ap (member_faults p) (sym h);
  width = sym (sound_is part.layout.now k);
  place = λ read. ap Some (sym e);
  constant = refl;
  names = λ m q. absurd (omega (arith, q.1));
  sound = ((sound_some part.layout.now k, sound_most part.layout.now k), tt);
}

none_fault : (p : Place) (o : Option (ℕ × Layout)) → None ≡ o → Contains (member_faults p o) (record { number = bad_select; place = p; count = 0 })
none_fault p None h = (0, omega arith, refl)
none_fault p (Some k) h = absurd cc

pub no_member : (j : Meaning → Faults) (x : Layout) (p : Place) (n : Name) → None ≡ member_of n x → Contains (step_faults j x (to_member p n)) (record { number = bad_select; place = p; count = 0 })
no_member j (scalar s) p n h = (0, omega arith, refl)
no_member j (dim s l r each) p n h = (0, omega arith, refl)
no_member j (struct s all) p n h = none_fault p (member_in n all) h

-- ---- computed places

spot_ring : (d : Bool) (i shift r : ℤ) (w : ℕ) →
    (if d then (i +ℤ shift) -ℤ r else r -ℤ (i +ℤ shift)) *ℤ pos w ≡ (if not d then neg_ℤ i else i) *ℤ pos w +ℤ (if d then shift -ℤ r else r -ℤ shift) *ℤ pos w
spot_ring true i shift r w =
    let e : (i +ℤ shift) -ℤ r ≡ i +ℤ (shift -ℤ r) = omega (arith, ints) in
    ap (λ z. z *ℤ pos w) e ∙ times_sum i (shift -ℤ r) w
spot_ring false i shift r w =
    let e : r -ℤ (i +ℤ shift) ≡ neg_ℤ i +ℤ (r -ℤ shift) = omega (arith, ints) in
    ap (λ z. z *ℤ pos w) e ∙ times_sum (neg_ℤ i) (r -ℤ shift) w

pub spot_at : (row : Row) (s : Bool) (shift : ℤ) (n : ℕ) (a : List Bit) →
    place_of row.left row.right (width (each_is row.each)) (whole s a +ℤ shift) ≡ spots.place_of (spot_of row s shift n) a
unfolding spots.place_of
spot_at row s shift n a = spot_ring (goes_down row.left row.right) (whole s a) shift row.right (width (each_is row.each))

known_at : (b : Bool) (x y : ℤ) → x ≡ y → (if b then Some x else None) ≡ (if b then Some y else None)
known_at true x y h = ap Some h
known_at false x y h = refl

pub moving_place : (m : Meaning) (e : Typed) (f : ℤ → ℤ) (spot : Spot) (read : Read) → t.Stands e m → ((a : List Bit) → f (whole e.signed a) ≡ spots.place_of spot a) →
    known_place f m read ≡ t.place_in (place.Moving e spot) read
unfolding t.place_in t.Stands shape-the_row-Typed-2 hidden-the_row-Typed-2 denote.Hole.Carrier.hidden
moving_place m e f spot read h g =
    ap (λ x. known_place f x read) h.is ∙ known_at (is_known (t.own e read)) _ _ (g (t.own e read))

pub moving_names : (e : Typed) (spot : Spot) → t.place_names (place.Moving e spot) ≡ t.names_of e
unfolding t.place_names shape-the_row-Typed-2 hidden-the_row-Typed-2 denote.Hole.Carrier.hidden
moving_names e spot = refl

pub moving_sound : (e : Typed) (spot : Spot) (w : ℕ) → spot.width ≡ w → t.IsSound e → t.PlaceIsSound w (place.Moving e spot)
unfolding t.PlaceIsSound t.IsSound shape-the_row-Typed-2 hidden-the_row-Typed-2 denote.Hole.Carrier.hidden
moving_sound e spot w h k = (h, k)

-- ---- indices

row_fits : (row : Row) → RowIsSound row → t.IsWidth (width (each_is row.each))
row_fits row h = (each_some row.each h.each, each_most row.each h.each)

pub index_row : (j : Meaning → Faults) (m : Meaning) (s : Bool) (row : Row) (p : Place) (e : Typed) (w : ℕ) (q : PickPlace) (c : Bool) → RowIsSound row → IsTyped m (j m) e → w ≡ width (each_is row.each) →
    q ≡ place.Moving e (spot_of row e.signed (pos 0) w) → c ≡ e.constant → Picks j (row_is s row) (to_index p m) (record { width = w; constant = c; place = q }) (each_is row.each)
unfolding t.Stands t.PickIsSound
index_row j m s row p e w q c h k i g b = record {
  part = record { layout = each_is row.each; place = known_place (place_of row.left row.right (width (each_is row.each))) m };
  is = refl;
  layout = refl;
  clear = k.clear;
  width = sym i;
  place = λ read. moving_place m e (place_of row.left row.right (width (each_is row.each))) (spot_of row e.signed (pos 0) w) read k.stands (λ a. let z : whole e.signed a ≡ whole e.signed a +ℤ pos 0 = omega (arith, ints) in ap (place_of row.left row.right (width (each_is row.each))) z ∙ spot_at row e.signed (pos 0) w a) ∙ ap (λ x. t.place_in x read) (sym g);
  constant = ap (λ x. x.constant) k.stands.is ∙ sym b;
  names = λ n z. k.stands.names n (subst (λ l. Contains l n) (ap t.place_names g ∙ moving_names e _) z);
  sound = (let f = row_fits row h in (omega arith, omega arith), subst (t.PlaceIsSound w) (sym g) (moving_sound e _ w refl k.sound));
}

pub index_picks : (j : Meaning → Faults) (m : Meaning) (x : Layout) (s : Bool) (row : Row) (p : Place) (e : Typed) (w : ℕ) (q : PickPlace) (c : Bool) → x ≡ row_is s row → RowIsSound row → IsTyped m (j m) e → w ≡ width (each_is row.each) →
    q ≡ place.Moving e (spot_of row e.signed (pos 0) w) → c ≡ e.constant → Picks j x (to_index p m) (record { width = w; constant = c; place = q }) (each_is row.each)
index_picks j m x s row p e w q c a h k i g b =
    let P : Layout → Type 0 = λ y. Picks j y (to_index p m) (record { width = w; constant = c; place = q }) (each_is row.each) in
    subst P (sym a) (index_row j m s row p e w q c h k i g b)

pub index_cause : (j : Meaning → Faults) (x : Layout) (p : Place) (m : Meaning) (r : Refusal) → Contains (j m) r → Contains (step_faults j x (to_index p m)) r
index_cause j (scalar s) p m r h = in_left (j m) _ r h
index_cause j (dim s l u each) p m r h = h
index_cause j (struct s all) p m r h = in_left (j m) _ r h

pub no_row_index : (j : Meaning → Faults) (x : Layout) (p : Place) (m : Meaning) → IsNoRow x → Contains (step_faults j x (to_index p m)) (record { number = bad_select; place = p; count = 0 })
no_row_index j (scalar s) p m h = in_right (j m) _ _ (0, omega arith, refl)
no_row_index j (dim s l u each) p m h = absurd h
no_row_index j (struct s all) p m h = in_right (j m) _ _ (0, omega arith, refl)
