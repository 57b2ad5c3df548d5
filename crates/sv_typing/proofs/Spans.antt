-- Ranges, and the picks that stand for them.
use Rattle.std.proofs.Common.{◌≡◌, ℕ, ◌-◌, ◌*◌, ◌≤◌, Bool, true, false, ◌&&◌, ◌||◌, not, [], ◌++◌, Some, refl, sym, ap, ◌∙◌, subst, arith, ℤ, pos, ◌+ℤ◌, ◌-ℤ◌, ◌*ℤ◌, nat_abs, int_lt, int_le, if◌then◌else◌}
use Rattle.std.proofs.lemmas.Int.{ints}
use Rattle.std.proofs.lemmas.Bool.Decides.{nat_tests}
use Rattle.std.specs.List.{Contains}
use Rattle.sv_outside.specs.declared.refusal.Refusal.{Refusal}
use Rattle.sv_outside.specs.declared.refusal.Place.{Place}
use Rattle.sv_tree.specs.declared.exprs.RangeMark.{RangeMark}
use Rattle.sv_tree.specs.declared.exprs.RangeMark.TheVariants as mark
use Rattle.sv_meaning.specs.Faults.{Faults, fault_if, or_then, is_clear, bad_width, bad_select}
use Rattle.sv_meaning.specs.Layouts.{Layout, scalar, dim, struct, width, goes_down, place_of, count_between, Read}
use Rattle.sv_meaning.specs.Meanings.{Meaning, to_range, step_in, step_faults, whole, number_of, fixed_faults, is_bound, is_width, elements, lowest, part_if, ranged, range_faults, end_faults, no_faults}
use Rattle.sv_typed.specs.declared.tree.PickPlace.{PickPlace}
use Rattle.sv_typed.specs.declared.tree.PickPlace.TheVariants as place
use Rattle.sv_typed.specs.declared.tree.Typed.{Typed}
use Rattle.sv_typed.specs.Typed as t
use Rattle.sv_names.specs.declared.cursor.Row.{Row}
use Rattle.sv_typing.specs.declared.position.Fixed.{Fixed}
use Rattle.sv_names.specs.Cursors.{each_is, row_is, IsNoRow, RowIsSound}
use Rattle.sv_typing.specs.Judging.{IsTyped, IsFixed}
use Rattle.sv_typing.specs.Picks.{Picks, spot_of}
use Rattle.sv_typing.specs.Ranges.{each_width, is_turned, lowest_of, IsBetween, between_faults, IsMany, many_faults, shift_of, is_to}
use Rattle.sv_typing.proofs.Lists.{contains_left, in_left, in_right, in_first, in_second, both_clear, then_clear, in_fault, no_fault}
use Rattle.sv_names.proofs.Sound.{each_some, some_bits}
use Rattle.sv_typing.proofs.Steps.{spot_at, moving_place, moving_names, moving_sound}

-- ---- causes

pub end_cause : (j : Meaning → Faults) (x : Layout) (p : Place) (m : Meaning) (k : RangeMark) (n : Meaning) (r : Refusal) → Contains (end_faults j m k n) r → Contains (step_faults j x (to_range p m k n)) r
end_cause j (scalar s) p m k n r h = in_left (end_faults j m k n) _ r h
end_cause j (dim s l u each) p m k n r h = in_first (end_faults j m k n) _ r h
end_cause j (struct s all) p m k n r h = in_left (end_faults j m k n) _ r h

pub no_row_range : (j : Meaning → Faults) (x : Layout) (p : Place) (m : Meaning) (k : RangeMark) (n : Meaning) → IsNoRow x → Contains (step_faults j x (to_range p m k n)) (record { number = bad_select; place = p; count = 0 })
no_row_range j (scalar s) p m k n h = in_right (end_faults j m k n) _ _ (0, omega arith, refl)
no_row_range j (dim s l u each) p m k n h = absurd h
no_row_range j (struct s all) p m k n h = in_right (end_faults j m k n) _ _ (0, omega arith, refl)

pub range_cause : (j : Meaning → Faults) (x : Layout) (s : Bool) (row : Row) (p : Place) (m : Meaning) (k : RangeMark) (n : Meaning) (r : Refusal) → x ≡ row_is s row → end_faults j m k n ≡ [] →
    Contains (range_faults p row.left row.right (each_is row.each) m k n) r → Contains (step_faults j x (to_range p m k n)) r
range_cause j x s row p m k n r e c h =
    subst (λ y. Contains (step_faults j y (to_range p m k n)) r) (sym e) (in_second (end_faults j m k n) _ r c h)

pub fixed_ends : (j : Meaning → Faults) (m n : Meaning) (f g : Fixed) → IsFixed m f → IsFixed n g → end_faults j m mark.To n ≡ []
fixed_ends j m n f g h k = both_clear _ _ h.clear k.clear

pub fixed_number : (m : Meaning) (f : Fixed) → IsFixed m f → number_of m ≡ whole f.known.signed f.known.value
fixed_number m f h = ap (λ v. whole m.sign v) h.value ∙ ap (λ s. whole s f.known.value) h.signed

-- ---- why a range of constant bounds is refused

pub far_range : (p : Place) (row : Row) (m n : Meaning) → (is_bound (number_of m) && is_bound (number_of n)) ≡ false →
    Contains (range_faults p row.left row.right (each_is row.each) m mark.To n) (record { number = bad_width; place = p; count = 0 })
far_range p row m n h = in_first _ _ _ (in_fault _ bad_width p (ap not h))

pub between_left : (j : Meaning → Faults) (x : Layout) (p : Place) (m n : Meaning) (r : Refusal) → Contains (fixed_faults m) r → Contains (step_faults j x (to_range p m mark.To n)) r
between_left j x p m n r h = end_cause j x p m mark.To n r (in_left (fixed_faults m) (fixed_faults n) r h)

pub between_right : (j : Meaning → Faults) (x : Layout) (p : Place) (m n : Meaning) (r : Refusal) → Contains (fixed_faults n) r → Contains (step_faults j x (to_range p m mark.To n)) r
between_right j x p m n r h = end_cause j x p m mark.To n r (in_right (fixed_faults m) (fixed_faults n) r h)

pub no_row_between : (j : Meaning → Faults) (x : Layout) (p : Place) (m n : Meaning) → IsNoRow x → Contains (step_faults j x (to_range p m mark.To n)) (record { number = bad_select; place = p; count = 0 })
no_row_between j x p m n h = no_row_range j x p m mark.To n h

false_left : (a b : Bool) → a ≡ false → (a && b) ≡ false
false_left false b h = refl
false_left true b h = cc

false_right : (a b : Bool) → b ≡ false → (a && b) ≡ false
false_right false b h = refl
false_right true b h = h

pub far_left : (j : Meaning → Faults) (x : Layout) (s : Bool) (row : Row) (p : Place) (m n : Meaning) (f g : Fixed) → x ≡ row_is s row → IsFixed m f → IsFixed n g → is_bound (whole f.known.signed f.known.value) ≡ false →
    Contains (step_faults j x (to_range p m mark.To n)) (record { number = bad_width; place = p; count = 0 })
far_left j x s row p m n f g e h k b =
    range_cause j x s row p m mark.To n _ e (fixed_ends j m n f g h k) (far_range p row m n (false_left _ _ (ap is_bound (fixed_number m f h) ∙ b)))

pub far_right : (j : Meaning → Faults) (x : Layout) (s : Bool) (row : Row) (p : Place) (m n : Meaning) (f g : Fixed) → x ≡ row_is s row → IsFixed m f → IsFixed n g → is_bound (whole g.known.signed g.known.value) ≡ false →
    Contains (step_faults j x (to_range p m mark.To n)) (record { number = bad_width; place = p; count = 0 })
far_right j x s row p m n f g e h k b =
    range_cause j x s row p m mark.To n _ e (fixed_ends j m n f g h k) (far_range p row m n (false_right _ _ (ap is_bound (fixed_number n g k) ∙ b)))

-- ---- how many bits

pub elements_width : (k : ℕ) (x : Layout) → 1 ≤ k → width (elements k x) ≡ k * width x
elements_width k x h = ap (λ n. n * width x) (counted k h)
  where
    counted : (n : ℕ) → 1 ≤ n → count_between (pos (n - 1)) (pos 0) ≡ n
    counted n e = omega (arith, ints)

width_test : (n : ℕ) → 1 ≤ n → n ≤ 128 → is_width n ≡ true
width_test n h k = grind (arith, nat_tests)

-- ---- constant bounds

-- what stands against bounds that are these numbers
to_faults : Place → Row → ℤ → ℤ → Faults
to_faults p row a b = or_then (fault_if (not (is_bound a && is_bound b)) bad_width p) (between_faults p row a b)

both_bounds : (a b : Bool) → a ≡ true → b ≡ true → (a && b) ≡ true
both_bounds true b h k = k
both_bounds false b h k = cc

range_of_bounds : (p : Place) (row : Row) (m n : Meaning) (a b : ℤ) → number_of m ≡ a → number_of n ≡ b → range_faults p row.left row.right (each_is row.each) m mark.To n ≡ to_faults p row a b
unfolding to_faults
range_of_bounds p row m n a b h k = ap (λ x. to_faults p row x (number_of n)) h ∙ ap (to_faults p row a) k

between_clear : (p : Place) (row : Row) (a b : ℤ) (k : ℕ) → RowIsSound row → is_bound a ≡ true → is_bound b ≡ true → IsBetween row a b k → to_faults p row a b ≡ []
unfolding to_faults
between_clear p row a b k h d e g =
    let w : 1 ≤ k * each_width row = some_bits k (each_width row) g.some (each_some row.each h.each) in
    then_clear _ _ (no_fault _ bad_width p (ap not (both_bounds _ _ d e)))
    (then_clear _ _ (no_fault _ bad_select p (ap not g.along)) (no_fault _ bad_width p (ap not (ap (λ x. is_width (x * each_width row)) g.counted ∙ width_test _ w g.most))))

pub between_range : (p : Place) (row : Row) (m n : Meaning) (a b : ℤ) (r : Refusal) → number_of m ≡ a → number_of n ≡ b → is_bound a ≡ true → is_bound b ≡ true → Contains (between_faults p row a b) r →
    Contains (range_faults p row.left row.right (each_is row.each) m mark.To n) r
unfolding to_faults
between_range p row m n a b r h k d e c =
    subst (λ f. Contains f r) (sym (range_of_bounds p row m n a b h k)) (in_second _ _ r (no_fault _ bad_width p (ap not (both_bounds _ _ d e))) c)

pub between_fault : (j : Meaning → Faults) (x : Layout) (s : Bool) (row : Row) (p : Place) (m n : Meaning) (f g : Fixed) (a b : ℤ) (r : Refusal) → x ≡ row_is s row → IsFixed m f → IsFixed n g → a ≡ whole f.known.signed f.known.value → b ≡ whole g.known.signed g.known.value →
    is_bound a ≡ true → is_bound b ≡ true → Contains (between_faults p row a b) r → Contains (step_faults j x (to_range p m mark.To n)) r
between_fault j x s row p m n f g a b r e h k u v c d i =
    range_cause j x s row p m mark.To n r e (fixed_ends j m n f g h k) (between_range p row m n a b r (fixed_number m f h ∙ sym u) (fixed_number n g k ∙ sym v) c d i)

lowest_ring : (row : Row) (a b : ℤ) → lowest row.left row.right (each_width row) a b ≡ lowest_of row a b *ℤ pos (each_width row)
unfolding is_turned
lowest_ring row a b = go (int_lt a b && int_le row.left row.right) (goes_down row.left row.right)
  where
    go : (c d : Bool) → (if c then (row.right -ℤ b) *ℤ pos (each_width row) else (if d then b -ℤ row.right else row.right -ℤ b) *ℤ pos (each_width row)) ≡ (if c || not d then row.right -ℤ b else b -ℤ row.right) *ℤ pos (each_width row)
    go true d = refl
    go false true = refl
    go false false = refl

-- where the part of constant bounds begins
part_is : (p : Place) (s : Bool) (row : Row) (m : Meaning) (k : RangeMark) (n : Meaning) → or_then (end_faults no_faults m k n) (range_faults p row.left row.right (each_is row.each) m k n) ≡ [] →
    step_in (row_is s row) (to_range p m k n) ≡ Some (ranged row.left row.right (each_is row.each) m k n)
part_is p s row m k n h = ap (λ f. part_if (is_clear f) (ranged row.left row.right (each_is row.each) m k n)) h

no_place_name : {A : Type 0} (x : A) → Contains [] x → ⊥
no_place_name x h = omega (arith, h.1)

between_row : (j : Meaning → Faults) (m n : Meaning) (s : Bool) (row : Row) (p : Place) (f g : Fixed) (a b : ℤ) (k w : ℕ) (q : PickPlace) (c : Bool) → RowIsSound row → IsFixed m f → IsFixed n g → number_of m ≡ a → number_of n ≡ b →
    is_bound a ≡ true → is_bound b ≡ true → IsBetween row a b k → q ≡ place.Fixed (lowest_of row a b *ℤ pos (each_width row)) → w ≡ k * each_width row → c ≡ (f.constant && g.constant) →
    Picks j (row_is s row) (to_range p m mark.To n) (record { width = w; constant = c; place = q }) (elements k (each_is row.each))
unfolding t.place_in t.place_names t.PlaceIsSound t.PickIsSound
between_row j m n s row p f g a b k w q c sound h l na nb da db between place width constant =
    let clear = range_of_bounds p row m n a b na nb ∙ between_clear p row a b k sound da db between in
    let some = some_bits k (each_width row) between.some (each_some row.each sound.each) in
    record {
      part = ranged row.left row.right (each_is row.each) m mark.To n;
      is = part_is p s row m mark.To n (then_clear _ _ (both_clear _ _ h.clear l.clear) clear);
      layout = ap (λ x. elements (count_between x (number_of n)) (each_is row.each)) na ∙ ap (λ x. elements (count_between a x) (each_is row.each)) nb ∙ ap (λ x. elements x (each_is row.each)) between.counted;
      clear = then_clear _ _ (both_clear _ _ h.clear l.clear) clear;
      width = elements_width k (each_is row.each) between.some ∙ sym width;
      place = λ read. ap Some (ap (λ x. lowest row.left row.right (each_width row) x (number_of n)) na ∙ ap (λ x. lowest row.left row.right (each_width row) a x) nb ∙ lowest_ring row a b) ∙ ap (λ z. t.place_in z read) (sym place);
      constant = ap (λ x. x && n.constant) h.constant ∙ ap (λ x. f.constant && x) l.constant ∙ sym constant;
      names = λ x o. absurd (no_place_name x (subst (λ z. Contains (t.place_names z) x) place o));
      sound = ((omega arith, let z = between.most in omega arith), subst (t.PlaceIsSound w) (sym place) tt);
    }

pub between_picks : (j : Meaning → Faults) (x : Layout) (m n : Meaning) (s : Bool) (row : Row) (p : Place) (f g : Fixed) (a b : ℤ) (k w : ℕ) (q : PickPlace) (c : Bool) → x ≡ row_is s row → RowIsSound row → IsFixed m f → IsFixed n g → number_of m ≡ a → number_of n ≡ b →
    is_bound a ≡ true → is_bound b ≡ true → IsBetween row a b k → q ≡ place.Fixed (lowest_of row a b *ℤ pos (each_width row)) → w ≡ k * each_width row → c ≡ (f.constant && g.constant) →
    Picks j x (to_range p m mark.To n) (record { width = w; constant = c; place = q }) (elements k (each_is row.each))
between_picks j x m n s row p f g a b k w q c e sound h l na nb da db between at width constant =
    subst (λ y. Picks j y (to_range p m mark.To n) (record { width = w; constant = c; place = q }) (elements k (each_is row.each))) (sym e)
    (between_row j m n s row p f g a b k w q c sound h l na nb da db between at width constant)

-- ---- widths

many_of : (p : Place) (row : Row) (m : Meaning) (k : RangeMark) (n : Meaning) → is_to k ≡ false → range_faults p row.left row.right (each_is row.each) m k n ≡ many_faults p row (number_of n)
many_of p row m mark.To n h = cc
many_of p row m mark.Up n h = refl
many_of p row m mark.Down n h = refl

pub many_range : (p : Place) (row : Row) (m : Meaning) (k : RangeMark) (n : Meaning) (r : Refusal) → is_to k ≡ false → Contains (many_faults p row (number_of n)) r → Contains (range_faults p row.left row.right (each_is row.each) m k n) r
many_range p row m k n r h c = subst (λ f. Contains f r) (sym (many_of p row m k n h)) c

pub many_ends : (j : Meaning → Faults) (m : Meaning) (k : RangeMark) (n : Meaning) → is_to k ≡ false → end_faults j m k n ≡ j m ++ fixed_faults n
many_ends j m mark.To n h = cc
many_ends j m mark.Up n h = refl
many_ends j m mark.Down n h = refl

pub many_left : (j : Meaning → Faults) (x : Layout) (p : Place) (m : Meaning) (k : RangeMark) (n : Meaning) (r : Refusal) → is_to k ≡ false → Contains (j m) r → Contains (step_faults j x (to_range p m k n)) r
many_left j x p m k n r e h = end_cause j x p m k n r (subst (λ f. Contains f r) (sym (many_ends j m k n e)) (in_left (j m) (fixed_faults n) r h))

pub many_right : (j : Meaning → Faults) (x : Layout) (p : Place) (m : Meaning) (k : RangeMark) (n : Meaning) (r : Refusal) → is_to k ≡ false → Contains (fixed_faults n) r → Contains (step_faults j x (to_range p m k n)) r
many_right j x p m k n r e h = end_cause j x p m k n r (subst (λ f. Contains f r) (sym (many_ends j m k n e)) (in_right (j m) (fixed_faults n) r h))

pub many_fault : (j : Meaning → Faults) (x : Layout) (s : Bool) (row : Row) (p : Place) (m : Meaning) (k : RangeMark) (n : Meaning) (e : Typed) (f : Fixed) (r : Refusal) → x ≡ row_is s row → is_to k ≡ false → IsTyped m (j m) e → IsFixed n f →
    Contains (many_faults p row (whole f.known.signed f.known.value)) r → Contains (step_faults j x (to_range p m k n)) r
many_fault j x s row p m k n e f r a b h i c =
    range_cause j x s row p m k n r a (many_ends j m k n b ∙ both_clear _ _ h.clear i.clear)
    (many_range p row m k n r b (subst (λ z. Contains (many_faults p row z) r) (sym (fixed_number n f i)) c))

count_test : (k : ℕ) → 1 ≤ k → int_lt (pos 0) (pos k) ≡ true
count_test k h = grind (arith, nat_tests)

many_clear : (p : Place) (row : Row) (i : ℤ) (k : ℕ) → RowIsSound row → IsMany row i k → many_faults p row i ≡ []
many_clear p row i k h g =
    let w : 1 ≤ k * each_width row = some_bits k (each_width row) g.some (each_some row.each h.each) in
    ap (many_faults p row) g.number ∙ then_clear _ _ (no_fault _ bad_select p (ap not (count_test k g.some))) (no_fault _ bad_width p (ap not (width_test _ w g.most)))

ranged_layout : (row : Row) (m : Meaning) (k : RangeMark) (n : Meaning) (i : ℕ) → is_to k ≡ false → number_of n ≡ pos i → (ranged row.left row.right (each_is row.each) m k n).layout ≡ elements i (each_is row.each)
ranged_layout row m mark.To n i h e = cc
ranged_layout row m mark.Up n i h e = ap (λ x. elements (nat_abs x) (each_is row.each)) e
ranged_layout row m mark.Down n i h e = ap (λ x. elements (nat_abs x) (each_is row.each)) e

up_shift : (d : Bool) (i x : ℤ) (k : ℕ) → x ≡ pos k → (if d then i else i +ℤ (x -ℤ pos 1)) ≡ i +ℤ shift_of mark.Up d (pos k)
up_shift true i x k e = omega (arith, ints)
up_shift false i x k e = omega (arith, ints)

down_shift : (d : Bool) (i x : ℤ) (k : ℕ) → x ≡ pos k → (if d then i -ℤ (x -ℤ pos 1) else i) ≡ i +ℤ shift_of mark.Down d (pos k)
down_shift true i x k e = omega (arith, ints)
down_shift false i x k e = omega (arith, ints)

ranged_place : (row : Row) (m : Meaning) (k : RangeMark) (n : Meaning) (e : Typed) (i w : ℕ) (read : Read) → is_to k ≡ false → number_of n ≡ pos i → t.Stands e m →
    (ranged row.left row.right (each_is row.each) m k n).place read ≡ t.place_in (place.Moving e (spot_of row e.signed (shift_of k (goes_down row.left row.right) (pos i)) w)) read
ranged_place row m mark.To n e i w read h z s = cc
ranged_place row m mark.Up n e i w read h z s =
    moving_place m e (λ x. place_of row.left row.right (each_width row) (if goes_down row.left row.right then x else x +ℤ (number_of n -ℤ pos 1))) _ read s
    (λ a. ap (place_of row.left row.right (each_width row)) (up_shift (goes_down row.left row.right) (whole e.signed a) (number_of n) i z) ∙ spot_at row e.signed (shift_of mark.Up (goes_down row.left row.right) (pos i)) w a)
ranged_place row m mark.Down n e i w read h z s =
    moving_place m e (λ x. place_of row.left row.right (each_width row) (if goes_down row.left row.right then x -ℤ (number_of n -ℤ pos 1) else x)) _ read s
    (λ a. ap (place_of row.left row.right (each_width row)) (down_shift (goes_down row.left row.right) (whole e.signed a) (number_of n) i z) ∙ spot_at row e.signed (shift_of mark.Down (goes_down row.left row.right) (pos i)) w a)

many_row : (j : Meaning → Faults) (m : Meaning) (k : RangeMark) (n : Meaning) (s : Bool) (row : Row) (p : Place) (e : Typed) (f : Fixed) (i w : ℕ) (q : PickPlace) (c : Bool) → is_to k ≡ false → RowIsSound row → IsTyped m (j m) e → IsFixed n f →
    IsMany row (number_of n) i → q ≡ place.Moving e (spot_of row e.signed (shift_of k (goes_down row.left row.right) (pos i)) w) → w ≡ i * each_width row → c ≡ (e.constant && f.constant) →
    Picks j (row_is s row) (to_range p m k n) (record { width = w; constant = c; place = q }) (elements i (each_is row.each))
unfolding t.Stands t.PickIsSound
many_row j m k n s row p e f i w q c h sound x y many place width constant =
    let clear = many_of p row m k n h ∙ many_clear p row (number_of n) i sound many in
    let some = some_bits i (each_width row) many.some (each_some row.each sound.each) in
    record {
      part = ranged row.left row.right (each_is row.each) m k n;
      is = part_is p s row m k n (then_clear _ _ (many_ends no_faults m k n h ∙ y.clear) clear);
      layout = ranged_layout row m k n i h many.number;
      clear = then_clear _ _ (many_ends j m k n h ∙ both_clear _ _ x.clear y.clear) clear;
      width = elements_width i (each_is row.each) many.some ∙ sym width;
      place = λ read. ranged_place row m k n e i w read h many.number x.stands ∙ ap (λ z. t.place_in z read) (sym place);
      constant = ap (λ z. z.constant && n.constant) x.stands.is ∙ ap (λ z. e.constant && z) y.constant ∙ sym constant;
      names = λ z o. contains_left m.names n.names z (x.stands.names z (subst (λ l. Contains l z) (ap t.place_names place ∙ moving_names e _) o));
      sound = ((omega arith, let z = many.most in omega arith), subst (t.PlaceIsSound w) (sym place) (moving_sound e _ w refl x.sound));
    }

pub many_picks : (j : Meaning → Faults) (x : Layout) (m : Meaning) (k : RangeMark) (n : Meaning) (s : Bool) (row : Row) (p : Place) (e : Typed) (f : Fixed) (i w : ℕ) (q : PickPlace) (c : Bool) → x ≡ row_is s row → is_to k ≡ false → RowIsSound row → IsTyped m (j m) e → IsFixed n f →
    IsMany row (number_of n) i → q ≡ place.Moving e (spot_of row e.signed (shift_of k (goes_down row.left row.right) (pos i)) w) → w ≡ i * each_width row → c ≡ (e.constant && f.constant) →
    Picks j x (to_range p m k n) (record { width = w; constant = c; place = q }) (elements i (each_is row.each))
many_picks j x m k n s row p e f i w q c d h sound a b many at width constant =
    subst (λ y. Picks j y (to_range p m k n) (record { width = w; constant = c; place = q }) (elements i (each_is row.each))) (sym d)
    (many_row j m k n s row p e f i w q c h sound a b many at width constant)
