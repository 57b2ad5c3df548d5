-- No line of a design has a line feed, so a text is cut into its lines in one way.
use Rattle.std.proofs.Common.{◌≡◌, ◌≢◌, ℕ, zero, suc, ◌^◌, ◌<◌, ◌≤◌, eqb, not, nat_le, nat_lt, Bool, true, false, IsTrue, List, [], ◌∷◌, ◌++◌, length, map, reverse, codes, decimal, ℤ, pos, negsuc, refl, sym, ◌∙◌, subst, append_assoc, arith}
use Rattle.std.specs.List.{All, flat_map, list_all}
use Rattle.std.specs.Fmt.{signed_decimal}
use Rattle.std.specs.Char.{is_ascii_digit}
use Rattle.std.specs.Str.{all_ascii_digits}
use Rattle.std.proofs.lemmas.Bool.{and_parts, and_from, leb-true, ltb-true, ne_eqb, not_from_false}
use Rattle.std.proofs.lemmas.Fmt.{digits_decimal}
use Rattle.std.proofs.lemmas.List.Elements.{All-head, All-tail}
use Rattle.fourvec.specs.declared.Bit.{Bit}
use Rattle.fourvec.specs.declared.Bit.TheVariants.{Zero, One, Unknown, Floating}
use Rattle.fourvec.specs.declared.Spot.{Spot}
use Rattle.lhs_alias.specs.declared.segs.Seg.{Seg}
use Rattle.svex_shape.specs.declared.shape.VarName.{VarName}
use Rattle.svex_shape.specs.declared.shape.VarName.TheVariants.{Now, Prev, Stim, Chosen, Sampled}
use Rattle.svex_shape.specs.declared.shape.Un.{Un}
use Rattle.svex_shape.specs.declared.shape.Un.TheVariants.{Unfloat, Not, Neg, RedAnd, RedOr, RedXor, Truth}
use Rattle.svex_shape.specs.declared.shape.Bin.{Bin}
use Rattle.svex_shape.specs.declared.shape.Bin.TheVariants.{And, Or, Xor, Eq, Lt, Slt, Add, Sub, Mul, Div, Rem, Sdiv, Srem, Res, Shl, Shr, Sar, Concat}
use Rattle.svex_shape.specs.declared.shape.Shape.{Shape}
use Rattle.svex_shape.specs.declared.shape.Shape.TheVariants.{Const, Var, Unary, Binary, Cond, Pick, Slice, Zext, Sext, DynSlice, DynPut}
use Rattle.flat_net.specs.declared.flat.Flat.{Flat}
use Rattle.flat_net.specs.Flats.{is_path_byte}
use Rattle.flat_text.specs.Lines.{Text, digit, value_text, next, seg_text, lhs_text, flag, spot_text, unary_name, binary_name, name_text, shape_text, kind_text, ended, text_of, lines_of}
use Rattle.flat_text.specs.FlatTexts.{IsUnbroken, AreLinesOf, is_long}
use Rattle.flat_words.specs.Fits.{FitsNumber, FitsByte, FitsLong, FitsVector, FitsParts}
use Rattle.flat_lines.specs.Fits.{FitsName, FitsShape, FitsSeg, EachFits, FitsLhs, FitsItem}
use Rattle.flat_lines.specs.Items.{Item, a_wire, a_join, a_node, a_drive, the_end, item_line}
use Rattle.flat_read.specs.Designs.{items_of, front_of}
use Rattle.flat_words.proofs.Written.{own, long_positive, long_negative}
use Rattle.flat_read.proofs.Telling.{EachItem, lines_are}
use Rattle.flat_read.proofs.Breaking.{all_unbroken, all_join}

-- ---- texts without line feeds

abbrev plain : Text → Bool
plain t = list_all (λ b. not (eqb b 10)) t

join : (a b : Text) → plain a ≡ true → plain b ≡ true → plain (a ++ b) ≡ true
join [] b h g = g
join (x ∷ a) b h g = let parts = and_parts (not (eqb x 10)) (plain a) h in and_from (not (eqb x 10)) (plain (a ++ b)) parts.0 (join a b parts.1 g)

digits_plain : (ds : Text) → all_ascii_digits ds ≡ true → plain ds ≡ true
digits_plain [] h = refl
digits_plain (c ∷ ds) h =
    let parts = and_parts (is_ascii_digit c) (all_ascii_digits ds) h in
    let low : 48 ≤ c = leb-true 48 c (and_parts (nat_le 48 c) (nat_le c 57) parts.0).0 in
    and_from (not (eqb c 10)) (plain ds) (not_from_false (eqb c 10) (ne_eqb c 10 (apart c low))) (digits_plain ds parts.1)
  where
    apart : (c : ℕ) → 48 ≤ c → c ≡ 10 → ⊥
    apart c l e = omega arith

number_plain : (n : ℕ) → n < 2 ^ 64 → plain (decimal n) ≡ true
number_plain n h = digits_plain (decimal n) (digits_decimal own n h)

fits_plain : (n : ℕ) → FitsNumber n → plain (decimal n) ≡ true
fits_plain n h = number_plain n (omega arith)

byte_plain : (n : ℕ) → FitsByte n → plain (decimal n) ≡ true
byte_plain n h = number_plain n (omega arith)

next_plain : (n : ℕ) → FitsNumber n → plain (next n) ≡ true
next_plain n h = fits_plain n h

next_byte_plain : (n : ℕ) → FitsByte n → plain (next n) ≡ true
next_byte_plain n h = byte_plain n h

long_plain : (i : ℤ) → FitsLong i → plain (signed_decimal i) ≡ true
long_plain (pos n) h = number_plain n (small n h)
  where
    small : (n : ℕ) → IsTrue (is_long (pos n)) → n < 2 ^ 64
    small n h = let l : n < 2 ^ 63 = ltb-true n (2 ^ 63) (long_positive n h) in omega arith
long_plain (negsuc m) h = number_plain (suc m) (small m h)
  where
    small : (m : ℕ) → IsTrue (is_long (negsuc m)) → suc m < 2 ^ 64
    small m h = let l : suc m ≤ 2 ^ 63 = leb-true (suc m) (2 ^ 63) (and_parts (nat_lt 0 (suc m)) (nat_le (suc m) (2 ^ 63)) (long_negative m h)).1 in omega arith

bits_plain : (v : List Bit) → plain (map digit v) ≡ true
bits_plain [] = refl
bits_plain (Zero ∷ v) = bits_plain v
bits_plain (One ∷ v) = bits_plain v
bits_plain (Unknown ∷ v) = bits_plain v
bits_plain (Floating ∷ v) = bits_plain v

value_plain : (v : List Bit) → FitsVector v → plain (value_text v) ≡ true
value_plain v h = join (decimal (length v)) (codes "'b" ++ map digit (reverse v)) (byte_plain (length v) (omega (arith, h.1))) (bits_plain (reverse v))

-- ---- what lines are made of

seg_plain : (s : Seg) → FitsSeg s → plain (seg_text s) ≡ true
seg_plain s h =
    join (decimal s.wire) (codes "[" ++ (decimal s.lo ++ (codes "+:" ++ (decimal s.width ++ codes "]")))) (fits_plain s.wire h.0)
    (join (decimal s.lo) (codes "+:" ++ (decimal s.width ++ codes "]")) (byte_plain s.lo h.1.0) (join (decimal s.width) (codes "]") (byte_plain s.width h.1.1) refl))

more_plain : (segs : List Seg) → EachFits segs → plain (flat_map (λ t. 44 ∷ seg_text t) segs) ≡ true
more_plain [] h = refl
more_plain (s ∷ more) h = join (seg_text s) (flat_map (λ t. 44 ∷ seg_text t) more) (seg_plain s h.0) (more_plain more h.1)

lhs_plain : (segs : List Seg) → FitsLhs segs → plain (lhs_text segs) ≡ true
lhs_plain [] h = absurd h
lhs_plain (s ∷ more) h = join (seg_text s) (flat_map (λ t. 44 ∷ seg_text t) more) (seg_plain s h.0) (more_plain more h.1)

flag_plain : (b : Bool) (t : Text) → plain t ≡ true → plain (flag b ∷ t) ≡ true
flag_plain true t h = h
flag_plain false t h = h

spot_plain : (s : Spot) → FitsParts s → plain (spot_text s) ≡ true
spot_plain s h =
    flag_plain s.signed (32 ∷ flag s.negate ∷ 32 ∷ (decimal s.each ++ (codes " " ++ (signed_decimal s.add ++ next s.width))))
    (flag_plain s.negate (32 ∷ (decimal s.each ++ (codes " " ++ (signed_decimal s.add ++ next s.width))))
    (join (decimal s.each) (codes " " ++ (signed_decimal s.add ++ next s.width)) (byte_plain s.each h.0.0) (join (signed_decimal s.add) (next s.width) (long_plain s.add h.0.1) (next_byte_plain s.width h.1))))

unary_plain : (op : Un) → plain (unary_name op) ≡ true
unary_plain Unfloat = refl
unary_plain Not = refl
unary_plain Neg = refl
unary_plain RedAnd = refl
unary_plain RedOr = refl
unary_plain RedXor = refl
unary_plain Truth = refl

binary_plain : (op : Bin) → plain (binary_name op) ≡ true
binary_plain And = refl
binary_plain Or = refl
binary_plain Xor = refl
binary_plain Eq = refl
binary_plain Lt = refl
binary_plain Slt = refl
binary_plain Add = refl
binary_plain Sub = refl
binary_plain Mul = refl
binary_plain Div = refl
binary_plain Rem = refl
binary_plain Sdiv = refl
binary_plain Srem = refl
binary_plain Res = refl
binary_plain Shl = refl
binary_plain Shr = refl
binary_plain Sar = refl
binary_plain Concat = refl

name_plain : (name : VarName) → FitsName name → plain (name_text name) ≡ true
name_plain (Now n) h = fits_plain n h
name_plain (Prev n) h = fits_plain n h
name_plain (Stim n) h = absurd h
name_plain (Chosen n) h = absurd h
name_plain (Sampled n) h = absurd h

shape_plain : (s : Shape) → FitsShape s → plain (shape_text s) ≡ true
unfolding shape_text
shape_plain (Const v) h = value_plain v h
shape_plain (Var name w) h = join (name_text name) (next w) (name_plain name h.0) (next_byte_plain w h.1)
shape_plain (Unary op a) h = join (unary_name op) (next a) (unary_plain op) (next_plain a h)
shape_plain (Binary op a b) h = join (binary_name op) (next a ++ next b) (binary_plain op) (join (next a) (next b) (next_plain a h.0) (next_plain b h.1))
shape_plain (Cond c a b) h = join (next c) (next a ++ next b) (next_plain c h.0) (join (next a) (next b) (next_plain a h.1.0) (next_plain b h.1.1))
shape_plain (Pick c a b) h = join (next c) (next a ++ next b) (next_plain c h.0) (join (next a) (next b) (next_plain a h.1.0) (next_plain b h.1.1))
shape_plain (Slice a lo w) h = join (next a) (next lo ++ next w) (next_plain a h.0) (join (next lo) (next w) (next_byte_plain lo h.1.0) (next_byte_plain w h.1.1))
shape_plain (Zext a w) h = join (next a) (next w) (next_plain a h.0) (next_byte_plain w h.1)
shape_plain (Sext a w) h = join (next a) (next w) (next_plain a h.0) (next_byte_plain w h.1)
shape_plain (DynSlice a at spot) h = join (next a) (next at ++ (codes " " ++ spot_text spot)) (next_plain a h.0) (join (next at) (codes " " ++ spot_text spot) (next_plain at h.1.0) (spot_plain spot h.1.1))
shape_plain (DynPut a at spot put) h =
    join (next a) (next at ++ (codes " " ++ (spot_text spot ++ next put))) (next_plain a h.0)
    (join (next at) (codes " " ++ (spot_text spot ++ next put)) (next_plain at h.1.0) (join (spot_text spot) (next put) (spot_plain spot h.1.1.0) (next_plain put h.1.1.1)))

path_plain : (p : Text) → All (λ b. IsTrue (is_path_byte b)) p → plain p ≡ true
path_plain [] h = refl
path_plain (b ∷ p) h =
    let low : 33 ≤ b = leb-true 33 b (and_parts (nat_le 33 b) (nat_le b 126) (All-head (λ c. IsTrue (is_path_byte c)) b p h)).0 in
    and_from (not (eqb b 10)) (plain p) (not_from_false (eqb b 10) (ne_eqb b 10 (apart b low))) (path_plain p (All-tail (λ c. IsTrue (is_path_byte c)) b p h))
  where
    apart : (b : ℕ) → 33 ≤ b → b ≡ 10 → ⊥
    apart b l e = omega arith

kind_plain : (b : Bool) (t : Text) → plain t ≡ true → plain (kind_text b ++ t) ≡ true
kind_plain true t h = h
kind_plain false t h = h

item_plain : (x : Item) → FitsItem x → plain (item_line x) ≡ true
item_plain (a_wire s) h = join (decimal s.width) (kind_text s.input ++ s.path) (byte_plain s.width (let m : s.width ≤ 128 = h.most in omega arith)) (kind_plain s.input s.path (path_plain s.path h.printed))
item_plain (a_join j) h = join (lhs_text j.child) (codes " = " ++ lhs_text j.parent) (lhs_plain j.child h.0) (lhs_plain j.parent h.1)
item_plain (a_node s) h = shape_plain s h
item_plain (a_drive d) h = join (lhs_text d.target) (codes " = " ++ decimal d.value) (lhs_plain d.target h.0) (fits_plain d.value h.1)
item_plain the_end h = refl

items_unbroken : (xs : List Item) → EachItem FitsItem xs → All IsUnbroken (map item_line xs)
items_unbroken [] h = λ k d l. absurd (omega arith)
items_unbroken (x ∷ xs) h = all_join IsUnbroken (item_line x ∷ []) (map item_line xs) (one (item_line x) (all_unbroken (item_line x) (item_plain x h.0))) (items_unbroken xs h.1)
  where
    one : (t : Text) → IsUnbroken t → All IsUnbroken (t ∷ [])
    one t u zero d l = u
    one t u (suc k) d l = absurd (omega arith)

pub lines_unbroken : (shown : Flat) → EachItem FitsItem (items_of shown) → All IsUnbroken (lines_of shown)
lines_unbroken shown h =
    subst (All IsUnbroken) (sym (lines_are shown)) (all_join IsUnbroken (front_of shown) (codes "end" ∷ []) (all_join IsUnbroken (codes "flat 1" ∷ []) (map item_line (items_of shown)) (one (codes "flat 1") (all_unbroken (codes "flat 1") refl)) (items_unbroken (items_of shown) h)) (one (codes "end") (all_unbroken (codes "end") refl)))
  where
    one : (t : Text) → IsUnbroken t → All IsUnbroken (t ∷ [])
    one t u zero d l = u
    one t u (suc k) d l = absurd (omega arith)

-- ---- lines in one way only

-- two texts that end at their first line feed
line_is : (a b r s : Text) → IsUnbroken a → IsUnbroken b → ended a ++ r ≡ ended b ++ s → (a ≡ b) × (r ≡ s)
line_is [] [] r s u v e = (refl, cc)
line_is [] (y ∷ b) r s u v e = absurd (All-head (λ c. c ≢ 10) y b v (let h : 10 ≡ y = cc in sym h))
line_is (x ∷ a) [] r s u v e = absurd (All-head (λ c. c ≢ 10) x a u cc)
line_is (x ∷ a) (y ∷ b) r s u v e =
    let heads : x ≡ y = cc in
    let tails : ended a ++ r ≡ ended b ++ s = cc in
    let rest = line_is a b r s (All-tail (λ c. c ≢ 10) x a u) (All-tail (λ c. c ≢ 10) y b v) tails in
    ((λ i. heads i ∷ rest.0 i), rest.1)

no_line : (a r s : Text) → IsUnbroken s → s ≡ ended a ++ r → ⊥
no_line [] r [] u e = cc
no_line [] r (y ∷ s) u e = All-head (λ c. c ≢ 10) y s u cc
no_line (x ∷ a) r [] u e = cc
no_line (x ∷ a) r (y ∷ s) u e = no_line a r s (All-tail (λ c. c ≢ 10) y s u) cc

pub one_way : (t : Text) (ls ms : List Text) (r s : Text) → AreLinesOf t ls r → AreLinesOf t ms s → (ls ≡ ms) × (r ≡ s)
one_way t ls ms r s a b = split ls ms r s (sym a.is ∙ b.is) a.lines_unbroken b.lines_unbroken a.rest_unbroken b.rest_unbroken
  where
    split : (ls ms : List Text) (r s : Text) → text_of ls ++ r ≡ text_of ms ++ s → All IsUnbroken ls → All IsUnbroken ms → IsUnbroken r → IsUnbroken s → (ls ≡ ms) × (r ≡ s)
    split [] [] r s e u v p q = (refl, e)
    split [] (m ∷ ms) r s e u v p q = absurd (no_line m (text_of ms ++ s) r p (e ∙ append_assoc (ended m) (text_of ms) s))
    split (l ∷ ls) [] r s e u v p q = absurd (no_line l (text_of ls ++ r) s q (sym e ∙ append_assoc (ended l) (text_of ls) r))
    split (l ∷ ls) (m ∷ ms) r s e u v p q =
        let first = line_is l m (text_of ls ++ r) (text_of ms ++ s) (All-head IsUnbroken l ls u) (All-head IsUnbroken m ms v) (sym (append_assoc (ended l) (text_of ls) r) ∙ e ∙ append_assoc (ended m) (text_of ms) s) in
        let rest = split ls ms r s first.1 (All-tail IsUnbroken l ls u) (All-tail IsUnbroken m ms v) p q in
        ((λ i. first.0 i ∷ rest.0 i), rest.1)
