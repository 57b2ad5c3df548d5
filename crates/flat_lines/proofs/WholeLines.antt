-- What stands in lines behind the word that says their kind is read just as it is printed.
use Rattle.std.proofs.Common.{◌≡◌, ℕ, ◌<◌, ◌≤◌, Bool, true, false, nat_lt, nat_le, IsTrue, List, [], ◌∷◌, ◌++◌, length, codes, decimal, Option, Some, None, refl, ap, ◌∙◌, subst, arith}
use Rattle.std.specs.List.{All, list_all}
use Rattle.std.proofs.lemmas.Bool.{ltb-true, leb-true, lt-ltb, le-leb, and_parts, and_from}
use Rattle.std.proofs.lemmas.List.Elements.{All-head, All-tail, All-cons, All-nil}
use Rattle.sv_outside.specs.declared.text.Signal.{Signal}
use Rattle.lhs_alias.specs.declared.segs.Seg.{Seg}
use Rattle.svex_shape.specs.declared.shape.Shape.{Shape}
use Rattle.driver_resolve.specs.declared.driver.Driver.{Driver}
use Rattle.flat_net.specs.declared.flat.Join.{Join}
use Rattle.flat_net.specs.Flats.{is_path_byte, IsSignal}
use Rattle.flat_text.specs.Lines.{Text, kind_text, lhs_text, shape_text}
use Rattle.flat_words.specs.Readers.{chain, behind, before, both, made, where_, byte, number}
use Rattle.flat_words.proofs.Forms.{IsForm, IsWhole, same_some, chain_some, behind_takes, behind_gives, before_form, both_form, made_form, where_form, whole_form}
use Rattle.flat_words.specs.Fits.{FitsNumber, FitsByte}
use Rattle.flat_lines.specs.Fits.{FitsShape, FitsLhs, FitsJoin, join_words, FitsDrive, drive_words, wire_words}
use Rattle.flat_words.proofs.Written.{StopsDigits, AtEnd, number_form, byte_form}
use Rattle.flat_lines.specs.Shapes.{shape}
use Rattle.flat_lines.specs.Items.{lhs, is_width, is_path, path_by, kind_by, wire, join_of, join, node, drive_of, drive}
use Rattle.flat_lines.proofs.ShapeForms.{shape_form}
use Rattle.flat_lines.proofs.Targets.{StopsSegs, stops_at_end, stops_at_blank, lhs_form}

pub node_form : IsWhole Shape FitsShape shape_text node
unfolding node
node_form = whole_form Shape FitsShape AtEnd shape_text shape refl shape_form

-- ---- joins and drivers

pub join_form : IsWhole Join FitsJoin join_words join
unfolding join
join_form =
    whole_form Join FitsJoin StopsSegs join_words (λ s. made join_of (both lhs (λ r. before (codes " = ") lhs r)) s) stops_at_end
    (made_form (List Seg × List Seg) Join (λ x. FitsLhs x.0 × FitsLhs x.1) FitsJoin StopsSegs (λ x. lhs_text x.0 ++ (codes " = " ++ lhs_text x.1)) join_words (both lhs (λ r. before (codes " = ") lhs r)) join_of (λ j. (j.child, j.parent))
    (λ j h. refl) (λ j h. h) (λ x h. h) (λ x h. refl)
    (both_form (List Seg) (List Seg) FitsLhs FitsLhs StopsSegs StopsSegs lhs_text (λ l. codes " = " ++ lhs_text l) lhs (λ r. before (codes " = ") lhs r) lhs_form (before_form (List Seg) FitsLhs StopsSegs lhs_text lhs (codes " = ") lhs_form)
    (λ l rest fits stops. stops_at_blank (codes "= " ++ (lhs_text l ++ rest)))))

pub drive_form : IsWhole Driver FitsDrive drive_words drive
unfolding drive
drive_form =
    whole_form Driver FitsDrive StopsDigits drive_words (λ s. made drive_of (both lhs (λ r. before (codes " = ") number r)) s) refl
    (made_form (List Seg × ℕ) Driver (λ x. FitsLhs x.0 × FitsNumber x.1) FitsDrive StopsDigits (λ x. lhs_text x.0 ++ (codes " = " ++ decimal x.1)) drive_words (both lhs (λ r. before (codes " = ") number r)) drive_of (λ d. (d.target, d.value))
    (λ d h. refl) (λ d h. h) (λ x h. h) (λ x h. refl)
    (both_form (List Seg) ℕ FitsLhs FitsNumber StopsSegs StopsDigits lhs_text (λ n. codes " = " ++ decimal n) lhs (λ r. before (codes " = ") number r) lhs_form (before_form ℕ FitsNumber StopsDigits decimal number (codes " = ") number_form)
    (λ n rest fits stops. stops_at_blank (codes "= " ++ (decimal n ++ rest)))))

-- ---- wires

all_printed : (t : Text) → list_all is_path_byte t ≡ true → All (λ b. IsTrue (is_path_byte b)) t
all_printed [] h = All-nil (λ b. IsTrue (is_path_byte b))
all_printed (b ∷ t) h = let parts = and_parts (is_path_byte b) (list_all is_path_byte t) h in All-cons (λ b. IsTrue (is_path_byte b)) b t parts.0 (all_printed t parts.1)

printed_all : (t : Text) → All (λ b. IsTrue (is_path_byte b)) t → list_all is_path_byte t ≡ true
printed_all [] h = refl
printed_all (b ∷ t) h = and_from (is_path_byte b) (list_all is_path_byte t) (All-head (λ b. IsTrue (is_path_byte b)) b t h) (printed_all t (All-tail (λ b. IsTrue (is_path_byte b)) b t h))

path_is : (s : Signal) → IsSignal s → is_path s.path ≡ true
path_is s h = and_from (nat_lt 0 (length s.path)) (list_all is_path_byte s.path) (lt-ltb 0 (length s.path) (some (length s.path) h.named)) (printed_all s.path h.printed)
  where
    some : (n : ℕ) → 1 ≤ n → 0 < n
    some n h = omega arith

signal_is : (path : Text) (w : ℕ) (input : Bool) → is_width w ≡ true → is_path path ≡ true → IsSignal (record { path = path; width = w; input = input })
signal_is path w input wide named =
    let parts = and_parts (nat_lt 0 w) (nat_le w 128) wide in
    let told = and_parts (nat_lt 0 (length path)) (list_all is_path_byte path) named in
    record {
      some = let l : 0 < w = ltb-true 0 w parts.0 in omega arith;
      most = leb-true w 128 parts.1;
      named = let l : 0 < length path = ltb-true 0 (length path) told.0 in omega arith;
      printed = all_printed path told.1;
    }

width_form : IsForm ℕ (λ w. FitsByte w × (is_width w ≡ true)) StopsDigits decimal (where_ is_width byte)
width_form = where_form ℕ FitsByte StopsDigits decimal byte is_width byte_form

fits_width : (w : ℕ) → 1 ≤ w → w ≤ 128 → FitsByte w × (is_width w ≡ true)
fits_width w a b = (omega arith, and_from (nat_lt 0 w) (nat_le w 128) (lt-ltb 0 w (omega arith)) (le-leb w 128 b))

not_in : (path : Text) → behind (codes " in ") (codes " net " ++ path) ≡ None
unfolding behind
not_in path = refl

wire_takes : (w : ℕ) (input : Bool) (path : Text) → FitsByte w × (is_width w ≡ true) → is_path path ≡ true → wire (decimal w ++ (kind_text input ++ path)) ≡ Some (record { path = path; width = w; input = input })
unfolding wire
wire_takes w true path fits named =
    ap (λ o. chain {A = ℕ × Text} {B = Signal} o (λ x. kind_by x.0 (behind (codes " in ") x.1) (behind (codes " net ") x.1))) (width_form.takes w (codes " in " ++ path) fits refl)
    ∙ ap (λ o. kind_by w o (behind (codes " net ") (codes " in " ++ path))) (behind_takes (codes " in ") path) ∙ ap (λ b. path_by b w true path) named
wire_takes w false path fits named =
    ap (λ o. chain {A = ℕ × Text} {B = Signal} o (λ x. kind_by x.0 (behind (codes " in ") x.1) (behind (codes " net ") x.1))) (width_form.takes w (codes " net " ++ path) fits refl)
    ∙ ap (λ o. kind_by w o (behind (codes " net ") (codes " net " ++ path))) (not_in path) ∙ ap (λ o. kind_by w None o) (behind_takes (codes " net ") path) ∙ ap (λ b. path_by b w false path) named

path_given : (b : Bool) (w : ℕ) (input : Bool) (path : Text) (s : Signal) → is_path path ≡ b → path_by b w input path ≡ Some s → (is_path path ≡ true) × (record { path = path; width = w; input = input } ≡ s)
path_given true w input path s e h = (e, same_some (record { path = path; width = w; input = input }) s h)
path_given false w input path s e h = cc

kind_given : (w : ℕ) (r : Text) (s : Signal) (o p : Option Text) → behind (codes " in ") r ≡ o → behind (codes " net ") r ≡ p → is_width w ≡ true → kind_by w o p ≡ Some s → (decimal w ++ r ≡ wire_words s) × IsSignal s
kind_given w r s (Some t) p e f wide h =
    let told = path_given (is_path t) w true t s refl h in
    subst (λ (y : Signal). (decimal w ++ r ≡ wire_words y) × IsSignal y) told.1 (ap (λ x. decimal w ++ x) (behind_gives (codes " in ") r t e), signal_is t w true wide told.0)
kind_given w r s None (Some t) e f wide h =
    let told = path_given (is_path t) w false t s refl h in
    subst (λ (y : Signal). (decimal w ++ r ≡ wire_words y) × IsSignal y) told.1 (ap (λ x. decimal w ++ x) (behind_gives (codes " net ") r t f), signal_is t w false wide told.0)
kind_given w r s None None e f wide h = cc

pub wire_form : IsWhole Signal IsSignal wire_words wire
unfolding wire
wire_form = record {
  takes = λ s h. wire_takes s.width s.input s.path (fits_width s.width h.some h.most) (path_is s h);
  gives = λ t s h.
      let cut = chain_some (where_ is_width byte t) (λ x. kind_by x.0 (behind (codes " in ") x.1) (behind (codes " net ") x.1)) s h in
      let width = width_form.gives t cut.0.0 cut.0.1 cut.1.0 in
      let told = kind_given cut.0.0 cut.0.1 s (behind (codes " in ") cut.0.1) (behind (codes " net ") cut.0.1) refl refl width.1.1 cut.1.1 in
      (width.0 ∙ told.0, told.1);
}
