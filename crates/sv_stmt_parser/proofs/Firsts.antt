-- What is told of the first token, by its sort.
use Rattle.std.proofs.Common.{◌≡◌, Bool, true, false, if◌then◌else◌, List, [], ◌∷◌, length, Option, Some, None, Ok, Err, refl, ap, ◌∙◌}
use Rattle.std.specs.Str.{bytes_eq}
use Rattle.sv_outside.specs.declared.refusal.Place.{Place}
use Rattle.sv_outside.specs.declared.text.Token.{Token}
use Rattle.sv_tree.specs.declared.word.Word.{Word}
use Rattle.sv_cursor.specs.declared.error.ParseErr.{ParseErr}
use Rattle.sv_cursor.specs.declared.error.ParseErr.TheVariants.{Syntax}
use Rattle.sv_cursor.specs.declared.sort.Sort.{Sort}
use Rattle.sv_cursor.specs.declared.sort.Sort.TheVariants as s
use Rattle.sv_cursor.specs.Sorts.{sort}
use Rattle.sv_cursor.specs.Parsers.{Outcome, told, take_told, token}
use Rattle.sv_cursor.specs.Tests.{first_sort, id_test, id_by, place_test}
use Rattle.sv_word_parser.specs.Combined.{sign_of}
use Rattle.sv_stmt_parser.specs.Stmts.{assign_test, with_place}
use Rattle.sv_stmt_parser.specs.Targets.{repeat_test}
use Rattle.sv_word_parser.specs.Words.{assign_by_mark}

-- ---- assignments

pub assign_first : (i : List Token) (p : Place) → told place_test i ≡ Some p → told assign_test i ≡ with_place (sign_of assign_by_mark (first_sort i)) p
unfolding place_test assign_test
assign_first [] p e = absurd (cc)
assign_first (a ∷ i) p e = let same : a.place ≡ p = cc in ap (λ q. with_place (sign_of assign_by_mark (sort a)) q) same

pub no_assign : (i : List Token) → told place_test i ≡ None → told assign_test i ≡ None
unfolding place_test
no_assign [] e = refl
no_assign (a ∷ i) e = absurd (cc)

-- ---- names that repeat another

abbrev word_in : Token → Word
word_in a = record { text = a.text; place = a.place }

abbrev read_word : Word → Outcome Word → Word
read_word w (Ok p) = p.0
read_word w (Err e) = w

word_is : (x : Sort) (a : Token) (i j : List Token) (w : Word) → ◌≡◌ {A = Outcome Word} (take_told (id_by x (word_in a)) (a ∷ i)) (Ok (w, j)) → word_in a ≡ w
word_is s.Id a i j w e = ap (read_word w) e
word_is _ a i j w e = absurd (cc)

pub repeated : (v w : Word) (i j : List Token) → ◌≡◌ {A = Outcome Word} (token id_test i) (Ok (w, j)) → bytes_eq w.text v.text ≡ true → ◌≡◌ {A = Outcome Word} (token (repeat_test v) i) (Ok (w, j))
unfolding token repeat_test id_test
repeated v w [] j e same = absurd (cc)
repeated v w (a ∷ i) j e same =
    let g : bytes_eq a.text v.text ≡ true = ap (λ (x : Word). bytes_eq x.text v.text) (word_is (sort a) a i j w e) ∙ same in
    ap (λ (b : Bool). take_told (if b then id_by (sort a) (word_in a) else None) (a ∷ i)) g ∙ e

pub not_repeated : (v w : Word) (i j : List Token) → ◌≡◌ {A = Outcome Word} (token id_test i) (Ok (w, j)) → bytes_eq w.text v.text ≡ false → ◌≡◌ {A = Outcome Word} (token (repeat_test v) i) (Err (Syntax (length i)))
unfolding token repeat_test id_test
not_repeated v w [] j e same = absurd (cc)
not_repeated v w (a ∷ i) j e same =
    let g : bytes_eq a.text v.text ≡ false = ap (λ (x : Word). bytes_eq x.text v.text) (word_is (sort a) a i j w e) ∙ same in
    ap (λ (b : Bool). take_told (if b then id_by (sort a) (word_in a) else None) (a ∷ i)) g

none_by : (b : Bool) (q : Option Word) (i : List Token) (z : ParseErr) → ◌≡◌ {A = Outcome Word} (take_told q i) (Err z) → ◌≡◌ {A = Outcome Word} (take_told (if b then q else None) i) (Err z)
none_by true q i z e = e
none_by false None i z e = e
none_by false (Some w) i z e = absurd (cc)

pub no_name : (v : Word) (i : List Token) (z : ParseErr) → ◌≡◌ {A = Outcome Word} (token id_test i) (Err z) → ◌≡◌ {A = Outcome Word} (token (repeat_test v) i) (Err z)
unfolding token repeat_test
no_name v [] z e = e
no_name v (a ∷ i) z e = none_by (bytes_eq a.text v.text) (id_test a) (a ∷ i) z e
