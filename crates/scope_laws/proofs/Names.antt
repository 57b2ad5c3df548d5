-- Names and paths. What is declared is a simple identifier, and the name of a loop's turn is one with a number in brackets behind it:
-- both begin with a letter or an underscore and go on in printed bytes of which none is a dot. A path is made of such names with dots
-- between them, so they are its parts.
use Rattle.std.proofs.Common.{◌≡◌, ℕ, zero, suc, ◌+◌, ◌/◌, ◌%◌, ◌<◌, ◌≤◌, ◌⊎◌, inl, inr, eqb, ℤ, pos, negsuc, Bool, true, false, ◌&&◌, cond, not, nat_lt, nat_le, List, [], ◌∷◌, ◌++◌, length, decimal, codes, All, refl, sym, ap, ◌∙◌, subst, arith}
use Rattle.std.specs.Fmt.{digits, digits_onto, digit_glyph, signed_decimal}
use Rattle.std.specs.List.{list_all, onto_first}
use Rattle.std.proofs.lemmas.Bool.{and_parts, and_from, eqb-true, false≢true, le-leb, ne_eqb, not-false, not-true}
use Rattle.std.proofs.lemmas.List.Elements.{All-nil, All-cons, All-head, All-tail, All-append, All-same, All-weaker}
use Rattle.std.proofs.lemmas.List.Folds.{list_all-append}
use Rattle.std.proofs.lemmas.List.Splits.{slice_split_none, length-slice_split}
use Rattle.std.proofs.lemmas.List.Sums.{AllPass-from_list_all, list_all-from_AllPass}
use Rattle.fourvec.specs.declared.Bit.{Bit}
use Rattle.fourvec.specs.Bits.{signed}
use Rattle.sv_outside.specs.declared.refusal.Place.{Place}
use Rattle.sv_outside.specs.Words.{goes_on, headed, starts_word}
use Rattle.sv_meaning.specs.Faults.{fault_if, bad_token, twice}
use Rattle.sv_meaning.specs.Layouts.{Name}
use Rattle.sv_outside.specs.Paths.{is_path_byte}
use Rattle.sv_hierarchy.specs.Scopes.{is_name, name_faults, dot, prefix_of, turn_name}
use Rattle.scope_laws.specs.Wires.{is_dot, parts_of, IsPart, IsPath}
use Rattle.scope_laws.proofs.Plain.{first_clear, if_not}

-- ---- bytes

-- a printed byte that is no dot
abbrev is_plain : ℕ → Bool
is_plain b = is_path_byte b && not (is_dot b)

apart : (f : ℕ → Bool) (b k : ℕ) → f b ≡ true → f k ≡ false → eqb b k ≡ false
apart f b k h none = ne_eqb b k (λ e. false≢true (sym none ∙ ap f (sym e) ∙ h))

starts_printed : (b : ℕ) → starts_word b ≡ true → is_path_byte b ≡ true
starts_printed b h = grind arith

goes_printed : (b : ℕ) → goes_on b ≡ true → is_path_byte b ≡ true
goes_printed b h = grind arith

starts_plain : (b : ℕ) → starts_word b ≡ true → is_plain b ≡ true
starts_plain b h = and_from (is_path_byte b) (not (is_dot b)) (starts_printed b h) (ap not (apart starts_word b 46 h refl))

goes_plain : (b : ℕ) → goes_on b ≡ true → is_plain b ≡ true
goes_plain b h = and_from (is_path_byte b) (not (is_dot b)) (goes_printed b h) (ap not (apart goes_on b 46 h refl))

plain_printed : (b : ℕ) → is_plain b ≡ true → is_path_byte b ≡ true
plain_printed b h = (and_parts (is_path_byte b) (not (is_dot b)) h).0

plain_within : (b : ℕ) → 47 ≤ b → b ≤ 126 → is_plain b ≡ true
plain_within b low high =
    and_from (is_path_byte b) (not (is_dot b)) (and_from (nat_le 33 b) (nat_le b 126) (le-leb 33 b (omega arith)) (le-leb b 126 high)) (ap not (ne_eqb b 46 (λ e. omega (arith, e, low))))

-- ---- texts of such bytes

abbrev ArePlain : Name → Type 0
ArePlain n = list_all is_plain n ≡ true

abbrev ArePrinted : Name → Type 0
ArePrinted n = list_all is_path_byte n ≡ true

all_weaker : (p q : ℕ → Bool) → ((b : ℕ) → p b ≡ true → q b ≡ true) → (n : Name) → list_all p n ≡ true → list_all q n ≡ true
all_weaker p q f n h = list_all-from_AllPass q n (All-weaker (λ b. p b ≡ true) (λ b. q b ≡ true) f n (AllPass-from_list_all p n h))

both_plain : (m n : Name) → ArePlain m → ArePlain n → ArePlain (m ++ n)
both_plain m n f g = list_all-append is_plain m n ∙ and_from (list_all is_plain m) (list_all is_plain n) f g

no_dots : (n : Name) → ArePlain n → All (λ b. is_dot b ≡ false) n
no_dots n h =
    All-weaker (λ b. is_plain b ≡ true) (λ b. is_dot b ≡ false) (λ b g. not-true (is_dot b) (and_parts (is_path_byte b) (not (is_dot b)) g).1) n (AllPass-from_list_all is_plain n h)

-- ---- names

-- a letter or an underscore, and plain bytes behind it
abbrev pub IsStep : Name → Type 0
IsStep n = headed starts_word is_plain n ≡ true

name_is : (n : Name) → is_name n ≡ true → IsStep n
name_is [] h = h
name_is (b ∷ bs) h =
    let p = and_parts (starts_word b) (list_all goes_on bs) h in
    and_from (starts_word b) (list_all is_plain bs) p.0 (all_weaker goes_on is_plain goes_plain bs p.1)

-- a name against which nothing stands
pub clear_name : (taken : Bool) (p : Place) (n : Name) → name_faults taken p n ≡ [] → IsStep n
clear_name taken p n h = name_is n (not-false (is_name n) (if_not (not (is_name n)) bad_token p (first_clear (fault_if (not (is_name n)) bad_token p) (fault_if taken twice p) h)))

-- ---- numbers

glyph_plain : (b : Bool) (d : ℕ) → d < 10 → is_plain (cond b (48 + d) (87 + d)) ≡ true
glyph_plain true d h = plain_within (48 + d) (omega arith) (omega (arith, h))
glyph_plain false d h = plain_within (87 + d) (omega arith) (omega (arith, h))

either : (b : Bool) (m n : Name) → ArePlain m → ArePlain n → ArePlain (cond b m n)
either true m n f g = f
either false m n f g = g

digits_plain : (k n : ℕ) (behind : Name) → ArePlain behind → ArePlain (digits_onto k 10 false n behind)
digits_plain zero n behind h = h
digits_plain (suc k) n behind h =
    let d : ℕ = digit_glyph false (n % 10) in
    let more : ArePlain (d ∷ behind) = and_from (is_plain d) (list_all is_plain behind) (glyph_plain (nat_lt (n % 10) 10) (n % 10) (omega arith)) h in
    either (eqb (n / 10) 0) (d ∷ behind) (digits_onto k 10 false (n / 10) (d ∷ behind)) more (digits_plain k (n / 10) (d ∷ behind) more)

decimal_plain : (n : ℕ) → ArePlain (decimal n)
unfolding digits
decimal_plain n = digits_plain 64 n [] refl

signed_plain : (z : ℤ) → ArePlain (signed_decimal z)
signed_plain (pos n) = decimal_plain n
signed_plain (negsuc n) = decimal_plain (suc n)

longer : (m n : Name) → IsStep m → ArePlain n → IsStep (m ++ n)
longer [] n h g = cc
longer (b ∷ bs) n h g = let p = and_parts (starts_word b) (list_all is_plain bs) h in and_from (starts_word b) (list_all is_plain (bs ++ n)) p.0 (both_plain bs n p.1 g)

-- a turn of a block of that name
pub turn_named : (g : Name) (bits : List Bit) → IsStep g → IsStep (turn_name g bits)
turn_named g bits h =
    let number : Name = signed_decimal (signed bits) in
    longer g (codes "[" ++ (number ++ codes "]")) h (both_plain (codes "[") (number ++ codes "]") refl (both_plain number (codes "]") (signed_plain (signed bits)) refl))

-- ---- parts of paths

abbrev pub HasParts : Name → Type 0
HasParts path = All IsPart (parts_of path)

step_plain : (n : Name) → IsStep n → ArePlain n
step_plain [] h = refl
step_plain (b ∷ bs) h = let p = and_parts (starts_word b) (list_all is_plain bs) h in and_from (is_plain b) (list_all is_plain bs) (starts_plain b p.0) p.1

step_part : (n : Name) → IsStep n → IsPart n
step_part [] h = cc
step_part (b ∷ bs) h =
    let p = and_parts (starts_word b) (list_all is_plain bs) h in
    record {
      some = omega arith;
      printed = and_from (is_path_byte b) (list_all is_path_byte bs) (starts_printed b p.0) (all_weaker is_plain is_path_byte plain_printed bs p.1);
      no_dollar = apart starts_word b 36 p.0 refl;
      no_bracket = apart starts_word b 91 p.0 refl;
    }

step_parts : (n : Name) → IsStep n → HasParts n
step_parts n h = All-same IsPart (parts_of n) (n ∷ []) (slice_split_none is_dot n (no_dots n (step_plain n h))) (All-cons IsPart n [] (step_part n h) (All-nil IsPart))

some_parts : (path : Name) → 0 < length (parts_of path)
some_parts path = omega (arith, length-slice_split is_dot path)

behind_first : (b : Bool) (c : ℕ) (all more : List Name) → 0 < length all → cond b ([] ∷ (all ++ more)) (onto_first c (all ++ more)) ≡ cond b ([] ∷ all) (onto_first c all) ++ more
behind_first b c [] more some = absurd (omega (arith, some))
behind_first true c (part ∷ all) more some = refl
behind_first false c (part ∷ all) more some = refl

parts_behind : (path n : Name) → parts_of ((path ++ dot) ++ n) ≡ parts_of path ++ parts_of n
parts_behind [] n = refl
parts_behind (c ∷ path) n =
    ap (λ (all : List Name). cond (is_dot c) ([] ∷ all) (onto_first c all)) (parts_behind path n) ∙ behind_first (is_dot c) c (parts_of path) (parts_of n) (some_parts path)

-- ---- paths

-- the path of a scope: it has parts, or is none, as that of the top
abbrev pub IsText : Name → Type 0
IsText path = (path ≡ []) ⊎ HasParts path

pub no_text : IsText []
no_text = inl refl

pub is_text : (path : Name) → HasParts path → IsText path
is_text path h = inr h

-- a name in a scope
pub joined : (path n : Name) → IsText path → IsStep n → HasParts (prefix_of path ++ n)
joined [] n h g = step_parts n g
joined (c ∷ more) n (inl e) g = cc
joined (c ∷ more) n (inr h) g =
    All-same IsPart (parts_of (((c ∷ more) ++ dot) ++ n)) (parts_of (c ∷ more) ++ parts_of n) (parts_behind (c ∷ more) n) (All-append IsPart (parts_of (c ∷ more)) (parts_of n) h (step_parts n g))

first_printed : (b : Bool) (c : ℕ) (all : List Name) → is_dot c ≡ b → 0 < length all → All ArePrinted (cond b ([] ∷ all) (onto_first c all)) → (is_path_byte c ≡ true) × All ArePrinted all
first_printed b c [] e some h = absurd (omega (arith, some))
first_printed true c (part ∷ all) e some h = (subst (λ (k : ℕ). is_path_byte k ≡ true) (sym (eqb-true c 46 e)) refl, All-tail ArePrinted [] (part ∷ all) h)
first_printed false c (part ∷ all) e some h =
    let p = and_parts (is_path_byte c) (list_all is_path_byte part) (All-head ArePrinted (c ∷ part) all h) in
    (p.0, All-cons ArePrinted part all p.1 (All-tail ArePrinted (c ∷ part) all h))

all_printed : (path : Name) → All ArePrinted (parts_of path) → ArePrinted path
all_printed [] h = refl
all_printed (c ∷ path) h =
    let p = first_printed (is_dot c) c (parts_of path) refl (some_parts path) h in
    and_from (is_path_byte c) (list_all is_path_byte path) p.0 (all_printed path p.1)

-- its bytes are printed, since those of its parts and dots are
pub is_path : (path : Name) → HasParts path → IsPath path
is_path [] h = let s = (All-head IsPart [] [] h).some in absurd (omega (arith, s))
is_path (c ∷ more) h = record {
  some = omega arith;
  printed = AllPass-from_list_all is_path_byte (c ∷ more) (all_printed (c ∷ more) (All-weaker IsPart ArePrinted (λ part g. g.printed) (parts_of (c ∷ more)) h));
}
