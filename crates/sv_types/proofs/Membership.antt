-- Members of structures, one by one.
use Rattle.std.proofs.Common.{◌≡◌, ℕ, zero, suc, ◌+◌, ◌≤◌, ◌<◌, Bool, true, false, ◌||◌, List, [], ◌∷◌, ◌++◌, length, take, drop, get_or, map, bytes_eq, Result, Ok, Err, refl, sym, ap, ◌∙◌, subst, arith, append_assoc, nat_le, nat_lt}
use Rattle.std.proofs.lemmas.Bool.Decides.{nat_tests}
use Rattle.std.proofs.lemmas.List.{map-append, append-nil, take_all}
use Rattle.std.proofs.Math.Seq.{drop-cons, drop-nil, take-suc}
use Rattle.sv_outside.specs.declared.refusal.TextErr.{TextErr}
use Rattle.sv_outside.specs.declared.refusal.TextErr.TheVariants.{No, Memory}
use Rattle.sv_tree.specs.declared.word.Word.{Word}
use Rattle.sv_meaning.specs.Faults.{Faults, fault_if, or_then, twice, bad_width}
use Rattle.sv_meaning.specs.Layouts as m
use Rattle.sv_meaning.specs.Names.{has_name}
use Rattle.sv_meaning.specs.Forms as f
use Rattle.sv_names.specs.declared.layout.Layout.{Layout}
use Rattle.sv_names.specs.declared.layout.Field.{Field}
use Rattle.sv_typing.specs.Judging.{IsCause}
use Rattle.sv_names.specs.Kinds.{layout_is, IsSound, members_of}
use Rattle.sv_typing.proofs.Lists.{in_left, in_right, in_first, in_fault, no_fault, both_clear, then_clear, none_in}
use Rattle.sv_names.proofs.Sound.{sound_is}
use Rattle.sv_types.specs.Types.{field_names, field_of, fields_of, IsField, JudgesField, AreFields, JudgesFields}

-- ---- lists of names that have the same names

Alike : List m.Name → List m.Name → Type 0
Alike a b = (n : m.Name) → has_name n a ≡ has_name n b

or_assoc : (a b c : Bool) → ((a || b) || c) ≡ (a || (b || c))
or_assoc true b c = refl
or_assoc false b c = refl

or_swap : (a b : Bool) → (a || b) ≡ (b || (a || false))
or_swap true true = refl
or_swap true false = refl
or_swap false true = refl
or_swap false false = refl

has_append : (n : m.Name) (a b : List m.Name) → has_name n (a ++ b) ≡ (has_name n a || has_name n b)
unfolding has_name
has_append n [] b = refl
has_append n (x ∷ a) b = ap (λ z. bytes_eq x n || z) (has_append n a b) ∙ sym (or_assoc (bytes_eq x n) (has_name n a) (has_name n b))

alike_end : (x : m.Name) (a : List m.Name) → Alike (x ∷ a) (a ++ x ∷ [])
unfolding Alike has_name
alike_end x a n = or_swap (bytes_eq x n) (has_name n a) ∙ sym (has_append n a (x ∷ []))

alike_more : (x : m.Name) (a b : List m.Name) → Alike a b → Alike (x ∷ a) (x ∷ b)
unfolding Alike has_name
alike_more x a b h n = ap (λ z. bytes_eq x n || z) (h n)

-- a member behind so many bits makes too many, or is nested too deep
abbrev pub is_large : ℕ → m.Layout → Bool
is_large bits x = nat_lt 128 (bits + m.width x) || nat_le 1000 (m.depth x)

faults_alike : (words : List Word) (a b : List m.Name) (bits : ℕ) (x : m.Layout) → Alike a b → f.member_faults a bits x words ≡ f.member_faults b bits x words
unfolding f.member_faults Alike
faults_alike [] a b bits x h = refl
faults_alike (n ∷ words) a b bits x h =
    ap (λ z. or_then (fault_if z twice n.place ++ fault_if (is_large bits x) bad_width n.place) (f.member_faults (n.text ∷ a) (bits + m.width x) x words)) (h n.text)
    ∙ ap (or_then (fault_if (has_name n.text b) twice n.place ++ fault_if (is_large bits x) bad_width n.place)) (faults_alike words (n.text ∷ a) (n.text ∷ b) (bits + m.width x) x (alike_more n.text a b h))

-- ---- one member more

or_nothing : (a b : Faults) → or_then a [] ≡ [] → or_then a b ≡ b
or_nothing [] b h = refl
or_nothing (x ∷ a) b h = cc

faults_step : (used : List m.Name) (bits : ℕ) (x : m.Layout) (n : Word) (more : List Word) → f.member_faults used bits x (n ∷ []) ≡ [] → f.member_faults used bits x (n ∷ more) ≡ f.member_faults (used ++ n.text ∷ []) (bits + m.width x) x more
unfolding f.member_faults
faults_step used bits x n more h = or_nothing _ (f.member_faults (n.text ∷ used) (bits + m.width x) x more) h ∙ faults_alike more (n.text ∷ used) (used ++ n.text ∷ []) (bits + m.width x) x (alike_end n.text used)

in_more : (a b : Faults) (e : TextErr) → IsCause (or_then a []) e → IsCause (or_then a b) e
in_more a b Memory h = tt
in_more [] b (No r) h = absurd (none_in [] r refl h)
in_more (x ∷ a) b (No r) h = h

faults_here : (used : List m.Name) (bits : ℕ) (x : m.Layout) (n : Word) (more : List Word) (e : TextErr) → IsCause (f.member_faults used bits x (n ∷ [])) e → IsCause (f.member_faults used bits x (n ∷ more)) e
unfolding f.member_faults
faults_here used bits x n more e h = in_more _ (f.member_faults (n.text ∷ used) (bits + m.width x) x more) e h

pub name_twice : (x : Layout) (n : Word) (old : List Field) → has_name n.text (field_names old) ≡ true → IsCause (f.member_faults (field_names old) (m.width_all (members_of old)) (layout_is x) (n ∷ [])) (No (record { number = twice; place = n.place; count = 0 }))
unfolding f.member_faults
name_twice x n old h = in_first _ _ _ (in_left _ _ _ (in_fault _ twice n.place h))

-- what code finds of it
pub large_is : (x : Layout) (old : List Field) (bits : ℕ) (deep large : Bool) → IsSound x → bits ≡ m.width_all (members_of old) → deep ≡ nat_le 1000 (m.depth (layout_is x)) → large ≡ (nat_lt 128 (bits + x.width) || deep) → large ≡ is_large (m.width_all (members_of old)) (layout_is x)
large_is x old bits deep large s b d e = e ∙ (λ i. nat_lt 128 (b i + sound_is x s i) || d i)

below_128 : (n : ℕ) → nat_lt 128 n ≡ false → n ≤ 128
below_128 n h = grind (arith, nat_tests)

none_holds : (a b : Bool) → (a || b) ≡ false → a ≡ false
none_holds true b h = h
none_holds false b h = refl

pub not_large : (bits width : ℕ) (deep large : Bool) → large ≡ (nat_lt 128 (bits + width) || deep) → large ≡ false → bits + width ≤ 128
not_large bits width deep large h e = below_128 (bits + width) (none_holds (nat_lt 128 (bits + width)) deep (sym h ∙ e))

pub too_large : (x : Layout) (n : Word) (old : List Field) → is_large (m.width_all (members_of old)) (layout_is x) ≡ true → IsCause (f.member_faults (field_names old) (m.width_all (members_of old)) (layout_is x) (n ∷ [])) (No (record { number = bad_width; place = n.place; count = 0 }))
unfolding f.member_faults
too_large x n old h = in_first _ _ _ (in_right (fault_if (has_name n.text (field_names old)) twice n.place) _ _ (in_fault _ bad_width n.place h))

-- ---- members in order

unfoldable pub chained : m.Members → m.Members → m.Members
chained m.no_members b = b
chained (m.member n x a) b = m.member n x (chained a b)

pub members_append : (a b : List Field) → members_of (a ++ b) ≡ chained (members_of a) (members_of b)
unfolding chained
members_append [] b = refl
members_append (x ∷ a) b = ap (m.member x.name (layout_is x.layout)) (members_append a b)

width_chained : (a b : m.Members) → m.width_all (chained a b) ≡ m.width_all a + m.width_all b
unfolding chained
width_chained m.no_members b = omega arith
width_chained (m.member n x a) b = let e = width_chained a b in omega arith

pub width_more : (old : List Field) (x : Layout) (n : Word) → m.width_all (members_of (old ++ field_of x n ∷ [])) ≡ m.width_all (members_of old) + m.width (layout_is x)
width_more old x n =
    let e = ap m.width_all (members_append old (field_of x n ∷ [])) ∙ width_chained (members_of old) (members_of (field_of x n ∷ [])) in
    omega arith

pub names_more : (old : List Field) (x : Layout) (n : Word) → field_names (old ++ field_of x n ∷ []) ≡ field_names old ++ n.text ∷ []
names_more old x n = map-append (λ (y : Field). y.name) old (field_of x n ∷ [])

pub field_ok : (x : Layout) (n : Word) (old new : List Field) (bits : ℕ) → IsSound x → has_name n.text (field_names old) ≡ false → is_large (m.width_all (members_of old)) (layout_is x) ≡ false → bits ≡ m.width_all (members_of old) + x.width → bits ≤ 128 → new ≡ old ++ field_of x n ∷ [] → IsField x n old new bits
unfolding f.member_faults
field_ok x n old new bits s h large b most e = record {
  clear = then_clear _ _ (both_clear _ _ (no_fault _ twice n.place h) (no_fault _ bad_width n.place large)) refl;
  is = e;
  counted = b ∙ ap (λ w. m.width_all (members_of old) + w) (sound_is x s) ∙ sym (ap (λ z. m.width_all (members_of z)) e ∙ width_more old x n);
  most = most;
}

-- ---- a member of each of the names

pub record Adds (x : Layout) (words : List Word) (old now : List Field) (i bits : ℕ) : Type 0 where
  pub faults : f.member_faults (field_names old) (m.width_all (members_of old)) (layout_is x) words ≡ f.member_faults (field_names now) (m.width_all (members_of now)) (layout_is x) (drop i words)
  pub is : now ≡ old ++ fields_of x (take i words)
  pub counted : bits ≡ m.width_all (members_of now)
  pub most : bits ≤ 128

pub adds_begin : (x : Layout) (words : List Word) (old : List Field) (bits : ℕ) → bits ≡ m.width_all (members_of old) → bits ≤ 128 → Adds x words old old 0 bits
adds_begin x words old bits b most = record { faults = refl; is = sym (append-nil old); counted = b; most = most }

split : (all : List Word) (i : ℕ) (x : Word) → i < length all → x ≡ get_or all i x → drop i all ≡ x ∷ drop (suc i) all
split all i x h e = drop-cons all i x h ∙ ap (λ (z : Word). z ∷ drop (suc i) all) (sym e)

take_more : (all : List Word) (i j : ℕ) (x : Word) → i < length all → j ≡ suc i → x ≡ get_or all i x → take j all ≡ take i all ++ x ∷ []
take_more all i j x h k e = ap (λ (z : ℕ). take z all) k ∙ take-suc all i x h ∙ ap (λ (z : Word). take i all ++ z ∷ []) (sym e)

pub adds_go : (x : Layout) (words : List Word) (old now new : List Field) (i j bits next : ℕ) (n : Word) → i < length words → j ≡ suc i → n ≡ get_or words i n → Adds x words old now i bits → IsField x n now new next → Adds x words old new j next
adds_go x words old now new i j bits next n lt ji g h k = record {
  faults =
      h.faults ∙ ap (f.member_faults (field_names now) (m.width_all (members_of now)) (layout_is x)) (split words i n lt g)
      ∙ faults_step (field_names now) (m.width_all (members_of now)) (layout_is x) n (drop (suc i) words) k.clear
      ∙ ap (λ z. f.member_faults z (m.width_all (members_of now) + m.width (layout_is x)) (layout_is x) (drop (suc i) words)) (sym (ap field_names k.is ∙ names_more now x n))
      ∙ ap (λ z. f.member_faults (field_names new) z (layout_is x) (drop (suc i) words)) (sym (ap (λ z. m.width_all (members_of z)) k.is ∙ width_more now x n))
      ∙ ap (λ (z : ℕ). f.member_faults (field_names new) (m.width_all (members_of new)) (layout_is x) (drop z words)) (sym ji);
  is =
      k.is ∙ ap (λ z. z ++ field_of x n ∷ []) h.is ∙ append_assoc old (fields_of x (take i words)) (field_of x n ∷ [])
      ∙ ap (λ z. old ++ z) (sym (ap (map (field_of x)) (take_more words i j n lt ji g) ∙ map-append (field_of x) (take i words) (n ∷ [])));
  counted = k.counted;
  most = k.most;
}

pub adds_cause : (x : Layout) (words : List Word) (old now : List Field) (i bits : ℕ) (n : Word) (e : TextErr) → i < length words → n ≡ get_or words i n → Adds x words old now i bits →
    IsCause (f.member_faults (field_names now) (m.width_all (members_of now)) (layout_is x) (n ∷ [])) e → IsCause (f.member_faults (field_names old) (m.width_all (members_of old)) (layout_is x) words) e
adds_cause x words old now i bits n e lt g h k =
    subst (λ z. IsCause z e) (sym (h.faults ∙ ap (f.member_faults (field_names now) (m.width_all (members_of now)) (layout_is x)) (split words i n lt g)))
    (faults_here (field_names now) (m.width_all (members_of now)) (layout_is x) n (drop (suc i) words) e k)

drop_none : (all : List Word) (i : ℕ) → length all ≤ i → drop i all ≡ []
drop_none [] i h = drop-nil i
drop_none (r ∷ all) zero h = absurd (omega arith)
drop_none (r ∷ all) (suc i) h = drop_none all i (omega arith)

pub adds_end : (x : Layout) (words : List Word) (old now : List Field) (i bits : ℕ) → length words ≤ i → Adds x words old now i bits → AreFields x words old now bits
unfolding f.member_faults
adds_end x words old now i bits lt h = record {
  clear = h.faults ∙ ap (f.member_faults (field_names now) (m.width_all (members_of now)) (layout_is x)) (drop_none words i lt);
  is = h.is ∙ ap (λ z. old ++ fields_of x z) (take_all i words lt);
  counted = h.counted;
  most = h.most;
}

-- ---- whether a member has a name

pub name_here : (n : m.Name) (all : List Field) (i : ℕ) (x : Field) (b : Bool) → i < length all → x ≡ get_or all i x → bytes_eq x.name n ≡ true → has_name n (field_names (drop i all)) ≡ b → true ≡ b
unfolding has_name
name_here n all i x b lt g e h =
    let s : drop i all ≡ x ∷ drop (suc i) all = drop-cons all i x lt ∙ ap (λ (z : Field). z ∷ drop (suc i) all) (sym g) in
    sym (ap (λ z. z || has_name n (field_names (drop (suc i) all))) e) ∙ sym (ap (λ z. has_name n (field_names z)) s) ∙ h

pub name_behind : (n : m.Name) (all : List Field) (i j : ℕ) (x : Field) (b : Bool) → i < length all → j ≡ suc i → x ≡ get_or all i x → bytes_eq x.name n ≡ false → has_name n (field_names (drop i all)) ≡ b → has_name n (field_names (drop j all)) ≡ b
unfolding has_name
name_behind n all i j x b lt ji g e h =
    let s : drop i all ≡ x ∷ drop (suc i) all = drop-cons all i x lt ∙ ap (λ (z : Field). z ∷ drop (suc i) all) (sym g) in
    ap (λ (z : ℕ). has_name n (field_names (drop z all))) ji ∙ sym (ap (λ z. z || has_name n (field_names (drop (suc i) all))) e) ∙ sym (ap (λ z. has_name n (field_names z)) s) ∙ h

fields_end : (all : List Field) (i : ℕ) → length all ≤ i → drop i all ≡ []
fields_end [] i h = drop-nil i
fields_end (r ∷ all) zero h = absurd (omega arith)
fields_end (r ∷ all) (suc i) h = fields_end all i (omega arith)

pub no_name : (n : m.Name) (all : List Field) (i : ℕ) (b : Bool) → length all ≤ i → has_name n (field_names (drop i all)) ≡ b → false ≡ b
unfolding has_name
no_name n all i b lt h = sym (ap (λ z. has_name n (field_names z)) (fields_end all i lt)) ∙ h

-- ---- what a result says where it is known

pub field_of_result : (x : Layout) (w : Word) (old new : List Field) (r : Result ℕ TextErr) (bits : ℕ) → r ≡ Ok bits → JudgesField x w old new r → IsField x w old new bits
field_of_result x w old new r bits e h = subst (JudgesField x w old new) e h

pub field_refused : (x : Layout) (w : Word) (old new : List Field) (r : Result ℕ TextErr) (e : TextErr) → r ≡ Err e → JudgesField x w old new r → IsCause (f.member_faults (field_names old) (m.width_all (members_of old)) (layout_is x) (w ∷ [])) e
field_refused x w old new r e k h = subst (JudgesField x w old new) k h

pub fields_of_result : (x : Layout) (words : List Word) (old new : List Field) (r : Result ℕ TextErr) (bits : ℕ) → r ≡ Ok bits → JudgesFields x words old new r → AreFields x words old new bits
fields_of_result x words old new r bits e h = subst (JudgesFields x words old new) e h

pub fields_refused : (x : Layout) (words : List Word) (old new : List Field) (r : Result ℕ TextErr) (e : TextErr) → r ≡ Err e → JudgesFields x words old new r → IsCause (f.member_faults (field_names old) (m.width_all (members_of old)) (layout_is x) words) e
fields_refused x words old new r e k h = subst (JudgesFields x words old new) k h
