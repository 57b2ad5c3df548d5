-- The constants and types that declarations bring are no signals; and what is judged, where nothing stands against it.
use Rattle.std.proofs.Common.{◌≡◌, ℕ, Bool, true, false, List, [], ◌∷◌, ◌++◌, Ok, Err, refl, subst}
use mathlib.Core.Former.{Count}
use Rattle.std.specs.Prelude.{ℤ, ◌+ℤ◌, pos, ◌+◌}
use Rattle.fourvec.specs.Bits.{signed_vector}
use Rattle.sv_outside.specs.declared.refusal.Place.{Place}
use Rattle.sv_outside.specs.declared.text.Signal.{Signal}
use Rattle.sv_tree.specs.declared.forms.EnumLabel.{EnumLabel}
use Rattle.sv_tree.specs.declared.forms.TypeTree.{TypeTree, Vector, Integer, Struct', Enum, Named, Row_of-Member, end_of-Member, more_of-Member}
use Rattle.sv_tree.specs.declared.forms.Member.{Of', end_of-TypeTree, more_of-TypeTree}
use Rattle.sv_meaning.specs.Faults.{Faults, fault_if, or_then, Judged, provided, ◌>>=◌}
use Rattle.sv_meaning.specs.Layouts.{Name, Layout, Members, width, Scope, with_names, What, number_is, find}
use Rattle.sv_meaning.specs.Meanings.{Meaning}
use Rattle.sv_meaning.specs.Forms.{Declared, Formed, entry_of, entries_of, has_sign, option_to_list, vector_layout, struct_layout, named_layout, label_number, label_entry, labels, texts_of, bits_of, member_faults, some_member, alone, form, forms}
use Rattle.sv_meaning.specs.Params.{ParamKind, kept, signed_as, sized_as, value_as}
use Rattle.scope_laws.proofs.Good.{IsGood}

-- ---- what is judged

-- what is found, and nothing against it
abbrev Found : {A : Type 0} → Judged A → A → Type 0
Found j y = j ≡ Ok y

pub same_ok : {A : Type 0} (x y : A) → Found (Ok x) y → x ≡ y
same_ok x y h = cc

pub bind_ok : {A B : Type 0} (j : Judged A) (f : A → Judged B) (y : B) → (j >>= f) ≡ Ok y → (x : A) × (j ≡ Ok x) × (f x ≡ Ok y)
bind_ok (Ok x) f y h = (x, refl, h)
bind_ok (Err e) f y h = cc

pub provided_ok : {A : Type 0} (all : Faults) (x y : A) → provided all x ≡ Ok y → x ≡ y
provided_ok [] x y h = same_ok x y h
provided_ok (f ∷ all) x y h = cc

pub no_faults : {A : Type 0} (all : Faults) (x y : A) → provided all x ≡ Ok y → all ≡ []
no_faults [] x y h = refl
no_faults (f ∷ all) x y h = cc

-- the parts of what is judged in turn, where nothing stands against the whole
pub first_clear : (a b : Faults) → or_then a b ≡ [] → a ≡ []
first_clear [] b h = refl
first_clear (f ∷ a) b h = cc

pub then_clear : (a b : Faults) → or_then a b ≡ [] → b ≡ []
then_clear [] b h = h
then_clear (f ∷ a) b h = cc

pub if_not : (b : Bool) (number : ℕ) (p : Place) → fault_if b number p ≡ [] → b ≡ false
if_not false number p h = refl
if_not true number p h = cc

-- ---- no signals

abbrev pub IsPlain : What → Type 0
IsPlain x = (wires : List Signal) → IsGood wires x

unfoldable pub ArePlain : List Declared → Type 0
ArePlain [] = Unit {0}
ArePlain (d ∷ more) = IsPlain d.1 × ArePlain more

none_plain : ArePlain []
unfolding ArePlain
none_plain = tt

both_plain : (a b : List Declared) → ArePlain a → ArePlain b → ArePlain (a ++ b)
unfolding ArePlain
both_plain [] b f g = g
both_plain (d ∷ a) b f g = (f.0, both_plain a b f.1 g)

-- ---- types

labels_plain : (at : Scope) (w : ℕ) (s : Bool) (next : ℤ) (all : List EnumLabel) (y : List Declared) → labels at w s next all ≡ Ok y → ArePlain y
unfolding labels ArePlain
labels_plain at w s next [] y h = subst ArePlain (same_ok [] y h) none_plain
labels_plain at w s next (x ∷ more) y h =
    let a = bind_ok (label_number at w next x.value) _ y h in
    let b = bind_ok (label_entry w s x.name a.0) _ y a.2 in
    let c = bind_ok (labels (with_names at (entry_of b.0 ∷ [])) w s (a.0 +ℤ pos 1) more) _ y b.2 in
    let e : (x.name, number_is (signed_vector w a.0) s) ≡ b.0 = provided_ok _ (x.name, number_is (signed_vector w a.0) s) b.0 b.1 in
    let p : IsPlain (number_is (signed_vector w a.0) s) = λ wires. tt in
    let q : IsPlain b.0.1 = subst (λ (d : Declared). IsPlain d.1) e p in
    subst ArePlain (same_ok (b.0 ∷ c.0) y c.2) (q, labels_plain (with_names at (entry_of b.0 ∷ [])) w s (a.0 +ℤ pos 1) more c.0 c.1)

no_names : (j : Judged Layout) (y : Formed) → (j >>= λ x. Ok (alone x)) ≡ Ok y → ArePlain y.1
no_names j y h = let a = bind_ok j (λ x. Ok (alone x)) y h in subst (λ (z : Formed). ArePlain z.1) (same_ok (alone a.0) y a.2) none_plain

abbrev Listed : Type 0
Listed = Members × List Declared

-- the members of a structure, which has some
abbrev with_members : Judged Listed → Judged Listed
with_members j = j >>= λ found. provided (some_member found.0) found

members_plain : (j : Judged Listed) (y : Listed) → ((z : Listed) → j ≡ Ok z → ArePlain z.1) → with_members j ≡ Ok y → ArePlain y.1
members_plain (Ok z) y f h = subst (λ (x : Listed). ArePlain x.1) (provided_ok (some_member z.0) z y h) (f z refl)
members_plain (Err all) y f h = cc

mutual
  unfolding form

  pub form_plain : (at : Scope) (t : TypeTree) (y : Formed) → form at t ≡ Ok y → ArePlain y.1
  form_plain at (Vector word s ranges) y h = no_names (vector_layout at (has_sign s) ranges) y h
  form_plain at Integer y h = subst (λ (z : Formed). ArePlain z.1) (same_ok _ y h) none_plain
  form_plain at (Named w ranges) y h = no_names (named_layout at w (find w.text at) ranges) y h
  form_plain at (Enum word s r all) y h =
      let a = bind_ok (vector_layout at (has_sign s) (option_to_list r)) _ y h in
      let b = bind_ok (labels at (width a.0) (has_sign s) (pos 0) all) _ y a.2 in
      subst (λ (z : Formed). ArePlain z.1) (same_ok (a.0, b.0) y b.2) (labels_plain at (width a.0) (has_sign s) (pos 0) all b.0 b.1)
  form_plain at (Struct' s r all ranges) y h =
      let a = bind_ok (with_members (forms at [] 0 all)) _ y h in
      let b = bind_ok (struct_layout (with_names at (entries_of a.0.1)) (has_sign s) ranges a.0.0) _ y a.2 in
      subst (λ (z : Formed). ArePlain z.1) (same_ok (b.0, a.0.1) y b.2) (members_plain (forms at [] 0 all) a.0 (forms_plain at [] 0 all) a.1)

  forms_plain : {m : Count} (at : Scope) (used : List Name) (bits : ℕ) (all : Row_of-Member m) (y : _) → forms at used bits all ≡ Ok y → ArePlain y.1
  forms_plain at used bits end_of-Member y h = subst (λ z. ArePlain z.1) (same_ok _ y h) none_plain
  forms_plain at used bits (more_of-Member (Of' r (more_of-TypeTree t end_of-TypeTree) names) all) y h =
      let a = bind_ok (form at t) _ y h in
      let b = bind_ok (provided (member_faults used bits a.0.0 names) a.0) _ y a.2 in
      let c = bind_ok (forms (with_names at (entries_of b.0.1)) (used ++ texts_of names) (bits + bits_of names (width b.0.0)) all) _ y b.2 in
      let same : a.0 ≡ b.0 = provided_ok (member_faults used bits a.0.0 names) a.0 b.0 b.1 in
      let own : ArePlain b.0.1 = subst (λ (z : Formed). ArePlain z.1) same (form_plain at t a.0 a.1) in
      subst (λ z. ArePlain z.1) (same_ok _ y c.2) (both_plain b.0.1 c.0.1 own (forms_plain (with_names at (entries_of b.0.1)) (used ++ texts_of names) (bits + bits_of names (width b.0.0)) all c.0 c.1))

-- ---- parameters

number_plain : (all : Faults) (v : _) (s : Bool) (y : What) → provided all (number_is v s) ≡ Ok y → IsPlain y
number_plain all v s y h = let p : IsPlain (number_is v s) = λ wires. tt in subst IsPlain (provided_ok all (number_is v s) y h) p

pub value_plain : (k : ParamKind) (m : Meaning) (y : What) → value_as k m ≡ Ok y → IsPlain y
value_plain kept m y h = number_plain _ _ _ y h
value_plain (signed_as s) m y h = number_plain _ _ _ y h
value_plain (sized_as w s) m y h = number_plain _ _ _ y h
