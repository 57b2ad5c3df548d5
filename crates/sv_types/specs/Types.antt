-- Types as code finds them: layouts, and the constants that they declare.
use Rattle.std.specs.Prelude.{◌≡◌, ℕ, ◌+◌, ◌≤◌, ◌^◌, Bool, IsTrue, List, [], ◌∷◌, ◌++◌, map, Option, ℤ, pos, negsuc, Result, Ok, Err}
use Rattle.std.specs.List.{All}
use Rattle.sv_outside.specs.declared.refusal.Place.{Place}
use Rattle.sv_outside.specs.declared.refusal.TextErr.{TextErr}
use Rattle.sv_tree.specs.declared.word.Word.{Word}
use Rattle.sv_tree.specs.declared.forms.Range.{Range}
use Rattle.sv_tree.specs.declared.forms.EnumLabel.{EnumLabel}
use Rattle.sv_tree.specs.declared.forms.Member.{Member, Of', end_of-TypeTree, more_of-TypeTree}
use Rattle.sv_meaning.specs.Faults.{Judged, faults_of, provided, both, ◌>>=◌}
use Rattle.sv_meaning.specs.Layouts as m
use Rattle.sv_meaning.specs.Meanings.{is_bound}
use Rattle.sv_meaning.specs.Forms as f
use Rattle.sv_names.specs.declared.layout.Layout.{Layout}
use Rattle.sv_names.specs.declared.layout.Field.{Field}
use Rattle.sv_names.specs.declared.layout.What.TheVariants.{Number}
use Rattle.sv_names.specs.declared.names.Names.{Names}
use Rattle.sv_typing.specs.Judging.{IsCause}
use Rattle.sv_names.specs.Kinds.{Entry, layout_is, IsSound, FieldIsSound, members_of}
use Rattle.sv_names.specs.Names.{stack_of, loops_of}
use Rattle.sv_types.specs.declared.bounds.Bounds.{Bounds}
use Rattle.sv_types.specs.declared.whole.Whole.{Whole}
use Rattle.sv_types.specs.declared.whole.Whole.TheVariants as whole
use Rattle.sv_types.specs.declared.enumerators.Enumerator.{Enumerator}
use Rattle.sv_types.specs.declared.forms.Formed.{Formed}
use Rattle.sv_types.specs.declared.forms.Listed.{Listed}

-- one of the faults of what is judged, or want of memory
abbrev pub Refused : {A : Type 0} → Judged A → TextErr → Type 0
Refused j e = IsCause (faults_of j) e

-- ---- ranges

pub record IsBound (j : Judged ℤ) (n : ℤ) : Type 0 where
  pub is : j ≡ Ok n
  pub bound : IsTrue (is_bound n)

abbrev pub JudgesBound : Judged ℤ → Result ℤ TextErr → Type 0
JudgesBound j (Ok n) = IsBound j n
JudgesBound j (Err e) = Refused j e

abbrev pub JudgesBounds : Judged (ℤ × ℤ) → Result Bounds TextErr → Type 0
JudgesBounds j (Ok b) = j ≡ Ok (b.left, b.right)
JudgesBounds j (Err e) = Refused j e

-- a sound layout, or why there is none
pub record IsLayout (j : Judged m.Layout) (x : Layout) : Type 0 where
  pub is : j ≡ Ok (layout_is x)
  pub sound : IsSound x

abbrev pub JudgesLayout : Judged m.Layout → Result Layout TextErr → Type 0
JudgesLayout j (Ok x) = IsLayout j x
JudgesLayout j (Err e) = Refused j e

-- a range of such a layout, each judged by itself
abbrev pub ranged_form : Place → Bool → Judged m.Layout → Judged (ℤ × ℤ) → Judged m.Layout
ranged_form p s j k = both j k >>= f.ranged_layout p s

-- ---- enumerations

abbrev pub whole_is : Whole → ℤ
whole_is (whole.Natural n) = pos n
whole_is (whole.Below n) = negsuc n
whole_is whole.Past = pos (2 ^ 128)

abbrev pub JudgesWhole : Judged ℤ → Result Whole TextErr → Type 0
JudgesWhole j (Ok n) = j ≡ Ok (whole_is n)
JudgesWhole j (Err e) = Refused j e

-- what a constant is declared as, with the place of its name
abbrev pub declared_is : Enumerator → f.Declared
declared_is e = (record { text = e.name; place = e.place }, m.number_is e.value.value e.value.signed)

abbrev pub all_declared : List Enumerator → List f.Declared
all_declared all = map declared_is all

abbrev pub JudgesEntry : Judged f.Declared → Result Enumerator TextErr → Type 0
JudgesEntry j (Ok e) = j ≡ Ok (declared_is e)
JudgesEntry j (Err e) = Refused j e

-- the same among names
abbrev pub pushed : Enumerator → Entry
pushed e = (e.name, Number e.value)

-- The names with more of them above.
pub record IsAbove (old new : Names) (more : List Entry) : Type 0 where
  pub frames : stack_of new ≡ stack_of old
  pub loops : loops_of new ≡ loops_of old ++ more

-- the names where a call is refused in the middle
abbrev pub Left : Names → Names → Type 0
Left old new = (more : List Entry) × IsAbove old new more

pub record IsLeft {A : Type 0} (j : Judged A) (old new : Names) (e : TextErr) : Type 0 where
  pub cause : Refused j e
  pub left : Left old new

-- the constants of labels, which are names from there on
pub record AreLabels (j : Judged (List f.Declared)) (old new : Names) (all : List Enumerator) : Type 0 where
  pub is : j ≡ Ok (all_declared all)
  pub names : IsAbove old new (map pushed all)

abbrev pub JudgesLabels : Judged (List f.Declared) → Names → Names → Result (List Enumerator) TextErr → Type 0
JudgesLabels j old new (Ok all) = AreLabels j old new all
JudgesLabels j old new (Err e) = IsLeft j old new e

-- ---- structures

abbrev pub field_names : List Field → List m.Name
field_names all = map (λ x. x.name) all

abbrev pub field_of : Layout → Word → Field
field_of x w = record { name = w.text; layout = x }

abbrev pub fields_of : Layout → List Word → List Field
fields_of x all = map (field_of x) all

-- members with a name more, and the bits of all
pub record IsField (x : Layout) (w : Word) (old new : List Field) (bits : ℕ) : Type 0 where
  pub clear : f.member_faults (field_names old) (m.width_all (members_of old)) (layout_is x) (w ∷ []) ≡ []
  pub is : new ≡ old ++ field_of x w ∷ []
  pub counted : bits ≡ m.width_all (members_of new)
  pub most : bits ≤ 128

abbrev pub JudgesField : Layout → Word → List Field → List Field → Result ℕ TextErr → Type 0
JudgesField x w old new (Ok bits) = IsField x w old new bits
JudgesField x w old new (Err e) = IsCause (f.member_faults (field_names old) (m.width_all (members_of old)) (layout_is x) (w ∷ [])) e

pub record AreFields (x : Layout) (words : List Word) (old new : List Field) (bits : ℕ) : Type 0 where
  pub clear : f.member_faults (field_names old) (m.width_all (members_of old)) (layout_is x) words ≡ []
  pub is : new ≡ old ++ fields_of x words
  pub counted : bits ≡ m.width_all (members_of new)
  pub most : bits ≤ 128

abbrev pub JudgesFields : Layout → List Word → List Field → List Field → Result ℕ TextErr → Type 0
JudgesFields x words old new (Ok bits) = AreFields x words old new bits
JudgesFields x words old new (Err e) = IsCause (f.member_faults (field_names old) (m.width_all (members_of old)) (layout_is x) words) e

-- sound members of no more than 128 bits
pub record IsListed (x : Listed) : Type 0 where
  pub bits : x.bits ≡ m.width_all (members_of x.fields)
  pub most : x.bits ≤ 128
  pub sound : All FieldIsSound x.fields

-- members as code lists them
unfoldable pub forms_of : m.Scope → List m.Name → ℕ → List Member → Judged (m.Members × List f.Declared)
forms_of at used bits [] = Ok (m.no_members, [])
forms_of at used bits (Of' r (more_of-TypeTree t end_of-TypeTree) names ∷ all) = do
  x ← f.form at t
  y ← provided (f.member_faults used bits x.0 names) x
  rest ← forms_of (m.with_names at (f.entries_of y.1)) (used ++ f.texts_of names) (bits + f.bits_of names (m.width y.0)) all
  Ok (f.members_of names y.0 rest.0, y.1 ++ rest.1)

-- members that are judged, and the constants that their types declare, which are names from there on
pub record AreMembers (j : Judged (m.Members × List f.Declared)) (old new : Names) (x : Listed) : Type 0 where
  pub is : j ≡ Ok (members_of x.fields, all_declared x.declared)
  pub names : IsAbove old new (map pushed x.declared)
  pub listed : IsListed x

abbrev pub JudgesMembers : Judged (m.Members × List f.Declared) → Names → Names → Result Listed TextErr → Type 0
JudgesMembers j old new (Ok x) = AreMembers j old new x
JudgesMembers j old new (Err e) = IsLeft j old new e

-- the members of one type, behind others
abbrev pub joined_form : Judged f.Formed → Listed → List Word → Judged f.Formed
joined_form j x words = j >>= λ y. provided (f.member_faults (field_names x.fields) x.bits y.0 words) y

pub record IsJoined (j : Judged f.Formed) (old new : Names) (x : Listed) (words : List Word) (next : Listed) : Type 0 where
  pub layout : Layout
  pub more : List Enumerator
  pub is : joined_form j x words ≡ Ok (layout_is layout, all_declared more)
  pub fields : next.fields ≡ x.fields ++ fields_of layout words
  pub declared : next.declared ≡ x.declared ++ more
  pub names : IsAbove old new (map pushed next.declared)
  pub listed : IsListed next

abbrev pub JudgesJoined : Judged f.Formed → Names → Names → Listed → List Word → Result Listed TextErr → Type 0
JudgesJoined j old new x words (Ok next) = IsJoined j old new x words next
JudgesJoined j old new x words (Err e) = IsLeft (joined_form j x words) old new e

-- ---- types

-- a layout with no constants
abbrev pub alone_form : Judged m.Layout → Judged f.Formed
alone_form j = j >>= λ x. Ok (f.alone x)

abbrev pub enum_form : m.Scope → Bool → Option Range → List EnumLabel → Judged f.Formed
enum_form at s r all = do
  base ← f.vector_layout at s (f.option_to_list r)
  found ← f.labels at (m.width base) s (pos 0) all
  Ok (base, found)

-- a structure of these members, of which there is one
abbrev pub struct_of : m.Scope → Bool → List Range → m.Members → Judged m.Layout
struct_of at s ranges all = provided (f.some_member all) all >>= f.struct_layout at s ranges

abbrev pub struct_form : m.Scope → Bool → List Range → Judged (m.Members × List f.Declared) → Judged f.Formed
struct_form at s ranges j = do
  found ← j >>= λ all. provided (f.some_member all.0) all
  x ← f.struct_layout (m.with_names at (f.entries_of found.1)) s ranges found.0
  Ok (x, found.1)

-- a type, and the constants that it declares, which are names from there on
pub record IsForm (j : Judged f.Formed) (old new : Names) (x : Formed) : Type 0 where
  pub is : j ≡ Ok (layout_is x.layout, all_declared x.declared)
  pub names : IsAbove old new (map pushed x.declared)
  pub sound : IsSound x.layout

abbrev pub Forms : Judged f.Formed → Names → Names → Result Formed TextErr → Type 0
Forms j old new (Ok x) = IsForm j old new x
Forms j old new (Err e) = IsLeft j old new e

-- what a type is found to be
pub record IsFormed (j : Judged f.Formed) (x : Formed) : Type 0 where
  pub is : j ≡ Ok (layout_is x.layout, all_declared x.declared)
  pub sound : IsSound x.layout

abbrev pub JudgesForm : Judged f.Formed → Result Formed TextErr → Type 0
JudgesForm j (Ok x) = IsFormed j x
JudgesForm j (Err e) = Refused j e

abbrev pub layout_part : f.Formed → Judged m.Layout
layout_part x = Ok x.0

abbrev pub JudgesType : Judged f.Formed → Result Layout TextErr → Type 0
JudgesType j r = JudgesLayout (j >>= layout_part) r
