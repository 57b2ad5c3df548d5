-- What layouts, and what names stand for, mean; and which layouts are sound.
use Rattle.std.specs.Prelude.{◌≡◌, ℕ, ◌≤◌, min, Bool, IsTrue, List, [], ◌∷◌, map}
use mathlib.Core.Former.{Count}
use Rattle.sv_names.specs.declared.layout.Layout.{Layout}
use Rattle.sv_names.specs.declared.layout.Field.{Field}
use Rattle.sv_names.specs.declared.layout.What.{What}
use Rattle.sv_names.specs.declared.layout.What.TheVariants.{Number, Kind, Wire, Chosen, Sampled, Genvar}
use Rattle.sv_names.specs.declared.layout.Form.{Form, Scalar, Dim', Members', Row_of-Field, end_of-Field, more_of-Field, end_of-Layout, more_of-Layout, end_of-Form-Members-0-1, more_of-Form-Members-0-1}
use Rattle.sv_meaning.specs.Layouts as m
use Rattle.sv_meaning.specs.Meanings.{is_bound}

-- ---- meaning

abbrev mutual
  pub form_is : Bool → Form → m.Layout
  form_is s Scalar = m.scalar s
  form_is s (Dim' l r t (more_of-Layout w each d form end_of-Layout)) = m.dim s l r (form_is each form)
  form_is s (Members' t (more_of-Form-Members-0-1 n all end_of-Form-Members-0-1)) = m.struct s (members_are all)

  pub members_are : {n : Count} → Row_of-Field n → m.Members
  members_are end_of-Field = m.no_members
  members_are (more_of-Field n w s d form all) = m.member n (form_is s form) (members_are all)

abbrev pub layout_is : Layout → m.Layout
layout_is x = form_is x.signed x.form

abbrev pub what_is : What → m.What
what_is (Number k) = m.number_is k.value k.signed
what_is (Kind x) = m.type_is (layout_is x)
what_is (Wire n x) = m.signal_is m.of_wires n (layout_is x)
what_is (Chosen n x) = m.signal_is m.of_choice n (layout_is x)
what_is (Sampled n x) = m.signal_is m.of_samples n (layout_is x)
what_is Genvar = m.genvar_is

-- ---- soundness: each width is that of its layout, and 1 to 128; each depth is that of its layout, counted to 1,000; each bound of a
-- range has 32 bits

abbrev pub IsWidth : ℕ → m.Layout → Type 0
IsWidth w x = (w ≡ m.width x) × (1 ≤ w) × (w ≤ 128)

abbrev pub HasSize : ℕ → ℕ → m.Layout → Type 0
HasSize w d x = IsWidth w x × (d ≡ min 1000 (m.depth x))

abbrev mutual
  pub FormIsSound : ℕ → Bool → ℕ → Form → Type 0
  FormIsSound w s d Scalar = HasSize w d (m.scalar s)
  FormIsSound w s d (Dim' l r t (more_of-Layout v each e form end_of-Layout)) =
      HasSize w d (m.dim s l r (form_is each form)) × IsTrue (is_bound l) × IsTrue (is_bound r) × FormIsSound v each e form
  FormIsSound w s d (Members' t (more_of-Form-Members-0-1 n all end_of-Form-Members-0-1)) = HasSize w d (m.struct s (members_are all)) × MembersAreSound all

  pub MembersAreSound : {n : Count} → Row_of-Field n → Type 0
  MembersAreSound end_of-Field = Unit {0}
  MembersAreSound (more_of-Field n w s d form all) = FormIsSound w s d form × MembersAreSound all

abbrev pub IsSound : Layout → Type 0
IsSound x = FormIsSound x.width x.signed x.depth x.form

-- members as code lists them
abbrev pub members_of : List Field → m.Members
members_of [] = m.no_members
members_of (f ∷ all) = m.member f.name (layout_is f.layout) (members_of all)

abbrev pub FieldIsSound : Field → Type 0
FieldIsSound f = IsSound f.layout

abbrev pub WhatIsSound : What → Type 0
WhatIsSound (Kind x) = IsSound x
WhatIsSound (Wire n x) = IsSound x
WhatIsSound (Chosen n x) = IsSound x
WhatIsSound (Sampled n x) = IsSound x
WhatIsSound x = Unit {0}

-- ---- names

abbrev pub Entry : Type 0
Entry = List ℕ × What

abbrev pub EntryIsSound : Entry → Type 0
EntryIsSound e = WhatIsSound e.1

abbrev pub entry_is : Entry → m.Name × m.What
entry_is e = (e.0, what_is e.1)

abbrev pub entries_are : List Entry → List m.Entry
entries_are all = map entry_is all

abbrev pub names_of : List Entry → List (List ℕ)
names_of all = map (λ (e : Entry). e.0) all
