-- What a typed expression stands for: its bits in a context, the signals that it names, and which trees are sound.
-- Sections are those of IEEE 1800-2017.
use Rattle.std.specs.Prelude.{◌≡◌, ℕ, ◌≤◌, ◌*◌, ◌+◌, max, Bool, true, false, ◌&&◌, List, [], ◌∷◌, ◌++◌, length, Option, Some, None, ℤ, pos, negsuc, if◌then◌else◌}
use Rattle.std.specs.List.{Contains}
use mathlib.Core.Former.{Count}
use Rattle.fourvec.specs.declared.Bit.{Bit}
use Rattle.fourvec.specs.declared.Spot.{Spot}
use Rattle.fourvec.specs.Bits.{is_known, all_x, truth_of, cond_of}
use Rattle.fourvec.specs.Spots.{place_of}
use Rattle.sv_outside.specs.declared.refusal.Place.{Place}
use Rattle.sv_literal.specs.declared.meaning.Literal as l
use Rattle.sv_meaning.specs.Faults.{Faults}
use Rattle.sv_meaning.specs.Layouts.{Read, Origin as Owner, of_wires, of_choice, of_samples, NamedSignal}
use Rattle.sv_meaning.specs.Meanings.{Meaning, nowhere, literal_value, extend, fitted, whole, power_of, copies, bits_at, bits_from}
use Rattle.sv_typed.specs.declared.tree.Typed.{Typed}
use Rattle.sv_typed.specs.declared.tree.TypedForm.{TypedForm, Literal, Named', Turned', Reduced', Computed', Moved', Compared', Combined', Chosen', Power', Concat', Repeat', Standing', Fitted', Row_of-Typed, end_of-Typed, more_of-Typed, Row_of-Pick, end_of-Pick, more_of-Pick}
use Rattle.sv_typed.specs.declared.tree.Pick.{Pick}
use Rattle.sv_typed.specs.declared.tree.PickPlace.{PickPlace, Fixed, Moving'}
use Rattle.sv_typed.specs.declared.tree.Root.{Root}
use Rattle.sv_typed.specs.declared.tree.Root.TheVariants.{Number, Signal}
use Rattle.sv_typed.specs.declared.tree.Origin.{Origin}
use Rattle.sv_typed.specs.declared.tree.Origin.TheVariants as origin
use Rattle.sv_typed.specs.Ops.{turned, reduced, computed, moved, compared, combined}

-- ---- names

abbrev pub origin_is : Origin → Owner
origin_is origin.Wires = of_wires
origin_is origin.Choice = of_choice
origin_is origin.Samples = of_samples

-- the bits of a whole constant or signal
abbrev pub root_bits : Root → Read → List Bit
root_bits (Number v) read = v
root_bits (Signal o n w) read = bits_from (read (origin_is o) n) 0 w

abbrev pub root_width : Root → ℕ
root_width (Number v) = length v
root_width (Signal o n w) = w

abbrev pub root_names : Root → List NamedSignal
root_names (Number v) = []
root_names (Signal o n w) = record { owner = origin_is o; number = n; width = w } ∷ []

abbrev pub root_is_constant : Root → Bool
root_is_constant (Number v) = true
root_is_constant (Signal o n w) = false

-- where the part at an index begins, which is nowhere where the index has an unknown bit
abbrev pub spot_place : Spot → List Bit → Option ℤ
spot_place spot at = if is_known at then Some (place_of spot at) else None

-- ---- values

-- the exponent that such bits give, none where a bit is unknown or the number is below 0
abbrev pub natural : ℤ → Option ℕ
natural (pos n) = Some n
natural (negsuc n) = None

abbrev pub exponent_of : Bool → List Bit → Option ℕ
exponent_of s b = if is_known b then natural (whole s b) else None

abbrev pub raised : ℕ → List Bit → Option ℕ → List Bit
raised w a None = all_x w
raised w a (Some n) = power_of w a n

-- The bits in a context of a width and sign, of a form whose own width comes first.
unfoldable mutual
  pub form_worth : ℕ → TypedForm → Read → ℕ → Bool → List Bit
  form_worth n (Literal l) read w s = literal_value l w s
  form_worth n (Named' root k picks) read w s = extend s w (row_picked picks read (root_bits root read))
  form_worth n (Turned' op t (more_of-Typed u p c x end_of-Typed)) read w s = turned op (form_worth u x read w s)
  form_worth n (Reduced' op t (more_of-Typed u p c x end_of-Typed)) read w s = extend s w (reduced op (form_worth u x read u p))
  form_worth n (Computed' op t (more_of-Typed u p c x end_of-Typed) r (more_of-Typed v q d y end_of-Typed)) read w s =
      computed op s (form_worth u x read w s) (form_worth v y read w s)
  form_worth n (Moved' op t (more_of-Typed u p c x end_of-Typed) r (more_of-Typed v q d y end_of-Typed)) read w s =
      moved op s (form_worth u x read w s) (form_worth v y read v q)
  form_worth n (Compared' op t (more_of-Typed u p c x end_of-Typed) r (more_of-Typed v q d y end_of-Typed)) read w s =
      extend s w (compared op (p && q) (form_worth u x read (max u v) (p && q)) (form_worth v y read (max u v) (p && q)))
  form_worth n (Combined' op t (more_of-Typed u p c x end_of-Typed) r (more_of-Typed v q d y end_of-Typed)) read w s =
      extend s w (combined op (form_worth u x read u p) (form_worth v y read v q))
  form_worth n (Chosen' i (more_of-Typed b o e z end_of-Typed) t (more_of-Typed u p c x end_of-Typed) r (more_of-Typed v q d y end_of-Typed)) read w s =
      cond_of (truth_of (form_worth b z read b o)) (form_worth u x read w s) (form_worth v y read w s)
  form_worth n (Power' t (more_of-Typed u p c x end_of-Typed) e) read w s = raised w (form_worth u x nowhere w s) e
  form_worth n (Concat' k all) read w s = extend s w (row_together all read)
  form_worth n (Repeat' count k all) read w s = extend s w (copies count (row_together all read))
  form_worth n (Standing' t (more_of-Typed u p c x end_of-Typed)) read w s = extend s w (form_worth u x read u p)
  form_worth n (Fitted' t (more_of-Typed u p c x end_of-Typed)) read w s = extend s w (fitted p n (form_worth u x read u p))

  pub row_together : {k : Count} → Row_of-Typed k → Read → List Bit
  row_together end_of-Typed read = []
  row_together (more_of-Typed u p c x all) read = row_together all read ++ form_worth u x read u p

  pub row_picked : {k : Count} → Row_of-Pick k → Read → List Bit → List Bit
  row_picked end_of-Pick read a = a
  row_picked (more_of-Pick w c place all) read a = row_picked all read (bits_at (place_in place read) w a)

  pub place_in : PickPlace → Read → Option ℤ
  place_in (Fixed i) read = Some i
  place_in (Moving' t (more_of-Typed u p c x end_of-Typed) spot) read = spot_place spot (form_worth u x read u p)

-- the bits in a context of a width and sign, where names read so
abbrev pub worth : Typed → Read → ℕ → Bool → List Bit
worth t read w s = form_worth t.width t.form read w s

-- evaluated by itself
abbrev pub own : Typed → Read → List Bit
own t read = worth t read t.width t.signed

-- parts side by side, the first the most significant
unfoldable pub together : List Typed → Read → List Bit
together [] read = []
together (a ∷ more) read = together more read ++ own a read

abbrev pub pick_place : Pick → Read → Option ℤ
pick_place p read = place_in p.place read

-- what a chain of selects reads
unfoldable pub picked : Read → List Pick → List Bit → List Bit
picked read [] a = a
picked read (p ∷ more) a = picked read more (bits_at (pick_place p read) p.width a)

-- bits that may be none, and how many more fit beside them
abbrev pub bits_of : Option (List Bit) → List Bit
bits_of None = []
bits_of (Some a) = a

abbrev pub AboveFits : Option (List Bit) → ℕ → Type 0
AboveFits above n = length (bits_of above) + n ≤ 128

-- ---- widths and constancy of lists

unfoldable pub row_width : {k : Count} → Row_of-Typed k → ℕ
row_width end_of-Typed = 0
row_width (more_of-Typed u p c x all) = u + row_width all

-- the width of the last of these selects, or of what they select from
unfoldable pub row_picked_width : {k : Count} → Row_of-Pick k → ℕ → ℕ
row_picked_width end_of-Pick w = w
row_picked_width (more_of-Pick v c place all) w = row_picked_width all v

unfoldable pub width_together : List Typed → ℕ
width_together [] = 0
width_together (a ∷ more) = a.width + width_together more

unfoldable pub picked_width : List Pick → ℕ → ℕ
picked_width [] w = w
picked_width (p ∷ more) w = picked_width more p.width

unfoldable pub are_constant : List Typed → Bool
are_constant [] = true
are_constant (a ∷ more) = a.constant && are_constant more

unfoldable pub are_constant_picks : List Pick → Bool
are_constant_picks [] = true
are_constant_picks (p ∷ more) = p.constant && are_constant_picks more

-- ---- the signals that are named, in the order in which they stand

unfoldable mutual
  pub form_names : TypedForm → List NamedSignal
  form_names (Literal l) = []
  form_names (Named' root k picks) = root_names root ++ pick_names picks
  form_names (Turned' op t (more_of-Typed u p c x end_of-Typed)) = form_names x
  form_names (Reduced' op t (more_of-Typed u p c x end_of-Typed)) = form_names x
  form_names (Computed' op t (more_of-Typed u p c x end_of-Typed) r (more_of-Typed v q d y end_of-Typed)) = form_names x ++ form_names y
  form_names (Moved' op t (more_of-Typed u p c x end_of-Typed) r (more_of-Typed v q d y end_of-Typed)) = form_names x ++ form_names y
  form_names (Compared' op t (more_of-Typed u p c x end_of-Typed) r (more_of-Typed v q d y end_of-Typed)) = form_names x ++ form_names y
  form_names (Combined' op t (more_of-Typed u p c x end_of-Typed) r (more_of-Typed v q d y end_of-Typed)) = form_names x ++ form_names y
  form_names (Chosen' i (more_of-Typed b o e z end_of-Typed) t (more_of-Typed u p c x end_of-Typed) r (more_of-Typed v q d y end_of-Typed)) =
      (form_names z ++ form_names x) ++ form_names y
  form_names (Power' t (more_of-Typed u p c x end_of-Typed) e) = form_names x
  form_names (Concat' k all) = row_names all
  form_names (Repeat' count k all) = row_names all
  form_names (Standing' t (more_of-Typed u p c x end_of-Typed)) = form_names x
  form_names (Fitted' t (more_of-Typed u p c x end_of-Typed)) = form_names x

  pub row_names : {k : Count} → Row_of-Typed k → List NamedSignal
  row_names end_of-Typed = []
  row_names (more_of-Typed u p c x all) = form_names x ++ row_names all

  pub pick_names : {k : Count} → Row_of-Pick k → List NamedSignal
  pick_names end_of-Pick = []
  pick_names (more_of-Pick w c place all) = place_names place ++ pick_names all

  pub place_names : PickPlace → List NamedSignal
  place_names (Fixed i) = []
  place_names (Moving' t (more_of-Typed u p c x end_of-Typed) spot) = form_names x

abbrev pub names_of : Typed → List NamedSignal
names_of t = form_names t.form

unfoldable pub names_together : List Typed → List NamedSignal
names_together [] = []
names_together (a ∷ more) = names_of a ++ names_together more

unfoldable pub names_picked : List Pick → List NamedSignal
names_picked [] = []
names_picked (p ∷ more) = place_names p.place ++ names_picked more

-- two readings that agree on each bit of these signals
abbrev pub SameOn : List NamedSignal → Read → Read → Type 0
SameOn names r q = (x : NamedSignal) → Contains names x → (k : ℕ) → r x.owner x.number k ≡ q x.owner x.number k

-- ---- the literal that it is

abbrev pub form_literal : TypedForm → Option l.Literal
form_literal (Literal l) = Some l
form_literal _ = None

abbrev pub literal_of : Typed → Option l.Literal
literal_of t = form_literal t.form

-- ---- meanings

-- with what stands against it, the signals that it names, and the place of its first token
abbrev pub clothed : Typed → (Bool → Faults) → List NamedSignal → Place → Meaning
clothed t faults names start = record {
  size = t.width;
  sign = t.signed;
  value = worth t;
  constant = t.constant;
  faults = faults;
  names = names;
  literal = literal_of t;
  start = start;
}

-- the two agree in all but the faults and the place, and no other signal is named
pub record Agrees (t : Typed) (m : Meaning) : Type 0 where
  pub is : m ≡ clothed t m.faults m.names m.start
  pub names : (x : NamedSignal) → Contains (names_of t) x → Contains m.names x

-- A typed expression stands for a meaning.
unfoldable pub Stands : Typed → Meaning → Type 0
Stands t m = Agrees t m

-- A meaning is that of a name with its selects, signed so.
pub record IsNamed (root : Root) (picks : List Pick) (s : Bool) (m : Meaning) : Type 0 where
  pub size : m.size ≡ picked_width picks (root_width root)
  pub sign : m.sign ≡ s
  pub value : (read : Read) (w : ℕ) (t : Bool) → m.value read w t ≡ extend t w (picked read picks (root_bits root read))
  pub constant : m.constant ≡ (root_is_constant root && are_constant_picks picks)
  pub literal : m.literal ≡ None
  pub names : (x : NamedSignal) → Contains (root_names root ++ names_picked picks) x → Contains m.names x

-- ---- soundness

abbrev pub IsWidth : ℕ → Type 0
IsWidth w = (1 ≤ w) × (w ≤ 128)

-- A literal that fills has one bit.
abbrev pub LiteralIsSound : l.Literal → Type 0
LiteralIsSound l = l.fill ≡ true → length l.value ≡ 1

-- the bits of a form of such a width
unfoldable mutual
  pub FormIsSound : ℕ → TypedForm → Type 0
  FormIsSound n (Literal l) = IsWidth n × LiteralIsSound l × (length l.value ≡ n)
  FormIsSound n (Named' root k picks) = IsWidth n × IsWidth (root_width root) × ArePicksSound picks × (row_picked_width picks (root_width root) ≡ n)
  FormIsSound n (Turned' op t (more_of-Typed u p c x end_of-Typed)) = IsWidth n × FormIsSound u x × (u ≤ n)
  FormIsSound n (Reduced' op t (more_of-Typed u p c x end_of-Typed)) = (n ≡ 1) × FormIsSound u x
  FormIsSound n (Computed' op t (more_of-Typed u p c x end_of-Typed) r (more_of-Typed v q d y end_of-Typed)) =
      IsWidth n × FormIsSound u x × FormIsSound v y × (u ≤ n) × (v ≤ n)
  FormIsSound n (Moved' op t (more_of-Typed u p c x end_of-Typed) r (more_of-Typed v q d y end_of-Typed)) =
      IsWidth n × FormIsSound u x × FormIsSound v y × (u ≤ n)
  FormIsSound n (Compared' op t (more_of-Typed u p c x end_of-Typed) r (more_of-Typed v q d y end_of-Typed)) =
      (n ≡ 1) × FormIsSound u x × FormIsSound v y
  FormIsSound n (Combined' op t (more_of-Typed u p c x end_of-Typed) r (more_of-Typed v q d y end_of-Typed)) =
      (n ≡ 1) × FormIsSound u x × FormIsSound v y
  FormIsSound n (Chosen' i (more_of-Typed b o e z end_of-Typed) t (more_of-Typed u p c x end_of-Typed) r (more_of-Typed v q d y end_of-Typed)) =
      IsWidth n × FormIsSound b z × FormIsSound u x × FormIsSound v y × (u ≤ n) × (v ≤ n)
  FormIsSound n (Power' t (more_of-Typed u p c x end_of-Typed) e) = IsWidth n × FormIsSound u x × (u ≤ n)
  FormIsSound n (Concat' k all) = IsWidth n × RowIsSound all × (row_width all ≡ n)
  FormIsSound n (Repeat' count k all) = IsWidth n × RowIsSound all × (count * row_width all ≡ n)
  FormIsSound n (Standing' t (more_of-Typed u p c x end_of-Typed)) = FormIsSound u x × (n ≡ u)
  FormIsSound n (Fitted' t (more_of-Typed u p c x end_of-Typed)) = IsWidth n × FormIsSound u x

  pub RowIsSound : {k : Count} → Row_of-Typed k → Type 0
  RowIsSound end_of-Typed = Unit {0}
  RowIsSound (more_of-Typed u p c x all) = FormIsSound u x × RowIsSound all

  pub ArePicksSound : {k : Count} → Row_of-Pick k → Type 0
  ArePicksSound end_of-Pick = Unit {0}
  ArePicksSound (more_of-Pick w c place all) = IsWidth w × PlaceIsSound w place × ArePicksSound all

  pub PlaceIsSound : ℕ → PickPlace → Type 0
  PlaceIsSound w (Fixed i) = Unit {0}
  PlaceIsSound w (Moving' t (more_of-Typed u p c x end_of-Typed) spot) = (spot.width ≡ w) × FormIsSound u x

unfoldable pub IsSound : Typed → Type 0
IsSound t = FormIsSound t.width t.form

abbrev pub RootIsSound : Root → Type 0
RootIsSound root = IsWidth (root_width root)

unfoldable pub PickIsSound : Pick → Type 0
PickIsSound p = IsWidth p.width × PlaceIsSound p.width p.place
