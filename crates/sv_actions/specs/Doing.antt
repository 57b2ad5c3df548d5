-- What actions do to a store. Sections are those of IEEE 1800-2017.
use Rattle.std.specs.Prelude.{◌≡◌, ℕ, ◌≤◌, max, List, [], ◌∷◌, ◌++◌, take, drop}
use Rattle.std.specs.List.{All, Contains}
use mathlib.Core.Former.{Count}
use Rattle.fourvec.specs.declared.Bit.{Bit}
use Rattle.fourvec.specs.declared.Bit.TheVariants.{Zero}
use Rattle.fourvec.specs.Bits.{first, truth_of, or_of}
use Rattle.lhs_alias.specs.declared.segs.WireBit.{WireBit}
use Rattle.settling.specs.Settling.{Store}
use Rattle.sv_meaning.specs.Layouts.{Read, NamedSignal}
use Rattle.sv_meaning.specs.Meanings.{bits_from}
use Rattle.sv_meaning.specs.Targets.{present, with_wire}
use Rattle.sv_meaning.specs.Deeds.{merged, same_value}
use Rattle.sv_typed.specs.declared.tree.Typed.{Typed}
use Rattle.sv_typed.specs.Typed.{worth, own, literal_of, names_of, names_together, names_picked, picked_width, IsSound, PickIsSound}
use Rattle.sv_typing.specs.Picks.{picked_put}
use Rattle.sv_targets.specs.declared.targets.TypedTarget.{TypedTarget}
use Rattle.sv_targets.specs.Slots.{slots_of}
use Rattle.sv_targets.specs.Targets.{width_of_all}
use Rattle.sv_actions.specs.Texts.{wire_signal}
use Rattle.sv_actions.specs.declared.action.Case.{Case}
use Rattle.sv_actions.specs.declared.action.Action.{Action, Assign, Choose', Match', Row_of-Action, end_of-Action, more_of-Action, Row_of-Arm, end_of-Arm, more_of-Arm}

-- ---- values

-- as by an assignment to so many bits (10.7)
abbrev pub assigned_bits : Typed → Read → ℕ → List Bit
assigned_bits t read w = take w (worth t read (max w t.width) t.signed)

-- 1 where some bit is 1, 0 where all are 0, else unknown
abbrev pub truth_bit : Typed → Read → Bit
truth_bit t read = first (truth_of (own t read))

-- ---- writes

-- Reads the part that the first select names, writes the rest into it, and writes it back.
abbrev pub write_to : Read → TypedTarget → List Bit → Store → Store
write_to read t bits store = with_wire t.wire (picked_put read t.picks (bits_from (store t.wire) 0 t.wire_width) bits) store

-- The parts are written from the most significant on, an index reading what was written so far.
unfoldable pub write_into : (Store → Read) → List TypedTarget → List Bit → Store → Store
write_into look [] bits store = store
write_into look (t ∷ more) bits store = write_into look more (take (width_of_all more) bits) (write_to (look store) t (drop (width_of_all more) bits) store)

-- ---- labels

-- whether a label equals what is compared, one bit
abbrev pub label_equals : Case → Read → Typed → List Bit
label_equals c read m = same_value c.masked c.width c.signed (literal_of m) (worth c.value read c.width c.signed) (worth m read c.width c.signed)

unfoldable pub label_matches : Case → Read → List Typed → List Bit
label_matches c read [] = Zero ∷ []
label_matches c read (m ∷ more) = or_of (label_equals c read m) (label_matches c read more)

-- ---- actions

unfoldable mutual
  pub run : Action → (Store → Read) → Store → Store
  run (Assign to v) look store = write_into look to (assigned_bits v (look store) (width_of_all to)) store
  run (Choose' c s a t b) look store = merged (truth_bit c (look store)) (run_row a look store) (run_row b look store)
  run (Match' c s arms t other) look store = run_arms c arms look store (run_row other look store)

  pub run_row : {m : Count} → Row_of-Action m → (Store → Read) → Store → Store
  run_row end_of-Action look store = store
  run_row (more_of-Action x all) look store = run_row all look (run x look store)

  -- the arms, and what the rest leaves, all from the same store
  pub run_arms : {m : Count} → Case → Row_of-Arm m → (Store → Read) → Store → Store → Store
  run_arms c end_of-Arm look store rest = rest
  run_arms c (more_of-Arm labels s body all) look store rest =
      merged (first (label_matches c (look store) labels)) (run_row body look store) (run_arms c all look store rest)

-- actions as code lists them, one after the other
unfoldable pub run_all : List Action → (Store → Read) → Store → Store
run_all [] look store = store
run_all (x ∷ more) look store = run_all more look (run x look store)

-- ---- the bits that actions can write, in the order of the text

unfoldable mutual
  pub writes : Action → List WireBit
  writes (Assign to v) = present (slots_of to)
  writes (Choose' c s a t b) = writes_row a ++ writes_row b
  writes (Match' c s arms t other) = writes_arms arms ++ writes_row other

  pub writes_row : {m : Count} → Row_of-Action m → List WireBit
  writes_row end_of-Action = []
  writes_row (more_of-Action x all) = writes x ++ writes_row all

  pub writes_arms : {m : Count} → Row_of-Arm m → List WireBit
  writes_arms end_of-Arm = []
  writes_arms (more_of-Arm labels s body all) = writes_row body ++ writes_arms all

unfoldable pub writes_all : List Action → List WireBit
writes_all [] = []
writes_all (x ∷ more) = writes x ++ writes_all more

-- ---- the signals that actions name

unfoldable pub target_names : List TypedTarget → List NamedSignal
target_names [] = []
target_names (t ∷ more) = names_picked t.picks ++ target_names more

unfoldable mutual
  pub names : Action → List NamedSignal
  names (Assign to v) = names_of v ++ target_names to
  names (Choose' c s a t b) = names_of c ++ (names_row a ++ names_row b)
  names (Match' c s arms t other) = names_of c.value ++ (names_arms arms ++ names_row other)

  pub names_row : {m : Count} → Row_of-Action m → List NamedSignal
  names_row end_of-Action = []
  names_row (more_of-Action x all) = names x ++ names_row all

  pub names_arms : {m : Count} → Row_of-Arm m → List NamedSignal
  names_arms end_of-Arm = []
  names_arms (more_of-Arm labels s body all) = names_together labels ++ (names_row body ++ names_arms all)

unfoldable pub names_all : List Action → List NamedSignal
names_all [] = []
names_all (x ∷ more) = names x ++ names_all more

-- ---- the signals that targets name in front of their selects

-- a target is one of these signals, as wide as its wire
abbrev pub IsAimed : List NamedSignal → TypedTarget → Type 0
IsAimed named t = Contains named (wire_signal t.wire t.wire_width)

-- so is each target of an action
unfoldable mutual
  pub Aims : List NamedSignal → Action → Type 0
  Aims named (Assign to v) = All (IsAimed named) to
  Aims named (Choose' c s a t b) = AimsRow named a × AimsRow named b
  Aims named (Match' c s arms t other) = AimsArms named arms × AimsRow named other

  pub AimsRow : {m : Count} → List NamedSignal → Row_of-Action m → Type 0
  AimsRow named end_of-Action = Unit {0}
  AimsRow named (more_of-Action x all) = Aims named x × AimsRow named all

  pub AimsArms : {m : Count} → List NamedSignal → Row_of-Arm m → Type 0
  AimsArms named end_of-Arm = Unit {0}
  AimsArms named (more_of-Arm labels s body all) = AimsRow named body × AimsArms named all

-- ---- sound actions

-- a target lies in its wire, of 1 to 128 bits, and has the bits that its last select leaves
pub record TargetFits (t : TypedTarget) : Type 0 where
  pub some : 1 ≤ t.wire_width
  pub most : t.wire_width ≤ 128
  pub picks : All PickIsSound t.picks
  pub ends : picked_width t.picks t.wire_width ≡ t.width

abbrev pub LabelFits : Case → Typed → Type 0
LabelFits c m = IsSound m × (m.width ≤ c.width)

pub record CaseFits (c : Case) : Type 0 where
  pub sound : IsSound c.value
  pub wide : c.value.width ≤ c.width
  pub most : c.width ≤ 128

unfoldable mutual
  pub Fits : Action → Type 0
  Fits (Assign to v) = IsSound v × All TargetFits to × (1 ≤ width_of_all to) × (width_of_all to ≤ 128)
  Fits (Choose' c s a t b) = IsSound c × FitsRow a × FitsRow b
  Fits (Match' c s arms t other) = CaseFits c × FitsArms c arms × FitsRow other

  pub FitsRow : {m : Count} → Row_of-Action m → Type 0
  FitsRow end_of-Action = Unit {0}
  FitsRow (more_of-Action x all) = Fits x × FitsRow all

  pub FitsArms : {m : Count} → Case → Row_of-Arm m → Type 0
  FitsArms c end_of-Arm = Unit {0}
  FitsArms c (more_of-Arm labels s body all) = All (LabelFits c) labels × (FitsRow body × FitsArms c all)
