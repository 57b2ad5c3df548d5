-- Actions whose targets are among the wires of a scene, and the bits that they write.
use Rattle.std.proofs.Common.{◌≡◌, ℕ, zero, suc, ◌+◌, ◌-◌, ◌<◌, ◌≤◌, Bool, true, false, cond, List, [], ◌∷◌, ◌++◌, length, take, get_or, Option, Some, None, refl, sym, ap, ◌∙◌, subst, arith, get_or-take}
use Rattle.std.specs.Prelude.{ℤ, pos, negsuc, ◌+ℤ◌, slice_get}
use Rattle.std.specs.List.{All, AllByRecursion, Contains}
use Rattle.std.proofs.lemmas.List.Elements.{All-nil, All-cons, All-from_recursion, recursion_from_All, Contains-append_left, Contains-append_right}
use Rattle.std.proofs.lemmas.List.FromFn.{get_or-map-range_with_len}
use mathlib.Core.Former.{Count}
use Rattle.lhs_alias.specs.declared.segs.WireBit.{WireBit}
use Rattle.lhs_alias.specs.Segs.{bit, seg_bits}
use Rattle.sv_meaning.specs.Layouts.{NamedSignal}
use Rattle.sv_meaning.specs.Targets.{bit_names, flat, slot_at, slots_from, with_place, present}
use Rattle.sv_meaning.specs.Blocks.{has_bit, distinct}
use Rattle.sv_typed.specs.declared.tree.Typed.{Typed}
use Rattle.sv_typed.specs.declared.tree.Pick.{Pick}
use Rattle.sv_typed.specs.Typed.{names_of, names_together, names_picked, place_names}
use Rattle.sv_typing.specs.Picks.{fixed_pick, picked_slots}
use Rattle.sv_targets.specs.declared.targets.TypedTarget.{TypedTarget}
use Rattle.sv_targets.specs.Slots.{target_slots, slots_of}
use Rattle.sv_actions.specs.declared.action.Case.{Case}
use Rattle.sv_actions.specs.declared.action.Arm.{Arm}
use Rattle.sv_actions.specs.declared.action.Action.{Action, Assign, Choose', Match', Row_of-Action, end_of-Action, more_of-Action, Row_of-Arm, end_of-Arm, more_of-Arm}
use Rattle.sv_actions.specs.declared.action.Action.TheVariants as act
use Rattle.sv_actions.specs.declared.action.Action.TheBlock.{shape-the_row-Action-0, hidden-the_row-Action-0, shape-the_row-Arm-1, hidden-the_row-Arm-1}
use Rattle.sv_actions.specs.Doing.{target_names, names, names_row, names_arms, names_all, writes, writes_row, writes_arms, writes_all, IsAimed, Aims, AimsRow, AimsArms}
use Rattle.sv_stores.specs.declared.scene.Scene.{Scene}
use Rattle.sv_stores.specs.Scenes.{Narrow}
use Rattle.sv_blocks.specs.Driving.{run_seg}
use Rattle.sv_blocks.specs.Fitting.{HasPlace, PickSits, LabelSits, TargetSits, Sits, SitsRow, SitsArms, ArmSits, BitSits, RunSits}

-- ---- the parts of an action

sits_row_is : (scene : Scene) (all : List Action) → SitsRow scene (hidden-the_row-Action-0 all) → All (Sits scene) all
unfolding Sits shape-the_row-Action-0 hidden-the_row-Action-0 denote.Hole.Carrier.hidden
sits_row_is scene [] h = All-nil (Sits scene)
sits_row_is scene (x ∷ more) h = All-cons (Sits scene) x more h.0 (sits_row_is scene more h.1)

sits_arms_is : (scene : Scene) (all : List Arm) → SitsArms scene (hidden-the_row-Arm-1 all) → All (ArmSits scene) all
unfolding Sits shape-the_row-Arm-1 hidden-the_row-Arm-1 shape-the_row-Action-0 hidden-the_row-Action-0 denote.Hole.Carrier.hidden
sits_arms_is scene [] h = All-nil (ArmSits scene)
sits_arms_is scene (arm ∷ more) h = All-cons (ArmSits scene) arm more (record { labels = h.0; body = sits_row_is scene arm.body h.1.0 }) (sits_arms_is scene more h.1.1)

pub record AssignSits (scene : Scene) (to : List TypedTarget) (v : Typed) : Type 0 where
  pub value : Narrow scene (names_of v)
  pub targets : All (TargetSits scene) to

sits_assign : (scene : Scene) (x : Action) (to : List TypedTarget) (v : Typed) → x ≡ act.Assign to v → Sits scene x → AssignSits scene to v
unfolding Sits
sits_assign scene x to v e h = let g = subst (Sits scene) e h in record { value = g.0; targets = g.1 }

pub sits_assign_by : (scene : Scene) (x : Action) (to xs : List TypedTarget) (v : Typed) → x ≡ act.Assign to v → xs ≡ to → Sits scene x → AssignSits scene xs v
sits_assign_by scene x to xs v e d h = subst (λ ts. AssignSits scene ts v) (sym d) (sits_assign scene x to v e h)

pub record ChooseSits (scene : Scene) (c : Typed) (a b : List Action) : Type 0 where
  pub condition : Narrow scene (names_of c)
  pub taken : All (Sits scene) a
  pub other : All (Sits scene) b

sits_choose : (scene : Scene) (x : Action) (c : Typed) (a b : List Action) → x ≡ act.Choose c a b → Sits scene x → ChooseSits scene c a b
unfolding Sits shape-the_row-Action-0 hidden-the_row-Action-0 denote.Hole.Carrier.hidden
sits_choose scene x c a b e h = let g = subst (Sits scene) e h in record { condition = g.0; taken = sits_row_is scene a g.1.0; other = sits_row_is scene b g.1.1 }

pub sits_choose_by : (scene : Scene) (x : Action) (c : Typed) (a b ta tb : List Action) → x ≡ act.Choose c a b → ta ≡ a → tb ≡ b → Sits scene x → ChooseSits scene c ta tb
sits_choose_by scene x c a b ta tb e da db h = subst (λ ts. ChooseSits scene c ts tb) (sym da) (subst (λ ts. ChooseSits scene c a ts) (sym db) (sits_choose scene x c a b e h))

pub record MatchSits (scene : Scene) (c : Case) (arms : List Arm) (rest : List Action) : Type 0 where
  pub value : Narrow scene (names_of c.value)
  pub each : All (ArmSits scene) arms
  pub other : All (Sits scene) rest

sits_match : (scene : Scene) (x : Action) (c : Case) (arms : List Arm) (other : List Action) → x ≡ act.Match c arms other → Sits scene x → MatchSits scene c arms other
unfolding Sits shape-the_row-Arm-1 hidden-the_row-Arm-1 shape-the_row-Action-0 hidden-the_row-Action-0 denote.Hole.Carrier.hidden
sits_match scene x c arms other e h = let g = subst (Sits scene) e h in record { value = g.0; each = sits_arms_is scene arms g.1.0; other = sits_row_is scene other g.1.1 }

pub sits_match_by : (scene : Scene) (x : Action) (c : Case) (arms xs : List Arm) (other os : List Action) → x ≡ act.Match c arms other → xs ≡ arms → os ≡ other → Sits scene x → MatchSits scene c xs os
sits_match_by scene x c arms xs other os e da db h = subst (λ ts. MatchSits scene c ts os) (sym da) (subst (λ ts. MatchSits scene c arms ts) (sym db) (sits_match scene x c arms other e h))

-- ---- actions whose targets have places

narrow_left : (scene : Scene) (a b : List NamedSignal) → Narrow scene (a ++ b) → Narrow scene a
narrow_left scene a b h s i = h s (Contains-append_left a b s i)

narrow_right : (scene : Scene) (a b : List NamedSignal) → Narrow scene (a ++ b) → Narrow scene b
narrow_right scene a b h s i = h s (Contains-append_right a b s i)

labels_sit : (scene : Scene) (all : List Typed) → Narrow scene (names_together all) → AllByRecursion (LabelSits scene) all
unfolding names_together
labels_sit scene [] h = tt
labels_sit scene (m ∷ more) h = (narrow_left scene (names_of m) (names_together more) h, labels_sit scene more (narrow_right scene (names_of m) (names_together more) h))

picks_sit : (scene : Scene) (all : List Pick) → Narrow scene (names_picked all) → AllByRecursion (PickSits scene) all
unfolding names_picked
picks_sit scene [] h = tt
picks_sit scene (p ∷ more) h = (narrow_left scene (place_names p.place) (names_picked more) h, picks_sit scene more (narrow_right scene (place_names p.place) (names_picked more) h))

-- each of these signals has a place, at its width
abbrev pub Placed : Scene → List NamedSignal → Type 0
Placed scene named = (s : NamedSignal) → Contains named s → HasPlace scene s.number s.width

targets_sit : (scene : Scene) (named : List NamedSignal) → Placed scene named → (to : List TypedTarget) → AllByRecursion (IsAimed named) to → Narrow scene (target_names to) → AllByRecursion (TargetSits scene) to
unfolding target_names
targets_sit scene named p [] h n = tt
targets_sit scene named p (t ∷ more) h n = (
  record { place = p _ h.0; picks = All-from_recursion (PickSits scene) t.picks (picks_sit scene t.picks (narrow_left scene (names_picked t.picks) (target_names more) n)) },
  targets_sit scene named p more h.1 (narrow_right scene (names_picked t.picks) (target_names more) n),
)

mutual
  unfolding Sits Aims names

  sit : (scene : Scene) (named : List NamedSignal) → Placed scene named → (x : Action) → Aims named x → Narrow scene (names x) → Sits scene x
  sit scene named p (Assign to v) h n = (
    narrow_left scene (names_of v) (target_names to) n,
    All-from_recursion (TargetSits scene) to (targets_sit scene named p to (recursion_from_All (IsAimed named) to h) (narrow_right scene (names_of v) (target_names to) n)),
  )
  sit scene named p (Choose' c s a t b) h n =
      let rest = narrow_right scene (names_of c) (names_row a ++ names_row b) n in (
        narrow_left scene (names_of c) (names_row a ++ names_row b) n,
        (sit_row scene named p a h.0 (narrow_left scene (names_row a) (names_row b) rest), sit_row scene named p b h.1 (narrow_right scene (names_row a) (names_row b) rest)),
      )
  sit scene named p (Match' c s arms t other) h n =
      let rest = narrow_right scene (names_of c.value) (names_arms arms ++ names_row other) n in (
        narrow_left scene (names_of c.value) (names_arms arms ++ names_row other) n,
        (sit_arms scene named p arms h.0 (narrow_left scene (names_arms arms) (names_row other) rest), sit_row scene named p other h.1 (narrow_right scene (names_arms arms) (names_row other) rest)),
      )

  sit_row : {m : Count} (scene : Scene) (named : List NamedSignal) → Placed scene named → (all : Row_of-Action m) → AimsRow named all → Narrow scene (names_row all) → SitsRow scene all
  sit_row scene named p end_of-Action h n = tt
  sit_row scene named p (more_of-Action x all) h n = (sit scene named p x h.0 (narrow_left scene (names x) (names_row all) n), sit_row scene named p all h.1 (narrow_right scene (names x) (names_row all) n))

  sit_arms : {m : Count} (scene : Scene) (named : List NamedSignal) → Placed scene named → (all : Row_of-Arm m) → AimsArms named all → Narrow scene (names_arms all) → SitsArms scene all
  sit_arms scene named p end_of-Arm h n = tt
  sit_arms scene named p (more_of-Arm labels s body all) h n =
      let rest = narrow_right scene (names_together labels) (names_row body ++ names_arms all) n in (
        All-from_recursion (LabelSits scene) labels (labels_sit scene labels (narrow_left scene (names_together labels) (names_row body ++ names_arms all) n)),
        (sit_row scene named p body h.0 (narrow_left scene (names_row body) (names_arms all) rest), sit_arms scene named p all h.1 (narrow_right scene (names_row body) (names_arms all) rest)),
      )

sit_each : (scene : Scene) (named : List NamedSignal) → Placed scene named → (all : List Action) → AllByRecursion (Aims named) all → Narrow scene (names_all all) → AllByRecursion (Sits scene) all
unfolding names_all
sit_each scene named p [] h n = tt
sit_each scene named p (x ∷ more) h n = (sit scene named p x h.0 (narrow_left scene (names x) (names_all more) n), sit_each scene named p more h.1 (narrow_right scene (names x) (names_all more) n))

pub sit_all : (scene : Scene) (named : List NamedSignal) (all : List Action) → Placed scene named → All (Aims named) all → Narrow scene (names_all all) → All (Sits scene) all
sit_all scene named all p h n = All-from_recursion (Sits scene) all (sit_each scene named p all (recursion_from_All (Aims named) all h) n)

-- ---- the bits that targets name

abbrev SlotSits : Scene → Option WireBit → Type 0
SlotSits scene None = Unit {0}
SlotSits scene (Some b) = BitSits scene b

abbrev Slots : Scene → List (Option WireBit) → Type 0
Slots scene all = AllByRecursion (SlotSits scene) all

wire_sits : (scene : Scene) (n w k m : ℕ) → HasPlace scene n w → k + m ≤ w → Slots scene (bit_names n k m)
unfolding bit_names
wire_sits scene n w k zero h l = tt
wire_sits scene n w k (suc m) h l =
    (record { there = h.there; near = λ i e. let s = h.width i e in omega arith }, wire_sits scene n w (suc k) m h (omega arith))

at_place : (scene : Scene) (all : List (Option WireBit)) (k : ℕ) → Slots scene all → SlotSits scene (flat (slice_get all k))
at_place scene [] zero h = tt
at_place scene [] (suc k) h = tt
at_place scene (o ∷ more) zero h = h.0
at_place scene (o ∷ more) (suc k) h = at_place scene more k h.1

at_spot : (scene : Scene) (all : List (Option WireBit)) (z : ℤ) → Slots scene all → SlotSits scene (slot_at all z)
at_spot scene all (pos k) h = at_place scene all k h
at_spot scene all (negsuc k) h = tt

from_spot : (scene : Scene) (all : List (Option WireBit)) (z : ℤ) (w : ℕ) → Slots scene all → Slots scene (slots_from all z w)
unfolding slots_from
from_spot scene all z zero h = tt
from_spot scene all z (suc w) h = (at_spot scene all z h, from_spot scene all (z +ℤ pos 1) w h)

with_spot : (scene : Scene) (o : Option ℤ) (all : List (Option WireBit)) (f : ℤ → List (Option WireBit)) → Slots scene all → ((z : ℤ) → Slots scene (f z)) → Slots scene (with_place o all f)
with_spot scene None all f h g = h
with_spot scene (Some z) all f h g = g z

picked_sits : (scene : Scene) (picks : List Pick) (all : List (Option WireBit)) → Slots scene all → Slots scene (picked_slots picks all)
unfolding picked_slots
picked_sits scene [] all h = h
picked_sits scene (p ∷ more) all h =
    with_spot scene (fixed_pick p) all (λ z. picked_slots more (slots_from all z p.width)) h (λ z. picked_sits scene more (slots_from all z p.width) (from_spot scene all z p.width h))

slots_join : (scene : Scene) (a b : List (Option WireBit)) → Slots scene a → Slots scene b → Slots scene (a ++ b)
slots_join scene [] b h k = k
slots_join scene (o ∷ a) b h k = (h.0, slots_join scene a b h.1 k)

present_sits : (scene : Scene) (all : List (Option WireBit)) → Slots scene all → AllByRecursion (BitSits scene) (present all)
unfolding present
present_sits scene [] h = tt
present_sits scene (None ∷ more) h = present_sits scene more h.1
present_sits scene (Some b ∷ more) h = (h.0, present_sits scene more h.1)

slots_sit : (scene : Scene) (to : List TypedTarget) → AllByRecursion (TargetSits scene) to → Slots scene (slots_of to)
unfolding slots_of
slots_sit scene [] h = tt
slots_sit scene (t ∷ more) h =
    slots_join scene (slots_of more) (target_slots t) (slots_sit scene more h.1) (picked_sits scene t.picks (bit_names t.wire 0 t.wire_width) (wire_sits scene t.wire t.wire_width 0 t.wire_width h.0.place (omega arith)))

bits_join : (scene : Scene) (a b : List WireBit) → AllByRecursion (BitSits scene) a → AllByRecursion (BitSits scene) b → AllByRecursion (BitSits scene) (a ++ b)
bits_join scene [] b h k = k
bits_join scene (x ∷ a) b h k = (h.0, bits_join scene a b h.1 k)

mutual
  unfolding Sits writes

  bits_sit : (scene : Scene) (x : Action) → Sits scene x → AllByRecursion (BitSits scene) (writes x)
  bits_sit scene (Assign to v) h = present_sits scene (slots_of to) (slots_sit scene to (recursion_from_All (TargetSits scene) to h.1))
  bits_sit scene (Choose' c s a t b) h = bits_join scene (writes_row a) (writes_row b) (bits_sit_row scene a h.1.0) (bits_sit_row scene b h.1.1)
  bits_sit scene (Match' c s arms t other) h = bits_join scene (writes_arms arms) (writes_row other) (bits_sit_arms scene arms h.1.0) (bits_sit_row scene other h.1.1)

  bits_sit_row : {m : Count} (scene : Scene) (all : Row_of-Action m) → SitsRow scene all → AllByRecursion (BitSits scene) (writes_row all)
  bits_sit_row scene end_of-Action h = tt
  bits_sit_row scene (more_of-Action x all) h = bits_join scene (writes x) (writes_row all) (bits_sit scene x h.0) (bits_sit_row scene all h.1)

  bits_sit_arms : {m : Count} (scene : Scene) (all : Row_of-Arm m) → SitsArms scene all → AllByRecursion (BitSits scene) (writes_arms all)
  bits_sit_arms scene end_of-Arm h = tt
  bits_sit_arms scene (more_of-Arm labels s body all) h = bits_join scene (writes_row body) (writes_arms all) (bits_sit_row scene body h.1.0) (bits_sit_arms scene all h.1.1)

each_bit_sits : (scene : Scene) (all : List Action) → AllByRecursion (Sits scene) all → AllByRecursion (BitSits scene) (writes_all all)
unfolding writes_all
each_bit_sits scene [] h = tt
each_bit_sits scene (x ∷ more) h = bits_join scene (writes x) (writes_all more) (bits_sit scene x h.0) (each_bit_sits scene more h.1)

pub bits_sit_all : (scene : Scene) (all : List Action) → All (Sits scene) all → All (BitSits scene) (writes_all all)
bits_sit_all scene all h = All-from_recursion (BitSits scene) (writes_all all) (each_bit_sits scene all (recursion_from_All (Sits scene) all h))

either_sits : (scene : Scene) (c : Bool) (a b : List WireBit) → AllByRecursion (BitSits scene) a → AllByRecursion (BitSits scene) b → AllByRecursion (BitSits scene) (cond c a b)
either_sits scene true a b h k = h
either_sits scene false a b h k = k

distinct_sit : (scene : Scene) (all : List WireBit) → AllByRecursion (BitSits scene) all → AllByRecursion (BitSits scene) (distinct all)
unfolding distinct
distinct_sit scene [] h = tt
distinct_sit scene (b ∷ more) h =
    let rest = distinct_sit scene more h.1 in
    either_sits scene (has_bit b more) (distinct more) (b ∷ distinct more) rest (h.0, rest)

pub distinct_sit_all : (scene : Scene) (all : List WireBit) → All (BitSits scene) all → All (BitSits scene) (distinct all)
distinct_sit_all scene all h = All-from_recursion (BitSits scene) (distinct all) (distinct_sit scene all (recursion_from_All (BitSits scene) all h))

-- ---- runs of bits

pub run_sits : (scene : Scene) (bits : List WireBit) (first none : WireBit) (count : ℕ) → All (BitSits scene) bits → 1 ≤ count → count ≤ length bits → first ≡ get_or bits 0 none → take count bits ≡ seg_bits (run_seg first count) → RunSits scene first count
unfolding seg_bits
run_sits scene bits first none count h some most is e =
    let k = count - 1 in
    let within : k < count = omega arith in
    let last : get_or bits k none ≡ bit first.wire (first.at + k) =
    sym (get_or-take count bits k none within) ∙ ap (λ xs. get_or xs k none) e ∙ get_or-map-range_with_len (bit first.wire) first.at count k (first.at + k) none within refl in
    let b : BitSits scene (bit first.wire (first.at + k)) = subst (BitSits scene) last (h k none (omega arith)) in
    record { there = b.there; room = λ i p. let n = b.near i p in omega arith }
