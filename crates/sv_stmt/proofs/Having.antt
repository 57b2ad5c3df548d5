-- The signals that sound actions name have a bit at least.
use Rattle.std.proofs.Common.{ℕ, zero, suc, ◌≤◌, List, [], ◌∷◌, ◌++◌, inl, inr, subst, arith}
use Rattle.std.specs.List.{Contains, All}
use Rattle.std.proofs.lemmas.List.Elements.{Contains-append_cases, All-head, All-tail}
use mathlib.Core.Former.{Count}
use Rattle.sv_meaning.specs.Layouts.{NamedSignal}
use Rattle.sv_typed.specs.declared.tree.Typed.{Typed}
use Rattle.sv_typed.specs.declared.tree.TypedForm.{TypedForm, Literal, Named', Turned', Reduced', Computed', Moved', Compared', Combined', Chosen', Power', Concat', Repeat', Standing', Fitted', Row_of-Typed, end_of-Typed, more_of-Typed, Row_of-Pick, end_of-Pick, more_of-Pick}
use Rattle.sv_typed.specs.declared.tree.Pick.{Pick}
use Rattle.sv_typed.specs.declared.tree.PickPlace.{PickPlace, Fixed, Moving'}
use Rattle.sv_typed.specs.declared.tree.Root.{Root}
use Rattle.sv_typed.specs.declared.tree.Root.TheVariants.{Number, Signal}
use Rattle.sv_typed.specs.Typed.{origin_is, root_names, root_width, form_names, row_names, pick_names, place_names, names_of, names_together, names_picked, FormIsSound, RowIsSound, ArePicksSound, PlaceIsSound, IsSound, PickIsSound, IsWidth}
use Rattle.sv_targets.specs.declared.targets.TypedTarget.{TypedTarget}
use Rattle.sv_actions.specs.declared.action.Case.{Case}
use Rattle.sv_actions.specs.declared.action.Action.{Action, Assign, Choose', Match', Row_of-Action, end_of-Action, more_of-Action, Row_of-Arm, end_of-Arm, more_of-Arm}
use Rattle.sv_actions.specs.Doing.{target_names, names, names_row, names_arms, names_all, TargetFits, LabelFits, Fits, FitsRow, FitsArms}

abbrev pub HaveBits : List NamedSignal → Type 0
HaveBits names = (s : NamedSignal) → Contains names s → 1 ≤ s.width

none : HaveBits []
none s h = absurd (omega (arith, h.1))

two : (a b : List NamedSignal) → HaveBits a → HaveBits b → HaveBits (a ++ b)
two a b f g s h = elim (Contains-append_cases a b s h) [ inl x ↦ f s x | inr y ↦ g s y ]

one : (x : NamedSignal) → 1 ≤ x.width → HaveBits (x ∷ [])
one x l s (zero, k, e) = subst (λ y. 1 ≤ y.width) e l
one x l s (suc i, k, e) = absurd (omega arith)

-- ---- expressions

root_bits : (root : Root) → IsWidth (root_width root) → HaveBits (root_names root)
root_bits (Number v) h = none
root_bits (Signal o n w) h = one (record { owner = origin_is o; number = n; width = w }) h.0

mutual
  unfolding FormIsSound form_names

  form_bits : (n : ℕ) (x : TypedForm) → FormIsSound n x → HaveBits (form_names x)
  form_bits n (Literal l) h = none
  form_bits n (Named' root k picks) h = two (root_names root) (pick_names picks) (root_bits root h.1) (pick_bits picks h.2)
  form_bits n (Turned' op t (more_of-Typed u p c x end_of-Typed)) h = form_bits u x h.1
  form_bits n (Reduced' op t (more_of-Typed u p c x end_of-Typed)) h = form_bits u x h.1
  form_bits n (Computed' op t (more_of-Typed u p c x end_of-Typed) r (more_of-Typed v q d y end_of-Typed)) h = two (form_names x) (form_names y) (form_bits u x h.1) (form_bits v y h.2)
  form_bits n (Moved' op t (more_of-Typed u p c x end_of-Typed) r (more_of-Typed v q d y end_of-Typed)) h = two (form_names x) (form_names y) (form_bits u x h.1) (form_bits v y h.2)
  form_bits n (Compared' op t (more_of-Typed u p c x end_of-Typed) r (more_of-Typed v q d y end_of-Typed)) h = two (form_names x) (form_names y) (form_bits u x h.1) (form_bits v y h.2)
  form_bits n (Combined' op t (more_of-Typed u p c x end_of-Typed) r (more_of-Typed v q d y end_of-Typed)) h = two (form_names x) (form_names y) (form_bits u x h.1) (form_bits v y h.2)
  form_bits n (Chosen' i (more_of-Typed b o e z end_of-Typed) t (more_of-Typed u p c x end_of-Typed) r (more_of-Typed v q d y end_of-Typed)) h =
      two (form_names z ++ form_names x) (form_names y) (two (form_names z) (form_names x) (form_bits b z h.1) (form_bits u x h.2)) (form_bits v y h.3)
  form_bits n (Power' t (more_of-Typed u p c x end_of-Typed) e) h = form_bits u x h.1
  form_bits n (Concat' k all) h = row_bits all h.1
  form_bits n (Repeat' count k all) h = row_bits all h.1
  form_bits n (Standing' t (more_of-Typed u p c x end_of-Typed)) h = form_bits u x h.0
  form_bits n (Fitted' t (more_of-Typed u p c x end_of-Typed)) h = form_bits u x h.1

  row_bits : {k : Count} (all : Row_of-Typed k) → RowIsSound all → HaveBits (row_names all)
  row_bits end_of-Typed h = none
  row_bits (more_of-Typed u p c x all) h = two (form_names x) (row_names all) (form_bits u x h.0) (row_bits all h.1)

  pick_bits : {k : Count} (all : Row_of-Pick k) → ArePicksSound all → HaveBits (pick_names all)
  pick_bits end_of-Pick h = none
  pick_bits (more_of-Pick w c place all) h = two (place_names place) (pick_names all) (place_bits w place h.1) (pick_bits all h.2)

  place_bits : (w : ℕ) (place : PickPlace) → PlaceIsSound w place → HaveBits (place_names place)
  place_bits w (Fixed i) h = none
  place_bits w (Moving' t (more_of-Typed u p c x end_of-Typed) spot) h = form_bits u x h.1

typed_bits : (t : Typed) → IsSound t → HaveBits (names_of t)
unfolding IsSound
typed_bits t h = form_bits t.width t.form h

own_bits : (q : Pick) → PickIsSound q → HaveBits (place_names q.place)
unfolding PickIsSound
own_bits q g = place_bits q.width q.place g.1

picked_bits : (all : List Pick) → All PickIsSound all → HaveBits (names_picked all)
unfolding names_picked
picked_bits [] h = none
picked_bits (p ∷ more) h = two (place_names p.place) (names_picked more) (own_bits p (All-head PickIsSound p more h)) (picked_bits more (All-tail PickIsSound p more h))

-- ---- actions

targets_bits : (to : List TypedTarget) → All TargetFits to → HaveBits (target_names to)
unfolding target_names
targets_bits [] h = none
targets_bits (t ∷ more) h = two (names_picked t.picks) (target_names more) (picked_bits t.picks (All-head TargetFits t more h).picks) (targets_bits more (All-tail TargetFits t more h))

labels_bits : (c : Case) (all : List Typed) → All (LabelFits c) all → HaveBits (names_together all)
unfolding names_together
labels_bits c [] h = none
labels_bits c (m ∷ more) h = two (names_of m) (names_together more) (typed_bits m (All-head (LabelFits c) m more h).0) (labels_bits c more (All-tail (LabelFits c) m more h))

mutual
  unfolding Fits names

  action_bits : (x : Action) → Fits x → HaveBits (names x)
  action_bits (Assign to v) h = two (names_of v) (target_names to) (typed_bits v h.0) (targets_bits to h.1)
  action_bits (Choose' c s a t b) h = two (names_of c) (names_row a ++ names_row b) (typed_bits c h.0) (two (names_row a) (names_row b) (actions_bits a h.1) (actions_bits b h.2))
  action_bits (Match' c s arms t other) h =
      two (names_of c.value) (names_arms arms ++ names_row other) (typed_bits c.value h.0.sound) (two (names_arms arms) (names_row other) (arms_bits c arms h.1) (actions_bits other h.2))

  actions_bits : {m : Count} (all : Row_of-Action m) → FitsRow all → HaveBits (names_row all)
  actions_bits end_of-Action h = none
  actions_bits (more_of-Action x all) h = two (names x) (names_row all) (action_bits x h.0) (actions_bits all h.1)

  arms_bits : {m : Count} (c : Case) (all : Row_of-Arm m) → FitsArms c all → HaveBits (names_arms all)
  arms_bits c end_of-Arm h = none
  arms_bits c (more_of-Arm labels s body all) h =
      two (names_together labels) (names_row body ++ names_arms all) (labels_bits c labels h.0) (two (names_row body) (names_arms all) (actions_bits body h.1.0) (arms_bits c all h.1.1))

pub have_bits : (all : List Action) → All Fits all → HaveBits (names_all all)
unfolding names_all
have_bits [] h = none
have_bits (x ∷ more) h = two (names x) (names_all more) (action_bits x (All-head Fits x more h)) (have_bits more (All-tail Fits x more h))
