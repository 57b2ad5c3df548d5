-- Sound trees: what is made of sound parts, and the parts of what is sound.
use Rattle.std.proofs.Common.{◌≡◌, ℕ, ◌*◌, ◌≤◌, max, List, [], ◌∷◌, length, Option, sym, ap, ◌∙◌, subst, arith, ℤ}
use Rattle.std.specs.List.{AllByRecursion, All}
use Rattle.std.proofs.lemmas.List.Elements.{recursion_from_All}
use Rattle.fourvec.specs.declared.Spot.{Spot}
use Rattle.fourvec.specs.declared.Bit.{Bit}
use Rattle.sv_literal.specs.declared.meaning.Literal as l
use Rattle.sv_typed.specs.declared.ops.Turn.{Turn}
use Rattle.sv_typed.specs.declared.ops.Reduction.{Reduction}
use Rattle.sv_typed.specs.declared.ops.Arithmetic.{Arithmetic}
use Rattle.sv_typed.specs.declared.ops.Shift.{Shift}
use Rattle.sv_typed.specs.declared.ops.Comparison.{Comparison}
use Rattle.sv_typed.specs.declared.ops.Logic.{Logic}
use Rattle.sv_typed.specs.declared.tree.Root.{Root}
use Rattle.sv_typed.specs.declared.tree.Root.TheVariants.{Number}
use Rattle.sv_typed.specs.declared.tree.Pick.{Pick}
use Rattle.sv_typed.specs.declared.tree.PickPlace.TheVariants as place
use Rattle.sv_typed.specs.declared.tree.Typed.{Typed}
use Rattle.sv_typed.specs.declared.tree.TypedForm.{TypedForm, Literal, Named', Turned', Reduced', Computed', Moved', Compared', Combined', Chosen', Power', Concat', Repeat', Standing', Fitted', end_of-Typed, more_of-Typed}
use Rattle.sv_typed.specs.declared.tree.TypedForm.TheVariants as f
use Rattle.sv_typed.specs.declared.tree.PickPlace.TheBlock.{shape-the_row-Typed-0, hidden-the_row-Typed-0}
use Rattle.sv_typed.specs.Typed.{LiteralIsSound, FormIsSound, PlaceIsSound, RootIsSound, PickIsSound, IsSound, IsWidth, root_width, width_together, picked_width}
use Rattle.sv_typed.proofs.Parts.{row_is_sound, row_width_is}
use Rattle.sv_typed.proofs.Named.{picks_are_sound, row_picked_width_is}

-- ---- each has 1 to 128 bits

form_width : (n : ℕ) (x : TypedForm) → FormIsSound n x → IsWidth n
unfolding FormIsSound
form_width n (Literal l) h = h.0
form_width n (Named' root k picks) h = h.0
form_width n (Turned' op t (more_of-Typed u p c x end_of-Typed)) h = h.0
form_width n (Reduced' op t (more_of-Typed u p c x end_of-Typed)) h = let g = h.0 in (omega arith, omega arith)
form_width n (Computed' op t (more_of-Typed u p c x end_of-Typed) r (more_of-Typed v q d y end_of-Typed)) h = h.0
form_width n (Moved' op t (more_of-Typed u p c x end_of-Typed) r (more_of-Typed v q d y end_of-Typed)) h = h.0
form_width n (Compared' op t (more_of-Typed u p c x end_of-Typed) r (more_of-Typed v q d y end_of-Typed)) h = let g = h.0 in (omega arith, omega arith)
form_width n (Combined' op t (more_of-Typed u p c x end_of-Typed) r (more_of-Typed v q d y end_of-Typed)) h = let g = h.0 in (omega arith, omega arith)
form_width n (Chosen' i (more_of-Typed b o e z end_of-Typed) t (more_of-Typed u p c x end_of-Typed) r (more_of-Typed v q d y end_of-Typed)) h = h.0
form_width n (Power' t (more_of-Typed u p c x end_of-Typed) e) h = h.0
form_width n (Concat' k all) h = h.0
form_width n (Repeat' count k all) h = h.0
form_width n (Standing' t (more_of-Typed u p c x end_of-Typed)) h = let g = form_width u x h.0 in let e = h.1 in (omega (arith, g.0), omega (arith, g.1))
form_width n (Fitted' t (more_of-Typed u p c x end_of-Typed)) h = h.0

is_width : (t : Typed) → IsSound t → IsWidth t.width
unfolding IsSound
is_width t h = form_width t.width t.form h

pub some_bits : (t : Typed) → IsSound t → 1 ≤ t.width
some_bits t h = (is_width t h).0

pub most_bits : (t : Typed) → IsSound t → t.width ≤ 128
most_bits t h = (is_width t h).1

-- ---- what is made

as_sound : (t : Typed) (x : TypedForm) → t.form ≡ x → FormIsSound t.width x → IsSound t
unfolding IsSound
as_sound t x e h = subst (λ y. FormIsSound t.width y) (sym e) h

pub sound_turned : (t : Typed) (op : Turn) (a : Typed) → t.form ≡ f.Turned op a → IsSound a → t.width ≡ a.width → IsSound t
unfolding IsSound FormIsSound shape-the_row-Typed-0 hidden-the_row-Typed-0 denote.Hole.Carrier.hidden
sound_turned t op a e h w = as_sound t (f.Turned op a) e ((let g = some_bits a h in omega arith, let g = most_bits a h in omega arith), h, omega arith)

pub sound_reduced : (t : Typed) (op : Reduction) (a : Typed) → t.form ≡ f.Reduced op a → IsSound a → t.width ≡ 1 → IsSound t
unfolding IsSound FormIsSound shape-the_row-Typed-0 hidden-the_row-Typed-0 denote.Hole.Carrier.hidden
sound_reduced t op a e h w = as_sound t (f.Reduced op a) e (w, h)

pub sound_computed : (t : Typed) (op : Arithmetic) (a b : Typed) → t.form ≡ f.Computed op a b → IsSound a → IsSound b → t.width ≡ max a.width b.width → IsSound t
unfolding IsSound FormIsSound shape-the_row-Typed-0 hidden-the_row-Typed-0 denote.Hole.Carrier.hidden
sound_computed t op a b e h k w = as_sound t (f.Computed op a b) e ((let g = some_bits a h in omega arith, let g = most_bits a h in let k' = most_bits b k in omega arith), h, k, omega arith, omega arith)

pub sound_moved : (t : Typed) (op : Shift) (a b : Typed) → t.form ≡ f.Moved op a b → IsSound a → IsSound b → t.width ≡ a.width → IsSound t
unfolding IsSound FormIsSound shape-the_row-Typed-0 hidden-the_row-Typed-0 denote.Hole.Carrier.hidden
sound_moved t op a b e h k w = as_sound t (f.Moved op a b) e ((let g = some_bits a h in omega arith, let g = most_bits a h in omega arith), h, k, omega arith)

pub sound_compared : (t : Typed) (op : Comparison) (a b : Typed) → t.form ≡ f.Compared op a b → IsSound a → IsSound b → t.width ≡ 1 → IsSound t
unfolding IsSound FormIsSound shape-the_row-Typed-0 hidden-the_row-Typed-0 denote.Hole.Carrier.hidden
sound_compared t op a b e h k w = as_sound t (f.Compared op a b) e (w, h, k)

pub sound_combined : (t : Typed) (op : Logic) (a b : Typed) → t.form ≡ f.Combined op a b → IsSound a → IsSound b → t.width ≡ 1 → IsSound t
unfolding IsSound FormIsSound shape-the_row-Typed-0 hidden-the_row-Typed-0 denote.Hole.Carrier.hidden
sound_combined t op a b e h k w = as_sound t (f.Combined op a b) e (w, h, k)

pub sound_chosen : (t : Typed) (l a b : Typed) → t.form ≡ f.Chosen l a b → IsSound l → IsSound a → IsSound b → t.width ≡ max a.width b.width → IsSound t
unfolding IsSound FormIsSound shape-the_row-Typed-0 hidden-the_row-Typed-0 denote.Hole.Carrier.hidden
sound_chosen t l a b e j h k w = as_sound t (f.Chosen l a b) e ((let g = some_bits a h in omega arith, let g = most_bits a h in let k' = most_bits b k in omega arith), j, h, k, omega arith, omega arith)

pub sound_power : (t : Typed) (a : Typed) (n : Option ℕ) → t.form ≡ f.Power a n → IsSound a → t.width ≡ a.width → IsSound t
unfolding IsSound FormIsSound shape-the_row-Typed-0 hidden-the_row-Typed-0 denote.Hole.Carrier.hidden
sound_power t a n e h w = as_sound t (f.Power a n) e ((let g = some_bits a h in omega arith, let g = most_bits a h in omega arith), h, omega arith)

pub sound_standing : (t : Typed) (a : Typed) → t.form ≡ f.Standing a → IsSound a → t.width ≡ a.width → IsSound t
unfolding IsSound FormIsSound shape-the_row-Typed-0 hidden-the_row-Typed-0 denote.Hole.Carrier.hidden
sound_standing t a e h w = as_sound t (f.Standing a) e (h, w)

pub sound_fitted : (t : Typed) (a : Typed) → t.form ≡ f.Fitted a → IsSound a → IsWidth t.width → IsSound t
unfolding IsSound FormIsSound shape-the_row-Typed-0 hidden-the_row-Typed-0 denote.Hole.Carrier.hidden
sound_fitted t a e h w = as_sound t (f.Fitted a) e (w, h)

pub sound_literal : (t : Typed) (x : l.Literal) → t.form ≡ f.Literal x → LiteralIsSound x → IsWidth (length x.value) → t.width ≡ length x.value → IsSound t
unfolding FormIsSound
sound_literal t x e h k w = as_sound t (f.Literal x) e ((omega (arith, k.0), omega (arith, k.1)), h, sym w)

pub sound_concat : (t : Typed) (all : List Typed) → t.form ≡ f.Concat all → All IsSound all → IsWidth (width_together all) → t.width ≡ width_together all → IsSound t
unfolding FormIsSound
sound_concat t all e h k w = as_sound t (f.Concat all) e ((omega (arith, k.0), omega (arith, k.1)), row_is_sound all (recursion_from_All IsSound all h), row_width_is all ∙ sym w)

pub sound_repeat : (t : Typed) (n : ℕ) (all : List Typed) → t.form ≡ f.Repeat n all → All IsSound all → IsWidth (n * width_together all) → t.width ≡ n * width_together all → IsSound t
unfolding FormIsSound
sound_repeat t n all e h k w =
    as_sound t (f.Repeat n all) e ((omega (arith, k.0), omega (arith, k.1)), row_is_sound all (recursion_from_All IsSound all h), ap (λ x. n * x) (row_width_is all) ∙ sym w)

picked_is_width : (picks : List Pick) (w : ℕ) → AllByRecursion PickIsSound picks → IsWidth w → IsWidth (picked_width picks w)
unfolding picked_width PickIsSound
picked_is_width [] w h k = k
picked_is_width (p ∷ more) w h k = picked_is_width more p.width h.1 h.0.0

pub sound_named : (t : Typed) (root : Root) (picks : List Pick) → t.form ≡ f.Named root picks → RootIsSound root → All PickIsSound picks → t.width ≡ picked_width picks (root_width root) → IsSound t
unfolding FormIsSound
sound_named t root picks e k h w =
    let g = recursion_from_All PickIsSound picks h in
    let i = picked_is_width picks (root_width root) g k in
    as_sound t (f.Named root picks) e ((omega (arith, i.0), omega (arith, i.1)), k, picks_are_sound picks g, row_picked_width_is picks (root_width root) ∙ sym w)

pub sound_number : (t : Typed) (value : List Bit) (picks : List Pick) → t.form ≡ f.Named (Number value) picks → picks ≡ [] → IsWidth (length value) → t.width ≡ length value → IsSound t
unfolding picked_width
sound_number t value picks e z h w = sound_named t (Number value) [] (e ∙ ap (λ y. f.Named (Number value) y) z) h (λ k d lt. absurd (omega arith)) w

pub sound_fixed : (p : Pick) (i : ℤ) → p.place ≡ place.Fixed i → IsWidth p.width → PickIsSound p
unfolding PickIsSound FormIsSound
sound_fixed p i e h = (h, subst (λ x. PlaceIsSound p.width x) (sym e) tt)

pub sound_moving : (p : Pick) (a : Typed) (spot : Spot) → p.place ≡ place.Moving a spot → IsWidth p.width → spot.width ≡ p.width → IsSound a → PickIsSound p
unfolding PickIsSound IsSound FormIsSound shape-the_row-Typed-0 hidden-the_row-Typed-0 denote.Hole.Carrier.hidden
sound_moving p a spot e h w k = (h, subst (λ x. PlaceIsSound p.width x) (sym e) (w, k))
