-- The bits of each form of tree.
use Rattle.std.proofs.Common.{◌≡◌, ℕ, zero, suc, ◌+◌, ◌≤◌, ◌<◌, ◌*◌, max, Bool, true, false, ◌&&◌, ◌||◌, List, [], ◌∷◌, ◌++◌, length, replicate, take, drop, get_or, append_assoc, suc-mul, Option, Some, None, refl, sym, ap, ◌∙◌, arith, ℤ, cond}
use Rattle.std.proofs.lemmas.Int.{ints}
use Rattle.std.proofs.lemmas.List.{append-nil, take_all, at_drop_more, at_drop_all}
use Rattle.std.proofs.Math.Seq.{take-suc}
use Rattle.std.proofs.Math.Nat.{mul-le-mul_right}
use Rattle.fourvec.specs.declared.Bit.{Bit}
use Rattle.fourvec.specs.declared.Bit.TheVariants.{Zero, Unknown}
use Rattle.fourvec.specs.declared.Spot.{Spot}
use Rattle.fourvec.specs.Bits.{first, truth_of, cond_of, all_x, is_known, number, planes}
use Rattle.fourvec.specs.Spots.{window, place_of, dyn_slice_of}
use Rattle.sv_literal.specs.declared.meaning.Literal as l
use Rattle.sv_meaning.specs.Layouts.{Read}
use Rattle.sv_meaning.specs.Meanings.{extend, top_goes_on, literal_value, fitted, copies, nowhere, bits_at, bits_from}
use Rattle.sv_typed.specs.declared.ops.Turn.{Turn}
use Rattle.sv_typed.specs.declared.ops.Reduction.{Reduction}
use Rattle.sv_typed.specs.declared.ops.Arithmetic.{Arithmetic}
use Rattle.sv_typed.specs.declared.ops.Shift.{Shift}
use Rattle.sv_typed.specs.declared.ops.Comparison.{Comparison}
use Rattle.sv_typed.specs.declared.ops.Logic.{Logic}
use Rattle.sv_typed.specs.declared.tree.Root.{Root}
use Rattle.sv_typed.specs.declared.tree.Root.TheVariants.{Signal}
use Rattle.sv_typed.specs.declared.tree.Origin.{Origin}
use Rattle.sv_typed.specs.declared.tree.Pick.{Pick}
use Rattle.sv_typed.specs.declared.tree.PickPlace.TheVariants as place
use Rattle.sv_typed.specs.declared.tree.Typed.{Typed}
use Rattle.sv_typed.specs.declared.tree.TypedForm.{TypedForm}
use Rattle.sv_typed.specs.declared.tree.TypedForm.TheVariants as f
use Rattle.sv_typed.specs.declared.tree.PickPlace.TheBlock.{shape-the_row-Typed-0, hidden-the_row-Typed-0}
use Rattle.sv_typed.specs.Ops.{turned, reduced, computed, moved, compared, combined}
use Rattle.sv_typed.specs.Typed.{form_worth, worth, own, raised, together, picked, place_in, pick_place, spot_place, root_bits}
use Rattle.sv_typed.proofs.Parts.{row_together_is}
use Rattle.sv_typed.proofs.Named.{row_picked_is}

-- the bits of a tree by its form, where names are unknown
pub as_form : (t : Typed) (form : TypedForm) (w : ℕ) (s : Bool) (bits : List Bit) → t.form ≡ form → bits ≡ form_worth t.width form nowhere w s → bits ≡ worth t nowhere w s
as_form t form w s bits e h = h ∙ sym (ap (λ x. form_worth t.width x nowhere w s) e)

pub worth_literal : (n : ℕ) (l : l.Literal) (read : Read) (w : ℕ) (s : Bool) → form_worth n (f.Literal l) read w s ≡ literal_value l w s
unfolding form_worth shape-the_row-Typed-0 hidden-the_row-Typed-0 denote.Hole.Carrier.hidden
worth_literal n l read w s = refl

-- ---- the ways in which a literal becomes as long as its context

pub literal_filled : (x : l.Literal) (w : ℕ) (s : Bool) → x.fill ≡ true → replicate w (first x.value) ≡ literal_value x w s
literal_filled x w s h = sym (ap (λ b. cond b (replicate w (first x.value)) (extend (top_goes_on x || s) w x.value)) h)

pub literal_goes_on : (x : l.Literal) (w : ℕ) (s : Bool) → x.fill ≡ false → top_goes_on x ≡ true → extend true w x.value ≡ literal_value x w s
literal_goes_on x w s h k =
    sym (ap (λ b. cond b (replicate w (first x.value)) (extend (top_goes_on x || s) w x.value)) h ∙ ap (λ b. extend (b || s) w x.value) k)

pub literal_extended : (x : l.Literal) (w : ℕ) (s : Bool) → x.fill ≡ false → top_goes_on x ≡ false → extend s w x.value ≡ literal_value x w s
literal_extended x w s h k =
    sym (ap (λ b. cond b (replicate w (first x.value)) (extend (top_goes_on x || s) w x.value)) h ∙ ap (λ b. extend (b || s) w x.value) k)

pub ruleset literal_ways = (literal_filled, literal_goes_on, literal_extended)

pub worth_named : (n : ℕ) (root : Root) (picks : List Pick) (read : Read) (w : ℕ) (s : Bool) → form_worth n (f.Named root picks) read w s ≡ extend s w (picked read picks (root_bits root read))
unfolding form_worth shape-the_row-Typed-0 hidden-the_row-Typed-0 denote.Hole.Carrier.hidden
worth_named n root picks read w s = ap (λ x. extend s w x) (row_picked_is picks read (root_bits root read))

pub worth_turned : (n : ℕ) (op : Turn) (a : Typed) (read : Read) (w : ℕ) (s : Bool) → form_worth n (f.Turned op a) read w s ≡ turned op (worth a read w s)
unfolding form_worth shape-the_row-Typed-0 hidden-the_row-Typed-0 denote.Hole.Carrier.hidden
worth_turned n op a read w s = refl

pub worth_reduced : (n : ℕ) (op : Reduction) (a : Typed) (read : Read) (w : ℕ) (s : Bool) → form_worth n (f.Reduced op a) read w s ≡ extend s w (reduced op (own a read))
unfolding form_worth shape-the_row-Typed-0 hidden-the_row-Typed-0 denote.Hole.Carrier.hidden
worth_reduced n op a read w s = refl

pub worth_computed : (n : ℕ) (op : Arithmetic) (a b : Typed) (read : Read) (w : ℕ) (s : Bool) → form_worth n (f.Computed op a b) read w s ≡ computed op s (worth a read w s) (worth b read w s)
unfolding form_worth shape-the_row-Typed-0 hidden-the_row-Typed-0 denote.Hole.Carrier.hidden
worth_computed n op a b read w s = refl

pub worth_moved : (n : ℕ) (op : Shift) (a b : Typed) (read : Read) (w : ℕ) (s : Bool) → form_worth n (f.Moved op a b) read w s ≡ moved op s (worth a read w s) (own b read)
unfolding form_worth shape-the_row-Typed-0 hidden-the_row-Typed-0 denote.Hole.Carrier.hidden
worth_moved n op a b read w s = refl

pub worth_compared : (n : ℕ) (op : Comparison) (a b : Typed) (read : Read) (w : ℕ) (s : Bool) → form_worth n (f.Compared op a b) read w s ≡ extend s w (compared op (a.signed && b.signed) (worth a read (max a.width b.width) (a.signed && b.signed)) (worth b read (max a.width b.width) (a.signed && b.signed)))
unfolding form_worth shape-the_row-Typed-0 hidden-the_row-Typed-0 denote.Hole.Carrier.hidden
worth_compared n op a b read w s = refl

pub worth_combined : (n : ℕ) (op : Logic) (a b : Typed) (read : Read) (w : ℕ) (s : Bool) → form_worth n (f.Combined op a b) read w s ≡ extend s w (combined op (own a read) (own b read))
unfolding form_worth shape-the_row-Typed-0 hidden-the_row-Typed-0 denote.Hole.Carrier.hidden
worth_combined n op a b read w s = refl

pub worth_chosen : (n : ℕ) (c a b : Typed) (read : Read) (w : ℕ) (s : Bool) → form_worth n (f.Chosen c a b) read w s ≡ cond_of (truth_of (own c read)) (worth a read w s) (worth b read w s)
unfolding form_worth shape-the_row-Typed-0 hidden-the_row-Typed-0 denote.Hole.Carrier.hidden
worth_chosen n c a b read w s = refl

pub worth_power : (n : ℕ) (a : Typed) (e : Option ℕ) (read : Read) (w : ℕ) (s : Bool) → form_worth n (f.Power a e) read w s ≡ raised w (worth a nowhere w s) e
unfolding form_worth shape-the_row-Typed-0 hidden-the_row-Typed-0 denote.Hole.Carrier.hidden
worth_power n a e read w s = refl

pub worth_concat : (n : ℕ) (all : List Typed) (read : Read) (w : ℕ) (s : Bool) → form_worth n (f.Concat all) read w s ≡ extend s w (together all read)
unfolding form_worth shape-the_row-Typed-0 hidden-the_row-Typed-0 denote.Hole.Carrier.hidden
worth_concat n all read w s = ap (λ x. extend s w x) (row_together_is all read)

pub worth_repeat : (n : ℕ) (count : ℕ) (all : List Typed) (read : Read) (w : ℕ) (s : Bool) → form_worth n (f.Repeat count all) read w s ≡ extend s w (copies count (together all read))
unfolding form_worth shape-the_row-Typed-0 hidden-the_row-Typed-0 denote.Hole.Carrier.hidden
worth_repeat n count all read w s = ap (λ x. extend s w (copies count x)) (row_together_is all read)

pub worth_standing : (n : ℕ) (a : Typed) (read : Read) (w : ℕ) (s : Bool) → form_worth n (f.Standing a) read w s ≡ extend s w (own a read)
unfolding form_worth shape-the_row-Typed-0 hidden-the_row-Typed-0 denote.Hole.Carrier.hidden
worth_standing n a read w s = refl

pub worth_fitted : (n : ℕ) (a : Typed) (read : Read) (w : ℕ) (s : Bool) → form_worth n (f.Fitted a) read w s ≡ extend s w (fitted a.signed n (own a read))
unfolding form_worth shape-the_row-Typed-0 hidden-the_row-Typed-0 denote.Hole.Carrier.hidden
worth_fitted n a read w s = refl

pub ruleset worths = (worth_literal, worth_named, worth_turned, worth_reduced, worth_computed, worth_moved, worth_compared, worth_combined, worth_chosen, worth_power, worth_concat, worth_repeat, worth_standing, worth_fitted)

-- ---- parts, one after the other

together_push : (all : List Typed) (x : Typed) (read : Read) → together (all ++ x ∷ []) read ≡ own x read ++ together all read
unfolding together
together_push [] x read = sym (append-nil (own x read))
together_push (a ∷ all) x read = ap (λ y. y ++ own a read) (together_push all x read) ∙ append_assoc (own x read) (together all read) (own a read)

pub together_more : (all : List Typed) (i : ℕ) (x : Typed) (read : Read) → i < length all → x ≡ get_or all i x → together (take (i + 1) all) read ≡ own x read ++ together (take i all) read
together_more all i x read h e =
    let next : i + 1 ≡ suc i = omega arith in
    ap (λ n. together (take n all) read) next ∙ ap (λ y. together y read) (take-suc all i x h ∙ ap (λ y. take i all ++ y ∷ []) (sym e)) ∙ together_push (take i all) x read

pub together_none : (read : Read) → together [] read ≡ []
unfolding together
together_none read = refl

pub together_end : (all : List Typed) (i : ℕ) (read : Read) → length all ≤ i → together (take i all) read ≡ together all read
together_end all i read h = ap (λ y. together y read) (take_all i all h)

pub picked_on : (picks : List Pick) (i : ℕ) (x : Pick) (a : List Bit) (read : Read) → i < length picks → x ≡ get_or picks i x →
    picked read (drop i picks) a ≡ picked read (drop (i + 1) picks) (bits_at (pick_place x read) x.width a)
unfolding picked
picked_on picks i x a read h e = at_drop_more (λ y. picked read y a) picks i x h ∙ ap (λ y. picked read (drop (i + 1) picks) (bits_at (pick_place y read) y.width a)) (sym e)

pub picked_done : (picks : List Pick) (i : ℕ) (a : List Bit) (read : Read) → length picks ≤ i → picked read (drop i picks) a ≡ a
unfolding picked
picked_done picks i a read h = at_drop_all (λ y. picked read y a) picks i h

-- ---- places

pub place_fixed : (p : Pick) (i : ℤ) (read : Read) → p.place ≡ place.Fixed i → place_in p.place read ≡ Some i
unfolding form_worth
place_fixed p i read e = ap (λ y. place_in y read) e

pub place_moving : (p : Pick) (x a : Typed) (spot : Spot) (read : Read) → p.place ≡ place.Moving a spot → x ≡ a → place_in p.place read ≡ spot_place spot (own x read)
unfolding form_worth shape-the_row-Typed-0 hidden-the_row-Typed-0 denote.Hole.Carrier.hidden
place_moving p x a spot read e i = ap (λ y. place_in y read) e ∙ ap (λ y. spot_place spot (own y read)) (sym i)

pub moving_is : (a at : List Bit) (spot : Spot) → dyn_slice_of a at spot ≡ bits_at (spot_place spot at) spot.width a
unfolding dyn_slice_of
moving_is a at spot = either (is_known at)
  where
    either : (b : Bool) → cond b (window a (place_of spot at) spot.width) (all_x spot.width) ≡ bits_at (cond b (Some (place_of spot at)) None) spot.width a
    either true = refl
    either false = refl

pub fixed_is : (a at : List Bit) (z i : ℤ) (w : ℕ) → z ≡ i → at ≡ planes 1 0 0 → dyn_slice_of a at (record { signed = false; negate = false; each = 0; add = z; width = w }) ≡ window a i w
unfolding dyn_slice_of place_of planes is_known number
fixed_is a at z i w k h =
    let spot : Spot = record { signed = false; negate = false; each = 0; add = z; width = w } in
    let e : place_of spot (Zero ∷ []) ≡ z = omega (arith, ints) in
    ap (λ x. dyn_slice_of a x spot) h ∙ ap (λ x. window a x w) (e ∙ k)

-- ---- constants, signals and copies

x_from : (k w : ℕ) → bits_from (λ n. Unknown) k w ≡ all_x w
unfolding bits_from
x_from k zero = refl
x_from k (suc w) = ap (λ y. Unknown ∷ y) (x_from (suc k) w)

pub signal_is_unknown : (root : Root) (o : Origin) (n w : ℕ) → root ≡ Signal o n w → root_bits root nowhere ≡ all_x w
signal_is_unknown root o n w e = ap (λ y. root_bits y nowhere) e ∙ x_from 0 w

pub one_copy : (a : List Bit) → copies 1 a ≡ a
unfolding copies
one_copy a = append-nil a

pub copy_more : (n : ℕ) (a : List Bit) → copies (n + 1) a ≡ a ++ copies n a
unfolding copies
copy_more n a = let next : n + 1 ≡ suc n = omega arith in ap (λ y. copies y a) next

pub room_for_more : (i n w m : ℕ) → i < n → n * w ≤ m → i * w + w ≤ m
room_for_more i n w m lt h = let e : suc i * w ≡ i * w + w = suc-mul i w in let k : suc i * w ≤ n * w = mul-le-mul_right w (omega arith) in omega arith
