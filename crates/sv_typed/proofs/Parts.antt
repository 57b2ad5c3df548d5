-- Parts side by side, as trees hold them and as lists.
use Rattle.std.proofs.Common.{◌≡◌, ℕ, ◌+◌, ◌*◌, Bool, false, ◌&&◌, List, [], ◌∷◌, ◌++◌, length, refl, sym, ap, ◌∙◌, subst, arith, nat_abs, not}
use Rattle.std.proofs.lemmas.List.{length-append}
use Rattle.std.specs.List.{Contains, AllZip, AllByRecursion, All}
use Rattle.std.proofs.lemmas.List.Elements.{recursion_from_All}
use Rattle.fourvec.specs.declared.Bit.{Bit}
use Rattle.fourvec.proofs.Moves.{extend_none}
use Rattle.sv_outside.specs.declared.refusal.Place.{Place}
use Rattle.sv_meaning.specs.Faults.{Faults, fault_if, or_then, bad_width}
use Rattle.sv_meaning.specs.Layouts.{Read, NamedSignal}
use Rattle.sv_meaning.specs.Meanings.{Meaning, from, with_faults, standing, parts, copies, concat, repeated, number_of, fixed_faults, is_width, all_loose, repeat_faults, extend}
use Rattle.sv_meaning.specs.Meanings as meanings
use Rattle.sv_typed.specs.declared.tree.Typed.{Typed}
use Rattle.sv_typed.specs.declared.tree.TypedForm.TheVariants as f
use Rattle.sv_typed.specs.declared.tree.PickPlace.TheBlock.{shape-the_row-Typed-2, hidden-the_row-Typed-2}
use Rattle.sv_typed.specs.Typed.{form_worth, form_names, row_together, row_width, row_names, RowIsSound, form_literal, names_of, names_together, together, width_together, are_constant, worth, own, Stands, FormIsSound, IsSound}
use Rattle.sv_typed.proofs.Long.{length-own}
use Rattle.sv_typed.proofs.Made.{both_among, stands_by, stands_needs, stands_faults}

-- ---- rows of trees are lists

pub row_together_is : (all : List Typed) (read : Read) → row_together (hidden-the_row-Typed-2 all) read ≡ together all read
unfolding form_worth together shape-the_row-Typed-2 hidden-the_row-Typed-2 denote.Hole.Carrier.hidden
row_together_is [] read = refl
row_together_is (a ∷ more) read = ap (λ x. x ++ own a read) (row_together_is more read)

pub row_width_is : (all : List Typed) → row_width (hidden-the_row-Typed-2 all) ≡ width_together all
unfolding row_width width_together shape-the_row-Typed-2 hidden-the_row-Typed-2 denote.Hole.Carrier.hidden
row_width_is [] = refl
row_width_is (a ∷ more) = ap (λ x. a.width + x) (row_width_is more)

pub row_names_is : (all : List Typed) → row_names (hidden-the_row-Typed-2 all) ≡ names_together all
unfolding form_names names_together shape-the_row-Typed-2 hidden-the_row-Typed-2 denote.Hole.Carrier.hidden
row_names_is [] = refl
row_names_is (a ∷ more) = ap (λ x. names_of a ++ x) (row_names_is more)

pub row_is_sound : (all : List Typed) → AllByRecursion IsSound all → RowIsSound (hidden-the_row-Typed-2 all)
unfolding IsSound FormIsSound shape-the_row-Typed-2 hidden-the_row-Typed-2 denote.Hole.Carrier.hidden
row_is_sound [] h = h
row_is_sound (a ∷ more) h = (h.0, row_is_sound more h.1)

pub sound_row : (all : List Typed) → RowIsSound (hidden-the_row-Typed-2 all) → AllByRecursion IsSound all
unfolding IsSound FormIsSound shape-the_row-Typed-2 hidden-the_row-Typed-2 denote.Hole.Carrier.hidden
sound_row [] h = h
sound_row (a ∷ more) h = (h.0, sound_row more h.1)

-- ---- lists of meanings

pub parts_size : (all : List Typed) (ms : List Meaning) → AllZip Stands all ms → (parts ms).size ≡ width_together all
unfolding parts Stands width_together
parts_size [] [] h = refl
parts_size [] (m ∷ ms) h = absurd h
parts_size (a ∷ all) [] h = absurd h
parts_size (a ∷ all) (m ∷ ms) h = let e = ap (λ x. x.size) h.0.is in let g = parts_size all ms h.1 in omega arith

pub parts_sign : (ms : List Meaning) → (parts ms).sign ≡ false
unfolding parts
parts_sign [] = refl
parts_sign (m ∷ ms) = refl

pub parts_constant : (all : List Typed) (ms : List Meaning) → AllZip Stands all ms → (parts ms).constant ≡ are_constant all
unfolding parts Stands are_constant
parts_constant [] [] h = refl
parts_constant [] (m ∷ ms) h = absurd h
parts_constant (a ∷ all) [] h = absurd h
parts_constant (a ∷ all) (m ∷ ms) h = ap (λ x. x.constant && (parts ms).constant) h.0.is ∙ ap (λ x. a.constant && x) (parts_constant all ms h.1)

pub parts_names : (all : List Typed) (ms : List Meaning) → AllZip Stands all ms → (x : NamedSignal) → Contains (names_together all) x → Contains (parts ms).names x
unfolding parts Stands names_together
parts_names [] [] h x k = k
parts_names [] (m ∷ ms) h x k = absurd h
parts_names (a ∷ all) [] h x k = absurd h
parts_names (a ∷ all) (m ∷ ms) h x k = both_among (names_of a) (names_together all) m.names (parts ms).names h.0.names (parts_names all ms h.1) x k

pub length-together : (all : List Typed) → AllByRecursion IsSound all → (read : Read) → length (together all read) ≡ width_together all
unfolding together width_together
length-together [] h read = refl
length-together (a ∷ all) h read = let e = length-append (together all read) (own a read) in let g = length-together all h.1 read in let k = length-own a h.0 read in omega arith

extend_full : (w : ℕ) (a : List Bit) → w ≡ length a → extend false w a ≡ a
extend_full w a e = extend_none a w _ e

mutual
  unfolding parts together Stands

  pub parts_value : (all : List Typed) (ms : List Meaning) → AllZip Stands all ms → AllByRecursion IsSound all → (read : Read) (w : ℕ) (s : Bool) → (parts ms).value read w s ≡ extend s w (together all read)
  parts_value [] [] h g read w s = refl
  parts_value [] (m ∷ ms) h g read w s = absurd h
  parts_value (a ∷ all) [] h g read w s = absurd h
  parts_value (a ∷ all) (m ∷ ms) h g read w s =
      ap (λ x. extend s w (meanings.own (parts ms) read ++ meanings.own x read)) h.0.is ∙ ap (λ x. extend s w (x ++ own a read)) (parts_own all ms h.1 g.1 read)

  pub parts_own : (all : List Typed) (ms : List Meaning) → AllZip Stands all ms → AllByRecursion IsSound all → (read : Read) → meanings.own (parts ms) read ≡ together all read
  parts_own [] [] h g read = refl
  parts_own [] (m ∷ ms) h g read = absurd h
  parts_own (a ∷ all) [] h g read = absurd h
  parts_own (a ∷ all) (m ∷ ms) h g read =
      ap (λ x. extend false (parts (m ∷ ms)).size (meanings.own (parts ms) read ++ meanings.own x read)) h.0.is
      ∙ ap (λ x. extend false (parts (m ∷ ms)).size (x ++ own a read)) (parts_own all ms h.1 g.1 read)
      ∙ extend_full _ _ (parts_size (a ∷ all) (m ∷ ms) h ∙ sym (length-together (a ∷ all) g read))

-- ---- concatenations

concat_worth : (t : Typed) (all : List Typed) (read : Read) (w : ℕ) (s : Bool) → t.form ≡ f.Concat all → worth t read w s ≡ extend s w (together all read)
unfolding form_worth
concat_worth t all read w s e = ap (λ x. form_worth t.width x read w s) e ∙ ap (λ x. extend s w x) (row_together_is all read)

concat_names : (t : Typed) (all : List Typed) (x : NamedSignal) → t.form ≡ f.Concat all → Contains (names_of t) x → Contains (names_together all) x
unfolding form_names
concat_names t all x e h = subst (λ y. Contains y x) (ap form_names e ∙ row_names_is all) h

pub stands_concat : (p : Place) (t : Typed) (all : List Typed) (ms : List Meaning) → AllZip Stands all ms → All IsSound all →
    t.width ≡ width_together all → t.signed ≡ false → t.constant ≡ are_constant all → t.form ≡ f.Concat all → Stands t (concat p ms)
stands_concat p t all ms h g w s c x =
    let k = recursion_from_All IsSound all g in
    let more : Bool → Faults = λ d. or_then (all_loose ms) (fault_if (not (is_width (parts ms).size)) bad_width p) in
    stands_needs t (from p (parts ms)) more
    (stands_by t (from p (parts ms)) (parts_size all ms h ∙ sym w) (parts_sign ms ∙ sym s)
    (λ read v z. parts_value all ms h k read v z ∙ sym (concat_worth t all read v z x))
    (parts_constant all ms h ∙ sym c) (sym (ap form_literal x))
    (λ y z. parts_names all ms h y (concat_names t all y x z)))

-- ---- copies

repeat_worth : (t : Typed) (count : ℕ) (all : List Typed) (read : Read) (w : ℕ) (s : Bool) → t.form ≡ f.Repeat count all → worth t read w s ≡ extend s w (copies count (together all read))
unfolding form_worth
repeat_worth t count all read w s e = ap (λ x. form_worth t.width x read w s) e ∙ ap (λ x. extend s w (copies count x)) (row_together_is all read)

repeat_names : (t : Typed) (count : ℕ) (all : List Typed) (x : NamedSignal) → t.form ≡ f.Repeat count all → Contains (names_of t) x → Contains (names_together all) x
unfolding form_names
repeat_names t count all x e h = subst (λ y. Contains y x) (ap form_names e ∙ row_names_is all) h

-- copies before their conditions
abbrev plain_repeat : ℕ → Place → List Meaning → Meaning
plain_repeat n p ms = from p (standing (n * (parts ms).size) false (λ read. copies n (meanings.own (parts ms) read)) (parts ms))

stands_plain_repeat : (z : ℕ) (p : Place) (t : Typed) (count : ℕ) (all : List Typed) (ms : List Meaning) → AllZip Stands all ms → AllByRecursion IsSound all → z ≡ count →
    t.width ≡ count * width_together all → t.signed ≡ false → t.constant ≡ are_constant all → t.form ≡ f.Repeat count all → Stands t (plain_repeat z p ms)
stands_plain_repeat z p t count all ms h k e w s c x =
    stands_by t (plain_repeat z p ms) (ap (λ y. z * y) (parts_size all ms h) ∙ ap (λ y. y * width_together all) e ∙ sym w) (sym s)
    (λ read v q. ap (λ y. extend q v (copies z y)) (parts_own all ms h k read) ∙ ap (λ y. extend q v (copies y (together all read))) e ∙ sym (repeat_worth t count all read v q x))
    (parts_constant all ms h ∙ sym c) (sym (ap form_literal x))
    (λ y q. parts_names all ms h y (repeat_names t count all y x q))

pub stands_repeat : (p : Place) (t : Typed) (count : ℕ) (all : List Typed) (n : Meaning) (ms : List Meaning) → AllZip Stands all ms → All IsSound all → nat_abs (number_of n) ≡ count →
    t.width ≡ count * width_together all → t.signed ≡ false → t.constant ≡ are_constant all → t.form ≡ f.Repeat count all → Stands t (repeated p n ms)
stands_repeat p t count all n ms h g e w s c x =
    let k = recursion_from_All IsSound all g in
    let z : ℕ = nat_abs (number_of n) in
    let plain : Meaning = plain_repeat z p ms in
    let stands : Bool → Faults = λ d. fixed_faults n ++ (parts ms).faults d in
    let more : Bool → Faults = λ d. repeat_faults p n ms in
    stands_needs t (with_faults stands plain) more (stands_faults t plain stands (stands_plain_repeat z p t count all ms h k e w s c x))
