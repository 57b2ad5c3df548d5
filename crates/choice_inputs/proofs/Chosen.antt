-- Choices and their bits.
use Rattle.std.proofs.Common.{◌≡◌, ℕ, zero, suc, ◌+◌, ◌<◌, ◌≤◌, Bool, true, false, List, [], ◌∷◌, ◌++◌, map, length, get_or, take, drop, refl, sym, ap, ◌∙◌, arith, IsTrue, All, subst, length-append, length-drop, length-take, take-append-drop, take-add, append-nil}
use Rattle.std.proofs.lemmas.List.{length-map, map-append, take_more, drop_more, drop_all}
use Rattle.std.proofs.lemmas.List.Concat.{flat_map-append}
use Rattle.std.proofs.lemmas.List.Elements.{All-push}
use Rattle.fourvec.specs.declared.Bit.{Bit}
use Rattle.fourvec.specs.declared.Bit.TheVariants.{Zero, One, Unknown, Floating}
use Rattle.fourvec.specs.Bits.{is_known, is_one, truth_bit}
use Rattle.svtv_choices.specs.Choices.{bits_of}
use Rattle.svtv_table.specs.Binding.{HasWidth}
use Rattle.svtv_table.specs.Stimuli.{IsChoice}
use Rattle.svtv_table.specs.declared.bound.VarDecl.{VarDecl}
use Rattle.choice_inputs.specs.Questions.{inputs_of}

-- ---- one vector

pub bits_back : (v : List Bit) → is_known v ≡ true → map truth_bit (map is_one v) ≡ v
unfolding is_known
bits_back [] h = refl
bits_back (Zero ∷ v) h = ap (λ w. Zero ∷ w) (bits_back v h)
bits_back (One ∷ v) h = ap (λ w. One ∷ w) (bits_back v h)
bits_back (Unknown ∷ v) h = cc
bits_back (Floating ∷ v) h = cc

pub bits_there : (bits : List Bool) → map is_one (map truth_bit bits) ≡ bits
bits_there [] = refl
bits_there (true ∷ bits) = ap (λ w. true ∷ w) (bits_there bits)
bits_there (false ∷ bits) = ap (λ w. false ∷ w) (bits_there bits)

pub truths_known : (bits : List Bool) → is_known (map truth_bit bits) ≡ true
unfolding is_known
truths_known [] = refl
truths_known (true ∷ bits) = truths_known bits
truths_known (false ∷ bits) = truths_known bits

-- ---- whole choices

pub all_cons : {C : Type 0} (Q : C → Type 0) (a : C) (more : List C) → Q a → All Q more → All Q (a ∷ more)
all_cons Q a more q qs zero d l = q
all_cons Q a more q qs (suc i) d l = qs i d (omega (arith, l))

pub inputs_long : (vars : List VarDecl) (choice : List (List Bit)) → map (λ v. length v) choice ≡ map (λ v. v.width) vars → length (inputs_of choice) ≡ bits_of vars
unfolding bits_of
inputs_long [] [] w = refl
inputs_long [] (v ∷ choice) w = absurd (let e = ap length w in omega (arith, e))
inputs_long (x ∷ vars) [] w = absurd (let e = ap length w in omega (arith, e))
inputs_long (x ∷ vars) (v ∷ choice) w =
    let e : length v ≡ x.width = ap (λ xs. get_or xs 0 0) w in
    let rest = inputs_long vars choice (ap (drop 1) w) in
    omega (arith, length-append (map is_one v) (inputs_of choice), length-map v is_one, e, rest)

pub choice_long : (vars : List VarDecl) (choice : List (List Bit)) → IsChoice vars choice → length (inputs_of choice) ≡ bits_of vars
choice_long vars choice c = inputs_long vars choice c.widths

-- bits that are as many as those of variables are those of a choice
pub some_choice : (vars : List VarDecl) (inputs : List Bool) → length inputs ≡ bits_of vars → (choice : List (List Bit)) × IsChoice vars choice × (inputs_of choice ≡ inputs)
unfolding bits_of
some_choice [] [] h = ([], record { widths = refl; known = λ i d l. absurd (omega (arith, l)) }, refl)
some_choice [] (b ∷ inputs) h = absurd (omega (arith, h))
some_choice (x ∷ vars) inputs h =
    let rest = some_choice vars (drop x.width inputs) (omega (arith, h, length-drop x.width inputs)) in
    let first : List Bool = take x.width inputs in
    let v : List Bit = map truth_bit first in
    let long : length v ≡ x.width = length-map first truth_bit ∙ omega (arith, h, length-take x.width inputs) in (
      v ∷ rest.0,
      record {
        widths = ap (λ n. n ∷ map (λ u. length u) rest.0) long ∙ ap (λ ns. x.width ∷ ns) rest.1.widths;
        known = all_cons (λ u. IsTrue (is_known u)) v rest.0 (truths_known first) rest.1.known;
      },
      ap (λ bs. bs ++ inputs_of rest.0) (bits_there first) ∙ ap (λ bs. first ++ bs) rest.2 ∙ take-append-drop x.width inputs,
    )

-- ---- choices made one variable after another

is_prefix : (vars : List VarDecl) (i : ℕ) (x : VarDecl) → i < length vars → x ≡ get_or vars i x → map (λ v. v.width) (take (i + 1) vars) ≡ map (λ v. v.width) (take i vars) ++ x.width ∷ []
is_prefix vars i x l e =
    let width : VarDecl → ℕ = λ v. v.width in
    ap (map width) (take_more vars i x l ∙ ap (λ y. take i vars ++ y ∷ []) (sym e)) ∙ map-append width (take i vars) (x ∷ [])

pub choice_start : (vars : List VarDecl) → IsChoice (take 0 vars) []
choice_start vars = record { widths = refl; known = λ i d l. absurd (omega (arith, l)) }

pub choice_more : (vars : List VarDecl) (i : ℕ) (x : VarDecl) (choice now : List (List Bit)) (bits : List Bool) → i < length vars → x ≡ get_or vars i x → length bits ≡ x.width
    → IsChoice (take i vars) choice → now ≡ choice ++ map truth_bit bits ∷ [] → IsChoice (take (i + 1) vars) now
choice_more vars i x choice now bits l e long c is =
    let v : List Bit = map truth_bit bits in
    let len : List Bit → ℕ = λ u. length u in
    let wide : length v ≡ x.width = length-map bits truth_bit ∙ long in
    subst (IsChoice (take (i + 1) vars)) (sym is) (record {
      widths = map-append len choice (v ∷ []) ∙ (ap (λ ns. ns ++ length v ∷ []) c.widths ∙ (ap (λ n. map (λ y. y.width) (take i vars) ++ n ∷ []) wide ∙ sym (is_prefix vars i x l e)));
      known = All-push (λ u. IsTrue (is_known u)) choice v c.known (truths_known bits);
    })

pub inputs_more : (choice now : List (List Bit)) (inputs bits : List Bool) (at width : ℕ) → inputs_of choice ≡ take at inputs → bits ≡ take width (drop at inputs) → now ≡ choice ++ map truth_bit bits ∷ [] → inputs_of now ≡ take (at + width) inputs
inputs_more choice now inputs bits at width e b is =
    ap inputs_of is ∙ (flat_map-append (λ v. map is_one v) choice (map truth_bit bits ∷ [])
    ∙ (ap (λ xs. inputs_of choice ++ xs) (append-nil (map is_one (map truth_bit bits)) ∙ (bits_there bits ∙ b))
    ∙ (ap (λ xs. xs ++ take width (drop at inputs)) e ∙ sym (take-add at width inputs))))

pub bits_more : (vars : List VarDecl) (i : ℕ) (x : VarDecl) → i < length vars → x ≡ get_or vars i x → bits_of (drop i vars) ≡ x.width + bits_of (drop (i + 1) vars)
unfolding bits_of
bits_more vars i x l e = ap bits_of (drop_more vars i x l) ∙ ap (λ (y : VarDecl). y.width + bits_of (drop (i + 1) vars)) (sym e)

pub bits_none : (vars : List VarDecl) (i : ℕ) → length vars ≤ i → bits_of (drop i vars) ≡ 0
unfolding bits_of
bits_none vars i le = ap bits_of (drop_all i vars le)

pub long_part : (inputs bits : List Bool) (at width : ℕ) → at + width ≤ length inputs → bits ≡ take width (drop at inputs) → length bits ≡ width
long_part inputs bits at width le e =
    ap length e ∙ omega (arith, le, length-take width (drop at inputs), length-drop at inputs)

pub wide_at : (vars : List VarDecl) (i : ℕ) (x : VarDecl) → i < length vars → x ≡ get_or vars i x → All (λ v. HasWidth v.width) vars → HasWidth x.width
wide_at vars i x l e h = subst (λ (y : VarDecl). HasWidth y.width) (sym e) (h i x l)
