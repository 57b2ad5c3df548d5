-- The wires that the statements of a block write, as names declare them.
use Rattle.std.proofs.Common.{◌≡◌, ◌≢◌, ℕ, zero, suc, ◌+◌, ◌*◌, ◌<◌, ◌≤◌, Bool, true, false, ◌&&◌, List, [], ◌∷◌, ◌++◌, length, take, replicate, get_or, Option, Some, None, refl, sym, ap, ◌∙◌, ◌⊎◌, inl, inr, subst, arith, nat_lt}
use Rattle.std.specs.List.{All, Contains}
use Rattle.std.proofs.lemmas.List.{replicate-append-replicate, take_all, get_or_push, get_or_past, length_push, length-replicate, get_or-replicate, get_or_append_left}
use Rattle.std.specs.Prelude.{is_some}
use Rattle.std.proofs.lemmas.List.Elements.{All-push, All-nil, All-weaker}
use Rattle.sv_lower.proofs.Trees.{taken_more}
use Rattle.std.proofs.lemmas.Bool.{cases_lt, cases_eq}
use Rattle.svex_arena.specs.Substs.{entry_at, given_or}
use Rattle.sv_meaning.specs.Layouts.{What, signal_is, of_wires, NamedSignal}
use Rattle.sv_names.specs.declared.layout.Layout.{Layout as Laid}
use Rattle.sv_names.specs.Kinds.{layout_is, IsSound}
use Rattle.sv_names.proofs.Sound.{sound_width}
use Rattle.sv_blocks.specs.declared.wires.Wire.{Wire}
use Rattle.sv_blocks.specs.declared.wires.Places.{Places}
use Rattle.sv_stores.specs.declared.scene.Manner.{Manner}
use Rattle.sv_stores.specs.Scenes.{mark_at}
use Rattle.sv_actions.specs.Texts.{wire_signal, signal_of}
use Rattle.sv_blocks.specs.Declaring.{wire_is, maybe_wire, wires_are, HasBits, IsAmong, IsThere, ArePlaces, IsBegun}

-- ---- what a name stands for

pub wire_kept : (number : ℕ) (x : Laid) (w : What) (y : Wire) → w ≡ signal_is of_wires number (layout_is x) → IsSound x → y ≡ record { number = number; width = x.width } → (maybe_wire (Some y) ≡ signal_of (Some w)) × HasBits y
wire_kept number x w y e h f =
    let g = sound_width x h in (
      ap (λ z. maybe_wire (Some z)) f ∙ ap (λ n. wire_signal number n ∷ []) g.0 ∙ sym (ap (λ z. signal_of (Some z)) e),
      subst HasBits (sym f) (record { some = g.1; most = g.2 }),
    )

-- wires behind others
pub wires_push : (front : List Wire) (x : Wire) → wires_are (front ++ x ∷ []) ≡ wires_are front ++ wire_is x ∷ []
wires_push [] x = refl
wires_push (y ∷ front) x = ap (λ ys. wire_is y ∷ ys) (wires_push front x)

pub among_all : (named : List NamedSignal) (all : List Wire) → wires_are all ≡ named → All HasBits all → All (IsAmong named) all
among_all named all e h k d l = record { there = subst (λ ns. Contains ns (wire_is (get_or all k d))) e (at_place all k d l); bits = h k d l }
  where
    at_place : (xs : List Wire) (i : ℕ) (d : Wire) → i < length xs → Contains (wires_are xs) (wire_is (get_or xs i d))
    at_place [] i d l = absurd (omega arith)
    at_place (x ∷ xs) zero d l = (0, omega arith, refl)
    at_place (x ∷ xs) (suc i) d l = let g = at_place xs i d (omega arith) in (suc g.0, omega (arith, g.1), g.2)

-- ---- places

pub places_none : (named : List NamedSignal) (all : Places) → all.places ≡ [] → all.wires.items ≡ [] → all.widths.items ≡ [] → ArePlaces named all
places_none named all e d f = record {
  long = ap length f ∙ sym (ap length d);
  back = λ n i h. let g : None ≡ Some i = sym (ap (λ xs. entry_at xs n) e) ∙ h in cc;
  among = λ i l. absurd (let g = ap length d in omega arith);
}

-- a place more, for a wire that had none
pub places_more : (named : List NamedSignal) (all new : Places) (w : Wire) → IsAmong named w
    → entry_at new.places w.number ≡ Some (length all.wires.items) → ((n : ℕ) → n ≢ w.number → entry_at new.places n ≡ entry_at all.places n)
    → new.wires.items ≡ all.wires.items ++ w.number ∷ [] → new.widths.items ≡ all.widths.items ++ w.width ∷ [] → ArePlaces named all → ArePlaces named new
places_more named all new w declared here others d f h = record {
  long = ap length f ∙ length_push all.widths.items w.width ∙ ap (λ n. n + 1) h.long ∙ sym (ap length d ∙ length_push all.wires.items w.number);
  back = λ n i g. back n i g (cases_eq n w.number);
  among = λ i l. known i (omega (arith, ap length d, length_push all.wires.items w.number)) (cases_lt i (length all.wires.items));
}
  where
    wire_at : (i : ℕ) → i < length all.wires.items → get_or new.wires.items i 0 ≡ get_or all.wires.items i 0
    wire_at i l = ap (λ xs. get_or xs i 0) d ∙ get_or_append_left all.wires.items (w.number ∷ []) 0 i l

    last_wire : get_or new.wires.items (length all.wires.items) 0 ≡ w.number
    last_wire = ap (λ xs. get_or xs (length all.wires.items) 0) d ∙ get_or_push all.wires.items w.number 0 (length all.wires.items) refl

    width_at : (i : ℕ) → i < length all.wires.items → get_or new.widths.items i 0 ≡ get_or all.widths.items i 0
    width_at i l = ap (λ xs. get_or xs i 0) f ∙ get_or_append_left all.widths.items (w.width ∷ []) 0 i (let g = h.long in omega arith)

    last_width : get_or new.widths.items (length all.wires.items) 0 ≡ w.width
    last_width = ap (λ xs. get_or xs (length all.wires.items) 0) f ∙ get_or_push all.widths.items w.width 0 (length all.wires.items) h.long

    longer : length new.wires.items ≡ length all.wires.items + 1
    longer = ap length d ∙ length_push all.wires.items w.number

    some_same : (a b : ℕ) → Some a ≡ Some b → a ≡ b
    some_same a b e = cc

    back : (n i : ℕ) → entry_at new.places n ≡ Some i → ((n ≡ w.number) ⊎ (n ≢ w.number)) → (i < length new.wires.items) × (get_or new.wires.items i 0 ≡ n)
    back n i g (inl e) =
        let is : i ≡ length all.wires.items = sym (some_same (length all.wires.items) i (sym here ∙ ap (entry_at new.places) (sym e) ∙ g)) in
        ((let x = longer in omega arith), ap (λ m. get_or new.wires.items m 0) is ∙ last_wire ∙ sym e)
    back n i g (inr ne) =
        let b = h.back n i (sym (others n ne) ∙ g) in
        ((let x = longer in let y = b.0 in omega arith), wire_at i b.0 ∙ b.1)

    known : (i : ℕ) → i < length all.wires.items + 1 → ((i < length all.wires.items) ⊎ (length all.wires.items ≤ i)) → IsAmong named (record { number = get_or new.wires.items i 0; width = get_or new.widths.items i 0 })
    known i l (inl lt) =
        subst (λ x. IsAmong named (record { number = x; width = get_or new.widths.items i 0 })) (sym (wire_at i lt))
        (subst (λ x. IsAmong named (record { number = get_or all.wires.items i 0; width = x })) (sym (width_at i lt)) (h.among i lt))
    known i l (inr le) =
        let e : i ≡ length all.wires.items = omega arith in
        let P : ℕ → Type 0 = λ m. IsAmong named (record { number = get_or new.wires.items m 0; width = get_or new.widths.items m 0 }) in
        subst P (sym e)
        (subst (λ x. IsAmong named (record { number = x; width = get_or new.widths.items (length all.wires.items) 0 })) (sym last_wire)
        (subst (λ x. IsAmong named (record { number = w.number; width = x })) (sym last_width) declared))

-- ---- each wire has a place

pub there_none : (places : List (Option ℕ)) (found : List Wire) → All (IsThere places) (take 0 found)
there_none places found = All-nil (IsThere places)

pub there_more : (old new : List (Option ℕ)) (found : List Wire) (i : ℕ) (x : Wire) → i < length found → x ≡ get_or found i x → ((y : Wire) → IsThere old y → IsThere new y) → All (IsThere old) (take i found) → IsThere new x → All (IsThere new) (take (i + 1) found)
there_more old new found i x l e kept h k = subst (All (IsThere new)) (sym (taken_more found i x l e)) (All-push (IsThere new) (take i found) x (All-weaker (IsThere old) (IsThere new) kept (take i found) h) k)

pub there_all : (places all : List (Option ℕ)) (found : List Wire) (i : ℕ) → length found ≤ i → places ≡ all → All (IsThere all) (take i found) → All (IsThere places) found
there_all places all found i l e h = subst (λ xs. All (IsThere xs) found) (sym e) (subst (All (IsThere all)) (take_all i found l) h)

-- where a wire has a place and the others keep theirs
pub there_kept : (old new : List (Option ℕ)) (w x : Wire) (p : ℕ) → entry_at new w.number ≡ Some p → ((n : ℕ) → n ≢ w.number → entry_at new n ≡ entry_at old n) → IsThere old x → IsThere new x
there_kept old new w x p here others h = elim (cases_eq x.number w.number) [
  | inl e ↦ ap (λ n. is_some (entry_at new n)) e ∙ ap is_some here
  | inr ne ↦ ap is_some (others x.number ne) ∙ h
]

-- ---- a scene with nothing marked

pub one_wire_more : (marks more new : List Bool) (n : ℕ) → marks ≡ replicate (n * 128) false → more ≡ replicate 128 false → new ≡ marks ++ more → new ≡ replicate ((n + 1) * 128) false
one_wire_more marks more new n e d h =
    let g : n * 128 + 128 ≡ (n + 1) * 128 = omega arith in
    h ∙ ap (λ xs. xs ++ more) e ∙ ap (λ xs. replicate (n * 128) false ++ xs) d ∙ replicate-append-replicate (n * 128) 128 false ∙ ap (λ k. replicate k false) g

no_mark : (n i k : ℕ) → mark_at (replicate n false) i k ≡ false
no_mark n i k = elim (cases_lt (i * 128 + k) n) [
  | inl lt ↦ ap (λ b. nat_lt k 128 && b) (get_or-replicate n (i * 128 + k) false false lt) ∙ never (nat_lt k 128)
  | inr le ↦ ap (λ b. nat_lt k 128 && b) (get_or_past (replicate n false) (i * 128 + k) false (omega (arith, length-replicate n false))) ∙ never (nat_lt k 128)
]
  where
    never : (b : Bool) → (b && false) ≡ false
    never true = refl
    never false = refl

given_never : (f : ℕ → Bool) (o : Option ℕ) → ((i : ℕ) → f i ≡ false) → given_or f false o ≡ false
given_never f None h = refl
given_never f (Some i) h = h i

pub begun : (named : List NamedSignal) (manner : Manner) (all : Places) (places : List (Option ℕ)) (wires widths : List ℕ) (marks : List Bool) (n : ℕ) → ArePlaces named all → places ≡ all.places → wires ≡ all.wires.items → widths ≡ all.widths.items → marks ≡ replicate (n * 128) false → n ≡ length all.wires.items
    → IsBegun named manner (record { places = places; wires = wires; widths = widths; marks = marks; manner = manner })
begun named manner all places wires widths marks n h p d f m c = record {
  sound = record {
    long = ap length f ∙ h.long ∙ sym (ap length d);
    back = λ k i g. subst (λ xs. (i < length xs) × (get_or xs i 0 ≡ k)) (sym d) (h.back k i (sym (ap (λ xs. entry_at xs k) p) ∙ g));
    some = λ i l. subst (λ xs. 1 ≤ get_or xs i 0) (sym f) (h.among i (let a = ap length f in let b = h.long in omega arith)).bits.some;
    most = λ i l. subst (λ xs. get_or xs i 0 ≤ 128) (sym f) (h.among i (let a = ap length f in let b = h.long in omega arith)).bits.most;
  };
  among = λ i l.
      subst (λ xs. Contains named (wire_signal (get_or xs i 0) (get_or widths i 0))) (sym d)
      (subst (λ xs. Contains named (wire_signal (get_or all.wires.items i 0) (get_or xs i 0))) (sym f) (h.among i (subst (λ xs. i < length xs) d l)).there);
  manner_is = refl;
  clear = λ k j. given_never (λ i. mark_at marks i j) (entry_at places k) (λ i. ap (λ ms. mark_at ms i j) m ∙ no_mark (n * 128) i j);
  marks = ap length m ∙ length-replicate (n * 128) false ∙ ap (λ k. k * 128) (c ∙ ap length (sym d));
}
