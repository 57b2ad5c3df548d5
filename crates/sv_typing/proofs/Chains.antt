-- Picks that stand for the selects of a chain: one more of them, and what follows of all.
use Rattle.std.proofs.Common.{◌≡◌, false, ◌&&◌, List, [], ◌∷◌, ◌++◌, Option, Some, None, refl, sym, ap, ◌∙◌, subst, arith, ℤ, if◌then◌else◌}
use Rattle.std.proofs.lemmas.List.{append-nil}
use Rattle.std.specs.List.{Contains, AllByRecursion}
use Rattle.std.proofs.lemmas.List.Elements.{All-from_recursion}
use Rattle.fourvec.specs.declared.Bit.{Bit}
use Rattle.lhs_alias.specs.declared.segs.WireBit.{WireBit}
use Rattle.sv_outside.specs.declared.refusal.Refusal.{Refusal}
use Rattle.sv_meaning.specs.Faults.{Faults, or_then}
use Rattle.sv_meaning.specs.Layouts.{Layout, width, Read, NamedSignal}
use Rattle.sv_meaning.specs.Meanings.{Meaning, Step, step_in, step_faults, with_part, indices, all_indices, bits_at, nowhere, chain_bits, chain_layout, chain_faults}
use Rattle.sv_meaning.specs.Targets.{with_place, slots_from, put_at, fixed_place, chain_slots, chain_fixed, put}
use Rattle.sv_typed.specs.declared.tree.Pick.{Pick}
use Rattle.sv_typed.specs.Typed.{pick_place, picked, place_names, picked_width, are_constant_picks, names_picked, PickIsSound}
use Rattle.sv_typing.specs.Picks.{fixed_pick, picked_slots, picked_put, are_fixed, Picks, Chains, Follows}
use Rattle.sv_typing.proofs.Lists.{in_first, contains_both}

-- ---- one more

pub chain_start : (j : Meaning → Faults) (x : Layout) → Chains j x [] [] x
unfolding Chains
chain_start j x = refl

pub chain_more : (j : Meaning → Faults) (x y z : Layout) (steps : List Step) (picks : List Pick) (s : Step) (p : Pick) →
    Chains j x steps picks y → Picks j y s p z → Chains j x (steps ++ s ∷ []) (picks ++ p ∷ []) z
unfolding Chains
chain_more j x y z [] [] s p h k = let P : Layout → Type 0 = λ t. Picks j t s p z in (z, subst P (sym h) k, refl)
chain_more j x y z [] (q ∷ picks) s p h k = absurd h
chain_more j x y z (a ∷ steps) [] s p h k = absurd h
chain_more j x y z (a ∷ steps) (q ∷ picks) s p (u, m, n) k = (u, m, chain_more j u y z steps picks s p n k)

-- ---- what stands against the rest stands against all

pub faults_behind : (j : Meaning → Faults) (x y : Layout) (steps : List Step) (picks : List Pick) (more : List Step) →
    Chains j x steps picks y → chain_faults j x (steps ++ more) ≡ chain_faults j y more
unfolding Chains chain_faults
faults_behind j x y [] [] more h = ap (λ t. chain_faults j t more) h
faults_behind j x y [] (q ∷ picks) more h = absurd h
faults_behind j x y (a ∷ steps) [] more h = absurd h
faults_behind j x y (a ∷ steps) (q ∷ picks) more (u, m, n) =
    ap (λ f. or_then f (with_part (step_in x a) [] (λ p. chain_faults j p.layout (steps ++ more)))) m.clear
    ∙ ap (λ o. with_part o [] (λ p. chain_faults j p.layout (steps ++ more))) m.is
    ∙ ap (λ t. chain_faults j t (steps ++ more)) m.layout ∙ faults_behind j u y steps picks more n

pub cause_behind : (j : Meaning → Faults) (x y : Layout) (steps : List Step) (picks : List Pick) (s : Step) (more : List Step) (r : Refusal) →
    Chains j x steps picks y → Contains (step_faults j y s) r → Contains (chain_faults j x (steps ++ s ∷ more)) r
unfolding chain_faults
cause_behind j x y steps picks s more r h k =
    let P : Faults → Type 0 = λ f. Contains f r in
    subst P (sym (faults_behind j x y steps picks (s ∷ more) h)) (in_first (step_faults j y s) _ r k)

-- ---- what follows

clear_of : (j : Meaning → Faults) (x y : Layout) (steps : List Step) (picks : List Pick) → Chains j x steps picks y → chain_faults j x steps ≡ []
unfolding chain_faults
clear_of j x y steps picks h = ap (chain_faults j x) (sym (append-nil steps)) ∙ faults_behind j x y steps picks [] h

layout_of : (j : Meaning → Faults) (x y : Layout) (steps : List Step) (picks : List Pick) → Chains j x steps picks y → chain_layout x steps ≡ Some y
unfolding Chains chain_layout
layout_of j x y [] [] h = ap Some h
layout_of j x y [] (q ∷ picks) h = absurd h
layout_of j x y (a ∷ steps) [] h = absurd h
layout_of j x y (a ∷ steps) (q ∷ picks) (u, m, n) =
    ap (λ o. with_part o None (λ p. chain_layout p.layout steps)) m.is ∙ ap (λ t. chain_layout t steps) m.layout ∙ layout_of j u y steps picks n

width_is : (j : Meaning → Faults) (x : Layout) (s : Step) (p : Pick) (y : Layout) (m : Picks j x s p y) → width m.part.layout ≡ p.width
width_is j x s p y m = ap width m.layout ∙ m.width

bits_of : (j : Meaning → Faults) (x y : Layout) (steps : List Step) (picks : List Pick) (read : Read) (a : List Bit) → Chains j x steps picks y → chain_bits read x steps a ≡ picked read picks a
unfolding Chains chain_bits picked
bits_of j x y [] [] read a h = refl
bits_of j x y [] (q ∷ picks) read a h = absurd h
bits_of j x y (s ∷ steps) [] read a h = absurd h
bits_of j x y (s ∷ steps) (q ∷ picks) read a (u, m, n) =
    ap (λ o. with_part o a (λ p. chain_bits read p.layout steps (bits_at (p.place read) (width p.layout) a))) m.is
    ∙ ap (λ t. chain_bits read t steps (bits_at (m.part.place read) (width m.part.layout) a)) m.layout
    ∙ ap (λ w. chain_bits read u steps (bits_at (m.part.place read) w a)) (width_is j x s q u m)
    ∙ ap (λ i. chain_bits read u steps (bits_at i q.width a)) (m.place read)
    ∙ bits_of j u y steps picks read (bits_at (pick_place q read) q.width a) n

-- the place of a part whose index is constant
place_fixed : (j : Meaning → Faults) (x : Layout) (s : Step) (p : Pick) (y : Layout) (m : Picks j x s p y) → fixed_place s m.part ≡ fixed_pick p
place_fixed j x s p y m =
    ap (λ b. if b then m.part.place nowhere else None) m.constant ∙ ap (λ o. if p.constant then o else None) (m.place nowhere)

each_place : (o : Option ℤ) (all : List (Option WireBit)) (f g : ℤ → List (Option WireBit)) → ((i : ℤ) → f i ≡ g i) → with_place o all f ≡ with_place o all g
each_place None all f g h = refl
each_place (Some i) all f g h = h i

slots_of : (j : Meaning → Faults) (x y : Layout) (steps : List Step) (picks : List Pick) (all : List (Option WireBit)) → Chains j x steps picks y → chain_slots x steps all ≡ picked_slots picks all
unfolding Chains chain_slots picked_slots
slots_of j x y [] [] all h = refl
slots_of j x y [] (q ∷ picks) all h = absurd h
slots_of j x y (s ∷ steps) [] all h = absurd h
slots_of j x y (s ∷ steps) (q ∷ picks) all (u, m, n) =
    ap (λ o. with_part o all (λ p. with_place (fixed_place s p) all (λ i. chain_slots p.layout steps (slots_from all i (width p.layout))))) m.is
    ∙ ap (λ t. with_place (fixed_place s m.part) all (λ i. chain_slots t steps (slots_from all i (width m.part.layout)))) m.layout
    ∙ ap (λ w. with_place (fixed_place s m.part) all (λ i. chain_slots u steps (slots_from all i w))) (width_is j x s q u m)
    ∙ ap (λ o. with_place o all (λ i. chain_slots u steps (slots_from all i q.width))) (place_fixed j x s q u m)
    ∙ each_place (fixed_pick q) all (λ i. chain_slots u steps (slots_from all i q.width)) (λ i. picked_slots picks (slots_from all i q.width)) (λ i. slots_of j u y steps picks (slots_from all i q.width) n)

puts_of : (j : Meaning → Faults) (x y : Layout) (steps : List Step) (picks : List Pick) (read : Read) (old bits : List Bit) → Chains j x steps picks y → put read x steps old bits ≡ picked_put read picks old bits
unfolding Chains put picked_put
puts_of j x y [] [] read old bits h = refl
puts_of j x y [] (q ∷ picks) read old bits h = absurd h
puts_of j x y (s ∷ steps) [] read old bits h = absurd h
puts_of j x y (s ∷ steps) (q ∷ picks) read old bits (u, m, n) =
    ap (λ o. with_part o old (λ p. put_at (p.place read) old (put read p.layout steps (bits_at (p.place read) (width p.layout) old) bits))) m.is
    ∙ ap (λ t. put_at (m.part.place read) old (put read t steps (bits_at (m.part.place read) (width m.part.layout) old) bits)) m.layout
    ∙ ap (λ w. put_at (m.part.place read) old (put read u steps (bits_at (m.part.place read) w old) bits)) (width_is j x s q u m)
    ∙ ap (λ i. put_at i old (put read u steps (bits_at i q.width old) bits)) (m.place read)
    ∙ ap (λ t. put_at (pick_place q read) old t) (puts_of j u y steps picks read (bits_at (pick_place q read) q.width old) bits n)

fixed_of : (j : Meaning → Faults) (x y : Layout) (steps : List Step) (picks : List Pick) → Chains j x steps picks y → chain_fixed x steps ≡ are_fixed picks
unfolding Chains chain_fixed are_fixed
fixed_of j x y [] [] h = refl
fixed_of j x y [] (q ∷ picks) h = absurd h
fixed_of j x y (s ∷ steps) [] h = absurd h
fixed_of j x y (s ∷ steps) (q ∷ picks) (u, m, n) =
    ap (λ o. with_part o false (λ p. with_place (fixed_place s p) false (λ i. chain_fixed p.layout steps))) m.is
    ∙ ap (λ t. with_place (fixed_place s m.part) false (λ i. chain_fixed t steps)) m.layout
    ∙ ap (λ o. with_place o false (λ i. chain_fixed u steps)) (place_fixed j x s q u m)
    ∙ ap (λ b. with_place (fixed_pick q) false (λ i. b)) (fixed_of j u y steps picks n)

constant_of : (j : Meaning → Faults) (x y : Layout) (steps : List Step) (picks : List Pick) → Chains j x steps picks y → (all_indices steps).constant ≡ are_constant_picks picks
unfolding Chains all_indices are_constant_picks
constant_of j x y [] [] h = refl
constant_of j x y [] (q ∷ picks) h = absurd h
constant_of j x y (s ∷ steps) [] h = absurd h
constant_of j x y (s ∷ steps) (q ∷ picks) (u, m, n) = ap (λ b. b && (all_indices steps).constant) m.constant ∙ ap (λ b. q.constant && b) (constant_of j u y steps picks n)

width_of : (j : Meaning → Faults) (x y : Layout) (steps : List Step) (picks : List Pick) → Chains j x steps picks y → picked_width picks (width x) ≡ width y
unfolding Chains picked_width
width_of j x y [] [] h = ap width h
width_of j x y [] (q ∷ picks) h = absurd h
width_of j x y (s ∷ steps) [] h = absurd h
width_of j x y (s ∷ steps) (q ∷ picks) (u, m, n) = ap (picked_width picks) (sym m.width) ∙ width_of j u y steps picks n

names_of : (j : Meaning → Faults) (x y : Layout) (steps : List Step) (picks : List Pick) (n : NamedSignal) → Chains j x steps picks y → Contains (names_picked picks) n → Contains (all_indices steps).names n
unfolding Chains all_indices names_picked
names_of j x y [] [] n h c = absurd (omega (arith, c.1))
names_of j x y [] (q ∷ picks) n h c = absurd h
names_of j x y (s ∷ steps) [] n h c = absurd h
names_of j x y (s ∷ steps) (q ∷ picks) n (u, m, k) c =
    contains_both (place_names q.place) (names_picked picks) (indices s).names (all_indices steps).names n (m.names n) (names_of j u y steps picks n k) c

sound_of : (j : Meaning → Faults) (x y : Layout) (steps : List Step) (picks : List Pick) → Chains j x steps picks y → AllByRecursion PickIsSound picks
unfolding Chains
sound_of j x y [] [] h = tt
sound_of j x y [] (q ∷ picks) h = absurd h
sound_of j x y (s ∷ steps) [] h = absurd h
sound_of j x y (s ∷ steps) (q ∷ picks) (u, m, k) = (m.sound, sound_of j u y steps picks k)

pub follows : (j : Meaning → Faults) (x y : Layout) (steps : List Step) (picks : List Pick) → Chains j x steps picks y → Follows j x steps picks y
follows j x y steps picks h = record {
  clear = clear_of j x y steps picks h;
  layout = layout_of j x y steps picks h;
  bits = λ read a. bits_of j x y steps picks read a h;
  slots = λ all. slots_of j x y steps picks all h;
  puts = λ read old bits. puts_of j x y steps picks read old bits h;
  fixed = fixed_of j x y steps picks h;
  constant = constant_of j x y steps picks h;
  width = width_of j x y steps picks h;
  names = λ n. names_of j x y steps picks n h;
  sound = All-from_recursion PickIsSound picks (sound_of j x y steps picks h);
}
