-- The bits of wires, and their stimuli, in the two ways in which they are written.
use Rattle.std.proofs.Common.{◌≡◌, ℕ, zero, suc, ◌+◌, Bool, true, false, cond, ◌<◌, List, [], ◌∷◌, ◌++◌, length, map, take, get_or, refl, sym, ap, ◌∙◌, arith}
use Rattle.std.specs.List.{zip, range_with_len}
use Rattle.sv_outside.specs.declared.text.Signal.{Signal}
use Rattle.lhs_alias.specs.Segs.{bit, seg_bits, lhs_bits}
use Rattle.settling.specs.Settling.{Store, Contribution, value_at}
use Rattle.driver_resolve.specs.Drivers as f
use Rattle.sv_meaning.specs.Designs as d
use Rattle.sv_meaning.specs.Designs.{bits_of_wire, pairs}
use Rattle.sv_meaning.proofs.Overriding.{same-setting}
use Rattle.sv_lower.proofs.Trees.{taken_more}
use Rattle.sv_elab.specs.Working.{wire_seg}

pub run_is : (n k w : ℕ) → bits_of_wire n k w ≡ map (bit n) (range_with_len k w)
unfolding bits_of_wire
run_is n k zero = refl
run_is n k (suc w) = let e : suc k ≡ k + 1 = omega arith in ap (λ xs. bit n k ∷ xs) (ap (λ m. bits_of_wire n m w) e ∙ run_is n (k + 1) w)

pub seg_is : (n w : ℕ) → lhs_bits (wire_seg n w ∷ []) ≡ bits_of_wire n 0 w
unfolding seg_bits
seg_is n w = sym (run_is n 0 w)

pub run_long : (n k w : ℕ) → length (bits_of_wire n k w) ≡ w
unfolding bits_of_wire
run_long n k zero = refl
run_long n k (suc w) = ap suc (run_long n (suc k) w)

pub pairs_are : {A B : Type 0} (xs : List A) (ys : List B) → pairs xs ys ≡ zip xs ys
unfolding pairs
pairs_are [] [] = refl
pairs_are [] (y ∷ ys) = refl
pairs_are (x ∷ xs) [] = refl
pairs_are (x ∷ xs) (y ∷ ys) = ap (λ zs. (x, y) ∷ zs) (pairs_are xs ys)

stimulus_is : (n w : ℕ) (b : Bool) (stim : Store) → cond b (map {B = Contribution} (λ c. (c, value_at stim c)) (bits_of_wire n 0 w)) [] ≡ cond b (map {B = Contribution} (λ c. (c, value_at stim c)) (f.wire_bits n w)) []
stimulus_is n w true stim = ap (map {B = Contribution} (λ c. (c, value_at stim c))) (run_is n 0 w)
stimulus_is n w false stim = refl

pub stimuli_are : (n : ℕ) (all : List Signal) (stim : Store) → d.stimuli_from n all stim ≡ f.stimuli_from n all stim
unfolding d.stimuli_from f.stimuli_from
stimuli_are n [] stim = refl
stimuli_are n (s ∷ all) stim = ap (λ xs. xs ++ d.stimuli_from (suc n) all stim) (stimulus_is n s.width s.input stim) ∙ ap (λ ys. cond s.input (map {B = Contribution} (λ c. (c, value_at stim c)) (f.wire_bits n s.width)) [] ++ ys) (stimuli_are (suc n) all stim)

-- what overridden wires are set to, where this comes from outside beside the stimuli
setting_is : (n w : ℕ) (b : Bool) (o : d.Overriding) (stim : Store) → d.has_wire o.wires n ≡ b
    → cond b (map {B = Contribution} (λ c. (c, value_at (d.outside stim o) c)) (f.wire_bits n w)) [] ≡ cond b (map {B = Contribution} (λ c. (c, value_at o.values c)) (bits_of_wire n 0 w)) []
setting_is n w true o stim e = ap (map {B = Contribution} (λ c. (c, value_at (d.outside stim o) c))) (sym (run_is n 0 w)) ∙ same-setting o n stim e 0 w
setting_is n w false o stim e = refl

pub settings_are : (n : ℕ) (all : List Signal) (o : d.Overriding) (stim : Store) → f.overriding_from n all o.wires (d.outside stim o) ≡ d.overriding_from n all o
unfolding d.overriding_from f.overriding_from
settings_are n [] o stim = refl
settings_are n (s ∷ all) o stim =
    ap (λ xs. xs ++ f.overriding_from (suc n) all o.wires (d.outside stim o)) (setting_is n s.width (d.has_wire o.wires n) o stim refl)
    ∙ ap (λ ys. cond (d.has_wire o.wires n) (map {B = Contribution} (λ c. (c, value_at o.values c)) (bits_of_wire n 0 s.width)) [] ++ ys) (settings_are (suc n) all o stim)

-- ---- copies

pub copied_more : (wires : List Signal) (i : ℕ) (s t : Signal) (all next : List Signal) → i < length wires → s ≡ get_or wires i s → all ≡ take i wires → t ≡ s → next ≡ all ++ t ∷ [] → next ≡ take (i + 1) wires
copied_more wires i s t all next l e h same is = is ∙ (λ k. h k ++ same k ∷ []) ∙ sym (taken_more wires i s l e)
