-- One byte more of a run, of a text whose first byte and rest are read by a pattern.
use Rattle.std.proofs.Common.{◌≡◌, ℕ, suc, ◌+◌, ◌-◌, ◌≤◌, ◌<◌, ◌^◌, List, [], ◌∷◌, Bool, true, false, refl, sym, ◌∙◌, ap, subst, arith, length, take, drop, get_or}
use Rattle.std.specs.Prelude.{◌==◌}
use Rattle.std.proofs.lemmas.List.{take_all}
use Rattle.sv_outside.specs.declared.refusal.Place.{Place}
use Rattle.sv_token.specs.Cut.{run, past, past_byte}

abbrev pub behind_first : List ℕ → List ℕ
behind_first rest = take (length rest - 1) (drop 1 rest)

rest_of : (b : ℕ) (bs : List ℕ) → behind_first (b ∷ bs) ≡ bs
rest_of b bs = take_all (length (b ∷ bs) - 1) bs (omega arith)

run_on : (goes : ℕ → Bool) (b : ℕ) (bs : List ℕ) → goes b ≡ true → run goes (b ∷ bs) ≡ suc (run goes bs)
unfolding run
run_on goes b bs g = rw g refl

run_off : (goes : ℕ → Bool) (b : ℕ) (bs : List ℕ) → goes b ≡ false → run goes (b ∷ bs) ≡ 0
unfolding run
run_off goes b bs g = rw g refl

run_none : (goes : ℕ → Bool) → run goes [] ≡ 0
unfolding run
run_none goes = refl

pub run_more : (goes : ℕ → Bool) (n : ℕ) (rest text : List ℕ) → 1 ≤ length rest → goes (get_or rest 0 0) ≡ true → n + run goes rest ≡ run goes text → (n + 1) + run goes (behind_first rest) ≡ run goes text
run_more goes n [] text l g h = absurd (omega (arith, l))
run_more goes n (b ∷ bs) text l g h = subst (λ r. (n + 1) + run goes r ≡ run goes text) (sym (rest_of b bs)) (omega (arith, run_on goes b bs g, h))

pub run_stops : (goes : ℕ → Bool) (n : ℕ) (rest text : List ℕ) → 1 ≤ length rest → goes (get_or rest 0 0) ≡ false → n + run goes rest ≡ run goes text → n ≡ run goes text
run_stops goes n [] text l g h = absurd (omega (arith, l))
run_stops goes n (b ∷ bs) text l g h = omega (arith, run_off goes b bs g, h)

pub run_ends : (goes : ℕ → Bool) (n : ℕ) (rest text : List ℕ) → length rest < 1 → n + run goes rest ≡ run goes text → n ≡ run goes text
run_ends goes n [] text l h = omega (arith, run_none goes, h)
run_ends goes n (b ∷ bs) text l h = absurd (omega (arith, l))

pub room_more : (n : ℕ) (rest text : List ℕ) → 1 ≤ length rest → n + length rest ≡ length text → (n + 1) + length (behind_first rest) ≡ length text
room_more n [] text l h = absurd (omega (arith, l))
room_more n (b ∷ bs) text l h = subst (λ r. (n + 1) + length r ≡ length text) (sym (rest_of b bs)) (omega (arith, h))

pub first_left : (rest : List ℕ) → 1 ≤ length rest → length (behind_first rest) + 1 ≡ length rest
first_left [] l = absurd (omega (arith, l))
first_left (b ∷ bs) l = omega (arith, ap length (rest_of b bs))

-- ---- one byte more of a place

past_on : (p : Place) (b : ℕ) (bs : List ℕ) → past p (b ∷ bs) ≡ past (past_byte p b) bs
unfolding past
past_on p b bs = refl

pub past_line : (p : Place) (rest : List ℕ) (end : Place) → 1 ≤ length rest → (get_or rest 0 0 == 10) ≡ true → past p rest ≡ end
    → past (record { file = p.file; line = p.line + 1; column = 1 }) (behind_first rest) ≡ end
past_line p [] end l e h = absurd (omega (arith, l))
past_line p (b ∷ bs) end l e h =
    let byte : past_byte p b ≡ record { file = p.file; line = p.line + 1; column = 1 } = rw e refl in
    ap (past (record { file = p.file; line = p.line + 1; column = 1 })) (rest_of b bs) ∙ ap (λ q. past q bs) (sym byte) ∙ sym (past_on p b bs) ∙ h

pub past_column : (p : Place) (rest : List ℕ) (end : Place) → 1 ≤ length rest → (get_or rest 0 0 == 10) ≡ false → past p rest ≡ end
    → past (record { file = p.file; line = p.line; column = p.column + 1 }) (behind_first rest) ≡ end
past_column p [] end l e h = absurd (omega (arith, l))
past_column p (b ∷ bs) end l e h =
    let byte : past_byte p b ≡ record { file = p.file; line = p.line; column = p.column + 1 } = rw e refl in
    ap (past (record { file = p.file; line = p.line; column = p.column + 1 })) (rest_of b bs) ∙ ap (λ q. past q bs) (sym byte) ∙ sym (past_on p b bs) ∙ h

past_none : (p : Place) → past p [] ≡ p
unfolding past
past_none p = refl

pub past_ends : (p : Place) (rest : List ℕ) (end : Place) → length rest < 1 → past p rest ≡ end → p ≡ end
past_ends p [] end l h = sym (past_none p) ∙ h
past_ends p (b ∷ bs) end l h = absurd (omega (arith, l))
