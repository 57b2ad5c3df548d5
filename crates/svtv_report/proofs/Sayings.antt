-- The lines of invariants, one after the other.
use Rattle.std.proofs.Common.{◌≡◌, ℕ, ◌+◌, ◌<◌, ◌≤◌, List, [], ◌∷◌, ◌++◌, length, drop, get_or, refl, sym, ap, ◌∙◌, append_assoc, append-nil, arith, length-drop}
use Rattle.fourvec.specs.declared.Bit.{Bit}
use Rattle.svtv_report.specs.Texts.{Text}
use Rattle.svtv_report.specs.Invariants.{Names, invariant_text, invariants_text}
use Rattle.svtv_report.specs.declared.held.Held.{Held}
use Rattle.svtv_report.proofs.Lines.{behind, drop_at}

invariants_are : (n : Names) (names : List Text) (verdicts : List Held) (before shown : List (List (List Bit))) (name : Text) (h : Held) (b s : List (List Bit))
    (more : List Text) (others : List Held) (behind_before behind_shown : List (List (List Bit)))
    → names ≡ name ∷ more → verdicts ≡ h ∷ others → before ≡ b ∷ behind_before → shown ≡ s ∷ behind_shown
    → invariants_text n names verdicts before shown ≡ invariant_text n name h b s ++ invariants_text n more others behind_before behind_shown
unfolding invariants_text
invariants_are n names verdicts before shown name h b s more others behind_before behind_shown p q r t = λ i. invariants_text n (p i) (q i) (r i) (t i)

no_invariants : (n : Names) (names : List Text) (verdicts : List Held) (before shown : List (List (List Bit))) → length names ≡ 0 → invariants_text n names verdicts before shown ≡ []
unfolding invariants_text
no_invariants n [] verdicts before shown none = refl
no_invariants n (name ∷ names) verdicts before shown none = absurd (omega arith)

-- a text with one invariant more
pub invariant_pushed : (n : Names) (whole text pushed : Text) (names : List Text) (verdicts : List Held) (before shown : List (List (List Bit))) (i : ℕ) (name : Text) (h : Held) (b s : List (List Bit))
    → i < length names → length verdicts ≡ length names → length before ≡ length names → length shown ≡ length names
    → name ≡ get_or names i name → h ≡ get_or verdicts i h → b ≡ get_or before i b → s ≡ get_or shown i s
    → whole ≡ text ++ invariants_text n (drop i names) (drop i verdicts) (drop i before) (drop i shown) → pushed ≡ text ++ invariant_text n name h b s
    → whole ≡ pushed ++ invariants_text n (drop (i + 1) names) (drop (i + 1) verdicts) (drop (i + 1) before) (drop (i + 1) shown)
invariant_pushed n whole text pushed names verdicts before shown i name h b s inside same_verdicts same_before same_shown is is_verdict is_before is_shown rest after =
    behind text (invariant_text n name h b s) (invariants_text n (drop (i + 1) names) (drop (i + 1) verdicts) (drop (i + 1) before) (drop (i + 1) shown)) whole pushed
    (rest ∙ ap (λ (t : Text). text ++ t) (invariants_are n _ _ _ _ name h b s (drop (i + 1) names) (drop (i + 1) verdicts) (drop (i + 1) before) (drop (i + 1) shown)
    (drop_at names i name inside is) (drop_at verdicts i h (omega arith) is_verdict) (drop_at before i b (omega arith) is_before) (drop_at shown i s (omega arith) is_shown)))
    after

-- a text of all invariants
pub invariants_end : (n : Names) (whole text : Text) (names : List Text) (verdicts : List Held) (before shown : List (List (List Bit))) (i : ℕ) → length names ≤ i
    → whole ≡ text ++ invariants_text n (drop i names) verdicts before shown → text ≡ whole
invariants_end n whole text names verdicts before shown i all_told rest =
    sym (rest ∙ ap (λ (t : Text). text ++ t) (no_invariants n (drop i names) verdicts before shown (rw length-drop (omega arith))) ∙ append-nil text)

-- ---- failures

-- a text with three texts more, one behind another
pub three_pushed : (front v s before text two three : Text) → text ≡ before ++ front → two ≡ text ++ v → three ≡ two ++ s → three ≡ before ++ (front ++ (v ++ s))
three_pushed front v s before text two three p q r =
    r ∙ ap (λ (t : Text). t ++ s) q ∙ append_assoc text v s ∙ ap (λ (t : Text). t ++ (v ++ s)) p ∙ append_assoc before front (v ++ s)

-- and with four
pub four_pushed : (front v b s before text two three four : Text) → text ≡ before ++ front → two ≡ text ++ v → three ≡ two ++ b → four ≡ three ++ s → four ≡ before ++ (front ++ (v ++ (b ++ s)))
four_pushed front v b s before text two three four p q r t =
    t ∙ ap (λ (z : Text). z ++ s) r ∙ append_assoc two b s ∙ ap (λ (z : Text). z ++ (b ++ s)) q ∙ append_assoc text v (b ++ s) ∙ ap (λ (z : Text). z ++ (v ++ (b ++ s))) p ∙ append_assoc before front (v ++ (b ++ s))
