-- A text that is said with a status, but for want of memory.
use Rattle.std.proofs.Common.{◌≡◌, ◌⊎◌, true, false, sym, ◌∙◌, ap, inl, inr}
use Rattle.svtv_files.specs.Files.{Text}
use Rattle.svtv.specs.Answers.{prints_text}
use Rattle.svtv.specs.declared.status.Status.{Status}
use Rattle.svtv.specs.declared.status.Status.TheVariants.{Memory}

abbrev pub Says : Status → Text → Status → Text → Type 0
Says wanted said status text = ((status ≡ wanted) × (text ≡ said)) ⊎ (status ≡ Memory)

-- a text was written
pub whole : {W : Type 0} (written : W → Text → W) (before now : W) (own status wanted : Status) (said text out : Text) → own ≡ status → now ≡ written before out → out ≡ text → Says wanted said status text
    → ((own ≡ wanted) × (now ≡ written before said)) ⊎ (own ≡ Memory)
whole written before now own status wanted said text out e is same (inl s) = inl (e ∙ s.0, is ∙ ap (written before) (same ∙ s.1))
whole written before now own status wanted said text out e is same (inr m) = inr (e ∙ m)

-- a message was written, so no text was said
pub unsaid : {P : Type 0} (own status wanted : Status) (said text : Text) → own ≡ status → prints_text wanted ≡ true → prints_text status ≡ false → Says wanted said status text → P ⊎ (own ≡ Memory)
unsaid own status wanted said text e prints none (inl s) = let bad : true ≡ false = sym prints ∙ ap prints_text (sym s.0) ∙ none in cc
unsaid own status wanted said text e prints none (inr m) = inr (e ∙ m)
