-- Steps of the scans that go over a whole form.
use Rattle.sv_token.specs.declared.front.Front.TheVariants.{Nothing, Gap}
use Rattle.std.proofs.Common.{◌≡◌, sym, ◌∙◌, ap, ℕ, zero, suc, ◌+◌, List, [], ◌∷◌, false, refl, arith, ◌<◌}
use Rattle.std.specs.Prelude.{◌==◌}
use Rattle.sv_token.specs.Cut.{behind, comment_length, opens, gap_of}
use Rattle.sv_token.specs.Scan.{body_scan}

pub behind_none : (n : ℕ) → behind 0 n ≡ n
behind_none zero = refl
behind_none (suc n) = omega arith

pub behind_more : (k j n : ℕ) → behind k (behind j n) ≡ behind (k + j) n
behind_more k j zero = refl
behind_more k zero (suc n) = grind arith
behind_more k (suc j) (suc n) = grind arith

pub body_step : (b : ℕ) (bs : List ℕ) → (b == 34) ≡ false → (b == 10) ≡ false → (b == 92) ≡ false → body_scan (b ∷ bs) ≡ behind 1 (body_scan bs)
unfolding body_scan
body_step b [] q f e = rw q refl
body_step b (c ∷ bs) q f e = rw (q, f, e) refl

pub body_skip : (b c : ℕ) (bs : List ℕ) → b ≡ 92 → (c == 10) ≡ false → body_scan (b ∷ c ∷ bs) ≡ behind 2 (body_scan bs)
unfolding body_scan
body_skip b c bs e f = rw (e, f) refl

pub comment_step : (b : ℕ) (bs : List ℕ) → opens 42 47 (b ∷ bs) ≡ false → comment_length (b ∷ bs) ≡ behind 1 (comment_length bs)
unfolding comment_length
comment_step b [] e = refl
comment_step b (c ∷ bs) e = rw e refl

-- one byte more of a quoted text, of a comment
pub body_kept : (n b : ℕ) (rest after text : List ℕ) → rest ≡ b ∷ after → (b == 34) ≡ false → (b == 10) ≡ false → (b == 92) ≡ false
    → behind n (body_scan rest) ≡ body_scan text → behind (n + 1) (body_scan after) ≡ body_scan text
body_kept n b rest after text e q f s h =
    sym (behind_more n 1 (body_scan after)) ∙ ap (behind n) (sym (body_step b after q f s)) ∙ ap (λ r. behind n (body_scan r)) (sym e) ∙ h

pub body_skips : (n b c : ℕ) (rest after beyond text : List ℕ) → rest ≡ b ∷ after → after ≡ c ∷ beyond → b ≡ 92 → (c == 10) ≡ false
    → behind n (body_scan rest) ≡ body_scan text → behind (n + 2) (body_scan beyond) ≡ body_scan text
body_skips n b c rest after beyond text e f s t h =
    sym (behind_more n 2 (body_scan beyond)) ∙ ap (behind n) (sym (body_skip b c beyond s t)) ∙ ap (λ r. behind n (body_scan (b ∷ r))) (sym f) ∙ ap (λ r. behind n (body_scan r)) (sym e) ∙ h

pub comment_kept : (n b : ℕ) (rest after text : List ℕ) → rest ≡ b ∷ after → opens 42 47 rest ≡ false
    → behind n (comment_length rest) ≡ comment_length text → behind (n + 1) (comment_length after) ≡ comment_length text
comment_kept n b rest after text e o h =
    let apart : opens 42 47 (b ∷ after) ≡ false = rw e at o in
    sym (behind_more n 1 (comment_length after)) ∙ ap (behind n) (sym (comment_step b after apart)) ∙ ap (λ r. behind n (comment_length r)) (sym e) ∙ h

pub comment_none : (n : ℕ) → n ≡ 0 → gap_of (behind 2 n) ≡ Nothing
comment_none n e = rw e refl

gap_some : (n : ℕ) → 0 < n → gap_of n ≡ Gap n
gap_some zero h = absurd (omega (arith, h))
gap_some (suc n) h = refl

pub comment_some : (n : ℕ) → 0 < n → gap_of (behind 2 n) ≡ Gap (n + 2)
comment_some zero h = absurd (omega (arith, h))
comment_some (suc n) h = gap_some (2 + suc n) (omega arith) ∙ ap (λ m. Gap m) (omega arith)
