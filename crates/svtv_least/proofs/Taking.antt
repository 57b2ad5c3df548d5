-- Samples that are taken one by one.
use Rattle.std.proofs.Common.{◌≡◌, ℕ, zero, suc, ◌+◌, ◌<◌, ◌≤◌, eqb, Bool, true, false, cond, List, [], ◌∷◌, length, get_or, slice_set, Option, Some, None, refl, sym, ap, ◌∙◌, arith, inl, inr}
use Rattle.std.specs.Prelude.{nat_lt, slice_get, ◌==◌}
use Rattle.std.proofs.lemmas.List.{get_or-set_same, get_or-set_other, get_or_default}
use Rattle.std.proofs.lemmas.Bool.{cases_Bool}
use Rattle.std.proofs.lemmas.Bool.Decides.{nat_tests}
use Rattle.fourvec.specs.declared.Bit.{Bit}
use Rattle.fourvec.specs.declared.Bit.TheVariants.{Unknown}
use Rattle.settling.specs.Settling.{Store}
use Rattle.svex_shape.specs.Values.{Vector}
use Rattle.event_sim.specs.Sims.{store_of}
use Rattle.svtv_table.specs.declared.bound.Sample.{Sample}
use Rattle.svtv_least.specs.Running.{taken, taken_of, taken_before}

-- ---- one

pub not_taken : (s : Sample) (phase at k : ℕ) (now old : Store) → (s.phase ≡ phase → ⊥) → old at k ≡ taken s phase now old at k
not_taken s phase at k now old ne = let t : eqb s.phase phase ≡ false = grind (arith, nat_tests, ne) in sym (ap (λ b. cond b (now s.wire k) (old at k)) t)

pub is_taken : (s : Sample) (phase at k : ℕ) (now : List Vector) (old : List Vector) (v : List Bit) → s.phase ≡ phase → at < length old → s.wire < length now → v ≡ get_or now s.wire v → store_of (slice_set old at v) at k ≡ taken s phase (store_of now) (store_of old) at k
is_taken s phase at k now old v e l m is =
    let t : eqb s.phase phase ≡ true = grind (arith, nat_tests, e) in
    ap (λ (x : List Bit). get_or x k Unknown) (get_or-set_same old at v [] l ∙ is ∙ get_or_default now s.wire v [] m)
    ∙ sym (ap (λ b. cond b (store_of now s.wire k) (store_of old at k)) t)

pub other_stays : (at n k : ℕ) (old : List Vector) (v : List Bit) → (n ≡ at → ⊥) → store_of (slice_set old at v) n k ≡ store_of old n k
other_stays at n k old v ne = ap (λ (x : List Bit). get_or x k Unknown) (get_or-set_other old at n v [] ne)

-- ---- all

pub taken_none : (samples : List Sample) (phase : ℕ) (now old : Store) (n k : ℕ) → old n k ≡ taken_before samples 0 phase now old n k
taken_none samples phase now old n k = let t : nat_lt n 0 ≡ false = grind (arith, nat_tests) in sym (ap (λ b. cond b (taken_of (slice_get samples n) phase now old n k) (old n k)) t)

pub taken_more : (samples : List Sample) (phase at : ℕ) (now first : Store) (old new : List Vector) (s : Sample) → at < length samples → slice_get samples at ≡ Some s
    → ((n k : ℕ) → store_of old n k ≡ taken_before samples at phase now first n k) → ((n k : ℕ) → (n ≡ at → ⊥) → store_of new n k ≡ store_of old n k)
    → ((k : ℕ) → store_of new at k ≡ taken s phase now (store_of old) at k) → (n k : ℕ) → store_of new n k ≡ taken_before samples (at + 1) phase now first n k
taken_more samples phase at now first old new s l is h stay own n k =
    elim (cases_Bool (eqb n at)) as (λ _. store_of new n k ≡ taken_before samples (at + 1) phase now first n k) [
      | inl t ↦ let e : n ≡ at = grind (arith, nat_tests, t) in here e
      | inr t ↦ let ne : n ≡ at → ⊥ = (λ z. let y : eqb n at ≡ true = grind (arith, nat_tests, z) in let x : true ≡ false = sym y ∙ t in cc) in
          stay n k ne ∙ h n k ∙ side (nat_lt n at) refl ne
    ]
  where
    -- before it, the same samples are taken
    side : (b : Bool) → nat_lt n at ≡ b → (n ≡ at → ⊥) → taken_before samples at phase now first n k ≡ taken_before samples (at + 1) phase now first n k
    side true e ne = let t : nat_lt n (at + 1) ≡ true = (let l : n < at = grind (arith, nat_tests, e) in grind (arith, nat_tests, l)) in
        ap (λ b. cond b (taken_of (slice_get samples n) phase now first n k) (first n k)) (e ∙ sym t)
    side false e ne = let t : nat_lt n (at + 1) ≡ false = (let l : at ≤ n = grind (arith, nat_tests, e) in grind (arith, nat_tests, l, ne)) in
        ap (λ b. cond b (taken_of (slice_get samples n) phase now first n k) (first n k)) (e ∙ sym t)

    first_at : store_of old at k ≡ first at k
    first_at = let t : nat_lt at at ≡ false = grind (arith, nat_tests) in h at k ∙ ap (λ b. cond b (taken_of (slice_get samples at) phase now first at k) (first at k)) t

    here : n ≡ at → store_of new n k ≡ taken_before samples (at + 1) phase now first n k
    here e =
        let t : nat_lt n (at + 1) ≡ true = grind (arith, nat_tests, e) in
        ap (λ i. store_of new i k) e
        ∙ own k
        ∙ ap (λ (b : Bit). cond (s.phase == phase) (now s.wire k) b) first_at
        ∙ ap (λ (o : Option Sample). taken_of o phase now first at k) (sym is)
        ∙ ap (λ i. taken_of (slice_get samples i) phase now first i k) (sym e)
        ∙ sym (ap (λ b. cond b (taken_of (slice_get samples n) phase now first n k) (first n k)) t)

past : (samples : List Sample) (n : ℕ) → length samples ≤ n → slice_get samples n ≡ None
past [] zero l = refl
past [] (suc n) l = refl
past (s ∷ samples) zero l = absurd (omega arith)
past (s ∷ samples) (suc n) l = past samples n (omega arith)

pub taken_all : (samples : List Sample) (phase at : ℕ) (now old : Store) (n k : ℕ) → length samples ≤ at → taken_before samples at phase now old n k ≡ taken_of (slice_get samples n) phase now old n k
taken_all samples phase at now old n k l = go (nat_lt n at) refl
  where
    go : (b : Bool) → nat_lt n at ≡ b → taken_before samples at phase now old n k ≡ taken_of (slice_get samples n) phase now old n k
    go true e = ap (λ b. cond b (taken_of (slice_get samples n) phase now old n k) (old n k)) e
    go false e = let m : at ≤ n = grind (arith, nat_tests, e) in
        ap (λ b. cond b (taken_of (slice_get samples n) phase now old n k) (old n k)) e ∙ sym (ap (λ (o : Option Sample). taken_of o phase now old n k) (past samples n (omega arith)))
