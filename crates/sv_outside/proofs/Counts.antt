-- A count of failures after one read.
use Rattle.std.proofs.Common.{◌≡◌, ℕ, ◌+◌, ◌-◌, ◌^◌, ◌<◌, ◌≤◌, min, Result, Ok, Err, IsErrOf, inl, inr, ⊎_elim, arith}
use Rattle.std.proofs.Math.Nat.{min-eq_left, min-eq_right}
use Rattle.std.proofs.lemmas.Bool.{cases_lt}
use Rattle.sv_outside.specs.Outside.{AtMostOneMore, Rose, counted, is_failed, one_more}
use Rattle.sv_outside.specs.declared.outside.FileErr.{FileErr}
use Rattle.sv_outside.specs.declared.outside.FileErr.TheVariants.{Failed, Long, Memory}

pub rose : (before now : ℕ) → now ≡ one_more before → Rose before now
unfolding one_more
rose before now e = ⊎_elim
    (λ (l : before < 2 ^ 64 - 1). inl (let m : min (before + 1) (2 ^ 64 - 1) ≡ before + 1 = min-eq_left (omega (arith, l)) in omega (arith, e, m)))
    (λ (l : 2 ^ 64 - 1 ≤ before). inr (let m : min (before + 1) (2 ^ 64 - 1) ≡ 2 ^ 64 - 1 = min-eq_right (omega (arith, l)) in omega (arith, e, m)))
    (cases_lt before (2 ^ 64 - 1))

-- the same of a read that failed
pub read_rose : {A : Type 0} (answer : Result A FileErr) (before now : ℕ) → now ≡ counted (is_failed answer) before → IsErrOf answer Failed → Rose before now
read_rose (Ok bytes) before now e h = cc
read_rose (Err Failed) before now e h = rose before now e
read_rose (Err Long) before now e h = cc
read_rose (Err Memory) before now e h = cc

pub read_once : {A : Type 0} (answer : Result A FileErr) (before now : ℕ) → now ≡ counted (is_failed answer) before → AtMostOneMore before now
unfolding AtMostOneMore
read_once (Ok bytes) before now e = inl e
read_once (Err Failed) before now e = inr e
read_once (Err Long) before now e = inl e
read_once (Err Memory) before now e = inl e

pub read_kept : {A : Type 0} (answer : Result A FileErr) (bytes : A) (before now : ℕ) → answer ≡ Ok bytes → now ≡ counted (is_failed answer) before → now ≡ before
read_kept (Ok own) bytes before now a e = e
read_kept (Err why) bytes before now a e = cc
