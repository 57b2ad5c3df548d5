-- What is true in a run is true in each run above it.
use Rattle.std.proofs.Common.{◌≡◌, ℕ, zero, suc, List, [], ◌∷◌, get_or, Option, Some, None, refl, IsTrue}
use Rattle.std.specs.Prelude.{slice_get}
use Rattle.fourvec.specs.declared.Bit.{Bit}
use Rattle.fourvec.specs.declared.Bit.TheVariants.{Zero, One, Unknown, Floating}
use Rattle.fourvec.specs.Bits.{bit_below, truth_of}
use Rattle.fourvec.proofs.Order as order
use Rattle.fourvec.proofs.Monotone as laws
use Rattle.settling.specs.Settling.{Store}
use Rattle.settling.specs.Least.{Under}
use Rattle.settling.proofs.Rounds.{below-refl, under-refl}
use Rattle.sv_meaning.specs.Layouts.{Read, Scope, of_wires, of_choice, of_samples}
use Rattle.sv_meaning.specs.Meanings.{own, truth}
use Rattle.sv_meaning.specs.Values.{mean}
use Rattle.sv_meaning.proofs.Good.{Rises, own_rises}
use Rattle.sv_meaning.proofs.Rising.{good}
use Rattle.sv_tree.specs.declared.exprs.Expr.{Expr}
use Rattle.svtv_table.specs.declared.bound.Sample.{Sample}
use Rattle.goal_text.specs.Scopes.{claims_scope}
use Rattle.svtv_runs.specs.Runs.{Run, UnderEach, IsUnder}
use Rattle.svtv_runs.specs.Truths.{no_store, sampled, table_values}
use Rattle.svtv_runs.specs.Laws.{TruthsLast}

each_at : (a b : List Store) (i : ℕ) → UnderEach a b → Under (get_or a i no_store) (get_or b i no_store)
each_at [] [] i h = under-refl no_store
each_at [] (t ∷ b) i h = absurd h
each_at (s ∷ a) [] i h = absurd h
each_at (s ∷ a) (t ∷ b) zero h = h.0
each_at (s ∷ a) (t ∷ b) (suc i) h = each_at a b i h.1

samples_rise : (r s : Run) (x : Option Sample) (k : ℕ) → IsUnder r s → IsTrue (bit_below (sampled r x k) (sampled s x k))
samples_rise r s None k h = refl
samples_rise r s (Some x) k h = each_at r.later s.later x.phase h.1 x.wire k

values_rise : (samples : List Sample) (choice : List (List Bit)) (r s : Run) → IsUnder r s → Rises (table_values samples choice r) (table_values samples choice s)
values_rise samples choice r s h of_wires n k = refl
values_rise samples choice r s h of_choice n k = below-refl (get_or (get_or choice n []) k Unknown)
values_rise samples choice r s h of_samples n k = samples_rise r s (slice_get samples n) k h

stays_true : (a b : Bit) → IsTrue (bit_below a b) → a ≡ One → b ≡ One
stays_true One One h e = refl
stays_true One Zero h e = cc
stays_true One Unknown h e = cc
stays_true One Floating h e = cc
stays_true Zero b h e = cc
stays_true Unknown b h e = cc
stays_true Floating b h e = cc

truth_rises : (at : Scope) (x : Expr) (f g : Read) → Rises f g → IsTrue (bit_below (truth (mean at x) f) (truth (mean at x) g))
truth_rises at x f g h = order.first_below (truth_of (own (mean at x) f)) (truth_of (own (mean at x) g)) (laws.truth_monotone (own (mean at x) f) (own (mean at x) g) (own_rises (mean at x) (good at x) f g h))

pub truths_last : TruthsLast
truths_last vars samples choice r s x h e =
    stays_true (truth (mean (claims_scope vars samples) x) (table_values samples choice r)) (truth (mean (claims_scope vars samples) x) (table_values samples choice s))
    (truth_rises (claims_scope vars samples) x (table_values samples choice r) (table_values samples choice s) (values_rise samples choice r s h)) e
