-- What a walk over the nodes of values keeps.
use Rattle.std.proofs.Common.{◌≡◌, ℕ, ◌-◌, Bool, true, false, List, length, refl, sym, ◌∙◌, subst, inl, inr, arith}
use Rattle.std.specs.Prelude.{IsTrue}
use Rattle.std.proofs.lemmas.Bool.{false≢true}
use Rattle.lhs_alias.specs.declared.segs.Seg.{Seg}
use Rattle.lhs_alias.specs.Joined.{Kept}
use Rattle.settling.specs.Settling.{Store}
use Rattle.svex_shape.specs.declared.shape.Shape.{Shape}
use Rattle.svex_shape.specs.Values.{Vector, each_variable}
use Rattle.svex_arena.specs.Arenas.{Extends}
use Rattle.net_equations.specs.Equations.{is_of_phase}
use Rattle.node_replace.specs.declared.replacer.Replacer.{Replacer}
use Rattle.node_replace.specs.Walks.{IsAnswered, IsWalk, Counts, GoesOn, IsGiven, Begins, Waits, is_loose, answer_at}
use Rattle.node_replace.proofs.Walking.{walk_kept, values_kept, tests_kept, path_kept, waits_within}
use Rattle.compose_rounds.specs.States.{AreOuter, is_outer, outer_reading, shown}
use Rattle.compose_rounds.specs.Answers.{RestsOn, AgreesWith, StandsIn, IsInner, IsHolding}
use Rattle.compose_rounds.proofs.Making.{phase-widths}
use Rattle.compose_rounds.proofs.Standing.{shown-kept}

counts-self : (loose : Bool) → Counts loose loose
counts-self true = inl refl
counts-self false = inr refl

rests-more : (settled : List Bool) (all loose : Bool) (j : ℕ) → Counts all loose → RestsOn settled loose j → RestsOn settled all j
rests-more settled all true j (inl a) on = inl a
rests-more settled all true j (inr e) on = absurd (false≢true (sym e))
rests-more settled all false j c (inl e) = absurd (false≢true e)
rests-more settled all false j c (inr m) = inr m

module _ (kept : Kept) (segs : List Seg) (nodes : List ℕ) (settled : List Bool) where
  abbrev Holds : List Shape → Replacer → Type 0
  Holds shapes m = IsHolding kept shapes segs nodes settled m

  agree-before : (old new : List Shape) → Extends old new → length nodes ≡ length segs → AreOuter kept.widths old nodes → (stim previous : Store) (u : ℕ → Vector) (all : Bool)
      → AgreesWith settled all segs (shown stim previous new nodes) u → AgreesWith settled all segs (shown stim previous old nodes) u
  agree-before old new e size outer stim previous u all agree = λ j l on. agree j l on ∙ shown-kept kept.widths old new nodes e outer stim previous j (omega (arith, l, size))

  pub goes_holding : (old new : List Shape) (m m2 : Replacer) → Extends old new → length nodes ≡ length segs → AreOuter kept.widths old nodes → IsWalk new m2 → GoesOn old m new m2 → Holds old m → Holds new m2
  goes_holding old new m m2 e size outer walk g h = record {
    walk = walk;
    values = λ links st stim previous u all agree.
        g.values (outer_reading stim previous) _ all (phase-widths _) (h.values links st stim previous u all (agree-before old new e size outer stim previous u all agree));
    tests = g.tests (is_outer kept.widths) (is_of_phase kept.widths) true h.tests;
    path = g.path (is_of_phase kept.widths) h.path;
  }

  pub begins_holding : (shapes : List Shape) (m m2 : Replacer) (root : ℕ) → IsTrue (each_variable (is_of_phase kept.widths) shapes root) → IsWalk shapes m2 → Begins shapes m root m2 → Holds shapes m → Holds shapes m2
  begins_holding shapes m m2 root t walk b h = record {
    walk = walk;
    values = λ links st stim previous u all agree. b.values (outer_reading stim previous) _ all (h.values links st stim previous u all agree);
    tests = b.tests (is_outer kept.widths) (is_of_phase kept.widths) true h.tests;
    path = b.path (is_of_phase kept.widths) t h.path;
  }

  pub given_holding : (shapes : List Shape) (m m2 : Replacer) (k node : ℕ) (loose : Bool) → IsWalk shapes m2 → IsGiven shapes m k node loose m2 → StandsIn kept shapes segs nodes settled loose k node → Holds shapes m → Holds shapes m2
  given_holding shapes m m2 k node loose walk g stands h = record {
    walk = walk;
    values = λ links st stim previous u all agree.
        g.values (outer_reading stim previous) _ all (λ c. stands.value links st stim previous u (λ j l on. agree j l (rests-more settled all loose j c on))) (h.values links st stim previous u all agree);
    tests = g.tests (is_outer kept.widths) (is_of_phase kept.widths) true (λ c t. stands.outer) h.tests;
    path = g.path (is_of_phase kept.widths) h.path;
  }

pub holding_kept : (kept : Kept) (old new : List Shape) (segs : List Seg) (nodes : List ℕ) (settled : List Bool) (m : Replacer) → Extends old new → length nodes ≡ length segs → AreOuter kept.widths old nodes → IsHolding kept old segs nodes settled m
    → IsHolding kept new segs nodes settled m
holding_kept kept old new segs nodes settled m e size outer h = record {
  walk = walk_kept old new m e h.walk;
  values = λ links st stim previous u all agree.
      values_kept old new (outer_reading stim previous) _ all m e h.walk (h.values links st stim previous u all (agree-before kept segs nodes settled old new e size outer stim previous u all agree));
  tests = tests_kept old new (is_outer kept.widths) (is_of_phase kept.widths) true m e h.walk h.tests;
  path = path_kept old new (is_of_phase kept.widths) m e h.walk h.path;
}

pub stands_of : (kept : Kept) (shapes : List Shape) (segs : List Seg) (nodes : List ℕ) (settled : List Bool) (m : Replacer) (k : ℕ) → IsHolding kept shapes segs nodes settled m → IsAnswered m k
    → IsTrue (each_variable (is_of_phase kept.widths) shapes k) → StandsIn kept shapes segs nodes settled (is_loose m k) k (answer_at m k)
stands_of kept shapes segs nodes settled m k h a t = record {
  there = (h.walk.is k a).there;
  wide = (h.walk.is k a).wide;
  outer = h.tests.test k a (inl refl) t;
  value = λ links st stim previous u agree. (h.values links st stim previous u (is_loose m k) agree).value k a (counts-self (is_loose m k));
}

-- the variable that waits is of the values
pub waits_inner : (kept : Kept) (shapes : List Shape) (segs : List Seg) (nodes : List ℕ) (settled : List Bool) (m : Replacer) (k : ℕ) → IsHolding kept shapes segs nodes settled m → Waits m k → IsInner kept.widths shapes k
waits_inner kept shapes segs nodes settled m k h w = record {
  there = let b = waits_within shapes m k h.walk w in let n = h.walk.within in omega (arith, b, n);
  mentions = subst (λ (x : ℕ). each_variable (is_of_phase kept.widths) shapes x ≡ true) w.last (h.path (length m.path.items - 1) 0 (let s = w.some in omega (arith, s)));
}
