-- Contributions rise with the previous and the present valuation, and none is added or lost.
use Rattle.std.proofs.Common.{ℕ, max, Bool, true, false, List, [], ◌∷◌, refl, arith, IsTrue, Option, Some, None, cond, ◌==◌}
use Rattle.fourvec.specs.declared.Bit.{Bit}
use Rattle.fourvec.specs.Bits.{bit_below, all_pairs, or_bit, not_of, each, each_pair}
use Rattle.fourvec.specs.Laws.{Below}
use Rattle.fourvec.proofs.Order as order
use Rattle.fourvec.proofs.Monotone as laws
use Rattle.fourvec.proofs.Tables.{left_of, right_of}
use Rattle.sv_tree.specs.declared.exprs.Expr.{Expr}
use Rattle.sv_tree.specs.declared.stmts.Edge.{Edge}
use Rattle.sv_tree.specs.declared.stmts.Edge.TheVariants as edge
use Rattle.sv_tree.specs.declared.design.Way.{Way}
use Rattle.sv_tree.specs.declared.design.Way.TheVariants as way
use Rattle.sv_meaning.specs.Layouts.{Layout, width, Scope, constant_scope, of_wires, of_choice, of_samples, signal_is, Read}
use Rattle.sv_meaning.specs.Meanings.{Meaning, assigned}
use Rattle.sv_meaning.specs.Values.{mean}
use Rattle.lhs_alias.specs.declared.segs.WireBit.{WireBit}
use Rattle.lhs_alias.specs.Segs.{bit}
use Rattle.settling.specs.Settling.{Store, Contribution}
use Rattle.sv_meaning.specs.Targets.{Target, assigned_targets, widths, slots}
use Rattle.sv_meaning.specs.Deeds.{Deed, deed}
use Rattle.sv_meaning.specs.Blocks.{has_bit, distinct, reads, all_unknown, comb_look, comb_end, held, latch_look, latch_end, clocked_look, clocked_value, trigger_bit, trigger, is_event, Manner, comb, latch, clocked, no_manner, manner, block_value}
use Rattle.sv_meaning.specs.declared.events.WireEdge.{WireEdge}
use Rattle.sv_tree.specs.declared.stmts.AssignMark.{AssignMark}
use Rattle.sv_tree.specs.declared.stmts.AssignMark.TheVariants as mark
use Rattle.sv_meaning.specs.Designs.{driven, assigned_to, port_gives, gives, contributions_of, Work, assignment, block, port, index_scope, is_joined, as_targets, wire_slots, no_word}
use Rattle.settling.proofs.More.{more-append, more-store}
use Rattle.settling.specs.Least.{Under, More}
use Rattle.sv_meaning.specs.Laws.{ContributionsRise}
use Rattle.sv_meaning.proofs.Good.{Rises, Good}
use Rattle.sv_meaning.proofs.Rising.{good, good-named}
use Rattle.sv_meaning.proofs.Stores.{GoodDeed, good-deed, merged-rises}

reads-rise : (s t : Store) → Under s t → Rises (reads s) (reads t)
reads-rise s t u of_wires n k = u n k
reads-rise s t u of_choice n k = refl
reads-rise s t u of_samples n k = refl

pick-rises : (b : Bool) (x y z v : Bit) → IsTrue (bit_below x z) → IsTrue (bit_below y v) → IsTrue (bit_below (cond b x y) (cond b z v))
pick-rises true x y z v h g = h
pick-rises false x y z v h g = g

-- ---- blocks

under-refl : (s : Store) → Under s s
unfolding all_pairs
under-refl s n k = left_of _ _ (order.below-refl (s n k ∷ []))

comb-rises : (a : Deed) → GoodDeed a → (now later : Store) → Under now later → Under (comb_end a now) (comb_end a later)
comb-rises a g now later u =
    g (comb_look a.targets now) (comb_look a.targets later)
    (λ s t v. reads-rise _ _ (λ n k. pick-rises (has_bit (bit n k) a.targets) (s n k) (now n k) (t n k) (later n k) (v n k) (u n k)))
    all_unknown all_unknown (under-refl all_unknown)

trigger-rises : (e : Edge) (a b c d : Bit) → IsTrue (bit_below a c) → IsTrue (bit_below b d) → IsTrue (bit_below (trigger_bit e a b) (trigger_bit e c d))
unfolding each each_pair all_pairs
trigger-rises edge.Pos a b c d h g =
    left_of _ _ (laws.and_monotone (a ∷ []) (not_of (b ∷ [])) (c ∷ []) (not_of (d ∷ [])) (order.one_below a c h) (laws.not_monotone (b ∷ []) (d ∷ []) (order.one_below b d g)))
trigger-rises edge.Neg a b c d h g =
    left_of _ _ (laws.and_monotone (not_of (a ∷ [])) (b ∷ []) (not_of (c ∷ [])) (d ∷ []) (laws.not_monotone (a ∷ []) (c ∷ []) (order.one_below a c h)) (order.one_below b d g))

or-rises : (a b c d : Bit) → IsTrue (bit_below a c) → IsTrue (bit_below b d) → IsTrue (bit_below (or_bit a b) (or_bit c d))
unfolding each_pair all_pairs
or-rises a b c d h g = left_of _ _ (laws.or_monotone (a ∷ []) (b ∷ []) (c ∷ []) (d ∷ []) (order.one_below a c h) (order.one_below b d g))

triggers-rise : (edges : List WireEdge) (prev now before later : Store) → Under prev before → Under now later → IsTrue (bit_below (trigger edges prev now) (trigger edges before later))
unfolding trigger
triggers-rise [] prev now before later h u = refl
triggers-rise (x ∷ more) prev now before later h u =
    or-rises _ _ _ _ (trigger-rises x.edge (now x.wire 0) (prev x.wire 0) (later x.wire 0) (before x.wire 0) (u x.wire 0) (h x.wire 0)) (triggers-rise more prev now before later h u)

clocked-rises : (a : Deed) → GoodDeed a → (edges : List WireEdge) (prev now before later : Store) → Under prev before → Under now later → Under (clocked_value a edges prev now) (clocked_value a edges before later)
clocked-rises a g edges prev now before later h u =
    merged-rises _ _ _ _ _ _ (triggers-rise edges prev now before later h u)
    (g (clocked_look edges prev now) (clocked_look edges before later)
    (λ s t v. reads-rise _ _ (λ n k. pick-rises (is_event edges n) (now n k) (prev n k) (later n k) (before n k) (u n k) (h n k))) prev before h) h

held-rises : (m : AssignMark) (prev before s t : Store) → Under prev before → Under s t → Under (held m prev s) (held m before t)
held-rises mark.Blocking prev before s t h v = v
held-rises mark.Nonblocking prev before s t h v = h

latch-rises : (m : AssignMark) (a : Deed) → GoodDeed a → (prev now before later : Store) → Under prev before → Under now later → Under (latch_end m a prev now) (latch_end m a before later)
latch-rises m a g prev now before later h u =
    g (latch_look m a.targets prev now) (latch_look m a.targets before later)
    (λ s t v. reads-rise _ _ (λ n k. pick-rises (has_bit (bit n k) a.targets) (held m prev s n k) (now n k) (held m before t n k) (later n k) (held-rises m prev before s t h v n k) (u n k)))
    prev before h

block-rises : (m : Manner) (a : Deed) → GoodDeed a → (prev now before later : Store) → Under prev before → Under now later → Under (block_value m a prev now) (block_value m a before later)
block-rises comb a g prev now before later h u = comb-rises a g now later u
block-rises (latch m) a g prev now before later h u = latch-rises m a g prev now before later h u
block-rises (clocked edges) a g prev now before later h u = clocked-rises a g edges prev now before later h u
block-rises no_manner a g prev now before later h u = h

-- ---- lists of contributions: the same bits, and more of each

more-driven : (to : List (Option WireBit)) (a c : List Bit) → Below a c → More (driven to a) (driven to c)
unfolding driven all_pairs
more-driven [] [] [] h = tt
more-driven [] [] (y ∷ c) h = tt
more-driven [] (x ∷ a) [] h = tt
more-driven [] (x ∷ a) (y ∷ c) h = tt
more-driven (None ∷ to) [] [] h = tt
more-driven (None ∷ to) [] (y ∷ c) h = cc
more-driven (None ∷ to) (x ∷ a) [] h = cc
more-driven (None ∷ to) (x ∷ a) (y ∷ c) h = more-driven to a c (right_of _ _ h)
more-driven (Some b ∷ to) [] [] h = tt
more-driven (Some b ∷ to) [] (y ∷ c) h = cc
more-driven (Some b ∷ to) (x ∷ a) [] h = cc
more-driven (Some b ∷ to) (x ∷ a) (y ∷ c) h = (refl, left_of _ _ h, more-driven to a c (right_of _ _ h))

assigned-rises : (m : Meaning) → Good m → (r t : Read) → Rises r t → (w : ℕ) → Below (assigned m r w) (assigned m t w)
assigned-rises m g r t i w = order.below-take w _ _ (g.rises r t i (max w m.size) m.sign (omega arith))

more-assigned : (to : List Target) (m : Meaning) → Good m → (now later : Store) → Under now later → More (assigned_to to m now) (assigned_to to m later)
more-assigned to m g now later u = more-driven (slots to) _ _ (assigned-rises m g (reads now) (reads later) (reads-rise now later u) (widths to))

more-port : (w : Way) (at : Scope) (n : ℕ) (x : Layout) (actual : Expr) (now later : Store) → Under now later → More (port_gives w at n x actual now) (port_gives w at n x actual later)
more-port way.Input at n x actual now later u = more-driven (wire_slots n x) _ _ (assigned-rises (mean at actual) (good at actual) (reads now) (reads later) (reads-rise now later u) (width x))
more-port way.Output at n x actual now later u = more-assigned (as_targets (constant_scope at) at actual) _ (good-named no_word (Some (signal_is of_wires n x)) [] tt) now later u
more-port way.Inout at n x actual now later u = tt

more-unless : (b : Bool) (a c : List Contribution) → More a c → More (cond b [] a) (cond b [] c)
more-unless true a c h = tt
more-unless false a c h = h

more-work : (w : Work) (prev now before later : Store) → Under prev before → Under now later → More (gives w prev now) (gives w before later)
more-work (assignment at to x) prev now before later h u = more-assigned (assigned_targets at to) (mean at x) (good at x) now later u
more-work (block at b) prev now before later h u =
    more-store (distinct (deed b.body at).targets) _ _ (block-rises (manner at b) (deed b.body at) (good-deed b.body at) prev now before later h u)
more-work (port at w n x actual) prev now before later h u = more-unless (is_joined (index_scope w at) at x actual) _ _ (more-port w at n x actual now later u)

more-works : (all : List Work) (prev now before later : Store) → Under prev before → Under now later → More (contributions_of all prev now) (contributions_of all before later)
unfolding contributions_of
more-works [] prev now before later h u = tt
more-works (w ∷ all) prev now before later h u = more-append (gives w prev now) _ (gives w before later) _ (more-work w prev now before later h u) (more-works all prev now before later h u)

pub contributions-rise : ContributionsRise
contributions-rise d prev now before later h u = more-works d.works prev now before later h u
