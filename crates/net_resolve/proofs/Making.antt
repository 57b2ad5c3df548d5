-- Nodes that are made of sources, of parts, of rows and of pieces.
use Rattle.std.proofs.Common.{◌≡◌, ◌↔◌, ℕ, ◌+◌, ◌<◌, List, length, get_or, take, drop, refl, sym, ap, ◌∙◌, subst, arith, lt-ltb}
use Rattle.std.specs.Prelude.{All, IsTrue}
use Rattle.std.proofs.lemmas.Bool.{eq-eqb}
use Rattle.std.proofs.lemmas.List.Elements.{All-weaker}
use Rattle.std.proofs.lemmas.List.FromFn.{length-map-range_with_len}
use Rattle.fourvec.specs.declared.Bit.TheVariants.{Unknown}
use Rattle.fourvec.proofs.Order.{both}
use Rattle.svex_shape.specs.declared.shape.VarName.{VarName}
use Rattle.svex_shape.specs.declared.shape.VarName.TheVariants.{Now, Prev, Stim, Chosen, Sampled}
use Rattle.svex_shape.specs.declared.shape.Shape.{Shape}
use Rattle.svex_shape.specs.declared.shape.Shape.TheVariants.{Var, Slice}
use Rattle.svex_shape.specs.Shapes.{width_at, width_of}
use Rattle.svex_shape.specs.Values.{Vector, HasWidths, value_of, value_at, each_variable_of, each_variable}
use Rattle.svex_arena.specs.Arenas.{IsArena, Extends, Interned}
use Rattle.svex_arena.proofs.Steps.{value-extends, width-extends, variables-extends, width_follows, value_follows, variables_follow}
use Rattle.svex_arena.proofs.Widths.{length-value_at}
use Rattle.svex_arena.proofs.Lifted.{variables_weaker}
use Rattle.svex_arena.proofs.Keeping.{interned_extends}
use Rattle.driver_resolve.specs.Drivers.{Phase, reading, is_of_wires}
use Rattle.event_nets.specs.declared.gift.Gift.{Gift}
use Rattle.event_nets.specs.declared.gift.Source.{Source}
use Rattle.event_nets.specs.declared.gift.Source.TheVariants.{Value, Stimulus}
use Rattle.net_equations.specs.Equations.{is_of_phase}
use Rattle.net_equations.specs.Groups.{Mentions}
use Rattle.net_resolve.specs.Pieces.{HasSource, source_width, source_value, IsWithin, row_at, IsGivenRun, bit_of, part_value, SomeMentions, IsMade, IsOne, IsSource}
use Rattle.net_resolve.proofs.Ranges.{part-bits, whole-bits}
use Rattle.net_resolve.proofs.Mentioning.{mentions-child, mentions-parent, mentions-older, mentions-newer}
use Rattle.net_resolve.proofs.Sound.{same-value, no-value}

-- ---- sources

pub phase-widths : (p : Phase) → HasWidths (reading p)
phase-widths p (Now n) w = length-map-range_with_len (p.present n) 0 w
phase-widths p (Prev n) w = length-map-range_with_len (p.previous n) 0 w
phase-widths p (Stim n) w = length-map-range_with_len (p.stim n) 0 w
phase-widths p (Chosen n) w = length-map-range_with_len (λ k. Unknown) 0 w
phase-widths p (Sampled n) w = length-map-range_with_len (λ k. Unknown) 0 w

pub source-long : (widths : List ℕ) (shapes : List Shape) (p : Phase) (from : Source) → IsArena shapes → HasSource widths shapes from → length (source_value widths shapes from p) ≡ source_width widths shapes from
source-long widths shapes p (Value k) a h = length-value_at (reading p) shapes k (phase-widths p) a h.0
source-long widths shapes p (Stimulus n) a h = phase-widths p (Stim n) (get_or widths n 0)

of-phase : (widths : List ℕ) (name : VarName) (width : ℕ) → IsTrue (is_of_wires widths name width) → IsTrue (is_of_phase widths name width)
of-phase widths (Now n) w t = t
of-phase widths (Prev n) w t = t
of-phase widths (Stim n) w t = cc
of-phase widths (Chosen n) w t = cc
of-phase widths (Sampled n) w t = cc

pub value_source : (widths : List ℕ) (old : List Shape) (g : Gift) (k : ℕ) → IsArena old → g.from ≡ Value k → HasSource widths old g.from → IsSource widths old g old k
value_source widths old g k a e h =
    let has : HasSource widths old (Value k) = subst (λ s. HasSource widths old s) e h in
    record {
      there = has.0;
      wide = ap (λ s. source_width widths old s) (sym e);
      value = λ p. ap (λ s. source_value widths old s p) (sym e);
      phase = variables_weaker (is_of_wires widths) (is_of_phase widths) old k a (of-phase widths) has.0 has.1;
      mentions = λ wire. (
        λ m. record { gift = g; is = refl; node = k; from = e; mentions = m },
        λ s. subst (λ n. Mentions old n wire) (same-value s.node k (sym s.from ∙ ap (λ (x : Gift). x.from) s.is ∙ e)) s.mentions,
      );
    }

pub stimulus_source : (widths : List ℕ) (old new : List Shape) (g : Gift) (n w node : ℕ) → IsArena new → g.from ≡ Stimulus n → HasSource widths old g.from → get_or widths n 0 ≡ w
    → Interned old (Var (Stim n) w) new node → IsSource widths old g new node
unfolding value_of width_of each_variable_of
stimulus_source widths old new g n w node a e h wide i =
    let has : n < length widths = subst (λ s. HasSource widths old s) e h in
    record {
      there = i.0;
      wide = width_follows new node a i.0 ∙ ap (width_of (width_at new)) i.1 ∙ sym wide ∙ ap (λ s. source_width widths old s) (sym e);
      value = λ p. value_follows (reading p) new node a i.0 ∙ ap (value_of (reading p) (value_at (reading p) new)) i.1
          ∙ ap (λ k. reading p (Stim n) k) (sym wide) ∙ ap (λ s. source_value widths old s p) (sym e);
      phase = variables_follow (is_of_phase widths) new node a i.0 ∙ ap (each_variable_of (is_of_phase widths) (each_variable (is_of_phase widths) new)) i.1
          ∙ both _ _ (lt-ltb n (length widths) has) (eq-eqb (get_or widths n 0) w wide);
      mentions = λ wire. (
        λ m. mentions-child new node wire (Var (Stim n) w) (SomeMentions old (IsOne g) wire) i.1 (λ k f. cc) tt m,
        λ s. no-value n s.node (sym e ∙ ap (λ (x : Gift). x.from) (sym s.is) ∙ s.from),
      );
    }

-- ---- parts

pub whole_part : (widths : List ℕ) (old new : List Shape) (g : Gift) (width node : ℕ) → IsArena old → IsWithin widths old width g → IsSource widths old g new node → width_at new node ≡ width
    → IsMade widths old (IsOne g) width (part_value widths old g width) new node
whole_part widths old new g width node a h s e =
    let all : source_width widths old g.from ≡ width = sym s.wide ∙ e in
    record {
      there = s.there;
      wide = e;
      value = λ p.
          let v = source_value widths old g.from p in
          let long : length v ≡ source_width widths old g.from = source-long widths old p g.from a h.source in
          let ends = h.ends in
          s.value p ∙ whole-bits v g.at width (omega (arith, long, ends)) (long ∙ all);
      phase = s.phase;
      mentions = s.mentions;
    }

pub sliced_part : (widths : List ℕ) (old mid new : List Shape) (g : Gift) (width of node : ℕ) → IsArena old → IsArena mid → IsArena new → IsWithin widths old width g → IsSource widths old g mid of
    → Interned mid (Slice of g.at width) new node → IsMade widths old (IsOne g) width (part_value widths old g width) new node
unfolding value_of width_of each_variable_of
sliced_part widths old mid new g width of node a b c h s i =
    let grows = interned_extends mid (Slice of g.at width) new node i in
    record {
      there = i.0;
      wide = width_follows new node c i.0 ∙ ap (width_of (width_at new)) i.1;
      value = λ p.
          let v = source_value widths old g.from p in
          let long : length v ≡ source_width widths old g.from = source-long widths old p g.from a h.source in
          let ends = h.ends in
          value_follows (reading p) new node c i.0
          ∙ ap (value_of (reading p) (value_at (reading p) new)) i.1
          ∙ ap (λ u. take width (drop g.at u)) (value-extends (reading p) mid new of grows s.there ∙ s.value p)
          ∙ part-bits v g.at width (omega (arith, long, ends));
      phase = variables_follow (is_of_phase widths) new node c i.0
          ∙ ap (each_variable_of (is_of_phase widths) (each_variable (is_of_phase widths) new)) i.1
          ∙ variables-extends (is_of_phase widths) mid new of grows s.there ∙ s.phase;
      mentions = λ wire. (
        λ m. mentions-child new node wire (Slice of g.at width) (SomeMentions old (IsOne g) wire) i.1 (λ k f. cc)
            (λ below. (s.mentions wire).0 (mentions-older mid new of wire b grows s.there below)) m,
        λ m. mentions-parent new node of wire (Slice of g.at width) i.1 refl (mentions-newer mid new of wire b grows s.there ((s.mentions wire).1 m)),
      );
    }

-- ---- an arena that grows

source-kept : (widths : List ℕ) (old new : List Shape) (from : Source) → Extends old new → HasSource widths old from → HasSource widths new from
source-kept widths old new (Value k) e h = let lt = h.0 in let more = e.longer in (omega (arith, lt, more), variables-extends (is_of_wires widths) old new k e h.0 ∙ h.1)
source-kept widths old new (Stimulus n) e h = h

source_width-kept : (widths : List ℕ) (old new : List Shape) (from : Source) → Extends old new → HasSource widths old from → source_width widths new from ≡ source_width widths old from
source_width-kept widths old new (Value k) e h = width-extends old new k e h.0
source_width-kept widths old new (Stimulus n) e h = refl

source_value-kept : (widths : List ℕ) (old new : List Shape) (p : Phase) (from : Source) → Extends old new → HasSource widths old from → source_value widths new from p ≡ source_value widths old from p
source_value-kept widths old new p (Value k) e h = value-extends (reading p) old new k e h.0
source_value-kept widths old new p (Stimulus n) e h = refl

pub within_kept : (widths : List ℕ) (old new : List Shape) (width : ℕ) (g : Gift) → Extends old new → IsWithin widths old width g → IsWithin widths new width g
within_kept widths old new width g e h =
    let same = source_width-kept widths old new g.from e h.source in
    let ends = h.ends in
    record { source = source-kept widths old new g.from e h.source; ends = omega (arith, same, ends) }

pub all_within_kept : (widths : List ℕ) (old new : List Shape) (width : ℕ) (row : List Gift) → Extends old new → All (IsWithin widths old width) row → All (IsWithin widths new width) row
all_within_kept widths old new width row e h = All-weaker (IsWithin widths old width) (IsWithin widths new width) (λ g i. within_kept widths old new width g e i) row h

pub run_kept : (widths : List ℕ) (old new : List Shape) (rows : List (List Gift)) (low width : ℕ) → Extends old new → IsGivenRun widths old rows low width → IsGivenRun widths new rows low width
run_kept widths old new rows low width e h = record {
  some = h.some;
  most = h.most;
  inside = h.inside;
  given = λ j lt. record { some = (h.given j lt).some; within = all_within_kept widths old new 1 (row_at rows (low + j)) e (h.given j lt).within };
}

pub bit_of-kept : (widths : List ℕ) (old new : List Shape) (p : Phase) (by : ℕ) (g : Gift) → Extends old new → HasSource widths old g.from → bit_of widths new p by g ≡ bit_of widths old p by g
bit_of-kept widths old new p by g e h = ap (λ v. get_or v (g.at + by) Unknown) (source_value-kept widths old new p g.from e h)

-- a node stays what it is made of
pub made_kept : (widths : List ℕ) (base : List Shape) (From : Gift → Type 0) (width : ℕ) (f : Phase → Vector) (old new : List Shape) (node : ℕ) → IsArena old → Extends old new
    → IsMade widths base From width f old node → IsMade widths base From width f new node
made_kept widths base From width f old new node a e m =
    let there = m.there in
    let more = e.longer in
    record {
      there = omega (arith, there, more);
      wide = width-extends old new node e m.there ∙ m.wide;
      value = λ p. value-extends (reading p) old new node e m.there ∙ m.value p;
      phase = variables-extends (is_of_phase widths) old new node e m.there ∙ m.phase;
      mentions = λ wire. (
        λ n. (m.mentions wire).0 (mentions-older old new node wire a e m.there n),
        λ s. mentions-newer old new node wire a e m.there ((m.mentions wire).1 s),
      );
    }

-- what a gift of a later arena mentions it mentions in an older one, and the other way round
some-older : (widths : List ℕ) (base old : List Shape) (From : Gift → Type 0) (wire : ℕ) → IsArena base → Extends base old → ((g : Gift) → From g → HasSource widths base g.from)
    → SomeMentions old From wire → SomeMentions base From wire
some-older widths base old From wire a e h m =
    let has : HasSource widths base (Value m.node) = subst (λ s. HasSource widths base s) m.from (h m.gift m.is) in
    record { gift = m.gift; is = m.is; node = m.node; from = m.from; mentions = mentions-older base old m.node wire a e has.0 m.mentions }

some-newer : (widths : List ℕ) (base old : List Shape) (From : Gift → Type 0) (wire : ℕ) → IsArena base → Extends base old → ((g : Gift) → From g → HasSource widths base g.from)
    → SomeMentions base From wire → SomeMentions old From wire
some-newer widths base old From wire a e h m =
    let has : HasSource widths base (Value m.node) = subst (λ s. HasSource widths base s) m.from (h m.gift m.is) in
    record { gift = m.gift; is = m.is; node = m.node; from = m.from; mentions = mentions-newer base old m.node wire a e has.0 m.mentions }

-- over an older arena, in which the values are the same
pub made_since : (widths : List ℕ) (base old new : List Shape) (From : Gift → Type 0) (width : ℕ) (f g : Phase → Vector) (node : ℕ) → IsArena base → Extends base old
    → ((x : Gift) → From x → HasSource widths base x.from) → ((p : Phase) → f p ≡ g p) → IsMade widths old From width f new node → IsMade widths base From width g new node
made_since widths base old new From width f g node a e h same m = record {
  there = m.there;
  wide = m.wide;
  value = λ p. m.value p ∙ same p;
  phase = m.phase;
  mentions = λ wire. (
    λ n. some-older widths base old From wire a e h ((m.mentions wire).0 n),
    λ s. (m.mentions wire).1 (some-newer widths base old From wire a e h s),
  );
}

-- of gifts that mention the same
pub made_alike : (widths : List ℕ) (base : List Shape) (From Other : Gift → Type 0) (width : ℕ) (f g : Phase → Vector) (new : List Shape) (node : ℕ)
    → ((wire : ℕ) → SomeMentions base From wire ↔ SomeMentions base Other wire) → ((p : Phase) → f p ≡ g p) → IsMade widths base From width f new node → IsMade widths base Other width g new node
made_alike widths base From Other width f g new node h same m = record {
  there = m.there;
  wide = m.wide;
  value = λ p. m.value p ∙ same p;
  phase = m.phase;
  mentions = λ wire. (
    λ n. (h wire).0 ((m.mentions wire).0 n),
    λ s. (m.mentions wire).1 ((h wire).1 s),
  );
}

pub some-of : (base : List Shape) (From Other : Gift → Type 0) (wire : ℕ) → ((x : Gift) → From x → Other x) → SomeMentions base From wire → SomeMentions base Other wire
some-of base From Other wire h s = record { gift = s.gift; is = h s.gift s.is; node = s.node; from = s.from; mentions = s.mentions }

-- of the same gifts
pub made_same : (widths : List ℕ) (base : List Shape) (From Other : Gift → Type 0) (width : ℕ) (f g : Phase → Vector) (new : List Shape) (node : ℕ)
    → ((x : Gift) → From x → Other x) → ((x : Gift) → Other x → From x) → ((p : Phase) → f p ≡ g p) → IsMade widths base From width f new node → IsMade widths base Other width g new node
made_same widths base From Other width f g new node h k same m =
    made_alike widths base From Other width f g new node (λ wire. (some-of base From Other wire h, some-of base Other From wire k)) same m
