-- The base: what breaks a goal of nodes breaks the claims in the least run of the reset, and the other way round.
use Rattle.std.proofs.Common.{ℕ, List, [], refl}
use Rattle.std.specs.Prelude.{Option}
use Rattle.std.proofs.lemmas.List.Elements.{All-nil}
use Rattle.fourvec.specs.declared.Bit.{Bit}
use Rattle.goal_gates.specs.Goals.{goal_of, IsBreaking, IsOne}
use Rattle.goal_prove.specs.Verdicts.{IsBrokenBy}
use Rattle.goal_prove.specs.declared.answers.Answer.{Answer}
use Rattle.goal_prove.specs.declared.answers.Answer.TheVariants.{Found, Never, Spent}
use Rattle.svex_shape.specs.declared.shape.Shape.{Shape}
use Rattle.svex_arena.specs.Arenas.{IsArena, Extends}
use Rattle.sv_meaning.specs.Designs.{Design}
use Rattle.svtv_least.proofs.Fitting.{apart}
use Rattle.svtv_runs.specs.Runs.{Run, IsLeastRun, asks_of}
use Rattle.svtv_runs.specs.Truths.{sampled}
use Rattle.svtv_runs.proofs.Runs.{least_run_stands}
use Rattle.svtv_table.specs.Stimuli.{IsChoice}
use Rattle.svtv_unroll.specs.Unrolled.{AreSampleNodes, HaveSamples}
use Rattle.svtv_induct.specs.Halves.{IsHalf, claims_at}
use Rattle.svtv_induct.specs.Inducting.{BreaksBase, IsBaseBy}
use Rattle.svtv_induct.specs.declared.half.Half.{Half}
use Rattle.svtv_induct.proofs.Reading.{ones_over, ones_under, samples_are}

-- the nodes of the samples in a graph that has grown, which have what the samples have in the least runs of a design
pub record HasLeast (d : Design) (h : Half) (at : ℕ) (new : List Shape) (own : List ℕ) : Type 0 where
  pub half : IsHalf h at
  pub arena : IsArena h.fsm.flat.arena
  pub new_arena : IsArena new
  pub extends : Extends h.fsm.flat.arena new
  pub nodes : AreSampleNodes h.bound.vars h.bound.samples new own
  pub least : (choice : List (List Bit)) → IsChoice h.bound.vars choice → (r : Run) → IsLeastRun d (asks_of choice h.bound) h.bound.phases r → HaveSamples choice h.bound.samples (sampled r) new own

pub base_breaks : (d : Design) (h : Half) (at : ℕ) (new : List Shape) (own : List ℕ) → HasLeast d h at new own → (choice : List (List Bit)) → IsBreaking (goal_of new h.bound.vars own [] (claims_at h at)) choice → BreaksBase d h at choice
base_breaks d h at new own x choice m =
    let least = least_run_stands d (asks_of choice h.bound) h.bound.phases (apart h.fsm.flat.wires h.bound x.half.bound choice) in
    let same = samples_are h.bound.vars h.bound.samples new own choice least.0 x.new_arena m.meets.is.widths x.nodes (x.least choice m.meets.is least.0 least.1) in
    record {
      is = m.meets.is;
      run = least.0;
      least = least.1;
      breaks = λ ones. m.breaks (ones_under h.fsm.flat.arena new h.bound.vars own [] (claims_at h at) h.bound.samples choice _ x.arena x.extends x.half.claims same ones);
    }

pub base_broken : (d : Design) (h : Half) (at : ℕ) (new : List Shape) (own : List ℕ) → HasLeast d h at new own → (choice : List (List Bit)) → BreaksBase d h at choice → IsBreaking (goal_of new h.bound.vars own [] (claims_at h at)) choice
base_broken d h at new own x choice b =
    let same = samples_are h.bound.vars h.bound.samples new own choice b.run x.new_arena b.is.widths x.nodes (x.least choice b.is b.run b.least) in
    record {
      meets = record { is = b.is; meets = All-nil (IsOne (goal_of new h.bound.vars own [] (claims_at h at)) choice) };
      breaks = λ ones. b.breaks (ones_over h.fsm.flat.arena new h.bound.vars own [] (claims_at h at) h.bound.samples choice _ x.arena x.extends x.half.claims same ones);
    }

pub base_by : (d : Design) (h : Half) (at : ℕ) (new : List Shape) (own : List ℕ) (budget : Option ℕ) (a : Answer) → HasLeast d h at new own → IsBrokenBy (goal_of new h.bound.vars own [] (claims_at h at)) budget a → IsBaseBy d h at budget a
base_by d h at new own budget (Found choice) x m = base_breaks d h at new own x choice m
base_by d h at new own budget (Never cert) x m = λ choice b. m.0 choice (base_broken d h at new own x choice b)
base_by d h at new own budget (Spent cert) x m = record {
  n = m.n;
  given = m.given;
  below = m.asks.below;
  asked = ((λ s. let y = m.asks.asked.0 s in (y.0, base_breaks d h at new own x y.0 y.2)), (λ y. m.asks.asked.1 (y.0, y.1.is, base_broken d h at new own x y.0 y.1)));
  posed = goal_of new h.bound.vars own [] (claims_at h at);
  asks = record { graph = x.extends; vars = refl; samples = x.nodes; hyps = refl; claims = refl; asks = λ choice. (base_breaks d h at new own x choice, base_broken d h at new own x choice) };
  many = m.many;
  fits = m.room;
  fresh = m.fresh;
}
