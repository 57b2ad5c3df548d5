-- A design, a table and goals that were loaded.
use Rattle.std.proofs.Common.{◌≡◌, ℕ, List, map, Option, sym, ◌∙◌, ap, subst, inl, inr}
use Rattle.std.specs.List.{All, AllZip}
use Rattle.fourvec.specs.declared.Bit.{Bit}
use Rattle.goal_text.specs.declared.goal.Goal.{Goal}
use Rattle.goal_text.specs.Nodes.{IsGoal}
use Rattle.goal_tree.specs.declared.tree.GoalTree.{GoalTree}
use Rattle.sv_meaning.specs.Designs.{Design}
use Rattle.svtv_table.specs.Binding.{HasWidth, IsBound, bound_of}
use Rattle.svtv_table.specs.declared.bound.Bound.{Bound}
use Rattle.svtv_table.specs.declared.bound.VarDecl.{VarDecl}
use Rattle.svtv_runs.specs.Runs.{Asked}
use Rattle.svtv_commands.specs.Inputs.{IsPosed, RefusesPosed, Stands}
use Rattle.svtv_commands.specs.Judged.{IsJudgement}
use Rattle.svtv_commands.specs.Machines.{StopsWide}
use Rattle.svtv_commands.specs.declared.posing.Posed.{Posed}
use Rattle.svtv_commands.specs.declared.setup.Setup.{Setup}
use Rattle.svtv_files.specs.Files.{Text, Told, bench_of, samples_in, vars_of}
use Rattle.svtv_files.specs.Refusals.{LeavesProof, RefusesProof}
use Rattle.svtv_files.specs.Stopping.{Stops}
use Rattle.svtv_files.specs.declared.stop.Stop.{Stop}
use Rattle.svtv_files.specs.declared.stop.Stop.TheVariants.{Refused, Unread, Memory}
use Rattle.svtv_report.specs.Seen.{verdict_is}
use Rattle.svtv_texts.specs.Passed.{IsThere, Poses, bench}
use Rattle.svtv_texts.specs.Rights.{AreRight, names_of}
use Rattle.svtv_texts.specs.declared.judging.Decisions.{Decisions}
use Rattle.svtv_texts.proofs.Verdicts.{all_there, names_same}
use Rattle.svtv_commands.proofs.Benches.{poses}
use Rattle.svtv_commands.proofs.Turns as turns

module _ (told : Told) (d t g : Text) (top : Option Text) (x : Posed) (p : IsPosed told d t g top x) where
  abbrev setup_of : Setup
  setup_of = record { flat = x.flat; table = x.table; bound = x.bound }

  stands : Stands told d t top setup_of
  stands = record { design = p.design; setup = p.setup; elaborated = p.elaborated; bound = p.bound }

  pub bound_fits : IsBound x.flat.wires x.bound
  bound_fits = turns.fits told d t top setup_of stands

  pub all_wide : (vars : List VarDecl) → vars ≡ x.bound.vars → All (λ v. HasWidth v.width) vars
  all_wide vars h = turns.vars_wide told d t top setup_of stands vars h

  pub goals_there : (goals : List Goal) → goals ≡ x.goals → All (IsThere x.flat.arena) goals
  goals_there goals h =
      subst (λ gs. All (IsThere x.flat.arena) gs) (sym h) (all_there (vars_of p.design x.table) (samples_in p.design x.table) x.flat.arena p.goals.trees x.goals p.goals.each)

  pub is_posing : Poses p.design (bench_of p.design x.table).asked x.flat x.bound
  is_posing = subst (λ (b : Bound). Poses p.design (bench_of p.design x.table).asked x.flat b) (sym p.bound) (poses p.design x.flat x.table p.elaborated p.setup.is_table.clear)

  -- ---- stops

  -- behind legal goals the design alone may still be refused
  pub wide_turn : (stop : Stop) → StopsWide d p.design stop → Stops (RefusesProof told d t g top) (LeavesProof told d t g top) stop
  wide_turn (Refused file r) h = inr (p.design, x.table, p.setup, inr (h.0, ((p.goals.trees, p.goals.file), h.1)))
  wide_turn (Unread file place) h = absurd h
  wide_turn Memory h = tt

  -- ---- verdicts

  -- verdicts that are right of whatever the flat design and the bound table pose
  abbrev Rights : Bound → List Goal → Option ℕ → Decisions → Type 0
  Rights b goals budget y = (design : Design) (asked : List (List Bit) → Asked) (trees : List GoalTree) → Poses design asked x.flat b → AllZip (IsGoal b.vars b.samples x.flat.arena) trees goals
      → AreRight (bench design asked b) trees budget (map verdict_is y.verdicts) y.shown

  pub judged : (goals : List Goal) (budget : Option ℕ) (y : Decisions) → goals ≡ x.goals → y.names ≡ names_of goals → Rights x.bound goals budget y
      → IsJudgement told d t g top budget (record { bound = x.bound; decisions = y })
  unfolding bound_of
  judged goals budget y same names right =
      let own : Rights x.bound x.goals budget y = subst (λ gs. Rights x.bound gs budget y) same right in
      let rights : Rights (bound_of p.design.wires x.table) x.goals budget y = subst (λ (b : Bound). Rights b x.goals budget y) p.bound own in
      record {
        design = p.design;
        table = x.table;
        setup = p.setup;
        bound = p.bound;
        goals = p.goals.trees;
        are_goals = p.goals.file;
        names = names ∙ ap names_of same ∙ names_same (vars_of p.design x.table) (samples_in p.design x.table) x.flat.arena p.goals.trees x.goals p.goals.each;
        right = rights p.design (bench_of p.design x.table).asked p.goals.trees (poses p.design x.flat x.table p.elaborated p.setup.is_table.clear) p.goals.each;
      }

-- why nothing is posed is why nothing is proved
pub posed_stops : (told : Told) (d t g : Text) (top : Option Text) (stop : Stop) → Stops (RefusesPosed told d t g top) (LeavesProof told d t g top) stop → Stops (RefusesProof told d t g top) (LeavesProof told d t g top) stop
posed_stops told d t g top (Refused file r) (inl h) = inl h
posed_stops told d t g top (Refused file r) (inr b) = inr (b.0, b.1, b.2, inl b.3)
posed_stops told d t g top (Unread file place) h = h
posed_stops told d t g top Memory h = h
