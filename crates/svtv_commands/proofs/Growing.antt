-- Goals over a graph that has grown, and what is said of a design that has no machine.
use Rattle.std.proofs.Common.{◌≡◌, ℕ, Bool, List, [], ◌∷◌, refl, sym, ◌∙◌, ap, subst, arith}
use Rattle.std.specs.Prelude.{IsTrue}
use Rattle.std.specs.List.{All, AllZip}
use Rattle.driver_resolve.specs.Drivers.{bitwise}
use Rattle.flat_net.specs.declared.flat.Flat.{Flat}
use Rattle.fourvec.specs.declared.Bit.{Bit}
use Rattle.design_loops.specs.Loops.{HasWideLoop}
use Rattle.goal_text.specs.declared.goal.Goal.{Goal}
use Rattle.goal_text.specs.Nodes.{IsGoal, IsTruth}
use Rattle.goal_text.specs.Scopes.{variables_of, claims_scope, is_of_vars, is_of_table}
use Rattle.goal_tree.specs.declared.tree.GoalTree.{GoalTree}
use Rattle.net_equations.specs.declared.group.ComposeErr.{ComposeErr}
use Rattle.net_equations.specs.declared.group.ComposeErr.TheVariants as compose
use Rattle.sv_elab.specs.Elaborated.{IsElaborated}
use Rattle.sv_meaning.specs.Designs.{Design}
use Rattle.sv_meaning.specs.Layouts.{Scope}
use Rattle.sv_outside.specs.declared.refusal.TextErr.TheVariants as e
use Rattle.sv_tree.specs.declared.exprs.Expr.{Expr}
use Rattle.svex_arena.specs.Arenas.{Extends}
use Rattle.svex_arena.proofs.Steps.{value-extends, variables-extends, width-extends}
use Rattle.svex_shape.specs.declared.shape.Shape.{Shape}
use Rattle.svex_shape.specs.declared.shape.VarName.{VarName}
use Rattle.svtv_commands.specs.Machines.{IsWideStop, StopsWide}
use Rattle.svtv_texts.specs.Passed.{IsOneBit, IsThere, Poses}
use Rattle.svtv_files.specs.Files.{Text}
use Rattle.svtv_files.specs.Refusals.{at_first}
use Rattle.svtv_files.specs.Stopping.{IfUnread, IsOf}
use Rattle.svtv_files.specs.declared.stop.Stop.{Stop}
use Rattle.svtv_files.specs.declared.stop.Stop.TheVariants.{Refused, Unread, Memory}
use Rattle.svtv_texts.specs.Passed.{AreLeastNodes}
use Rattle.svtv_runs.specs.Runs.{Asked}
use Rattle.svtv_table.specs.declared.bound.Bound.{Bound}
use Rattle.svtv_table.specs.declared.bound.Sample.{Sample}
use Rattle.svtv_table.specs.declared.bound.VarDecl.{VarDecl}

-- ---- nodes of goals

zip_kept : {A B : Type 0} (R S : A → B → Type 0) → ((x : A) (y : B) → R x y → S x y) → (xs : List A) (ys : List B) → AllZip R xs ys → AllZip S xs ys
zip_kept R S f [] [] z = z
zip_kept R S f [] (y ∷ ys) z = absurd z
zip_kept R S f (x ∷ xs) [] z = absurd z
zip_kept R S f (x ∷ xs) (y ∷ ys) z = (f x y z.0, zip_kept R S f xs ys z.1)

module _ (old new : List Shape) (h : Extends old new) where
  truth_kept : (at : Scope) (allowed : VarName → ℕ → Bool) (x : Expr) (n : ℕ) → IsTruth at allowed old x n → IsTruth at allowed new x n
  truth_kept at allowed x n t = record {
    within = omega (arith, t.within, h.longer);
    width = width-extends old new n h t.within ∙ t.width;
    value = λ bits. value-extends (bitwise bits) old new n h t.within ∙ t.value bits;
    mentions = subst IsTrue (sym (variables-extends allowed old new n h t.within)) t.mentions;
  }

  goal_kept : (vars : List VarDecl) (samples : List Sample) (tree : GoalTree) (goal : Goal) → IsGoal vars samples old tree goal → IsGoal vars samples new tree goal
  goal_kept vars samples tree goal g = record {
    name = g.name;
    hyps = zip_kept (IsTruth (variables_of vars) (is_of_vars vars) old) (IsTruth (variables_of vars) (is_of_vars vars) new) (truth_kept (variables_of vars) (is_of_vars vars)) tree.hyps goal.hyps g.hyps;
    claims = zip_kept (IsTruth (claims_scope vars samples) (is_of_table vars samples) old) (IsTruth (claims_scope vars samples) (is_of_table vars samples) new) (truth_kept (claims_scope vars samples) (is_of_table vars samples)) tree.claims goal.claims g.claims;
  }

  goals_kept : (vars : List VarDecl) (samples : List Sample) (trees : List GoalTree) (goals : List Goal) → AllZip (IsGoal vars samples old) trees goals → AllZip (IsGoal vars samples new) trees goals
  goals_kept vars samples trees goals z = zip_kept (IsGoal vars samples old) (IsGoal vars samples new) (goal_kept vars samples) trees goals z

  one_bit_kept : (n : ℕ) → IsOneBit old n → IsOneBit new n
  one_bit_kept n b = record { there = omega (arith, b.there, h.longer); wide = width-extends old new n h b.there ∙ b.wide }

  pub one_there : (goal : Goal) → IsThere old goal → IsThere new goal
  one_there goal t = record { hyps = λ j n k. one_bit_kept _ (t.hyps j n k); claims = λ j n k. one_bit_kept _ (t.claims j n k) }

  pub there_kept : (goals : List Goal) → All (IsThere old) goals → All (IsThere new) goals
  there_kept goals t i d l = one_there _ (t i d l)

-- What is reported of a copy, over a graph that has grown, is reported of the flat design.
pub reports : (flat copy : Flat) (bound : Bound) (shapes : List Shape) (nodes : List ℕ) (goals : List Goal) (Report : Design → (List (List Bit) → Asked) → List GoalTree → Type 0) → copy ≡ flat → Extends flat.arena shapes
    → ((d : Design) → IsElaborated d flat → AreLeastNodes d bound shapes nodes)
    → ((d : Design) (asked : List (List Bit) → Asked) (trees : List GoalTree) → Poses d asked copy bound → AreLeastNodes d bound shapes nodes → AllZip (IsGoal bound.vars bound.samples shapes) trees goals → Report d asked trees)
    → (d : Design) (asked : List (List Bit) → Asked) (trees : List GoalTree) → Poses d asked flat bound → AllZip (IsGoal bound.vars bound.samples flat.arena) trees goals → Report d asked trees
reports flat copy bound shapes nodes goals Report same grown least h d asked trees p z =
    h d asked trees (subst (λ (f : Flat). Poses d asked f bound) (sym same) p) (least d p.elaborated) (goals_kept flat.arena shapes grown bound.vars bound.samples trees goals z)

-- the same of one goal
pub tells : (flat copy : Flat) (bound : Bound) (shapes : List Shape) (nodes : List ℕ) (goal : Goal) (Report : Design → (List (List Bit) → Asked) → GoalTree → Type 0) → copy ≡ flat → Extends flat.arena shapes
    → ((d : Design) → IsElaborated d flat → AreLeastNodes d bound shapes nodes)
    → ((d : Design) (asked : List (List Bit) → Asked) (tree : GoalTree) → Poses d asked copy bound → AreLeastNodes d bound shapes nodes → IsGoal bound.vars bound.samples shapes tree goal → Report d asked tree)
    → (d : Design) (asked : List (List Bit) → Asked) (tree : GoalTree) → Poses d asked flat bound → IsGoal bound.vars bound.samples flat.arena tree goal → Report d asked tree
tells flat copy bound shapes nodes goal Report same grown least h d asked tree p g =
    h d asked tree (subst (λ (f : Flat). Poses d asked f bound) (sym same) p) (least d p.elaborated) (goal_kept flat.arena shapes grown bound.vars bound.samples tree goal g)

-- ---- a design that has no machine

pub is_wide : (name : Text) (bits : ℕ) (stop : Stop) → IsOf name (e.No (record { number = 39; place = at_first; count = bits })) stop → IsWideStop name (compose.LoopTooWide bits) stop
is_wide name bits (Refused file r) h = (h.1, h.0)
is_wide name bits (Unread file place) h = absurd h
is_wide name bits Memory h = tt

pub stops_wide : (name : Text) (d : Design) (error : ComposeErr) (stop : Stop) → IsWideStop name error stop → ((bits : ℕ) → error ≡ compose.LoopTooWide bits → HasWideLoop d bits) → StopsWide name d stop
stops_wide name d (compose.LoopTooWide bits) (Refused file r) h wide =
    let count : bits ≡ r.count = sym (ap (λ x. x.count) h.1) in
    (h.0, record { is = h.1 ∙ ap (λ n. record { number = 39; place = at_first; count = n }) count; wide = subst (HasWideLoop d) count (wide bits refl) })
stops_wide name d (compose.LoopTooWide bits) (Unread file place) h wide = absurd h
stops_wide name d (compose.LoopTooWide bits) Memory h wide = tt
stops_wide name d compose.Memory (Refused file r) h wide = absurd h
stops_wide name d compose.Memory (Unread file place) h wide = absurd h
stops_wide name d compose.Memory Memory h wide = tt

-- nothing was left unread
pub none_left : (name : Text) (d : Design) (P : Type 0) (stop : Stop) → StopsWide name d stop → IfUnread P stop
none_left name d P (Refused file r) h = tt
none_left name d P (Unread file place) h = absurd h
none_left name d P Memory h = tt
