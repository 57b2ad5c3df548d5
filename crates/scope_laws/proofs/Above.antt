-- Ports whose wires stand above all that the place of their instance sees.
use Rattle.std.proofs.Common.{◌≡◌, ℕ, zero, suc, ◌+◌, ◌-◌, ◌<◌, ◌≤◌, List, [], ◌∷◌, ◌++◌, length, take, Option, Some, None, Bool, true, false, cond, refl, sym, ap, ◌∙◌, subst, arith, length-append, append_assoc}
use Rattle.std.specs.Prelude.{bytes_eq}
use Rattle.sv_outside.specs.declared.text.Signal.{Signal}
use Rattle.sv_tree.specs.declared.exprs.Expr.{Expr}
use Rattle.sv_meaning.specs.Layouts.{Name, Entry, Scope, What, number_is, type_is, signal_is, genvar_is}
use Rattle.sv_meaning.specs.Params.{Connection}
use Rattle.sv_hierarchy.specs.Scopes.{Level, Front, level_at, with_level, fronts_at, seen_along, live_along, live_at, Task, assigning, running, connecting, Standing, Child, OpenPort, port_named, connected, port_works}
use Rattle.scope_laws.proofs.Good.{IsGood, AreGood}

-- ---- places in the first of so many scopes

unfoldable pub AreNear : ℕ → List Front → Type 0
AreNear m [] = Unit {0}
AreNear m (f ∷ more) = (f.level < m) × AreNear m more

near_wider : (m n : ℕ) (all : List Front) → m ≤ n → AreNear m all → AreNear n all
unfolding AreNear
near_wider m n [] h g = tt
near_wider m n (f ∷ more) h g = (omega (arith, g.0, h), near_wider m n more h g.1)

pub near_last : (m : ℕ) (all : List Front) (f : Front) → AreNear m all → f.level < m → AreNear m (all ++ f ∷ [])
unfolding AreNear
near_last m [] f h g = (g, tt)
near_last m (x ∷ more) f h g = (h.0, near_last m more f h.1 g)

-- each scope sees only the first ones
unfoldable pub LevelsNear : ℕ → List Level → Type 0
LevelsNear m [] = Unit {0}
LevelsNear m (x ∷ more) = AreNear m x.around × LevelsNear m more

pub levels_near_wider : (m n : ℕ) (all : List Level) → m ≤ n → LevelsNear m all → LevelsNear n all
unfolding LevelsNear
levels_near_wider m n [] h g = tt
levels_near_wider m n (x ∷ more) h g = (near_wider m n x.around h g.0, levels_near_wider m n more h g.1)

pub levels_near_push : (m : ℕ) (all : List Level) (x : Level) → LevelsNear m all → AreNear m x.around → LevelsNear m (all ++ x ∷ [])
unfolding LevelsNear
levels_near_push m [] x h g = (g, tt)
levels_near_push m (y ∷ all) x h g = (h.0, levels_near_push m all x h.1 g)

levels_near_with : (m n : ℕ) (f : Level → Level) (all : List Level) → ((x : Level) → (f x).around ≡ x.around) → LevelsNear m all → LevelsNear m (with_level n f all)
unfolding LevelsNear with_level
levels_near_with m n f [] e h = tt
levels_near_with m zero f (x ∷ all) e h = (subst (AreNear m) (sym (e x)) h.0, h.1)
levels_near_with m (suc n) f (x ∷ all) e h = (h.0, levels_near_with m n f all e h.1)

pub level_near : (m : ℕ) (all : List Level) (k : ℕ) → LevelsNear m all → AreNear m (level_at all k).around
unfolding LevelsNear level_at AreNear
level_near m [] k h = tt
level_near m (x ∷ all) zero h = h.0
level_near m (x ∷ all) (suc k) h = level_near m all k h.1

-- ---- scopes that stay as they are

-- the first scopes are these
abbrev pub StartsWith : List Level → List Level → Type 0
StartsWith old now = (rest : List Level) × (now ≡ old ++ rest)

pub starts_long : (old now : List Level) → StartsWith old now → length old ≤ length now
starts_long old now s = let e : length now ≡ length old + length s.0 = ap length s.1 ∙ length-append old s.0 in omega (arith, e)

pub starts_on : (old mid now : List Level) → StartsWith old mid → StartsWith mid now → StartsWith old now
starts_on old mid now s t = (s.0 ++ t.0, t.1 ∙ ap (λ (z : List Level). z ++ t.0) s.1 ∙ append_assoc old s.0 t.0)

with_behind : (old rest : List Level) (n : ℕ) (f : Level → Level) → length old ≤ n → with_level n f (old ++ rest) ≡ old ++ with_level (n - length old) f rest
unfolding with_level
with_behind [] rest n f h = let e : n ≡ n - 0 = omega arith in ap (λ (k : ℕ). with_level k f rest) e
with_behind (x ∷ old) rest zero f h = absurd (omega (arith, h))
with_behind (x ∷ old) rest (suc n) f h =
    let e : n - length old ≡ suc n - suc (length old) = omega arith in
    ap (λ (z : List Level). x ∷ z) (with_behind old rest n f (omega (arith, h))) ∙ ap (λ (k : ℕ). x ∷ (old ++ with_level k f rest)) e

length_with : (n : ℕ) (f : Level → Level) (all : List Level) → length (with_level n f all) ≡ length all
unfolding with_level
length_with n f [] = refl
length_with zero f (x ∷ all) = refl
length_with (suc n) f (x ∷ all) = ap suc (length_with n f all)

level_kept : (old rest : List Level) (k : ℕ) → k < length old → level_at (old ++ rest) k ≡ level_at old k
unfolding level_at
level_kept [] rest k h = absurd (omega (arith, h))
level_kept (x ∷ old) rest zero h = refl
level_kept (x ∷ old) rest (suc k) h = level_kept old rest k (omega (arith, h))

along_kept : (old rest : List Level) (fs : List Front) → AreNear (length old) fs → live_along (old ++ rest) fs ≡ live_along old fs
unfolding live_along AreNear
along_kept old rest [] h = refl
along_kept old rest (f ∷ more) h =
    ap (λ (x : Level). (x.nets ++ take f.consts x.consts) ++ live_along (old ++ rest) more) (level_kept old rest f.level h.0)
    ∙ ap (λ (z : List Entry). ((level_at old f.level).nets ++ take f.consts (level_at old f.level).consts) ++ z) (along_kept old rest more h.1)

seen_kept : (old rest : List Level) (fs : List Front) → AreNear (length old) fs → seen_along (old ++ rest) fs ≡ seen_along old fs
unfolding seen_along AreNear
seen_kept old rest [] h = refl
seen_kept old rest (f ∷ more) h =
    ap (λ (x : Level). (take f.nets x.nets ++ take f.consts x.consts) ++ seen_along (old ++ rest) more) (level_kept old rest f.level h.0)
    ∙ ap (λ (z : List Entry). (take f.nets (level_at old f.level).nets ++ take f.consts (level_at old f.level).consts) ++ z) (seen_kept old rest more h.1)

fronts_kept : (old rest : List Level) (at : Front) → at.level < length old → fronts_at (old ++ rest) at ≡ fronts_at old at
fronts_kept old rest at h = ap (λ (x : Level). x.around ++ at ∷ []) (level_kept old rest at.level h)

-- a place in the first scopes, which sees only these
pub record NearAt (old : List Level) (at : Front) : Type 0 where
  pub level : at.level < length old
  pub around : AreNear (length old) (level_at old at.level).around

pub live_kept : (old now : List Level) (at : Front) → StartsWith old now → NearAt old at → live_at now at ≡ live_at old at
live_kept old now at s n =
    let near = near_last (length old) (level_at old at.level).around at n.around n.level in
    let fronts = fronts_kept old s.0 at n.level in
    let all : live_along (old ++ s.0) (fronts_at (old ++ s.0) at) ≡ live_along old (fronts_at old at) = ap (live_along (old ++ s.0)) fronts ∙ along_kept old s.0 (fronts_at old at) near in
    let above : seen_along (old ++ s.0) (fronts_at (old ++ s.0) at) ≡ seen_along old (fronts_at old at) = ap (seen_along (old ++ s.0)) fronts ∙ seen_kept old s.0 (fronts_at old at) near in
    ap (λ (z : List Level). live_at z at) s.1 ∙ (λ i. record { all = all i; above = above i })

near_at_on : (old now : List Level) (at : Front) → StartsWith old now → NearAt old at → NearAt now at
near_at_on old now at s n =
    let long = starts_long old now s in
    let same : level_at now at.level ≡ level_at old at.level = ap (λ (z : List Level). level_at z at.level) s.1 ∙ level_kept old s.0 at.level n.level in
    record {
      level = let h = n.level in omega (arith, h, long);
      around = subst (λ (x : Level). AreNear (length now) x.around) (sym same) (near_wider (length old) (length now) (level_at old at.level).around long n.around);
    }

-- ---- numbers of wires

abbrev pub IsBelow : ℕ → What → Type 0
IsBelow n (number_is v s) = Unit {0}
IsBelow n (type_is x) = Unit {0}
IsBelow n (signal_is o m x) = m < n
IsBelow n genvar_is = Unit {0}

unfoldable pub AreBelow : ℕ → List Entry → Type 0
AreBelow n [] = Unit {0}
AreBelow n (e ∷ more) = IsBelow n e.1 × AreBelow n more

is_below : (wires : List Signal) (n : ℕ) (x : What) → length wires ≤ n → IsGood wires x → IsBelow n x
is_below wires n (number_is v s) h g = tt
is_below wires n (type_is x) h g = tt
is_below wires n (signal_is o m x) h g = omega (arith, h, g.1)
is_below wires n genvar_is h g = tt

pub good_below : (wires : List Signal) (n : ℕ) (all : List Entry) → length wires ≤ n → AreGood wires all → AreBelow n all
unfolding AreBelow AreGood
good_below wires n [] h g = tt
good_below wires n (e ∷ more) h g = (is_below wires n e.1 h g.0, good_below wires n more h g.1)

still_below : (m n : ℕ) (x : What) → m ≤ n → IsBelow m x → IsBelow n x
still_below m n (number_is v s) h g = tt
still_below m n (type_is x) h g = tt
still_below m n (signal_is o k x) h g = omega (arith, h, g)
still_below m n genvar_is h g = tt

below_wider : (m n : ℕ) (all : List Entry) → m ≤ n → AreBelow m all → AreBelow n all
unfolding AreBelow
below_wider m n [] h g = tt
below_wider m n (e ∷ more) h g = (still_below m n e.1 h g.0, below_wider m n more h g.1)

-- ---- works

-- all of both lists
pub record SeesBelow (n : ℕ) (at : Scope) : Type 0 where
  pub all : AreBelow n at.all
  pub above : AreBelow n at.above

sees_wider : (m n : ℕ) (at : Scope) → m ≤ n → SeesBelow m at → SeesBelow n at
sees_wider m n at h g = record { all = below_wider m n at.all h g.all; above = below_wider m n at.above h g.above }

-- a wire of this number stands above all that a place sees
pub record StandsAbove (base : List Level) (at : Front) (n : ℕ) : Type 0 where
  pub near : NearAt base at
  pub below : SeesBelow n (live_at base at)

abbrev pub TaskAbove : List Level → Front → Task → Type 0
TaskAbove base at (assigning to x) = Unit {0}
TaskAbove base at (running b) = Unit {0}
TaskAbove base at (connecting w n x actual) = StandsAbove base at n

unfoldable pub WorksAbove : List Level → List Standing → Type 0
WorksAbove base [] = Unit {0}
WorksAbove base (w ∷ more) = TaskAbove base w.at w.task × WorksAbove base more

task_on : (old now : List Level) (at : Front) (t : Task) → StartsWith old now → TaskAbove old at t → TaskAbove now at t
task_on old now at (assigning to x) s h = tt
task_on old now at (running b) s h = tt
task_on old now at (connecting w n x actual) s h =
    let near = h.near in record { near = near_at_on old now at s near; below = subst (SeesBelow n) (sym (live_kept old now at s near)) h.below }

pub works_on : (old now : List Level) (all : List Standing) → StartsWith old now → WorksAbove old all → WorksAbove now all
unfolding WorksAbove
works_on old now [] s h = tt
works_on old now (w ∷ more) s h = (task_on old now w.at w.task s h.0, works_on old now more s h.1)

pub above_both : (base : List Level) (a b : List Standing) → WorksAbove base a → WorksAbove base b → WorksAbove base (a ++ b)
unfolding WorksAbove
above_both base [] b f g = g
above_both base (x ∷ a) b f g = (f.0, above_both base a b f.1 g)

pub above_none : (base : List Level) → WorksAbove base []
unfolding WorksAbove
above_none base = tt

pub above_one : (base : List Level) (w : Standing) → TaskAbove base w.at w.task → WorksAbove base (w ∷ [])
unfolding WorksAbove
above_one base w h = (h, tt)

-- ---- the ports of an instance

-- their wires are numbered from there on
unfoldable pub PortsFrom : ℕ → List OpenPort → Type 0
PortsFrom k [] = Unit {0}
PortsFrom k (p ∷ more) = (k ≤ p.wire) × PortsFrom k more

pub ports_from_lower : (j k : ℕ) (all : List OpenPort) → j ≤ k → PortsFrom k all → PortsFrom j all
unfolding PortsFrom
ports_from_lower j k [] h g = tt
ports_from_lower j k (p ∷ more) h g = (omega (arith, h, g.0), ports_from_lower j k more h g.1)

abbrev MaybeFrom : ℕ → Option OpenPort → Type 0
MaybeFrom k None = Unit {0}
MaybeFrom k (Some p) = k ≤ p.wire

chosen_from : (k : ℕ) (p : OpenPort) (o : Option OpenPort) (b : Bool) → k ≤ p.wire → MaybeFrom k o → MaybeFrom k (cond b (Some p) o)
chosen_from k p o true g h = g
chosen_from k p o false g h = h

named_from : (k : ℕ) (n : Name) (all : List OpenPort) → PortsFrom k all → MaybeFrom k (port_named n all)
unfolding PortsFrom port_named
named_from k n [] h = tt
named_from k n (p ∷ more) h = chosen_from k p (port_named n more) (bytes_eq p.name n) h.0 (named_from k n more h.1)

connected_above : (base : List Level) (at : Front) (k : ℕ) (o : Option OpenPort) (x : Option Expr) → StandsAbove base at k → MaybeFrom k o → WorksAbove base (connected at o x)
connected_above base at k None x s h = above_none base
connected_above base at k (Some p) None s h = above_none base
connected_above base at k (Some p) (Some x) s h =
    above_one base (record { at = at; task = connecting p.way p.wire p.layout x }) (record { near = s.near; below = sees_wider k p.wire (live_at base at) h s.below })

pub port_works_above : (base : List Level) (at : Front) (k : ℕ) (pins : List Connection) (ports : List OpenPort) → StandsAbove base at k → PortsFrom k ports → WorksAbove base (port_works at pins ports)
unfolding port_works
port_works_above base at k [] ports s h = above_none base
port_works_above base at k (c ∷ more) ports s h =
    above_both base (connected at (port_named c.0 ports) c.1) (port_works at more ports)
    (connected_above base at k (port_named c.0 ports) c.1 s (named_from k c.0 ports h)) (port_works_above base at k more ports s h)

-- ---- where a walk stands

unfoldable pub ChildrenNear : ℕ → List Child → Type 0
ChildrenNear m [] = Unit {0}
ChildrenNear m (c ∷ more) = (c.at.level < m) × ChildrenNear m more

pub children_wider : (m n : ℕ) (all : List Child) → m ≤ n → ChildrenNear m all → ChildrenNear n all
unfolding ChildrenNear
children_wider m n [] h g = tt
children_wider m n (c ∷ more) h g = (omega (arith, h, g.0), children_wider m n more h g.1)

pub children_last : (m : ℕ) (all : List Child) (c : Child) → ChildrenNear m all → c.at.level < m → ChildrenNear m (all ++ c ∷ [])
unfolding ChildrenNear
children_last m [] c h g = (g, tt)
children_last m (x ∷ all) c h g = (h.0, children_last m all c h.1 g)

pub no_children : (m : ℕ) → ChildrenNear m []
unfolding ChildrenNear
no_children m = tt

-- A walk is in a scope behind the first ones, which stay as they are.
pub record Shape (old now : List Level) (me : ℕ) (children : List Child) : Type 0 where
  pub starts : StartsWith old now
  pub behind : length old ≤ me
  pub there : me < length now
  pub near : LevelsNear (length now) now
  pub below : ChildrenNear (length now) children

pub shape_with : (old now : List Level) (me : ℕ) (children : List Child) (f : Level → Level) → ((x : Level) → (f x).around ≡ x.around) → Shape old now me children → Shape old (with_level me f now) me children
shape_with old now me children f e s =
    let long = length_with me f now in
    let first = s.starts in
    record {
      starts = (with_level (me - length old) f first.0, ap (with_level me f) first.1 ∙ with_behind old first.0 me f s.behind);
      behind = s.behind;
      there = subst (λ (n : ℕ). me < n) (sym long) s.there;
      near = subst (λ (n : ℕ). LevelsNear n (with_level me f now)) (sym long) (levels_near_with (length now) me f now e s.near);
      below = subst (λ (n : ℕ). ChildrenNear n children) (sym long) s.below;
    }
