-- A design, laid flat by its scopes: what contributes to which bits, and which valuations settle.
use Rattle.std.specs.Prelude.{ℕ, zero, suc, ◌+◌, ◌<◌, ◌≡◌, Bool, true, false, ◌&&◌, not, ◌==◌, List, [], ◌∷◌, ◌++◌, map, filter, Contains, Option, Some, None, slice_get, if◌then◌else◌}
use Rattle.std.specs.List.{list_any}
use mathlib.Core.Former.{Count}
use Rattle.fourvec.specs.declared.Bit.{Bit}
use Rattle.fourvec.specs.declared.Bit.TheVariants.{Unknown}
use Rattle.sv_tree.specs.declared.exprs.Expr.{Expr, Name', Concat', Row_of-Expr, end_of-Expr, more_of-Expr}
use Rattle.sv_tree.specs.declared.stmts.Lvalue.{Lvalue}
use Rattle.sv_tree.specs.declared.stmts.Block.{Block}
use Rattle.sv_tree.specs.declared.design.Way.{Way}
use Rattle.sv_tree.specs.declared.design.Way.TheVariants as way
use Rattle.sv_tree.specs.declared.word.Word.{Word}
use Rattle.sv_outside.specs.declared.refusal.Place.{Place}
use Rattle.sv_outside.specs.declared.text.Signal.{Signal}
use Rattle.sv_meaning.specs.Faults.{Faults, fault, or_then, is_clear, bad_target}
use Rattle.sv_meaning.specs.Layouts.{Layout, width, Scope, constant_scope, signal_is, of_wires, Origin, NamedSignal, find}
use Rattle.sv_meaning.specs.Meanings.{Meaning, fixed_faults, free_faults, assigned, named}
use Rattle.sv_meaning.specs.Values.{mean, steps}
use Rattle.lhs_alias.specs.declared.segs.WireBit.{WireBit}
use Rattle.lhs_alias.specs.Segs.{bit}
use Rattle.lhs_alias.specs.Pairs.{Linked}
use Rattle.settling.specs.Settling.{Store, value_at, Link, Contribution, first_bit, SettlesBy}
use Rattle.settling.specs.Overriding.{overridden}
use Rattle.sv_meaning.specs.Targets.{Target, target_of, target_faults, wide_target, assigned_faults, assigned_targets, widths, are_fixed, slots, bits_named}
use Rattle.sv_meaning.specs.Deeds.{Deed, deed}
use Rattle.sv_meaning.specs.Blocks.{has_bit, distinct, reads, Manner, comb, latch, clocked, no_manner, manner, block_value, block_faults}
use Rattle.sv_meaning.specs.declared.events.WireEdge.{WireEdge}

-- ---- what the scopes give

-- What contributes or joins, with the names that it sees.
pub data Work : Type 0 where
  assignment : Scope → Lvalue → Expr → Work
  block : Scope → Block → Work
  -- a connected port: its direction, wire and layout, and the actual in the scope above
  port : Scope → Way → ℕ → Layout → Expr → Work

pub record Design : Type 0 where
  pub wires : List Signal
  pub works : List Work
  -- the turns of its generate loops
  pub turns : ℕ

-- ---- ports, IEEE 1800-2017 section 23.3.3

-- a net or variable with selects, or a concatenation of these, the indices being read in a scope of their own
unfoldable mutual
  pub as_targets : Scope → Scope → Expr → List Target
  as_targets index at (Name' w s all) = target_of (find w.text at) (steps index all) ∷ []
  as_targets index at (Concat' p s all) = all_as_targets index at all
  as_targets index at x = target_of None [] ∷ []

  pub all_as_targets : {m : Count} → Scope → Scope → Row_of-Expr m → List Target
  all_as_targets index at end_of-Expr = []
  all_as_targets index at (more_of-Expr x all) = as_targets index at x ++ all_as_targets index at all

-- what stands against a part of an actual as a target, where the actual begins at a place: that it is none, or that one of its names is none
unfoldable mutual
  pub part_faults : Place → Scope → Scope → Expr → Faults
  part_faults start index at (Name' w s all) = target_faults fixed_faults start w (find w.text at) (steps index all)
  part_faults start index at (Concat' p s all) = or_then (all_part_faults start index at all) (wide_target p (all_as_targets index at all))
  part_faults start index at x = fault bad_target start

  pub all_part_faults : {m : Count} → Place → Scope → Scope → Row_of-Expr m → Faults
  all_part_faults start index at end_of-Expr = []
  all_part_faults start index at (more_of-Expr x all) = part_faults start index at x ++ all_part_faults start index at all

-- what stands against the whole
abbrev pub actual_faults : Scope → Scope → Expr → Faults
actual_faults index at x = part_faults (mean at x).start index at x

-- Where an index of an actual is read: that of an output or an inout is a constant expression, as in a continuous assignment; an input's
-- actual is an expression.
abbrev pub index_scope : Way → Scope → Scope
index_scope way.Input at = at
index_scope w at = constant_scope at

unfoldable pub are_present : {A : Type 0} → List (Option A) → Bool
are_present [] = true
are_present (None ∷ more) = false
are_present (Some x ∷ more) = are_present more

-- assignable, of the port's width, with all selects constant and in range
abbrev pub is_joined : Scope → Scope → Layout → Expr → Bool
is_joined index at x actual =
    is_clear (actual_faults index at actual)
    && (widths (as_targets index at actual) == width x && (are_fixed (as_targets index at actual) && are_present (slots (as_targets index at actual))))

-- the bits of a wire
unfoldable pub bits_of_wire : ℕ → ℕ → ℕ → List WireBit
bits_of_wire n k zero = []
bits_of_wire n k (suc w) = bit n k ∷ bits_of_wire n (suc k) w

unfoldable pub pairs : {A B : Type 0} → List A → List B → List (A × B)
pairs (x ∷ xs) (y ∷ ys) = (x, y) ∷ pairs xs ys
pairs xs ys = []

abbrev pub links_of_work : Work → List Link
links_of_work (port at w n x actual) =
    if is_joined (index_scope w at) at x actual then pairs (bits_of_wire n 0 (width x)) (bits_named (as_targets (index_scope w at) at actual)) else []
links_of_work w = []

unfoldable pub links_of : List Work → List Link
links_of [] = []
links_of (w ∷ more) = links_of_work w ++ links_of more

-- ---- contributions, section 10.3

-- the bits that are in range take theirs of a value
unfoldable pub driven : List (Option WireBit) → List Bit → List Contribution
driven (Some b ∷ more) (v ∷ rest) = (b, v) ∷ driven more rest
driven (None ∷ more) (v ∷ rest) = driven more rest
driven all rest = []

abbrev pub wire_slots : ℕ → Layout → List (Option WireBit)
wire_slots n x = map Some (bits_of_wire n 0 (width x))

abbrev pub assigned_to : List Target → Meaning → Store → List Contribution
assigned_to to m now = driven (slots to) (assigned m (reads now) (widths to))

-- a port's own name stands nowhere in the text
abbrev pub no_word : Word
no_word = record { text = []; place = record { file = 0; line = 0; column = 0 } }

abbrev pub port_gives : Way → Scope → ℕ → Layout → Expr → Store → List Contribution
port_gives way.Input at n x actual now = driven (wire_slots n x) (assigned (mean at actual) (reads now) (width x))
port_gives way.Output at n x actual now = assigned_to (as_targets (constant_scope at) at actual) (named no_word (Some (signal_is of_wires n x)) []) now
port_gives way.Inout at n x actual now = []

abbrev pub block_gives : Deed → Store → List Contribution
block_gives a end = map (λ b. (b, value_at end b)) (distinct a.targets)

abbrev pub gives : Work → Store → Store → List Contribution
gives (assignment at to x) prev now = assigned_to (assigned_targets at to) (mean at x) now
gives (block at b) prev now = block_gives (deed b.body at) (block_value (manner at b) (deed b.body at) prev now)
gives (port at w n x actual) prev now = if is_joined (index_scope w at) at x actual then [] else port_gives w at n x actual now

unfoldable pub contributions_of : List Work → Store → Store → List Contribution
contributions_of [] prev now = []
contributions_of (w ∷ more) prev now = gives w prev now ++ contributions_of more prev now

-- all contributions, in the order of the works
abbrev pub contributions : Design → Store → Store → List Contribution
contributions d prev now = contributions_of d.works prev now

-- ---- what stands against a design

-- of a port that is not joined; an inout is never assigned (this project's rule)
abbrev pub port_faults : Way → Scope → Expr → Faults
port_faults way.Input at actual = free_faults (mean at actual)
port_faults way.Output at actual = actual_faults (constant_scope at) at actual
port_faults way.Inout at actual = free_faults (mean at actual) ++ fault bad_target (mean at actual).start

-- where so many turns of loops were made before
abbrev pub work_faults : Work → ℕ → Faults
work_faults (assignment at to x) made = assigned_faults at to ++ free_faults (mean at x)
work_faults (block at b) made = block_faults at b made
work_faults (port at w n x actual) made = if is_joined (index_scope w at) at x actual then [] else port_faults w at actual

abbrev pub work_turns : Work → ℕ
work_turns (block at b) = (deed b.body at).turns
work_turns w = 0

unfoldable pub faults_from : ℕ → List Work → Faults
faults_from made [] = []
faults_from made (w ∷ more) = work_faults w made ++ faults_from (made + work_turns w) more

-- the turns of the generate loops come first
abbrev pub design_faults : Design → Faults
design_faults d = faults_from d.turns d.works

-- the stimulus of each input or inout of the top
unfoldable pub stimuli_from : ℕ → List Signal → Store → List Contribution
stimuli_from n [] stim = []
stimuli_from n (w ∷ more) stim =
    (if w.input then map (λ b. (b, value_at stim b)) (bits_of_wire n 0 w.width) else []) ++ stimuli_from (suc n) more stim

-- ---- what is set from outside

-- Some wires are set to vectors, whatever drives them.
pub record Overriding : Type 0 where
  pub wires : List ℕ
  pub values : Store

abbrev pub no_overriding : Overriding
no_overriding = record { wires = []; values = λ n k. Unknown }

abbrev pub has_wire : List ℕ → ℕ → Bool
has_wire all n = list_any (λ k. k == n) all

-- the vector of each of them
unfoldable pub overriding_from : ℕ → List Signal → Overriding → List Contribution
overriding_from n [] o = []
overriding_from n (w ∷ more) o =
    (if has_wire o.wires n then map (λ b. (b, value_at o.values b)) (bits_of_wire n 0 w.width) else []) ++ overriding_from (suc n) more o

-- what comes from outside: an overridden wire has what it is set to, and any other its stimulus
abbrev pub outside : Store → Overriding → Store
outside stim o n k = if has_wire o.wires n then o.values n k else stim n k

-- ---- settlings

-- What is given in each valuation: the contributions and the stimuli, and to a class with a bit of an overridden wire what it is set to
-- alone.
abbrev pub given_in : Design → Store → Overriding → Store → Store → List Contribution
given_in d stim o prev now = overridden (links_of d.works) (overriding_from 0 d.wires o) (contributions d prev now ++ stimuli_from 0 d.wires stim)

-- A valuation settles over the previous one, a stimulus and an overriding: a test of a given valuation.
abbrev pub Settles : Design → Store → Overriding → Store → Store → Type 0
Settles d stim o prev now = SettlesBy (links_of d.works) (given_in d stim o prev now) now

-- ---- what feeds what

-- the number of a wire before others, and of no other signal
abbrev pub wire_before : Origin → ℕ → List ℕ → List ℕ
wire_before of_wires n all = n ∷ all
wire_before o n all = all

unfoldable pub wires_named : List NamedSignal → List ℕ
wires_named [] = []
wires_named (s ∷ more) = wire_before s.owner s.number (wires_named more)

abbrev pub width_of_wire : Option Signal → ℕ
width_of_wire None = 0
width_of_wire (Some w) = w.width

unfoldable pub has_all : List WireBit → List WireBit → Bool
has_all [] all = true
has_all (b ∷ more) all = has_bit b all && has_all more all

-- some bit of the wire is no target
abbrev pub is_read_now : List Signal → List WireBit → ℕ → Bool
is_read_now wires all n = not (has_all (bits_of_wire n 0 (width_of_wire (slice_get wires n))) all)

-- the wires that it names in the present
abbrev pub block_names : List Signal → Manner → Deed → List ℕ
block_names wires comb a = filter (is_read_now wires a.targets) (wires_named a.names)
block_names wires (latch m) a = filter (is_read_now wires a.targets) (wires_named a.names)
block_names wires (clocked edges) a = map (λ x. x.wire) edges
block_names wires no_manner a = []

abbrev pub port_names : Way → Scope → ℕ → Expr → List ℕ
port_names way.Output at n actual = n ∷ []
port_names w at n actual = wires_named (mean at actual).names

abbrev pub names_now : List Signal → Work → List ℕ
names_now wires (assignment at to x) = wires_named (mean at x).names
names_now wires (block at b) = block_names wires (manner at b) (deed b.body at)
names_now wires (port at w n x actual) = if is_joined (index_scope w at) at x actual then [] else port_names w at n actual

-- the bits that it contributes to
abbrev pub port_reaches : Way → Scope → ℕ → Layout → Expr → List WireBit
port_reaches way.Input at n x actual = bits_of_wire n 0 (width x)
port_reaches way.Output at n x actual = bits_named (as_targets (constant_scope at) at actual)
port_reaches way.Inout at n x actual = []

abbrev pub reaches : Work → List WireBit
reaches (assignment at to x) = bits_named (assigned_targets at to)
reaches (block at b) = distinct (deed b.body at).targets
reaches (port at w n x actual) = if is_joined (index_scope w at) at x actual then [] else port_reaches w at n x actual

abbrev pub width_at : Design → ℕ → ℕ
width_at d a = width_of_wire (slice_get d.wires a)

-- A first wire has the first bit of some class of joined bits.
pub record IsFirst (d : Design) (a : ℕ) : Type 0 where
  pub at : ℕ
  pub in_wire : at < width_at d a
  pub is_first : first_bit (links_of d.works) (bit a at) ≡ bit a at

-- the bit is joined to a bit of the wire
pub record Touches (d : Design) (b : WireBit) (a : ℕ) : Type 0 where
  pub place : ℕ
  pub in_wire : place < width_at d a
  pub joined : Linked (links_of d.works) b (bit a place)

-- One first wire feeds another: some work contributes to a bit that is joined to a bit of the second, and names, in the present, a wire
-- with a bit that is joined to a bit of the first.
pub record Feeds (d : Design) (a b : ℕ) : Type 0 where
  pub from_first : IsFirst d a
  pub to_first : IsFirst d b
  pub work : Work
  pub is_there : Contains d.works work
  pub reached : WireBit
  pub contributes : Contains (reaches work) reached
  pub into : Touches d reached b
  pub name : ℕ
  pub named : Contains (names_now d.wires work) name
  pub place : ℕ
  pub in_wire : place < width_at d name
  pub from : Touches d (bit name place) a

-- a chain of feeding
pub data Reaches (d : Design) : ℕ → ℕ → Type 0 where
  once : {a b : ℕ} → Feeds d a b → Reaches d a b
  further : {a b c : ℕ} → Feeds d a b → Reaches d b c → Reaches d a c
