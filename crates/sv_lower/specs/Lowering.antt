-- What names read, and which nodes stand for typed expressions. Sections are those of IEEE 1800-2017.
use Rattle.std.specs.Prelude.{◌≡◌, ℕ, ◌<◌, ◌≤◌, ◌==◌, if◌then◌else◌, Bool, true, false, ◌&&◌, List, [], ◌∷◌, length, slice_get, slice_index_or, Option, Some, None, IsTrue, Contains}
use mathlib.Core.Former.{Count}
use Rattle.fourvec.specs.declared.Bit.{Bit}
use Rattle.fourvec.specs.declared.Bit.TheVariants.{Unknown}
use Rattle.svex_shape.specs.declared.shape.VarName.{VarName}
use Rattle.svex_shape.specs.declared.shape.VarName.TheVariants.{Now, Prev, Chosen, Sampled}
use Rattle.svex_shape.specs.declared.shape.Shape.{Shape}
use Rattle.svex_shape.specs.Shapes.{width_at}
use Rattle.svex_shape.specs.Values.{each_variable}
use Rattle.svex_arena.specs.Substs.{entry_at, given_or}
use Rattle.sv_meaning.specs.Layouts.{Read, Scope, Origin, of_wires, of_choice, of_samples, NamedSignal, Declared}
use Rattle.sv_meaning.specs.Meanings.{bits_at}
use Rattle.sv_meaning.specs.Blocks.{is_event}
use Rattle.sv_typed.specs.declared.tree.Typed.{Typed}
use Rattle.sv_typed.specs.declared.tree.TypedForm.{TypedForm, Literal, Named', Turned', Reduced', Computed', Moved', Compared', Combined', Chosen', Power', Concat', Repeat', Standing', Fitted', Row_of-Typed, end_of-Typed, more_of-Typed, Row_of-Pick, end_of-Pick, more_of-Pick}
use Rattle.sv_typed.specs.declared.tree.Pick.{Pick}
use Rattle.sv_typed.specs.declared.tree.PickPlace.{PickPlace, Fixed, Moving'}
use Rattle.sv_typed.specs.declared.tree.Root.{Root}
use Rattle.sv_typed.specs.declared.tree.Root.TheVariants.{Number, Signal}
use Rattle.sv_typed.specs.Typed.{worth, together, picked, pick_place, root_bits, root_width, width_together, picked_width, origin_is, IsSound}
use Rattle.sv_lower.specs.declared.look.Look.{Look}
use Rattle.sv_lower.specs.declared.look.Look.TheVariants.{Present, Previous, Clocked, Mixed, Placed}
use Rattle.sv_lower.specs.Nodes.{bits_at_node}

-- ---- what names read

-- the node at a place
abbrev pub node_in : List ℕ → Option ℕ → Option ℕ
node_in nodes None = None
node_in nodes (Some i) = slice_get nodes i

-- the node under the number of a wire
abbrev pub node_of : Look → ℕ → Option ℕ
node_of (Mixed nodes) n = entry_at nodes.now n
node_of (Placed places nodes) n = node_in nodes.now (entry_at places.now n)
node_of look n = None

-- each node that a wire may read is there
pub record IsIn (look : Look) (shapes : List Shape) : Type 0 where
  pub there : (n node : ℕ) → node_of look n ≡ Some node → node < length shapes

-- the variable that a wire reads where it has no node
abbrev pub wire_variable : Look → ℕ → VarName
wire_variable Previous n = Prev n
wire_variable (Clocked edges) n = if is_event edges.now n then Now n else Prev n
wire_variable look n = Now n

-- The bits of names, where variables have such bits. A wire with a node reads its bits, X past the last.
unfoldable pub look_read : Look → List Shape → (VarName → ℕ → Bit) → Read
look_read look shapes bits of_wires n k =
    given_or (λ node. slice_index_or (bits_at_node bits shapes node) k Unknown) (bits (wire_variable look n) k) (node_of look n)
look_read look shapes bits of_choice n k = bits (Chosen n) k
look_read look shapes bits of_samples n k = bits (Sampled n) k

-- a test of each variable that a signal of a width reads
unfoldable pub look_test : Look → List Shape → (VarName → ℕ → Bool) → Origin → ℕ → ℕ → Bool
look_test look shapes p of_wires n w = given_or (each_variable p shapes) (p (wire_variable look n) w) (node_of look n)
look_test look shapes p of_choice n w = p (Chosen n) w
look_test look shapes p of_samples n w = p (Sampled n) w

-- A test of variables holds of what each of these signals reads in the present.
abbrev pub HoldsOfNames : List NamedSignal → (VarName → ℕ → Bool) → Type 0
HoldsOfNames names p = (s : NamedSignal) → Contains names s → IsTrue (look_test Present [] p s.owner s.number s.width)

-- A test of variables holds of what each signal that a scope declares reads in the present.
abbrev pub HoldsOfDeclared : Scope → (VarName → ℕ → Bool) → Type 0
HoldsOfDeclared at p = (s : NamedSignal) → Declared at s → IsTrue (look_test Present [] p s.owner s.number s.width)

-- ---- a test of each signal that is named, with its width

abbrev pub each_root : (Origin → ℕ → ℕ → Bool) → Root → Bool
each_root q (Number v) = true
each_root q (Signal o n w) = q (origin_is o) n w

unfoldable mutual
  pub each_form : (Origin → ℕ → ℕ → Bool) → TypedForm → Bool
  each_form q (Literal l) = true
  each_form q (Named' root k picks) = each_root q root && each_pick_row q picks
  each_form q (Turned' op t (more_of-Typed u p c x end_of-Typed)) = each_form q x
  each_form q (Reduced' op t (more_of-Typed u p c x end_of-Typed)) = each_form q x
  each_form q (Computed' op t (more_of-Typed u p c x end_of-Typed) r (more_of-Typed v i d y end_of-Typed)) = each_form q x && each_form q y
  each_form q (Moved' op t (more_of-Typed u p c x end_of-Typed) r (more_of-Typed v i d y end_of-Typed)) = each_form q x && each_form q y
  each_form q (Compared' op t (more_of-Typed u p c x end_of-Typed) r (more_of-Typed v i d y end_of-Typed)) = each_form q x && each_form q y
  each_form q (Combined' op t (more_of-Typed u p c x end_of-Typed) r (more_of-Typed v i d y end_of-Typed)) = each_form q x && each_form q y
  each_form q (Chosen' k (more_of-Typed b o e z end_of-Typed) t (more_of-Typed u p c x end_of-Typed) r (more_of-Typed v i d y end_of-Typed)) =
      each_form q z && (each_form q x && each_form q y)
  each_form q (Power' t (more_of-Typed u p c x end_of-Typed) e) = each_form q x
  each_form q (Concat' k all) = each_row q all
  each_form q (Repeat' count k all) = each_row q all
  each_form q (Standing' t (more_of-Typed u p c x end_of-Typed)) = each_form q x
  each_form q (Fitted' t (more_of-Typed u p c x end_of-Typed)) = each_form q x

  pub each_row : {k : Count} → (Origin → ℕ → ℕ → Bool) → Row_of-Typed k → Bool
  each_row q end_of-Typed = true
  each_row q (more_of-Typed u p c x all) = each_form q x && each_row q all

  pub each_pick_row : {k : Count} → (Origin → ℕ → ℕ → Bool) → Row_of-Pick k → Bool
  each_pick_row q end_of-Pick = true
  each_pick_row q (more_of-Pick w c place all) = each_place q place && each_pick_row q all

  pub each_place : (Origin → ℕ → ℕ → Bool) → PickPlace → Bool
  each_place q (Fixed i) = true
  each_place q (Moving' t (more_of-Typed u p c x end_of-Typed) spot) = each_form q x

abbrev pub each_signal : (Origin → ℕ → ℕ → Bool) → Typed → Bool
each_signal q t = each_form q t.form

unfoldable pub each_of : (Origin → ℕ → ℕ → Bool) → List Typed → Bool
each_of q [] = true
each_of q (a ∷ more) = each_signal q a && each_of q more

unfoldable pub each_of_picks : (Origin → ℕ → ℕ → Bool) → List Pick → Bool
each_of_picks q [] = true
each_of_picks q (p ∷ more) = each_place q p.place && each_of_picks q more

-- no signal
abbrev pub no_signal : Origin → ℕ → ℕ → Bool
no_signal o n w = false

-- ---- nodes of expressions

-- a sound expression in a context of so many bits
pub record Fits (t : Typed) (w : ℕ) : Type 0 where
  pub sound : IsSound t
  pub wide : t.width ≤ w
  pub most : w ≤ 128

-- A node has the bits of an expression in a context of a width and sign, where names read so in the older arena, and mentions no
-- variable but what these names read.
pub record Lowers (look : Look) (old new : List Shape) (t : Typed) (w : ℕ) (s : Bool) (node : ℕ) : Type 0 where
  pub within : node < length new
  pub width : width_at new node ≡ w
  pub value : (bits : VarName → ℕ → Bit) → bits_at_node bits new node ≡ worth t (look_read look old bits) w s
  pub mentions : (p : VarName → ℕ → Bool) → IsTrue (each_signal (look_test look old p) t) → IsTrue (each_variable p new node)

-- the same of a constant or a signal
pub record LowersRoot (look : Look) (old new : List Shape) (root : Root) (node : ℕ) : Type 0 where
  pub within : node < length new
  pub width : width_at new node ≡ root_width root
  pub value : (bits : VarName → ℕ → Bit) → bits_at_node bits new node ≡ root_bits root (look_read look old bits)
  pub mentions : (p : VarName → ℕ → Bool) → IsTrue (each_root (look_test look old p) root) → IsTrue (each_variable p new node)

-- the same of parts side by side
pub record LowersParts (look : Look) (old new : List Shape) (all : List Typed) (node : ℕ) : Type 0 where
  pub within : node < length new
  pub width : width_at new node ≡ width_together all
  pub value : (bits : VarName → ℕ → Bit) → bits_at_node bits new node ≡ together all (look_read look old bits)
  pub mentions : (p : VarName → ℕ → Bool) → IsTrue (each_of (look_test look old p) all) → IsTrue (each_variable p new node)

-- the same of a part of a node
pub record LowersPick (look : Look) (old new : List Shape) (pick : Pick) (of node : ℕ) : Type 0 where
  pub within : node < length new
  pub width : width_at new node ≡ pick.width
  pub value : (bits : VarName → ℕ → Bit) → bits_at_node bits new node ≡ bits_at (pick_place pick (look_read look old bits)) pick.width (bits_at_node bits old of)
  pub mentions : (p : VarName → ℕ → Bool) → IsTrue (each_variable p old of) → IsTrue (each_place (look_test look old p) pick.place) → IsTrue (each_variable p new node)

-- the same of a chain of selects
pub record LowersPicks (look : Look) (old new : List Shape) (picks : List Pick) (of node : ℕ) : Type 0 where
  pub within : node < length new
  pub width : width_at new node ≡ picked_width picks (width_at old of)
  pub value : (bits : VarName → ℕ → Bit) → bits_at_node bits new node ≡ picked (look_read look old bits) picks (bits_at_node bits old of)
  pub mentions : (p : VarName → ℕ → Bool) → IsTrue (each_variable p old of) → IsTrue (each_of_picks (look_test look old p) picks) → IsTrue (each_variable p new node)
