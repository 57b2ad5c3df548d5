-- What is printed of a flat design: which of its nodes, and in which order.
use Rattle.std.specs.Prelude.{ℕ, ◌+◌, ◌==◌, ◌||◌, Bool, false, List, [], ◌∷◌, ◌++◌, map, if◌then◌else◌}
use Rattle.svex_shape.specs.declared.shape.Shape.{Shape}
use Rattle.svex_shape.specs.declared.shape.Shape.TheVariants.{Const, Var, Unary, Binary, Cond, Pick, Slice, Zext, Sext, DynSlice, DynPut}
use Rattle.svex_shape.specs.Shapes.{shape_at, at_node}
use Rattle.svex_arena.specs.Substs.{renamed}
use Rattle.driver_resolve.specs.declared.driver.Driver.{Driver}
use Rattle.flat_net.specs.declared.flat.Flat.{Flat}
use Rattle.flat_text.specs.Lines.{Text, lines_of, text_of}

-- the children of a shape, left before right
abbrev pub children_of : Shape → List ℕ
children_of (Const v) = []
children_of (Var name w) = []
children_of (Unary op a) = a ∷ []
children_of (Binary op a b) = a ∷ b ∷ []
children_of (Cond c a b) = c ∷ a ∷ b ∷ []
children_of (Pick c a b) = c ∷ a ∷ b ∷ []
children_of (Slice a lo w) = a ∷ []
children_of (Zext a w) = a ∷ []
children_of (Sext a w) = a ∷ []
children_of (DynSlice a at spot) = a ∷ at ∷ []
children_of (DynPut a at spot put) = a ∷ at ∷ put ∷ []

-- the number is in the list
unfoldable pub has : ℕ → List ℕ → Bool
has k [] = false
has k (j ∷ more) = (k == j) || has k more

-- a node behind the nodes so far: nothing more where it stands among them, else what it is made of, and then itself
abbrev pub put : (ℕ → List ℕ → List ℕ) → ℕ → List ℕ → List ℕ
put below k done = if has k done then done else below k done ++ (k ∷ [])

-- nodes, one after another
unfoldable pub puts : (ℕ → List ℕ → List ℕ) → List ℕ → List ℕ → List ℕ
puts below [] done = done
puts below (k ∷ more) done = puts below more (put below k done)

-- the children of a shape
abbrev pub children_put : (ℕ → List ℕ → List ℕ) → Shape → List ℕ → List ℕ
children_put below shape = puts below (children_of shape)

-- what a node is made of, behind the nodes so far
abbrev pub below_node : List Shape → ℕ → List ℕ → List ℕ
below_node shapes k = at_node children_put (λ done. done) shapes k

-- the nodes that a driver reaches, each once, drivers in order, children before the node and left before right
abbrev pub order_of : List Shape → List Driver → List ℕ
order_of shapes drivers = puts (below_node shapes) (map (λ d. d.value) drivers) []

-- the place of a number in a list
unfoldable pub place_in : List ℕ → ℕ → ℕ
place_in [] k = 0
place_in (j ∷ more) k = if k == j then 0 else 1 + place_in more k

-- the design with these of its nodes alone, numbered in this order
abbrev pub shown_by : Flat → List ℕ → Flat
shown_by flat order = record {
  arena = map (λ k. renamed (place_in order) (shape_at flat.arena k)) order;
  wires = flat.wires;
  drivers = map (λ (d : Driver). record { target = d.target; value = place_in order d.value }) flat.drivers;
  joins = flat.joins;
}

-- the text of the design with the nodes that a driver reaches alone
abbrev pub printed : Flat → Text
printed flat = text_of (lines_of (shown_by flat (order_of flat.arena flat.drivers)))
