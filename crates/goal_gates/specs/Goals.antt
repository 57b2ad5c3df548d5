-- Goals whose hypotheses and claims are nodes of one bit, over the variables of a table and its samples.
use Rattle.std.specs.Prelude.{◌≡◌, ℕ, Bool, true, false, List, [], ◌∷◌, map}
use Rattle.std.specs.List.{All}
use Rattle.fourvec.specs.declared.Bit.TheVariants.{One}
use Rattle.svex_shape.specs.declared.shape.Shape.{Shape}
use Rattle.svex_shape.specs.declared.shape.VarName.{VarName}
use Rattle.svex_shape.specs.declared.shape.VarName.TheVariants.{Now, Prev, Stim, Chosen, Sampled}
use Rattle.svex_shape.specs.Values.{Rows, Vector, read, value_at}
use Rattle.svtv_table.specs.Stimuli.{IsChoice}
use Rattle.svtv_table.specs.declared.bound.VarDecl.{VarDecl}

-- The nodes of a graph, the variables of a table, and the nodes of its samples, of hypotheses and of claims.
pub record Goal : Type 0 where
  pub shapes : List Shape
  pub vars : List VarDecl
  pub samples : List ℕ
  pub hyps : List ℕ
  pub claims : List ℕ

abbrev pub goal_of : List Shape → List VarDecl → List ℕ → List ℕ → List ℕ → Goal
goal_of shapes vars samples hyps claims = record { shapes = shapes; vars = vars; samples = samples; hyps = hyps; claims = claims }

-- ---- values under a choice

-- the variables have the vectors of a choice, and the samples these values
abbrev pub rows_of : List Vector → List Vector → Rows
rows_of choice values = record { present = []; previous = []; stim = []; chosen = choice; sampled = values }

-- the values of the samples
abbrev pub sampled_under : Goal → List Vector → List Vector
sampled_under g choice = map (value_at (read (rows_of choice [])) g.shapes) g.samples

-- the value of a node, in which the variable of a sample has the sample's value
abbrev pub value_under : Goal → List Vector → ℕ → Vector
value_under g choice node = value_at (read (rows_of choice (sampled_under g choice))) g.shapes node

-- the node has the value 1
abbrev pub IsOne : Goal → List Vector → ℕ → Type 0
IsOne g choice node = value_under g choice node ≡ One ∷ []

-- ---- the two questions

-- each variable has a vector of 0 and 1, under which each hypothesis is 1
pub record IsMeeting (g : Goal) (choice : List Vector) : Type 0 where
  pub is : IsChoice g.vars choice
  pub meets : All (IsOne g choice) g.hyps

-- the choice meets the hypotheses, and some claim has another value than 1
pub record IsBreaking (g : Goal) (choice : List Vector) : Type 0 where
  pub meets : IsMeeting g choice
  pub breaks : All (IsOne g choice) g.claims → ⊥

-- whether some choice that meets the hypotheses breaks the claims; and whether some choice meets them
pub data Question : Type 0 where
  some_breaks : Question
  some_meets : Question

-- the choice answers the question
abbrev pub IsAnswer : Goal → Question → List Vector → Type 0
IsAnswer g some_breaks choice = IsBreaking g choice
IsAnswer g some_meets choice = IsMeeting g choice

-- ---- what is asked of the nodes

-- a variable of a table
abbrev pub is_chosen : VarName → ℕ → Bool
is_chosen (Now k) width = false
is_chosen (Prev k) width = false
is_chosen (Stim k) width = false
is_chosen (Chosen k) width = true
is_chosen (Sampled k) width = false
