-- Affine forms over GF(2) (the exclusive or of nodes), and what a table of nodes says that are known to be such forms.
use Rattle.std.specs.Prelude.{◌≡◌, ℕ, ◌<◌, Bool, true, false, not, List, [], ◌∷◌, ◌++◌, ◌⊎◌, ◌≤◌, length, slice_index_or}
use Rattle.std.specs.List.{All}

-- whether two values differ (exclusive or)
abbrev pub differ : Bool → Bool → Bool
differ true b = not b
differ false b = b

-- the exclusive or of the values of nodes
unfoldable pub sum_of : (ℕ → Bool) → List ℕ → Bool
sum_of v [] = false
sum_of v (k ∷ nodes) = differ (v k) (sum_of v nodes)

-- the value of a form, which is odd where it is the negation
abbrev pub value_of : (ℕ → Bool) → Bool → List ℕ → Bool
value_of v odd nodes = differ odd (sum_of v nodes)

-- a node and a form that it is known to be
pub record Entry : Type 0 where
  pub node : ℕ
  pub odd : Bool
  pub nodes : List ℕ

abbrev pub no_entry : Entry
no_entry = record { node = 0; odd = false; nodes = [] }

abbrev pub entry_at : List Entry → ℕ → Entry
entry_at entries k = slice_index_or entries k no_entry

-- each node has the value of its form, where nodes have these values
abbrev pub AreForms : (ℕ → Bool) → List Entry → Type 0
AreForms v entries = All (λ e. v e.node ≡ value_of v e.odd e.nodes) entries

-- nothing was put to the list but this entry
abbrev pub IsPut : List Entry → Entry → List Entry → Type 0
IsPut old entry new = (new ≡ old) ⊎ (new ≡ old ++ entry ∷ [])

-- each entry of an index is one of the list
pub record AreIndexed (entries : List Entry) (by_node by_form : List ℕ) : Type 0 where
  pub node : length by_node ≤ length entries
  pub form : length by_form ≤ length entries
