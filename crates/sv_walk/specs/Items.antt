-- The walks through items, as the program takes them.
use Rattle.std.specs.Prelude.{◌≡◌, ℕ, Bool, List, [], ◌∷◌, length, Option, Some, None, Result, Ok, Err}
use Rattle.fourvec.specs.declared.Bit.{Bit}
use Rattle.sv_outside.specs.declared.refusal.Place.{Place}
use Rattle.sv_outside.specs.declared.refusal.TextErr.{TextErr}
use Rattle.sv_tree.specs.declared.word.Word.{Word}
use Rattle.sv_tree.specs.declared.exprs.Expr.{Expr}
use Rattle.sv_tree.specs.declared.stmts.Step.{Step}
use Rattle.sv_tree.specs.declared.design.Item.{Item}
use Rattle.sv_tree.specs.declared.design.Item.TheVariants as it
use Rattle.sv_tree.specs.declared.design.Gen.{Gen}
use Rattle.sv_meaning.specs.Faults.{Judged, ◌>>=◌}
use Rattle.sv_meaning.specs.Layouts.{Name}
use Rattle.sv_meaning.specs.Deeds.{index_entry}
use Rattle.sv_loops.specs.Answers.{Answers}
use Rattle.sv_hierarchy.specs.Scopes as m
use Rattle.sv_walk.specs.declared.walker.Walker.{Walker}
use Rattle.sv_walk.specs.declared.walker.Open.{Open}
use Rattle.sv_levels.specs.declared.loops.Turns.{Turns}
use Rattle.sv_walk.specs.Walks.{state_of}

-- items in order, as code lists them
abbrev pub items_walk : List Item → m.Walk
items_walk all = m.walk_all (λ x. (m.act x).item) all

-- an item that holds no items
pub record IsPlain (item : Item) : Type 0 where
  pub no_region : (all : List Item) → item ≡ it.Generate all → ⊥
  pub no_loop : (p : Place) (header : Bool) (v : Word) (start test : Expr) (next : Step) (body : Gen) → item ≡ it.For p header v start test next body → ⊥
  pub no_choice : (p : Place) (test : Expr) (body : Gen) (other : Option Gen) → item ≡ it.If p test body other → ⊥

-- the other branch of a conditional, if it has one
abbrev pub else_of : Option Gen → ℕ → m.Walk
else_of None n = m.stay
else_of (Some x) n = (m.under x).branch n

-- a name is declared, and the block of that name is begun
abbrev pub opened_block : Option Word → Place → ℕ → m.State → Judged m.State
opened_block label p n st = m.declare_at (m.block_place label p) (m.block_name label n) st >>= λ s. Ok (m.inner (m.block_name label n) [] s)

-- A block was begun. In the scope around it only its name is new.
pub record IsBegun (label : Option Word) (p : Place) (n : ℕ) (w : Walker) (o : Open) (v : Walker) (q : Open) (block : Open) : Type 0 where
  pub declared : m.declare_at (m.block_place label p) (m.block_name label n) (state_of w o) ≡ Ok (state_of w q)
  pub begun : state_of v block ≡ m.inner (m.block_name label n) [] (state_of w q)

abbrev pub Begins : Option Word → Place → ℕ → Walker → Open → Walker → Open → Result Open TextErr → Type 0
Begins label p n w o v q (Ok block) = IsBegun label p n w o v q block
Begins label p n w o v q (Err e) = Answers (λ (x : m.State) (y : m.State). x ≡ y) (opened_block label p n (state_of w o)) (Err e)

-- a turn is counted, and its block is begun
abbrev pub opened_turn : Place → Name → Name → List Bit → m.State → Judged m.State
opened_turn p g v bits st = m.count_turn p st >>= λ s. Ok (m.inner (m.turn_name g bits) (index_entry v bits ∷ []) s)

-- the name of a loop with such values is declared, if there are some
abbrev pub declare_turns : Place → Name → List (List Bit) → m.Walk
declare_turns p n [] st = Ok st
declare_turns p n all st = m.declare_at p n st

-- what stands before the turns of a loop with such values
abbrev pub before_turns : Gen → List (List Bit) → m.Walk
before_turns body [] st = m.next_construct st
before_turns body all st = m.next_construct st >>= λ s. m.declare_at (m.block_place (m.under body).label (m.under body).start) (m.block_name (m.under body).label s.constructs) s

-- the construct is counted, and its name is declared where there are turns
pub record IsLoop (body : Gen) (values : List (List Bit)) (w : Walker) (o q : Open) (turns : Turns) : Type 0 where
  pub before : before_turns body values (state_of w o) ≡ Ok (state_of w q)
  pub values_are : turns.values ≡ values
  pub name : turns.name ≡ m.block_name (m.under body).label (length q.constructs.items)

abbrev pub BeginsLoop : Gen → List (List Bit) → Walker → Open → Open → Result Turns TextErr → Type 0
BeginsLoop body values w o q (Ok turns) = IsLoop body values w o q turns
BeginsLoop body values w o q (Err e) = Answers (λ (x : m.State) (y : m.State). x ≡ y) (before_turns body values (state_of w o)) (Err e)

-- what a loop is walked as: its turns of such a name, one after the other
abbrev pub OpensLoop : Item → Place → Word → Gen → Walker → Open → Open → Result Turns TextErr → Type 0
OpensLoop item p v body w o q (Ok turns) =
    ((m.act item).item (state_of w o) ≡ m.walk_all (m.turn_walk p (m.block_name (m.under body).label (length q.constructs.items)) v.text (m.under body).body) turns.values (state_of w q)) × (turns.name ≡ m.block_name (m.under body).label (length q.constructs.items))
OpensLoop item p v body w o q (Err e) = Answers (λ (x : m.State) (y : m.State). x ≡ y) ((m.act item).item (state_of w o)) (Err e)
