-- Blocks and items of modules on lists of tokens.
use Rattle.std.specs.Prelude.{ℕ, zero, suc, List, ◌∷◌, Option, Some}
use Rattle.sv_outside.specs.declared.refusal.Place.{Place}
use Rattle.sv_outside.specs.declared.text.Token.{Token}
use Rattle.sv_tree.specs.declared.word.Word.{Word}
use Rattle.sv_tree.specs.declared.exprs.Expr.{Expr}
use Rattle.sv_tree.specs.declared.forms.TypeTree.{TypeTree}
use Rattle.sv_tree.specs.declared.stmts.Lvalue.{Lvalue}
use Rattle.sv_tree.specs.declared.stmts.Edge.{Edge}
use Rattle.sv_tree.specs.declared.stmts.Step.{Step}
use Rattle.sv_tree.specs.declared.stmts.Event.{Event}
use Rattle.sv_tree.specs.declared.stmts.EventMark.{EventMark}
use Rattle.sv_tree.specs.declared.stmts.EventMark.TheVariants as event_mark_of
use Rattle.sv_tree.specs.declared.stmts.NextEvent.{NextEvent}
use Rattle.sv_tree.specs.declared.stmts.Events.{Events}
use Rattle.sv_tree.specs.declared.stmts.BlockKind.{BlockKind}
use Rattle.sv_tree.specs.declared.stmts.BlockKind.TheVariants as kind_of
use Rattle.sv_tree.specs.declared.stmts.Block.{Block}
use Rattle.sv_tree.specs.declared.stmts.Stmt.{Stmt}
use Rattle.sv_tree.specs.declared.design.AssignPair.{AssignPair}
use Rattle.sv_tree.specs.declared.design.NetWord.{NetWord}
use Rattle.sv_tree.specs.declared.design.Item.{Item}
use Rattle.sv_tree.specs.declared.design.Item.TheVariants as it
use Rattle.sv_tree.specs.declared.design.Gen.{Gen}
use Rattle.sv_tree.specs.declared.design.Gen.TheVariants as ge
use Rattle.sv_cursor.specs.declared.sort.Keyword.TheVariants as key
use Rattle.sv_cursor.specs.declared.sort.Mark.TheVariants as m
use Rattle.sv_cursor.specs.Parsers.{Parser, ◌<$>◌, ◌▷◌, ◌⊗◌, refuse, too_deep, token, by_told, maybe_read, many}
use Rattle.sv_cursor.specs.Tests.{mark_test, keyword_test, id_test, mark, keyword}
use Rattle.sv_word_parser.specs.declared.openers.AlwaysWord.{AlwaysWord}
use Rattle.sv_word_parser.specs.declared.openers.AlwaysWord.TheVariants as always_word
use Rattle.sv_word_parser.specs.declared.openers.ItemOpener.{ItemOpener}
use Rattle.sv_word_parser.specs.declared.openers.ItemOpener.TheVariants as item_by
use Rattle.sv_item_parser.specs.declared.tails.AlwaysTail.{AlwaysTail}
use Rattle.sv_item_parser.specs.declared.tails.AlwaysTail.TheVariants as always_tail_of
use Rattle.sv_word_parser.specs.Combined.{◌▸◌, ◌◂◌, word_test, sort_test, listed, kept}
use Rattle.sv_word_parser.specs.Words.{net_by_word, edge_by_word, event_mark_by_sort, always_by_word, item_by_sort}
use Rattle.sv_type_parser.specs.Lists.{while_told}
use Rattle.sv_type_parser.specs.Forms.{expression, given, names, form, typedef}
use Rattle.sv_type_parser.specs.Params.{TypedName, typed_name, param}
use Rattle.sv_stmt_parser.specs.Targets.{lvalue}
use Rattle.sv_stmt_parser.specs.Loops.{Turns, head_turns}
use Rattle.sv_stmt_parser.specs.Stmts.{is_given, stmt}
use Rattle.sv_stmt_parser.specs.Within as within
use Rattle.sv_instance_parser.specs.Instances.{more_names, named_item}

-- ---- blocks

abbrev pub made_event : Edge × Word → Event
made_event c = record { edge = c.0; name = c.1 }

-- an edge and a name
unfoldable pub event : Parser Event
event = made_event <$> (token (word_test edge_by_word) ⊗ token id_test)

abbrev pub made_next_event : EventMark × Event → NextEvent
made_next_event c = record { mark = c.0; event = c.1 }

abbrev pub event_mark_for : EventMark → Parser EventMark
event_mark_for event_mark_of.Or = (λ _. event_mark_of.Or) <$> keyword key.Or
event_mark_for event_mark_of.Comma = (λ _. event_mark_of.Comma) <$> mark m.Comma

-- what parts an event from the one before
unfoldable pub event_mark : Parser EventMark
event_mark = by_told (sort_test event_mark_by_sort) event_mark_for refuse

unfoldable pub next_event : Parser NextEvent
next_event = made_next_event <$> (event_mark ⊗ event)

abbrev pub made_events : Event × List NextEvent → Events
made_events c = record { first = c.0; more = c.1 }

-- the events behind the first
abbrev pub next_events : Parser (List NextEvent)
next_events = while_told (sort_test event_mark_by_sort) next_event

-- one or more events, and the `)` behind them
unfoldable pub events_inside : Parser Events
events_inside = made_events <$> (event ⊗ (next_events ◂ mark m.RightParen))

unfoldable pub events : Parser Events
events = mark m.At ▸ (mark m.LeftParen ▸ events_inside)

unfoldable pub star_inside : Parser AlwaysTail
star_inside = (λ _. always_tail_of.StarParen) <$> (mark m.Star ◂ mark m.RightParen)

-- behind the `(` of an `always`
unfoldable pub always_inside : Parser AlwaysTail
always_inside = by_told (mark_test m.Star) (λ _. star_inside) (always_tail_of.Events <$> events_inside)

unfoldable pub star : Parser AlwaysTail
star = (λ _. always_tail_of.Star) <$> mark m.Star

-- behind the `@` of an `always`
unfoldable pub always_tail : Parser AlwaysTail
always_tail = by_told (mark_test m.Star) (λ _. star) (kept <$> (mark m.LeftParen ▸ always_inside))

abbrev pub made_always_kind : AlwaysTail → BlockKind
made_always_kind always_tail_of.Star = kind_of.Star
made_always_kind always_tail_of.StarParen = kind_of.StarParen
made_always_kind (always_tail_of.Events all) = kind_of.Always all

abbrev pub kind_for : AlwaysWord → Parser BlockKind
kind_for always_word.Comb = (λ _. kind_of.Comb) <$> keyword key.AlwaysComb
kind_for always_word.Latch = (λ _. kind_of.Latch) <$> keyword key.AlwaysLatch
kind_for always_word.Ff = kind_of.Ff <$> (keyword key.AlwaysFf ▸ events)
kind_for always_word.Always = made_always_kind <$> (keyword key.Always ▸ (mark m.At ▸ always_tail))

unfoldable pub kind : Parser BlockKind
kind = by_told (word_test always_by_word) kind_for refuse

abbrev pub made_always : BlockKind × Stmt → Block
made_always c = record { kind = c.0; body = c.1 }

unfoldable pub always : Parser Block
always = made_always <$> (kind ⊗ stmt 200)

-- ---- items that hold no items

abbrev pub made_net : NetWord × (TypedName × List Word) → Item
made_net c = it.Net c.0 c.1.0.0 (c.1.0.1 ∷ c.1.1)

unfoldable pub net : Parser Item
net = made_net <$> (token (word_test net_by_word) ⊗ (typed_name ⊗ (more_names ◂ mark m.Semicolon)))

abbrev pub made_variable : TypeTree × List Word → Item
made_variable c = it.Variable c.0 c.1

unfoldable pub variable : Parser Item
variable = made_variable <$> (form 200 ⊗ (names ◂ mark m.Semicolon))

unfoldable pub genvar : Parser Item
genvar = it.Genvar <$> (keyword key.Genvar ▸ (names ◂ mark m.Semicolon))

abbrev pub made_pair : Lvalue × Expr → AssignPair
made_pair c = record { target = c.0; value = c.1 }

unfoldable pub pair : Parser AssignPair
pair = made_pair <$> (lvalue ⊗ given)

unfoldable pub assigns : Parser Item
assigns = it.Assign <$> (keyword key.Assign ▸ (listed pair ◂ mark m.Semicolon))

abbrev pub typedef_item : Parser Item
typedef_item = it.Typedef <$> typedef

abbrev pub param_item : Parser Item
param_item = it.Param <$> param

abbrev pub always_item : Parser Item
always_item = it.Always <$> always

-- ---- items that hold items

abbrev pub place_of : Token → Option Place
place_of a = Some a.place

unfoldable pub place_test : Token → Option Place
place_test a = place_of a

-- behind the `for` of a loop
abbrev pub LoopHead : Type 0
LoopHead = Option Place × (Word × Turns)

unfoldable pub loop_head : Parser LoopHead
loop_head = mark m.LeftParen ▸ (maybe_read (keyword_test key.Genvar) (keyword key.Genvar) ⊗ (token id_test ▷ head_turns))

-- behind the `if` of a condition
unfoldable pub cond_head : Parser Expr
cond_head = mark m.LeftParen ▸ (expression ◂ mark m.RightParen)

abbrev pub made_gen_block : Place × (Option Word × (List Item × Option Word)) → Gen
made_gen_block c = ge.Block c.0 c.1.0 c.1.1.0 c.1.1.1

abbrev pub made_cond : Place × (Expr × (Gen × Option Gen)) → Item
made_cond c = it.If c.0 c.1.0 c.1.1.0 c.1.1.1

abbrev pub made_loop : Place × (LoopHead × Gen) → Item
made_loop c = it.For c.0 (is_given c.1.0.0) c.1.0.1.0 c.1.0.1.1.0 c.1.0.1.1.1.0 c.1.0.1.1.1.1 c.1.1

-- A function value reads the items in an item.
module _ (item : Parser Item) where
  unfoldable pub items : Parser (List Item)
  items = many (sort_test item_by_sort) item

  unfoldable pub region : Parser Item
  region = it.Generate <$> (keyword key.Generate ▸ (items ◂ keyword key.Endgenerate))

  unfoldable pub gen_block : Parser Gen
  gen_block = made_gen_block <$> within.block (sort_test item_by_sort) item

  unfoldable pub single : Parser Gen
  single = by_told place_test (λ p. ge.Single p <$> item) refuse

  unfoldable pub gen : Parser Gen
  gen = by_told (keyword_test key.Begin) (λ _. gen_block) single

  unfoldable pub gen_if : Parser Item
  gen_if = made_cond <$> (keyword key.If ⊗ (cond_head ⊗ within.branches gen))

  unfoldable pub gen_loop : Parser Item
  gen_loop = made_loop <$> within.counted loop_head gen

-- Function values read loops, conditions and regions.
module _ (loop cond generated : Parser Item) where
  abbrev pub item_for : ItemOpener → Parser Item
  item_for item_by.Net = net
  item_for item_by.Type = variable
  item_for item_by.Typedef = typedef_item
  item_for item_by.Param = param_item
  item_for item_by.Genvar = genvar
  item_for item_by.Assign = assigns
  item_for item_by.Always = always_item
  item_for item_by.Name = named_item
  item_for item_by.For = loop
  item_for item_by.If = cond
  item_for item_by.Generate = generated

  unfoldable pub item_level : Parser Item
  item_level = by_told (sort_test item_by_sort) item_for refuse

-- items, in which at most so many generate constructs hold a token
unfoldable pub item : ℕ → Parser Item
item zero = item_level too_deep too_deep too_deep
item (suc g) = item_level (gen_loop (item g)) (gen_if (item g)) (region (item g))
