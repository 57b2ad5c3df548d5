-- Blocks are read as they are spelled.
use Rattle.std.proofs.Common.{◌≡◌, ℕ, ◌≤◌, ◌⊎◌, inl, inr, List, [], ◌++◌, length, Some, None, refl, ◌∙◌, ap, arith}
use Rattle.sv_outside.specs.declared.refusal.Place.{Place}
use Rattle.sv_outside.specs.declared.text.Token.{Token}
use Rattle.sv_tree.specs.declared.word.Word.{Word}
use Rattle.sv_tree.specs.declared.stmts.Edge.{Edge}
use Rattle.sv_tree.specs.declared.stmts.Event.{Event}
use Rattle.sv_tree.specs.declared.stmts.EventMark.{EventMark}
use Rattle.sv_tree.specs.declared.stmts.EventMark.TheVariants as event_mark_of
use Rattle.sv_tree.specs.declared.stmts.NextEvent.{NextEvent}
use Rattle.sv_tree.specs.declared.stmts.Events.{Events}
use Rattle.sv_tree.specs.declared.stmts.BlockKind.{BlockKind}
use Rattle.sv_tree.specs.declared.stmts.BlockKind.TheVariants as kind_of
use Rattle.sv_tree.specs.declared.stmts.Block.{Block}
use Rattle.sv_tree.specs.declared.stmts.Stmt.{Stmt}
use Rattle.sv_tree.specs.Spelling.{Spelled, never, ◌⨟◌, mark as mark_spelled, mark_at, key, key_at, name, each}
use Rattle.sv_tree.specs.GrammarStmts.{edge_key, is_closed, SpellsEvent, SpellsEventMark, SpellsNextEvent, SpellsEvents, SpellsKind, SpellsBlock}
use Rattle.sv_tree.specs.Nesting.{Nesting, Depths, one, two, three, each_depths}
use Rattle.sv_tree.specs.NestingDesign.{event_depths, next_event_depths, events_depths, kind_depths, block_depths}
use Rattle.sv_tree.proofs.Counted.{Counted}
use Rattle.sv_tree.proofs.CountedDesign.{counted_kind, counted_event, counted_event_mark, counted_next_event, counted_events, counted_block}
use Rattle.sv_cursor.specs.declared.sort.Keyword.{Keyword}
use Rattle.sv_cursor.specs.declared.sort.Keyword.TheVariants as k
use Rattle.sv_cursor.specs.declared.sort.Mark.{Mark as MarkName}
use Rattle.sv_cursor.specs.declared.sort.Mark.TheVariants as m
use Rattle.sv_cursor.specs.declared.sort.Sort.{Sort}
use Rattle.sv_cursor.specs.declared.sort.Sort.TheVariants as so
use Rattle.sv_cursor.specs.Sorts.{mark_text, keyword_text}
use Rattle.sv_cursor.specs.Tests.{same_mark, mark_test}
use Rattle.sv_cursor.specs.Parsers.{Parser, told}
use Rattle.sv_cursor.proofs.Readers.{IsReader, IsMoved}
use Rattle.sv_expr_reader.proofs.Tokens.{Any, placed_mark, some_mark}
use Rattle.sv_item_parser.specs.declared.tails.AlwaysTail.{AlwaysTail}
use Rattle.sv_item_parser.specs.declared.tails.AlwaysTail.TheVariants as tail
use Rattle.sv_word_parser.specs.declared.openers.AlwaysWord.{AlwaysWord}
use Rattle.sv_word_parser.specs.declared.openers.AlwaysWord.TheVariants as always_word
use Rattle.sv_word_parser.specs.Combined.{word_of, word_test, sort_test, kept}
use Rattle.sv_word_parser.specs.Words.{event_mark_by_sort, always_by_word}
use Rattle.sv_type_parser.specs.Lists.{while_told}
use Rattle.sv_item_parser.specs.Items.{made_event, event, event_mark_for, event_mark, made_next_event, next_event, made_events, events_inside, events, star_inside, always_inside, star, always_tail, made_always_kind, kind_for, kind, made_always, always}
use Rattle.sv_type_parser.proofs.Rules.{Rule, Fixed, the_mark, the_key, placed, less, before, seq, closing, tree_reads, rule_of, Way, choose_reads, fork_reads, fork_moved, ReadBy, reader_of, name_rule, mark_begins, placed_key, some_key, IsFirst, first_of_mark, first_of_key, told_word, told_sort, several, no_mark}
use Rattle.sv_type_parser.proofs.Words.{edge_rule, edge_first, edge_word_name}
use Rattle.sv_type_parser.proofs.Limits.{Over}
use Rattle.sv_stmt_parser.proofs.Steps.{NoColon}
use Rattle.sv_stmt_parser.proofs.Arms.{Closed, counted_done}
use Rattle.sv_stmt_parser.proofs.StmtLevel.{stmt_reads}

abbrev EventsInside : Events → Spelled
EventsInside all = SpellsEvent all.first ⨟ (each SpellsNextEvent all.more ⨟ mark_spelled (mark_text m.RightParen))

abbrev events_inside_nests : Events → Depths
events_inside_nests all = event_depths all.first ++ (each_depths next_event_depths all.more ++ one)

abbrev InsideSpelled : AlwaysTail → Spelled
InsideSpelled tail.Star = never
InsideSpelled tail.StarParen = mark_spelled (mark_text m.Star) ⨟ mark_spelled (mark_text m.RightParen)
InsideSpelled (tail.Events all) = EventsInside all

abbrev inside_nests : AlwaysTail → Depths
inside_nests tail.Star = []
inside_nests tail.StarParen = two
inside_nests (tail.Events all) = events_inside_nests all

abbrev AtSpelled : AlwaysTail → Spelled
AtSpelled tail.Star = mark_spelled (mark_text m.Star)
AtSpelled tail.StarParen = mark_spelled (mark_text m.LeftParen) ⨟ InsideSpelled tail.StarParen
AtSpelled (tail.Events all) = mark_spelled (mark_text m.LeftParen) ⨟ EventsInside all

abbrev at_nests : AlwaysTail → Depths
at_nests tail.Star = one
at_nests tail.StarParen = three
at_nests (tail.Events all) = one ++ events_inside_nests all

edge_no_star : (e : Edge) (i o : List Token) → edge_key e i o → told (mark_test m.Star) i ≡ None
edge_no_star e i o h = no_mark m.Star (so.Keyword (edge_word_name e)) i refl (edge_first e i o h)

paren_no_star : (i o : List Token) → mark_spelled (mark_text m.LeftParen) i o → told (mark_test m.Star) i ≡ None
unfolding same_mark
paren_no_star i o h = no_mark m.Star (so.Mark m.LeftParen) i refl (first_of_mark m.LeftParen i o h)

told_event_mark : (x : Sort) (i : List Token) → IsFirst x i → told (sort_test event_mark_by_sort) i ≡ event_mark_by_sort x
told_event_mark x i h = told_sort event_mark_by_sort i refl ∙ ap event_mark_by_sort h

told_always : (w : Keyword) (i : List Token) → IsFirst (so.Keyword w) i → told (word_test always_by_word) i ≡ always_by_word w
told_always w i h = told_word always_by_word i ∙ ap (word_of always_by_word) h

-- a whole block
abbrev pub DoneBlock : Block → Spelled
DoneBlock b i o = SpellsBlock b i o × Closed (is_closed b.body) o

pub counted_done_block : (b : Block) → Counted (DoneBlock b) (length (block_depths b))
counted_done_block b = record { count = λ i o h. (counted_block b).count i o h.0; rest = λ i o h. (counted_block b).rest i o h.0 }

module _ (Bad : Nesting → Type 0) (d : ℕ) where
  abbrev mk : MarkName → Fixed Bad
  mk x = the_mark Bad x

  abbrev ky : Keyword → Fixed Bad
  ky x = the_key Bad x

  event_reads : IsReader Bad d SpellsEvent SpellsEvent event_depths Any event
  unfolding event
  event_reads = tree_reads (seq (edge_rule Bad d) (name_rule Bad d) (λ x y i o h stops. tt)) made_event SpellsEvent event_depths (λ c. refl) (λ c i o h. h) (λ e i o h. ((e.edge, e.name), refl, h))

  abbrev event_rule : Rule Bad d Event
  event_rule = rule_of event_reads counted_event

  -- ---- what parts events

  abbrev mark_depths : EventMark → Depths
  mark_depths x = one

  abbrev MarkWay : Type 1
  MarkWay = Way Bad d EventMark SpellsEventMark mark_depths Any

  or_to : (p : Place) (i o : List Token) → key_at (keyword_text k.Or) p i o → SpellsEventMark event_mark_of.Or i o
  unfolding keyword_text
  or_to p i o h = some_key (keyword_text k.Or) p i o h

  comma_to : (p : Place) (i o : List Token) → mark_at (mark_text m.Comma) p i o → SpellsEventMark event_mark_of.Comma i o
  unfolding mark_text
  comma_to p i o h = some_mark (mark_text m.Comma) p i o h

  abbrev mark_ways : EventMark → MarkWay
  mark_ways event_mark_of.Or = record { A = Place; rule = placed (ky k.Or); made = λ _. event_mark_of.Or; nested = λ c. refl; to = or_to; ends = λ o h. tt }
  mark_ways event_mark_of.Comma = record { A = Place; rule = placed (mk m.Comma); made = λ _. event_mark_of.Comma; nested = λ c. refl; to = comma_to; ends = λ o h. tt }

  mark_same : (c : EventMark) → ◌≡◌ {A = Parser EventMark} (reader_of (mark_ways c)) (event_mark_for c)
  mark_same event_mark_of.Or = refl
  mark_same event_mark_of.Comma = refl

  mark_view : (x : EventMark) (i o : List Token) → SpellsEventMark x i o → (c : EventMark) × (told (sort_test event_mark_by_sort) i ≡ Some c) × ReadBy (mark_ways c) x i o
  unfolding keyword_text mark_text
  mark_view event_mark_of.Or i o h = let p = placed_key (keyword_text k.Or) i o h in (event_mark_of.Or, told_event_mark (so.Keyword k.Or) i (first_of_key k.Or i o h), (p.0, refl, p.1))
  mark_view event_mark_of.Comma i o h = let p = placed_mark (mark_text m.Comma) i o h in (event_mark_of.Comma, told_event_mark (so.Mark m.Comma) i (first_of_mark m.Comma i o h), (p.0, refl, p.1))

  mark_reads : IsReader Bad d SpellsEventMark SpellsEventMark mark_depths Any event_mark
  unfolding event_mark
  mark_reads = choose_reads (sort_test event_mark_by_sort) mark_ways event_mark_for mark_same mark_view

  abbrev mark_rule : Rule Bad d EventMark
  mark_rule = rule_of mark_reads counted_event_mark

  -- ---- lists of events

  next_reads : IsReader Bad d SpellsNextEvent SpellsNextEvent next_event_depths Any next_event
  unfolding next_event
  next_reads =
      tree_reads (seq mark_rule event_rule (λ x y i o h stops. tt)) made_next_event SpellsNextEvent next_event_depths (λ c. refl) (λ c i o h. h) (λ e i o h. ((e.mark, e.event), refl, h))

  abbrev next_rule : Rule Bad d NextEvent
  next_rule = rule_of next_reads counted_next_event

  next_begins : (e : NextEvent) (i o : List Token) → SpellsNextEvent e i o → (c : EventMark) × (told (sort_test event_mark_by_sort) i ≡ Some c)
  next_begins e i o h = let v = mark_view e.mark i h.0 h.1 in (v.0, v.1)

  abbrev nexts_rule : Rule Bad d (List NextEvent)
  nexts_rule = several (sort_test event_mark_by_sort) next_rule next_begins (λ e i o h. omega arith) (λ c i h. tt)

  paren_ends : (i o : List Token) → mark_spelled (mark_text m.RightParen) i o → (told (sort_test event_mark_by_sort) i ≡ None) × Any i
  paren_ends i o h = (told_event_mark (so.Mark m.RightParen) i (first_of_mark m.RightParen i o h), tt)

  abbrev events_tuple : Rule Bad d (Event × List NextEvent)
  events_tuple = seq event_rule (closing nexts_rule (mk m.RightParen) paren_ends) (λ x y i o h stops. tt)

  inside_events_reads : IsReader Bad d EventsInside EventsInside events_inside_nests Any events_inside
  unfolding events_inside while_told
  inside_events_reads = tree_reads events_tuple made_events EventsInside events_inside_nests (λ c. refl) (λ c i o h. h) (λ all i o h. ((all.first, all.more), refl, h))

  inside_events_moved : IsMoved EventsInside events_inside_nests
  inside_events_moved =
      record { count = λ all i o h. events_tuple.moved.count (all.first, all.more) i o h; rest = λ all i o h. events_tuple.moved.rest (all.first, all.more) i o h }

  abbrev inside_events_rule : Rule Bad d Events
  inside_events_rule =
      record { spelled = EventsInside; nests = events_inside_nests; stops = Any; parser = events_inside; reads = inside_events_reads; moved = inside_events_moved }

  events_reads : IsReader Bad d SpellsEvents SpellsEvents events_depths Any events
  unfolding events mark_text
  events_reads = (before (mk m.At) (before (mk m.LeftParen) inside_events_rule)).reads

  abbrev events_rule : Rule Bad d Events
  events_rule = rule_of events_reads counted_events

  -- ---- behind the `@` of an `always`

  abbrev InsideWay : Type 1
  InsideWay = Way Bad d AlwaysTail InsideSpelled inside_nests Any

  abbrev paren_way : InsideWay
  paren_way = record {
    A = Place;
    rule = closing (placed (mk m.Star)) (mk m.RightParen) (λ i o h. tt);
    made = λ _. tail.StarParen;
    nested = λ c. refl;
    to = λ c i o h. (h.0, some_mark (mark_text m.Star) c i h.0 h.1, h.2);
    ends = λ o h. tt;
  }

  abbrev events_way : InsideWay
  events_way = record { A = Events; rule = inside_events_rule; made = tail.Events; nested = λ c. refl; to = λ c i o h. h; ends = λ o h. tt }

  inside_view : (x : AlwaysTail) (i o : List Token) → InsideSpelled x i o → ((c : Place) × (told (mark_test m.Star) i ≡ Some c) × ReadBy paren_way x i o) ⊎ ((told (mark_test m.Star) i ≡ None) × ReadBy events_way x i o)
  inside_view tail.Star i o h = absurd h
  inside_view tail.StarParen i o h = let b = mark_begins m.Star i h.0 h.1 in let p = placed_mark (mark_text m.Star) i h.0 h.1 in inl (b.0, b.1, (p.0, refl, (h.0, p.1, h.2)))
  inside_view (tail.Events all) i o h = inr (edge_no_star all.first.edge i h.1.0 h.1.1, (all, refl, h))

  inside_reads : IsReader Bad d InsideSpelled InsideSpelled inside_nests Any always_inside
  unfolding always_inside star_inside
  inside_reads = fork_reads (mark_test m.Star) paren_way events_way inside_view

  abbrev inside_rule : Rule Bad d AlwaysTail
  inside_rule = record { spelled = InsideSpelled; nests = inside_nests; stops = Any; parser = always_inside; reads = inside_reads; moved = fork_moved (mark_test m.Star) paren_way events_way inside_view }

  abbrev AtWay : Type 1
  AtWay = Way Bad d AlwaysTail AtSpelled at_nests Any

  abbrev star_way : AtWay
  star_way = record { A = Place; rule = placed (mk m.Star); made = λ _. tail.Star; nested = λ c. refl; to = λ c i o h. some_mark (mark_text m.Star) c i o h; ends = λ o h. tt }

  inside_nested : (x : AlwaysTail) → one ++ inside_nests x ≡ at_nests (kept x)
  inside_nested tail.Star = refl
  inside_nested tail.StarParen = refl
  inside_nested (tail.Events all) = refl

  inside_to : (x : AlwaysTail) (i o : List Token) → (mark_spelled (mark_text m.LeftParen) ⨟ InsideSpelled x) i o → AtSpelled (kept x) i o
  inside_to tail.Star i o h = absurd h.2
  inside_to tail.StarParen i o h = h
  inside_to (tail.Events all) i o h = h

  abbrev inside_way : AtWay
  inside_way = record { A = AlwaysTail; rule = before (mk m.LeftParen) inside_rule; made = kept; nested = inside_nested; to = inside_to; ends = λ o h. tt }

  at_view : (x : AlwaysTail) (i o : List Token) → AtSpelled x i o → ((c : Place) × (told (mark_test m.Star) i ≡ Some c) × ReadBy star_way x i o) ⊎ ((told (mark_test m.Star) i ≡ None) × ReadBy inside_way x i o)
  at_view tail.Star i o h = let b = mark_begins m.Star i o h in let p = placed_mark (mark_text m.Star) i o h in inl (b.0, b.1, (p.0, refl, p.1))
  at_view tail.StarParen i o h = inr (paren_no_star i h.0 h.1, (tail.StarParen, refl, h))
  at_view (tail.Events all) i o h = inr (paren_no_star i h.0 h.1, (tail.Events all, refl, h))

  at_reads : IsReader Bad d AtSpelled AtSpelled at_nests Any always_tail
  unfolding always_tail star
  at_reads = fork_reads (mark_test m.Star) star_way inside_way at_view

  abbrev at_rule : Rule Bad d AlwaysTail
  at_rule = record { spelled = AtSpelled; nests = at_nests; stops = Any; parser = always_tail; reads = at_reads; moved = fork_moved (mark_test m.Star) star_way inside_way at_view }

  -- ---- what stands before the statement of a block

  abbrev KindWay : Type 1
  KindWay = Way Bad d BlockKind SpellsKind kind_depths Any

  at_nested : (x : AlwaysTail) → one ++ (one ++ at_nests x) ≡ kind_depths (made_always_kind x)
  at_nested tail.Star = refl
  at_nested tail.StarParen = refl
  at_nested (tail.Events all) = refl

  at_to : (x : AlwaysTail) (i o : List Token) → (key (keyword_text k.Always) ⨟ (mark_spelled (mark_text m.At) ⨟ AtSpelled x)) i o → SpellsKind (made_always_kind x) i o
  unfolding keyword_text mark_text
  at_to tail.Star i o h = h
  at_to tail.StarParen i o h = h
  at_to (tail.Events all) i o h = h

  comb_to : (p : Place) (i o : List Token) → key_at (keyword_text k.AlwaysComb) p i o → SpellsKind kind_of.Comb i o
  unfolding keyword_text
  comb_to p i o h = some_key (keyword_text k.AlwaysComb) p i o h

  latch_to : (p : Place) (i o : List Token) → key_at (keyword_text k.AlwaysLatch) p i o → SpellsKind kind_of.Latch i o
  unfolding keyword_text
  latch_to p i o h = some_key (keyword_text k.AlwaysLatch) p i o h

  ff_to : (e : Events) (i o : List Token) → (key (keyword_text k.AlwaysFf) ⨟ SpellsEvents e) i o → SpellsKind (kind_of.Ff e) i o
  unfolding keyword_text
  ff_to e i o h = h

  abbrev kind_ways : AlwaysWord → KindWay
  kind_ways always_word.Comb = record { A = Place; rule = placed (ky k.AlwaysComb); made = λ _. kind_of.Comb; nested = λ c. refl; to = comb_to; ends = λ o h. tt }
  kind_ways always_word.Latch = record { A = Place; rule = placed (ky k.AlwaysLatch); made = λ _. kind_of.Latch; nested = λ c. refl; to = latch_to; ends = λ o h. tt }
  kind_ways always_word.Ff = record { A = Events; rule = before (ky k.AlwaysFf) events_rule; made = kind_of.Ff; nested = λ c. refl; to = ff_to; ends = λ o h. tt }
  kind_ways always_word.Always = record { A = AlwaysTail; rule = before (ky k.Always) (before (mk m.At) at_rule); made = made_always_kind; nested = at_nested; to = at_to; ends = λ o h. tt }

  kind_same : (c : AlwaysWord) → ◌≡◌ {A = Parser BlockKind} (reader_of (kind_ways c)) (kind_for c)
  kind_same always_word.Comb = refl
  kind_same always_word.Latch = refl
  kind_same always_word.Ff = refl
  kind_same always_word.Always = refl

  kind_view : (x : BlockKind) (i o : List Token) → SpellsKind x i o → (c : AlwaysWord) × (told (word_test always_by_word) i ≡ Some c) × ReadBy (kind_ways c) x i o
  unfolding keyword_text mark_text
  kind_view kind_of.Comb i o h = let p = placed_key (keyword_text k.AlwaysComb) i o h in (always_word.Comb, told_always k.AlwaysComb i (first_of_key k.AlwaysComb i o h), (p.0, refl, p.1))
  kind_view kind_of.Latch i o h = let p = placed_key (keyword_text k.AlwaysLatch) i o h in (always_word.Latch, told_always k.AlwaysLatch i (first_of_key k.AlwaysLatch i o h), (p.0, refl, p.1))
  kind_view (kind_of.Ff e) i o h = (always_word.Ff, told_always k.AlwaysFf i (first_of_key k.AlwaysFf i h.0 h.1), (e, refl, h))
  kind_view (kind_of.Always e) i o h = (always_word.Always, told_always k.Always i (first_of_key k.Always i h.0 h.1), (tail.Events e, refl, h))
  kind_view kind_of.Star i o h = (always_word.Always, told_always k.Always i (first_of_key k.Always i h.0 h.1), (tail.Star, refl, h))
  kind_view kind_of.StarParen i o h = (always_word.Always, told_always k.Always i (first_of_key k.Always i h.0 h.1), (tail.StarParen, refl, h))

  kind_reads : IsReader Bad d SpellsKind SpellsKind kind_depths Any kind
  unfolding kind
  kind_reads = choose_reads (word_test always_by_word) kind_ways kind_for kind_same kind_view

  abbrev kind_rule : Rule Bad d BlockKind
  kind_rule = rule_of kind_reads counted_kind

-- the word that begins a block
pub block_begins : (x : BlockKind) (i o : List Token) → SpellsKind x i o → (w : Keyword) × ((c : AlwaysWord) × (always_by_word w ≡ Some c)) × IsFirst (so.Keyword w) i
unfolding keyword_text
block_begins kind_of.Comb i o h = (k.AlwaysComb, (always_word.Comb, refl), first_of_key k.AlwaysComb i o h)
block_begins kind_of.Latch i o h = (k.AlwaysLatch, (always_word.Latch, refl), first_of_key k.AlwaysLatch i o h)
block_begins (kind_of.Ff e) i o h = (k.AlwaysFf, (always_word.Ff, refl), first_of_key k.AlwaysFf i h.0 h.1)
block_begins (kind_of.Always e) i o h = (k.Always, (always_word.Always, refl), first_of_key k.Always i h.0 h.1)
block_begins kind_of.Star i o h = (k.Always, (always_word.Always, refl), first_of_key k.Always i h.0 h.1)
block_begins kind_of.StarParen i o h = (k.Always, (always_word.Always, refl), first_of_key k.Always i h.0 h.1)

module _ (g t d : ℕ) (le : d ≤ 200) where
  abbrev body_rule : Rule (Over 201 g t) d Stmt
  body_rule = less d le (rule_of (stmt_reads 200 g t (omega arith)) counted_done)

  pub block_reads : IsReader (Over 201 g t) d DoneBlock DoneBlock block_depths NoColon always
  unfolding always
  block_reads =
      tree_reads (seq (kind_rule (Over 201 g t) d) body_rule (λ x y i o h stops. tt)) made_always DoneBlock block_depths (λ c. refl) (λ c i o h. ((h.0, h.1, h.2.0), h.2.1))
      (λ b i o h. ((b.kind, b.body), refl, (h.0.0, h.0.1, (h.0.2, h.1))))

  abbrev pub block_rule : Rule (Over 201 g t) d Block
  block_rule = rule_of block_reads counted_done_block
