-- Rules: a parser on lists of tokens together with what it reads, how deep that lies, and that it reads just that. Those of a file of goals.
use Rattle.std.proofs.Common.{◌≡◌, ℕ, suc, ◌+◌, ◌<◌, ◌≤◌, List, [], ◌∷◌, ◌++◌, length, drop, Option, Some, None, refl, sym, ◌∙◌, ap, subst, arith}
use Rattle.sv_outside.specs.declared.refusal.Place.{Place}
use Rattle.sv_outside.specs.declared.text.Token.{Token}
use Rattle.sv_tree.specs.declared.word.Word.{Word}
use Rattle.sv_tree.specs.Spelling.{Text, Spelled, ◌⨟◌, mark as mark_spelled, mark_at, key, key_at, name, each}
use Rattle.sv_tree.specs.Nesting.{Nesting, Depths, one, each_depths}
use Rattle.sv_tree.proofs.Counted.{Counted}
use Rattle.sv_cursor.specs.declared.sort.Mark.{Mark as MarkName}
use Rattle.sv_cursor.specs.Sorts.{mark_text}
use Rattle.sv_cursor.specs.Tests.{mark_test, id_test, mark}
use Rattle.sv_cursor.specs.Parsers.{Parser, ◌<$>◌, ◌⊗◌, told, token, cons, many}
use Rattle.sv_cursor.proofs.Readers.{IsReader, IsMoved, Told, one_nest, token_reader, pair_reader, equal_reader, less_reader, many_reader, moved_each, moved_told, moved_pair, moved_less}
use Rattle.sv_cursor.proofs.Tested.{mark_at_of, told_of_mark_at, name_of, told_of_name}
use Rattle.sv_expr_reader.proofs.Tokens.{outside, Any, placed_mark, some_mark}
use Rattle.goal_tree.specs.Goals.{some}
use Rattle.goal_tree.specs.Reading.{◌▸◌, ◌◂◌, some_of}

pub record Rule (Bad : Nesting → Type 0) (depth : ℕ) (A : Type 0) : Type 1 where
  pub spelled : A → Spelled
  pub nests : A → Depths
  pub stops : List Token → Type 0
  pub parser : Parser A
  pub reads : IsReader Bad depth spelled spelled nests stops parser
  pub moved : IsMoved spelled nests

-- a token that is told by its text alone
pub record Fixed (Bad : Nesting → Type 0) : Type 1 where
  pub spelled : Spelled
  pub at : Place → Spelled
  pub parser : Parser Place
  pub reads : (depth : ℕ) → IsReader Bad depth at at (one_nest outside) Any parser
  pub moved : IsMoved at (one_nest outside)
  pub placed : (i o : List Token) → spelled i o → (p : Place) × at p i o
  pub some : (p : Place) (i o : List Token) → at p i o → spelled i o

pub placed_key : (text : Text) (i o : List Token) → key text i o → (p : Place) × key_at text p i o
placed_key text [] o h = absurd h
placed_key text (a ∷ i) o h = (a.place, ((h.0.0, h.0.1, refl), h.1))

pub some_key : (text : Text) (p : Place) (i o : List Token) → key_at text p i o → key text i o
some_key text p [] o h = absurd h
some_key text p (a ∷ i) o h = ((h.0.0, h.0.1), h.1)

abbrev pub the_mark : (Bad : Nesting → Type 0) → MarkName → Fixed Bad
the_mark Bad name = record {
  spelled = mark_spelled (mark_text name);
  at = mark_at (mark_text name);
  parser = mark name;
  reads = λ depth. less_reader Bad depth depth (Told (mark_test name)) (Told (mark_test name)) (mark_at (mark_text name)) (mark_at (mark_text name)) (one_nest outside) Any Any (mark name)
      (token_reader Bad depth outside (mark_test name) Any) (omega arith) (mark_at_of name) (told_of_mark_at name) (λ o h. h);
  moved = moved_less (Told (mark_test name)) (mark_at (mark_text name)) (one_nest outside) (moved_told outside (mark_test name)) (told_of_mark_at name);
  placed = placed_mark (mark_text name);
  some = some_mark (mark_text name);
}

-- ---- rules made of rules

module _ {Bad : Nesting → Type 0} {depth : ℕ} where
  -- a token first
  pub fixed_pair : {A : Type 0} (wanted : ℕ) → wanted ≤ suc depth → (f : Fixed Bad) (r : Rule Bad depth A)
      → IsReader Bad wanted (λ (a : A). f.spelled ⨟ r.spelled a) (λ a. f.spelled ⨟ r.spelled a) (λ a. one ++ r.nests a) r.stops (f.parser ▸ r.parser)
  fixed_pair wanted le f r =
      equal_reader Bad (λ c. one ++ r.nests c.1) (λ a. one ++ r.nests a) (λ c. c.1) (λ c. refl) wanted (λ c. f.at c.0 ⨟ r.spelled c.1) (λ c. f.at c.0 ⨟ r.spelled c.1) (λ a. f.spelled ⨟ r.spelled a) (λ a. f.spelled ⨟ r.spelled a)
      r.stops (f.parser ⊗ r.parser)
      (pair_reader Bad wanted depth wanted f.at (one_nest outside) Any f.parser (λ _. r.spelled) r.nests r.stops (λ _. r.parser) f.moved (f.reads wanted) (λ _. r.reads) (λ p c t o h stops. tt) (omega arith) (λ p i o h. omega arith))
      (λ c i o h. (h.0, f.some c.0 i h.0 h.1, h.2))
      (λ a i o h. let p = f.placed i h.0 h.1 in ((p.0, a), refl, (h.0, p.1, h.2)))

  pub fixed_moved : {A : Type 0} (f : Fixed Bad) (r : Rule Bad depth A) → IsMoved (λ (a : A). f.spelled ⨟ r.spelled a) (λ a. one ++ r.nests a)
  fixed_moved f r = record {
    count = λ a i o h. let p = f.placed i h.0 h.1 in omega (arith, f.moved.count p.0 i h.0 p.1, r.moved.count a h.0 o h.2);
    rest = λ a i o h. let p = f.placed i h.0 h.1 in (pair p.0).rest (p.0, a) i o (h.0, p.1, h.2);
  }
    where
      pair : Place → IsMoved (λ (c : Place × _). f.at c.0 ⨟ r.spelled c.1) (λ c. one ++ r.nests c.1)
      pair p = moved_pair f.at (one_nest outside) (λ _. r.spelled) r.nests f.moved (λ _. r.moved)

  abbrev pub before : {A : Type 0} → Fixed Bad → Rule Bad depth A → Rule Bad depth A
  before f r = record {
    spelled = λ a. f.spelled ⨟ r.spelled a;
    nests = λ a. one ++ r.nests a;
    stops = r.stops;
    parser = f.parser ▸ r.parser;
    reads = fixed_pair depth (omega arith) f r;
    moved = fixed_moved f r;
  }

  -- one after the other
  abbrev pub seq : {A B : Type 0} (a : Rule Bad depth A) (b : Rule Bad depth B) → ((x : A) (y : B) (t o : List Token) → b.spelled y t o → b.stops o → a.stops t) → Rule Bad depth (A × B)
  seq a b ends = record {
    spelled = λ c. a.spelled c.0 ⨟ b.spelled c.1;
    nests = λ c. a.nests c.0 ++ b.nests c.1;
    stops = b.stops;
    parser = a.parser ⊗ b.parser;
    reads = pair_reader Bad depth depth depth a.spelled a.nests a.stops a.parser (λ _. b.spelled) b.nests b.stops (λ _. b.parser) a.moved a.reads (λ _. b.reads) ends (omega arith) (λ x i o h. omega arith);
    moved = moved_pair a.spelled a.nests (λ _. b.spelled) b.nests a.moved (λ _. b.moved);
  }

  -- a token last
  pub closing_reads : {A : Type 0} (r : Rule Bad depth A) (f : Fixed Bad) → ((t o : List Token) → f.spelled t o → r.stops t)
      → IsReader Bad depth (λ (a : A). r.spelled a ⨟ f.spelled) (λ a. r.spelled a ⨟ f.spelled) (λ a. r.nests a ++ one) Any (r.parser ◂ f.parser)
  closing_reads r f ends =
      equal_reader Bad (λ c. r.nests c.0 ++ one) (λ a. r.nests a ++ one) (λ c. c.0) (λ c. refl) depth (λ c. r.spelled c.0 ⨟ f.at c.1) (λ c. r.spelled c.0 ⨟ f.at c.1) (λ a. r.spelled a ⨟ f.spelled) (λ a. r.spelled a ⨟ f.spelled)
      Any (r.parser ⊗ f.parser)
      (pair_reader Bad depth depth depth r.spelled r.nests r.stops r.parser (λ _. f.at) (one_nest outside) Any (λ _. f.parser) r.moved r.reads (λ _. f.reads depth) (λ x p t o h stops. ends t o (f.some p t o h)) (omega arith)
      (λ p i o h. omega arith))
      (λ c i o h. (h.0, h.1, f.some c.1 h.0 o h.2))
      (λ a i o h. let p = f.placed h.0 o h.2 in ((a, p.0), refl, (h.0, h.1, p.1)))

  pub closing_moved : {A : Type 0} (r : Rule Bad depth A) (f : Fixed Bad) → IsMoved (λ (a : A). r.spelled a ⨟ f.spelled) (λ a. r.nests a ++ one)
  closing_moved {A = A} r f = record {
    count = λ a i o h. let p = f.placed h.0 o h.2 in pair.count (a, p.0) i o (h.0, h.1, p.1);
    rest = λ a i o h. let p = f.placed h.0 o h.2 in pair.rest (a, p.0) i o (h.0, h.1, p.1);
  }
    where
      pair : IsMoved (λ (c : A × Place). r.spelled c.0 ⨟ f.at c.1) (λ c. r.nests c.0 ++ one)
      pair = moved_pair r.spelled r.nests (λ _. f.at) (one_nest outside) r.moved (λ _. f.moved)

  abbrev pub closing : {A : Type 0} (r : Rule Bad depth A) (f : Fixed Bad) → ((t o : List Token) → f.spelled t o → r.stops t) → Rule Bad depth A
  closing r f ends = record {
    spelled = λ a. r.spelled a ⨟ f.spelled;
    nests = λ a. r.nests a ++ one;
    stops = Any;
    parser = r.parser ◂ f.parser;
    reads = closing_reads r f ends;
    moved = closing_moved r f;
  }

  -- what is read, changed
  pub tree_moved : {A B : Type 0} (r : Rule Bad depth A) (made : A → B) (S : B → Spelled) (nests : B → Depths) → ((a : A) → r.nests a ≡ nests (made a))
      → ((b : B) (i o : List Token) → S b i o → (a : A) × (made a ≡ b) × r.spelled a i o) → IsMoved S nests
  tree_moved r made S nests nested from = record {
    count = λ b i o h. let g = from b i o h in r.moved.count g.0 i o g.2 ∙ ap (λ l. length l + length o) (nested g.0 ∙ ap nests g.1);
    rest = λ b i o h. let g = from b i o h in r.moved.rest g.0 i o g.2 ∙ ap (λ l. drop (length l) i) (nested g.0 ∙ ap nests g.1);
  }

  -- parts, as long as they come
  abbrev pub several : {A C : Type 0} (test : Token → Option C) (r : Rule Bad depth A) → ((a : A) (i o : List Token) → r.spelled a i o → (c : C) × (told test i ≡ Some c))
      → ((a : A) (i o : List Token) → r.spelled a i o → 0 < length (r.nests a)) → ((c : C) (i : List Token) → told test i ≡ Some c → r.stops i) → Rule Bad depth (List A)
  several test r begins grows goes = record {
    spelled = each r.spelled;
    nests = each_depths r.nests;
    stops = λ o. (told test o ≡ None) × r.stops o;
    parser = many test r.parser;
    reads = many_reader Bad depth test r.spelled r.nests r.stops r.parser r.reads r.moved begins grows goes;
    moved = moved_each Bad depth test r.spelled r.nests r.stops r.parser r.reads r.moved begins grows goes;
  }

-- ---- names, and what is made of rules

pub name_reads : (Bad : Nesting → Type 0) (depth : ℕ) → IsReader Bad depth name name (one_nest outside) Any (token id_test)
name_reads Bad depth = less_reader Bad depth depth (Told id_test) (Told id_test) name name (one_nest outside) Any Any (token id_test)
    (token_reader Bad depth outside id_test Any) (omega arith) name_of told_of_name (λ o h. h)

pub name_moved : IsMoved name (one_nest outside)
name_moved = moved_less (Told id_test) name (one_nest outside) (moved_told outside id_test) told_of_name

-- a name
abbrev pub name_rule : (Bad : Nesting → Type 0) (depth : ℕ) → Rule Bad depth Word
name_rule Bad depth = record { spelled = name; nests = one_nest outside; stops = Any; parser = token id_test; reads = name_reads Bad depth; moved = name_moved }

pub moved_counted : {A : Type 0} {S : A → Spelled} {nests : A → Depths} → ((x : A) → Counted (S x) (length (nests x))) → IsMoved S nests
moved_counted c = record { count = λ a i o h. (c a).count i o h; rest = λ a i o h. (c a).rest i o h }

-- a rule by what is proved of it
abbrev pub rule_of : {A : Type 0} {Bad : Nesting → Type 0} {depth : ℕ} {S : A → Spelled} {nests : A → Depths} {stops : List Token → Type 0} {p : Parser A}
    → IsReader Bad depth S S nests stops p → ((x : A) → Counted (S x) (length (nests x))) → Rule Bad depth A
rule_of {S = S} {nests = nests} {stops = stops} {p = p} reads counted = record { spelled = S; nests = nests; stops = stops; parser = p; reads = reads; moved = moved_counted counted }

-- What is read, changed.
pub tree_reads : {A B : Type 0} {Bad : Nesting → Type 0} {depth : ℕ} (r : Rule Bad depth A) (made : A → B) (S : B → Spelled) (nests : B → Depths) → ((a : A) → r.nests a ≡ nests (made a))
    → ((a : A) (i o : List Token) → r.spelled a i o → S (made a) i o) → ((b : B) (i o : List Token) → S b i o → (a : A) × (made a ≡ b) × r.spelled a i o) → IsReader Bad depth S S nests r.stops (made <$> r.parser)
tree_reads {Bad = Bad} {depth = depth} r made S nests nested to from = equal_reader Bad r.nests nests made nested depth r.spelled r.spelled S S r.stops r.parser r.reads to from

-- ---- parts, one at least

module _ {Bad : Nesting → Type 0} {depth : ℕ} {A C : Type 0} (test : Token → Option C) (r : Rule Bad depth A) (begins : (a : A) (i o : List Token) → r.spelled a i o → (c : C) × (told test i ≡ Some c))
    (grows : (a : A) (i o : List Token) → r.spelled a i o → 0 < length (r.nests a)) (goes : (c : C) (i : List Token) → told test i ≡ Some c → r.stops i) where
  next_stops : (all : List A) (t o : List Token) → each r.spelled all t o → r.stops o → r.stops t
  next_stops [] t o h stops = subst r.stops (sym h) stops
  next_stops (x ∷ all) t o h stops = let g = begins x t h.0 h.1 in goes g.0 t g.1

  some_from : (b : List A) (i o : List Token) → some r.spelled b i o → (a : A × List A) × (cons a ≡ b) × (r.spelled a.0 ⨟ each r.spelled a.1) i o
  some_from [] i o h = absurd h
  some_from (x ∷ all) i o h = ((x, all), refl, h)

  abbrev pair_of_some : Rule Bad depth (A × List A)
  pair_of_some = seq r (several test r begins grows goes) (λ x all t o h stops. next_stops all t o h stops.1)

  pub some_reads : IsReader Bad depth (some r.spelled) (some r.spelled) (each_depths r.nests) (λ o. (told test o ≡ None) × r.stops o) (some_of test r.parser)
  some_reads = tree_reads pair_of_some cons (some r.spelled) (each_depths r.nests) (λ a. refl) (λ a i o h. h) some_from

  pub some_moved : IsMoved (some r.spelled) (each_depths r.nests)
  some_moved = tree_moved pair_of_some cons (some r.spelled) (each_depths r.nests) (λ a. refl) some_from

  abbrev pub some_rule : Rule Bad depth (List A)
  some_rule = record { spelled = some r.spelled; nests = each_depths r.nests; stops = λ o. (told test o ≡ None) × r.stops o; parser = some_of test r.parser; reads = some_reads; moved = some_moved }
