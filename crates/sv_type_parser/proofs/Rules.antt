-- Rules: a parser on lists of tokens together with what it reads, how deep that lies, and that it reads just that.
use Rattle.std.proofs.Common.{◌≡◌, ℕ, suc, true, false, ◌+◌, ◌<◌, ◌≤◌, List, [], ◌∷◌, ◌++◌, ◌⊎◌, inl, inr, length, drop, Option, Some, None, refl, sym, ◌∙◌, ap, subst, arith}
use denote.Enum.Bare.{true_same}
use Rattle.sv_outside.specs.declared.refusal.Place.{Place}
use Rattle.sv_outside.specs.declared.text.Token.{Token}
use Rattle.sv_outside.specs.Words.{is_id}
use Rattle.sv_tree.specs.declared.word.Word.{Word}
use Rattle.sv_tree.specs.Spelling.{Text, Spelled, ◌⨟◌, mark as mark_spelled, mark_at, key, key_at, name, maybe, each, after_commas, commas}
use Rattle.sv_tree.specs.Nesting.{Nesting, Depths, one, if_given, each_depths, after_commas_depths, commas_depths}
use Rattle.sv_tree.proofs.Counted.{Counted}
use Rattle.sv_tree.proofs.MadeStmts.{some}
use Rattle.sv_cursor.specs.contracts.sort.Keyword as keyword_row
use Rattle.sv_cursor.specs.declared.sort.Keyword.{Keyword}
use Rattle.sv_cursor.specs.declared.sort.Mark.{Mark as MarkName}
use Rattle.sv_cursor.specs.declared.sort.Mark.TheVariants as m
use Rattle.sv_cursor.specs.declared.sort.Sort.{Sort}
use Rattle.sv_cursor.specs.declared.sort.Sort.TheVariants as s
use Rattle.sv_cursor.specs.Sorts.{sort, mark_text, keyword_text}
use Rattle.sv_cursor.specs.Tests.{first_sort, same_keyword, is_mark, is_keyword, if_so, mark_test, keyword_test, id_test, mark, keyword}
use Rattle.sv_cursor.specs.Parsers.{Parser, ◌<$>◌, ◌▷◌, ◌⊗◌, pure, refuse, told, token, branch, by_told, maybe_read, cons, many}
use Rattle.sv_cursor.proofs.Readers.{IsReader, IsMoved, BadAt, Meets, Told, one_nest, token_reader, pair_reader, equal_reader, nests_reader, less_reader, choose_reader, refuse_reader, pure_reader, maybe_reader, moved_maybe, many_reader, moved_each, moved_told, moved_pair, moved_less, then_meets}
use Rattle.sv_cursor.proofs.Tested.{mark_here, sort_mark, mark_tells, mark_at_of, told_of_mark_at, name_of, told_of_name, keyword_here, key_at_of, told_of_key_at, id_here}
use Rattle.sv_expr_reader.proofs.Tokens.{outside, Any, placed_mark, some_mark, told_to_mark}
use Rattle.sv_word_parser.specs.Combined.{◌▸◌, ◌◂◌, word_of, word_test, sign_of, sign_test, sort_test, listed, some_of}

pub record Rule (Bad : Nesting → Type 0) (depth : ℕ) (A : Type 0) : Type 1 where
  pub spelled : A → Spelled
  pub nests : A → Depths
  pub stops : List Token → Type 0
  pub parser : Parser A
  pub reads : IsReader Bad depth spelled spelled nests stops parser
  pub moved : IsMoved spelled nests

-- a token that is told by its text alone
pub record Fixed (Bad : Nesting → Type 0) : Type 1 where
  pub spelled : Spelled
  pub at : Place → Spelled
  pub parser : Parser Place
  pub reads : (depth : ℕ) → IsReader Bad depth at at (one_nest outside) Any parser
  pub moved : IsMoved at (one_nest outside)
  pub placed : (i o : List Token) → spelled i o → (p : Place) × at p i o
  pub some : (p : Place) (i o : List Token) → at p i o → spelled i o

pub placed_key : (text : Text) (i o : List Token) → key text i o → (p : Place) × key_at text p i o
placed_key text [] o h = absurd h
placed_key text (a ∷ i) o h = (a.place, ((h.0.0, h.0.1, refl), h.1))

pub some_key : (text : Text) (p : Place) (i o : List Token) → key_at text p i o → key text i o
some_key text p [] o h = absurd h
some_key text p (a ∷ i) o h = ((h.0.0, h.0.1), h.1)

abbrev pub the_mark : (Bad : Nesting → Type 0) → MarkName → Fixed Bad
the_mark Bad name = record {
  spelled = mark_spelled (mark_text name);
  at = mark_at (mark_text name);
  parser = mark name;
  reads = λ depth. less_reader Bad depth depth (Told (mark_test name)) (Told (mark_test name)) (mark_at (mark_text name)) (mark_at (mark_text name)) (one_nest outside) Any Any (mark name)
      (token_reader Bad depth outside (mark_test name) Any) (omega arith) (mark_at_of name) (told_of_mark_at name) (λ o h. h);
  moved = moved_less (Told (mark_test name)) (mark_at (mark_text name)) (one_nest outside) (moved_told outside (mark_test name)) (told_of_mark_at name);
  placed = placed_mark (mark_text name);
  some = some_mark (mark_text name);
}

abbrev pub the_key : (Bad : Nesting → Type 0) → Keyword → Fixed Bad
the_key Bad word = record {
  spelled = key (keyword_text word);
  at = key_at (keyword_text word);
  parser = keyword word;
  reads = λ depth. less_reader Bad depth depth (Told (keyword_test word)) (Told (keyword_test word)) (key_at (keyword_text word)) (key_at (keyword_text word)) (one_nest outside) Any Any (keyword word)
      (token_reader Bad depth outside (keyword_test word) Any) (omega arith) (key_at_of word) (told_of_key_at word) (λ o h. h);
  moved = moved_less (Told (keyword_test word)) (key_at (keyword_text word)) (one_nest outside) (moved_told outside (keyword_test word)) (told_of_key_at word);
  placed = placed_key (keyword_text word);
  some = some_key (keyword_text word);
}

-- ---- rules made of rules

-- a part that is absent only where nothing is told of the first token
abbrev pub Shut : {A C : Type 0} → (Token → Option C) → (A → Spelled) → Option A → Spelled
Shut test S None i o = (told test i ≡ None) × (i ≡ o)
Shut test S (Some a) i o = S a i o

module _ {Bad : Nesting → Type 0} {depth : ℕ} where
  -- the place of a token
  abbrev pub placed : Fixed Bad → Rule Bad depth Place
  placed f = record { spelled = f.at; nests = one_nest outside; stops = Any; parser = f.parser; reads = f.reads depth; moved = f.moved }

  -- the same rule, of which fewer tokens are said
  abbrev pub less : {A : Type 0} (wanted : ℕ) → wanted ≤ depth → Rule Bad depth A → Rule Bad wanted A
  less wanted le r = record {
    spelled = r.spelled;
    nests = r.nests;
    stops = r.stops;
    parser = r.parser;
    reads = less_reader Bad depth wanted r.spelled r.spelled r.spelled r.spelled r.nests r.stops r.stops r.parser r.reads le (λ a i o h. h) (λ a i o h. h) (λ o h. h);
    moved = r.moved;
  }

  -- a token first
  pub fixed_pair : {A : Type 0} (wanted : ℕ) → wanted ≤ suc depth → (f : Fixed Bad) (r : Rule Bad depth A)
      → IsReader Bad wanted (λ (a : A). f.spelled ⨟ r.spelled a) (λ a. f.spelled ⨟ r.spelled a) (λ a. one ++ r.nests a) r.stops (f.parser ▸ r.parser)
  fixed_pair wanted le f r =
      equal_reader Bad (λ c. one ++ r.nests c.1) (λ a. one ++ r.nests a) (λ c. c.1) (λ c. refl) wanted (λ c. f.at c.0 ⨟ r.spelled c.1) (λ c. f.at c.0 ⨟ r.spelled c.1) (λ a. f.spelled ⨟ r.spelled a) (λ a. f.spelled ⨟ r.spelled a)
      r.stops (f.parser ⊗ r.parser)
      (pair_reader Bad wanted depth wanted f.at (one_nest outside) Any f.parser (λ _. r.spelled) r.nests r.stops (λ _. r.parser) f.moved (f.reads wanted) (λ _. r.reads) (λ p c t o h stops. tt) (omega arith) (λ p i o h. omega arith))
      (λ c i o h. (h.0, f.some c.0 i h.0 h.1, h.2))
      (λ a i o h. let p = f.placed i h.0 h.1 in ((p.0, a), refl, (h.0, p.1, h.2)))

  pub fixed_moved : {A : Type 0} (f : Fixed Bad) (r : Rule Bad depth A) → IsMoved (λ (a : A). f.spelled ⨟ r.spelled a) (λ a. one ++ r.nests a)
  fixed_moved f r = record {
    count = λ a i o h. let p = f.placed i h.0 h.1 in omega (arith, f.moved.count p.0 i h.0 p.1, r.moved.count a h.0 o h.2);
    rest = λ a i o h. let p = f.placed i h.0 h.1 in (pair p.0).rest (p.0, a) i o (h.0, p.1, h.2);
  }
    where
      pair : Place → IsMoved (λ (c : Place × _). f.at c.0 ⨟ r.spelled c.1) (λ c. one ++ r.nests c.1)
      pair p = moved_pair f.at (one_nest outside) (λ _. r.spelled) r.nests f.moved (λ _. r.moved)

  abbrev pub before : {A : Type 0} → Fixed Bad → Rule Bad depth A → Rule Bad depth A
  before f r = record {
    spelled = λ a. f.spelled ⨟ r.spelled a;
    nests = λ a. one ++ r.nests a;
    stops = r.stops;
    parser = f.parser ▸ r.parser;
    reads = fixed_pair depth (omega arith) f r;
    moved = fixed_moved f r;
  }

  -- the same, where one token more is said
  abbrev pub opening : {A : Type 0} → Fixed Bad → Rule Bad depth A → Rule Bad (suc depth) A
  opening f r = record {
    spelled = λ a. f.spelled ⨟ r.spelled a;
    nests = λ a. one ++ r.nests a;
    stops = r.stops;
    parser = f.parser ▸ r.parser;
    reads = fixed_pair (suc depth) (omega arith) f r;
    moved = fixed_moved f r;
  }

  -- one after the other
  abbrev pub seq : {A B : Type 0} (a : Rule Bad depth A) (b : Rule Bad depth B) → ((x : A) (y : B) (t o : List Token) → b.spelled y t o → b.stops o → a.stops t) → Rule Bad depth (A × B)
  seq a b ends = record {
    spelled = λ c. a.spelled c.0 ⨟ b.spelled c.1;
    nests = λ c. a.nests c.0 ++ b.nests c.1;
    stops = b.stops;
    parser = a.parser ⊗ b.parser;
    reads = pair_reader Bad depth depth depth a.spelled a.nests a.stops a.parser (λ _. b.spelled) b.nests b.stops (λ _. b.parser) a.moved a.reads (λ _. b.reads) ends (omega arith) (λ x i o h. omega arith);
    moved = moved_pair a.spelled a.nests (λ _. b.spelled) b.nests a.moved (λ _. b.moved);
  }

  -- a token last
  pub closing_reads : {A : Type 0} (r : Rule Bad depth A) (f : Fixed Bad) → ((t o : List Token) → f.spelled t o → r.stops t)
      → IsReader Bad depth (λ (a : A). r.spelled a ⨟ f.spelled) (λ a. r.spelled a ⨟ f.spelled) (λ a. r.nests a ++ one) Any (r.parser ◂ f.parser)
  closing_reads r f ends =
      equal_reader Bad (λ c. r.nests c.0 ++ one) (λ a. r.nests a ++ one) (λ c. c.0) (λ c. refl) depth (λ c. r.spelled c.0 ⨟ f.at c.1) (λ c. r.spelled c.0 ⨟ f.at c.1) (λ a. r.spelled a ⨟ f.spelled) (λ a. r.spelled a ⨟ f.spelled)
      Any (r.parser ⊗ f.parser)
      (pair_reader Bad depth depth depth r.spelled r.nests r.stops r.parser (λ _. f.at) (one_nest outside) Any (λ _. f.parser) r.moved r.reads (λ _. f.reads depth) (λ x p t o h stops. ends t o (f.some p t o h)) (omega arith)
      (λ p i o h. omega arith))
      (λ c i o h. (h.0, h.1, f.some c.1 h.0 o h.2))
      (λ a i o h. let p = f.placed h.0 o h.2 in ((a, p.0), refl, (h.0, h.1, p.1)))

  pub closing_moved : {A : Type 0} (r : Rule Bad depth A) (f : Fixed Bad) → IsMoved (λ (a : A). r.spelled a ⨟ f.spelled) (λ a. r.nests a ++ one)
  closing_moved {A = A} r f = record {
    count = λ a i o h. let p = f.placed h.0 o h.2 in pair.count (a, p.0) i o (h.0, h.1, p.1);
    rest = λ a i o h. let p = f.placed h.0 o h.2 in pair.rest (a, p.0) i o (h.0, h.1, p.1);
  }
    where
      pair : IsMoved (λ (c : A × Place). r.spelled c.0 ⨟ f.at c.1) (λ c. r.nests c.0 ++ one)
      pair = moved_pair r.spelled r.nests (λ _. f.at) (one_nest outside) r.moved (λ _. f.moved)

  abbrev pub closing : {A : Type 0} (r : Rule Bad depth A) (f : Fixed Bad) → ((t o : List Token) → f.spelled t o → r.stops t) → Rule Bad depth A
  closing r f ends = record {
    spelled = λ a. r.spelled a ⨟ f.spelled;
    nests = λ a. r.nests a ++ one;
    stops = Any;
    parser = r.parser ◂ f.parser;
    reads = closing_reads r f ends;
    moved = closing_moved r f;
  }

  -- what is read, changed
  pub tree_moved : {A B : Type 0} (r : Rule Bad depth A) (made : A → B) (S : B → Spelled) (nests : B → Depths) → ((a : A) → r.nests a ≡ nests (made a))
      → ((b : B) (i o : List Token) → S b i o → (a : A) × (made a ≡ b) × r.spelled a i o) → IsMoved S nests
  tree_moved r made S nests nested from = record {
    count = λ b i o h. let g = from b i o h in r.moved.count g.0 i o g.2 ∙ ap (λ l. length l + length o) (nested g.0 ∙ ap nests g.1);
    rest = λ b i o h. let g = from b i o h in r.moved.rest g.0 i o g.2 ∙ ap (λ l. drop (length l) i) (nested g.0 ∙ ap nests g.1);
  }

  abbrev pub tree : {A B : Type 0} (r : Rule Bad depth A) (made : A → B) (S : B → Spelled) (nests : B → Depths) → ((a : A) → r.nests a ≡ nests (made a))
      → ((a : A) (i o : List Token) → r.spelled a i o → S (made a) i o) → ((b : B) (i o : List Token) → S b i o → (a : A) × (made a ≡ b) × r.spelled a i o) → Rule Bad depth B
  tree r made S nests nested to from = record {
    spelled = S;
    nests = nests;
    stops = r.stops;
    parser = made <$> r.parser;
    reads = equal_reader Bad r.nests nests made nested depth r.spelled r.spelled S S r.stops r.parser r.reads to from;
    moved = tree_moved r made S nests nested from;
  }

  -- a part that may be absent
  abbrev pub optional : {A C : Type 0} (test : Token → Option C) (r : Rule Bad depth A) → ((a : A) (i o : List Token) → r.spelled a i o → (c : C) × (told test i ≡ Some c)) → Rule Bad depth (Option A)
  optional test r begins = record {
    spelled = maybe r.spelled;
    nests = if_given r.nests;
    stops = λ o. (told test o ≡ None) × r.stops o;
    parser = maybe_read test r.parser;
    reads = maybe_reader Bad depth test r.spelled r.nests r.stops r.parser r.reads begins;
    moved = moved_maybe Bad depth test r.spelled r.nests r.stops r.parser r.reads begins r.moved;
  }

  -- parts, as long as they come
  abbrev pub several : {A C : Type 0} (test : Token → Option C) (r : Rule Bad depth A) → ((a : A) (i o : List Token) → r.spelled a i o → (c : C) × (told test i ≡ Some c))
      → ((a : A) (i o : List Token) → r.spelled a i o → 0 < length (r.nests a)) → ((c : C) (i : List Token) → told test i ≡ Some c → r.stops i) → Rule Bad depth (List A)
  several test r begins grows goes = record {
    spelled = each r.spelled;
    nests = each_depths r.nests;
    stops = λ o. (told test o ≡ None) × r.stops o;
    parser = many test r.parser;
    reads = many_reader Bad depth test r.spelled r.nests r.stops r.parser r.reads r.moved begins grows goes;
    moved = moved_each Bad depth test r.spelled r.nests r.stops r.parser r.reads r.moved begins grows goes;
  }

  -- the second part may depend on the first
  abbrev pub seq_by : {A B : Type 0} (a : Rule Bad depth A) (T : A → B → Spelled) (others : B → Depths) (Ends : List Token → Type 0) (f : A → Parser B)
      → ((x : A) → IsReader Bad depth (T x) (T x) others Ends (f x)) → ((x : A) → IsMoved (T x) others)
      → ((x : A) (y : B) (t o : List Token) → T x y t o → Ends o → a.stops t) → Rule Bad depth (A × B)
  seq_by a T others Ends f reads moved ends = record {
    spelled = λ c. a.spelled c.0 ⨟ T c.0 c.1;
    nests = λ c. a.nests c.0 ++ others c.1;
    stops = Ends;
    parser = a.parser ▷ f;
    reads = pair_reader Bad depth depth depth a.spelled a.nests a.stops a.parser T others Ends f a.moved a.reads reads ends (omega arith) (λ x i o h. omega arith);
    moved = moved_pair a.spelled a.nests T others a.moved moved;
  }

  shut_sound : {A C : Type 0} (test : Token → Option C) (r : Rule Bad depth A) (q : Option C) (i : List Token) → told test i ≡ q
      → Meets (branch q (λ _. Some <$> r.parser) (pure None) i) (λ a j. Shut test r.spelled a i j)
  shut_sound test r None i e = (e, refl)
  shut_sound test r (Some c) i e = then_meets (r.parser i) _ (λ a j. r.spelled a i j) _ (r.reads.sound i) (λ a j h. h)

  abbrev ShutTakes : {A C : Type 0} → (Token → Option C) → (Rule Bad depth A) → Option A → Spelled
  ShutTakes test r b s o = r.stops o × Shut test r.spelled b s o

  shut_some : {A C : Type 0} (test : Token → Option C) (r : Rule Bad depth A) (b : Option A) (i o : List Token) (c : C) → told test i ≡ Some c → ShutTakes test r b i o
      → (a : A) × (Some a ≡ b) × (r.stops o × r.spelled a i o)
  shut_some test r None i o c e h = let f = h.1.0 in absurd (cc)
  shut_some test r (Some a) i o c e h = (a, refl, h)

  shut_none : {A C : Type 0} (test : Token → Option C) (r : Rule Bad depth A) (begins : (a : A) (i o : List Token) → r.spelled a i o → (c : C) × (told test i ≡ Some c))
      → (b : Option A) (i o : List Token) → told test i ≡ None → ShutTakes test r b i o → None ≡ b
  shut_none test r begins None i o e h = refl
  shut_none test r begins (Some a) i o e h = let g = begins a i o h.1 in absurd (cc)

  shut_choose : {A C : Type 0} (test : Token → Option C) (r : Rule Bad depth A) → ((a : A) (i o : List Token) → r.spelled a i o → (c : C) × (told test i ≡ Some c))
      → IsReader Bad depth (maybe r.spelled) (ShutTakes test r) (if_given r.nests) Any (maybe_read test r.parser)
  shut_choose {C = C} test r begins =
      choose_reader Bad depth test (maybe r.spelled) (ShutTakes test r) (if_given r.nests) Any (λ _. Some <$> r.parser) (pure None)
      (λ c. equal_reader Bad r.nests (if_given r.nests) Some (λ a. refl) depth r.spelled (λ a s o. r.stops o × r.spelled a s o) (maybe r.spelled) (λ b i o. (told test i ≡ Some c) × ShutTakes test r b i o) Any r.parser
      (record { sound = r.reads.sound; placed = r.reads.placed; agrees = λ a s o m i h stops same. r.reads.agrees a s o m i h.1 h.0 same })
      (λ a i o h. h) (λ b i o h. shut_some test r b i o c h.0 h.1))
      (pure_reader Bad depth (maybe r.spelled) (λ b i o. (told test i ≡ None) × ShutTakes test r b i o) (if_given r.nests) Any None (λ i. refl) (λ b i o h. shut_none test r begins b i o h.0 h.1))

  pub shut_reads : {A C : Type 0} (test : Token → Option C) (r : Rule Bad depth A) → ((a : A) (i o : List Token) → r.spelled a i o → (c : C) × (told test i ≡ Some c))
      → IsReader Bad depth (Shut test r.spelled) (Shut test r.spelled) (if_given r.nests) r.stops (maybe_read test r.parser)
  shut_reads test r begins =
      let g = shut_choose test r begins in
      record {
        sound = λ i. shut_sound test r (told test i) i refl;
        placed = g.placed;
        agrees = λ b s o m i h stops same. g.agrees b s o m i (stops, h) tt same;
      }

  pub shut_moved : {A C : Type 0} (test : Token → Option C) (r : Rule Bad depth A) → IsMoved (Shut test r.spelled) (if_given r.nests)
  shut_moved {A = A} test r = record { count = count_shut; rest = rest_shut }
    where
      count_shut : (b : Option A) (i o : List Token) → Shut test r.spelled b i o → length i ≡ length (if_given r.nests b) + length o
      count_shut None i o h = omega (arith, ap length h.1)
      count_shut (Some a) i o h = r.moved.count a i o h

      rest_shut : (b : Option A) (i o : List Token) → Shut test r.spelled b i o → o ≡ drop (length (if_given r.nests b)) i
      rest_shut None i o h = sym h.1
      rest_shut (Some a) i o h = r.moved.rest a i o h

  abbrev pub shut : {A C : Type 0} (test : Token → Option C) (r : Rule Bad depth A) → ((a : A) (i o : List Token) → r.spelled a i o → (c : C) × (told test i ≡ Some c)) → Rule Bad depth (Option A)
  shut test r begins = record {
    spelled = Shut test r.spelled;
    nests = if_given r.nests;
    stops = r.stops;
    parser = maybe_read test r.parser;
    reads = shut_reads test r begins;
    moved = shut_moved test r;
  }

-- ---- choices by the first token

-- one way in which a tree is read
pub record Way (Bad : Nesting → Type 0) (depth : ℕ) (B : Type 0) (S : B → Spelled) (nests : B → Depths) (stops : List Token → Type 0) : Type 1 where
  pub A : Type 0
  pub rule : Rule Bad depth A
  pub made : A → B
  pub nested : (a : A) → rule.nests a ≡ nests (made a)
  pub to : (a : A) (i o : List Token) → rule.spelled a i o → S (made a) i o
  pub ends : (o : List Token) → stops o → rule.stops o

module _ {Bad : Nesting → Type 0} {depth : ℕ} {B : Type 0} {S : B → Spelled} {nests : B → Depths} {stops : List Token → Type 0} where
  abbrev pub reader_of : Way Bad depth B S nests stops → Parser B
  reader_of w = w.made <$> w.rule.parser

  -- the tree is read in this way
  abbrev pub ReadBy : Way Bad depth B S nests stops → B → Spelled
  ReadBy w b i o = (a : w.A) × (w.made a ≡ b) × w.rule.spelled a i o

  pub way_reader : (w : Way Bad depth B S nests stops) (C : List Token → Type 0) → ((b : B) (i o : List Token) → C i → S b i o → ReadBy w b i o)
      → IsReader Bad depth S (λ b i o. C i × S b i o) nests stops (reader_of w)
  way_reader w C from =
      less_reader Bad depth depth S (λ b i o. C i × S b i o) S (λ b i o. C i × S b i o) nests w.rule.stops stops (reader_of w)
      (equal_reader Bad w.rule.nests nests w.made w.nested depth w.rule.spelled w.rule.spelled S (λ b i o. C i × S b i o) w.rule.stops w.rule.parser w.rule.reads w.to (λ b i o h. from b i o h.0 h.1))
      (omega arith) (λ b i o h. h) (λ b i o h. h) w.ends

  read_moved : (w : Way Bad depth B S nests stops) (b : B) (i o : List Token) → ReadBy w b i o → (length i ≡ length (nests b) + length o) × (o ≡ drop (length (nests b)) i)
  read_moved w b i o h =
      let e = w.nested h.0 ∙ ap nests h.1 in
      (w.rule.moved.count h.0 i o h.2 ∙ ap (λ l. length l + length o) e, w.rule.moved.rest h.0 i o h.2 ∙ ap (λ l. drop (length l) i) e)

  module _ {C : Type 0} (test : Token → Option C) (ways : C → Way Bad depth B S nests stops) (chosen : C → Parser B) (same : (c : C) → ◌≡◌ {A = Parser B} (reader_of (ways c)) (chosen c))
      (view : (b : B) (i o : List Token) → S b i o → (c : C) × (told test i ≡ Some c) × ReadBy (ways c) b i o) where
    told_view : (c : C) (b : B) (i o : List Token) → told test i ≡ Some c → S b i o → ReadBy (ways c) b i o
    told_view c b i o e h = let v = view b i o h in let f : v.0 ≡ c = some_same v.0 c (sym v.1 ∙ e) in subst (λ c. ReadBy (ways c) b i o) f v.2
      where
        some_same : (x y : C) → ◌≡◌ {A = Option C} (Some x) (Some y) → x ≡ y
        some_same x y e = cc

    none_view : (b : B) (i o : List Token) → (told test i ≡ None) × S b i o → ⊥
    none_view b i o h = let v = view b i o h.1 in let e = v.1 in let f = h.0 in cc

    pub choose_reads : IsReader Bad depth S S nests stops (by_told test chosen refuse)
    choose_reads =
        choose_reader Bad depth test S S nests stops chosen refuse
        (λ c. subst (λ p. IsReader Bad depth S (λ b i o. (told test i ≡ Some c) × S b i o) nests stops p) (same c) (way_reader (ways c) (λ i. told test i ≡ Some c) (λ b i o e h. told_view c b i o e h)))
        (refuse_reader Bad depth S (λ b i o. (told test i ≡ None) × S b i o) nests stops none_view)

    pub choose_moved : IsMoved S nests
    choose_moved = record {
      count = λ b i o h. let v = view b i o h in (read_moved (ways v.0) b i o v.2).0;
      rest = λ b i o h. let v = view b i o h in (read_moved (ways v.0) b i o v.2).1;
    }

    -- a choice by what is told of the first token
    abbrev pub choose : Rule Bad depth B
    choose = record { spelled = S; nests = nests; stops = stops; parser = by_told test chosen refuse; reads = choose_reads; moved = choose_moved }

  module _ {C : Type 0} (test : Token → Option C) (first other : Way Bad depth B S nests stops)
      (view : (b : B) (i o : List Token) → S b i o → ((c : C) × (told test i ≡ Some c) × ReadBy first b i o) ⊎ ((told test i ≡ None) × ReadBy other b i o)) where
    first_view : (c : C) (b : B) (i o : List Token) → told test i ≡ Some c → S b i o → ReadBy first b i o
    first_view c b i o e h = by_view (view b i o h)
      where
        by_view : ((c : C) × (told test i ≡ Some c) × ReadBy first b i o) ⊎ ((told test i ≡ None) × ReadBy other b i o) → ReadBy first b i o
        by_view (inl v) = v.2
        by_view (inr v) = let f = v.0 in absurd (cc)

    other_view : (b : B) (i o : List Token) → told test i ≡ None → S b i o → ReadBy other b i o
    other_view b i o e h = by_view (view b i o h)
      where
        by_view : ((c : C) × (told test i ≡ Some c) × ReadBy first b i o) ⊎ ((told test i ≡ None) × ReadBy other b i o) → ReadBy other b i o
        by_view (inl v) = let f = v.1 in absurd (cc)
        by_view (inr v) = v.1

    pub fork_reads : IsReader Bad depth S S nests stops (by_told test (λ _. reader_of first) (reader_of other))
    fork_reads =
        choose_reader Bad depth test S S nests stops (λ _. reader_of first) (reader_of other)
        (λ c. way_reader first (λ i. told test i ≡ Some c) (λ b i o e h. first_view c b i o e h))
        (way_reader other (λ i. told test i ≡ None) other_view)

    pub fork_moved : IsMoved S nests
    fork_moved = record { count = λ b i o h. (by_view b i o (view b i o h)).0; rest = λ b i o h. (by_view b i o (view b i o h)).1 }
      where
        by_view : (b : B) (i o : List Token) → ((c : C) × (told test i ≡ Some c) × ReadBy first b i o) ⊎ ((told test i ≡ None) × ReadBy other b i o)
            → (length i ≡ length (nests b) + length o) × (o ≡ drop (length (nests b)) i)
        by_view b i o (inl v) = read_moved first b i o v.2
        by_view b i o (inr v) = read_moved other b i o v.1

    -- one way where something is told of the first token, and another where nothing is
    abbrev pub fork : Rule Bad depth B
    fork = record { spelled = S; nests = nests; stops = stops; parser = by_told test (λ _. reader_of first) (reader_of other); reads = fork_reads; moved = fork_moved }

-- ---- what one token tells

-- the first token is of that sort
abbrev pub IsFirst : Sort → List Token → Type 0
IsFirst x i = first_sort i ≡ x

pub first_of_mark : (name : MarkName) (i o : List Token) → mark_spelled (mark_text name) i o → IsFirst (s.Mark name) i
first_of_mark name [] o h = absurd h
first_of_mark name (a ∷ i) o h = mark_here a name h.0.0 h.0.1

pub first_of_mark_at : (name : MarkName) (p : Place) (i o : List Token) → mark_at (mark_text name) p i o → IsFirst (s.Mark name) i
first_of_mark_at name p i o h = first_of_mark name i o (some_mark (mark_text name) p i o h)

pub first_of_key : (word : Keyword) (i o : List Token) → key (keyword_text word) i o → IsFirst (s.Keyword word) i
first_of_key word [] o h = absurd h
first_of_key word (a ∷ i) o h = keyword_here a word h.0.0 h.0.1

pub first_of_key_at : (word : Keyword) (p : Place) (i o : List Token) → key_at (keyword_text word) p i o → IsFirst (s.Keyword word) i
first_of_key_at word p i o h = first_of_key word i o (some_key (keyword_text word) p i o h)

pub first_of_name : (w : Word) (i o : List Token) → name w i o → IsFirst s.Id i
first_of_name w [] o h = absurd h
first_of_name w (a ∷ i) o h = id_here a h.0.0 (subst (λ t. is_id t ≡ true) (sym h.0.1) h.0.3)

-- a test by the sort tells of the first token what its sort tells
pub told_sort : {A : Type 0} (of : Sort → Option A) (i : List Token) → of s.Other ≡ None → told (sort_test of) i ≡ of (first_sort i)
unfolding sort_test
told_sort of [] e = sym e
told_sort of (a ∷ i) e = refl

pub told_word : {A : Type 0} (of : Keyword → Option A) (i : List Token) → told (word_test of) i ≡ word_of of (first_sort i)
unfolding word_test
told_word of [] = refl
told_word of (a ∷ i) = refl

pub told_sign : {A : Type 0} (of : MarkName → Option A) (i : List Token) → told (sign_test of) i ≡ sign_of of (first_sort i)
unfolding sign_test
told_sign of [] = refl
told_sign of (a ∷ i) = refl

-- another mark, or another keyword
pub no_mark : (name : MarkName) (x : Sort) (i : List Token) → is_mark name x ≡ false → IsFirst x i → told (mark_test name) i ≡ None
unfolding mark_test
no_mark name x [] e h = refl
no_mark name x (a ∷ i) e h = ap (λ b. if_so b a.place) (ap (is_mark name) h ∙ e)

pub no_key : (word : Keyword) (x : Sort) (i : List Token) → is_keyword word x ≡ false → IsFirst x i → told (keyword_test word) i ≡ None
unfolding keyword_test
no_key word x [] e h = refl
no_key word x (a ∷ i) e h = ap (λ b. if_so b a.place) (ap (is_keyword word) h ∙ e)

pub mark_begins : (name : MarkName) (i o : List Token) → mark_spelled (mark_text name) i o → (p : Place) × (told (mark_test name) i ≡ Some p)
mark_begins name [] o h = absurd h
mark_begins name (a ∷ i) o h = (a.place, mark_tells name a a.place (h.0.0, h.0.1, refl))

pub key_begins : (word : Keyword) (i o : List Token) → key (keyword_text word) i o → (p : Place) × (told (keyword_test word) i ≡ Some p)
key_begins word i o h = let p = placed_key (keyword_text word) i o h in (p.0, told_of_key word p.0 i o p.1)
  where
    told_of_key : (word : Keyword) (p : Place) (i o : List Token) → key_at (keyword_text word) p i o → told (keyword_test word) i ≡ Some p
    told_of_key word p [] o h = absurd h
    told_of_key word p (a ∷ i) o h = (told_of_key_at word p (a ∷ i) o h).0

keyword_of_sort : (word : Keyword) (a : Token) → sort a ≡ s.Keyword word → keyword_test word a ≡ Some a.place
unfolding keyword_test same_keyword
keyword_of_sort word a e = rw e (rw (true_same keyword_row.the_type word word refl) refl)

module _ {A : Type 0} (of : Keyword → Option A) (named : A → Keyword) (S : A → Spelled) (is : (x : A) → of (named x) ≡ Some x) (so : (k : Keyword) (x : A) → of k ≡ Some x → k ≡ named x)
    (texts : (x : A) → ◌≡◌ {A = Spelled} (S x) (key (keyword_text (named x)))) where
  sort_so : (y : Sort) (x : A) → word_of of y ≡ Some x → y ≡ s.Keyword (named x)
  sort_so (s.Keyword k) x h = ap s.Keyword (so k x h)
  sort_so _ x h = absurd (cc)

  word_spelled : (x : A) (i o : List Token) → Told (word_test of) x i o → S x i o
  unfolding word_test
  word_spelled x [] o h = absurd h
  word_spelled x (a ∷ i) o h =
      subst (λ P. P (a ∷ i) o) (sym (texts x)) (some_key (keyword_text (named x)) a.place (a ∷ i) o (key_at_of (named x) a.place (a ∷ i) o (keyword_of_sort (named x) a (sort_so (sort a) x h.0), h.1)))

  pub keyword_first : (x : A) (i o : List Token) → S x i o → IsFirst (s.Keyword (named x)) i
  keyword_first x i o h = first_of_key (named x) i o (subst (λ P. P i o) (texts x) h)

  pub word_told : (x : A) (i o : List Token) → S x i o → told (word_test of) i ≡ Some x
  word_told x i o h = told_word of i ∙ (ap (word_of of) (keyword_first x i o h) ∙ is x)

  word_tells : (x : A) (i o : List Token) → S x i o → Told (word_test of) x i o
  word_tells x [] o h = absurd (subst (λ P. P [] o) (texts x) h)
  word_tells x (a ∷ i) o h = (word_told x (a ∷ i) o h, (subst (λ P. P (a ∷ i) o) (texts x) h).1)

  pub keyword_begins : (x : A) (i o : List Token) → S x i o → (x : A) × (told (word_test of) i ≡ Some x)
  keyword_begins x i o h = (x, word_told x i o h)

  pub word_reads : (Bad : Nesting → Type 0) (depth : ℕ) → IsReader Bad depth S S (one_nest outside) Any (token (word_test of))
  word_reads Bad depth = less_reader Bad depth depth (Told (word_test of)) (Told (word_test of)) S S (one_nest outside) Any Any (token (word_test of))
      (token_reader Bad depth outside (word_test of) Any) (omega arith) word_spelled word_tells (λ o h. h)

  pub word_moved : IsMoved S (one_nest outside)
  word_moved = moved_less (Told (word_test of)) S (one_nest outside) (moved_told outside (word_test of)) word_tells

  -- one of several keywords
  abbrev pub keyword_rule : (Bad : Nesting → Type 0) (depth : ℕ) → Rule Bad depth A
  keyword_rule Bad depth = record { spelled = S; nests = one_nest outside; stops = Any; parser = token (word_test of); reads = word_reads Bad depth; moved = word_moved }

module _ {A : Type 0} (of : MarkName → Option A) (named : A → MarkName) (S : A → Spelled) (is : (x : A) → of (named x) ≡ Some x) (so : (k : MarkName) (x : A) → of k ≡ Some x → k ≡ named x)
    (texts : (x : A) → ◌≡◌ {A = Spelled} (S x) (mark_spelled (mark_text (named x)))) where
  sign_so : (y : Sort) (x : A) → sign_of of y ≡ Some x → y ≡ s.Mark (named x)
  sign_so (s.Mark k) x h = ap s.Mark (so k x h)
  sign_so _ x h = absurd (cc)

  sign_spelled : (x : A) (i o : List Token) → Told (sign_test of) x i o → S x i o
  unfolding sign_test sort
  sign_spelled x [] o h = absurd h
  sign_spelled x (a ∷ i) o h = subst (λ P. P (a ∷ i) o) (sym (texts x)) (sort_mark a.kind a.text (named x) (sign_so (sort a) x h.0), h.1)

  pub marks_first : (x : A) (i o : List Token) → S x i o → IsFirst (s.Mark (named x)) i
  marks_first x i o h = first_of_mark (named x) i o (subst (λ P. P i o) (texts x) h)

  pub sign_told : (x : A) (i o : List Token) → S x i o → told (sign_test of) i ≡ Some x
  sign_told x i o h = told_sign of i ∙ (ap (sign_of of) (marks_first x i o h) ∙ is x)

  sign_tells : (x : A) (i o : List Token) → S x i o → Told (sign_test of) x i o
  sign_tells x [] o h = absurd (subst (λ P. P [] o) (texts x) h)
  sign_tells x (a ∷ i) o h = (sign_told x (a ∷ i) o h, (subst (λ P. P (a ∷ i) o) (texts x) h).1)

  pub marks_begins : (x : A) (i o : List Token) → S x i o → (x : A) × (told (sign_test of) i ≡ Some x)
  marks_begins x i o h = (x, sign_told x i o h)

  pub sign_reads : (Bad : Nesting → Type 0) (depth : ℕ) → IsReader Bad depth S S (one_nest outside) Any (token (sign_test of))
  sign_reads Bad depth = less_reader Bad depth depth (Told (sign_test of)) (Told (sign_test of)) S S (one_nest outside) Any Any (token (sign_test of))
      (token_reader Bad depth outside (sign_test of) Any) (omega arith) sign_spelled sign_tells (λ o h. h)

  pub sign_moved : IsMoved S (one_nest outside)
  sign_moved = moved_less (Told (sign_test of)) S (one_nest outside) (moved_told outside (sign_test of)) sign_tells

  -- one of several marks
  abbrev pub marks_rule : (Bad : Nesting → Type 0) (depth : ℕ) → Rule Bad depth A
  marks_rule Bad depth = record { spelled = S; nests = one_nest outside; stops = Any; parser = token (sign_test of); reads = sign_reads Bad depth; moved = sign_moved }

pub name_reads : (Bad : Nesting → Type 0) (depth : ℕ) → IsReader Bad depth name name (one_nest outside) Any (token id_test)
name_reads Bad depth = less_reader Bad depth depth (Told id_test) (Told id_test) name name (one_nest outside) Any Any (token id_test)
    (token_reader Bad depth outside id_test Any) (omega arith) name_of told_of_name (λ o h. h)

pub name_moved : IsMoved name (one_nest outside)
name_moved = moved_less (Told id_test) name (one_nest outside) (moved_told outside id_test) told_of_name

-- a name
abbrev pub name_rule : (Bad : Nesting → Type 0) (depth : ℕ) → Rule Bad depth Word
name_rule Bad depth = record { spelled = name; nests = one_nest outside; stops = Any; parser = token id_test; reads = name_reads Bad depth; moved = name_moved }

-- ---- one at least, with commas between them

pub after_of : {A : Type 0} (S : A → Spelled) (all : List A) (i o : List Token) → each (λ a. mark_spelled (mark_text m.Comma) ⨟ S a) all i o → after_commas S all i o
unfolding mark_text
after_of S [] i o h = h
after_of S (x ∷ all) i o h = (h.1.0, h.1.1, (h.0, h.1.2, after_of S all h.0 o h.2))

pub of_after : {A : Type 0} (S : A → Spelled) (all : List A) (i o : List Token) → after_commas S all i o → each (λ a. mark_spelled (mark_text m.Comma) ⨟ S a) all i o
unfolding mark_text
of_after S [] i o h = h
of_after S (x ∷ all) i o h = (h.2.0, (h.0, h.1, h.2.1), of_after S all h.2.0 o h.2.2)

pub after_nested : {A : Type 0} (nests : A → Depths) (all : List A) → each_depths (λ a. one ++ nests a) all ≡ after_commas_depths nests all
after_nested nests [] = refl
after_nested nests (x ∷ all) = ap (λ l. one ++ (nests x ++ l)) (after_nested nests all)

module _ {Bad : Nesting → Type 0} {depth : ℕ} {A : Type 0} (r : Rule Bad depth A) (goes : (i : List Token) → IsFirst (s.Mark m.Comma) i → r.stops i) where
  first_comma : (p : Place) (i : List Token) → told (mark_test m.Comma) i ≡ Some p → IsFirst (s.Mark m.Comma) i
  first_comma p i h = let g = told_to_mark m.Comma p i h in first_of_mark_at m.Comma p i g.0 g.1

  abbrev more_rule : Rule Bad depth (List A)
  more_rule = several (mark_test m.Comma) (before (the_mark Bad m.Comma) r) (λ a i o h. mark_begins m.Comma i h.0 h.1) (λ a i o h. omega arith) (λ p i h. goes i (first_comma p i h))

  stops_before : (all : List A) (t o : List Token) → more_rule.spelled all t o → r.stops o → r.stops t
  stops_before [] t o h stops = subst r.stops (sym h) stops
  stops_before (x ∷ all) t o h stops = goes t (first_of_mark m.Comma t h.1.0 h.1.1)

  pub after_reads : IsReader Bad depth (after_commas r.spelled) (after_commas r.spelled) (after_commas_depths r.nests) (λ o. (told (mark_test m.Comma) o ≡ None) × r.stops o) (many (mark_test m.Comma) (mark m.Comma ▸ r.parser))
  after_reads =
      nests_reader Bad Bad more_rule.nests (after_commas_depths r.nests) (λ all. ap length (sym (after_nested r.nests all))) (λ all k h. subst (λ l. BadAt Bad l k) (after_nested r.nests all) h) depth
      (after_commas r.spelled) (after_commas r.spelled) more_rule.stops more_rule.parser
      (less_reader Bad depth depth more_rule.spelled more_rule.spelled (after_commas r.spelled) (after_commas r.spelled) more_rule.nests more_rule.stops more_rule.stops more_rule.parser more_rule.reads (omega arith)
      (after_of r.spelled) (of_after r.spelled) (λ o h. h))

  pub after_moved : IsMoved (after_commas r.spelled) (after_commas_depths r.nests)
  after_moved = record {
    count = λ all i o h. more_rule.moved.count all i o (of_after r.spelled all i o h) ∙ ap (λ l. length l + length o) (after_nested r.nests all);
    rest = λ all i o h. more_rule.moved.rest all i o (of_after r.spelled all i o h) ∙ ap (λ l. drop (length l) i) (after_nested r.nests all);
  }

  -- each after a comma
  abbrev pub after_rule : Rule Bad depth (List A)
  after_rule = record {
    spelled = after_commas r.spelled;
    nests = after_commas_depths r.nests;
    stops = λ o. (told (mark_test m.Comma) o ≡ None) × r.stops o;
    parser = many (mark_test m.Comma) (mark m.Comma ▸ r.parser);
    reads = after_reads;
    moved = after_moved;
  }

  abbrev pair_rule : Rule Bad depth (A × List A)
  pair_rule = seq r more_rule (λ x all t o h stops. stops_before all t o h stops.1)

  listed_from : (b : List A) (i o : List Token) → commas r.spelled b i o → (a : A × List A) × (cons a ≡ b) × pair_rule.spelled a i o
  listed_from [] i o h = absurd h
  listed_from (x ∷ all) i o h = ((x, all), refl, (h.0, h.1, of_after r.spelled all h.0 o h.2))

  pub listed_reads : IsReader Bad depth (commas r.spelled) (commas r.spelled) (commas_depths r.nests) (λ o. (told (mark_test m.Comma) o ≡ None) × r.stops o) (listed r.parser)
  listed_reads =
      equal_reader Bad pair_rule.nests (commas_depths r.nests) cons (λ a. ap (λ l. r.nests a.0 ++ l) (after_nested r.nests a.1)) depth pair_rule.spelled pair_rule.spelled (commas r.spelled) (commas r.spelled)
      pair_rule.stops pair_rule.parser pair_rule.reads (λ a i o h. (h.0, h.1, after_of r.spelled a.1 h.0 o h.2)) listed_from

  pub listed_moved : IsMoved (commas r.spelled) (commas_depths r.nests)
  listed_moved = tree_moved pair_rule cons (commas r.spelled) (commas_depths r.nests) (λ a. ap (λ l. r.nests a.0 ++ l) (after_nested r.nests a.1)) listed_from

  abbrev pub list_rule : Rule Bad depth (List A)
  list_rule = record {
    spelled = commas r.spelled;
    nests = commas_depths r.nests;
    stops = λ o. (told (mark_test m.Comma) o ≡ None) × r.stops o;
    parser = listed r.parser;
    reads = listed_reads;
    moved = listed_moved;
  }

pub moved_counted : {A : Type 0} {S : A → Spelled} {nests : A → Depths} → ((x : A) → Counted (S x) (length (nests x))) → IsMoved S nests
moved_counted c = record { count = λ a i o h. (c a).count i o h; rest = λ a i o h. (c a).rest i o h }

-- a rule by what is proved of it
abbrev pub rule_of : {A : Type 0} {Bad : Nesting → Type 0} {depth : ℕ} {S : A → Spelled} {nests : A → Depths} {stops : List Token → Type 0} {p : Parser A}
    → IsReader Bad depth S S nests stops p → ((x : A) → Counted (S x) (length (nests x))) → Rule Bad depth A
rule_of {S = S} {nests = nests} {stops = stops} {p = p} reads counted = record { spelled = S; nests = nests; stops = stops; parser = p; reads = reads; moved = moved_counted counted }

-- What is read, changed.
pub tree_reads : {A B : Type 0} {Bad : Nesting → Type 0} {depth : ℕ} (r : Rule Bad depth A) (made : A → B) (S : B → Spelled) (nests : B → Depths) → ((a : A) → r.nests a ≡ nests (made a))
    → ((a : A) (i o : List Token) → r.spelled a i o → S (made a) i o) → ((b : B) (i o : List Token) → S b i o → (a : A) × (made a ≡ b) × r.spelled a i o) → IsReader Bad depth S S nests r.stops (made <$> r.parser)
tree_reads {Bad = Bad} {depth = depth} r made S nests nested to from = equal_reader Bad r.nests nests made nested depth r.spelled r.spelled S S r.stops r.parser r.reads to from

-- the same rule before less
abbrev pub until : {A : Type 0} {Bad : Nesting → Type 0} {depth : ℕ} (Stops : List Token → Type 0) (r : Rule Bad depth A) → ((o : List Token) → Stops o → r.stops o) → Rule Bad depth A
until {Bad = Bad} {depth = depth} Stops r ends = record {
  spelled = r.spelled;
  nests = r.nests;
  stops = Stops;
  parser = r.parser;
  reads = less_reader Bad depth depth r.spelled r.spelled r.spelled r.spelled r.nests r.stops Stops r.parser r.reads (omega arith) (λ a i o h. h) (λ a i o h. h) ends;
  moved = r.moved;
}

-- the same rule, whose tokens lie deeper
abbrev pub deeper : {A : Type 0} {Low Bad : Nesting → Type 0} {depth : ℕ} (inside : Depths → Depths) → ((d : Depths) → length (inside d) ≡ length d)
    → ((d : Depths) (k : ℕ) → BadAt Low d k → BadAt Bad (inside d) k) → Rule Low depth A → Rule Bad depth A
deeper {Low = Low} {Bad = Bad} {depth = depth} inside same lifts r = record {
  spelled = r.spelled;
  nests = λ a. inside (r.nests a);
  stops = r.stops;
  parser = r.parser;
  reads = nests_reader Low Bad r.nests (λ a. inside (r.nests a)) (λ a. same (r.nests a)) (λ a k h. lifts (r.nests a) k h) depth r.spelled r.spelled r.stops r.parser r.reads;
  moved = record {
    count = λ a i o h. r.moved.count a i o h ∙ ap (λ n. n + length o) (sym (same (r.nests a)));
    rest = λ a i o h. r.moved.rest a i o h ∙ ap (λ n. drop n i) (sym (same (r.nests a)));
  };
}

-- ---- parts, one at least

module _ {Bad : Nesting → Type 0} {depth : ℕ} {A C : Type 0} (test : Token → Option C) (r : Rule Bad depth A) (begins : (a : A) (i o : List Token) → r.spelled a i o → (c : C) × (told test i ≡ Some c))
    (grows : (a : A) (i o : List Token) → r.spelled a i o → 0 < length (r.nests a)) (goes : (c : C) (i : List Token) → told test i ≡ Some c → r.stops i) where
  next_stops : (all : List A) (t o : List Token) → each r.spelled all t o → r.stops o → r.stops t
  next_stops [] t o h stops = subst r.stops (sym h) stops
  next_stops (x ∷ all) t o h stops = let g = begins x t h.0 h.1 in goes g.0 t g.1

  some_from : (b : List A) (i o : List Token) → some r.spelled b i o → (a : A × List A) × (cons a ≡ b) × (r.spelled a.0 ⨟ each r.spelled a.1) i o
  some_from [] i o h = absurd h
  some_from (x ∷ all) i o h = ((x, all), refl, h)

  abbrev pair_of_some : Rule Bad depth (A × List A)
  pair_of_some = seq r (several test r begins grows goes) (λ x all t o h stops. next_stops all t o h stops.1)

  pub some_reads : IsReader Bad depth (some r.spelled) (some r.spelled) (each_depths r.nests) (λ o. (told test o ≡ None) × r.stops o) (some_of test r.parser)
  some_reads = tree_reads pair_of_some cons (some r.spelled) (each_depths r.nests) (λ a. refl) (λ a i o h. h) some_from

  pub some_moved : IsMoved (some r.spelled) (each_depths r.nests)
  some_moved = tree_moved pair_of_some cons (some r.spelled) (each_depths r.nests) (λ a. refl) some_from

  abbrev pub some_rule : Rule Bad depth (List A)
  some_rule = record { spelled = some r.spelled; nests = each_depths r.nests; stops = λ o. (told test o ≡ None) × r.stops o; parser = some_of test r.parser; reads = some_reads; moved = some_moved }

-- the same rule, where a token that lies too deep does so by another count
abbrev pub renested : {A : Type 0} {Low Bad : Nesting → Type 0} {depth : ℕ} (r : Rule Low depth A) (others : A → Depths) → ((a : A) → length (others a) ≡ length (r.nests a))
    → ((a : A) (k : ℕ) → BadAt Low (r.nests a) k → BadAt Bad (others a) k) → Rule Bad depth A
renested {Low = Low} {Bad = Bad} {depth = depth} r others same lifts = record {
  spelled = r.spelled;
  nests = others;
  stops = r.stops;
  parser = r.parser;
  reads = nests_reader Low Bad r.nests others same lifts depth r.spelled r.spelled r.stops r.parser r.reads;
  moved = record {
    count = λ a i o h. r.moved.count a i o h ∙ ap (λ n. n + length o) (sym (same a));
    rest = λ a i o h. r.moved.rest a i o h ∙ ap (λ n. drop n i) (sym (same a));
  };
}

-- One after the other, where the first holds a token: so one token more is said than of the second.
abbrev pub seq_up : {A B : Type 0} {Bad : Nesting → Type 0} {depth : ℕ} (a : Rule Bad (suc depth) A) (b : Rule Bad depth B) → ((x : A) (y : B) (t o : List Token) → b.spelled y t o → b.stops o → a.stops t)
    → ((x : A) (i o : List Token) → a.spelled x i o → 0 < length (a.nests x)) → Rule Bad (suc depth) (A × B)
seq_up {Bad = Bad} {depth = depth} a b ends grows = record {
  spelled = λ c. a.spelled c.0 ⨟ b.spelled c.1;
  nests = λ c. a.nests c.0 ++ b.nests c.1;
  stops = b.stops;
  parser = a.parser ⊗ b.parser;
  reads = pair_reader Bad (suc depth) depth (suc depth) a.spelled a.nests a.stops a.parser (λ _. b.spelled) b.nests b.stops (λ _. b.parser) a.moved a.reads (λ _. b.reads) ends (omega arith)
      (λ x i o h. omega (arith, grows x i o h));
  moved = moved_pair a.spelled a.nests (λ _. b.spelled) b.nests a.moved (λ _. b.moved);
}
