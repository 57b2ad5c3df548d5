-- Whole texts are read as they are spelled.
use Rattle.std.proofs.Common.{◌≡◌, ℕ, zero, suc, ◌+◌, ◌-◌, ◌<◌, ◌≤◌, ◌⊎◌, inl, inr, false, List, [], ◌∷◌, length, take, Some, None, Ok, Err, refl, sym, ◌∙◌, ap, length-append, arith}
use Rattle.std.proofs.lemmas.Bool.{cases_lt}
use Rattle.sv_outside.specs.declared.text.Token.{Token}
use Rattle.sv_tree.specs.declared.forms.Typedef.{Typedef}
use Rattle.sv_tree.specs.declared.design.ParamWord.{ParamWord}
use Rattle.sv_tree.specs.declared.design.ParamWord.TheVariants as param_word
use Rattle.sv_tree.specs.declared.design.Param.{Param}
use Rattle.sv_tree.specs.declared.design.Module.{Module}
use Rattle.sv_tree.specs.declared.design.SourcePart.{SourcePart}
use Rattle.sv_tree.specs.declared.design.SourcePart.TheVariants as source_part
use Rattle.sv_tree.specs.declared.design.Source.{Source}
use Rattle.sv_tree.specs.GrammarDesign.{SpellsPart, SpellsSource}
use Rattle.sv_tree.specs.Nesting.{Nesting, Depths, IsOver, IsOverAt}
use Rattle.sv_tree.specs.NestingDesign.{part_depths, source_depths}
use Rattle.sv_cursor.specs.declared.error.ParseErr.TheVariants.{Memory, Syntax, TooDeep}
use Rattle.sv_cursor.specs.declared.sort.Keyword.{Keyword}
use Rattle.sv_cursor.specs.declared.sort.Keyword.TheVariants as k
use Rattle.sv_cursor.specs.declared.sort.Mark.TheVariants as m
use Rattle.sv_cursor.specs.declared.sort.Sort.TheVariants as so
use Rattle.sv_cursor.specs.Sorts.{keyword_text}
use Rattle.sv_cursor.specs.Tests.{first_sort, is_mark}
use Rattle.sv_cursor.specs.Parsers.{Outcome, Parser, and_then, told}
use Rattle.sv_cursor.proofs.Readers.{IsReader, IsMoved, BadAt, Agrees, Placed, Meets, then_meets}
use Rattle.sv_word_parser.specs.declared.openers.PartOpener.{PartOpener}
use Rattle.sv_word_parser.specs.declared.openers.PartOpener.TheVariants as part_by
use Rattle.sv_word_parser.specs.Combined.{word_of, word_test}
use Rattle.sv_word_parser.specs.Words.{part_by_word}
use Rattle.sv_parser.specs.Source.{part_for, part, made_source, parts, ended, source}
use Rattle.sv_parser.specs.Answers.{Decides}
use Rattle.sv_type_parser.proofs.Rules.{Rule, several, tree_reads, Way, choose_reads, choose_moved, ReadBy, reader_of, IsFirst, first_of_key, told_word, no_mark}
use Rattle.sv_type_parser.proofs.Words.{param_first, param_word_name}
use Rattle.sv_type_parser.proofs.Limits.{Over}
use Rattle.sv_type_parser.proofs.Params.{typedef_rule, param_tree_rule}
use Rattle.sv_stmt_parser.proofs.Steps.{NoColon}
use Rattle.sv_parser.proofs.Modules.{module_rule}

abbrev Top : Nesting → Type 0
Top = Over 201 201 201

-- ---- parts of a text

told_part : (w : Keyword) (i : List Token) → IsFirst (so.Keyword w) i → told (word_test part_by_word) i ≡ part_by_word w
told_part w i h = told_word part_by_word i ∙ ap (word_of part_by_word) h

param_begin : (w : ParamWord) → part_by_word (param_word_name w) ≡ Some part_by.Param
param_begin param_word.Parameter = refl
param_begin param_word.Localparam = refl

abbrev PartWay : Type 1
PartWay = Way Top 200 SourcePart SpellsPart part_depths NoColon

abbrev ways : PartOpener → PartWay
ways part_by.Module = record { A = Module; rule = module_rule; made = source_part.Module; nested = λ c. refl; to = λ c i o h. h; ends = λ o h. h }
ways part_by.Typedef = record { A = Typedef; rule = typedef_rule 201 201 200 (omega arith); made = source_part.Typedef; nested = λ c. refl; to = λ c i o h. h; ends = λ o h. tt }
ways part_by.Param = record { A = Param; rule = param_tree_rule 201 201 201 200 (omega arith); made = source_part.Param; nested = λ c. refl; to = λ c i o h. h; ends = λ o h. tt }

same : (c : PartOpener) → ◌≡◌ {A = Parser SourcePart} (reader_of (ways c)) (part_for c)
same part_by.Module = refl
same part_by.Typedef = refl
same part_by.Param = refl

view : (x : SourcePart) (i o : List Token) → SpellsPart x i o → (c : PartOpener) × (told (word_test part_by_word) i ≡ Some c) × ReadBy (ways c) x i o
unfolding keyword_text
view (source_part.Module x) i o h = (part_by.Module, told_part k.Module i (first_of_key k.Module i h.0 h.1), (x, refl, h))
view (source_part.Typedef x) i o h = (part_by.Typedef, told_part k.Typedef i (first_of_key k.Typedef i h.0 h.1), (x, refl, h))
view (source_part.Param x) i o h = (part_by.Param, told_part (param_word_name x.word) i (param_first x.word i h.0 h.1) ∙ param_begin x.word, (x, refl, h))

part_reads : IsReader Top 200 SpellsPart SpellsPart part_depths NoColon part
unfolding part
part_reads = choose_reads (word_test part_by_word) ways part_for same view

abbrev part_rule : Rule Top 200 SourcePart
part_rule = record { spelled = SpellsPart; nests = part_depths; stops = NoColon; parser = part; reads = part_reads; moved = choose_moved (word_test part_by_word) ways part_for same view }

part_begins : (x : SourcePart) (i o : List Token) → SpellsPart x i o → (c : PartOpener) × (told (word_test part_by_word) i ≡ Some c)
part_begins x i o h = let v = view x i o h in (v.0, v.1)

part_grows : (x : SourcePart) → 0 < length (part_depths x)
part_grows (source_part.Module x) = simp length-append (omega arith)
part_grows (source_part.Typedef x) = simp length-append (omega arith)
part_grows (source_part.Param x) = simp length-append (omega arith)

part_no_colon : (c : PartOpener) (i : List Token) → told (word_test part_by_word) i ≡ Some c → NoColon i
part_no_colon c i h = no_mark m.Colon (first_sort i) i (by_sort (first_sort i) (sym (told_word part_by_word i) ∙ h)) refl
  where
    by_sort : (y : _) → word_of part_by_word y ≡ Some c → is_mark m.Colon y ≡ false
    by_sort (so.Keyword w) h = refl
    by_sort (so.Mark w) h = absurd (cc)
    by_sort _ h = refl

-- ---- the whole text

abbrev all_parts : Rule Top 200 (List SourcePart)
all_parts = several (word_test part_by_word) part_rule part_begins (λ x i o h. part_grows x) part_no_colon

abbrev PartsStop : List Token → Type 0
PartsStop o = (told (word_test part_by_word) o ≡ None) × NoColon o

parts_reads : IsReader Top 200 SpellsSource SpellsSource source_depths PartsStop parts
unfolding parts
parts_reads = tree_reads all_parts made_source SpellsSource source_depths (λ c. refl) (λ c i o h. h) (λ x i o h. (x.parts, refl, h))

parts_moved : IsMoved SpellsSource source_depths
parts_moved = record { count = λ x i o h. all_parts.moved.count x.parts i o h; rest = λ x i o h. all_parts.moved.rest x.parts i o h }

stops_at_end : PartsStop []
stops_at_end = (refl, refl)

-- What is read up to the end of the tokens.
abbrev Whole : Source → List Token → Type 0
Whole x i = SpellsSource x i []

take_all : (n : ℕ) (l : List Token) → length l ≤ n → take n l ≡ l
take_all zero [] le = refl
take_all zero (a ∷ l) le = absurd (omega arith)
take_all (suc n) [] le = refl
take_all (suc n) (a ∷ l) le = ap (λ l. a ∷ l) (take_all n l (omega arith))

take_length : (n : ℕ) (l : List Token) → n ≤ length l → length (take n l) ≡ n
take_length zero l le = refl
take_length (suc n) [] le = absurd (omega arith)
take_length (suc n) (a ∷ l) le = let e = take_length n l (omega arith) in omega arith

-- a text that shares a token more than it has
too_short : (s i : List Token) (n m : ℕ) → take m s ≡ take m i → length s ≤ n → n < m → n < length i → ⊥
too_short s i n m same short under more =
    let a : length (take m s) ≡ length s = ap length (take_all m s (omega arith)) in
    let b = ap length same in by_length (cases_lt (length i) m)
  where
    by_length : (length i < m) ⊎ (m ≤ length i) → ⊥
    by_length (inl below) = let c = ap length (take_all m i (omega arith)) in let a = ap length (take_all m s (omega arith)) in let b = ap length same in omega arith
    by_length (inr above) = let c = take_length m i above in let a = ap length (take_all m s (omega arith)) in let b = ap length same in omega arith

ended_at : (x y : Source) (s : List Token) (m : ℕ) (i j : List Token) → Whole y s → take m s ≡ take m i → SpellsSource x i j → (length (source_depths x) < m → x ≡ y) → Agrees Top source_depths y m i (ended x j)
ended_at x y s m i [] h same read e = λ shown. e shown
ended_at x y s m i (a ∷ j) h same read e = by_length (cases_lt (length (source_depths x)) m)
  where
    by_length : (length (source_depths x) < m) ⊎ (m ≤ length (source_depths x)) → m + length (a ∷ j) ≤ length i
    by_length (inl under) =
        let c = parts_moved.count x i (a ∷ j) read in
        let d = parts_moved.count y s [] h in
        let f = ap (λ x. length (source_depths x)) (e under) in absurd (too_short s i (length (source_depths x)) m same (omega arith) under (omega arith))
    by_length (inr above) = let c = parts_moved.count x i (a ∷ j) read in omega arith

ended_agrees : (y : Source) (s : List Token) (m : ℕ) (i : List Token) (r : Outcome Source) → Whole y s → take m s ≡ take m i → Meets r (λ x j. SpellsSource x i j) → Agrees Top source_depths y m i r → Agrees Top source_depths y m i (and_then r ended)
ended_agrees y s m i (Ok p) h same read e = ended_at p.0 y s m i p.1 h same read e
ended_agrees y s m i (Err e) h same read a = a

source_agrees : (y : Source) (s : List Token) (m : ℕ) (i : List Token) → Whole y s → take m s ≡ take m i → Agrees Top source_depths y m i (source i)
unfolding source
source_agrees y s m i h same = ended_agrees y s m i (parts i) h same (parts_reads.sound i) (parts_reads.agrees y s [] m i h stops_at_end same)

ended_sound : (x : Source) (i j : List Token) → SpellsSource x i j → Meets (ended x j) (λ x j. Whole x i × (j ≡ []))
ended_sound x i [] h = (h, refl)
ended_sound x i (a ∷ j) h = tt

source_sound : (i : List Token) → Meets (source i) (λ x j. Whole x i × (j ≡ []))
unfolding source
source_sound i = then_meets (parts i) ended (λ x j. SpellsSource x i j) (λ x j. Whole x i × (j ≡ [])) (parts_reads.sound i) (λ x j h. ended_sound x i j h)

ended_placed : (r : Outcome Source) (i : List Token) → Placed 200 i r → Meets r (λ x j. SpellsSource x i j) → Placed 200 i (and_then r ended)
ended_placed (Ok p) i h read = by_end p.1 read
  where
    by_end : (j : List Token) → SpellsSource p.0 i j → Placed 200 i (ended p.0 j)
    by_end [] read = tt
    by_end (a ∷ j) read = let c = parts_moved.count p.0 i (a ∷ j) read in omega arith
ended_placed (Err e) i h read = h

source_placed : (i : List Token) → Placed 200 i (source i)
unfolding source
source_placed i = ended_placed (parts i) i (parts_reads.placed i) (parts_reads.sound i)

-- ---- what an outcome decides

over : (n : Nesting) → Top n → IsOver 200 n
over n (inl h) = inl (omega arith)
over n (inr (inl h)) = inr (inl (omega arith))
over n (inr (inr (inl h))) = inr (inr (inl (omega arith)))
over n (inr (inr (inr h))) = inr (inr (inr (omega arith)))

bad_over : (ns : Depths) (k : ℕ) → BadAt Top ns k → IsOverAt ns k
bad_over [] k h = absurd h
bad_over (n ∷ ns) zero h = (n, refl, over n h)
bad_over (n ∷ ns) (suc k) h = let g = bad_over ns k h in (g.0, g.1, g.2)

by_outcome : (i : List Token) (r : Outcome Source) → Meets r (λ x j. Whole x i × (j ≡ [])) → Placed 200 i r
    → ((y : Source) (s : List Token) (m : ℕ) → Whole y s → take m s ≡ take m i → Agrees Top source_depths y m i r) → Decides i r
by_outcome i (Ok p) read placed agrees = (read.0, read.1, λ y h. let c = parts_moved.count p.0 i [] read.0 in sym (agrees y i (length i + 1) h refl (omega arith)))
by_outcome i (Err Memory) read placed agrees = placed
by_outcome i (Err (Syntax left)) read placed agrees = (placed, (λ y h. let a = agrees y i (length i + 1) h refl in omega arith), λ y s m h same. agrees y s m h same)
by_outcome i (Err (TooDeep deep left)) read placed agrees = (
  length i - left,
  omega (arith, placed.1),
  omega (arith, placed.0),
  omega (arith, placed.0, placed.3),
  λ y s h same. bad_over (source_depths y) (length i - deep) (agrees y s (length i - left + 1) h same (omega (arith, placed.0))),
)

-- Reading a whole text decides.
pub decides : (i : List Token) → Decides i (source i)
decides i = by_outcome i (source i) (source_sound i) (source_placed i) (λ y s m h same. source_agrees y s m i h same)
