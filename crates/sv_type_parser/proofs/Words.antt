-- Words of the grammar: each is told by its keyword.
use Rattle.std.proofs.Common.{◌≡◌, ℕ, List, [], ◌∷◌, Some, is_some, refl, ap}
use Rattle.sv_outside.specs.declared.text.Token.{Token}
use Rattle.sv_tree.specs.declared.word.Word.{Word}
use Rattle.sv_tree.specs.Spelling.{Spelled, key, mark as mark_spelled}
use Rattle.sv_tree.specs.Nesting.{Nesting}
use Rattle.sv_cursor.specs.declared.sort.Keyword.{Keyword}
use Rattle.sv_cursor.specs.declared.sort.Keyword.TheVariants as key_of
use Rattle.sv_cursor.specs.declared.sort.Mark.{Mark as MarkName}
use Rattle.sv_cursor.specs.declared.sort.Mark.TheVariants as m
use Rattle.sv_cursor.specs.declared.sort.Sort.{Sort}
use Rattle.sv_cursor.specs.declared.sort.Sort.TheVariants as s
use Rattle.sv_cursor.specs.Sorts.{sort, keyword_text, mark_text}
use Rattle.sv_cursor.specs.Tests.{first_sort, id_by, id_test, is_id_sort}
use Rattle.sv_cursor.specs.Parsers.{told}
use Rattle.sv_tree.specs.declared.exprs.Sign.{Sign}
use Rattle.sv_tree.specs.declared.exprs.Sign.TheVariants as sign
use Rattle.sv_tree.specs.declared.forms.BitsWord.{BitsWord}
use Rattle.sv_tree.specs.declared.forms.BitsWord.TheVariants as bits_word
use Rattle.sv_tree.specs.declared.forms.WholeWord.{WholeWord}
use Rattle.sv_tree.specs.declared.forms.WholeWord.TheVariants as whole_word
use Rattle.sv_tree.specs.declared.design.ParamBits.{ParamBits}
use Rattle.sv_tree.specs.declared.design.ParamBits.TheVariants as param_bits_word
use Rattle.sv_tree.specs.declared.design.ParamWord.{ParamWord}
use Rattle.sv_tree.specs.declared.design.ParamWord.TheVariants as param_word
use Rattle.sv_tree.specs.declared.design.Way.{Way}
use Rattle.sv_tree.specs.declared.design.Way.TheVariants as way_word
use Rattle.sv_tree.specs.declared.design.NetWord.{NetWord}
use Rattle.sv_tree.specs.declared.design.NetWord.TheVariants as net_word
use Rattle.sv_tree.specs.declared.stmts.Uniq.{Uniq}
use Rattle.sv_tree.specs.declared.stmts.Uniq.TheVariants as uniq_word
use Rattle.sv_tree.specs.declared.stmts.CaseWord.{CaseWord}
use Rattle.sv_tree.specs.declared.stmts.CaseWord.TheVariants as case_word
use Rattle.sv_tree.specs.declared.stmts.Edge.{Edge}
use Rattle.sv_tree.specs.declared.stmts.Edge.TheVariants as edge_word
use Rattle.sv_tree.specs.declared.stmts.StepMark.{StepMark}
use Rattle.sv_tree.specs.declared.stmts.StepMark.TheVariants as step_mark
use Rattle.sv_tree.specs.declared.stmts.StepSign.{StepSign}
use Rattle.sv_tree.specs.declared.stmts.StepSign.TheVariants as step_sign
use Rattle.sv_tree.specs.GrammarForms.{sign_key, bits_key, whole_key, param_bits_key, param_key, way_key, net_key}
use Rattle.sv_tree.specs.GrammarStmts.{uniq_key, case_key, edge_key, step_text, step_sign_text}
use Rattle.sv_word_parser.specs.Combined.{word_test, sign_test}
use Rattle.sv_word_parser.specs.Words.{sign_by_word, bits_by_word, whole_by_word, param_bits_by_word, param_by_word, way_by_word, net_by_word, uniq_by_word, case_by_word, edge_by_word, step_by_mark, step_sign_by_mark}
use Rattle.sv_type_parser.proofs.Rules.{Rule, IsFirst, keyword_rule, keyword_first, keyword_begins, marks_rule, marks_first, marks_begins}

-- ---- names

id_seen : (x : Sort) (w : Word) → is_some (id_by x w) ≡ is_id_sort x
id_seen s.Other w = refl
id_seen s.Id w = refl
id_seen s.Literal w = refl
id_seen (s.Keyword k) w = refl
id_seen (s.Mark m) w = refl
id_seen (s.System n) w = refl

-- whether a name comes next is told by the sort
pub name_seen : (i : List Token) → is_some (told id_test i) ≡ is_id_sort (first_sort i)
unfolding id_test
name_seen [] = refl
name_seen (a ∷ t) = id_seen (sort a) (record { text = a.text; place = a.place })

-- ---- sign

abbrev pub sign_word_name : Sign → Keyword
sign_word_name sign.Signed = key_of.Signed
sign_word_name sign.Unsigned = key_of.Unsigned

pub sign_is : (x : Sign) → sign_by_word (sign_word_name x) ≡ Some x
sign_is sign.Signed = refl
sign_is sign.Unsigned = refl

pub sign_so : (k : Keyword) (x : Sign) → sign_by_word k ≡ Some x → k ≡ sign_word_name x
sign_so key_of.Signed x h = let e : sign.Signed ≡ x = cc in ap sign_word_name e
sign_so key_of.Unsigned x h = let e : sign.Unsigned ≡ x = cc in ap sign_word_name e
sign_so _ x h = absurd (cc)

pub sign_texts : (x : Sign) → ◌≡◌ {A = Spelled} (sign_key x) (key (keyword_text (sign_word_name x)))
unfolding keyword_text
sign_texts sign.Signed = refl
sign_texts sign.Unsigned = refl

abbrev pub sign_rule : (Bad : Nesting → Type 0) (depth : ℕ) → Rule Bad depth Sign
sign_rule = keyword_rule sign_by_word sign_word_name sign_key sign_is sign_so sign_texts

pub sign_first : (x : Sign) (i o : List Token) → sign_key x i o → IsFirst (s.Keyword (sign_word_name x)) i
sign_first = keyword_first sign_by_word sign_word_name sign_key sign_is sign_so sign_texts

pub sign_begins : (x : Sign) (i o : List Token) → sign_key x i o → (x : Sign) × (told (word_test sign_by_word) i ≡ Some x)
sign_begins = keyword_begins sign_by_word sign_word_name sign_key sign_is sign_so sign_texts

-- ---- bits

abbrev pub bits_word_name : BitsWord → Keyword
bits_word_name bits_word.Logic = key_of.Logic
bits_word_name bits_word.Reg = key_of.Reg

pub bits_is : (x : BitsWord) → bits_by_word (bits_word_name x) ≡ Some x
bits_is bits_word.Logic = refl
bits_is bits_word.Reg = refl

pub bits_so : (k : Keyword) (x : BitsWord) → bits_by_word k ≡ Some x → k ≡ bits_word_name x
bits_so key_of.Logic x h = let e : bits_word.Logic ≡ x = cc in ap bits_word_name e
bits_so key_of.Reg x h = let e : bits_word.Reg ≡ x = cc in ap bits_word_name e
bits_so _ x h = absurd (cc)

pub bits_texts : (x : BitsWord) → ◌≡◌ {A = Spelled} (bits_key x) (key (keyword_text (bits_word_name x)))
unfolding keyword_text
bits_texts bits_word.Logic = refl
bits_texts bits_word.Reg = refl

abbrev pub bits_rule : (Bad : Nesting → Type 0) (depth : ℕ) → Rule Bad depth BitsWord
bits_rule = keyword_rule bits_by_word bits_word_name bits_key bits_is bits_so bits_texts

pub bits_first : (x : BitsWord) (i o : List Token) → bits_key x i o → IsFirst (s.Keyword (bits_word_name x)) i
bits_first = keyword_first bits_by_word bits_word_name bits_key bits_is bits_so bits_texts

pub bits_begins : (x : BitsWord) (i o : List Token) → bits_key x i o → (x : BitsWord) × (told (word_test bits_by_word) i ≡ Some x)
bits_begins = keyword_begins bits_by_word bits_word_name bits_key bits_is bits_so bits_texts

-- ---- whole

abbrev pub whole_word_name : WholeWord → Keyword
whole_word_name whole_word.Int = key_of.Int
whole_word_name whole_word.Integer = key_of.Integer

pub whole_is : (x : WholeWord) → whole_by_word (whole_word_name x) ≡ Some x
whole_is whole_word.Int = refl
whole_is whole_word.Integer = refl

pub whole_so : (k : Keyword) (x : WholeWord) → whole_by_word k ≡ Some x → k ≡ whole_word_name x
whole_so key_of.Int x h = let e : whole_word.Int ≡ x = cc in ap whole_word_name e
whole_so key_of.Integer x h = let e : whole_word.Integer ≡ x = cc in ap whole_word_name e
whole_so _ x h = absurd (cc)

pub whole_texts : (x : WholeWord) → ◌≡◌ {A = Spelled} (whole_key x) (key (keyword_text (whole_word_name x)))
unfolding keyword_text
whole_texts whole_word.Int = refl
whole_texts whole_word.Integer = refl

abbrev pub whole_rule : (Bad : Nesting → Type 0) (depth : ℕ) → Rule Bad depth WholeWord
whole_rule = keyword_rule whole_by_word whole_word_name whole_key whole_is whole_so whole_texts

pub whole_first : (x : WholeWord) (i o : List Token) → whole_key x i o → IsFirst (s.Keyword (whole_word_name x)) i
whole_first = keyword_first whole_by_word whole_word_name whole_key whole_is whole_so whole_texts

pub whole_begins : (x : WholeWord) (i o : List Token) → whole_key x i o → (x : WholeWord) × (told (word_test whole_by_word) i ≡ Some x)
whole_begins = keyword_begins whole_by_word whole_word_name whole_key whole_is whole_so whole_texts

-- ---- param_bits

abbrev pub param_bits_word_name : ParamBits → Keyword
param_bits_word_name param_bits_word.Bit = key_of.Bit
param_bits_word_name param_bits_word.Logic = key_of.Logic
param_bits_word_name param_bits_word.Reg = key_of.Reg

pub param_bits_is : (x : ParamBits) → param_bits_by_word (param_bits_word_name x) ≡ Some x
param_bits_is param_bits_word.Bit = refl
param_bits_is param_bits_word.Logic = refl
param_bits_is param_bits_word.Reg = refl

pub param_bits_so : (k : Keyword) (x : ParamBits) → param_bits_by_word k ≡ Some x → k ≡ param_bits_word_name x
param_bits_so key_of.Bit x h = let e : param_bits_word.Bit ≡ x = cc in ap param_bits_word_name e
param_bits_so key_of.Logic x h = let e : param_bits_word.Logic ≡ x = cc in ap param_bits_word_name e
param_bits_so key_of.Reg x h = let e : param_bits_word.Reg ≡ x = cc in ap param_bits_word_name e
param_bits_so _ x h = absurd (cc)

pub param_bits_texts : (x : ParamBits) → ◌≡◌ {A = Spelled} (param_bits_key x) (key (keyword_text (param_bits_word_name x)))
unfolding keyword_text
param_bits_texts param_bits_word.Bit = refl
param_bits_texts param_bits_word.Logic = refl
param_bits_texts param_bits_word.Reg = refl

abbrev pub param_bits_rule : (Bad : Nesting → Type 0) (depth : ℕ) → Rule Bad depth ParamBits
param_bits_rule = keyword_rule param_bits_by_word param_bits_word_name param_bits_key param_bits_is param_bits_so param_bits_texts

pub param_bits_first : (x : ParamBits) (i o : List Token) → param_bits_key x i o → IsFirst (s.Keyword (param_bits_word_name x)) i
param_bits_first = keyword_first param_bits_by_word param_bits_word_name param_bits_key param_bits_is param_bits_so param_bits_texts

pub param_bits_begins : (x : ParamBits) (i o : List Token) → param_bits_key x i o → (x : ParamBits) × (told (word_test param_bits_by_word) i ≡ Some x)
param_bits_begins = keyword_begins param_bits_by_word param_bits_word_name param_bits_key param_bits_is param_bits_so param_bits_texts

-- ---- param

abbrev pub param_word_name : ParamWord → Keyword
param_word_name param_word.Parameter = key_of.Parameter
param_word_name param_word.Localparam = key_of.Localparam

pub param_is : (x : ParamWord) → param_by_word (param_word_name x) ≡ Some x
param_is param_word.Parameter = refl
param_is param_word.Localparam = refl

pub param_so : (k : Keyword) (x : ParamWord) → param_by_word k ≡ Some x → k ≡ param_word_name x
param_so key_of.Parameter x h = let e : param_word.Parameter ≡ x = cc in ap param_word_name e
param_so key_of.Localparam x h = let e : param_word.Localparam ≡ x = cc in ap param_word_name e
param_so _ x h = absurd (cc)

pub param_texts : (x : ParamWord) → ◌≡◌ {A = Spelled} (param_key x) (key (keyword_text (param_word_name x)))
unfolding keyword_text
param_texts param_word.Parameter = refl
param_texts param_word.Localparam = refl

abbrev pub param_rule : (Bad : Nesting → Type 0) (depth : ℕ) → Rule Bad depth ParamWord
param_rule = keyword_rule param_by_word param_word_name param_key param_is param_so param_texts

pub param_first : (x : ParamWord) (i o : List Token) → param_key x i o → IsFirst (s.Keyword (param_word_name x)) i
param_first = keyword_first param_by_word param_word_name param_key param_is param_so param_texts

pub param_begins : (x : ParamWord) (i o : List Token) → param_key x i o → (x : ParamWord) × (told (word_test param_by_word) i ≡ Some x)
param_begins = keyword_begins param_by_word param_word_name param_key param_is param_so param_texts

-- ---- way

abbrev pub way_word_name : Way → Keyword
way_word_name way_word.Input = key_of.Input
way_word_name way_word.Output = key_of.Output
way_word_name way_word.Inout = key_of.Inout

pub way_is : (x : Way) → way_by_word (way_word_name x) ≡ Some x
way_is way_word.Input = refl
way_is way_word.Output = refl
way_is way_word.Inout = refl

pub way_so : (k : Keyword) (x : Way) → way_by_word k ≡ Some x → k ≡ way_word_name x
way_so key_of.Input x h = let e : way_word.Input ≡ x = cc in ap way_word_name e
way_so key_of.Output x h = let e : way_word.Output ≡ x = cc in ap way_word_name e
way_so key_of.Inout x h = let e : way_word.Inout ≡ x = cc in ap way_word_name e
way_so _ x h = absurd (cc)

pub way_texts : (x : Way) → ◌≡◌ {A = Spelled} (way_key x) (key (keyword_text (way_word_name x)))
unfolding keyword_text
way_texts way_word.Input = refl
way_texts way_word.Output = refl
way_texts way_word.Inout = refl

abbrev pub way_rule : (Bad : Nesting → Type 0) (depth : ℕ) → Rule Bad depth Way
way_rule = keyword_rule way_by_word way_word_name way_key way_is way_so way_texts

pub way_first : (x : Way) (i o : List Token) → way_key x i o → IsFirst (s.Keyword (way_word_name x)) i
way_first = keyword_first way_by_word way_word_name way_key way_is way_so way_texts

pub way_begins : (x : Way) (i o : List Token) → way_key x i o → (x : Way) × (told (word_test way_by_word) i ≡ Some x)
way_begins = keyword_begins way_by_word way_word_name way_key way_is way_so way_texts

-- ---- net

abbrev pub net_word_name : NetWord → Keyword
net_word_name net_word.Wire = key_of.Wire
net_word_name net_word.Tri = key_of.Tri

pub net_is : (x : NetWord) → net_by_word (net_word_name x) ≡ Some x
net_is net_word.Wire = refl
net_is net_word.Tri = refl

pub net_so : (k : Keyword) (x : NetWord) → net_by_word k ≡ Some x → k ≡ net_word_name x
net_so key_of.Wire x h = let e : net_word.Wire ≡ x = cc in ap net_word_name e
net_so key_of.Tri x h = let e : net_word.Tri ≡ x = cc in ap net_word_name e
net_so _ x h = absurd (cc)

pub net_texts : (x : NetWord) → ◌≡◌ {A = Spelled} (net_key x) (key (keyword_text (net_word_name x)))
unfolding keyword_text
net_texts net_word.Wire = refl
net_texts net_word.Tri = refl

abbrev pub net_rule : (Bad : Nesting → Type 0) (depth : ℕ) → Rule Bad depth NetWord
net_rule = keyword_rule net_by_word net_word_name net_key net_is net_so net_texts

pub net_first : (x : NetWord) (i o : List Token) → net_key x i o → IsFirst (s.Keyword (net_word_name x)) i
net_first = keyword_first net_by_word net_word_name net_key net_is net_so net_texts

pub net_begins : (x : NetWord) (i o : List Token) → net_key x i o → (x : NetWord) × (told (word_test net_by_word) i ≡ Some x)
net_begins = keyword_begins net_by_word net_word_name net_key net_is net_so net_texts

-- ---- uniq

abbrev pub uniq_word_name : Uniq → Keyword
uniq_word_name uniq_word.Unique = key_of.Unique
uniq_word_name uniq_word.Unique0 = key_of.Unique0
uniq_word_name uniq_word.Priority = key_of.Priority

pub uniq_is : (x : Uniq) → uniq_by_word (uniq_word_name x) ≡ Some x
uniq_is uniq_word.Unique = refl
uniq_is uniq_word.Unique0 = refl
uniq_is uniq_word.Priority = refl

pub uniq_so : (k : Keyword) (x : Uniq) → uniq_by_word k ≡ Some x → k ≡ uniq_word_name x
uniq_so key_of.Unique x h = let e : uniq_word.Unique ≡ x = cc in ap uniq_word_name e
uniq_so key_of.Unique0 x h = let e : uniq_word.Unique0 ≡ x = cc in ap uniq_word_name e
uniq_so key_of.Priority x h = let e : uniq_word.Priority ≡ x = cc in ap uniq_word_name e
uniq_so _ x h = absurd (cc)

pub uniq_texts : (x : Uniq) → ◌≡◌ {A = Spelled} (uniq_key x) (key (keyword_text (uniq_word_name x)))
unfolding keyword_text
uniq_texts uniq_word.Unique = refl
uniq_texts uniq_word.Unique0 = refl
uniq_texts uniq_word.Priority = refl

abbrev pub uniq_rule : (Bad : Nesting → Type 0) (depth : ℕ) → Rule Bad depth Uniq
uniq_rule = keyword_rule uniq_by_word uniq_word_name uniq_key uniq_is uniq_so uniq_texts

pub uniq_first : (x : Uniq) (i o : List Token) → uniq_key x i o → IsFirst (s.Keyword (uniq_word_name x)) i
uniq_first = keyword_first uniq_by_word uniq_word_name uniq_key uniq_is uniq_so uniq_texts

pub uniq_begins : (x : Uniq) (i o : List Token) → uniq_key x i o → (x : Uniq) × (told (word_test uniq_by_word) i ≡ Some x)
uniq_begins = keyword_begins uniq_by_word uniq_word_name uniq_key uniq_is uniq_so uniq_texts

-- ---- case

abbrev pub case_word_name : CaseWord → Keyword
case_word_name case_word.Case = key_of.Case
case_word_name case_word.Casez = key_of.Casez

pub case_is : (x : CaseWord) → case_by_word (case_word_name x) ≡ Some x
case_is case_word.Case = refl
case_is case_word.Casez = refl

pub case_so : (k : Keyword) (x : CaseWord) → case_by_word k ≡ Some x → k ≡ case_word_name x
case_so key_of.Case x h = let e : case_word.Case ≡ x = cc in ap case_word_name e
case_so key_of.Casez x h = let e : case_word.Casez ≡ x = cc in ap case_word_name e
case_so _ x h = absurd (cc)

pub case_texts : (x : CaseWord) → ◌≡◌ {A = Spelled} (case_key x) (key (keyword_text (case_word_name x)))
unfolding keyword_text
case_texts case_word.Case = refl
case_texts case_word.Casez = refl

abbrev pub case_rule : (Bad : Nesting → Type 0) (depth : ℕ) → Rule Bad depth CaseWord
case_rule = keyword_rule case_by_word case_word_name case_key case_is case_so case_texts

pub case_first : (x : CaseWord) (i o : List Token) → case_key x i o → IsFirst (s.Keyword (case_word_name x)) i
case_first = keyword_first case_by_word case_word_name case_key case_is case_so case_texts

pub case_begins : (x : CaseWord) (i o : List Token) → case_key x i o → (x : CaseWord) × (told (word_test case_by_word) i ≡ Some x)
case_begins = keyword_begins case_by_word case_word_name case_key case_is case_so case_texts

-- ---- edge

abbrev pub edge_word_name : Edge → Keyword
edge_word_name edge_word.Pos = key_of.Posedge
edge_word_name edge_word.Neg = key_of.Negedge

pub edge_is : (x : Edge) → edge_by_word (edge_word_name x) ≡ Some x
edge_is edge_word.Pos = refl
edge_is edge_word.Neg = refl

pub edge_so : (k : Keyword) (x : Edge) → edge_by_word k ≡ Some x → k ≡ edge_word_name x
edge_so key_of.Posedge x h = let e : edge_word.Pos ≡ x = cc in ap edge_word_name e
edge_so key_of.Negedge x h = let e : edge_word.Neg ≡ x = cc in ap edge_word_name e
edge_so _ x h = absurd (cc)

pub edge_texts : (x : Edge) → ◌≡◌ {A = Spelled} (edge_key x) (key (keyword_text (edge_word_name x)))
unfolding keyword_text
edge_texts edge_word.Pos = refl
edge_texts edge_word.Neg = refl

abbrev pub edge_rule : (Bad : Nesting → Type 0) (depth : ℕ) → Rule Bad depth Edge
edge_rule = keyword_rule edge_by_word edge_word_name edge_key edge_is edge_so edge_texts

pub edge_first : (x : Edge) (i o : List Token) → edge_key x i o → IsFirst (s.Keyword (edge_word_name x)) i
edge_first = keyword_first edge_by_word edge_word_name edge_key edge_is edge_so edge_texts

pub edge_begins : (x : Edge) (i o : List Token) → edge_key x i o → (x : Edge) × (told (word_test edge_by_word) i ≡ Some x)
edge_begins = keyword_begins edge_by_word edge_word_name edge_key edge_is edge_so edge_texts

-- ---- step

abbrev pub step_mark_name : StepMark → MarkName
step_mark_name step_mark.Inc = m.Increment
step_mark_name step_mark.Dec = m.Decrement

pub step_is : (x : StepMark) → step_by_mark (step_mark_name x) ≡ Some x
step_is step_mark.Inc = refl
step_is step_mark.Dec = refl

pub step_so : (k : MarkName) (x : StepMark) → step_by_mark k ≡ Some x → k ≡ step_mark_name x
step_so m.Increment x h = let e : step_mark.Inc ≡ x = cc in ap step_mark_name e
step_so m.Decrement x h = let e : step_mark.Dec ≡ x = cc in ap step_mark_name e
step_so _ x h = absurd (cc)

abbrev pub step_spelled : StepMark → Spelled
step_spelled x = mark_spelled (step_text x)

pub step_texts : (x : StepMark) → ◌≡◌ {A = Spelled} (step_spelled x) (mark_spelled (mark_text (step_mark_name x)))
unfolding mark_text
step_texts step_mark.Inc = refl
step_texts step_mark.Dec = refl

abbrev pub step_rule : (Bad : Nesting → Type 0) (depth : ℕ) → Rule Bad depth StepMark
step_rule = marks_rule step_by_mark step_mark_name step_spelled step_is step_so step_texts

pub step_first : (x : StepMark) (i o : List Token) → step_spelled x i o → IsFirst (s.Mark (step_mark_name x)) i
step_first = marks_first step_by_mark step_mark_name step_spelled step_is step_so step_texts

pub step_begins : (x : StepMark) (i o : List Token) → step_spelled x i o → (x : StepMark) × (told (sign_test step_by_mark) i ≡ Some x)
step_begins = marks_begins step_by_mark step_mark_name step_spelled step_is step_so step_texts

-- ---- step_sign

abbrev pub step_sign_mark_name : StepSign → MarkName
step_sign_mark_name step_sign.Set = m.Assign
step_sign_mark_name step_sign.Add = m.PlusAssign
step_sign_mark_name step_sign.Sub = m.MinusAssign

pub step_sign_is : (x : StepSign) → step_sign_by_mark (step_sign_mark_name x) ≡ Some x
step_sign_is step_sign.Set = refl
step_sign_is step_sign.Add = refl
step_sign_is step_sign.Sub = refl

pub step_sign_so : (k : MarkName) (x : StepSign) → step_sign_by_mark k ≡ Some x → k ≡ step_sign_mark_name x
step_sign_so m.Assign x h = let e : step_sign.Set ≡ x = cc in ap step_sign_mark_name e
step_sign_so m.PlusAssign x h = let e : step_sign.Add ≡ x = cc in ap step_sign_mark_name e
step_sign_so m.MinusAssign x h = let e : step_sign.Sub ≡ x = cc in ap step_sign_mark_name e
step_sign_so _ x h = absurd (cc)

abbrev pub step_sign_spelled : StepSign → Spelled
step_sign_spelled x = mark_spelled (step_sign_text x)

pub step_sign_texts : (x : StepSign) → ◌≡◌ {A = Spelled} (step_sign_spelled x) (mark_spelled (mark_text (step_sign_mark_name x)))
unfolding mark_text
step_sign_texts step_sign.Set = refl
step_sign_texts step_sign.Add = refl
step_sign_texts step_sign.Sub = refl

abbrev pub step_sign_rule : (Bad : Nesting → Type 0) (depth : ℕ) → Rule Bad depth StepSign
step_sign_rule = marks_rule step_sign_by_mark step_sign_mark_name step_sign_spelled step_sign_is step_sign_so step_sign_texts

pub step_sign_first : (x : StepSign) (i o : List Token) → step_sign_spelled x i o → IsFirst (s.Mark (step_sign_mark_name x)) i
step_sign_first = marks_first step_sign_by_mark step_sign_mark_name step_sign_spelled step_sign_is step_sign_so step_sign_texts

pub step_sign_begins : (x : StepSign) (i o : List Token) → step_sign_spelled x i o → (x : StepSign) × (told (sign_test step_sign_by_mark) i ≡ Some x)
step_sign_begins = marks_begins step_sign_by_mark step_sign_mark_name step_sign_spelled step_sign_is step_sign_so step_sign_texts
