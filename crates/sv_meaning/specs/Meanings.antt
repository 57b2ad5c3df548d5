-- What an expression means: its length, its sign, its value at the size of a context, and what stands against it. One rule for each
-- kind of operator. Sections are those of IEEE 1800-2017.
use Rattle.std.specs.Prelude.{ℕ, zero, suc, ◌+◌, ◌-◌, ◌*◌, ◌^◌, max, Bool, true, false, ◌&&◌, ◌||◌, not, nat_lt, nat_le, List, [], ◌∷◌, ◌++◌, length, take, replicate, Option, Some, None, ℤ, pos, negsuc, ◌+ℤ◌, ◌-ℤ◌, ◌*ℤ◌, nat_abs, int_lt, int_le, if◌then◌else◌}
use Rattle.fourvec.specs.declared.Bit.{Bit}
use Rattle.fourvec.specs.declared.Bit.TheVariants.{Unknown}
use Rattle.fourvec.specs.Bits.{first, top, number, signed, vector, is_known_bit, is_known, all_x, zext_of, sext_of, truth_of, cond_of}
use Rattle.fourvec.specs.Spots.{window}
use Rattle.sv_tree.specs.declared.exprs.RangeMark.{RangeMark}
use Rattle.sv_tree.specs.declared.exprs.RangeMark.TheVariants as mark
use Rattle.sv_literal.specs.declared.meaning.Literal.{Literal}
use Rattle.sv_literal.specs.Meaning.{meaning_of, is_wide, is_out_of_range}
use Rattle.sv_outside.specs.Literals.{is_literal}
use Rattle.sv_outside.specs.declared.refusal.Place.{Place}
use Rattle.sv_tree.specs.declared.word.Word.{Word}
use Rattle.sv_meaning.specs.Faults.{Faults, fault, fault_if, or_then, is_clear, bad_token, unknown_name, bad_width, not_constant, literal_range, bad_select, out_of_scope}
use Rattle.sv_meaning.specs.Layouts.{Name, Layout, dim, struct, width, is_signed, plain, goes_down, place_of, count_between, member_in, What, number_is, type_is, signal_is, NamedSignal, Read}

pub record Meaning : Type 0 where
  -- its own length and sign (11.6.1, 11.8.1)
  pub size : ℕ
  pub sign : Bool
  -- the value in a context of this length and sign
  pub value : Read → ℕ → Bool → List Bit
  -- each of its names is a constant
  pub constant : Bool
  -- what stands against it, where it has to be constant (true) and where it may name signals (false)
  pub faults : Bool → Faults
  -- the signals that it names, each at its width
  pub names : List NamedSignal
  -- the literal that it is
  pub literal : Option Literal
  -- where its first token stands
  pub start : Place

-- evaluated by itself
abbrev pub own : Meaning → Read → List Bit
own m read = m.value read m.size m.sign

-- no signal has a value
abbrev pub nowhere : Read
nowhere o n k = Unknown

abbrev pub whole : Bool → List Bit → ℤ
whole s a = if s then signed a else pos (number a)

abbrev pub constant_of : Meaning → List Bit
constant_of m = own m nowhere

abbrev pub number_of : Meaning → ℤ
number_of m = whole m.sign (constant_of m)

-- the value of a constant at the larger of a width and its own length
abbrev pub constant_at : ℕ → Meaning → List Bit
constant_at w m = m.value nowhere (max w m.size) m.sign

-- what stands against it where it has to be constant and wholly 0 and 1 (11.2.1; 0 and 1 is this project's rule)
abbrev pub fixed_faults : Meaning → Faults
fixed_faults m = or_then (m.faults true) (fault_if (not (is_known (constant_of m))) not_constant m.start)

-- the same, where that value counts
abbrev pub fixed_faults_at : ℕ → Meaning → Faults
fixed_faults_at w m = or_then (m.faults true) (fault_if (not (is_known (constant_at w m))) not_constant m.start)

-- what stands against it where it may name signals
abbrev pub free_faults : Meaning → Faults
free_faults m = m.faults false

abbrev pub is_width : ℕ → Bool
is_width n = nat_lt 0 n && nat_le n 128

abbrev pub extend : Bool → ℕ → List Bit → List Bit
extend s w a = if s then sext_of a w else zext_of a w

-- extended, or cut
abbrev pub fitted : Bool → ℕ → List Bit → List Bit
fitted s w a = take w (extend s w a)

-- the right side of an assignment to so many bits, section 10.7: evaluated at the larger of both lengths
abbrev pub assigned : Meaning → Read → ℕ → List Bit
assigned m read w = take w (m.value read (max w m.size) m.sign)

-- ---- parts that stand by themselves

-- Of so many bits and such a sign, whatever its context: extended by the sign of that.
abbrev pub standing : ℕ → Bool → (Read → List Bit) → Meaning → Meaning
standing n s f m = record m { size = n; sign = s; value = λ read w sign. extend sign w (f read); literal = None }

-- what has no value, and why
abbrev pub no_meaning : (Bool → Faults) → Place → Meaning
no_meaning all p = record { size = 1; sign = false; value = λ read w sign. all_x w; constant = false; faults = all; names = []; literal = None; start = p }

-- with one condition more, which is judged where nothing stands against the parts
abbrev pub needs : (Bool → Faults) → Meaning → Meaning
needs more m = record m { faults = λ c. or_then (m.faults c) (more c) }

-- what begins with a token before its parts
abbrev pub from : Place → Meaning → Meaning
from p m = record m { start = p; literal = None }

-- what two parts have together
abbrev pub joined : Meaning → Meaning → Meaning
joined a b = record a { constant = a.constant && b.constant; faults = λ c. a.faults c ++ b.faults c; names = a.names ++ b.names; literal = None }

-- ---- operators, table 11-21

-- unary + - ~
abbrev pub context_one : (List Bit → List Bit) → Meaning → Meaning
context_one f a = record a { value = λ read w s. f (a.value read w s); literal = None }

-- both operands of the context's size and sign
abbrev pub context_two : (Bool → List Bit → List Bit → List Bit) → Meaning → Meaning → Meaning
context_two f a b = record (joined a b) {
  size = max a.size b.size;
  sign = a.sign && b.sign;
  value = λ read w s. f s (a.value read w s) (b.value read w s);
}

-- the right operand by itself
abbrev pub shift : (Bool → List Bit → List Bit → List Bit) → Meaning → Meaning → Meaning
shift f a b = record (joined a b) { value = λ read w s. f s (a.value read w s) (own b read) }

-- both operands sized to the larger, and signed only where both are
abbrev pub comparison : (Bool → List Bit → List Bit → List Bit) → Meaning → Meaning → Meaning
comparison f a b =
    standing 1 false (λ read. f (a.sign && b.sign) (a.value read (max a.size b.size) (a.sign && b.sign)) (b.value read (max a.size b.size) (a.sign && b.sign))) (joined a b)

-- by the bits of one operand
abbrev pub reduction : (List Bit → List Bit) → Meaning → Meaning
reduction f a = standing 1 false (λ read. f (own a read)) a

-- 1 where some bit is 1, 0 where all are 0, else unknown
abbrev pub truth : Meaning → Read → Bit
truth a read = first (truth_of (own a read))

abbrev pub logical : (List Bit → List Bit → List Bit) → Meaning → Meaning → Meaning
logical f a b = standing 1 false (λ read. f (truth_of (own a read)) (truth_of (own b read))) (joined a b)

-- `? :`, section 11.4.11
abbrev pub chosen : Meaning → Meaning → Meaning → Meaning
chosen c a b = record (joined (joined c a) b) {
  size = max a.size b.size;
  sign = a.sign && b.sign;
  value = λ read w s. cond_of (truth_of (own c read)) (a.value read w s) (b.value read w s);
}

-- the product of so many copies, modulo 2 ^ w
abbrev pub power_of : ℕ → List Bit → ℕ → List Bit
power_of w a zero = vector w 1
power_of w a n = if is_known a then vector w (number a ^ n) else all_x w

abbrev pub to_power : ℕ → List Bit → ℤ → List Bit
to_power w a (pos n) = power_of w a n
to_power w a (negsuc n) = all_x w

-- `**` of constant operands (this project's bound), the exponent by its own sign and not below 0
abbrev pub power_faults : Place → Meaning → Meaning → Faults
power_faults p a b =
    or_then (fault_if (not (a.constant && b.constant)) out_of_scope p)
    (fault_if (is_known (constant_of b) && int_lt (number_of b) (pos 0)) not_constant a.start)

abbrev pub power : Place → Meaning → Meaning → Meaning
power p a b = needs (λ c. power_faults p a b) (record (joined a b) {
  value = λ read w s. if is_known (constant_of b) then to_power w (a.value nowhere w s) (number_of b) else all_x w;
})

-- ---- concatenations, section 11.4.12

abbrev pub is_sized : Meaning → Bool
is_sized m = all_sized m.literal
  where
    all_sized : Option Literal → Bool
    all_sized None = true
    all_sized (Some l) = l.sized

-- an unsized literal, or one that fills, may not stand directly in a concatenation
abbrev pub loose : Meaning → Faults
loose m = fault_if (not (is_sized m)) bad_width m.start

unfoldable pub all_loose : List Meaning → Faults
all_loose [] = []
all_loose (m ∷ more) = loose m ++ all_loose more

-- beside what is more significant
abbrev pub beside : Meaning → Meaning → Meaning
beside a b = standing (a.size + b.size) false (λ read. own b read ++ own a read) (joined a b)

abbrev pub nowhere_in_text : Place
nowhere_in_text = record { file = 0; line = 0; column = 0 }

abbrev pub empty : Meaning
empty = record { size = 0; sign = false; value = λ read w s. extend s w []; constant = true; faults = λ c. []; names = []; literal = None; start = nowhere_in_text }

-- The first is the most significant.
unfoldable pub parts : List Meaning → Meaning
parts [] = empty
parts (a ∷ more) = beside a (parts more)

abbrev pub concat : Place → List Meaning → Meaning
concat p all = needs (λ c. or_then (all_loose all) (fault_if (not (is_width (parts all).size)) bad_width p)) (from p (parts all))

unfoldable pub copies : ℕ → List Bit → List Bit
copies zero a = []
copies (suc n) a = a ++ copies n a

abbrev pub with_faults : (Bool → Faults) → Meaning → Meaning
with_faults all m = record m { faults = all }

-- the count is constant and at least 1
abbrev pub repeat_faults : Place → Meaning → List Meaning → Faults
repeat_faults p n all =
    or_then (all_loose all) (fault_if (not (int_lt (pos 0) (number_of n) && is_width (nat_abs (number_of n) * (parts all).size))) bad_width p)

abbrev pub repeated : Place → Meaning → List Meaning → Meaning
repeated p n all =
    needs (λ c. repeat_faults p n all) (with_faults (λ c. fixed_faults n ++ (parts all).faults c) (from p
    (standing (nat_abs (number_of n) * (parts all).size) false (λ read. copies (nat_abs (number_of n)) (own (parts all) read)) (parts all))))

-- ---- casts, section 6.24.1

abbrev pub to_sign : Bool → Meaning → Meaning
to_sign s a = standing a.size s (λ read. own a read) a

abbrev pub to_layout : Layout → Meaning → Meaning
to_layout t a = standing (width t) (is_signed t) (λ read. fitted a.sign (width t) (own a read)) a

-- a cast to a size, which is constant and a width
abbrev pub sized_by : Meaning → Meaning → Meaning
sized_by n a =
    needs (λ c. fault_if (not (int_lt (pos 0) (number_of n) && is_width (nat_abs (number_of n)))) bad_width n.start)
    (with_faults (λ c. fixed_faults n ++ a.faults c) (from n.start
    (standing (nat_abs (number_of n)) a.sign (λ read. fitted a.sign (nat_abs (number_of n)) (own a read)) a)))

-- the least k for which 2 ^ k is not below n
unfoldable pub log_from : ℕ → ℕ → ℕ → ℕ
log_from zero k n = k
log_from (suc f) k n = if nat_le n (2 ^ k) then k else log_from f (suc k) n

-- `$clog2`, section 20.8.1: its operand is constant wherever it stands, and its bits are an unsigned number
abbrev pub log_up : Meaning → Meaning
log_up a = record (standing 32 true (λ read. vector 32 (log_from 128 0 (number (constant_of a)))) a) { constant = true; faults = λ c. fixed_faults a; names = [] }

-- ---- selects, section 11.5.1

-- a select, with the place of its `.` or `[`
pub data Step : Type 0 where
  to_member : Place → Name → Step
  to_index : Place → Meaning → Step
  -- the two expressions of a range and the mark between them
  to_range : Place → Meaning → RangeMark → Meaning → Step

-- what a select names: the layout, and where it begins, which is nothing where its index is unknown
pub record Part : Type 0 where
  pub layout : Layout
  pub place : Read → Option ℤ

abbrev pub known_place : (ℤ → ℤ) → Meaning → Read → Option ℤ
known_place f m read = if is_known (own m read) then Some (f (whole m.sign (own m read))) else None

abbrev pub is_bound : ℤ → Bool
is_bound i = int_le (negsuc (2 ^ 31 - 1)) i && int_lt i (pos (2 ^ 31))

-- A range of constant bounds goes the declared way. Where one element is declared, both ways do.
abbrev pub goes_along : ℤ → ℤ → ℤ → ℤ → Bool
goes_along l r a b = if int_le l r && int_le r l then true else (if goes_down l r then int_le b a else int_le a b)

abbrev pub part_if : Bool → Part → Option Part
part_if b x = if b then Some x else None

-- so many elements
abbrev pub elements : ℕ → Layout → Layout
elements n each = dim false (pos (n - 1)) (pos 0) each

-- where the right end of a constant range begins
abbrev pub lowest : ℤ → ℤ → ℕ → ℤ → ℤ → ℤ
lowest l r w a b = if int_lt a b && int_le l r then (r -ℤ b) *ℤ pos w else place_of l r w b

-- what stands against a range, where its expressions are sound: bounds past 32 bits, a range against the declared direction, and more
-- than 128 bits; or a width below 1
abbrev pub range_faults : Place → ℤ → ℤ → Layout → Meaning → RangeMark → Meaning → Faults
range_faults p l r each a mark.To b =
    or_then (fault_if (not (is_bound (number_of a) && is_bound (number_of b))) bad_width p)
    (or_then (fault_if (not (goes_along l r (number_of a) (number_of b))) bad_select p)
    (fault_if (not (is_width (count_between (number_of a) (number_of b) * width each))) bad_width p))
range_faults p l r each a m b =
    or_then (fault_if (not (int_lt (pos 0) (number_of b))) bad_select p) (fault_if (not (is_width (nat_abs (number_of b) * width each))) bad_width p)

-- The bounds of a constant range, and the width of another, are constant. What an index is judged by comes first.
abbrev pub end_faults : (Meaning → Faults) → Meaning → RangeMark → Meaning → Faults
end_faults judge a mark.To b = fixed_faults a ++ fixed_faults b
end_faults judge a m b = judge a ++ fixed_faults b

abbrev pub no_faults : Meaning → Faults
no_faults m = []

-- the elements that a range select names, from the least significant one on
abbrev pub ranged : ℤ → ℤ → Layout → Meaning → RangeMark → Meaning → Part
ranged l r each a mark.To b = record {
  layout = elements (count_between (number_of a) (number_of b)) each;
  place = λ read. Some (lowest l r (width each) (number_of a) (number_of b));
}
ranged l r each a mark.Up b = record {
  layout = elements (nat_abs (number_of b)) each;
  place = known_place (λ i. place_of l r (width each) (if goes_down l r then i else i +ℤ (number_of b -ℤ pos 1))) a;
}
ranged l r each a mark.Down b = record {
  layout = elements (nat_abs (number_of b)) each;
  place = known_place (λ i. place_of l r (width each) (if goes_down l r then i -ℤ (number_of b -ℤ pos 1) else i)) a;
}

abbrev pub member_part : Option (ℕ × Layout) → Option Part
member_part None = None
member_part (Some m) = Some (record { layout = m.1; place = λ read. Some (pos m.0) })

abbrev pub step_in : Layout → Step → Option Part
step_in (struct s all) (to_member p n) = member_part (member_in n all)
step_in (dim s l r each) (to_index p i) = Some (record { layout = each; place = known_place (place_of l r (width each)) i })
step_in (dim s l r each) (to_range p a m b) =
    part_if (is_clear (or_then (end_faults no_faults a m b) (range_faults p l r each a m b))) (ranged l r each a m b)
step_in x s = None

-- ---- what stands against a chain of selects, each index being judged so

abbrev pub member_faults : Place → Option (ℕ × Layout) → Faults
member_faults p None = fault bad_select p
member_faults p (Some m) = []

abbrev pub step_faults : (Meaning → Faults) → Layout → Step → Faults
step_faults judge (struct s all) (to_member p n) = member_faults p (member_in n all)
step_faults judge x (to_member p n) = fault bad_select p
step_faults judge (dim s l r each) (to_index p i) = judge i
step_faults judge x (to_index p i) = judge i ++ fault bad_select p
step_faults judge (dim s l r each) (to_range p a m b) = or_then (end_faults judge a m b) (range_faults p l r each a m b)
step_faults judge x (to_range p a m b) = end_faults judge a m b ++ fault bad_select p

abbrev pub bits_at : Option ℤ → ℕ → List Bit → List Bit
bits_at None w a = all_x w
bits_at (Some p) w a = window a p w

abbrev pub with_part : {B : Type 0} → Option Part → B → (Part → B) → B
with_part None b f = b
with_part (Some p) b f = f p

-- what a chain of selects reads from the bits of such a layout
unfoldable pub chain_bits : Read → Layout → List Step → List Bit → List Bit
chain_bits read x [] a = a
chain_bits read x (s ∷ more) a = with_part (step_in x s) a (λ p. chain_bits read p.layout more (bits_at (p.place read) (width p.layout) a))

unfoldable pub chain_layout : Layout → List Step → Option Layout
chain_layout x [] = Some x
chain_layout x (s ∷ more) = with_part (step_in x s) None (λ p. chain_layout p.layout more)

unfoldable pub chain_faults : (Meaning → Faults) → Layout → List Step → Faults
chain_faults judge x [] = []
chain_faults judge x (s ∷ more) = or_then (step_faults judge x s) (with_part (step_in x s) [] (λ p. chain_faults judge p.layout more))

-- the indices of a select, as one expression
abbrev pub indices : Step → Meaning
indices (to_member p n) = empty
indices (to_index p i) = i
indices (to_range p a m b) = joined a b

unfoldable pub all_indices : List Step → Meaning
all_indices [] = empty
all_indices (s ∷ more) = joined (indices s) (all_indices more)

-- ---- names

-- so many bits from a place on
unfoldable pub bits_from : (ℕ → Bit) → ℕ → ℕ → List Bit
bits_from f k zero = []
bits_from f k (suc w) = f k ∷ bits_from f (suc k) w

-- so many bits of such a layout, where the chain of selects is sound
abbrev pub selected : Option Layout → Bool → (Bool → Faults) → Place → List NamedSignal → List Step → Layout → (Read → List Bit) → Meaning
selected None c why p names all x f = no_meaning why p
selected (Some y) c why p names all x f =
    standing (width y) (is_signed y) (λ read. chain_bits read x all (f read))
    (record (all_indices all) { constant = c && (all_indices all).constant; faults = why; names = names ++ (all_indices all).names; start = p })

-- in a constant expression each index is constant too
abbrev pub index_faults : Layout → List Step → Bool → Faults
index_faults x all c = chain_faults (λ m. m.faults c) x all

-- a constant reads as [w-1:0], where w is its size (this project's rule)
abbrev pub constant_named : Bool → Word → List Bit → Bool → List Step → Meaning
constant_named true w v s all =
    selected (chain_layout (plain (length v) s) all) true (index_faults (plain (length v) s) all) w.place [] all (plain (length v) s) (λ read. v)
constant_named false w v s all = no_meaning (λ c. fault not_constant w.place) w.place

-- a signal is no constant
abbrev pub signal_faults : Place → Layout → List Step → Bool → Faults
signal_faults p x all c = if c then fault not_constant p else index_faults x all false

-- a name that stands for no value
abbrev pub no_value : Place → Bool → Faults
no_value p c = if c then fault not_constant p else fault unknown_name p

abbrev pub named : Word → Option What → List Step → Meaning
named w (Some (number_is v s)) all = constant_named (nat_lt 0 (length v)) w v s all
named w (Some (signal_is o n x)) all =
    selected (chain_layout x all) false (signal_faults w.place x all) w.place (record { owner = o; number = n; width = width x } ∷ []) all x (λ read. bits_from (read o n) 0 (width x))
named w x all = no_meaning (no_value w.place) w.place

-- a cast to the size or the type that a name gives
abbrev pub cast_to : Word → Option What → Meaning → Meaning
cast_to w (Some (type_is t)) a = from w.place (to_layout t a)
cast_to w (Some (number_is v s)) a = sized_by (named w (Some (number_is v s)) []) a
cast_to w None a = no_meaning (λ c. no_value w.place c ++ a.faults c) w.place
cast_to w x a = no_meaning (λ c. fault not_constant w.place ++ a.faults c) w.place

-- a size that is no width, or a number that needs more than 32 bits and has no size
abbrev pub literal_faults : Word → Faults
literal_faults w =
    or_then (fault_if (not (is_literal w.text)) bad_token w.place)
    (or_then (fault_if (is_wide w.text) bad_width w.place) (fault_if (is_out_of_range w.text) literal_range w.place))

-- section 5.7.1: an X or Z that is the highest bit of a literal without a size goes on in a longer context
abbrev pub top_goes_on : Literal → Bool
top_goes_on l = not l.sized && not (is_known_bit (top l.value))

-- the bits of a literal in a context of such a length and sign
abbrev pub literal_value : Literal → ℕ → Bool → List Bit
literal_value l w s = if l.fill then replicate w (first l.value) else extend (top_goes_on l || s) w l.value

abbrev pub literal_meaning : Faults → Place → Literal → Meaning
literal_meaning all p l = record {
  size = length l.value;
  sign = l.signed;
  value = λ read w s. literal_value l w s;
  constant = true;
  faults = λ c. all;
  names = [];
  literal = Some l;
  start = p;
}

abbrev pub of_literal : Word → Meaning
of_literal w = literal_meaning (literal_faults w) w.place (meaning_of w.text)
