-- Lengths, signs, values and faults of small expressions, worked out by hand.
use Rattle.std.proofs.Common.{◌≡◌, ℕ, Bool, true, false, List, [], ◌∷◌, ◌++◌, replicate, refl, codes}
use Rattle.fourvec.specs.declared.Bit.{Bit}
use Rattle.fourvec.specs.declared.Bit.TheVariants.{Zero, One, Unknown, Floating}
use Rattle.fourvec.specs.Bits.{vector}
use Rattle.sv_tree.specs.declared.exprs.Expr.{Expr}
use Rattle.sv_tree.specs.declared.exprs.SystemName.TheVariants as system_name
use Rattle.sv_tree.specs.declared.exprs.UnaryOp.TheVariants as one
use Rattle.sv_tree.specs.declared.exprs.BinaryOp.TheVariants as two
use Rattle.sv_tree.specs.declared.exprs.Select.{Member}
use Rattle.sv_tree.specs.declared.exprs.RangeMark.TheVariants as range_mark
use Rattle.sv_meaning.specs.Patterns.{paren, cast_literal, cast_name, cast_paren, system, unary, choose, index, range}
use Rattle.sv_meaning.specs.Faults.{Faults, fault, unknown_name, bad_width, not_constant, literal_range, bad_select, out_of_scope}
use Rattle.sv_meaning.specs.Layouts.{Entry, Scope, scalar, number_is, signal_is, of_wires}
use Rattle.sv_meaning.specs.Meanings.{own, assigned, fixed_faults, free_faults}
use Rattle.sv_meaning.specs.Values.{mean}
use Rattle.sv_literal.specs.Meaning.{meaning_of}
use Rattle.sv_meaning.specs.Deeds.{mask, matches}
use Rattle.sv_meaning.specs.Deeds as deeds
use Rattle.sv_meaning.proofs.OnTrees.{expressions}
use Rattle.sv_meaning.proofs.Trees.{at, word, lit, name, selected, op, span, two_of, one_of, times, entries, scope, values}

-- its length, its sign, and its value where nothing stands against it
abbrev Is : Expr → ℕ → Bool → List Bit → Type 0
Is x size signed value = ((mean scope x).size ≡ size) × ((mean scope x).sign ≡ signed) × (own (mean scope x) values ≡ value) × (free_faults (mean scope x) ≡ [])

-- the right side of an assignment to so many bits
abbrev Gives : Expr → ℕ → List Bit → Type 0
Gives x w value = assigned (mean scope x) values w ≡ value

abbrev Refused : Expr → Faults → Type 0
Refused x why = free_faults (mean scope x) ≡ why

abbrev RefusedAsConstant : Expr → Faults → Type 0
RefusedAsConstant x why = fixed_faults (mean scope x) ≡ why

-- ---- lengths and values

-- a + b has the larger length: 15 + 1 in 6 bits
sum : Is (op (name 1 (codes "a")) two.Add 3 (name 5 (codes "b"))) 6 false (vector 6 16)
unfolding expressions
sum = (refl, refl, refl, refl)

-- s + 8'd1 is unsigned, since one operand is; s + 8'sd1 is signed
mixed : Is (op (name 1 (codes "s")) two.Add 3 (lit 5 (codes "8'd1"))) 8 false (vector 8 250)
unfolding expressions
mixed = (refl, refl, refl, refl)

-- -7 / 2 is -3 in 8 signed bits
quotient : Is (op (name 1 (codes "s")) two.Div 3 (lit 5 (codes "8'sd2"))) 8 true (vector 8 253)
unfolding expressions
quotient = (refl, refl, refl, refl)

-- a << b has the left operand's length
moved : Is (op (name 1 (codes "a")) two.Shl 3 (name 6 (codes "b"))) 4 false (vector 4 14)
unfolding expressions
moved = (refl, refl, refl, refl)

-- 8'd1 << (2'd3 + 2'd3): the right operand stands by itself, in 2 bits
moved_by_two : Is (op (lit 1 (codes "8'd1")) two.Shl 3 (op (lit 5 (codes "2'd3")) two.Add 7 (lit 9 (codes "2'd3")))) 8 false (vector 8 4)
unfolding expressions
moved_by_two = (refl, refl, refl, refl)

-- a < b has one bit, and its operands the larger length: 15 < 1 is false
less : Is (op (name 1 (codes "a")) two.Lt 3 (name 5 (codes "b"))) 1 false (vector 1 0)
unfolding expressions
less = (refl, refl, refl, refl)

-- {a + a} stands by itself: 14 in 4 bits, also where 6 bits are assigned; a + a in 6 bits is 30
alone : Gives (one_of 1 (op (name 2 (codes "a")) two.Add 4 (name 6 (codes "a")))) 6 (vector 6 14)
unfolding expressions
alone = refl

in_context : Gives (op (name 2 (codes "a")) two.Add 4 (name 6 (codes "a"))) 6 (vector 6 30)
unfolding expressions
in_context = refl

-- {a, b}: a above b
beside : Is (two_of 1 (name 2 (codes "a")) (name 5 (codes "b"))) 10 false (vector 10 961)
unfolding expressions
beside = (refl, refl, refl, refl)

-- {3{a}}
three_times : Is (times 1 (lit 2 (codes "3")) (name 4 (codes "a"))) 12 false (vector 12 4095)
unfolding expressions
three_times = (refl, refl, refl, refl)

-- 1'bx ? 2'b0z : 2'b0z is 2'b0x
unknown_choice : Is (choose (lit 1 (codes "1'bx")) (lit 8 (codes "2'b0z")) (lit 16 (codes "2'b0z"))) 2 false (Unknown ∷ Zero ∷ [])
unfolding expressions
unknown_choice = (refl, refl, refl, refl)

-- ---- literals in a longer context

-- in 40 bits `'bz` has Z at each, `'hx` X; a known bit above leaves zeros, and so does a size
all_floating : Gives (lit 1 (codes "'bz")) 40 (replicate 40 Floating)
unfolding expressions
all_floating = refl

all_unknown : Gives (lit 1 (codes "'hx")) 40 (replicate 40 Unknown)
unfolding expressions
all_unknown = refl

floating_above_one : Gives (lit 1 (codes "'bz1")) 40 (One ∷ replicate 39 Floating)
unfolding expressions
floating_above_one = refl

zero_above : Gives (lit 1 (codes "'b0x")) 40 (Unknown ∷ replicate 39 Zero)
unfolding expressions
zero_above = refl

sized_above : Gives (lit 1 (codes "32'hz")) 40 (replicate 32 Floating ++ replicate 8 Zero)
unfolding expressions
sized_above = refl

-- by itself it has 32 bits
floating : Is (lit 1 (codes "'bz")) 32 false (replicate 32 Floating)
unfolding expressions
floating = (refl, refl, refl, refl)

-- 1'b0 ? 40'd1 : 'bz
not_enabled : Is (choose (lit 1 (codes "1'b0")) (lit 8 (codes "40'd1")) (lit 16 (codes "'bz"))) 40 false (replicate 40 Floating)
unfolding expressions
not_enabled = (refl, refl, refl, refl)

-- 'hx & 40'd3 is 40'bxx above zeros
masked : Is (op (lit 1 (codes "'hx")) two.And 5 (lit 7 (codes "40'd3"))) 40 false (Unknown ∷ Unknown ∷ replicate 38 Zero)
unfolding expressions
masked = (refl, refl, refl, refl)

-- 40'hff_0000_0000 | 'hx has its ones above, and X where 'hx stands over zeros
over_unknown : Is (op (lit 1 (codes "40'hff_0000_0000")) two.Or 18 (lit 20 (codes "'hx"))) 40 false (replicate 32 Unknown ++ replicate 8 One)
unfolding expressions
over_unknown = (refl, refl, refl, refl)

-- 'hx + 40'd1
sum_with_unknown : Is (op (lit 1 (codes "'hx")) two.Add 5 (lit 7 (codes "40'd1"))) 40 false (replicate 40 Unknown)
unfolding expressions
sum_with_unknown = (refl, refl, refl, refl)

-- as a label of `casez` in 40 bits `'hz` masks all, `32'hz` the lowest 32, and `'bz1` all but the lowest
all_masked : mask 40 false (meaning_of (codes "'hz")) ≡ replicate 40 Zero
unfolding expressions
all_masked = refl

low_masked : mask 40 false (meaning_of (codes "32'hz")) ≡ replicate 32 Zero ++ replicate 8 One
unfolding expressions
low_masked = refl

one_compared : mask 40 false (meaning_of (codes "'bz1")) ≡ One ∷ replicate 39 Zero
unfolding expressions
one_compared = refl

-- casez (40'h80_0000_0000) 'hz: matches
wide_label : matches true 40 false (mean scope (lit 1 (codes "40'h80_0000_0000"))) values (mean scope (lit 20 (codes "'hz")) ∷ []) ≡ One ∷ []
unfolding expressions deeds.matches
wide_label = refl

-- ---- selects

-- u is 8'b10110001 and ascends: u[0:3] is its top half, u[1] is 0
ascending : Is (selected 1 (codes "u") (span 2 (lit 3 (codes "0")) (lit 5 (codes "3")))) 4 false (vector 4 11)
unfolding expressions
ascending = (refl, refl, refl, refl)

ascending_bit : Is (selected 1 (codes "u") (index (at 2) (lit 3 (codes "1")))) 1 false (vector 1 0)
unfolding expressions
ascending_bit = (refl, refl, refl, refl)

-- a[9] is no bit of a
out_of_range : Is (selected 1 (codes "a") (index (at 2) (lit 3 (codes "9")))) 1 false (Unknown ∷ [])
unfolding expressions
out_of_range = (refl, refl, refl, refl)

-- p.hi
member_of : Is (selected 1 (codes "p") (Member (at 2) (word 3 (codes "hi")))) 4 false (vector 4 9)
unfolding expressions
member_of = (refl, refl, refl, refl)

-- ---- casts and constants

-- 4'(b), t'(a): 3 bits, signed; signed'(a)
to_size : Is (cast_literal (word 1 (codes "4")) (name 4 (codes "b"))) 4 false (vector 4 1)
unfolding expressions
to_size = (refl, refl, refl, refl)

to_type : Is (cast_name (word 1 (codes "t")) (name 4 (codes "a"))) 3 true (vector 3 7)
unfolding expressions
to_type = (refl, refl, refl, refl)

-- 2 ** 3 is 8, `$clog2(9)` is 4
power : Is (op (lit 1 (codes "2")) two.Power 3 (lit 6 (codes "3"))) 32 true (vector 32 8)
unfolding expressions
power = (refl, refl, refl, refl)

log : Is (system system_name.Clog2 (at 1) (lit 8 (codes "9"))) 32 true (vector 32 4)
unfolding expressions
log = (refl, refl, refl, refl)

-- ---- faults

-- no name c
no_name : Refused (op (name 1 (codes "a")) two.Add 3 (name 5 (codes "c"))) (fault unknown_name (at 5))
unfolding expressions
no_name = refl

-- a net is no constant, and neither is c
no_constant : RefusedAsConstant (op (name 1 (codes "a")) two.Add 3 (name 5 (codes "c"))) (fault not_constant (at 1) ++ fault not_constant (at 5))
unfolding expressions
no_constant = refl

-- N is one; 1'bx is a constant, and not wholly known
constant : RefusedAsConstant (op (name 1 (codes "N")) two.Add 3 (lit 5 (codes "1"))) []
unfolding expressions
constant = refl

unknown_constant : RefusedAsConstant (op (name 1 (codes "N")) two.Add 3 (lit 5 (codes "1'bx"))) (fault not_constant (at 1))
unfolding expressions
unknown_constant = refl

-- 2 ** -1, at the first token; a ** 2, at the operator
below_zero : Refused (op (lit 1 (codes "2")) two.Power 3 (unary one.Minus (at 6) (lit 7 (codes "1")))) (fault not_constant (at 1))
unfolding expressions
below_zero = refl

variable_power : Refused (op (name 1 (codes "a")) two.Power 3 (lit 6 (codes "2"))) (fault out_of_scope (at 3))
unfolding expressions
variable_power = refl

-- {1, a}: an unsized literal in a concatenation; {(1), a} has 36 bits; {128{a}} has 512
loose_literal : Refused (two_of 1 (lit 2 (codes "1")) (name 5 (codes "a"))) (fault bad_width (at 2))
unfolding expressions
loose_literal = refl

in_parentheses : Refused (two_of 1 (paren (at 2) (lit 3 (codes "1"))) (name 7 (codes "a"))) []
unfolding expressions
in_parentheses = refl

too_wide : Refused (times 1 (lit 2 (codes "128")) (name 6 (codes "a"))) (fault bad_width (at 1))
unfolding expressions
too_wide = refl

-- 129'd0 has no width, 2147483648 needs a size
wide_literal : Refused (lit 1 (codes "129'd0")) (fault bad_width (at 1))
unfolding expressions
wide_literal = refl

large_literal : Refused (lit 1 (codes "2147483648")) (fault literal_range (at 1))
unfolding expressions
large_literal = refl

-- u[3:0] is written against its direction, p.no is no member, a[0][0] selects from a bit
against : Refused (selected 1 (codes "u") (span 2 (lit 3 (codes "3")) (lit 5 (codes "0")))) (fault bad_select (at 2))
unfolding expressions
against = refl

no_member : Refused (selected 1 (codes "p") (Member (at 2) (word 3 (codes "no")))) (fault bad_select (at 2))
unfolding expressions
no_member = refl

-- t'(a) where t is the net s: no size and no type
no_size : Refused (cast_name (word 1 (codes "s")) (name 4 (codes "a"))) (fault not_constant (at 1))
unfolding expressions
no_size = refl

-- ---- what a constant expression sees

-- a net P of one bit, which is 0, that is declared below, where these names are declared above
abbrev with_net_below : List Entry → Scope
with_net_below above = record { all = above ++ (codes "P", signal_is of_wires 5 (scalar false)) ∷ []; above = above }

-- with a constant P = 2 further out, and with none
abbrev hidden : Scope
hidden = with_net_below (entries ++ (codes "P", number_is (vector 32 2) true) ∷ [])

abbrev late : Scope
late = with_net_below entries

abbrev MeansHidden : Expr → ℕ → Bool → List Bit → Type 0
MeansHidden x size signed value =
    ((mean hidden x).size ≡ size) × ((mean hidden x).sign ≡ signed) × (own (mean hidden x) values ≡ value) × (free_faults (mean hidden x) ≡ [])

-- P itself is the net, as an operand and as an index: u[P] is the leftmost bit of u
net_itself : MeansHidden (name 1 (codes "P")) 1 false (vector 1 0)
unfolding expressions
net_itself = (refl, refl, refl, refl)

net_as_index : MeansHidden (selected 1 (codes "u") (index (at 2) (name 3 (codes "P")))) 1 false (vector 1 1)
unfolding expressions
net_as_index = (refl, refl, refl, refl)

net_is_no_constant : fixed_faults (mean hidden (selected 1 (codes "u") (index (at 2) (name 3 (codes "P"))))) ≡ fault not_constant (at 1)
unfolding expressions
net_is_no_constant = refl

-- {P{1'b1}} has two copies; with no constant further out P is none, at P
abbrev copied : Expr
copied = times 1 (name 2 (codes "P")) (lit 4 (codes "1'b1"))

two_copies : MeansHidden copied 2 false (vector 2 3)
unfolding expressions
two_copies = (refl, refl, refl, refl)

no_count : free_faults (mean late copied) ≡ fault not_constant (at 2)
unfolding expressions
no_count = refl

-- P'(b) and (P)'(b) have two bits, `$clog2(P)` is 1
size_by_name : MeansHidden (cast_name (word 1 (codes "P")) (name 4 (codes "b"))) 2 false (vector 2 1)
unfolding expressions
size_by_name = (refl, refl, refl, refl)

size_in_parentheses : MeansHidden (cast_paren (at 1) (name 2 (codes "P")) (name 6 (codes "b"))) 2 false (vector 2 1)
unfolding expressions
size_in_parentheses = (refl, refl, refl, refl)

log_of_constant : MeansHidden (system system_name.Clog2 (at 1) (name 8 (codes "P"))) 32 true (vector 32 1)
unfolding expressions
log_of_constant = (refl, refl, refl, refl)

no_log : free_faults (mean late (system system_name.Clog2 (at 1) (name 8 (codes "P")))) ≡ fault not_constant (at 8)
unfolding expressions
no_log = refl

-- u is 8'b10110001 and ascends: u[0:P] is u[0:2] and u[P:3] is u[2:3]; u[P +: P] is u[0 +: 2], as it begins at the net and its width is constant
to_constant : MeansHidden (selected 1 (codes "u") (span 2 (lit 3 (codes "0")) (name 5 (codes "P")))) 3 false (vector 3 5)
unfolding expressions
to_constant = (refl, refl, refl, refl)

from_constant : MeansHidden (selected 1 (codes "u") (span 2 (name 3 (codes "P")) (lit 5 (codes "3")))) 2 false (vector 2 3)
unfolding expressions
from_constant = (refl, refl, refl, refl)

up_from_net : MeansHidden (selected 1 (codes "u") (range (at 2) (name 3 (codes "P")) range_mark.Up (name 6 (codes "P")))) 2 false (vector 2 2)
unfolding expressions
up_from_net = (refl, refl, refl, refl)

no_bound : free_faults (mean late (selected 1 (codes "u") (span 2 (lit 3 (codes "0")) (name 5 (codes "P"))))) ≡ fault not_constant (at 5)
unfolding expressions
no_bound = refl
