-- Four-valued bits and vectors. A vector is the list of its bits, the least significant first.
-- Sections are those of IEEE 1800-2017. A bit is unknown where it is X or Z.
use Rattle.std.specs.Prelude.{ℕ, zero, suc, ◌+◌, ◌-◌, ◌*◌, ◌/◌, ◌%◌, ◌^◌, Bool, true, false, ◌==◌, ◌&&◌, ◌||◌, nat_lt, List, [], ◌∷◌, ◌++◌, length, take, drop, replicate, slice_index_or, if◌then◌else◌, ℤ, pos, negsuc, int_lt, int_div, int_rem}
use Rattle.fourvec.specs.declared.Bit.{Bit}
use Rattle.fourvec.specs.declared.Bit.TheVariants.{Zero, One, Unknown, Floating}

-- ---- two planes

-- the bit (6.3.1) that an upper and a lower plane show at one place: 1 is (1,1), 0 is (0,0), X is (1,0), Z is (0,1)
abbrev pub bit_of : Bool → Bool → Bit
bit_of false false = Zero
bit_of true true = One
bit_of true false = Unknown
bit_of false true = Floating

abbrev pub is_odd : ℕ → Bool
is_odd n = n % 2 == 1

-- the vector of a width that two planes show
unfoldable pub planes : ℕ → ℕ → ℕ → List Bit
planes zero up low = []
planes (suc width) up low = bit_of (is_odd up) (is_odd low) ∷ planes width (up / 2) (low / 2)

abbrev pub up_bit : Bit → ℕ
up_bit Zero = 0
up_bit One = 1
up_bit Unknown = 1
up_bit Floating = 0

abbrev pub low_bit : Bit → ℕ
low_bit Zero = 0
low_bit One = 1
low_bit Unknown = 0
low_bit Floating = 1

-- the upper plane of a vector
unfoldable pub up_plane : List Bit → ℕ
up_plane [] = 0
up_plane (b ∷ bs) = up_bit b + 2 * up_plane bs

-- the lower plane of a vector
unfoldable pub low_plane : List Bit → ℕ
low_plane [] = 0
low_plane (b ∷ bs) = low_bit b + 2 * low_plane bs

-- a bit as a byte: `0`, `1`, `x` or `z`
abbrev pub digit : Bit → ℕ
digit Zero = 48
digit One = 49
digit Unknown = 120
digit Floating = 122

-- ---- operators on bits

-- Z counts as X in an expression (6.3.1)
abbrev pub unfloat_bit : Bit → Bit
unfloat_bit Floating = Unknown
unfloat_bit a = a

-- bitwise negation (11.4.8)
abbrev pub not_bit : Bit → Bit
not_bit Zero = One
not_bit One = Zero
not_bit _ = Unknown

-- bitwise and (11.4.8): 0 where either is 0
abbrev pub and_bit : Bit → Bit → Bit
and_bit Zero _ = Zero
and_bit _ Zero = Zero
and_bit One One = One
and_bit _ _ = Unknown

-- bitwise or (11.4.8): 1 where either is 1
abbrev pub or_bit : Bit → Bit → Bit
or_bit One _ = One
or_bit _ One = One
or_bit Zero Zero = Zero
or_bit _ _ = Unknown

-- bitwise exclusive or (11.4.8)
abbrev pub xor_bit : Bit → Bit → Bit
xor_bit Zero Zero = Zero
xor_bit One One = Zero
xor_bit Zero One = One
xor_bit One Zero = One
xor_bit _ _ = Unknown

-- two drivers of one bit of a wire (6.6.1): Z gives way to the other
abbrev pub res_bit : Bit → Bit → Bit
res_bit Floating b = b
res_bit a Floating = a
res_bit Zero Zero = Zero
res_bit One One = One
res_bit _ _ = Unknown

-- one of two bits, it is not known which (11.4.11)
abbrev pub merge_bit : Bit → Bit → Bit
merge_bit Zero Zero = Zero
merge_bit One One = One
merge_bit _ _ = Unknown

-- one of two stored bits, it is not known which: equal bits stay, Z included (this tool's own rule)
abbrev pub keep_bit : Bit → Bit → Bit
keep_bit Zero Zero = Zero
keep_bit One One = One
keep_bit Floating Floating = Floating
keep_bit _ _ = Unknown

-- ---- operators on vectors, bit by bit

-- an operator on each bit of a vector
unfoldable pub each : (Bit → Bit) → List Bit → List Bit
each f [] = []
each f (a ∷ more) = f a ∷ each f more

-- an operator on each pair of bits at one place of two vectors
unfoldable pub each_pair : (Bit → Bit → Bit) → List Bit → List Bit → List Bit
each_pair f (a ∷ more_a) (b ∷ more_b) = f a b ∷ each_pair f more_a more_b
each_pair f _ _ = []

-- each Z becomes X (6.3.1)
abbrev pub unfloat_of : List Bit → List Bit
unfloat_of a = each unfloat_bit a

-- `~` (11.4.8)
abbrev pub not_of : List Bit → List Bit
not_of a = each not_bit a

-- `&` (11.4.8)
abbrev pub and_of : List Bit → List Bit → List Bit
and_of a b = each_pair and_bit a b

-- `|` (11.4.8)
abbrev pub or_of : List Bit → List Bit → List Bit
or_of a b = each_pair or_bit a b

-- `^` (11.4.8)
abbrev pub xor_of : List Bit → List Bit → List Bit
xor_of a b = each_pair xor_bit a b

-- what two drivers of a wire give together (6.6.1)
abbrev pub res_of : List Bit → List Bit → List Bit
res_of a b = each_pair res_bit a b

-- ---- reductions and truth

-- an operator over all bits, from a bit that changes no known bit and makes X of Z
unfoldable pub over : (Bit → Bit → Bit) → Bit → List Bit → Bit
over f start [] = start
over f start (a ∷ more) = f a (over f start more)

-- unary `&` (11.4.9)
abbrev pub red_and_of : List Bit → List Bit
red_and_of a = over and_bit One a ∷ []

-- unary `|` (11.4.9)
abbrev pub red_or_of : List Bit → List Bit
red_or_of a = over or_bit Zero a ∷ []

-- unary `^` (11.4.9)
abbrev pub red_xor_of : List Bit → List Bit
red_xor_of a = over xor_bit Zero a ∷ []

abbrev pub is_one : Bit → Bool
is_one One = true
is_one _ = false

abbrev pub is_zero : Bit → Bool
is_zero Zero = true
is_zero _ = false

unfoldable pub some_one : List Bit → Bool
some_one [] = false
some_one (a ∷ more) = is_one a || some_one more

unfoldable pub all_zero : List Bit → Bool
all_zero [] = true
all_zero (a ∷ more) = is_zero a && all_zero more

-- the truth of a vector (11.4.7): 1 where some bit is 1, 0 where all are 0, else X
unfoldable pub truth_of : List Bit → List Bit
truth_of a = (if some_one a then One else (if all_zero a then Zero else Unknown)) ∷ []

-- ---- what is known

abbrev pub is_known_bit : Bit → Bool
is_known_bit Zero = true
is_known_bit One = true
is_known_bit Unknown = false
is_known_bit Floating = false

-- no bit is unknown
unfoldable pub is_known : List Bit → Bool
is_known [] = true
is_known (a ∷ more) = is_known_bit a && is_known more

abbrev pub both_known : List Bit → List Bit → Bool
both_known a b = is_known a && is_known b

abbrev pub all_x : ℕ → List Bit
all_x width = replicate width Unknown

abbrev pub truth_bit : Bool → Bit
truth_bit true = One
truth_bit false = Zero

-- 0 against 1
abbrev pub clash_bit : Bit → Bit → Bool
clash_bit Zero One = true
clash_bit One Zero = true
clash_bit _ _ = false

-- some pair of bits is 0 against 1
unfoldable pub some_clash : List Bit → List Bit → Bool
some_clash (a ∷ more_a) (b ∷ more_b) = clash_bit a b || some_clash more_a more_b
some_clash _ _ = false

-- `==` (11.4.5): 0 where some pair is 0 against 1, else X where a bit is unknown, else 1
unfoldable pub eq_of : List Bit → List Bit → List Bit
eq_of a b = (if some_clash a b then Zero else (if both_known a b then One else Unknown)) ∷ []

-- ---- arithmetic: all X where a bit is unknown, else modulo 2 ^ width

abbrev pub weight : Bit → ℕ
weight One = 1
weight _ = 0

-- the whole number that a known vector stands for
unfoldable pub number : List Bit → ℕ
number [] = 0
number (a ∷ more) = weight a + 2 * number more

-- the vector of a width that stands for a number modulo 2 ^ width
unfoldable pub vector : ℕ → ℕ → List Bit
vector zero n = []
vector (suc width) n = truth_bit (is_odd n) ∷ vector width (n / 2)

-- `+` (11.4.3)
unfoldable pub add_of : List Bit → List Bit → List Bit
add_of a b = if both_known a b then vector (length a) (number a + number b) else all_x (length a)

-- `-` (11.4.3)
unfoldable pub sub_of : List Bit → List Bit → List Bit
sub_of a b =
    if both_known a b then vector (length a) (number a + (2 ^ length a - number b)) else all_x (length a)

-- `*` (11.4.3)
unfoldable pub mul_of : List Bit → List Bit → List Bit
mul_of a b = if both_known a b then vector (length a) (number a * number b) else all_x (length a)

abbrev pub is_divisor : List Bit → Bool
is_divisor b = nat_lt 0 (number b)

-- `/` of unsigned numbers (11.4.3): all X where b is 0
unfoldable pub div_of : List Bit → List Bit → List Bit
div_of a b =
    if both_known a b && is_divisor b then vector (length a) (number a / number b) else all_x (length a)

-- `%` of unsigned numbers (11.4.3): all X where b is 0
unfoldable pub rem_of : List Bit → List Bit → List Bit
rem_of a b =
    if both_known a b && is_divisor b then vector (length a) (number a % number b) else all_x (length a)

-- unary `-` (11.4.3)
unfoldable pub neg_of : List Bit → List Bit
neg_of a = if is_known a then vector (length a) (2 ^ length a - number a) else all_x (length a)

-- `<` of unsigned numbers (11.4.4): X where a bit is unknown
unfoldable pub lt_of : List Bit → List Bit → List Bit
lt_of a b = (if both_known a b then truth_bit (nat_lt (number a) (number b)) else Unknown) ∷ []

-- the most significant bit
abbrev pub top : List Bit → Bit
top a = slice_index_or a (length a - 1) Zero

abbrev pub is_negative : List Bit → Bool
is_negative a = is_one (top a)

-- the two's complement number that a known vector stands for (11.4.3.1)
abbrev pub signed : List Bit → ℤ
signed a = if is_negative a then negsuc (2 ^ length a - 1 - number a) else pos (number a)

-- `<` of signed numbers (11.4.4): X where a bit is unknown
unfoldable pub slt_of : List Bit → List Bit → List Bit
slt_of a b = (if both_known a b then truth_bit (int_lt (signed a) (signed b)) else Unknown) ∷ []

-- the vector of a width that stands for a whole number modulo 2 ^ width
abbrev pub signed_vector : ℕ → ℤ → List Bit
signed_vector width (pos n) = vector width n
signed_vector width (negsuc n) = vector width (2 ^ width - 1 - n % 2 ^ width)

-- `/` of signed numbers (11.4.3): towards zero, all X where b is 0
unfoldable pub sdiv_of : List Bit → List Bit → List Bit
sdiv_of a b =
    if both_known a b && is_divisor b then signed_vector (length a) (int_div (signed a) (signed b)) else all_x (length a)

-- `%` of signed numbers (11.4.3): with the sign of a, all X where b is 0
unfoldable pub srem_of : List Bit → List Bit → List Bit
srem_of a b =
    if both_known a b && is_divisor b then signed_vector (length a) (int_rem (signed a) (signed b)) else all_x (length a)

-- ---- moves: the bits move as they are, X and Z too

-- the bits move up by a number of places, and 0 comes in
abbrev pub moved_up : ℕ → List Bit → List Bit
moved_up n a = take (length a) (replicate n Zero ++ a)

-- `<<` (11.4.10): all X where b has an unknown bit
unfoldable pub shl_of : List Bit → List Bit → List Bit
shl_of a b = if is_known b then moved_up (number b) a else all_x (length a)

-- `{a, b}` (11.4.12): a above b
abbrev pub concat_of : List Bit → List Bit → List Bit
concat_of a b = b ++ a

-- a part select with constant bounds (11.5.1)
abbrev pub slice_of : List Bit → ℕ → ℕ → List Bit
slice_of a lo width = take width (drop lo a)

-- extension of an unsigned vector (10.7): 0 above
abbrev pub zext_of : List Bit → ℕ → List Bit
zext_of a width = a ++ replicate (width - length a) Zero

-- extension of a signed vector (10.7, 11.8.4): copies of the top bit above, X and Z too
abbrev pub sext_of : List Bit → ℕ → List Bit
sext_of a width = a ++ replicate (width - length a) (top a)

-- the bits move down by a number of places, and copies of a bit come in
abbrev pub moved_down : Bit → ℕ → List Bit → List Bit
moved_down fill n a = take (length a) (drop n a ++ replicate (length a) fill)

-- `>>` (11.4.10): 0 comes in, all X where b has an unknown bit
unfoldable pub shr_of : List Bit → List Bit → List Bit
shr_of a b = if is_known b then moved_down Zero (number b) a else all_x (length a)

-- `>>>` of a signed vector (11.4.10): copies of the top bit come in, all X where b has an unknown bit
unfoldable pub sar_of : List Bit → List Bit → List Bit
sar_of a b = if is_known b then moved_down (top a) (number b) a else all_x (length a)

-- ---- choices

-- the lowest bit
abbrev pub first : List Bit → Bit
first [] = Unknown
first (c ∷ more) = c

-- a where c is 1, b where c is 0, else both together, bit by bit
abbrev pub choose : (Bit → Bit → Bit) → Bit → List Bit → List Bit → List Bit
choose f One a b = a
choose f Zero a b = b
choose f _ a b = each_pair f a b

-- `c ? a : b` (11.4.11), for a c of one bit
unfoldable pub cond_of : List Bit → List Bit → List Bit → List Bit
cond_of c a b = choose merge_bit (first c) a b

-- a choice between stored values (this tool's own rule), for a c of one bit
unfoldable pub pick_of : List Bit → List Bit → List Bit → List Bit
pick_of c a b = choose keep_bit (first c) a b

-- ---- the order

abbrev pub same_bit : Bit → Bit → Bool
same_bit Zero Zero = true
same_bit One One = true
same_bit Unknown Unknown = true
same_bit Floating Floating = true
same_bit _ _ = false

-- a bit is X, or it is the other bit
abbrev pub bit_below : Bit → Bit → Bool
bit_below Unknown _ = true
bit_below Zero Zero = true
bit_below One One = true
bit_below Floating Floating = true
bit_below _ _ = false

-- a test holds of each pair of bits of two vectors of one length
unfoldable pub all_pairs : (Bit → Bit → Bool) → List Bit → List Bit → Bool
all_pairs t [] [] = true
all_pairs t (a ∷ more_a) (b ∷ more_b) = t a b && all_pairs t more_a more_b
all_pairs t _ _ = false

-- the order in which X is least: two vectors have one length, and each bit of the first is X or the other's
abbrev pub is_below : List Bit → List Bit → Bool
is_below a b = all_pairs bit_below a b
