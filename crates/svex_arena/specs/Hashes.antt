-- Hashes of shapes.
use Rattle.std.specs.Prelude.{ℕ, ◌+◌, ◌*◌, ◌/◌, ◌%◌, ◌^◌, length}
use Rattle.fourvec.specs.Bits.{up_plane, low_plane}
use Rattle.svex_shape.specs.declared.shape.VarName.{VarName}
use Rattle.svex_shape.specs.declared.shape.VarName.TheVariants.{Now, Prev, Stim, Chosen, Sampled}
use Rattle.svex_shape.specs.declared.shape.Un.{Un}
use Rattle.svex_shape.specs.declared.shape.Un.TheVariants.{Unfloat, Not, Neg, RedAnd, RedOr, RedXor, Truth}
use Rattle.svex_shape.specs.declared.shape.Bin.{Bin}
use Rattle.svex_shape.specs.declared.shape.Bin.TheVariants.{And, Or, Xor, Eq, Lt, Slt, Add, Sub, Mul, Div, Rem, Sdiv, Srem, Res, Shl, Shr, Sar, Concat}
use Rattle.svex_shape.specs.declared.shape.Shape.{Shape}
use Rattle.svex_shape.specs.declared.shape.Shape.TheVariants.{Const, Var, Unary, Binary, Cond, Pick, Slice, Zext, Sext, DynSlice, DynPut}
use Rattle.svex_arena.specs.declared.hashing.Lanes.{Lanes}

-- n times 2 n + 1, which no two numbers of 64 bits share, by a factor, with the upper part of the product added to it. It is no
-- linear function of n: where it was one, the n at which two such numbers have a given sum was found at once.
unfoldable pub spread_of : ℕ → ℕ → ℕ → ℕ
spread_of n factor part = let product = n * (n * 2 + 1) * factor % 2 ^ 64 in (product + product / part) % 2 ^ 64

-- each lane takes the word in, by an odd factor of its own (the first is 2 ^ 64 over the golden ratio)
unfoldable pub mixed : Lanes → ℕ → Lanes
mixed lanes word = record {
  a = spread_of ((lanes.a + word) % 2 ^ 64) 11400714819323198485 4294967296;
  b = spread_of ((lanes.b + word) % 2 ^ 64) 14181476777654086739 536870912;
}

-- a plane of up to 128 bits, by halves
unfoldable pub halves_of : Lanes → ℕ → Lanes
halves_of lanes n = mixed (mixed lanes (n % 18446744073709551616)) (n / 18446744073709551616)

-- the lanes of a kind of shape
unfoldable pub kind_of : ℕ → Lanes
kind_of kind = record { a = kind; b = kind }

abbrev pub bin_code : Bin → ℕ
bin_code And = 1
bin_code Or = 2
bin_code Xor = 3
bin_code Eq = 4
bin_code Lt = 5
bin_code Slt = 6
bin_code Add = 7
bin_code Sub = 8
bin_code Mul = 9
bin_code Div = 10
bin_code Rem = 11
bin_code Sdiv = 12
bin_code Srem = 13
bin_code Res = 14
bin_code Shl = 15
bin_code Shr = 16
bin_code Sar = 17
bin_code Concat = 18

abbrev pub un_code : Un → ℕ
un_code Unfloat = 19
un_code Not = 20
un_code Neg = 21
un_code RedAnd = 22
un_code RedOr = 23
un_code RedXor = 24
un_code Truth = 25

abbrev pub name_lanes : VarName → Lanes
name_lanes (Now at) = mixed (kind_of 26) at
name_lanes (Prev at) = mixed (kind_of 27) at
name_lanes (Stim at) = mixed (kind_of 28) at
name_lanes (Chosen at) = mixed (kind_of 29) at
name_lanes (Sampled at) = mixed (kind_of 30) at

-- each kind of shape begins with a number of its own
unfoldable pub lanes_of : Shape → Lanes
lanes_of (Const v) = halves_of (halves_of (mixed (kind_of 31) (length v)) (up_plane v)) (low_plane v)
lanes_of (Var name width) = mixed (name_lanes name) width
lanes_of (Unary op a) = mixed (kind_of (un_code op)) a
lanes_of (Binary op a b) = mixed (mixed (kind_of (bin_code op)) a) b
lanes_of (Cond c a b) = mixed (mixed (mixed (kind_of 32) c) a) b
lanes_of (Pick c a b) = mixed (mixed (mixed (kind_of 33) c) a) b
lanes_of (Slice a lo width) = mixed (mixed (mixed (kind_of 34) a) lo) width
lanes_of (Zext a width) = mixed (mixed (kind_of 35) a) width
lanes_of (Sext a width) = mixed (mixed (kind_of 36) a) width
lanes_of (DynSlice a at spot) = mixed (mixed (mixed (kind_of 37) spot.width) a) at
lanes_of (DynPut a at spot put) = mixed (mixed (mixed (mixed (kind_of 38) spot.width) a) at) put

-- both lanes in one number
unfoldable pub hash_of : Shape → ℕ
hash_of shape = spread_of (((lanes_of shape).a + (lanes_of shape).b) % 2 ^ 64) 11400714819323198485 4294967296
