-- Nodes whose bits are known whatever the choice is.
use Rattle.std.specs.Prelude.{◌≡◌, ℕ, ◌+◌, ◌-◌, ◌*◌, ◌^◌, ◌<◌, Bool, true, false, not, ◌&&◌, ◌==◌, nat_lt, nat_le, if◌then◌else◌, pos, int_lt, unsigned_abs, List, length, slice_index_or}
use Rattle.std.specs.Bool.{beq}
use Rattle.std.specs.List.{list_all}
use Rattle.fourvec.specs.declared.Spot.{Spot}
use Rattle.fourvec.specs.Bits.{is_known}
use Rattle.svex_shape.specs.declared.shape.VarName.{VarName}
use Rattle.svex_shape.specs.declared.shape.VarName.TheVariants.{Now, Prev, Stim, Chosen, Sampled}
use Rattle.svex_shape.specs.declared.shape.Bin.{Bin}
use Rattle.svex_shape.specs.declared.shape.Bin.TheVariants.{Div, Rem, Sdiv, Srem, Res}
use Rattle.svex_shape.specs.declared.shape.Shape.{Shape}
use Rattle.svex_shape.specs.declared.shape.Shape.TheVariants.{Const, Var, Unary, Binary, Cond, Pick, Slice, Zext, Sext, DynSlice, DynPut}
use Rattle.svex_shape.specs.Shapes.{at_node, width_at}
use Rattle.svex_arena.specs.Marks.{IsMarked}
use Rattle.pair_words.specs.declared.pairs.Pair.{Pair}
use Rattle.svex_blast.specs.Reads.{word_in}

-- the operators that give known bits for known ones: all but a division, which may be by 0, and the joining of two drivers
abbrev pub keeps_known : Bin → Bool
keeps_known Div = false
keeps_known Rem = false
keeps_known Sdiv = false
keeps_known Srem = false
keeps_known Res = false
keeps_known op = true

-- a part that begins at a place with the index 0, and so much further up, or down, with the greatest index, lies in a vector
abbrev pub lies_inside : Bool → ℕ → ℕ → ℕ → ℕ → Bool
lies_inside negate most from width wide =
    if negate then nat_le most from && nat_le (from + width) wide else nat_le (most + from + width) wide

-- each index of so many bits, without a sign, names a part that lies in a vector of this width
unfoldable pub always_inside : ℕ → ℕ → Spot → Bool
always_inside wide bits spot =
    not spot.signed && (nat_lt bits 9 && (not (int_lt spot.add (pos 0)) && lies_inside spot.negate ((2 ^ bits - 1) * spot.each) (unsigned_abs spot.add) spot.width wide))

-- whether the bits of a shape are known, by a test of its variable, the widths of its children, and whether their bits are known
unfoldable pub known_of : (VarName → ℕ → Bool) → (ℕ → ℕ) → (ℕ → Bool) → Shape → Bool
known_of has w f (Const v) = is_known v
known_of has w f (Var name width) = has name width
known_of has w f (Unary op a) = f a
known_of has w f (Binary op a b) = keeps_known op && (f a && f b)
known_of has w f (Cond c a b) = f c && (f a && f b)
known_of has w f (Pick c a b) = f c && (f a && f b)
known_of has w f (Slice a lo width) = f a
known_of has w f (Zext a width) = f a
known_of has w f (Sext a width) = f a
known_of has w f (DynSlice a at spot) = always_inside (w a) (w at) spot && (f a && f at)
known_of has w f (DynPut a at spot put) = f a && (f at && f put)

-- there is a variable of the table of this number, with this width
abbrev pub is_declared : List ℕ → VarName → ℕ → Bool
is_declared widths (Chosen k) width = slice_index_or widths k 0 == width
is_declared widths (Now k) width = false
is_declared widths (Prev k) width = false
is_declared widths (Stim k) width = false
is_declared widths (Sampled k) width = false

-- by its shape and those below it, no bit of a node can be unknown
abbrev pub is_known_node : List ℕ → List Shape → ℕ → Bool
is_known_node widths shapes k = at_node (known_of (is_declared widths) (width_at shapes)) false shapes k

-- both rails of a bit are one literal
abbrev pub is_twin : Pair → Bool
is_twin p = (p.up.node == p.low.node) && beq p.up.negated p.low.negated

-- the same at each bit
abbrev pub are_twins : List Pair → Bool
are_twins word = list_all is_twin word

-- the upper rail for both
abbrev pub twin_of : Pair → Pair
twin_of p = record { up = p.up; low = p.up }

-- the vectors of marked nodes whose bits are known are the same on both rails
pub record AreShared (widths : List ℕ) (shapes : List Shape) (marks : List Bool) (done : List (List Pair)) : Type 0 where
  pub shared : (k : ℕ) → k < length done → IsMarked marks k → is_known_node widths shapes k ≡ true → are_twins (word_in done k) ≡ true
