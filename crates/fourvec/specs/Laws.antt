-- The laws of the operators.
use Rattle.std.specs.Prelude.{◌≡◌, ℕ, List, length, replicate, fold, IsTrue}
use Rattle.fourvec.specs.declared.Bit.{Bit}
use Rattle.fourvec.specs.declared.Bit.TheVariants.{Floating}
use Rattle.fourvec.specs.Bits.{is_below, res_of}

-- two vectors have one length, and each bit of the first is X or the other's
abbrev pub Below : List Bit → List Bit → Type 0
Below a b = IsTrue (is_below a b)

-- an operator gives a result above where its vectors are above
abbrev pub Monotone : (List Bit → List Bit) → Type 0
Monotone f = (a c : List Bit) → Below a c → Below (f a) (f c)

abbrev pub MonotonePair : (List Bit → List Bit → List Bit) → Type 0
MonotonePair f = (a b c d : List Bit) → Below a c → Below b d → Below (f a b) (f c d)

-- a choice between two vectors of one width
abbrev pub MonotoneChoice : (List Bit → List Bit → List Bit → List Bit) → Type 0
MonotoneChoice f =
    (t a b v c d : List Bit) → length a ≡ length b → Below t v → Below a c → Below b d → Below (f t a b) (f v c d)

-- a part that is put into a vector, at a place
abbrev pub MonotonePut : (List Bit → List Bit → List Bit → List Bit) → Type 0
MonotonePut f =
    (a t p c v q : List Bit) → Below a c → Below t v → Below p q → Below (f a t p) (f c v q)

-- what all drivers of a wire of a width give together (IEEE 1800-2017, 6.6.1)
abbrev pub resolution : ℕ → List (List Bit) → List Bit
resolution width contributions = fold res_of (replicate width Floating) contributions
