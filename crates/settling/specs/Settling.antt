-- Which valuations of the wires of a design settle, by what is contributed to bits and which bits are joined.
use Rattle.std.specs.Prelude.{◌≡◌, ℕ, Bool, ◌&&◌, ◌||◌, ◌==◌, nat_le, List, [], ◌∷◌, map, filter, ◌↔◌, if◌then◌else◌}
use Rattle.fourvec.specs.declared.Bit.{Bit}
use Rattle.fourvec.specs.declared.Bit.TheVariants.{Floating}
use Rattle.fourvec.specs.Bits.{res_bit, over}
use Rattle.lhs_alias.specs.declared.segs.WireBit.{WireBit}
use Rattle.lhs_alias.specs.Pairs.{Linked}

-- a value for each bit of each wire
abbrev pub Store : Type 0
Store = ℕ → ℕ → Bit

abbrev pub value_at : Store → WireBit → Bit
value_at now b = now b.wire b.at

abbrev pub same_bit : WireBit → WireBit → Bool
same_bit a b = a.wire == b.wire && a.at == b.at

-- ---- classes of joined bits (IEEE 1800-2017 section 23.3.3)

-- a child's bit and the bit above it
abbrev pub Link : Type 0
Link = WireBit × WireBit

abbrev pub lesser : WireBit → WireBit → WireBit
lesser a b = if nat_le a.wire b.wire then a else b

-- The first bit of the class of a bit: that of the least wire.
unfoldable pub first_bit : List Link → WireBit → WireBit
first_bit [] b = b
first_bit (l ∷ more) b =
    if same_bit (first_bit more b) (first_bit more l.0) || same_bit (first_bit more b) (first_bit more l.1)
    then lesser (first_bit more l.0) (first_bit more l.1) else first_bit more b

abbrev pub is_one_class : List Link → WireBit → WireBit → Bool
is_one_class links a b = same_bit (first_bit links a) (first_bit links b)

-- joined bits are equal
abbrev pub Even : List Link → Store → Type 0
Even links now = (b c : WireBit) → Linked links b c → value_at now b ≡ value_at now c

-- ---- settlings

-- a value that a driver or a stimulus gives to a bit
abbrev pub Contribution : Type 0
Contribution = WireBit × Bit

-- what a class of bits is given
abbrev pub given_to : List Link → WireBit → List Contribution → List Bit
given_to links b all = map (λ c. c.1) (filter (λ c. is_one_class links c.0 b) all)

-- The resolution of what is given, where anything is (6.6.1). Without a driver any value will do.
abbrev pub Resolves : Bit → List Bit → Type 0
Resolves x [] = Unit {0}
Resolves x (y ∷ more) = x ≡ over res_bit Floating (y ∷ more)

-- A valuation settles: joined bits are equal, and each class that is given values has their resolution.
abbrev pub SettlesBy : List Link → List Contribution → Store → Type 0
SettlesBy links all now = Even links now × ((b : WireBit) → Resolves (value_at now b) (given_to links b all))

-- ---- laws

-- two bits are joined exactly where they have one first bit
abbrev pub FirstBitsTell : Type 0
FirstBitsTell = (links : List Link) (a b : WireBit) → Linked links a b ↔ (first_bit links a ≡ first_bit links b)
