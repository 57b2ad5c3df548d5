-- Layouts of small types and values of parameters, worked out by hand.
use Rattle.std.proofs.Common.{◌≡◌, ℕ, zero, suc, ◌*◌, true, false, pos, List, [], ◌∷◌, refl, ap, codes, Option, Some, None, Ok, Err}
use Rattle.fourvec.specs.Bits.{vector}
use Rattle.sv_tree.specs.declared.exprs.Sign.TheVariants as sign
use Rattle.sv_tree.specs.declared.exprs.BinaryOp.TheVariants as two
use Rattle.sv_tree.specs.declared.forms.BitsWord.TheVariants as bits_word
use Rattle.sv_tree.specs.declared.forms.WholeWord.TheVariants as whole_word
use Rattle.sv_tree.specs.declared.forms.Range.{Range}
use Rattle.sv_tree.specs.declared.forms.EnumLabel.{EnumLabel}
use Rattle.sv_tree.specs.declared.forms.TypeTree.{TypeTree, Vector, Struct', Enum, Named, more_of-Member, end_of-Member}
use Rattle.sv_tree.specs.declared.forms.Member.{Member, Of', more_of-TypeTree, end_of-TypeTree}
use Rattle.sv_tree.specs.declared.design.ParamBits.TheVariants as param_bits
use Rattle.sv_tree.specs.declared.design.ParamType.{ParamType}
use Rattle.sv_tree.specs.declared.design.ParamType.TheVariants as param_type
use Rattle.sv_tree.specs.declared.word.Word.{Word}
use Rattle.sv_meaning.specs.Faults.{Faults, Judged, ◌>>=◌, fault, faults_of, twice, bad_width, not_constant, unknown_name}
use Rattle.sv_meaning.specs.Layouts.{Layout, Scope, What, scalar, dim, struct, member, no_members, width, depth, number_is, plain}
use Rattle.sv_meaning.specs.Meanings.{Meaning}
use Rattle.sv_meaning.specs.Values.{mean}
use Rattle.sv_meaning.specs.Forms.{sized, member_faults, form}
use Rattle.sv_meaning.specs.Params.{param_kind, value_as}
use Rattle.sv_meaning.proofs.OnTrees.{expressions}
use Rattle.sv_meaning.proofs.Trees.{at, word, lit, name, op, scope}

abbrev is_formed : TypeTree → Layout → Type 0
is_formed t x = form scope t ≡ Ok (x, [])

abbrev Refused : TypeTree → Faults → Type 0
Refused t why = faults_of (form scope t) ≡ why

abbrev range : ℕ → List ℕ → List ℕ → Range
range k l r = record { place = at k; left = lit (k) l; right = lit (k) r }

abbrev logic : List Range → TypeTree
logic ranges = Vector (Some bits_word.Logic) None ranges

-- logic signed [1:0][0:3]: the outermost range has the sign
signed_array : is_formed (Vector (Some bits_word.Logic) (Some sign.Signed) (range 1 (codes "1") (codes "0") ∷ range 2 (codes "0") (codes "3") ∷ [])) (dim true (pos 1) (pos 0) (dim false (pos 0) (pos 3) (scalar false)))
unfolding expressions
signed_array = refl

-- t [1:0] over the signed type t: the array is unsigned, its elements are signed
array_of_named : is_formed (Named (word 1 (codes "t")) (range 2 (codes "1") (codes "0") ∷ [])) (dim false (pos 1) (pos 0) (plain 3 true))
unfolding expressions
array_of_named = refl

no_type : Refused (Named (word 1 (codes "a")) []) (fault unknown_name (at 1))
unfolding expressions
no_type = refl

-- logic [7:0][15:0] has 128 bits, logic [8:0][15:0] too many, at the range that exceeds them from the right
wide_array : Refused (logic (range 1 (codes "8") (codes "0") ∷ range 2 (codes "15") (codes "0") ∷ [])) (fault bad_width (at 1))
unfolding expressions
wide_array = refl

abbrev member_of : TypeTree → List Word → Member
member_of t names = Of' tt (more_of-TypeTree t end_of-TypeTree) names

-- struct packed { logic [3:0] hi; logic x, y; }
three_members : is_formed (Struct' None (tt ∷ tt ∷ []) (more_of-Member (member_of (logic (range 1 (codes "3") (codes "0") ∷ [])) (word 2 (codes "hi") ∷ [])) (more_of-Member (member_of (logic []) (word 3 (codes "x") ∷ word 4 (codes "y") ∷ [])) end_of-Member)) [])
    (struct false (member (codes "hi") (plain 4 false) (member (codes "x") (scalar false) (member (codes "y") (scalar false) no_members))))
unfolding expressions
three_members = refl

-- a second member of one name; and the member with which there are 129 bits
same_members : Refused (Struct' None (tt ∷ []) (more_of-Member (member_of (logic []) (word 3 (codes "x") ∷ word 4 (codes "x") ∷ [])) end_of-Member) []) (fault twice (at 4))
unfolding expressions
same_members = refl

wide_struct : Refused (Struct' None (tt ∷ tt ∷ []) (more_of-Member (member_of (logic (range 1 (codes "127") (codes "0") ∷ [])) (word 2 (codes "x") ∷ [])) (more_of-Member (member_of (logic []) (word 3 (codes "y") ∷ [])) end_of-Member)) []) (fault bad_width (at 3))
unfolding expressions
wide_struct = refl

-- a structure with no members
empty_struct : Refused (Struct' None [] end_of-Member []) (fault bad_width (record { file = 0; line = 0; column = 0 }))
unfolding expressions
empty_struct = refl

-- ---- nesting: [0:0] so many times, which has one bit

unfoldable nested : ℕ → Layout
nested zero = scalar false
nested (suc n) = dim false (pos 0) (pos 0) (nested n)

depth_nested : (n : ℕ) → depth (nested n) ≡ n
unfolding nested depth
depth_nested zero = refl
depth_nested (suc n) = ap suc (depth_nested n)

width_nested : (n : ℕ) → width (nested n) ≡ 1
unfolding nested
width_nested zero = refl
width_nested (suc n) = ap (λ w. 1 * w) (width_nested n)

-- 1,000 are the most, and a member has one less than its structure
deepest_array : sized (at 1) (nested 1000) ≡ Ok (nested 1000)
deepest_array = rw (width_nested 1000, depth_nested 1000) refl

deep_array : sized (at 1) (nested 1001) ≡ Err (fault bad_width (at 1))
deep_array = rw (width_nested 1001, depth_nested 1001) refl

deepest_member : member_faults [] 0 (nested 999) (word 2 (codes "x") ∷ []) ≡ []
unfolding expressions
deepest_member = rw (width_nested 999, depth_nested 999) refl

deep_member : member_faults [] 0 (nested 1000) (word 2 (codes "x") ∷ word 3 (codes "y") ∷ []) ≡ fault bad_width (at 2)
unfolding expressions
deep_member = rw (width_nested 1000, depth_nested 1000) refl

-- ---- enumerations

-- enum logic [2:0] {A, B = 3, C}: 0, 3, 4
abbrev label : ℕ → List ℕ → EnumLabel
label k n = record { name = word k n; value = None }

counted : form scope (Enum bits_word.Logic None (Some (range 1 (codes "2") (codes "0"))) (label 2 (codes "A") ∷ record { name = word 3 (codes "B"); value = Some (lit 4 (codes "3")) } ∷ label 5 (codes "C") ∷ []))
    ≡ Ok (plain 3 false, (word 2 (codes "A"), number_is (vector 3 0) false) ∷ (word 3 (codes "B"), number_is (vector 3 3) false) ∷ (word 5 (codes "C"), number_is (vector 3 4) false) ∷ [])
unfolding expressions
counted = refl

-- enum logic {A, B, C}: one bit does not hold 2
not_held : Refused (Enum bits_word.Logic None None (label 2 (codes "A") ∷ label 3 (codes "B") ∷ label 4 (codes "C") ∷ [])) (fault bad_width (at 4))
unfolding expressions
not_held = refl

-- ---- parameters

-- parameter P = 8'sd5 has the size and sign of its value; parameter int P = 8'hff is 255; parameter logic [3:0] P = 5 is 4'd5
abbrev param_value : Scope → Option ParamType → Meaning → Judged What
param_value at t m = param_kind at t >>= λ k. value_as k m

untyped : param_value scope None (mean scope (lit 1 (codes "8'sd5"))) ≡ Ok (number_is (vector 8 5) true)
unfolding expressions
untyped = refl

whole : param_value scope (Some (param_type.Whole whole_word.Int None)) (mean scope (lit 1 (codes "8'hff"))) ≡ Ok (number_is (vector 32 255) true)
unfolding expressions
whole = refl

in_bits : param_value scope (Some (param_type.Bits (Some param_bits.Logic) None (Some (range 1 (codes "3") (codes "0"))))) (mean scope (lit 2 (codes "5"))) ≡ Ok (number_is (vector 4 5) false)
unfolding expressions
in_bits = refl

-- the range of a parameter is [n:0], and its value is a constant
other_range : faults_of (param_value scope (Some (param_type.Bits None None (Some (range 1 (codes "0") (codes "3"))))) (mean scope (lit 2 (codes "5")))) ≡ fault bad_width (at 1)
unfolding expressions
other_range = refl

no_constant : faults_of (param_value scope None (mean scope (op (lit 1 (codes "1")) two.Add 2 (name 3 (codes "a"))))) ≡ fault not_constant (at 3)
unfolding expressions
no_constant = refl
