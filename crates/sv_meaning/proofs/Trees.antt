-- Small trees, written out.
use Rattle.std.specs.Prelude.{ℕ, true, false, List, [], ◌∷◌, codes, pos, slice_index_or}
use Rattle.fourvec.specs.declared.Bit.TheVariants.{Zero, Unknown}
use Rattle.fourvec.specs.Bits.{vector}
use Rattle.sv_outside.specs.declared.refusal.Place.{Place}
use Rattle.sv_tree.specs.declared.word.Word.{Word}
use Rattle.sv_tree.specs.declared.exprs.Expr.{Expr, Literal, Name', Concat', Repeat', more_of-Expr, end_of-Expr, more_of-Select, end_of-Select}
use Rattle.sv_tree.specs.declared.exprs.Select.{Select}
use Rattle.sv_tree.specs.declared.exprs.BinaryOp.{BinaryOp}
use Rattle.sv_tree.specs.declared.exprs.RangeMark.TheVariants as mark
use Rattle.sv_meaning.specs.Patterns.{binary, range}
use Rattle.sv_meaning.specs.Layouts.{scalar, dim, struct, no_members, member, plain, Entry, Scope, scope_of, number_is, type_is, signal_is, of_wires, Read}

-- a place in the first line
abbrev pub at : ℕ → Place
at k = record { file = 0; line = 1; column = k }

abbrev pub word : ℕ → List ℕ → Word
word k t = record { text = t; place = at k }

abbrev pub lit : ℕ → List ℕ → Expr
lit k t = Literal (word k t)

abbrev pub name : ℕ → List ℕ → Expr
name k t = Name' (word k t) [] end_of-Select

-- a name with one select
abbrev pub selected : ℕ → List ℕ → Select → Expr
selected k t s = Name' (word k t) (tt ∷ []) (more_of-Select s end_of-Select)

-- with an operator at a place between them
abbrev pub op : Expr → BinaryOp → ℕ → Expr → Expr
op x o k y = binary x o (at k) y

-- [x:y]
abbrev pub span : ℕ → Expr → Expr → Select
span k x y = range (at k) x mark.To y

-- {x, y}
abbrev pub two_of : ℕ → Expr → Expr → Expr
two_of k x y = Concat' (at k) (tt ∷ tt ∷ []) (more_of-Expr x (more_of-Expr y end_of-Expr))

abbrev pub one_of : ℕ → Expr → Expr
one_of k x = Concat' (at k) (tt ∷ []) (more_of-Expr x end_of-Expr)

-- {n{x}}
abbrev pub times : ℕ → Expr → Expr → Expr
times k n x = Repeat' (at k) tt (more_of-Expr n end_of-Expr) (tt ∷ []) (more_of-Expr x end_of-Expr)

-- `logic [3:0] a`, `logic [5:0] b`, `logic signed [7:0] s`, `logic [0:7] u`, a structure `p` of `hi[3:0]` and `lo`, and `parameter N = 5`
abbrev pub entries : List Entry
entries =
    (codes "a", signal_is of_wires 0 (plain 4 false)) ∷ (codes "b", signal_is of_wires 1 (plain 6 false)) ∷ (codes "s", signal_is of_wires 2 (plain 8 true))
    ∷ (codes "u", signal_is of_wires 3 (dim false (pos 0) (pos 7) (scalar false)))
    ∷ (codes "p", signal_is of_wires 4 (struct false (member (codes "hi") (plain 4 false) (member (codes "lo") (scalar false) no_members))))
    ∷ (codes "N", number_is (vector 32 5) true) ∷ (codes "t", type_is (plain 3 true)) ∷ []

abbrev pub scope : Scope
scope = scope_of entries

-- a is 15, b is 1, s is -7, u is 8'b10110001, p is {4'd9, 1'b0}
abbrev pub values : Read
values o n k = slice_index_or (slice_index_or (vector 4 15 ∷ vector 6 1 ∷ vector 8 249 ∷ vector 8 177 ∷ vector 5 18 ∷ []) n []) k Zero

abbrev pub unknown : Read
unknown o n k = Unknown
