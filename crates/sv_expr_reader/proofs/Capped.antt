-- Heights of the trees that code looks at.
use Rattle.std.proofs.Common.{◌≡◌, ℕ, ◌+◌, ◌<◌, max, min, List, [], ◌∷◌, ◌++◌, length, take, get_or, refl, sym, ap, ◌∙◌, length-append, arith}
use Rattle.std.proofs.lemmas.List.{take_more}
use Rattle.sv_outside.specs.declared.refusal.Place.{Place}
use Rattle.sv_tree.specs.declared.word.Word.{Word}
use Rattle.sv_tree.specs.declared.exprs.Sign.{Sign}
use Rattle.sv_tree.specs.declared.exprs.SystemName.{SystemName}
use Rattle.sv_tree.specs.declared.exprs.UnaryOp.{UnaryOp}
use Rattle.sv_tree.specs.declared.exprs.BinaryOp.{BinaryOp}
use Rattle.sv_tree.specs.declared.exprs.RangeMark.{RangeMark}
use Rattle.sv_tree.specs.declared.exprs.Expr.{Expr}
use Rattle.sv_tree.specs.declared.exprs.Expr.TheVariants as e
use Rattle.sv_tree.specs.declared.exprs.Select.{Select}
use Rattle.sv_tree.specs.declared.exprs.Select.TheVariants as s
use Rattle.sv_tree.specs.Nesting.{Depths, one, two, three, in_expr, expr_depths, select_depths, each_depths, commas_depths, after_commas_depths}
use Rattle.sv_tree.proofs.MadeExprs as made
use Rattle.sv_expr_reader.specs.Reading.{peak, height}
use Rattle.sv_expr_reader.specs.Heights.{height_all, height_select, height_chain, capped, capped_all, capped_select, capped_chain}
use Rattle.sv_expr_reader.proofs.Peaks.{peak_append, one_peak, two_peak, three_peak}

peak_up : (a : Depths) → 0 < length a → peak (in_expr a) ≡ peak a + 1
unfolding peak in_expr
peak_up [] some = absurd (omega arith)
peak_up (x ∷ []) some = omega arith
peak_up (x ∷ y ∷ a) some = omega (arith, peak_up (y ∷ a) (omega arith))

-- own tokens, then others
behind_one : (a : Depths) → peak (in_expr (one ++ a)) ≡ peak a + 1
behind_one a = omega (arith, peak_up (one ++ a) (omega arith), peak_append one a, one_peak)

behind_two : (a : Depths) → peak (in_expr (two ++ a)) ≡ peak a + 1
behind_two a = omega (arith, peak_up (two ++ a) (omega arith), peak_append two a, two_peak)

behind_three : (a : Depths) → peak (in_expr (three ++ a)) ≡ peak a + 1
behind_three a = omega (arith, peak_up (three ++ a) (omega arith), peak_append three a, three_peak)

before_one : (a : Depths) → peak (a ++ one) ≡ peak a
before_one a = omega (arith, peak_append a one, one_peak)

-- ---- lists

after_peak : (all : List Expr) → peak (after_commas_depths expr_depths all) ≡ height_all all
unfolding peak
after_peak [] = refl
after_peak (x ∷ all) =
    omega (arith, peak_append (one ++ expr_depths x) (after_commas_depths expr_depths all), peak_append one (expr_depths x), one_peak, after_peak all)

commas_peak : (all : List Expr) → peak (commas_depths expr_depths all) ≡ height_all all
unfolding peak
commas_peak [] = refl
commas_peak (x ∷ all) = omega (arith, peak_append (expr_depths x) (after_commas_depths expr_depths all), after_peak all)

each_peak : (x : Select) (all : List Select) → peak (each_depths select_depths (x ∷ all)) + 1 ≡ height_chain (x ∷ all)
unfolding peak
each_peak x [] = omega (arith, peak_append (select_depths x) [])
each_peak x (y ∷ all) = omega (arith, peak_append (select_depths x) (each_depths select_depths (y ∷ all)), each_peak y all)

height_name : (w : Word) (all : List Select) → height (e.Name w all) ≡ height_chain all
height_name w [] = ap peak (made.nests_name w []) ∙ one_peak
height_name w (x ∷ all) = ap peak (made.nests_name w (x ∷ all)) ∙ (behind_one (each_depths select_depths (x ∷ all)) ∙ each_peak x all)

-- ---- one step of each kind

pub of_literal : (w : Word) → capped (e.Literal w) ≡ 0
unfolding capped
of_literal w = omega (arith, ap peak (made.nests_literal w), one_peak)

pub of_name : (w : Word) (all : List Select) → capped (e.Name w all) ≡ capped_chain all
unfolding capped capped_chain
of_name w all = omega (arith, height_name w all)

pub of_paren : (p : Place) (x : Expr) → capped (e.Paren p x) ≡ min (capped x + 1) 255
unfolding capped
of_paren p x = omega (arith, ap peak (made.nests_paren p x), behind_one (expr_depths x ++ one), before_one (expr_depths x))

pub of_concat : (p : Place) (all : List Expr) → capped (e.Concat p all) ≡ min (capped_all all + 1) 255
unfolding capped capped_all
of_concat p all =
    omega (arith, ap peak (made.nests_concat p all), behind_one (commas_depths expr_depths all ++ one), before_one (commas_depths expr_depths all), commas_peak all)

pub of_repeat : (p : Place) (x : Expr) (all : List Expr) → capped (e.Repeat p x all) ≡ min (max (capped x) (capped_all all) + 1) 255
unfolding capped capped_all
of_repeat p x all =
    omega (
      arith,
      ap peak (made.nests_repeat p x all),
      behind_one (expr_depths x ++ one ++ commas_depths expr_depths all ++ two),
      peak_append (expr_depths x ++ one ++ commas_depths expr_depths all) two,
      peak_append (expr_depths x ++ one) (commas_depths expr_depths all),
      before_one (expr_depths x),
      two_peak,
      commas_peak all,
    )

pub of_cast_literal : (w : Word) (x : Expr) → capped (e.CastLiteral w x) ≡ min (capped x + 1) 255
unfolding capped
of_cast_literal w x = omega (arith, ap peak (made.nests_cast_literal w x), behind_three (expr_depths x ++ one), before_one (expr_depths x))

pub of_cast_name : (w : Word) (x : Expr) → capped (e.CastName w x) ≡ min (capped x + 1) 255
unfolding capped
of_cast_name w x = omega (arith, ap peak (made.nests_cast_name w x), behind_three (expr_depths x ++ one), before_one (expr_depths x))

pub of_cast_paren : (p : Place) (y x : Expr) → capped (e.CastParen p y x) ≡ min (max (capped y) (capped x) + 1) 255
unfolding capped
of_cast_paren p y x =
    omega (
      arith,
      ap peak (made.nests_cast_paren p y x),
      behind_one (expr_depths y ++ three ++ expr_depths x ++ one),
      before_one (expr_depths y ++ three ++ expr_depths x),
      peak_append (expr_depths y ++ three) (expr_depths x),
      peak_append (expr_depths y) three,
      three_peak,
    )

pub of_cast_sign : (g : Sign) (p : Place) (x : Expr) → capped (e.CastSign g p x) ≡ min (capped x + 1) 255
unfolding capped
of_cast_sign g p x = omega (arith, ap peak (made.nests_cast_sign g p x), behind_three (expr_depths x ++ one), before_one (expr_depths x))

pub of_system : (f : SystemName) (p : Place) (x : Expr) → capped (e.System f p x) ≡ min (capped x + 1) 255
unfolding capped
of_system f p x = omega (arith, ap peak (made.nests_system f p x), behind_two (expr_depths x ++ one), before_one (expr_depths x))

pub of_unary : (op : UnaryOp) (p : Place) (x : Expr) → capped (e.Unary op p x) ≡ min (capped x + 1) 255
unfolding capped
of_unary op p x = omega (arith, ap peak (made.nests_unary op p x), behind_one (expr_depths x))

pub of_binary : (x : Expr) (op : BinaryOp) (p : Place) (y : Expr) → capped (e.Binary x op p y) ≡ min (max (capped x) (capped y) + 1) 255
unfolding capped
of_binary x op p y =
    omega (
      arith,
      ap peak (made.nests_binary x op p y),
      peak_up (expr_depths x ++ one ++ expr_depths y) (omega (arith, length-append (expr_depths x ++ one) (expr_depths y), length-append (expr_depths x) one)),
      peak_append (expr_depths x ++ one) (expr_depths y),
      before_one (expr_depths x),
    )

pub of_choose : (x y z : Expr) → capped (e.Choose x y z) ≡ min (max (max (capped x) (capped y)) (capped z) + 1) 255
unfolding capped
of_choose x y z =
    omega (
      arith,
      ap peak (made.nests_choose x y z),
      peak_up (expr_depths x ++ one ++ expr_depths y ++ one ++ expr_depths z)
          (omega (arith, length-append (expr_depths x ++ one ++ expr_depths y ++ one) (expr_depths z), length-append (expr_depths x ++ one ++ expr_depths y) one)),
      peak_append (expr_depths x ++ one ++ expr_depths y ++ one) (expr_depths z),
      before_one (expr_depths x ++ one ++ expr_depths y),
      peak_append (expr_depths x ++ one) (expr_depths y),
      before_one (expr_depths x),
    )

pub of_member : (p : Place) (w : Word) → capped_select (s.Member p w) ≡ 1
unfolding capped_select
of_member p w = omega (arith, ap peak (made.nests_member p w), two_peak)

pub of_index : (p : Place) (x : Expr) → capped_select (s.Index p x) ≡ min (capped x + 1) 255
unfolding capped capped_select
of_index p x = omega (arith, ap peak (made.nests_index p x), peak_append one (expr_depths x ++ one), before_one (expr_depths x), one_peak)

pub of_range : (p : Place) (x : Expr) (m : RangeMark) (y : Expr) → capped_select (s.Range p x m y) ≡ min (max (capped x) (capped y) + 1) 255
unfolding capped capped_select
of_range p x m y =
    omega (
      arith,
      ap peak (made.nests_range p x m y),
      peak_append one (expr_depths x ++ one ++ expr_depths y ++ one),
      before_one (expr_depths x ++ one ++ expr_depths y),
      peak_append (expr_depths x ++ one) (expr_depths y),
      before_one (expr_depths x),
      one_peak,
    )

-- ---- one more of a list

height_push : (all : List Expr) (x : Expr) → height_all (all ++ x ∷ []) ≡ max (height_all all) (height x)
height_push [] x = omega arith
height_push (y ∷ all) x = omega (arith, height_push all x)

height_push_select : (all : List Select) (x : Select) → height_chain (all ++ x ∷ []) ≡ max (height_chain all) (height_select x)
height_push_select [] x = omega arith
height_push_select (y ∷ all) x = omega (arith, height_push_select all x)

pub none_yet : capped_all [] ≡ 0
unfolding capped_all
none_yet = refl

pub no_select_yet : capped_chain [] ≡ 0
unfolding capped_chain
no_select_yet = refl

pub all_next : (all : List Expr) (i : ℕ) (x : Expr) → i < length all → x ≡ get_or all i x → capped_all (take (i + 1) all) ≡ max (capped_all (take i all)) (capped x)
unfolding capped capped_all
all_next all i x lt is = ap capped_all (take_more all i x lt ∙ ap (λ y. take i all ++ y ∷ []) (sym is)) ∙ omega (arith, height_push (take i all) x)

pub chain_next : (all : List Select) (i : ℕ) (x : Select) → i < length all → x ≡ get_or all i x → capped_chain (take (i + 1) all) ≡ max (capped_chain (take i all)) (capped_select x)
unfolding capped_select capped_chain
chain_next all i x lt is = ap capped_chain (take_more all i x lt ∙ ap (λ y. take i all ++ y ∷ []) (sym is)) ∙ omega (arith, height_push_select (take i all) x)
