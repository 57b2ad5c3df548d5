-- The walk that looks for the first token that so many expressions hold.
use Rattle.std.proofs.Common.{◌≡◌, ℕ, suc, ◌+◌, ◌-◌, ◌<◌, ◌≤◌, ◌^◌, min, nat_le, Bool, true, false, if◌then◌else◌, List, [], ◌∷◌, ◌++◌, length, take, drop, get_or, refl, sym, ap, ◌∙◌, append_assoc, append-nil, arith}
use Rattle.std.proofs.lemmas.Bool.Decides.{nat_tests}
use Rattle.std.proofs.lemmas.List.{take_more, take_all}
use Rattle.sv_outside.specs.declared.refusal.Place.{Place}
use Rattle.sv_tree.specs.declared.word.Word.{Word}
use Rattle.sv_tree.specs.declared.exprs.Sign.{Sign}
use Rattle.sv_tree.specs.declared.exprs.SystemName.{SystemName}
use Rattle.sv_tree.specs.declared.exprs.UnaryOp.{UnaryOp}
use Rattle.sv_tree.specs.declared.exprs.BinaryOp.{BinaryOp}
use Rattle.sv_tree.specs.declared.exprs.RangeMark.{RangeMark}
use Rattle.sv_tree.specs.declared.exprs.Expr.{Expr}
use Rattle.sv_tree.specs.declared.exprs.Expr.TheVariants as e
use Rattle.sv_tree.specs.declared.exprs.Select.{Select}
use Rattle.sv_tree.specs.declared.exprs.Select.TheVariants as s
use Rattle.sv_tree.specs.Nesting.{Depths, one, two, three, in_expr, expr_depths, select_depths, each_depths, commas_depths, after_commas_depths}
use Rattle.sv_tree.proofs.MadeExprs as made
use Rattle.sv_expr_reader.specs.declared.seeking.Seek.{Seek}
use Rattle.sv_expr_reader.specs.Reading.{first_at}
use Rattle.sv_expr_reader.specs.Seeking.{start, found_there, passed, at_token, seek}

-- ---- one after the other, and one deeper

seek_append : (d : ℕ) (a b : Depths) (w : Seek) → seek d (a ++ b) w ≡ seek d b (seek d a w)
unfolding seek
seek_append d [] b w = refl
seek_append d (n ∷ a) b w = seek_append d a b (at_token d n.exprs w)

three_parts : (d : ℕ) (a b c : Depths) (w : Seek) → seek d (a ++ b ++ c) w ≡ seek d c (seek d b (seek d a w))
three_parts d a b c w = seek_append d (a ++ b) c w ∙ ap (seek d c) (seek_append d a b w)

five_parts : (d : ℕ) (a b c f g : Depths) (w : Seek) → seek d (a ++ b ++ c ++ f ++ g) w ≡ seek d g (seek d f (seek d c (seek d b (seek d a w))))
five_parts d a b c f g w = seek_append d (a ++ b ++ c ++ f) g w ∙ ap (seek d g) (seek_append d (a ++ b ++ c) f w ∙ ap (seek d f) (three_parts d a b c w))

less_deep : (d n : ℕ) → nat_le d (n + 1) ≡ nat_le (d - 1) n
less_deep d n = grind (arith, nat_tests)

seek_in : (d : ℕ) (a : Depths) (w : Seek) → seek d (in_expr a) w ≡ seek (d - 1) a w
unfolding seek in_expr
seek_in d [] w = refl
seek_in d (n ∷ a) w =
    ap (λ b. seek d (in_expr a) (if w.found then w else (if b then found_there w else passed w))) (less_deep d n.exprs) ∙ seek_in d a (at_token (d - 1) n.exprs w)

in_two : (d : ℕ) (a b : Depths) (w : Seek) → seek d (in_expr (a ++ b)) w ≡ seek (d - 1) b (seek (d - 1) a w)
in_two d a b w = seek_in d (a ++ b) w ∙ seek_append (d - 1) a b w

in_three : (d : ℕ) (a b c : Depths) (w : Seek) → seek d (in_expr (a ++ b ++ c)) w ≡ seek (d - 1) c (seek (d - 1) b (seek (d - 1) a w))
in_three d a b c w = seek_in d (a ++ b ++ c) w ∙ three_parts (d - 1) a b c w

in_five : (d : ℕ) (a b c f g : Depths) (w : Seek) → seek d (in_expr (a ++ b ++ c ++ f ++ g)) w ≡ seek (d - 1) g (seek (d - 1) f (seek (d - 1) c (seek (d - 1) b (seek (d - 1) a w))))
in_five d a b c f g w = seek_in d (a ++ b ++ c ++ f ++ g) w ∙ five_parts (d - 1) a b c f g w

-- ---- own tokens

abbrev seek_at : ℕ → Seek
seek_at n = record { before = n; found = false }

pub one_found : (d : ℕ) (w : Seek) → w.found ≡ true → seek d one w ≡ w
unfolding seek
one_found d w e = ap (λ b. if b then w else (if nat_le d 0 then found_there w else passed w)) e

one_test : (d : ℕ) (w : Seek) → w.found ≡ false → seek d one w ≡ (if nat_le d 0 then found_there w else passed w)
unfolding seek
one_test d w e = ap (λ b. if b then w else (if nat_le d 0 then found_there w else passed w)) e

pub one_here : (d : ℕ) (w : Seek) → w.found ≡ false → d ≡ 0 → seek d one w ≡ found_there w
one_here d w e z = one_test d w e ∙ ap (λ b. if b then found_there w else passed w) (let t : nat_le d 0 ≡ true = grind (arith, nat_tests, z) in t)

pub one_passed : (d : ℕ) (w : Seek) → w.found ≡ false → 0 < d → seek d one w ≡ passed w
one_passed d w e z = one_test d w e ∙ ap (λ b. if b then found_there w else passed w) (let t : nat_le d 0 ≡ false = grind (arith, nat_tests, z) in t)

pub passed_as : (d : ℕ) (w : Seek) (n : ℕ) → w.found ≡ false → 0 < d → n ≡ min (w.before + 1) (2 ^ 64 - 1) → ◌≡◌ {A = Seek} (record { before = n; found = false }) (seek d one w)
unfolding seek
passed_as d w n e z is = ap (λ k. seek_at k) is ∙ sym (one_passed d w e z)

pub of_two : (d : ℕ) (w : Seek) → seek d two w ≡ seek d one (seek d one w)
of_two d w = seek_append d one one w

pub of_three : (d : ℕ) (w : Seek) → seek d three w ≡ seek d one (seek d two w)
of_three d w = seek_append d two one w

-- ---- one step of each kind

pub of_literal : (d : ℕ) (v : Seek) (w : Word) → seek d (expr_depths (e.Literal w)) v ≡ seek d one v
of_literal d v w = ap (λ l. seek d l v) (made.nests_literal w)

pub of_name : (d : ℕ) (v : Seek) (w : Word) (all : List Select) → seek d (expr_depths (e.Name w all)) v ≡ seek d (made.name_nests all) v
of_name d v w all = ap (λ l. seek d l v) (made.nests_name w all)

pub of_paren : (d : ℕ) (v : Seek) (p : Place) (x : Expr) → seek d (expr_depths (e.Paren p x)) v ≡ seek (d - 1) one (seek (d - 1) (expr_depths x) (seek (d - 1) one v))
of_paren d v p x = ap (λ l. seek d l v) (made.nests_paren p x) ∙ in_three d one (expr_depths x) one v

pub of_concat : (d : ℕ) (v : Seek) (p : Place) (all : List Expr) → seek d (expr_depths (e.Concat p all)) v ≡ seek (d - 1) one (seek (d - 1) (commas_depths expr_depths all) (seek (d - 1) one v))
of_concat d v p all = ap (λ l. seek d l v) (made.nests_concat p all) ∙ in_three d one (commas_depths expr_depths all) one v

pub of_repeat : (d : ℕ) (v : Seek) (p : Place) (x : Expr) (all : List Expr)
    → seek d (expr_depths (e.Repeat p x all)) v ≡ seek (d - 1) two (seek (d - 1) (commas_depths expr_depths all) (seek (d - 1) one (seek (d - 1) (expr_depths x) (seek (d - 1) one v))))
of_repeat d v p x all = ap (λ l. seek d l v) (made.nests_repeat p x all) ∙ in_five d one (expr_depths x) one (commas_depths expr_depths all) two v

pub of_cast_literal : (d : ℕ) (v : Seek) (w : Word) (x : Expr) → seek d (expr_depths (e.CastLiteral w x)) v ≡ seek (d - 1) one (seek (d - 1) (expr_depths x) (seek (d - 1) three v))
of_cast_literal d v w x = ap (λ l. seek d l v) (made.nests_cast_literal w x) ∙ in_three d three (expr_depths x) one v

pub of_cast_name : (d : ℕ) (v : Seek) (w : Word) (x : Expr) → seek d (expr_depths (e.CastName w x)) v ≡ seek (d - 1) one (seek (d - 1) (expr_depths x) (seek (d - 1) three v))
of_cast_name d v w x = ap (λ l. seek d l v) (made.nests_cast_name w x) ∙ in_three d three (expr_depths x) one v

pub of_cast_paren : (d : ℕ) (v : Seek) (p : Place) (y x : Expr)
    → seek d (expr_depths (e.CastParen p y x)) v ≡ seek (d - 1) one (seek (d - 1) (expr_depths x) (seek (d - 1) three (seek (d - 1) (expr_depths y) (seek (d - 1) one v))))
of_cast_paren d v p y x = ap (λ l. seek d l v) (made.nests_cast_paren p y x) ∙ in_five d one (expr_depths y) three (expr_depths x) one v

pub of_cast_sign : (d : ℕ) (v : Seek) (g : Sign) (p : Place) (x : Expr) → seek d (expr_depths (e.CastSign g p x)) v ≡ seek (d - 1) one (seek (d - 1) (expr_depths x) (seek (d - 1) three v))
of_cast_sign d v g p x = ap (λ l. seek d l v) (made.nests_cast_sign g p x) ∙ in_three d three (expr_depths x) one v

pub of_system : (d : ℕ) (v : Seek) (f : SystemName) (p : Place) (x : Expr) → seek d (expr_depths (e.System f p x)) v ≡ seek (d - 1) one (seek (d - 1) (expr_depths x) (seek (d - 1) two v))
of_system d v f p x = ap (λ l. seek d l v) (made.nests_system f p x) ∙ in_three d two (expr_depths x) one v

pub of_unary : (d : ℕ) (v : Seek) (op : UnaryOp) (p : Place) (x : Expr) → seek d (expr_depths (e.Unary op p x)) v ≡ seek (d - 1) (expr_depths x) (seek (d - 1) one v)
of_unary d v op p x = ap (λ l. seek d l v) (made.nests_unary op p x) ∙ in_two d one (expr_depths x) v

pub of_binary : (d : ℕ) (v : Seek) (x : Expr) (op : BinaryOp) (p : Place) (y : Expr) → seek d (expr_depths (e.Binary x op p y)) v ≡ seek (d - 1) (expr_depths y) (seek (d - 1) one (seek (d - 1) (expr_depths x) v))
of_binary d v x op p y = ap (λ l. seek d l v) (made.nests_binary x op p y) ∙ in_three d (expr_depths x) one (expr_depths y) v

pub of_choose : (d : ℕ) (v : Seek) (x y z : Expr)
    → seek d (expr_depths (e.Choose x y z)) v ≡ seek (d - 1) (expr_depths z) (seek (d - 1) one (seek (d - 1) (expr_depths y) (seek (d - 1) one (seek (d - 1) (expr_depths x) v))))
of_choose d v x y z = ap (λ l. seek d l v) (made.nests_choose x y z) ∙ in_five d (expr_depths x) one (expr_depths y) one (expr_depths z) v

pub of_member : (d : ℕ) (v : Seek) (p : Place) (w : Word) → seek d (select_depths (s.Member p w)) v ≡ seek d two v
of_member d v p w = ap (λ l. seek d l v) (made.nests_member p w)

pub of_index : (d : ℕ) (v : Seek) (p : Place) (x : Expr) → seek d (select_depths (s.Index p x)) v ≡ seek d one (seek d (expr_depths x) (seek d one v))
of_index d v p x = ap (λ l. seek d l v) (made.nests_index p x) ∙ three_parts d one (expr_depths x) one v

pub of_range : (d : ℕ) (v : Seek) (p : Place) (x : Expr) (m : RangeMark) (y : Expr)
    → seek d (select_depths (s.Range p x m y)) v ≡ seek d one (seek d (expr_depths y) (seek d one (seek d (expr_depths x) (seek d one v))))
of_range d v p x m y = ap (λ l. seek d l v) (made.nests_range p x m y) ∙ five_parts d one (expr_depths x) one (expr_depths y) one v

-- ---- lists

pub nothing_passed : (d : ℕ) (w : Seek) → seek d [] w ≡ w
unfolding seek
nothing_passed d w = refl

push_select : (all : List Select) (x : Select) → each_depths select_depths (all ++ x ∷ []) ≡ each_depths select_depths all ++ select_depths x
push_select [] x = append-nil (select_depths x)
push_select (y ∷ all) x = ap (λ l. select_depths y ++ l) (push_select all x) ∙ sym (append_assoc (select_depths y) (each_depths select_depths all) (select_depths x))

pub select_next : (d : ℕ) (w : Seek) (all : List Select) (i : ℕ) (x : Select) → i < length all → x ≡ get_or all i x
    → seek d (each_depths select_depths (take (i + 1) all)) w ≡ seek d (select_depths x) (seek d (each_depths select_depths (take i all)) w)
select_next d w all i x lt is =
    ap (λ l. seek d (each_depths select_depths l) w) (take_more all i x lt ∙ ap (λ y. take i all ++ y ∷ []) (sym is))
    ∙ (ap (λ l. seek d l w) (push_select (take i all) x) ∙ seek_append d (each_depths select_depths (take i all)) (select_depths x) w)

push_part : (all : List Expr) (x : Expr) → after_commas_depths expr_depths (all ++ x ∷ []) ≡ after_commas_depths expr_depths all ++ (one ++ expr_depths x)
push_part [] x = append-nil (one ++ expr_depths x)
push_part (y ∷ all) x = ap (λ l. one ++ expr_depths y ++ l) (push_part all x) ∙ sym (append_assoc (one ++ expr_depths y) (after_commas_depths expr_depths all) (one ++ expr_depths x))

pub part_next : (d : ℕ) (w : Seek) (all : List Expr) (i : ℕ) (x : Expr) → i < length all → x ≡ get_or all i x
    → seek d (after_commas_depths expr_depths (take (i + 1) all)) w ≡ seek d (expr_depths x) (seek d one (seek d (after_commas_depths expr_depths (take i all)) w))
part_next d w all i x lt is =
    ap (λ l. seek d (after_commas_depths expr_depths l) w) (take_more all i x lt ∙ ap (λ y. take i all ++ y ∷ []) (sym is))
    ∙ (ap (λ l. seek d l w) (push_part (take i all) x)
    ∙ (seek_append d (after_commas_depths expr_depths (take i all)) (one ++ expr_depths x) w ∙ seek_append d one (expr_depths x) (seek d (after_commas_depths expr_depths (take i all)) w)))

pub commas_walked : (d : ℕ) (w : Seek) (x : Expr) (all : List Expr) → seek d (commas_depths expr_depths (x ∷ all)) w ≡ seek d (after_commas_depths expr_depths all) (seek d (expr_depths x) w)
commas_walked d w x all = seek_append d (expr_depths x) (after_commas_depths expr_depths all) w

pub name_walked : (d : ℕ) (w : Seek) (all : List Select) → 0 < length all → seek d (made.name_nests all) w ≡ seek (d - 1) (each_depths select_depths all) (seek (d - 1) one w)
name_walked d w [] some = absurd (omega arith)
name_walked d w (x ∷ all) some = in_two d one (each_depths select_depths (x ∷ all)) w

-- what the loops have passed at their ends
pub name_end : (d inside i : ℕ) (w begun behind : Seek) (all : List Select) → 0 < length all → length all ≤ i → inside ≡ d - 1 → begun ≡ seek inside one w
    → behind ≡ seek inside (each_depths select_depths (take i all)) begun → behind ≡ seek d (made.name_nests all) w
name_end d inside i w begun behind all some le less first passed =
    passed
    ∙ (ap (λ l. seek inside (each_depths select_depths l) begun) (take_all i all le)
    ∙ (ap (seek inside (each_depths select_depths all)) first ∙ (ap (λ k. seek k (each_depths select_depths all) (seek k one w)) less ∙ sym (name_walked d w all some))))

pub parts_end : (d i : ℕ) (w begun behind : Seek) (all : List Expr) (first : Expr) → 0 < length all → first ≡ get_or all 0 first → length (take (length all - 1) (drop 1 all)) ≤ i
    → begun ≡ seek d (expr_depths first) w → behind ≡ seek d (after_commas_depths expr_depths (take i (take (length all - 1) (drop 1 all)))) begun
    → behind ≡ seek d (commas_depths expr_depths all) w
parts_end d i w begun behind [] first some is le b passed = absurd (omega arith)
parts_end d i w begun behind (x ∷ all) first some is le b passed =
    let rest : take (length (x ∷ all) - 1) (drop 1 (x ∷ all)) ≡ all = take_all (length (x ∷ all) - 1) all (omega arith) in
    passed
    ∙ (ap (λ l. seek d (after_commas_depths expr_depths l) begun) (take_all i (take (length (x ∷ all) - 1) (drop 1 (x ∷ all))) le ∙ rest)
    ∙ (ap (seek d (after_commas_depths expr_depths all)) (b ∙ ap (λ y. seek d (expr_depths y) w) is) ∙ sym (commas_walked d w x all)))

-- ---- where the walk ends

abbrev most : ℕ
most = 2 ^ 64 - 1

seek_found : (d : ℕ) (ns : Depths) (w : Seek) → w.found ≡ true → seek d ns w ≡ w
unfolding seek
seek_found d [] w e = refl
seek_found d (n ∷ ns) w e = ap (λ b. seek d ns (if b then w else (if nat_le d n.exprs then found_there w else passed w))) e ∙ seek_found d ns w e

first_by : (d : ℕ) (ns : Depths) (b : ℕ) (t : Bool) → b ≤ most → (seek d ns (record { before = min (b + 1) most; found = false })).before ≡ min (min (b + 1) most + first_at d ns) most
    → (seek d ns (if t then record { before = b; found = true } else record { before = min (b + 1) most; found = false })).before ≡ min (b + (if t then 0 else suc (first_at d ns))) most
first_by d ns b true le rest = ap (λ w. w.before) (seek_found d ns (record { before = b; found = true }) refl) ∙ omega arith
first_by d ns b false le rest = rest ∙ omega arith

seek_first : (d : ℕ) (ns : Depths) (b : ℕ) → b ≤ most → (seek d ns (record { before = b; found = false })).before ≡ min (b + first_at d ns) most
unfolding seek first_at
seek_first d [] b le = omega arith
seek_first d (n ∷ ns) b le = first_by d ns b (nat_le d n.exprs) le (seek_first d ns (min (b + 1) most) (omega arith))

pub found_first : (d : ℕ) (ns : Depths) → (seek d ns start).before ≡ min (first_at d ns) most
found_first d ns = seek_first d ns 0 (omega arith) ∙ omega arith
