-- Which line breaks the form, and which design a text stands for, is told by the text alone.
use Rattle.std.proofs.Common.{◌≡◌, ◌≢◌, ℕ, ◌+◌, ◌-◌, ◌^◌, ◌<◌, ◌≤◌, List, [], ◌∷◌, ◌++◌, length, map, codes, take, drop, refl, sym, ap, ◌∙◌, subst, inl, inr, arith}
use Rattle.std.specs.List.{All, AllZip, zip}
use Rattle.std.proofs.lemmas.Bool.{cases_lt, cases_order}
use Rattle.std.proofs.lemmas.List.{append-nil, length-append, length-map, length_push, same_from_push, take-append-drop, take-take}
use Rattle.std.proofs.lemmas.List.Elements.{All-nil, All-head, All-tail}
use Rattle.fourvec.specs.Bits.{cond_of, pick_of, slice_of, zext_of, sext_of}
use Rattle.fourvec.specs.Spots.{dyn_slice_of, dyn_put_of}
use Rattle.svex_shape.specs.declared.shape.Shape.{Shape}
use Rattle.svex_shape.specs.declared.shape.Shape.TheVariants.{Const, Var, Unary, Binary, Cond, Pick, Slice, Zext, Sext, DynSlice, DynPut}
use Rattle.svex_shape.specs.Shapes.{OnChildren, shape_at}
use Rattle.svex_shape.specs.Values.{Vector, Reading, value_of, value_at, unary_value, binary_value}
use Rattle.svex_arena.specs.Arenas.{IsArena}
use Rattle.svex_arena.proofs.Numbering.{every_node}
use Rattle.svex_arena.proofs.Steps.{value_reads, value-step}
use Rattle.settling.specs.Settling.{Store, Contribution, SettlesBy}
use Rattle.driver_resolve.specs.declared.driver.Driver.{Driver}
use Rattle.driver_resolve.specs.Drivers.{Phase, reading, drivers_give, stimuli_from, overriding_from, widths_of, IsDriver}
use Rattle.flat_net.specs.declared.flat.Flat.{Flat}
use Rattle.flat_net.specs.declared.flat.Join.{Join}
use Rattle.flat_net.specs.Flats.{IsFlat, Settles, given, links_of}
use Rattle.settling.specs.Overriding.{overridden}
use Rattle.lhs_alias.specs.Segs.{lhs_bits}
use Rattle.flat_text.specs.Lines.{Text, ended, text_of, lines_of}
use Rattle.flat_text.specs.FlatTexts.{Expr, const, var, unary, binary, cond, pick, slice, zext, sext, dyn_slice, dyn_put, expr_of, expr_at, FlatText, SameDriver, AreLinesOf, Begin, BreaksAt}
use Rattle.flat_text.proofs.Renaming.{expr-step}
use Rattle.flat_lines.specs.Fits.{FitsItem}
use Rattle.flat_lines.specs.Items.{item_line}
use Rattle.flat_read.specs.Designs.{items_of, front_of}
use Rattle.flat_read.specs.Laws.{SameDesign}
use Rattle.flat_read.proofs.Telling.{EachItem, items_are, items_fit, lines_are}
use Rattle.flat_read.proofs.Going.{begins_whole, same_design}
use Rattle.flat_read.proofs.Shorter.{begins_front_of}
use Rattle.flat_read.proofs.Unbroken.{lines_unbroken, one_way}

-- ---- the lines of a text that stands for a design

long_enough : (lines : List Text) → length lines ≤ length (text_of lines)
long_enough [] = omega arith
long_enough (l ∷ lines) = let rest = long_enough lines in let a = length-append (ended l) (text_of lines) in let b = length_push l 10 in omega arith

item_count : (shown : Flat) → length (lines_of shown) ≡ length (items_of shown) + 2
item_count shown = ap length (lines_are shown) ∙ length_push (front_of shown) (codes "end") ∙ (let a = length-map (items_of shown) item_line in omega arith)

told_fits : (text : Text) (flat : Flat) (t : FlatText text flat) → length text < 2 ^ 64 → EachItem FitsItem (items_of t.shown)
told_fits text flat t few = items_fit t.shown t.told (let a = long_enough (lines_of t.shown) in let b = item_count t.shown in let c = ap length t.is in omega arith)

told_split : (text : Text) (flat : Flat) (t : FlatText text flat) → length text < 2 ^ 64 → AreLinesOf text (lines_of t.shown) []
told_split text flat t few = record {
  is = t.is ∙ sym (append-nil (text_of (lines_of t.shown)));
  lines_unbroken = lines_unbroken t.shown (told_fits text flat t few);
  rest_unbroken = All-nil (λ b. b ≢ 10);
}

-- ---- lines that break the form

pub legal : (text : Text) (flat : Flat) (n : ℕ) → length text < 2 ^ 64 → FlatText text flat → BreaksAt text n → ⊥
legal text flat n few t b =
    let way = one_way text b.lines (lines_of t.shown) b.rest [] b.split (told_split text flat t few) in
    elim (cases_lt (length b.lines) n) [
      | inl lt ↦ b.missing (let w = b.within in omega arith) way.1 (record { shown = t.shown; told = t.told; are = way.0 })
      | inr le ↦ b.broken le (begins_front_of (take n b.lines) (drop n b.lines) (subst Begin (sym (take-append-drop n b.lines ∙ way.0)) (begins_whole t.shown t.told)))
    ]

earlier : (text : Text) (m n : ℕ) → m < n → BreaksAt text m → BreaksAt text n → ⊥
earlier text m n lt a b =
    let way = one_way text a.lines b.lines a.rest b.rest a.split b.split in
    let long : length a.lines ≡ length b.lines = ap length way.0 in
    let some : m ≤ n - 1 = omega arith in
    a.broken (let w = b.within in omega arith) (begins_front_of (take m a.lines) (drop m (take (n - 1) a.lines)) (subst Begin (sym (
    ap (λ l. l ++ drop m (take (n - 1) a.lines)) (sym (take-take m (n - 1) a.lines some)) ∙ take-append-drop m (take (n - 1) a.lines) ∙ ap (take (n - 1)) way.0)) b.before))

pub one_line : (text : Text) (m n : ℕ) → BreaksAt text m → BreaksAt text n → m ≡ n
one_line text m n a b = elim (cases_order m n) [
  | inl e ↦ e
  | inr o ↦ absurd (elim o [ inl lt ↦ earlier text m n lt a b | inr gt ↦ earlier text n m gt b a ])
]

-- ---- designs that a text stands for

same_shown : (text : Text) (f g : Flat) (t : FlatText text f) (u : FlatText text g) → length text < 2 ^ 64 → t.shown ≡ u.shown
same_shown text f g t u few =
    let way = one_way text (lines_of t.shown) (lines_of u.shown) [] [] (told_split text f t few) (told_split text g u few) in
    let fronts = same_from_push (front_of t.shown) (front_of u.shown) (codes "end") (codes "end") (sym (lines_are t.shown) ∙ way.0 ∙ lines_are u.shown) in
    same_design t.shown u.shown (items_are (items_of t.shown) (items_of u.shown) (told_fits text f t few) (told_fits text g u few) (behind (map item_line (items_of t.shown)) (map item_line (items_of u.shown)) fronts.0))
  where
    behind : (xs ys : List Text) → codes "flat 1" ∷ xs ≡ codes "flat 1" ∷ ys → xs ≡ ys
    behind xs ys e = cc

zip_both : (nodes fs gs : List Shape) (xs ys zs : List Driver) → AllZip (SameDriver nodes fs) xs ys → AllZip (SameDriver nodes gs) xs zs → AllZip (SameDriver fs gs) ys zs
zip_both nodes fs gs [] [] [] h k = tt
zip_both nodes fs gs [] [] (z ∷ zs) h k = absurd k
zip_both nodes fs gs [] (y ∷ ys) zs h k = absurd h
zip_both nodes fs gs (x ∷ xs) [] zs h k = absurd h
zip_both nodes fs gs (x ∷ xs) (y ∷ ys) [] h k = absurd k
zip_both nodes fs gs (x ∷ xs) (y ∷ ys) (z ∷ zs) h k =
    (record { target = sym h.0.target ∙ k.0.target; value = sym h.0.value ∙ k.0.value }, zip_both nodes fs gs xs ys zs h.1 k.1)

pub one_design : (text : Text) (f g : Flat) → length text < 2 ^ 64 → FlatText text f → FlatText text g → SameDesign f g
one_design text f g few t u =
    let same : t.shown ≡ u.shown = same_shown text f g t u few in
    record {
      wires = sym t.wires ∙ ap (λ (s : Flat). s.wires) same ∙ u.wires;
      joins = sym t.joins ∙ ap (λ (s : Flat). s.joins) same ∙ u.joins;
      drivers = zip_both t.shown.arena f.arena g.arena t.shown.drivers f.drivers g.drivers t.drivers (subst (λ (s : Flat). AllZip (SameDriver s.arena g.arena) s.drivers g.drivers) (sym same) u.drivers);
    }

-- ---- the value of an expression

expr_value : Reading → Expr → Vector
expr_value r (const v) = v
expr_value r (var name w) = r name w
expr_value r (unary op a) = unary_value op (expr_value r a)
expr_value r (binary op a b) = binary_value op (expr_value r a) (expr_value r b)
expr_value r (cond c a b) = cond_of (expr_value r c) (expr_value r a) (expr_value r b)
expr_value r (pick c a b) = pick_of (expr_value r c) (expr_value r a) (expr_value r b)
expr_value r (slice a lo w) = slice_of (expr_value r a) lo w
expr_value r (zext a w) = zext_of (expr_value r a) w
expr_value r (sext a w) = sext_of (expr_value r a) w
expr_value r (dyn_slice a at spot) = dyn_slice_of (expr_value r a) (expr_value r at) spot
expr_value r (dyn_put a at spot put) = dyn_put_of (expr_value r a) (expr_value r at) spot (expr_value r put)

shape_value : (r : Reading) (f : ℕ → Expr) (s : Shape) → expr_value r (expr_of f s) ≡ value_of r (λ j. expr_value r (f j)) s
unfolding expr_value expr_of value_of
shape_value r f (Const v) = refl
shape_value r f (Var name w) = refl
shape_value r f (Unary op a) = refl
shape_value r f (Binary op a b) = refl
shape_value r f (Cond c a b) = refl
shape_value r f (Pick c a b) = refl
shape_value r f (Slice a lo w) = refl
shape_value r f (Zext a w) = refl
shape_value r f (Sext a w) = refl
shape_value r f (DynSlice a at spot) = refl
shape_value r f (DynPut a at spot put) = refl

node_value : (r : Reading) (shapes : List Shape) (k : ℕ) → IsArena shapes → k < length shapes → value_at r shapes k ≡ expr_value r (expr_at shapes k)
node_value r shapes k a l = every_node (λ j. value_at r shapes j ≡ expr_value r (expr_at shapes j)) shapes a.children turn k l
  where
    turn : (j : ℕ) → j < length shapes → OnChildren (λ i. value_at r shapes i ≡ expr_value r (expr_at shapes i)) (shape_at shapes j) → value_at r shapes j ≡ expr_value r (expr_at shapes j)
    turn j h b =
        value-step r shapes j (a.children j h) ∙ value_reads r (value_at r shapes) (λ i. expr_value r (expr_at shapes i)) (shape_at shapes j) b
        ∙ sym (shape_value r (expr_at shapes) (shape_at shapes j)) ∙ ap (expr_value r) (sym (expr-step shapes j (a.children j h)))

drivers_alike : (fw gw : List ℕ) (fs gs : List Shape) (ds es : List Driver) (p : Phase) → IsArena fs → IsArena gs → All (IsDriver fw fs) ds → All (IsDriver gw gs) es → AllZip (SameDriver fs gs) ds es → drivers_give fs ds p ≡ drivers_give gs es p
unfolding drivers_give
drivers_alike fw gw fs gs [] [] p a b h k z = refl
drivers_alike fw gw fs gs [] (e ∷ es) p a b h k z = absurd z
drivers_alike fw gw fs gs (d ∷ ds) [] p a b h k z = absurd z
drivers_alike fw gw fs gs (d ∷ ds) (e ∷ es) p a b h k z =
    let same : value_at (reading p) fs d.value ≡ value_at (reading p) gs e.value =
    node_value (reading p) fs d.value a (All-head (IsDriver fw fs) d ds h).there ∙ ap (expr_value (reading p)) z.0.value ∙ sym (node_value (reading p) gs e.value b (All-head (IsDriver gw gs) e es k).there) in
    λ i. zip (lhs_bits (z.0.target i)) (same i) ++ drivers_alike fw gw fs gs ds es p a b (All-tail (IsDriver fw fs) d ds h) (All-tail (IsDriver gw gs) e es k) z.1 i

given_alike : (f g : Flat) → IsArena f.arena → IsArena g.arena → IsFlat f → IsFlat g → SameDesign f g → (over : List ℕ) (p : Phase) → given f over p ≡ given g over p
given_alike f g a b h k s over p =
    λ i. overridden (links_of (s.joins i)) (overriding_from 0 (s.wires i) over p.stim) (drivers_alike (widths_of f.wires) (widths_of g.wires) f.arena g.arena f.drivers g.drivers p a b h.drivers k.drivers s.drivers i ++ stimuli_from 0 (s.wires i) p.stim)

pub settle_alike : (f g : Flat) → IsArena f.arena → IsArena g.arena → IsFlat f → IsFlat g → SameDesign f g → (over : List ℕ) (stim prev now : Store) → Settles f over stim prev now → Settles g over stim prev now
settle_alike f g a b h k s over stim prev now =
    let P : List Join → List Contribution → Type 0 = λ js cs. SettlesBy (links_of js) cs now in
    let p : Phase = record { stim = stim; previous = prev; present = now } in
    λ settled. subst (λ js. P js (given g over p)) s.joins (subst (P f.joins) (given_alike f g a b h k s over p) settled)
