-- Lines tell a design in one way only: which design goes on with a line, and that none goes on behind the last.
use Rattle.std.proofs.Common.{◌≡◌, ◌≢◌, ℕ, ◌+◌, ◌-◌, ◌^◌, ◌<◌, ◌≤◌, eqb, nat_lt, IsTrue, List, [], ◌∷◌, ◌++◌, length, get_or, map, codes, refl, sym, ap, ◌∙◌, subst, append_assoc, arith}
use Rattle.std.specs.Prelude.{Option}
use Rattle.std.specs.List.{All}
use Rattle.std.proofs.lemmas.Bool.{ltb-true, and_parts}
use Rattle.std.proofs.lemmas.List.{append_cancel_left, map-append, length-append, length-map, get_or_default}
use Rattle.std.proofs.lemmas.List.Elements.{All-head, All-tail}
use Rattle.sv_outside.specs.declared.text.Signal.{Signal}
use Rattle.lhs_alias.specs.declared.segs.Seg.{Seg}
use Rattle.lhs_alias.specs.Lies.{LiesIn, LieIn}
use Rattle.lhs_alias.specs.Segs.{lhs_bits}
use Rattle.svex_shape.specs.declared.shape.VarName.{VarName}
use Rattle.svex_shape.specs.declared.shape.VarName.TheVariants.{Now, Prev, Stim, Chosen, Sampled}
use Rattle.svex_shape.specs.declared.shape.Shape.TheVariants.{Const, Var, Unary, Binary, Cond, Pick, Slice, Zext, Sext, DynSlice, DynPut}
use Rattle.svex_shape.specs.Shapes.{OnChildren, ChildrenBelow, FitsWidths, shape_at, width_of, width_at}
use Rattle.svex_arena.proofs.Numbering.{map_children}
use Rattle.svex_arena.proofs.Steps.{width-step}
use Rattle.driver_resolve.specs.Drivers.{widths_of, is_wire, is_of_wires, IsDriver}
use Rattle.flat_words.specs.Fits.{FitsNumber}
use Rattle.svex_shape.specs.declared.shape.Shape.{Shape}
use Rattle.driver_resolve.specs.declared.driver.Driver.{Driver}
use Rattle.flat_net.specs.declared.flat.Flat.{Flat}
use Rattle.flat_net.specs.declared.flat.Join.{Join}
use Rattle.flat_net.specs.Flats.{IsSignal, IsJoin}
use Rattle.flat_text.specs.Lines.{Text, lines_of, shape_text}
use Rattle.flat_text.specs.FlatTexts.{IsTold, AreNodes, HasLine}
use Rattle.flat_words.proofs.Forms.{IsWhole, same_some}
use Rattle.flat_lines.specs.Fits.{FitsName, FitsSeg, EachFits, FitsLhs, FitsShape, FitsJoin, FitsDrive, FitsItem, wire_words, join_words, drive_words}
use Rattle.flat_lines.specs.Items.{Item, a_wire, a_join, a_node, a_drive, the_end, item_line, wire, join, node, drive}
use Rattle.flat_lines.proofs.WholeLines.{wire_form, join_form, node_form, drive_form}
use Rattle.flat_read.specs.Designs.{items_of, front_of}

-- ---- lines of one kind, and of two

-- two lines whose first bytes differ
abbrev first : Text → ℕ
first t = get_or t 0 0

differ : {A : Type 0} (a b : Text) → (first a ≡ first b → ⊥) → a ≡ b → A
differ a b apart e = absurd (apart (ap first e))

same_behind : (A : Type 0) (Fits : A → Type 0) (print : A → Text) (p : Text → Option A) (mark : Text) → IsWhole A Fits print p → (a b : A) → Fits a → Fits b → mark ++ print a ≡ mark ++ print b → a ≡ b
same_behind A Fits print p mark f a b fa fb e = same_some a b (sym (f.takes a fa) ∙ ap p (append_cancel_left mark (print a) (print b) e) ∙ f.takes b fb)

-- what fits is told by its line
pub item_is : (x y : Item) → FitsItem x → FitsItem y → item_line x ≡ item_line y → x ≡ y
item_is (a_wire a) (a_wire b) f g e = ap a_wire (same_behind Signal IsSignal wire_words wire (codes "wire ") wire_form a b f g e)
item_is (a_wire a) (a_join b) f g e = differ (item_line (a_wire a)) (item_line (a_join b)) (λ k. omega arith) e
item_is (a_wire a) (a_node b) f g e = differ (item_line (a_wire a)) (item_line (a_node b)) (λ k. omega arith) e
item_is (a_wire a) (a_drive b) f g e = differ (item_line (a_wire a)) (item_line (a_drive b)) (λ k. omega arith) e
item_is (a_wire a) the_end f g e = differ (item_line (a_wire a)) (item_line the_end) (λ k. omega arith) e
item_is (a_join a) (a_wire b) f g e = differ (item_line (a_join a)) (item_line (a_wire b)) (λ k. omega arith) e
item_is (a_join a) (a_join b) f g e = ap a_join (same_behind Join FitsJoin join_words join (codes "join ") join_form a b f g e)
item_is (a_join a) (a_node b) f g e = differ (item_line (a_join a)) (item_line (a_node b)) (λ k. omega arith) e
item_is (a_join a) (a_drive b) f g e = differ (item_line (a_join a)) (item_line (a_drive b)) (λ k. omega arith) e
item_is (a_join a) the_end f g e = differ (item_line (a_join a)) (item_line the_end) (λ k. omega arith) e
item_is (a_node a) (a_wire b) f g e = differ (item_line (a_node a)) (item_line (a_wire b)) (λ k. omega arith) e
item_is (a_node a) (a_join b) f g e = differ (item_line (a_node a)) (item_line (a_join b)) (λ k. omega arith) e
item_is (a_node a) (a_node b) f g e = ap a_node (same_behind Shape FitsShape shape_text node (codes "node ") node_form a b f g e)
item_is (a_node a) (a_drive b) f g e = differ (item_line (a_node a)) (item_line (a_drive b)) (λ k. omega arith) e
item_is (a_node a) the_end f g e = differ (item_line (a_node a)) (item_line the_end) (λ k. omega arith) e
item_is (a_drive a) (a_wire b) f g e = differ (item_line (a_drive a)) (item_line (a_wire b)) (λ k. omega arith) e
item_is (a_drive a) (a_join b) f g e = differ (item_line (a_drive a)) (item_line (a_join b)) (λ k. omega arith) e
item_is (a_drive a) (a_node b) f g e = differ (item_line (a_drive a)) (item_line (a_node b)) (λ k. omega arith) e
item_is (a_drive a) (a_drive b) f g e = ap a_drive (same_behind Driver FitsDrive drive_words drive (codes "drive ") drive_form a b f g e)
item_is (a_drive a) the_end f g e = differ (item_line (a_drive a)) (item_line the_end) (λ k. omega arith) e
item_is the_end (a_wire b) f g e = differ (item_line the_end) (item_line (a_wire b)) (λ k. omega arith) e
item_is the_end (a_join b) f g e = differ (item_line the_end) (item_line (a_join b)) (λ k. omega arith) e
item_is the_end (a_node b) f g e = differ (item_line the_end) (item_line (a_node b)) (λ k. omega arith) e
item_is the_end (a_drive b) f g e = differ (item_line the_end) (item_line (a_drive b)) (λ k. omega arith) e
item_is the_end the_end f g e = refl

-- ---- facts of all items

abbrev pub EachItem : (Item → Type 0) → List Item → Type 0
EachItem P [] = Unit {0}
EachItem P (x ∷ xs) = P x × EachItem P xs

items_join : (P : Item → Type 0) (xs ys : List Item) → EachItem P xs → EachItem P ys → EachItem P (xs ++ ys)
items_join P [] ys h g = g
items_join P (x ∷ xs) ys h g = (h.0, items_join P xs ys h.1 g)

pub items_front : (P : Item → Type 0) (xs ys : List Item) → EachItem P (xs ++ ys) → EachItem P xs
items_front P [] ys h = tt
items_front P (x ∷ xs) ys h = (h.0, items_front P xs ys h.1)

pub items_back : (P : Item → Type 0) (xs ys : List Item) → EachItem P (xs ++ ys) → EachItem P ys
items_back P [] ys h = h
items_back P (x ∷ xs) ys h = items_back P xs ys h.1

items_map : {A : Type 0} (P : Item → Type 0) (Q : A → Type 0) (make : A → Item) → ((a : A) → Q a → P (make a)) → (xs : List A) → All Q xs → EachItem P (map make xs)
items_map P Q make f [] h = tt
items_map P Q make f (a ∷ xs) h = (f a (All-head Q a xs h), items_map P Q make f xs (All-tail Q a xs h))

-- lists of items that fit are told by their lines
pub items_are : (xs ys : List Item) → EachItem FitsItem xs → EachItem FitsItem ys → map item_line xs ≡ map item_line ys → xs ≡ ys
items_are [] [] f g e = refl
items_are [] (y ∷ ys) f g e = cc
items_are (x ∷ xs) [] f g e = cc
items_are (x ∷ xs) (y ∷ ys) f g e = λ i. item_is x y f.0 g.0 (ap (head (item_line x)) e) i ∷ items_are xs ys f.1 g.1 (ap rest e) i
  where
    head : Text → List Text → Text
    head d l = get_or l 0 d

    rest : List Text → List Text
    rest [] = []
    rest (t ∷ l) = l

-- ---- what a design that is told says fits words

seg_fits : (widths : List ℕ) (s : Seg) → length widths < 2 ^ 64 - 1 → LiesIn widths s → FitsSeg s
seg_fits widths s l h =
    let wire : s.wire < length widths = h.wire in
    let ends : s.lo + s.width ≤ 128 = h.whole.ends in
    (omega arith, (omega arith, omega arith))

each_fits : (widths : List ℕ) (segs : List Seg) → length widths < 2 ^ 64 - 1 → LieIn widths segs → EachFits segs
each_fits widths [] l h = tt
each_fits widths (s ∷ more) l h = (seg_fits widths s l (All-head (LiesIn widths) s more h), each_fits widths more l (All-tail (LiesIn widths) s more h))

lhs_fits : (widths : List ℕ) (segs : List Seg) → length widths < 2 ^ 64 - 1 → LieIn widths segs → 1 ≤ length segs → FitsLhs segs
lhs_fits widths [] l h some = absurd (omega arith)
lhs_fits widths (s ∷ more) l h some = (seg_fits widths s l (All-head (LiesIn widths) s more h), each_fits widths more l (All-tail (LiesIn widths) s more h))

join_fits : (widths : List ℕ) (j : Join) → length widths < 2 ^ 64 - 1 → IsJoin widths j → FitsJoin j
join_fits widths j l h = (lhs_fits widths j.child l h.child h.some, lhs_fits widths j.parent l h.parent h.some_above)

-- a target of a driver has a segment, since its value has a bit
driver_fits : (widths : List ℕ) (shapes : List Shape) (d : Driver) → length widths < 2 ^ 64 - 1 → length shapes < 2 ^ 64 - 1 → AreNodes shapes → IsDriver widths shapes d → FitsDrive d
driver_fits widths shapes d l m nodes h = (lhs_fits widths d.target l h.lies (some_seg d.target (omega (arith, nodes.some d.value h.there, h.wide))), (let there : d.value < length shapes = h.there in omega arith))
  where
    some_seg : (segs : List Seg) → 0 < length (lhs_bits segs) → 1 ≤ length segs
    some_seg [] h = absurd (omega arith)
    some_seg (s ∷ more) h = omega arith

wire_number : (widths : List ℕ) (n w : ℕ) → length widths < 2 ^ 64 - 1 → IsTrue (is_wire widths n w) → FitsNumber n
wire_number widths n w l h = let there : n < length widths = ltb-true n (length widths) (and_parts (nat_lt n (length widths)) (eqb (get_or widths n 0) w) h).0 in omega arith

name_fits : (widths : List ℕ) (name : VarName) (w : ℕ) → length widths < 2 ^ 64 - 1 → IsTrue (is_of_wires widths name w) → FitsName name
name_fits widths (Now n) w l h = wire_number widths n w l h
name_fits widths (Prev n) w l h = wire_number widths n w l h
name_fits widths (Stim n) w l h = cc
name_fits widths (Chosen n) w l h = cc
name_fits widths (Sampled n) w l h = cc

-- a node of a told design: its children are earlier, and its widths are those of nodes
shape_fits : (widths : List ℕ) (w : ℕ → ℕ) (k : ℕ) (s : Shape) → length widths < 2 ^ 64 - 1 → k < 2 ^ 64 - 1 → ChildrenBelow k s → FitsWidths w s → 0 < width_of w s → width_of w s ≤ 128 → OnChildren (λ j. w j ≤ 128) s → HasLine widths s → FitsShape s
unfolding width_of
shape_fits widths w k (Const v) l m below fits some most kids line = (some, most)
shape_fits widths w k (Var name x) l m below fits some most kids line = (name_fits widths name x l line, omega arith)
shape_fits widths w k (Unary op a) l m below fits some most kids line = omega arith
shape_fits widths w k (Binary op a b) l m below fits some most kids line = (omega arith, omega arith)
shape_fits widths w k (Cond c a b) l m below fits some most kids line = (omega arith, (omega arith, omega arith))
shape_fits widths w k (Pick c a b) l m below fits some most kids line = (omega arith, (omega arith, omega arith))
shape_fits widths w k (Slice a lo x) l m below fits some most kids line = (omega arith, (omega arith, omega arith))
shape_fits widths w k (Zext a x) l m below fits some most kids line = (omega arith, omega arith)
shape_fits widths w k (Sext a x) l m below fits some most kids line = (omega arith, omega arith)
shape_fits widths w k (DynSlice a at spot) l m below fits some most kids line = (omega arith, (omega arith, (line, omega arith)))
shape_fits widths w k (DynPut a at spot put) l m below fits some most kids line = (omega arith, (omega arith, ((line, omega arith), omega arith)))

nodes_fit : (widths : List ℕ) (shapes : List Shape) → length widths < 2 ^ 64 - 1 → length shapes < 2 ^ 64 - 1 → AreNodes shapes → All (HasLine widths) shapes → All FitsShape shapes
nodes_fit widths shapes l m nodes forms k d lt =
    let here : get_or shapes k d ≡ shape_at shapes k = get_or_default shapes k d (Const []) lt in
    let below = nodes.children k lt in
    subst FitsShape (sym here)
    (shape_fits widths (width_at shapes) k (shape_at shapes k) l (omega arith) below (nodes.fits k lt)
    (subst (λ n. 0 < n) (width-step shapes k below) (nodes.some k lt)) (subst (λ n. n ≤ 128) (width-step shapes k below) (nodes.most k lt))
    (map_children (λ j. j < k) (λ j. width_at shapes j ≤ 128) (λ j h. nodes.most j (omega arith)) (shape_at shapes k) below) (forms k (Const []) lt))

lengths : (shown : Flat) → length (items_of shown) ≡ length shown.wires + (length shown.joins + (length shown.arena + length shown.drivers))
lengths shown =
    length-append (map a_wire shown.wires) (map a_join shown.joins ++ (map a_node shown.arena ++ map a_drive shown.drivers))
    ∙ (λ i. length-map shown.wires a_wire i + (length-append (map a_join shown.joins) (map a_node shown.arena ++ map a_drive shown.drivers) ∙ (λ j. length-map shown.joins a_join j + (length-append (map a_node shown.arena) (map a_drive shown.drivers) ∙ (λ k. length-map shown.arena a_node k + length-map shown.drivers a_drive k)) j)) i)

pub items_fit : (shown : Flat) → IsTold shown → length (items_of shown) < 2 ^ 64 - 1 → EachItem FitsItem (items_of shown)
items_fit shown t l =
    let widths = widths_of shown.wires in
    let parts : length (items_of shown) ≡ length shown.wires + (length shown.joins + (length shown.arena + length shown.drivers)) = lengths shown in
    let wide : length widths < 2 ^ 64 - 1 = let e = length-map shown.wires (λ (s : Signal). s.width) in omega arith in
    let nodes : length shown.arena < 2 ^ 64 - 1 = omega arith in
    items_join FitsItem (map a_wire shown.wires) (map a_join shown.joins ++ (map a_node shown.arena ++ map a_drive shown.drivers)) (items_map FitsItem IsSignal a_wire (λ s h. h) shown.wires t.sound.wires)
    (items_join FitsItem (map a_join shown.joins) (map a_node shown.arena ++ map a_drive shown.drivers) (items_map FitsItem (IsJoin widths) a_join (λ j h. join_fits widths j wide h) shown.joins t.sound.joins)
    (items_join FitsItem (map a_node shown.arena) (map a_drive shown.drivers) (items_map FitsItem FitsShape a_node (λ s h. h) shown.arena (nodes_fit widths shown.arena wide nodes t.nodes t.forms))
    (items_map FitsItem (IsDriver widths shown.arena) a_drive (λ d h. driver_fits widths shown.arena d wide nodes t.nodes h) shown.drivers t.sound.drivers)))

-- ---- lines of a design

-- no item of a design is the end
pub not_end : (shown : Flat) → EachItem (λ x. item_line x ≢ codes "end") (items_of shown)
not_end shown =
    items_join (λ x. item_line x ≢ codes "end") (map a_wire shown.wires) (map a_join shown.joins ++ (map a_node shown.arena ++ map a_drive shown.drivers)) (items_map (λ x. item_line x ≢ codes "end") (λ s. Unit {0}) a_wire (λ s h e. differ (item_line (a_wire s)) (codes "end") (λ k. omega arith) e) shown.wires (λ k d l. tt))
    (items_join (λ x. item_line x ≢ codes "end") (map a_join shown.joins) (map a_node shown.arena ++ map a_drive shown.drivers) (items_map (λ x. item_line x ≢ codes "end") (λ s. Unit {0}) a_join (λ s h e. differ (item_line (a_join s)) (codes "end") (λ k. omega arith) e) shown.joins (λ k d l. tt))
    (items_join (λ x. item_line x ≢ codes "end") (map a_node shown.arena) (map a_drive shown.drivers) (items_map (λ x. item_line x ≢ codes "end") (λ s. Unit {0}) a_node (λ s h e. differ (item_line (a_node s)) (codes "end") (λ k. omega arith) e) shown.arena (λ k d l. tt))
    (items_map (λ x. item_line x ≢ codes "end") (λ s. Unit {0}) a_drive (λ s h e. differ (item_line (a_drive s)) (codes "end") (λ k. omega arith) e) shown.drivers (λ k d l. tt))))

map_map : {A B C : Type 0} (f : B → C) (g : A → B) (xs : List A) → map f (map g xs) ≡ map (λ x. f (g x)) xs
map_map f g [] = refl
map_map f g (x ∷ xs) = ap (λ l. f (g x) ∷ l) (map_map f g xs)

-- all lines of a design are those in front and the last
pub lines_are : (shown : Flat) → lines_of shown ≡ front_of shown ++ codes "end" ∷ []
lines_are shown = ap (λ l. codes "flat 1" ∷ l) (sym (
    ap (λ l. l ++ codes "end" ∷ []) (map-append item_line (map a_wire shown.wires) (map a_join shown.joins ++ (map a_node shown.arena ++ map a_drive shown.drivers)))
    ∙ append_assoc (map item_line (map a_wire shown.wires)) (map item_line (map a_join shown.joins ++ (map a_node shown.arena ++ map a_drive shown.drivers))) (codes "end" ∷ [])
    ∙ (λ i. map_map item_line a_wire shown.wires i ++ (ap (λ l. l ++ codes "end" ∷ []) (map-append item_line (map a_join shown.joins) (map a_node shown.arena ++ map a_drive shown.drivers))
    ∙ append_assoc (map item_line (map a_join shown.joins)) (map item_line (map a_node shown.arena ++ map a_drive shown.drivers)) (codes "end" ∷ [])
    ∙ (λ j. map_map item_line a_join shown.joins j ++ (ap (λ l. l ++ codes "end" ∷ []) (map-append item_line (map a_node shown.arena) (map a_drive shown.drivers))
    ∙ append_assoc (map item_line (map a_node shown.arena)) (map item_line (map a_drive shown.drivers)) (codes "end" ∷ [])
    ∙ (λ k. map_map item_line a_node shown.arena k ++ (map_map item_line a_drive shown.drivers k ++ codes "end" ∷ []))) j)) i)))
