-- The design with the nodes that drivers reach, in the order in which they are printed, stands for the whole design.
use Rattle.std.proofs.Common.{◌≡◌, ℕ, suc, ◌<◌, ◌≤◌, ◌+◌, Bool, true, false, cond, eqb, ◌||◌, List, [], ◌∷◌, ◌++◌, length, map, codes, get_or, refl, sym, ap, ◌∙◌, subst, append_assoc, IsTrue, arith}
use Rattle.std.specs.List.{All, AllZip, flat_map}
use Rattle.std.proofs.lemmas.Bool.{eqb-true}
use Rattle.std.proofs.lemmas.List.{get_or-map, length-map, get_or_default}
use Rattle.std.proofs.lemmas.List.Concat.{flat_map-append}
use Rattle.std.proofs.lemmas.List.Elements.{All-head, All-tail, All-cons, All-nil}
use Rattle.sv_outside.specs.declared.text.Signal.{Signal}
use Rattle.svex_shape.specs.declared.shape.VarName.{VarName}
use Rattle.svex_shape.specs.declared.shape.VarName.TheVariants.{Now, Prev, Stim, Chosen, Sampled}
use Rattle.svex_shape.specs.declared.shape.Shape.{Shape}
use Rattle.svex_shape.specs.declared.shape.Shape.TheVariants.{Const, Var, Unary, Binary, Cond, Pick, Slice, Zext, Sext, DynSlice, DynPut}
use Rattle.svex_shape.specs.Shapes.{OnChildren, ChildrenBelow, FitsWidths, shape_at, width_at}
use Rattle.svex_shape.specs.Values.{each_variable_of, each_variable}
use Rattle.svex_arena.specs.Arenas.{IsArena}
use Rattle.svex_arena.specs.Substs.{renamed}
use Rattle.svex_arena.proofs.Numbering.{map_children, join_children}
use Rattle.svex_arena.proofs.Steps.{variables-step, fits_same}
use Rattle.svex_arena.proofs.Lifted.{variables_children}
use Rattle.driver_resolve.specs.declared.driver.Driver.{Driver}
use Rattle.driver_resolve.specs.Drivers.{widths_of, is_of_wires, IsDriver}
use Rattle.flat_net.specs.declared.flat.Flat.{Flat}
use Rattle.flat_net.specs.declared.flat.Join.{Join}
use Rattle.flat_net.specs.Flats.{IsFlat}
use Rattle.flat_text.specs.Lines.{Text, ended, text_of, lines_of, wire_line, join_line, node_line, drive_line, has_form, name_has_form}
use Rattle.flat_text.specs.FlatTexts.{FlatText, AreNodes, HasLine, HasSpot, SameDriver, expr_at}
use Rattle.flat_text.proofs.Renaming.{renamed_same, renamed_back, renamed_children, renamed_fits, IsPart, width_part, variables_part, expr_part}
use Rattle.flat_print.specs.Printed.{has, place_in, order_of, shown_by, printed}
use Rattle.flat_print.specs.Walks.{Each}
use Rattle.flat_print.proofs.Stacks.{place_within}
use Rattle.flat_print.proofs.Walking.{roots_within}
use Rattle.flat_print.proofs.Ordering.{IsOrder, roots_order}

-- ---- nodes that are printed

-- a node is there, and names the values of wires alone
abbrev pub IsPrintable : List ℕ → List Shape → ℕ → Type 0
IsPrintable widths shapes k = (k < length shapes) × (each_variable (is_of_wires widths) shapes k ≡ true)

printable_children : (widths : List ℕ) (shapes : List Shape) → IsArena shapes → (k : ℕ) → k < length shapes → IsPrintable widths shapes k → OnChildren (IsPrintable widths shapes) (shape_at shapes k)
printable_children widths shapes a k l p =
    join_children (λ c. c < length shapes) (λ c. each_variable (is_of_wires widths) shapes c ≡ true) (shape_at shapes k)
    (map_children (λ c. c < k) (λ c. c < length shapes) (λ c h. omega arith) (shape_at shapes k) (a.children k l))
    (variables_children (is_of_wires widths) (each_variable (is_of_wires widths) shapes) (shape_at shapes k) (sym (variables-step (is_of_wires widths) shapes k (a.children k l)) ∙ p.1))

driven : (widths : List ℕ) (shapes : List Shape) (drivers : List Driver) → All (IsDriver widths shapes) drivers → Each (IsPrintable widths shapes) (map (λ d. d.value) drivers)
driven widths shapes [] h = tt
driven widths shapes (d ∷ more) h = let here = All-head (IsDriver widths shapes) d more h in ((here.there, here.mentions), driven widths shapes more (All-tail (IsDriver widths shapes) d more h))

pub driver_there : (widths : List ℕ) (shapes : List Shape) (drivers : List Driver) → All (IsDriver widths shapes) drivers → All (λ d. d.value < length shapes) drivers
driver_there widths shapes drivers h k d l = (h k d l).there

-- what is known of the order of a sound design
pub record IsPrinting (widths : List ℕ) (shapes : List Shape) (drivers : List Driver) (order : List ℕ) : Type 0 where
  pub ordered : IsOrder (IsPrintable widths shapes) shapes order
  pub roots : Each (λ k. has k order ≡ true) (map (λ d. d.value) drivers)

pub printing : (widths : List ℕ) (shapes : List Shape) (drivers : List Driver) → IsArena shapes → All (IsDriver widths shapes) drivers → IsPrinting widths shapes drivers (order_of shapes drivers)
printing widths shapes drivers a h =
    let all = roots_order (IsPrintable widths shapes) shapes a.children (printable_children widths shapes a) (map (λ d. d.value) drivers) (roots_within (length shapes) drivers (driver_there widths shapes drivers h)) (driven widths shapes drivers h) in
    record { ordered = all.0; roots = all.1 }

name_form : (widths : List ℕ) (name : VarName) (w : ℕ) → is_of_wires widths name w ≡ true → name_has_form name ≡ true
name_form widths (Now n) w h = refl
name_form widths (Prev n) w h = refl
name_form widths (Stim n) w h = cc
name_form widths (Chosen n) w h = cc
name_form widths (Sampled n) w h = cc

shape_form : (widths : List ℕ) (f : ℕ → Bool) (s : Shape) → each_variable_of (is_of_wires widths) f s ≡ true → has_form s ≡ true
unfolding each_variable_of
shape_form widths f (Const v) h = refl
shape_form widths f (Var name w) h = name_form widths name w h
shape_form widths f (Unary op a) h = refl
shape_form widths f (Binary op a b) h = refl
shape_form widths f (Cond c a b) h = refl
shape_form widths f (Pick c a b) h = refl
shape_form widths f (Slice a lo w) h = refl
shape_form widths f (Zext a w) h = refl
shape_form widths f (Sext a w) h = refl
shape_form widths f (DynSlice a at spot) h = refl
shape_form widths f (DynPut a at spot put) h = refl

pub node_form : (widths : List ℕ) (shapes : List Shape) (k : ℕ) → IsArena shapes → IsPrintable widths shapes k → has_form (shape_at shapes k) ≡ true
node_form widths shapes k a p = shape_form widths (each_variable (is_of_wires widths) shapes) (shape_at shapes k) (sym (variables-step (is_of_wires widths) shapes k (a.children k p.0)) ∙ p.1)

line_of : (widths : List ℕ) (f : ℕ → Bool) (g : ℕ → ℕ) (s : Shape) → each_variable_of (is_of_wires widths) f s ≡ true → HasSpot s → HasLine widths (renamed g s)
unfolding each_variable_of
line_of widths f g (Const v) h fits = tt
line_of widths f g (Var name w) h fits = h
line_of widths f g (Unary op a) h fits = tt
line_of widths f g (Binary op a b) h fits = tt
line_of widths f g (Cond c a b) h fits = tt
line_of widths f g (Pick c a b) h fits = tt
line_of widths f g (Slice a lo w) h fits = tt
line_of widths f g (Zext a w) h fits = tt
line_of widths f g (Sext a w) h fits = tt
line_of widths f g (DynSlice a at spot) h fits = fits
line_of widths f g (DynPut a at spot put) h fits = fits

-- ---- the numbers of the nodes

pub place_at : (l : List ℕ) (k : ℕ) → has k l ≡ true → get_or l (place_in l k) 0 ≡ k
unfolding has place_in
place_at [] k h = cc
place_at (j ∷ l) k h = either (eqb k j) (λ e. place_at l k (ap (λ b. b || has k l) (sym e) ∙ h)) refl
  where
    either : (b : Bool) → (eqb k j ≡ false → get_or l (place_in l k) 0 ≡ k) → eqb k j ≡ b → get_or (j ∷ l) (cond b 0 (1 + place_in l k)) 0 ≡ k
    either true f e = sym (eqb-true k j e)
    either false f e = let next : 1 + place_in l k ≡ suc (place_in l k) = omega arith in ap (λ n. get_or (j ∷ l) n 0) next ∙ f e

-- the printed nodes
abbrev pub nodes_by : List Shape → List ℕ → List Shape
nodes_by shapes order = map (λ k. renamed (place_in order) (shape_at shapes k)) order

node_at : (shapes : List Shape) (order : List ℕ) (i : ℕ) → i < length order → shape_at (nodes_by shapes order) i ≡ renamed (place_in order) (shape_at shapes (get_or order i 0))
node_at shapes order i l = get_or-map (λ k. renamed (place_in order) (shape_at shapes k)) order i 0 (Const []) l

nodes_length : (shapes : List Shape) (order : List ℕ) → length (nodes_by shapes order) ≡ length order
nodes_length shapes order = length-map order (λ k. renamed (place_in order) (shape_at shapes k))

nodes_children : (P : ℕ → Type 0) (shapes : List Shape) (order : List ℕ) → IsOrder P shapes order → (i : ℕ) → i < length (nodes_by shapes order) → ChildrenBelow i (shape_at (nodes_by shapes order) i)
nodes_children P shapes order o i l =
    let l' : i < length order = subst (λ n. i < n) (nodes_length shapes order) l in
    subst (λ s. ChildrenBelow i s) (sym (node_at shapes order i l')) (renamed_children (λ k. k < i) (place_in order) (shape_at shapes (get_or order i 0))
    (map_children (λ c. (has c order ≡ true) × (place_in order c < i)) (λ c. place_in order c < i) (λ c h. h.1) (shape_at shapes (get_or order i 0)) (o.made i l')))

pub nodes_part : (P : ℕ → Type 0) (shapes : List Shape) (order : List ℕ) → IsOrder P shapes order → ((k : ℕ) → P k → k < length shapes) → IsPart (nodes_by shapes order) shapes (λ i. get_or order i 0)
nodes_part P shapes order o there = record {
  within = λ i l. there (get_or order i 0) (o.each i (subst (λ n. i < n) (nodes_length shapes order) l));
  same = λ i l. let l' : i < length order = subst (λ n. i < n) (nodes_length shapes order) l in
      sym (ap (renamed (λ j. get_or order j 0)) (node_at shapes order i l') ∙ renamed_back (λ j. get_or order j 0) (place_in order) (shape_at shapes (get_or order i 0))
      (map_children (λ c. (has c order ≡ true) × (place_in order c < i)) (λ c. get_or order (place_in order c) 0 ≡ c) (λ c h. place_at order c h.0) (shape_at shapes (get_or order i 0)) (o.made i l')));
}

-- ---- the printed design

record Sees (widths : List ℕ) (shapes : List Shape) (order : List ℕ) : Type 0 where
  arena : IsArena shapes
  ordered : IsOrder (IsPrintable widths shapes) shapes order
  children : (i : ℕ) → i < length (nodes_by shapes order) → ChildrenBelow i (shape_at (nodes_by shapes order) i)
  part : IsPart (nodes_by shapes order) shapes (λ i. get_or order i 0)

sees : (widths : List ℕ) (shapes : List Shape) (order : List ℕ) → IsArena shapes → IsOrder (IsPrintable widths shapes) shapes order → Sees widths shapes order
sees widths shapes order a o = record {
  arena = a;
  ordered = o;
  children = nodes_children (IsPrintable widths shapes) shapes order o;
  part = nodes_part (IsPrintable widths shapes) shapes order o (λ k p. p.0);
}

width_of_place : (widths : List ℕ) (shapes : List Shape) (order : List ℕ) → Sees widths shapes order → (k : ℕ) → has k order ≡ true → width_at (nodes_by shapes order) (place_in order k) ≡ width_at shapes k
width_of_place widths shapes order s k h =
    width_part (nodes_by shapes order) shapes (λ i. get_or order i 0) s.children s.arena.children s.part (place_in order k) (subst (λ n. place_in order k < n) (sym (nodes_length shapes order)) (place_within k order h))
    ∙ ap (width_at shapes) (place_at order k h)

expr_of_place : (widths : List ℕ) (shapes : List Shape) (order : List ℕ) → Sees widths shapes order → (k : ℕ) → has k order ≡ true → expr_at (nodes_by shapes order) (place_in order k) ≡ expr_at shapes k
expr_of_place widths shapes order s k h =
    expr_part (nodes_by shapes order) shapes (λ i. get_or order i 0) s.children s.arena.children s.part (place_in order k) (subst (λ n. place_in order k < n) (sym (nodes_length shapes order)) (place_within k order h))
    ∙ ap (expr_at shapes) (place_at order k h)

variables_of_place : (widths : List ℕ) (shapes : List Shape) (order : List ℕ) → Sees widths shapes order → (k : ℕ) → has k order ≡ true → each_variable (is_of_wires widths) (nodes_by shapes order) (place_in order k) ≡ each_variable (is_of_wires widths) shapes k
variables_of_place widths shapes order s k h =
    variables_part (is_of_wires widths) (nodes_by shapes order) shapes (λ i. get_or order i 0) s.children s.arena.children s.part (place_in order k) (subst (λ n. place_in order k < n) (sym (nodes_length shapes order)) (place_within k order h))
    ∙ ap (each_variable (is_of_wires widths) shapes) (place_at order k h)

nodes_told : (widths : List ℕ) (shapes : List Shape) (order : List ℕ) → Sees widths shapes order → AreNodes (nodes_by shapes order)
nodes_told widths shapes order s = record {
  children = s.children;
  fits = λ i l. let l' : i < length order = subst (λ n. i < n) (nodes_length shapes order) l in
      subst (FitsWidths (width_at (nodes_by shapes order))) (sym (node_at shapes order i l')) (renamed_fits (width_at (nodes_by shapes order)) (place_in order) (shape_at shapes (get_or order i 0))
      (fits_same (λ j. width_at (nodes_by shapes order) (place_in order j)) (width_at shapes) (shape_at shapes (get_or order i 0))
      (map_children (λ c. (has c order ≡ true) × (place_in order c < i)) (λ c. width_at (nodes_by shapes order) (place_in order c) ≡ width_at shapes c) (λ c h. width_of_place widths shapes order s c h.0) (shape_at shapes (get_or order i 0)) (s.ordered.made i l'))
      (s.arena.fits (get_or order i 0) (s.ordered.each i l').0)));
  some = λ i l. subst (λ n. 0 < n) (sym (wide i l)) (s.arena.some (get_or order i 0) (s.part.within i l));
  most = λ i l. subst (λ n. n ≤ 128) (sym (wide i l)) (s.arena.most (get_or order i 0) (s.part.within i l));
}
  where
    wide : (i : ℕ) → i < length (nodes_by shapes order) → width_at (nodes_by shapes order) i ≡ width_at shapes (get_or order i 0)
    wide i l = width_part (nodes_by shapes order) shapes (λ i. get_or order i 0) s.children s.arena.children s.part i l

forms_told : (widths : List ℕ) (shapes : List Shape) (order : List ℕ) → Sees widths shapes order → All (λ k. HasSpot (shape_at shapes k)) order → All (HasLine widths) (nodes_by shapes order)
forms_told widths shapes order s fits i d l =
    let l' : i < length order = subst (λ n. i < n) (nodes_length shapes order) l in
    let k = get_or order i 0 in
    subst (HasLine widths) (sym (get_or_default (nodes_by shapes order) i d (Const []) l ∙ node_at shapes order i l'))
    (line_of widths (each_variable (is_of_wires widths) shapes) (place_in order) (shape_at shapes k) (sym (variables-step (is_of_wires widths) shapes k (s.arena.children k (s.ordered.each i l').0)) ∙ (s.ordered.each i l').1) (fits i 0 l'))

abbrev numbered : List ℕ → Driver → Driver
numbered order d = record { target = d.target; value = place_in order d.value }

drivers_sound : (widths : List ℕ) (shapes : List Shape) (order : List ℕ) → Sees widths shapes order → (drivers : List Driver) → All (IsDriver widths shapes) drivers → Each (λ k. has k order ≡ true) (map (λ d. d.value) drivers)
    → All (IsDriver widths (nodes_by shapes order)) (map (λ (d : Driver). record { target = d.target; value = place_in order d.value }) drivers)
drivers_sound widths shapes order s [] h r = All-nil (IsDriver widths (nodes_by shapes order))
drivers_sound widths shapes order s (d ∷ more) h r =
    let here : IsDriver widths shapes d = All-head (IsDriver widths shapes) d more h in
    All-cons (IsDriver widths (nodes_by shapes order)) (numbered order d) (map (numbered order) more)
    (record {
      lies = here.lies;
      there = subst (λ n. place_in order d.value < n) (sym (nodes_length shapes order)) (place_within d.value order r.0);
      wide = width_of_place widths shapes order s d.value r.0 ∙ here.wide;
      mentions = variables_of_place widths shapes order s d.value r.0 ∙ here.mentions;
    })
    (drivers_sound widths shapes order s more (All-tail (IsDriver widths shapes) d more h) r.1)

drivers_same : (widths : List ℕ) (shapes : List Shape) (order : List ℕ) → Sees widths shapes order → (drivers : List Driver) → Each (λ k. has k order ≡ true) (map (λ d. d.value) drivers)
    → AllZip (SameDriver (nodes_by shapes order) shapes) (map (λ (d : Driver). record { target = d.target; value = place_in order d.value }) drivers) drivers
drivers_same widths shapes order s [] r = tt
drivers_same widths shapes order s (d ∷ more) r =
    (record { target = refl; value = expr_of_place widths shapes order s d.value r.0 }, drivers_same widths shapes order s more r.1)

-- the printed text stands for the design
pub printed_stands : (flat : Flat) → IsArena flat.arena → IsFlat flat → All (λ k. HasSpot (shape_at flat.arena k)) (order_of flat.arena flat.drivers) → FlatText (printed flat) flat
printed_stands flat a f fits =
    let widths = widths_of flat.wires in
    let order = order_of flat.arena flat.drivers in
    let p = printing widths flat.arena flat.drivers a f.drivers in
    let s = sees widths flat.arena order a p.ordered in
    record {
      shown = shown_by flat order;
      told = record {
        nodes = nodes_told widths flat.arena order s;
        forms = forms_told widths flat.arena order s fits;
        sound = record {
          wires = f.wires;
          drivers = drivers_sound widths flat.arena order s flat.drivers f.drivers p.roots;
          joins = f.joins;
          own_children = f.own_children;
        };
      };
      is = refl;
      wires = refl;
      joins = refl;
      drivers = drivers_same widths flat.arena order s flat.drivers p.roots;
    }

-- ---- the text as code puts it together

flat_map_map : {X Y A : Type 0} (f : Y → List A) (g : X → Y) (xs : List X) → flat_map f (map g xs) ≡ flat_map (λ x. f (g x)) xs
flat_map_map f g [] = refl
flat_map_map f g (x ∷ xs) = ap (λ l. f (g x) ++ l) (flat_map_map f g xs)

-- the lines of a design, kind by kind
parts : (ws : List Signal) (js : List Join) (ns : List Shape) (ds : List Driver) → text_of (lines_of (record { arena = ns; wires = ws; drivers = ds; joins = js }))
    ≡ codes "flat 1\n" ++ (flat_map (λ s. ended (wire_line s)) ws ++ (flat_map (λ j. ended (join_line j)) js ++ (flat_map (λ s. ended (node_line s)) ns ++ (flat_map (λ d. ended (drive_line d)) ds ++ codes "end\n"))))
parts ws js ns ds =
    ap (λ l. codes "flat 1\n" ++ l)
    (flat_map-append ended (map wire_line ws) (map join_line js ++ (map node_line ns ++ (map drive_line ds ++ (codes "end" ∷ [])))) ∙ ap (λ l. l ++ text_of (map join_line js ++ (map node_line ns ++ (map drive_line ds ++ (codes "end" ∷ []))))) (flat_map_map ended wire_line ws)
    ∙ ap (λ l. flat_map (λ s. ended (wire_line s)) ws ++ l) (flat_map-append ended (map join_line js) (map node_line ns ++ (map drive_line ds ++ (codes "end" ∷ []))) ∙ ap (λ l. l ++ text_of (map node_line ns ++ (map drive_line ds ++ (codes "end" ∷ [])))) (flat_map_map ended join_line js)
    ∙ ap (λ l. flat_map (λ j. ended (join_line j)) js ++ l) (flat_map-append ended (map node_line ns) (map drive_line ds ++ (codes "end" ∷ [])) ∙ ap (λ l. l ++ text_of (map drive_line ds ++ (codes "end" ∷ []))) (flat_map_map ended node_line ns)
    ∙ ap (λ l. flat_map (λ s. ended (node_line s)) ns ++ l) (flat_map-append ended (map drive_line ds) (codes "end" ∷ []) ∙ ap (λ l. l ++ text_of (codes "end" ∷ [])) (flat_map_map ended drive_line ds)))))

flat_map_same : {X A : Type 0} (f g : X → List A) (xs : List X) → All (λ x. f x ≡ g x) xs → flat_map f xs ≡ flat_map g xs
flat_map_same f g [] h = refl
flat_map_same f g (x ∷ xs) h = λ i. All-head (λ y. f y ≡ g y) x xs h i ++ flat_map_same f g xs (All-tail (λ y. f y ≡ g y) x xs h) i

-- the numbers of an order stand in a list
pub record AreNumbers (order numbers : List ℕ) : Type 0 where
  pub number : (k : ℕ) → has k order ≡ true → get_or numbers k 0 ≡ place_in order k

node_lines : (P : ℕ → Type 0) (shapes : List Shape) (order numbers : List ℕ) → IsOrder P shapes order → AreNumbers order numbers
    → flat_map (λ k. ended (node_line (renamed (λ j. get_or numbers j 0) (shape_at shapes k)))) order ≡ flat_map (λ s. ended (node_line s)) (nodes_by shapes order)
node_lines P shapes order numbers o n =
    flat_map_same (λ k. ended (node_line (renamed (λ j. get_or numbers j 0) (shape_at shapes k)))) (λ k. ended (node_line (renamed (place_in order) (shape_at shapes k)))) order
    (λ i d l. ap (λ s. ended (node_line s)) (subst (λ k. renamed (λ j. get_or numbers j 0) (shape_at shapes k) ≡ renamed (place_in order) (shape_at shapes k)) (get_or_default order i 0 d l)
    (renamed_same (λ j. get_or numbers j 0) (place_in order) (shape_at shapes (get_or order i 0)) (map_children (λ c. (has c order ≡ true) × (place_in order c < i)) (λ c. get_or numbers c 0 ≡ place_in order c) (λ c h. n.number c h.0) (shape_at shapes (get_or order i 0)) (o.made i l)))))
    ∙ sym (flat_map_map (λ s. ended (node_line s)) (λ k. renamed (place_in order) (shape_at shapes k)) order)

drive_lines : (order numbers : List ℕ) (drivers : List Driver) → AreNumbers order numbers → Each (λ k. has k order ≡ true) (map (λ d. d.value) drivers)
    → flat_map (λ (d : Driver). ended (drive_line (record { target = d.target; value = get_or numbers d.value 0 }))) drivers ≡ flat_map (λ d. ended (drive_line d)) (map (λ (d : Driver). record { target = d.target; value = place_in order d.value }) drivers)
drive_lines order numbers [] n r = refl
drive_lines order numbers (d ∷ more) n r = λ i. ended (drive_line (record { target = d.target; value = n.number d.value r.0 i })) ++ drive_lines order numbers more n r.1 i

-- the text that is put together is the one that is printed
pub put_together : (flat : Flat) (nodes numbers text : List ℕ) → IsArena flat.arena → IsFlat flat → nodes ≡ order_of flat.arena flat.drivers → AreNumbers (order_of flat.arena flat.drivers) numbers
    → text ≡ codes "flat 1\n" ++ (flat_map (λ s. ended (wire_line s)) flat.wires ++ (flat_map (λ j. ended (join_line j)) flat.joins ++ (flat_map (λ k. ended (node_line (renamed (λ j. get_or numbers j 0) (shape_at flat.arena k)))) nodes ++ (flat_map (λ (d : Driver). ended (drive_line (record { target = d.target; value = get_or numbers d.value 0 }))) flat.drivers ++ codes "end\n"))))
    → text ≡ printed flat
put_together flat nodes numbers text a f is n t =
    let order = order_of flat.arena flat.drivers in
    let p = printing (widths_of flat.wires) flat.arena flat.drivers a f.drivers in
    let front : List ℕ → List ℕ → Text = λ ns ds. codes "flat 1\n" ++ (flat_map (λ s. ended (wire_line s)) flat.wires ++ (flat_map (λ j. ended (join_line j)) flat.joins ++ (ns ++ (ds ++ codes "end\n")))) in
    let drives : Text = flat_map (λ (d : Driver). ended (drive_line (record { target = d.target; value = get_or numbers d.value 0 }))) flat.drivers in
    t ∙ ap (λ l. front (flat_map (λ k. ended (node_line (renamed (λ j. get_or numbers j 0) (shape_at flat.arena k)))) l) drives) is
    ∙ ap (λ l. front l drives) (node_lines (IsPrintable (widths_of flat.wires) flat.arena) flat.arena order numbers p.ordered n)
    ∙ ap (λ l. front (flat_map (λ s. ended (node_line s)) (nodes_by flat.arena order)) l) (drive_lines order numbers flat.drivers n p.roots)
    ∙ sym (parts flat.wires flat.joins (nodes_by flat.arena order) (map (λ (d : Driver). record { target = d.target; value = place_in order d.value }) flat.drivers))

pub order_there : (widths : List ℕ) (shapes : List Shape) (drivers : List Driver) (nodes : List ℕ) → IsArena shapes → All (IsDriver widths shapes) drivers → nodes ≡ order_of shapes drivers → All (λ k. k < length shapes) nodes
order_there widths shapes drivers nodes a h e = subst (All (λ k. k < length shapes)) (sym e) (λ i d l. subst (λ k. k < length shapes) (get_or_default (order_of shapes drivers) i 0 d l) ((printing widths shapes drivers a h).ordered.each i l).0)

pub order_form : (widths : List ℕ) (shapes : List Shape) (drivers : List Driver) (nodes : List ℕ) → IsArena shapes → All (IsDriver widths shapes) drivers → nodes ≡ order_of shapes drivers → All (λ k. IsTrue (has_form (shape_at shapes k))) nodes
order_form widths shapes drivers nodes a h e = subst (All (λ k. IsTrue (has_form (shape_at shapes k)))) (sym e) (λ i d l. subst (λ k. IsTrue (has_form (shape_at shapes k))) (get_or_default (order_of shapes drivers) i 0 d l) (node_form widths shapes (get_or (order_of shapes drivers) i 0) a ((printing widths shapes drivers a h).ordered.each i l)))

-- a first line, four kinds of lines, and a last one
pub between : (t0 t1 t2 t3 a b c d first last : Text) → t0 ≡ [] → t1 ≡ t0 ++ first → t2 ≡ t1 ++ (a ++ (b ++ (c ++ d))) → t3 ≡ t2 ++ last → t3 ≡ first ++ (a ++ (b ++ (c ++ (d ++ last))))
between t0 t1 t2 t3 a b c d first last e0 e1 e2 e3 =
    e3 ∙ ap (λ x. x ++ last) (e2 ∙ ap (λ x. x ++ (a ++ (b ++ (c ++ d)))) (e1 ∙ ap (λ x. x ++ first) e0)) ∙ regroup a b c d first last
  where
    regroup : (a b c d first last : Text) → (([] ++ first) ++ (a ++ (b ++ (c ++ d)))) ++ last ≡ first ++ (a ++ (b ++ (c ++ (d ++ last))))
    regroup a b c d first last = simp append_assoc
