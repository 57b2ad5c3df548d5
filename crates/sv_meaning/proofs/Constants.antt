-- What may stand where a constant has to names constants alone, so each index of a target is constant and known.
use Rattle.std.proofs.Common.{◌≡◌, ℕ, Bool, true, false, List, [], ◌∷◌, ◌++◌, length, map, Option, Some, None, ℤ, pos, ◌+ℤ◌, nat_lt, cond, refl, sym, ap, ◌∙◌}
use Rattle.std.specs.Prelude.{not, ◌-ℤ◌, if◌then◌else◌}
use mathlib.Core.Former.{Count}
use Rattle.fourvec.specs.declared.Bit.{Bit}
use Rattle.fourvec.specs.Bits.{is_known}
use Rattle.fourvec.proofs.Order as order
use Rattle.fourvec.proofs.Tables.{left_of, right_of}
use Rattle.sv_outside.specs.declared.refusal.Place.{Place}
use Rattle.sv_tree.specs.declared.word.Word.{Word}
use Rattle.sv_tree.specs.declared.exprs.RangeMark.TheVariants as range_mark
use Rattle.sv_tree.specs.declared.exprs.SystemName.{SystemName}
use Rattle.sv_tree.specs.declared.exprs.SystemName.TheVariants as system_name
use Rattle.sv_tree.specs.declared.exprs.UnaryOp.{UnaryOp}
use Rattle.sv_tree.specs.declared.exprs.UnaryOp.TheVariants as one
use Rattle.sv_tree.specs.declared.exprs.BinaryOp.{BinaryOp}
use Rattle.sv_tree.specs.declared.exprs.BinaryOp.TheVariants as two
use Rattle.sv_tree.specs.declared.exprs.Expr.{Expr, Literal, Name', Concat', Repeat', Row_of-Expr, end_of-Expr, more_of-Expr, Row_of-Select, end_of-Select, more_of-Select}
use Rattle.sv_tree.specs.declared.exprs.Select.{Select, Member}
use Rattle.sv_tree.specs.declared.stmts.Lvalue.{Lvalue, Name, Concat' as braces, Row_of-Lvalue, end_of-Lvalue, more_of-Lvalue}
use Rattle.sv_meaning.specs.Patterns.{paren, cast_literal, cast_name, cast_paren, cast_sign, system, unary, binary, choose, index, range}
use Rattle.sv_meaning.specs.Faults.{Faults, fault, fault_if, or_then, is_clear, not_constant, bad_select}
use Rattle.sv_meaning.specs.Layouts.{Layout, scalar, dim, struct, width, goes_down, place_of, member_in, plain, Scope, constant_scope, What, number_is, type_is, signal_is, genvar_is, of_wires, of_choice, of_samples, NamedSignal, Read, find}
use Rattle.sv_meaning.specs.Meanings.{Meaning, nowhere, whole, constant_of, number_of, fixed_faults, joined, from, parts, concat, power, power_faults, repeated, repeat_faults, sized_by, cast_to, Step, to_member, to_index, to_range, Part, known_place, part_if, lowest, ranged, range_faults, end_faults, no_faults, member_part, member_faults, step_in, step_faults, with_part, chain_layout, chain_faults, indices, all_indices, selected, index_faults, constant_named, signal_faults, named, of_literal}
use Rattle.sv_meaning.specs.Values.{mean, means, step, steps, unary_meaning, binary_meaning, system_meaning, operand_scope, left_scope}
use Rattle.sv_meaning.specs.Targets.{Target, target_of, target_faults, targets, targets_of, wide_target, lvalue_faults, all_lvalue_faults, with_place, fixed_place, chain_fixed, are_fixed}
use Rattle.sv_meaning.specs.Designs.{as_targets, all_as_targets, part_faults, all_part_faults}

-- ---- lists of faults

left_clear : (a b : Faults) → a ++ b ≡ [] → a ≡ []
left_clear [] b h = refl
left_clear (f ∷ a) b h = cc

right_clear : (a b : Faults) → a ++ b ≡ [] → b ≡ []
right_clear [] b h = h
right_clear (f ∷ a) b h = cc

first_clear : (a b : Faults) → or_then a b ≡ [] → a ≡ []
first_clear [] b h = refl
first_clear (f ∷ a) b h = cc

then_clear : (a b : Faults) → or_then a b ≡ [] → b ≡ []
then_clear [] b h = h
then_clear (f ∷ a) b h = cc

both_clear : (a b : Faults) → a ≡ [] → b ≡ [] → or_then a b ≡ []
both_clear a b e f = ap (λ (z : Faults). or_then z b) e ∙ f

must_be : (b : Bool) (number : ℕ) (p : Place) → fault_if (not b) number p ≡ [] → b ≡ true
must_be true number p h = refl
must_be false number p h = cc

-- ---- each kind of operator

-- where nothing stands against it as a constant, it is one
abbrev pub IsSure : Meaning → Type 0
IsSure m = m.faults true ≡ [] → m.constant ≡ true

sure_joined : (a b : Meaning) → IsSure a → IsSure b → IsSure (joined a b)
sure_joined a b g h e = order.both a.constant b.constant (g (left_clear (a.faults true) (b.faults true) e)) (h (right_clear (a.faults true) (b.faults true) e))

sure_unary : (op : UnaryOp) (a : Meaning) → IsSure a → IsSure (unary_meaning op a)
sure_unary one.Plus a h = h
sure_unary one.Minus a h = h
sure_unary one.Not a h = h
sure_unary one.LogicNot a h = h
sure_unary one.And a h = h
sure_unary one.Nand a h = h
sure_unary one.Or a h = h
sure_unary one.Nor a h = h
sure_unary one.Xor a h = h
sure_unary one.TildeXor a h = h
sure_unary one.XorTilde a h = h

sure_power : (p : Place) (a b : Meaning) → IsSure a → IsSure b → IsSure (power p a b)
sure_power p a b g h e = sure_joined a b g h (first_clear (a.faults true ++ b.faults true) (power_faults p a b) e)

sure_binary : (p : Place) (op : BinaryOp) (a b : Meaning) → IsSure a → IsSure b → IsSure (binary_meaning p op a b)
sure_binary p two.Power a b g h = sure_power p a b g h
sure_binary p two.Mul a b g h = sure_joined a b g h
sure_binary p two.Div a b g h = sure_joined a b g h
sure_binary p two.Rem a b g h = sure_joined a b g h
sure_binary p two.Add a b g h = sure_joined a b g h
sure_binary p two.Sub a b g h = sure_joined a b g h
sure_binary p two.Shl a b g h = sure_joined a b g h
sure_binary p two.Shr a b g h = sure_joined a b g h
sure_binary p two.Sal a b g h = sure_joined a b g h
sure_binary p two.Sar a b g h = sure_joined a b g h
sure_binary p two.Lt a b g h = sure_joined a b g h
sure_binary p two.Le a b g h = sure_joined a b g h
sure_binary p two.Gt a b g h = sure_joined a b g h
sure_binary p two.Ge a b g h = sure_joined a b g h
sure_binary p two.Eq a b g h = sure_joined a b g h
sure_binary p two.Ne a b g h = sure_joined a b g h
sure_binary p two.And a b g h = sure_joined a b g h
sure_binary p two.Xor a b g h = sure_joined a b g h
sure_binary p two.TildeXor a b g h = sure_joined a b g h
sure_binary p two.XorTilde a b g h = sure_joined a b g h
sure_binary p two.Or a b g h = sure_joined a b g h
sure_binary p two.LogicAnd a b g h = sure_joined a b g h
sure_binary p two.LogicOr a b g h = sure_joined a b g h
sure_binary p two.Implies a b g h = sure_joined a b g h
sure_binary p two.Equivalent a b g h = sure_joined a b g h

sure_system : (f : SystemName) (a : Meaning) → IsSure a → IsSure (system_meaning f a)
sure_system system_name.Signed a h = h
sure_system system_name.Unsigned a h = h
sure_system system_name.Clog2 a h = λ e. refl

abbrev AllSure : List Meaning → Type 0
AllSure [] = Unit {0}
AllSure (m ∷ more) = IsSure m × AllSure more

sure_parts : (all : List Meaning) → AllSure all → IsSure (parts all)
unfolding parts
sure_parts [] h e = refl
sure_parts (m ∷ more) h e = sure_joined m (parts more) h.0 (sure_parts more h.1) e

sure_concat : (p : Place) (all : List Meaning) → AllSure all → IsSure (concat p all)
sure_concat p all h e = sure_parts all h (first_clear ((parts all).faults true) _ e)

sure_repeated : (p : Place) (n : Meaning) (all : List Meaning) → AllSure all → IsSure (repeated p n all)
sure_repeated p n all h e =
    let inner = first_clear (fixed_faults n ++ (parts all).faults true) (repeat_faults p n all) e in sure_parts all h (right_clear (fixed_faults n) ((parts all).faults true) inner)

sure_sized : (n a : Meaning) → IsSure a → IsSure (sized_by n a)
sure_sized n a h e = let inner = first_clear (fixed_faults n ++ a.faults true) _ e in h (right_clear (fixed_faults n) (a.faults true) inner)

sure_cast : (w : Word) (x : Option What) (a : Meaning) → IsSure a → IsSure (cast_to w x a)
sure_cast w (Some (type_is t)) a h = h
sure_cast w (Some (number_is v s)) a h = sure_sized (named w (Some (number_is v s)) []) a h
sure_cast w (Some (signal_is o n x)) a h = λ e. cc
sure_cast w (Some genvar_is) a h = λ e. cc
sure_cast w None a h = λ e. cc

-- ---- selects

abbrev StepSure : Step → Type 0
StepSure (to_member p n) = Unit {0}
StepSure (to_index p i) = IsSure i
StepSure (to_range p a m b) = IsSure a × IsSure b

abbrev pub StepsSure : List Step → Type 0
StepsSure [] = Unit {0}
StepsSure (s ∷ more) = StepSure s × StepsSure more

-- what an index is judged by tells what stands against it as a constant
abbrev Constants : (Meaning → Faults) → Type 0
Constants judge = (m : Meaning) → judge m ≡ [] → m.faults true ≡ []

-- and that its value is known
abbrev Knowns : (Meaning → Faults) → Type 0
Knowns judge = (m : Meaning) → judge m ≡ [] → is_known (constant_of m) ≡ true

fixed_clear : Constants fixed_faults
fixed_clear m e = first_clear (m.faults true) (fault_if (not (is_known (constant_of m))) not_constant m.start) e

fixed_known : Knowns fixed_faults
fixed_known m e = must_be (is_known (constant_of m)) not_constant m.start (then_clear (m.faults true) (fault_if (not (is_known (constant_of m))) not_constant m.start) e)

abbrev HasPlace : Part → Type 0
HasPlace p = (i : ℤ) × (p.place nowhere ≡ Some i)

known_at : (f : ℤ → ℤ) (m : Meaning) (x : Layout) → is_known (constant_of m) ≡ true → HasPlace (record { layout = x; place = known_place f m })
known_at f m x e = (f (whole m.sign (constant_of m)), ap (λ b. cond b (Some (f (whole m.sign (constant_of m)))) None) e)

-- a select against which nothing stands
record Taken (judge : Meaning → Faults) (x : Layout) (s : Step) : Type 0 where
  part : Part
  is : step_in x s ≡ Some part
  constant : (indices s).constant ≡ true
  place : Knowns judge → HasPlace part

taken_member : (judge : Meaning → Faults) (p : Place) (o : Option (ℕ × Layout)) → member_faults p o ≡ [] → (q : Part) × (member_part o ≡ Some q) × HasPlace q
taken_member judge p None e = cc
taken_member judge p (Some m) e = (record { layout = m.1; place = λ read. Some (pos m.0) }, refl, (pos m.0, refl))

in_range : (p : Place) (l r : ℤ) (each : Layout) (a : Meaning) (m : _) (b : Meaning) → or_then (end_faults no_faults a m b) (range_faults p l r each a m b) ≡ []
    → part_if (is_clear (or_then (end_faults no_faults a m b) (range_faults p l r each a m b))) (ranged l r each a m b) ≡ Some (ranged l r each a m b)
in_range p l r each a m b e = ap (λ (z : Faults). part_if (is_clear z) (ranged l r each a m b)) e

taken : (judge : Meaning → Faults) → Constants judge → (x : Layout) (s : Step) → StepSure s → step_faults judge x s ≡ [] → Taken judge x s
taken judge c (scalar z) (to_member p n) h e = cc
taken judge c (dim z l r each) (to_member p n) h e = cc
taken judge c (struct z all) (to_member p n) h e = let t = taken_member judge p (member_in n all) e in record { part = t.0; is = t.1; constant = refl; place = λ k. t.2 }
taken judge c (scalar z) (to_index p i) h e = let no : fault bad_select p ≡ [] = right_clear (judge i) (fault bad_select p) e in cc
taken judge c (struct z all) (to_index p i) h e = let no : fault bad_select p ≡ [] = right_clear (judge i) (fault bad_select p) e in cc
taken judge c (dim z l r each) (to_index p i) h e = record {
  part = record { layout = each; place = known_place (place_of l r (width each)) i };
  is = refl;
  constant = h (c i e);
  place = λ k. known_at (place_of l r (width each)) i each (k i e);
}
taken judge c (scalar z) (to_range p a m b) h e = let no : fault bad_select p ≡ [] = right_clear (end_faults judge a m b) (fault bad_select p) e in cc
taken judge c (struct z all) (to_range p a m b) h e = let no : fault bad_select p ≡ [] = right_clear (end_faults judge a m b) (fault bad_select p) e in cc
taken judge c (dim z l r each) (to_range p a range_mark.To b) h e =
    let ends = first_clear (fixed_faults a ++ fixed_faults b) (range_faults p l r each a range_mark.To b) e in
    record {
      part = ranged l r each a range_mark.To b;
      is = in_range p l r each a range_mark.To b e;
      constant = order.both a.constant b.constant (h.0 (fixed_clear a (left_clear (fixed_faults a) (fixed_faults b) ends))) (h.1 (fixed_clear b (right_clear (fixed_faults a) (fixed_faults b) ends)));
      place = λ k. (lowest l r (width each) (number_of a) (number_of b), refl);
    }
taken judge c (dim z l r each) (to_range p a range_mark.Up b) h e =
    let ends = first_clear (judge a ++ fixed_faults b) (range_faults p l r each a range_mark.Up b) e in
    let left = left_clear (judge a) (fixed_faults b) ends in
    let right = right_clear (judge a) (fixed_faults b) ends in
    record {
      part = ranged l r each a range_mark.Up b;
      is = in_range p l r each a range_mark.Up b (both_clear (fixed_faults b) (range_faults p l r each a range_mark.Up b) right (then_clear (judge a ++ fixed_faults b) (range_faults p l r each a range_mark.Up b) e));
      constant = order.both a.constant b.constant (h.0 (c a left)) (h.1 (fixed_clear b right));
      place = λ k. known_at (λ i. place_of l r (width each) (if goes_down l r then i else i +ℤ (number_of b -ℤ pos 1))) a (ranged l r each a range_mark.Up b).layout (k a left);
    }
taken judge c (dim z l r each) (to_range p a range_mark.Down b) h e =
    let ends = first_clear (judge a ++ fixed_faults b) (range_faults p l r each a range_mark.Down b) e in
    let left = left_clear (judge a) (fixed_faults b) ends in
    let right = right_clear (judge a) (fixed_faults b) ends in
    record {
      part = ranged l r each a range_mark.Down b;
      is = in_range p l r each a range_mark.Down b (both_clear (fixed_faults b) (range_faults p l r each a range_mark.Down b) right (then_clear (judge a ++ fixed_faults b) (range_faults p l r each a range_mark.Down b) e));
      constant = order.both a.constant b.constant (h.0 (c a left)) (h.1 (fixed_clear b right));
      place = λ k. known_at (λ i. place_of l r (width each) (if goes_down l r then i -ℤ (number_of b -ℤ pos 1) else i)) a (ranged l r each a range_mark.Down b).layout (k a left);
    }

abbrev Rest : (Meaning → Faults) → List Step → Option Part → Faults
Rest judge more o = with_part o [] (λ p. chain_faults judge p.layout more)

-- a chain of selects against which nothing stands
record Chained (x : Layout) (all : List Step) : Type 0 where
  layout : Layout
  is : chain_layout x all ≡ Some layout
  constant : (all_indices all).constant ≡ true

chained : (judge : Meaning → Faults) → Constants judge → (x : Layout) (all : List Step) → StepsSure all → chain_faults judge x all ≡ [] → Chained x all
unfolding chain_faults chain_layout all_indices
chained judge c x [] h e = record { layout = x; is = refl; constant = refl }
chained judge c x (s ∷ more) h e =
    let t = taken judge c x s h.0 (first_clear (step_faults judge x s) (Rest judge more (step_in x s)) e) in
    let behind = chained judge c t.part.layout more h.1 (sym (ap (Rest judge more) t.is) ∙ then_clear (step_faults judge x s) (Rest judge more (step_in x s)) e) in
    record {
      layout = behind.layout;
      is = ap (λ (o : Option Part). with_part o None (λ p. chain_layout p.layout more)) t.is ∙ behind.is;
      constant = order.both (indices s).constant (all_indices more).constant t.constant behind.constant;
    }

chain_is_fixed : (x : Layout) (all : List Step) → StepsSure all → chain_faults fixed_faults x all ≡ [] → chain_fixed x all ≡ true
unfolding chain_faults chain_fixed
chain_is_fixed x [] h e = refl
chain_is_fixed x (s ∷ more) h e =
    let t = taken fixed_faults fixed_clear x s h.0 (first_clear (step_faults fixed_faults x s) (Rest fixed_faults more (step_in x s)) e) in
    let at = t.place fixed_known in
    ap (λ (o : Option Part). with_part o false (λ p. with_place (fixed_place s p) false (λ i. chain_fixed p.layout more))) t.is
    ∙ ap (λ b. with_place (cond b (t.part.place nowhere) None) false (λ i. chain_fixed t.part.layout more)) t.constant
    ∙ ap (λ o. with_place o false (λ i. chain_fixed t.part.layout more)) at.1
    ∙ chain_is_fixed t.part.layout more h.1 (sym (ap (Rest fixed_faults more) t.is) ∙ then_clear (step_faults fixed_faults x s) (Rest fixed_faults more (step_in x s)) e)

-- ---- names with their selects

always : Constants (λ m. m.faults true)
always m e = e

sure_constant : (o : Option Layout) (w : Word) (x : Layout) (v : List Bit) (all : List Step) → chain_layout x all ≡ o → StepsSure all → IsSure (selected o true (index_faults x all) w.place [] all x (λ read. v))
sure_constant (Some y) w x v all i h e = (chained (λ m. m.faults true) always x all h e).constant
sure_constant None w x v all i h e = let c = chained (λ m. m.faults true) always x all h e in let no : None ≡ Some c.layout = sym i ∙ c.is in cc

sure_number : (b : Bool) (w : Word) (v : List Bit) (s : Bool) (all : List Step) → StepsSure all → IsSure (constant_named b w v s all)
sure_number true w v s all h = sure_constant (chain_layout (plain (length v) s) all) w (plain (length v) s) v all refl h
sure_number false w v s all h = λ e. cc

never_constant : (o : Option Layout) (p : Place) (names : List NamedSignal) (all : List Step) (x : Layout) (f : Read → List Bit) → IsSure (selected o false (signal_faults p x all) p names all x f)
never_constant None p names all x f e = cc
never_constant (Some y) p names all x f e = cc

sure_named : (w : Word) (x : Option What) (all : List Step) → StepsSure all → IsSure (named w x all)
sure_named w (Some (number_is v s)) all h = sure_number (nat_lt 0 (length v)) w v s all h
sure_named w (Some (signal_is o n x)) all h = never_constant (chain_layout x all) w.place _ all x _
sure_named w (Some (type_is t)) all h = λ e. cc
sure_named w (Some genvar_is) all h = λ e. cc
sure_named w None all h = λ e. cc

-- ---- all expressions

mutual
  unfolding mean

  -- an expression against which nothing stands where it has to be constant is constant
  pub constant_where_sound : (at : Scope) (x : Expr) → IsSure (mean at x)
  constant_where_sound at (Literal w) = λ e. refl
  constant_where_sound at (Name' w s all) = sure_named w (find w.text at) (steps at all) (steps_sure at all)
  constant_where_sound at (paren p x) = constant_where_sound at x
  constant_where_sound at (Concat' p s all) = sure_concat p (means at all) (means_sure at all)
  constant_where_sound at (Repeat' p r (more_of-Expr n end_of-Expr) s all) = sure_repeated p (mean (constant_scope at) n) (means at all) (means_sure at all)
  constant_where_sound at (cast_literal w x) = sure_sized (of_literal w) (mean at x) (constant_where_sound at x)
  constant_where_sound at (cast_name w x) = sure_cast w (find w.text (constant_scope at)) (mean at x) (constant_where_sound at x)
  constant_where_sound at (cast_paren p n x) = sure_sized (from p (mean (constant_scope at) n)) (mean at x) (constant_where_sound at x)
  constant_where_sound at (cast_sign s p x) = constant_where_sound at x
  constant_where_sound at (system f p x) = sure_system f (mean (operand_scope f at) x) (constant_where_sound (operand_scope f at) x)
  constant_where_sound at (unary op p x) = sure_unary op (mean at x) (constant_where_sound at x)
  constant_where_sound at (binary x op p y) = sure_binary p op (mean at x) (mean at y) (constant_where_sound at x) (constant_where_sound at y)
  constant_where_sound at (choose c x y) = sure_joined (joined (mean at c) (mean at x)) (mean at y) (sure_joined (mean at c) (mean at x) (constant_where_sound at c) (constant_where_sound at x)) (constant_where_sound at y)

  means_sure : {m : Count} (at : Scope) (all : Row_of-Expr m) → AllSure (means at all)
  means_sure at end_of-Expr = tt
  means_sure at (more_of-Expr x all) = (constant_where_sound at x, means_sure at all)

  step_sure : (at : Scope) (x : Select) → StepSure (step at x)
  step_sure at (Member p w) = tt
  step_sure at (index p x) = constant_where_sound at x
  step_sure at (range p x m y) = (constant_where_sound (left_scope m at) x, constant_where_sound (constant_scope at) y)

  steps_sure : {m : Count} (at : Scope) (all : Row_of-Select m) → StepsSure (steps at all)
  steps_sure at end_of-Select = tt
  steps_sure at (more_of-Select x all) = (step_sure at x, steps_sure at all)

-- ---- targets whose indices are judged as constants

listed_sure : (at : Scope) (all : List Select) → StepsSure (map (step at) all)
listed_sure at [] = tt
listed_sure at (x ∷ all) = (step_sure at x, listed_sure at all)

name_fixed : (p : Place) (w : Word) (o : Option What) (all : List Step) → StepsSure all → target_faults fixed_faults p w o all ≡ [] → are_fixed (target_of o all ∷ []) ≡ true
unfolding are_fixed
name_fixed p w (Some (signal_is of_wires n x)) all h e = order.both (chain_fixed x all) true (chain_is_fixed x all h e) refl
name_fixed p w (Some (signal_is of_choice n x)) all h e = cc
name_fixed p w (Some (signal_is of_samples n x)) all h e = cc
name_fixed p w (Some (number_is v s)) all h e = cc
name_fixed p w (Some (type_is t)) all h e = cc
name_fixed p w (Some genvar_is) all h e = cc
name_fixed p w None all h e = cc

none_fixed : are_fixed [] ≡ true
unfolding are_fixed
none_fixed = refl

both_fixed : (a b : List Target) → are_fixed a ≡ true → are_fixed b ≡ true → are_fixed (a ++ b) ≡ true
unfolding are_fixed
both_fixed [] b e f = f
both_fixed (t ∷ a) b e f =
    order.both (chain_fixed t.layout t.steps) (are_fixed (a ++ b)) (left_of (chain_fixed t.layout t.steps) (are_fixed a) e) (both_fixed a b (right_of (chain_fixed t.layout t.steps) (are_fixed a) e) f)

mutual
  unfolding targets lvalue_faults

  -- each index of such a target is constant and known
  pub lvalue_is_fixed : (indexing at : Scope) (to : Lvalue) → lvalue_faults fixed_faults indexing at to ≡ [] → are_fixed (targets indexing at to) ≡ true
  lvalue_is_fixed indexing at (Name w all) e = name_fixed w.place w (find w.text at) (map (step indexing) all) (listed_sure indexing all) e
  lvalue_is_fixed indexing at (braces p s all) e = lvalues_are_fixed indexing at all (first_clear (all_lvalue_faults fixed_faults indexing at all) (wide_target p (targets_of indexing at all)) e)

  lvalues_are_fixed : {m : Count} (indexing at : Scope) (all : Row_of-Lvalue m) → all_lvalue_faults fixed_faults indexing at all ≡ [] → are_fixed (targets_of indexing at all) ≡ true
  lvalues_are_fixed indexing at end_of-Lvalue e = none_fixed
  lvalues_are_fixed indexing at (more_of-Lvalue x all) e =
      both_fixed (targets indexing at x) (targets_of indexing at all) (lvalue_is_fixed indexing at x (left_clear (lvalue_faults fixed_faults indexing at x) (all_lvalue_faults fixed_faults indexing at all) e))
      (lvalues_are_fixed indexing at all (right_clear (lvalue_faults fixed_faults indexing at x) (all_lvalue_faults fixed_faults indexing at all) e))

mutual
  unfolding as_targets part_faults

  -- the same of an actual
  pub actual_is_fixed : (start : Place) (indexing at : Scope) (x : Expr) → part_faults start indexing at x ≡ [] → are_fixed (as_targets indexing at x) ≡ true
  actual_is_fixed start indexing at (Name' w s all) e = name_fixed start w (find w.text at) (steps indexing all) (steps_sure indexing all) e
  actual_is_fixed start indexing at (Concat' p s all) e = actuals_are_fixed start indexing at all (first_clear (all_part_faults start indexing at all) (wide_target p (all_as_targets indexing at all)) e)
  actual_is_fixed start indexing at (Literal w) e = cc
  actual_is_fixed start indexing at (paren p x) e = cc
  actual_is_fixed start indexing at (Repeat' p r (more_of-Expr n end_of-Expr) s row) e = cc
  actual_is_fixed start indexing at (cast_literal w x) e = cc
  actual_is_fixed start indexing at (cast_name w x) e = cc
  actual_is_fixed start indexing at (cast_paren p n x) e = cc
  actual_is_fixed start indexing at (cast_sign s p x) e = cc
  actual_is_fixed start indexing at (system f p x) e = cc
  actual_is_fixed start indexing at (unary op p x) e = cc
  actual_is_fixed start indexing at (binary x op p y) e = cc
  actual_is_fixed start indexing at (choose t x y) e = cc

  actuals_are_fixed : {m : Count} (start : Place) (indexing at : Scope) (all : Row_of-Expr m) → all_part_faults start indexing at all ≡ [] → are_fixed (all_as_targets indexing at all) ≡ true
  actuals_are_fixed start indexing at end_of-Expr e = none_fixed
  actuals_are_fixed start indexing at (more_of-Expr x all) e =
      both_fixed (as_targets indexing at x) (all_as_targets indexing at all) (actual_is_fixed start indexing at x (left_clear (part_faults start indexing at x) (all_part_faults start indexing at all) e))
      (actuals_are_fixed start indexing at all (right_clear (part_faults start indexing at x) (all_part_faults start indexing at all) e))
