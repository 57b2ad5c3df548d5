-- What stands against an expression stands at places of the expression, and so does its first token. One lemma for each rule of its meaning, whatever
-- the names stand for.
use Rattle.std.proofs.Common.{ℕ, Bool, true, false, List, [], ◌∷◌, Option, Some, None}
use Rattle.std.specs.Prelude.{ℤ}
use mathlib.Core.Former.{Count}
use Rattle.fourvec.specs.declared.Bit.{Bit}
use Rattle.sv_outside.specs.declared.refusal.Place.{Place}
use Rattle.sv_tree.specs.declared.word.Word.{Word}
use Rattle.sv_tree.specs.declared.exprs.Expr.{Expr, Literal, Name', Concat', Repeat', Row_of-Expr, end_of-Expr, more_of-Expr, Row_of-Select, end_of-Select, more_of-Select}
use Rattle.sv_tree.specs.declared.exprs.Select.{Select, Member}
use Rattle.sv_tree.specs.declared.exprs.RangeMark.{RangeMark}
use Rattle.sv_tree.specs.declared.exprs.RangeMark.TheVariants as mark
use Rattle.sv_tree.specs.declared.exprs.SystemName.{SystemName}
use Rattle.sv_tree.specs.declared.exprs.SystemName.TheVariants as system_name
use Rattle.sv_tree.specs.declared.exprs.UnaryOp.{UnaryOp}
use Rattle.sv_tree.specs.declared.exprs.UnaryOp.TheVariants as one
use Rattle.sv_tree.specs.declared.exprs.BinaryOp.{BinaryOp}
use Rattle.sv_tree.specs.declared.exprs.BinaryOp.TheVariants as two
use Rattle.sv_meaning.specs.Patterns.{paren, cast_literal, cast_name, cast_paren, cast_sign, system, unary, binary, choose, index, range}
use Rattle.sv_meaning.specs.Faults.{Faults, fault, not_constant, bad_width, bad_select}
use Rattle.sv_meaning.specs.Layouts.{Layout, dim, struct, What, number_is, type_is, signal_is, NamedSignal, Read, Scope, constant_scope, find}
use Rattle.sv_meaning.specs.Meanings.{Meaning, fixed_faults, fixed_faults_at, from, joined, power_faults, power, chosen, all_loose, parts, concat, repeat_faults, repeated, sized_by, log_up, Step, to_member, to_index, to_range, Part, step_in, with_part, range_faults, end_faults, member_faults, step_faults, chain_faults, chain_layout, selected, index_faults, constant_named, signal_faults, no_value, named, cast_to, literal_faults, of_literal}
use Rattle.sv_meaning.specs.Values.{unary_meaning, binary_meaning, system_meaning, operand_scope, left_scope, mean, means, step, steps}
use Rattle.sv_places.specs.Within.{Each, InWord, InExpr, InExprs, InSelect, InSelects}
use Rattle.sv_places.proofs.Told.{Told, told_append, told_then, told_if}

-- what stands against it, where it is constant and where it is not
abbrev pub FaultsIn : (Place → Type 0) → Meaning → Type 0
FaultsIn P m = (c : Bool) → Told P (m.faults c)

-- and its first token
abbrev pub MeaningIn : (Place → Type 0) → Meaning → Type 0
MeaningIn P m = FaultsIn P m × P m.start

abbrev pub StepIn : (Place → Type 0) → Step → Type 0
StepIn P (to_member p n) = P p
StepIn P (to_index p i) = P p × MeaningIn P i
StepIn P (to_range p a m b) = P p × MeaningIn P a × MeaningIn P b

-- a way to judge indices, which tells of no other places
abbrev pub Judges : (Place → Type 0) → (Meaning → Faults) → Type 0
Judges P judge = (m : Meaning) → MeaningIn P m → Told P (judge m)

module _ (P : Place → Type 0) where
  pub fixed_in : Judges P fixed_faults
  fixed_in m h = told_then P (m.faults true) _ (h.0 true) (told_if P _ not_constant m.start h.1)

  pub fixed_at_in : (w : ℕ) → Judges P (fixed_faults_at w)
  fixed_at_in w m h = told_then P (m.faults true) _ (h.0 true) (told_if P _ not_constant m.start h.1)

  -- ---- operators

  pub joined_in : (a b : Meaning) → MeaningIn P a → MeaningIn P b → MeaningIn P (joined a b)
  joined_in a b h k = (λ c. told_append P (a.faults c) (b.faults c) (h.0 c) (k.0 c), h.1)

  chosen_in : (c a b : Meaning) → MeaningIn P c → MeaningIn P a → MeaningIn P b → MeaningIn P (chosen c a b)
  chosen_in c a b g h k = joined_in (joined c a) b (joined_in c a g h) k

  power_told : (p : Place) (a b : Meaning) → P p → P a.start → Told P (power_faults p a b)
  power_told p a b q h = search (told_then P, told_if P)

  power_in : (p : Place) (a b : Meaning) → P p → MeaningIn P a → MeaningIn P b → MeaningIn P (power p a b)
  power_in p a b q h k = (λ c. told_then P ((joined a b).faults c) (power_faults p a b) ((joined_in a b h k).0 c) (power_told p a b q h.1), h.1)

  unary_in : (op : UnaryOp) (a : Meaning) → MeaningIn P a → MeaningIn P (unary_meaning op a)
  unary_in one.Plus a h = h
  unary_in op a h = h

  pub binary_in : (p : Place) (op : BinaryOp) (a b : Meaning) → P p → MeaningIn P a → MeaningIn P b → MeaningIn P (binary_meaning p op a b)
  binary_in p two.Power a b q h k = power_in p a b q h k
  binary_in p op a b q h k = joined_in a b h k

  log_in : (a : Meaning) → MeaningIn P a → MeaningIn P (log_up a)
  log_in a h = (λ c. fixed_in a h, h.1)

  system_in : (f : SystemName) (a : Meaning) → MeaningIn P a → MeaningIn P (system_meaning f a)
  system_in system_name.Clog2 a h = log_in a h
  system_in f a h = h

  -- ---- concatenations and casts

  loose_told : (all : List Meaning) → Each (MeaningIn P) all → Told P (all_loose all)
  unfolding all_loose
  loose_told [] h = tt
  loose_told (m ∷ more) h = told_append P _ (all_loose more) (told_if P _ bad_width m.start h.0.1) (loose_told more h.1)

  parts_in : (all : List Meaning) → Each (MeaningIn P) all → FaultsIn P (parts all)
  unfolding parts
  parts_in [] h c = tt
  parts_in (m ∷ more) h c = told_append P (m.faults c) ((parts more).faults c) (h.0.0 c) (parts_in more h.1 c)

  concat_in : (p : Place) (all : List Meaning) → P p → Each (MeaningIn P) all → MeaningIn P (concat p all)
  concat_in p all q h =
      (λ c. told_then P ((parts all).faults c) _ (parts_in all h c) (told_then P (all_loose all) _ (loose_told all h) (told_if P _ bad_width p q)), q)

  repeat_told : (p : Place) (n : Meaning) (all : List Meaning) → P p → Each (MeaningIn P) all → Told P (repeat_faults p n all)
  repeat_told p n all q h = told_then P (all_loose all) _ (loose_told all h) (told_if P _ bad_width p q)

  repeated_in : (p : Place) (n : Meaning) (all : List Meaning) → P p → MeaningIn P n → Each (MeaningIn P) all → MeaningIn P (repeated p n all)
  repeated_in p n all q k h =
      (λ c. told_then P _ (repeat_faults p n all) (told_append P (fixed_faults n) ((parts all).faults c) (fixed_in n k) (parts_in all h c)) (repeat_told p n all q h), q)

  sized_in : (n a : Meaning) → MeaningIn P n → MeaningIn P a → MeaningIn P (sized_by n a)
  sized_in n a k h =
      (λ c. told_then P _ _ (told_append P (fixed_faults n) (a.faults c) (fixed_in n k) (h.0 c)) (told_if P _ bad_width n.start k.1), k.1)

  -- ---- selects

  range_told : (p : Place) (l r : ℤ) (x : Layout) (a : Meaning) (m : RangeMark) (b : Meaning) → P p → Told P (range_faults p l r x a m b)
  range_told p l r x a mark.To b q = search (told_then P, told_if P)
  range_told p l r x a m b q = search (told_then P, told_if P)

  ends_told : (judge : Meaning → Faults) (a : Meaning) (m : RangeMark) (b : Meaning) → Judges P judge → MeaningIn P a → MeaningIn P b → Told P (end_faults judge a m b)
  ends_told judge a mark.To b j h k = told_append P (fixed_faults a) (fixed_faults b) (fixed_in a h) (fixed_in b k)
  ends_told judge a m b j h k = told_append P (judge a) (fixed_faults b) (j a h) (fixed_in b k)

  member_told : (p : Place) (x : Option (ℕ × Layout)) → P p → Told P (member_faults p x)
  member_told p None q = (q, tt)
  member_told p (Some m) q = tt

  step_told : (judge : Meaning → Faults) (x : Layout) (s : Step) → Judges P judge → StepIn P s → Told P (step_faults judge x s)
  step_told judge (struct s all) (to_member p n) j h = member_told p _ h
  step_told judge x (to_member p n) j h = (h, tt)
  step_told judge (dim s l r each) (to_index p i) j h = j i h.1
  step_told judge x (to_index p i) j h = told_append P (judge i) (fault bad_select p) (j i h.1) (h.0, tt)
  step_told judge (dim s l r each) (to_range p a m b) j h = told_then P (end_faults judge a m b) _ (ends_told judge a m b j h.1 h.2) (range_told p l r each a m b h.0)
  step_told judge x (to_range p a m b) j h = told_append P (end_faults judge a m b) (fault bad_select p) (ends_told judge a m b j h.1 h.2) (h.0, tt)

  part_told : (x : Option Part) (f : Part → Faults) → ((p : Part) → Told P (f p)) → Told P (with_part x [] f)
  part_told None f h = tt
  part_told (Some p) f h = h p

  pub chain_told : (judge : Meaning → Faults) (x : Layout) (all : List Step) → Judges P judge → Each (StepIn P) all → Told P (chain_faults judge x all)
  unfolding chain_faults
  chain_told judge x [] j h = tt
  chain_told judge x (s ∷ more) j h =
      told_then P (step_faults judge x s) _ (step_told judge x s j h.0) (part_told (step_in x s) (λ p. chain_faults judge p.layout more) (λ p. chain_told judge p.layout more j h.1))

  index_told : (x : Layout) (all : List Step) (c : Bool) → Each (StepIn P) all → Told P (index_faults x all c)
  index_told x all c h = chain_told (λ m. m.faults c) x all (λ m k. k.0 c) h

  -- ---- names and literals

  selected_in : (y : Option Layout) (c : Bool) (why : Bool → Faults) (p : Place) (names : List NamedSignal) (all : List Step) (x : Layout) (f : Read → List Bit)
      → ((c : Bool) → Told P (why c)) → P p → MeaningIn P (selected y c why p names all x f)
  selected_in None c why p names all x f h q = (h, q)
  selected_in (Some y) c why p names all x f h q = (h, q)

  constant_in : (b : Bool) (w : Word) (v : List Bit) (s : Bool) (all : List Step) → InWord P w → Each (StepIn P) all → MeaningIn P (constant_named b w v s all)
  constant_in true w v s all q h = selected_in _ true _ w.place [] all _ _ (λ c. index_told _ all c h) q
  constant_in false w v s all q h = (λ c. (q, tt), q)

  signal_told : (p : Place) (x : Layout) (all : List Step) (c : Bool) → P p → Each (StepIn P) all → Told P (signal_faults p x all c)
  signal_told p x all true q h = (q, tt)
  signal_told p x all false q h = index_told x all false h

  none_told : (p : Place) (c : Bool) → P p → Told P (no_value p c)
  none_told p true q = (q, tt)
  none_told p false q = (q, tt)

  pub named_in : (w : Word) (x : Option What) (all : List Step) → InWord P w → Each (StepIn P) all → MeaningIn P (named w x all)
  named_in w (Some (number_is v s)) all q h = constant_in _ w v s all q h
  named_in w (Some (signal_is o n x)) all q h = selected_in (chain_layout x all) false _ w.place _ all x _ (λ c. signal_told w.place x all c q h) q
  named_in w x all q h = (λ c. none_told w.place c q, q)

  cast_in : (w : Word) (x : Option What) (a : Meaning) → InWord P w → MeaningIn P a → MeaningIn P (cast_to w x a)
  cast_in w (Some (type_is t)) a q h = (h.0, q)
  cast_in w (Some (number_is v s)) a q h = sized_in (named w (Some (number_is v s)) []) a (named_in w (Some (number_is v s)) [] q tt) h
  cast_in w None a q h = (λ c. told_append P (no_value w.place c) (a.faults c) (none_told w.place c q) (h.0 c), q)
  cast_in w x a q h = (λ c. (q, h.0 c), q)

  literal_told : (w : Word) → InWord P w → Told P (literal_faults w)
  literal_told w q = search (told_then P, told_if P)

  literal_in : (w : Word) → InWord P w → MeaningIn P (of_literal w)
  literal_in w q = (λ c. literal_told w q, q)

  -- ---- expressions

  mutual
    unfolding mean means step steps

    pub mean_in : (at : Scope) (x : Expr) → InExpr P x → MeaningIn P (mean at x)
    mean_in at (Literal w) h = literal_in w h
    mean_in at (Name' w s all) h = named_in w (find w.text at) (steps at all) h.0 (steps_in at all h.1)
    mean_in at (paren p x) h = ((mean_in at x h.1).0, h.0)
    mean_in at (Concat' p s all) h = concat_in p (means at all) h.0 (means_in at all h.1)
    mean_in at (Repeat' p r (more_of-Expr n end_of-Expr) s all) h =
        repeated_in p (mean (constant_scope at) n) (means at all) h.0 (mean_in (constant_scope at) n h.1) (means_in at all h.2)
    mean_in at (cast_literal w x) h = sized_in (of_literal w) (mean at x) (literal_in w h.0) (mean_in at x h.1)
    mean_in at (cast_name w x) h = cast_in w (find w.text (constant_scope at)) (mean at x) h.0 (mean_in at x h.1)
    mean_in at (cast_paren p n x) h =
        sized_in (from p (mean (constant_scope at) n)) (mean at x) ((mean_in (constant_scope at) n h.1).0, h.0) (mean_in at x h.2)
    mean_in at (cast_sign s p x) h = ((mean_in at x h.1).0, h.0)
    mean_in at (system f p x) h = ((system_in f (mean (operand_scope f at) x) (mean_in (operand_scope f at) x h.1)).0, h.0)
    mean_in at (unary op p x) h = ((unary_in op (mean at x) (mean_in at x h.1)).0, h.0)
    mean_in at (binary x op p y) h = binary_in p op (mean at x) (mean at y) h.1 (mean_in at x h.0) (mean_in at y h.2)
    mean_in at (choose c x y) h = chosen_in (mean at c) (mean at x) (mean at y) (mean_in at c h.0) (mean_in at x h.1) (mean_in at y h.2)

    pub means_in : {m : Count} (at : Scope) (all : Row_of-Expr m) → InExprs P all → Each (MeaningIn P) (means at all)
    means_in at end_of-Expr h = tt
    means_in at (more_of-Expr x all) h = (mean_in at x h.0, means_in at all h.1)

    pub step_in_tree : (at : Scope) (x : Select) → InSelect P x → StepIn P (step at x)
    step_in_tree at (Member p w) h = h.0
    step_in_tree at (index p x) h = (h.0, mean_in at x h.1)
    step_in_tree at (range p x m y) h = (h.0, mean_in (left_scope m at) x h.1, mean_in (constant_scope at) y h.2)

    pub steps_in : {m : Count} (at : Scope) (all : Row_of-Select m) → InSelects P all → Each (StepIn P) (steps at all)
    steps_in at end_of-Select h = tt
    steps_in at (more_of-Select x all) h = (step_in_tree at x h.0, steps_in at all h.1)
