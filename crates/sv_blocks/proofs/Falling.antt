-- Sizes of actions, which running them goes down.
use Rattle.std.proofs.Common.{◌≡◌, ℕ, zero, suc, ◌+◌, ◌*◌, ◌<◌, List, [], ◌∷◌, length, get_or, refl, sym, ap, ◌∙◌, arith}
use mathlib.Core.Former.{Count}
use Rattle.sv_typed.specs.declared.tree.Typed.{Typed}
use Rattle.sv_actions.specs.declared.action.Case.{Case}
use Rattle.sv_actions.specs.declared.action.Arm.{Arm}
use Rattle.sv_actions.specs.declared.action.Action.{Action, Assign, Choose', Match', Row_of-Action, end_of-Action, more_of-Action, Row_of-Arm, end_of-Arm, more_of-Arm}
use Rattle.sv_actions.specs.declared.action.Action.TheVariants as act
use Rattle.sv_actions.specs.declared.action.Action.TheBlock.{shape-the_row-Action-0, hidden-the_row-Action-0, shape-the_row-Arm-1, hidden-the_row-Arm-1}

unfoldable mutual
  pub size : Action → ℕ
  size (Assign to v) = 0
  size (Choose' c s a t b) = suc (row_size a + row_size b)
  size (Match' c s arms t other) = suc (arm_row_size arms + row_size other)

  pub row_size : {m : Count} → Row_of-Action m → ℕ
  row_size end_of-Action = 0
  row_size (more_of-Action x all) = suc (size x + row_size all)

  pub arm_row_size : {m : Count} → Row_of-Arm m → ℕ
  arm_row_size end_of-Arm = 0
  arm_row_size (more_of-Arm labels s body all) = suc (suc (row_size body + arm_row_size all))

unfoldable pub all_size : List Action → ℕ
all_size [] = 0
all_size (x ∷ more) = suc (size x + all_size more)

unfoldable pub arms_size : List Arm → ℕ
arms_size [] = 0
arms_size (arm ∷ more) = suc (suc (all_size arm.body + arms_size more))

row_is : (all : List Action) → row_size (hidden-the_row-Action-0 all) ≡ all_size all
unfolding size all_size shape-the_row-Action-0 hidden-the_row-Action-0 denote.Hole.Carrier.hidden
row_is [] = refl
row_is (x ∷ more) = ap (λ n. suc (size x + n)) (row_is more)

arm_row_is : (all : List Arm) → arm_row_size (hidden-the_row-Arm-1 all) ≡ arms_size all
unfolding size arms_size shape-the_row-Arm-1 hidden-the_row-Arm-1 shape-the_row-Action-0 hidden-the_row-Action-0 denote.Hole.Carrier.hidden
arm_row_is [] = refl
arm_row_is (arm ∷ more) =
    ap (λ n. suc (suc (n + arm_row_size (hidden-the_row-Arm-1 more)))) (row_is arm.body) ∙ ap (λ n. suc (suc (all_size arm.body + n))) (arm_row_is more)

choose_is : (x : Action) (c : Typed) (a b : List Action) → x ≡ act.Choose c a b → size x ≡ suc (all_size a + all_size b)
unfolding size shape-the_row-Action-0 hidden-the_row-Action-0 denote.Hole.Carrier.hidden
choose_is x c a b e = ap size e ∙ ap (λ n. suc (n + row_size (hidden-the_row-Action-0 b))) (row_is a) ∙ ap (λ n. suc (all_size a + n)) (row_is b)

match_is : (x : Action) (c : Case) (arms : List Arm) (other : List Action) → x ≡ act.Match c arms other → size x ≡ suc (arms_size arms + all_size other)
unfolding size shape-the_row-Arm-1 hidden-the_row-Arm-1 shape-the_row-Action-0 hidden-the_row-Action-0 denote.Hole.Carrier.hidden
match_is x c arms other e = ap size e ∙ ap (λ n. suc (n + row_size (hidden-the_row-Action-0 other))) (arm_row_is arms) ∙ ap (λ n. suc (arms_size arms + n)) (row_is other)

pub choose_less : (x : Action) (c : Typed) (a b ta tb : List Action) → x ≡ act.Choose c a b → ta ≡ a → tb ≡ b → all_size ta + all_size tb < size x
choose_less x c a b ta tb e da db = let g = choose_is x c a b e in let h = ap all_size da in let k = ap all_size db in omega arith

pub choose_as : (x : Action) (c : Typed) (a b ta tb : List Action) → x ≡ act.Choose c a b → ta ≡ a → tb ≡ b → x ≡ act.Choose c ta tb
choose_as x c a b ta tb e da db = e ∙ sym (ap (act.Choose c ta) db ∙ ap (λ y. act.Choose c y b) da)

pub choose_left : (x : Action) (c : Typed) (a b xs : List Action) (n : ℕ) → x ≡ act.Choose c a b → xs ≡ a → size x ≡ n → all_size xs < n
choose_left x c a b xs n e d k = let g = choose_is x c a b e in let h = ap all_size d in omega arith

pub choose_right : (x : Action) (c : Typed) (a b xs : List Action) (n : ℕ) → x ≡ act.Choose c a b → xs ≡ b → size x ≡ n → all_size xs < n
choose_right x c a b xs n e d k = let g = choose_is x c a b e in let h = ap all_size d in omega arith

pub match_other : (x : Action) (c : Case) (arms : List Arm) (other xs : List Action) (n : ℕ) → x ≡ act.Match c arms other → xs ≡ other → size x ≡ n → all_size xs < n
match_other x c arms other xs n e d k = let g = match_is x c arms other e in let h = ap all_size d in omega arith

pub match_arms : (x : Action) (c : Case) (arms xs : List Arm) (other : List Action) (n : ℕ) → x ≡ act.Match c arms other → xs ≡ arms → size x ≡ n → arms_size xs < n
match_arms x c arms xs other n e d k = let g = match_is x c arms other e in let h = ap arms_size d in omega arith

-- what is smaller by size is smaller by measure
pub falls_by : (m n t : ℕ) → m < n → 4 * n ≡ t → 4 * m + 2 < t
falls_by m n t h e = omega arith

pub falls_to : (m n t : ℕ) → m < n → 4 * n ≡ t → 4 * m < t
falls_to m n t h e = omega arith

pub falls_apart : (m n t : ℕ) → m < n → 4 * n ≡ t → 4 * m + 1 < t
falls_apart m n t h e = omega arith

pub falls_arm : (m n t : ℕ) → suc m < n → 4 * n ≡ t → 4 * m + 2 < t
falls_arm m n t h e = omega arith

pub action_less : (all : List Action) (i : ℕ) (x : Action) (n : ℕ) → i < length all → x ≡ get_or all i x → all_size all ≡ n → size x < n
unfolding all_size
action_less [] i x n l e k = absurd (omega arith)
action_less (y ∷ more) zero x n l e k = let g = ap size e in omega arith
action_less (y ∷ more) (suc i) x n l e k = let g = action_less more i x (all_size more) (omega arith) e refl in omega arith

pub arm_less : (all : List Arm) (i : ℕ) (x : Arm) (n : ℕ) → i < length all → x ≡ get_or all i x → arms_size all ≡ n → suc (all_size x.body) < n
unfolding arms_size
arm_less [] i x n l e k = absurd (omega arith)
arm_less (y ∷ more) zero x n l e k = let g = ap (λ (z : Arm). all_size z.body) e in omega arith
arm_less (y ∷ more) (suc i) x n l e k = let g = arm_less more i x (arms_size more) (omega arith) e refl in omega arith
