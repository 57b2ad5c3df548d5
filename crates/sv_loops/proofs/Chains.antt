-- What follows from an answer for what is judged from it, and the turns of a loop one by one.
use Rattle.std.proofs.Common.{◌≡◌, ℕ, zero, suc, Bool, true, false, List, [], ◌∷◌, ◌++◌, Result, Ok, Err, refl, sym, ap, ◌∙◌, subst, append_assoc, if◌then◌else◌, arith}
use Rattle.std.proofs.lemmas.List.{append-nil}
use Rattle.fourvec.specs.declared.Bit.{Bit}
use Rattle.sv_outside.specs.declared.refusal.Place.{Place}
use Rattle.sv_outside.specs.declared.refusal.TextErr.{TextErr}
use Rattle.sv_outside.specs.declared.refusal.TextErr.TheVariants.{No, Memory}
use Rattle.sv_tree.specs.declared.exprs.Expr.{Expr}
use Rattle.sv_tree.specs.declared.stmts.Step.{Step}
use Rattle.sv_meaning.specs.Faults.{Judged, ◌>>=◌, fault, loop_long}
use Rattle.sv_meaning.specs.Layouts.{Name, Scope}
use Rattle.sv_meaning.specs.Deeds.{next_value, holds_at, with_index, turns_on, turns_from, most_turns}
use Rattle.sv_loops.specs.Answers.{Answers, Gives}

pub gives_ok : {A : Type 0} (j : Judged A) (y : A) → Gives j (Ok y) → j ≡ Ok y
gives_ok (Ok x) y h = ap Ok h
gives_ok (Err all) y h = absurd h

pub gives_memory : {A : Type 0} (j : Judged A) → Gives j (Err Memory)
gives_memory (Ok x) = tt
gives_memory (Err all) = tt

-- what is refused first is refused
pub then_err : {A B : Type 0} (j : Judged A) (f : A → Judged B) (e : TextErr) → Gives j (Err e) → Gives (j >>= f) (Err e)
then_err (Ok x) f (No r) h = absurd h
then_err (Ok x) f Memory h = gives_memory (f x)
then_err (Err all) f (No r) h = h
then_err (Err all) f Memory h = tt

pub then_ok : {A B : Type 0} (j : Judged A) (f : A → Judged B) (y : A) (r : Result B TextErr) → Gives j (Ok y) → Gives (f y) r → Gives (j >>= f) r
then_ok j f y r h k = subst (λ x. Gives (x >>= f) r) (sym (gives_ok j y h)) k

-- the same of other relations
pub answers_err : {A B : Type 0} (r : A → B → Type 0) (j : Judged A) (e : TextErr) → Gives j (Err e) → Answers r j (Err e)
answers_err r (Ok x) (No f) h = absurd h
answers_err r (Ok x) Memory h = tt
answers_err r (Err all) (No f) h = h
answers_err r (Err all) Memory h = tt

pub answers_ok : {A B : Type 0} (r : A → B → Type 0) (j : Judged A) (x : A) (y : B) → j ≡ Ok x → r x y → Answers r j (Ok y)
answers_ok r j x y e h = subst (λ z. Answers r z (Ok y)) (sym e) h

-- ---- turns

-- those so far, and the rest
abbrev pub behind : List (List Bit) → Judged (List (List Bit)) → Judged (List (List Bit))
behind all j = j >>= λ rest. Ok (all ++ rest)

-- so many turns more, if one is taken
abbrev pub if_taken : Bool → ℕ → Place → Scope → Name → Expr → Step → List Bit → Judged (List (List Bit))
if_taken taken n p at name test next bits = if taken then turns_on n p at name test next bits else Ok []

behind_more : (all : List (List Bit)) (bits : List Bit) (j : Judged (List (List Bit))) → behind all (j >>= λ rest. Ok (bits ∷ rest)) ≡ behind (all ++ bits ∷ []) j
behind_more all bits (Ok rest) = ap Ok (sym (append_assoc all (bits ∷ []) rest))
behind_more all bits (Err why) = refl

behind_none : (j : Judged (List (List Bit))) → j ≡ behind [] j
behind_none (Ok rest) = refl
behind_none (Err why) = refl

pub turns_begin : (p : Place) (at : Scope) (name : Name) (test : Expr) (next : Step) (bits : List Bit) (taken : Bool) → Gives (holds_at at name test bits) (Ok taken) →
    turns_from most_turns p at name test next bits ≡ behind [] (if_taken taken 4096 p at name test next bits)
turns_begin p at name test next bits taken h =
    ap (λ j. j >>= λ (t : Bool). if_taken t 4096 p at name test next bits) (gives_ok (holds_at at name test bits) taken h) ∙ behind_none (if_taken taken 4096 p at name test next bits)

pub is_taken : (j : Judged (List (List Bit))) (all : List (List Bit)) (taken : Bool) (n : ℕ) (p : Place) (at : Scope) (name : Name) (test : Expr) (next : Step) (bits : List Bit) → taken ≡ true →
    j ≡ behind all (if_taken taken n p at name test next bits) → j ≡ behind all (if_taken true n p at name test next bits)
is_taken j all taken n p at name test next bits e h = h ∙ ap (λ (t : Bool). behind all (if_taken t n p at name test next bits)) e

turn_is : (k : ℕ) (p : Place) (at : Scope) (name : Name) (test : Expr) (next : Step) (bits : List Bit) → turns_on (suc k) p at name test next bits ≡
    (next_value (with_index at name bits) bits next >>= λ following. holds_at at name test following >>= λ taken. if_taken taken k p at name test next following >>= λ rest. Ok (bits ∷ rest))
unfolding turns_on
turn_is k p at name test next bits = refl

turn_none : (p : Place) (at : Scope) (name : Name) (test : Expr) (next : Step) (bits : List Bit) → turns_on zero p at name test next bits ≡ Err (fault loop_long p)
unfolding turns_on
turn_none p at name test next bits = refl

pub turn_more : (j : Judged (List (List Bit))) (all : List (List Bit)) (n k : ℕ) (p : Place) (at : Scope) (name : Name) (test : Expr) (next : Step) (bits following : List Bit) (taken : Bool) → n ≡ suc k →
    j ≡ behind all (if_taken true n p at name test next bits) → Gives (next_value (with_index at name bits) bits next) (Ok following) → Gives (holds_at at name test following) (Ok taken) →
    j ≡ behind (all ++ bits ∷ []) (if_taken taken k p at name test next following)
turn_more j all n k p at name test next bits following taken e h f g =
    h ∙ ap (λ (x : ℕ). behind all (turns_on x p at name test next bits)) e ∙ ap (behind all) (turn_is k p at name test next bits)
    ∙ ap (λ x. behind all (x >>= λ v. holds_at at name test v >>= λ t. if_taken t k p at name test next v >>= λ rest. Ok (bits ∷ rest))) (gives_ok _ following f)
    ∙ ap (λ x. behind all (x >>= λ t. if_taken t k p at name test next following >>= λ rest. Ok (bits ∷ rest))) (gives_ok _ taken g)
    ∙ behind_more all bits (if_taken taken k p at name test next following)

pub turn_refused : (j : Judged (List (List Bit))) (all : List (List Bit)) (n k : ℕ) (p : Place) (at : Scope) (name : Name) (test : Expr) (next : Step) (bits : List Bit) (e : TextErr) → n ≡ suc k →
    j ≡ behind all (if_taken true n p at name test next bits) → Gives (next_value (with_index at name bits) bits next) (Err e) → Gives j (Err e)
turn_refused j all n k p at name test next bits e i h f =
    subst (λ x. Gives x (Err e)) (sym (h ∙ ap (λ (x : ℕ). behind all (turns_on x p at name test next bits)) i ∙ ap (behind all) (turn_is k p at name test next bits)))
    (then_err _ (λ rest. Ok (all ++ rest)) e (then_err (next_value (with_index at name bits) bits next) _ e f))

pub test_refused : (j : Judged (List (List Bit))) (all : List (List Bit)) (n k : ℕ) (p : Place) (at : Scope) (name : Name) (test : Expr) (next : Step) (bits following : List Bit) (e : TextErr) → n ≡ suc k →
    j ≡ behind all (if_taken true n p at name test next bits) → Gives (next_value (with_index at name bits) bits next) (Ok following) → Gives (holds_at at name test following) (Err e) → Gives j (Err e)
test_refused j all n k p at name test next bits following e i h f g =
    subst (λ x. Gives x (Err e)) (sym (h ∙ ap (λ (x : ℕ). behind all (turns_on x p at name test next bits)) i ∙ ap (behind all) (turn_is k p at name test next bits)))
    (then_err _ (λ rest. Ok (all ++ rest)) e (then_ok (next_value (with_index at name bits) bits next) _ following (Err e) f (then_err (holds_at at name test following) _ e g)))

pub too_long : (j : Judged (List (List Bit))) (all : List (List Bit)) (n : ℕ) (p : Place) (at : Scope) (name : Name) (test : Expr) (next : Step) (bits : List Bit) → n ≡ zero →
    j ≡ behind all (if_taken true n p at name test next bits) → Gives j (Err (No (record { number = loop_long; place = p; count = 0 })))
too_long j all n p at name test next bits i h =
    subst (λ x. Gives x (Err (No (record { number = loop_long; place = p; count = 0 }))))
    (sym (h ∙ ap (λ (x : ℕ). behind all (turns_on x p at name test next bits)) i ∙ ap (behind all) (turn_none p at name test next bits))) (0, omega arith, refl)

pub all_taken : (j : Judged (List (List Bit))) (all : List (List Bit)) (n : ℕ) (p : Place) (at : Scope) (name : Name) (test : Expr) (next : Step) (bits : List Bit) (taken : Bool) → taken ≡ false →
    j ≡ behind all (if_taken taken n p at name test next bits) → Gives j (Ok all)
all_taken j all n p at name test next bits taken i h =
    subst (λ x. Gives x (Ok all)) (sym (h ∙ ap (λ (x : Bool). behind all (if_taken x n p at name test next bits)) i)) (append-nil all)
