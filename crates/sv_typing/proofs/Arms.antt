-- What an expression is typed as, by its production.
use Rattle.std.proofs.Common.{◌≡◌, ℕ, zero, suc, ◌+◌, ◌<◌, ◌≤◌, Bool, false, ◌⊎◌, inl, inr, List, [], ◌∷◌, ◌++◌, length, take, drop, get_or, map, refl, sym, ap, ◌∙◌, subst, Result, Ok, Err, arith, append_assoc}
use Rattle.std.specs.Result.{IfOk}
use Rattle.std.specs.List.{AllZip, AllByRecursion}
use Rattle.std.proofs.lemmas.List.Elements.{All-from_recursion, recursion_from_All}
use Rattle.std.proofs.lemmas.List.{append-nil, map-append, take_all}
use Rattle.std.proofs.Math.Seq.{take-suc}
use Rattle.sv_outside.specs.declared.refusal.TextErr.{TextErr}
use Rattle.sv_outside.specs.declared.refusal.Place.{Place}
use Rattle.sv_tree.specs.declared.word.Word.{Word}
use Rattle.sv_tree.specs.declared.exprs.Sign.{Sign}
use Rattle.sv_tree.specs.declared.exprs.RangeMark.{RangeMark}
use Rattle.sv_tree.specs.declared.exprs.RangeMark.TheVariants as mark
use Rattle.sv_tree.specs.declared.exprs.SystemName.{SystemName}
use Rattle.sv_tree.specs.declared.exprs.UnaryOp.{UnaryOp}
use Rattle.sv_tree.specs.declared.exprs.BinaryOp.{BinaryOp}
use Rattle.sv_tree.specs.declared.exprs.Expr.{Expr}
use Rattle.sv_tree.specs.declared.exprs.Expr.TheVariants as e
use Rattle.sv_tree.specs.declared.exprs.Select.{Select}
use Rattle.sv_tree.specs.declared.exprs.Select.TheVariants as s
use Rattle.sv_meaning.specs.Faults.{Faults}
use Rattle.sv_meaning.specs.Layouts.{Layout, Scope, constant_scope, find, width, is_signed}
use Rattle.sv_meaning.specs.Meanings.{Meaning, from, chosen, concat, repeated, sized_by, cast_to, to_sign, of_literal, named, parts, Step, step_faults, chain_faults, to_member, to_index, to_range}
use Rattle.sv_meaning.specs.Values.{mean, step, is_signed_word, system_meaning, operand_scope, left_scope}
use Rattle.sv_typed.specs.declared.tree.Typed.{Typed}
use Rattle.sv_typed.specs.declared.ops.Two.{Two}
use Rattle.sv_typed.specs.declared.ops.One.TheVariants as one
use Rattle.sv_typed.specs.declared.ops.Turn.TheVariants as turn
use Rattle.sv_typed.specs.Typed.{Stands, IsSound}
use Rattle.sv_typed.specs.Ops.{one_of, one_meaning, two_of, two_meaning}
use Rattle.sv_typed.proofs.Operators.{unary_is, binary_is}
use Rattle.sv_typing.specs.declared.position.Fixed.{Fixed}
use Rattle.sv_names.specs.declared.cursor.Cursor.{Cursor}
use Rattle.sv_typed.specs.declared.tree.Pick.{Pick}
use Rattle.sv_typing.specs.Judging.{IsCause, IsTyped, Types, Judges, AreTyped, JudgesAll, Fixes}
use Rattle.sv_typing.specs.declared.chain.Chain.{Chain}
use Rattle.sv_typing.specs.Picks.{Leads, Picks, Chains, Follows}
use Rattle.sv_typing.specs.Ranges.{is_to}
use Rattle.sv_typing.specs.Roots.{IsChain}
use Rattle.sv_typing.proofs.Lists.{both_clear}
use Rattle.sv_typing.proofs.Judged.{cause_from}
use Rattle.sv_typing.proofs.OfRules.{cause_left, cause_right}
use Rattle.sv_typing.proofs.Chains.{chain_start, chain_more, cause_behind, follows}
use Rattle.sv_typing.proofs.Fixing.{from_start, fixed_here}
use Rattle.sv_typing.proofs.Made.{mean_literal, mean_name, mean_paren, mean_concat, mean_repeat, mean_cast_literal, mean_cast_name, mean_cast_paren, mean_cast_sign, mean_system, mean_unary, mean_binary, mean_choose, step_member, step_index, step_range}

pub sound_of_judged : (m : Meaning) (all : Faults) (r : Result Typed TextErr) → Types m all r → IfOk r (λ t. IsSound t)
sound_of_judged m all (Ok t) h = h.sound
sound_of_judged m all (Err x) h = tt

-- ---- constant positions

fixes_here : (m : Meaning) (p : Place) (r : Result Fixed TextErr) → m.start ≡ p → Fixes (from p m) r → Fixes m r
fixes_here m p (Ok f) h k = fixed_here m p f h k
fixes_here m p (Err x) h k = subst (λ f. IsCause f x) (from_start m p h) k

pub fixed_expr : (m : Meaning) (p : Place) (r : Result Fixed TextErr) → m.start ≡ p → Fixes (from p m) r → Fixes m r
fixed_expr m p r h k = fixes_here m p r h k

-- ---- productions

judged_as : (m n : Meaning) (c : Bool) (r : Result Typed TextErr) → m ≡ n → Judges n c r → Judges m c r
judged_as m n c r h j = subst (λ x. Judges x c r) (sym h) j

-- the same of trees that are equal

pub judged_at : (at : Scope) (a b : Expr) (c : Bool) (r : Result Typed TextErr) → a ≡ b → Judges (mean at a) c r → Judges (mean at b) c r
judged_at at a b c r h j = subst (λ x. Judges (mean at x) c r) h j

pub types_at : (at : Scope) (f : Meaning → Faults) (a b : Expr) (r : Result Typed TextErr) → a ≡ b → Types (mean at a) (f (mean at a)) r → Types (mean at b) (f (mean at b)) r
types_at at f a b r h j = subst (λ x. Types (mean at x) (f (mean at x)) r) h j

pub fixes_at : (at : Scope) (a b : Expr) (r : Result Fixed TextErr) → a ≡ b → Fixes (mean at a) r → Fixes (mean at b) r
fixes_at at a b r h j = subst (λ x. Fixes (mean at x) r) h j

pub all_at : (at : Scope) (a b : List Expr) (c : Bool) (r : Result (List Typed) TextErr) → a ≡ b → JudgesAll (map (mean at) a) c r → JudgesAll (map (mean at) b) c r
all_at at a b c r h j = subst (λ (x : List Expr). JudgesAll (map (mean at) x) c r) h j

pub concat_at : (at : Scope) (p : Place) (a b : List Expr) (c : Bool) (r : Result Typed TextErr) → a ≡ b → Judges (concat p (map (mean at) a)) c r → Judges (concat p (map (mean at) b)) c r
concat_at at p a b c r h j = subst (λ (x : List Expr). Judges (concat p (map (mean at) x)) c r) h j

pub repeat_at : (at : Scope) (p : Place) (n : Meaning) (a b : List Expr) (c : Bool) (r : Result Typed TextErr) → a ≡ b → Judges (repeated p n (map (mean at) a)) c r → Judges (repeated p n (map (mean at) b)) c r
repeat_at at p n a b c r h j = subst (λ (x : List Expr). Judges (repeated p n (map (mean at) x)) c r) h j

-- each production

pub judged_literal : (at : Scope) (x : Expr) (w : Word) (c : Bool) (r : Result Typed TextErr) → x ≡ e.Literal w → Judges (of_literal w) c r → Judges (mean at x) c r
judged_literal at x w c r h j = judged_as _ _ c r (ap (mean at) h ∙ mean_literal at w) j

pub judged_name : (at : Scope) (x : Expr) (w : Word) (all : List Select) (c : Bool) (r : Result Typed TextErr) → x ≡ e.Name w all → Judges (named w (find w.text at) (map (step at) all)) c r → Judges (mean at x) c r
judged_name at x w all c r h j = judged_as _ _ c r (ap (mean at) h ∙ mean_name at w all) j

pub judged_paren : (at : Scope) (x : Expr) (p : Place) (y : Expr) (c : Bool) (r : Result Typed TextErr) → x ≡ e.Paren p y → Judges (from p (one_meaning (one.Turned turn.Plus) (mean at y))) c r → Judges (mean at x) c r
judged_paren at x p y c r h j = judged_as _ _ c r (ap (mean at) h ∙ mean_paren at p y) j

pub judged_concat : (at : Scope) (x : Expr) (p : Place) (all : List Expr) (c : Bool) (r : Result Typed TextErr) → x ≡ e.Concat p all → Judges (concat p (map (mean at) all)) c r → Judges (mean at x) c r
judged_concat at x p all c r h j = judged_as _ _ c r (ap (mean at) h ∙ mean_concat at p all) j

pub judged_repeat : (at : Scope) (x : Expr) (p : Place) (n : Expr) (all : List Expr) (c : Bool) (r : Result Typed TextErr) → x ≡ e.Repeat p n all → Judges (repeated p (mean (constant_scope at) n) (map (mean at) all)) c r → Judges (mean at x) c r
judged_repeat at x p n all c r h j = judged_as _ _ c r (ap (mean at) h ∙ mean_repeat at p n all) j

pub judged_cast_literal : (at : Scope) (x : Expr) (w : Word) (y : Expr) (c : Bool) (r : Result Typed TextErr) → x ≡ e.CastLiteral w y → Judges (sized_by (of_literal w) (mean at y)) c r → Judges (mean at x) c r
judged_cast_literal at x w y c r h j = judged_as _ _ c r (ap (mean at) h ∙ mean_cast_literal at w y) j

pub judged_cast_name : (at : Scope) (x : Expr) (w : Word) (y : Expr) (c : Bool) (r : Result Typed TextErr) → x ≡ e.CastName w y → Judges (cast_to w (find w.text (constant_scope at)) (mean at y)) c r → Judges (mean at x) c r
judged_cast_name at x w y c r h j = judged_as _ _ c r (ap (mean at) h ∙ mean_cast_name at w y) j

pub judged_cast_paren : (at : Scope) (x : Expr) (p : Place) (n y : Expr) (c : Bool) (r : Result Typed TextErr) → x ≡ e.CastParen p n y → Judges (sized_by (from p (mean (constant_scope at) n)) (mean at y)) c r → Judges (mean at x) c r
judged_cast_paren at x p n y c r h j = judged_as _ _ c r (ap (mean at) h ∙ mean_cast_paren at p n y) j

pub judged_cast_sign : (at : Scope) (x : Expr) (s : Sign) (p : Place) (y : Expr) (b : Bool) (c : Bool) (r : Result Typed TextErr) → x ≡ e.CastSign s p y → b ≡ is_signed_word s → Judges (from p (to_sign b (mean at y))) c r → Judges (mean at x) c r
judged_cast_sign at x s p y b c r h g j = judged_as _ _ c r (ap (mean at) h ∙ mean_cast_sign at s p y ∙ ap (λ z. from p (to_sign z (mean at y))) (sym g)) j

pub judged_system : (at : Scope) (x : Expr) (f : SystemName) (p : Place) (y z : Expr) (c : Bool) (r : Result Typed TextErr) → x ≡ e.System f p y → z ≡ y → Judges (from p (system_meaning f (mean (operand_scope f at) z))) c r → Judges (mean at x) c r
judged_system at x f p y z c r h g j = judged_as _ _ c r (ap (mean at) h ∙ mean_system at f p y ∙ ap (λ v. from p (system_meaning f (mean (operand_scope f at) v))) (sym g)) j

-- the function of the system that a name says
pub system_is : (at : Scope) (f g : SystemName) (p : Place) (x : Expr) (c : Bool) (r : Result Typed TextErr) → f ≡ g → Judges (from p (system_meaning g (mean (operand_scope g at) x))) c r → Judges (from p (system_meaning f (mean (operand_scope f at) x))) c r
system_is at f g p x c r h j = subst (λ v. Judges (from p (system_meaning v (mean (operand_scope v at) x))) c r) (sym h) j

pub judged_unary : (at : Scope) (x : Expr) (op : UnaryOp) (p : Place) (y : Expr) (c : Bool) (r : Result Typed TextErr) → x ≡ e.Unary op p y → Judges (from p (one_meaning (one_of op) (mean at y))) c r → Judges (mean at x) c r
judged_unary at x op p y c r h j = judged_as _ _ c r (ap (mean at) h ∙ mean_unary at op p y ∙ ap (from p) (unary_is op (mean at y))) j

pub judged_two : (at : Scope) (x a z : Expr) (op : BinaryOp) (p : Place) (b : Expr) (q : Two) (c : Bool) (r : Result Typed TextErr) → x ≡ e.Binary a op p b → q ≡ two_of op → z ≡ a → Judges (two_meaning p q (mean at z) (mean at b)) c r → Judges (mean at x) c r
judged_two at x a z op p b q c r h g k j =
    judged_as _ _ c r (ap (mean at) h ∙ mean_binary at a op p b ∙ binary_is p op (mean at a) (mean at b) ∙ ap (λ t. two_meaning p t (mean at a) (mean at b)) (sym g) ∙ ap (λ v. two_meaning p q (mean at v) (mean at b)) (sym k)) j

pub judged_choose : (at : Scope) (x t a b : Expr) (c : Bool) (r : Result Typed TextErr) → x ≡ e.Choose t a b → Judges (chosen (mean at t) (mean at a) (mean at b)) c r → Judges (mean at x) c r
judged_choose at x t a b c r h j = judged_as _ _ c r (ap (mean at) h ∙ mean_choose at t a b) j

pub ruleset judged = (judged_literal, judged_name, judged_paren, judged_concat, judged_repeat, judged_cast_literal, judged_cast_name, judged_cast_paren, judged_cast_sign, judged_system, judged_unary, judged_two, judged_choose)

-- ---- selects

leads_as : (j : Meaning → Faults) (x : Layout) (a b : _) (r : Result (Cursor × Pick) TextErr) → a ≡ b → Leads j x b r → Leads j x a r
leads_as j x a b r h k = subst (λ z. Leads j x z r) (sym h) k

pub led_member : (at : Scope) (j : Meaning → Faults) (x : Layout) (v : Select) (p : Place) (w : Word) (r : Result (Cursor × Pick) TextErr) → v ≡ s.Member p w → Leads j x (to_member p w.text) r → Leads j x (step at v) r
led_member at j x v p w r h k = leads_as j x _ _ r (ap (step at) h ∙ step_member at p w) k

pub led_index : (at : Scope) (j : Meaning → Faults) (x : Layout) (v : Select) (p : Place) (i : Expr) (r : Result (Cursor × Pick) TextErr) → v ≡ s.Index p i → Leads j x (to_index p (mean at i)) r → Leads j x (step at v) r
led_index at j x v p i r h k = leads_as j x _ _ r (ap (step at) h ∙ step_index at p i) k

pub led_range : (at : Scope) (j : Meaning → Faults) (x : Layout) (v : Select) (p : Place) (a : Expr) (m : RangeMark) (b : Expr) (r : Result (Cursor × Pick) TextErr) → v ≡ s.Range p a m b → Leads j x (to_range p (mean (left_scope m at) a) m (mean (constant_scope at) b)) r → Leads j x (step at v) r
led_range at j x v p a m b r h k = leads_as j x _ _ r (ap (step at) h ∙ step_range at p a m b) k

-- a range from a computed element on
pub led_many : (at : Scope) (j : Meaning → Faults) (x : Layout) (v : Select) (p : Place) (a : Expr) (m : RangeMark) (b : Expr) (r : Result (Cursor × Pick) TextErr) → v ≡ s.Range p a m b → is_to m ≡ false → Leads j x (to_range p (mean at a) m (mean (constant_scope at) b)) r → Leads j x (step at v) r
led_many at j x v p a mark.Up b r h n k = led_range at j x v p a mark.Up b r h k
led_many at j x v p a mark.Down b r h n k = led_range at j x v p a mark.Down b r h k
led_many at j x v p a mark.To b r h n k = absurd cc

-- a mark that is one of these two
pub is_many : (m : RangeMark) → (m ≡ mark.Up) ⊎ (m ≡ mark.Down) → is_to m ≡ false
is_many m (inl e) = ap is_to e
is_many m (inr e) = ap is_to e

pub ruleset steps = (led_member, led_index, led_range)

-- ---- a list up to an element, and behind it

split_at : {A : Type 0} (xs : List A) (i : ℕ) (x : A) → i < length xs → x ≡ get_or xs i x → xs ≡ take i xs ++ x ∷ drop (suc i) xs
split_at [] i x h e = absurd (omega arith)
split_at (y ∷ xs) zero x h e = ap (λ z. z ∷ xs) (sym e)
split_at (y ∷ xs) (suc i) x h e = ap (λ z. y ∷ z) (split_at xs i x (omega arith) e)

take_next : {A : Type 0} (xs : List A) (i : ℕ) (x : A) → i < length xs → x ≡ get_or xs i x → take (i + 1) xs ≡ take i xs ++ x ∷ []
take_next xs i x h e = let n : i + 1 ≡ suc i = omega arith in ap (λ (k : ℕ). take k xs) n ∙ take-suc xs i x h ∙ ap (λ z. take i xs ++ z ∷ []) (sym e)

-- ---- parts of a concatenation

faults_join : (c : Bool) (all more : List Meaning) → (parts (all ++ more)).faults c ≡ (parts all).faults c ++ (parts more).faults c
unfolding parts
faults_join c [] more = refl
faults_join c (a ∷ all) more = ap (λ (x : Faults). a.faults c ++ x) (faults_join c all more) ∙ sym (append_assoc (a.faults c) ((parts all).faults c) ((parts more).faults c))

one_part : (c : Bool) (m : Meaning) → (parts (m ∷ [])).faults c ≡ m.faults c
unfolding parts
one_part c m = append-nil (m.faults c)

zip_push : (xs : List Typed) (ys : List Meaning) (x : Typed) (y : Meaning) → AllZip Stands xs ys → Stands x y → AllZip Stands (xs ++ x ∷ []) (ys ++ y ∷ [])
zip_push [] [] x y h k = (k, h)
zip_push [] (b ∷ ys) x y h k = absurd h
zip_push (a ∷ xs) [] x y h k = absurd h
zip_push (a ∷ xs) (b ∷ ys) x y h k = (h.0, zip_push xs ys x y h.1 k)

sound_push : (xs : List Typed) (x : Typed) → AllByRecursion IsSound xs → IsSound x → AllByRecursion IsSound (xs ++ x ∷ [])
sound_push [] x h k = (k, h)
sound_push (a ∷ xs) x h k = (h.0, sound_push xs x h.1 k)

pub parts_start : (c : Bool) → AreTyped [] c []
unfolding parts
parts_start c = record { clear = refl; stands = tt; sound = λ k d lt. absurd (omega arith) }

pub parts_more : (at : Scope) (all : List Expr) (i : ℕ) (x : Expr) (c : Bool) (list : List Typed) (t : Typed) → i < length all → x ≡ get_or all i x → AreTyped (map (mean at) (take i all)) c list → IsTyped (mean at x) ((mean at x).faults c) t →
    AreTyped (map (mean at) (take (i + 1) all)) c (list ++ t ∷ [])
parts_more at all i x c list t lt e h k =
    let P : List Meaning → Type 0 = λ ms. AreTyped ms c (list ++ t ∷ []) in
    subst P (sym (ap (map (mean at)) (take_next all i x lt e) ∙ map-append (mean at) (take i all) (x ∷ []))) (record {
      clear = faults_join c (map (mean at) (take i all)) (mean at x ∷ []) ∙ both_clear _ _ h.clear (one_part c (mean at x) ∙ k.clear);
      stands = zip_push list (map (mean at) (take i all)) t (mean at x) h.stands k.stands;
      sound = All-from_recursion IsSound (list ++ t ∷ []) (sound_push list t (recursion_from_All IsSound list h.sound) k.sound);
    })

pub parts_all : (at : Scope) (all : List Expr) (i : ℕ) (c : Bool) (list : List Typed) → length all ≤ i → AreTyped (map (mean at) (take i all)) c list → AreTyped (map (mean at) all) c list
parts_all at all i c list h x = let P : List Expr → Type 0 = λ xs. AreTyped (map (mean at) xs) c list in subst P (take_all i all h) x

pub parts_cause : (at : Scope) (all : List Expr) (i : ℕ) (x : Expr) (c : Bool) (v : TextErr) → i < length all → x ≡ get_or all i x → IsCause ((mean at x).faults c) v → IsCause ((parts (map (mean at) all)).faults c) v
unfolding parts
parts_cause at all i x c v lt e h =
    let split = ap (map (mean at)) (split_at all i x lt e) ∙ map-append (mean at) (take i all) (x ∷ drop (suc i) all) in
    let P : Faults → Type 0 = λ f. IsCause f v in
    subst P (sym (ap (λ (ms : List Meaning). (parts ms).faults c) split ∙ faults_join c (map (mean at) (take i all)) (map (mean at) (x ∷ drop (suc i) all))))
    (cause_right ((parts (map (mean at) (take i all))).faults c) _ v (cause_left ((mean at x).faults c) _ v h))

pub ruleset parts_of = (parts_start, parts_more, parts_all, parts_cause)

-- ---- chains of selects

pub chain_begins : (j : Meaning → Faults) (x : Layout) → Chains j x [] [] x
chain_begins j x = chain_start j x

pub chain_next : (at : Scope) (j : Meaning → Faults) (x y z : Layout) (all : List Select) (i : ℕ) (v : Select) (picks : List Pick) (p : Pick) → i < length all → v ≡ get_or all i v →
    Chains j x (map (step at) (take i all)) picks y → Picks j y (step at v) p z → Chains j x (map (step at) (take (i + 1) all)) (picks ++ p ∷ []) z
chain_next at j x y z all i v picks p lt e h k =
    let P : List Step → Type 0 = λ ss. Chains j x ss (picks ++ p ∷ []) z in
    subst P (sym (ap (map (step at)) (take_next all i v lt e) ∙ map-append (step at) (take i all) (v ∷ []))) (chain_more j x y z (map (step at) (take i all)) picks (step at v) p h k)

pub chain_cause : (at : Scope) (j : Meaning → Faults) (x y : Layout) (all : List Select) (i : ℕ) (v : Select) (picks : List Pick) (w : TextErr) → i < length all → v ≡ get_or all i v →
    Chains j x (map (step at) (take i all)) picks y → IsCause (step_faults j y (step at v)) w → IsCause (chain_faults j x (map (step at) all)) w
chain_cause at j x y all i v picks w lt e h k =
    let split = ap (map (step at)) (split_at all i v lt e) ∙ map-append (step at) (take i all) (v ∷ drop (suc i) all) in
    let P : List Step → Type 0 = λ ss. IsCause (chain_faults j x ss) w in
    subst P (sym split) (cause_from (step_faults j y (step at v)) _ (λ r. cause_behind j x y (map (step at) (take i all)) picks (step at v) (map (step at) (drop (suc i) all)) r h) w k)

pub chain_ends : (at : Scope) (j : Meaning → Faults) (x y : Layout) (all : List Select) (i : ℕ) (picks : List Pick) (c : Chain) → length all ≤ i → Chains j x (map (step at) (take i all)) picks y →
    c.picks ≡ picks → c.width ≡ width y → c.signed ≡ is_signed y → IsChain j x (map (step at) all) c
chain_ends at j x y all i picks c lt h p w s =
    let f : Follows j x (map (step at) all) picks y = subst (λ xs. Follows j x (map (step at) xs) picks y) (take_all i all lt) (follows j x y (map (step at) (take i all)) picks h) in
    record { layout = y; follows = subst (λ q. Follows j x (map (step at) all) q y) (sym p) f; width = sym w; signed = sym s }

pub ruleset chained = (chain_begins, chain_next, chain_cause, chain_ends)
