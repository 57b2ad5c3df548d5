-- Stacks of visits, and what they make of the nodes so far.
use Rattle.std.proofs.Common.{◌≡◌, ℕ, ◌<◌, ◌+◌, Bool, true, false, cond, eqb, ◌||◌, List, [], ◌∷◌, ◌++◌, length, map, reverse, refl, sym, ap, ◌∙◌, subst, append_assoc, arith}
use Rattle.std.proofs.lemmas.Bool.{eq-eqb, ne_eqb}
use Rattle.std.proofs.lemmas.List.{append-nil, map-append, reverse-append}
use Rattle.flat_print.specs.declared.visits.Visit.{Visit}
use Rattle.flat_print.specs.declared.visits.Visit.TheVariants.{Enter, Leave}
use Rattle.flat_print.specs.Printed.{has, put, puts, place_in}
use Rattle.flat_print.specs.Walks.{Each, one, finish, Under, Falls, waits}

-- ---- facts of each element

pub each_front : {X : Type 0} (P : X → Type 0) (s t : List X) → Each P (s ++ t) → Each P s
each_front P [] t h = tt
each_front P (v ∷ s) t h = (h.0, each_front P s t h.1)

pub each_back : {X : Type 0} (P : X → Type 0) (s t : List X) → Each P (s ++ t) → Each P t
each_back P [] t h = h
each_back P (v ∷ s) t h = each_back P s t h.1

pub each_join : {X : Type 0} (P : X → Type 0) (s t : List X) → Each P s → Each P t → Each P (s ++ t)
each_join P [] t h g = g
each_join P (v ∷ s) t h g = (h.0, each_join P s t h.1 g)

pub each_last : {X : Type 0} (P : X → Type 0) (s : List X) (v : X) → Each P (s ++ v ∷ []) → P v
each_last P s v h = (each_back P s (v ∷ []) h).0

pub each_map : {X : Type 0} (P Q : X → Type 0) → ((x : X) → P x → Q x) → (s : List X) → Each P s → Each Q s
each_map P Q f [] h = tt
each_map P Q f (v ∷ s) h = (f v h.0, each_map P Q f s h.1)

pub each_both : {X : Type 0} (P Q R : X → Type 0) → ((x : X) → P x → Q x → R x) → (s : List X) → Each P s → Each Q s → Each R s
each_both P Q R f [] h g = tt
each_both P Q R f (v ∷ s) h g = (f v h.0 g.0, each_both P Q R f s h.1 g.1)

pub each_all : {X : Type 0} (P : X → Type 0) → ((x : X) → P x) → (s : List X) → Each P s
each_all P f [] = tt
each_all P f (v ∷ s) = (f v, each_all P f s)

-- ---- nodes that wait to be entered

pub entered_more : (k : ℕ) (ks : List ℕ) → map Enter (reverse (k ∷ ks)) ≡ map Enter (reverse ks) ++ (Enter k ∷ [])
entered_more k ks = ap (map Enter) (reverse-append (k ∷ []) ks) ∙ map-append Enter (reverse ks) (k ∷ [])

pub each_entered : (P : Visit → Type 0) (ks : List ℕ) → Each (λ k. P (Enter k)) ks → Each P (map Enter (reverse ks))
each_entered P [] h = tt
each_entered P (k ∷ ks) h = subst (Each P) (sym (entered_more k ks)) (each_join P (map Enter (reverse ks)) (Enter k ∷ []) (each_entered P ks h.1) (h.0, tt))

-- ---- what visits make

pub finish_last : (b : ℕ → List ℕ → List ℕ) (s : List Visit) (v : Visit) (done : List ℕ) → finish b (s ++ v ∷ []) done ≡ finish b s (one b v done)
unfolding finish
finish_last b [] v done = refl
finish_last b (u ∷ s) v done = ap (one b u) (finish_last b s v done)

pub finish_none : (b : ℕ → List ℕ → List ℕ) (done : List ℕ) → finish b [] done ≡ done
unfolding finish
finish_none b done = refl

pub finish_entered : (b : ℕ → List ℕ → List ℕ) (s : List Visit) (ks : List ℕ) (done : List ℕ) → finish b (s ++ map Enter (reverse ks)) done ≡ finish b s (puts b ks done)
unfolding puts
finish_entered b s [] done = ap (λ t. finish b t done) (append-nil s)
finish_entered b s (k ∷ ks) done =
    ap (λ t. finish b (s ++ t) done) (entered_more k ks) ∙ ap (λ t. finish b t done) (sym (append_assoc s (map Enter (reverse ks)) (Enter k ∷ [])))
    ∙ finish_last b (s ++ map Enter (reverse ks)) (Enter k) done ∙ finish_entered b s ks (put b k done)

-- ---- stacks that fall

pub falls_join : (s t : List Visit) → Falls s → Falls t → Each (λ u. Each (Under u) t) s → Falls (s ++ t)
falls_join [] t h g e = g
falls_join (v ∷ s) t h g e = (each_join (Under v) s t h.0 e.0, falls_join s t h.1 g e.1)

pub falls_front : (s t : List Visit) → Falls (s ++ t) → Falls s
falls_front [] t h = tt
falls_front (v ∷ s) t h = (each_front (Under v) s t h.0, falls_front s t h.1)

pub falls_last : (s : List Visit) (v : Visit) → Falls (s ++ v ∷ []) → Each (λ u. Under u v) s
falls_last [] v h = tt
falls_last (u ∷ s) v h = (each_last (Under u) s v h.0, falls_last s v h.1)

pub falls_entered : (ks : List ℕ) → Falls (map Enter (reverse ks))
falls_entered ks = all_enter (reverse ks)
  where
    all_enter : (js : List ℕ) → Falls (map Enter js)
    all_enter [] = tt
    all_enter (j ∷ js) = (each_all (λ w. Unit {0}) (λ w. tt) (map Enter js), all_enter js)

-- below one node, below another
pub under_lower : (u : Visit) (j k : ℕ) → j < k → Under u (Enter k) → Under u (Enter j)
under_lower (Enter i) j k l h = tt
under_lower (Leave i) j k l h = omega arith

pub under_left : (u : Visit) (k : ℕ) → Under u (Enter k) → Under u (Leave k)
under_left (Enter i) k h = tt
under_left (Leave i) k h = h

pub left_under : (u : Visit) (k : ℕ) → Under u (Leave k) → Under u (Enter k)
left_under (Enter i) k h = tt
left_under (Leave i) k h = h

-- ---- nodes that wait to be left

or_assoc : (a b c : Bool) → ((a || b) || c) ≡ (a || (b || c))
or_assoc true b c = refl
or_assoc false b c = refl

pub waits_join : (k : ℕ) (s t : List Visit) → waits k (s ++ t) ≡ waits k s || waits k t
unfolding waits
waits_join k [] t = refl
waits_join k (Enter j ∷ s) t = waits_join k s t
waits_join k (Leave j ∷ s) t = ap (λ b. eqb k j || b) (waits_join k s t) ∙ sym (or_assoc (eqb k j) (waits k s) (waits k t))

pub waits_entered : (k : ℕ) (ks : List ℕ) → waits k (map Enter (reverse ks)) ≡ false
unfolding waits
waits_entered k ks = all_enter (reverse ks)
  where
    all_enter : (js : List ℕ) → waits k (map Enter js) ≡ false
    all_enter [] = refl
    all_enter (j ∷ js) = all_enter js

pub waits_one : (j k : ℕ) → waits j (Leave k ∷ []) ≡ eqb j k
unfolding waits
waits_one j k = or_false (eqb j k)
  where
    or_false : (b : Bool) → (b || false) ≡ b
    or_false true = refl
    or_false false = refl

pub waits_none : (j k : ℕ) → waits j (Enter k ∷ []) ≡ false
unfolding waits
waits_none j k = refl

-- what is below all that wait to be left does not wait
pub waits_not : (k : ℕ) (s : List Visit) → Each (λ u. Under u (Enter k)) s → waits k s ≡ false
unfolding waits
waits_not k [] h = refl
waits_not k (Enter j ∷ s) h = waits_not k s h.1
waits_not k (Leave j ∷ s) h = ap (λ b. b || waits k s) (ne_eqb k j (lower k j h.0)) ∙ waits_not k s h.1
  where
    lower : (m n : ℕ) → m < n → m ≡ n → ⊥
    lower m n l e = omega arith

-- ---- lists of numbers

pub has_more : (k : ℕ) (s t : List ℕ) → has k (s ++ t) ≡ has k s || has k t
unfolding has
has_more k [] t = refl
has_more k (j ∷ s) t = ap (λ b. eqb k j || b) (has_more k s t) ∙ sym (or_assoc (eqb k j) (has k s) (has k t))

pub has_one : (j k : ℕ) → has j (k ∷ []) ≡ eqb j k
unfolding has
has_one j k = or_false (eqb j k)
  where
    or_false : (b : Bool) → (b || false) ≡ b
    or_false true = refl
    or_false false = refl

pub has_push : (j k : ℕ) (s : List ℕ) → has j (s ++ k ∷ []) ≡ has j s || eqb j k
has_push j k s = has_more j s (k ∷ []) ∙ ap (λ b. has j s || b) (has_one j k)

pub place_kept : (k : ℕ) (s t : List ℕ) → has k s ≡ true → place_in (s ++ t) k ≡ place_in s k
unfolding has place_in
place_kept k [] t h = cc
place_kept k (j ∷ s) t h = either (eqb k j) (λ e. place_kept k s t (ap (λ b. b || has k s) (sym e) ∙ h)) refl
  where
    either : (b : Bool) → (eqb k j ≡ false → place_in (s ++ t) k ≡ place_in s k) → eqb k j ≡ b → cond b 0 (1 + place_in (s ++ t) k) ≡ cond b 0 (1 + place_in s k)
    either true f e = refl
    either false f e = ap (λ n. 1 + n) (f e)

pub place_last : (k : ℕ) (s : List ℕ) → has k s ≡ false → place_in (s ++ k ∷ []) k ≡ length s
unfolding has place_in
place_last k [] h = ap (λ b. cond b 0 1) (eq-eqb k k refl)
place_last k (j ∷ s) h = either (eqb k j) (λ e. place_last k s (ap (λ b. b || has k s) (sym e) ∙ h)) refl
  where
    either : (b : Bool) → (eqb k j ≡ false → place_in (s ++ k ∷ []) k ≡ length s) → eqb k j ≡ b → cond b 0 (1 + place_in (s ++ k ∷ []) k) ≡ length (j ∷ s)
    either true f e = let no : true ≡ false = ap (λ b. b || has k s) (sym e) ∙ h in cc
    either false f e = let same : place_in (s ++ k ∷ []) k ≡ length s = f e in omega arith

pub place_within : (k : ℕ) (s : List ℕ) → has k s ≡ true → place_in s k < length s
unfolding has place_in
place_within k [] h = cc
place_within k (j ∷ s) h = either (eqb k j) (λ e. place_within k s (ap (λ b. b || has k s) (sym e) ∙ h)) refl
  where
    either : (b : Bool) → (eqb k j ≡ false → place_in s k < length s) → eqb k j ≡ b → cond b 0 (1 + place_in s k) < length (j ∷ s)
    either true f e = omega arith
    either false f e = let less : place_in s k < length s = f e in omega arith
