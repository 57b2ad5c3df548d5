-- What parsers made of parts keep: a parser answers only what is spelled, and what it answers or refuses agrees with each
-- tree that begins with the same tokens.
use Rattle.std.proofs.Common.{◌≡◌, ℕ, zero, suc, ◌+◌, ◌-◌, ◌<◌, ◌≤◌, ◌⊎◌, inl, inr, List, [], ◌∷◌, ◌++◌, length, take, drop, map, Bool, true, false, if◌then◌else◌, Option, Some, None, Ok, Err, refl, sym, ◌∙◌, ap, subst, length-append, arith}
use Rattle.std.proofs.lemmas.List.{drop-take, length-map}
use Rattle.std.proofs.lemmas.Bool.{cases_lt}
use Rattle.sv_outside.specs.declared.text.Token.{Token}
use Rattle.sv_tree.specs.Spelling.{Spelled, Begins, nothing, ◌⨟◌, when, maybe, each}
use Rattle.sv_tree.specs.Nesting.{Nesting, Depths, if_given, each_depths}
use Rattle.sv_cursor.specs.declared.error.ParseErr.{ParseErr}
use Rattle.sv_cursor.specs.declared.error.ParseErr.TheVariants.{Memory, Syntax, TooDeep}
use Rattle.sv_cursor.specs.Parsers.{Outcome, Parser, and_then, ◌<$>◌, ◌▷◌, ◌⊗◌, pure, refuse, told, take_told, token, branch, by_told, maybe_read, cons, many_from, many, chain_from, chain, too_deep}

-- what is read is so
abbrev pub Meets : {A : Type 0} → Outcome A → (A → List Token → Type 0) → Type 0
Meets (Ok p) P = P p.0 p.1
Meets (Err e) P = Unit {0}

-- Where a refusal stands: at a place from the first token of i on, and one for depth at least so many tokens behind it, at a token.
abbrev pub PlacedErr : ℕ → List Token → ParseErr → Type 0
PlacedErr depth i Memory = ⊥
PlacedErr depth i (Syntax left) = left ≤ length i
PlacedErr depth i (TooDeep deep left) = (depth + left ≤ length i) × (left ≤ deep) × (deep ≤ length i) × (0 < left)

abbrev pub Placed : {A : Type 0} → ℕ → List Token → Outcome A → Type 0
Placed depth i (Ok p) = Unit {0}
Placed depth i (Err e) = PlacedErr depth i e

-- the entry with that number is bad
abbrev pub BadAt : {X : Type 0} → (X → Type 0) → List X → ℕ → Type 0
BadAt Bad [] k = ⊥
BadAt Bad (x ∷ all) zero = Bad x
BadAt Bad (x ∷ all) (suc k) = BadAt Bad all k

-- What an outcome of reading i says of a tree whose tokens are nested so, and begin with the first m tokens of i: an answer that
-- ends before the last of these is the tree; no refusal stands among them, but for a token that lies too deep in the tree.
abbrev pub AgreesErr : {X : Type 0} → (X → Type 0) → List X → ℕ → List Token → ParseErr → Type 0
AgreesErr Bad nests m i Memory = ⊥
AgreesErr Bad nests m i (Syntax left) = m + left ≤ length i
AgreesErr Bad nests m i (TooDeep deep left) = length i < m + left → BadAt Bad nests (length i - deep)

abbrev pub Agrees : {A X : Type 0} → (X → Type 0) → (A → List X) → A → ℕ → List Token → Outcome A → Type 0
Agrees Bad nests a m i (Ok p) = length (nests p.0) < m → p.0 ≡ a
Agrees Bad nests a m i (Err e) = AgreesErr Bad (nests a) m i e

-- A tree takes one token for each entry.
pub record IsMoved {A X : Type 0} (S : A → Spelled) (nests : A → List X) : Type 0 where
  pub count : (a : A) (i o : List Token) → S a i o → length i ≡ length (nests a) + length o
  pub rest : (a : A) (i o : List Token) → S a i o → o ≡ drop (length (nests a)) i

-- A parser reads trees of which so many tokens at least stand before one that is too deep. What it answers is spelled by `Gives`. The trees
-- with which it agrees are those spelled by `Takes` before what stops them.
pub record IsReader {A X : Type 0} (Bad : X → Type 0) (depth : ℕ) (Gives Takes : A → Spelled) (nests : A → List X) (Stops : List Token → Type 0) (p : Parser A) : Type 0 where
  pub sound : (i : List Token) → Meets (p i) (λ a j. Gives a i j)
  pub placed : (i : List Token) → Placed depth i (p i)
  pub agrees : (a : A) (s o : List Token) (m : ℕ) (i : List Token) → Takes a s o → Stops o → take m s ≡ take m i → Agrees Bad nests a m i (p i)

-- ---- lists

pub bad_left : {X : Type 0} (Bad : X → Type 0) (a b : List X) (k : ℕ) → BadAt Bad a k → BadAt Bad (a ++ b) k
bad_left Bad [] b k h = absurd h
bad_left Bad (x ∷ a) b zero h = h
bad_left Bad (x ∷ a) b (suc k) h = bad_left Bad a b k h

pub bad_right : {X : Type 0} (Bad : X → Type 0) (a b : List X) (k : ℕ) → BadAt Bad b k → BadAt Bad (a ++ b) (length a + k)
bad_right Bad [] b k h = let e : 0 + k ≡ k = omega arith in subst (BadAt Bad b) (sym e) h
bad_right Bad (x ∷ a) b k h = let e : suc (length a) + k ≡ suc (length a + k) = omega arith in subst (BadAt Bad (x ∷ (a ++ b))) (sym e) (bad_right Bad a b k h)

pub bad_map : {X Y : Type 0} (Bad : X → Type 0) (Worse : Y → Type 0) (f : X → Y) → ((x : X) → Bad x → Worse (f x)) → (a : List X) (k : ℕ) → BadAt Bad a k → BadAt Worse (map f a) k
bad_map Bad Worse f up [] k h = absurd h
bad_map Bad Worse f up (x ∷ a) zero h = up x h
bad_map Bad Worse f up (x ∷ a) (suc k) h = bad_map Bad Worse f up a k h

-- lists that begin with the same m elements do so after n of them
pub take_drop_same : {A : Type 0} (n m : ℕ) (s i : List A) → n ≤ m → take m s ≡ take m i → take (m - n) (drop n s) ≡ take (m - n) (drop n i)
take_drop_same n m s i le h =
    let e : n + (m - n) ≡ m = omega arith in
    sym (drop-take n (m - n) s) ∙ (ap (drop n) (ap (λ k. take k s) e ∙ (h ∙ ap (λ k. take k i) (sym e))) ∙ drop-take n (m - n) i)

-- ---- one after the other

joined_err : {X : Type 0} (Bad : X → Type 0) (a b : List X) (m : ℕ) (i j : List Token) (e : ParseErr) (depth : ℕ) → length i ≡ length a + length j
    → PlacedErr depth j e → AgreesErr Bad b (m - length a) j e → length a < m → AgreesErr Bad (a ++ b) m i e
joined_err Bad a b m i j Memory depth c p h low = absurd p
joined_err Bad a b m i j (Syntax left) depth c p h low = omega arith
joined_err Bad a b m i j (TooDeep deep left) depth c p h low = λ shown.
    let e : length i - deep ≡ length a + (length j - deep) = omega (arith, p.2) in
    subst (BadAt Bad (a ++ b)) (sym e) (bad_right Bad a b (length j - deep) (h (omega (arith, p.0))))

beyond_err : {X : Type 0} (Bad : X → Type 0) (nests : List X) (n m : ℕ) (i j : List Token) (e : ParseErr) (depth : ℕ) → length i ≡ n + length j → m ≤ n
    → PlacedErr depth j e → AgreesErr Bad nests m i e
beyond_err Bad nests n m i j Memory depth c le p = absurd p
beyond_err Bad nests n m i j (Syntax left) depth c le p = omega arith
beyond_err Bad nests n m i j (TooDeep deep left) depth c le p = λ shown. absurd (omega (arith, p.0))

first_err : {X : Type 0} (Bad : X → Type 0) (a b : List X) (m : ℕ) (i : List Token) (e : ParseErr) → AgreesErr Bad a m i e → AgreesErr Bad (a ++ b) m i e
first_err Bad a b m i Memory h = absurd h
first_err Bad a b m i (Syntax left) h = h
first_err Bad a b m i (TooDeep deep left) h = λ shown. bad_left Bad a b (length i - deep) (h shown)

pub placed_later : (depth before wanted : ℕ) (i j : List Token) (e : ParseErr) → length i ≡ before + length j → wanted ≤ before + depth → PlacedErr depth j e → PlacedErr wanted i e
placed_later depth before wanted i j Memory c le p = absurd p
placed_later depth before wanted i j (Syntax left) c le p = omega arith
placed_later depth before wanted i j (TooDeep deep left) c le p = (omega (arith, p.0), p.1, omega (arith, p.2), p.3)

pub then_meets : {A B : Type 0} (r : Outcome A) (f : A → Parser B) (Q : A → List Token → Type 0) (P : B → List Token → Type 0)
    → Meets r Q → ((x : A) (i : List Token) → Q x i → Meets (f x i) P) → Meets (and_then r f) P
then_meets (Ok p) f Q P h g = g p.0 p.1 h
then_meets (Err e) f Q P h g = tt

pub meets_weaker : {A : Type 0} (r : Outcome A) (Q P : A → List Token → Type 0) → Meets r Q → ((x : A) (i : List Token) → Q x i → P x i) → Meets r P
meets_weaker (Ok p) Q P h g = g p.0 p.1 h
meets_weaker (Err e) Q P h g = tt

pub then_placed : {A B : Type 0} (r : Outcome A) (f : A → Parser B) (Q : A → List Token → Type 0) (i : List Token) (depth : ℕ)
    → Meets r Q → Placed depth i r → ((x : A) (j : List Token) → Q x j → Placed depth i (f x j)) → Placed depth i (and_then r f)
then_placed (Ok p) f Q i depth h g more = more p.0 p.1 h
then_placed (Err e) f Q i depth h g more = g

-- no token is shared, or none that is left
pub beyond : {A B X : Type 0} (Bad : X → Type 0) (nests : A → List X) (made : B → A) (a : A) (n m : ℕ) (i j : List Token) (depth : ℕ) (r : Outcome B)
    → length i ≡ n + length j → m ≤ n → ((b : B) → n ≤ length (nests (made b))) → Placed depth j r
    → Agrees Bad nests a m i (and_then r (λ b k. Ok (made b, k)))
beyond Bad nests made a n m i j depth (Ok p) c le more placed = let h = more p.0 in λ shown. absurd (omega arith)
beyond Bad nests made a n m i j depth (Err e) c le more placed = beyond_err Bad (nests a) n m i j e depth c le placed

module _ {A B X : Type 0} (Bad : X → Type 0) (nests : A → List X) (others : B → List X) where
  abbrev pub both : A × B → List X
  both c = nests c.0 ++ others c.1

  -- the first part is as in the tree
  agrees_second : (a : A) (b : B) (m : ℕ) (i j : List Token) (depth : ℕ) (r : Outcome B)
      → length i ≡ length (nests a) + length j → length (nests a) < m → Placed depth j r → Agrees Bad others b (m - length (nests a)) j r
      → Agrees Bad both (a, b) m i (and_then r (λ y k. Ok ((a, y), k)))
  agrees_second a b m i j depth (Ok p) c low placed h = λ shown. ap (λ y. (a, y)) (h (omega (arith, length-append (nests a) (others p.0))))
  agrees_second a b m i j depth (Err e) c low placed h = joined_err Bad (nests a) (others b) m i j e depth c placed h low

  agrees_after : (S : A → Spelled) (moved : IsMoved S nests) (depth : ℕ) (f : A → Parser B) (a : A) (b : B) (s t : List Token) (m : ℕ) (i : List Token) (x : A) (j : List Token)
      → S a s t → take m s ≡ take m i → S x i j → ((x : A) (j : List Token) → S x i j → Placed depth j (f x j))
      → ((j : List Token) → S a i j → take (m - length (nests a)) t ≡ take (m - length (nests a)) j → Agrees Bad others b (m - length (nests a)) j (f a j))
      → (length (nests x) < m → x ≡ a) → (length (nests x) < m) ⊎ (m ≤ length (nests x))
      → Agrees Bad both (a, b) m i (and_then (f x j) (λ y k. Ok ((x, y), k)))
  agrees_after S moved depth f a b s t m i x j spelled same read placed second e (inl low) =
      let here : S a i j = subst (λ z. S z i j) (e low) read in
      let under : length (nests a) < m = subst (λ z. length (nests z) < m) (e low) low in
      let shared : take (m - length (nests a)) t ≡ take (m - length (nests a)) j =
      ap (take (m - length (nests a))) (moved.rest a s t spelled)
      ∙ (take_drop_same (length (nests a)) m s i (omega arith) same ∙ ap (take (m - length (nests a))) (sym (moved.rest a i j here))) in
      subst (λ z. Agrees Bad both (a, b) m i (and_then (f z j) (λ y k. Ok ((z, y), k)))) (sym (e low))
      (agrees_second a b m i j depth (f a j) (moved.count a i j here) under (placed a j here) (second j here shared))
  agrees_after S moved depth f a b s t m i x j spelled same read placed second e (inr high) =
      beyond Bad both (λ y. (x, y)) (a, b) (length (nests x)) m i j depth (f x j) (moved.count x i j read) high
      (λ y. omega (arith, length-append (nests x) (others y))) (placed x j read)

  -- what agrees with two parts agrees with one after the other
  pub agrees_pair : (S : A → Spelled) (moved : IsMoved S nests) (depth : ℕ) (f : A → Parser B) (a : A) (b : B) (s t : List Token) (m : ℕ) (i : List Token) (r : Outcome A)
      → S a s t → take m s ≡ take m i → Meets r (λ x j. S x i j) → Agrees Bad nests a m i r
      → ((x : A) (j : List Token) → S x i j → Placed depth j (f x j))
      → ((j : List Token) → S a i j → take (m - length (nests a)) t ≡ take (m - length (nests a)) j → Agrees Bad others b (m - length (nests a)) j (f a j))
      → Agrees Bad both (a, b) m i (and_then r (λ x j. and_then (f x j) (λ y k. Ok ((x, y), k))))
  agrees_pair S moved depth f a b s t m i (Ok p) spelled same read h placed second =
      agrees_after S moved depth f a b s t m i p.0 p.1 spelled same read placed second h (cases_lt (length (nests p.0)) m)
  agrees_pair S moved depth f a b s t m i (Err e) spelled same read h placed second = first_err Bad (nests a) (others b) m i e h

end_placed : {A B : Type 0} (made : B → A) (depth before wanted : ℕ) (i j : List Token) (r : Outcome B) → length i ≡ before + length j → wanted ≤ before + depth
    → Placed depth j r → Placed wanted i (and_then r (λ y k. Ok (made y, k)))
end_placed made depth before wanted i j (Ok p) c le h = tt
end_placed made depth before wanted i j (Err e) c le h = placed_later depth before wanted i j e c le h

pub less_placed : {A : Type 0} (depth wanted : ℕ) (i : List Token) (r : Outcome A) → wanted ≤ depth → Placed depth i r → Placed wanted i r
less_placed depth wanted i (Ok p) le h = tt
less_placed depth wanted i (Err Memory) le h = absurd h
less_placed depth wanted i (Err (Syntax left)) le h = h
less_placed depth wanted i (Err (TooDeep deep left)) le h = (omega (arith, h.0), h.1, h.2, h.3)

-- One part after another.
pub pair_reader : {A B X : Type 0} (Bad : X → Type 0) (one_depth two_depth depth : ℕ)
    (S : A → Spelled) (nests : A → List X) (Stops : List Token → Type 0) (p : Parser A)
    (T : A → B → Spelled) (others : B → List X) (Ends : List Token → Type 0) (f : A → Parser B)
    → IsMoved S nests → IsReader Bad one_depth S S nests Stops p → ((a : A) → IsReader Bad two_depth (T a) (T a) others Ends (f a))
    → ((a : A) (b : B) (t o : List Token) → T a b t o → Ends o → Stops t)
    → depth ≤ one_depth → ((a : A) (i o : List Token) → S a i o → depth ≤ length (nests a) + two_depth)
    → IsReader Bad depth (λ (c : A × B). S c.0 ⨟ T c.0 c.1) (λ (c : A × B). S c.0 ⨟ T c.0 c.1) (both Bad nests others) Ends (p ▷ f)
pair_reader Bad one_depth two_depth depth S nests Stops p T others Ends f moved r q first le low = record {
  sound = λ i. then_meets (p i) _ (λ a j. S a i j) _ (r.sound i) (λ a j h. then_meets (f a j) _ (λ b k. T a b j k) _ ((q a).sound j) (λ b k g. (j, h, g)));
  placed = λ i. then_placed (p i) _ (λ a j. S a i j) i depth (r.sound i) (less_placed one_depth depth i (p i) le (r.placed i))
      (λ a j h. end_placed (λ b. (a, b)) two_depth (length (nests a)) depth i j (f a j) (moved.count a i j h) (low a i j h) ((q a).placed j));
  agrees = λ c s o m i h stops same.
      agrees_pair Bad nests others S moved two_depth f c.0 c.1 s h.0 m i (p i) h.1 same (r.sound i) (r.agrees c.0 s h.0 m i h.1 (first c.0 c.1 h.0 o h.2 stops) same)
      (λ x j read. (q x).placed j)
      (λ j read shared. (q c.0).agrees c.1 h.0 o (m - length (nests c.0)) j h.2 stops shared);
}

-- ---- the same parts under another name

map_err : {X Y : Type 0} (Bad : X → Type 0) (Worse : Y → Type 0) (shift : X → Y) → ((x : X) → Bad x → Worse (shift x))
    → (nests : List X) (m : ℕ) (i : List Token) (e : ParseErr) → AgreesErr Bad nests m i e → AgreesErr Worse (map shift nests) m i e
map_err Bad Worse shift up nests m i Memory h = absurd h
map_err Bad Worse shift up nests m i (Syntax left) h = h
map_err Bad Worse shift up nests m i (TooDeep deep left) h = λ shown. bad_map Bad Worse shift up nests (length i - deep) (h shown)

module _ {A B X Y : Type 0} (Bad : X → Type 0) (Worse : Y → Type 0) (shift : X → Y) (up : (x : X) → Bad x → Worse (shift x))
    (nests : A → List X) (others : B → List Y) (made : A → B) (nested : (a : A) → others (made a) ≡ map shift (nests a)) where
  agrees_map : (a : A) (b : B) (m : ℕ) (i : List Token) (r : Outcome A) → made a ≡ b → Agrees Bad nests a m i r → Agrees Worse others b m i (and_then r (λ a j. Ok (made a, j)))
  agrees_map a b m i (Ok p) e h = λ shown. ap made (h (omega (arith, ap length (nested p.0), length-map (nests p.0) shift))) ∙ e
  agrees_map a b m i (Err z) e h = subst (λ ns. AgreesErr Worse ns m i z) (sym (nested a) ∙ ap others e) (map_err Bad Worse shift up (nests a) m i z h)

  placed_map : (depth : ℕ) (i : List Token) (r : Outcome A) → Placed depth i r → Placed depth i (and_then r (λ a j. Ok (made a, j)))
  placed_map depth i (Ok p) h = tt
  placed_map depth i (Err e) h = h

  -- What is read, changed: each tree that is to be read is made of one that is read.
  pub map_reader : (depth : ℕ) (Gives Takes : A → Spelled) (Gives' Takes' : B → Spelled) (Stops : List Token → Type 0) (p : Parser A)
      → IsReader Bad depth Gives Takes nests Stops p
      → ((a : A) (i o : List Token) → Gives a i o → Gives' (made a) i o)
      → ((b : B) (i o : List Token) → Takes' b i o → (a : A) × (made a ≡ b) × Takes a i o)
      → IsReader Worse depth Gives' Takes' others Stops (made <$> p)
  map_reader depth Gives Takes Gives' Takes' Stops p r to from = record {
    sound = λ i. then_meets (p i) _ (λ a j. Gives a i j) _ (r.sound i) (λ a j h. to a i j h);
    placed = λ i. placed_map depth i (p i) (r.placed i);
    agrees = λ b s o m i h stops same. let g = from b s o h in agrees_map g.0 b m i (p i) g.1 (r.agrees g.0 s o m i g.2 stops same);
  }

-- What is read, changed, where a token that lies too deep in what is read does so in what is made of it.
module _ {A B X Y : Type 0} (Bad : X → Type 0) (Worse : Y → Type 0) (nests : A → List X) (others : B → List Y) (made : A → B)
    (same : (a : A) → length (others (made a)) ≡ length (nests a)) (lifts : (a : A) (k : ℕ) → BadAt Bad (nests a) k → BadAt Worse (others (made a)) k) where
  lift_err : (a : A) (m : ℕ) (i : List Token) (e : ParseErr) → AgreesErr Bad (nests a) m i e → AgreesErr Worse (others (made a)) m i e
  lift_err a m i Memory h = absurd h
  lift_err a m i (Syntax left) h = h
  lift_err a m i (TooDeep deep left) h = λ shown. lifts a (length i - deep) (h shown)

  agrees_lift : (a : A) (b : B) (m : ℕ) (i : List Token) (r : Outcome A) → made a ≡ b → Agrees Bad nests a m i r → Agrees Worse others b m i (and_then r (λ a j. Ok (made a, j)))
  agrees_lift a b m i (Ok p) e h = λ shown. ap made (h (omega (arith, same p.0))) ∙ e
  agrees_lift a b m i (Err z) e h = subst (λ b. AgreesErr Worse (others b) m i z) e (lift_err a m i z h)

  placed_lift : (depth : ℕ) (i : List Token) (r : Outcome A) → Placed depth i r → Placed depth i (and_then r (λ a j. Ok (made a, j)))
  placed_lift depth i (Ok p) h = tt
  placed_lift depth i (Err e) h = h

  pub lift_reader : (depth : ℕ) (Gives Takes : A → Spelled) (Gives' Takes' : B → Spelled) (Stops : List Token → Type 0) (p : Parser A)
      → IsReader Bad depth Gives Takes nests Stops p
      → ((a : A) (i o : List Token) → Gives a i o → Gives' (made a) i o)
      → ((b : B) (i o : List Token) → Takes' b i o → (a : A) × (made a ≡ b) × Takes a i o)
      → IsReader Worse depth Gives' Takes' others Stops (made <$> p)
  lift_reader depth Gives Takes Gives' Takes' Stops p r to from = record {
    sound = λ i. then_meets (p i) _ (λ a j. Gives a i j) _ (r.sound i) (λ a j h. to a i j h);
    placed = λ i. placed_lift depth i (p i) (r.placed i);
    agrees = λ b s o m i h stops same. let g = from b s o h in agrees_lift g.0 b m i (p i) g.1 (r.agrees g.0 s o m i g.2 stops same);
  }

-- the same where nothing lies deeper
pub equal_reader : {A B X : Type 0} (Bad : X → Type 0) (nests : A → List X) (others : B → List X) (made : A → B) → ((a : A) → nests a ≡ others (made a))
    → (depth : ℕ) (Gives Takes : A → Spelled) (Gives' Takes' : B → Spelled) (Stops : List Token → Type 0) (p : Parser A)
    → IsReader Bad depth Gives Takes nests Stops p
    → ((a : A) (i o : List Token) → Gives a i o → Gives' (made a) i o)
    → ((b : B) (i o : List Token) → Takes' b i o → (a : A) × (made a ≡ b) × Takes a i o)
    → IsReader Bad depth Gives' Takes' others Stops (made <$> p)
equal_reader Bad nests others made nested =
    lift_reader Bad Bad nests others made (λ a. sym (ap length (nested a))) (λ a k h. subst (λ ns. BadAt Bad ns k) (nested a) h)

-- The same parser, where a token that lies too deep does so by another count.
nests_outcome : {A X Y : Type 0} (Bad : X → Type 0) (Worse : Y → Type 0) (nests : A → List X) (others : A → List Y)
    → ((a : A) → length (others a) ≡ length (nests a)) → ((a : A) (k : ℕ) → BadAt Bad (nests a) k → BadAt Worse (others a) k)
    → (a : A) (m : ℕ) (i : List Token) (r : Outcome A) → Agrees Bad nests a m i r → Agrees Worse others a m i r
nests_outcome Bad Worse nests others same lifts a m i (Ok p) h = λ shown. h (omega (arith, same p.0))
nests_outcome Bad Worse nests others same lifts a m i (Err Memory) h = absurd h
nests_outcome Bad Worse nests others same lifts a m i (Err (Syntax left)) h = h
nests_outcome Bad Worse nests others same lifts a m i (Err (TooDeep deep left)) h = λ shown. lifts a (length i - deep) (h shown)

pub nests_reader : {A X Y : Type 0} (Bad : X → Type 0) (Worse : Y → Type 0) (nests : A → List X) (others : A → List Y)
    → ((a : A) → length (others a) ≡ length (nests a)) → ((a : A) (k : ℕ) → BadAt Bad (nests a) k → BadAt Worse (others a) k)
    → (depth : ℕ) (Gives Takes : A → Spelled) (Stops : List Token → Type 0) (p : Parser A)
    → IsReader Bad depth Gives Takes nests Stops p → IsReader Worse depth Gives Takes others Stops p
nests_reader Bad Worse nests others same lifts depth Gives Takes Stops p r = record {
  sound = r.sound;
  placed = r.placed;
  agrees = λ a s o m i h stops e. nests_outcome Bad Worse nests others same lifts a m i (p i) (r.agrees a s o m i h stops e);
}

-- The same parser, of which less is said.
pub less_reader : {A X : Type 0} (Bad : X → Type 0) (depth wanted : ℕ) (Gives Takes Gives' Takes' : A → Spelled) (nests : A → List X) (Stops Ends : List Token → Type 0) (p : Parser A)
    → IsReader Bad depth Gives Takes nests Stops p → wanted ≤ depth
    → ((a : A) (i o : List Token) → Gives a i o → Gives' a i o)
    → ((a : A) (i o : List Token) → Takes' a i o → Takes a i o)
    → ((o : List Token) → Ends o → Stops o)
    → IsReader Bad wanted Gives' Takes' nests Ends p
less_reader Bad depth wanted Gives Takes Gives' Takes' nests Stops Ends p r le to from ends = record {
  sound = λ i. meets_weaker (p i) (λ a j. Gives a i j) (λ a j. Gives' a i j) (r.sound i) (λ a j h. to a i j h);
  placed = λ i. less_placed depth wanted i (p i) le (r.placed i);
  agrees = λ a s o m i h stops same. r.agrees a s o m i (from a s o h) (ends o stops) same;
}

-- ---- by the first token

-- where no token is shared, nothing is said
pub none_shared : {A X : Type 0} (Bad : X → Type 0) (nests : A → List X) (a : A) (depth : ℕ) (i : List Token) (r : Outcome A) → Placed depth i r → Agrees Bad nests a 0 i r
none_shared Bad nests a depth i (Ok p) h = λ shown. absurd (omega arith)
none_shared Bad nests a depth i (Err Memory) h = absurd h
none_shared Bad nests a depth i (Err (Syntax left)) h = omega arith
none_shared Bad nests a depth i (Err (TooDeep deep left)) h = λ shown. absurd (omega (arith, h.0))

pub same_told : {C : Type 0} (test : Token → Option C) (m : ℕ) (s i : List Token) → take (suc m) s ≡ take (suc m) i → told test s ≡ told test i
same_told test m [] [] h = refl
same_told test m [] (a ∷ i) h = absurd (cc)
same_told test m (a ∷ s) [] h = absurd (cc)
same_told test m (a ∷ s) (b ∷ i) h = let e : a ≡ b = cc in ap test e

module _ {C A X : Type 0} (Bad : X → Type 0) (depth : ℕ) (test : Token → Option C) (Gives Takes : A → Spelled) (nests : A → List X) (Stops : List Token → Type 0)
    (chosen : C → Parser A) (other : Parser A)
    (r : (c : C) → IsReader Bad depth Gives (λ a s o. (told test s ≡ Some c) × Takes a s o) nests Stops (chosen c))
    (q : IsReader Bad depth Gives (λ a s o. (told test s ≡ None) × Takes a s o) nests Stops other) where
  sound_by : (told : Option C) (i : List Token) → Meets (branch told chosen other i) (λ a j. Gives a i j)
  sound_by None i = q.sound i
  sound_by (Some c) i = (r c).sound i

  placed_by : (told : Option C) (i : List Token) → Placed depth i (branch told chosen other i)
  placed_by None i = q.placed i
  placed_by (Some c) i = (r c).placed i

  agrees_by : (found : Option C) (a : A) (s o : List Token) (m : ℕ) (i : List Token) → told test s ≡ found → Takes a s o → Stops o → take m s ≡ take m i → Agrees Bad nests a m i (branch found chosen other i)
  agrees_by None a s o m i e h stops same = q.agrees a s o m i (e, h) stops same
  agrees_by (Some c) a s o m i e h stops same = (r c).agrees a s o m i (e, h) stops same

  agrees_choose : (a : A) (s o : List Token) (m : ℕ) (i : List Token) → Takes a s o → Stops o → take m s ≡ take m i → Agrees Bad nests a m i (branch (told test i) chosen other i)
  agrees_choose a s o zero i h stops same = none_shared Bad nests a depth i (branch (told test i) chosen other i) (placed_by (told test i) i)
  agrees_choose a s o (suc m) i h stops same = agrees_by (told test i) a s o (suc m) i (same_told test m s i same) h stops same

  -- A choice by what is told of the first token: each alternative reads the trees that begin so.
  pub choose_reader : IsReader Bad depth Gives Takes nests Stops (by_told test chosen other)
  choose_reader = record {
    sound = λ i. sound_by (told test i) i;
    placed = λ i. placed_by (told test i) i;
    agrees = agrees_choose;
  }

-- no tree is to be read
pub refuse_reader : {A X : Type 0} (Bad : X → Type 0) (depth : ℕ) (Gives Takes : A → Spelled) (nests : A → List X) (Stops : List Token → Type 0)
    → ((a : A) (i o : List Token) → Takes a i o → ⊥) → IsReader Bad depth Gives Takes nests Stops refuse
refuse_reader Bad depth Gives Takes nests Stops none = record {
  sound = λ i. tt;
  placed = λ i. omega arith;
  agrees = λ a s o m i h stops same. absurd (none a s o h);
}

-- nothing is read
pub pure_reader : {A X : Type 0} (Bad : X → Type 0) (depth : ℕ) (Gives Takes : A → Spelled) (nests : A → List X) (Stops : List Token → Type 0) (x : A)
    → ((i : List Token) → Gives x i i) → ((a : A) (i o : List Token) → Takes a i o → x ≡ a) → IsReader Bad depth Gives Takes nests Stops (pure x)
pure_reader Bad depth Gives Takes nests Stops x here only = record {
  sound = λ i. here i;
  placed = λ i. tt;
  agrees = λ a s o m i h stops same shown. only a s o h;
}

-- ---- a part that lies too deep

module _ {A X : Type 0} (Bad : X → Type 0) (Takes : A → Spelled) (nests : A → List X) (moved : IsMoved Takes nests)
    (deep : (a : A) (i o : List Token) → Takes a i o → BadAt Bad (nests a) 0) where
  some_nests : (ns : List X) → BadAt Bad ns 0 → 0 < length ns
  some_nests [] h = absurd h
  some_nests (x ∷ ns) h = omega arith

  deep_at : (a : A) (s o : List Token) (m : ℕ) (i : List Token) → Takes a s o → take m s ≡ take m i → Agrees Bad nests a m i (too_deep i)
  deep_at a s o zero [] h same = omega arith
  deep_at a [] o (suc m) [] h same = absurd (omega (arith, moved.count a [] o h, some_nests (nests a) (deep a [] o h)))
  deep_at a (b ∷ s) o (suc m) [] h same = absurd (cc)
  deep_at a s o m (b ∷ i) h same = λ shown. let e : length (b ∷ i) - length (b ∷ i) ≡ 0 = omega arith in subst (BadAt Bad (nests a)) (sym e) (deep a s o h)

  deep_placed : (i : List Token) → Placed {A = A} 0 i (too_deep i)
  deep_placed [] = omega arith
  deep_placed (a ∷ i) = (omega arith, omega arith, omega arith, omega arith)

  deep_sound : (Gives : A → Spelled) (i : List Token) → Meets (too_deep i) (λ a j. Gives a i j)
  deep_sound Gives [] = tt
  deep_sound Gives (a ∷ i) = tt

  -- the first token of each tree lies too deep
  pub deep_reader : (Gives : A → Spelled) (Stops : List Token → Type 0) → IsReader Bad 0 Gives Takes nests Stops too_deep
  deep_reader Gives Stops = record {
    sound = deep_sound Gives;
    placed = deep_placed;
    agrees = λ a s o m i h stops same. deep_at a s o m i h same;
  }

-- ---- one token

-- the token of which that is told
abbrev pub Told : {A : Type 0} → (Token → Option A) → A → Spelled
Told test x = λ s o. Begins (λ t r. (test t ≡ Some x) × (r ≡ o)) s

abbrev pub one_nest : {A X : Type 0} → X → A → List X
one_nest x a = x ∷ []

module _ {A X : Type 0} (Bad : X → Type 0) (depth : ℕ) (x : X) (test : Token → Option A) (Stops : List Token → Type 0) where
  take_sound : (q : Option A) (a : Token) (t : List Token) → test a ≡ q → Meets (take_told q (a ∷ t)) (λ v j. Told test v (a ∷ t) j)
  take_sound None a t e = tt
  take_sound (Some v) a t e = (e, refl)

  take_placed : (q : Option A) (i : List Token) → Placed depth i (take_told q i)
  take_placed None i = omega arith
  take_placed (Some v) i = tt

  token_sound : (i : List Token) → Meets (token test i) (λ v j. Told test v i j)
  unfolding token
  token_sound [] = tt
  token_sound (a ∷ t) = take_sound (test a) a t refl

  some_same : (q : Option A) (v w : A) → q ≡ Some v → q ≡ Some w → v ≡ w
  some_same q v w e f = cc

  token_agrees_at : (q : Option A) (v : A) (m : ℕ) (i : List Token) → q ≡ Some v → Agrees Bad (one_nest x) v (suc m) i (take_told q i)
  token_agrees_at None v m i e = absurd (cc)
  token_agrees_at (Some w) v m i e = λ shown. some_same (Some w) w v refl e

  token_agrees : (v : A) (s o : List Token) (m : ℕ) (i : List Token) → Told test v s o → take m s ≡ take m i → Agrees Bad (one_nest x) v m i (take_told (told test i) i)
  token_agrees v s o zero i h same = none_shared Bad (one_nest x) v depth i (take_told (told test i) i) (take_placed (told test i) i)
  token_agrees v [] o (suc m) i h same = absurd h
  token_agrees v (a ∷ s) o (suc m) i h same = token_agrees_at (told test i) v m i (sym (same_told test m (a ∷ s) i same) ∙ h.0)

  pub token_reader : IsReader Bad depth (Told test) (Told test) (one_nest x) Stops (token test)
  unfolding token
  token_reader = record {
    sound = token_sound;
    placed = λ i. take_placed (told test i) i;
    agrees = λ v s o m i h stops same. token_agrees v s o m i h same;
  }

-- ---- how many tokens are taken

drop_nil : {A : Type 0} (k : ℕ) → ◌≡◌ {A = List A} (drop k []) []
drop_nil zero = refl
drop_nil (suc k) = refl

pub drop_more : {A : Type 0} (n m : ℕ) (l : List A) → drop m (drop n l) ≡ drop (n + m) l
drop_more zero m l = ap (λ k. drop k l) (omega arith)
drop_more (suc n) m [] = drop_nil m ∙ sym (drop_nil (suc n + m))
drop_more (suc n) m (x ∷ l) = drop_more n m l ∙ ap (λ k. drop k (x ∷ l)) (let e : suc (n + m) ≡ suc n + m = omega arith in e)

pub moved_told : {A X : Type 0} (x : X) (test : Token → Option A) → IsMoved (Told test) (one_nest x)
moved_told {A = A} {X = X} x test = record {
  count = count_told;
  rest = rest_told;
}
  where
    count_told : (a : A) (i o : List Token) → Told test a i o → length i ≡ length (one_nest x a) + length o
    count_told a [] o h = absurd h
    count_told a (b ∷ i) o h = omega (arith, ap length h.1)

    rest_told : (a : A) (i o : List Token) → Told test a i o → o ≡ drop (length (one_nest x a)) i
    rest_told a [] o h = absurd h
    rest_told a (b ∷ i) o h = sym h.1

module _ {A B X : Type 0} (S : A → Spelled) (nests : A → List X) (T : A → B → Spelled) (others : B → List X) (s : IsMoved S nests) (t : (a : A) → IsMoved (T a) others) where
  pub moved_pair : IsMoved (λ (c : A × B). S c.0 ⨟ T c.0 c.1) (λ (c : A × B). nests c.0 ++ others c.1)
  moved_pair = record {
    count = λ c i o h. omega (arith, s.count c.0 i h.0 h.1, (t c.0).count c.1 h.0 o h.2, length-append (nests c.0) (others c.1));
    rest = λ c i o h. (t c.0).rest c.1 h.0 o h.2 ∙ (ap (drop (length (others c.1))) (s.rest c.0 i h.0 h.1)
        ∙ (drop_more (length (nests c.0)) (length (others c.1)) i ∙ ap (λ k. drop k i) (sym (length-append (nests c.0) (others c.1)))));
  }

pub moved_map : {A B X Y : Type 0} (shift : X → Y) (S : A → Spelled) (nests : A → List X) (T : B → Spelled) (others : B → List Y) (made : A → B) → IsMoved S nests
    → ((a : A) → others (made a) ≡ map shift (nests a)) → ((b : B) (i o : List Token) → T b i o → (a : A) × (made a ≡ b) × S a i o) → IsMoved T others
moved_map {A = A} {B = B} shift S nests T others made moved nested from = record {
  count = λ b i o h. let g = from b i o h in moved.count g.0 i o g.2 ∙ ap (λ k. k + length o) (same g.0 b g.1);
  rest = λ b i o h. let g = from b i o h in moved.rest g.0 i o g.2 ∙ ap (λ k. drop k i) (same g.0 b g.1);
}
  where
    same : (a : A) (b : B) → made a ≡ b → length (nests a) ≡ length (others b)
    same a b e = sym (ap length (nested a) ∙ length-map (nests a) shift) ∙ ap (λ b. length (others b)) e

pub moved_less : {A X : Type 0} (S T : A → Spelled) (nests : A → List X) → IsMoved S nests → ((a : A) (i o : List Token) → T a i o → S a i o) → IsMoved T nests
moved_less S T nests moved from = record {
  count = λ a i o h. moved.count a i o (from a i o h);
  rest = λ a i o h. moved.rest a i o (from a i o h);
}

-- what stops the trees may be told in what they are
pub stops_reader : {A X : Type 0} (Bad : X → Type 0) (depth : ℕ) (Gives Takes : A → Spelled) (nests : A → List X) (Stops : List Token → Type 0) (p : Parser A)
    → IsReader Bad depth Gives (λ a s o. Stops o × Takes a s o) nests (λ o. Unit {0}) p → IsReader Bad depth Gives Takes nests Stops p
stops_reader Bad depth Gives Takes nests Stops p r = record {
  sound = r.sound;
  placed = r.placed;
  agrees = λ a s o m i h stops same. r.agrees a s o m i (stops, h) tt same;
}

pub unstop_reader : {A X : Type 0} (Bad : X → Type 0) (depth : ℕ) (Gives Takes : A → Spelled) (nests : A → List X) (Stops : List Token → Type 0) (p : Parser A)
    → IsReader Bad depth Gives Takes nests Stops p → IsReader Bad depth Gives (λ a s o. Stops o × Takes a s o) nests (λ o. Unit {0}) p
unstop_reader Bad depth Gives Takes nests Stops p r = record {
  sound = r.sound;
  placed = r.placed;
  agrees = λ a s o m i h stops same. r.agrees a s o m i h.1 h.0 same;
}

pub map_same : {Y : Type 0} (l : List Y) → map (λ x. x) l ≡ l
map_same [] = refl
map_same (x ∷ l) = ap (λ l. x ∷ l) (map_same l)

-- ---- a part that may be absent

module _ {C A : Type 0} (Bad : Nesting → Type 0) (depth : ℕ) (test : Token → Option C) (S : A → Spelled) (nests : A → Depths) (Stops : List Token → Type 0) (p : Parser A)
    (r : IsReader Bad depth S S nests Stops p) (begins : (a : A) (i o : List Token) → S a i o → (c : C) × (told test i ≡ Some c)) where
  -- nothing is told of the first token after an absent part, and the part stops there
  abbrev pub MaybeStops : List Token → Type 0
  MaybeStops o = (told test o ≡ None) × Stops o

  abbrev MaybeTakes : Option A → Spelled
  MaybeTakes b s o = MaybeStops o × maybe S b s o

  some_from : (b : Option A) (i o : List Token) (c : C) → told test i ≡ Some c → MaybeTakes b i o → (a : A) × (Some a ≡ b) × (Stops o × S a i o)
  some_from None i o c e h = let f : told test i ≡ None = ap (told test) h.1 ∙ h.0.0 in absurd (cc)
  some_from (Some a) i o c e h = (a, refl, (h.0.1, h.1))

  none_only : (b : Option A) (i o : List Token) → told test i ≡ None → MaybeTakes b i o → None ≡ b
  none_only None i o e h = refl
  none_only (Some a) i o e h = let g = begins a i o h.1 in absurd (cc)

  inner : IsReader Bad depth S (λ a s o. Stops o × S a s o) nests (λ o. Unit {0}) p
  inner = record {
    sound = r.sound;
    placed = r.placed;
    agrees = λ a s o m i h stops same. r.agrees a s o m i h.1 h.0 same;
  }

  some_reader : (c : C) → IsReader Bad depth (maybe S) (λ b i o. (told test i ≡ Some c) × MaybeTakes b i o) (if_given nests) (λ o. Unit {0}) (Some <$> p)
  some_reader c = map_reader Bad Bad (λ x. x) (λ x h. h) nests (if_given nests) Some (λ a. sym (map_same (nests a))) depth S (λ a s o. Stops o × S a s o) (maybe S)
      (λ b i o. (told test i ≡ Some c) × MaybeTakes b i o) (λ o. Unit {0}) p inner (λ a i o h. h) (λ b i o h. some_from b i o c h.0 h.1)

  pub maybe_reader : IsReader Bad depth (maybe S) (maybe S) (if_given nests) MaybeStops (maybe_read test p)
  maybe_reader = stops_reader Bad depth (maybe S) (maybe S) (if_given nests) MaybeStops (maybe_read test p)
      (choose_reader Bad depth test (maybe S) MaybeTakes (if_given nests) (λ o. Unit {0}) (λ _. Some <$> p) (pure None) some_reader
      (pure_reader Bad depth (maybe S) (λ b i o. (told test i ≡ None) × MaybeTakes b i o) (if_given nests) (λ o. Unit {0}) None (λ i. refl) (λ b i o h. none_only b i o h.0 h.1)))

  pub moved_maybe : IsMoved S nests → IsMoved (maybe S) (if_given nests)
  moved_maybe moved = record { count = count_maybe; rest = rest_maybe }
    where
      count_maybe : (b : Option A) (i o : List Token) → maybe S b i o → length i ≡ length (if_given nests b) + length o
      count_maybe None i o h = omega (arith, ap length h)
      count_maybe (Some a) i o h = moved.count a i o h

      rest_maybe : (b : Option A) (i o : List Token) → maybe S b i o → o ≡ drop (length (if_given nests b)) i
      rest_maybe None i o h = sym h
      rest_maybe (Some a) i o h = moved.rest a i o h

-- ---- parts, as long as they come

module _ {C A : Type 0} (Bad : Nesting → Type 0) (depth : ℕ) (test : Token → Option C) (S : A → Spelled) (nests : A → Depths) (Stops : List Token → Type 0) (p : Parser A)
    (r : IsReader Bad depth S S nests Stops p) (moved : IsMoved S nests)
    (begins : (a : A) (i o : List Token) → S a i o → (c : C) × (told test i ≡ Some c))
    (grows : (a : A) (i o : List Token) → S a i o → 0 < length (nests a))
    (goes : (c : C) (i : List Token) → told test i ≡ Some c → Stops i) where
  -- nothing is told of the first token after the last part, and a part stops there
  abbrev pub ManyStops : List Token → Type 0
  ManyStops o = (told test o ≡ None) × Stops o

  count_each : (all : List A) (i o : List Token) → each S all i o → length i ≡ length (each_depths nests all) + length o
  count_each [] i o h = omega (arith, ap length h)
  count_each (x ∷ all) i o h = omega (arith, moved.count x i h.0 h.1, count_each all h.0 o h.2, length-append (nests x) (each_depths nests all))

  rest_each : (all : List A) (i o : List Token) → each S all i o → o ≡ drop (length (each_depths nests all)) i
  rest_each [] i o h = sym h
  rest_each (x ∷ all) i o h =
      rest_each all h.0 o h.2 ∙ (ap (drop (length (each_depths nests all))) (moved.rest x i h.0 h.1)
      ∙ (drop_more (length (nests x)) (length (each_depths nests all)) i ∙ ap (λ k. drop k i) (sym (length-append (nests x) (each_depths nests all)))))

  pub moved_each : IsMoved (each S) (each_depths nests)
  moved_each = record { count = count_each; rest = rest_each }

  sound_by_more : (n : ℕ) (q : Option C) (i : List Token) → ((j : List Token) → Meets (many_from test p n j) (λ all k. each S all j k))
      → Meets (branch q (λ _. cons <$> (p ⊗ many_from test p n)) (pure []) i) (λ all j. each S all i j)
  sound_by_more n None i later = refl
  sound_by_more n (Some c) i later =
      then_meets ((p ⊗ many_from test p n) i) _ (λ v j. (S v.0 ⨟ each S v.1) i j) _
      (then_meets (p i) _ (λ a j. S a i j) _ (r.sound i) (λ a j h. then_meets (many_from test p n j) _ (λ all k. each S all j k) _ (later j) (λ all k g. (j, h, g))))
      (λ v j h. h)

  many_sound : (n : ℕ) (i : List Token) → Meets (many_from test p n i) (λ all j. each S all i j)
  unfolding many_from
  many_sound zero i = refl
  many_sound (suc n) i = sound_by_more n (told test i) i (many_sound n)

  placed_by_more : (n : ℕ) (q : Option C) (i : List Token) → ((j : List Token) → Placed depth j (many_from test p n j))
      → Placed depth i (branch q (λ _. cons <$> (p ⊗ many_from test p n)) (pure []) i)
  placed_by_more n None i later = tt
  placed_by_more n (Some c) i later =
      placed_map Bad Bad (λ x. x) (λ x h. h) (λ (v : A × List A). nests v.0 ++ each_depths nests v.1) (each_depths nests) cons (λ v. sym (map_same (nests v.0 ++ each_depths nests v.1)))
      depth i ((p ⊗ many_from test p n) i)
      (then_placed (p i) _ (λ a j. S a i j) i depth (r.sound i) (r.placed i)
      (λ a j h. end_placed (λ all. (a, all)) depth (length (nests a)) depth i j (many_from test p n j) (moved.count a i j h) (omega arith) (later j)))

  many_placed : (n : ℕ) (i : List Token) → Placed depth i (many_from test p n i)
  unfolding many_from
  many_placed zero i = tt
  many_placed (suc n) i = placed_by_more n (told test i) i (many_placed n)

  stops_at : (all : List A) (t o : List Token) → each S all t o → ManyStops o → Stops t
  stops_at [] t o h stops = subst Stops (sym h) stops.1
  stops_at (x ∷ all) t o h stops = let g = begins x t h.0 h.1 in goes g.0 t g.1

  agrees_none : (n : ℕ) (q : Option C) (m : ℕ) (i : List Token) → q ≡ None → Agrees Bad (each_depths nests) [] m i (branch q (λ _. cons <$> (p ⊗ many_from test p n)) (pure []) i)
  agrees_none n None m i e = λ shown. refl
  agrees_none n (Some c) m i e = absurd (cc)

  agrees_some : (n : ℕ) (q : Option C) (c : C) (all : List A) (m : ℕ) (i : List Token) → q ≡ Some c → Agrees Bad (each_depths nests) all m i ((cons <$> (p ⊗ many_from test p n)) i)
      → Agrees Bad (each_depths nests) all m i (branch q (λ _. cons <$> (p ⊗ many_from test p n)) (pure []) i)
  agrees_some n None c all m i e h = absurd (cc)
  agrees_some n (Some d) c all m i e h = h

  no_more : (c : C) (i : List Token) → told test i ≡ Some c → length i ≤ 0 → ⊥
  no_more c [] e le = cc
  no_more c (a ∷ i) e le = omega arith

  many_agrees : (n : ℕ) (all : List A) (s o : List Token) (m : ℕ) (i : List Token) → each S all s o → ManyStops o → take m s ≡ take m i → length i ≤ n
      → Agrees Bad (each_depths nests) all m i (many_from test p n i)
  unfolding many_from
  many_agrees n all s o zero i h stops same le = none_shared Bad (each_depths nests) all depth i (many_from test p n i) (many_placed n i)
  many_agrees zero [] s o (suc m) i h stops same le = λ shown. refl
  many_agrees (suc n) [] s o (suc m) i h stops same le = agrees_none n (told test i) (suc m) i (sym (same_told test m s i same) ∙ (ap (told test) h ∙ stops.0))
  many_agrees zero (x ∷ all) s o (suc m) i h stops same le = let g = begins x s h.0 h.1 in absurd (no_more g.0 i (sym (same_told test m s i same) ∙ g.1) le)
  many_agrees (suc n) (x ∷ all) s o (suc m) i h stops same le =
      let g = begins x s h.0 h.1 in
      agrees_some n (told test i) g.0 (x ∷ all) (suc m) i (sym (same_told test m s i same) ∙ g.1)
      (agrees_map Bad Bad (λ x. x) (λ x h. h) (λ (v : A × List A). nests v.0 ++ each_depths nests v.1) (each_depths nests) cons (λ v. sym (map_same (nests v.0 ++ each_depths nests v.1)))
      (x, all) (x ∷ all) (suc m) i ((p ⊗ many_from test p n) i) refl
      (agrees_pair Bad nests (each_depths nests) S moved depth (λ _. many_from test p n) x all s h.0 (suc m) i (p i) h.1 same (r.sound i)
      (r.agrees x s h.0 (suc m) i h.1 (stops_at all h.0 o h.2 stops) same)
      (λ y j read. many_placed n j)
      (λ j read shared. many_agrees n all h.0 o (suc m - length (nests x)) j h.2 stops shared (omega (arith, moved.count x i j read, grows x i j read)))))

  pub many_reader : IsReader Bad depth (each S) (each S) (each_depths nests) ManyStops (many test p)
  many_reader = record {
    sound = λ i. many_sound (length i) i;
    placed = λ i. many_placed (length i) i;
    agrees = λ all s o m i h stops same. many_agrees (length i) all s o m i h stops same (omega arith);
  }

-- ---- parts, as long as they come, up to a last one

abbrev pub Chain : {A : Type 0} → (A → Bool) → (A → Spelled) → List A → Spelled
Chain is_last S [] = nothing
Chain is_last S (x ∷ []) = S x
Chain is_last S (x ∷ y ∷ all) = when (is_last x ≡ false) (S x ⨟ Chain is_last S (y ∷ all))

module _ {C A : Type 0} (Bad : Nesting → Type 0) (depth : ℕ) (test : Token → Option C) (is_last : A → Bool) (S : A → Spelled) (nests : A → Depths) (Stops : List Token → Type 0) (p : Parser A)
    (r : IsReader Bad depth S S nests Stops p) (moved : IsMoved S nests)
    (begins : (a : A) (i o : List Token) → S a i o → (c : C) × (told test i ≡ Some c))
    (grows : (a : A) (i o : List Token) → S a i o → 0 < length (nests a))
    (goes : (c : C) (i : List Token) → told test i ≡ Some c → Stops i) where
  abbrev pub ChainStops : List Token → Type 0
  ChainStops o = (told test o ≡ None) × Stops o

  -- the first part, and those after it
  first_of_chain : (x : A) (all : List A) (i o : List Token) → Chain is_last S (x ∷ all) i o
      → (t : List Token) × S x i t × (is_last x ≡ true → all ≡ []) × Chain is_last S all t o
  first_of_chain x [] i o h = (o, h, (λ e. refl), refl)
  first_of_chain x (y ∷ all) i o h = (h.1.0, h.1.1, (λ e. let f = h.0 in absurd (cc)), h.1.2)

  chain_of_first : (x : A) (all : List A) (i t o : List Token) → S x i t → is_last x ≡ false → Chain is_last S all t o → Chain is_last S (x ∷ all) i o
  chain_of_first x [] i t o h no_last rest = subst (λ t. S x i t) rest h
  chain_of_first x (y ∷ all) i t o h no_last rest = (no_last, (t, h, rest))

  count_chain : (all : List A) (i o : List Token) → Chain is_last S all i o → length i ≡ length (each_depths nests all) + length o
  count_chain [] i o h = omega (arith, ap length h)
  count_chain (x ∷ all) i o h =
      let g = first_of_chain x all i o h in
      omega (arith, moved.count x i g.0 g.1, count_chain all g.0 o g.3, length-append (nests x) (each_depths nests all))

  rest_chain : (all : List A) (i o : List Token) → Chain is_last S all i o → o ≡ drop (length (each_depths nests all)) i
  rest_chain [] i o h = sym h
  rest_chain (x ∷ all) i o h =
      let g = first_of_chain x all i o h in
      rest_chain all g.0 o g.3 ∙ (ap (drop (length (each_depths nests all))) (moved.rest x i g.0 g.1)
      ∙ (drop_more (length (nests x)) (length (each_depths nests all)) i ∙ ap (λ k. drop k i) (sym (length-append (nests x) (each_depths nests all)))))

  pub moved_chain : IsMoved (Chain is_last S) (each_depths nests)
  moved_chain = record { count = count_chain; rest = rest_chain }

  -- the parts after one
  abbrev others : ℕ → A → Parser (List A)
  others n x = if is_last x then pure [] else chain_from test is_last p n

  after_one : (n : ℕ) (x : A) (q : Bool) (i j : List Token) → is_last x ≡ q → S x i j → Meets (chain_from test is_last p n j) (λ all k. Chain is_last S all j k)
      → Meets ((if q then pure [] else chain_from test is_last p n) j) (λ all k. Chain is_last S (x ∷ all) i k)
  after_one n x true i j e h later = h
  after_one n x false i j e h later =
      meets_weaker (chain_from test is_last p n j) (λ all k. Chain is_last S all j k) (λ all k. Chain is_last S (x ∷ all) i k) later (λ all k g. chain_of_first x all i j k h e g)

  chain_sound_by : (n : ℕ) (q : Option C) (i : List Token) → ((j : List Token) → Meets (chain_from test is_last p n j) (λ all k. Chain is_last S all j k))
      → Meets (branch q (λ _. cons <$> (p ▷ others n)) (pure []) i) (λ all j. Chain is_last S all i j)
  chain_sound_by n None i later = refl
  chain_sound_by n (Some c) i later =
      then_meets ((p ▷ others n) i) _ (λ v j. Chain is_last S (v.0 ∷ v.1) i j) _
      (then_meets (p i) _ (λ a j. S a i j) _ (r.sound i) (λ a j h. then_meets (others n a j) _ (λ all k. Chain is_last S (a ∷ all) i k) _
      (after_one n a (is_last a) i j refl h (later j)) (λ all k g. g)))
      (λ v j h. h)

  chain_sound : (n : ℕ) (i : List Token) → Meets (chain_from test is_last p n i) (λ all j. Chain is_last S all i j)
  unfolding chain_from
  chain_sound zero i = refl
  chain_sound (suc n) i = chain_sound_by n (told test i) i (chain_sound n)

  others_placed_by : (n : ℕ) (q : Bool) (j : List Token) → Placed depth j (chain_from test is_last p n j) → Placed depth j ((if q then pure [] else chain_from test is_last p n) j)
  others_placed_by n true j h = tt
  others_placed_by n false j h = h

  chain_placed_by : (n : ℕ) (q : Option C) (i : List Token) → ((j : List Token) → Placed depth j (chain_from test is_last p n j))
      → Placed depth i (branch q (λ _. cons <$> (p ▷ others n)) (pure []) i)
  chain_placed_by n None i later = tt
  chain_placed_by n (Some c) i later =
      placed_map Bad Bad (λ x. x) (λ x h. h) (λ (v : A × List A). nests v.0 ++ each_depths nests v.1) (each_depths nests) cons (λ v. sym (map_same (nests v.0 ++ each_depths nests v.1)))
      depth i ((p ▷ others n) i)
      (then_placed (p i) _ (λ a j. S a i j) i depth (r.sound i) (r.placed i)
      (λ a j h. end_placed (λ all. (a, all)) depth (length (nests a)) depth i j (others n a j) (moved.count a i j h) (omega arith) (others_placed_by n (is_last a) j (later j))))

  chain_placed : (n : ℕ) (i : List Token) → Placed depth i (chain_from test is_last p n i)
  unfolding chain_from
  chain_placed zero i = tt
  chain_placed (suc n) i = chain_placed_by n (told test i) i (chain_placed n)

  chain_stops_at : (all : List A) (t o : List Token) → Chain is_last S all t o → ChainStops o → Stops t
  chain_stops_at [] t o h stops = subst Stops (sym h) stops.1
  chain_stops_at (x ∷ all) t o h stops = let g = first_of_chain x all t o h in let b = begins x t g.0 g.1 in goes b.0 t b.1

  chain_none : (n : ℕ) (q : Option C) (m : ℕ) (i : List Token) → q ≡ None → Agrees Bad (each_depths nests) [] m i (branch q (λ _. cons <$> (p ▷ others n)) (pure []) i)
  chain_none n None m i e = λ shown. refl
  chain_none n (Some c) m i e = absurd (cc)

  chain_some : (n : ℕ) (q : Option C) (c : C) (all : List A) (m : ℕ) (i : List Token) → q ≡ Some c → Agrees Bad (each_depths nests) all m i ((cons <$> (p ▷ others n)) i)
      → Agrees Bad (each_depths nests) all m i (branch q (λ _. cons <$> (p ▷ others n)) (pure []) i)
  chain_some n None c all m i e h = absurd (cc)
  chain_some n (Some d) c all m i e h = h

  others_agree : (n : ℕ) (q : Bool) (all : List A) (m : ℕ) (j : List Token) → (q ≡ true → all ≡ []) → Agrees Bad (each_depths nests) all m j (chain_from test is_last p n j)
      → Agrees Bad (each_depths nests) all m j ((if q then pure [] else chain_from test is_last p n) j)
  others_agree n true all m j none h = λ shown. sym (none refl)
  others_agree n false all m j none h = h

  none_left : (c : C) (i : List Token) → told test i ≡ Some c → length i ≤ 0 → ⊥
  none_left c [] e le = cc
  none_left c (a ∷ i) e le = omega arith

  chain_agrees : (n : ℕ) (all : List A) (s o : List Token) (m : ℕ) (i : List Token) → Chain is_last S all s o → ChainStops o → take m s ≡ take m i → length i ≤ n
      → Agrees Bad (each_depths nests) all m i (chain_from test is_last p n i)
  unfolding chain_from
  chain_agrees n all s o zero i h stops same le = none_shared Bad (each_depths nests) all depth i (chain_from test is_last p n i) (chain_placed n i)
  chain_agrees zero [] s o (suc m) i h stops same le = λ shown. refl
  chain_agrees (suc n) [] s o (suc m) i h stops same le = chain_none n (told test i) (suc m) i (sym (same_told test m s i same) ∙ (ap (told test) h ∙ stops.0))
  chain_agrees zero (x ∷ all) s o (suc m) i h stops same le =
      let f = first_of_chain x all s o h in
      let g = begins x s f.0 f.1 in absurd (none_left g.0 i (sym (same_told test m s i same) ∙ g.1) le)
  chain_agrees (suc n) (x ∷ all) s o (suc m) i h stops same le =
      let f = first_of_chain x all s o h in
      let g = begins x s f.0 f.1 in
      chain_some n (told test i) g.0 (x ∷ all) (suc m) i (sym (same_told test m s i same) ∙ g.1)
      (agrees_map Bad Bad (λ x. x) (λ x h. h) (λ (v : A × List A). nests v.0 ++ each_depths nests v.1) (each_depths nests) cons (λ v. sym (map_same (nests v.0 ++ each_depths nests v.1)))
      (x, all) (x ∷ all) (suc m) i ((p ▷ others n) i) refl
      (agrees_pair Bad nests (each_depths nests) S moved depth (others n) x all s f.0 (suc m) i (p i) f.1 same (r.sound i)
      (r.agrees x s f.0 (suc m) i f.1 (chain_stops_at all f.0 o f.3 stops) same)
      (λ y j read. others_placed_by n (is_last y) j (chain_placed n j))
      (λ j read shared. others_agree n (is_last x) all (suc m - length (nests x)) j f.2
      (chain_agrees n all f.0 o (suc m - length (nests x)) j f.3 stops shared (omega (arith, moved.count x i j read, grows x i j read))))))

  pub chain_reader : IsReader Bad depth (Chain is_last S) (Chain is_last S) (each_depths nests) ChainStops (chain test is_last p)
  chain_reader = record {
    sound = λ i. chain_sound (length i) i;
    placed = λ i. chain_placed (length i) i;
    agrees = λ all s o m i h stops same. chain_agrees (length i) all s o m i h stops same (omega arith);
  }
