-- The longest expression at the front of tokens.
use Rattle.std.proofs.Common.{◌≡◌, ℕ, zero, suc, ◌+◌, ◌-◌, ◌<◌, ◌≤◌, List, [], ◌∷◌, ◌++◌, length, take, drop, Option, Some, None, Ok, Err, ◌⊎◌, inl, inr, refl, sym, ◌∙◌, ap, subst, append-nil, length-append, length-drop, arith}
use Rattle.std.proofs.lemmas.List.{take-append-drop}
use Rattle.std.proofs.Math.Seq.{take-append_seam}
use Rattle.sv_outside.specs.declared.text.Token.{Token}
use Rattle.sv_tree.specs.declared.exprs.Expr.{Expr}
use Rattle.sv_tree.specs.GrammarExprs.{Spells}
use Rattle.sv_tree.specs.Nesting.{expr_depths, IsOverAt, IsTooDeep}
use Rattle.sv_tree.proofs.Framed.{frame}
use Rattle.sv_cursor.specs.declared.error.ParseErr.{ParseErr}
use Rattle.sv_cursor.specs.declared.error.ParseErr.TheVariants.{Memory, Syntax, TooDeep}
use Rattle.sv_cursor.specs.declared.sort.Mark.TheVariants as mark_name
use Rattle.sv_cursor.specs.Parsers.{Outcome, Reads, told}
use Rattle.sv_cursor.specs.Tests.{mark_test}
use Rattle.sv_cursor.proofs.Readers.{Agrees, Placed}
use Rattle.sv_expr_reader.specs.Reading.{expr}
use Rattle.sv_expr_reader.specs.Answers.{IsSpelled, Decides}
use Rattle.sv_expr_parser.specs.Parsed.{IsSpelledBy, NoneBeyond, NoneGoesOn, IsFront, RefusesFront, IsLongest, Refuses}
use Rattle.sv_expr_parser.specs.Ends.{CanEnd, all_after, nothing_open, ended}
use Rattle.sv_expr_words.specs.Signs.{select_test, joiner_test, strength_of}
use Rattle.sv_expr_reader.proofs.Tokens.{Bad, Stops, moved_expr}
use Rattle.sv_expr_parser.proofs.Endings.{can_end}
use Rattle.sv_expr_reader.proofs.Heights.{short}
use Rattle.sv_expr_reader.proofs.Laws.{expr_reader, decides, stops_at_end, bad_over}

-- ---- a front of the tokens

drop_seam : (u j : List Token) → drop (length u) (u ++ j) ≡ j
drop_seam [] j = refl
drop_seam (a ∷ u) j = drop_seam u j

take_less : (n m : ℕ) (i : List Token) → n ≤ m → take n (take m i) ≡ take n i
take_less zero m i le = refl
take_less (suc n) zero i le = absurd (omega arith)
take_less (suc n) (suc m) [] le = refl
take_less (suc n) (suc m) (a ∷ i) le = ap (λ l. a ∷ l) (take_less n m i (omega arith))

front_of : (x : Expr) (i j : List Token) → Spells 0 x i j → IsSpelledBy x i (length i - length j)
front_of x i j h =
    let f = frame x 0 i j h in
    let len : length i - length j ≡ length f.0 = omega (arith, ap length f.1, length-append f.0 j) in
    subst (λ n. IsSpelledBy x i n) (sym len) (subst (λ l. IsSpelledBy x l (length f.0)) (sym f.1)
    (subst (λ v. IsSpelled x v) (sym (take-append_seam f.0 j)) (subst (λ v. Spells 0 x v []) (append-nil f.0) (f.3 []))))

goes_on : (y : Expr) (i : List Token) (n : ℕ) → IsSpelledBy y i n → Spells 0 y i (drop n i)
goes_on y i n h =
    let f = frame y 0 (take n i) [] h in
    subst (λ v. Spells 0 y v (drop n i)) (ap (λ v. v ++ drop n i) (sym (f.1 ∙ append-nil f.0)) ∙ take-append-drop n i) (f.3 (drop n i))

rest_of : (x : Expr) (i j : List Token) → Spells 0 x i j → (length j ≤ length i) × (drop (length i - length j) i ≡ j)
rest_of x i j h =
    let f = frame x 0 i j h in
    let len : length i - length j ≡ length f.0 = omega (arith, ap length f.1, length-append f.0 j) in
    (omega (arith, ap length f.1, length-append f.0 j), ap (λ n. drop n i) len ∙ (ap (drop (length f.0)) f.1 ∙ drop_seam f.0 j))

found : (i : List Token) (x : Expr) (j : List Token) → Decides i (Ok (x, j)) → IsLongest i (Ok (x, length i - length j))
found i x j d =
    let r = rest_of x i j d.0 in (
      omega arith,
      front_of x i j d.0,
      λ y h. d.1 y (subst (Spells 0 y i) r.1 (goes_on y i (length i - length j) h)),
      λ y n le h. let a = d.2 y (drop n i) (goes_on y i n h) in omega (arith, r.0, length-drop n i),
    )

pub read_longest : (x : Expr) (i j : List Token) → expr 201 0 i ≡ Ok (x, j) → IsLongest i (Ok (x, length i - length j))
read_longest x i j e = found i x j (subst (Decides i) e (decides i))

pub left_less : (x : Expr) (i j : List Token) → expr 201 0 i ≡ Ok (x, j) → length j ≤ length i
left_less x i j e = (rest_of x i j (subst (Decides i) e (decides i)).0).0

-- where a refusal for depth stands
deep_inside : (i : List Token) (deep left : ℕ) → expr 201 0 i ≡ Err (TooDeep deep left) → deep ≤ length i
deep_inside i deep left e = let p = subst (Placed 201 i) e ((expr_reader 201 0 (omega arith)).placed i) in omega (arith, p.0, p.1, p.2, p.3)

-- an expression behind which none goes on is not passed
stops_of : (o : List Token) → NoneGoesOn o → Stops 0 o
stops_of o h = (h.0, h.1, omega (arith, ap strength_of h.2))

no_end : (w : List Token) (deep left : ℕ) → expr 201 0 w ≡ Err (TooDeep deep left) → (y : Expr) (n : ℕ) → n ≤ length w → IsSpelledBy y w n → NoneGoesOn (drop n w) → IsOverAt (expr_depths y) (length w - deep)
no_end w deep left e y n le h stops =
    let a = subst (Agrees (Bad 201) expr_depths y (length w + 1) w) e ((expr_reader 201 0 (omega arith)).agrees y w (drop n w) (length w + 1) w (goes_on y w n h) (stops_of (drop n w) stops) refl) in
    bad_over (expr_depths y) (length w - deep) (a (omega arith))

-- the token behind the first n of the first m
shorter_told : {A : Type 0} (test : Token → Option A) (n m : ℕ) (i : List Token) → n ≤ m → told test (drop n i) ≡ None → told test (drop n (take m i)) ≡ None
shorter_told test zero zero i le h = refl
shorter_told test zero (suc m) [] le h = refl
shorter_told test zero (suc m) (a ∷ i) le h = h
shorter_told test (suc n) zero i le h = absurd (omega arith)
shorter_told test (suc n) (suc m) [] le h = refl
shorter_told test (suc n) (suc m) (a ∷ i) le h = shorter_told test n m i (omega arith) h

shorter_end : (n m : ℕ) (i : List Token) → n ≤ m → NoneGoesOn (drop n i) → NoneGoesOn (drop n (take m i))
shorter_end n m i le h = (shorter_told (mark_test mark_name.Tick) n m i le h.0, shorter_told select_test n m i le h.1, shorter_told joiner_test n m i le h.2)

refused : (i : List Token) (z : ParseErr) → expr 201 0 i ≡ Err z → Refuses i z
refused i (Syntax left) e =
    let d = subst (Decides i) e (decides i) in
    (d.0, e, record { none = λ y n le h. let a = d.1 y (drop n i) (goes_on y i n h) in omega (arith, length-drop n i) })
refused i (TooDeep deep left) e = (deep_inside i deep left e, subst (Decides i) e (decides i), record { none = λ y n le h stops. no_end i deep left e y n le h stops })
refused i Memory e = tt

pub refuses : (i : List Token) (z : ParseErr) (new : List Token) → Reads {A = Expr} (expr 201 0 i) (Err z) new → Refuses i z
refuses i (Syntax left) new h = refused i (Syntax left) (h (λ e. cc))
refuses i (TooDeep deep left) new h = refused i (TooDeep deep left) (h (λ e. cc))
refuses i Memory new h = tt

-- ---- all of a front

none_longer : (w : List Token) (x y : Expr) (j : List Token) → Decides w (Ok (x, j)) → 0 < length j → IsSpelled y w → ⊥
none_longer w x y j d some h = let a = d.2 y [] h in omega arith

by_refusal : (w : List Token) (y : Expr) (left : ℕ) (r : Outcome Expr) → r ≡ Err (Syntax left) → Agrees (Bad 201) expr_depths y (length w + 1) w r → left ≤ length w → ⊥
by_refusal w y left r e h le = let g = subst (Agrees (Bad 201) expr_depths y (length w + 1) w) e h in omega arith

none_refused : (w : List Token) (left : ℕ) → expr 201 0 w ≡ Err (Syntax left) → (y : Expr) → IsSpelled y w → ⊥
none_refused w left e y h =
    let d = subst (Decides w) e (decides w) in
    by_refusal w y left (expr 201 0 w) e ((expr_reader 201 0 (omega arith)).agrees y w [] (length w + 1) w h stops_at_end refl) d.0

take_length : (m : ℕ) (i : List Token) → m ≤ length i → length (take m i) ≡ m
take_length zero i le = refl
take_length (suc m) [] le = absurd (omega arith)
take_length (suc m) (a ∷ i) le = ap suc (take_length m i (omega arith))

no_rest : (j : List Token) → length j ≡ 0 → j ≡ []
no_rest [] e = refl
no_rest (a ∷ j) e = absurd (omega arith)

module _ (i : List Token) (m : ℕ) (le : m ≤ length i) where
  pub front_whole : (x : Expr) (j : List Token) → expr 201 0 (take m i) ≡ Ok (x, j) → length j ≡ 0 → IsFront i m (Ok (Some x))
  front_whole x j e none =
      let d = subst (Decides (take m i)) e (decides (take m i)) in
      let f = no_rest j none in
      (subst (Spells 0 x (take m i)) f d.0, λ y h. d.1 y (subst (Spells 0 y (take m i)) (sym f) h))

  pub front_part : (x : Expr) (j : List Token) → expr 201 0 (take m i) ≡ Ok (x, j) → 0 < length j → IsFront i m (Ok None)
  front_part x j e some = λ y h. none_longer (take m i) x y j (subst (Decides (take m i)) e (decides (take m i))) some h

  lower : (k : ℕ) → IsTooDeep IsSpelled expr_depths (take m i) k → IsTooDeep IsSpelled expr_depths i k
  lower k h =
      let len = take_length m i le in
      (h.0, h.1, h.2, omega (arith, h.3, len), λ y spelling s same. h.4 y spelling s (same ∙ sym (take_less (h.0 + 1) m i (omega (arith, h.3, len)))))

  refuses_deep : (deep left : ℕ) → expr 201 0 (take m i) ≡ Err (TooDeep deep left) → RefusesFront i m (TooDeep deep left)
  refuses_deep deep left e =
      let len = take_length m i le in
      let inside = deep_inside (take m i) deep left e in
      let same : length (take m i) - deep ≡ length i - (deep + (length i - m)) = omega (arith, len, inside) in (
        omega (arith, len, inside),
        subst (IsTooDeep IsSpelled expr_depths i) same (lower (length (take m i) - deep) (subst (Decides (take m i)) e (decides (take m i)))),
        record {
          none = λ y n small h stops.
              subst (IsOverAt (expr_depths y)) same
              (no_end (take m i) deep left e y n (omega (arith, len)) (subst (IsSpelled y) (sym (take_less n m i small)) h) (shorter_end n m i small stops));
        },
      )

  pub refuses_front : (z : ParseErr) (new : List Token) → Reads {A = Expr} (expr 201 0 (take m i)) (Err z) new → RefusesFront i m z
  refuses_front (Syntax left) new h = none_refused (take m i) left (h (λ e. cc))
  refuses_front (TooDeep deep left) new h = refuses_deep deep left (h (λ e. cc))
  refuses_front Memory new h = tt

  pub longest_found : (x : Expr) → NoneBeyond i m → IsFront i m (Ok (Some x)) → IsLongest i (Ok (x, m))
  longest_found x h d = (le, d.0, d.1, h.none)

  -- what a refusal of the first m says of all, where no expression takes more
  pub front_refuses : (z : ParseErr) → NoneBeyond i m → IsFront i m (Err z) → IsLongest i (Err z)
  front_refuses (Syntax left) h f = absurd f
  front_refuses (TooDeep deep left) h f = (f.0, f.1, record { none = λ y n small g stops. f.2.none y n (h.none y n small g) g stops })
  front_refuses Memory h f = tt

-- ---- shorter fronts, one by one

at_most : (y : Expr) (n m : ℕ) (i : List Token) → IsSpelledBy y i n → ((y : Expr) → IsSpelledBy y i m → ⊥) → (n ≡ m) ⊎ (n ≤ m - 1) → n ≤ m - 1
at_most y n m i g d (inl e) = absurd (d y (subst (λ n. IsSpelledBy y i n) e g))
at_most y n m i g d (inr le) = le

last_or_less : (n m : ℕ) → n ≤ m → (n ≡ m) ⊎ (n ≤ m - 1)
last_or_less n m le = grind arith

pub one_less : (i : List Token) (m : ℕ) → NoneBeyond i m → IsFront i m (Ok None) → NoneBeyond i (m - 1)
one_less i m h d = record { none = λ y n small g. at_most y n m i g d (last_or_less n m (h.none y n small g)) }

pub up_to_end : (i : List Token) (m e : ℕ) → m ≤ length i → NoneBeyond i m → ((n : ℕ) → n ≤ length (take m i) → CanEnd (take m i) n → n ≤ e) → NoneBeyond i e
up_to_end i m e le h last = record {
  none = λ y n small g.
      let nm : n ≤ m = h.none y n small g in
      last n (omega (arith, take_length m i le)) (subst (λ v. all_after nothing_open v ≡ ended nothing_open) (sym (take_less n m i nm)) (can_end y i n g));
}

empty : (y : Expr) (n : ℕ) (i : List Token) → n ≤ 0 → IsSpelledBy y i n → ⊥
empty y zero i le g = let c = (moved_expr 0).count y (take 0 i) [] g in omega (arith, c, short y)
empty y (suc n) i le g = absurd (omega arith)

pub none_at_all : (i : List Token) (m left : ℕ) → m ≤ 0 → NoneBeyond i m → Refuses i (Syntax left) → IsLongest i (Err (Syntax left))
none_at_all i m left le h r = (r.0, r.1, record { none = λ y n small g. empty y n i (omega (arith, h.none y n small g)) g })
