-- What is printed, piece by piece.
use Rattle.std.proofs.Common.{◌≡◌, ◌≢◌, ◌↔◌, IsTrue, ℕ, zero, suc, ◌+◌, ◌<◌, ◌≤◌, ◌/◌, ◌%◌, Bool, true, false, List, [], ◌∷◌, ◌++◌, length, map, reverse, take, drop, get_or, All, OnOk, Result, Ok, Err, bytes_eq, inl, inr, ◌⊎◌, refl, sym, ap, ◌∙◌, append_assoc, append-nil, arith}
use Rattle.std.specs.Prelude.{◌==◌, Some, None, if◌then◌else◌}
use Rattle.std.specs.List.{flat_map, slice_get}
use Rattle.std.specs.Cmp.Lexicographic.{bytes_decides}
use Rattle.std.proofs.lemmas.Bool.{true≢false, ne_eqb, eq-eqb, false_from_ne_true}
use Rattle.std.proofs.lemmas.List.Elements.{All-same}
use Rattle.std.proofs.lemmas.List.{take_all, at_drop_more, at_drop_all, drop_all, reverse-reverse}
use Rattle.std.proofs.lemmas.Option.{slice_get_cases}
use Rattle.fourvec.specs.declared.Bit.{Bit}
use Rattle.fourvec.specs.declared.Bit.TheVariants.{Zero, One, Unknown, Floating}
use Rattle.sv_outside.specs.declared.text.Signal.{Signal}
use Rattle.vcd_text.specs.Words.{Text}
use Rattle.vcd_print.specs.Printed.{code_from, code_of, scopes_of, name_of, IsCut, scope_line, upscope_line, closed, moved, var_line, opened, wire_lines, declared, digit, digits_of, is_same, changed_line, lines_since}
use Rattle.vcd_print.proofs.Paths.{cut_scopes, cut_name, uncut_scopes, uncut_name}

-- a piece more of what is left
pub more_pushed : (text pushed line rest whole : Text) → pushed ≡ text ++ line → text ++ (line ++ rest) ≡ whole → pushed ++ rest ≡ whole
more_pushed text pushed line rest whole is so_far = ap (λ t. t ++ rest) is ∙ append_assoc text line rest ∙ so_far

-- ---- codes

code_tail : (b : Bool) (x y : Text) → (b ≡ false → x ≡ y) → (if b then [] else x) ≡ (if b then [] else y)
code_tail true x y h = refl
code_tail false x y h = h refl

some_left : (n : ℕ) → (n == 0) ≡ false → 0 < n
some_left zero e = absurd (true≢false e)
some_left (suc n) e = omega arith

code_any : (f g n : ℕ) → n < f → n < g → code_from f n ≡ code_from g n
unfolding code_from
code_any zero g n h k = absurd (omega (arith, h))
code_any (suc f) zero n h k = absurd (omega (arith, k))
code_any (suc f) (suc g) n h k =
    ap (λ t. (33 + n % 94) ∷ t)
    (code_tail (n / 94 == 0) (code_from f (n / 94)) (code_from g (n / 94))
    (λ some. code_any f g (n / 94) (omega (arith, h, some_left (n / 94) some)) (omega (arith, k, some_left (n / 94) some))))

-- what is left of a code
abbrev pub code_rest : ℕ → Text
code_rest n = if n == 0 then [] else code_of n

pub code_first : (n : ℕ) → code_of n ≡ (33 + n % 94) ∷ code_rest (n / 94)
unfolding code_from
code_first n =
    ap (λ t. (33 + n % 94) ∷ t)
    (code_tail (n / 94 == 0) (code_from n (n / 94)) (code_of (n / 94)) (λ some. code_any n (suc (n / 94)) (n / 94) (omega (arith, some_left (n / 94) some)) (omega arith)))

pub code_more : (n : ℕ) → 0 < n → code_rest n ≡ (33 + n % 94) ∷ code_rest (n / 94)
code_more n h = ap (λ b. if b then [] else code_of n) (ne_eqb n 0 (λ e. omega (arith, e, h))) ∙ code_first n

-- ---- scopes

pub closed_more : (path part rest : Text) → IsCut path part rest → closed (length (scopes_of path)) ≡ upscope_line ++ closed (length (scopes_of rest))
unfolding closed
closed_more path part rest c = ap (λ l. closed (length l)) (cut_scopes path part rest c)

pub closed_none : (path : Text) → All (λ b. b ≢ 46) path → closed (length (scopes_of path)) ≡ []
unfolding closed
closed_none path h = ap (λ l. closed (length l)) (uncut_scopes path h)

pub opened_more : (n width : ℕ) (path part rest : Text) → IsCut path part rest → opened n width path ≡ scope_line part ++ opened n width rest
opened_more n width path part rest c =
    ap (λ l. flat_map scope_line l ++ var_line n width (name_of path)) (cut_scopes path part rest c) ∙ append_assoc (scope_line part) (flat_map scope_line (scopes_of rest)) (var_line n width (name_of path))
    ∙ ap (λ x. scope_line part ++ (flat_map scope_line (scopes_of rest) ++ var_line n width x)) (cut_name path part rest c)

pub opened_none : (n width : ℕ) (path : Text) → All (λ b. b ≢ 46) path → opened n width path ≡ var_line n width path
opened_none n width path h =
    ap (λ l. flat_map scope_line l ++ var_line n width (name_of path)) (uncut_scopes path h) ∙ ap (var_line n width) (uncut_name path h)

pub moved_same : (held path a b more rest : Text) → IsCut held a more → IsCut path b rest → bytes_eq a b ≡ true → moved (scopes_of held) (scopes_of path) ≡ moved (scopes_of more) (scopes_of rest)
unfolding moved
moved_same held path a b more rest c d e =
    ap (λ l. moved l (scopes_of path)) (cut_scopes held a more c) ∙ ap (moved (a ∷ scopes_of more)) (cut_scopes path b rest d)
    ∙ ap (λ v. if v then moved (scopes_of more) (scopes_of rest) else closed (length (a ∷ scopes_of more)) ++ flat_map scope_line (b ∷ scopes_of rest)) e

pub moved_other : (held path a b more rest : Text) → IsCut held a more → IsCut path b rest → bytes_eq a b ≡ false
    → moved (scopes_of held) (scopes_of path) ≡ closed (length (scopes_of held)) ++ flat_map scope_line (scopes_of path)
unfolding moved
moved_other held path a b more rest c d e =
    ap (λ l. moved l (scopes_of path)) (cut_scopes held a more c) ∙ ap (moved (a ∷ scopes_of more)) (cut_scopes path b rest d)
    ∙ ap (λ v. if v then moved (scopes_of more) (scopes_of rest) else closed (length (a ∷ scopes_of more)) ++ flat_map scope_line (b ∷ scopes_of rest)) e
    ∙ ap (λ l. closed (length l) ++ flat_map scope_line (b ∷ scopes_of rest)) (sym (cut_scopes held a more c))
    ∙ ap (λ l. closed (length (scopes_of held)) ++ flat_map scope_line l) (sym (cut_scopes path b rest d))

moved_nil : (held : List Text) → moved held [] ≡ closed (length held) ++ []
unfolding moved
moved_nil [] = refl
moved_nil (a ∷ held) = refl

pub moved_no_path : (held path : Text) → All (λ b. b ≢ 46) path → moved (scopes_of held) (scopes_of path) ≡ closed (length (scopes_of held)) ++ flat_map scope_line (scopes_of path)
moved_no_path held path h =
    ap (moved (scopes_of held)) (uncut_scopes path h) ∙ moved_nil (scopes_of held) ∙ ap (λ l. closed (length (scopes_of held)) ++ flat_map scope_line l) (sym (uncut_scopes path h))

pub moved_no_open : (held path : Text) → All (λ b. b ≢ 46) held → moved (scopes_of held) (scopes_of path) ≡ closed (length (scopes_of held)) ++ flat_map scope_line (scopes_of path)
unfolding moved
moved_no_open held path h = ap (λ l. moved l (scopes_of path)) (uncut_scopes held h) ∙ ap (λ l. closed (length l) ++ flat_map scope_line (scopes_of path)) (sym (uncut_scopes held h))

-- ---- wires

pub wire_pushed : (text closing opening : Text) (held path over left : Text) (n width : ℕ)
    → moved (scopes_of held) (scopes_of path) ≡ closed (length (scopes_of over)) ++ flat_map scope_line (scopes_of left) → name_of path ≡ name_of left
    → closing ≡ text ++ closed (length (scopes_of over)) → opening ≡ closing ++ opened n width left
    → opening ≡ text ++ (moved (scopes_of held) (scopes_of path) ++ var_line n width (name_of path))
wire_pushed text closing opening held path over left n width moves name closes opens =
    opens ∙ ap (λ t. t ++ opened n width left) closes ∙ append_assoc text (closed (length (scopes_of over))) (opened n width left)
    ∙ ap (λ t. text ++ t) (sym (append_assoc (closed (length (scopes_of over))) (flat_map scope_line (scopes_of left)) (var_line n width (name_of left))))
    ∙ ap (λ t. text ++ (t ++ var_line n width (name_of left))) (sym moves) ∙ ap (λ x. text ++ (moved (scopes_of held) (scopes_of path) ++ var_line n width x)) (sym name)

pub declared_more : (held : Text) (n i : ℕ) (wires : List Signal) (w : Signal) → i < length wires → w ≡ get_or wires i w
    → declared held n (drop i wires) ≡ wire_lines held n w ++ declared w.path (n + 1) (drop (i + 1) wires)
unfolding declared
declared_more held n i wires w within is = at_drop_more (declared held n) wires i w within ∙ ap (λ x. declared held n (x ∷ drop (i + 1) wires)) (sym is)

pub declared_end : (held : Text) (n i : ℕ) (wires : List Signal) → length wires ≤ i → declared held n (drop i wires) ≡ closed (length (scopes_of held))
unfolding declared
declared_end held n i wires over = at_drop_all (declared held n) wires i over

-- ---- values

pub lines_more : (n i : ℕ) (before values : List (List Bit)) (v : List Bit) → i < length values
    → lines_since n (drop i before) (drop i values) ≡ changed_line n (slice_get before i) (get_or values i v) ++ lines_since (n + 1) (drop (i + 1) before) (drop (i + 1) values)
unfolding lines_since
lines_more n i before values v h =
    at_drop_more (lines_since n (drop i before)) values i v h ∙ by_case (slice_get_cases before i).1
  where
    by_case : ((u : List Bit) × (i < length before) × (slice_get before i ≡ Some u) × (get_or before i u ≡ u)) ⊎ ((length before ≤ i) × (slice_get before i ≡ None))
        → lines_since n (drop i before) (get_or values i v ∷ drop (i + 1) values)
        ≡ changed_line n (slice_get before i) (get_or values i v) ++ lines_since (n + 1) (drop (i + 1) before) (drop (i + 1) values)
    by_case (inl x) =
        at_drop_more (λ l. lines_since n l (get_or values i v ∷ drop (i + 1) values)) before i x.0 x.1
        ∙ ap (λ o. changed_line n o (get_or values i v) ++ lines_since (n + 1) (drop (i + 1) before) (drop (i + 1) values)) (ap (λ u. Some u) x.3 ∙ sym x.2)
    by_case (inr x) =
        at_drop_all (λ l. lines_since n l (get_or values i v ∷ drop (i + 1) values)) before i x.0
        ∙ ap (λ l. changed_line n None (get_or values i v) ++ lines_since (n + 1) l (drop (i + 1) values)) (sym (drop_all (i + 1) before (omega (arith, x.0))))
        ∙ ap (λ o. changed_line n o (get_or values i v) ++ lines_since (n + 1) (drop (i + 1) before) (drop (i + 1) values)) (sym x.1)

pub lines_end : (n i : ℕ) (before values : List (List Bit)) → length values ≤ i → lines_since n (drop i before) (drop i values) ≡ []
unfolding lines_since
lines_end n i before values h = at_drop_all (lines_since n (drop i before)) values i h

same_digit : (a b : Bit) → digit a ≡ digit b → a ≡ b
same_digit Zero Zero e = refl
same_digit One One e = refl
same_digit Unknown Unknown e = refl
same_digit Floating Floating e = refl
same_digit Zero One e = absurd (omega (arith, e))
same_digit Zero Unknown e = absurd (omega (arith, e))
same_digit Zero Floating e = absurd (omega (arith, e))
same_digit One Zero e = absurd (omega (arith, e))
same_digit One Unknown e = absurd (omega (arith, e))
same_digit One Floating e = absurd (omega (arith, e))
same_digit Unknown Zero e = absurd (omega (arith, e))
same_digit Unknown One e = absurd (omega (arith, e))
same_digit Unknown Floating e = absurd (omega (arith, e))
same_digit Floating Zero e = absurd (omega (arith, e))
same_digit Floating One e = absurd (omega (arith, e))
same_digit Floating Unknown e = absurd (omega (arith, e))

same_digits : (u v : List Bit) → map digit u ≡ map digit v → u ≡ v
same_digits [] [] e = refl
same_digits [] (b ∷ v) e = cc
same_digits (a ∷ u) [] e = cc
same_digits (a ∷ u) (b ∷ v) e =
    let first : digit a ≡ digit b = cc in
    let rest : map digit u ≡ map digit v = cc in
    let heads : a ≡ b = same_digit a b first in
    let tails : u ≡ v = same_digits u v rest in
    ap (λ x. x ∷ u) heads ∙ ap (λ x. b ∷ x) tails

pub same_values : (u v : List Bit) → digits_of u ≡ digits_of v → u ≡ v
same_values u v e = sym (reverse-reverse u) ∙ ap reverse (same_digits (reverse u) (reverse v) e) ∙ reverse-reverse v

pub same_told : (r : Bool) (u v : List Bit) → (IsTrue r ↔ (u ≡ v)) → r ≡ is_same u v
same_told r u v h = by_case r refl (is_same u v) refl
  where
    by_case : (a : Bool) → r ≡ a → (b : Bool) → is_same u v ≡ b → r ≡ is_same u v
    by_case true e true f = e ∙ sym f
    by_case false e false f = e ∙ sym f
    by_case true e false f = let no : false ≡ true = sym f ∙ (bytes_decides (digits_of u) (digits_of v)).1 (ap digits_of (h.0 e)) in cc
    by_case false e true f = let no : false ≡ true = sym e ∙ h.1 (same_values u v ((bytes_decides (digits_of u) (digits_of v)).0 f)) in cc

-- vectors of other widths differ
pub same_long : (u v : List Bit) → (length u == length v) ≡ false → is_same u v ≡ false
same_long u v other =
    false_from_ne_true (is_same u v) (λ same. let no : true ≡ false = sym (eq-eqb (length u) (length v) (ap length (same_values u v ((bytes_decides (digits_of u) (digits_of v)).0 same)))) ∙ other in cc)

-- ---- steps of the loops

pub code_begun : (text pushed : Text) (n d rest : ℕ) → pushed ≡ text ++ d ∷ [] → d ≡ 33 + n % 94 → rest ≡ n / 94 → pushed ++ code_rest rest ≡ text ++ code_of n
code_begun text pushed n d rest is digit_is rest_is =
    ap (λ t. t ++ code_rest rest) is ∙ append_assoc text (d ∷ []) (code_rest rest) ∙ (λ i. text ++ (digit_is i ∷ code_rest (rest_is i))) ∙ ap (λ t. text ++ t) (sym (code_first n))

pub code_on : (text pushed whole : Text) (n d rest : ℕ) → 0 < n → pushed ≡ text ++ d ∷ [] → d ≡ 33 + n % 94 → rest ≡ n / 94 → text ++ code_rest n ≡ whole → pushed ++ code_rest rest ≡ whole
code_on text pushed whole n d rest some is digit_is rest_is so_far =
    ap (λ t. t ++ code_rest rest) is ∙ append_assoc text (d ∷ []) (code_rest rest) ∙ (λ i. text ++ (digit_is i ∷ code_rest (rest_is i))) ∙ ap (λ t. text ++ t) (sym (code_more n some)) ∙ so_far

pub code_over : (text whole : Text) (n : ℕ) → n ≡ 0 → text ++ code_rest n ≡ whole → text ≡ whole
code_over text whole n none so_far = sym (append-nil text) ∙ ap (λ k. text ++ code_rest k) (sym none) ∙ so_far

pub close_on : (text pushed whole path part rest : Text) → IsCut path part rest → pushed ≡ text ++ upscope_line → text ++ closed (length (scopes_of path)) ≡ whole
    → pushed ++ closed (length (scopes_of rest)) ≡ whole
close_on text pushed whole path part rest c is so_far =
    more_pushed text pushed upscope_line (closed (length (scopes_of rest))) whole is (ap (λ t. text ++ t) (sym (closed_more path part rest c)) ∙ so_far)

pub close_over : (text whole path : Text) → All (λ b. b ≢ 46) path → text ++ closed (length (scopes_of path)) ≡ whole → text ≡ whole
close_over text whole path h so_far = sym (append-nil text) ∙ ap (λ t. text ++ t) (sym (closed_none path h)) ∙ so_far

pub open_on : (text pushed whole path part rest : Text) (n width : ℕ) → IsCut path part rest → pushed ≡ text ++ scope_line part → text ++ opened n width path ≡ whole → pushed ++ opened n width rest ≡ whole
open_on text pushed whole path part rest n width c is so_far =
    more_pushed text pushed (scope_line part) (opened n width rest) whole is (ap (λ t. text ++ t) (sym (opened_more n width path part rest c)) ∙ so_far)

pub open_over : (text pushed whole path : Text) (n width : ℕ) → All (λ b. b ≢ 46) path → pushed ≡ text ++ var_line n width path → text ++ opened n width path ≡ whole → pushed ≡ whole
open_over text pushed whole path n width h is so_far = is ∙ ap (λ t. text ++ t) (sym (opened_none n width path h)) ∙ so_far

pub wire_on : (text pushed whole held : Text) (n i next : ℕ) (wires : List Signal) (w : Signal) → i < length wires → w ≡ get_or wires i w → next ≡ n + 1
    → pushed ≡ text ++ wire_lines held n w → text ++ declared held n (drop i wires) ≡ whole → pushed ++ declared w.path next (drop (i + 1) wires) ≡ whole
wire_on text pushed whole held n i next wires w within is_w next_is is so_far =
    ap (λ k. pushed ++ declared w.path k (drop (i + 1) wires)) next_is
    ∙ more_pushed text pushed (wire_lines held n w) (declared w.path (n + 1) (drop (i + 1) wires)) whole is (ap (λ t. text ++ t) (sym (declared_more held n i wires w within is_w)) ∙ so_far)

pub wires_over : (text pushed whole held : Text) (n i : ℕ) (wires : List Signal) → length wires ≤ i → pushed ≡ text ++ closed (length (scopes_of held)) → text ++ declared held n (drop i wires) ≡ whole → pushed ≡ whole
wires_over text pushed whole held n i wires over is so_far = is ∙ ap (λ t. text ++ t) (sym (declared_end held n i wires over)) ∙ so_far

pub since_on : (text pushed whole : Text) (n i next : ℕ) (before values : List (List Bit)) (v : List Bit) → i < length values → next ≡ n + 1
    → pushed ≡ text ++ changed_line n (slice_get before i) (get_or values i v) → text ++ lines_since n (drop i before) (drop i values) ≡ whole
    → pushed ++ lines_since next (drop (i + 1) before) (drop (i + 1) values) ≡ whole
since_on text pushed whole n i next before values v h next_is is so_far =
    ap (λ k. pushed ++ lines_since k (drop (i + 1) before) (drop (i + 1) values)) next_is
    ∙ more_pushed text pushed (changed_line n (slice_get before i) (get_or values i v)) (lines_since (n + 1) (drop (i + 1) before) (drop (i + 1) values)) whole is
    (ap (λ t. text ++ t) (sym (lines_more n i before values v h)) ∙ so_far)

pub since_over : (text whole : Text) (n i : ℕ) (before values : List (List Bit)) → length values ≤ i → text ++ lines_since n (drop i before) (drop i values) ≡ whole → text ≡ whole
since_over text whole n i before values over so_far = sym (append-nil text) ∙ ap (λ t. text ++ t) (sym (lines_end n i before values over)) ∙ so_far

-- ---- texts put behind one another

pub on_ok : {A E : Type 0} (r : Result A E) (P Q : Type 0) → (P → Q) → OnOk r P → OnOk r Q
on_ok (Ok x) P Q f h = f h
on_ok (Err e) P Q f h = tt

pub always : {A E : Type 0} (r : Result A E) (P : Type 0) → P → OnOk r P
always (Ok x) P h = h
always (Err e) P h = tt

-- what holds of each of all that was gone over
pub all_over : {A : Type 0} (P : A → Type 0) (i : ℕ) (xs : List A) → length xs ≤ i → All P (take i xs) → All P xs
all_over P i xs over h = All-same P xs (take i xs) (sym (take_all i xs over)) h

pub three_pushed : (t a b c x y z : Text) → x ≡ t ++ a → y ≡ x ++ b → z ≡ y ++ c → z ≡ t ++ (a ++ (b ++ c))
three_pushed t a b c x y z e f g = g ∙ ap (λ s. s ++ c) (f ∙ ap (λ s. s ++ b) e) ∙ append_assoc (t ++ a) b c ∙ append_assoc t a (b ++ c)

pub four_pushed : (t a b c d x y z w : Text) → x ≡ t ++ a → y ≡ x ++ b → z ≡ y ++ c → w ≡ z ++ d → w ≡ t ++ (a ++ (b ++ (c ++ d)))
four_pushed t a b c d x y z w e f g h = three_pushed x b c d y z w f g h ∙ ap (λ s. s ++ (b ++ (c ++ d))) e ∙ append_assoc t a (b ++ (c ++ d))
