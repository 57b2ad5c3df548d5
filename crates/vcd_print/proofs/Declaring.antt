-- The declarations that are printed, as they are read again.
use Rattle.std.proofs.Common.{◌≡◌, ℕ, zero, suc, ◌+◌, ◌-◌, ◌*◌, ◌/◌, ◌%◌, ◌<◌, ◌≤◌, Bool, true, false, List, [], ◌∷◌, ◌++◌, length, take, codes, None, Some, All, bytes_eq, refl, sym, ap, ◌∙◌, subst, append_assoc, append-nil, length-append, arith}
use Rattle.std.specs.Prelude.{◌==◌, if◌then◌else◌}
use Rattle.std.specs.List.{flat_map, join_with_byte}
use Rattle.std.specs.Cmp.Lexicographic.{bytes_decides}
use Rattle.std.proofs.lemmas.Bool.{false_from_ne_true, ne_eqb, eqb-true, true≢false}
use Rattle.std.proofs.lemmas.List.{take-take, take_all, take_at, length-take}
use Rattle.std.proofs.lemmas.List.Elements.{All-head, All-tail}
use Rattle.std.proofs.lemmas.List.Splits.{join_with_byte-slice_split, length-slice_split}
use Rattle.sv_outside.specs.declared.text.Signal.{Signal}
use Rattle.vcd_text.specs.declared.waves.VcdVar.{VcdVar}
use Rattle.vcd_text.specs.declared.waves.VarKind.TheVariants.{Bits}
use Rattle.vcd_text.specs.Words.{Text}
use Rattle.vcd_text.specs.Waves.{Told, but_last, path_of, width_under}
use Rattle.vcd_print.specs.Printed.{code_from, code_of, is_dot, parts_of, scopes_of, last_of, name_of, scope_line, upscope_line, closed, moved, var_line, wire_lines, declared, declarations, line_end, IsPart, HasParts}
use Rattle.vcd_print.proofs.Lines.{OverTo, over_both, over_nothing, scope_over, upscope_over, timescale_over, ending_over}
use Rattle.vcd_print.proofs.Decimals.{var_over}

-- ---- codes are told apart

decode : Text → ℕ
decode [] = 0
decode (c ∷ t) = (c - 33) + 94 * decode t

positive : (m : ℕ) → (m == 0) ≡ false → 0 < m
positive zero e = absurd (true≢false e)
positive (suc m) e = omega arith

decode_from : (f n : ℕ) → n < f → decode (code_from f n) ≡ n
unfolding decode code_from
decode_from zero n h = absurd (omega (arith, h))
decode_from (suc f) n h = by_case (n / 94 == 0) refl (λ l. decode_from f (n / 94) l)
  where
    by_case : (b : Bool) → (n / 94 == 0) ≡ b → (n / 94 < f → decode (code_from f (n / 94)) ≡ n / 94) → (33 + n % 94 - 33) + 94 * decode (if n / 94 == 0 then [] else code_from f (n / 94)) ≡ n
    by_case true e more =
        let none : n / 94 ≡ 0 = eqb-true (n / 94) 0 e in
        let rest : decode (if n / 94 == 0 then [] else code_from f (n / 94)) ≡ 0 = ap (λ b. decode (if b then [] else code_from f (n / 94))) e in
        omega (arith, none, rest)
    by_case false e more =
        let rest : decode (if n / 94 == 0 then [] else code_from f (n / 94)) ≡ decode (code_from f (n / 94)) = ap (λ b. decode (if b then [] else code_from f (n / 94))) e in
        let below : n / 94 < f = omega (arith, h, positive (n / 94) e) in
        omega (arith, rest, more below)

pub codes_apart : (n m : ℕ) → (m ≡ n → ⊥) → bytes_eq (code_of m) (code_of n) ≡ false
codes_apart n m h =
    false_from_ne_true (bytes_eq (code_of m) (code_of n))
    (λ same. h (sym (decode_from (suc m) m (omega arith)) ∙ ap decode ((bytes_decides (code_of m) (code_of n)).0 same) ∙ decode_from (suc n) n (omega arith)))

-- ---- signals of wires

-- the signal of a wire, by its number
pub record IsVar (n : ℕ) (w : Signal) (v : VcdVar) : Type 0 where
  pub path : v.path ≡ codes "top." ++ w.path
  pub kind : v.kind ≡ Bits
  pub width : v.width ≡ w.width
  pub code : v.code ≡ code_of n

-- the signals of wires from this number on
abbrev pub AreVars : ℕ → List Signal → List VcdVar → Type 0
AreVars n [] [] = Unit {0}
AreVars n (w ∷ wires) (v ∷ vars) = IsVar n w v × AreVars (n + 1) wires vars
AreVars n [] (v ∷ vars) = ⊥
AreVars n (w ∷ wires) [] = ⊥

vars_more : (n m : ℕ) (wires : List Signal) (vars : List VcdVar) (w : Signal) (v : VcdVar) → AreVars n wires vars → m ≡ n + length wires → IsVar m w v → AreVars n (wires ++ w ∷ []) (vars ++ v ∷ [])
vars_more n m [] [] w v are e is = (subst (λ k. IsVar k w v) (let same : m ≡ n = omega (arith, e) in same) is, tt)
vars_more n m (x ∷ wires) (y ∷ vars) w v are e is = (are.0, vars_more (n + 1) m wires vars w v are.1 (omega (arith, e)) is)
vars_more n m [] (y ∷ vars) w v are e is = absurd are
vars_more n m (x ∷ wires) [] w v are e is = absurd are

code_free : (n m : ℕ) (wires : List Signal) (vars : List VcdVar) → AreVars n wires vars → n + length wires ≤ m → width_under vars (code_of m) ≡ None
unfolding width_under
code_free n m [] [] are h = refl
code_free n m (x ∷ wires) (y ∷ vars) are h =
    ap (λ b. if b then Some y.width else width_under vars (code_of m)) (ap (bytes_eq (code_of m)) are.0.code ∙ codes_apart n m (λ e. omega (arith, h, e)))
    ∙ code_free (n + 1) m wires vars are.1 (omega (arith, h))
code_free n m [] (y ∷ vars) are h = absurd are
code_free n m (x ∷ wires) [] are h = absurd are

-- ---- paths

abbrev dotted : List Text → Text
dotted scopes = flat_map (λ s. s ++ 46 ∷ []) scopes

abbrev EachPart : List Text → Type 0
EachPart [] = Unit {0}
EachPart (a ∷ more) = IsPart a × EachPart more

each_part : (parts : List Text) → All IsPart parts → EachPart parts
each_part [] h = tt
each_part (a ∷ parts) h = (All-head IsPart a parts h, each_part parts (All-tail IsPart a parts h))

-- all parts but the last are parts, and the last is one, and joined by dots they are all
record IsPath (parts : List Text) (path : Text) : Type 0 where
  scopes : EachPart (but_last parts)
  name : IsPart (last_of parts)
  joined : dotted (but_last parts) ++ last_of parts ≡ path

front_more : (a b : Text) (more : List Text) → but_last (a ∷ b ∷ more) ≡ a ∷ but_last (b ∷ more)
front_more a b more = let e : length (a ∷ b ∷ more) - 1 ≡ suc (length (b ∷ more) - 1) = omega arith in ap (λ n. take n (a ∷ b ∷ more)) e

front_one : (a : Text) → but_last (a ∷ []) ≡ []
front_one a = refl

is_path : (parts : List Text) → 0 < length parts → EachPart parts → IsPath parts (join_with_byte 46 parts)
unfolding last_of
is_path [] some h = absurd (omega (arith, some))
is_path (a ∷ []) some h = record { scopes = tt; name = h.0; joined = refl }
is_path (a ∷ b ∷ more) some h =
    let rest = is_path (b ∷ more) (omega arith) h.1 in
    record {
      scopes = subst EachPart (sym (front_more a b more)) (h.0, rest.scopes);
      name = rest.name;
      joined = ap (λ l. dotted l ++ last_of (b ∷ more)) (front_more a b more) ∙ append_assoc (a ++ 46 ∷ []) (dotted (but_last (b ∷ more))) (last_of (b ∷ more))
          ∙ ap (λ t. (a ++ 46 ∷ []) ++ t) rest.joined ∙ append_assoc a (46 ∷ []) (join_with_byte 46 (b ∷ more));
    }

path_is : (w : Signal) → HasParts w → IsPath (parts_of w.path) w.path
path_is w h = subst (IsPath (parts_of w.path)) (join_with_byte-slice_split 46 w.path) (is_path (parts_of w.path) (omega (arith, length-slice_split is_dot w.path)) (each_part (parts_of w.path) h))

-- ---- what is told within the declarations

pub record Declaring (scopes : List Text) (done : List Signal) (t : Told) : Type 0 where
  pub scopes_are : t.scopes ≡ scopes
  pub early : t.ended ≡ false
  pub calm : t.dumping ≡ false
  pub begin : t.time ≡ 0
  pub none : t.changes ≡ []
  pub vars_are : AreVars 0 done t.vars

some_scopes : (l : List Text) → 0 < length l → (length l == 0) ≡ false
some_scopes l h = ne_eqb (length l) 0 (λ e. omega (arith, e, h))

but_last_long : (l : List Text) → length (but_last l) ≡ length l - 1
but_last_long l = omega (arith, length-take (length l - 1) l)

fewer : (l : List Text) (k : ℕ) → suc k ≤ length l → take (length (but_last l) - k) (but_last l) ≡ take (length l - suc k) l
fewer l k h =
    take-take (length (but_last l) - k) (length l - 1) l (omega (arith, but_last_long l))
    ∙ ap (λ n. take n l) (let e : length (but_last l) - k ≡ length l - suc k = omega (arith, but_last_long l, h) in e)

closes : (k : ℕ) (scopes : List Text) (done : List Signal) (t : Told) → k ≤ length scopes → Declaring scopes done t → OverTo t (closed k) (Declaring (take (length scopes - k) scopes) done)
unfolding closed
closes zero scopes done t few d = over_nothing t (Declaring (take (length scopes - 0) scopes) done) (subst (λ l. Declaring l done t) (sym (take_all (length scopes - 0) scopes (omega arith))) d)
closes (suc k) scopes done t few d =
    over_both t upscope_line (closed k) (Declaring (but_last scopes) done) (Declaring (take (length scopes - suc k) scopes) done)
    (upscope_over t (Declaring (but_last scopes) done) d.early (some_scopes t.scopes (omega (arith, few, ap length d.scopes_are)))
    (record { scopes_are = ap but_last d.scopes_are; early = d.early; calm = d.calm; begin = d.begin; none = d.none; vars_are = d.vars_are }))
    (λ x dx. subst (λ l. OverTo x (closed k) (Declaring l done)) (fewer scopes k few)
    (closes k (but_last scopes) done x (omega (arith, few, but_last_long scopes)) dx))

opens : (names scopes : List Text) (done : List Signal) (t : Told) → EachPart names → Declaring scopes done t → OverTo t (flat_map scope_line names) (Declaring (scopes ++ names) done)
opens [] scopes done t parts d = over_nothing t (Declaring (scopes ++ []) done) (subst (λ l. Declaring l done t) (sym (append-nil scopes)) d)
opens (a ∷ names) scopes done t parts d =
    over_both t (scope_line a) (flat_map scope_line names) (Declaring (scopes ++ a ∷ []) done) (Declaring (scopes ++ a ∷ names) done)
    (scope_over t a (Declaring (scopes ++ a ∷ []) done) parts.0 d.early
    (record { scopes_are = ap (λ l. l ++ a ∷ []) d.scopes_are; early = d.early; calm = d.calm; begin = d.begin; none = d.none; vars_are = d.vars_are }))
    (λ x dx. subst (λ l. OverTo x (flat_map scope_line names) (Declaring l done)) (append_assoc scopes (a ∷ []) names) (opens names (scopes ++ a ∷ []) done x parts.1 dx))

-- some scopes are closed, and others opened
changes_scopes : (base held scopes : List Text) (done : List Signal) (t : Told) → EachPart scopes → Declaring (base ++ held) done t
    → OverTo t (closed (length held) ++ flat_map scope_line scopes) (Declaring (base ++ scopes) done)
changes_scopes base held scopes done t parts d =
    over_both t (closed (length held)) (flat_map scope_line scopes) (Declaring base done) (Declaring (base ++ scopes) done)
    (subst (λ l. OverTo t (closed (length held)) (Declaring l done)) (only base held) (closes (length held) (base ++ held) done t (omega (arith, length-append base held)) d))
    (λ x dx. opens scopes base done x parts dx)
  where
    only : (base held : List Text) → take (length (base ++ held) - length held) (base ++ held) ≡ base
    only base held = take_at base held (length (base ++ held) - length held) (omega (arith, length-append base held))

moves : (base held scopes : List Text) (done : List Signal) (t : Told) → EachPart scopes → Declaring (base ++ held) done t → OverTo t (moved held scopes) (Declaring (base ++ scopes) done)
unfolding moved
moves base [] scopes done t parts d = changes_scopes base [] scopes done t parts d
moves base (a ∷ held) [] done t parts d = changes_scopes base (a ∷ held) [] done t parts d
moves base (a ∷ held) (b ∷ scopes) done t parts d =
    by_case (bytes_eq a b) refl
    (λ same dx. moves (base ++ a ∷ []) held scopes done t parts.1 dx)
  where
    by_case : (v : Bool) → bytes_eq a b ≡ v → (a ≡ b → Declaring ((base ++ a ∷ []) ++ held) done t → OverTo t (moved held scopes) (Declaring ((base ++ a ∷ []) ++ scopes) done))
        → OverTo t (if bytes_eq a b then moved held scopes else closed (length (a ∷ held)) ++ flat_map scope_line (b ∷ scopes)) (Declaring (base ++ b ∷ scopes) done)
    by_case true e deeper =
        let same : a ≡ b = (bytes_decides a b).0 e in
        subst (λ v. OverTo t (if v then moved held scopes else closed (length (a ∷ held)) ++ flat_map scope_line (b ∷ scopes)) (Declaring (base ++ b ∷ scopes) done)) (sym e)
        (subst (λ x. OverTo t (moved held scopes) (Declaring (base ++ x ∷ scopes) done)) same
        (subst (λ l. OverTo t (moved held scopes) (Declaring l done)) (append_assoc base (a ∷ []) scopes)
        (deeper same (subst (λ l. Declaring l done t) (sym (append_assoc base (a ∷ []) held)) d))))
    by_case false e deeper =
        subst (λ v. OverTo t (if v then moved held scopes else closed (length (a ∷ held)) ++ flat_map scope_line (b ∷ scopes)) (Declaring (base ++ b ∷ scopes) done)) (sym e)
        (changes_scopes base (a ∷ held) (b ∷ scopes) done t parts d)

-- ---- wires

top_is : IsPart (codes "top")
top_is = (omega arith, (refl, (refl, refl)))

path_told : (w : Signal) → HasParts w → path_of (codes "top" ∷ scopes_of w.path) (name_of w.path) ≡ codes "top." ++ w.path
path_told w h = ap (λ t. codes "top." ++ t) (path_is w h).joined

wire_over : (held : Text) (n : ℕ) (w : Signal) (done : List Signal) (t : Told) → HasParts w → w.width < 256 → n ≡ length done → Declaring (codes "top" ∷ scopes_of held) done t
    → OverTo t (wire_lines held n w) (Declaring (codes "top" ∷ scopes_of w.path) (done ++ w ∷ []))
wire_over held n w done t h wide e d =
    over_both t (moved (scopes_of held) (scopes_of w.path)) (var_line n w.width (name_of w.path)) (Declaring (codes "top" ∷ scopes_of w.path) done) (Declaring (codes "top" ∷ scopes_of w.path) (done ++ w ∷ []))
    (moves (codes "top" ∷ []) (scopes_of held) (scopes_of w.path) done t (path_is w h).scopes d)
    (λ x dx. var_over x n w.width (name_of w.path) (Declaring (codes "top" ∷ scopes_of w.path) (done ++ w ∷ [])) (omega (arith, wide)) (path_is w h).name dx.early (code_free 0 n done x.vars dx.vars_are (omega (arith, e)))
    (λ place. record {
      scopes_are = dx.scopes_are;
      early = dx.early;
      calm = dx.calm;
      begin = dx.begin;
      none = dx.none;
      vars_are = vars_more 0 n done x.vars w (record { path = path_of x.scopes (name_of w.path); kind = Bits; width = w.width; code = code_of n; place = place }) dx.vars_are (omega (arith, e))
          (record { path = ap (λ l. path_of l (name_of w.path)) dx.scopes_are ∙ path_told w h; kind = refl; width = refl; code = refl });
    }))

-- the parts of all wires' paths
abbrev pub AreWires : List Signal → Type 0
AreWires [] = Unit {0}
AreWires (w ∷ wires) = (HasParts w × (w.width < 256)) × AreWires wires

wires_over : (held : Text) (n : ℕ) (wires done : List Signal) (t : Told) → AreWires wires → n ≡ length done → Declaring (codes "top" ∷ scopes_of held) done t
    → OverTo t (declared held n wires) (Declaring (codes "top" ∷ []) (done ++ wires))
unfolding declared
wires_over held n [] done t h e d =
    subst (λ l. OverTo t (closed (length (scopes_of held))) (Declaring (codes "top" ∷ []) l)) (sym (append-nil done))
    (subst (λ l. OverTo t (closed (length (scopes_of held))) (Declaring l done)) (one_left (scopes_of held)) (closes (length (scopes_of held)) (codes "top" ∷ scopes_of held) done t (omega arith) d))
  where
    one_left : (l : List Text) → take (length (codes "top" ∷ l) - length l) (codes "top" ∷ l) ≡ codes "top" ∷ []
    one_left l = ap (λ n. take n (codes "top" ∷ l)) (let e : length (codes "top" ∷ l) - length l ≡ 1 = omega arith in e)
wires_over held n (w ∷ wires) done t h e d =
    over_both t (wire_lines held n w) (declared w.path (n + 1) wires) (Declaring (codes "top" ∷ scopes_of w.path) (done ++ w ∷ [])) (Declaring (codes "top" ∷ []) (done ++ w ∷ wires))
    (wire_over held n w done t h.0.0 h.0.1 e d)
    (λ x dx. subst (λ l. OverTo x (declared w.path (n + 1) wires) (Declaring (codes "top" ∷ []) l)) (append_assoc done (w ∷ []) wires)
    (wires_over w.path (n + 1) wires (done ++ w ∷ []) x h.1 (omega (arith, e, length-append done (w ∷ []))) dx))

-- ---- all declarations

pub record Declared (wires : List Signal) (t : Told) : Type 0 where
  pub ended : t.ended ≡ true
  pub calm : t.dumping ≡ false
  pub begin : t.time ≡ 0
  pub none : t.changes ≡ []
  pub vars_are : AreVars 0 wires t.vars

pub declarations_over : (wires : List Signal) (t : Told) → AreWires wires → Declaring [] [] t → OverTo t (declarations wires) (Declared wires)
declarations_over wires t h d =
    over_both t (codes "$timescale 1 ns $end" ++ line_end) (scope_line (codes "top") ++ (declared [] 0 wires ++ (upscope_line ++ (codes "$enddefinitions $end" ++ line_end)))) (Declaring [] []) (Declared wires)
    (timescale_over t (Declaring [] []) d)
    (λ x dx. over_both x (scope_line (codes "top")) (declared [] 0 wires ++ (upscope_line ++ (codes "$enddefinitions $end" ++ line_end))) (Declaring (codes "top" ∷ []) []) (Declared wires)
    (scope_over x (codes "top") (Declaring (codes "top" ∷ []) []) top_is dx.early
    (record { scopes_are = ap (λ l. l ++ codes "top" ∷ []) dx.scopes_are; early = dx.early; calm = dx.calm; begin = dx.begin; none = dx.none; vars_are = dx.vars_are }))
    (λ y dy. over_both y (declared [] 0 wires) (upscope_line ++ (codes "$enddefinitions $end" ++ line_end)) (Declaring (codes "top" ∷ []) wires) (Declared wires)
    (wires_over [] 0 wires [] y h refl dy)
    (λ z dz. over_both z upscope_line (codes "$enddefinitions $end" ++ line_end) (Declaring [] wires) (Declared wires)
    (upscope_over z (Declaring [] wires) dz.early (some_scopes z.scopes (omega (arith, ap length dz.scopes_are)))
    (record { scopes_are = ap but_last dz.scopes_are; early = dz.early; calm = dz.calm; begin = dz.begin; none = dz.none; vars_are = dz.vars_are }))
    (λ u du. ending_over u (Declared wires) du.early (record { ended = refl; calm = du.calm; begin = du.begin; none = du.none; vars_are = du.vars_are })))))
