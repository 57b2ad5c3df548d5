-- Steps along a line.
use Rattle.std.proofs.Common.{◌≡◌, ℕ, suc, ◌+◌, List, [], ◌∷◌, Bool, true, false, refl, sym, ap, subst, arith, if◌then◌else◌, length, ◌≤◌, Option, Some, None}
use Rattle.std.specs.Prelude.{◌==◌, ◌&&◌}
use Rattle.std.proofs.lemmas.Bool.{cond_both}
use Rattle.sv_preproc.specs.declared.role.Role.{Role}
use Rattle.sv_preproc.specs.declared.role.Role.TheVariants as role
use Rattle.sv_preproc.specs.Directives as spec
use Rattle.sv_preproc.specs.Directives.{Item}
use Rattle.std.proofs.lemmas.Bool.{eqb-true}
use Rattle.sv_outside.specs.declared.refusal.Place.{Place}
use Rattle.sv_token.specs.declared.lexer.Lined.{Lined}
use Rattle.sv_preproc.specs.Roles.{role_of, is_continued, line_rest, line_text, is_word, is_quoted, may_name}
use Rattle.sv_preproc.specs.Seen.{line_of}
use Rattle.sv_preproc.specs.Directives.{placed}

pub rest_more : (line : ℕ) (a : Lined) (rest after : List Lined) → rest ≡ a ∷ after → (a.line == line) ≡ true → line_rest line rest ≡ line_rest (line_of a.line (is_continued (role_of a.token))) after
unfolding line_rest
rest_more line a rest after e f = rw (e, f) (by (is_continued (role_of a.token)) (eqb-true a.line line f))
  where
    by : (v : Bool) → a.line ≡ line → line_rest (if v then line + 1 else line) after ≡ line_rest (line_of a.line v) after
    by true same = ap (λ i. line_rest (i + 1) after) (sym same)
    by false same = ap (λ i. line_rest i after) (sym same)

pub rest_stops : (line : ℕ) (a : Lined) (rest after : List Lined) → rest ≡ a ∷ after → (a.line == line) ≡ false → line_rest line rest ≡ rest
unfolding line_rest
rest_stops line a rest after e f = rw (e, f) refl

pub rest_none : (line : ℕ) (rest : List Lined) → rest ≡ [] → line_rest line rest ≡ rest
unfolding line_rest
rest_none line rest e = rw e refl

pub text_continues : (line : ℕ) (a : Lined) (rest after : List Lined) → rest ≡ a ∷ after → (a.line == line) ≡ true → is_continued (role_of a.token) ≡ true → line_text line rest ≡ line_text (line_of a.line true) after
unfolding line_text
text_continues line a rest after e f c = rw (e, f, c) (ap (λ i. line_text (i + 1) after) (sym (eqb-true a.line line f)))

pub text_more : (line : ℕ) (a : Lined) (rest after : List Lined) → rest ≡ a ∷ after → (a.line == line) ≡ true → is_continued (role_of a.token) ≡ false → line_text line rest ≡ placed a.token.place a.token ∷ line_text (line_of a.line false) after
unfolding line_text
text_more line a rest after e f c = rw (e, f, c) (ap (λ i. a.token ∷ line_text i after) (sym (eqb-true a.line line f)))

pub text_stops : (line : ℕ) (a : Lined) (rest after : List Lined) → rest ≡ a ∷ after → (a.line == line) ≡ false → line_text line rest ≡ []
unfolding line_text
text_stops line a rest after e f = rw (e, f) refl

pub text_none : (line : ℕ) (rest : List Lined) → rest ≡ [] → line_text line rest ≡ []
unfolding line_text
text_none line rest e = rw e refl

pub line_rest_short : (line : ℕ) (ts : List Lined) → length (line_rest line ts) ≤ length ts
unfolding line_rest
line_rest_short line [] = omega arith
line_rest_short line (a ∷ ts) = cond_both (a.line == line) (line_rest (if is_continued (role_of a.token) then line + 1 else line) ts) (a ∷ ts) (λ i. length i ≤ suc (length ts))
    (λ e. omega (arith, line_rest_short (if is_continued (role_of a.token) then line + 1 else line) ts)) (λ e. omega arith)

-- what stands behind an item
abbrev pub behind_of : Item → List Lined
behind_of spec.ended = []
behind_of (spec.kept a rest) = rest
behind_of (spec.passed rest) = rest
behind_of (spec.used a rest) = rest
behind_of (spec.defined name text rest) = rest
behind_of (spec.forgotten name rest) = rest
behind_of (spec.included a name rest) = rest
behind_of (spec.opened wanted name rest) = rest
behind_of (spec.broken number place) = []

abbrev IsShort : List Lined → Item → Type 0
IsShort ts i = length (behind_of i) ≤ length ts

either_way : (ts : List Lined) (v : Bool) (i j : Item) → IsShort ts i → IsShort ts j → IsShort ts (if v then i else j)
either_way ts true i j h k = h
either_way ts false i j h k = k

unless_short : (ts : List Lined) (o : Option Place) (i : Item) → IsShort ts i → IsShort ts (spec.unless_arguments o i)
unless_short ts None i h = h
unless_short ts (Some place) i h = omega arith

define_short : (a : Lined) (ts : List Lined) → IsShort ts (spec.define_item a ts)
define_short a [] = omega arith
define_short a (name ∷ ts) = either_way (name ∷ ts) (is_word name.token.kind && (name.line == a.line) && may_name name.token.text) _ _
    (unless_short (name ∷ ts) (spec.arguments name.token ts) (spec.defined name.token.text (line_text a.line ts) (line_rest a.line ts)) (omega (arith, line_rest_short a.line ts))) (omega arith)

undef_short : (a : Lined) (ts : List Lined) → IsShort ts (spec.undef_item a ts)
undef_short a [] = omega arith
undef_short a (name ∷ ts) = either_way (name ∷ ts) (is_word name.token.kind) _ _ (omega arith) (omega arith)

open_short : (wanted : Bool) (a : Lined) (ts : List Lined) → IsShort ts (spec.open_item wanted a ts)
open_short wanted a [] = omega arith
open_short wanted a (name ∷ ts) = either_way (name ∷ ts) (is_word name.token.kind) _ _ (omega arith) (omega arith)

include_short : (a : Lined) (ts : List Lined) → IsShort ts (spec.include_item a ts)
include_short a [] = omega arith
include_short a (name ∷ ts) = either_way (name ∷ ts) (is_quoted name.token.kind) _ _ (omega arith) (omega arith)

by_role : (live : Bool) (r : Role) (a : Lined) (ts : List Lined) → IsShort ts (spec.item_by live r a ts)
by_role live role.Kept a ts = either_way ts live _ _ (omega arith) (omega arith)
by_role live role.Continued a ts = omega arith
by_role live role.Used a ts = either_way ts live _ _ (omega arith) (omega arith)
by_role live role.Define a ts = either_way ts live _ _ (define_short a ts) (line_rest_short a.line ts)
by_role live role.Undef a ts = either_way ts live _ _ (undef_short a ts) (omega arith)
by_role live role.Ifdef a ts = open_short true a ts
by_role live role.Ifndef a ts = open_short false a ts
by_role live role.Elsif a ts = omega arith
by_role live role.Else a ts = omega arith
by_role live role.Endif a ts = omega arith
by_role live role.Include a ts = either_way ts live _ _ (include_short a ts) (omega arith)
by_role live role.Line a ts = line_rest_short a.line ts

pub item_short : (live : Bool) (a : Lined) (ts rest : List Lined) (i : Item) → spec.item live (a ∷ ts) ≡ i → behind_of i ≡ rest → length rest ≤ length ts
item_short live a ts rest i f b =
    let h : length (behind_of i) ≤ length ts = subst (IsShort ts) f (by_role live (role_of a.token) a ts) in
    subst (λ r. length r ≤ length ts) b h
