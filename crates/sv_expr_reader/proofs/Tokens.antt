-- Tokens of expressions: readers of one token, and what stops a part.
use Rattle.std.proofs.Common.{◌≡◌, ℕ, suc, ◌+◌, ◌≤◌, false, List, [], ◌∷◌, ◌++◌, length, drop, Some, None, refl, sym, ◌∙◌, ap, subst, arith, zero}
use Rattle.sv_outside.specs.declared.refusal.Place.{Place}
use Rattle.sv_outside.specs.declared.text.Token.{Token}
use Rattle.sv_tree.specs.declared.exprs.Expr.{Expr}
use Rattle.sv_tree.specs.declared.exprs.SystemName.{SystemName}
use Rattle.sv_tree.specs.Spelling.{Text, Spelled, mark as mark_spelled, mark_at, key_at, system_at, literal, name}
use Rattle.sv_cursor.specs.declared.sort.Keyword.{Keyword}
use Rattle.sv_tree.specs.GrammarExprs.{Spells, system_word}
use Rattle.sv_tree.specs.Nesting.{Nesting, Depths, in_expr, expr_depths}
use Rattle.sv_tree.proofs.Framed.{Framed, frame, framed_as, length_in}
use Rattle.std.proofs.Common.{length-append}
use Rattle.sv_cursor.specs.declared.sort.Mark.{Mark as MarkName}
use Rattle.sv_cursor.specs.declared.sort.Mark.TheVariants as m
use Rattle.sv_cursor.specs.declared.sort.Sort.TheVariants as s
use Rattle.sv_cursor.specs.Sorts.{sort, mark_text, keyword_text}
use Rattle.sv_cursor.specs.Tests.{mark_test, keyword_test, id_test, literal_test, system_test, same_mark, is_mark, if_so, mark, keyword}
use Rattle.sv_cursor.specs.Parsers.{told, token}
use Rattle.sv_cursor.proofs.Readers.{IsReader, IsMoved, Told, one_nest, BadAt, bad_map, token_reader, less_reader, moved_told, moved_less}
use Rattle.sv_cursor.proofs.Tested.{mark_here, mark_told, mark_tells, mark_at_of, told_of_mark_at, literal_of, told_of_literal, name_of, told_of_name, key_at_of, told_of_key_at, system_at_of, told_of_system_at}
use Rattle.sv_expr_words.specs.Signs.{select_test, joiner_test, select_of_mark, joiner_of_mark, strength_of, select_opener, joiner}

-- so many expressions or more hold the token
abbrev pub Bad : ℕ → Nesting → Type 0
Bad d n = d ≤ n.exprs

abbrev pub outside : Nesting
outside = record { exprs = 0; stmts = 0; generates = 0; types = 0 }

abbrev pub deeper : Nesting → Nesting
deeper n = record n { exprs = n.exprs + 1 }

-- What follows does not go on with an expression of this level, nor with its last part.
abbrev pub Stops : ℕ → List Token → Type 0
Stops n o = (told (mark_test m.Tick) o ≡ None) × (told select_test o ≡ None) × (strength_of (told joiner_test o) ≤ n)

abbrev pub Any : List Token → Type 0
Any o = Unit {0}

pub stops_at_mark : (n : ℕ) (name : MarkName) → same_mark name m.Tick ≡ false → select_of_mark name ≡ None → strength_of (joiner_of_mark name) ≤ n
    → (p : Place) (t o : List Token) → mark_at (mark_text name) p t o → Stops n t
unfolding mark_test select_test joiner_test
stops_at_mark n name no_tick no_select weak p [] o h = absurd h
stops_at_mark n name no_tick no_select weak p (a ∷ t) o h =
    let e : sort a ≡ s.Mark name = mark_here a name h.0.0 h.0.1 in
    (ap (λ x. if_so (is_mark m.Tick x) a.place) e ∙ ap (λ b. if_so b a.place) no_tick, ap select_opener e ∙ no_select, subst (λ x. strength_of (joiner x) ≤ n) (sym e) weak)

-- a mark whose place is not kept has one
pub placed_mark : (text : Text) (i o : List Token) → mark_spelled text i o → (p : Place) × mark_at text p i o
placed_mark text [] o h = absurd h
placed_mark text (a ∷ i) o h = (a.place, ((h.0.0, h.0.1, refl), h.1))

pub some_mark : (text : Text) (p : Place) (i o : List Token) → mark_at text p i o → mark_spelled text i o
some_mark text p [] o h = absurd h
some_mark text p (a ∷ i) o h = ((h.0.0, h.0.1), h.1)

-- a token of a part
abbrev pub inner : {A : Type 0} → A → Depths
inner = one_nest (deeper outside)

-- an expression that is a part
abbrev pub part : Expr → Depths
part x = in_expr (expr_depths x)

pub mark_reader : (d depth : ℕ) (name : MarkName) → IsReader (Bad d) depth (mark_at (mark_text name)) (mark_at (mark_text name)) inner Any (mark name)
mark_reader d depth name = less_reader (Bad d) depth depth (Told (mark_test name)) (Told (mark_test name)) (mark_at (mark_text name)) (mark_at (mark_text name)) inner Any Any (mark name)
    (token_reader (Bad d) depth (deeper outside) (mark_test name) Any) (omega arith) (mark_at_of name) (told_of_mark_at name) (λ o h. h)

pub moved_mark : (name : MarkName) → IsMoved (mark_at (mark_text name)) inner
moved_mark name = moved_less (Told (mark_test name)) (mark_at (mark_text name)) inner (moved_told (deeper outside) (mark_test name)) (told_of_mark_at name)

drop_front : {A : Type 0} (u o : List A) → o ≡ drop (length u) (u ++ o)
drop_front [] o = refl
drop_front (x ∷ u) o = drop_front u o

pub moved_framed : {A : Type 0} (S : A → Spelled) (nests : A → Depths) → ((x : A) (i o : List Token) → S x i o → Framed (S x) (length (nests x)) i o) → IsMoved S nests
moved_framed S nests f = record {
  count = λ x i o h. let g = f x i o h in omega (arith, ap length g.1, length-append g.0 o, g.2);
  rest = λ x i o h. let g = f x i o h in drop_front g.0 o ∙ (ap (drop (length g.0)) (sym g.1) ∙ ap (λ k. drop k i) g.2);
}

pub moved_expr : (n : ℕ) → IsMoved (Spells n) expr_depths
moved_expr n = moved_framed (Spells n) expr_depths (λ x i o h. frame x n i o h)

pub moved_part : (n : ℕ) → IsMoved (Spells n) part
moved_part n = moved_framed (Spells n) part (λ x i o h. framed_as (Spells n x) _ _ i o (sym (length_in (expr_depths x))) (frame x n i o h))

pub in_append : (a b : Depths) → in_expr (a ++ b) ≡ in_expr a ++ in_expr b
unfolding in_expr
in_append [] b = refl
in_append (x ∷ a) b = ap (λ l. deeper x ∷ l) (in_append a b)

-- what lies too deep in a part lies so one deeper
pub bad_in : (d : ℕ) (ns : Depths) (k : ℕ) → BadAt (Bad d) ns k → BadAt (Bad (suc d)) (in_expr ns) k
unfolding in_expr
bad_in d ns k h = bad_map (Bad d) (Bad (suc d)) deeper (λ n h. omega arith) ns k h

-- ---- readers of one token of an expression

pub literal_reader : (d depth : ℕ) → IsReader (Bad d) depth literal literal (one_nest outside) Any (token literal_test)
literal_reader d depth = less_reader (Bad d) depth depth (Told literal_test) (Told literal_test) literal literal (one_nest outside) Any Any (token literal_test)
    (token_reader (Bad d) depth outside literal_test Any) (omega arith) literal_of told_of_literal (λ o h. h)

pub moved_literal : IsMoved literal (one_nest outside)
moved_literal = moved_less (Told literal_test) literal (one_nest outside) (moved_told outside literal_test) told_of_literal

pub name_reader : (d depth : ℕ) (x : Nesting) → IsReader (Bad d) depth name name (one_nest x) Any (token id_test)
name_reader d depth x = less_reader (Bad d) depth depth (Told id_test) (Told id_test) name name (one_nest x) Any Any (token id_test)
    (token_reader (Bad d) depth x id_test Any) (omega arith) name_of told_of_name (λ o h. h)

pub moved_name : (x : Nesting) → IsMoved name (one_nest x)
moved_name x = moved_less (Told id_test) name (one_nest x) (moved_told x id_test) told_of_name

pub key_reader : (d depth : ℕ) (word : Keyword) → IsReader (Bad d) depth (key_at (keyword_text word)) (key_at (keyword_text word)) inner Any (keyword word)
key_reader d depth word = less_reader (Bad d) depth depth (Told (keyword_test word)) (Told (keyword_test word)) (key_at (keyword_text word)) (key_at (keyword_text word)) inner Any Any (keyword word)
    (token_reader (Bad d) depth (deeper outside) (keyword_test word) Any) (omega arith) (key_at_of word) (told_of_key_at word) (λ o h. h)

pub moved_key : (word : Keyword) → IsMoved (key_at (keyword_text word)) inner
moved_key word = moved_less (Told (keyword_test word)) (key_at (keyword_text word)) inner (moved_told (deeper outside) (keyword_test word)) (told_of_key_at word)

abbrev pub SystemSpelled : SystemName × Place → Spelled
SystemSpelled c = system_at (system_word c.0) c.1

pub system_reader : (d depth : ℕ) → IsReader (Bad d) depth SystemSpelled SystemSpelled inner Any (token system_test)
system_reader d depth = less_reader (Bad d) depth depth (Told system_test) (Told system_test) SystemSpelled SystemSpelled inner Any Any (token system_test)
    (token_reader (Bad d) depth (deeper outside) system_test Any) (omega arith) system_at_of told_of_system_at (λ o h. h)

pub moved_system : IsMoved SystemSpelled inner
moved_system = moved_less (Told system_test) SystemSpelled inner (moved_told (deeper outside) system_test) told_of_system_at

-- a mark tells its place
pub mark_begins : (name : MarkName) (i o : List Token) → mark_spelled (mark_text name) i o → (p : Place) × (told (mark_test name) i ≡ Some p)
mark_begins name [] o h = absurd h
mark_begins name (a ∷ i) o h = (a.place, mark_tells name a a.place (h.0.0, h.0.1, refl))

pub told_of_mark : (name : MarkName) (p : Place) (i o : List Token) → mark_at (mark_text name) p i o → told (mark_test name) i ≡ Some p
told_of_mark name p [] o h = absurd h
told_of_mark name p (a ∷ i) o h = mark_tells name a p h.0

-- where another mark stands, this one is not told
pub other_mark : (name here : MarkName) → same_mark here name ≡ false → (p : Place) (i o : List Token) → mark_at (mark_text here) p i o → told (mark_test name) i ≡ None
unfolding mark_test
other_mark name here differ p [] o h = absurd h
other_mark name here differ p (a ∷ i) o h = ap (λ x. if_so (is_mark name x) a.place) (mark_here a here h.0.0 h.0.1) ∙ ap (λ b. if_so b a.place) differ

-- the first token may lie deeper than it was counted
pub lift_head : (d : ℕ) (ns : Depths) (k : ℕ) → BadAt (Bad (suc d)) (outside ∷ ns) k → BadAt (Bad (suc d)) (deeper outside ∷ ns) k
lift_head d ns zero h = absurd (omega arith)
lift_head d ns (suc k) h = h

pub told_to_mark : (name : MarkName) (p : Place) (i : List Token) → told (mark_test name) i ≡ Some p → (t : List Token) × mark_at (mark_text name) p i t
told_to_mark name p [] h = absurd (cc)
told_to_mark name p (a ∷ i) h = (i, (mark_told name a p h, refl))

pub tick_no_select : (p : Place) (i : List Token) → told (mark_test m.Tick) i ≡ Some p → told select_test i ≡ None
unfolding select_test
tick_no_select p [] h = refl
tick_no_select p (a ∷ i) h = let g = mark_told m.Tick a p h in ap select_opener (mark_here a m.Tick g.0 g.1)
