-- What has no operator between two of its parts is read as it is spelled.
use Rattle.std.proofs.Common.{◌≡◌, ℕ, suc, ◌+◌, ◌≤◌, true, List, [], ◌∷◌, ◌++◌, length, drop, Option, Some, None, codes, refl, sym, ◌∙◌, ap, subst, append_assoc, append-nil, arith}
use Rattle.sv_outside.specs.declared.refusal.Place.{Place}
use Rattle.sv_outside.specs.declared.text.Token.{Token}
use Rattle.sv_outside.specs.Words.{is_id}
use Rattle.sv_tree.specs.declared.word.Word.{Word}
use Rattle.sv_tree.specs.declared.exprs.Sign.{Sign}
use Rattle.sv_tree.specs.declared.exprs.Sign.TheVariants as sign
use Rattle.sv_tree.specs.declared.exprs.SystemName.{SystemName}
use Rattle.sv_tree.specs.declared.exprs.UnaryOp.{UnaryOp}
use Rattle.sv_tree.specs.declared.exprs.UnaryOp.TheVariants as op1
use Rattle.sv_tree.specs.declared.exprs.BinaryOp.{BinaryOp}
use Rattle.sv_tree.specs.declared.exprs.BinaryOp.TheVariants as op2
use Rattle.sv_tree.specs.declared.exprs.Expr.{Expr}
use Rattle.sv_tree.specs.declared.exprs.Expr.TheVariants as e
use Rattle.sv_tree.specs.declared.exprs.Select.{Select}
use Rattle.sv_tree.specs.Spelling.{Spelled, ◌⨟◌, mark as mark_spelled, mark_at, key_at, literal as literal_spelled, name, maybe, each, commas, after_commas}
use Rattle.sv_tree.specs.GrammarExprs.{Spells, SpellsSelect, sign_word, unary_mark, binds, is_range}
use Rattle.sv_tree.specs.Nesting.{Depths, one, two, three, in_expr, expr_depths, select_depths, if_given, each_depths, commas_depths, after_commas_depths}
use Rattle.sv_tree.proofs.MadeExprs as made
use Rattle.sv_cursor.specs.declared.sort.Mark.{Mark as MarkName}
use Rattle.sv_cursor.specs.declared.sort.Mark.TheVariants as m
use Rattle.sv_cursor.specs.Sorts.{mark_text, keyword_text}
use Rattle.sv_cursor.specs.Tests.{mark_test, id_test, literal_test, system_test, same_mark, mark, keyword}
use Rattle.sv_cursor.specs.Parsers.{Parser, told, token, ◌⊗◌, ◌<$>◌, maybe_read, refuse}
use Rattle.sv_cursor.proofs.Readers.{IsReader, IsMoved, BadAt, one_nest, pair_reader, equal_reader, lift_reader, less_reader, maybe_reader, moved_pair, choose_reader, refuse_reader, stops_reader, unstop_reader, many_reader, moved_each, Chain}
use Rattle.sv_cursor.proofs.Tested.{mark_here, literal_here, id_here, keyword_here, system_here}
use Rattle.sv_expr_words.specs.declared.openers.Opener.{Opener}
use Rattle.sv_expr_words.specs.declared.openers.Opener.TheVariants as open_by
use Rattle.sv_expr_reader.specs.declared.tails.NameTail.{NameTail}
use Rattle.sv_expr_reader.specs.declared.tails.NameTail.TheVariants as tail
use Rattle.sv_expr_reader.specs.declared.tails.BraceTail.{BraceTail}
use Rattle.sv_expr_reader.specs.declared.tails.BraceTail.TheVariants as braces
use Rattle.sv_expr_words.specs.Signs.{opener_test, select_test, opener, unary_name, sign_name, opener_of_mark, opener_of_keyword}
use Rattle.sv_expr_reader.specs.Reading.{made_literal, made_name, made_paren, made_brace, parens, cast, literal, selects, name_tail, named, parenthesized, after_comma, more, copies, brace_tail, braced, cast_sign, called, prefixed, prefix_for, prefix}
use Rattle.sv_expr_reader.proofs.Tokens.{Bad, outside, deeper, inner, part, Stops, Any, stops_at_mark, placed_mark, some_mark, mark_reader, moved_mark, moved_part, in_append, literal_reader, moved_literal, name_reader, moved_name, key_reader, moved_key, SystemSpelled, system_reader, moved_system, mark_begins, other_mark, lift_head, told_to_mark, tick_no_select}
use Rattle.sv_expr_reader.proofs.Parts.{IsParts, part_reader, own, ParensSpelled, parens_nests, parens_reader, moved_parens, CastSpelled, cast_nests, cast_reader}
use Rattle.sv_expr_reader.proofs.SelectParts.{select_part, select_begins, selects_reader, chain_of, of_chain}

abbrev pub CastStops : List Token → Type 0
CastStops o = (told (mark_test m.Tick) o ≡ None) × Any o

cast_begins : (x : Expr) (i o : List Token) → CastSpelled x i o → (p : Place) × (told (mark_test m.Tick) i ≡ Some p)
unfolding mark_text
cast_begins x i o h = mark_begins m.Tick i h.0 h.1

-- ---- literals

abbrev LiteralSpelled : Word × Option Expr → Spelled
LiteralSpelled c = literal_spelled c.0 ⨟ maybe CastSpelled c.1

abbrev literal_nests : Word × Option Expr → Depths
literal_nests c = one_nest outside c.0 ++ if_given cast_nests c.1

cast_literal_nested : (w : Word) (x : Expr) → expr_depths (e.CastLiteral w x) ≡ deeper outside ∷ cast_nests x
unfolding in_expr
cast_literal_nested w x = made.nests_cast_literal w x

literal_length : (c : Word × Option Expr) → length (expr_depths (made_literal c)) ≡ length (literal_nests c)
literal_length (w, None) = ap length (made.nests_literal w)
literal_length (w, Some x) = ap length (cast_literal_nested w x)

literal_lifts : (d : ℕ) (c : Word × Option Expr) (k : ℕ) → BadAt (Bad (suc d)) (literal_nests c) k → BadAt (Bad (suc d)) (expr_depths (made_literal c)) k
literal_lifts d (w, None) k h = subst (λ ns. BadAt (Bad (suc d)) ns k) (sym (made.nests_literal w)) h
literal_lifts d (w, Some x) k h = subst (λ ns. BadAt (Bad (suc d)) ns k) (sym (cast_literal_nested w x)) (lift_head d (cast_nests x) k h)

literal_to : (c : Word × Option Expr) (i o : List Token) → LiteralSpelled c i o → Spells 13 (made_literal c) i o
literal_to (w, None) i o h = made.to_literal 13 w i o (subst (λ t. literal_spelled w i t) h.2 h.1)
literal_to (w, Some x) i o h = made.to_cast_literal 13 w x i o h

-- ---- names

abbrev TailSpelled : NameTail → Spelled
TailSpelled (tail.CastTo x) = CastSpelled x
TailSpelled (tail.Selected all) = Chain is_range SpellsSelect all

abbrev tail_nests : NameTail → Depths
tail_nests (tail.CastTo x) = cast_nests x
tail_nests (tail.Selected all) = each_depths select_part all

abbrev TailStops : List Token → Type 0
TailStops o = (told (mark_test m.Tick) o ≡ None) × (told select_test o ≡ None)

abbrev NameSpelled : Word × NameTail → Spelled
NameSpelled c = name c.0 ⨟ TailSpelled c.1

abbrev named_nests : Word × NameTail → Depths
named_nests c = one_nest outside c.0 ++ tail_nests c.1

each_in : (all : List Select) → in_expr (each_depths select_depths all) ≡ each_depths select_part all
unfolding in_expr
each_in [] = refl
each_in (x ∷ all) = in_append (select_depths x) (each_depths select_depths all) ∙ ap (λ l. select_part x ++ l) (each_in all)

cast_name_nested : (w : Word) (x : Expr) → expr_depths (e.CastName w x) ≡ deeper outside ∷ cast_nests x
unfolding in_expr
cast_name_nested w x = made.nests_cast_name w x

selected_nested : (w : Word) (x : Select) (all : List Select) → expr_depths (e.Name w (x ∷ all)) ≡ deeper outside ∷ each_depths select_part (x ∷ all)
unfolding in_expr
selected_nested w x all = made.nests_name w (x ∷ all) ∙ ap (λ l. deeper outside ∷ l) (each_in (x ∷ all))

name_length : (c : Word × NameTail) → length (expr_depths (made_name c)) ≡ length (named_nests c)
name_length (w, tail.CastTo x) = ap length (cast_name_nested w x)
name_length (w, tail.Selected []) = ap length (made.nests_name w [])
name_length (w, tail.Selected (x ∷ all)) = ap length (selected_nested w x all)

name_lifts : (d : ℕ) (c : Word × NameTail) (k : ℕ) → BadAt (Bad (suc d)) (named_nests c) k → BadAt (Bad (suc d)) (expr_depths (made_name c)) k
name_lifts d (w, tail.CastTo x) k h = subst (λ ns. BadAt (Bad (suc d)) ns k) (sym (cast_name_nested w x)) (lift_head d (cast_nests x) k h)
name_lifts d (w, tail.Selected []) k h = subst (λ ns. BadAt (Bad (suc d)) ns k) (sym (made.nests_name w [])) h
name_lifts d (w, tail.Selected (x ∷ all)) k h = subst (λ ns. BadAt (Bad (suc d)) ns k) (sym (selected_nested w x all)) (lift_head d (each_depths select_part (x ∷ all)) k h)

name_to : (c : Word × NameTail) (i o : List Token) → NameSpelled c i o → Spells 13 (made_name c) i o
name_to (w, tail.CastTo x) i o h = made.to_cast_name 13 w x i o h
name_to (w, tail.Selected all) i o h = made.to_name 13 w all i o (h.0, h.1, of_chain all h.0 o h.2)

-- ---- parentheses

abbrev ParenSpelled : (Place × (Expr × Place)) × Option Expr → Spelled
ParenSpelled c = ParensSpelled c.0 ⨟ maybe CastSpelled c.1

abbrev paren_nests : (Place × (Expr × Place)) × Option Expr → Depths
paren_nests c = parens_nests c.0 ++ if_given cast_nests c.1

paren_nested : (c : (Place × (Expr × Place)) × Option Expr) → paren_nests c ≡ expr_depths (made_paren c)
unfolding in_expr
paren_nested (p, None) = sym (made.nests_paren p.0 p.1.0 ∙ ap (λ l. deeper outside ∷ l) (in_append (expr_depths p.1.0) one ∙ sym (append-nil (part p.1.0 ++ own))))
paren_nested (p, Some x) = sym (made.nests_cast_paren p.0 p.1.0 x
    ∙ ap (λ l. deeper outside ∷ l) (in_append (expr_depths p.1.0 ++ three ++ expr_depths x) one
    ∙ (ap (λ l. l ++ own) (in_append (expr_depths p.1.0 ++ three) (expr_depths x) ∙ ap (λ l. l ++ part x) (in_append (expr_depths p.1.0) three))
    ∙ (append_assoc (part p.1.0 ++ in_expr three) (part x) own
    ∙ (append_assoc (part p.1.0) (in_expr three) (part x ++ own)
    ∙ (ap (λ l. part p.1.0 ++ (own ++ (own ++ (own ++ l)))) (sym (in_append (expr_depths x) one))
    ∙ sym (append_assoc (part p.1.0) own (cast_nests x))))))))

paren_to : (c : (Place × (Expr × Place)) × Option Expr) (i o : List Token) → ParenSpelled c i o → Spells 13 (made_paren c) i o
paren_to (p, None) i o h =
    let g = subst (λ t. ParensSpelled p i t) h.2 h.1 in made.to_paren 13 p.0 p.1.0 i o (g.0, g.1, (g.2.0, g.2.1, some_mark (codes ")") p.1.1 g.2.0 o g.2.2))
paren_to (p, Some x) i o h =
    let g = h.1 in made.to_cast_paren 13 p.0 p.1.0 x i o (g.0, g.1, (g.2.0, g.2.1, (h.0, some_mark (codes ")") p.1.1 g.2.0 h.0 g.2.2, h.2)))

-- ---- braces

-- a comma and a part
abbrev After : Expr → Spelled
After x = mark_spelled (codes ",") ⨟ Spells 0 x

abbrev after_nests : Expr → Depths
after_nests x = own ++ part x

after_of : (all : List Expr) (i o : List Token) → each After all i o → after_commas (Spells 0) all i o
after_of [] i o h = h
after_of (x ∷ all) i o h = (h.1.0, h.1.1, (h.0, h.1.2, after_of all h.0 o h.2))

of_after : (all : List Expr) (i o : List Token) → after_commas (Spells 0) all i o → each After all i o
of_after [] i o h = h
of_after (x ∷ all) i o h = (h.2.0, (h.0, h.1, h.2.1), of_after all h.2.0 o h.2.2)

after_nested : (all : List Expr) → each_depths after_nests all ≡ in_expr (after_commas_depths expr_depths all)
unfolding in_expr
after_nested [] = refl
after_nested (x ∷ all) = ap (λ l. deeper outside ∷ l) (ap (λ l. part x ++ l) (after_nested all) ∙ sym (in_append (expr_depths x) (after_commas_depths expr_depths all)))

abbrev BraceTailSpelled : BraceTail → Spelled
BraceTailSpelled (braces.Copied all) = mark_spelled (codes "{") ⨟ commas (Spells 0) all ⨟ mark_spelled (codes "}") ⨟ mark_spelled (codes "}")
BraceTailSpelled (braces.Followed all) = after_commas (Spells 0) all ⨟ mark_spelled (codes "}")

abbrev brace_tail_nests : BraceTail → Depths
brace_tail_nests (braces.Copied all) = own ++ (in_expr (commas_depths expr_depths all) ++ (own ++ own))
brace_tail_nests (braces.Followed all) = in_expr (after_commas_depths expr_depths all) ++ own

abbrev BraceSpelled : Place × (Expr × BraceTail) → Spelled
BraceSpelled c = mark_at (codes "{") c.0 ⨟ (Spells 0 c.1.0 ⨟ BraceTailSpelled c.1.1)

abbrev brace_nests : Place × (Expr × BraceTail) → Depths
brace_nests c = inner c.0 ++ (part c.1.0 ++ brace_tail_nests c.1.1)

brace_nested : (c : Place × (Expr × BraceTail)) → brace_nests c ≡ expr_depths (made_brace c)
unfolding in_expr
brace_nested (p, (x, braces.Copied all)) = sym (made.nests_repeat p x all
    ∙ ap (λ l. deeper outside ∷ l) (in_append (expr_depths x ++ one ++ commas_depths expr_depths all) two
    ∙ (ap (λ l. l ++ (own ++ own)) (in_append (expr_depths x ++ one) (commas_depths expr_depths all) ∙ ap (λ l. l ++ in_expr (commas_depths expr_depths all)) (in_append (expr_depths x) one))
    ∙ (append_assoc (part x ++ own) (in_expr (commas_depths expr_depths all)) (own ++ own) ∙ append_assoc (part x) own (in_expr (commas_depths expr_depths all) ++ (own ++ own))))))
brace_nested (p, (x, braces.Followed all)) = sym (made.nests_concat p (x ∷ all)
    ∙ ap (λ l. deeper outside ∷ l) (in_append (expr_depths x ++ after_commas_depths expr_depths all) one
    ∙ (ap (λ l. l ++ own) (in_append (expr_depths x) (after_commas_depths expr_depths all)) ∙ append_assoc (part x) (in_expr (after_commas_depths expr_depths all)) own)))

brace_to : (c : Place × (Expr × BraceTail)) (i o : List Token) → BraceSpelled c i o → Spells 13 (made_brace c) i o
brace_to (p, (x, braces.Copied all)) i o h = made.to_repeat 13 p x all i o h
brace_to (p, (x, braces.Followed all)) i o h = made.to_concat 13 p (x ∷ all) i o (h.0, h.1, (h.2.2.0, (h.2.0, h.2.1, h.2.2.1), h.2.2.2))

-- ---- what a token begins

abbrev SignSpelled : Sign → Place × Expr → Spelled
SignSpelled g c = key_at (sign_word g) c.0 ⨟ CastSpelled c.1

abbrev CallSpelled : (SystemName × Place) × (Place × (Expr × Place)) → Spelled
CallSpelled c = SystemSpelled c.0 ⨟ ParensSpelled c.1

abbrev UnarySpelled : UnaryOp → Place × Expr → Spelled
UnarySpelled op c = mark_at (unary_mark op) c.0 ⨟ Spells 13 c.1

abbrev Class : Opener → Expr → Spelled
Class open_by.Literal x i o = (c : Word × Option Expr) × (made_literal c ≡ x) × LiteralSpelled c i o
Class open_by.Name x i o = (c : Word × NameTail) × (made_name c ≡ x) × NameSpelled c i o
Class open_by.Paren x i o = (c : (Place × (Expr × Place)) × Option Expr) × (made_paren c ≡ x) × ParenSpelled c i o
Class open_by.Brace x i o = (c : Place × (Expr × BraceTail)) × (made_brace c ≡ x) × BraceSpelled c i o
Class (open_by.Sign g) x i o = (c : Place × Expr) × (e.CastSign g c.0 c.1 ≡ x) × SignSpelled g c i o
Class (open_by.System f) x i o = (c : (SystemName × Place) × (Place × (Expr × Place))) × (e.System c.0.0 c.0.1 c.1.1.0 ≡ x) × CallSpelled c i o
Class (open_by.Unary op) x i o = (c : Place × Expr) × (e.Unary op c.0 c.1 ≡ x) × UnarySpelled op c i o

literal_told : (w : Word) (i o : List Token) → literal_spelled w i o → told opener_test i ≡ Some open_by.Literal
unfolding opener_test
literal_told w [] o h = absurd h
literal_told w (a ∷ i) o h = ap opener (literal_here a h.0.0)

name_told : (w : Word) (i o : List Token) → name w i o → told opener_test i ≡ Some open_by.Name
unfolding opener_test
name_told w [] o h = absurd h
name_told w (a ∷ i) o h = ap opener (id_here a h.0.0 (subst (λ t. is_id t ≡ true) (sym h.0.1) h.0.3))

mark_told_so : (k : MarkName) (p : Place) (i o : List Token) → mark_at (mark_text k) p i o → told opener_test i ≡ opener_of_mark k
unfolding opener_test
mark_told_so k p [] o h = absurd h
mark_told_so k p (a ∷ i) o h = ap opener (mark_here a k h.0.0 h.0.1)

paren_told : (p : Place) (i o : List Token) → mark_at (codes "(") p i o → told opener_test i ≡ Some open_by.Paren
unfolding mark_text
paren_told p i o h = mark_told_so m.LeftParen p i o h

brace_told : (p : Place) (i o : List Token) → mark_at (codes "{") p i o → told opener_test i ≡ Some open_by.Brace
unfolding mark_text
brace_told p i o h = mark_told_so m.LeftBrace p i o h

sign_text : (g : Sign) → sign_word g ≡ keyword_text (sign_name g)
unfolding keyword_text
sign_text sign.Signed = refl
sign_text sign.Unsigned = refl

sign_is : (g : Sign) → opener_of_keyword (sign_name g) ≡ Some (open_by.Sign g)
sign_is sign.Signed = refl
sign_is sign.Unsigned = refl

sign_told : (g : Sign) (p : Place) (i o : List Token) → key_at (sign_word g) p i o → told opener_test i ≡ Some (open_by.Sign g)
unfolding opener_test
sign_told g p [] o h = absurd h
sign_told g p (a ∷ i) o h = ap opener (keyword_here a (sign_name g) h.0.0 (h.0.1 ∙ sign_text g)) ∙ sign_is g

system_told : (c : SystemName × Place) (i o : List Token) → SystemSpelled c i o → told opener_test i ≡ Some (open_by.System c.0)
unfolding opener_test
system_told c [] o h = absurd h
system_told c (a ∷ i) o h = ap opener (system_here a c.0 h.0.0 h.0.1)

unary_text : (op : UnaryOp) → unary_mark op ≡ mark_text (unary_name op)
unfolding mark_text
unary_text op1.Plus = refl
unary_text op1.Minus = refl
unary_text op1.LogicNot = refl
unary_text op1.Not = refl
unary_text op1.And = refl
unary_text op1.Nand = refl
unary_text op1.Or = refl
unary_text op1.Nor = refl
unary_text op1.Xor = refl
unary_text op1.TildeXor = refl
unary_text op1.XorTilde = refl

unary_is : (op : UnaryOp) → opener_of_mark (unary_name op) ≡ Some (open_by.Unary op)
unary_is op1.Plus = refl
unary_is op1.Minus = refl
unary_is op1.LogicNot = refl
unary_is op1.Not = refl
unary_is op1.And = refl
unary_is op1.Nand = refl
unary_is op1.Or = refl
unary_is op1.Nor = refl
unary_is op1.Xor = refl
unary_is op1.TildeXor = refl
unary_is op1.XorTilde = refl

unary_told : (op : UnaryOp) (p : Place) (i o : List Token) → mark_at (unary_mark op) p i o → told opener_test i ≡ Some (open_by.Unary op)
unary_told op p i o h = mark_told_so (unary_name op) p i o (subst (λ t. mark_at t p i o) (unary_text op) h) ∙ unary_is op

pub binds_small : (op : BinaryOp) → binds op ≤ 12
binds_small op2.Power = omega arith
binds_small op2.Mul = omega arith
binds_small op2.Div = omega arith
binds_small op2.Rem = omega arith
binds_small op2.Add = omega arith
binds_small op2.Sub = omega arith
binds_small op2.Shl = omega arith
binds_small op2.Shr = omega arith
binds_small op2.Sal = omega arith
binds_small op2.Sar = omega arith
binds_small op2.Lt = omega arith
binds_small op2.Le = omega arith
binds_small op2.Gt = omega arith
binds_small op2.Ge = omega arith
binds_small op2.Eq = omega arith
binds_small op2.Ne = omega arith
binds_small op2.And = omega arith
binds_small op2.Xor = omega arith
binds_small op2.TildeXor = omega arith
binds_small op2.XorTilde = omega arith
binds_small op2.Or = omega arith
binds_small op2.LogicAnd = omega arith
binds_small op2.LogicOr = omega arith
binds_small op2.Implies = omega arith
binds_small op2.Equivalent = omega arith

-- the parts in braces: one at least
brace_of_concat : (p : Place) (all : List Expr) (i o : List Token) → (mark_at (codes "{") p ⨟ commas (Spells 0) all ⨟ mark_spelled (codes "}")) i o
    → (c : Place × (Expr × BraceTail)) × (made_brace c ≡ e.Concat p all) × BraceSpelled c i o
brace_of_concat p [] i o h = absurd h.2.1
brace_of_concat p (x ∷ all) i o h = ((p, (x, braces.Followed all)), refl, (h.0, h.1, (h.2.1.0, h.2.1.1, (h.2.0, h.2.1.2, h.2.2))))

cast_paren_from : (p : Place) (y x : Expr) (i o : List Token) → Spells 13 (e.CastParen p y x) i o → (c : (Place × (Expr × Place)) × Option Expr) × (made_paren c ≡ e.CastParen p y x) × ParenSpelled c i o
cast_paren_from p y x i o h =
    let g = made.of_cast_paren 13 p y x i o h in
    let q = placed_mark (codes ")") g.2.0 g.2.2.0 g.2.2.1 in
    (((p, (y, q.0)), Some x), refl, (g.2.2.0, (g.0, g.1, (g.2.0, g.2.1, q.1)), g.2.2.2))

paren_from : (p : Place) (x : Expr) (i o : List Token) → Spells 13 (e.Paren p x) i o → (c : (Place × (Expr × Place)) × Option Expr) × (made_paren c ≡ e.Paren p x) × ParenSpelled c i o
paren_from p x i o h =
    let g = made.of_paren 13 p x i o h in
    let q = placed_mark (codes ")") g.2.0 o g.2.2 in
    (((p, (x, q.0)), None), refl, (o, (g.0, g.1, (g.2.0, g.2.1, q.1)), refl))

call_from : (f : SystemName) (p : Place) (x : Expr) (i o : List Token) → Spells 13 (e.System f p x) i o
    → (c : (SystemName × Place) × (Place × (Expr × Place))) × (e.System c.0.0 c.0.1 c.1.1.0 ≡ e.System f p x) × CallSpelled c i o
call_from f p x i o h =
    let g = made.of_system 13 f p x i o h in
    let b = placed_mark (codes "(") g.0 g.2.0 g.2.1 in
    let q = placed_mark (codes ")") g.2.2.0 o g.2.2.2 in
    (((f, p), (b.0, (x, q.0))), refl, (g.0, g.1, (g.2.0, b.1, (g.2.2.0, g.2.2.1, q.1))))

abbrev View : Expr → Type 0
View x = (i o : List Token) → Spells 13 x i o → (c : Opener) × (told opener_test i ≡ Some c) × Class c x i o

view : (x : Expr) → View x
view = made.by_spine View
    (λ w i o h. let g = made.of_literal 13 w i o h in (open_by.Literal, literal_told w i o g, ((w, None), refl, (o, g, refl))))
    (λ w all i o h. let g = made.of_name 13 w all i o h in (open_by.Name, name_told w i g.0 g.1, ((w, tail.Selected all), refl, (g.0, g.1, chain_of all g.0 o g.2))))
    (λ p x i o h. let g = paren_from p x i o h in (open_by.Paren, paren_told g.0.0.0 i g.2.1.0 g.2.1.1, g))
    (λ p all i o h. let g = brace_of_concat p all i o (made.of_concat 13 p all i o h) in (open_by.Brace, brace_told g.0.0 i g.2.0 g.2.1, g))
    (λ p x all i o h. let g = made.of_repeat 13 p x all i o h in (open_by.Brace, brace_told p i g.0 g.1, ((p, (x, braces.Copied all)), refl, g)))
    (λ w x i o h. let g = made.of_cast_literal 13 w x i o h in (open_by.Literal, literal_told w i g.0 g.1, ((w, Some x), refl, g)))
    (λ w x i o h. let g = made.of_cast_name 13 w x i o h in (open_by.Name, name_told w i g.0 g.1, ((w, tail.CastTo x), refl, g)))
    (λ p y x i o h. let g = cast_paren_from p y x i o h in (open_by.Paren, paren_told g.0.0.0 i g.2.1.0 g.2.1.1, g))
    (λ g p x i o h. let f = made.of_cast_sign 13 g p x i o h in (open_by.Sign g, sign_told g p i f.0 f.1, ((p, x), refl, f)))
    (λ f p x i o h. let g = call_from f p x i o h in (open_by.System f, system_told (f, p) i (made.of_system 13 f p x i o h).0 (made.of_system 13 f p x i o h).1, g))
    (λ op p x i o h. let g = made.of_unary 13 op p x i o h in (open_by.Unary op, unary_told op p i g.0 g.1, ((p, x), refl, g)))
    (λ x op p y _ i o h. let g = made.of_binary 13 x op p y i o h in absurd (omega (arith, g.0, binds_small op)))
    (λ x y z _ i o h. let g = made.of_choose 13 x y z i o h in absurd (omega (arith, g.0)))

classed : (c : Opener) (x : Expr) (i o : List Token) → (told opener_test i ≡ Some c) × Spells 13 x i o → Class c x i o
classed c x i o h = let v = view x i o h.1 in let e : v.0 ≡ c = same v.0 c (sym v.1 ∙ h.0) in subst (λ c. Class c x i o) e v.2
  where
    same : (a b : Opener) → ◌≡◌ {A = Option Opener} (Some a) (Some b) → a ≡ b
    same a b e = cc

abbrev Begun : Opener → Expr → Spelled
Begun c x i o = (told opener_test i ≡ Some c) × Spells 13 x i o

-- ---- what stops parts in braces

stops_at_brace : (q : Place) (t o : List Token) → mark_at (codes "}") q t o → Stops 0 t
unfolding mark_text same_mark
stops_at_brace q t o h = stops_at_mark 0 m.RightBrace refl refl (omega arith) q t o h

stops_at_open : (q : Place) (t o : List Token) → mark_at (codes "{") q t o → Stops 0 t
unfolding mark_text same_mark
stops_at_open q t o h = stops_at_mark 0 m.LeftBrace refl refl (omega arith) q t o h

stops_at_comma : (q : Place) (t o : List Token) → mark_at (codes ",") q t o → Stops 0 t
unfolding mark_text same_mark
stops_at_comma q t o h = stops_at_mark 0 m.Comma refl refl (omega arith) q t o h

no_comma : (q : Place) (t o : List Token) → mark_at (codes "}") q t o → told (mark_test m.Comma) t ≡ None
unfolding mark_text same_mark
no_comma q t o h = other_mark m.Comma m.RightBrace refl q t o h

no_open_at_close : (q : Place) (t o : List Token) → mark_at (codes "}") q t o → told (mark_test m.LeftBrace) t ≡ None
unfolding mark_text same_mark
no_open_at_close q t o h = other_mark m.LeftBrace m.RightBrace refl q t o h

no_open_at_comma : (q : Place) (t o : List Token) → mark_at (codes ",") q t o → told (mark_test m.LeftBrace) t ≡ None
unfolding mark_text same_mark
no_open_at_comma q t o h = other_mark m.LeftBrace m.Comma refl q t o h

open_begins : (i o : List Token) → mark_spelled (codes "{") i o → (p : Place) × (told (mark_test m.LeftBrace) i ≡ Some p)
unfolding mark_text
open_begins i o h = mark_begins m.LeftBrace i o h

module _ (d : ℕ) (expr : ℕ → Parser Expr) (parts : IsParts d expr) where
  cast_maybe : IsReader (Bad (suc d)) (suc d) (maybe CastSpelled) (maybe CastSpelled) (if_given cast_nests) CastStops (maybe_read (mark_test m.Tick) (cast d expr))
  cast_maybe = maybe_reader (Bad (suc d)) (suc d) (mark_test m.Tick) CastSpelled cast_nests Any (cast d expr) (cast_reader d expr parts) cast_begins

  literal_expr_reader : IsReader (Bad (suc d)) (suc d) (Spells 13) (Begun open_by.Literal) expr_depths CastStops (literal d expr)
  unfolding literal
  literal_expr_reader =
      lift_reader (Bad (suc d)) (Bad (suc d)) literal_nests expr_depths made_literal literal_length (literal_lifts d) (suc d) LiteralSpelled LiteralSpelled (Spells 13) (Begun open_by.Literal) CastStops
      (token literal_test ⊗ maybe_read (mark_test m.Tick) (cast d expr))
      (pair_reader (Bad (suc d)) (suc d) (suc d) (suc d) literal_spelled (one_nest outside) Any (token literal_test) (λ _. maybe CastSpelled) (if_given cast_nests) CastStops (λ _. maybe_read (mark_test m.Tick) (cast d expr))
      moved_literal (literal_reader (suc d) (suc d)) (λ _. cast_maybe) (λ w c t o h stops. tt) (omega arith) (λ w i o h. omega arith))
      literal_to (λ x i o h. classed open_by.Literal x i o h)

  parenthesized_reader : IsReader (Bad (suc d)) (suc d) (Spells 13) (Begun open_by.Paren) expr_depths CastStops (parenthesized d expr)
  unfolding parenthesized
  parenthesized_reader =
      equal_reader (Bad (suc d)) paren_nests expr_depths made_paren paren_nested (suc d) ParenSpelled ParenSpelled (Spells 13) (Begun open_by.Paren) CastStops
      (parens d expr ⊗ maybe_read (mark_test m.Tick) (cast d expr))
      (pair_reader (Bad (suc d)) (suc d) (suc d) (suc d) ParensSpelled parens_nests Any (parens d expr) (λ _. maybe CastSpelled) (if_given cast_nests) CastStops (λ _. maybe_read (mark_test m.Tick) (cast d expr))
      (moved_parens d expr parts) (parens_reader d expr parts) (λ _. cast_maybe) (λ w c t o h stops. tt) (omega arith) (λ w i o h. omega arith))
      paren_to (λ x i o h. classed open_by.Paren x i o h)

  sign_nested : (g : Sign) (c : Place × Expr) → inner c.0 ++ cast_nests c.1 ≡ expr_depths (e.CastSign g c.0 c.1)
  unfolding in_expr
  sign_nested g c = sym (made.nests_cast_sign g c.0 c.1)

  sign_reader : (g : Sign) → IsReader (Bad (suc d)) (suc d) (Spells 13) (Begun (open_by.Sign g)) expr_depths Any (cast_sign d expr g)
  unfolding cast_sign
  sign_reader g =
      equal_reader (Bad (suc d)) (λ c. inner c.0 ++ cast_nests c.1) expr_depths (λ c. e.CastSign g c.0 c.1) (sign_nested g) (suc d) (SignSpelled g) (SignSpelled g) (Spells 13) (Begun (open_by.Sign g)) Any
      (keyword (sign_name g) ⊗ cast d expr)
      (pair_reader (Bad (suc d)) (suc d) (suc d) (suc d) (key_at (sign_word g)) inner Any (keyword (sign_name g)) (λ _. CastSpelled) cast_nests Any (λ _. cast d expr)
      (subst (λ t. IsMoved (key_at t) inner) (sym (sign_text g)) (moved_key (sign_name g)))
      (subst (λ t. IsReader (Bad (suc d)) (suc d) (key_at t) (key_at t) inner Any (keyword (sign_name g))) (sym (sign_text g)) (key_reader (suc d) (suc d) (sign_name g)))
      (λ _. cast_reader d expr parts) (λ w c t o h stops. tt) (omega arith) (λ w i o h. omega arith))
      (λ c i o h. made.to_cast_sign 13 g c.0 c.1 i o h) (λ x i o h. classed (open_by.Sign g) x i o h)

  call_nested : (c : (SystemName × Place) × (Place × (Expr × Place))) → inner c.0 ++ parens_nests c.1 ≡ expr_depths (e.System c.0.0 c.0.1 c.1.1.0)
  unfolding in_expr
  call_nested c = sym (made.nests_system c.0.0 c.0.1 c.1.1.0 ∙ ap (λ l. deeper outside ∷ deeper outside ∷ l) (in_append (expr_depths c.1.1.0) one))

  call_to : (c : (SystemName × Place) × (Place × (Expr × Place))) (i o : List Token) → CallSpelled c i o → Spells 13 (e.System c.0.0 c.0.1 c.1.1.0) i o
  call_to c i o h = made.to_system 13 c.0.0 c.0.1 c.1.1.0 i o (h.0, h.1, (h.2.0, some_mark (codes "(") c.1.0 h.0 h.2.0 h.2.1, (h.2.2.0, h.2.2.1, some_mark (codes ")") c.1.1.1 h.2.2.0 o h.2.2.2)))

  called_reader : (f : SystemName) → IsReader (Bad (suc d)) (suc d) (Spells 13) (Begun (open_by.System f)) expr_depths Any (called d expr)
  unfolding called
  called_reader f =
      equal_reader (Bad (suc d)) (λ c. inner c.0 ++ parens_nests c.1) expr_depths (λ c. e.System c.0.0 c.0.1 c.1.1.0) call_nested (suc d) CallSpelled CallSpelled (Spells 13) (Begun (open_by.System f)) Any
      (token system_test ⊗ parens d expr)
      (pair_reader (Bad (suc d)) (suc d) (suc d) (suc d) SystemSpelled inner Any (token system_test) (λ _. ParensSpelled) parens_nests Any (λ _. parens d expr)
      moved_system (system_reader (suc d) (suc d)) (λ _. parens_reader d expr parts) (λ w c t o h stops. tt) (omega arith) (λ w i o h. omega arith))
      call_to (λ x i o h. classed (open_by.System f) x i o h)

  unary_nested : (op : UnaryOp) (c : Place × Expr) → inner c.0 ++ part c.1 ≡ expr_depths (e.Unary op c.0 c.1)
  unfolding in_expr
  unary_nested op c = sym (made.nests_unary op c.0 c.1)

  unary_reader : (op : UnaryOp) → IsReader (Bad (suc d)) (suc d) (Spells 13) (Begun (open_by.Unary op)) expr_depths (Stops 13) (prefixed d expr op)
  unfolding prefixed
  unary_reader op =
      equal_reader (Bad (suc d)) (λ c. inner c.0 ++ part c.1) expr_depths (λ c. e.Unary op c.0 c.1) (unary_nested op) (suc d) (UnarySpelled op) (UnarySpelled op) (Spells 13) (Begun (open_by.Unary op)) (Stops 13)
      (mark (unary_name op) ⊗ expr 13)
      (pair_reader (Bad (suc d)) (suc d) d (suc d) (mark_at (unary_mark op)) inner Any (mark (unary_name op)) (λ _. Spells 13) part (Stops 13) (λ _. expr 13)
      (subst (λ t. IsMoved (mark_at t) inner) (sym (unary_text op)) (moved_mark (unary_name op)))
      (subst (λ t. IsReader (Bad (suc d)) (suc d) (mark_at t) (mark_at t) inner Any (mark (unary_name op))) (sym (unary_text op)) (mark_reader (suc d) (suc d) (unary_name op)))
      (λ _. part_reader d expr parts 13 (omega arith)) (λ w c t o h stops. tt) (omega arith) (λ w i o h. omega arith))
      (λ c i o h. made.to_unary 13 op c.0 c.1 i o h) (λ x i o h. classed (open_by.Unary op) x i o h)

  -- ---- names

  abbrev TailTakes : NameTail → Spelled
  TailTakes t i o = TailStops o × TailSpelled t i o

  cast_tail_from : (p : Place) (t : NameTail) (i o : List Token) → (told (mark_test m.Tick) i ≡ Some p) × TailTakes t i o → (x : Expr) × (tail.CastTo x ≡ t) × CastSpelled x i o
  cast_tail_from p (tail.CastTo x) i o h = (x, refl, h.1.1)
  cast_tail_from p (tail.Selected []) i o h = let f : told (mark_test m.Tick) i ≡ None = ap (told (mark_test m.Tick)) h.1.1 ∙ h.1.0.0 in let g = h.0 in absurd (cc)
  cast_tail_from p (tail.Selected (x ∷ [])) i o h = let g = select_begins x i o h.1.1 in let f = g.1 in let k = tick_no_select p i h.0 in absurd (cc)
  cast_tail_from p (tail.Selected (x ∷ y ∷ all)) i o h = let g = select_begins x i h.1.1.1.0 h.1.1.1.1 in let f = g.1 in let k = tick_no_select p i h.0 in absurd (cc)

  selected_from : (t : NameTail) (i o : List Token) → (told (mark_test m.Tick) i ≡ None) × TailTakes t i o
      → (all : List Select) × (tail.Selected all ≡ t) × (((told select_test o ≡ None) × Any o) × Chain is_range SpellsSelect all i o)
  selected_from (tail.CastTo x) i o h = let g = cast_begins x i o h.1.1 in let f = g.1 in let k = h.0 in absurd (cc)
  selected_from (tail.Selected all) i o h = (all, refl, ((h.1.0.1, tt), h.1.1))

  tail_reader : IsReader (Bad (suc d)) d TailSpelled TailSpelled tail_nests TailStops (name_tail d expr)
  unfolding name_tail
  tail_reader =
      stops_reader (Bad (suc d)) d TailSpelled TailSpelled tail_nests TailStops (name_tail d expr)
      (choose_reader (Bad (suc d)) d (mark_test m.Tick) TailSpelled TailTakes tail_nests Any (λ _. tail.CastTo <$> cast d expr) (tail.Selected <$> selects d expr)
      (λ p. less_reader (Bad (suc d)) (suc d) d TailSpelled (λ t i o. (told (mark_test m.Tick) i ≡ Some p) × TailTakes t i o) TailSpelled (λ t i o. (told (mark_test m.Tick) i ≡ Some p) × TailTakes t i o) tail_nests Any Any (tail.CastTo <$> cast d expr)
      (equal_reader (Bad (suc d)) cast_nests tail_nests tail.CastTo (λ x. refl) (suc d) CastSpelled CastSpelled TailSpelled (λ t i o. (told (mark_test m.Tick) i ≡ Some p) × TailTakes t i o) Any (cast d expr)
      (cast_reader d expr parts) (λ x i o h. h) (cast_tail_from p))
      (omega arith) (λ t i o h. h) (λ t i o h. h) (λ o h. h))
      (equal_reader (Bad (suc d)) (each_depths select_part) tail_nests tail.Selected (λ all. refl) d (Chain is_range SpellsSelect) (λ all i o. ((told select_test o ≡ None) × Any o) × Chain is_range SpellsSelect all i o)
      TailSpelled (λ t i o. (told (mark_test m.Tick) i ≡ None) × TailTakes t i o) Any (selects d expr)
      (unstop_reader (Bad (suc d)) d (Chain is_range SpellsSelect) (Chain is_range SpellsSelect) (each_depths select_part) (λ o. (told select_test o ≡ None) × Any o) (selects d expr) (selects_reader d expr parts))
      (λ all i o h. h) selected_from))

  named_reader : IsReader (Bad (suc d)) (suc d) (Spells 13) (Begun open_by.Name) expr_depths TailStops (named d expr)
  unfolding named
  named_reader =
      lift_reader (Bad (suc d)) (Bad (suc d)) named_nests expr_depths made_name name_length (name_lifts d) (suc d) NameSpelled NameSpelled (Spells 13) (Begun open_by.Name) TailStops
      (token id_test ⊗ name_tail d expr)
      (pair_reader (Bad (suc d)) (suc d) d (suc d) name (one_nest outside) Any (token id_test) (λ _. TailSpelled) tail_nests TailStops (λ _. name_tail d expr)
      (moved_name outside) (name_reader (suc d) (suc d) outside) (λ _. tail_reader) (λ w c t o h stops. tt) (omega arith) (λ w i o h. omega arith))
      name_to (λ x i o h. classed open_by.Name x i o h)

  -- ---- braces

  abbrev AfterPlaced : Place × Expr → Spelled
  AfterPlaced c = mark_at (codes ",") c.0 ⨟ Spells 0 c.1

  after_from : (x : Expr) (i o : List Token) → After x i o → (c : Place × Expr) × (c.1 ≡ x) × AfterPlaced c i o
  after_from x i o h = let p = placed_mark (codes ",") i h.0 h.1 in ((p.0, x), refl, (h.0, p.1, h.2))

  after_reader : IsReader (Bad (suc d)) d After After after_nests (Stops 0) (after_comma d expr)
  unfolding mark_text after_comma
  after_reader =
      equal_reader (Bad (suc d)) (λ c. inner c.0 ++ part c.1) after_nests (λ c. c.1) (λ c. refl) d AfterPlaced AfterPlaced After After (Stops 0) (mark m.Comma ⊗ expr 0)
      (pair_reader (Bad (suc d)) d d d (mark_at (codes ",")) inner Any (mark m.Comma) (λ _. Spells 0) part (Stops 0) (λ _. expr 0)
      (moved_mark m.Comma) (mark_reader (suc d) d m.Comma) (λ _. part_reader d expr parts 0 (omega arith)) (λ p x t o h stops. tt) (omega arith) (λ p i o h. omega arith))
      (λ c i o h. (h.0, some_mark (codes ",") c.0 i h.0 h.1, h.2)) after_from

  after_moved : IsMoved After after_nests
  unfolding mark_text
  after_moved =
      record {
        count = λ x i o h. let g = after_from x i o h in pair_moved.count g.0 i o g.2 ∙ ap (λ x. length (own ++ part x) + length o) g.1;
        rest = λ x i o h. let g = after_from x i o h in pair_moved.rest g.0 i o g.2 ∙ ap (λ x. drop (length (own ++ part x)) i) g.1;
      }
    where
      pair_moved : IsMoved AfterPlaced (λ c. inner c.0 ++ part c.1)
      pair_moved = moved_pair (mark_at (codes ",")) inner (λ _. Spells 0) part (moved_mark m.Comma) (λ _. moved_part 0)

  after_begins : (x : Expr) (i o : List Token) → After x i o → (p : Place) × (told (mark_test m.Comma) i ≡ Some p)
  unfolding mark_text
  after_begins x i o h = mark_begins m.Comma i h.0 h.1

  after_goes : (p : Place) (i : List Token) → told (mark_test m.Comma) i ≡ Some p → Stops 0 i
  unfolding mark_text
  after_goes p i h = let g = told_to_mark m.Comma p i h in stops_at_comma p i g.0 g.1

  abbrev MoreStops : List Token → Type 0
  MoreStops o = (told (mark_test m.Comma) o ≡ None) × Stops 0 o

  more_reader : IsReader (Bad (suc d)) d (each After) (each After) (each_depths after_nests) MoreStops (more d expr)
  unfolding more
  more_reader = many_reader (Bad (suc d)) d (mark_test m.Comma) After after_nests (Stops 0) (after_comma d expr) after_reader after_moved after_begins (λ x i o h. omega arith) after_goes

  more_moved : IsMoved (each After) (each_depths after_nests)
  more_moved = moved_each (Bad (suc d)) d (mark_test m.Comma) After after_nests (Stops 0) (after_comma d expr) after_reader after_moved after_begins (λ x i o h. omega arith) after_goes

  -- what follows the first of parts
  stops_before_more : (all : List Expr) (t o : List Token) → each After all t o → Stops 0 o → Stops 0 t
  stops_before_more [] t o h stops = subst (Stops 0) (sym h) stops
  stops_before_more (x ∷ all) t o h stops = let g = after_begins x t h.0 h.1 in after_goes g.0 t g.1

  abbrev Copies : Place × ((Expr × List Expr) × (Place × Place)) → Spelled
  Copies c = mark_at (codes "{") c.0 ⨟ ((Spells 0 c.1.0.0 ⨟ each After c.1.0.1) ⨟ (mark_at (codes "}") c.1.1.0 ⨟ mark_at (codes "}") c.1.1.1))

  abbrev copies_nests : Place × ((Expr × List Expr) × (Place × Place)) → Depths
  copies_nests c = inner c.0 ++ ((part c.1.0.0 ++ each_depths after_nests c.1.0.1) ++ (inner c.1.1.0 ++ inner c.1.1.1))

  first_and_more : IsReader (Bad (suc d)) d (λ (c : Expr × List Expr). Spells 0 c.0 ⨟ each After c.1) (λ c. Spells 0 c.0 ⨟ each After c.1) (λ c. part c.0 ++ each_depths after_nests c.1) MoreStops (expr 0 ⊗ more d expr)
  first_and_more =
      pair_reader (Bad (suc d)) d d d (Spells 0) part (Stops 0) (expr 0) (λ _. each After) (each_depths after_nests) MoreStops (λ _. more d expr)
      (moved_part 0) (part_reader d expr parts 0 (omega arith)) (λ _. more_reader) (λ x all t o h stops. stops_before_more all t o h stops.1) (omega arith) (λ x i o h. omega arith)

  copies_inside : IsReader (Bad (suc d)) (suc d) Copies Copies copies_nests Any (mark m.LeftBrace ⊗ (expr 0 ⊗ more d expr) ⊗ mark m.RightBrace ⊗ mark m.RightBrace)
  unfolding mark_text
  copies_inside =
      pair_reader (Bad (suc d)) (suc d) d (suc d) (mark_at (codes "{")) inner Any (mark m.LeftBrace)
      (λ _ c. (Spells 0 c.0.0 ⨟ each After c.0.1) ⨟ (mark_at (codes "}") c.1.0 ⨟ mark_at (codes "}") c.1.1)) (λ c. (part c.0.0 ++ each_depths after_nests c.0.1) ++ (inner c.1.0 ++ inner c.1.1)) Any
      (λ _. (expr 0 ⊗ more d expr) ⊗ mark m.RightBrace ⊗ mark m.RightBrace)
      (moved_mark m.LeftBrace) (mark_reader (suc d) (suc d) m.LeftBrace)
      (λ _. pair_reader (Bad (suc d)) d d d (λ c. Spells 0 c.0 ⨟ each After c.1) (λ c. part c.0 ++ each_depths after_nests c.1) MoreStops (expr 0 ⊗ more d expr)
      (λ _ c. mark_at (codes "}") c.0 ⨟ mark_at (codes "}") c.1) (λ c. inner c.0 ++ inner c.1) Any (λ _. mark m.RightBrace ⊗ mark m.RightBrace)
      (moved_pair (Spells 0) part (λ _. each After) (each_depths after_nests) (moved_part 0) (λ _. more_moved)) first_and_more
      (λ _. pair_reader (Bad (suc d)) d d d (mark_at (codes "}")) inner Any (mark m.RightBrace) (λ _. mark_at (codes "}")) inner Any (λ _. mark m.RightBrace)
      (moved_mark m.RightBrace) (mark_reader (suc d) d m.RightBrace) (λ _. mark_reader (suc d) d m.RightBrace) (λ p q t o h stops. tt) (omega arith) (λ p i o h. omega arith))
      (λ c q t o h stops. (no_comma q.0 t h.0 h.1, stops_at_brace q.0 t h.0 h.1)) (omega arith) (λ c i o h. omega arith))
      (λ p c t o h stops. tt) (omega arith) (λ p i o h. omega arith)

  copies_nested : (c : Place × ((Expr × List Expr) × (Place × Place))) → copies_nests c ≡ brace_tail_nests (braces.Copied (c.1.0.0 ∷ c.1.0.1))
  copies_nested c = ap (λ l. own ++ (l ++ (own ++ own))) (ap (λ l. part c.1.0.0 ++ l) (after_nested c.1.0.1) ∙ sym (in_append (expr_depths c.1.0.0) (after_commas_depths expr_depths c.1.0.1)))

  copies_to : (c : Place × ((Expr × List Expr) × (Place × Place))) (i o : List Token) → Copies c i o → BraceTailSpelled (braces.Copied (c.1.0.0 ∷ c.1.0.1)) i o
  copies_to c i o h = (
    h.0,
    some_mark (codes "{") c.0 i h.0 h.1,
    (
      h.2.0,
      (h.2.1.0, h.2.1.1, after_of c.1.0.1 h.2.1.0 h.2.0 h.2.1.2),
      (h.2.2.0, some_mark (codes "}") c.1.1.0 h.2.0 h.2.2.0 h.2.2.1, some_mark (codes "}") c.1.1.1 h.2.2.0 o h.2.2.2),
    ),
  )

  abbrev Followed : List Expr × Place → Spelled
  Followed c = each After c.0 ⨟ mark_at (codes "}") c.1

  followed_nests : (c : List Expr × Place) → each_depths after_nests c.0 ++ inner c.1 ≡ brace_tail_nests (braces.Followed c.0)
  followed_nests c = ap (λ l. l ++ own) (after_nested c.0)

  followed_to : (c : List Expr × Place) (i o : List Token) → Followed c i o → BraceTailSpelled (braces.Followed c.0) i o
  followed_to c i o h = (h.0, after_of c.0 i h.0 h.1, some_mark (codes "}") c.1 h.0 o h.2)

  -- the tail with a second `{`
  copied_from : (p : Place) (t : BraceTail) (i o : List Token) → (told (mark_test m.LeftBrace) i ≡ Some p) × BraceTailSpelled t i o
      → (all : List Expr) × (braces.Copied all ≡ t) × BraceTailSpelled (braces.Copied all) i o
  copied_from p (braces.Copied all) i o h = (all, refl, h.1)
  copied_from p (braces.Followed []) i o h =
      let q = placed_mark (codes "}") i o (subst (λ t. mark_spelled (codes "}") t o) (sym h.1.1) h.1.2) in
      let f = no_open_at_close q.0 i o q.1 in let g = h.0 in absurd (cc)
  copied_from p (braces.Followed (x ∷ all)) i o h =
      let q = placed_mark (codes ",") i h.1.1.0 h.1.1.1 in
      let f = no_open_at_comma q.0 i h.1.1.0 q.1 in let g = h.0 in absurd (cc)

  copies_from : (all : List Expr) (i o : List Token) → BraceTailSpelled (braces.Copied all) i o
      → (c : Place × ((Expr × List Expr) × (Place × Place))) × (c.1.0.0 ∷ c.1.0.1 ≡ all) × Copies c i o
  copies_from [] i o h = absurd h.2.1
  copies_from (x ∷ all) i o h =
      let p = placed_mark (codes "{") i h.0 h.1 in
      let q = placed_mark (codes "}") h.2.0 h.2.2.0 h.2.2.1 in
      let r = placed_mark (codes "}") h.2.2.0 o h.2.2.2 in
      ((p.0, ((x, all), (q.0, r.0))), refl, (h.0, p.1, (h.2.0, (h.2.1.0, h.2.1.1, of_after all h.2.1.0 h.2.0 h.2.1.2), (h.2.2.0, q.1, r.1))))

  followed_from : (t : BraceTail) (i o : List Token) → (told (mark_test m.LeftBrace) i ≡ None) × BraceTailSpelled t i o
      → (c : List Expr × Place) × (braces.Followed c.0 ≡ t) × Followed c i o
  followed_from (braces.Copied all) i o h = let p = open_begins i h.1.0 h.1.1 in let f = p.1 in let g = h.0 in absurd (cc)
  followed_from (braces.Followed all) i o h = let q = placed_mark (codes "}") h.1.0 o h.1.2 in ((all, q.0), refl, (h.1.0, of_after all i h.1.0 h.1.1, q.1))

  copies_reader : IsReader (Bad (suc d)) (suc d) (λ all. BraceTailSpelled (braces.Copied all)) (λ all. BraceTailSpelled (braces.Copied all)) (λ all. brace_tail_nests (braces.Copied all)) Any (copies d expr)
  unfolding copies
  copies_reader =
      equal_reader (Bad (suc d)) copies_nests (λ all. brace_tail_nests (braces.Copied all)) (λ c. c.1.0.0 ∷ c.1.0.1) copies_nested (suc d) Copies Copies (λ all. BraceTailSpelled (braces.Copied all)) (λ all. BraceTailSpelled (braces.Copied all)) Any
      (mark m.LeftBrace ⊗ (expr 0 ⊗ more d expr) ⊗ mark m.RightBrace ⊗ mark m.RightBrace) copies_inside copies_to copies_from

  brace_tail_reader : IsReader (Bad (suc d)) d BraceTailSpelled BraceTailSpelled brace_tail_nests Any (brace_tail d expr)
  unfolding brace_tail mark_text
  brace_tail_reader =
      choose_reader (Bad (suc d)) d (mark_test m.LeftBrace) BraceTailSpelled BraceTailSpelled brace_tail_nests Any (λ _. braces.Copied <$> copies d expr) ((λ c. braces.Followed c.0) <$> (more d expr ⊗ mark m.RightBrace))
      (λ p. less_reader (Bad (suc d)) (suc d) d BraceTailSpelled (λ t i o. (told (mark_test m.LeftBrace) i ≡ Some p) × BraceTailSpelled t i o) BraceTailSpelled (λ t i o. (told (mark_test m.LeftBrace) i ≡ Some p) × BraceTailSpelled t i o) brace_tail_nests Any Any (braces.Copied <$> copies d expr)
      (equal_reader (Bad (suc d)) (λ all. brace_tail_nests (braces.Copied all)) brace_tail_nests braces.Copied (λ all. refl) (suc d) (λ all. BraceTailSpelled (braces.Copied all)) (λ all. BraceTailSpelled (braces.Copied all)) BraceTailSpelled (λ t i o. (told (mark_test m.LeftBrace) i ≡ Some p) × BraceTailSpelled t i o) Any (copies d expr)
      copies_reader (λ all i o h. h) (copied_from p))
      (omega arith) (λ t i o h. h) (λ t i o h. h) (λ o h. h))
      (equal_reader (Bad (suc d)) (λ c. each_depths after_nests c.0 ++ inner c.1) brace_tail_nests (λ c. braces.Followed c.0) followed_nests d Followed Followed BraceTailSpelled (λ t i o. (told (mark_test m.LeftBrace) i ≡ None) × BraceTailSpelled t i o) Any (more d expr ⊗ mark m.RightBrace)
      (pair_reader (Bad (suc d)) d d d (each After) (each_depths after_nests) MoreStops (more d expr) (λ _. mark_at (codes "}")) inner Any (λ _. mark m.RightBrace)
      more_moved more_reader (λ _. mark_reader (suc d) d m.RightBrace) (λ all q t o h stops. (no_comma q t o h, stops_at_brace q t o h)) (omega arith) (λ all i o h. omega arith))
      followed_to followed_from)

  stops_at_tail : (t : BraceTail) (i o : List Token) → BraceTailSpelled t i o → Stops 0 i
  stops_at_tail (braces.Copied all) i o h = let p = placed_mark (codes "{") i h.0 h.1 in stops_at_open p.0 i h.0 p.1
  stops_at_tail (braces.Followed []) i o h =
      let q = placed_mark (codes "}") i o (subst (λ t. mark_spelled (codes "}") t o) (sym h.1) h.2) in stops_at_brace q.0 i o q.1
  stops_at_tail (braces.Followed (x ∷ all)) i o h = let q = placed_mark (codes ",") i h.1.0 h.1.1 in stops_at_comma q.0 i h.1.0 q.1

  braced_reader : IsReader (Bad (suc d)) (suc d) (Spells 13) (Begun open_by.Brace) expr_depths Any (braced d expr)
  unfolding braced mark_text
  braced_reader =
      equal_reader (Bad (suc d)) brace_nests expr_depths made_brace brace_nested (suc d) BraceSpelled BraceSpelled (Spells 13) (Begun open_by.Brace) Any
      (mark m.LeftBrace ⊗ expr 0 ⊗ brace_tail d expr)
      (pair_reader (Bad (suc d)) (suc d) d (suc d) (mark_at (codes "{")) inner Any (mark m.LeftBrace) (λ _ c. Spells 0 c.0 ⨟ BraceTailSpelled c.1) (λ c. part c.0 ++ brace_tail_nests c.1) Any (λ _. expr 0 ⊗ brace_tail d expr)
      (moved_mark m.LeftBrace) (mark_reader (suc d) (suc d) m.LeftBrace)
      (λ _. pair_reader (Bad (suc d)) d d d (Spells 0) part (Stops 0) (expr 0) (λ _. BraceTailSpelled) brace_tail_nests Any (λ _. brace_tail d expr)
      (moved_part 0) (part_reader d expr parts 0 (omega arith)) (λ _. brace_tail_reader) (λ x t i o h stops. stops_at_tail t i o h) (omega arith) (λ x i o h. omega arith))
      (λ p c t o h stops. tt) (omega arith) (λ p i o h. omega arith))
      brace_to (λ x i o h. classed open_by.Brace x i o h)

  -- ---- by the first token

  fits : (c : Opener) (Ends : List Token → Type 0) (p : Parser Expr) → ((o : List Token) → Stops 13 o → Ends o) → IsReader (Bad (suc d)) (suc d) (Spells 13) (Begun c) expr_depths Ends p
      → IsReader (Bad (suc d)) (suc d) (Spells 13) (Begun c) expr_depths (Stops 13) p
  fits c Ends p ends r = less_reader (Bad (suc d)) (suc d) (suc d) (Spells 13) (Begun c) (Spells 13) (Begun c) expr_depths Ends (Stops 13) p r (omega arith) (λ x i o h. h) (λ x i o h. h) ends

  prefix_for_reader : (c : Opener) → IsReader (Bad (suc d)) (suc d) (Spells 13) (Begun c) expr_depths (Stops 13) (prefix_for d expr c)
  prefix_for_reader open_by.Literal = fits open_by.Literal CastStops (literal d expr) (λ o h. (h.0, tt)) literal_expr_reader
  prefix_for_reader open_by.Name = fits open_by.Name TailStops (named d expr) (λ o h. (h.0, h.1)) named_reader
  prefix_for_reader open_by.Paren = fits open_by.Paren CastStops (parenthesized d expr) (λ o h. (h.0, tt)) parenthesized_reader
  prefix_for_reader open_by.Brace = fits open_by.Brace Any (braced d expr) (λ o h. tt) braced_reader
  prefix_for_reader (open_by.Sign g) = fits (open_by.Sign g) Any (cast_sign d expr g) (λ o h. tt) (sign_reader g)
  prefix_for_reader (open_by.System f) = fits (open_by.System f) Any (called d expr) (λ o h. tt) (called_reader f)
  prefix_for_reader (open_by.Unary op) = unary_reader op

  none_begun : (x : Expr) (i o : List Token) → (told opener_test i ≡ None) × Spells 13 x i o → ⊥
  none_begun x i o h = let v = view x i o h.1 in let f = v.1 in let g = h.0 in cc

  -- What has no operator between two of its parts.
  pub prefix_reader : IsReader (Bad (suc d)) (suc d) (Spells 13) (Spells 13) expr_depths (Stops 13) (prefix d expr)
  unfolding prefix
  prefix_reader =
      choose_reader (Bad (suc d)) (suc d) opener_test (Spells 13) (Spells 13) expr_depths (Stops 13) (prefix_for d expr) refuse prefix_for_reader
      (refuse_reader (Bad (suc d)) (suc d) (Spells 13) (λ x i o. (told opener_test i ≡ None) × Spells 13 x i o) expr_depths (Stops 13) none_begun)
