-- Generate loops, conditions and regions: what they are made of.
use Rattle.std.proofs.Common.{◌≡◌, inl, inr, Bool, true, false, List, [], ◌∷◌, Option, Some, None, refl, sym, ◌∙◌, ap, subst}
use Rattle.sv_outside.specs.declared.refusal.Place.{Place}
use Rattle.sv_outside.specs.declared.text.Token.{Token}
use Rattle.sv_tree.specs.declared.word.Word.{Word}
use Rattle.sv_tree.specs.declared.exprs.Expr.{Expr}
use Rattle.sv_tree.specs.declared.stmts.Step.{Step}
use Rattle.sv_tree.specs.declared.stmts.Block.{Block}
use Rattle.sv_tree.specs.declared.design.Item.{Item}
use Rattle.sv_tree.specs.declared.design.Item.TheVariants as it
use Rattle.sv_tree.specs.declared.design.Gen.{Gen}
use Rattle.sv_tree.specs.declared.design.Gen.TheVariants as ge
use Rattle.sv_tree.specs.Spelling.{Spelled, ◌⨟◌, first_at, key, key_at, maybe, each, label_of}
use Rattle.sv_tree.specs.GrammarStmts.{block_name}
use Rattle.sv_tree.specs.GrammarDesign.{genvar_if, is_closed, is_closed_gen, SpellsItem}
use Rattle.sv_tree.proofs.MadeDesign as made
use Rattle.sv_cursor.specs.declared.sort.Keyword.{Keyword}
use Rattle.sv_cursor.specs.declared.sort.Keyword.TheVariants as k
use Rattle.sv_cursor.specs.declared.sort.Mark.TheVariants as m
use Rattle.sv_cursor.specs.declared.sort.Sort.{Sort}
use Rattle.sv_cursor.specs.declared.sort.Sort.TheVariants as so
use Rattle.sv_cursor.specs.Sorts.{mark_text, keyword_text}
use Rattle.sv_cursor.specs.Tests.{first_sort, same_mark, same_keyword, is_mark, is_keyword, keyword_test}
use Rattle.sv_cursor.specs.Parsers.{told}
use Rattle.sv_word_parser.specs.declared.openers.ItemOpener.{ItemOpener}
use Rattle.sv_word_parser.specs.declared.openers.ItemOpener.TheVariants as item_by
use Rattle.sv_word_parser.specs.Combined.{sort_test}
use Rattle.sv_word_parser.specs.Words.{item_by_sort}
use Rattle.sv_stmt_parser.specs.Stmts.{is_given}
use Rattle.sv_item_parser.specs.Items.{LoopHead, made_gen_block, made_cond, made_loop}
use Rattle.sv_type_parser.proofs.Rules.{placed_key, some_key, key_begins, first_of_key, first_of_key_at, told_sort, no_mark, no_key}
use Rattle.sv_stmt_parser.proofs.Steps.{NoColon}
use Rattle.sv_stmt_parser.proofs.Begins.{NoElse}
use Rattle.sv_stmt_parser.proofs.Arms.{Closed}
use Rattle.sv_item_parser.proofs.Blocks.{block_begins}
use Rattle.sv_item_parser.proofs.Items.{DoneItem, DoneGen, CondSpelled, LoopSpelled, RegionSpelled, ItemView, told_item, always_word, net_view, variable_view, typedef_view, param_view, genvar_view, assign_view, always_view, inst_view}

-- ---- first tokens

for_told : (p : Place) (header : Bool) (v : Word) (start test : Expr) (next : Step) (x : Gen) (i o : List Token) → SpellsItem (it.For p header v start test next x) i o → told (sort_test item_by_sort) i ≡ Some item_by.For
unfolding keyword_text
for_told p header v start test next x i o h = let g = made.of_for p header v start test next x i o h in told_item (so.Keyword k.For) i (first_of_key_at k.For p i g.0 g.1)

if_told : (p : Place) (c : Expr) (x : Gen) (y : Option Gen) (i o : List Token) → SpellsItem (it.If p c x y) i o → told (sort_test item_by_sort) i ≡ Some item_by.If
unfolding keyword_text
if_told p c x y i o h = let g = made.of_if p c x y i o h in told_item (so.Keyword k.If) i (first_of_key_at k.If p i g.0 g.1)

region_told : (all : List Item) (i o : List Token) → SpellsItem (it.Generate all) i o → told (sort_test item_by_sort) i ≡ Some item_by.Generate
unfolding keyword_text
region_told all i o h = let g = made.of_generate all i o h in told_item (so.Keyword k.Generate) i (first_of_key k.Generate i g.0 g.1)

always_told : (b : Block) (i o : List Token) → SpellsItem (it.Always b) i o → told (sort_test item_by_sort) i ≡ Some item_by.Always
always_told b i o h =
    let g = made.of_always b i o h in
    let w = block_begins b.kind i g.0 g.1 in told_item (so.Keyword w.0) i w.2 ∙ always_word w.0 w.1.0 w.1.1

pub item_begins : (x : Item) (i o : List Token) → SpellsItem x i o → (c : ItemOpener) × (told (sort_test item_by_sort) i ≡ Some c)
item_begins = made.by_cases_item (λ x. (i o : List Token) → SpellsItem x i o → (c : ItemOpener) × (told (sort_test item_by_sort) i ≡ Some c))
    (λ w t names i o h. let v = net_view w t names i o (h, inl refl) in (v.0, v.1))
    (λ t names i o h. let v = variable_view t names i o (h, inl refl) in (v.0, v.1))
    (λ d i o h. let v = typedef_view d i o (h, inl refl) in (v.0, v.1))
    (λ p i o h. let v = param_view p i o (h, inl refl) in (v.0, v.1))
    (λ names i o h. let v = genvar_view names i o (h, inl refl) in (v.0, v.1))
    (λ all i o h. let v = assign_view all i o (h, inl refl) in (v.0, v.1))
    (λ b i o h. (item_by.Always, always_told b i o h))
    (λ x i o h. let v = inst_view x i o (h, inl refl) in (v.0, v.1))
    (λ p header v start test next x i o h. (item_by.For, for_told p header v start test next x i o h))
    (λ p c x y i o h. (item_by.If, if_told p c x y i o h))
    (λ all i o h. (item_by.Generate, region_told all i o h))

else_apart : (y : Sort) (c : ItemOpener) → item_by_sort y ≡ Some c → is_keyword k.Else y ≡ false
unfolding same_keyword
else_apart (so.Keyword k.Else) c h = absurd (cc)
else_apart (so.Keyword _) c h = refl
else_apart _ c h = refl

colon_apart : (y : Sort) (c : ItemOpener) → item_by_sort y ≡ Some c → is_mark m.Colon y ≡ false
unfolding same_mark
colon_apart (so.Mark m.Colon) c h = absurd (cc)
colon_apart (so.Mark _) c h = refl
colon_apart _ c h = refl

begin_apart : (y : Sort) (c : ItemOpener) → item_by_sort y ≡ Some c → is_keyword k.Begin y ≡ false
unfolding same_keyword
begin_apart (so.Keyword k.Begin) c h = absurd (cc)
begin_apart (so.Keyword _) c h = refl
begin_apart _ c h = refl

item_no_else : (x : Item) (i o : List Token) → SpellsItem x i o → NoElse i
item_no_else x i o h = let b = item_begins x i o h in no_key k.Else (first_sort i) i (else_apart (first_sort i) b.0 (sym (told_sort item_by_sort i refl) ∙ b.1)) refl

pub item_told_no_colon : (c : ItemOpener) (i : List Token) → told (sort_test item_by_sort) i ≡ Some c → NoColon i
item_told_no_colon c i h = no_mark m.Colon (first_sort i) i (colon_apart (first_sort i) c (sym (told_sort item_by_sort i refl) ∙ h)) refl

pub item_no_begin : (x : Item) (i o : List Token) → SpellsItem x i o → told (keyword_test k.Begin) i ≡ None
item_no_begin x i o h = let b = item_begins x i o h in no_key k.Begin (first_sort i) i (begin_apart (first_sort i) b.0 (sym (told_sort item_by_sort i refl) ∙ b.1)) refl

-- ---- lists of items

pub each_item_done : (all : List Item) (i o : List Token) → each SpellsItem all i o → NoElse o → each DoneItem all i o
each_item_done [] i o h none = h
each_item_done (x ∷ []) i o h none = (h.0, (h.1, inr (subst NoElse (sym h.2) none)), h.2)
each_item_done (x ∷ y ∷ all) i o h none = (h.0, (h.1, inr (item_no_else y h.0 h.2.0 h.2.1)), each_item_done (y ∷ all) h.0 o h.2 none)

pub each_item : (all : List Item) (i o : List Token) → each DoneItem all i o → each SpellsItem all i o
each_item [] i o h = h
each_item (x ∷ all) i o h = (h.0, h.1.0, each_item all h.0 o h.2)

pub gen_key_no_else : (w : Keyword) → is_keyword k.Else (so.Keyword w) ≡ false → (i o : List Token) → key (keyword_text w) i o → NoElse i
gen_key_no_else w e i o h = no_key k.Else (so.Keyword w) i e (first_of_key w i o h)

end_no_else : (i o : List Token) → key (keyword_text k.End) i o → NoElse i
unfolding same_keyword
end_no_else i o h = gen_key_no_else k.End refl i o h

endgenerate_no_else : (i o : List Token) → key (keyword_text k.Endgenerate) i o → NoElse i
unfolding same_keyword
endgenerate_no_else i o h = gen_key_no_else k.Endgenerate refl i o h

-- ---- conditions

-- where `else` stands, the branch before it takes no other
closed_before : (closed : Bool) (i o : List Token) → Closed closed i → key (keyword_text k.Else) i o → closed ≡ true
closed_before closed i o (inl h) e = h
closed_before closed i o (inr h) e = let p = key_begins k.Else i o e in let f = p.1 in absurd (cc)

closed_none : (c : Bool) (o : List Token) → c ≡ false → Closed c o → NoElse o
closed_none c o e (inl h) = let f : true ≡ false = sym h ∙ e in absurd (cc)
closed_none c o e (inr h) = h

pub cond_to : (c : Place × (Expr × (Gen × Option Gen))) (i o : List Token) → CondSpelled c i o → DoneItem (made_cond c) i o
unfolding keyword_text mark_text
cond_to (p, (c, (x, None))) i o h =
    let b = h.2.1 in
    let a = h.2.2 in
    (made.to_if p c x None i o (h.0, h.1, (b.0, b.1, (b.2.0, b.2.1, (h.2.0, b.2.2, (a.0, a.1.0, a.2.1))))), inr (subst NoElse a.2.1 a.2.0))
cond_to (p, (c, (x, Some y))) i o h =
    let b = h.2.1 in
    let a = h.2.2 in (
      made.to_if p c x (Some y) i o (h.0, h.1, (b.0, b.1, (b.2.0, b.2.1, (h.2.0, b.2.2, (a.0, a.1.0, (closed_before (is_closed_gen x) a.0 a.2.0 a.1.1 a.2.1, (a.2.0, a.2.1, a.2.2.0))))))),
      subst (λ b. Closed b o) (sym (made.closed_if p c x (Some y))) a.2.2.1,
    )

cond_from : (p : Place) (c : Expr) (x : Gen) (y : Option Gen) (i o : List Token) → DoneItem (it.If p c x y) i o → CondSpelled (p, (c, (x, y))) i o
unfolding keyword_text mark_text
cond_from p c x None i o h =
    let g = made.of_if p c x None i o h.0 in
    let n = closed_none (is_closed (it.If p c x None)) o (made.closed_if p c x None) h.1 in
    let b = g.2.2.2 in
    let a = b.2 in
    (g.0, g.1, (b.0, (g.2.0, g.2.1, (g.2.2.0, g.2.2.1, b.1)), (a.0, (a.1, inr (subst NoElse (sym a.2) n)), (subst NoElse (sym a.2) n, a.2))))
cond_from p c x (Some y) i o h =
    let g = made.of_if p c x (Some y) i o h.0 in
    let b = g.2.2.2 in
    let a = b.2 in
    (g.0, g.1, (b.0, (g.2.0, g.2.1, (g.2.2.0, g.2.2.1, b.1)), (a.0, (a.1, inl a.2.0), (a.2.1.0, a.2.1.1, (a.2.1.2, subst (λ b. Closed b o) (made.closed_if p c x (Some y)) h.1)))))

-- ---- loops

header_to : (q : Option Place) (i o : List Token) → maybe (key_at (keyword_text k.Genvar)) q i o → genvar_if (is_given q) i o
unfolding keyword_text
header_to None i o h = h
header_to (Some p) i o h = some_key (keyword_text k.Genvar) p i o h

header_from : (b : Bool) (i o : List Token) → genvar_if b i o → (q : Option Place) × (is_given q ≡ b) × maybe (key_at (keyword_text k.Genvar)) q i o
unfolding keyword_text
header_from true i o h = let p = placed_key (keyword_text k.Genvar) i o h in (Some p.0, refl, p.1)
header_from false i o h = (None, refl, h)

pub loop_to : (c : Place × (LoopHead × Gen)) (i o : List Token) → LoopSpelled c i o → DoneItem (made_loop c) i o
unfolding keyword_text mark_text
loop_to c i o h =
    let a = h.2.1 in
    let b = a.2.2.2 in
    let e = b.2.2.2.2.2 in (
      made.to_for c.0 (is_given c.1.0.0) c.1.0.1.0 c.1.0.1.1.0 c.1.0.1.1.1.0 c.1.0.1.1.1.1 c.1.1 i o
          (h.0, h.1, (a.0, a.1, (a.2.0, header_to c.1.0.0 a.0 a.2.0 a.2.1, (a.2.2.0, a.2.2.1, (b.0, b.1, (b.2.0, b.2.1, (b.2.2.0, b.2.2.1, (b.2.2.2.0, b.2.2.2.1, (b.2.2.2.2.0, b.2.2.2.2.1, (e.0, e.1, (h.2.0, e.2, h.2.2.0))))))))))),
      subst (λ q. Closed q o) (sym (made.closed_for c.0 (is_given c.1.0.0) c.1.0.1.0 c.1.0.1.1.0 c.1.0.1.1.1.0 c.1.0.1.1.1.1 c.1.1)) h.2.2.1,
    )

loop_from : (p : Place) (header : Bool) (v : Word) (start test : Expr) (next : Step) (x : Gen) (i o : List Token) → DoneItem (it.For p header v start test next x) i o
    → (c : Place × (LoopHead × Gen)) × (made_loop c ≡ it.For p header v start test next x) × LoopSpelled c i o
unfolding keyword_text mark_text
loop_from p header v start test next x i o h =
    let g = made.of_for p header v start test next x i o h.0 in
    let q = header_from header g.2.0 g.2.2.0 g.2.2.1 in
    let b = g.2.2.2.2 in
    let e = b.2.2.2.2.2 in
    let a = e.2 in (
      (p, ((q.0, (v, (start, (test, next)))), x)),
      ap (λ header. it.For p header v start test next x) q.1,
      (g.0, g.1, (a.0, (g.2.0, g.2.1, (g.2.2.0, q.2, (g.2.2.2.0, g.2.2.2.1, (b.0, b.1, (b.2.0, b.2.1, (b.2.2.0, b.2.2.1, (b.2.2.2.0, b.2.2.2.1, (b.2.2.2.2.0, b.2.2.2.2.1, (e.0, e.1, a.1))))))))), (a.2, subst (λ q. Closed q o) (made.closed_for p header v start test next x) h.1))),
    )

-- ---- regions and blocks

pub region_to : (all : List Item) (i o : List Token) → RegionSpelled all i o → DoneItem (it.Generate all) i o
unfolding keyword_text
region_to all i o h = (made.to_generate all i o (h.0, h.1, (h.2.0, each_item all h.0 h.2.0 h.2.1, h.2.2)), inl (made.closed_generate all))

region_from : (all : List Item) (i o : List Token) → DoneItem (it.Generate all) i o → RegionSpelled all i o
unfolding keyword_text
region_from all i o h = let g = made.of_generate all i o h.0 in (g.0, g.1, (g.2.0, each_item_done all g.0 g.2.0 g.2.1 (endgenerate_no_else g.2.0 o g.2.2), g.2.2))

abbrev pub GenBlockSpelled : Place × (Option Word × (List Item × Option Word)) → Spelled
GenBlockSpelled c = key_at (keyword_text k.Begin) c.0 ⨟ (maybe block_name c.1.0 ⨟ (each DoneItem c.1.1.0 ⨟ (key (keyword_text k.End) ⨟ label_of c.1.0 c.1.1.1)))

pub gen_block_to : (c : Place × (Option Word × (List Item × Option Word))) (i o : List Token) → GenBlockSpelled c i o → DoneGen (made_gen_block c) i o
unfolding keyword_text
gen_block_to c i o h =
    (made.to_block c.0 c.1.0 c.1.1.0 c.1.1.1 i o (h.0, h.1, (h.2.0, h.2.1, (h.2.2.0, each_item c.1.1.0 h.2.0 h.2.2.0 h.2.2.1, h.2.2.2))), inl (made.closed_block c.0 c.1.0 c.1.1.0 c.1.1.1))

pub gen_block_from : (p : Place) (b : Option Word) (all : List Item) (e : Option Word) (i o : List Token) → DoneGen (ge.Block p b all e) i o → GenBlockSpelled (p, (b, (all, e))) i o
unfolding keyword_text
gen_block_from p b all e i o h =
    let g = made.of_block p b all e i o h.0 in
    (g.0, g.1, (g.2.0, g.2.1, (g.2.2.0, each_item_done all g.2.0 g.2.2.0 g.2.2.1 (end_no_else g.2.2.0 g.2.2.2.0 g.2.2.2.1), g.2.2.2)))

pub single_to : (p : Place) (x : Item) (i o : List Token) → first_at p (DoneItem x) i o → DoneGen (ge.Single p x) i o
single_to p x i o h = (made.to_single p x i o (h.0, h.1.0), subst (λ b. Closed b o) (sym (made.closed_single p x)) h.1.1)

pub single_from : (p : Place) (x : Item) (i o : List Token) → DoneGen (ge.Single p x) i o → first_at p (DoneItem x) i o
single_from p x i o h = let g = made.of_single p x i o h.0 in (g.0, (g.1, subst (λ b. Closed b o) (made.closed_single p x) h.1))

-- ---- items, by their first tokens

pub item_view : (x : Item) → ItemView x
item_view = made.by_cases_item ItemView
    net_view variable_view typedef_view param_view genvar_view assign_view always_view inst_view
    (λ p header v start test next x i o h. (item_by.For, for_told p header v start test next x i o h.0, loop_from p header v start test next x i o h))
    (λ p c x y i o h. (item_by.If, if_told p c x y i o h.0, ((p, (c, (x, y))), refl, cond_from p c x y i o h)))
    (λ all i o h. (item_by.Generate, region_told all i o h.0, (all, refl, region_from all i o h)))
