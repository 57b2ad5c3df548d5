use Rattle.std.proofs.Common.{◌≡◌, ◌∙◌, ℕ, List, length, true, false, Option, None, Ok, Err, sym, ap, subst, arith}
use Rattle.std.specs.Option.{option_copied}
use Rattle.fourvec.specs.declared.Bit.{Bit}
use Rattle.sv_tree.specs.declared.design.Gen.{Gen}
use Rattle.sv_tree.specs.declared.design.Gen.TheVariants as ge
use Rattle.sv_tree.specs.declared.design.Item.{Item}
use Rattle.sv_tree.specs.declared.design.Item.TheVariants as it
use Rattle.sv_meaning.specs.Deeds.{fixed_truth}
use Rattle.sv_meaning.specs.Layouts.{Name}
use Rattle.sv_meaning.specs.Values.{mean}
use Rattle.sv_loops.proofs.Chains.{gives_ok}
use Rattle.sv_hierarchy.specs.Scopes.{Walk, act, block_walk, chosen_branch, conditional, next_construct, seen, State, turn_walk, under, walk_all}
use Rattle.sv_walk.specs.Items.{Begins, OpensLoop, else_of, items_walk, opened_turn}
use Rattle.sv_walk.specs.Walks.{state_of}
use Rattle.sv_walk.proofs.Declaring.{refused_as}
use Rattle.sv_walk.proofs.Walking.{Ends, ended, ends, handed, handed_same, same_ends, same_walk, walk_next, walk_none, walk_refused}
use Rattle.sv_walk.proofs.WalkingBlocks.{answered, block_ends, block_refused, not_opened, turn_ends}
use Rattle.sv_walk.proofs.WalkingTrees.{block_body, block_branch, generate_walk, if_branch, if_counted, if_is, other_branch, single_body, single_branch, taken_branch}
use Rattle.sv_walk.proofs.Sizes.{block_less, choice_less, inner_less, item_less, loop_less, other_less, region_less, single_less}
use Rattle.sv_walk.proofs.walker.Walker.+item.Goals as goal

pub item-returns-in-Generate : goal.item-returns-in-Generate
item-returns-in-Generate t c =
    same_walk (act c.args.item.now).item _ c.args.self.now c.args.current.now c.items.new.self c.items.new.current c.items.result (ap (λ (x : Item). (act x).item) c.in-Generate.is ∙ generate_walk c.in-Generate.items ∙ ap items_walk (sym c.as_slice.ensures)) c.items.ensures

pub item-returns-in_err-opened-in-For : goal.item-returns-in_err-opened-in-For
item-returns-in_err-opened-in-For t c =
    let s = state_of c.args.self.now c.args.current.now in
    let loop : OpensLoop c.args.item.now c.in-For.place c.in-For.variable c.in-For.body c.args.self.now c.args.current.now c.open_loop.new.current (Err c.in_err-opened-in-For.field-0.0) =
    subst (λ (x : Gen). (item : Item) → item ≡ it.For c.in-For.place c.in-For.header c.in-For.variable c.in-For.start c.in-For.test c.in-For.next x → OpensLoop item c.in-For.place c.in-For.variable x c.args.self.now c.args.current.now c.open_loop.new.current (Err c.in_err-opened-in-For.field-0.0))
    c.get.ensures c.in_err-opened-in-For.ensures c.args.item.now c.in-For.is in
    handed_same (state_of c.args.self.now c.open_loop.new.current) ((act c.args.item.now).item s) c.in_err-opened-in-For.field-0.0 c.from_residual.result
    (refused_as (λ (x : State) (y : State). x ≡ y) (λ st (u : Unit {0}). st ≡ state_of c.args.self.now c.open_loop.new.current) ((act c.args.item.now).item s) c.in_err-opened-in-For.field-0.0 loop) c.from_residual.ensures.1

pub item-returns-in_err-next_construct-in-If : goal.item-returns-in_err-next_construct-in-If
item-returns-in_err-next_construct-in-If t c =
    let s = state_of c.args.self.now c.args.current.now in
    let t = state_of c.args.self.now c.next_construct.new.self in
    if_counted c.in-If.place c.in-If.test c.in-If.body c.in-If.other c.args.item.now s t t c.next_construct.result c.in_err-next_construct-in-If.field-0.0 c.from_residual-in_err-next_construct-in-If.result c.in-If.is c.in_err-next_construct-in-If.was (c.next_construct.ensures c.args.self.now)
    c.from_residual-in_err-next_construct-in-If.ensures.1

pub item-returns-in_ok-opened-in-For : goal.item-returns-in_ok-opened-in-For
item-returns-in_ok-opened-in-For t c =
    let s = state_of c.args.self.now c.args.current.now in
    let q = state_of c.args.self.now c.open_loop.new.current in
    let u = state_of c.turns.new.self c.open_loop.new.current in
    let opened = c.in_ok-opened-in-For.opened in
    let loop : OpensLoop c.args.item.now c.in-For.place c.in-For.variable c.in-For.body c.args.self.now c.args.current.now c.open_loop.new.current (Ok opened) =
    subst (λ (x : Gen). (item : Item) → item ≡ it.For c.in-For.place c.in-For.header c.in-For.variable c.in-For.start c.in-For.test c.in-For.next x → OpensLoop item c.in-For.place c.in-For.variable x c.args.self.now c.args.current.now c.open_loop.new.current (Ok opened))
    c.get.ensures c.in_ok-opened-in-For.ensures c.args.item.now c.in-For.is in
    let walks = λ (n : Name). walk_all (turn_walk c.in-For.place n c.in-For.variable.text (under c.in-For.body).body) opened.values q in
    same_ends u ((act c.args.item.now).item s) (walks opened.name) c.turns.result (loop.0 ∙ ap walks (sym loop.1))
    (subst (λ (x : Gen). Ends u (walk_all (turn_walk c.in-For.place opened.name c.in-For.variable.text (under x).body) opened.values q) c.turns.result) c.get-in-For.ensures c.turns.ensures)

pub item-returns-in_ok-next_construct-in-If : goal.item-returns-in_ok-next_construct-in-If
item-returns-in_ok-next_construct-in-If t c =
    let s = state_of c.args.self.now c.args.current.now in
    let q = state_of c.args.self.now c.next_construct.new.self in
    let n = length c.next_construct.new.self.constructs.items in
    let u = state_of c.conditional.new.self c.conditional.new.current in
    same_ends u ((act c.args.item.now).item s) (conditional c.in-If.test (under c.in-If.body) (else_of c.in-If.other) n q) c.conditional.result
    (if_is c.in-If.place c.in-If.test c.in-If.body c.in-If.other c.args.item.now s q c.in-If.is (ended q (next_construct s) (tt {0}) (c.in_ok-next_construct-in-If.ensures c.args.self.now)))
    (subst (λ (k : ℕ). Ends u (conditional c.in-If.test (under c.in-If.body) (else_of c.in-If.other) k q) c.conditional.result) (c.len-number.ensures ∙ c.next_construct.new.self.constructs.ok.0)
    (subst (λ (x : Gen). Ends u (conditional c.in-If.test (under x) (else_of c.in-If.other) c.len-number.result q) c.conditional.result) c.get-in-If.ensures c.conditional.ensures))

pub item-returns-in_default : goal.item-returns-in_default
item-returns-in_default t c = c.plain_item.ensures

pub item-plain_item-requires : goal.item-plain_item-requires
item-plain_item-requires t c = record { no_region = c.in_default.not-Generate; no_loop = c.in_default.not-For; no_choice = c.in_default.not-If }

pub item-items-requires : goal.item-items-requires
item-items-requires t c = (region_less c.args.item.now c.in-Generate.items c.as_slice.result.now t c.in-Generate.is c.as_slice.ensures c.decreases, tt)

pub item-turns-requires : goal.item-turns-requires
item-turns-requires t c = (loop_less c.args.item.now _ _ _ _ _ _ c.in-For.body c.get-in-For.result.now t c.in-For.is c.get-in-For.ensures c.decreases, tt)

pub item-conditional-requires : goal.item-conditional-requires
item-conditional-requires t c = (choice_less c.args.item.now _ _ c.in-If.body c.in-If.other c.get-in-If.result.now t c.in-If.is c.get-in-If.ensures c.decreases, tt)

pub items-returns-in_err-item : goal.items-returns-in_err-item
items-returns-in_err-item t c =
    let s = state_of c.args.self.now c.args.current.now in
    let t = state_of c.item.new.self c.item.new.current in
    walk_refused (λ (x : Item). (act x).item) c.args.items.now c.items.item-index c.item-item.result (items_walk c.args.items.now s) (state_of c.items.self c.items.current) t t c.item.result c.in_err-item.field-0.0 c.from_residual.result
    c.items-test.true c.item-item.is c.items.invariant c.in_err-item.was c.item.ensures c.from_residual.ensures.1

pub items-items-preserved : goal.items-items-preserved
items-items-preserved t c =
    let s = state_of c.args.self.now c.args.current.now in
    let t = state_of c.item.new.self c.item.new.current in
    walk_next (λ (x : Item). (act x).item) c.args.items.now c.items.item-index c.item-item.result (items_walk c.args.items.now s) (state_of c.items.self c.items.current) t c.items-test.true c.item-item.is c.items.invariant
    (ended t ((act c.item-item.result).item (state_of c.items.self c.items.current)) (tt {0}) c.in_ok-item.ensures)

pub items-returns : goal.items-returns
items-returns t c =
    let s = state_of c.args.self.now c.args.current.now in
    let t = state_of c.items.self c.items.current in
    ends t (items_walk c.args.items.now s) (tt {0}) (walk_none (λ (x : Item). (act x).item) c.args.items.now c.items.item-index (items_walk c.args.items.now s) t c.items-test.false c.items.invariant)

pub items-item-requires : goal.items-item-requires
items-item-requires t c = (item_less c.args.items.now c.items.item-index c.item-item.result t c.items-test.true c.item-item.is c.decreases, tt)

pub turns-turns-init : goal.turns-turns-init
turns-turns-init t c =
    ap (λ (l : List (List Bit)). walk_all (turn_walk c.args.place c.args.opened.name c.args.variable.now.text (under c.args.body.now).body) l (state_of c.args.self.now c.args.current.now)) (sym c.as_slice-bits-items.ensures)

pub turns-returns-in_err-turn : goal.turns-returns-in_err-turn
turns-returns-in_err-turn t c =
    let f = turn_walk c.args.place c.args.opened.name c.args.variable.now.text (under c.args.body.now).body in
    let s = state_of c.args.self.now c.args.current.now in
    let now = state_of c.turns.self c.args.current.now in
    let t = state_of c.turn.new.self c.args.current.now in
    walk_refused f c.as_slice-bits-items.result.now c.turns.bits-index c.bits-item.result (walk_all f c.args.opened.values s) now t t c.turn.result c.in_err-turn.field-0.0 c.from_residual.result c.turns-test.true c.bits-item.is c.turns.invariant c.in_err-turn.was
    (subst (λ (n : Name). Ends t (turn_walk c.args.place n c.args.variable.now.text (under c.args.body.now).body c.bits-item.result now) c.turn.result) c.bytes.ensures c.turn.ensures) c.from_residual.ensures.1

pub turns-turns-preserved : goal.turns-turns-preserved
turns-turns-preserved t c =
    let f = turn_walk c.args.place c.args.opened.name c.args.variable.now.text (under c.args.body.now).body in
    let s = state_of c.args.self.now c.args.current.now in
    let now = state_of c.turns.self c.args.current.now in
    let t = state_of c.turn.new.self c.args.current.now in
    walk_next f c.as_slice-bits-items.result.now c.turns.bits-index c.bits-item.result (walk_all f c.args.opened.values s) now t c.turns-test.true c.bits-item.is c.turns.invariant
    (ended t (f c.bits-item.result now) (tt {0})
    (subst (λ (n : Name). Ends {A = Unit {0}} t (turn_walk c.args.place n c.args.variable.now.text (under c.args.body.now).body c.bits-item.result now) (Ok (tt {0}))) c.bytes.ensures c.in_ok-turn.ensures))

pub turns-returns : goal.turns-returns
turns-returns t c =
    let f = turn_walk c.args.place c.args.opened.name c.args.variable.now.text (under c.args.body.now).body in
    let s = state_of c.args.self.now c.args.current.now in
    let t = state_of c.turns.self c.args.current.now in
    ends t (walk_all f c.args.opened.values s) (tt {0}) (walk_none f c.as_slice-bits-items.result.now c.turns.bits-index (walk_all f c.args.opened.values s) t c.turns-test.false c.turns.invariant)

pub turns-turn-requires : goal.turns-turn-requires
turns-turn-requires t c = (omega (arith, c.decreases), tt)

pub turn-returns-in_err-block : goal.turn-returns-in_err-block
turn-returns-in_err-block t c =
    let s = state_of c.args.self.now c.args.current.now in
    let u = state_of c.begin_turn.new.self c.args.current.now in
    let inside = (under c.args.body.now).body in
    handed_same u (turn_walk c.args.place c.args.name.now c.args.variable.now.text inside c.args.bits s) c.in_err-block.field-0.0 c.from_residual.result
    (not_opened (λ st block. st ≡ state_of c.begin_turn.new.self block) c.args.place c.args.name.now c.args.variable.now.text inside c.args.bits s u c.begin_turn.result c.in_err-block.field-0.0 c.in_err-block.was c.begin_turn.ensures)
    c.from_residual.ensures.1

pub turn-returns-in-Block : goal.turn-returns-in-Block
turn-returns-in-Block t c =
    let s = state_of c.args.self.now c.args.current.now in
    let b = state_of c.begin_turn.new.self c.in_ok-block.block in
    let e = state_of c.items-done.new.self c.items-done.new.current in
    let u = state_of c.items-done.new.self c.args.current.now in
    let walks = λ (w : Walk). turn_walk c.args.place c.args.name.now c.args.variable.now.text w c.args.bits s in
    let opened : opened_turn c.args.place c.args.name.now c.args.variable.now.text c.args.bits s ≡ Ok b =
    answered (state_of c.begin_turn.new.self) (opened_turn c.args.place c.args.name.now c.args.variable.now.text c.args.bits s) c.in_ok-block.block c.in_ok-block.ensures in
    same_ends u (walks (under c.args.body.now).body) (walks (items_walk c.in-Block.items)) c.items-done.result
    (ap walks (ap (λ (x : Gen). (under x).body) c.in-Block.is ∙ block_body c.in-Block.field-0 c.in-Block.field-1 c.in-Block.items c.in-Block.field-3))
    (turn_ends c.args.place c.args.name.now c.args.variable.now.text (items_walk c.in-Block.items) c.args.bits s b e c.items-done.result opened
    (subst (λ (l : List Item). Ends e (items_walk l b) c.items-done.result) c.as_slice.ensures c.items-done.ensures))

pub turn-returns-in-Single : goal.turn-returns-in-Single
turn-returns-in-Single t c =
    let s = state_of c.args.self.now c.args.current.now in
    let b = state_of c.begin_turn.new.self c.in_ok-block.block in
    let e = state_of c.item-done.new.self c.item-done.new.current in
    let u = state_of c.item-done.new.self c.args.current.now in
    let walks = λ (w : Walk). turn_walk c.args.place c.args.name.now c.args.variable.now.text w c.args.bits s in
    let opened : opened_turn c.args.place c.args.name.now c.args.variable.now.text c.args.bits s ≡ Ok b =
    answered (state_of c.begin_turn.new.self) (opened_turn c.args.place c.args.name.now c.args.variable.now.text c.args.bits s) c.in_ok-block.block c.in_ok-block.ensures in
    same_ends u (walks (under c.args.body.now).body) (walks (act c.in-Single.item).item) c.item-done.result
    (ap walks (ap (λ (x : Gen). (under x).body) c.in-Single.is ∙ single_body c.in-Single.field-0 c.in-Single.item))
    (turn_ends c.args.place c.args.name.now c.args.variable.now.text (act c.in-Single.item).item c.args.bits s b e c.item-done.result opened
    (subst (λ (x : Item). Ends e ((act x).item b) c.item-done.result) c.get.ensures c.item-done.ensures))

pub turn-items-done-requires : goal.turn-items-done-requires
turn-items-done-requires t c = (block_less c.args.body.now _ _ c.in-Block.items _ c.as_slice.result.now t c.in-Block.is c.as_slice.ensures c.decreases, tt)

pub turn-item-done-requires : goal.turn-item-done-requires
turn-item-done-requires t c = (single_less c.args.body.now _ c.in-Single.item c.get.result.now t c.in-Single.is c.get.ensures c.decreases, tt)

pub conditional-returns-in_err-holds : goal.conditional-returns-in_err-holds
conditional-returns-in_err-holds t c =
    let s = state_of c.args.self.now c.args.current.now in
    handed (λ x y. x ≡ y) (λ st u. st ≡ s) (fixed_truth (mean (seen s) c.args.test.now)) (λ b. chosen_branch b (under c.args.body.now) (else_of c.args.other.now) c.args.number s) c.holds.result c.in_err-holds.field-0.0 c.from_residual.result
    c.in_err-holds.was c.holds.ensures c.from_residual.ensures.1

pub conditional-returns-then-branch : goal.conditional-returns-then-branch
conditional-returns-then-branch t c =
    let s = state_of c.args.self.now c.args.current.now in
    let u = state_of c.branch-self.new.self c.branch-self.new.current in
    let true_ok : fixed_truth (mean (seen s) c.args.test.now) ≡ Ok true = gives_ok (fixed_truth (mean (seen s) c.args.test.now)) c.in_ok-holds.field-0 c.in_ok-holds.ensures ∙ ap Ok c.if-branch.true in
    same_ends u (conditional c.args.test.now (under c.args.body.now) (else_of c.args.other.now) c.args.number s) ((under c.args.body.now).branch c.args.number s) c.branch-self.result
    (taken_branch c.args.test.now c.args.body.now c.args.other.now c.args.number s true_ok) c.branch-self.ensures

pub conditional-returns-in-Some : goal.conditional-returns-in-Some
conditional-returns-in-Some t c =
    let s = state_of c.args.self.now c.args.current.now in
    let u = state_of c.branch-self-in-Some.new.self c.branch-self-in-Some.new.current in
    let false_ok : fixed_truth (mean (seen s) c.args.test.now) ≡ Ok false = gives_ok (fixed_truth (mean (seen s) c.args.test.now)) c.in_ok-holds.field-0 c.in_ok-holds.ensures ∙ ap Ok c.if-branch.false in
    same_ends u (conditional c.args.test.now (under c.args.body.now) (else_of c.args.other.now) c.args.number s) ((under c.in-Some.other).branch c.args.number s) c.branch-self-in-Some.result
    (other_branch c.args.test.now c.args.body.now c.args.other.now c.args.number s false_ok ∙ ap (λ (o : Option Gen). else_of o c.args.number s) c.in-Some.is)
    (subst (λ (x : Gen). Ends u ((under x).branch c.args.number s) c.branch-self-in-Some.result) c.get.ensures c.branch-self-in-Some.ensures)

pub conditional-returns-in-None : goal.conditional-returns-in-None
conditional-returns-in-None t c =
    let s = state_of c.args.self.now c.args.current.now in
    let false_ok : fixed_truth (mean (seen s) c.args.test.now) ≡ Ok false = gives_ok (fixed_truth (mean (seen s) c.args.test.now)) c.in_ok-holds.field-0 c.in_ok-holds.ensures ∙ ap Ok c.if-branch.false in
    ends s (conditional c.args.test.now (under c.args.body.now) (else_of c.args.other.now) c.args.number s) (tt {0}) (other_branch c.args.test.now c.args.body.now c.args.other.now c.args.number s false_ok ∙ ap (λ (o : Option Gen). else_of o c.args.number s) c.in-None.is)

pub conditional-branch-self-requires : goal.conditional-branch-self-requires
conditional-branch-self-requires t c = (omega (arith, c.decreases), tt)

pub conditional-branch-self-requires-in-Some : goal.conditional-branch-self-requires-in-Some
conditional-branch-self-requires-in-Some t c = (other_less c.args.body.now c.args.other.now c.in-Some.other c.get.result.now t c.in-Some.is c.get.ensures c.decreases, tt)

pub branch-returns-in_err-block-in-Block : goal.branch-returns-in_err-block-in-Block
branch-returns-in_err-block-in-Block t c =
    let s = state_of c.args.self.now c.args.current.now in
    let is : (under c.args.body.now).branch c.args.number ≡ block_walk (option_copied c.as_ref.result) c.in-Block.place c.args.number (items_walk c.in-Block.items) =
    ap (λ (x : Gen). (under x).branch c.args.number) c.in-Block.is ∙ block_branch c.in-Block.place c.in-Block.label c.in-Block.items c.in-Block.field-3 c.args.number
    ∙ sym (λ i. block_walk (c.as_ref.ensures.value i) c.in-Block.place c.args.number (items_walk c.in-Block.items)) in
    let t = state_of c.block.new.self c.block.new.current in
    same_ends t ((under c.args.body.now).branch c.args.number s) (block_walk (option_copied c.as_ref.result) c.in-Block.place c.args.number (items_walk c.in-Block.items) s) c.from_residual.result (λ i. is i s)
    (block_refused (option_copied c.as_ref.result) c.in-Block.place c.args.number (items_walk c.in-Block.items) s t c.in_err-block-in-Block.field-0.0 c.from_residual.result
    (subst (Begins (option_copied c.as_ref.result) c.in-Block.place c.args.number c.args.self.now c.args.current.now c.block.new.self c.block.new.current) c.in_err-block-in-Block.was c.block.ensures) c.from_residual.ensures.1)

pub branch-returns-in_ok-block-in-Block : goal.branch-returns-in_ok-block-in-Block
branch-returns-in_ok-block-in-Block t c =
    let s = state_of c.args.self.now c.args.current.now in
    let is : (under c.args.body.now).branch c.args.number ≡ block_walk (option_copied c.as_ref.result) c.in-Block.place c.args.number (items_walk c.in-Block.items) =
    ap (λ (x : Gen). (under x).branch c.args.number) c.in-Block.is ∙ block_branch c.in-Block.place c.in-Block.label c.in-Block.items c.in-Block.field-3 c.args.number
    ∙ sym (λ i. block_walk (c.as_ref.ensures.value i) c.in-Block.place c.args.number (items_walk c.in-Block.items)) in
    let t = state_of c.items-done.new.self c.block.new.current in
    let e = state_of c.items-done.new.self c.items-done.new.current in
    let b = state_of c.block.new.self c.in_ok-block-in-Block.block in
    same_ends t ((under c.args.body.now).branch c.args.number s) (block_walk (option_copied c.as_ref.result) c.in-Block.place c.args.number (items_walk c.in-Block.items) s) c.items-done.result (λ i. is i s)
    (block_ends (option_copied c.as_ref.result) c.in-Block.place c.args.number (items_walk c.in-Block.items) s (state_of c.args.self.now c.block.new.current) b e c.items-done.result
    c.in_ok-block-in-Block.ensures.declared c.in_ok-block-in-Block.ensures.begun (subst (λ (l : List Item). Ends e (items_walk l b) c.items-done.result) c.as_slice.ensures c.items-done.ensures))

pub branch-returns-in_err-block-in_default : goal.branch-returns-in_err-block-in_default
branch-returns-in_err-block-in_default t c =
    let s = state_of c.args.self.now c.args.current.now in
    let is : (under c.args.body.now).branch c.args.number ≡ block_walk None c.in-Single.place c.args.number (act c.in-Single.item).item =
    ap (λ (x : Gen). (under x).branch c.args.number) c.in-Single.is
    ∙ single_branch c.in-Single.place c.in-Single.item c.args.number (λ q x y o h. c.in_default.not-If q x y o (c.get.ensures ∙ h)) in
    let t = state_of c.block-in_default.new.self c.block-in_default.new.current in
    same_ends t ((under c.args.body.now).branch c.args.number s) (block_walk None c.in-Single.place c.args.number (act c.in-Single.item).item s) c.from_residual-in_err-block-in_default.result (λ i. is i s)
    (block_refused None c.in-Single.place c.args.number (act c.in-Single.item).item s t c.in_err-block-in_default.field-0.0 c.from_residual-in_err-block-in_default.result
    (subst (Begins None c.in-Single.place c.args.number c.args.self.now c.args.current.now c.block-in_default.new.self c.block-in_default.new.current) c.in_err-block-in_default.was c.block-in_default.ensures) c.from_residual-in_err-block-in_default.ensures.1)

pub branch-returns-in_ok-block-in_default : goal.branch-returns-in_ok-block-in_default
branch-returns-in_ok-block-in_default t c =
    let s = state_of c.args.self.now c.args.current.now in
    let is : (under c.args.body.now).branch c.args.number ≡ block_walk None c.in-Single.place c.args.number (act c.in-Single.item).item =
    ap (λ (x : Gen). (under x).branch c.args.number) c.in-Single.is
    ∙ single_branch c.in-Single.place c.in-Single.item c.args.number (λ q x y o h. c.in_default.not-If q x y o (c.get.ensures ∙ h)) in
    let t = state_of c.item-done.new.self c.block-in_default.new.current in
    let e = state_of c.item-done.new.self c.item-done.new.current in
    let b = state_of c.block-in_default.new.self c.in_ok-block-in_default.block in
    same_ends t ((under c.args.body.now).branch c.args.number s) (block_walk None c.in-Single.place c.args.number (act c.in-Single.item).item s) c.item-done.result (λ i. is i s)
    (block_ends None c.in-Single.place c.args.number (act c.in-Single.item).item s (state_of c.args.self.now c.block-in_default.new.current) b e c.item-done.result
    c.in_ok-block-in_default.ensures.declared c.in_ok-block-in_default.ensures.begun (subst (λ (x : Item). Ends e ((act x).item b) c.item-done.result) c.get.ensures c.item-done.ensures))

pub branch-returns-in-If : goal.branch-returns-in-If
branch-returns-in-If t c =
    let s = state_of c.args.self.now c.args.current.now in
    let u = state_of c.conditional.new.self c.conditional.new.current in
    let item : c.in-Single.item ≡ it.If c.in-If.field-0 c.in-If.test c.in-If.body c.in-If.other = sym c.get.ensures ∙ c.in-If.is in
    let cond = conditional c.in-If.test (under c.in-If.body) (else_of c.in-If.other) c.args.number s in
    let is : (under c.args.body.now).branch c.args.number s ≡ cond =
    ap (λ (x : Gen). (under x).branch c.args.number s) (c.in-Single.is ∙ ap (λ (x : Item). ge.Single c.in-Single.place x) item)
    ∙ ap (λ (f : Walk). f s) (if_branch c.in-If.field-0 c.in-Single.place c.in-If.test c.in-If.body c.in-If.other c.args.number) in
    same_ends u ((under c.args.body.now).branch c.args.number s) cond c.conditional.result is
    (subst (λ (x : Gen). Ends u (conditional c.in-If.test (under x) (else_of c.in-If.other) c.args.number s) c.conditional.result) c.get-in-If.ensures c.conditional.ensures)

pub branch-items-done-requires : goal.branch-items-done-requires
branch-items-done-requires t c = (block_less c.args.body.now _ _ c.in-Block.items _ c.as_slice.result.now t c.in-Block.is c.as_slice.ensures c.decreases, tt)

pub branch-conditional-requires : goal.branch-conditional-requires
branch-conditional-requires t c = (inner_less c.args.body.now _ c.in-Single.item c.get.result.now _ _ c.in-If.body c.in-If.other c.get-in-If.result.now t c.in-Single.is c.get.ensures c.in-If.is c.get-in-If.ensures c.decreases, tt)

pub branch-item-done-requires : goal.branch-item-done-requires
branch-item-done-requires t c = (single_less c.args.body.now _ c.in-Single.item c.get.result.now t c.in-Single.is c.get.ensures c.decreases, tt)
