use Rattle.std.proofs.lemmas.Result.{IfOk-from_err}
use Rattle.std.proofs.Common.{◌≡◌, ℕ, List, length, refl, ap, sym, subst, ◌∙◌, arith}
use Rattle.std.proofs.lemmas.List.{length_push}
use Rattle.hash_index.specs.Tree.{IsKept}
use Rattle.hash_index.proofs.Keeping.{on_err, linked_pushed}
use Rattle.hash_index.proofs.index.push_in.Goals as goal

pub link_last-requires-clause-linked : goal.link_last-requires-clause-linked
link_last-requires-clause-linked c =
    let hashes = c.args.hashes.now.items in
    let room = c.make_room.new in
    let pushed = c.in_ok-push_entry.ensures in
    let number : c.len-number.result ≡ length hashes = c.len-number.ensures ∙ sym c.deref.ensures.len ∙ ap (λ (xs : List ℕ). length xs) c.deref.ensures.value in
    rw (c.deref-2.ensures.value, pushed.hashes, pushed.low, pushed.high, number)
    (linked_pushed hashes room.low.items room.high.items room.roots.items c.args.hash
    (subst (λ (xs : List ℕ). IsKept xs room.low.items room.high.items room.roots.items) c.deref.ensures.value c.make_room.ensures.kept))

pub returns-in_err-make_room-clause-added : goal.returns-in_err-make_room-clause-added
returns-in_err-make_room-clause-added c = IfOk-from_err _ _ c.from_residual.ensures.0

pub returns-in_err-push_entry-clause-added : goal.returns-in_err-push_entry-clause-added
returns-in_err-push_entry-clause-added c = IfOk-from_err _ _ c.from_residual-in_err-push_entry.ensures.0

pub returns-in_err-make_room-clause-kept : goal.returns-in_err-make_room-clause-kept
returns-in_err-make_room-clause-kept c =
    subst (λ (xs : List ℕ). IsKept xs c.make_room.new.low.items c.make_room.new.high.items c.make_room.new.roots.items) c.deref.ensures.value c.make_room.ensures.kept

pub returns-in_err-push_entry-clause-kept : goal.returns-in_err-push_entry-clause-kept
returns-in_err-push_entry-clause-kept c =
    let kept = c.in_err-push_entry.ensures in
    rw (kept.hashes_kept, kept.low_kept, kept.high_kept)
    (subst (λ (xs : List ℕ). IsKept xs c.make_room.new.low.items c.make_room.new.high.items c.make_room.new.roots.items) c.deref.ensures.value c.make_room.ensures.kept)

pub link_last-requires-clause-last : goal.link_last-requires-clause-last
link_last-requires-clause-last c =
    let hashes = c.args.hashes.now.items in
    let number : c.len-number.result ≡ length hashes = c.len-number.ensures ∙ sym c.deref.ensures.len ∙ ap (λ (xs : List ℕ). length xs) c.deref.ensures.value in
    omega (arith, number, ap (λ (xs : List ℕ). length xs) (c.deref-2.ensures.value ∙ c.in_ok-push_entry.ensures.hashes), length_push hashes c.args.hash)

pub link_last-requires-clause-low : goal.link_last-requires-clause-low
link_last-requires-clause-low c =
    let number : c.len-number.result ≡ length c.deref.result.now = c.len-number.ensures ∙ sym c.deref.ensures.len in
    omega (arith, number, ap (λ (xs : List ℕ). length xs) c.in_ok-push_entry.ensures.low, length_push c.make_room.new.low.items 0, c.make_room.ensures.kept.low_len)

pub link_last-requires-clause-high : goal.link_last-requires-clause-high
link_last-requires-clause-high c =
    let number : c.len-number.result ≡ length c.deref.result.now = c.len-number.ensures ∙ sym c.deref.ensures.len in
    omega (arith, number, ap (λ (xs : List ℕ). length xs) c.in_ok-push_entry.ensures.high, length_push c.make_room.new.high.items 0, c.make_room.ensures.kept.high_len)

pub link_last-requires-clause-some : goal.link_last-requires-clause-some
link_last-requires-clause-some c = c.in_ok-make_room.ensures.some

pub returns-clause-kept : goal.returns-clause-kept
returns-clause-kept c =
    subst (λ (xs : List ℕ). IsKept xs c.link_last.new.low.items c.link_last.new.high.items c.link_last.new.roots.items) c.deref-2.ensures.value c.link_last.ensures

pub returns-clause-added : goal.returns-clause-added
returns-clause-added c = c.in_ok-push_entry.ensures.hashes

pub returns-clause-refused : goal.returns-clause-refused
returns-clause-refused c = tt

pub returns-in_err-make_room-clause-refused : goal.returns-in_err-make_room-clause-refused
returns-in_err-make_room-clause-refused c = on_err _ _ refl

pub returns-in_err-push_entry-clause-refused : goal.returns-in_err-push_entry-clause-refused
returns-in_err-push_entry-clause-refused c = on_err _ _ c.in_err-push_entry.ensures.hashes_kept
