-- What is computed over the parts of a list, one after the other.
use Rattle.std.proofs.Common.{◌≡◌, ℕ, ◌+◌, ◌<◌, ◌≤◌, true, false, ◌&&◌, List, length, drop, get_or, sym, ap, ◌∙◌}
use Rattle.std.proofs.lemmas.List.{at_drop_more, at_drop_all}
use Rattle.sv_typed.specs.declared.tree.Typed.{Typed}
use Rattle.sv_typed.specs.declared.tree.Pick.{Pick}
use Rattle.sv_typed.specs.Typed.{width_together, picked_width, are_constant, are_constant_picks}

-- ---- widths

pub width_more : (all : List Typed) (i : ℕ) (x : Typed) → i < length all → x ≡ get_or all i x → width_together (drop i all) ≡ x.width + width_together (drop (i + 1) all)
unfolding width_together
width_more all i x h e = at_drop_more width_together all i x h ∙ ap (λ y. y.width + width_together (drop (i + 1) all)) (sym e)

pub width_end : (all : List Typed) (i : ℕ) → length all ≤ i → width_together (drop i all) ≡ 0
unfolding width_together
width_end all i h = at_drop_all width_together all i h

pub picked_more : (all : List Pick) (i w : ℕ) (x : Pick) → i < length all → x ≡ get_or all i x → picked_width (drop i all) w ≡ picked_width (drop (i + 1) all) x.width
unfolding picked_width
picked_more all i w x h e = at_drop_more (λ y. picked_width y w) all i x h ∙ ap (λ y. picked_width (drop (i + 1) all) y.width) (sym e)

pub picked_end : (all : List Pick) (i w : ℕ) → length all ≤ i → picked_width (drop i all) w ≡ w
unfolding picked_width
picked_end all i w h = at_drop_all (λ y. picked_width y w) all i h

-- ---- constancy

pub constant_stops : (all : List Typed) (i : ℕ) (x : Typed) → i < length all → x ≡ get_or all i x → x.constant ≡ false → are_constant (drop i all) ≡ false
unfolding are_constant
constant_stops all i x h e k = at_drop_more are_constant all i x h ∙ ap (λ y. y.constant && are_constant (drop (i + 1) all)) (sym e) ∙ ap (λ y. y && are_constant (drop (i + 1) all)) k

pub constant_goes : (all : List Typed) (i : ℕ) (x : Typed) → i < length all → x ≡ get_or all i x → x.constant ≡ true → are_constant (drop (i + 1) all) ≡ are_constant (drop i all)
unfolding are_constant
constant_goes all i x h e k = sym (at_drop_more are_constant all i x h ∙ ap (λ y. y.constant && are_constant (drop (i + 1) all)) (sym e) ∙ ap (λ y. y && are_constant (drop (i + 1) all)) k)

pub constant_end : (all : List Typed) (i : ℕ) → length all ≤ i → are_constant (drop i all) ≡ true
unfolding are_constant
constant_end all i h = at_drop_all are_constant all i h

pub picks_stop : (all : List Pick) (i : ℕ) (x : Pick) → i < length all → x ≡ get_or all i x → x.constant ≡ false → are_constant_picks (drop i all) ≡ false
unfolding are_constant_picks
picks_stop all i x h e k = at_drop_more are_constant_picks all i x h ∙ ap (λ y. y.constant && are_constant_picks (drop (i + 1) all)) (sym e) ∙ ap (λ y. y && are_constant_picks (drop (i + 1) all)) k

pub picks_go : (all : List Pick) (i : ℕ) (x : Pick) → i < length all → x ≡ get_or all i x → x.constant ≡ true → are_constant_picks (drop (i + 1) all) ≡ are_constant_picks (drop i all)
unfolding are_constant_picks
picks_go all i x h e k = sym (at_drop_more are_constant_picks all i x h ∙ ap (λ y. y.constant && are_constant_picks (drop (i + 1) all)) (sym e) ∙ ap (λ y. y && are_constant_picks (drop (i + 1) all)) k)

pub picks_end : (all : List Pick) (i : ℕ) → length all ≤ i → are_constant_picks (drop i all) ≡ true
unfolding are_constant_picks
picks_end all i h = at_drop_all are_constant_picks all i h
