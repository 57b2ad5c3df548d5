-- How deep structures are nested, counted to 1,000.
use Rattle.std.proofs.Common.{◌≡◌, ℕ, suc, ◌+◌, ◌<◌, ◌≤◌, nat_le, min, max, List, length, get_or, drop, All, sym, ap, ◌∙◌, subst, arith}
use Rattle.std.proofs.lemmas.Bool.Decides.{nat_tests}
use Rattle.sv_names.specs.declared.layout.Field.{Field}
use Rattle.sv_names.specs.Kinds.{layout_is, members_of, FieldIsSound}
use Rattle.sv_names.proofs.Sound.{sound_depth}
use Rattle.sv_names.proofs.Lookups.{members_from, drop_all}
use Rattle.sv_meaning.specs.Layouts.{depth, deepest}

-- what is found in the first members, with what is left, is what there is
abbrev pub Deepens : List Field → ℕ → ℕ → Type 0
Deepens all i found = max found (min 1000 (deepest (members_of (drop i all)))) ≡ min 1000 (deepest (members_of all))

rest_depth : (all : List Field) (i : ℕ) (x : Field) → i < length all → x ≡ get_or all i x → deepest (members_of (drop i all)) ≡ max (depth (layout_is x.layout)) (deepest (members_of (drop (suc i) all)))
unfolding deepest
rest_depth all i x l e = ap deepest (members_from all i x l e)

larger_of : (found here next d rest : ℕ) → here ≡ min 1000 d → next ≡ max found here → max next (min 1000 rest) ≡ max found (min 1000 (max d rest))
larger_of found here next d rest h n = omega arith

here_depth : (all : List Field) (i : ℕ) (x : Field) → i < length all → x ≡ get_or all i x → All FieldIsSound all → x.layout.depth ≡ min 1000 (depth (layout_is x.layout))
here_depth all i x l e h = sound_depth x.layout (subst FieldIsSound (sym e) (h i x l))

pub member_more : (all : List Field) (i j found next : ℕ) (x : Field) → i < length all → j ≡ suc i → x ≡ get_or all i x → All FieldIsSound all → next ≡ max found x.layout.depth → Deepens all i found → Deepens all j next
member_more all i j found next x l s e h n w =
    ap (λ (k : ℕ). max next (min 1000 (deepest (members_of (drop k all))))) s
    ∙ larger_of found x.layout.depth next (depth (layout_is x.layout)) (deepest (members_of (drop (suc i) all))) (here_depth all i x l e h) n
    ∙ ap (λ d. max found (min 1000 d)) (sym (rest_depth all i x l e)) ∙ w

last_one : (found d : ℕ) → d ≡ 0 → found ≡ max found (min 1000 d)
last_one found d e = omega arith

no_more : (all : List Field) (i found : ℕ) → length all ≤ i → Deepens all i found → found ≡ min 1000 (deepest (members_of all))
unfolding deepest
no_more all i found l w = last_one found (deepest (members_of (drop i all))) (ap deepest (drop_all all i l)) ∙ w

one_more : (found d last : ℕ) → found ≡ min 1000 d → last ≡ min (found + 1) 1000 → last ≡ min 1000 (suc d)
one_more found d last e h = omega arith

pub deepest_is : (all : List Field) (i found last : ℕ) → length all ≤ i → Deepens all i found → last ≡ min (found + 1) 1000 → last ≡ min 1000 (suc (deepest (members_of all)))
deepest_is all i found last l w h = one_more found (deepest (members_of all)) last (no_more all i found l w) h

pub found_most : (all : List Field) (i found : ℕ) → Deepens all i found → found ≤ 1000
found_most all i found w = omega arith

pub deep_is : (d x : ℕ) → d ≡ min 1000 x → nat_le 1000 d ≡ nat_le 1000 x
deep_is d x h = grind (arith, nat_tests)
