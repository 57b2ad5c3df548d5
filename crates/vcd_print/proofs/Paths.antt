-- Paths in parts.
use Rattle.std.proofs.Common.{◌≡◌, ◌≢◌, false, suc, ◌-◌, ◌<◌, List, [], ◌∷◌, length, take, get_or, All, length-append, refl, ap, ◌∙◌, arith}
use Rattle.std.proofs.lemmas.Bool.{ne_eqb}
use Rattle.std.proofs.lemmas.List.Splits.{slice_split_none, slice_split_at, length-slice_split}
use Rattle.vcd_text.specs.Words.{Text}
use Rattle.vcd_text.specs.Waves.{but_last}
use Rattle.vcd_print.specs.Printed.{is_dot, parts_of, scopes_of, last_of, name_of, IsCut}

some_parts : (path : Text) → 0 < length (parts_of path)
some_parts path = omega (arith, length-slice_split is_dot path)

no_dots : (part : Text) → All (λ b. b ≢ 46) part → All (λ b. is_dot b ≡ false) part
no_dots part h = λ k d within. ne_eqb (get_or part k d) 46 (h k d within)

cut_parts : (path part rest : Text) → IsCut path part rest → parts_of path ≡ part ∷ parts_of rest
cut_parts path part rest c = ap parts_of c.is ∙ slice_split_at is_dot part 46 rest (no_dots part c.whole) refl

front_more : (a : Text) (list : List Text) → 0 < length list → but_last (a ∷ list) ≡ a ∷ but_last list
front_more a list h = let e : length (a ∷ list) - 1 ≡ suc (length list - 1) = omega (arith, h) in ap (λ n. take n (a ∷ list)) e

last_more : (a : Text) (list : List Text) → 0 < length list → last_of (a ∷ list) ≡ last_of list
unfolding last_of
last_more a [] h = absurd (omega (arith, h))
last_more a (b ∷ list) h = refl

pub cut_scopes : (path part rest : Text) → IsCut path part rest → scopes_of path ≡ part ∷ scopes_of rest
cut_scopes path part rest c = ap but_last (cut_parts path part rest c) ∙ front_more part (parts_of rest) (some_parts rest)

pub cut_name : (path part rest : Text) → IsCut path part rest → name_of path ≡ name_of rest
cut_name path part rest c = ap last_of (cut_parts path part rest c) ∙ last_more part (parts_of rest) (some_parts rest)

pub uncut_scopes : (path : Text) → All (λ b. b ≢ 46) path → scopes_of path ≡ []
uncut_scopes path h = ap but_last (slice_split_none is_dot path (no_dots path h))

pub uncut_name : (path : Text) → All (λ b. b ≢ 46) path → name_of path ≡ path
unfolding last_of
uncut_name path h = ap last_of (slice_split_none is_dot path (no_dots path h))

pub cut_shorter : (path part rest : Text) → IsCut path part rest → length rest < length path
cut_shorter path part rest c = omega (arith, ap length c.is ∙ length-append part (46 ∷ rest))
