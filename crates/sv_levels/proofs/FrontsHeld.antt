-- Places around one another as code makes them.
use Rattle.std.proofs.Common.{◌≡◌, List, [], ◌∷◌, ◌++◌, map, Result, Ok, Err, sym, ap, ◌∙◌, append_assoc}
use Rattle.std.specs.Result.{IfOk}
use Rattle.std.proofs.lemmas.List.{map-append}
use Rattle.sv_hierarchy.specs.Scopes as m
use Rattle.sv_levels.specs.declared.fronts.Fronts.{Fronts}
use Rattle.sv_levels.specs.declared.fronts.Fronts.TheVariants as v
use Rattle.sv_levels.specs.declared.fronts.Fronts.TheBlock.{shape-the_row-Fronts-0, hidden-the_row-Fronts-0}
use Rattle.sv_levels.specs.declared.levels.Front.{Front}
use Rattle.sv_levels.specs.Levels.{front_is, fronts_are}

pub within_made : (f : Front) (all around rest : Fronts) → all ≡ v.Within f around → around ≡ rest → fronts_are all ≡ fronts_are rest ++ front_is f ∷ []
unfolding shape-the_row-Fronts-0 hidden-the_row-Fronts-0 denote.Hole.Carrier.hidden
within_made f all around rest e h = rw e (ap (λ (x : Fronts). fronts_are x ++ front_is f ∷ []) h)

pub within_as : {E : Type 0} (f : Front) (r : Result Fronts E) (around rest : Fronts) → IfOk r (λ all. all ≡ v.Within f around) → around ≡ rest → IfOk r (λ all. fronts_are all ≡ fronts_are rest ++ front_is f ∷ [])
within_as f (Ok all) around rest e h = within_made f all around rest e h
within_as f (Err w) around rest e h = tt

-- one place more behind those that are collected
pub one_more : (f : Front) (all around rest : Fronts) (old before after : List Front) → all ≡ v.Within f around → rest ≡ around → map front_is before ≡ map front_is old ++ fronts_are rest → after ≡ before ++ f ∷ [] →
    map front_is after ≡ map front_is old ++ fronts_are all
one_more f all around rest old before after e h g p =
    ap (map front_is) p ∙ map-append front_is before (f ∷ []) ∙ ap (λ (x : List m.Front). x ++ front_is f ∷ []) g ∙ append_assoc (map front_is old) (fronts_are rest) (front_is f ∷ [])
    ∙ ap (λ (x : List m.Front). map front_is old ++ x) (sym (within_made f all around rest e (sym h)))

pub fronts_as : {E : Type 0} (r : Result Fronts E) (xs ys : List m.Front) → xs ≡ ys → IfOk r (λ x. fronts_are x ≡ xs) → IfOk r (λ x. fronts_are x ≡ ys)
fronts_as (Ok x) xs ys h e = e ∙ h
fronts_as (Err w) xs ys h e = tt

-- all places, behind none
pub collected : (none all : List Front) (x rest : Fronts) → none ≡ [] → map front_is all ≡ map front_is none ++ fronts_are x → x ≡ rest → map front_is all ≡ fronts_are rest
collected none all x rest e h g = h ∙ ap (λ (ys : List Front). map front_is ys ++ fronts_are x) e ∙ ap fronts_are g
