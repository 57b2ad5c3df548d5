-- The last declaration of a list, put on and taken off.
use Rattle.std.proofs.Common.{◌≡◌, ℕ, List, [], ◌∷◌, ◌++◌, length, get_or, refl, sym, ap, ◌∙◌, subst, arith, All}
use Rattle.std.proofs.lemmas.List.{append-nil, map-append}
use Rattle.std.proofs.lemmas.List.Elements.{All-push}
use Rattle.std.proofs.Math.ListN.{get_or-append, length-append}
use Rattle.sv_names.specs.Kinds.{Entry, EntryIsSound, WhatIsSound, names_of}
use Rattle.sv_names.specs.Linked.{IsLinked}
use Rattle.sv_names.specs.declared.links.Links.{Links}

-- ---- put on

pub sound_push : (old all : List Entry) (last : Entry) → all ≡ old ++ last ∷ [] → WhatIsSound last.1 → All EntryIsSound old → All EntryIsSound all
sound_push old all last e h k = subst (All EntryIsSound) (sym e) (All-push EntryIsSound old last k h)

pub linked_push : (links new : Links) (old all : List Entry) (last : Entry) (name : List ℕ) → name ≡ last.0 → all ≡ old ++ last ∷ []
    → ((names : List (List ℕ)) → IsLinked links names → IsLinked new (names ++ name ∷ [])) → IsLinked links (names_of old) → IsLinked new (names_of all)
linked_push links new old all last name q e f h =
    subst (IsLinked new) (sym (ap names_of e ∙ map-append (λ (x : Entry). x.0) old (last ∷ []) ∙ ap (λ (x : List ℕ). names_of old ++ x ∷ []) (sym q))) (f (names_of old) h)

-- ---- taken off

pub sound_front : (old new : List Entry) (last : Entry) → old ≡ new ++ last ∷ [] → All EntryIsSound old → All EntryIsSound new
sound_front old new last e h = λ k d l.
    subst EntryIsSound (ap (λ (x : List Entry). get_or x k d) e ∙ get_or-append new (last ∷ []) d k l) (h k d (omega (arith, ap length e, length-append new (last ∷ []))))

pub linked_front : (links : Links) (old new : List Entry) (last : Entry) (name : List ℕ) → name ≡ last.0 → old ≡ new ++ last ∷ [] → IsLinked links (names_of old) → IsLinked links (names_of new ++ name ∷ [])
linked_front links old new last name q e h = subst (IsLinked links) (ap names_of e ∙ map-append (λ (x : Entry). x.0) new (last ∷ []) ∙ ap (λ (x : List ℕ). names_of new ++ x ∷ []) (sym q)) h

pub same_list : (old new : List Entry) → old ≡ new ++ [] → old ≡ new
same_list old new e = e ∙ append-nil new

pub no_entries : (all : List Entry) → length all ≡ 0 → all ≡ []
no_entries [] h = refl
no_entries (x ∷ all) h = cc
