-- Steps of conditionals, whose list has the innermost last.
use Rattle.std.proofs.Common.{◌≡◌, List, [], ◌∷◌, ◌++◌, Bool, true, false, sym, ◌∙◌, ap, subst, reverse, ◌⊎◌}
use Rattle.std.specs.Prelude.{◌&&◌, ◌||◌, not}
use Rattle.std.proofs.lemmas.List.{reverse-append}
use Rattle.sv_token.specs.declared.lexer.Lined.{Lined}
use Rattle.sv_preproc.specs.declared.known.Frame.{Frame}
use Rattle.sv_preproc.specs.declared.role.Role.TheVariants as role
use Rattle.sv_preproc.specs.Roles.{role_of, is_word}
use Rattle.sv_preproc.specs.Directives.{Macros, has}
use Rattle.sv_preproc.specs.Reached.{Turns, endif, last_branch, one_more, Ends, IsMisplaced, unopened, after_last, nameless}

pub turned : (frames before : List Frame) (frame : Frame) → frames ≡ before ++ frame ∷ [] → reverse frames ≡ frame ∷ reverse before
turned frames before frame e = ap reverse e ∙ reverse-append before (frame ∷ [])

pub none_open : (frames : List Frame) (a : Lined) (ts : List Lined) → frames ≡ [] → IsMisplaced (reverse frames) a ts 5
none_open frames a ts e = unopened (ap reverse e)

pub behind_last : (frames before : List Frame) (frame : Frame) (a : Lined) (ts : List Lined) → frames ≡ before ++ frame ∷ [] → frame.last ≡ true
    → (role_of a.token ≡ role.Else) ⊎ (role_of a.token ≡ role.Elsif) → IsMisplaced (reverse frames) a ts 5
behind_last frames before frame a ts e l r = after_last (turned frames before frame e) l r

pub without_name : (frames : List Frame) (a : Lined) (ts : List Lined) → role_of a.token ≡ role.Elsif → ts ≡ [] → IsMisplaced frames a ts 2
without_name frames a ts r e = nameless r (λ name rest f. let bad : [] ≡ name ∷ rest = sym e ∙ f in absurd (cc))

pub without_word : (frames : List Frame) (a : Lined) (ts : List Lined) (name : Lined) (rest : List Lined) → role_of a.token ≡ role.Elsif → ts ≡ name ∷ rest → is_word name.token.kind ≡ false
    → IsMisplaced frames a ts 2
without_word frames a ts name rest r e w = nameless r (λ other more f. let same : name ∷ rest ≡ other ∷ more = sym e ∙ f in let here : name ≡ other = cc in subst (λ n. is_word n.token.kind ≡ false) here w)

pub closed : (macros : Macros) (frames before : List Frame) (frame : Frame) (a : Lined) (ts : List Lined) → frames ≡ before ++ frame ∷ [] → role_of a.token ≡ role.Endif
    → Turns macros (reverse frames) a ts frame.live (reverse before) ts
closed macros frames before frame a ts e r = (frame, reverse before, turned frames before frame e, endif r)

pub begun_last : (macros : Macros) (frames before later : List Frame) (frame : Frame) (live : Bool) (a : Lined) (ts : List Lined) → frames ≡ before ++ frame ∷ [] → role_of a.token ≡ role.Else
    → frame.last ≡ false → live ≡ (frame.live && not frame.taken) → later ≡ before ++ record { live = frame.live; taken = true; last = true } ∷ []
    → Turns macros (reverse frames) a ts live (reverse later) ts
begun_last macros frames before later frame live a ts e r l v w =
    let next : Frame = record { live = frame.live; taken = true; last = true } in (
      frame,
      reverse before,
      turned frames before frame e,
      subst (λ i. Ends macros frame (reverse before) a ts i (reverse later) ts) (sym v)
          (subst (λ i. Ends macros frame (reverse before) a ts (frame.live && not frame.taken) i ts) (sym (turned later before next w)) (last_branch r l)),
    )

pub begun_next : (macros : Macros) (frames before later : List Frame) (frame : Frame) (live taken holds : Bool) (a : Lined) (ts : List Lined) (name : Lined) (rest : List Lined)
    → frames ≡ before ++ frame ∷ [] → role_of a.token ≡ role.Elsif → frame.last ≡ false → ts ≡ name ∷ rest → is_word name.token.kind ≡ true → holds ≡ has name.token.text macros
    → live ≡ (frame.live && not frame.taken && holds) → taken ≡ (frame.taken || holds) → later ≡ before ++ record { live = frame.live; taken = taken; last = false } ∷ []
    → Turns macros (reverse frames) a ts live (reverse later) rest
begun_next macros frames before later frame live taken holds a ts name rest e r l n k h v t w =
    let known : Bool = has name.token.text macros in
    let next : Frame = record { live = frame.live; taken = frame.taken || known; last = false } in
    let there : later ≡ before ++ next ∷ [] = w ∙ ap (λ (i : Bool). before ++ record { live = frame.live; taken = i; last = false } ∷ []) (t ∙ ap (λ i. frame.taken || i) h) in
    let inside : live ≡ (frame.live && not frame.taken && known) = v ∙ ap (λ i. frame.live && not frame.taken && i) h in (
      frame,
      reverse before,
      turned frames before frame e,
      subst (λ i. Ends macros frame (reverse before) a ts i (reverse later) rest) (sym inside)
          (subst (λ i. Ends macros frame (reverse before) a ts (frame.live && not frame.taken && known) i rest) (sym (turned later before next there)) (one_more r l n k)),
    )
