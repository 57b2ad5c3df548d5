-- Lines, one after the other.
use Rattle.std.proofs.Common.{◌≡◌, ℕ, ◌+◌, ◌<◌, ◌≤◌, List, [], ◌∷◌, ◌++◌, length, map, drop, get_or, min, refl, sym, ap, subst, ◌∙◌, append_assoc, append-nil, arith, length-drop}
use Rattle.std.proofs.lemmas.List.{at_drop_more, length-map}
use Rattle.fourvec.specs.declared.Bit.{Bit}
use Rattle.svtv_report.specs.Texts.{Text, value_line, value_lines, verdict_text, report}
use Rattle.svtv_verdicts.specs.Verdicts.{Verdict}

pub drop_at : {A : Type 0} (all : List A) (i : ℕ) (x : A) → i < length all → x ≡ get_or all i x → drop i all ≡ x ∷ drop (i + 1) all
drop_at {A} all i x inside is = at_drop_more (λ (l : List A). l) all i x inside ∙ ap (λ (y : A). y ∷ drop (i + 1) all) (sym is)

pub behind : (text line rest whole pushed : Text) → whole ≡ text ++ (line ++ rest) → pushed ≡ text ++ line → whole ≡ pushed ++ rest
behind text line rest whole pushed before after = before ∙ sym (append_assoc text line rest) ∙ ap (λ (t : Text). t ++ rest) (sym after)

-- ---- names with values

lines_are : (before : Text) (names : List Text) (values : List (List Bit)) (name : Text) (v : List Bit) (more : List Text) (others : List (List Bit))
    → names ≡ name ∷ more → values ≡ v ∷ others → value_lines before names values ≡ value_line before name v ++ value_lines before more others
unfolding value_lines
lines_are before names values name v more others p q = λ i. value_lines before (p i) (q i)

no_lines : (before : Text) (names : List Text) (values : List (List Bit)) → min (length names) (length values) ≡ 0 → value_lines before names values ≡ []
unfolding value_lines
no_lines before [] values none = refl
no_lines before (name ∷ names) [] none = refl
no_lines before (name ∷ names) (v ∷ values) none = absurd (omega arith)

-- a text with one line more
pub line_pushed : {A : Type 0} (f : A → Text) (before whole text pushed : Text) (all : List A) (values : List (List Bit)) (i next : ℕ) (x : A) (v : List Bit)
    → next ≡ i + 1 → i < length all → i < length values → x ≡ get_or all i x → v ≡ get_or values i v
    → whole ≡ text ++ value_lines before (map f (drop i all)) (drop i values) → pushed ≡ text ++ value_line before (f x) v
    → whole ≡ pushed ++ value_lines before (map f (drop next all)) (drop next values)
line_pushed f before whole text pushed all values i next x v further inside inside_values is is_value rest after =
    subst (λ (n : ℕ). whole ≡ pushed ++ value_lines before (map f (drop n all)) (drop n values)) (sym further)
    (behind text (value_line before (f x) v) (value_lines before (map f (drop (i + 1) all)) (drop (i + 1) values)) whole pushed
    (rest ∙ ap (λ (t : Text). text ++ t) (lines_are before _ _ (f x) v (map f (drop (i + 1) all)) (drop (i + 1) values) (ap (map f) (drop_at all i x inside is)) (drop_at values i v inside_values is_value)))
    after)

-- a text of all lines
pub lines_end : {A : Type 0} (f : A → Text) (before whole text : Text) (all : List A) (values : List (List Bit)) (i : ℕ) → i ≡ min (length all) (length values)
    → whole ≡ text ++ value_lines before (map f (drop i all)) (drop i values) → text ≡ whole
lines_end f before whole text all values i is rest =
    sym (rest ∙ ap (λ (t : Text). text ++ t) (no_lines before (map f (drop i all)) (drop i values) (rw (length-map, length-drop i all, length-drop i values) (omega arith))) ∙ append-nil text)

-- ---- goals

goals_are : (vars samples : List Text) (names : List Text) (verdicts : List Verdict) (shown : List (List (List Bit))) (name : Text) (v : Verdict) (s : List (List Bit))
    (more : List Text) (others : List Verdict) (behind_shown : List (List (List Bit)))
    → names ≡ name ∷ more → verdicts ≡ v ∷ others → shown ≡ s ∷ behind_shown
    → report vars samples names verdicts shown ≡ verdict_text vars samples name v s ++ report vars samples more others behind_shown
unfolding report
goals_are vars samples names verdicts shown name v s more others behind_shown p q r = λ i. report vars samples (p i) (q i) (r i)

no_goals : (vars samples : List Text) (names : List Text) (verdicts : List Verdict) (shown : List (List (List Bit))) → length names ≡ 0 → report vars samples names verdicts shown ≡ []
unfolding report
no_goals vars samples [] verdicts shown none = refl
no_goals vars samples (name ∷ names) verdicts shown none = absurd (omega arith)

-- a text with one goal more
pub goal_pushed : {A : Type 0} (f : A → Verdict) (vars samples : List Text) (whole text pushed : Text) (names : List Text) (verdicts : List A) (shown : List (List (List Bit))) (i : ℕ) (name : Text) (v : A) (s : List (List Bit))
    → i < length names → length verdicts ≡ length names → length shown ≡ length names → name ≡ get_or names i name → v ≡ get_or verdicts i v → s ≡ get_or shown i s
    → whole ≡ text ++ report vars samples (drop i names) (map f (drop i verdicts)) (drop i shown) → pushed ≡ text ++ verdict_text vars samples name (f v) s
    → whole ≡ pushed ++ report vars samples (drop (i + 1) names) (map f (drop (i + 1) verdicts)) (drop (i + 1) shown)
goal_pushed f vars samples whole text pushed names verdicts shown i name v s inside same_verdicts same_shown is is_verdict is_shown rest after =
    behind text (verdict_text vars samples name (f v) s) (report vars samples (drop (i + 1) names) (map f (drop (i + 1) verdicts)) (drop (i + 1) shown)) whole pushed
    (rest ∙ ap (λ (t : Text). text ++ t) (goals_are vars samples _ _ _ name (f v) s (drop (i + 1) names) (map f (drop (i + 1) verdicts)) (drop (i + 1) shown)
    (drop_at names i name inside is) (ap (map f) (drop_at verdicts i v (omega arith) is_verdict)) (drop_at shown i s (omega arith) is_shown)))
    after

-- a text of all goals
pub goals_end : (vars samples : List Text) (whole text : Text) (names : List Text) (verdicts : List Verdict) (shown : List (List (List Bit))) (i : ℕ) → length names ≤ i
    → whole ≡ text ++ report vars samples (drop i names) verdicts shown → text ≡ whole
goals_end vars samples whole text names verdicts shown i all_told rest =
    sym (rest ∙ ap (λ (t : Text). text ++ t) (no_goals vars samples (drop i names) verdicts shown (rw length-drop (omega arith))) ∙ append-nil text)

-- the lines of one goal are its report
pub one_goal : (vars samples : List Text) (name : Text) (v : Verdict) (s : List (List Bit)) (text : Text) → text ≡ verdict_text vars samples name v s → text ≡ report vars samples (name ∷ []) (v ∷ []) (s ∷ [])
unfolding report
one_goal vars samples name v s text e = e ∙ sym (append-nil (verdict_text vars samples name v s))
