-- The scan of a token finds the longest match.
use Rattle.std.proofs.Common.{◌≡◌, ℕ, zero, suc, ◌<◌, ◌≤◌, List, [], ◌∷◌, length, take, drop, Bool, true, false, refl, sym, subst, arith, if◌then◌else◌, Option, Some, None, ◌⊎◌, inl, inr}
use Rattle.std.specs.Prelude.{◌==◌, ◌&&◌, ◌||◌, not, is_some}
use Rattle.std.specs.List.{list_any, list_all}
use Rattle.std.specs.Str.{bytes_eq}
use Rattle.std.proofs.lemmas.Bool.{eqb-true}
use Rattle.std.proofs.lemmas.Slice.Eq.{bytes_eq-Decides}
use Rattle.sv_outside.specs.declared.text.Kind.{Kind}
use Rattle.sv_outside.specs.declared.text.Kind.TheVariants as kind
use Rattle.sv_token.specs.declared.front.Front.{Front}
use Rattle.sv_token.specs.declared.front.Front.TheVariants.{Nothing, Piece}
use Rattle.sv_token.specs.Cut.{longest, is_token, named, run, behind, front, opens, gap_of, comment_length}
use Rattle.sv_outside.specs.Words.{is_word, starts_word, goes_on, is_digit}
use Rattle.sv_outside.specs.Literals.{behind_mark, is_literal}
use Rattle.sv_token.specs.Forms.{is_blank, is_continue, kind_of, is_system, is_quoted, is_directive, is_mark, is_body, singles, counting, comparing, joining, pointing, triples}
use Rattle.sv_token.specs.Scan.{IsLongest, token_scan, found_or, headed_scan, mark_scan_behind, word_scan, system_scan, literal_scan, quoted_scan, directive_scan, body_scan, mark_scan}
use Rattle.sv_token.proofs.Longest.{both_ways, longest_is, headed_is, marked_is, body_is, mark_is}
use Rattle.sv_token.proofs.Literals.{literal_is, no_fill}

abbrev pub scanned : Option (Kind × ℕ) → Front
scanned None = Nothing
scanned (Some p) = Piece p.0 p.1

-- ---- what is found

abbrev Finds : (List ℕ → Option Kind) → List ℕ → Option (Kind × ℕ) → Type 0
Finds K text None = IsLongest (λ t. is_some (K t)) text 0
Finds K text (Some p) = IsLongest (λ t. is_some (K t)) text p.1 × (0 < p.1) × (K (take p.1 text) ≡ Some p.0)

abbrev or_kind : (List ℕ → Bool) → Kind → (List ℕ → Option Kind) → List ℕ → Option Kind
or_kind P k K t = if P t then Some k else K t

found_more : (P : List ℕ → Bool) (k : Kind) (K : List ℕ → Option Kind) (m : ℕ) (text : List ℕ) (r : Option (Kind × ℕ)) → IsLongest P text m
    → (0 < m → (j : ℕ) → m < j → j ≤ length text → K (take j text) ≡ None) → Finds K text r → Finds (or_kind P k K) text (found_or m k r)
found_more P k K zero text None l apart f = record {
  within = f.within;
  fits = λ some. absurd (omega (arith, some));
  longer = λ j h w. rw (l.longer j h w) (f.longer j h w);
}
found_more P k K zero text (Some p) l apart f = (
  record {
    within = f.0.within;
    fits = λ some. rw (l.longer p.1 some f.0.within) (f.0.fits some);
    longer = λ j h w. rw (l.longer j (omega (arith, h)) w) (f.0.longer j h w);
  },
  f.1,
  rw (l.longer p.1 f.1 f.0.within) f.2,
)
found_more P k K (suc m) text r l apart f = (
  record {
    within = l.within;
    fits = λ some. rw (l.fits some) refl;
    longer = λ j h w. rw (l.longer j h w, apart (omega arith) j h w) refl;
  },
  omega arith,
  rw (l.fits (omega arith)) refl,
)

shown : (K : List ℕ → Option Kind) (text : List ℕ) (r : Option (Kind × ℕ)) → K [] ≡ None → Finds K text r → named (K (take (longest (λ t. is_some (K t)) text) text)) (longest (λ t. is_some (K t)) text) ≡ scanned r
shown K text None e f = rw (longest_is (λ t. is_some (K t)) text 0 f, e) refl
shown K text (Some p) e f = rw (longest_is (λ t. is_some (K t)) text p.1 f.0, f.2) refl

-- ---- no two kinds begin with one byte, but for the quote of a literal and of a mark

apart_at : (f : ℕ → Bool) (b k : ℕ) → f b ≡ true → f k ≡ false → (b == k) ≡ false
apart_at f b k e h = by (b == k) refl
  where
    by : (v : Bool) → (b == k) ≡ v → (b == k) ≡ false
    by true same = both_ways (f b) true e (subst (λ i. f i ≡ false) (sym (eqb-true b k same)) h)
    by false same = same

none_equal : (f : ℕ → Bool) (b : ℕ) (ks : List ℕ) → f b ≡ true → list_all (λ k. not (f k)) ks ≡ true → list_any (λ k. b == k) ks ≡ false
none_equal f b [] e h = refl
none_equal f b (k ∷ ks) e h = by (none_equal f b ks e) (f k) refl h
  where
    by : (list_all (λ k. not (f k)) ks ≡ true → list_any (λ k. b == k) ks ≡ false) → (v : Bool) → f k ≡ v → (not v && list_all (λ k. not (f k)) ks) ≡ true
        → ((b == k) || list_any (λ k. b == k) ks) ≡ false
    by again true g h = absurd (let bad : false ≡ true = h in cc)
    by again false g h = rw (apart_at f b k e g, again h) refl

none_among : (g : List ℕ → Bool) (t : List ℕ) (ts : List (List ℕ)) → g t ≡ true → list_all (λ u. not (g u)) ts ≡ true → list_any (bytes_eq t) ts ≡ false
none_among g t [] e h = refl
none_among g t (u ∷ ts) e h = by (none_among g t ts e) (g u) refl h
  where
    differ : g u ≡ false → (v : Bool) → bytes_eq t u ≡ v → bytes_eq t u ≡ false
    differ f true same = both_ways (g t) true e (subst (λ i. g i ≡ false) (sym ((bytes_eq-Decides t u).0 same)) f)
    differ f false same = same

    by : (list_all (λ u. not (g u)) ts ≡ true → list_any (bytes_eq t) ts ≡ false) → (v : Bool) → g u ≡ v → (not v && list_all (λ u. not (g u)) ts) ≡ true
        → (bytes_eq t u || list_any (bytes_eq t) ts) ≡ false
    by again true f h = absurd (let bad : false ≡ true = h in cc)
    by again false f h = rw (differ f (bytes_eq t u) refl, again h) refl

abbrev first_is : (ℕ → Bool) → List ℕ → Bool
first_is f [] = false
first_is f (b ∷ bs) = f b

-- what begins a word, a number, a system name, a quoted text or a directive
abbrev leads : ℕ → Bool
leads b = starts_word b || is_digit b || (b == 36) || (b == 34) || (b == 96)

no_mark : (b : ℕ) (rest : List ℕ) → leads b ≡ true → is_mark (b ∷ rest) ≡ false
no_mark b [] e = none_equal leads b singles e refl
no_mark b (c ∷ []) e = rw (
  none_among (first_is leads) (b ∷ c ∷ []) counting e refl,
  none_among (first_is leads) (b ∷ c ∷ []) comparing e refl,
  none_among (first_is leads) (b ∷ c ∷ []) joining e refl,
  none_among (first_is leads) (b ∷ c ∷ []) pointing e refl,
) refl
no_mark b (c ∷ d ∷ []) e = none_among (first_is leads) (b ∷ c ∷ d ∷ []) triples e refl
no_mark b (c ∷ d ∷ x ∷ bs) e = refl

-- the only mark that begins with a quote is the quote
no_tick_mark : (c : ℕ) (rest : List ℕ) → is_mark (39 ∷ c ∷ rest) ≡ false
no_tick_mark c [] = rw (
  none_among (first_is (λ b. b == 39)) (39 ∷ c ∷ []) counting refl refl,
  none_among (first_is (λ b. b == 39)) (39 ∷ c ∷ []) comparing refl refl,
  none_among (first_is (λ b. b == 39)) (39 ∷ c ∷ []) joining refl refl,
  none_among (first_is (λ b. b == 39)) (39 ∷ c ∷ []) pointing refl refl,
) refl
no_tick_mark c (d ∷ []) = none_among (first_is (λ b. b == 39)) (39 ∷ c ∷ d ∷ []) triples refl refl
no_tick_mark c (d ∷ x ∷ bs) = refl

no_literal : (b : ℕ) (rest : List ℕ) → is_digit b ≡ false → (b == 39) ≡ false → is_literal (b ∷ rest) ≡ false
no_literal b rest d q = rw (d, q, no_fill b rest q) refl

word_no_digit : (b : ℕ) → starts_word b ≡ true → is_digit b ≡ false
word_no_digit b e = grind arith

-- ---- the kinds in order

abbrev from_mark : List ℕ → Option Kind
from_mark = or_kind is_mark kind.Mark (λ t. None)

abbrev from_directive : List ℕ → Option Kind
from_directive = or_kind is_directive kind.Directive from_mark

abbrev from_quoted : List ℕ → Option Kind
from_quoted = or_kind is_quoted kind.Quoted from_directive

abbrev from_literal : List ℕ → Option Kind
from_literal = or_kind is_literal kind.Literal from_quoted

abbrev from_system : List ℕ → Option Kind
from_system = or_kind is_system kind.System from_literal

abbrev from_word : List ℕ → Option Kind
from_word = or_kind is_word kind.Word from_system

none_left : (P : List ℕ → Bool) (k : Kind) (K : List ℕ → Option Kind) (t : List ℕ) → P t ≡ false → K t ≡ None → or_kind P k K t ≡ None
none_left P k K t e f = rw e f

no_marked : (k b : ℕ) (form : List ℕ → Bool) (rest : List ℕ) → (b == k) ≡ false → behind_mark k form (b ∷ rest) ≡ false
no_marked k b form rest e = rw e refl

no_mark_left : (b : ℕ) (rest : List ℕ) → is_mark (b ∷ rest) ≡ false → from_mark (b ∷ rest) ≡ None
no_mark_left b rest e = none_left is_mark kind.Mark (λ t. None) (b ∷ rest) e refl

no_directive_left : (b : ℕ) (rest : List ℕ) → (b == 96) ≡ false → is_mark (b ∷ rest) ≡ false → from_directive (b ∷ rest) ≡ None
no_directive_left b rest d e = none_left is_directive kind.Directive from_mark (b ∷ rest) (no_marked 96 b is_word rest d) (no_mark_left b rest e)

no_quoted_left : (b : ℕ) (rest : List ℕ) → (b == 34) ≡ false → (b == 96) ≡ false → is_mark (b ∷ rest) ≡ false → from_quoted (b ∷ rest) ≡ None
no_quoted_left b rest q d e = none_left is_quoted kind.Quoted from_directive (b ∷ rest) (no_marked 34 b is_body rest q) (no_directive_left b rest d e)

no_literal_left : (b : ℕ) (rest : List ℕ) → is_digit b ≡ false → (b == 39) ≡ false → (b == 34) ≡ false → (b == 96) ≡ false → is_mark (b ∷ rest) ≡ false → from_literal (b ∷ rest) ≡ None
no_literal_left b rest n t q d e = none_left is_literal kind.Literal from_quoted (b ∷ rest) (no_literal b rest n t) (no_quoted_left b rest q d e)

word_leads : (u v w x y : Bool) → u ≡ true → (u || v || w || x || y) ≡ true
word_leads u v w x y e = rw e refl

digit_leads : (u v w x y : Bool) → v ≡ true → (u || v || w || x || y) ≡ true
digit_leads true v w x y e = refl
digit_leads false v w x y e = rw e refl

after_word : (b : ℕ) (rest : List ℕ) → starts_word b ≡ true → from_system (b ∷ rest) ≡ None
after_word b rest e = none_left is_system kind.System from_literal (b ∷ rest) (no_marked 36 b is_word rest (apart_at starts_word b 36 e refl))
    (no_literal_left b rest (word_no_digit b e) (apart_at starts_word b 39 e refl) (apart_at starts_word b 34 e refl) (apart_at starts_word b 96 e refl)
    (no_mark b rest (word_leads (starts_word b) (is_digit b) (b == 36) (b == 34) (b == 96) e)))

after_digit : (b : ℕ) (rest : List ℕ) → is_digit b ≡ true → from_quoted (b ∷ rest) ≡ None
after_digit b rest e = no_quoted_left b rest (apart_at is_digit b 34 e refl) (apart_at is_digit b 96 e refl)
    (no_mark b rest (digit_leads (starts_word b) (is_digit b) (b == 36) (b == 34) (b == 96) e))

after_tick : (b c : ℕ) (rest : List ℕ) → b ≡ 39 → from_quoted (b ∷ c ∷ rest) ≡ None
after_tick b c rest e = subst (λ i. from_quoted (i ∷ c ∷ rest) ≡ None) (sym e) (no_quoted_left 39 (c ∷ rest) refl refl (no_tick_mark c rest))

after_system : (b : ℕ) (rest : List ℕ) → b ≡ 36 → from_literal (b ∷ rest) ≡ None
after_system b rest e = subst (λ i. from_literal (i ∷ rest) ≡ None) (sym e) (no_literal_left 36 rest refl refl refl refl (no_mark 36 rest refl))

after_quoted : (b : ℕ) (rest : List ℕ) → b ≡ 34 → from_directive (b ∷ rest) ≡ None
after_quoted b rest e = subst (λ i. from_directive (i ∷ rest) ≡ None) (sym e) (no_directive_left 34 rest refl (no_mark 34 rest refl))

after_directive : (b : ℕ) (rest : List ℕ) → b ≡ 96 → from_mark (b ∷ rest) ≡ None
after_directive b rest e = subst (λ i. from_mark (i ∷ rest) ≡ None) (sym e) (no_mark_left 96 rest (no_mark 96 rest refl))

-- ---- what a form that is found begins with

lead_headed : (starts goes : ℕ → Bool) (b : ℕ) (bs : List ℕ) → 0 < headed_scan starts goes (b ∷ bs) → starts b ≡ true
unfolding headed_scan
lead_headed starts goes b bs h = by (starts b) refl h
  where
    by : (v : Bool) → starts b ≡ v → 0 < (if v then suc (run goes bs) else 0) → starts b ≡ true
    by true e h = e
    by false e h = absurd (omega (arith, h))

lead_marked : (mark : ℕ) (scan : List ℕ → ℕ) (b : ℕ) (bs : List ℕ) → 0 < mark_scan_behind mark scan (b ∷ bs) → b ≡ mark
unfolding mark_scan_behind
lead_marked mark scan b bs h = by (b == mark) refl h
  where
    by : (v : Bool) → (b == mark) ≡ v → 0 < (if v then behind 1 (scan bs) else 0) → b ≡ mark
    by true e h = eqb-true b mark e
    by false e h = absurd (omega (arith, h))

lead_literal : (b : ℕ) (bs : List ℕ) → (n : ℕ) → is_literal (take (suc n) (b ∷ bs)) ≡ true → (u v : Bool) → is_digit b ≡ u → (b == 39) ≡ v → (is_digit b ≡ true) ⊎ (b ≡ 39)
lead_literal b bs n l true v d q = inl d
lead_literal b bs n l false true d q = inr (eqb-true b 39 q)
lead_literal b bs n l false false d q = both_ways (is_literal (b ∷ take n bs)) true l (no_literal b (take n bs) d q)

-- then no later kind is there
taken : (K : List ℕ → Option Kind) (b : ℕ) (bs : List ℕ) (m : ℕ) → ((rest : List ℕ) → K (b ∷ rest) ≡ None) → (j : ℕ) → m < j → j ≤ length (b ∷ bs) → K (take j (b ∷ bs)) ≡ None
taken K b bs m none zero h w = absurd (omega (arith, h))
taken K b bs m none (suc j) h w = none (take j bs)

taken_two : (K : List ℕ → Option Kind) (b : ℕ) (bs : List ℕ) (m : ℕ) → 0 < m → ((c : ℕ) (rest : List ℕ) → K (b ∷ c ∷ rest) ≡ None) → (j : ℕ) → m < j → j ≤ length (b ∷ bs) → K (take j (b ∷ bs)) ≡ None
taken_two K b bs m some none zero h w = absurd (omega (arith, h))
taken_two K b bs m some none (suc zero) h w = absurd (omega (arith, h, some))
taken_two K b [] m some none (suc (suc j)) h w = absurd (omega (arith, w))
taken_two K b (c ∷ bs) m some none (suc (suc j)) h w = none c (take j bs)

literal_alone : (b : ℕ) (bs : List ℕ) (n : ℕ) → literal_scan (b ∷ bs) ≡ n → 0 < n → (j : ℕ) → n < j → j ≤ length (b ∷ bs) → from_quoted (take j (b ∷ bs)) ≡ None
literal_alone b bs zero e h = absurd (omega (arith, h))
literal_alone b bs (suc n) e h = elim (lead_literal b bs n (subst (λ m. is_literal (take m (b ∷ bs)) ≡ true) e ((literal_is (b ∷ bs)).fits (rw e (omega arith)))) (is_digit b) (b == 39) refl refl) [
  | inl digit ↦ taken from_quoted b bs (suc n) (λ rest. after_digit b rest digit)
  | inr tick ↦ taken_two from_quoted b bs (suc n) h (λ c rest. after_tick b c rest tick)
]

word_is : (text : List ℕ) → IsLongest is_word text (word_scan text)
unfolding word_scan
word_is text = headed_is starts_word goes_on text

system_is : (text : List ℕ) → IsLongest is_system text (system_scan text)
unfolding system_scan
system_is text = marked_is 36 is_word word_scan refl word_is text

directive_is : (text : List ℕ) → IsLongest is_directive text (directive_scan text)
unfolding directive_scan
directive_is text = marked_is 96 is_word word_scan refl word_is text

quoted_is : (text : List ℕ) → IsLongest is_quoted text (quoted_scan text)
unfolding quoted_scan
quoted_is text = marked_is 34 is_body body_scan refl body_is text

lead_word : (b : ℕ) (bs : List ℕ) → 0 < word_scan (b ∷ bs) → starts_word b ≡ true
unfolding word_scan
lead_word b bs h = lead_headed starts_word goes_on b bs h

lead_system : (b : ℕ) (bs : List ℕ) → 0 < system_scan (b ∷ bs) → b ≡ 36
unfolding system_scan
lead_system b bs h = lead_marked 36 word_scan b bs h

lead_directive : (b : ℕ) (bs : List ℕ) → 0 < directive_scan (b ∷ bs) → b ≡ 96
unfolding directive_scan
lead_directive b bs h = lead_marked 96 word_scan b bs h

lead_quoted : (b : ℕ) (bs : List ℕ) → 0 < quoted_scan (b ∷ bs) → b ≡ 34
unfolding quoted_scan
lead_quoted b bs h = lead_marked 34 body_scan b bs h

nothing_found : (text : List ℕ) → Finds (λ t. None) text None
nothing_found text = record {
  within = omega arith;
  fits = λ some. absurd (omega (arith, some));
  longer = λ m h w. refl;
}

found : (b : ℕ) (bs : List ℕ) → Finds from_word (b ∷ bs) (token_scan (b ∷ bs))
unfolding token_scan
found b bs =
    let text : List ℕ = b ∷ bs in
    found_more is_word kind.Word from_system (word_scan text) text _ (word_is text) (λ some. taken from_system b bs (word_scan text) (λ rest. after_word b rest (lead_word b bs some)))
    (found_more is_system kind.System from_literal (system_scan text) text _ (system_is text) (λ some. taken from_literal b bs (system_scan text) (λ rest. after_system b rest (lead_system b bs some)))
    (found_more is_literal kind.Literal from_quoted (literal_scan text) text _ (literal_is text) (λ some. literal_alone b bs (literal_scan text) refl some)
    (found_more is_quoted kind.Quoted from_directive (quoted_scan text) text _ (quoted_is text) (λ some. taken from_directive b bs (quoted_scan text) (λ rest. after_quoted b rest (lead_quoted b bs some)))
    (found_more is_directive kind.Directive from_mark (directive_scan text) text _ (directive_is text) (λ some. taken from_mark b bs (directive_scan text) (λ rest. after_directive b rest (lead_directive b bs some)))
    (found_more is_mark kind.Mark (λ t. None) (mark_scan text) text None (mark_is text) (λ some j h w. refl) (nothing_found text))))))

pub token_is : (b : ℕ) (bs : List ℕ) → named (kind_of (take (longest is_token (b ∷ bs)) (b ∷ bs))) (longest is_token (b ∷ bs)) ≡ scanned (token_scan (b ∷ bs))
unfolding kind_of
token_is b bs = shown from_word (b ∷ bs) (token_scan (b ∷ bs)) refl (found b bs)

-- ---- the front of a text

pub front_block : (b : ℕ) (bs text : List ℕ) → text ≡ b ∷ bs → is_blank b ≡ false → opens 47 47 text ≡ false → opens 47 42 text ≡ true
    → front text ≡ gap_of (behind 2 (comment_length (drop 2 text)))
unfolding front
front_block b bs text e k l o = rw e (rw (k, rw e at l, rw e at o) refl)

pub front_token : (b : ℕ) (bs text : List ℕ) → text ≡ b ∷ bs → is_blank b ≡ false → opens 47 47 text ≡ false → opens 47 42 text ≡ false → is_continue text ≡ false
    → front text ≡ scanned (token_scan text)
unfolding front
front_token b bs text e k l o c = rw e (rw (k, rw e at l, rw e at o, rw e at c) (token_is b bs))
