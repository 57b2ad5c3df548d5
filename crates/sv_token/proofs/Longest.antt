-- Longest matches of the forms.
use Rattle.std.proofs.Common.{◌≡◌, ℕ, zero, suc, ◌+◌, ◌<◌, ◌≤◌, ◌-◌, inl, inr, List, [], ◌∷◌, length, take, Bool, true, false, refl, sym, ◌∙◌, ap, subst, arith, if◌then◌else◌}
use Rattle.std.specs.Prelude.{◌==◌, ◌&&◌, not}
use Rattle.std.proofs.lemmas.Bool.{cases_lt}
use Rattle.std.specs.List.{list_all}
use Rattle.sv_token.specs.Cut.{longest, longest_up_to, run, behind}
use Rattle.sv_outside.specs.Words.{headed}
use Rattle.sv_outside.specs.Literals.{behind_mark, is_value, starts_value, goes_value, without_sign, is_sign, is_fill, is_fill_digit}
use Rattle.sv_token.specs.Forms.{is_body, is_mark}
use Rattle.sv_token.specs.Scan.{IsLongest, headed_scan, mark_scan_behind, value_scan, signed_scan, body_scan, fill_scan, mark_scan}

-- ---- the longest match is the one that no longer one passes

pub both_ways : {A : Type 0} (v w : Bool) → v ≡ true → v ≡ false → A
both_ways true w e f = absurd (let h : true ≡ false = f in cc)
both_ways false w e f = absurd (let h : false ≡ true = e in cc)

up_to : (test : List ℕ → Bool) (text : List ℕ) (n : ℕ) → IsLongest test text n → (k : ℕ) → n ≤ k → k ≤ length text → longest_up_to test text k ≡ n
unfolding longest_up_to
up_to test text n l zero h w = omega (arith, h)
up_to test text n l (suc k) h w = by (up_to test text n l k) (test (take (suc k) text)) refl
  where
    by : (n ≤ k → k ≤ length text → longest_up_to test text k ≡ n) → (v : Bool) → test (take (suc k) text) ≡ v → (if v then suc k else longest_up_to test text k) ≡ n
    by again true e = elim (cases_lt n (suc k)) [
      | inl less ↦ both_ways (test (take (suc k) text)) true e (l.longer (suc k) less w)
      | inr more ↦ omega (arith, more, h)
    ]
    by again false e = elim (cases_lt n (suc k)) [
      | inl less ↦ again (omega (arith, less)) (omega (arith, w))
      | inr more ↦ (let same : n ≡ suc k = omega (arith, more, h) in
          both_ways (test (take (suc k) text)) true (subst (λ i. test (take i text) ≡ true) same (l.fits (omega (arith, same)))) e)
    ]

pub longest_is : (test : List ℕ → Bool) (text : List ℕ) (n : ℕ) → IsLongest test text n → longest test text ≡ n
unfolding longest
longest_is test text n l = up_to test text n l (length text) l.within (omega arith)

pub longest_same : (P Q : List ℕ → Bool) (text : List ℕ) (n : ℕ) → ((m : ℕ) → m ≤ length text → P (take m text) ≡ Q (take m text)) → IsLongest P text n → IsLongest Q text n
longest_same P Q text n h l = record {
  within = l.within;
  fits = λ some. sym (h n l.within) ∙ l.fits some;
  longer = λ m more w. sym (h m w) ∙ l.longer m more w;
}

-- nothing passes in a text that is empty
nothing_there : (P : List ℕ → Bool) → IsLongest P [] 0
nothing_there P = record {
  within = omega arith;
  fits = λ h. absurd (omega (arith, h));
  longer = λ m h w. absurd (omega (arith, h, w));
}

-- nothing passes where the first byte does not
none_passes : (P : List ℕ → Bool) (b : ℕ) (bs : List ℕ) → ((rest : List ℕ) → P (b ∷ rest) ≡ false) → IsLongest P (b ∷ bs) 0
none_passes P b bs h = record {
  within = omega arith;
  fits = λ some. absurd (omega (arith, some));
  longer = none;
}
  where
    none : (m : ℕ) → 0 < m → m ≤ length (b ∷ bs) → P (take m (b ∷ bs)) ≡ false
    none zero some w = absurd (omega (arith, some))
    none (suc m) some w = h (take m bs)

-- ---- runs

pub run_within : (goes : ℕ → Bool) (bs : List ℕ) → run goes bs ≤ length bs
unfolding run
run_within goes [] = omega arith
run_within goes (b ∷ bs) = by (run_within goes bs) (goes b)
  where
    by : run goes bs ≤ length bs → (v : Bool) → (if v then suc (run goes bs) else 0) ≤ suc (length bs)
    by again true = omega (arith, again)
    by again false = omega arith

run_all : (goes : ℕ → Bool) (bs : List ℕ) → list_all goes (take (run goes bs) bs) ≡ true
unfolding run
run_all goes [] = refl
run_all goes (b ∷ bs) = by (run_all goes bs) (goes b) refl
  where
    by : list_all goes (take (run goes bs) bs) ≡ true → (v : Bool) → goes b ≡ v → list_all goes (take (if v then suc (run goes bs) else 0) (b ∷ bs)) ≡ true
    by again true e = rw e again
    by again false e = refl

run_over : (goes : ℕ → Bool) (bs : List ℕ) (m : ℕ) → run goes bs < m → m ≤ length bs → list_all goes (take m bs) ≡ false
unfolding run
run_over goes bs zero h w = absurd (omega (arith, h))
run_over goes [] (suc m) h w = absurd (omega (arith, w))
run_over goes (b ∷ bs) (suc m) h w = by (run_over goes bs m) (goes b) refl h
  where
    by : (run goes bs < m → m ≤ length bs → list_all goes (take m bs) ≡ false) → (v : Bool) → goes b ≡ v → (if v then suc (run goes bs) else 0) < suc m
        → (goes b && list_all goes (take m bs)) ≡ false
    by again true e more = rw e (again (omega (arith, more)) (omega (arith, w)))
    by again false e more = rw e refl

-- ---- forms

pub headed_is : (starts goes : ℕ → Bool) (text : List ℕ) → IsLongest (headed starts goes) text (headed_scan starts goes text)
unfolding headed_scan
headed_is starts goes [] = nothing_there (headed starts goes)
headed_is starts goes (b ∷ bs) = by (starts b) refl
  where
    over : (v : Bool) → starts b ≡ v → (m : ℕ) → suc (run goes bs) < m → m ≤ suc (length bs) → headed starts goes (take m (b ∷ bs)) ≡ false
    over v e zero h w = absurd (omega (arith, h))
    over true e (suc m) h w = rw (e, run_over goes bs m (omega (arith, h)) (omega (arith, w))) refl
    over false e (suc m) h w = rw e refl

    by : (v : Bool) → starts b ≡ v → IsLongest (headed starts goes) (b ∷ bs) (if v then suc (run goes bs) else 0)
    by true e = record {
      within = omega (arith, run_within goes bs);
      fits = λ some. rw (e, run_all goes bs) refl;
      longer = over true e;
    }
    by false e = none_passes (headed starts goes) b bs (λ rest. rw e refl)

-- a byte before a form that is not empty
pub marked_is : (mark : ℕ) (form : List ℕ → Bool) (scan : List ℕ → ℕ) → form [] ≡ false → ((text : List ℕ) → IsLongest form text (scan text))
    → (text : List ℕ) → IsLongest (behind_mark mark form) text (mark_scan_behind mark scan text)
unfolding mark_scan_behind
marked_is mark form scan empty l [] = nothing_there (behind_mark mark form)
marked_is mark form scan empty l (b ∷ bs) = by (b == mark) refl
  where
    some_is : (n : ℕ) → (b == mark) ≡ true → IsLongest form bs n → IsLongest (behind_mark mark form) (b ∷ bs) (behind 1 n)
    some_is zero e l = record {
      within = omega arith;
      fits = λ some. absurd (omega (arith, some));
      longer = over;
    }
      where
        over : (m : ℕ) → 0 < m → m ≤ suc (length bs) → behind_mark mark form (take m (b ∷ bs)) ≡ false
        over zero h w = absurd (omega (arith, h))
        over (suc zero) h w = rw (e, empty) refl
        over (suc (suc m)) h w = rw (e, l.longer (suc m) (omega arith) (omega (arith, w))) refl
    some_is (suc n) e l = record {
      within = omega (arith, l.within);
      fits = λ some. rw (sym one_more, e) (l.fits (omega arith));
      longer = over;
    }
      where
        one_more : suc (suc n) ≡ 1 + suc n
        one_more = omega arith

        over : (m : ℕ) → 1 + suc n < m → m ≤ suc (length bs) → behind_mark mark form (take m (b ∷ bs)) ≡ false
        over zero h w = absurd (omega (arith, h))
        over (suc m) h w = rw (e, l.longer m (omega (arith, h)) (omega (arith, w))) refl

    by : (v : Bool) → (b == mark) ≡ v → IsLongest (behind_mark mark form) (b ∷ bs) (if v then behind 1 (scan bs) else 0)
    by true e = some_is (scan bs) e (l bs)
    by false e = none_passes (behind_mark mark form) b bs (λ rest. rw e refl)

pub value_is : (text : List ℕ) → IsLongest is_value text (value_scan text)
unfolding value_scan
value_is [] = nothing_there is_value
value_is (base ∷ []) = record {
  within = omega arith;
  fits = λ some. absurd (omega (arith, some));
  longer = over;
}
  where
    over : (m : ℕ) → 0 < m → m ≤ 1 → is_value (take m (base ∷ [])) ≡ false
    over zero h w = absurd (omega (arith, h))
    over (suc zero) h w = refl
    over (suc (suc m)) h w = absurd (omega (arith, w))
value_is (base ∷ first ∷ bs) = by (starts_value base first) refl
  where
    over : (m : ℕ) → suc (suc (run (goes_value base first) bs)) < m → m ≤ suc (suc (length bs)) → is_value (take m (base ∷ first ∷ bs)) ≡ false
    over zero h w = absurd (omega (arith, h))
    over (suc zero) h w = refl
    over (suc (suc m)) h w = both (starts_value base first) (run_over (goes_value base first) bs m (omega (arith, h)) (omega (arith, w)))
      where
        both : (v : Bool) → list_all (goes_value base first) (take m bs) ≡ false → (v && list_all (goes_value base first) (take m bs)) ≡ false
        both true e = e
        both false e = refl

    none : starts_value base first ≡ false → (m : ℕ) → 0 < m → m ≤ suc (suc (length bs)) → is_value (take m (base ∷ first ∷ bs)) ≡ false
    none e zero h w = absurd (omega (arith, h))
    none e (suc zero) h w = refl
    none e (suc (suc m)) h w = rw e refl

    by : (v : Bool) → starts_value base first ≡ v → IsLongest is_value (base ∷ first ∷ bs) (if v then suc (suc (run (goes_value base first) bs)) else 0)
    by true e = record {
      within = omega (arith, run_within (goes_value base first) bs);
      fits = λ some. rw (e, run_all (goes_value base first) bs) refl;
      longer = over;
    }
    by false e = record {
      within = omega arith;
      fits = λ some. absurd (omega (arith, some));
      longer = none e;
    }

abbrev pub is_signed_value : List ℕ → Bool
is_signed_value t = is_value (without_sign t)

pub signed_is : (text : List ℕ) → IsLongest is_signed_value text (signed_scan text)
unfolding signed_scan
signed_is [] = nothing_there is_signed_value
signed_is (b ∷ bs) = by (is_sign b) refl
  where
    some_is : (n : ℕ) → is_sign b ≡ true → IsLongest is_value bs n → IsLongest is_signed_value (b ∷ bs) (behind 1 n)
    some_is zero e l = record {
      within = omega arith;
      fits = λ some. absurd (omega (arith, some));
      longer = over;
    }
      where
        over : (m : ℕ) → 0 < m → m ≤ suc (length bs) → is_signed_value (take m (b ∷ bs)) ≡ false
        over zero h w = absurd (omega (arith, h))
        over (suc zero) h w = rw e refl
        over (suc (suc m)) h w = rw e (l.longer (suc m) (omega arith) (omega (arith, w)))
    some_is (suc n) e l = record {
      within = omega (arith, l.within);
      fits = λ some. rw (sym one_more, e) (l.fits (omega arith));
      longer = over;
    }
      where
        one_more : suc (suc n) ≡ 1 + suc n
        one_more = omega arith

        over : (m : ℕ) → 1 + suc n < m → m ≤ suc (length bs) → is_signed_value (take m (b ∷ bs)) ≡ false
        over zero h w = absurd (omega (arith, h))
        over (suc m) h w = rw e (l.longer m (omega (arith, h)) (omega (arith, w)))

    as_it_is : is_sign b ≡ false → (m : ℕ) → m ≤ length (b ∷ bs) → is_value (take m (b ∷ bs)) ≡ is_signed_value (take m (b ∷ bs))
    as_it_is e zero w = refl
    as_it_is e (suc m) w = rw e refl

    by : (v : Bool) → is_sign b ≡ v → IsLongest is_signed_value (b ∷ bs) (if v then behind 1 (value_scan bs) else value_scan (b ∷ bs))
    by true e = some_is (value_scan bs) e (value_is bs)
    by false e = longest_same is_value is_signed_value (b ∷ bs) (value_scan (b ∷ bs)) (as_it_is e) (value_is (b ∷ bs))

pub fill_is : (text : List ℕ) → IsLongest is_fill text (fill_scan text)
unfolding fill_scan
fill_is [] = nothing_there is_fill
fill_is (b ∷ []) = record {
  within = omega arith;
  fits = λ some. absurd (omega (arith, some));
  longer = over;
}
  where
    over : (m : ℕ) → 0 < m → m ≤ 1 → is_fill (take m (b ∷ [])) ≡ false
    over zero h w = absurd (omega (arith, h))
    over (suc zero) h w = refl
    over (suc (suc m)) h w = absurd (omega (arith, w))
fill_is (b ∷ c ∷ bs) = by ((b == 39) && is_fill_digit c) refl
  where
    three : (m : ℕ) (bs : List ℕ) → suc m ≤ length bs → is_fill (b ∷ c ∷ take (suc m) bs) ≡ false
    three m [] w = absurd (omega (arith, w))
    three m (d ∷ bs) w = refl

    over : (m : ℕ) → 2 < m → m ≤ suc (suc (length bs)) → is_fill (take m (b ∷ c ∷ bs)) ≡ false
    over zero h w = absurd (omega (arith, h))
    over (suc zero) h w = absurd (omega (arith, h))
    over (suc (suc zero)) h w = absurd (omega (arith, h))
    over (suc (suc (suc m))) h w = three m bs (omega (arith, w))

    none : ((b == 39) && is_fill_digit c) ≡ false → (m : ℕ) → 0 < m → m ≤ suc (suc (length bs)) → is_fill (take m (b ∷ c ∷ bs)) ≡ false
    none e zero h w = absurd (omega (arith, h))
    none e (suc zero) h w = refl
    none e (suc (suc zero)) h w = e
    none e (suc (suc (suc m))) h w = three m bs (omega (arith, w))

    by : (v : Bool) → ((b == 39) && is_fill_digit c) ≡ v → IsLongest is_fill (b ∷ c ∷ bs) (if v then 2 else 0)
    by true e = record {
      within = omega arith;
      fits = λ some. e;
      longer = over;
    }
    by false e = record {
      within = omega arith;
      fits = λ some. absurd (omega (arith, some));
      longer = none e;
    }

-- marks have three bytes at most
mark_four : (a b c : ℕ) (m : ℕ) (bs : List ℕ) → suc m ≤ length bs → is_mark (a ∷ b ∷ c ∷ take (suc m) bs) ≡ false
mark_four a b c m [] w = absurd (omega (arith, w))
mark_four a b c m (d ∷ bs) w = refl

-- the greatest of three lengths that passes
three_tries : (P : List ℕ → Bool) (text : List ℕ) (k : ℕ) → k ≤ length text → ((m : ℕ) → k < m → m ≤ length text → P (take m text) ≡ false) → (other : ℕ) → other < k
    → ((P (take k text)) ≡ false → IsLongest P text other) → IsLongest P text (if P (take k text) then k else other)
three_tries P text k w over other less l = by (P (take k text)) refl
  where
    by : (v : Bool) → P (take k text) ≡ v → IsLongest P text (if v then k else other)
    by true e = record { within = w; fits = λ some. e; longer = over }
    by false e = l e

lower : (P : List ℕ → Bool) (text : List ℕ) (k : ℕ) → ((m : ℕ) → suc k < m → m ≤ length text → P (take m text) ≡ false) → P (take (suc k) text) ≡ false
    → (m : ℕ) → k < m → m ≤ length text → P (take m text) ≡ false
lower P text k over e m h w = elim (cases_lt (suc k) m) [
  | inl less ↦ over m less w
  | inr more ↦ (let same : suc k ≡ m = omega (arith, more, h) in subst (λ i. P (take i text) ≡ false) same e)
]

pub mark_is : (text : List ℕ) → IsLongest is_mark text (mark_scan text)
unfolding mark_scan
mark_is [] = nothing_there is_mark
mark_is (a ∷ []) = three_tries is_mark (a ∷ []) 1 (omega arith) (λ m h w. absurd (omega (arith, h, w))) 0 (omega arith)
    (λ e. record { within = omega arith; fits = λ some. absurd (omega (arith, some)); longer = lower is_mark (a ∷ []) 0 (λ m h w. absurd (omega (arith, h, w))) e })
mark_is (a ∷ b ∷ []) = three_tries is_mark (a ∷ b ∷ []) 2 (omega arith) none (if is_mark (a ∷ []) then 1 else 0) (small (is_mark (a ∷ [])))
    (λ e. three_tries is_mark (a ∷ b ∷ []) 1 (omega arith) (lower is_mark (a ∷ b ∷ []) 1 none e) 0 (omega arith)
    (λ f. record { within = omega arith; fits = λ some. absurd (omega (arith, some)); longer = lower is_mark (a ∷ b ∷ []) 0 (lower is_mark (a ∷ b ∷ []) 1 none e) f }))
  where
    none : (m : ℕ) → 2 < m → m ≤ 2 → is_mark (take m (a ∷ b ∷ [])) ≡ false
    none m h w = absurd (omega (arith, h, w))

    small : (v : Bool) → (if v then 1 else 0) < 2
    small true = omega arith
    small false = omega arith
mark_is (a ∷ b ∷ c ∷ bs) = three_tries is_mark (a ∷ b ∷ c ∷ bs) 3 (omega arith) none (if is_mark (a ∷ b ∷ []) then 2 else if is_mark (a ∷ []) then 1 else 0) (small (is_mark (a ∷ b ∷ [])) (is_mark (a ∷ [])))
    (λ d. three_tries is_mark (a ∷ b ∷ c ∷ bs) 2 (omega arith) (lower is_mark (a ∷ b ∷ c ∷ bs) 2 none d) (if is_mark (a ∷ []) then 1 else 0) (smaller (is_mark (a ∷ [])))
    (λ e. three_tries is_mark (a ∷ b ∷ c ∷ bs) 1 (omega arith) (lower is_mark (a ∷ b ∷ c ∷ bs) 1 (lower is_mark (a ∷ b ∷ c ∷ bs) 2 none d) e) 0 (omega arith)
    (λ f. record { within = omega arith; fits = λ some. absurd (omega (arith, some)); longer = lower is_mark (a ∷ b ∷ c ∷ bs) 0 (lower is_mark (a ∷ b ∷ c ∷ bs) 1 (lower is_mark (a ∷ b ∷ c ∷ bs) 2 none d) e) f })))
  where
    none : (m : ℕ) → 3 < m → m ≤ suc (suc (suc (length bs))) → is_mark (take m (a ∷ b ∷ c ∷ bs)) ≡ false
    none zero h w = absurd (omega (arith, h))
    none (suc zero) h w = absurd (omega (arith, h))
    none (suc (suc zero)) h w = absurd (omega (arith, h))
    none (suc (suc (suc zero))) h w = absurd (omega (arith, h))
    none (suc (suc (suc (suc m)))) h w = mark_four a b c m bs (omega (arith, w))

    smaller : (v : Bool) → (if v then 1 else 0) < 2
    smaller true = omega arith
    smaller false = omega arith

    small : (u v : Bool) → (if u then 2 else if v then 1 else 0) < 3
    small true v = omega arith
    small false true = omega arith
    small false false = omega arith

-- ---- a form behind so many bytes

pub shifted : (P Q : List ℕ → Bool) (k n : ℕ) (text rest : List ℕ) → length text ≡ k + length rest → ((j m : ℕ) → j ≡ k + m → m ≤ length rest → P (take j text) ≡ Q (take m rest))
    → ((m : ℕ) → 0 < m → m ≤ k → P (take m text) ≡ false) → IsLongest Q rest n → IsLongest P text (behind k n)
shifted P Q k zero text rest len same low l = record {
  within = omega arith;
  fits = λ some. absurd (omega (arith, some));
  longer = over;
}
  where
    over : (m : ℕ) → 0 < m → m ≤ length text → P (take m text) ≡ false
    over m h w = elim (cases_lt k m) [
      | inl less ↦ same m (m - k) (omega (arith, less)) (omega (arith, w, len)) ∙ l.longer (m - k) (omega (arith, less)) (omega (arith, w, len))
      | inr more ↦ low m h more
    ]
shifted P Q k (suc n) text rest len same low l = record {
  within = omega (arith, len, l.within);
  fits = λ some. same (k + suc n) (suc n) refl l.within ∙ l.fits (omega arith);
  longer = λ m h w. same m (m - k) (omega (arith, h)) (omega (arith, w, len)) ∙ l.longer (m - k) (omega (arith, h)) (omega (arith, w, len));
}

pub body_is : (text : List ℕ) → IsLongest is_body text (body_scan text)
unfolding body_scan
body_is [] = nothing_there is_body
body_is (b ∷ []) = by (b == 34) refl
  where
    over : (b == 34) ≡ false → (m : ℕ) → 0 < m → m ≤ 1 → is_body (take m (b ∷ [])) ≡ false
    over e zero h w = absurd (omega (arith, h))
    over e (suc zero) h w = e
    over e (suc (suc m)) h w = absurd (omega (arith, w))

    by : (v : Bool) → (b == 34) ≡ v → IsLongest is_body (b ∷ []) (if v then 1 else 0)
    by true e = record { within = omega arith; fits = λ some. e; longer = λ m h w. absurd (omega (arith, h, w)) }
    by false e = record { within = omega arith; fits = λ some. absurd (omega (arith, some)); longer = over e }
body_is (b ∷ c ∷ bs) = by_quote (body_is bs) (body_is (c ∷ bs)) (b == 34) refl
  where
    ended : (b == 34) ≡ true → (m : ℕ) → 1 < m → m ≤ suc (suc (length bs)) → is_body (take m (b ∷ c ∷ bs)) ≡ false
    ended e zero h w = absurd (omega (arith, h))
    ended e (suc zero) h w = absurd (omega (arith, h))
    ended e (suc (suc m)) h w = rw e refl

    broken : (b == 34) ≡ false → ((m : ℕ) → is_body (b ∷ c ∷ take m bs) ≡ false) → IsLongest is_body (b ∷ c ∷ bs) 0
    broken e f = record { within = omega arith; fits = λ some. absurd (omega (arith, some)); longer = over }
      where
        over : (m : ℕ) → 0 < m → m ≤ suc (suc (length bs)) → is_body (take m (b ∷ c ∷ bs)) ≡ false
        over zero h w = absurd (omega (arith, h))
        over (suc zero) h w = e
        over (suc (suc m)) h w = f m

    skip_at : (b == 34) ≡ false → (b == 10) ≡ false → (b == 92) ≡ true → (c == 10) ≡ false → (j m : ℕ) → j ≡ 2 + m → m ≤ length bs → is_body (take j (b ∷ c ∷ bs)) ≡ is_body (take m bs)
    skip_at q f s t zero m e w = absurd (omega (arith, e))
    skip_at q f s t (suc zero) m e w = absurd (omega (arith, e))
    skip_at q f s t (suc (suc j)) m e w = rw (q, f, s, t) (ap (λ i. is_body (take i bs)) (omega (arith, e)))

    skip_low : (b == 34) ≡ false → (b == 10) ≡ false → (b == 92) ≡ true → (m : ℕ) → 0 < m → m ≤ 2 → is_body (take m (b ∷ c ∷ bs)) ≡ false
    skip_low q f s zero h w = absurd (omega (arith, h))
    skip_low q f s (suc zero) h w = q
    skip_low q f s (suc (suc zero)) h w = rw (q, f, s) (never (not (c == 10)))
      where
        never : (v : Bool) → (v && false) ≡ false
        never true = refl
        never false = refl
    skip_low q f s (suc (suc (suc m))) h w = absurd (omega (arith, w))

    keep_at : (b == 34) ≡ false → (b == 10) ≡ false → (b == 92) ≡ false → (j m : ℕ) → j ≡ 1 + m → m ≤ suc (length bs) → is_body (take j (b ∷ c ∷ bs)) ≡ is_body (take m (c ∷ bs))
    keep_at q f s zero m e w = absurd (omega (arith, e))
    keep_at q f s (suc zero) zero e w = q
    keep_at q f s (suc zero) (suc m) e w = absurd (omega (arith, e))
    keep_at q f s (suc (suc j)) zero e w = absurd (omega (arith, e))
    keep_at q f s (suc (suc j)) (suc m) e w = rw (q, f, s) (ap (λ i. is_body (c ∷ take i bs)) (omega (arith, e)))

    keep_low : (b == 34) ≡ false → (m : ℕ) → 0 < m → m ≤ 1 → is_body (take m (b ∷ c ∷ bs)) ≡ false
    keep_low q zero h w = absurd (omega (arith, h))
    keep_low q (suc zero) h w = q
    keep_low q (suc (suc m)) h w = absurd (omega (arith, w))

    by_feed : IsLongest is_body bs (body_scan bs) → (v : Bool) → (b == 34) ≡ false → (b == 10) ≡ false → (b == 92) ≡ true → (c == 10) ≡ v
        → IsLongest is_body (b ∷ c ∷ bs) (if v then 0 else behind 2 (body_scan bs))
    by_feed l true q f s t = broken q (λ m. rw (q, f, s, t) refl)
    by_feed l false q f s t = shifted is_body is_body 2 (body_scan bs) (b ∷ c ∷ bs) bs (omega arith) (skip_at q f s t) (skip_low q f s) l

    by_slash : IsLongest is_body bs (body_scan bs) → IsLongest is_body (c ∷ bs) (body_scan (c ∷ bs)) → (v : Bool) → (b == 34) ≡ false → (b == 10) ≡ false → (b == 92) ≡ v
        → IsLongest is_body (b ∷ c ∷ bs) (if v then (if c == 10 then 0 else behind 2 (body_scan bs)) else behind 1 (body_scan (c ∷ bs)))
    by_slash k l true q f s = by_feed k (c == 10) q f s refl
    by_slash k l false q f s = shifted is_body is_body 1 (body_scan (c ∷ bs)) (b ∷ c ∷ bs) (c ∷ bs) (omega arith) (keep_at q f s) (keep_low q) l

    by_line : IsLongest is_body bs (body_scan bs) → IsLongest is_body (c ∷ bs) (body_scan (c ∷ bs)) → (v : Bool) → (b == 34) ≡ false → (b == 10) ≡ v
        → IsLongest is_body (b ∷ c ∷ bs) (if v then 0 else if b == 92 then (if c == 10 then 0 else behind 2 (body_scan bs)) else behind 1 (body_scan (c ∷ bs)))
    by_line k l true q f = broken q (λ m. rw (q, f) refl)
    by_line k l false q f = by_slash k l (b == 92) q f refl

    by_quote : IsLongest is_body bs (body_scan bs) → IsLongest is_body (c ∷ bs) (body_scan (c ∷ bs)) → (v : Bool) → (b == 34) ≡ v
        → IsLongest is_body (b ∷ c ∷ bs) (if v then 1 else if b == 10 then 0 else if b == 92 then (if c == 10 then 0 else behind 2 (body_scan bs)) else behind 1 (body_scan (c ∷ bs)))
    by_quote k l true q = record { within = omega arith; fits = λ some. q; longer = ended q }
    by_quote k l false q = by_line k l (b == 10) q refl
