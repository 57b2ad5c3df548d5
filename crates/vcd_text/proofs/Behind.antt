-- Behind the declarations scopes and signals say nothing of what may come, and neither do the changes so far.
use Rattle.std.proofs.Common.{◌≡◌, ◌⊎◌, inl, inr, ℕ, Bool, true, false, not, List, [], ◌∷◌, ◌++◌, Option, None, Some, refl, sym, subst, append_assoc, append-nil}
use Rattle.std.specs.Prelude.{nat_le, if◌then◌else◌}
use Rattle.fourvec.specs.declared.Bit.{Bit}
use Rattle.vcd_text.specs.declared.waves.VcdVar.{VcdVar}
use Rattle.vcd_text.specs.declared.role.Role.{Role}
use Rattle.vcd_text.specs.declared.role.Role.TheVariants.{Scope, Upscope, Var, Ending, Skipped, Dump, End, Other}
use Rattle.vcd_text.specs.declared.role.Lead.{Lead}
use Rattle.vcd_text.specs.declared.role.Lead.TheVariants.{Time, Scalar, Vector, Real, Nothing}
use Rattle.vcd_text.specs.Words.{Text, Word}
use Rattle.vcd_text.specs.Forms.{is_code, is_end, is_real, are_bits, number_to, most_time, bits_of, role_of, lead_of, chain}
use Rattle.vcd_text.specs.Waves.{Change, with_change}
use Rattle.vcd_text.specs.Steps.{Wait, between, scope_kind, scope_name, scope_end, up_end, var_kind, var_width, var_code, var_name, var_range, var_end, ending_end, skipping, vector_code, real_code, State, at, behind, goes, lead_step, change_step, role_step, first_step, wait_step, step}

-- what is waited for behind the declarations
abbrev pub IsRest : Wait → Type 0
IsRest between = Unit {0}
IsRest skipping = Unit {0}
IsRest (vector_code digits) = Unit {0}
IsRest real_code = Unit {0}
IsRest wait = ⊥

-- a word is taken alike: with these scopes, signals and changes so far, and with none
pub record Alike (scopes : List Text) (vars : List VcdVar) (changes : List Change) (full bare : Option State) : Type 0 where
  pub wait : Wait
  pub told : List Change
  pub dumping : Bool
  pub time : ℕ
  pub rest : IsRest wait
  pub bare_is : bare ≡ Some (at wait (behind [] [] told dumping time))
  pub full_is : full ≡ Some (at wait (behind scopes vars (changes ++ told) dumping time))

-- or it is taken in neither case
abbrev pub Both : List Text → List VcdVar → List Change → Option State → Option State → Type 0
Both scopes vars changes full bare = ((full ≡ None) × (bare ≡ None)) ⊎ Alike scopes vars changes full bare

goes_both : (scopes : List Text) (vars : List VcdVar) (changes told : List Change) (b : Bool) (wait : Wait) (dumping : Bool) (time : ℕ) → IsRest wait
    → Both scopes vars changes (goes b wait (behind scopes vars (changes ++ told) dumping time)) (goes b wait (behind [] [] told dumping time))
goes_both scopes vars changes told true wait dumping time rest = inr (record { wait = wait; told = told; dumping = dumping; time = time; rest = rest; bare_is = refl; full_is = refl })
goes_both scopes vars changes told false wait dumping time rest = inl (refl, refl)

change_both : (scopes : List Text) (vars : List VcdVar) (changes : List Change) (b : Bool) (dumping : Bool) (time : ℕ) (code : Text) (bits : List Bit)
    → Both scopes vars changes (goes b between (with_change (behind scopes vars (changes ++ []) dumping time) code bits)) (goes b between (with_change (behind [] [] [] dumping time) code bits))
change_both scopes vars changes b dumping time code bits =
    let c : Change = record { time = time; code = code; bits = bits } in
    subst (λ l. Both scopes vars changes (goes b between (behind scopes vars l dumping time)) (goes b between (behind [] [] (c ∷ []) dumping time))) (sym (append_assoc changes [] (c ∷ [])))
    (goes_both scopes vars changes (c ∷ []) b between dumping time tt)

code_both : (scopes : List Text) (vars : List VcdVar) (changes : List Change) (dumping : Bool) (time : ℕ) (b : Bool) (code : Text) (o : Option (List Bit))
    → Both scopes vars changes (chain o (λ bits. goes b between (with_change (behind scopes vars (changes ++ []) dumping time) code bits)))
    (chain o (λ bits. goes b between (with_change (behind [] [] [] dumping time) code bits)))
code_both scopes vars changes dumping time b code None = inl (refl, refl)
code_both scopes vars changes dumping time b code (Some bits) = change_both scopes vars changes b dumping time code bits

time_both : (scopes : List Text) (vars : List VcdVar) (changes : List Change) (dumping : Bool) (time : ℕ) (o : Option ℕ)
    → Both scopes vars changes (chain o (λ t. goes (nat_le time t) between (behind scopes vars (changes ++ []) dumping t))) (chain o (λ t. goes (nat_le time t) between (behind [] [] [] dumping t)))
time_both scopes vars changes dumping time None = inl (refl, refl)
time_both scopes vars changes dumping time (Some t) = goes_both scopes vars changes [] (nat_le time t) between dumping t tt

lead_both : (scopes : List Text) (vars : List VcdVar) (changes : List Change) (dumping : Bool) (time : ℕ) (rest : Text) (l : Lead)
    → Both scopes vars changes (lead_step (behind scopes vars (changes ++ []) dumping time) rest l) (lead_step (behind [] [] [] dumping time) rest l)
lead_both scopes vars changes dumping time rest Time = time_both scopes vars changes dumping time (number_to most_time rest)
lead_both scopes vars changes dumping time rest (Scalar b) = change_both scopes vars changes (is_code rest) dumping time rest (b ∷ [])
lead_both scopes vars changes dumping time rest Vector = goes_both scopes vars changes [] (are_bits rest) (vector_code rest) dumping time tt
lead_both scopes vars changes dumping time rest Real = goes_both scopes vars changes [] (is_real rest) real_code dumping time tt
lead_both scopes vars changes dumping time rest Nothing = inl (refl, refl)

change_step_both : (scopes : List Text) (vars : List VcdVar) (changes : List Change) (dumping : Bool) (time : ℕ) (t : Text)
    → Both scopes vars changes (change_step (behind scopes vars (changes ++ []) dumping time) t) (change_step (behind [] [] [] dumping time) t)
unfolding change_step
change_step_both scopes vars changes dumping time [] = inl (refl, refl)
change_step_both scopes vars changes dumping time (b ∷ rest) = lead_both scopes vars changes dumping time rest (lead_of b)

role_both : (scopes : List Text) (vars : List VcdVar) (changes : List Change) (dumping : Bool) (time : ℕ) (t : Text) (r : Role)
    → Both scopes vars changes (role_step (behind scopes vars (changes ++ []) dumping time) t r) (role_step (behind [] [] [] dumping time) t r)
role_both scopes vars changes dumping time t Scope = inl (refl, refl)
role_both scopes vars changes dumping time t Upscope = inl (refl, refl)
role_both scopes vars changes dumping time t Var = inl (refl, refl)
role_both scopes vars changes dumping time t Ending = inl (refl, refl)
role_both scopes vars changes dumping time t Skipped = goes_both scopes vars changes [] true skipping dumping time tt
role_both scopes vars changes dumping time t Dump = goes_both scopes vars changes [] (not dumping) between true time tt
role_both scopes vars changes dumping time t End = goes_both scopes vars changes [] dumping between false time tt
role_both scopes vars changes dumping time t Other = change_step_both scopes vars changes dumping time t

skip_both : (scopes : List Text) (vars : List VcdVar) (changes : List Change) (dumping : Bool) (time : ℕ) (b : Bool)
    → Both scopes vars changes (goes true (if b then between else skipping) (behind scopes vars (changes ++ []) dumping time)) (goes true (if b then between else skipping) (behind [] [] [] dumping time))
skip_both scopes vars changes dumping time true = goes_both scopes vars changes [] true between dumping time tt
skip_both scopes vars changes dumping time false = goes_both scopes vars changes [] true skipping dumping time tt

wait_both : (scopes : List Text) (vars : List VcdVar) (changes : List Change) (dumping : Bool) (time : ℕ) (wait : Wait) (w : Word) → IsRest wait
    → Both scopes vars changes (wait_step wait (behind scopes vars (changes ++ []) dumping time) w) (wait_step wait (behind [] [] [] dumping time) w)
unfolding wait_step first_step
wait_both scopes vars changes dumping time between w rest = role_both scopes vars changes dumping time w.text (role_of w.text)
wait_both scopes vars changes dumping time skipping w rest = skip_both scopes vars changes dumping time (is_end w.text)
wait_both scopes vars changes dumping time (vector_code digits) w rest = code_both scopes vars changes dumping time (is_code w.text) w.text (bits_of digits)
wait_both scopes vars changes dumping time real_code w rest = goes_both scopes vars changes [] (is_code w.text) between dumping time tt
wait_both scopes vars changes dumping time scope_kind w rest = absurd rest
wait_both scopes vars changes dumping time scope_name w rest = absurd rest
wait_both scopes vars changes dumping time (scope_end name) w rest = absurd rest
wait_both scopes vars changes dumping time up_end w rest = absurd rest
wait_both scopes vars changes dumping time var_kind w rest = absurd rest
wait_both scopes vars changes dumping time (var_width kind) w rest = absurd rest
wait_both scopes vars changes dumping time (var_code kind width) w rest = absurd rest
wait_both scopes vars changes dumping time (var_name kind width code) w rest = absurd rest
wait_both scopes vars changes dumping time (var_range kind width code name place) w rest = absurd rest
wait_both scopes vars changes dumping time (var_end kind width code name place) w rest = absurd rest
wait_both scopes vars changes dumping time ending_end w rest = absurd rest

pub step_both : (scopes : List Text) (vars : List VcdVar) (changes : List Change) (dumping : Bool) (time : ℕ) (wait : Wait) (w : Word) → IsRest wait
    → Both scopes vars changes (step (at wait (behind scopes vars changes dumping time)) w) (step (at wait (behind [] [] [] dumping time)) w)
step_both scopes vars changes dumping time wait w rest =
    subst (λ l. Both scopes vars changes (step (at wait (behind scopes vars l dumping time)) w) (step (at wait (behind [] [] [] dumping time)) w)) (append-nil changes)
    (wait_both scopes vars changes dumping time wait w rest)
