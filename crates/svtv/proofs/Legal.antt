-- Legal files are not refused, but for wide loops of the design where it is to be proved something.
use Rattle.std.proofs.Common.{◌≡◌, ◌⊎◌, ℕ, ◌-◌, ◌<◌, ◌^◌, List, [], length, Option, Some, None, Ok, Err, refl, sym, ◌∙◌, ap, subst, inl, inr, arith}
use Rattle.std.specs.Prelude.{All, IfSome, Contains}
use Rattle.cnf.specs.Formula.{Formula}
use Rattle.design_loops.specs.Loops.{HasWideLoop}
use Rattle.fourvec.specs.declared.Bit.{Bit}
use Rattle.goal_text.specs.Faults.{goal_faults}
use Rattle.goal_text.specs.Goals.{HasCause, IsCut, Spell}
use Rattle.goal_tree.specs.Goals.{IsGoals, goals_depths}
use Rattle.goal_tree.specs.Parsed as goals
use Rattle.goal_tree.specs.Reading as goals_reading
use Rattle.goal_tree.specs.declared.tree.GoalTree.{GoalTree}
use Rattle.goal_tree.proofs.Laws as goals_laws
use Rattle.lrat_text.specs.Certs.{CertText}
use Rattle.lrat_text.specs.Reading as certs
use Rattle.lrat_text.proofs.Whole.{one_cert, refused}
use Rattle.refute_check.specs.Entry.{Entry}
use Rattle.sv_cursor.specs.Parsers.{Outcome}
use Rattle.sv_cursor.specs.declared.error.ParseErr.TheVariants.{Memory, Syntax, TooDeep}
use Rattle.sv_elab.specs.Elaborated.{sound_design}
use Rattle.sv_meaning.specs.Designs.{Design}
use Rattle.sv_outside.specs.Text.{TokenList}
use Rattle.sv_outside.specs.declared.refusal.Place.{Place}
use Rattle.sv_outside.specs.declared.refusal.Refusal.{Refusal}
use Rattle.sv_outside.specs.declared.refusal.TextErr.TheVariants.{No}
use Rattle.sv_outside.specs.declared.text.Signal.{Signal}
use Rattle.sv_outside.specs.declared.text.Token.{Token}
use Rattle.sv_parser.specs.Answers.{IsSpelled, Decides}
use Rattle.sv_parser.specs.Source.{source}
use Rattle.sv_parser.specs.Whole.{IsSyntax, IsDeep}
use Rattle.sv_parser.proofs.Laws.{decides}
use Rattle.sv_preproc.specs.Directives.{IsWholeText}
use Rattle.sv_preproc.specs.Laws as laws
use Rattle.sv_preproc.proofs.Refusals.{none_stops}
use Rattle.sv_preproc.proofs.Unique.{one_list, possible_told}
use Rattle.sv_token.specs.Cut.{past, start}
use Rattle.sv_token.proofs.Cutting.{lines_within, none_refused, one_list_of}
use Rattle.sv_tree.specs.Nesting.{Depths, IsTooDeep}
use Rattle.sv_tree.specs.NestingDesign.{source_depths}
use Rattle.sv_tree.specs.declared.design.Source.{Source}
use Rattle.svtv_table.specs.Binding.{bind_faults}
use Rattle.svtv_table.specs.Faults.{first_of}
use Rattle.svtv_table.specs.Fields.{IsRecords}
use Rattle.svtv_table.specs.Reading.{table_faults, table_of}
use Rattle.svtv_table.specs.Valuing.{values_faults}
use Rattle.svtv_table.specs.declared.bound.Sample.{Sample}
use Rattle.svtv_table.specs.declared.bound.VarDecl.{VarDecl}
use Rattle.table_cells.specs.declared.table.Table.{Table}
use Rattle.svtv_files.specs.Files.{Text, Told, AreGoalsFile, IsDesignFile, IsTableText, course_of, samples_in, vars_of}
use Rattle.svtv.specs.Legal.{IsShallow, IsShort, IsLegalDesign, IsLegalTable, IsLegalSetup, IsLegalCert, IsLegalInduction, IsLegalWave, AreLegalGoals, AreLegalValues}
use Rattle.svtv_files.specs.Refusals.{BehindSetup, HasNoMachine, IsCourseFiles, IsCourseTooWide, IsFirstFault, HasGoal, IsBadCert, IsBadDump, IsGoalTooWide, IsGoalUnknown, IsInvariantHyp, IsSampledUnlike, IsSignalUnknown, RefusesCert, RefusesCheck, RefusesCourse, RefusesDesign, RefusesGoals, RefusesInduction, RefusesProof, RefusesSetup, RefusesSimulation, RefusesTable, RefusesValues, RefusesWave, TooLong}
use Rattle.vcd_text.specs.Waves.{Change, Wave, told_of_path}
use Rattle.vcd_text.specs.declared.waves.VcdVar.{VcdVar}
use Rattle.svtv.proofs.Records.{one_records}

-- ---- texts

short : (told : Told) (name text : Text) (r : Refusal) → IsShort told name text → TooLong told name r → ⊥
short told name text r s h =
    let long = subst (λ (o : Option Text). IfSome o (λ bytes. 2 ^ 24 < length bytes)) s.is h.1 in omega (arith, long, s.most)

-- the text that is told is the only one
one_text : (told : Told) (name own text : Text) → IsShort told name text → laws.Possible told name own → own ≡ text
one_text told name own text s h = possible_told told name own text h s.is

-- what lies too deep in every tree lies so in this one
too_deep : {A : Type 0} (P : A → List Token → Type 0) (depths : A → Depths) (tokens : List Token) (k : ℕ) (x : A) → P x tokens → IsShallow (depths x) → IsTooDeep P depths tokens k → ⊥
too_deep P depths tokens k x p s h = s k (h.4 x tokens p refl)

-- ---- designs

one_tree : (tokens : List Token) (x y : Source) (o : Outcome Source) → Decides tokens o → IsSpelled x tokens → IsShallow (source_depths x) → IsSpelled y tokens → y ≡ x
one_tree tokens x y (Ok p) d h s k = d.2 y k ∙ sym (d.2 x h)
one_tree tokens x y (Err (Syntax left)) d h s k = absurd (d.1 x h)
one_tree tokens x y (Err (TooDeep deep left)) d h s k = absurd (too_deep IsSpelled source_depths tokens (length tokens - deep) x h s d)
one_tree tokens x y (Err Memory) d h s k = absurd d

same_tokens : (told : Told) (name : Text) (a b : TokenList) → IsWholeText (laws.Possible told) name a → IsWholeText (laws.Told told) name b → a ≡ b
same_tokens told name a b h k = one_list (laws.Possible told) (laws.Told told) (possible_told told) name a b h.last k.last h.whole k.whole

same_tree : (told : Told) (name : Text) (top : Option Text) (design : Design) (tokens : TokenList) (tree : Source) → (l : IsLegalDesign told name top design) → IsWholeText (laws.Possible told) name tokens
    → IsSpelled tree tokens.list → sound_design tree top ≡ Ok design
same_tree told name top design tokens tree l text spelled =
    let e = same_tokens told name tokens l.file.tokens text l.text in
    let one : tree ≡ l.file.tree = one_tree l.file.tokens.list l.file.tree tree (source l.file.tokens.list) (decides l.file.tokens.list) l.file.spelled l.shallow (subst (λ (x : TokenList). IsSpelled tree x.list) e spelled) in
    ap (λ (x : Source). sound_design x top) one ∙ l.file.means

one_design : (told : Told) (name : Text) (top : Option Text) (design other : Design) → IsLegalDesign told name top design → IsDesignFile told name top other → other ≡ design
one_design told name top design other l d =
    let j = sound_design d.tree top in
    let same : Ok other ≡ Ok design = sym d.means ∙ same_tree told name top design d.tokens d.tree l d.text d.spelled in cc

unparsed : (tokens : TokenList) (r : Refusal) (tree : Source) → IsSpelled tree tokens.list → IsShallow (source_depths tree) → IsSyntax tokens.list tokens.end (No r) ⊎ IsDeep tokens.list tokens.end (No r) → ⊥
unparsed tokens r tree spelled s (inl h) = h.none tree spelled
unparsed tokens r tree spelled s (inr h) = too_deep IsSpelled source_depths tokens.list h.number tree spelled s h.deep

pub design_stands : (told : Told) (name : Text) (top : Option Text) (design : Design) → IsLegalDesign told name top design → (file : Text) (r : Refusal) → RefusesDesign told name top file r → ⊥
design_stands told name top design l file r (inl h) = none_stops (possible_told told) h r refl l.file.tokens l.text.last l.text.whole l.text.within
design_stands told name top design l file r (inr (inl u)) =
    let e = same_tokens told name u.tokens l.file.tokens u.text l.text in
    unparsed l.file.tokens r l.file.tree l.file.spelled l.shallow (subst (λ (x : TokenList). IsSyntax x.list x.end (No r) ⊎ IsDeep x.list x.end (No r)) e u.why)
design_stands told name top design l file r (inr (inr f)) =
    let bad : Err f.faults ≡ Ok design = sym f.means ∙ same_tree told name top design f.tokens f.tree l f.text f.spelled in cc

-- ---- tables and values

none_first : (faults : List Refusal) (r : Refusal) → faults ≡ [] → first_of faults ≡ Some r → ⊥
none_first faults r e h = let bad : Some r ≡ None = sym h ∙ ap first_of e in cc

no_fault : (told : Told) (name text : Text) (records : List (List Text)) (faults : List (List Text) → List Refusal) (r : Refusal) → IsShort told name text → IsRecords text records → faults records ≡ []
    → IsFirstFault told name faults r → ⊥
no_fault told name text records faults r s cut clear f =
    let e = one_text told name f.text text s f.stands in
    let same = one_records text f.records records (subst (λ (x : Text). IsRecords x f.records) e f.cut) cut in
    none_first (faults f.records) r (ap faults same ∙ clear) f.first

one_table : (told : Told) (name : Text) (wires : List Signal) (table other : Table) → IsLegalTable told name wires table → IsTableText told name other → other ≡ table
one_table told name wires table other l o =
    let e = one_text told name o.text l.file.read.text l.text o.stands in
    let same = one_records l.file.read.text o.records l.file.read.records (subst (λ (x : Text). IsRecords x o.records) e o.cut) l.file.read.cut in
    o.is ∙ ap table_of same ∙ sym l.file.read.is

table_stands : (told : Told) (name : Text) (wires : List Signal) (table : Table) → IsLegalTable told name wires table → (r : Refusal) → RefusesTable told name wires r → ⊥
table_stands told name wires table l r (inl h) = short told name l.file.read.text r l.text h
table_stands told name wires table l r (inr (inl f)) = no_fault told name l.file.read.text l.file.read.records table_faults r l.text l.file.read.cut l.file.read.clear f
table_stands told name wires table l r (inr (inr u)) = none_first (bind_faults wires u.table) r (ap (bind_faults wires) (one_table told name wires table u.table l u.read) ∙ l.file.clear) u.first

values_stand : (told : Told) (name : Text) (vars : List VarDecl) (choice : List (List Bit)) → AreLegalValues told name vars choice → (r : Refusal) → RefusesValues told name vars r → ⊥
values_stand told name vars choice l r (inl h) = short told name l.file.text r l.text h
values_stand told name vars choice l r (inr f) = no_fault told name l.file.text l.file.records (values_faults vars) r l.text l.file.cut l.file.clear f

-- ---- goals

none_there : (r : Refusal) → Contains [] r → ⊥
none_there r h = omega (arith, h.1)

same_goals : (tokens : List Token) (x y : List GoalTree) (o : Outcome (List GoalTree)) → goals.Decides tokens o → IsGoals x tokens → IsShallow (goals_depths x) → IsGoals y tokens → y ≡ x
same_goals tokens x y (Ok p) d h s k = d.2 y k ∙ sym (d.2 x h)
same_goals tokens x y (Err (Syntax left)) d h s k = absurd (d.1 x h)
same_goals tokens x y (Err (TooDeep deep left)) d h s k = absurd (too_deep IsGoals goals_depths tokens (length tokens - deep) x h s d)
same_goals tokens x y (Err Memory) d h s k = absurd d

unread_goals : (tokens : List Token) (end : Place) (r : Refusal) (trees : List GoalTree) → IsGoals trees tokens → IsShallow (goals_depths trees) → goals.IsSyntax tokens end (No r) ⊎ goals.IsDeep tokens end (No r) → ⊥
unread_goals tokens end r trees spelled s (inl h) = h.none trees spelled
unread_goals tokens end r trees spelled s (inr h) = too_deep IsGoals goals_depths tokens h.number trees spelled s h.deep

module _ (text : Text) (vars : List VarDecl) (samples : List Sample) (trees : List GoalTree) (tokens : List Token) (cut : IsCut 0 text tokens) (spelled : IsGoals trees tokens)
    (s : IsShallow (goals_depths trees)) (clear : goal_faults vars samples trees ≡ []) where
  no_cause : (r : Refusal) → HasCause 0 text vars samples r → ⊥
  no_cause r (inl h) = none_refused cut.lexes.1 (lines_within text cut.lexes.0 tokens cut.lexes.2 cut.within) h
  no_cause r (inr (inl u)) =
      let e = one_list_of u.cut.lexes cut.lexes in
      unread_goals tokens (past (start 0) text) r trees spelled s (subst (λ (x : List Token). goals.IsSyntax x (past (start 0) text) (No r) ⊎ goals.IsDeep x (past (start 0) text) (No r)) e u.why)
  no_cause r (inr (inr f)) =
      let e = one_list_of f.spell.cut.lexes cut.lexes in
      let same = same_goals tokens trees f.trees (goals_reading.source tokens) (goals_laws.decides tokens) spelled s (subst (λ (x : List Token). IsGoals f.trees x) e f.spell.spelled) in
      none_there r (subst (λ (x : List Refusal). Contains x r) (ap (goal_faults vars samples) same ∙ clear) f.stands)

goals_stand : (told : Told) (name : Text) (vars : List VarDecl) (samples : List Sample) (trees : List GoalTree) → AreLegalGoals told name vars samples trees → (r : Refusal) → RefusesGoals told name vars samples r → ⊥
goals_stand told name vars samples trees l r (inl h) = short told name l.file.text r l.text h
goals_stand told name vars samples trees l r (inr b) =
    let e = one_text told name b.text l.file.text l.text b.stands in
    no_cause l.file.text vars samples trees l.file.spell.tokens l.file.spell.cut l.file.spell.spelled l.shallow l.file.clear r (subst (λ (x : Text). HasCause 0 x vars samples r) e b.cause)

-- the goals that are told are the only ones
one_goals : (told : Told) (name : Text) (vars : List VarDecl) (samples : List Sample) (trees others : List GoalTree) → AreLegalGoals told name vars samples trees → AreGoalsFile told name vars samples others
    → others ≡ trees
one_goals told name vars samples trees others l o =
    let e = one_text told name o.text l.file.text l.text o.stands in
    let spell = subst (λ (x : Text). Spell 0 x others) e o.spell in
    let tokens = l.file.spell.tokens in
    let same : spell.tokens ≡ tokens = one_list_of spell.cut.lexes l.file.spell.cut.lexes in
    same_goals tokens trees others (goals_reading.source tokens) (goals_laws.decides tokens) l.file.spell.spelled l.shallow (subst (λ (x : List Token). IsGoals others x) same spell.spelled)

-- ---- certificates

cert_bytes : (told : Told) (name own : Text) (formula : Formula) (log : List Entry) → (l : IsLegalCert told name formula log) → laws.Possible told name own → own ≡ l.bytes
cert_bytes told name own formula log l h = one_text told name own l.bytes l.text h

-- the clauses and the log are the only ones for which the file stands
pub same_cert : (told : Told) (name own : Text) (formula other : Formula) (log more : List Entry) → IsLegalCert told name formula log → laws.Possible told name own → CertText own other more
    → (other ≡ formula) × (more ≡ log)
same_cert told name own formula other log more l h s =
    one_cert l.bytes other formula more log (subst (λ (x : Text). CertText x other more) (cert_bytes told name own formula log l h) s) l.stands

pub check_stands : (told : Told) (f : Text) (formula : Formula) (log : List Entry) → IsLegalCert told f formula log → (file : Text) (r : Refusal) → RefusesCheck told f file r → ⊥
check_stands told f formula log l file r h = after h.1
  where
    after : TooLong told f r ⊎ IsBadCert told f r → ⊥
    after (inl k) = short told f l.bytes r l.text k
    after (inr k) =
        let e = cert_bytes told f k.text formula log l k.stands in
        refused l.bytes r formula log (subst (λ (x : Text). certs.read x ≡ Err r) e k.read) l.stands

-- ---- value change dumps

-- any text that is told of the file stands for the same signals and changes
pub same_wave : (told : Told) (name path own : Text) (vars : List VcdVar) (changes : List Change) (list : List (ℕ × List Bit)) → IsLegalWave told name path vars changes list → laws.Possible told name own → Wave own vars changes
same_wave told name path own vars changes list l h = subst (λ (x : Text). Wave x vars changes) (sym (one_text told name own l.bytes l.text h)) l.wave

pub wave_stands : (told : Told) (f path : Text) (vars : List VcdVar) (changes : List Change) (list : List (ℕ × List Bit)) → IsLegalWave told f path vars changes list → (file : Text) (r : Refusal) → RefusesWave told f path file r → ⊥
wave_stands told f path vars changes list l file r h = after h.1
  where
    after : TooLong told f r ⊎ (IsBadDump told f r ⊎ IsSignalUnknown told f path r) → ⊥
    after (inl k) = short told f l.bytes r l.text k
    after (inr (inl k)) = k.none vars changes (same_wave told f path k.text vars changes list l k.stands)
    after (inr (inr k)) =
        let none : told_of_path vars changes path ≡ None = k.none vars changes (same_wave told f path k.text vars changes list l k.stands) in
        let bad : Some list ≡ None = sym l.of_path ∙ none in cc

-- ---- turns

setup_stands : (told : Told) (d t : Text) (top : Option Text) (design : Design) (table : Table) → IsLegalSetup told d t top design table → (file : Text) (r : Refusal) → RefusesSetup told d t top file r → ⊥
setup_stands told d t top design table l file r (inl h) = design_stands told d top design l.is_design file r h
setup_stands told d t top design table l file r (inr h) =
    let e = one_design told d top design h.1 l.is_design h.2 in
    table_stands told t design.wires table l.is_table r (subst (λ (x : Design). RefusesTable told t x.wires r) e h.3)

-- what is said behind the design and the table is said of these
pub behind : (told : Told) (d t : Text) (top : Option Text) (design : Design) (table : Table) (Then : Design → Table → Type 0) → IsLegalSetup told d t top design table → BehindSetup told d t top Then → Then design table
behind told d t top design table Then l b =
    let e = one_design told d top design b.0 l.is_design b.2.is_design in
    let f = one_table told t design.wires table b.1 l.is_table b.2.is_table.read in
    subst (λ (y : Table). Then design y) f (subst (λ (x : Design). Then x b.1) e b.3)

-- where a proof is refused, bits of the design feed each other
pub proof_loops : (told : Told) (d t g : Text) (top : Option Text) (design : Design) (table : Table) (trees : List GoalTree) → IsLegalSetup told d t top design table
    → AreLegalGoals told g (vars_of design table) (samples_in design table) trees → (file : Text) (r : Refusal) → RefusesProof told d t g top file r → HasWideLoop design r.count
proof_loops told d t g top design table trees l goals file r (inl h) = absurd (setup_stands told d t top design table l file r h)
proof_loops told d t g top design table trees l goals file r (inr b) =
    after (behind told d t top design table (λ design table. ((file ≡ g) × RefusesGoals told g (vars_of design table) (samples_in design table) r) ⊎ ((file ≡ d) × HasNoMachine told g design table r)) l b)
  where
    after : ((file ≡ g) × RefusesGoals told g (vars_of design table) (samples_in design table) r) ⊎ ((file ≡ d) × HasNoMachine told g design table r) → HasWideLoop design r.count
    after (inl h) = absurd (goals_stand told g (vars_of design table) (samples_in design table) trees goals r h.1)
    after (inr h) = h.1.1.wide

pub simulation_stands : (told : Told) (d t v : Text) (top : Option Text) (design : Design) (table : Table) (choice : List (List Bit)) → IsLegalSetup told d t top design table
    → AreLegalValues told v (vars_of design table) choice → (file : Text) (r : Refusal) → RefusesSimulation told d t v top file r → ⊥
simulation_stands told d t v top design table choice l values file r (inl h) = setup_stands told d t top design table l file r h
simulation_stands told d t v top design table choice l values file r (inr b) =
    values_stand told v (vars_of design table) choice values r (behind told d t top design table (λ design table. (file ≡ v) × RefusesValues told v (vars_of design table) r) l b).1

-- where one goal that is there is not certified for a refusal, bits of the design feed each other
pub cert_loops : (told : Told) (d t g name : Text) (top : Option Text) (design : Design) (table : Table) (trees : List GoalTree) → IsLegalSetup told d t top design table
    → AreLegalGoals told g (vars_of design table) (samples_in design table) trees → HasGoal trees name → (file : Text) (r : Refusal) → RefusesCert told d t g name top file r → HasWideLoop design r.count
cert_loops told d t g name top design table trees l goals has file r (inl h) = absurd (setup_stands told d t top design table l file r h)
cert_loops told d t g name top design table trees l goals has file r (inr b) = after (behind told d t top design table Then l b)
  where
    Then : Design → Table → Type 0
    Then design table = ((file ≡ g) × RefusesGoals told g (vars_of design table) (samples_in design table) r) ⊎ (((file ≡ g) × IsGoalUnknown told g name design table r) ⊎ ((file ≡ d) × IsGoalTooWide told g name design table r))

    after : Then design table → HasWideLoop design r.count
    after (inl h) = absurd (goals_stand told g (vars_of design table) (samples_in design table) trees goals r h.1)
    after (inr (inl h)) =
        let e = one_goals told g (vars_of design table) (samples_in design table) trees h.1.trees goals h.1.file in
        absurd (h.1.none (subst (λ (x : List GoalTree). HasGoal x name) (sym e) has))
    after (inr (inr h)) = h.1.wide.wide

-- ---- inductions

module _ (told : Told) (d a b g : Text) (top : Option Text) (design : Design) (reset period : Table) (trees : List GoalTree) (l : IsLegalInduction told d a b g top design reset period trees) where
  setup_of : IsLegalSetup told d a top design reset
  setup_of = record { is_design = l.is_design; is_table = l.is_reset }

  -- what is said of three files is said of these
  over_files : (other : Design) (first later : Table) (P : Design → Table → Table → Type 0) → IsCourseFiles told d a b top other first later → P other first later → P design reset period
  over_files other first later P files h =
      let e = one_design told d top design other l.is_design files.is_design in
      let f = one_table told a design.wires reset first l.is_reset files.is_reset.read in
      let k = one_table told b design.wires period later l.is_period files.is_period.read in
      subst (λ (t : Table). P design reset t) k (subst (λ (t : Table). P design t later) f (subst (λ (x : Design). P x first later) e h))

  alike_stands : (file : Text) (r : Refusal) → IsSampledUnlike (course_of design reset period) a b file r → ⊥
  alike_stands file r u = elim u.cause [ inl h ↦ h.1 l.alike.0 | inr h ↦ h.1.1 l.alike.1 ]

  course_stands : (file : Text) (r : Refusal) → RefusesCourse told d a b top file r → ⊥
  course_stands file r (inl h) = setup_stands told d a top design reset setup_of file r h
  course_stands file r (inr (inl h)) =
      table_stands told b design.wires period l.is_period r (behind told d a top design reset (λ (x : Design) (t : Table). (file ≡ b) × RefusesTable told b x.wires r) setup_of h).1
  course_stands file r (inr (inr h)) = alike_stands file r (over_files h.0 h.1 h.2 (λ (x : Design) (s t : Table). IsSampledUnlike (course_of x s t) a b file r) h.3 h.4)

  -- where invariants are refused, bits of the design feed each other
  pub induct_loops : (file : Text) (r : Refusal) → RefusesInduction told d a b g top file r → HasWideLoop design r.count
  induct_loops file r (inl h) = absurd (course_stands file r h)
  induct_loops file r (inr h) = after (over_files h.0 h.1 h.2 Then h.3 h.4.1)
    where
      Then : Design → Table → Table → Type 0
      Then x s t = ((file ≡ g) × RefusesGoals told g [] (samples_in x t) r) ⊎ (((file ≡ g) × IsInvariantHyp told g x t r) ⊎ ((file ≡ d) × IsCourseTooWide told g x t r))

      after : Then design reset period → HasWideLoop design r.count
      after (inl k) = absurd (goals_stand told g [] (samples_in design period) trees l.goals r k.1)
      after (inr (inl k)) =
          let e = one_goals told g [] (samples_in design period) trees k.1.trees l.goals k.1.file in
          absurd (k.1.some (subst (λ (ts : List GoalTree). All (λ (t : GoalTree). t.hyps ≡ []) ts) (sym e) l.no_hyps))
      after (inr (inr k)) = k.1.wide.wide
