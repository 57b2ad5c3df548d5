use Rattle.cert_rows.proofs.CertRowsJudge.row.Goals as goal

pub bad_step-requires : goal.bad_step-requires
bad_step-requires c = record { clauses = c.in-Ok.ensures.below; steps = λ k within. (c.in-Ok.ensures.steps k within).below }
