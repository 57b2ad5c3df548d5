use Rattle.std.proofs.Common.{ℕ, sym, subst}
use Rattle.std.specs.List.{Contains}
use Rattle.sv_meaning.specs.Meanings.{whole}
use Rattle.sv_typing.specs.Ranges.{many_faults}
use Rattle.sv_names.proofs.Sound.{each_some}
use Rattle.sv_typing.proofs.Counts.{large}
use Rattle.sv_typing.proofs.ranges.many_count.Goals as goal

pub returns-in-None : goal.returns-in-None
returns-in-None c =
    let k = c.args.known.now in
    let all = many_faults c.args.place c.args.row.now (whole k.signed k.value) in
    let P : ℕ → Type 0 = λ n. Contains all (record { number = n; place = c.args.place; count = 0 }) in
    subst (Contains all) (sym c.refusal.ensures)
    (subst P (sym c.large_refusal.ensures) (large c.args.place c.args.row.now k.signed k.value c.in-None.ensures.none (each_some c.args.row.now.each c.requires.row.each)))
