-- There are runs.
use Rattle.std.proofs.Common.{◌≡◌, subst}
use Rattle.svtv_commands.proofs.Benches.{apart, asks_are}
use Rattle.svtv_files.specs.Files.{bench_of}
use Rattle.svtv_runs.specs.Runs.{AreApart, asks_of}
use Rattle.svtv_runs.proofs.Runs.{least_run_stands, least_run_is_one}
use Rattle.svtv_table.specs.Binding.{bound_of}
use Rattle.svtv.specs.Answers.{HaveRuns}

-- no wire has two rows of one kind, so one run is below every run
pub have_runs : HaveRuns
unfolding bound_of
have_runs design table h choice is =
    let asked : asks_of choice (bound_of design.wires table) ≡ (bench_of design table).asked choice = asks_are design table h choice is in
    let apart_rows : AreApart ((bench_of design table).asked choice) = subst (λ asks. AreApart asks) asked (apart design.wires table h choice) in
    let least = least_run_stands design ((bench_of design table).asked choice) table.phases apart_rows in
    (least.0, least.1, λ s k. least_run_is_one design ((bench_of design table).asked choice) table.phases s least.0 k least.1)
