use Rattle.sat_search.proofs.learn.mark_all.Goals as goal
