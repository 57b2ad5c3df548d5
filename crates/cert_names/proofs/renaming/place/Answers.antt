use Rattle.cert_names.proofs.Places.{is_found, found_at}
use Rattle.cert_names.proofs.renaming.place.Goals as goal

pub unwrap-requires : goal.unwrap-requires
unwrap-requires c = is_found c.args.names.now c.args.var c.binary_search.result c.requires.rising c.requires.inside c.binary_search.ensures.position

pub returns : goal.returns
returns c = found_at c.args.names.now c.args.var c.binary_search.result c.unwrap.result c.requires.rising c.binary_search.ensures.position c.unwrap.ensures
