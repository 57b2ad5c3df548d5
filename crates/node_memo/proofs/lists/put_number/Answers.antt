use Rattle.std.proofs.Common.{get_or}
use Rattle.std.proofs.lemmas.List.{get_or_default}
use Rattle.node_memo.proofs.Rows.{gains-push, push-there}
use Rattle.node_memo.proofs.lists.put_number.Goals as goal

pub returns-clause-gains : goal.returns-clause-gains
returns-clause-gains c =
    let lists = c.args.lists.now in
    let row = get_or lists c.args.at c.index-lists-at.result in
    gains-push lists c.args.at c.args.number c.push.new.self row c.requires (get_or_default lists c.args.at c.index-lists-at.result row c.requires) c.in_ok-push.ensures.items

pub returns-clause-has : goal.returns-clause-has
returns-clause-has c =
    let lists = c.args.lists.now in
    let row = get_or lists c.args.at c.index-lists-at.result in
    push-there lists c.args.at c.args.number c.push.new.self row c.requires (get_or_default lists c.args.at c.index-lists-at.result row c.requires) c.in_ok-push.ensures.items
