use Rattle.vcd_text.proofs.Places.{room_at}
use Rattle.vcd_text.proofs.word.Cursor.beyond.Goals as goal

pub invariant_of-self : goal.invariant_of-self
invariant_of-self c =
    record { room = room_at _ _ _ _ _ c.args.len c.requires c.past-self.ensures c.split_at.ensures.front c.split_at.ensures.back c.args.self.now.room }
