use Rattle.std.proofs.Common.{◌≡◌, take, rules}
use Rattle.std.proofs.lemmas.List.{with_items_is, places}
use Rattle.escape_stream.proofs.Transfer.{Consumes-more}
use Rattle.escape_stream.proofs.input.read_whole.Goals as goal

pub loop-bytes-preserved : goal.loop-bytes-preserved
loop-bytes-preserved g c =
    let filled = c.loop-bytes.filled in
    let items_are_read = with_items_is c.make_room.new.bytes c.read_after.new.bytes (search (rules, places)) in
    let same_front : take filled c.read_after.new.bytes ≡ take filled c.loop-bytes.bytes.items =
    cc (c.in_ok-make_room.ensures.front) in
    record {
      within = search (rules, places);
      read = rw items_are_read (Consumes-more _ _ _ c.loop-bytes.bytes.items c.read_after.new.bytes filled
          c.in_ok-count.count same_front c.loop-bytes.invariant.read c.in_ok-count.ensures.read);
    }
