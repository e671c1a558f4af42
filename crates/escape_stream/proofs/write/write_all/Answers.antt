use Rattle.std.proofs.Common.{arith, rules, drop, length, ◌-◌, length-drop, take_all}
use Rattle.escape_stream.proofs.Transfer.{Appends-more}
use Rattle.escape_stream.proofs.write.write_all.Goals as goal

pub loop-written-preserved : goal.loop-written-preserved
loop-written-preserved g c =
    let at = c.loop-written.written in
    let bytes = c.args.bytes.now in
    let rest = take_all (length bytes - at) (drop at bytes) (omega (arith, length-drop at bytes)) in
    record {
      within = search rules;
      appended = Appends-more _ _ _ bytes at c.in-Ok.count c.loop-written.invariant.appended (rw rest at c.in-Ok.ensures.bytes);
    }
