use Rattle.std.proofs.Common.{arith, rules, List, ℕ, drop, length, ◌-◌, ◌+◌, length-drop, take_all}
use Rattle.std.proofs.KnownBytes.{Appends-kept}
use Rattle.escape_text.proofs.WriterLemmas.{beginning-taken, Appends-more}
use Rattle.escape_text.proofs.writer.write_whole.Goals.{in-Ok, in-Err+else-ne}
use Rattle.escape_text.proofs.writer.write_whole.Goals as goal

pub writes-preserved : goal.writes-preserved
writes-preserved g c =
    let at = c.writes.written in
    let bytes : List ℕ = c.args.bytes.now in
    let rest = take_all (length bytes - at) (drop at bytes) (omega (arith, length-drop at bytes)) in
    elim c.match-write.branch [
      | in-Ok w ↦ record {
        within = let is = w.written-is in search rules;
        appended = rw w.written-is (Appends-more _ _ _ bytes at w.in-Ok.count c.writes.invariant.appended (rw rest at w.in-Ok.ensures.bytes));
      }
      | in-Err+else-ne w ↦ record {
        within = rw w.written-is c.writes.invariant.within;
        appended = rw w.written-is (Appends-kept _ _ _ _ c.writes.invariant.appended w.in-Err.ensures.bytes);
      }
    ]

pub returns-in-Ok-eq0-clause-beginning : goal.returns-in-Ok-eq0-clause-beginning
returns-in-Ok-eq0-clause-beginning g c =
    let at = c.writes.written in
    let bytes : List ℕ = c.args.bytes.now in
    let rest = take_all (length bytes - at) (drop at bytes) (omega (arith, length-drop at bytes)) in
    let none : ℕ = c.in-Ok-eq0.field-0 in
    beginning-taken _ _ bytes (at + none) (Appends-more _ _ _ bytes at none c.writes.invariant.appended (rw rest at c.in-Ok-eq0.ensures.bytes))

pub returns-then-ne-clause-beginning : goal.returns-then-ne-clause-beginning
returns-then-ne-clause-beginning g c =
    beginning-taken _ _ c.args.bytes.now c.writes.written (Appends-kept _ _ _ _ c.writes.invariant.appended c.in-Err.ensures.bytes)

pub returns-clause-beginning : goal.returns-clause-beginning
returns-clause-beginning g c = beginning-taken _ _ c.args.bytes.now c.writes.written c.writes.invariant.appended
