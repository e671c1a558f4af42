use Rattle.escape_simd.proofs.Words.{◌∙◌, not, nat_eq, ap, sym, arith, is_clear, lanes_of_mask, mode_numbered, told_by, used_up}
use denote.Param.{number, value_of}
use Rattle.escape_simd.proofs.Stretches.{reach-bounds}
use Rattle.escape_simd.proofs.Turns.{turns-begin, turn-place, turn-run, turn-room, turn-told, turn-left, turn-stores, turn-finished, turn-stored}
use Rattle.escape_simd.proofs.Vectors.{vector-stores}
use Rattle.escape_simd.proofs.simd.by_mask.escape_by_turns.Goals as goal

pub store_vector-requires : goal.store_vector-requires
store_vector-requires g c =
    let s = vector-stores c.args.valid (omega arith) c.requires.5 in let lanes = c.requires.0 in
    (omega arith, (omega arith, (lanes, s.0, s.1, ap told_by c.requires.3, s.2, ap (λ m. m.stored) c.requires.3)))

pub turns-init : goal.turns-init
turns-init g c =
    let e = c.store_vector.ensures in
    turns-begin (omega (arith, reach-bounds (not (nat_eq (value_of (number g.row.LAST)) 0)) g.row.N c.requires.1)) (e.used ∙ ap used_up c.requires.3) c.requires.5 (ap (is_clear (mode_numbered g.row.MODE)) e.used ∙ c.requires.4) e.stored

pub overflow_sub-flagged : goal.overflow_sub-flagged
overflow_sub-flagged g c = omega (arith, turn-place c.turns.invariant c.first_offset-flagged.ensures)

pub overflow_add-end : goal.overflow_add-end
overflow_add-end g c = omega (arith, turn-room c.turns.invariant c.first_offset-flagged.ensures)

pub escape_run-after-requires : goal.escape_run-after-requires
escape_run-after-requires g c = (omega arith, turn-run c.turns.invariant c.first_offset-flagged.ensures)

pub finish_vector-requires : goal.finish_vector-requires
finish_vector-requires g c =
    let e = c.escape_run-after.ensures in let clear = sym c.is_clear.ensures ∙ c.if-is_clear.true in
    (omega arith, (omega arith, (c.requires.0, omega (arith, c.requires.2, c.requires.5.few), clear, e.ended, turn-left c.turns.invariant c.first_offset-flagged.ensures e.escaped e.some e.ended)))

pub returns-then-is_clear : goal.returns-then-is_clear
returns-then-is_clear g c = let e = c.escape_run-after.ensures in turn-finished c.turns.invariant c.first_offset-flagged.ensures e.escaped e.some e.ended c.finish_vector.ensures

pub rest-mask-requires : goal.rest-mask-requires
rest-mask-requires g c =
    let e = c.escape_run-after.ensures in let t = turn-told c.turns.invariant c.first_offset-flagged.ensures e.escaped e.some e.ended (sym c.is_clear.ensures ∙ c.if-is_clear.false) in
    (omega arith, t)

pub store_vector-requires-in-turns : goal.store_vector-requires-in-turns
store_vector-requires-in-turns g c =
    let e = c.escape_run-after.ensures in let s = turn-stores c.turns.invariant c.first_offset-flagged.ensures e.escaped e.some e.ended (sym c.is_clear.ensures ∙ c.if-is_clear.false) c.rest-mask.ensures.told in
    (omega arith, (omega arith, (c.requires.0, s.1, s.2, s.0, s.3, ap (λ m. m.stored) c.rest-mask.ensures.told)))

pub turns-smaller : goal.turns-smaller
turns-smaller g c = omega (arith, turn-place c.turns.invariant c.first_offset-flagged.ensures, c.escape_run-after.ensures.some)

pub turns-preserved : goal.turns-preserved
turns-preserved g c =
    let e = c.escape_run-after.ensures in let r = c.rest-mask.ensures in let s = c.store_vector-in-turns.ensures in
    turn-stored c.turns.invariant c.first_offset-flagged.ensures e.escaped e.some e.ended (sym c.is_clear.ensures ∙ c.if-is_clear.false) (s.used ∙ ap used_up r.told) (ap (lanes_of_mask (mode_numbered g.row.MODE)) s.used ∙ r.lanes) s.stored r.tick
