use Rattle.escape_simd.proofs.Words.{min, ◌≡◌, ◌+◌, ◌-◌, ◌*◌, ◌∙◌, true, ℕ, List, length, length-drop, drop, take, ap, refl, arith, bytes_of, drop-drop, mode_numbered, reach, mask_from, whole_mask}
use Rattle.escape_simd.proofs.Last.{last-all, last-told, last-vector, tail-rows}
use Rattle.escape_simd.proofs.Stretches.{room-on}
use Rattle.escape_simd.proofs.Vectors.{advanced-onward}
use Rattle.escape_simd.proofs.simd.tail.escape_flagged_tail.Goals as goal

pub skip-mask-requires : goal.skip-mask-requires
skip-mask-requires g c =
    let e = c.escape_before_last-skipped.ensures in let text : List ℕ = c.args.text.now in let back = c.requires.0.back in
    (omega arith, (ap (λ m. m.from) back, omega (arith, e.reached.near), omega (arith, ap (λ m. length m.bytes) back, length-drop (length text - g.row.N) text, e.stretch.inside)))

pub escape_by_mask-requires : goal.escape_by_mask-requires
escape_by_mask-requires g c =
    let mode = mode_numbered g.row.MODE in let text : List ℕ = c.args.text.now in let n : ℕ = g.row.N in let skipped : ℕ = c.escape_before_last-skipped.result.0 in let rows : List ℕ = c.as_flattened.result.now in
    let e = c.escape_before_last-skipped.ensures in let inside = e.stretch.inside in let end : ℕ = c.escape_before_last-skipped.result.1 in
    let border : ℕ = length text - n in let next : ℕ = border + skipped in let k : ℕ = 2 * n - min (length text) n in let left : ℕ = c.min.result - skipped in
    let all : left ≡ length text - next = omega (arith, c.min.ensures, inside) in
    let held : List ℕ = take (length rows - skipped) (drop skipped rows) in
    let shown = tail-rows text rows border skipped next k (c.as_flattened.ensures.value ∙ c.spill_last-rows.ensures) refl inside in
    let told = c.skip-mask.ensures ∙ ap (λ m. mask_from (drop skipped m.bytes) 0 m.stored) c.requires.0.back ∙ ap whole_mask (drop-drop skipped border text) in
    let vector = last-vector mode (reach true n) n text held next left k end inside all shown (length (bytes_of c.escape_before_last-skipped.new.target)) (omega (arith, c.min.ensures)) (omega arith) (room-on e.stretch c.requires.1) in
    (omega arith, (omega arith, (last-told mode (reach true n) n text held next left k end inside all shown told, vector)))

pub returns : goal.returns
returns g c =
    let mode = mode_numbered g.row.MODE in let text : List ℕ = c.args.text.now in let n : ℕ = g.row.N in let skipped : ℕ = c.escape_before_last-skipped.result.0 in let rows : List ℕ = c.as_flattened.result.now in
    let e = c.escape_before_last-skipped.ensures in let inside = e.stretch.inside in
    let border : ℕ = length text - n in let next : ℕ = border + skipped in let k : ℕ = 2 * n - min (length text) n in
    let left : c.min.result - skipped ≡ length text - next = omega (arith, c.min.ensures, inside) in
    advanced-onward e
    (last-all mode (reach true n) n text (take (length rows - skipped) (drop skipped rows)) next (c.min.result - skipped) k c.escape_before_last-skipped.result.1 inside left
    (tail-rows text rows border skipped next k (c.as_flattened.ensures.value ∙ c.spill_last-rows.ensures) refl inside)
    c.escape_before_last-skipped.new.target c.escape_by_mask.new.target c.escape_by_mask.result.0 c.escape_by_mask.result.1 c.escape_before_last-skipped.new.ticks c.escape_by_mask.new.ticks c.escape_by_mask.ensures)
