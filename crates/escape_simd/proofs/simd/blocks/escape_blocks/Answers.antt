use Rattle.escape_simd.proofs.Words.{ℕ, List, ◌≡◌, ◌+◌, ◌*◌, ◌/◌, ◌≤◌, take, drop, rules, refl, ap, sym, ◌∙◌, length, arith, nat_tests, drop-drop, length-drop, length-map, length-take-le, shortened, flag_count, flagged_blocks, mode_numbered}
use Rattle.escape_simd.proofs.Pasted.{blocks-next, done-stored, done-stretch, done-ticks, left-long, left-room, left-told, paid-lanes, paid-left}
use Rattle.escape_simd.proofs.Shortened.{block-half, block-told}
use Rattle.escape_simd.proofs.simd.blocks.escape_blocks.Goals as goal
use Rattle.escape_simd.proofs.simd.blocks.escape_blocks.Goals.{else-blocks-2-test, then-blocks-2-test+then-valid-block}

pub blocks-2-init : goal.blocks-2-init
unfolding flagged_blocks
blocks-2-init g c = record {
  so_far = search rules;
  left = record { bytes = refl; from = ap (λ m. m.from) c.requires.0 };
  stored = ap (λ m. m.stored) c.requires.0;
  more = omega (arith, c.requires.5.some);
}

pub pay_block-requires : goal.pay_block-requires
pay_block-requires g c =
    let i = c.blocks-2.invariant in
    (omega arith, (i.left.from, omega (arith, left-long c.requires.0 c.requires.5 c.blocks-2.block i.more i.left, i.more), i.stored))

pub half-eight-requires : goal.half-eight-requires
half-eight-requires g c =
    let src : List ℕ = c.args.src.now in let from : ℕ = c.args.at + 16 * (c.blocks-2.block / 2) in
    let piece = c.shorten_vector-pieces.ensures (c.blocks-2.block / 2) (omega (arith, c.blocks-2-test.true)) in
    ap length piece ∙ length-map (take 16 (drop from src)) shortened ∙ length-take-le 16 (drop from src) (omega (arith, length-drop from src, c.requires.4, c.requires.2, c.blocks-2-test.true))

pub put_block-end-requires : goal.put_block-end-requires
put_block-end-requires g c =
    let i = c.blocks-2.invariant in let p = c.pay_block.ensures in let left = paid-left i.left p.same in let told = left-told c.requires.0 c.requires.5 c.blocks-2.block i.more left in
    let long = left-long c.requires.0 c.requires.5 c.blocks-2.block i.more left in
    let piece = c.shorten_vector-pieces.ensures (c.blocks-2.block / 2) (omega (arith, c.blocks-2-test.true)) in let half = block-half c.args.src.now c.args.at c.blocks-2.block _ c.half-eight.result piece c.half-eight.ensures.block in
    let begins = block-told (drop (c.args.at + 8 * c.blocks-2.block) c.args.src.now) _ c.half-eight.result _ told long half in let same = sym (paid-lanes (mode_numbered g.row.MODE) i.left p.same) in
    let room = left-room c.requires.0 c.requires.5 c.blocks-2.block i.more left refl i.so_far in
    (omega arith, (omega arith, (c.half-eight.ensures.whole, left.from, begins, λ none. (let paid = p.stored in let is = ap (λ bits. flag_count (take 8 bits)) same ∙ none in grind (arith, nat_tests, paid, is)), room)))

pub skip-mask-requires : goal.skip-mask-requires
skip-mask-requires g c =
    let i = c.blocks-2.invariant in let left = paid-left i.left c.pay_block.ensures.same in let same = c.put_block-end.ensures.same in
    (omega arith, (same.from, omega arith, omega (arith, ap length same.bytes, left-long c.requires.0 c.requires.5 c.blocks-2.block i.more left, c.if-valid-block.false)))

pub blocks-2-preserved : goal.blocks-2-preserved
blocks-2-preserved g c =
    let i = c.blocks-2.invariant in let p = c.pay_block.ensures in let e = c.put_block-end.ensures in let left = paid-left i.left p.same in let lanes = paid-lanes (mode_numbered g.row.MODE) i.left p.same in
    let piece = c.shorten_vector-pieces.ensures (c.blocks-2.block / 2) (omega (arith, c.blocks-2-test.true)) in let half = block-half c.args.src.now c.args.at c.blocks-2.block _ c.half-eight.result piece c.half-eight.ensures.block in
    let next : 8 * c.blocks-2.block + 8 ≡ 8 * (c.blocks-2.block + 1) = omega arith in
    record {
      so_far = blocks-next c.requires.0 c.requires.5 c.blocks-2.block i.more left refl i.so_far c.half-eight.result (λ (i : ℕ). (c.type_inv.src i).fits) half e.block (rw (sym lanes) at p.left) (rw (sym lanes) at p.ticks);
      left = record {
        bytes = ap (λ m. m.bytes) c.skip-mask.ensures ∙ ap (drop 8) (e.same.bytes ∙ left.bytes) ∙ drop-drop 8 (8 * c.blocks-2.block) c.args.mask.bytes ∙ ap (λ n. drop n c.args.mask.bytes) next;
        from = ap (λ m. m.from) c.skip-mask.ensures;
      };
      stored = ap (λ m. m.stored) c.skip-mask.ensures ∙ (let used = e.used in let kept = p.stored in let was = i.stored in grind (arith, nat_tests, used, kept, was, lanes, p.left));
      more = omega (arith, c.if-valid-block.false);
    }

pub returns : goal.returns
returns g c = elim c.blocks-2-test.branch [
  | else-blocks-2-test w ↦ absurd (omega (arith, w.blocks-2-test.false, c.blocks-2.invariant.more, c.requires.1))
  | then-blocks-2-test+then-valid-block w ↦
      let i = c.blocks-2.invariant in let p = w.pay_block.ensures in
      let lanes = paid-lanes (mode_numbered g.row.MODE) i.left p.same in
      let piece = c.shorten_vector-pieces.ensures (c.blocks-2.block / 2) (omega (arith, w.blocks-2-test.true)) in let half = block-half c.args.src.now c.args.at c.blocks-2.block _ w.half-eight.result piece w.half-eight.ensures.block in
      let b = blocks-next c.requires.0 c.requires.5 c.blocks-2.block i.more (paid-left i.left p.same) refl i.so_far w.half-eight.result (λ (i : ℕ). (c.type_inv.src i).fits) half w.put_block-end.ensures.block (rw (sym lanes) at p.left) (rw (sym lanes) at p.ticks) in
      let over : c.args.valid ≤ 8 * (c.blocks-2.block + 1) = omega (arith, w.if-valid-block.true) in
      rw (w.target-is, w.end-is, w.block-is, w.ticks-is) (record { stretch = done-stretch c.requires.0 c.requires.5 b over; stored = done-stored c.requires.0 c.requires.5 b over; ticks = done-ticks c.requires.0 c.requires.5 b over })
]
