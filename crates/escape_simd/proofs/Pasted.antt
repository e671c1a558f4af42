-- A vector escaped in blocks, block after block.
use Rattle.escape_simd.proofs.Words.{◌≡◌, ℕ, ◌+◌, ◌-◌, ◌*◌, ◌/◌, ◌<◌, ◌≤◌, min, Bool, true, false, cond, not, ◌&&◌, List, ◌++◌, length, take, drop, map, replicate, nat_eq, get_or, refl, sym, ap, ap₂, subst, ◌∙◌, arith, append_assoc, length-append, length-take-le, length-drop, drop-append-le, drop-map, take-append-le, replicate-append-replicate, paste, nat_tests, drop-drop, length-map, take-map, take-take, get_or-take, get_or-drop, get_or_past, clear_first, IsMaskOf, MaskOf, lanes_of_mask, mask_from, whole_mask, Mode, needs_escape, bytes_of, stored_of, Target, shortened, flag_count, flagged_blocks, put_apart, IsBlock, State, Stretch, HasBlocks, HasRoom, state, length-replicate, count_by-le-length}
use Rattle.escape_simd.proofs.Lanes.{HoldsFlags, mask-holds, mask-left}
use Rattle.escape_simd.proofs.RestSteps.{rest-between}
use Rattle.escape_simd.proofs.PutApart.{AreMarked, count-none, blocks-none, blocks-one, blocks-onward, length-put_apart, marked-apart}
use Rattle.escape_simd.proofs.Shortened.{KeepsClean}
use Rattle.escape_simd.proofs.Stretches.{pasted, ended, onward_at, room-on}

-- a vector is counted where there are no escapes
counted : (n : ℕ) → cond (nat_eq n 0) 1 0 ≡ 1 - n
counted n = grind (arith, nat_tests)

-- Eight bytes were written, of which the first k are the text's that are escaped: these are a stretch of it
block-stretch : {N : ℕ} (mode : Mode) → KeepsClean mode → (src : List ℕ) (old new : Target N) (at k to end : ℕ) (flags : List Bool) → length flags ≡ 8 → AreMarked mode flags k (drop at src) → 0 < k
    → IsBlock flags (map shortened (take 8 (drop at src))) old new to end → to + 16 ≤ length (bytes_of old) → Stretch mode 16 src old new (at, to) (at + k, to + (k + flag_count flags))
block-stretch mode clean src old new at k to end flags eight marked some w room =
    let bytes : List ℕ = map shortened (take 8 (drop at src)) in
    let fill : List ℕ = replicate (8 - flag_count flags) 0x5c in
    let full : length bytes ≡ length flags = length-map (take 8 (drop at src)) shortened ∙ length-take-le 8 (drop at src) (omega (arith, marked.inside)) ∙ sym eight in
    let long : length (put_apart flags bytes ++ fill) ≡ 16 =
    omega (arith, count_by-le-length (λ b. b) flags, length-put_apart flags bytes full, length-replicate {A = ℕ} (8 - flag_count flags) 0x5c, length-append (put_apart flags bytes) fill) in
    let apart = rw (eight, drop-drop k at src) at (marked-apart mode clean flags k (drop at src) fill marked) in
    let most : k + flag_count flags ≤ 16 = omega (arith, count_by-le-length (λ b. b) flags, marked.few) in
    let written : bytes_of new ≡ paste (bytes_of old) to (put_apart flags bytes ++ fill) 16 = rw long at w.written.bytes in
    pasted mode 16 src old new at (at + k) to (k + flag_count flags) (put_apart flags bytes ++ fill) 16 w.written.same_slice written room (omega (arith, long)) most (omega arith)
    (omega (arith, marked.few, marked.inside, length-drop at src)) apart.0 (omega arith) (omega (arith, w.written.escaped, apart.1)) (omega (arith, w.written.quotes))

-- A mask's first block

module _ {mode : Mode} {src : List ℕ} {at to size : ℕ} {mask : MaskOf} (is : IsMaskOf mask (take (length mask.bytes) (drop at src))) (h : HasBlocks mode src at (length mask.bytes) to size) where
  -- its flags
  abbrev flags : List Bool
  flags = take 8 (lanes_of_mask mode mask)

  held : HoldsFlags mode src at (length mask.bytes) at (lanes_of_mask mode mask)
  held = mask-holds mode src at (length mask.bytes) at mask is.bytes (omega (arith, h.inside)) (omega (arith, is.from))

  -- there are eight
  eight : length flags ≡ 8
  eight = length-take-le 8 (lanes_of_mask mode mask) (let none = is.from in let few = h.few in grind (arith, length-append, length-drop, length-map, length-replicate))

  -- each of them
  flag : (i : ℕ) → get_or flags i false ≡ true → (i < 8) × (get_or (lanes_of_mask mode mask) i false ≡ true)
  flag i s = let l : i < 8 = grind (arith, nat_tests, get_or_past, eight) in (l, sym (get_or-take 8 (lanes_of_mask mode mask) i false l) ∙ s)

  -- they are those of the text's bytes
  block-marked : ((i : ℕ) → get_or src i 0 < 256) → AreMarked mode flags (min 8 (length mask.bytes)) (drop at src)
  block-marked bytes = record {
    few = omega (arith, eight);
    inside = omega (arith, eight, length-drop at src, h.inside);
    bytes = λ i. rw (get_or-drop at src i 0) (bytes (at + i));
    set = λ i s. let l = flag i s in let t = held.set i l.1 in rw (get_or-drop at src i 0) (omega (arith, l, t), t.1);
    short = λ i s. let l = flag i s in let t = held.set i l.1 in rw (get_or-drop at src i 0) (h.short i t.0 t.1);
    unset = λ i l c. rw (get_or-drop at src i 0) (held.unset i (sym (get_or-take 8 (lanes_of_mask mode mask) i false (omega (arith, l))) ∙ c) (omega arith) (omega (arith, l)));
  }

  -- the block has room
  pub block-room : to + 16 ≤ size
  block-room = omega (arith, rest-between mode src at (at + length mask.bytes) (omega arith) (omega (arith, h.inside)), h.room.fits, h.some)

  -- it was escaped
  block-escaped : {N : ℕ} {old new : Target N} {end : ℕ} (v : List ℕ) → ((i : ℕ) → get_or src i 0 < 256) → size ≡ length (bytes_of old) → take 8 v ≡ take 8 (map shortened (take 16 (drop at src))) → IsBlock flags (take 8 v) old new to end
      → Stretch mode 16 src old new (at, to) (at + min 8 (length mask.bytes), end - (8 - min 8 (length mask.bytes)))
  block-escaped {N} {old} {new} {end} v bytes size_is shorter w =
      let half : take 8 v ≡ map shortened (take 8 (drop at src)) = shorter ∙ take-map shortened 8 (take 16 (drop at src)) ∙ ap (map shortened) (take-take 8 16 (drop at src) (omega arith)) in
      ended (block-stretch mode h.kept src old new at (min 8 (length mask.bytes)) to end flags eight (block-marked bytes) (omega (arith, h.some)) (rw half at w) (omega (arith, block-room, size_is))) refl (omega (arith, w.after))

-- paid for or not, it tells the same
pub paid-left : {mask paid : MaskOf} {bytes : List ℕ} → IsMaskOf mask bytes → IsMaskOf paid mask.bytes → IsMaskOf paid bytes
paid-left left same = record { bytes = same.bytes ∙ left.bytes; from = same.from }

pub paid-lanes : (mode : Mode) {mask paid : MaskOf} {bytes : List ℕ} → IsMaskOf mask bytes → IsMaskOf paid mask.bytes → lanes_of_mask mode paid ≡ lanes_of_mask mode mask
paid-lanes mode left same = ap₂ (λ bytes from. lanes_of_mask mode (mask_from bytes from 0)) same.bytes (same.from ∙ sym left.from)

-- Block after block

-- Of a text's `valid` bytes, with these flags, those of so many blocks were escaped, and the blocks end at the new state's places. The
-- last one may have more bytes. A block without a flag counts as a vector. It was classified, but for the first, for which the
-- vector's own classification is unused until then.
pub record BlocksSoFar {N : ℕ} (mode : Mode) (src : List ℕ) (bits : List Bool) (valid blocks : ℕ) (unused : Bool) (old new : State N) : Type 0 where
  pub stretch : Stretch mode 16 src old.target new.target (old.at, old.to) (min new.at (old.at + valid), new.to - (new.at - (old.at + valid)))
  pub far : old.to + 8 * blocks ≤ new.to
  pub stored : stored_of new.target + flagged_blocks blocks bits ≡ stored_of old.target + blocks
  pub few : blocks ≤ (valid + 7) / 8
  pub none : unused ≡ true → stored_of new.target ≡ stored_of old.target
  pub some : unused ≡ false → stored_of old.target + 1 ≤ stored_of new.target
  pub counted : new.ticks + cond unused 0 1 + stored_of old.target ≡ old.ticks + stored_of new.target

module _ {mode : Mode} {src : List ℕ} {at valid to size : ℕ} {whole : MaskOf} (is : whole ≡ whole_mask (take valid (drop at src))) (h : HasBlocks mode src at valid to size) where
  -- the flags
  abbrev all : List Bool
  all = lanes_of_mask mode whole

  -- the mask of the bytes from a block on
  module _ (block : ℕ) (more : 8 * block < valid) {mask : MaskOf} (left : IsMaskOf mask (drop (8 * block) whole.bytes)) where
    -- it tells of the text's bytes
    pub left-told : mask.bytes ≡ take (valid - 8 * block) (drop (at + 8 * block) src)
    left-told = left.bytes ∙ ap (λ m. drop (8 * block) m.bytes) is ∙ ap (λ m. m.bytes) (mask-left src at valid (8 * block) (omega (arith, more)))

    -- of so many
    pub left-long : length mask.bytes ≡ valid - 8 * block
    left-long = ap length left-told ∙ length-take-le (valid - 8 * block) (drop (at + 8 * block) src) (omega (arith, length-drop (at + 8 * block) src, h.inside, more))

    -- these are all of its bytes
    left-is : IsMaskOf mask (take (length mask.bytes) (drop (at + 8 * block) src))
    left-is = record { bytes = left-told ∙ ap (λ n. take n (drop (at + 8 * block) src)) (sym left-long); from = left.from }

    -- its first eight are the block's
    left-eight : take 8 (lanes_of_mask mode mask) ≡ take 8 (drop (8 * block) all)
    left-eight =
        let f = map (needs_escape mode) whole.bytes in let long : length whole.bytes ≡ valid = ap (λ m. length m.bytes) is ∙ length-take-le valid (drop at src) (omega (arith, length-drop at src, h.inside)) in
        let first = ap (λ m. m.from) is in
        let part : drop (8 * block) (f ++ replicate (64 - length whole.bytes) false) ≡ drop (8 * block) f ++ replicate (64 - length whole.bytes) false = drop-append-le (8 * block) f _ (omega (arith, length-map whole.bytes (needs_escape mode), long, more)) in
        let count : 64 - length whole.bytes + 8 * block ≡ 64 - length (drop (8 * block) whole.bytes) = omega (arith, length-drop (8 * block) whole.bytes, long, h.few, more) in
        let wide : 8 ≤ length (drop (8 * block) f ++ replicate (64 - length whole.bytes) false) =
        omega (arith, length-append (drop (8 * block) f) (replicate (64 - length whole.bytes) false), length-drop (8 * block) f, length-map whole.bytes (needs_escape mode), length-replicate {A = Bool} (64 - length whole.bytes) false, long, h.few, more) in
        ap₂ (λ bytes from. take 8 (lanes_of_mask mode (mask_from bytes from 0))) left.bytes left.from
        ∙ ap (λ xs. take 8 (xs ++ replicate (64 - length (drop (8 * block) whole.bytes)) false)) (sym (drop-map (needs_escape mode) (8 * block) whole.bytes))
        ∙ ap (λ n. take 8 (drop (8 * block) f ++ replicate n false)) (sym count)
        ∙ ap (λ xs. take 8 (drop (8 * block) f ++ xs)) (sym (replicate-append-replicate (64 - length whole.bytes) (8 * block) false))
        ∙ ap (take 8) (sym (append_assoc (drop (8 * block) f) (replicate (64 - length whole.bytes) false) (replicate (8 * block) false)))
        ∙ take-append-le 8 (drop (8 * block) f ++ replicate (64 - length whole.bytes) false) (replicate (8 * block) false) wide
        ∙ ap (take 8) (sym part) ∙ ap (λ n. take 8 (drop (8 * block) (clear_first n (f ++ replicate (64 - length whole.bytes) false)))) (sym first)

    module _ {N : ℕ} {old mid : Target N} {p t0 t1 : ℕ} {unused : Bool} (size_is : size ≡ length (bytes_of old)) (b : BlocksSoFar mode src all valid block unused (state old at to t0) (state mid (at + 8 * block) p t1)) where
      -- all of it is a stretch
      left-stretch : Stretch mode 16 src old mid (at, to) (at + 8 * block, p)
      left-stretch = ended b.stretch (omega (arith, more)) (omega (arith, more))

      -- it can be escaped by blocks
      left-blocks : HasBlocks mode src (at + 8 * block) (length mask.bytes) p (length (bytes_of mid))
      left-blocks =
          let stop : at + valid ≡ at + 8 * block + length mask.bytes = omega (arith, left-long, more) in
          let room = subst (λ i. HasRoom mode 16 src (at + 8 * block) i p (length (bytes_of mid))) stop (room-on left-stretch (subst (λ n. HasRoom mode 16 src at (at + valid) to n) size_is h.room)) in
          record {
            some = omega (arith, left-long, more);
            short = λ k few needed. let e : at + (8 * block + k) ≡ at + 8 * block + k = omega arith in rw e at (h.short (8 * block + k) (omega (arith, few, left-long)) (rw (sym e) at needed));
            kept = h.kept;
            few = omega (arith, left-long, h.few);
            inside = omega (arith, left-long, h.inside, more);
            room = room;
          }

      -- the first of them has room
      pub left-room : p + 16 ≤ length (bytes_of mid)
      left-room = block-room left-is left-blocks

      -- with it one more is done
      pub blocks-next : {new : Target N} {end t2 : ℕ} {unused2 : Bool} (v : List ℕ) → ((i : ℕ) → get_or src i 0 < 256) → take 8 v ≡ take 8 (map shortened (take 16 (drop (at + 8 * block) src))) → IsBlock (take 8 (lanes_of_mask mode mask)) (take 8 v) mid new p end → unused2 ≡ (unused && not (nat_eq (flag_count (take 8 (lanes_of_mask mode mask))) 0))
          → t2 ≡ t1 + cond (not unused && nat_eq (flag_count (take 8 (lanes_of_mask mode mask))) 0) 1 0 → BlocksSoFar mode src all valid (block + 1) unused2 (state old at to t0) (state new (at + 8 * (block + 1)) end t2)
      blocks-next {new = new} v bytes shorter w u t =
          let one = blocks-one (lanes_of_mask mode mask) in let first = blocks-one (drop (8 * block) all) in
          let step = block-escaped left-is left-blocks v bytes refl shorter w in
          let stored : stored_of new + flagged_blocks 1 (lanes_of_mask mode mask) ≡ stored_of mid + 1 = omega (arith, w.written.stored, counted (flag_count (take 8 (lanes_of_mask mode mask))), one) in record {
            stretch = ended (onward_at left-stretch step refl refl) (omega (arith, more, left-long)) (omega (arith, left-long, more, w.after));
            far = omega (arith, b.far, w.after);
            stored = omega (arith, b.stored, stored, blocks-onward block 1 all, first, one, ap flag_count left-eight);
            few = omega (arith, more);
            none = grind (arith, nat_tests, stored, one, u, t, b.none, b.some, b.counted);
            some = grind (arith, nat_tests, stored, one, u, t, b.none, b.some, b.counted);
            counted = grind (arith, nat_tests, stored, one, u, t, b.none, b.some, b.counted);
          }

  -- the last block
  module _ {N : ℕ} {old new : Target N} {end blocks t0 t1 : ℕ} {unused : Bool} (b : BlocksSoFar mode src all valid blocks unused (state old at to t0) (state new (at + 8 * blocks) end t1)) (over : valid ≤ 8 * blocks) where
    -- all of it is a stretch
    pub done-stretch : Stretch mode 16 src old new (at, to) (at + valid, end - (8 * blocks - valid))
    done-stretch = ended b.stretch (omega (arith, over)) (omega (arith, over))

    -- no block after it has a flag
    pub done-stored : stored_of new + flagged_blocks 8 all ≡ stored_of old + (valid + 7) / 8
    done-stored =
        let left : List Bool = drop (8 * blocks) all in
        let held = mask-holds mode src at valid at whole (ap (λ m. m.bytes) is) (omega (arith, h.inside)) (omega (arith, ap (λ m. m.from) is)) in
        let none = count-none left (λ i s. absurd (let t = held.set (8 * blocks + i) (sym (get_or-drop (8 * blocks) all i false) ∙ s) in omega (arith, t, over))) in
        let eight : blocks + (8 - blocks) ≡ 8 = omega (arith, b.few, h.few) in
        omega (arith, b.stored, b.few, over, blocks-none (8 - blocks) left none, rw eight at (blocks-onward blocks (8 - blocks) all))

    -- each of them but the first was classified
    pub done-ticks : t1 ≡ t0 + ((valid + 7) / 8 - (flagged_blocks 8 all + 1))
    done-ticks = grind (arith, nat_tests, b.counted, b.some, b.none, done-stored)
