use Rattle.std.proofs.Common.{arith}
use Rattle.std.proofs.lemmas.List.{drop-drop}
use Rattle.escape_simd.proofs.Words.{◌-◌, rules, length-append, length-take-le, vec_len, IsFront, length-drop, slice_range, take_all, ◌≡◌, ℕ, List, [], ◌+◌, ◌*◌, ◌≤◌, ◌++◌, refl, sym, ◌∙◌, ap, append-nil, length, take, take-add, drop, mode_numbered}
use Rattle.escape_simd.proofs.Lanes.{mask-clean}
use Rattle.escape_simd.proofs.Parts.{clean-four, copied-front, copied-on, front-more, front-rest}
use Rattle.escape_simd.proofs.output.bytes.append_long.Goals as goal

-- four vectors in turn are the bytes of a chunk
four-taken : (n at : ℕ) (src all a b c d : List ℕ) → all ≡ a ++ (b ++ (c ++ (d ++ []))) → a ≡ take n (drop at src) → b ≡ take n (drop (at + n) src) → c ≡ take n (drop (at + 2 * n) src) → d ≡ take n (drop (at + 3 * n) src) → all ≡ take (4 * n) (drop at src)
four-taken n at src all a b c d flat is_a is_b is_c is_d =
    let text = drop at src in
    let whole : take (4 * n) text ≡ take (n + (n + (n + n))) text = ap (λ k. take k text) (omega arith) in
    grind (arith, append-nil, flat, whole, is_a, is_b, is_c, is_d, take-add n (n + (n + n)) text, take-add n (n + n) (drop n text), take-add n n (drop n (drop n text)), drop-drop n at src, drop-drop n n text, drop-drop n (n + n) text, drop-drop (n + n) at src, drop-drop (n + (n + n)) at src)

pub chunks-preserved : goal.chunks-preserved
chunks-preserved g c =
    let mode = mode_numbered g.row.MODE in let src : List ℕ = c.as_bytes-text.result.now in let at : ℕ = c.chunks.at in let i = c.chunks.invariant in let four = c.classify_four-clear.ensures in
    let inside : at + 128 ≤ length src = omega (arith, i.front.inside, c.chunks-test.true) in
    let clean = clean-four mode 32 src at inside four.first four.second four.third four.fourth four.clear c.if-not-clear.false in
    let rows : c.as_flattened.result.now ≡ take 128 (drop at src) = four-taken 32 at src _ _ _ _ _ c.as_flattened.ensures.value c.lanes_at.ensures c.lanes_at-in-chunks.ensures c.lanes_at-in-chunks-2.ensures c.lanes_at-in-chunks-3.ensures in
    record {
      front = front-more mode src 0 at 128 i.front inside clean;
      copied = copied-on src c.args.dst.now.items c.chunks.dst.items c.push_all.new.dst.items at 128 128 i.copied refl (c.push_all.ensures.items ∙ ap (λ xs. c.chunks.dst.items ++ xs) rows);
      capacity = omega (arith, i.capacity, c.push_all.ensures.capacity);
    }

pub vectors-preserved : goal.vectors-preserved
vectors-preserved g c =
    let mode = mode_numbered g.row.MODE in let src : List ℕ = c.as_bytes-text.result.now in let at : ℕ = c.vectors.at in let i = c.vectors.invariant in
    let inside : at + 32 ≤ length src = omega (arith, i.front.inside, c.vectors-test.true) in
    let clean = mask-clean mode src at 32 _ c.classify.ensures.told inside (sym c.is_clear.ensures ∙ c.if-not-is_clear.false) in
    record {
      front = front-more mode src 0 at 32 i.front (omega (arith, inside)) clean;
      copied = copied-on src c.args.dst.now.items c.vectors.dst.items c.push_all-in-vectors.new.dst.items at 32 32 i.copied refl (c.push_all-in-vectors.ensures.items ∙ ap (λ xs. c.vectors.dst.items ++ xs) c.lanes_at-in-vectors.ensures);
      capacity = omega (arith, i.capacity, c.push_all-in-vectors.ensures.capacity);
    }

pub append_in_place-requires : goal.append_in_place-requires
append_in_place-requires g c =
    let i = c.vectors.invariant in let long : vec_len c.vectors.dst ≡ length c.vectors.dst.items = search rules in let was : vec_len c.args.dst.now ≡ length c.args.dst.now.items = search rules in
    let more = ap length i.copied ∙ length-append c.args.dst.now.items (take c.vectors.at c.as_bytes-text.result.now) in
    omega (arith, c.requires, i.capacity, i.front.inside, long, was, more, length-take-le c.vectors.at c.as_bytes-text.result.now i.front.inside, c.as_bytes-text.ensures.len, c.split_at.ensures, c.floor_char_boundary.ensures.bound, c.truncate.ensures.len, c.truncate.ensures.capacity, c.len.ensures)

pub returns-then-not-is_clear : goal.returns-then-not-is_clear
returns-then-not-is_clear g c =
    let i = c.vectors.invariant in let text : List ℕ = c.as_bytes-text.result.now in let old : List ℕ = c.args.dst.now.items in let from : ℕ = c.floor_char_boundary.result in let same = c.as_bytes-text.ensures.value in
    let front : IsFront (mode_numbered g.row.MODE) text 0 from = record { forward = omega arith; inside = omega (arith, i.front.inside, c.floor_char_boundary.ensures.bound); clean = λ k after before. i.front.clean k after (omega (arith, before, c.floor_char_boundary.ensures.bound)) } in
    let long : vec_len c.vectors.dst ≡ length c.vectors.dst.items = search rules in let more = ap length i.copied ∙ length-append old (take c.vectors.at text) in
    let copied = copied-front text old c.vectors.dst.items c.vectors.at from _ i.copied c.floor_char_boundary.ensures.bound (omega (arith, c.len.ensures, long, more, length-take-le c.vectors.at text i.front.inside, c.split_at.ensures.front_len, c.floor_char_boundary.ensures.bound)) in
    rw same at (front-rest (mode_numbered g.row.MODE) text old c.truncate.new.self.items c.append_in_place.new.dst.items c.split_at.result.1.now from front (c.truncate.ensures.items ∙ copied) (c.split_at.ensures.back ∙ ap (drop from) (sym same)) c.append_in_place.ensures)

pub returns : goal.returns
returns g c =
    let i = c.vectors.invariant in let text : List ℕ = c.as_bytes-text.result.now in
    let rest : slice_range text c.vectors.at (length text) ≡ drop c.vectors.at text = take_all (length text - c.vectors.at) (drop c.vectors.at text) (omega (arith, length-drop c.vectors.at text)) in
    rw c.as_bytes-text.ensures.value at (front-rest (mode_numbered g.row.MODE) text c.args.dst.now.items c.vectors.dst.items c.append_last.new.dst.items _ c.vectors.at i.front i.copied rest c.append_last.ensures)
