use Rattle.escape_simd.proofs.Words.{ℕ, List, ap, arith, length, mode_numbered, rules, take, take-append-drop, ◌∙◌, ◌≡◌, ◌++◌, ◌≤◌, inner, vec_len}
use Rattle.std.proofs.lemmas.Str.{IsCharBoundary-start}
use Rattle.escape_simd.proofs.OutputLemmas.{inner-append}
use Rattle.escape_simd.proofs.Parts.{given-back, piece-on}
use Rattle.escape_simd.proofs.Pieces.{cut-forward, cut-text}
use Rattle.escape_simd.proofs.Texts.{length-inner}
use Rattle.escape_simd.proofs.output.in_place.append_in_place.Goals as goal

pub push_quote-requires : goal.push_quote-requires
push_quote-requires g c = grind (arith, length-inner (mode_numbered g.row.MODE) c.pieces.rest.now)

pub pieces-smaller : goal.pieces-smaller
pieces-smaller g c =
    let rest : List ℕ = c.pieces.rest.now in let utf8 = c.pieces.invariant.utf8 in
    let forward = cut-forward rest 0 2048 c.floor_char_boundary.result utf8 (IsCharBoundary-start rest utf8) (omega (arith, c.pieces-test.true)) (λ n few within. omega (arith, few)) c.floor_char_boundary.ensures.nearest in
    omega (arith, forward, c.split_at.ensures.back_len)

pub pieces-preserved : goal.pieces-preserved
pieces-preserved g c =
    let mode = mode_numbered g.row.MODE in let rest : List ℕ = c.pieces.rest.now in let piece : List ℕ = c.as_bytes.result.now in let behind : List ℕ = c.split_at.result.1.now in
    let s = c.split_at.ensures in let w = c.escape_to_slice-end.ensures in let l = length-inner mode piece in let len = ap length c.as_bytes.ensures.value in
    let all : rest ≡ piece ++ behind = grind (arith, take-append-drop c.floor_char_boundary.result rest, s.front, s.back, c.as_bytes.ensures.value) in
    let joined : inner mode rest ≡ inner mode piece ++ inner mode behind = inner-append mode rest piece behind all (cut-text mode piece c.as_bytes.ensures.utf8) in
    let on = piece-on c.pieces.dst.items c.fill.new.dst.items c.escape_to_slice-end.new.dst (inner mode piece) (inner mode behind) (inner mode rest) _ c.pieces.end _ c.escape_to_slice-end.result c.pieces.invariant.fits c.fill.ensures.front
    (w.written ∙ ap (λ xs. take c.pieces.end xs ++ inner mode piece) c.deref_mut.ensures.value) joined c.pieces.invariant.written in
    let fits : c.escape_to_slice-end.result ≤ vec_len c.fill.new.dst = search (rules, l, w, len) in
    record { utf8 = search rules; fits = fits; room = search (rules, l, w, len, s); written = ap (λ xs. xs ++ inner mode behind) (given-back c.escape_to_slice-end.new.dst c.fill.new.dst.items c.escape_to_slice-end.result _ (c.escape_to_slice-end.auto.dst ∙ ap length c.deref_mut.ensures.value) (search rules) fits) ∙ on }
