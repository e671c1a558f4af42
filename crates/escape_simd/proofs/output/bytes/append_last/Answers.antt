use Rattle.escape_simd.proofs.Words.{◌≡◌, ℕ, ◌+◌, ◌-◌, List, ◌++◌, and_parts, length, take, drop, sym, ap, ◌∙◌, arith, take_all, mode_numbered, append-nil, inner}
use Rattle.std.proofs.lemmas.List.{nil_from_length}
use Rattle.escape_simd.proofs.ReplacementLemmas.{inner-nil}
use Rattle.escape_simd.proofs.Parts.{marked, tail-itself, vector-front, vector-over}
use Rattle.escape_simd.proofs.output.bytes.append_last.Goals as goal

pub returns-then-count-eq0 : goal.returns-then-count-eq0
returns-then-count-eq0 g c =
    let mode = mode_numbered g.row.MODE in let text : List ℕ = c.args.text.now in let old : List ℕ = c.args.dst.now.items in
    let none = nil_from_length text (omega (arith, c.if-count-eq0.true)) in
    marked mode text old old c.push_quote.new.dst.items (sym (ap (λ xs. old ++ inner mode xs) none ∙ ap (λ xs. old ++ xs) (inner-nil mode) ∙ append-nil old)) c.push_quote.ensures.items

pub returns-then-are_clear : goal.returns-then-are_clear
returns-then-are_clear g c =
    let mode = mode_numbered g.row.MODE in let text : List ℕ = c.args.text.now in let old : List ℕ = c.args.dst.now.items in let len : ℕ = c.len-len.result in
    let none = and_parts _ _ (sym c.are_clear.ensures ∙ c.if-are_clear.true) in let itself = tail-itself mode 32 text c.classify_short-masks.ensures.masks none.0 none.1 in
    marked mode text old c.truncate.new.self.items c.push_quote-then-are_clear.new.dst.items
    (c.truncate.ensures.items ∙ ap (take (len + length text)) c.push_all.ensures.items ∙ vector-front old text _ 32 len (omega (arith, c.len-len.ensures)) (c.lanes.ensures ∙ c.classify_short-masks.ensures.loaded) ∙ ap (λ xs. old ++ xs) (sym itself))
    c.push_quote-then-are_clear.ensures.items

pub returns-then-are_clear-2 : goal.returns-then-are_clear-2
returns-then-are_clear-2 g c =
    let mode = mode_numbered g.row.MODE in let text : List ℕ = c.args.text.now in let old : List ℕ = c.args.dst.now.items in
    let len : ℕ = c.len-len.result in let last : ℕ = length text - 32 in
    let all : last + 32 ≡ length text = omega (arith, c.if-count-lt-N.false) in
    let none = and_parts _ _ (sym c.are_clear-else-count-lt-N.ensures ∙ c.if-are_clear-2.true) in let itself = tail-itself mode 32 text c.classify_pair-masks.ensures.masks none.0 none.1 in
    marked mode text old c.push_all-then-are_clear-2-2.new.dst.items c.push_quote-then-are_clear-2.new.dst.items
    (c.push_all-then-are_clear-2-2.ensures.items
    ∙ ap (λ xs. c.truncate-then-are_clear-2.new.self.items ++ xs) c.lanes_at-then-are_clear-2.ensures
    ∙ ap (λ xs. xs ++ take 32 (drop last text)) c.truncate-then-are_clear-2.ensures.items
    ∙ vector-over old text c.push_all-then-are_clear-2.new.dst.items len last 32 32 (omega (arith, c.len-len.ensures)) (omega (arith, c.requires.few)) (c.push_all-then-are_clear-2.ensures.items ∙ ap (λ xs. old ++ xs) c.lanes_at.ensures)
    ∙ ap (λ xs. old ++ xs) (take_all (last + 32) text (omega (arith, all)) ∙ sym itself))
    c.push_quote-then-are_clear-2.ensures.items
