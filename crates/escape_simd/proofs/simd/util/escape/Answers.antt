use Rattle.escape_simd.proofs.Words.{◌≡◌, ℕ, ◌+◌, true, ◌==◌, List, length, take, drop, get_or, codes, if◌then◌else◌, refl, sym, ap, ◌∙◌, arith, script, entry_count, padded, mode_numbered, begins_separator, source_len, first_replacement}
use Rattle.escape_simd.proofs.ReplacementLemmas.{length-replacement}
use Rattle.escape_simd.proofs.Stretches.{escaped_unit, ended}
use Rattle.escape_simd.proofs.Escapes.{entry-counts, entry-front, entry-long, first-alone, third-at, third-inside, source_len-alone}
use Rattle.escape_simd.proofs.simd.util.escape.Goals as goal

-- the entry of a separator begins with what stands for it
separator-front : (src : List ℕ) (at third : ℕ) (entry : List ℕ) → begins_separator (drop at src) ≡ true → third ≡ get_or src (at + 2) 0
    → entry ≡ padded (if third == 0xa8 then codes "\\u2028" else codes "\\u2029")
    → (length entry ≡ 8) × (take 6 entry ≡ first_replacement script (drop at src))
separator-front src at third entry begins is e = grind (arith, third-at)

pub bounds-src-at : goal.bounds-src-at
bounds-src-at g c = third-inside c.args.src.now c.args.at (c.is_separator.ensures.begins c.if-is_separator.true).1

pub returns-then-is_separator : goal.returns-then-is_separator
returns-then-is_separator g c =
    let mode = mode_numbered g.row.MODE in let src : List ℕ = c.args.src.now in let at : ℕ = c.args.at in let e = c.escape.ensures in
    let is = c.is_separator.ensures.begins c.if-is_separator.true in let third = is.0 in let begins = is.1 in
    let f = separator-front src at (get_or src (at + 2) 0) c.separator_entry.result.now begins refl c.separator_entry.ensures in
    let three : source_len mode (drop at src) ≡ 3 = ap (λ m. source_len m (drop at src)) third ∙ rw begins refl in
    let step : at + source_len mode (drop at src) ≡ at + 3 = ap (λ k. at + k) three in
    record {
      stretch =
          ended (escaped_unit mode src c.args.target.now c.escape.new.self at c.args.to c.separator_entry.result.now c.requires.flagged.0 c.requires.flagged.1 6 e.same_slice e.bytes c.requires.room f.0 (omega arith)
          (f.1 ∙ sym (ap (λ m. first_replacement m (drop at src)) third)) e.escaped e.stored e.quotes) step refl;
      place = sym step;
      stored = e.stored;
    }

pub returns : goal.returns
returns g c =
    let mode = mode_numbered g.row.MODE in let src : List ℕ = c.args.src.now in let at : ℕ = c.args.at in let e = c.escape-2.ensures in let b : ℕ = get_or src at 0 in
    let none = c.is_separator.ensures.none c.if-is_separator.false in
    let needed = c.requires.flagged.1 in let entry = c.entry-entry.ensures in
    let step : at + source_len mode (drop at src) ≡ at + 1 = ap (λ k. at + k) (source_len-alone mode src at none) in
    let six = (length-replacement mode b).1 in let count = entry.count ∙ entry-counts mode b needed in
    record {
      stretch =
          ended (escaped_unit mode src c.args.target.now c.escape-2.new.self at c.args.to c.entry-entry.result.now.1 c.requires.flagged.0 needed c.entry-entry.result.now.0 e.same_slice e.bytes c.requires.room (ap length entry.bytes ∙ entry-long mode b needed) (omega (arith, count, six))
          (ap (λ k. take k c.entry-entry.result.now.1) entry.count ∙ ap (take (entry_count mode b)) entry.bytes ∙ entry-front mode b needed ∙ sym (first-alone mode src at none)) e.escaped e.stored e.quotes) step refl;
      place = sym step;
      stored = e.stored;
    }
